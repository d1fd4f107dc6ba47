-- After encode_antecedent: the rule's answer and its state, by the code's answer. Assumes nothing.
use Rattle.std.specs.Prelude.{◌≡◌, refl, List, ℕ, suc, ◌<◌}
use Rattle.std.proofs.Common.{sym, ap, subst, ◌∙◌, arith}
use Rattle.std.proofs.Math.Option.{Option, none, some}
use Rattle.std.specs.Prelude as Code
use Rattle.ir.specs.declared.counters.Counters.{Counters}
use Rattle.ir.specs.Encoded.{Encoded, encoded}
use Rattle.ir.specs.Encoded.{Found, Unsupported, Refused}
use Rattle.ir.specs.declared.answer.Alternatives.{Alternatives as Counts}
use Rattle.rules.specs.Base.{Res, ok, refused}
use Rattle.rules.specs.Pool.{Pool}
use Rattle.rules.specs.Post.{Post, gives}
use Rattle.rules.specs.State.{Rooms, Env, Out}
use Rattle.rules.specs.Antecedents.{Alternatives, encode_by}
use Rattle.pool.specs.Layout.{pool_of}
use Rattle.tables.specs.Drawn.{tables, show}
use Rattle.tables.specs.Good.{Good, Alike}
use Rattle.hands.specs.Hands.{EnvIn}
use Rattle.leaves.specs.StepLaws.{show_alike, visits_are, limit_is, var_is_lem}
use Rattle.antecedents.specs.States.{Counted, varied, summary}
use Rattle.antecedents.specs.PickLaws.{fine_counted}
use Rattle.antecedents.specs.Counts.{GoodEncoded}
use Rattle.disjointness.specs.Turns.{Has}
use Rattle.axioms.specs.QuietLaws.{Quiet, encode_quiet, drawn_quiet}
use Rattle.axioms.specs.MemberLaws.{FoundIs, found_is, alike_varied, AlikeEncoded}

-- what encode_antecedent promises of its answer r
abbrev pub Tells : List ℕ → Counters → ℕ → Encoded → Type 0
Tells w k c r = (env : Env) (f v : ℕ) (s : Out) → c < f → Counted k s → r ≡ summary k (encode_by env (pool_of w k.concepts) f c v s)

-- the code's counters n are those of the rule's state
pub record Ended (k n : Counters) (X : Res Out (Option Alternatives)) : Type 0 where
  pub value : Option Alternatives
  pub end : Out
  pub is : X ≡ ok value end
  pub counters : n ≡ varied k end

abbrev pub found_ended : (k n : Counters) (count : ℕ) (X : Res Out (Option Alternatives)) → FoundIs k n count X → Ended k n X
found_ended k n count X F = record { value = some F.alternatives; end = F.end; is = F.is; counters = F.counters }

pub record NoneIs (k n : Counters) (X : Res Out (Option Alternatives)) : Type 0 where
  pub end : Out
  pub is : X ≡ ok none end
  pub counters : n ≡ varied k end

pub none_is : (k n : Counters) (X : Res Out (Option Alternatives)) → Unsupported n ≡ summary k X → NoneIs k n X
none_is k n (ok (some l) t) e = absurd (let z : ◌≡◌ {A = ℕ} 0 1 = cc in omega arith)
none_is k n (ok none t) e = record { end = t; is = refl; counters = cc }
none_is k n (refused x) e = absurd (let z : ◌≡◌ {A = ℕ} 0 1 = cc in omega arith)

abbrev pub none_ended : (k n : Counters) (X : Res Out (Option Alternatives)) → NoneIs k n X → Ended k n X
none_ended k n X F = record { value = none; end = F.end; is = F.is; counters = F.counters }

pub refused_is : (k : Counters) (n : ℕ) (X : Res Out (Option Alternatives)) → Refused n ≡ summary k X → X ≡ refused n
refused_is k n (ok (some l) t) e = absurd (let z : ◌≡◌ {A = ℕ} 0 1 = cc in omega arith)
refused_is k n (ok none t) e = absurd (let z : ◌≡◌ {A = ℕ} 0 1 = cc in omega arith)
refused_is k n (refused x) e = let y : n ≡ x = cc in rw y refl

-- what an answer says of the rule's
abbrev pub as_found : (k n : Counters) (count j : ℕ) (r : Encoded) → r ≡ Found n count j → (X : Res Out (Option Alternatives)) → r ≡ summary k X → Ended k n X
as_found k n count j r q X e = found_ended k n count X (found_is k n count j X (sym q ∙ e))

abbrev pub as_none : (k n : Counters) (r : Encoded) → r ≡ Unsupported n → (X : Res Out (Option Alternatives)) → r ≡ summary k X → Ended k n X
as_none k n r q X e = none_ended k n X (none_is k n X (sym q ∙ e))

-- with alternatives or without
pub ended_ok : (k n : Counters) (o : Code.Option Counts) (X : Res Out (Option Alternatives)) → encoded n (Code.Ok o) ≡ summary k X → Ended k n X
ended_ok k n (Code.Some p) X e = as_found k n p.count p.longest (Found n p.count p.longest) refl X e
ended_ok k n Code.None X e = as_none k n (Unsupported n) refl X e

pub alike_ok : (k n : Counters) (o : Code.Option Counts) → AlikeEncoded k (encoded n (Code.Ok o)) → Alike k n
alike_ok k n (Code.Some p) A = A
alike_ok k n Code.None A = A

pub good_ok : (n : Counters) (o : Code.Option Counts) → GoodEncoded (encoded n (Code.Ok o)) → Good n
good_ok n (Code.Some p) g = g
good_ok n Code.None g = g

-- ---- the state
pub counted_drawn : (k : Counters) (rooms : Rooms) (s : Out) (c a d : List ℕ) → tables k c a d ≡ show k rooms s → Counted k s
counted_drawn k rooms s c a d t = record { visits = visits_are k rooms s c a d t; limit = limit_is k rooms s c a d t; vars = var_is_lem k rooms s c a d t }

post_ok : {A : Type 0} (Q : A → Out → Type 0) (a : A) (s : Out) → Post Q (ok a s) → Q a s
post_ok Q a s (gives h) = h

pub ended_alike : (k n : Counters) (X : Res Out (Option Alternatives)) → Ended k n X → Alike k n
ended_alike k n X N = alike_varied k n N.end N.counters

pub ended_drawn : (env : Env) (pool : Pool) (f i v : ℕ) (s : Out) (k n : Counters) (c a d : List ℕ) (N : Ended k n (encode_by env pool f i v s)) → tables k c a d ≡ show k env.rooms s
    → tables n c a d ≡ show n env.rooms N.end
ended_drawn env pool f i v s k n c a d N t =
    let Q : Quiet s N.end = post_ok (λ _ u. Quiet s u) N.value N.end (subst (Post (λ _ u. Quiet s u)) N.is (encode_quiet env pool f i v s)) in
    subst (λ (y : Counters). tables y c a d ≡ show k env.rooms N.end) (sym N.counters) (drawn_quiet k env.rooms s N.end c a d Q t)
    ∙ sym (show_alike k n env.rooms N.end (alike_varied k n N.end N.counters))

-- the answer, for the state that is drawn
pub told_drawn : (w : List ℕ) (k : Counters) (i : ℕ) (r : Encoded) → Tells w k i r → (env : Env) (s : Out) (c a d : List ℕ) → tables k c a d ≡ show k env.rooms s
    → r ≡ summary k (encode_by env (pool_of w k.concepts) (suc i) i 0 s)
told_drawn w k i r C env s c a d t = C env (suc i) 0 s (omega arith) (counted_drawn k env.rooms s c a d t)

-- the alternatives that were found; e: the counters that env was read by
abbrev pub found_has : (env : Env) (w : List ℕ) (e k n m : Counters) (i y count : ℕ) (s : Out) → EnvIn env e w → Alike e m → Good k → Counted k s → y ≡ s.next_var
    → FoundIs k n count (encode_by env (pool_of w e.concepts) (suc i) i 0 s) → Has env w m i y count
found_has env w e k n m i y count s R A g C b F = record {
  bound = suc i;
  start = s;
  alternatives = F.alternatives;
  end = F.end;
  encodes = record {
    roles = R.roles;
    first = A.nominals ∙ R.nominals;
    above = omega arith;
    begins = b;
    fine = fine_counted k s g C;
    encoded = ap (λ (o : ℕ). encode_by env (pool_of w o) (suc i) i 0 s) A.concepts ∙ F.is;
    long = F.long;
  };
}
