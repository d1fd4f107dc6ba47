-- What the numbers that encode_antecedent answers say of its rule. Assumes nothing.
use Rattle.std.specs.Prelude.{◌≡◌, refl, false, List, [], ℕ, suc, ◌<◌, length}
use Rattle.std.proofs.Common.{sym, ap, subst, ◌∙◌, arith}
use Rattle.std.proofs.Math.Option.{Option, none, some}
use Prim.{Unit, tt}
use Rattle.ir.specs.declared.counters.Counters.{Counters}
use Rattle.ir.specs.Encoded.{Encoded}
use Rattle.ir.specs.Encoded.{Found, Unsupported, Refused}
use Rattle.rules.specs.Base.{Res, ok}
use Rattle.rules.specs.Base as Base
use Rattle.rules.specs.Inverse.{InverseCanon}
use Rattle.rules.specs.State.{Env, Out, out}
use Rattle.rules.specs.Antecedents.{Alternatives, encode_by}
use Rattle.pool.specs.Layout.{pool_of}
use Rattle.inverse.specs.Layout.{RolesHeld}
use Rattle.tables.specs.Good.{Good, Alike}
use Rattle.antecedents.specs.States.{Counted, varied, summary}
use Rattle.antecedents.specs.PickLaws.{fine_counted}
use Rattle.axioms.specs.Bodies.{Sourced}

-- what encode_antecedent says of its answer
abbrev pub EncodedBy : List ℕ → Counters → ℕ → Encoded → Type 0
EncodedBy w k c r = (env : Env) (f v : ℕ) (s : Out) → c < f → Counted k s → r ≡ summary k (encode_by env (pool_of w k.concepts) f c v s)

-- alternatives were found
pub record FoundIs (k n : Counters) (count : ℕ) (X : Res Out (Option Alternatives)) : Type 0 where
  pub alternatives : Alternatives
  pub end : Out
  pub is : X ≡ ok (some alternatives) end
  pub counters : n ≡ varied k end
  pub long : count ≡ length alternatives

pub found_is : (k n : Counters) (count j : ℕ) (X : Res Out (Option Alternatives)) → Found n count j ≡ summary k X → FoundIs k n count X
found_is k n count j (ok (some l) t) e = record { alternatives = l; end = t; is = refl; counters = cc; long = cc }
found_is k n count j (ok none t) e = absurd (let z : ◌≡◌ {A = ℕ} 0 1 = cc in omega arith)
found_is k n count j (Base.refused x) e = absurd (let z : ◌≡◌ {A = ℕ} 0 1 = cc in omega arith)

pub alike_varied : (k n : Counters) (t : Out) → n ≡ varied k t → Alike k n
alike_varied k n t e = subst (Alike k) (sym e) (record { concepts = refl; members = refl; nominals = refl; options = refl })

-- an env and a state for counters that need one
abbrev some_env : Counters → InverseCanon → Env
some_env k canon = record { nominal_base = k.nominal_base; inverse_canon = canon; dkey_classes = []; card_disjunct_atoms = false; equal_names = false; rooms = record { clauses = 0; atoms = 0; deferrals = 0 } }

abbrev some_state : Counters → Out
some_state k = out k.visits k.limit k.next_var 0 [] [] 0 []

pub found_source : (w : List ℕ) (k n : Counters) (c count j : ℕ) (canon : InverseCanon) (r : Encoded) → RolesHeld w canon → Good k
    → EncodedBy w k c r → r ≡ Found n count j → Sourced w n c k.next_var count
found_source w k n c count j canon r R g e q =
    let C : Counted k (some_state k) = record { visits = refl; limit = refl; vars = refl } in
    let F = found_is k n count j (encode_by (some_env k canon) (pool_of w k.concepts) (suc c) c 0 (some_state k)) (sym q ∙ e (some_env k canon) (suc c) 0 (some_state k) (omega arith) C) in
    let A = alike_varied k n F.end F.counters in
    record {
      env = some_env k canon;
      bound = suc c;
      start = some_state k;
      alternatives = F.alternatives;
      end = F.end;
      encodes = record {
        roles = R;
        first = A.nominals;
        above = omega arith;
        begins = refl;
        fine = fine_counted k (some_state k) g C;
        encoded = ap (λ (p : ℕ). encode_by (some_env k canon) (pool_of w p) (suc c) c 0 (some_state k)) A.concepts ∙ F.is;
        long = F.long;
      };
    }

abbrev pub AlikeEncoded : Counters → Encoded → Type 0
AlikeEncoded k (Found n count j) = Alike k n
AlikeEncoded k (Unsupported n) = Alike k n
AlikeEncoded k (Refused e) = Unit {0}

summary_alike : (k : Counters) (X : Res Out (Option Alternatives)) → AlikeEncoded k (summary k X)
summary_alike k (ok (some l) t) = alike_varied k (varied k t) t refl
summary_alike k (ok none t) = alike_varied k (varied k t) t refl
summary_alike k (Base.refused x) = tt

pub encoded_alike : (w : List ℕ) (k : Counters) (c : ℕ) (r : Encoded) → EncodedBy w k c r → AlikeEncoded k r
encoded_alike w k c r e =
    subst (AlikeEncoded k) (sym (e (some_env k []) (suc c) 0 (some_state k) (omega arith) (record { visits = refl; limit = refl; vars = refl })))
    (summary_alike k (encode_by (some_env k []) (pool_of w k.concepts) (suc c) c 0 (some_state k)))
