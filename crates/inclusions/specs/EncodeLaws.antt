-- What encode_antecedent's answer says of the rule's, from a state whose variables begin again. Assumes nothing.
use Rattle.std.specs.Prelude.{◌≡◌, refl, List, [], ℕ, suc, ◌<◌}
use Rattle.std.proofs.Common.{sym, ap, subst, ◌∙◌, arith}
use Rattle.std.proofs.Math.Option.{Option, none, some}
use Rattle.words.specs.Words.{words}
use Rattle.ir.specs.Counts.{vars_restarted}
use Rattle.ir.specs.declared.counters.Counters.{Counters}
use Rattle.ir.specs.Encoded.{Encoded}
use Rattle.ir.specs.Encoded.{Found, Unsupported, Refused}
use Rattle.rules.specs.Base.{Res, ok, refused}
use Rattle.rules.specs.Post.{Post, gives}
use Rattle.rules.specs.State.{Env, Out, restarted}
use Rattle.rules.specs.Antecedents.{Alternatives, encode_by}
use Rattle.pool.specs.Layout.{pool_of}
use Rattle.pool.specs.Held.{Ready}
use Rattle.tables.specs.Drawn.{tables, show}
use Rattle.tables.specs.Good.{Good, Alike}
use Rattle.hands.specs.Hands.{four, EnvHeld}
use Rattle.leaves.specs.StepLaws.{alike_then, show_alike, visits_are, limit_is, var_is_lem}
use Rattle.antecedents.specs.States.{Counted, varied, summary}
use Rattle.antecedents.specs.Counts.{GoodEncoded}
use Rattle.antecedents.specs.PickLaws.{fine_counted}
use Rattle.axioms.specs.RoleLaws.{alike_restart, drawn_restarted, good_restart}
use Rattle.axioms.specs.Bodies.{Encodes, Sourced}
use Rattle.axioms.specs.BodyLaws.{encoding_kept}
use Rattle.axioms.specs.QuietLaws.{Quiet, encode_quiet, drawn_quiet}
use Rattle.axioms.specs.MemberLaws.{AlikeEncoded, found_is, encoded_alike, alike_varied, found_source}
use Rattle.axioms.specs.Wholes.{Clausifying}

-- what encode_antecedent promises of its answer
abbrev pub EncodedBy : List ℕ → Counters → ℕ → Encoded → Type 0
EncodedBy w k c r = (env : Env) (f v : ℕ) (s : Out) → c < f → Counted k s → r ≡ summary k (encode_by env (pool_of w k.concepts) f c v s)

-- counters that are those of a state
pub counted_drawn : (k : Counters) (env : Env) (s : Out) (c a d : List ℕ) → tables k c a d ≡ show k env.rooms s → Counted k s
counted_drawn k env s c a d t = record { visits = visits_are k env.rooms s c a d t; limit = limit_is k env.rooms s c a d t; vars = var_is_lem k env.rooms s c a d t }

-- the tables after visits and variables were taken
pub drawn_varied : (k n : Counters) (env : Env) (s t : Out) (c a d : List ℕ) → n ≡ varied k t → Quiet s t → tables k c a d ≡ show k env.rooms s → tables n c a d ≡ show n env.rooms t
drawn_varied k n env s t c a d q Q e =
    subst (λ (y : Counters). tables y c a d ≡ show k env.rooms t) (sym q) (drawn_quiet k env.rooms s t c a d Q e) ∙ sym (show_alike k n env.rooms t (alike_varied k n t q))

module _ (k k1 : Counters) (g : ℕ) (w c a d : List ℕ) (r : Encoded) (q1 : k1 ≡ vars_restarted k) (g1 : Good k1)
    (C : EncodedBy w k1 g r) where
  -- the rule's answer
  abbrev pub encoded_at : Env → Out → Res Out (Option Alternatives)
  encoded_at env s = encode_by env (pool_of w k.concepts) (suc g) g 0 (restarted s)

  A1 : Alike k k1
  A1 = alike_restart k k1 q1

  pub found_alike : (n : Counters) (count j : ℕ) → r ≡ Found n count j → Alike k n
  found_alike n count j e = alike_then k k1 n A1 (subst (AlikeEncoded k1) e (encoded_alike w k1 g r C))

  pub none_alike : (n : Counters) → r ≡ Unsupported n → Alike k n
  none_alike n e = alike_then k k1 n A1 (subst (AlikeEncoded k1) e (encoded_alike w k1 g r C))

  -- alternatives, with the state after them
  pub record FoundAt (env : Env) (s : Out) (n : Counters) (count : ℕ) : Type 0 where
    pub alternatives : Alternatives
    pub end : Out
    pub is : encoded_at env s ≡ ok (some alternatives) end
    pub drawn : tables n c a d ≡ show n env.rooms end
    pub encodes : Encodes env w n g 1 count (suc g) (restarted s) alternatives end
    pub limits : end.limits ≡ s.limits

  -- none
  pub record NoneAt (env : Env) (s : Out) (n : Counters) : Type 0 where
    pub end : Out
    pub is : encoded_at env s ≡ ok none end
    pub drawn : tables n c a d ≡ show n env.rooms end
    pub limits : end.limits ≡ s.limits

  module _ (env : Env) (s : Out) (E : EnvHeld env k (four w c a d)) (t : tables k c a d ≡ show k env.rooms s) where
    t1 : tables k1 c a d ≡ show k1 env.rooms (restarted s)
    t1 = drawn_restarted k k1 env.rooms s c a d q1 t

    counted : Counted k1 (restarted s)
    counted = counted_drawn k1 env (restarted s) c a d t1

    told : r ≡ summary k1 (encoded_at env s)
    told = C env (suc g) 0 (restarted s) (omega arith) counted ∙ ap (λ (n : ℕ). summary k1 (encode_by env (pool_of w n) (suc g) g 0 (restarted s))) A1.concepts

    ended : (o : Option Alternatives) (u : Out) → encoded_at env s ≡ ok o u → Quiet (restarted s) u
    ended o u e = go (subst (Post (λ _ v. Quiet (restarted s) v)) e (encode_quiet env (pool_of w k.concepts) (suc g) g 0 (restarted s)))
      where
        go : Post (λ _ v. Quiet (restarted s) v) (ok o u) → Quiet (restarted s) u
        go (gives Q) = Q

    pub found_at : (n : Counters) (count j : ℕ) → r ≡ Found n count j → FoundAt env s n count
    found_at n count j e =
        let F = found_is k1 n count j (encoded_at env s) (sym e ∙ told) in
        let A = found_alike n count j e in
        record {
          alternatives = F.alternatives;
          end = F.end;
          is = F.is;
          drawn = drawn_varied k1 n env (restarted s) F.end c a d F.counters (ended (some F.alternatives) F.end F.is) t1;
          encodes = record {
            roles = E.read.roles;
            first = A.nominals ∙ E.read.nominals;
            above = omega arith;
            begins = refl;
            fine = fine_counted k1 (restarted s) g1 counted;
            encoded = ap (λ (p : ℕ). encode_by env (pool_of w p) (suc g) g 0 (restarted s)) A.concepts ∙ F.is;
            long = F.long;
          };
          limits = (ended (some F.alternatives) F.end F.is).limits;
        }

    none_by : (n : Counters) (X : Res Out (Option Alternatives)) → encoded_at env s ≡ X → Unsupported n ≡ summary k1 X → NoneAt env s n
    none_by n (ok (some l) u) q e = absurd (let z : ◌≡◌ {A = ℕ} 0 1 = cc in omega arith)
    none_by n (ok none u) q e = record { end = u; is = q; drawn = drawn_varied k1 n env (restarted s) u c a d (cc) (ended none u q) t1; limits = (ended none u q).limits }
    none_by n (refused x) q e = absurd (let z : ◌≡◌ {A = ℕ} 0 1 = cc in omega arith)

    pub none_at : (n : Counters) → r ≡ Unsupported n → NoneAt env s n
    none_at n e = none_by n (encoded_at env s) refl (sym e ∙ told)

    refused_by : (e : ℕ) → (X : Res Out (Option Alternatives)) → Refused e ≡ summary k1 X → X ≡ refused e
    refused_by e (ok (some l) u) q = absurd (let z : ◌≡◌ {A = ℕ} 0 1 = cc in omega arith)
    refused_by e (ok none u) q = absurd (let z : ◌≡◌ {A = ℕ} 0 1 = cc in omega arith)
    refused_by e (refused x) q = let z : e ≡ x = cc in rw z refl

    pub refused_at : (e : ℕ) → r ≡ Refused e → encoded_at env s ≡ refused e
    refused_at e q = refused_by e (encoded_at env s) (sym q ∙ told)

-- ---- what the calls ask, from scratch's bytes s
pub clausifying_alike : (s : List ℕ) (k n : Counters) → Clausifying s k → Alike k n → Good n → Clausifying s n
clausifying_alike s k n K A g = record { encoding = encoding_kept s s k n refl refl A K.encoding; good = g; space = K.space; queue = K.queue }

pub encode_asks : (s : List ℕ) (k k1 : Counters) (g : ℕ) → Clausifying s k → k1 ≡ vars_restarted k → g < k.concepts → Ready s k1 × (g < k1.concepts) × Good k1
encode_asks s k k1 g K q h =
    let A = alike_restart k k1 q in
    let g1 = good_restart k k1 q K.good in
    ((clausifying_alike s k k1 K A g1).encoding.reading.ready, omega (arith, h, A.concepts), g1)

-- of emit_bodies
pub record BodiesAsked (s : List ℕ) (n : Counters) (g head count : ℕ) : Type 0 where
  pub clausifying : Clausifying s n
  pub sub : g < n.concepts
  pub sup : head < n.concepts
  pub sourced : Sourced (words s) n g 1 count

pub bodies_asks : (s : List ℕ) (k k1 n : Counters) (g head count j : ℕ) (r : Encoded) → Clausifying s k → k1 ≡ vars_restarted k → g < k.concepts → head < k.concepts
    → EncodedBy (words s) k1 g r → GoodEncoded r → r ≡ Found n count j → BodiesAsked s n g head count
bodies_asks s k k1 n g head count j r K q h i C G e =
    let g1 = good_restart k k1 q K.good in
    let A = found_alike k k1 g (words s) [] [] [] r q g1 C n count j e in
    let y : k1.next_var ≡ 1 = ap (λ (x : Counters). x.next_var) q in
    record {
      clausifying = clausifying_alike s k n K A (subst GoodEncoded e G);
      sub = omega (arith, h, A.concepts);
      sup = omega (arith, i, A.concepts);
      sourced = subst (λ (v : ℕ). Sourced (words s) n g v count) y (found_source (words s) k1 n g count j K.encoding.canon r K.encoding.roles g1 C e);
    }
