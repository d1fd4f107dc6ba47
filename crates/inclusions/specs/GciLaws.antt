-- An inclusion, by what its antecedent's encoding answers. Assumes nothing.
use Rattle.std.specs.Prelude.{◌≡◌, List, ℕ, suc}
use Rattle.std.proofs.Math.Path.{refl, ap, subst}
use Rattle.std.proofs.Common.{sym, ◌∙◌}
use Rattle.std.proofs.Math.Option.{Option}
use Prim.{Unit, tt}
use Rattle.ir.specs.Counts.{vars_restarted}
use Rattle.ir.specs.declared.counters.Counters.{Counters}
use Rattle.ir.specs.Answer.{Answer}
use Rattle.ir.specs.Answer as Answers
use Rattle.ir.specs.Encoded.{Encoded}
use Rattle.ir.specs.Encoded.{Found, Unsupported, Refused}
use Rattle.rules.specs.Base.{Res, then}
use Rattle.rules.specs.State.{Env, Out, restarted, restart_vars}
use Rattle.rules.specs.Antecedents.{Alternatives}
use Rattle.rules.specs.Heads.{emit_head}
use Rattle.rules.specs.Axioms.{Clausifier, back_out, emit_bodies, absorb_hard_antecedent, gci_with, clausify_gci}
use Rattle.pool.specs.Layout.{pool_of}
use Rattle.pool.specs.Held.{Held}
use Rattle.tables.specs.Drawn.{shown}
use Rattle.tables.specs.Good.{Good}
use Rattle.hands.specs.Hands.{Four, four, Waiting}
use Rattle.leaves.specs.StepLaws.{shown_alike, kept_then, env_alike}
use Rattle.antecedents.specs.WriteLaws.{hands_pool}
use Rattle.axioms.specs.Bodies.{Bodied, BodiedWaits}
use Rattle.axioms.specs.Wholes.{shown_whole, standing, Clausified, WaitingWhole, Queued}
use Rattle.axioms.specs.WholeLaws.{out_whole, untouched_below, onward_kept}
use Rattle.axioms.specs.OnwardLaws.{untouched_same, onward_alike, onward_answer, stands_on, shown_same}
use Rattle.axioms.specs.QueuedLaws.{waits_same, waits_out, queued_on}
use Rattle.inclusions.specs.EncodeLaws.{EncodedBy, found_alike, none_alike, found_at, none_at, refused_at}

module _ (k k1 : Counters) (sub sup : ℕ) (w c a d : List ℕ) (r : Encoded) (q1 : k1 ≡ vars_restarted k) (g1 : Good k1)
    (C : EncodedBy w k1 sub r) where
  -- the rule, of an encoding's answer
  abbrev answered : Env → Out → Res Out (Option Alternatives) → Res Clausifier (Unit {0})
  answered env s X = then (back_out (standing k (four w c a d) s) X) (λ o. gci_with env sub sup o)

  pub gci_found : (n : Counters) (count j : ℕ) (y : Four) (z : Answer) → r ≡ Found n count j → Held w k.concepts k.members → Bodied (λ env b. emit_head env (pool_of w n.concepts) b sup 0) n sub 1 count (four w c a d) y z
      → Clausified (λ env. clausify_gci env sub sup) k (four w c a d) y z
  unfolding clausify_gci restart_vars emit_bodies
  gci_found n count j y z q H B =
      let A = found_alike k k1 sub w c a d r q1 g1 C n count j q in
      let K = kept_then k n z A B.kept in
      record {
        equal = λ env s E t.
            let F = found_at k k1 sub w c a d r q1 g1 C env s E t n count j q in
            out_whole (λ _. 0) k env.rooms (four w c a d) y z (emit_bodies env (pool_of w k.concepts) F.alternatives sup F.end) (standing k (four w c a d) F.end) H refl
            (hands_pool w y.scratch B.frame k.concepts k.members H) K
            (B.equal env (suc sub) (restarted s) F.alternatives F.end (record { read = env_alike env k n w A E.read; lent = E.lent }) F.encodes F.drawn
            ∙ shown_alike (λ _. 0) k n env.rooms (emit_bodies env (pool_of w n.concepts) F.alternatives sup F.end) A
            ∙ ap (λ (m : ℕ). shown (λ _. 0) k env.rooms (emit_bodies env (pool_of w m) F.alternatives sup F.end)) A.concepts)
            ∙ ap (λ (X : Res Out (Option Alternatives)). shown_whole (λ _. 0) k env.rooms (answered env s X)) (sym F.is);
        untouched = untouched_below w y.scratch B.frame;
        onward = onward_kept k z K;
      }

  pub found_queued : (n : Counters) (count j : ℕ) (y : Four) → r ≡ Found n count j → BodiedWaits (λ env b. emit_head env (pool_of w n.concepts) b sup 0) n sub 1 count (four w c a d) y
      → Queued (λ env. clausify_gci env sub sup) k (four w c a d) y
  unfolding clausify_gci restart_vars emit_bodies
  found_queued n count j y q B =
      let A = found_alike k k1 sub w c a d r q1 g1 C n count j q in
      record {
        waits = λ env s p E t W.
            let F = found_at k k1 sub w c a d r q1 g1 C env s E t n count j q in
            subst (λ (X : Res Out (Option Alternatives)). WaitingWhole y.scratch p (answered env s X)) (sym F.is)
            (waits_out y.scratch p (standing k (four w c a d) F.end) (emit_bodies env (pool_of w k.concepts) F.alternatives sup F.end)
            (subst (λ (m : ℕ). Waiting y.scratch p (emit_bodies env (pool_of w m) F.alternatives sup F.end)) A.concepts
            (B.waits env (suc sub) (restarted s) F.alternatives F.end p (record { read = env_alike env k n w A E.read; lent = E.lent }) F.encodes F.drawn (waits_same w p s F.end F.limits W))));
      }

  pub gci_none : (n : Counters) (y : Four) (z : Answer) → r ≡ Unsupported n → Clausified (λ env. absorb_hard_antecedent env sub sup) n (four w c a d) y z → Clausified (λ env. clausify_gci env sub sup) k (four w c a d) y z
  unfolding clausify_gci restart_vars
  gci_none n y z q K =
      let A = none_alike k k1 sub w c a d r q1 g1 C n q in
      let O = onward_alike k n A in
      record {
        equal = λ env s E t.
            let F = none_at k k1 sub w c a d r q1 g1 C env s E t n q in
            let u : Clausifier = standing k (four w c a d) F.end in
            stands_on (λ v. absorb_hard_antecedent v sub sup) k n w w c a d y z (untouched_same w) O K env u E (record { pool = ap (pool_of w) A.concepts; tables = F.drawn })
            ∙ shown_same (λ _. 0) k n env.rooms O (absorb_hard_antecedent env sub sup u)
            ∙ ap (λ (X : Res Out (Option Alternatives)). shown_whole (λ _. 0) k env.rooms (answered env s X)) (sym F.is);
        untouched = K.untouched;
        onward = onward_answer k n z O K.onward;
      }

  pub hard_queued : (n : Counters) (y : Four) → r ≡ Unsupported n → Queued (λ env. absorb_hard_antecedent env sub sup) n (four w c a d) y → Queued (λ env. clausify_gci env sub sup) k (four w c a d) y
  unfolding clausify_gci restart_vars
  hard_queued n y q U =
      let A = none_alike k k1 sub w c a d r q1 g1 C n q in
      record {
        waits = λ env s p E t W.
            let F = none_at k k1 sub w c a d r q1 g1 C env s E t n q in
            subst (λ (X : Res Out (Option Alternatives)). WaitingWhole y.scratch p (answered env s X)) (sym F.is)
            (queued_on (λ v. absorb_hard_antecedent v sub sup) k n w w c a d y (untouched_same w) (onward_alike k n A) U env (standing k (four w c a d) F.end) p E
            (record { pool = ap (pool_of w) A.concepts; tables = F.drawn }) (waits_same w p s F.end F.limits W));
      }

  pub gci_refused : (e : ℕ) → r ≡ Refused e → Clausified (λ env. clausify_gci env sub sup) k (four w c a d) (four w c a d) (Answers.Refused e)
  unfolding clausify_gci restart_vars
  gci_refused e q = record {
    equal = λ env s E t. ap (λ (X : Res Out (Option Alternatives)). shown_whole (λ _. 0) k env.rooms (answered env s X)) (sym (refused_at k k1 sub w c a d r q1 g1 C env s E t e q));
    untouched = untouched_same w;
    onward = tt;
  }
