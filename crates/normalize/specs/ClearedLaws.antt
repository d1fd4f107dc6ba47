-- The words of the normal forms, cleared: nothing is known, and all that the axioms ask is as it was. Assumes nothing.
use Rattle.std.specs.Prelude.{◌≡◌, refl, List, ℕ, ◌+◌, ◌-◌, ◌<◌, ◌≤◌, length, get_or, replicate}
use Rattle.std.proofs.Common.{ap, ◌∙◌, arith}
use Rattle.std.proofs.lemmas.List.{length-replicate, get_or-replicate}
use Rattle.std.proofs.lemmas.List.Edits.{sets}
use Rattle.words.specs.Words.{words}
use Rattle.words.specs.Laws.{length_words}
use Rattle.words.specs.Runs.{get_d_sets_after, get_d_sets_before, get_d_sets_in}
use Rattle.ir.specs.Scratch.{numbers_at, lines_at, stack_at, normal_forms_at, hands_at}
use Rattle.ir.specs.declared.counters.Counters.{Counters}
use Rattle.ir.specs.Lined.{Lined as CodeLined}
use Rattle.rules.specs.Run.{nnf_axioms}
use Rattle.ontology.specs.Layout.{axioms_of}
use Rattle.rebuilding.specs.States.{state_of, Kept}
use Rattle.normalize.specs.Axioms.{after_axioms, told_lined, NormalizingAxioms}
use Rattle.normalize.specs.Known.{Known}
use Rattle.normalize.specs.KnownLaws.{known_nothing}
use Rattle.normalize.specs.KeptLaws.{Under, under_sets}
use Rattle.ontology.specs.KeptAxioms.{axioms_kept, held_axioms}

module _ (s s' : List ℕ) (k : Counters) (n : ℕ) (A : NormalizingAxioms s k n) (e : words s' ≡ sets (words s) normal_forms_at (replicate 4096 0)) (l : length s' ≡ length s) where
  abbrev zeros : List ℕ
  zeros = replicate 4096 0

  long : length zeros ≡ 4096
  long = length-replicate {A = ℕ} 4096 0

  before : (j : ℕ) → j < normal_forms_at → get_or (words s') j 0 ≡ get_or (words s) j 0
  before j h = rw e (get_d_sets_before zeros (words s) normal_forms_at j 0 h)

  behind : (j : ℕ) → hands_at ≤ j → get_or (words s') j 0 ≡ get_or (words s) j 0
  behind j h = rw e (get_d_sets_after zeros (words s) normal_forms_at j 0 (omega (arith, long)))

  under : Under (words s) (words s') k.concepts k.members
  under = rw e (under_sets (words s) k.concepts k.members A.ready.held normal_forms_at (omega arith) zeros)

  axioms : axioms_of (words s') n ≡ axioms_of (words s) n
  axioms = axioms_kept (words s) (words s') n A.held (λ j a b. before j (omega arith))

  pub cleared_asks : NormalizingAxioms s' k n
  cleared_asks = record {
    bounds = A.bounds;
    ready = record { room = omega (arith, l, A.ready.room); held = under.held };
    wf = rw under.pool A.wf;
    held = held_axioms (words s) (words s') n A.held (λ j a b. before j (omega arith));
    inside = rw axioms A.inside;
    space = omega (arith, l, A.space);
  }

  pub cleared_known : Known (words s') k.concepts
  cleared_known = known_nothing (words s') k.concepts zero_at
    where
      zero_in : (i : ℕ) → i < 4096 → get_or (words s') (normal_forms_at + i) 0 ≡ 0
      zero_in i h =
          ap (λ (w : List ℕ). get_or w (normal_forms_at + i) 0) e
          ∙ get_d_sets_in zeros (words s) normal_forms_at i 0 (omega (arith, long)) (omega (arith, long, length_words s, A.space))
          ∙ get_or-replicate {A = ℕ} 4096 i 0 0 h

      zero_at : (j : ℕ) → normal_forms_at ≤ j → j < normal_forms_at + 4096 → get_or (words s') j 0 ≡ 0
      zero_at j a b =
          let o : j ≡ normal_forms_at + (j - normal_forms_at) = omega arith in
          ap (λ (i : ℕ). get_or (words s') i 0) o ∙ zero_in (j - normal_forms_at) (omega arith)

  pub cleared_did : (r : CodeLined) (line : ℕ) (w : List ℕ) → after_axioms r (axioms_of w n) w ≡ told_lined k (nnf_axioms line (axioms_of (words s') n) (state_of k (words s')))
      → after_axioms r (axioms_of w n) w ≡ told_lined k (nnf_axioms line (axioms_of (words s) n) (state_of k (words s)))
  cleared_did r line w g = g ∙ rw (axioms, under.pool) refl

  pub cleared_kept : (w : List ℕ) → Kept numbers_at (lines_at - numbers_at) stack_at (words s') w → Kept numbers_at (lines_at - numbers_at) stack_at (words s) w
  cleared_kept w K = record {
    before = λ j a b. K.before j a b ∙ before j (omega arith);
    between = λ j a b. K.between j a b ∙ before j (omega arith);
    behind = λ j a. K.behind j a ∙ behind j a;
  }
