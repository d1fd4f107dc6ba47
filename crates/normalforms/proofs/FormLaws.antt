-- From the answers of load and nnf_axioms to the text. Assumes nothing.
use mathlib.Core.Path.{◌≡◌, refl, sym, ap, subst, ◌∙◌}
use mathlib.Core.List.{List}
use Prim.Native.Nat.{ℕ, ◌*◌, ◌≤◌}
use lib.ListN.{length}
use Rattle.words.specs.Words.{words}
use Rattle.ir.specs.Scratch.{hands_at}
use Rattle.ir.specs.declared.counters.Counters.{Counters}
use Rattle.ir.specs.Lined.{Lined as CodeLined}
use Rattle.ir.specs.Lined.{Finished, Stopped}
use Rattle.rules.specs.Concept.{Axiom}
use Rattle.rules.specs.Normalize.{St}
use Rattle.rules.specs.Run.{Lined, done, stopped, nnf_axioms}
use Rattle.rules.specs.Deck.{read_deck}
use Rattle.rules.specs.DeckLaws.{read_in}
use Rattle.pool.specs.Layout.{pool_of}
use Rattle.pool.specs.Held.{Held}
use Rattle.pool.specs.Answers.{Drawn, drawn}
use Rattle.ontology.specs.Layout.{axioms_of, AxiomsHeld}
use Rattle.rebuilding.specs.States.{state_of}
use Rattle.normalize.specs.Axioms.{after_axioms, told_lined, HeldLined, NormalizingAxioms}
use Rattle.normalize.specs.Loaded.{Fine, holds_ready, holds_line, holds_rule}
use Rattle.normalforms.specs.Forms.{normal_text, refusal_text, lined_text, forms_text, most_visits}

-- ---- nnf_axioms
-- the text of what the code drew
abbrev drawn_text : Lined Drawn (List Axiom) → List ℕ
drawn_text (done l (drawn k p)) = normal_text l p k.visits
drawn_text (stopped e line) = refusal_text e line

told_text : (k : Counters) (x : Lined St (List Axiom)) → drawn_text (told_lined k x) ≡ lined_text x
told_text k (done l s) = refl
told_text k (stopped e line) = refl

module _ (k : Counters) (x : Lined St (List Axiom)) (r : CodeLined) (l : List Axiom) (w : List ℕ) (h : after_axioms r l w ≡ told_lined k x) where
  pub finished_text : (v : Counters) → r ≡ Finished v → normal_text l (pool_of w v.concepts) v.visits ≡ lined_text x
  finished_text v e = ap (λ (q : CodeLined). drawn_text (after_axioms q l w)) (sym e) ∙ ap drawn_text h ∙ told_text k x

  pub stopped_text : (n line : ℕ) → r ≡ Stopped n line → refusal_text n line ≡ lined_text x
  stopped_text n line e = ap (λ (q : CodeLined). drawn_text (after_axioms q l w)) (sym e) ∙ ap drawn_text h ∙ told_text k x

pub finished_held : (r : CodeLined) (n : ℕ) (w : List ℕ) (v : Counters) → r ≡ Finished v → HeldLined r n w → Held w v.concepts v.members × AxiomsHeld w n
finished_held r n w v e h = subst (λ (q : CodeLined). HeldLined q n w) e h

-- ---- load
module _ (deck s : List ℕ) (k : Counters) (n : ℕ) (F : Fine most_visits (read_deck deck) (words s) k n) where
  -- a deck that was read can be normalised
  pub fine_ready : 4 * hands_at ≤ length s → NormalizingAxioms s k n
  fine_ready h = holds_ready F.known (read_in deck F.known F.told) most_visits s k n F.holds h

  pub fine_line : k.line ≤ 65536
  fine_line = holds_line F.known (read_in deck F.known F.told) most_visits s k n F.holds

  -- the text from scratch is the rules'
  pub fine_text : lined_text (nnf_axioms k.line (axioms_of (words s) n) (state_of k (words s))) ≡ forms_text (read_deck deck)
  fine_text = ap lined_text (holds_rule F.known (read_in deck F.known F.told) most_visits s k n F.holds) ∙ sym (ap forms_text F.told)
