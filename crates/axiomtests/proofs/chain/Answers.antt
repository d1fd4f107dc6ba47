use mathlib.Core.Path.{◌≡◌, sym, ap, subst, ◌∙◌}
use mathlib.Core.Bool.{true}
use Prim.Native.Nat.{ℕ, ◌<◌, ◌≤◌}
use native.Mathlib.Omega.{arith}
use borrow.Author.Tests.{leb-true}
use Rattle.words.specs.Words.{words}
use Rattle.rules.specs.Deck.{fields_ok}
use Rattle.states.specs.Conditions.{axiom_broken}
use Rattle.ontology.specs.Rows.{row_axiom}
use Rattle.axiomtests.specs.Lines.{Line, LineIn}
use Rattle.axiomtests.proofs.ChainArmLaws.{chain_chained, chain_broken, transitive_chained, transitive_broken, chain_in, transitive_there}
use Rattle.axiomtests.proofs.chain.Goals as goal

other : (k : ℕ) → 27 ≤ k → k < 29 → (k ≡ 27 → ⊥) → k ≡ 28
other k a b c = omega arith

pub overflow_sub-c : goal.overflow_sub-c
overflow_sub-c c = leb-true 2 c.args.line.count (subst (λ (k : ℕ). fields_ok k c.args.line.count ≡ true) c.if-line-eq27.true c.requires.0.line.fields)

pub least_path-requires : goal.least_path-requires
least_path-requires c =
    chain_in c.args.scratch.now c.args.t c.args.line.at c.args.line.count _ (subst (λ (k : ℕ). LineIn c.args.scratch.now c.args.t k c.args.line.at c.args.line.count) c.if-line-eq27.true c.requires.0) c.get_word-sup.ensures

pub returns-then-line-eq27 : goal.returns-then-line-eq27
returns-then-line-eq27 c =
    let v = words c.args.scratch.now in record {
      aside = c.least_path.ensures.aside;
      by_index = λ w d I L.
          let M = subst (λ (k : ℕ). Line d I w v c.args.t k c.args.line.at c.args.line.count) c.if-line-eq27.true L in
          chain_broken M _ c.get_word-sup.ensures _ (c.least_path.ensures.result_after I (chain_chained M _ c.get_word-sup.ensures)) ∙ ap (λ (k : ℕ). axiom_broken I d.concepts (row_axiom v k c.args.line.at c.args.line.count)) (sym c.if-line-eq27.true);
    }

pub least_path-requires-2 : goal.least_path-requires-2
least_path-requires-2 c =
    let e : c.args.line.kind ≡ 28 = other c.args.line.kind c.requires.1 c.requires.2 c.if-line-eq27.false in
    transitive_there c.args.scratch.now c.args.t c.args.line.at c.args.line.count _ (subst (λ (k : ℕ). LineIn c.args.scratch.now c.args.t k c.args.line.at c.args.line.count) e c.requires.0) c.get_word-sup.ensures

pub returns : goal.returns
returns c =
    let v = words c.args.scratch.now in
    let e : c.args.line.kind ≡ 28 = other c.args.line.kind c.requires.1 c.requires.2 c.if-line-eq27.false in record {
      aside = c.least_path-2.ensures.aside;
      by_index = λ w d I L.
          let M = subst (λ (k : ℕ). Line d I w v c.args.t k c.args.line.at c.args.line.count) e L in
          transitive_broken M _ c.get_word-sup.ensures _ (c.least_path-2.ensures.result_after I (transitive_chained M _ c.get_word-sup.ensures)) ∙ ap (λ (k : ℕ). axiom_broken I d.concepts (row_axiom v k c.args.line.at c.args.line.count)) (sym e);
    }
