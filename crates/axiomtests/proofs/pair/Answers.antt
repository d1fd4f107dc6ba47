use mathlib.Core.Path.{sym, ap, ◌∙◌}
use mathlib.Core.List.{◌∷◌}
use Prim.Native.Nat.{ℕ}
use Rattle.words.specs.Words.{words}
use Rattle.pool.specs.Layout.{run}
use Rattle.states.specs.Conditions.{rises, least_of, axiom_holds_at}
use Rattle.ontology.specs.Rows.{row_axiom}
use Rattle.axiomtests.proofs.KindLaws.{pair_vars}
use Rattle.axiomtests.proofs.pair.Goals as goal

pub returns-in_err-element-clause-by_index : goal.returns-in_err-element-clause-by_index
returns-in_err-element-clause-by_index c = λ w d I L.
    let v = words c.args.scratch.now in
    let t = axiom_holds_at I d.concepts (row_axiom v c.args.line.kind c.args.line.at c.args.line.count) in
    rw c.from_residual.ensures (sym (c.in_err-element.ensures d I w L) ∙ ap (λ (k : ℕ). least_of (rises 0 I.size) k t) (pair_vars (run v c.args.line.at c.args.line.count) c.args.line.kind L.section c.requires.1))

pub returns-clause-by_index : goal.returns-clause-by_index
returns-clause-by_index c = λ w d I L.
    let v = words c.args.scratch.now in
    let t = axiom_holds_at I d.concepts (row_axiom v c.args.line.kind c.args.line.at c.args.line.count) in
    let F = c.in_ok-element.ensures in
    c.show_two.ensures.by_index I.size (λ l. t (c.in_ok-element.field-0.element ∷ l)) L.ready.laid.few (F.set d I w L)
    ∙ sym (F.least d I w L) ∙ ap (λ (k : ℕ). least_of (rises 0 I.size) k t) (pair_vars (run v c.args.line.at c.args.line.count) c.args.line.kind L.section c.requires.1)
