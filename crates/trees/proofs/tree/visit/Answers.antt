use mathlib.Core.Path.{refl, sym, ◌∙◌}
use native.Mathlib.Omega.{arith}
use Prim.Native.Nat.{◌*◌}
use Rattle.words.specs.Words.{words}
use Rattle.words.specs.Laws.{length_words}
use Rattle.trees.specs.VisitLaws.{visited_placed, visited_other, visited_loose, visited_new}
use Rattle.trees.proofs.tree.visit.Goals as goal

pub returns-then-placed-j : goal.returns-then-placed-j
returns-then-placed-j c = λ more. visited_placed (words c.args.scratch.now) c.args.placed.now (6 * c.args.at) c.args.j c.args.n more c.requires.1 c.if-placed-j.true

pub returns-then-kind-ne-ROLE : goal.returns-then-kind-ne-ROLE
returns-then-kind-ne-ROLE c = λ more. visited_other (words c.args.scratch.now) c.args.placed.now (6 * c.args.at) c.args.j c.args.n more c.requires.1 (λ e. c.if-kind-ne-ROLE.true (c.kind.ensures ∙ e))

pub returns-in_err-i : goal.returns-in_err-i
returns-in_err-i c = rw c.from_residual.ensures (λ more.
    visited_loose (words c.args.scratch.now) c.args.placed.now (6 * c.args.at) c.args.j c.args.n more c.requires.1 c.var-u.result c.if-placed-j.false (sym c.kind.ensures ∙ c.if-kind-ne-ROLE.false) c.var-u.ensures c.in_err-i.ensures)

pub returns : goal.returns
returns c =
    let m = c.bind in λ more.
    visited_new (words c.args.scratch.now) c.args.placed.now (6 * c.args.at) c.args.j c.args.n more c.requires.1 c.var-u.result c.if-placed-j.false (sym c.kind.ensures ∙ c.if-kind-ne-ROLE.false) c.var-u.ensures
    c.in_ok-i.i c.other-v.result c.in_ok-i.ensures c.other-v.ensures (c.requires.3 c.if-placed-j.false) (omega (arith, length_words c.args.scratch.now, c.requires.2)) m.result (words m.new.scratch) _ m.ensures.value m.ensures.scratch_after refl
