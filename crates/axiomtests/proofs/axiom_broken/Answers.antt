use mathlib.Core.Path.{ap, ◌∙◌}
use Prim.Native.Nat.{ℕ, ◌+◌}
use native.Mathlib.Omega.{arith}
use Rattle.words.specs.Words.{words}
use Rattle.ir.specs.Scratch.{numbers_at}
use Rattle.states.specs.Conditions.{axiom_broken}
use Rattle.axiomtests.proofs.ReadyLaws.{few_axioms_lem, kind_there, row_axiom_lem, axiom_line_lem, axiom_there}
use Rattle.axiomtests.proofs.axiom_broken.Goals as goal

pub number-requires : goal.number-requires
number-requires c = let P = c.requires.0 in (few_axioms_lem P.known P.meant _ _ _ _ P.ready P.sets P.fits c.requires.1, omega (arith, P.space), kind_there P.known P.meant _ _ _ _ P.ready P.sets P.fits c.requires.1)

pub row_broken-requires : goal.row_broken-requires
row_broken-requires c =
    axiom_there c.args.store.now c.args.scratch.now c.args.t c.args.i _ _ _ c.requires.0 c.requires.1 c.number.ensures (ap (λ (x : ℕ). numbers_at + x) c.start.ensures) c.count.ensures

pub returns : goal.returns
returns c =
    let w = words c.args.store.now in
    let v = words c.args.scratch.now in
    let at = ap (λ (x : ℕ). numbers_at + x) c.start.ensures in record {
      aside = c.row_broken.ensures.aside;
      result_after = λ d I R S F.
          c.row_broken.ensures.broken d I (axiom_line_lem d I w v c.args.t c.args.i R S F c.requires.1 _ _ _ c.number.ensures at c.count.ensures)
          ∙ ap (axiom_broken I d.concepts) (row_axiom_lem d I w v c.args.t c.args.i R S F c.requires.1 _ _ _ c.number.ensures at c.count.ensures);
    }
