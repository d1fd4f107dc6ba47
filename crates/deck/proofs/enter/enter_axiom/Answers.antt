use native.Mathlib.Omega.{arith}
use Rattle.deck.proofs.EnterLaws.{few_axioms_lem, enter_axiom_law}
use Rattle.deck.proofs.enter.enter_axiom.Goals as goal

pub put_axiom-requires : goal.put_axiom-requires
put_axiom-requires c =
    let r = c.args.row.now in
    (few_axioms_lem r.deck.now c.args.t.now r.line.begin r.line.fields c.args.st c.requires.0 c.requires.1, c.requires.0.held.concepts.room, omega (arith, c.requires.0.held.small, c.requires.0.line), omega (arith, c.requires.0.held.small, c.requires.0.line))

pub returns : goal.returns
returns c =
    let r = c.args.row.now in
    enter_axiom_law r.deck.now c.args.t.now c.put_axiom.new.t r.line.begin r.line.fields c.args.st c.requires.0 c.put_axiom.auto.t c.requires.1 c.put_axiom.ensures
