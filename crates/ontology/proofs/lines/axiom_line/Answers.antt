use native.Mathlib.Omega.{arith}
use mathlib.Core.Path.{refl}
use Rattle.ontology.proofs.TableLaws.{part_long, part_words}
use Rattle.ontology.proofs.lines.axiom_line.Goals as goal

pub axiom_line-requires : goal.axiom_line-requires
axiom_line-requires c = (c.requires.0, omega (arith, part_long c.args.scratch.now c.requires.1))

pub returns : goal.returns
returns c = rw (c.axiom_line.ensures, part_words c.args.scratch.now c.requires.1) refl
