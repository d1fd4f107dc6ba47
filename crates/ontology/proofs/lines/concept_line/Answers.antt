use native.Mathlib.Omega.{arith}
use mathlib.Core.Path.{refl}
use Rattle.ontology.proofs.TableLaws.{part_long, part_words}
use Rattle.ontology.proofs.lines.concept_line.Goals as goal

pub concept_line-requires : goal.concept_line-requires
concept_line-requires c = omega (arith, c.requires.0, part_long c.args.scratch.now c.requires.1)

pub returns : goal.returns
returns c = rw (c.concept_line.ensures, part_words c.args.scratch.now c.requires.1) refl
