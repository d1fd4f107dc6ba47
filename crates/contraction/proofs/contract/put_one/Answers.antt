use mathlib.Core.Path.{ap, ◌∙◌}
use Prim.Native.Nat.{◌*◌}
use native.Mathlib.Omega.{arith}
use Rattle.words.specs.Words.{words}
use Rattle.ir.specs.Atoms.{substitute_atom, replaced}
use Rattle.ir.specs.Records.{six}
use Rattle.ir.specs.declared.atom.Atom.{Atom}
use lib.Seq.{sets}
use Rattle.contraction.specs.PlacedLaws.{atom_room}
use Rattle.contraction.specs.ContractLaws.{fits_substituted, read_fits, read_none, read_same}
use Rattle.contraction.proofs.contract.put_one.Goals as goal

pub get_atom-requires : goal.get_atom-requires
get_atom-requires c = omega (arith, atom_room c.args.run.now c.args.i c.requires.0)

pub returns-in_default : goal.returns-in_default
returns-in_default c =
    λ x h. absurd (read_none (words c.args.run.now) c.args.i c.requires.0 c.get_atom.result c.get_atom.ensures c.in_default.is)

pub put_atom-requires : goal.put_atom-requires
put_atom-requires c =
    (c.requires.1, rw c.substitute_atom.ensures (fits_substituted c.in-Some.a (replaced c.args.drop c.args.keep) (read_fits (words c.args.run.now) c.args.i c.requires.0 c.get_atom.result c.get_atom.ensures c.in-Some.a c.in-Some.is)))

pub returns : goal.returns
returns c =
    let g = c.get_atom in
    λ x h. c.put_atom.ensures ∙ ap (λ (z : Atom). sets (words c.args.scratch.now) (6 * c.args.to) (six z))
    (c.substitute_atom.ensures ∙ ap (λ (z : Atom). substitute_atom z (replaced c.args.drop c.args.keep)) (read_same (words c.args.run.now) c.args.i c.requires.0 g.result g.ensures x c.in-Some.a h c.in-Some.is))
