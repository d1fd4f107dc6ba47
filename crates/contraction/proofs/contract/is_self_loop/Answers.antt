use mathlib.Core.Path.{sym, ◌∙◌}
use native.Mathlib.Omega.{arith}
use Rattle.words.specs.Words.{words}
use Rattle.contraction.specs.PlacedLaws.{atom_room}
use Rattle.contraction.specs.ContractLaws.{read_none, read_same}
use Rattle.contraction.specs.FlagWords.{role_small, role_loop, role_apart, other_loop}
use Rattle.contraction.proofs.contract.is_self_loop.Goals as goal

pub get_atom-requires : goal.get_atom-requires
get_atom-requires c = omega (arith, atom_room c.args.scratch.now c.args.i c.requires.0)

pub returns-in_default : goal.returns-in_default
returns-in_default c =
    λ set x F h. absurd (read_none (words c.args.scratch.now) c.args.i c.requires.0 c.get_atom.result c.get_atom.ensures c.in_default.is)

pub is_flagged-requires : goal.is_flagged-requires
is_flagged-requires c =
    (role_small (words c.args.scratch.now) c.args.i c.requires.0 c.get_atom.result c.get_atom.ensures c.in-Some.a _ _ _ c.in-Some.is c.in-Role.is, c.requires.1)

pub returns-then-u-v : goal.returns-then-u-v
returns-then-u-v c =
    λ set x F h. c.is_flagged.ensures set F ∙ sym (role_loop set x c.in-Some.a (read_same (words c.args.scratch.now) c.args.i c.requires.0 c.get_atom.result c.get_atom.ensures x c.in-Some.a h c.in-Some.is) _ _ _ c.in-Role.is c.if-u-v.true)

pub returns-else-u-v : goal.returns-else-u-v
returns-else-u-v c =
    λ set x F h. sym (role_apart set x c.in-Some.a (read_same (words c.args.scratch.now) c.args.i c.requires.0 c.get_atom.result c.get_atom.ensures x c.in-Some.a h c.in-Some.is) _ _ _ c.in-Role.is c.if-u-v.false)

pub returns-in_default-a : goal.returns-in_default-a
returns-in_default-a c =
    λ set x F h. sym (other_loop set x c.in-Some.a (read_same (words c.args.scratch.now) c.args.i c.requires.0 c.get_atom.result c.get_atom.ensures x c.in-Some.a h c.in-Some.is) (λ q u v g. c.in_default-a.not-Role q u v g))
