use mathlib.Core.Path.{sym, ◌∙◌}
use native.Mathlib.Omega.{arith}
use Rattle.words.specs.Words.{words}
use Rattle.tables.specs.AtomLaws.{run_behind}
use Rattle.contraction.specs.PlainLaws.{plain_nth}
use Rattle.contraction.specs.ContractLaws.{read_none, read_same}
use Rattle.contraction.specs.FlagWords.{role_small, role_reflexive, other_reflexive}
use Rattle.contraction.proofs.clause.is_reflexive.Goals as goal

pub returns-in_default : goal.returns-in_default
returns-in_default c =
    let A = plain_nth c.args.body.now c.requires.0 c.args.i (omega (arith, c.requires.0.run.long, c.requires.1)) in
    λ set before after x F R e. absurd (read_none (words c.args.body.now) c.args.i A c.get_atom.result c.get_atom.ensures c.in_default.is)

pub is_flagged-requires : goal.is_flagged-requires
is_flagged-requires c =
    let A = plain_nth c.args.body.now c.requires.0 c.args.i (omega (arith, c.requires.0.run.long, c.requires.1)) in
    (role_small (words c.args.body.now) c.args.i A c.get_atom.result c.get_atom.ensures c.in-Some.a _ _ _ c.in-Some.is c.in-Role.is, c.requires.2)

pub returns-in-Role : goal.returns-in-Role
returns-in-Role c =
    let A = plain_nth c.args.body.now c.requires.0 c.args.i (omega (arith, c.requires.0.run.long, c.requires.1)) in
    λ set before after x F R e.
    let h = run_behind c.args.body.now before after x c.args.i R e in
    c.is_flagged.ensures set F ∙ sym (role_reflexive set x c.in-Some.a (read_same (words c.args.body.now) c.args.i A c.get_atom.result c.get_atom.ensures x c.in-Some.a h c.in-Some.is) _ _ _ c.in-Role.is)

pub returns-in_default-a : goal.returns-in_default-a
returns-in_default-a c =
    let A = plain_nth c.args.body.now c.requires.0 c.args.i (omega (arith, c.requires.0.run.long, c.requires.1)) in
    λ set before after x F R e.
    let h = run_behind c.args.body.now before after x c.args.i R e in
    sym (other_reflexive set x c.in-Some.a (read_same (words c.args.body.now) c.args.i A c.get_atom.result c.get_atom.ensures x c.in-Some.a h c.in-Some.is) (λ q u v g. c.in_default-a.not-Role q u v g))
