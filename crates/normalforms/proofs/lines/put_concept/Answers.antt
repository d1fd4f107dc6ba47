use mathlib.Core.Path.{sym, ap, ◌∙◌}
use native.Mathlib.Omega.{arith}
use Rattle.words.specs.Words.{words}
use Rattle.pool.specs.Layout.{is_list}
use Rattle.normalforms.proofs.LineLaws.{plain_long}
use Rattle.normalforms.proofs.lines.put_concept.Goals as goal

pub put_list-requires : goal.put_list-requires
put_list-requires c =
    (c.requires.0, c.requires.1, ap is_list (sym c.kind.ensures) ∙ sym c.is_list.ensures ∙ c.if-is_list.true, c.requires.2)

pub put_record-requires : goal.put_record-requires
put_record-requires c =
    let k = c.args.k in
    let e = ap is_list (sym c.kind.ensures) ∙ sym c.is_list.ensures ∙ c.if-is_list.false in
    (c.requires.0, c.requires.1, e, omega (arith, c.requires.2, plain_long (words c.args.scratch.now) k.concepts k.members c.requires.0.held c.args.c c.requires.1 e))
