use Rattle.words.specs.Words.{words}
use Rattle.normalforms.proofs.LineLaws.{plain_put}
use Rattle.normalforms.proofs.lines.put_record.Goals as goal

pub returns : goal.returns
returns c =
    let s = c.args.scratch.now in
    let k = c.args.k in
    let kind = c.kind-kind in
    let role = c.role-role in
    let number = c.number-number in
    let child = c.child-child in
    plain_put (words s) k.concepts k.members c.requires.0.held c.args.c c.requires.1 kind.result role.result number.result child.result c.requires.2
    kind.ensures role.ensures number.ensures child.ensures c.put_line.ensures
