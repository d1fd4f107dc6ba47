use mathlib.Core.Path.{ap}
use Prim.Native.Nat.{ℕ, ◌+◌}
use native.Mathlib.Omega.{arith}
use Rattle.words.specs.Words.{words}
use Rattle.pool.specs.Layout.{members_at}
use Rattle.normalforms.proofs.LineLaws.{list_long, list_room, list_put}
use Rattle.normalforms.proofs.lines.put_list.Goals as goal

pub put_row-requires : goal.put_row-requires
put_row-requires c =
    let w = words c.args.scratch.now in
    let k = c.args.k in
    let H = c.requires.0.held in
    let long = list_long w k.concepts k.members H c.args.c c.requires.1 c.requires.2 in
    let room = list_room w k.concepts k.members H c.args.c c.requires.1 c.requires.2 in
    let n = c.number-count.ensures in
    (omega (arith, room, c.requires.0.room, n, c.child.ensures), omega (arith, c.requires.3, long, n))

pub returns : goal.returns
returns c =
    let w = words c.args.scratch.now in
    let k = c.args.k in
    let H = c.requires.0.held in
    let kind = c.kind in
    let n = c.number-count in
    let d = c.child in
    let room = list_room w k.concepts k.members H c.args.c c.requires.1 c.requires.2 in
    list_put w k.concepts k.members H c.args.c c.requires.1 kind.result (members_at + d.result) n.result c.requires.2 (omega (arith, room, H.room))
    kind.ensures (ap (λ (i : ℕ). members_at + i) d.ensures) n.ensures c.put_row.ensures
