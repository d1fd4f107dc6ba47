use native.Mathlib.Omega.{arith}
use Rattle.words.specs.Words.{words}
use Rattle.branches.specs.Layout.{renumbered_at}
use Rattle.branches.specs.FoundLaws.{searching_found, searching_on, searching_end, branch_at}
use Rattle.branches.proofs.memo.scan.Goals as goal

pub is_body-requires : goal.is_body-requires
is_body-requires c = let L = c.loop-i in let T = c.requires.0 in let b = branch_at renumbered_at (words c.args.scratch.now) c.args.s c.args.count L.p L.i L.invariant T.state T.held c.loop-i-test.true in (omega (arith, b.room, T.held.few, b.size, c.get_word-n.ensures), c.requires.1, c.requires.2)

pub returns-then-is_body : goal.returns-then-is_body
returns-then-is_body c = let L = c.loop-i in let g = c.get_word-n in let u = c.is_body in
    searching_found renumbered_at (words c.args.scratch.now) c.args.s c.args.count L.p L.i L.invariant g.result u.result g.ensures u.ensures c.loop-i-test.true c.if-is_body.true

pub loop-i-preserved : goal.loop-i-preserved
loop-i-preserved c = let L = c.loop-i in let g = c.get_word-n in let u = c.is_body in
    searching_on renumbered_at (words c.args.scratch.now) c.args.s c.args.count L.p L.i L.invariant g.result u.result g.ensures u.ensures c.loop-i-test.true c.if-is_body.false

pub returns : goal.returns
returns c = let L = c.loop-i in searching_end renumbered_at (words c.args.scratch.now) c.args.s c.args.count L.p L.i L.invariant c.loop-i-test.false
