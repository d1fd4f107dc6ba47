use mathlib.Core.Path.{◌∙◌}
use Rattle.words.specs.Words.{words}
use Rattle.decomposition.specs.HeadVarLaws.{heading_on, heading_end}
use Rattle.decomposition.proofs.one.head_vars.Goals as goal

pub loop-i-preserved : goal.loop-i-preserved
loop-i-preserved c =
    let L = c.loop-i in
    let g1 = c.var in
    let g2 = c.other in (
      c.keep_var-n-in-loop-i.auto.scratch ∙ c.keep_var-n.auto.scratch ∙ L.invariant.0,
      heading_on c.args.head.now (words c.args.scratch.now) c.atom_room-i-end.result (words L.scratch) L.n L.i L.invariant.1 c.loop-i-test.true g1.result g2.result g1.ensures g2.ensures
          (words c.keep_var-n.new.scratch) (words c.keep_var-n-in-loop-i.new.scratch) c.keep_var-n.result c.keep_var-n-in-loop-i.result c.keep_var-n.ensures.by_index c.keep_var-n-in-loop-i.ensures.by_index c.keep_var-n.ensures.upper_bound.0 c.keep_var-n-in-loop-i.ensures.upper_bound.0
          c.keep_var-n.ensures.upper_bound.1 c.keep_var-n-in-loop-i.ensures.upper_bound.1,
    )

pub returns-clause-keep_is : goal.returns-clause-keep_is
returns-clause-keep_is c =
    let L = c.loop-i in
    heading_end c.args.head.now (words c.args.scratch.now) c.atom_room-i-end.result (words L.scratch) L.n L.i L.invariant.1 c.loop-i-test.false
