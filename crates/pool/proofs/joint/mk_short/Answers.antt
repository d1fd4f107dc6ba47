use Rattle.ir.specs.Answer.{answer}
use native.Mathlib.Omega.{arith}
use Rattle.words.specs.Words.{words}
use Rattle.rules.specs.Pool.{collapsed}
use Rattle.rules.specs.JointLaws.{list_of, mk_joint}
use Rattle.pool.specs.Layout.{run}
use Rattle.pool.specs.Joints.{joint_of, identity_of}
use Rattle.pool.specs.Insertion.{last_from}
use Rattle.pool.proofs.Joining.{interned_over, beside}
use Rattle.pool.proofs.Placing.{all_space, short_ready, short_below, short_joined}
use Rattle.pool.proofs.joint.mk_short.Goals as goal

pub place_all-first-requires : goal.place_all-first-requires
place_all-first-requires c = c.requires.operands

pub overflow_add-m : goal.overflow_add-m
overflow_add-m c = omega (arith, all_space (joint_of c.args.joint) c.args.scratch.now c.args.k.now c.args.marks c.args.at c.args.count c.requires.operands, c.place_all-first.auto.scratch)

pub overflow_sub-m : goal.overflow_sub-m
overflow_sub-m c = c.place_all-first.ensures.stands.high

pub overflow_cast-m : goal.overflow_cast-m
overflow_cast-m c = omega (arith, c.place_all-first.ensures.stands.low)

pub collapse-requires : goal.collapse-requires
collapse-requires c = (short_ready (joint_of c.args.joint) c.args.scratch.now c.args.k.now c.args.marks c.args.at c.args.count c.requires.operands c.place_all-first.new.scratch c.place_all-first.auto.scratch c.place_all-first.result c.place_all-first.ensures.stands c.place_all-first.ensures.outside, omega (arith, all_space (joint_of c.args.joint) c.args.scratch.now c.args.k.now c.args.marks c.args.at c.args.count c.requires.operands, c.place_all-first.auto.scratch, c.place_all-first.ensures.stands.high), short_below (joint_of c.args.joint) c.args.scratch.now c.args.k.now c.args.marks c.args.at c.args.count c.requires.operands c.place_all-first.new.scratch c.place_all-first.auto.scratch c.place_all-first.result c.place_all-first.ensures.stands c.place_all-first.ensures.outside)

pub returns : goal.returns
returns c = record {
  interned = interned_over c.args.k.now (collapsed (identity_of (joint_of c.args.joint)) (list_of (joint_of c.args.joint)) (last_from c.args.marks (words c.place_all-first.new.scratch) c.place_all-first.result)) (mk_joint (joint_of c.args.joint) (run (words c.args.scratch.now) c.args.at c.args.count)) (words c.place_all-first.new.scratch) (words c.args.scratch.now) (words c.collapse.new.scratch) (answer c.collapse.new.k c.collapse.result) c.collapse.ensures.interned (short_joined (joint_of c.args.joint) c.args.scratch.now c.args.k.now c.args.marks c.args.at c.args.count c.requires.operands c.place_all-first.new.scratch c.place_all-first.auto.scratch c.place_all-first.result c.place_all-first.ensures.stands c.place_all-first.ensures.outside c.requires.count_value);
  beside = beside c.place_all-first.ensures.outside c.requires.operands.above (words c.collapse.new.scratch) c.collapse.ensures.scratch_unchanged;
}
