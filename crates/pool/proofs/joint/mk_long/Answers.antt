use Rattle.ir.specs.Answer.{answer}
use native.Mathlib.Omega.{arith}
use Rattle.words.specs.Words.{words}
use Rattle.pool.specs.Layout.{run}
use Rattle.words.specs.Laws.{length_words}
use Rattle.rules.specs.Pool.{intern_raw, collapsed}
use Rattle.rules.specs.JointLaws.{list_of, mk_joint}
use Rattle.pool.specs.Joints.{joint_of, identity_of, annihilator_of}
use Rattle.pool.proofs.Joining.{interned_over, cleared, beside, operands1, outside2, ready2, short, outside3, ready3, below3, joined}
use Rattle.pool.proofs.joint.mk_long.Goals as goal

pub mark_all-requires : goal.mark_all-requires
mark_all-requires c = operands1 (joint_of c.args.joint) c.args.scratch.now c.clear_words.new.s c.args.k.now c.args.marks c.args.at c.args.count c.requires c.clear_words.auto.s (cleared c.args.marks c.args.k.now.concepts (words c.args.scratch.now) (words c.clear_words.new.s) c.requires.ready.held.few (omega (arith, length_words c.args.scratch.now, c.requires.within, c.requires.apart, c.requires.ready.held.few)) c.clear_words.ensures)

pub annihilate-requires : goal.annihilate-requires
annihilate-requires c = ready2 (joint_of c.args.joint) c.args.scratch.now c.clear_words.new.s c.args.k.now c.args.marks c.args.at c.args.count c.requires c.clear_words.auto.s (cleared c.args.marks c.args.k.now.concepts (words c.args.scratch.now) (words c.clear_words.new.s) c.requires.ready.held.few (omega (arith, length_words c.args.scratch.now, c.requires.within, c.requires.apart, c.requires.ready.held.few)) c.clear_words.ensures) c.mark_all.new.scratch c.mark_all.result c.mark_all.auto.scratch c.mark_all.ensures

pub returns-then-mark_all : goal.returns-then-mark_all
returns-then-mark_all c = record {
  interned = interned_over c.args.k.now (intern_raw (annihilator_of (joint_of c.args.joint))) (mk_joint (joint_of c.args.joint) (run (words c.args.scratch.now) c.args.at c.args.count)) (words c.mark_all.new.scratch) (words c.args.scratch.now) (words c.annihilate.new.scratch) (answer c.annihilate.new.k c.annihilate.result) c.annihilate.ensures.interned
      (short (joint_of c.args.joint) c.args.scratch.now c.clear_words.new.s c.args.k.now c.args.marks c.args.at c.args.count c.requires c.clear_words.auto.s (cleared c.args.marks c.args.k.now.concepts (words c.args.scratch.now) (words c.clear_words.new.s) c.requires.ready.held.few (omega (arith, length_words c.args.scratch.now, c.requires.within, c.requires.apart, c.requires.ready.held.few)) c.clear_words.ensures) c.mark_all.new.scratch c.mark_all.result c.mark_all.auto.scratch c.mark_all.ensures c.if-mark_all.true);
  beside = beside (outside2 (joint_of c.args.joint) c.args.scratch.now c.clear_words.new.s c.args.k.now c.args.marks c.args.at c.args.count c.requires c.clear_words.auto.s (cleared c.args.marks c.args.k.now.concepts (words c.args.scratch.now) (words c.clear_words.new.s) c.requires.ready.held.few (omega (arith, length_words c.args.scratch.now, c.requires.within, c.requires.apart, c.requires.ready.held.few)) c.clear_words.ensures) c.mark_all.new.scratch c.mark_all.result c.mark_all.auto.scratch c.mark_all.ensures) c.requires.above (words c.annihilate.new.scratch) c.annihilate.ensures.scratch_unchanged;
}

pub collapse-requires : goal.collapse-requires
collapse-requires c = (ready3 (joint_of c.args.joint) c.args.scratch.now c.clear_words.new.s c.args.k.now c.args.marks c.args.at c.args.count c.requires c.clear_words.auto.s (cleared c.args.marks c.args.k.now.concepts (words c.args.scratch.now) (words c.clear_words.new.s) c.requires.ready.held.few (omega (arith, length_words c.args.scratch.now, c.requires.within, c.requires.apart, c.requires.ready.held.few)) c.clear_words.ensures) c.mark_all.new.scratch c.mark_all.result c.mark_all.auto.scratch c.mark_all.ensures c.gather-m.new.scratch c.gather-m.result c.gather-m.auto.scratch c.gather-m.ensures.outside c.gather-m.ensures.result_after.0, omega (arith, c.gather-m.ensures.result_after.1, c.requires.within, c.requires.apart, c.requires.ready.held.few, c.gather-m.auto.scratch, c.mark_all.auto.scratch, c.clear_words.auto.s), below3 (joint_of c.args.joint) c.args.scratch.now c.clear_words.new.s c.args.k.now c.args.marks c.args.at c.args.count c.requires c.clear_words.auto.s (cleared c.args.marks c.args.k.now.concepts (words c.args.scratch.now) (words c.clear_words.new.s) c.requires.ready.held.few (omega (arith, length_words c.args.scratch.now, c.requires.within, c.requires.apart, c.requires.ready.held.few)) c.clear_words.ensures) c.mark_all.new.scratch c.mark_all.result c.mark_all.auto.scratch c.mark_all.ensures c.gather-m.new.scratch c.gather-m.result c.gather-m.auto.scratch c.gather-m.ensures.outside c.gather-m.ensures.result_after.0)

pub returns : goal.returns
returns c = record {
  interned = interned_over c.args.k.now (collapsed (identity_of (joint_of c.args.joint)) (list_of (joint_of c.args.joint)) (run (words c.gather-m.new.scratch) c.args.marks c.gather-m.result)) (mk_joint (joint_of c.args.joint) (run (words c.args.scratch.now) c.args.at c.args.count)) (words c.gather-m.new.scratch) (words c.args.scratch.now) (words c.collapse.new.scratch) (answer c.collapse.new.k c.collapse.result) c.collapse.ensures.interned
      (joined (joint_of c.args.joint) c.args.scratch.now c.clear_words.new.s c.args.k.now c.args.marks c.args.at c.args.count c.requires c.clear_words.auto.s (cleared c.args.marks c.args.k.now.concepts (words c.args.scratch.now) (words c.clear_words.new.s) c.requires.ready.held.few (omega (arith, length_words c.args.scratch.now, c.requires.within, c.requires.apart, c.requires.ready.held.few)) c.clear_words.ensures) c.mark_all.new.scratch c.mark_all.result c.mark_all.auto.scratch c.mark_all.ensures c.gather-m.new.scratch c.gather-m.result c.gather-m.auto.scratch c.gather-m.ensures.outside c.gather-m.ensures.result_after.0 c.if-mark_all.false);
  beside = beside (outside3 (joint_of c.args.joint) c.args.scratch.now c.clear_words.new.s c.args.k.now c.args.marks c.args.at c.args.count c.requires c.clear_words.auto.s (cleared c.args.marks c.args.k.now.concepts (words c.args.scratch.now) (words c.clear_words.new.s) c.requires.ready.held.few (omega (arith, length_words c.args.scratch.now, c.requires.within, c.requires.apart, c.requires.ready.held.few)) c.clear_words.ensures) c.mark_all.new.scratch c.mark_all.result c.mark_all.auto.scratch c.mark_all.ensures c.gather-m.new.scratch c.gather-m.result c.gather-m.auto.scratch c.gather-m.ensures.outside c.gather-m.ensures.result_after.0) c.requires.above (words c.collapse.new.scratch) c.collapse.ensures.scratch_unchanged;
}
