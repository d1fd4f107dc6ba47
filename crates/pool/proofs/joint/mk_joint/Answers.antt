use Rattle.ir.specs.Answer.{answer}
use mathlib.Core.Path.{sym, subst}
use Rattle.words.specs.Words.{words}
use Rattle.rules.specs.Pool.{intern_raw}
use Rattle.rules.specs.JointLaws.{mk_joint}
use Rattle.pool.specs.Layout.{run, pool_of}
use Rattle.pool.specs.Joints.{joint_of, annihilator_of, operand_in}
use Rattle.pool.specs.Insertion.{Surveyed}
use Rattle.pool.proofs.Marking.{outside_refl}
use Rattle.pool.proofs.Joining.{interned_over, beside, mk_short}
use Rattle.pool.proofs.joint.mk_joint.Goals as goal

pub survey-requires : goal.survey-requires
survey-requires c = c.requires

pub annihilate-requires : goal.annihilate-requires
annihilate-requires c = c.requires.ready

pub mk_short-requires : goal.mk_short-requires
mk_short-requires c = record {
  operands = c.requires;
  count_value = subst (Surveyed (operand_in (joint_of c.args.joint) (pool_of (words c.args.scratch.now) c.args.k.now.concepts)) (run (words c.args.scratch.now) c.args.at c.args.count)) c.in-Short.is c.survey.ensures;
}

pub mk_long-requires : goal.mk_long-requires
mk_long-requires c = c.requires

pub returns-in-Annihilated : goal.returns-in-Annihilated
returns-in-Annihilated c = record {
  interned = interned_over c.args.k.now (intern_raw (annihilator_of (joint_of c.args.joint))) (mk_joint (joint_of c.args.joint) (run (words c.args.scratch.now) c.args.at c.args.count)) (words c.args.scratch.now) (words c.args.scratch.now) (words c.annihilate.new.scratch) (answer c.annihilate.new.k c.annihilate.result) c.annihilate.ensures.interned (sym (mk_short (joint_of c.args.joint) (run (words c.args.scratch.now) c.args.at c.args.count) (pool_of (words c.args.scratch.now) c.args.k.now.concepts) (subst (Surveyed (operand_in (joint_of c.args.joint) (pool_of (words c.args.scratch.now) c.args.k.now.concepts)) (run (words c.args.scratch.now) c.args.at c.args.count)) c.in-Annihilated.is c.survey.ensures)));
  beside = beside (outside_refl c.args.marks (words c.args.scratch.now)) c.requires.above (words c.annihilate.new.scratch) c.annihilate.ensures.scratch_unchanged;
}

pub returns-in-Short : goal.returns-in-Short
returns-in-Short c = c.mk_short.ensures

pub returns-in-Long : goal.returns-in-Long
returns-in-Long c = c.mk_long.ensures
