-- And and Or: the code's enum as the rules', and the kinds of their lists, their identities and annihilators.
use Rattle.std.specs.Prelude.{ℕ}
use Rattle.rules.specs.Concept.{Concept, Top, Bot}
use Rattle.rules.specs.Pool.{Pool, at, Operand}
use Rattle.rules.specs.JointLaws.{Joint, conj, disj, operand_of}
use Rattle.pool.specs.declared.joint.Joint.{Joint as CodeJoint}
use Rattle.pool.specs.declared.joint.Joint.TheVariants.{And as AndJoint, Or as OrJoint}

abbrev pub joint_of : CodeJoint → Joint
joint_of AndJoint = conj
joint_of OrJoint = disj

abbrev pub list_kind : Joint → ℕ
list_kind conj = 7
list_kind disj = 8

-- Top and Bot
abbrev pub identity_kind : Joint → ℕ
identity_kind conj = 1
identity_kind disj = 2

abbrev pub annihilator_kind : Joint → ℕ
annihilator_kind conj = 2
annihilator_kind disj = 1

abbrev pub identity_of : Joint → Concept
identity_of conj = Top
identity_of disj = Bot

abbrev pub annihilator_of : Joint → Concept
annihilator_of conj = Bot
annihilator_of disj = Top

-- what concept a of a pool gives to a list
abbrev pub operand_in : Joint → Pool → ℕ → Operand
operand_in j p a = operand_of j (at p a)
