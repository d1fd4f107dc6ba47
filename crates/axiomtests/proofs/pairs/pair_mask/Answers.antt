use mathlib.Core.Path.{sym, subst}
use Prim.Native.Nat.{ℕ}
use native.Mathlib.Omega.{arith}
use Rattle.words.specs.Words.{words}
use Rattle.axiomtests.specs.Lines.{LineIn, Behind}
use Rattle.axiomtests.proofs.KindLaws.{last_pair}
use Rattle.axiomtests.proofs.pairs.pair_mask.Goals as goal

pub domain-requires : goal.domain-requires
domain-requires c = (subst (λ (k : ℕ). LineIn c.args.scratch.now c.args.t k c.args.line.at c.args.line.count) c.in-25.is c.requires.0, c.requires.2)

pub returns-in-25 : goal.returns-in-25
returns-in-25 c = subst (λ (k : ℕ). Behind (words c.args.scratch.now) c.args.t k c.args.line.at c.args.line.count c.args.x c.domain.result) (sym c.in-25.is) c.domain.ensures

pub range-requires : goal.range-requires
range-requires c = (subst (λ (k : ℕ). LineIn c.args.scratch.now c.args.t k c.args.line.at c.args.line.count) c.in-26.is c.requires.0, c.requires.2)

pub returns-in-26 : goal.returns-in-26
returns-in-26 c = subst (λ (k : ℕ). Behind (words c.args.scratch.now) c.args.t k c.args.line.at c.args.line.count c.args.x c.range.result) (sym c.in-26.is) c.range.ensures

pub asymmetric-requires : goal.asymmetric-requires
asymmetric-requires c = (subst (λ (k : ℕ). LineIn c.args.scratch.now c.args.t k c.args.line.at c.args.line.count) c.in-30.is c.requires.0, c.requires.2)

pub returns-in-30 : goal.returns-in-30
returns-in-30 c = subst (λ (k : ℕ). Behind (words c.args.scratch.now) c.args.t k c.args.line.at c.args.line.count c.args.x c.asymmetric.result) (sym c.in-30.is) c.asymmetric.ensures

pub disjoint_roles-requires : goal.disjoint_roles-requires
disjoint_roles-requires c = (subst (λ (k : ℕ). LineIn c.args.scratch.now c.args.t k c.args.line.at c.args.line.count) c.in-31.is c.requires.0, c.requires.2)

pub returns-in-31 : goal.returns-in-31
returns-in-31 c = subst (λ (k : ℕ). Behind (words c.args.scratch.now) c.args.t k c.args.line.at c.args.line.count c.args.x c.disjoint_roles.result) (sym c.in-31.is) c.disjoint_roles.ensures

pub inverse-requires : goal.inverse-requires
inverse-requires c = (subst (λ (k : ℕ). LineIn c.args.scratch.now c.args.t k c.args.line.at c.args.line.count) c.in-32.is c.requires.0, c.requires.2)

pub returns-in-32 : goal.returns-in-32
returns-in-32 c = subst (λ (k : ℕ). Behind (words c.args.scratch.now) c.args.t k c.args.line.at c.args.line.count c.args.x c.inverse.result) (sym c.in-32.is) c.inverse.ensures

pub sub_role-requires : goal.sub_role-requires
sub_role-requires c = (subst (λ (k : ℕ). LineIn c.args.scratch.now c.args.t k c.args.line.at c.args.line.count) c.in-33.is c.requires.0, c.requires.2)

pub returns-in-33 : goal.returns-in-33
returns-in-33 c = subst (λ (k : ℕ). Behind (words c.args.scratch.now) c.args.t k c.args.line.at c.args.line.count c.args.x c.sub_role.result) (sym c.in-33.is) c.sub_role.ensures

pub equivalent_roles-requires : goal.equivalent_roles-requires
equivalent_roles-requires c = (subst (λ (k : ℕ). LineIn c.args.scratch.now c.args.t k c.args.line.at c.args.line.count) (last_pair c.args.line.kind c.requires.1 (λ e. omega arith) (λ e. omega arith) (λ e. omega arith) (λ e. omega arith) (λ e. omega arith) (λ e. omega arith)) c.requires.0, c.requires.2)

pub returns-in_default : goal.returns-in_default
returns-in_default c = subst (λ (k : ℕ). Behind (words c.args.scratch.now) c.args.t k c.args.line.at c.args.line.count c.args.x c.equivalent_roles.result) (sym (last_pair c.args.line.kind c.requires.1 (λ e. omega arith) (λ e. omega arith) (λ e. omega arith) (λ e. omega arith) (λ e. omega arith) (λ e. omega arith))) c.equivalent_roles.ensures
