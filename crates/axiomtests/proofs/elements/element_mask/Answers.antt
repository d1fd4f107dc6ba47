use mathlib.Core.Path.{sym, subst}
use Prim.Native.Nat.{ℕ}
use native.Mathlib.Omega.{arith}
use Rattle.words.specs.Words.{words}
use Rattle.axiomtests.specs.Lines.{LineIn, LineThere, Elements}
use Rattle.axiomtests.proofs.LineLaws.{there_in}
use Rattle.axiomtests.proofs.KindLaws.{last_element}
use Rattle.axiomtests.proofs.elements.element_mask.Goals as goal

pub sub_class-requires : goal.sub_class-requires
sub_class-requires c = subst (λ (k : ℕ). LineIn c.args.scratch.now c.args.t k c.args.line.at c.args.line.count) c.in-21.is (there_in _ _ _ _ _ _ c.requires.0)

pub returns-in-21 : goal.returns-in-21
returns-in-21 c = subst (λ (k : ℕ). Elements (words c.args.store.now) (words c.args.scratch.now) c.args.t k c.args.line.at c.args.line.count c.sub_class.result) (sym c.in-21.is) (c.sub_class.ensures (words c.args.store.now))

pub equivalent-requires : goal.equivalent-requires
equivalent-requires c = subst (λ (k : ℕ). LineIn c.args.scratch.now c.args.t k c.args.line.at c.args.line.count) c.in-22.is (there_in _ _ _ _ _ _ c.requires.0)

pub returns-in-22 : goal.returns-in-22
returns-in-22 c = subst (λ (k : ℕ). Elements (words c.args.store.now) (words c.args.scratch.now) c.args.t k c.args.line.at c.args.line.count c.equivalent.result) (sym c.in-22.is) (c.equivalent.ensures (words c.args.store.now))

pub disjoint-requires : goal.disjoint-requires
disjoint-requires c = subst (λ (k : ℕ). LineIn c.args.scratch.now c.args.t k c.args.line.at c.args.line.count) c.in-23.is (there_in _ _ _ _ _ _ c.requires.0)

pub returns-in-23 : goal.returns-in-23
returns-in-23 c = subst (λ (k : ℕ). Elements (words c.args.store.now) (words c.args.scratch.now) c.args.t k c.args.line.at c.args.line.count c.disjoint.result) (sym c.in-23.is) (c.disjoint.ensures (words c.args.store.now))

pub disjoint_union-requires : goal.disjoint_union-requires
disjoint_union-requires c = subst (λ (k : ℕ). LineThere c.args.store.now c.args.scratch.now c.args.t k c.args.line.at c.args.line.count) c.in-24.is c.requires.0

pub returns-in-24 : goal.returns-in-24
returns-in-24 c = subst (λ (k : ℕ). Elements (words c.args.store.now) (words c.args.scratch.now) c.args.t k c.args.line.at c.args.line.count c.disjoint_union.result) (sym c.in-24.is) c.disjoint_union.ensures

pub irreflexive-requires : goal.irreflexive-requires
irreflexive-requires c = subst (λ (k : ℕ). LineIn c.args.scratch.now c.args.t k c.args.line.at c.args.line.count) c.in-29.is (there_in _ _ _ _ _ _ c.requires.0)

pub returns-in-29 : goal.returns-in-29
returns-in-29 c = subst (λ (k : ℕ). Elements (words c.args.store.now) (words c.args.scratch.now) c.args.t k c.args.line.at c.args.line.count c.irreflexive.result) (sym c.in-29.is) (c.irreflexive.ensures (words c.args.store.now))

pub reflexive-requires : goal.reflexive-requires
reflexive-requires c =
    subst (λ (k : ℕ). LineIn c.args.scratch.now c.args.t k c.args.line.at c.args.line.count) (last_element c.args.line.kind c.requires.1 (λ e. omega arith) (λ e. omega arith) (λ e. omega arith) (λ e. omega arith) (λ e. omega arith)) (there_in _ _ _ _ _ _ c.requires.0)

pub returns-in_default : goal.returns-in_default
returns-in_default c =
    subst (λ (k : ℕ). Elements (words c.args.store.now) (words c.args.scratch.now) c.args.t k c.args.line.at c.args.line.count c.reflexive.result) (sym (last_element c.args.line.kind c.requires.1 (λ e. omega arith) (λ e. omega arith) (λ e. omega arith) (λ e. omega arith) (λ e. omega arith))) (c.reflexive.ensures (words c.args.store.now))
