use mathlib.Core.Path.{sym, subst}
use Prim.Native.Nat.{ℕ}
use native.Mathlib.Omega.{arith}
use Rattle.words.specs.Words.{words}
use Rattle.axiomtests.specs.Breaking.{least_in}
use Rattle.axiomtests.specs.Lines.{LineThere, Broken}
use Rattle.axiomtests.proofs.KindLaws.{last_kind}
use Rattle.axiomtests.proofs.row_broken.Goals as goal

pub assertion-requires : goal.assertion-requires
assertion-requires c =
    subst (λ (k : ℕ). LineThere c.args.store.now c.args.scratch.now c.args.t k c.args.line.at c.args.line.count) (last_kind c.args.line.kind c.requires.line.section (λ a b. grind arith)) c.requires

pub returns-in-27-clause-broken : goal.returns-in-27-clause-broken
returns-in-27-clause-broken c = c.chain.ensures.by_index (words c.args.store.now)

pub returns-in-25-clause-broken : goal.returns-in-25-clause-broken
returns-in-25-clause-broken c = c.pair.ensures.by_index (words c.args.store.now)

pub returns-in_default-clause-broken : goal.returns-in_default-clause-broken
returns-in_default-clause-broken c =
    subst (λ (k : ℕ). Broken (words c.args.store.now) (words c.args.scratch.now) c.args.t k c.args.line.at c.args.line.count (least_in (words c.args.scratch.now) c.assertion.result)) (sym (last_kind c.args.line.kind c.requires.line.section (λ a b. grind arith))) c.assertion.ensures
