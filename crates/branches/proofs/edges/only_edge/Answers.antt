use native.Mathlib.Omega.{arith}
use mathlib.Core.Bool.{Bool, true, false}
use mathlib.Core.List.{List}
use mathlib.Core.Path.{◌≡◌, refl}
use Prim.Native.Nat.{ℕ, ◌<◌}
use borrow.Author.Tests.{tests}
use Rattle.std.proofs.Common.{rules}
use Rattle.std.specs.Option.{MatchOption}
use Rattle.std.specs.Bool.{MatchBool}
use Rattle.std.proofs.lemmas.Iterator.{YieldsList-from_range, cases_from_any, IsFirst-from_position, serves_from_Range}
use Rattle.words.specs.Words.{words}
use Rattle.ir.specs.declared.atom.Atom.{Atom}
use Rattle.rules.specs.Branches.{is_edge}
use Rattle.branches.specs.Wide.{AtomsAre}
use Rattle.branches.specs.RangeLaws.{any_below, position_below}
use Rattle.branches.specs.KeptLaws.{kind_small, tame_long}
use Rattle.branches.specs.EdgeLaws.{root_test, words_here}
use Rattle.branches.specs.EdgingLaws.{at, Rooted, edge_nowhere, edge_second, edge_alone}
use Rattle.branches.proofs.edges.only_edge.Goals.{After-position, After-any}
use Rattle.branches.proofs.edges.only_edge.Goals as goal

pub any-requires-clause-callable : goal.any-requires-clause-callable
any-requires-clause-callable c =
    let a = c.args in
    let s = a.scratch.now in
    serves_from_Range (λ x q k. search (rules, tests)) (λ x lo hi.
    let long = tame_long s a.atoms.base a.atoms.count x c.requires.0 hi in
    let small = kind_small (words s) a.atoms.base a.atoms.count x c.requires.0 hi in
    search (rules, long, small))

-- atom k is the edge, or it is not
abbrev Edge : (c : After-position) → List Atom → Bool → ℕ → Type 0
Edge c l b k = k < c.args.atoms.count → is_edge c.args.root c.args.t (at l k) ≡ b

first : (c : After-position) (l : List Atom) → AtomsAre (words c.args.scratch.now) c.args.atoms.base c.args.atoms.count l
    → MatchOption c.position.result ((k : ℕ) → k < c.args.atoms.count → Edge c l false k) (λ i. (i < c.args.atoms.count) × Edge c l true i × ((k : ℕ) → k < i → Edge c l false k))
first c l A =
    let a = c.args in
    let n = a.atoms.count in
    position_below n (Edge c l true) (Edge c l false) c.position.result
    (IsFirst-from_position _ _ c.position.result (Edge c l true) (Edge c l false) c.position.ensures.ran (YieldsList-from_range 0 n n refl (omega arith))
    (λ x q k h. let W = words_here (words a.scratch.now) a.atoms.base n x l A h in search (rules, tests, W))
    (λ x q k. (search (rules, tests), λ h. let W = words_here (words a.scratch.now) a.atoms.base n x l A h in search (rules, tests, W))))

-- atom k but atom e mentions the root, or it does not
abbrev Other : (c : After-any) → List Atom → ℕ → Type 0
Other c l k = k < c.args.atoms.count → (k ≡ c.in_ok-e.e → ⊥) × Rooted l c.args.root c.args.t true k

abbrev Quiet : (c : After-any) → List Atom → ℕ → Type 0
Quiet c l k = k < c.args.atoms.count → (k ≡ c.in_ok-e.e → ⊥) → Rooted l c.args.root c.args.t false k

others : (c : After-any) (l : List Atom) → AtomsAre (words c.args.scratch.now) c.args.atoms.base c.args.atoms.count l
    → MatchBool c.any.result ((k : ℕ) × (k < c.args.atoms.count) × Other c l k) ((k : ℕ) → k < c.args.atoms.count → Quiet c l k)
others c l A =
    let a = c.args in
    let n = a.atoms.count in
    any_below n (Other c l) (Quiet c l) c.any.result
    (cases_from_any _ _ c.any.result (Other c l) (Quiet c l) c.any.ensures.ran (YieldsList-from_range 0 n n refl (omega arith))
    (λ x q k h. let W = words_here (words a.scratch.now) a.atoms.base n x l A h in search (rules, tests, root_test, W))
    (λ x q k. (search (rules, tests), λ h d. let W = words_here (words a.scratch.now) a.atoms.base n x l A h in search (rules, tests, root_test, W, d))))

pub returns-in_err-e : goal.returns-in_err-e
returns-in_err-e c =
    let a = c.args in
    λ l A.
    let f = rw c.in_err-e.was at (first (goal.at.returns-in_err-e c).After-position l A) in
    rw c.from_residual.ensures (edge_nowhere l a.root a.t (λ k h. f k (omega (arith, A.long)) (omega (arith, A.long))))

pub returns-then-any : goal.returns-then-any
returns-then-any c =
    let a = c.args in
    λ l A.
    let f = rw c.in_ok-e.was at (first (goal.at.returns-then-any c).After-position l A) in
    let o = rw c.if-any.true at (others (goal.at.returns-then-any c).After-any l A) in
    let x = o.2 o.1 in
    edge_second l a.root a.t c.in_ok-e.e (omega (arith, f.0, A.long)) (f.1 f.0) (λ k h. f.2 k h (omega (arith, f.0))) o.0 (omega (arith, o.1, A.long)) x.0 x.1

pub returns : goal.returns
returns c =
    let a = c.args in
    λ l A.
    let f = rw c.in_ok-e.was at (first (goal.at.returns c).After-position l A) in
    let o = rw c.if-any.false at (others (goal.at.returns c).After-any l A) in
    edge_alone l a.root a.t c.in_ok-e.e (omega (arith, f.0, A.long)) (f.1 f.0) (λ k h d. o k (omega (arith, A.long)) (omega (arith, A.long)) d)
