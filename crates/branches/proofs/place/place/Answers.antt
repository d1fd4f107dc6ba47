use native.Mathlib.Omega.{arith}
use mathlib.Core.Path.{◌≡◌, refl}
use mathlib.Core.List.{List}
use Prim.Native.Nat.{ℕ, ◌+◌, ◌≤◌, ◌<◌}
use lib.ListN.{length, get_or}
use borrow.Author.Tests.{tests}
use Rattle.std.proofs.Common.{rules}
use Rattle.std.specs.Prelude.{Option, Some, None}
use Rattle.std.specs.Option.{MatchOption}
use Rattle.std.proofs.lemmas.Iterator.{YieldsList-from_range, IsFirst-from_position}
use Rattle.words.specs.Words.{words}
use Rattle.words.specs.Laws.{length_words}
use Rattle.branches.specs.Places.{PlaceIs}
use Rattle.branches.specs.RangeLaws.{position_below}
use Rattle.branches.specs.Renumbered.{run}
use Rattle.branches.specs.PlaceLaws.{place_first, place_nowhere}
use Rattle.branches.proofs.place.place.Goals as goal

module _ (w : List ℕ) (m n v : ℕ) (long : m + n ≤ length w) where
  abbrev Yes : ℕ → Type 0
  Yes k = get_or w (m + k) 0 ≡ v

  abbrev No : ℕ → Type 0
  No k = Yes k → ⊥

  answered : (r : Option ℕ) → MatchOption r ((k : ℕ) → k < n → No k) (λ i. (i < n) × Yes i × ((k : ℕ) → k < i → No k)) → PlaceIs (run w m n) v r
  answered None f = place_nowhere w m n v long f
  answered (Some i) p = place_first w m n v long i p.0 p.1 p.2

pub returns : goal.returns
returns c =
    let a = c.args in
    let w = words a.scratch.now in
    let long : a.at + a.n ≤ length w = omega (arith, c.requires, length_words a.scratch.now) in
    let yes = Yes w a.at a.n a.v long in
    let no = No w a.at a.n a.v long in
    answered w a.at a.n a.v long c.position.result
    (position_below a.n yes no c.position.result (IsFirst-from_position _ _ c.position.result yes no c.position.ensures.ran (YieldsList-from_range 0 a.n a.n refl (omega arith)) (λ x q k. search (rules, tests)) (λ x q k. search (rules, tests))))
