use mathlib.Core.Bool.{true, false}
use mathlib.Core.List.{List}
use mathlib.Core.Path.{◌≡◌, refl, sym, ap, ◌∙◌}
use Prim.Native.Nat.{ℕ, ◌+◌, ◌-◌, ◌≤◌}
use native.Mathlib.Omega.{arith}
use lib.ListN.{length, get_or, drop, length-drop}
use lib.Seq.{get_or-drop}
use borrow.Author.Tests.{tests}
use Rattle.std.proofs.Common.{rules}
use Rattle.std.proofs.lemmas.Iterator.{cases_from_any}
use Rattle.std.proofs.lemmas.Iterator.Adapters.{serves_from_places}
use Rattle.words.specs.Words.{words}
use Rattle.words.specs.Laws.{length_words}
use Rattle.rules.specs.State.{Clause}
use Rattle.rules.specs.Reflexive.{same_clause}
use Rattle.tables.specs.Tabled.{no_clause}
use Rattle.tables.specs.ClauseLaws.{there_at, clause_at, tabled_long}
use Rattle.contraction.specs.SearchLaws.{yields_down, down_in, Tested, any_down}
use Rattle.contraction.specs.Sizes.{other_size}
use Rattle.contraction.proofs.clause.is_among.Goals as goal

pub any-requires-clause-callable : goal.any-requires-clause-callable
any-requires-clause-callable c =
    let a = c.args in
    let n = a.to - a.from in
    let C = words a.clauses.now in
    let A = words a.atoms.now in
    let Q = c.requires.1 in
    serves_from_places (yields_down a.from a.to n c.rev.ensures.source refl) (λ x q k. search (rules, tests)) (λ i k l e.
    let at = down_in a.from n i k l e in
    let long = tabled_long C A a.to Q.list Q.tabled in
    let there = there_at C A a.to Q i (omega (arith, at, c.requires.2)) in
    let h = length_words a.clauses.now in
    search (rules, tests, at, long, there, h))

here : (l : List Clause) (from i : ℕ) → from ≤ i → get_or (drop from l) (i - from) no_clause ≡ get_or l i no_clause
here l from i h = let e : from + (i - from) ≡ i = omega arith in get_or-drop from l (i - from) no_clause ∙ ap (λ (k : ℕ). get_or l k no_clause) e

pub returns : goal.returns
returns c =
    let a = c.args in
    let n = a.to - a.from in
    let C = words a.clauses.now in
    let A = words a.atoms.now in
    λ l x Q X.
    let few : length (drop a.from l) ≡ n = omega (arith, length-drop a.from l, Q.count) in
    any_down (same_clause x) (drop a.from l) no_clause a.from c.any.result
    (cases_from_any _ _ c.any.result (Tested (same_clause x) (drop a.from l) no_clause a.from true) (Tested (same_clause x) (drop a.from l) no_clause a.from false) c.any.ensures.ran (yields_down a.from a.to (length (drop a.from l)) c.rev.ensures.source (sym few))
    (λ i q t k h.
    let e = here l a.from i k in
    let Y = clause_at C A a.to l Q i (omega (arith, few, h, c.requires.2)) in
    rw e (search (rules, tests, X, Y)))
    (λ i q t. (
      search (rules, tests),
      λ k h.
          let e = here l a.from i k in
          let Y = clause_at C A a.to l Q i (omega (arith, few, h, c.requires.2)) in
          let other = other_size C A i (get_or l i no_clause) Y (words a.scratch.now) a.hand.body a.hand.head x X in
          rw e (search (rules, tests, X, Y, other)),
    )))
