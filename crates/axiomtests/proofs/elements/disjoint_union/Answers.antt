use Rattle.std.proofs.Common.{true, rules}
use mathlib.Core.List.{List}
use Prim.Native.Nat.{ℕ, ◌+◌, ◌-◌}
use native.Mathlib.Omega.{arith}
use borrow.Author.Tests.{leb-true}
use Rattle.words.specs.Laws.{length_words}
use Rattle.rules.specs.Semantics.{means}
use Rattle.extents.specs.declared.Trial.{Trial}
use Rattle.axiomtests.specs.Lines.{LineThere}
use Rattle.axiomtests.specs.Lists.{SetsIn}
use Rattle.axiomtests.proofs.LineLaws.{concept_sets, concepts_of, concepts_there}
use Rattle.axiomtests.proofs.ArmLaws.{union_in, union_set}
use Rattle.axiomtests.proofs.elements.disjoint_union.Goals as goal

members_there : (store s : List ℕ) (t : Trial) (at count : ℕ) → LineThere store s t 24 at count → SetsIn s (concept_sets (at + 2) (count - 2))
members_there store s t at count P =
    let two = leb-true 2 count P.line.fields in
    concepts_there s P.line P.space (at + 2) (count - 2) (omega (arith, P.line.below)) (union_in P.line).1

pub get_set-requires : goal.get_set-requires
get_set-requires c = let L = c.requires.line in omega (arith, c.get_word-class.ensures, (union_in L).0, L.ready.inside.classes, c.requires.room)

pub some-requires : goal.some-requires
some-requires c = rw c.of_concepts-l.ensures (members_there _ _ _ _ _ c.requires)

pub clashes-requires-clause-there : goal.clashes-requires-clause-there
clashes-requires-clause-there c = rw c.of_concepts-l.ensures (members_there _ _ _ _ _ c.requires)

pub returns : goal.returns
returns c =
    let from = c.args.line.at + 2 in
    let n = c.args.line.count - 2 in
    let long = length_words c.args.store.now in
    let S = rw c.of_concepts-l.ensures at c.some.ensures in
    let K = rw c.of_concepts-l.ensures at c.clashes.ensures in
    λ d I L.
    let M = concepts_of L from n (union_in L).1 in
    union_set L _ _ _ _ _ _ c.get_word-class.ensures c.get_set.ensures (omega (arith, (union_in L).0, L.ready.inside.classes, c.requires.room)) (S I.size (means I d.concepts) M) c.differ-uncovered.ensures (K true (λ a b r p. search rules) I.size (means I d.concepts) M) c.either.ensures
