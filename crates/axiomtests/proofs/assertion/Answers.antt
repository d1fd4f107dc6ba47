use Prim.Native.Nat.{◌≤◌}
use native.Mathlib.Omega.{arith}
use lib.ListN.{length}
use Rattle.words.specs.Words.{words}
use Rattle.words.specs.Laws.{length_words}
use Rattle.axiomtests.proofs.LineLaws.{concept_small}
use Rattle.axiomtests.proofs.ChainArmLaws.{assertion_in, base_in_lem, assertion_broken, assertion_holds}
use Rattle.axiomtests.proofs.assertion.Goals as goal

pub set_of-requires : goal.set_of-requires
set_of-requires c = let P = c.requires in (concept_small P.line _ _ c.get_word-c.ensures (assertion_in P.line).0, P.space)

pub get_set-requires : goal.get_set-requires
get_set-requires c = let P = c.requires in omega (arith, base_in_lem P.line, c.get_word.ensures, P.room)

pub returns-then-named-eq0 : goal.returns-then-named-eq0
returns-then-named-eq0 c =
    let long : 16384 ≤ length (words c.args.store.now) = omega (arith, length_words c.args.store.now, c.requires.room) in
    λ d I L. assertion_broken L _ _ _ _ _ c.get_word-c.ensures c.get_word.ensures c.set_of.ensures c.get_set.ensures long c.both-named.ensures c.if-named-eq0.true

pub returns : goal.returns
returns c =
    let long : 16384 ≤ length (words c.args.store.now) = omega (arith, length_words c.args.store.now, c.requires.room) in
    λ d I L. assertion_holds L _ _ _ _ _ c.get_word-c.ensures c.get_word.ensures c.set_of.ensures c.get_set.ensures long c.both-named.ensures c.if-named-eq0.false
