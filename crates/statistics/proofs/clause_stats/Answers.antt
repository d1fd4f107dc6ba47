use mathlib.Core.Path.{refl}
use native.Mathlib.Omega.{arith}
use Rattle.words.specs.Words.{words}
use Rattle.words.specs.Laws.{length_words}
use Rattle.tables.specs.ClauseLaws.{there_at, tabled_long}
use Rattle.statistics.specs.CountLaws.{within_more, counted_start, counted_within, counted_next, counted_end}
use Rattle.statistics.proofs.clause_stats.Goals as goal

pub loop-i-init : goal.loop-i-init
loop-i-init c =
    let a = c.args in
    let d = c.default.ensures in
    counted_start (words a.clauses.now) (words a.atoms.now) a.n a.deferred a.decomposed _ (rw (d.0, d.1.0, d.1.1.0, d.1.1.1.0, d.1.1.1.1.0, d.1.1.1.1.1.1.1) refl)

pub body_of-body-requires : goal.body_of-body-requires
body_of-body-requires c = let a = c.args in there_at (words a.clauses.now) (words a.atoms.now) a.n c.requires.0 c.loop-i.i c.loop-i-test.true

pub head_of-head-requires : goal.head_of-head-requires
head_of-head-requires c = let a = c.args in there_at (words a.clauses.now) (words a.atoms.now) a.n c.requires.0 c.loop-i.i c.loop-i-test.true

pub add-s-requires : goal.add-s-requires
add-s-requires c =
    let a = c.args in
    let L = c.loop-i in
    let T = c.requires.0 in
    within_more a.n 65536 L.s (omega (arith, (tabled_long (words a.clauses.now) (words a.atoms.now) a.n T.list T.tabled).0, length_words a.clauses.now, c.requires.1.clauses)) (counted_within (words a.clauses.now) (words a.atoms.now) a.n a.deferred a.decomposed L.s L.i L.invariant T)

pub loop-i-preserved : goal.loop-i-preserved
loop-i-preserved c =
    let a = c.args in
    let L = c.loop-i in
    counted_next (words a.clauses.now) (words a.atoms.now) a.n a.deferred a.decomposed L.s L.i L.invariant c.loop-i-test.true c.add-s.result
    (λ x C. c.add-s.ensures x (c.body_of-body.ensures x C) (c.head_of-head.ensures x C))

pub returns : goal.returns
returns c = let a = c.args in let L = c.loop-i in counted_end (words a.clauses.now) (words a.atoms.now) a.n a.deferred a.decomposed L.s L.i L.invariant c.loop-i-test.false
