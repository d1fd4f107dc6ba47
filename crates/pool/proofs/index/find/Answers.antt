use native.Mathlib.Omega.{arith}
use mathlib.Core.Path.{refl, sym, ap, ◌∙◌}
use Rattle.words.specs.Words.{words}
use Rattle.pool.specs.Layout.{concept_over}
use Rattle.pool.specs.Held.{link_word}
use Rattle.pool.proofs.Chain.{hash_over, chase_first, chase_yes, chase_less, chase_on, chase_end}
use Rattle.pool.proofs.index.find.Goals as goal

pub loop-next-init : goal.loop-next-init
loop-next-init c = chase_first (words c.args.scratch.now) c.args.k.concepts c.args.k.members (concept_over (words c.args.scratch.now) c.args.at c.args.x) c.requires.0.held c.hash.result (link_word c.head-next.result) (c.hash.ensures.0 ∙ hash_over (words c.args.scratch.now) c.args.at c.args.x c.requires.1.plain) c.hash.ensures.1 c.head-next.ensures

pub returns-then-same : goal.returns-then-same
returns-then-same c = chase_yes (words c.args.scratch.now) c.args.k.concepts c.args.k.members (concept_over (words c.args.scratch.now) c.args.at c.args.x) c.requires.0.held (link_word c.loop-next.next) c.in-Some.c c.loop-next.invariant (ap link_word c.in-Some.is) (sym c.same.ensures ∙ c.if-same.true)

pub loop-next-smaller : goal.loop-next-smaller
loop-next-smaller c = let q = chase_less (words c.args.scratch.now) c.args.k.concepts c.args.k.members (concept_over (words c.args.scratch.now) c.args.at c.args.x) c.requires.0.held (link_word c.loop-next.next) c.in-Some.c c.loop-next.invariant (ap link_word c.in-Some.is) (link_word c.link-next.result) c.link-next.ensures in omega (arith, q, ap link_word c.in-Some.is)

pub loop-next-preserved : goal.loop-next-preserved
loop-next-preserved c = chase_on (words c.args.scratch.now) c.args.k.concepts c.args.k.members (concept_over (words c.args.scratch.now) c.args.at c.args.x) c.requires.0.held (link_word c.loop-next.next) c.in-Some.c c.loop-next.invariant (ap link_word c.in-Some.is) (link_word c.link-next.result) c.link-next.ensures (sym c.same.ensures ∙ c.if-same.false)

pub returns : goal.returns
returns c = chase_end (words c.args.scratch.now) c.args.k.concepts (concept_over (words c.args.scratch.now) c.args.at c.args.x) 0 (rw c.in_default.is at c.loop-next.invariant) refl
