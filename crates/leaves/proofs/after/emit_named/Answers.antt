use mathlib.Core.Path.{◌∙◌, sym}
use Rattle.words.specs.Words.{words}
use Rattle.pool.specs.Layout.{concept_at, pool_of}
use Rattle.leaves.specs.NamedLaws.{named_dropped, named_pushed}
use Rattle.leaves.proofs.after.emit_named.Goals as goal

pub returns-then-drops_head : goal.returns-then-drops_head
returns-then-drops_head c = let A = c.args in let w = words A.scratch.now in λ d. named_dropped A.k.now A.base A.n A.v (pool_of w A.k.now.concepts) (concept_at w A.c) A.q _ c.requires.3 c.requires.2 (λ env E. sym (c.drops_head.ensures env E) ∙ c.if-drops_head.true)

pub returns : goal.returns
returns c = let A = c.args in let w = words A.scratch.now in let q = c.filler_atom-head in λ d. named_pushed A.k.now A.base A.n A.v (pool_of w A.k.now.concepts) (concept_at w A.c) A.q _ _ _ q.result c.requires.2 (λ env E. sym (c.drops_head.ensures env E) ∙ c.if-drops_head.false) q.ensures.value (c.push_one.ensures d)
