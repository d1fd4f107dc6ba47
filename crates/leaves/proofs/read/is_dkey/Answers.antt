use mathlib.Core.Path.{◌∙◌, sym}
use Rattle.std.proofs.Common.{le-ltb}
use Rattle.leaves.proofs.read.is_dkey.Goals as goal

pub returns-then-a-lt4096 : goal.returns-then-a-lt4096
returns-then-a-lt4096 c = λ env E. c.is_key.ensures ∙ E.keys.marked _ c.if-a-lt4096.true

pub returns-else-a-lt4096 : goal.returns-else-a-lt4096
returns-else-a-lt4096 c = λ env E. le-ltb c.args.a 4096 c.if-a-lt4096.false ∙ sym (E.no_keys _ c.if-a-lt4096.false)
