use native.Mathlib.Omega.{arith}
use mathlib.Core.Path.{refl, ◌∙◌}
use Rattle.words.specs.Words.{words}
use Rattle.words.specs.Laws.{length_words}
use Rattle.pool.proofs.Interning.{added}
use Rattle.pool.proofs.intern.add.Goals as goal

pub returns : goal.returns
returns c = added (words c.args.scratch.now) c.args.k c.args.at c.args.x c.requires.ready.1.plain c.requires.ready.0.held c.requires.concepts_lt_most_concepts.0 c.requires.concepts_lt_most_concepts.1 c.requires.each c.requires.concepts_value c.hash-h.result c.hash-h.ensures.0 c.hash-h.ensures.1 _ _ (omega (arith, length_words c.args.scratch.now, c.requires.ready.1.within))
    (c.move_words.ensures ∙ rw c.count-count.ensures refl) (c.put_record.ensures ∙ rw (c.starts_at.ensures, c.count-count.ensures) refl)
