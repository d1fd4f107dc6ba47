use Rattle.ir.specs.Answer.{answer}
use mathlib.Core.Path.{sym, subst}
use Prim.Native.Nat.{◌<◌}
use Rattle.words.specs.Words.{words}
use Rattle.rules.specs.Pool.{intern_raw}
use Rattle.rules.specs.Concept.{Concept}
use Rattle.rules.specs.Deck.{parts_of}
use Rattle.rules.specs.Invariants.{Each}
use Rattle.pool.specs.Answers.{Interned}
use Rattle.pool.proofs.Making.{raw_over, raw_asked}
use Rattle.pool.proofs.make.intern_raw.Goals as goal

pub intern-requires : goal.intern-requires
intern-requires c = record {
  ready = (c.requires.0, raw_asked c.args.scratch.now c.args.x c.requires.1 c.requires.2);
  each = subst (λ (e : Concept). Each (λ d. d < c.args.k.now.concepts) (parts_of e)) (sym (raw_over (words c.args.scratch.now) c.args.x c.requires.1)) c.requires.3;
}

pub returns : goal.returns
returns c = record {
  interned = subst (λ (e : Concept). Interned c.args.k.now (intern_raw e) (words c.args.scratch.now) (words c.intern.new.scratch) (answer c.intern.new.k c.intern.result)) (raw_over (words c.args.scratch.now) c.args.x c.requires.1) c.intern.ensures.interned;
  scratch_unchanged = c.intern.ensures.scratch_unchanged;
}
