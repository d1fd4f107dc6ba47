use mathlib.Core.Path.{refl, sym}
use Rattle.words.specs.Words.{words}
use Rattle.pool.specs.Layout.{concept_over}
use Rattle.pool.proofs.Interning.{found}
use Rattle.pool.proofs.intern.intern.Goals as goal

pub intern_new-requires : goal.intern_new-requires
intern_new-requires c = record {
  ready = c.requires.ready;
  each = c.requires.each;
  concepts_value = sym (rw c.in-None.is at c.find.ensures);
}

pub returns-in-Some : goal.returns-in-Some
returns-in-Some c = record {
  interned = found (words c.args.scratch.now) c.args.k.now (concept_over (words c.args.scratch.now) c.args.at c.args.x) c.requires.ready.0.held c.in-Some.c (rw c.in-Some.is at c.find.ensures);
  scratch_unchanged = refl;
}

pub returns-in-None : goal.returns-in-None
returns-in-None c = c.intern_new.ensures
