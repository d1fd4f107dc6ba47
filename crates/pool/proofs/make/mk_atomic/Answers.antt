use mathlib.Core.Path.{refl}
use Prim.{tt}
use Rattle.pool.specs.Layout.{concept_from}
use Rattle.pool.proofs.make.mk_atomic.Goals as goal

pub intern_raw-requires : goal.intern_raw-requires
unfolding concept_from
intern_raw-requires c = rw c.new.ensures (c.requires, refl, refl, tt)

pub returns : goal.returns
unfolding concept_from
returns c = record {
  interned = rw c.new.ensures at c.intern_raw.ensures.interned;
  scratch_unchanged = c.intern_raw.ensures.scratch_unchanged;
}
