use mathlib.Core.Path.{refl}
use Prim.{tt}
use Rattle.ir.specs.Roles.{code_role}
use Rattle.pool.specs.Layout.{concept_from}
use Rattle.pool.proofs.make.mk_max.Goals as goal

pub intern_raw-requires : goal.intern_raw-requires
unfolding concept_from
intern_raw-requires c = rw c.new.ensures (c.requires.0, refl, rw (code_role c.args.role) refl, (c.requires.1, tt))

pub returns : goal.returns
unfolding concept_from
returns c = record {
  interned = rw c.new.ensures at c.intern_raw.ensures.interned;
  scratch_unchanged = c.intern_raw.ensures.scratch_unchanged;
}
