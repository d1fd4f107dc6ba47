use Rattle.pool.proofs.Making.{bare}
use Rattle.pool.proofs.make.intern_bare.Goals as goal

pub intern_raw-requires : goal.intern_raw-requires
intern_raw-requires c =
    let b = bare c.args.kind c.requires.1 c.requires.2 in
    rw c.new.ensures (c.requires.0, b.flat, b.plain, b.parts c.args.k.now.concepts)

pub returns : goal.returns
returns c = record {
  interned = rw c.new.ensures at c.intern_raw.ensures.interned;
  scratch_unchanged = c.intern_raw.ensures.scratch_unchanged;
}
