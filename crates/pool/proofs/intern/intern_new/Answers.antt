use native.Mathlib.Omega.{arith}
use mathlib.Core.Path.{refl, ◌∙◌}
use Rattle.words.specs.Words.{words}
use Rattle.pool.specs.Layout.{count_of}
use Rattle.pool.specs.Layout.{concept_over}
use Rattle.pool.proofs.Interning.{width_over, full, long, interned_new}
use Rattle.pool.proofs.intern.intern_new.Goals as goal
use Rattle.pool.proofs.intern.intern_new.Goals.{then-n-ge-MOST_CONCEPTS-via-then-n-ge-MOST_CONCEPTS, then-n-ge-MOST_CONCEPTS-via-else-n-ge-MOST_CONCEPTS+then-k-count-gt-MOST_MEMBERS}

pub returns-then-n-ge-MOST_CONCEPTS-clause-interned : goal.returns-then-n-ge-MOST_CONCEPTS-clause-interned
returns-then-n-ge-MOST_CONCEPTS-clause-interned c =
    let w = words c.args.scratch.now in
    let e = concept_over w c.args.at c.args.x in
    let H = c.requires.ready.0.held in
    elim c.then-n-ge-MOST_CONCEPTS.branch [
      | then-n-ge-MOST_CONCEPTS-via-then-n-ge-MOST_CONCEPTS v ↦ full w c.args.k.now e H c.requires.concepts_value v.if-n-ge-MOST_CONCEPTS.true
      | then-n-ge-MOST_CONCEPTS-via-else-n-ge-MOST_CONCEPTS+then-k-count-gt-MOST_MEMBERS v ↦ long w c.args.k.now e H c.requires.concepts_value v.if-n-ge-MOST_CONCEPTS.false (omega (arith, width_over w c.args.k.now c.args.at c.args.x c.requires.ready.1.plain, c.count-count.ensures, v.if-k-count-gt-MOST_MEMBERS.true))
    ]

pub add-requires : goal.add-requires
add-requires c = record {
  ready = c.requires.ready;
  concepts_lt_most_concepts = (c.if-n-ge-MOST_CONCEPTS.false, omega (arith, c.if-k-count-gt-MOST_MEMBERS.false, c.count-count.ensures));
  each = c.requires.each;
  concepts_value = c.requires.concepts_value;
}

pub returns : goal.returns
returns c = record {
  interned = interned_new (words c.args.scratch.now) c.args.k.now (concept_over (words c.args.scratch.now) c.args.at c.args.x) c.requires.ready.0.held c.requires.concepts_value c.if-n-ge-MOST_CONCEPTS.false (omega (arith, width_over (words c.args.scratch.now) c.args.k.now c.args.at c.args.x c.requires.ready.1.plain, c.count-count.ensures, c.if-k-count-gt-MOST_MEMBERS.false)) (count_of c.args.x) (width_over (words c.args.scratch.now) c.args.k.now c.args.at c.args.x c.requires.ready.1.plain) _ c.add.ensures _ (c.intern.ensures ∙ rw c.count-count.ensures refl);
  scratch_unchanged = c.add.ensures.frame;
}
