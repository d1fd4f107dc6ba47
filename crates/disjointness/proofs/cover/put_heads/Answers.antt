use borrow.Author.Rules.{rules}
use Prim.Native.Nat.{◌+◌, ◌*◌, ◌≤◌}
use mathlib.Core.Path.{refl}
use native.Mathlib.Omega.{arith}
use lib.ListN.{length}
use Rattle.words.specs.Words.{words}
use Rattle.words.specs.Laws.{length_words}
use Rattle.heads.specs.FrameLaws.{reading_kept}
use Rattle.disjointness.specs.CoverLaws.{heads_start, m_small, heads_missing, heads_long, heads_next, heads_all}
use Rattle.disjointness.proofs.cover.put_heads.Goals as goal

pub loop-i-init : goal.loop-i-init
loop-i-init c = (heads_start c.args.k c.args.at c.args.count (words c.args.scratch.now), refl)

pub class_id_of-requires : goal.class_id_of-requires
class_id_of-requires c = let L = c.loop-i in (
  reading_kept c.args.scratch.now L.scratch c.args.k 13501 c.requires.0 (omega arith) L.invariant.0.frame L.invariant.1,
  m_small c.args.k c.args.at c.args.count (words c.args.scratch.now) (words L.scratch) L.i _ c.requires.0.ready.held c.requires.1 L.invariant.0 c.loop-i-test.true c.get_word-m.ensures,
)

pub returns-then-i-ge256 : goal.returns-then-i-ge256
returns-then-i-ge256 c = let L = c.loop-i in
    heads_long c.args.k c.args.at c.args.count (words c.args.scratch.now) (words L.scratch) L.i _ c.requires.0.ready.held c.requires.1 L.invariant.0 c.loop-i-test.true c.get_word-m.ensures _ c.class_id_of.ensures.result_value c.in-Some.a c.in-Some.is c.if-i-ge256.true

pub put_atom-requires : goal.put_atom-requires
put_atom-requires c = let L = c.loop-i in let h = c.if-i-ge256.false in
    let z = c.in-Some.ensures.small_class in (omega (arith, h, c.requires.2, L.invariant.1), omega (arith, z))

pub returns-in_default : goal.returns-in_default
returns-in_default c = let L = c.loop-i in
    heads_missing c.args.k c.args.at c.args.count (words c.args.scratch.now) (words L.scratch) L.i _ c.requires.0.ready.held c.requires.1 L.invariant.0 c.loop-i-test.true c.get_word-m.ensures _ c.class_id_of.ensures.result_value c.in_default.is

pub loop-i-preserved : goal.loop-i-preserved
loop-i-preserved c = let L = c.loop-i in
    let fit : 6 * (13500 + 1 + L.i) + 6 ≤ length (words L.scratch) = omega (arith, length_words L.scratch, c.if-i-ge256.false, c.requires.2, L.invariant.1) in (
      heads_next c.args.k c.args.at c.args.count (words c.args.scratch.now) (words L.scratch) L.i _ c.requires.0.ready.held c.requires.1 L.invariant.0 c.loop-i-test.true c.get_word-m.ensures _ c.class_id_of.ensures.result_value c.in-Some.a c.in-Some.is
          _ c.if-i-ge256.false c.put_atom.ensures fit,
      search rules,
    )

pub returns : goal.returns
returns c = let L = c.loop-i in heads_all c.args.k c.args.at c.args.count (words c.args.scratch.now) (words L.scratch) L.i L.invariant.0 c.loop-i-test.false
