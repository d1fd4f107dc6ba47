use Prim.Native.Nat.{◌+◌}
use native.Mathlib.Omega.{arith}
use Rattle.words.specs.Words.{words}
use Rattle.words.specs.Laws.{length_words}
use Rattle.branches.specs.Layout.{renumbered_at}
use Rattle.branches.specs.NewLaws.{new_named, new_stays}
use Rattle.branches.proofs.memo.name_new.Goals as goal

pub returns : goal.returns
returns c =
    let m = c.put_word-2 in
    let v = c.move_words in
    let u = c.put_word in
    let f = c.if-s-count-gt-MOST_NAMED.false in
    let w = words c.args.scratch.now in
    let w1 = words u.new.s in
    let w2 = words v.new.s in
    let w3 = words m.new.s in
    let k = 0 + c.args.s.used in record {
      named_by = λ body z D H e.
          new_named renumbered_at w w3 c.args.s c.args.count body z D H w1 w2 k c.args.h (omega arith) u.ensures v.ensures m.ensures c.requires.4
          (omega (arith, c.requires.5)) (omega (arith, c.requires.1, c.requires.3, length_words c.args.scratch.now)) c.requires.1 f e;
      by_index = λ j h. new_stays w w1 w2 w3 k renumbered_at c.args.count c.args.h u.ensures v.ensures m.ensures c.requires.5 (omega (arith, f)) (omega (arith, c.requires.1, c.requires.3, length_words c.args.scratch.now)) (omega (arith, f)) j h;
    }
