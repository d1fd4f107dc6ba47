use borrow.Author.Tests.{not-true, not-false}
use Prim.Native.Nat.{suc, ◌≤◌}
use mathlib.Core.Path.{sym, ◌∙◌}
use native.Mathlib.Omega.{arith}
use lib.ListN.{length}
use Rattle.words.specs.Words.{words}
use Rattle.words.specs.Laws.{length_words, words_long}
use Rattle.rules.specs.Branches.{head_vars}
use Rattle.branches.specs.Layout.{work_words}
use Rattle.decomposition.specs.PlainLaws.{other}
use Rattle.decomposition.specs.OneLaws.{one_narrow, one_named}
use Rattle.decomposition.specs.CopiedLaws.{body_there, held_still, there_still, keep_still, tame_there}
use Rattle.decomposition.proofs.one.decompose_one.Goals as goal

pub returns-then-not-is_wide : goal.returns-then-not-is_wide
returns-then-not-is_wide c =
    λ x z B H N. one_narrow (words c.args.scratch.now) c.args.s x z (sym (not-true _ c.if-not-is_wide.true-raw) ∙ c.is_wide.ensures x.body B) N

pub name_branches-requires : goal.name_branches-requires
name_branches-requires c =
    let w = words c.args.scratch.now in
    let w1 = words c.head_vars-keep.new.scratch in
    let w2 = words c.copy_words.new.s in
    let P = c.requires.0 in
    let nb = c.atom_room-count.result in
    let few : nb ≤ 256 = omega (arith, c.atom_room-count.ensures, P.body_is.long, P.inside.body_short) in
    let work : work_words ≤ length w = omega (arith, c.requires.3, length_words c.args.scratch.now) in
    let long = words_long c.args.scratch.now c.head_vars-keep.new.scratch c.head_vars-keep.auto.scratch in
    let x = P.clause in
    let plain = not-true (other x.body) (sym (c.is_plain.ensures x.body P.body_is) ∙ not-false _ c.if-not-is_plain.false-raw) in (
      tame_there c.args.body.now nb w w1 w2 c.atom_room-count.ensures few long work c.head_vars-keep.ensures.upper_bound.1 c.copy_words.ensures c.args.head.now P plain,
      few,
      omega arith,
      omega arith,
      there_still c.args.body.now nb w w1 w2 c.atom_room-count.ensures few long work c.head_vars-keep.ensures.upper_bound.1 c.copy_words.ensures x.body P.body_is c.args.s c.requires.1,
      c.requires.2,
      c.head_vars-keep.ensures.upper_bound.0,
      omega (arith, c.requires.3, c.head_vars-keep.auto.scratch, c.copy_words.auto.s),
    )

pub returns : goal.returns
returns c =
    let w = words c.args.scratch.now in
    let w1 = words c.head_vars-keep.new.scratch in
    let w2 = words c.copy_words.new.s in
    let P = c.requires.0 in
    let nb = c.atom_room-count.result in
    let few : nb ≤ 256 = omega (arith, c.atom_room-count.ensures, P.body_is.long, P.inside.body_short) in
    let work : work_words ≤ length w = omega (arith, c.requires.3, length_words c.args.scratch.now) in
    let long = words_long c.args.scratch.now c.head_vars-keep.new.scratch c.head_vars-keep.auto.scratch in
    λ x z B H N.
    let wide = sym (not-false _ c.if-not-is_wide.false-raw) ∙ c.is_wide.ensures x.body B in
    let plain = not-true (other x.body) (sym (c.is_plain.ensures x.body B) ∙ not-false _ c.if-not-is_plain.false-raw) in
    one_named (words c.name_branches.new.scratch) c.args.s x z nb c.name_branches.result (omega (arith, c.atom_room-count.ensures, B.long)) wide plain
    (c.name_branches.ensures.reduced_by x.body z (head_vars x.head) (suc (length x.body))
    (body_there c.args.body.now nb w w1 w2 c.atom_room-count.ensures few long work c.head_vars-keep.ensures.upper_bound.1 c.copy_words.ensures x.body B)
    (held_still c.args.body.now nb w w1 w2 c.atom_room-count.ensures few long work c.head_vars-keep.ensures.upper_bound.1 c.copy_words.ensures x.body B c.args.s z N)
    (keep_still c.args.body.now nb w w1 w2 c.atom_room-count.ensures few long work c.head_vars-keep.ensures.upper_bound.1 c.copy_words.ensures x.body B c.head_vars-keep.result (head_vars x.head) (c.head_vars-keep.ensures.keep_is x.head H))
    (omega (arith, c.atom_room-count.ensures, B.long)))
