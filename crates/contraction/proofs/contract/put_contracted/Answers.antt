use mathlib.Core.Path.{refl, sym, ap₂, ◌∙◌}
use Prim.Native.Nat.{◌+◌, ◌*◌, ◌/◌, ◌-◌}
use native.Mathlib.Omega.{arith}
use lib.ListN.{length, drop, length-take}
use lib.Seq.{length-take-le}
use Rattle.words.specs.Words.{words}
use Rattle.rules.specs.Reflexive.{kept_var, dropped_var}
use Rattle.contraction.specs.PlainLaws.{plain_front, plain_back}
use Rattle.contraction.specs.ContractLaws.{contract_frame, contract_is}
use Rattle.contraction.proofs.contract.put_contracted.Goals as goal

pub overflow_sub-last : goal.overflow_sub-last
overflow_sub-last c = omega (arith, c.requires.0.run.long, c.requires.2)

pub get_word-src-requires : goal.get_word-src-requires
get_word-src-requires c = omega (arith, c.requires.0.run.long, c.requires.2)

pub get_word-tgt-requires : goal.get_word-tgt-requires
get_word-tgt-requires c = omega (arith, c.requires.0.run.long, c.requires.2)

pub slice_bounds-put_substituted-end : goal.slice_bounds-put_substituted-end
slice_bounds-put_substituted-end c = sym (length-take-le (24 * c.args.i) c.args.body.now (omega (arith, c.requires.2)))

pub put_substituted-requires : goal.put_substituted-requires
put_substituted-requires c =
    let b = c.args.body.now in
    (plain_front b c.requires.0 c.args.i (24 * c.args.i) refl (omega (arith, c.requires.2)), omega (arith, length-take-le (24 * c.args.i) b (omega (arith, c.requires.2)), c.requires.2, c.requires.3, c.requires.5))

pub slice_bounds-put_substituted-count : goal.slice_bounds-put_substituted-count
slice_bounds-put_substituted-count c = omega (arith, c.requires.0.run.long, c.requires.2)

pub slice_bounds-put_substituted-start : goal.slice_bounds-put_substituted-start
slice_bounds-put_substituted-start c = omega (arith, c.requires.0.run.long, c.requires.2)

pub put_substituted-requires-2 : goal.put_substituted-requires-2
put_substituted-requires-2 c =
    let b = c.args.body.now in
    (plain_back b c.requires.0 (c.args.i + 1) (24 * c.args.i + 24) (omega arith) (omega (arith, c.requires.0.run.long, c.requires.2)), omega (arith, length-take (length b - (24 * c.args.i + 24)) (drop (24 * c.args.i + 24) b), c.requires.0.run.long, c.requires.2, c.requires.3, c.requires.5, c.put_substituted.auto.scratch))

pub put_substituted-requires-3 : goal.put_substituted-requires-3
put_substituted-requires-3 c =
    (c.requires.1, omega (arith, c.requires.3, c.requires.4, c.requires.5, c.put_substituted.auto.scratch, c.put_substituted-2.auto.scratch))

pub returns : goal.returns
returns c =
    let p1 = c.put_substituted in
    let p2 = c.put_substituted-2 in
    let p3 = c.put_substituted-3 in
    let d = c.dropped_var-drop in
    let k = c.kept_var-keep in
    let es = c.get_word-src.ensures in
    let et = c.get_word-tgt.ensures in
    let b = c.args.body.now in
    let h = c.args.head.now in
    let w = words c.args.scratch.now in
    let i = c.args.i in record {
      clause_in_hand = λ before after heads r src tgt B H eb. contract_is b h i (length b / 24 - 1) d.result k.result refl c.requires.2 w (words p1.new.scratch) (words p2.new.scratch) (words p3.new.scratch) p1.ensures.scratch_unchanged p1.ensures.substituted p2.ensures.scratch_unchanged p2.ensures.substituted p3.ensures.scratch_unchanged p3.ensures.substituted before after heads r src tgt B H eb (d.ensures ∙ ap₂ dropped_var es et) (k.ensures ∙ ap₂ kept_var es et);
      scratch_unchanged = contract_frame b h i (length b / 24 - 1) d.result k.result refl c.requires.2 w (words p1.new.scratch) (words p2.new.scratch) (words p3.new.scratch) p1.ensures.scratch_unchanged p1.ensures.substituted p2.ensures.scratch_unchanged p2.ensures.substituted p3.ensures.scratch_unchanged p3.ensures.substituted;
    }
