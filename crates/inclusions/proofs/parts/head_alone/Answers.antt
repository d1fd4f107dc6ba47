use mathlib.Core.Path.{ap}
use Rattle.ir.specs.Answer.{answer}
use Rattle.std.proofs.lemmas.Result.{err_from_is_err_and}
use Rattle.inclusions.specs.HeadLaws.{alone_asks, alone_operands, alone_done, alone_refused}
use Rattle.inclusions.proofs.parts.head_alone.Goals as goal

pub push_negation_in-requires : goal.push_negation_in-requires
push_negation_in-requires c = alone_asks c.args.k.now c.args.scratch.now c.requires.0 c.requires.1 c.requires.4 c.args.sub c.args.sup c.requires.2 c.requires.3

pub mk_or-requires : goal.mk_or-requires
mk_or-requires c =
    let r = c.push_negation_in in
    alone_operands c.args.k.now c.args.scratch.now c.requires.0 c.requires.1 c.requires.4 c.args.sub c.args.sup c.requires.2 c.requires.3 r.new.scratch _ r.auto.scratch r.ensures.by_index r.ensures.held_after r.ensures.kept
    r.new.k c.in_ok-negated.negated (ap (answer r.new.k) c.in_ok-negated.was) c.put_word.new.s c.put_word-2.new.s c.put_word.auto.s c.put_word-2.auto.s c.put_word.ensures c.put_word-2.ensures

pub returns : goal.returns
returns c =
    let r = c.push_negation_in in
    alone_done c.args.k.now c.args.scratch.now c.requires.0 c.requires.1 c.requires.4 c.args.sub c.args.sup c.requires.2 c.requires.3 r.new.scratch _ r.auto.scratch r.ensures.by_index r.ensures.held_after r.ensures.kept
    r.new.k c.in_ok-negated.negated (ap (answer r.new.k) c.in_ok-negated.was) c.put_word.new.s c.put_word-2.new.s c.put_word.auto.s c.put_word-2.auto.s c.put_word.ensures c.put_word-2.ensures _ _ c.mk_or.auto.scratch c.mk_or.ensures.interned c.mk_or.ensures.beside

pub returns-in_err-negated : goal.returns-in_err-negated
returns-in_err-negated c =
    let p = err_from_is_err_and c.from_residual.result c.from_residual.ensures.1 in
    let r = c.push_negation_in in
    rw (p.1, p.2) (alone_refused c.args.k.now c.args.scratch.now c.requires.0 c.requires.1 c.requires.4 c.args.sub c.args.sup c.requires.2 c.requires.3 r.new.scratch _ r.auto.scratch r.ensures.by_index r.ensures.held_after r.ensures.kept _ (ap (answer r.new.k) c.in_err-negated.was))
