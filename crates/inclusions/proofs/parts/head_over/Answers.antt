use mathlib.Core.Path.{ap}
use Rattle.ir.specs.Answer.{done}
use Rattle.std.proofs.lemmas.Result.{err_from_is_err_and}
use Rattle.inclusions.specs.HeadLaws.{over_asks, over_operands, over_done, over_refused}
use Rattle.inclusions.proofs.parts.head_over.Goals as goal

pub normal_run-requires : goal.normal_run-requires
normal_run-requires c = over_asks c.args.k.now c.args.scratch.now c.requires.0 c.requires.1 c.requires.4 c.args.hard c.args.sub c.args.sup c.requires.2 c.requires.3 c.requires.5 c.requires.6

pub mk_or-requires : goal.mk_or-requires
mk_or-requires c =
    let r = c.normal_run in
    over_operands c.args.k.now c.args.scratch.now c.requires.0 c.requires.1 c.requires.4 c.args.hard c.args.sub c.args.sup c.requires.2 c.requires.3 c.requires.5 c.requires.6 r.new.scratch _ r.auto.scratch r.ensures.by_index r.ensures.held_run r.ensures.kept
    r.new.k 0 (ap (done r.new.k) c.in_ok-normal_run.was) c.put_word.new.s c.put_word.auto.s c.put_word.ensures

pub returns : goal.returns
returns c =
    let r = c.normal_run in
    over_done c.args.k.now c.args.scratch.now c.requires.0 c.requires.1 c.requires.4 c.args.hard c.args.sub c.args.sup c.requires.2 c.requires.3 c.requires.5 c.requires.6 r.new.scratch _ r.auto.scratch r.ensures.by_index r.ensures.held_run r.ensures.kept
    r.new.k 0 (ap (done r.new.k) c.in_ok-normal_run.was) c.put_word.new.s c.put_word.auto.s c.put_word.ensures _ _ c.mk_or.auto.scratch c.mk_or.ensures.interned c.mk_or.ensures.beside

pub returns-in_err-normal_run : goal.returns-in_err-normal_run
returns-in_err-normal_run c =
    let p = err_from_is_err_and c.from_residual.result c.from_residual.ensures.1 in
    let r = c.normal_run in
    rw (p.1, p.2) (over_refused c.args.k.now c.args.scratch.now c.requires.0 c.requires.1 c.requires.4 c.args.hard c.args.sub c.args.sup c.requires.2 c.requires.3 c.requires.5 c.requires.6 r.new.scratch _ r.auto.scratch r.ensures.by_index r.ensures.held_run r.ensures.kept _ (ap (done r.new.k) c.in_err-normal_run.was))
