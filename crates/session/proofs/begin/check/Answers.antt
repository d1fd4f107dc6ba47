use Rattle.std.proofs.Common.{arith}
use Rattle.std.proofs.lemmas.Result.{err_from_is_err_and}
use Rattle.session.specs.StartLaws.{start_fine, start_refused}
use Rattle.session.proofs.begin.check.Goals as goal

pub returns-in_err-read : goal.returns-in_err-read
returns-in_err-read c =
    let a = c.args in
    let p = err_from_is_err_and c.from_residual.result c.from_residual.ensures.1 in
    rw (p.1, p.2) (start_refused a.session _ a.deck.now c.read.new.t (omega arith) (omega arith) _ (c.in_err-read.ensures.result_after))

pub returns : goal.returns
returns c = start_fine c.args.session _ c.args.deck.now c.read.new.t (omega arith) (omega arith) c.in_ok-read.field-0 c.in_ok-read.ensures.result_after
