use Rattle.std.proofs.Common.{length}
use Rattle.session.specs.Trace as Trace
use Rattle.session.specs.TraceLaws.{goes_on}
use Rattle.session.proofs.strike.Goals as goal

pub returns-clause-goes_on : goal.returns-clause-goes_on
returns-clause-goes_on c = λ b H. goes_on (Trace.strike c.args.line (length c.args.scratch.now)) c.args.session.now c.take_out-said.new.session b c.take_out-said.ensures.session H
