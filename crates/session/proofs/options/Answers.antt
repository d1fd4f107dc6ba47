use Rattle.std.proofs.Common.{length}
use Rattle.session.specs.Trace as Trace
use Rattle.session.specs.TraceLaws.{goes_on}
use Rattle.session.proofs.options.Goals as goal

pub returns-clause-goes_on : goal.returns-clause-goes_on
returns-clause-goes_on c = λ b H. goes_on (Trace.options c.args.options (length c.args.scratch.now)) c.args.session.now c.put-said.new.session b c.put-said.ensures.session H
