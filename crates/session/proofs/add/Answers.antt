use Rattle.std.proofs.Common.{length}
use Rattle.session.specs.Trace as Trace
use Rattle.session.specs.TraceLaws.{goes_on}
use Rattle.session.proofs.add.Goals as goal

pub returns-clause-goes_on : goal.returns-clause-goes_on
returns-clause-goes_on c = λ b H. goes_on (Trace.add c.args.line.now (length c.args.scratch.now)) c.args.session.now c.append-said.new.session b c.append-said.ensures.session H
