use Rattle.gorvask.specs.Sessions.{code_done}
use Rattle.gorvask.proofs.sessions.gorvask_session_start.Goals as goal

pub returns-clause-begins : goal.returns-clause-begins
returns-clause-begins c = λ d r z. c.start.ensures.begins d r (code_done c.start.result c.code.result c.code.ensures z)
