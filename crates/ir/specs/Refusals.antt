-- The numbers of the refusals.
use Rattle.std.specs.Prelude.{ℕ}
use Rattle.ir.specs.declared.refusal.Refusal.{Refusal}
use Rattle.ir.specs.declared.refusal.Refusal.TheVariants.{WrongSize, BadColumns, BadLine, PastLimit, Undeclared, BadNesting, BadList, Repeated, LargestBound, VisitsSpent, PoolFull, NoRoom, BadState, WideClause, NotLive}

abbrev pub refusal_number : Refusal → ℕ
refusal_number WrongSize = 1
refusal_number BadColumns = 2
refusal_number BadLine = 3
refusal_number PastLimit = 4
refusal_number Undeclared = 5
refusal_number BadNesting = 6
refusal_number BadList = 7
refusal_number Repeated = 8
refusal_number LargestBound = 9
refusal_number VisitsSpent = 10
refusal_number PoolFull = 11
refusal_number NoRoom = 12
refusal_number BadState = 13
refusal_number WideClause = 14
refusal_number NotLive = 15
