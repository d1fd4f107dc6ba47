use Rattle.std.proofs.Common.{◌+◌, ◌*◌}
use Rattle.words.specs.Words.{words}
use Rattle.antecedents.proofs.Writing.{Turn}
use Rattle.antecedents.proofs.write.+write_one_write_parts.Given as goal

abbrev pub decreases-write_one : goal.decreases-write_one
decreases-write_one l = l.c * 2 + 1

abbrev pub decreases-write_parts : goal.decreases-write_parts
decreases-write_parts l = l.c * 2

abbrev pub invariant-write_parts-loop-i : goal.invariant-write_parts-loop-i
invariant-write_parts-loop-i l = Turn l.base (words l.fn.scratch) l.c l.start l.i-end l.v l.y l.k l.at l.initial.r (words l.scratch) l.p l.w l.r l.j l.i
