use Rattle.words.specs.Words.{words}
use Rattle.antecedents.proofs.Writing.{Look}
use Rattle.antecedents.proofs.write.disjunct.Given as goal

abbrev pub invariant-loop-i : goal.invariant-loop-i
invariant-loop-i l = Look (words l.scratch) l.start l.i-end l.y l.k l.w l.j l.i
