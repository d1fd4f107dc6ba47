use Rattle.std.proofs.Common.{◌+◌, ◌*◌}
use Rattle.words.specs.Words.{words}
use Rattle.ir.specs.Encoded.{Found}
use Rattle.antecedents.specs.Counts.{is_conj, first_of}
use Rattle.antecedents.proofs.Counting.{Turn}
use Rattle.antecedents.proofs.count.+encode_antecedent_encode_parts.Given as goal

abbrev pub decreases-encode_antecedent : goal.decreases-encode_antecedent
decreases-encode_antecedent l = l.c * 2 + 1

abbrev pub decreases-encode_parts : goal.decreases-encode_parts
decreases-encode_parts l = l.c * 2

abbrev pub invariant-encode_parts-loop-i : goal.invariant-encode_parts-loop-i
invariant-encode_parts-loop-i l = Turn (words l.scratch) (is_conj l.joint) l.c l.start l.i-end (Found l.initial.k (first_of (is_conj l.joint)) 0) (Found l.k l.acc.count l.acc.longest) l.i
