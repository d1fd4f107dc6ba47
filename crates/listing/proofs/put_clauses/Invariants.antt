use Rattle.words.specs.Words.{words}
use Rattle.listing.specs.Listing.{ListedTo}
use Rattle.listing.proofs.put_clauses.Given as goal

abbrev pub invariant-loop-i : goal.invariant-loop-i
invariant-loop-i l = ListedTo (words l.clauses) (words l.atoms) l.n l.initial.out l.at l.out l.p l.i
