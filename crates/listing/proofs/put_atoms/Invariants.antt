use Rattle.words.specs.Words.{words}
use Rattle.rows.specs.Rows.{texts_of, texts_left}
use Rattle.rows.specs.RowLaws.{Left}
use Rattle.listing.specs.Listing.{atom_text}
use Rattle.listing.proofs.put_atoms.Given as goal

abbrev pub invariant-loop-j : goal.invariant-loop-j
invariant-loop-j l = Left l.initial.out l.at (texts_of (atom_text (words l.run)) 0 l.n) l.out l.p (texts_left (atom_text (words l.run)) l.j l.n)
