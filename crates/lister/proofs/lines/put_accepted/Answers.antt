use native.Mathlib.Omega.{arith}
use Rattle.rows.specs.RowLaws.{put_then}
use Rattle.listing.specs.ListingLaws.{clauses_long}
use Rattle.lister.proofs.lines.put_accepted.Goals as goal

pub put_numbers-requires : goal.put_numbers-requires
put_numbers-requires c =
    let L = c.requires.0 in
    omega (arith, (c.put_clauses-p.ensures L.list L.tabled).end, c.put_clauses-p.auto.out, clauses_long 0 L.list, L.tabled.count, L.fits, c.requires.1)

pub returns : goal.returns
returns c = λ l T.
    put_then (c.put_clauses-p.ensures l T) c.put_numbers.ensures
