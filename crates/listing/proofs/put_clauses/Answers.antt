use Rattle.words.specs.Words.{words}
use Rattle.tables.specs.ClauseLaws.{there_at}
use Rattle.listing.specs.ListingLaws.{listed_none, listed_fits, listed_next, listed_end}
use Rattle.listing.proofs.put_clauses.Goals as goal

pub loop-i-init : goal.loop-i-init
loop-i-init c = let a = c.args in listed_none (words a.clauses.now) (words a.atoms.now) a.n a.out.now a.at

pub put_clause_rows-p-requires : goal.put_clause_rows-p-requires
put_clause_rows-p-requires c =
    let a = c.args in
    let l = c.loop-i in
    let t = c.loop-i-test.true in
    let w = words a.clauses.now in
    let v = words a.atoms.now in
    (there_at w v a.n (record { list = c.requires.list; tabled = c.requires.tabled }) l.i t, listed_fits w v a.n a.out.now a.at l.out l.p l.i l.invariant c.requires t)

pub loop-i-preserved : goal.loop-i-preserved
loop-i-preserved c =
    let a = c.args in
    let l = c.loop-i in
    let q = c.put_clause_rows-p in
    listed_next (words a.clauses.now) (words a.atoms.now) a.n a.out.now a.at l.out l.p l.i l.invariant c.loop-i-test.true _ q.result q.ensures

pub returns : goal.returns
returns c =
    let a = c.args in
    let l = c.loop-i in
    listed_end (words a.clauses.now) (words a.atoms.now) a.n a.out.now a.at l.out l.p l.i l.invariant c.loop-i-test.false
