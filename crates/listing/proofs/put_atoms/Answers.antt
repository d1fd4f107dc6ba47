use Prim.Native.Nat.{ℕ}
use mathlib.Core.Path.{subst}
use mathlib.Core.List.{List}
use native.Mathlib.Omega.{arith}
use Rattle.words.specs.Words.{words}
use Rattle.words.specs.Laws.{length_words}
use Rattle.rows.specs.Rows.{Put, texts_of}
use Rattle.rows.specs.RowLaws.{texts_all, text_fits, text_more, texts_end}
use Rattle.listing.specs.Listing.{atom_text}
use Rattle.listing.specs.ListingLaws.{run_text, atom_long, atom_texts_long}
use Rattle.listing.proofs.put_atoms.Goals as goal

pub loop-j-init : goal.loop-j-init
loop-j-init c =
    let a = c.args in
    let n = c.atom_room-n.result in
    texts_all (atom_text (words a.run.now)) 0 n n a.out.now a.at (omega arith)

pub put_row-p-requires : goal.put_row-p-requires
put_row-p-requires c =
    let a = c.args in
    let n = c.atom_room-n.result in
    let l = c.loop-j in
    let t = c.loop-j-test.true in
    let w = words a.run.now in
    let e = c.atom_room-n.ensures in
    let z = length_words a.run.now in
    let k = atom_texts_long w n 0 (omega (arith, e, z)) in
    let f = text_fits (atom_text w) l.j n a.out.now a.at (texts_of (atom_text w) 0 n) l.out l.p t l.invariant (omega (arith, k, e, c.requires)) in
    (omega (arith, e, t), omega (arith, f, atom_long w l.j (omega (arith, e, z, t))))

pub loop-j-preserved : goal.loop-j-preserved
loop-j-preserved c =
    let a = c.args in
    let n = c.atom_room-n.result in
    let l = c.loop-j in
    let t = c.loop-j-test.true in
    let q = c.put_row-p in
    let f = atom_text (words a.run.now) in
    text_more f l.j n a.out.now a.at (texts_of f 0 n) l.out l.p _ q.result t l.invariant q.ensures

pub returns : goal.returns
returns c = λ atoms R.
    let a = c.args in
    let n = c.atom_room-n.result in
    let l = c.loop-j in
    let f = atom_text (words a.run.now) in
    subst (λ (t : List ℕ). Put a.out.now a.at t l.out l.p) (run_text a.run.now n atoms c.atom_room-n.ensures R)
    (texts_end f l.j n a.out.now a.at (texts_of f 0 n) l.out l.p (omega arith) l.invariant)
