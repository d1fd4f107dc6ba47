-- One atom to the front of the others, and back. Assumes nothing.
use Rattle.std.specs.Prelude.{◌≡◌, ℕ, ◌+◌, ◌*◌, ◌≤◌, ◌<◌, length, get_or, take, drop}
use Rattle.std.proofs.Common.{sym, subst, ◌∙◌, arith, add-one, length-append, length-drop, length-take-le}
use Rattle.std.proofs.Math.Path.{ap}
use mathlib.Core.List.{List, [], ◌∷◌, ◌++◌}
use Rattle.std.proofs.lemmas.List.Edits.{sets}
use Rattle.std.proofs.Math.Seq.{length-sets, split_at}
use Rattle.ir.specs.Records.{six}
use Rattle.ir.specs.declared.atom.Atom.{Atom}
use Rattle.rules.specs.Run.{flat}
use Rattle.rules.specs.DecodeLaws.{flat_long, flat_append}
use Rattle.tables.specs.TabledLaws.{At, at_front, at_back}
use Rattle.branches.specs.Layout.{copy_at, work_words}
use Rattle.branches.specs.Wide.{AtomsAre}
use Rattle.branches.specs.Grouped.{OnlyRecords}
use Rattle.branches.specs.Sorting.{moved, inserted}
use Rattle.branches.specs.Edges.{any_atom, fronted}
use Rattle.branches.specs.InsertLaws.{at_join, at_here, at_below, at_above, moves, moved_before, moved_after, inserted_atoms, inserted_only}

-- ---- atom e
module _ (l : List Atom) (e : ℕ) (h : e < length l) where
  apart : l ≡ take e l ++ (get_or l e any_atom ∷ drop (e + 1) l)
  apart = rw (add-one e) (split_at l e any_atom h)

  before_long : length (take e l) ≡ e
  before_long = length-take-le e l (omega arith)

  after_long : e + 1 + length (drop (e + 1) l) ≡ length l
  after_long = omega (arith, length-drop (e + 1) l)

-- ---- to the front
module _ (w w' : List ℕ) (base count e : ℕ) (i : w' ≡ inserted w base (base + e)) (h : e < count) (room : base + count ≤ copy_at) where
  pub front_atoms : work_words ≤ length w → (l : List Atom) → AtomsAre w base count l → AtomsAre w' base count (fronted l e)
  front_atoms long l A =
      let k : e < length l = omega (arith, A.long) in
      let n = before_long l e k in
      let m = after_long l e k in
      let t : At w (6 * base) (flat (take e l ++ (get_or l e any_atom ∷ drop (e + 1) l))) = rw (← apart l e k) A.there in
      let f : At (inserted w base (base + e)) (6 * base) (flat (fronted l e)) =
      inserted_atoms w base base (base + e) [] (take e l) (get_or l e any_atom) (drop (e + 1) l) (omega arith) (omega arith) (omega (arith, A.long)) long t in
      record { long = omega (arith, A.long, length-append (take e l) (drop (e + 1) l)); there = rw i f }

  pub front_only : OnlyRecords base count w w'
  front_only = rw i (inserted_only w base count base (base + e) (omega arith) (omega arith) (omega arith) room)

-- ---- the atoms a, ys and zs become ys, a and zs
module _ (w : List ℕ) (base e : ℕ) (ys zs : List Atom) (a : Atom) (ee : e ≡ length ys) (room : base + e + 1 + length zs ≤ copy_at) (long : work_words ≤ length w)
    (A : At w (6 * base) (flat (a ∷ (ys ++ zs)))) where
  flats : flat (a ∷ (ys ++ zs)) ≡ six a ++ (flat ys ++ flat zs)
  unfolding flat
  flats = ap (λ (t : List ℕ). six a ++ t) (flat_append ys zs)

  A' : At w (6 * base) (six a ++ (flat ys ++ flat zs))
  A' = subst (λ (t : List ℕ). At w (6 * base) t) flats A

  ly : length (flat ys) ≡ 6 * length ys
  ly = flat_long ys

  lz : length (flat zs) ≡ 6 * length zs
  lz = flat_long zs

  S : At w (6 * base) (six a)
  S = at_front w (6 * base) (six a) (flat ys ++ flat zs) A'

  back : At w (6 * (base + 1)) (flat ys ++ flat zs)
  back = at_back w (6 * base) (six a) (flat ys ++ flat zs) A' (6 * (base + 1)) (omega arith)

  Y : At w (6 * (base + 1)) (flat ys)
  Y = at_front w (6 * (base + 1)) (flat ys) (flat zs) back

  Z : At w (6 * (base + e + 1)) (flat zs)
  Z = at_back w (6 * (base + 1)) (flat ys) (flat zs) back (6 * (base + e + 1)) (omega (arith, ly))

  abbrev w1 : List ℕ
  w1 = sets w (6 * copy_at) (six a)

  abbrev w2 : List ℕ
  w2 = sets w1 (6 * base) (flat ys)

  abbrev w3 : List ℕ
  w3 = sets w2 (6 * (base + e)) (six a)

  Y1 : At w1 (6 * (base + 1)) (flat ys)
  Y1 = at_below w (6 * (base + 1)) (flat ys) (6 * copy_at) (six a) Y (omega (arith, ly))

  S1 : At w1 (6 * copy_at) (six a)
  S1 = at_here w (6 * copy_at) (six a) (omega arith)

  S2 : At w2 (6 * copy_at) (six a)
  S2 = at_above w1 (6 * copy_at) (six a) (6 * base) (flat ys) S1 (omega (arith, ly))

  between : take (6 * e) (drop (6 * (base + 1)) w1) ≡ flat ys
  between = let q : 6 * e ≡ length (flat ys) = omega (arith, ly) in rw q Y1

  made : moved (moved (moved w (6 * base) (6 * copy_at) 6) (6 * (base + 1)) (6 * base) (6 * e)) (6 * copy_at) (6 * (base + e)) 6 ≡ w3
  made = moves w (6 * base) (6 * copy_at) (6 * (base + 1)) (6 * base) (6 * e) (6 * (base + e)) (six a) (flat ys) S between S2

  long1 : length w1 ≡ length w
  long1 = length-sets w (6 * copy_at) (six a)

  long2 : length w2 ≡ length w
  long2 = length-sets w1 (6 * base) (flat ys) ∙ long1

  Y3 : At w3 (6 * base) (flat ys)
  Y3 = at_below w2 (6 * base) (flat ys) (6 * (base + e)) (six a) (at_here w1 (6 * base) (flat ys) (omega (arith, long1, ly))) (omega (arith, ly))

  A3 : At w3 (6 * (base + e)) (six a)
  A3 = at_here w2 (6 * (base + e)) (six a) (omega (arith, long2))

  Z3 : At w3 (6 * (base + e + 1)) (flat zs)
  Z3 =
      at_above w2 (6 * (base + e + 1)) (flat zs) (6 * (base + e)) (six a)
      (at_above w1 (6 * (base + e + 1)) (flat zs) (6 * base) (flat ys) (at_below w (6 * (base + e + 1)) (flat zs) (6 * copy_at) (six a) Z (omega (arith, lz))) (omega (arith, ly)))
      (omega arith)

  flats3 : flat (ys ++ (a ∷ zs)) ≡ flat ys ++ (six a ++ flat zs)
  unfolding flat
  flats3 = flat_append ys (a ∷ zs)

  returned_atoms : At w3 (6 * base) (flat (ys ++ (a ∷ zs)))
  returned_atoms =
      rw flats3
      (at_join w3 (6 * base) (6 * (base + e)) (flat ys) (six a ++ flat zs) Y3 (omega (arith, ly))
      (at_join w3 (6 * (base + e)) (6 * (base + e + 1)) (six a) (flat zs) A3 (omega arith) Z3))

-- ---- and back
module _ (w w1 w2 w3 : List ℕ) (base count e : ℕ) (a : w1 ≡ moved w (6 * base) (6 * copy_at) 6) (b : w2 ≡ moved w1 (6 * (base + 1)) (6 * base) (6 * e))
    (c : w3 ≡ moved w2 (6 * copy_at) (6 * (base + e)) 6) (h : e < count) (room : base + count ≤ copy_at) where
  is_moved : w3 ≡ moved (moved (moved w (6 * base) (6 * copy_at) 6) (6 * (base + 1)) (6 * base) (6 * e)) (6 * copy_at) (6 * (base + e)) 6
  is_moved = c ∙ ap (λ (x : List ℕ). moved x (6 * copy_at) (6 * (base + e)) 6) (b ∙ ap (λ (x : List ℕ). moved x (6 * (base + 1)) (6 * base) (6 * e)) a)

  pub back_atoms : work_words ≤ length w → (l : List Atom) → length l ≡ count → AtomsAre w base count (fronted l e) → AtomsAre w3 base count l
  back_atoms long l q A =
      let k : e < length l = omega arith in
      let n = before_long l e k in
      let m = after_long l e k in
      let d = get_or l e any_atom in
      let r : base + e + 1 + length (drop (e + 1) l) ≤ copy_at = omega arith in
      let f = returned_atoms w base e (take e l) (drop (e + 1) l) d (sym n) r long A.there in
      let g = made w base e (take e l) (drop (e + 1) l) d (sym n) r long A.there in
      let t : At w3 (6 * base) (flat (take e l ++ (d ∷ drop (e + 1) l))) = rw (is_moved ∙ g) f in
      record { long = sym q; there = rw (apart l e k) t }

  pub back_only : OnlyRecords base count w w3
  back_only =
      let m1 = moved w (6 * base) (6 * copy_at) 6 in
      let m2 = moved m1 (6 * (base + 1)) (6 * base) (6 * e) in
      rw is_moved
      (record {
        before = λ j g. moved_before m2 (6 * copy_at) (6 * (base + e)) 6 j (omega arith) ∙ moved_before m1 (6 * (base + 1)) (6 * base) (6 * e) j (omega arith) ∙ moved_before w (6 * base) (6 * copy_at) 6 j (omega arith);
        between = λ j g k. moved_after m2 (6 * copy_at) (6 * (base + e)) 6 j (omega arith) ∙ moved_after m1 (6 * (base + 1)) (6 * base) (6 * e) j (omega arith) ∙ moved_before w (6 * base) (6 * copy_at) 6 j (omega arith);
        behind = λ j g. moved_after m2 (6 * copy_at) (6 * (base + e)) 6 j (omega arith) ∙ moved_after m1 (6 * (base + 1)) (6 * base) (6 * e) j (omega arith) ∙ moved_after w (6 * base) (6 * copy_at) 6 j (omega arith);
      })
