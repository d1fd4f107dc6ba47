-- Sets of a line's elements, and rows with one pair more. Assumes nothing.
use Rattle.std.proofs.Math.Bool.{or_comm}
use mathlib.Core.Path.{◌≡◌, refl, sym, ap, ◌∙◌}
use mathlib.Core.Bool.{Bool, true, false, ◌&&◌, ◌||◌}
use mathlib.Core.List.{List, [], ◌∷◌}
use Prim.Native.Nat.{ℕ, zero, suc, ◌+◌, ◌*◌, ◌-◌, ◌/◌, ◌%◌, ◌<◌, ◌≤◌}
use native.Mathlib.Omega.{arith}
use borrow.Author.Tests.{eqb-true, eqb-false, eq-eqb, ne_eqb, ltb-true, ltb-false, le-leb}
use lib.Dec.{eqb, ltb, leb}
use lib.ListN.{length, get_or, drop, length-drop, length-set}
use lib.Seq.{get_or-drop}
use Rattle.ir.specs.Roles.{role_of}
use Rattle.ir.specs.declared.role.Role.{Role}
use Rattle.ir.specs.declared.role.Role.TheVariants.{Named, Inverse}
use Rattle.rules.specs.Base.{all, contains}
use Rattle.rules.specs.Semantics.{pairs_of}
use Rattle.meaning.specs.Truth.{by_truth, and_left, and_right, and_unit, or_none}
use Rattle.text.specs.RowLaws.{next}
use Rattle.states.specs.State.{has_pair}
use Rattle.states.specs.Masks.{mask_of}
use Rattle.states.specs.MaskLaws.{mask_same, mask_empty}
use Rattle.sets.specs.Kept.{set_at, set_put}
use Rattle.sets.specs.KeptLaws.{set_put_lem, word_before, set_before, set_behind_lem}
use Rattle.sets.specs.Places.{rows_at}
use Rattle.sets.specs.Laid.{row_of}
use Rattle.layouts.specs.Drawn.{room_put, Linked, RowsAs, with_pair, with_pairs}
use Rattle.layouts.proofs.NumberLaws.{past}

-- ---- a line's elements
pub element_below : (l : List ℕ) (b k : ℕ) → all (λ e. ltb e b) l ≡ true → k < length l → get_or l k 0 < b
element_below [] b k h q = absurd (omega arith)
element_below (x ∷ l) b zero h q = ltb-true x b (and_left (ltb x b) (all (λ e. ltb e b) l) h)
element_below (x ∷ l) b (suc k) h q = element_below l b k (and_right (ltb x b) (all (λ e. ltb e b) l) h) (omega arith)

pub number_below : (l : List ℕ) (b k : ℕ) → all (λ e. ltb e b) (drop 2 l) ≡ true → 2 ≤ k → k < length l → get_or l k 0 < b
number_below l b k h m q =
    let e : 2 + (k - 2) ≡ k = omega arith in
    let d : get_or (drop 2 l) (k - 2) 0 ≡ get_or l k 0 = get_or-drop 2 l (k - 2) 0 ∙ ap (λ (j : ℕ). get_or l j 0) e in
    let n = length-drop 2 l in
    let g = element_below (drop 2 l) b (k - 2) h (omega arith) in
    omega (arith, d, g)

pub set_none : (n : ℕ) (l : List ℕ) (k : ℕ) → length l ≤ k → 0 ≡ mask_of n (contains (drop k l))
set_none n l k h = rw (past l k h) (sym (mask_empty n))

pub set_more : (n : ℕ) (l : List ℕ) (k x r : ℕ) → k < length l → x ≡ get_or l k 0 → r ≡ mask_of n (λ y. contains (drop (k + 1) l) y || eqb y x) → r ≡ mask_of n (contains (drop k l))
set_more n l k x r h e q = q ∙ mask_same n (λ y. contains (drop (k + 1) l) y || eqb y x) (contains (drop k l)) (λ y _. or_comm (contains (drop (k + 1) l) y) (eqb y x) ∙ ap (λ (u : List ℕ). contains u y) (sym (next l k x h e)))

-- ---- a set put, where there is room
length_put : (w : List ℕ) (c m : ℕ) → length (set_put w c m) ≡ length w
length_put w c m = simp length-set refl

pub room_length : (w : List ℕ) (c m : ℕ) → length (room_put w c m) ≡ length w
room_length w c m = by_truth (leb (2 * c + 2) (length w)) (λ e. rw e (length_put w c m)) (λ e. rw e refl)

pub room_put_lem : (w : List ℕ) (c m : ℕ) → 2 * c + 2 ≤ length w → set_at (room_put w c m) c ≡ m
room_put_lem w c m h = rw (le-leb (2 * c + 2) (length w) h) (set_put_lem w c m h)

other_set : (w : List ℕ) (c m j : ℕ) → (j ≡ c → ⊥) → set_at (set_put w c m) j ≡ set_at w j
other_set w c m j h = by_truth (ltb j c) (λ e. set_before w c m j (ltb-true j c e)) (λ e. let l = ltb-false j c e in set_behind_lem w c m j (omega arith))

pub room_other : (w : List ℕ) (c m j : ℕ) → (j ≡ c → ⊥) → set_at (room_put w c m) j ≡ set_at w j
room_other w c m j h = by_truth (leb (2 * c + 2) (length w)) (λ e. rw e (other_set w c m j h)) (λ e. rw e refl)

-- ---- one element more in a row
pub link_put : (v : List ℕ) (i y row m : ℕ) → 2 * i + 2 ≤ length v → rows_at ≤ i → row ≡ set_at v i
    → ((n : ℕ) (f : ℕ → Bool) → y < n → row ≡ mask_of n f → m ≡ mask_of n (λ z. f z || eqb z y)) → Linked v (set_put v i m) i y
link_put v i y row m h a e g = record {
  more = λ n f q s. set_put_lem v i m h ∙ g n f q (e ∙ s);
  others = λ j q. other_set v i m j q;
  kept = λ k q. word_before v i m k (omega arith);
}

-- rows of codes below m, whatever they hold
abbrev Rows : ℕ → ℕ → List ℕ → (ℕ → ℕ → ℕ → Bool) → Type 0
Rows n m v g = (code x : ℕ) → code < m → x < n → row_of v code x ≡ mask_of n (g code x)

abbrev linked : (ℕ → ℕ → ℕ → Bool) → ℕ → ℕ → ℕ → ℕ → ℕ → ℕ → Bool
linked g c a b code x z = g code x z || (eqb code c && (eqb x a && eqb z b))

link_rows : (n m : ℕ) (v v' : List ℕ) (g : ℕ → ℕ → ℕ → Bool) (c a b : ℕ) → n ≤ 64 → a < 64 → b < n → Linked v v' (rows_at + 64 * c + a) b → Rows n m v g → Rows n m v' (linked g c a b)
link_rows n m v v' g c a b few sa sb L R code x h q = by_truth (eqb code c) (λ e. by_truth (eqb x a) (λ f. same e f) (λ f. other_x e f)) other_c
  where
    away : ((code ≡ c) → (x ≡ a) → ⊥) → rows_at + 64 * code + x ≡ rows_at + 64 * c + a → ⊥
    away k s = let d : code ≡ c = omega arith in k d (omega arith)

    same : eqb code c ≡ true → eqb x a ≡ true → row_of v' code x ≡ mask_of n (linked g c a b code x)
    same e f =
        let i : rows_at + 64 * code + x ≡ rows_at + 64 * c + a = omega (arith, eqb-true code c e, eqb-true x a f) in
        let o : set_at v (rows_at + 64 * c + a) ≡ mask_of n (g code x) = ap (set_at v) (sym i) ∙ R code x h q in
        ap (set_at v') i ∙ L.more n (g code x) sb o ∙ mask_same n (λ z. g code x z || eqb z b) (linked g c a b code x) (λ z _. rw (e, f) refl)

    other_x : eqb code c ≡ true → eqb x a ≡ false → row_of v' code x ≡ mask_of n (linked g c a b code x)
    other_x e f =
        L.others (rows_at + 64 * code + x) (away (λ _ s. eqb-false x a f s)) ∙ R code x h q
        ∙ mask_same n (g code x) (linked g c a b code x) (λ z _. rw (e, f) (sym (or_none (g code x z))))

    other_c : eqb code c ≡ false → row_of v' code x ≡ mask_of n (linked g c a b code x)
    other_c e =
        L.others (rows_at + 64 * code + x) (away (λ s _. eqb-false code c e s)) ∙ R code x h q
        ∙ mask_same n (g code x) (linked g c a b code x) (λ z _. rw e (sym (or_none (g code x z))))

-- a pair of a role, by the codes of its two directions
and_turned : (a b c : Bool) → a && (b && c) ≡ a && (c && b)
and_turned true true c = sym (and_unit c)
and_turned true false true = refl
and_turned true false false = refl
and_turned false b c = refl

pair_codes : (f : ℕ → ℕ → ℕ → Bool) (r a b code x z : ℕ)
    → linked (linked (λ k. pairs_of f (role_of k)) (2 * r) a b) (2 * r + 1) b a code x z ≡ pairs_of (with_pair f r a b) (role_of code) x z
pair_codes f r a b code x z = by_truth (eqb (code % 2) 0) even odd
  where
    even : eqb (code % 2) 0 ≡ true → linked (linked (λ k. pairs_of f (role_of k)) (2 * r) a b) (2 * r + 1) b a code x z ≡ pairs_of (with_pair f r a b) (role_of code) x z
    even e =
        let m = eqb-true (code % 2) 0 e in
        let o : eqb code (2 * r + 1) ≡ false = ne_eqb code (2 * r + 1) (λ q. omega arith) in
        let s : eqb code (2 * r) ≡ eqb (code / 2) r = by_truth (eqb (code / 2) r) (λ q. let t = eqb-true (code / 2) r q in eq-eqb code (2 * r) (omega arith) ∙ sym q) (λ q. ne_eqb code (2 * r) (λ t. eqb-false (code / 2) r q (omega arith)) ∙ sym q) in
        rw (e, o, s) (or_none (f (code / 2) x z || (eqb (code / 2) r && (eqb x a && eqb z b))))

    odd : eqb (code % 2) 0 ≡ false → linked (linked (λ k. pairs_of f (role_of k)) (2 * r) a b) (2 * r + 1) b a code x z ≡ pairs_of (with_pair f r a b) (role_of code) x z
    odd e =
        let m = eqb-false (code % 2) 0 e in
        let o : eqb code (2 * r) ≡ false = ne_eqb code (2 * r) (λ q. m (omega arith)) in
        let n : code % 2 ≡ 1 = one (code % 2) m (omega arith) in
        let s : eqb code (2 * r + 1) ≡ eqb (code / 2) r = by_truth (eqb (code / 2) r) (λ q. let t = eqb-true (code / 2) r q in eq-eqb code (2 * r + 1) (omega arith) ∙ sym q) (λ q. ne_eqb code (2 * r + 1) (λ t. eqb-false (code / 2) r q (omega arith)) ∙ sym q) in
        rw (e, o, s) (go (f (code / 2) z x) (eqb (code / 2) r) (eqb x b) (eqb z a))
      where
        one : (k : ℕ) → (k ≡ 0 → ⊥) → k < 2 → k ≡ 1
        one k p q = omega arith

        go : (u t c d : Bool) → (u || false) || (t && (c && d)) ≡ u || (t && (d && c))
        go u t c d = ap (λ v. v || (t && (c && d))) (or_none u) ∙ ap (λ v. u || v) (and_turned t c d)

pub link_pair : (n roles : ℕ) (v v₁ v₂ : List ℕ) (f : ℕ → ℕ → ℕ → Bool) (r a b : ℕ) → n ≤ 64 → a < n → b < n
    → Linked v v₁ (rows_at + 64 * (2 * r) + a) b → Linked v₁ v₂ (rows_at + 64 * (2 * r + 1) + b) a → RowsAs n roles v f → RowsAs n roles v₂ (with_pair f r a b)
link_pair n roles v v₁ v₂ f r a b few ha hb L M R code x h q =
    link_rows n (2 * roles) v₁ v₂ (linked (λ k. pairs_of f (role_of k)) (2 * r) a b) (2 * r + 1) b a few (omega arith) ha M
    (link_rows n (2 * roles) v v₁ (λ k. pairs_of f (role_of k)) (2 * r) a b few (omega arith) hb L R) code x h q
    ∙ mask_same n (linked (linked (λ k. pairs_of f (role_of k)) (2 * r) a b) (2 * r + 1) b a code x) (pairs_of (with_pair f r a b) (role_of code) x) (λ z _. pair_codes f r a b code x z)

-- ---- the pairs of a line
pub rows_same : (n roles : ℕ) (v : List ℕ) (f g : ℕ → ℕ → ℕ → Bool) → ((k x y : ℕ) → f k x y ≡ g k x y) → RowsAs n roles v f → RowsAs n roles v g
rows_same n roles v f g e R code x h q = R code x h q ∙ mask_same n (pairs_of f (role_of code) x) (pairs_of g (role_of code) x) (λ z _. go (role_of code) z)
  where
    go : (k : Role) (z : ℕ) → pairs_of f k x z ≡ pairs_of g k x z
    go (Named k) z = e k x z
    go (Inverse k) z = e k z x

pub pairs_short : (l : List ℕ) (x y : ℕ) → length l < 2 → has_pair l x y ≡ false
unfolding has_pair
pairs_short [] x y h = refl
pairs_short (a ∷ []) x y h = refl
pairs_short (a ∷ b ∷ l) x y h = absurd (omega arith)

pub pairs_begun : (n roles : ℕ) (v : List ℕ) (f : ℕ → ℕ → ℕ → Bool) (r : ℕ) (l : List ℕ) → length l < 2 → RowsAs n roles v f → RowsAs n roles v (with_pairs f r l)
pairs_begun n roles v f r l h R = rows_same n roles v f (with_pairs f r l) (λ k x y. rw (pairs_short l x y h) (none (f k x y) (eqb k r))) R
  where
    none : (a b : Bool) → a ≡ a || (b && false)
    none a true = sym (or_none a)
    none a false = sym (or_none a)

pub pairs_more : (n roles : ℕ) (v : List ℕ) (f : ℕ → ℕ → ℕ → Bool) (r a b : ℕ) (l : List ℕ) → RowsAs n roles v (with_pair (with_pairs f r l) r a b) → RowsAs n roles v (with_pairs f r (a ∷ b ∷ l))
unfolding has_pair
pairs_more n roles v f r a b l R = rows_same n roles v (with_pair (with_pairs f r l) r a b) (with_pairs f r (a ∷ b ∷ l)) (λ k x y. go (f k x y) (eqb k r) (eqb x a && eqb y b) (has_pair l x y)) R
  where
    go : (u t p h : Bool) → (u || (t && h)) || (t && p) ≡ u || (t && (p || h))
    go true t p h = refl
    go false true p h = or_comm h p
    go false false p h = refl
