-- The loops over a line's numbers: from number k on. Assumes nothing.
use mathlib.Core.Path.{◌≡◌, refl, sym, ap, subst, ◌∙◌}
use mathlib.Core.Bool.{Bool, true, false}
use mathlib.Core.List.{List, [], ◌∷◌}
use Prim.Native.Nat.{ℕ, zero, suc, ◌+◌, ◌-◌, ◌*◌, ◌%◌, ◌^◌, ◌<◌, ◌≤◌}
use native.Mathlib.Omega.{arith}
use borrow.Author.Tests.{lt-ltb, le-ltb, ltb-true, ltb-false}
use lib.Dec.{ltb}
use lib.ListN.{length, get_or, drop, length-drop, drop_of_length-le}
use lib.Seq.{get_or-drop}
use Rattle.std.specs.Prelude.{map}
use Rattle.std.specs.Bool.{MatchBool, Decides}
use Rattle.std.specs.List.{range_with_len, AllWithin, HoldsAt}
use Rattle.std.proofs.lemmas.Bool.{false≢true}
use Rattle.std.proofs.lemmas.Bool.Decides.{same_from_decides}
use Rattle.std.proofs.lemmas.Grind.{same_number_lists}
use Rattle.std.proofs.lemmas.List.FromFn.{length-range_with_len, get_or-range_with_len}
use Rattle.std.proofs.lemmas.List.Recursion.{and_from_places, and_fails_at}
use Rattle.ir.specs.Pick.{pick}
use Rattle.ir.specs.Records.{same_words}
use Rattle.ir.specs.SameLaws.{words_decide}
use Rattle.rules.specs.Base.{all}
use Rattle.rules.specs.Deck.{rising, deepest}
use Rattle.rules.specs.Invariants.{Each}
use Rattle.rules.specs.TextLaws.{by_test}
use Rattle.rules.specs.EachLaws.{each_nth}
use Rattle.text.specs.RowLaws.{next, length_row, row_most, row_inside, row_past}
use Rattle.deck.specs.Index.{hash_by}
use Rattle.deck.specs.Rows.{numbers}
use Rattle.deck.specs.declared.row.Row.{Row}

-- number k is x
module _ (r : Row) (k x : ℕ) (h : k < r.line.fields) (e : x ≡ get_or (numbers r) k 0) where
  here : drop k (numbers r) ≡ x ∷ drop (k + 1) (numbers r)
  here = next (numbers r) k x (row_inside r.deck.now r.line.begin r.line.fields k h) e

  pub each_next : (P : ℕ → Type 0) → Each P (drop k (numbers r)) → P x × Each P (drop (k + 1) (numbers r))
  each_next P g = subst (Each P) here g

  rising_first : rising (x ∷ drop (k + 1) (numbers r)) ≡ rising (drop k (numbers r))
  rising_first = rw here refl

  pub rising_yes : (y : ℕ) → y < x → rising (x ∷ drop (k + 1) (numbers r)) ≡ rising (y ∷ drop k (numbers r))
  unfolding rising
  rising_yes y c = rw (here, lt-ltb _ _ c) refl

  pub rising_no : (y : ℕ) → x ≤ y → false ≡ rising (y ∷ drop k (numbers r))
  unfolding rising
  rising_no y c = rw (here, le-ltb _ _ c) refl

  pub deepest_next : (ds : List ℕ) (d y : ℕ) → y ≡ pick (ltb d (get_or ds x 0)) (get_or ds x 0) d → deepest ds y (drop (k + 1) (numbers r)) ≡ deepest ds d (drop k (numbers r))
  unfolding deepest
  deepest_next ds d y c = rw (here, c) refl

  pub hash_next : (g : ℕ) → hash_by (1640531527 * (g + x) % 4294967296) (drop (k + 1) (numbers r)) ≡ hash_by g (drop k (numbers r))
  unfolding hash_by
  hash_next g = rw here refl

-- no number is left
module _ (r : Row) (k : ℕ) (h : r.line.fields ≤ k) where
  past : drop k (numbers r) ≡ []
  past = row_past r.deck.now r.line.begin r.line.fields k h

  pub rising_end : (y : ℕ) → true ≡ rising (y ∷ drop k (numbers r))
  unfolding rising
  rising_end y = rw past refl

  pub deepest_end : (ds : List ℕ) (d : ℕ) → d ≡ deepest ds d (drop k (numbers r))
  unfolding deepest
  deepest_end ds d = rw past refl

  pub hash_end : (g : ℕ) → g ≡ hash_by g (drop k (numbers r))
  unfolding hash_by
  hash_end g = rw past refl

-- the first of them is number 1, or there is none
pub rising_start : (r : Row) (x : ℕ) → x ≡ get_or (numbers r) 1 0 → rising (x ∷ drop 2 (numbers r)) ≡ rising (drop 1 (numbers r))
unfolding rising
rising_start r x e =
    by_test (ltb 1 r.line.fields) (λ c. rising_first r 1 x (ltb-true 1 r.line.fields c) e)
    (λ c. let h = ltb-false 1 r.line.fields c in let i : r.line.fields ≤ 2 = omega arith in rw (past r 1 h, past r 2 i) refl)

-- ---- read one after the other, from number k on
read_from : (l : List ℕ) (k n : ℕ) → length l - k ≡ n → map (λ i. get_or l i 0) (range_with_len k n) ≡ drop k l
read_from l k zero e = sym (drop_of_length-le l {i = k} (omega arith))
read_from l k (suc n) e = ap (λ (m : List ℕ). get_or l k 0 ∷ m) (read_from l (k + 1) n (omega arith)) ∙ sym (next l k (get_or l k 0) (omega arith) refl)

module _ (r : Row) (k : ℕ) where
  abbrev pub row_list : List ℕ
  row_list = map (λ i. get_or (numbers r) i 0) (range_with_len k (r.line.fields - k))

  row_read : row_list ≡ drop k (numbers r)
  row_read = read_from (numbers r) k (r.line.fields - k) (rw (length_row r.deck.now r.line.begin r.line.fields) refl)

  pub each_read : (P : ℕ → Type 0) → Each P (drop k (numbers r)) → Each P row_list
  each_read P e = subst (Each P) (sym row_read) e

  row_small : (i : ℕ) → i < length (drop k (numbers r)) → get_or (drop k (numbers r)) i 0 < 2 ^ 64
  row_small i h =
      let n = length_row r.deck.now r.line.begin r.line.fields in
      let d = length-drop k (numbers r) in
      let m = row_most r.deck.now r.line.begin r.line.fields (k + i) (omega (arith, n, d)) in
      omega (arith, m, get_or-drop k (numbers r) i 0)

  -- what `all` answered of a test that gives q where P holds
  module _ (q : ℕ → Bool) (P : ℕ → Type 0) where
    abbrev pub Tested : Bool → ℕ → Type 0
    Tested b x = x < 2 ^ 64 → P x → b ≡ q x

    pub all_tested : Each P (drop k (numbers r)) → (b : Bool) → MatchBool b (AllWithin (Tested true) row_list 0 (length row_list)) ((i : ℕ) × (i < length row_list) × HoldsAt (Tested false) row_list i) → b ≡ all q (drop k (numbers r))
    all_tested e b m = answered b (rw row_read at m)
      where
        answered : (b : Bool) → MatchBool b (AllWithin (Tested true) (drop k (numbers r)) 0 (length (drop k (numbers r)))) ((i : ℕ) × (i < length (drop k (numbers r))) × HoldsAt (Tested false) (drop k (numbers r)) i) → b ≡ all q (drop k (numbers r))
        answered true f = sym (and_from_places (all q) q refl (λ x l. refl) (drop k (numbers r)) 0 (λ i h. sym (f i 0 (omega arith) h (row_small i h) (each_nth P (drop k (numbers r)) i 0 e h))))
        answered false p = sym (and_fails_at (all q) q refl (λ x l. refl) (drop k (numbers r)) p.0 0 p.1 (sym (p.2 0 (row_small p.0 p.1) (each_nth P (drop k (numbers r)) p.0 0 e p.1))))

-- ---- two lines, compared number by number
module _ (r o : Row) where
  abbrev pub Agree : ℕ → Type 0
  Agree k = get_or (numbers r) k 0 ≡ get_or (numbers o) k 0

  abbrev pub Differ : ℕ → Type 0
  Differ k = Agree k → ⊥

  pub same_length : (r.line.fields ≡ o.line.fields → ⊥) → false ≡ same_words (numbers r) (numbers o)
  same_length h = same_from_decides false (same_words (numbers r) (numbers o))
      ((λ t. absurd (false≢true t)), (λ e. absurd (h (sym (length_row r.deck.now r.line.begin r.line.fields) ∙ ap length e ∙ length_row o.deck.now o.line.begin o.line.fields)))) (words_decide (numbers r) (numbers o))

  pub same_all : r.line.fields ≡ o.line.fields → (b : Bool)
      → MatchBool b (AllWithin Agree (range_with_len 0 r.line.fields) 0 (length (range_with_len 0 r.line.fields))) ((k : ℕ) × (k < length (range_with_len 0 r.line.fields)) × HoldsAt Differ (range_with_len 0 r.line.fields) k)
      → b ≡ same_words (numbers r) (numbers o)
  same_all h b m = same_from_decides b (same_words (numbers r) (numbers o)) (decided b m) (words_decide (numbers r) (numbers o))
    where
      n : ℕ
      n = r.line.fields

      nth : (k : ℕ) → k < n → get_or (range_with_len 0 n) k 0 ≡ k
      nth k l = let z : 0 + k ≡ k = omega arith in get_or-range_with_len 0 n k 0 l ∙ z

      decided : (b : Bool) → MatchBool b (AllWithin Agree (range_with_len 0 n) 0 (length (range_with_len 0 n))) ((k : ℕ) × (k < length (range_with_len 0 n)) × HoldsAt Differ (range_with_len 0 n) k) → Decides b (numbers r ≡ numbers o)
      decided true f =
          let i = length_row r.deck.now r.line.begin r.line.fields in
          let j = length_row o.deck.now o.line.begin o.line.fields in
          ((λ t. same_number_lists (numbers r) (numbers o) (omega (arith, i, j, h)) (λ k l. let q : k < n = omega (arith, i, l) in subst Agree (nth k q) (f k 0 (omega arith) (rw (length-range_with_len 0 n) q)))), (λ e. refl))
      decided false p = ((λ t. absurd (false≢true t)), (λ e. absurd (p.2 0 (ap (λ (l : List ℕ). get_or l (get_or (range_with_len 0 n) p.0 0) 0) e))))
