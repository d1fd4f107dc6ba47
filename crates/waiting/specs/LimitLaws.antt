-- Laws of the limits in scratch. Assumes nothing.
use Rattle.std.specs.Prelude.{◌≡◌, refl, Bool, true, false, List, [], ◌∷◌, ◌++◌, ℕ, suc, ◌+◌, ◌*◌, ◌≤◌, ◌<◌, length, get_or, set, take, ltb}
use Rattle.std.proofs.Common.{sym, ap, ◌∙◌, arith, length-append, length-set, get_or-set_same, get_or-set_other, get_or-take, take_all, length-take-le, ltb-true, ltb-false, lt-ltb, le-ltb}
use Rattle.std.proofs.lemmas.List.{take-append-le, take-set-le}
use Rattle.std.proofs.lemmas.List.Edits.{sets}
use Rattle.ir.specs.Pick.{pick}
use Rattle.ir.specs.Scratch.{limits_at, limits_words}
use Rattle.rules.specs.State.{Limit}
use Rattle.pool.specs.Layout.{tab}
use Rattle.pool.specs.Tabs.{length_tab, get_d_tab, tab_snoc, tab_same}
use Rattle.waiting.specs.Limits.{most_limits, limit_in, limits_in, written, appended, Waits, Behind}

-- ---- words behind
pub behind_same : (w : List ℕ) → Behind w w
behind_same w = record { same = λ j h. refl }

pub behind_then : (w w' w'' : List ℕ) → Behind w w' → Behind w' w'' → Behind w w''
behind_then w w' w'' A B = record { same = λ j h. B.same j h ∙ A.same j h }

-- ---- where the words behind are the same
limit_same : (w w' : List ℕ) → Behind w w' → (i : ℕ) → limit_in w' i ≡ limit_in w i
limit_same w w' A i = rw (A.same (limits_at + 1 + 2 * i) (omega arith), A.same (limits_at + 2 + 2 * i) (omega arith)) refl

limits_same : (w w' : List ℕ) → Behind w w' → limits_in w' ≡ limits_in w
limits_same w w' A = rw (A.same limits_at (omega arith)) (tab_same (limit_in w') (limit_in w) 0 0 (get_or w limits_at 0) (λ k l. limit_same w w' A (0 + k)))

pub waits_kept : (w w' : List ℕ) (l : List Limit) → Behind w w' → Waits w l → Waits w' l
waits_kept w w' l A W = record { are = limits_same w w' A ∙ W.are }

-- ---- none
pub waits_reset : (w w' : List ℕ) → limits_at < length w → w' ≡ set w limits_at 0 → Waits w' []
unfolding tab
waits_reset w w' h e =
    let z : get_or w' limits_at 0 ≡ 0 = ap (λ (v : List ℕ). get_or v limits_at 0) e ∙ get_or-set_same w limits_at 0 0 h in
    record { are = rw z refl }

-- ---- how many there are
-- all of them, or the most
pub record Cut (w : List ℕ) (l : List Limit) : Type 0 where
  pub most : get_or w limits_at 0 ≤ most_limits
  pub within : get_or w limits_at 0 ≤ length l
  pub all : get_or w limits_at 0 < most_limits → (get_or w limits_at 0 ≡ length l) × (limits_in w ≡ l)

pub waits_cut : (w : List ℕ) (l : List Limit) → Waits w l → Cut w l
waits_cut w l W = by (ltb (length l) most_limits) refl
  where
    count : get_or w limits_at 0 ≡ length (take most_limits l)
    count = sym (length_tab (limit_in w) 0 (get_or w limits_at 0)) ∙ ap (λ (k : List Limit). length k) W.are

    by : (b : Bool) → ltb (length l) most_limits ≡ b → Cut w l
    by true e =
        let h = ltb-true (length l) most_limits e in
        let t : take most_limits l ≡ l = take_all most_limits l (omega arith) in
        let n : get_or w limits_at 0 ≡ length l = count ∙ ap (λ (k : List Limit). length k) t in
        record { most = omega arith; within = omega arith; all = λ _. (n, W.are ∙ t) }
    by false e =
        let h = ltb-false (length l) most_limits e in
        let n : get_or w limits_at 0 ≡ most_limits = count ∙ length-take-le most_limits l h in
        record { most = omega arith; within = omega arith; all = λ q. absurd (omega arith) }

-- one of them
pub waits_at : (w : List ℕ) (l : List Limit) (d : Limit) (i : ℕ) → Waits w l → i < get_or w limits_at 0 → (i < most_limits) × (i < length l) × (limit_in w i ≡ get_or l i d)
waits_at w l d i W h =
    let C = waits_cut w l W in
    let few : i < most_limits = omega (arith, C.most) in
    let z : 0 + i ≡ i = omega arith in (
      few,
      omega (arith, C.within),
      ap (limit_in w) (sym z) ∙ sym (get_d_tab (limit_in w) d 0 (get_or w limits_at 0) i h) ∙ ap (λ (k : List Limit). get_or k i d) W.are ∙ get_or-take most_limits l i d few,
    )

-- none from i on
pub waits_end : (w : List ℕ) (l : List Limit) (i : ℕ) → Waits w l → get_or w limits_at 0 ≤ i → i < most_limits → length l ≤ i
waits_end w l i W h k = let C = waits_cut w l W in omega (arith, (C.all (omega arith)).0)

-- ---- one more
module _ (w : List ℕ) (filler name : ℕ) where
  below_kept : (n : ℕ) (p : ℕ) → p ≤ limits_at → take p (written w n filler name) ≡ take p w
  below_kept n p h =
      let at : ℕ = limits_at + 1 + 2 * n in
      take-set-le p (set (set w at filler) (at + 1) name) limits_at (n + 1) h ∙ take-set-le p (set w at filler) (at + 1) name (omega arith) ∙ take-set-le p w at filler (omega arith)

  -- as the code makes it, or leaves it
  pub appended_is : (n at : ℕ) (w1 w2 : List ℕ) → n ≡ get_or w limits_at 0 → n < most_limits → at ≡ limits_at + 1 + 2 * n → w1 ≡ sets w at (filler ∷ name ∷ []) → w2 ≡ set w1 limits_at (n + 1)
      → w2 ≡ appended w filler name
  appended_is n at w1 w2 e h a x y =
      let b : ltb (get_or w limits_at 0) most_limits ≡ true = lt-ltb (get_or w limits_at 0) most_limits (omega arith) in
      let q : limits_at + 1 + 2 * n + 1 ≡ suc (limits_at + 1 + 2 * n) = omega arith in
      rw b (y ∙ rw (x, a, ← e, q) refl)

  pub appended_not : (n : ℕ) → n ≡ get_or w limits_at 0 → most_limits ≤ n → w ≡ appended w filler name
  appended_not n e h = let b : ltb (get_or w limits_at 0) most_limits ≡ false = le-ltb (get_or w limits_at 0) most_limits (omega arith) in rw b refl

  pub appended_below : (p : ℕ) → p ≤ limits_at → take p (appended w filler name) ≡ take p w
  appended_below p h = by (ltb (get_or w limits_at 0) most_limits)
    where
      by : (b : Bool) → take p (pick b (written w (get_or w limits_at 0) filler name) w) ≡ take p w
      by true = below_kept (get_or w limits_at 0) p h
      by false = refl

  written_limit : (n : ℕ) → limits_at + limits_words ≤ length w → n < most_limits → limit_in (written w n filler name) n ≡ record { filler = filler; name = name }
  written_limit n h k =
      let at : ℕ = limits_at + 1 + 2 * n in
      let u : List ℕ = set w at filler in
      let v : List ℕ = set u (at + 1) name in
      let lu : length u ≡ length w = length-set w at filler in
      let f : get_or (set v limits_at (n + 1)) at 0 ≡ filler =
      get_or-set_other v limits_at at (n + 1) 0 (λ q. omega arith) ∙ get_or-set_other u (at + 1) at name 0 (λ q. omega arith) ∙ get_or-set_same w at filler 0 (omega arith) in
      let e : limits_at + 2 + 2 * n ≡ at + 1 = omega arith in
      let g : get_or (set v limits_at (n + 1)) (limits_at + 2 + 2 * n) 0 ≡ name =
      rw e (get_or-set_other v limits_at (at + 1) (n + 1) 0 (λ q. omega arith) ∙ get_or-set_same u (at + 1) name 0 (omega arith)) in
      rw (f, g) refl

  written_before : (n i : ℕ) → i < n → limit_in (written w n filler name) i ≡ limit_in w i
  written_before n i h =
      let at : ℕ = limits_at + 1 + 2 * n in
      let u : List ℕ = set w at filler in
      let v : List ℕ = set u (at + 1) name in
      let same : (j : ℕ) → limits_at < j → j < at → get_or (set v limits_at (n + 1)) j 0 ≡ get_or w j 0 =
      λ j a b. get_or-set_other v limits_at j (n + 1) 0 (λ q. omega arith) ∙ get_or-set_other u (at + 1) j name 0 (λ q. omega arith) ∙ get_or-set_other w at j filler 0 (λ q. omega arith) in
      rw (same (limits_at + 1 + 2 * i) (omega arith) (omega arith), same (limits_at + 2 + 2 * i) (omega arith) (omega arith)) refl

  written_count : (n : ℕ) → limits_at + limits_words ≤ length w → get_or (written w n filler name) limits_at 0 ≡ n + 1
  written_count n h =
      let at : ℕ = limits_at + 1 + 2 * n in
      get_or-set_same (set (set w at filler) (at + 1) name) limits_at (n + 1) 0 (omega (arith, length-set (set w at filler) (at + 1) name, length-set w at filler))

  pub waits_appended : (l : List Limit) → limits_at + limits_words ≤ length w → Waits w l → Waits (appended w filler name) (l ++ (record { filler = filler; name = name } ∷ []))
  waits_appended l h W = by (ltb (get_or w limits_at 0) most_limits) refl
    where
      x : Limit
      x = record { filler = filler; name = name }

      n : ℕ
      n = get_or w limits_at 0

      C : Cut w l
      C = waits_cut w l W

      by : (b : Bool) → ltb n most_limits ≡ b → Waits (pick b (written w n filler name) w) (l ++ (x ∷ []))
      by true e =
          let k = ltb-true n most_limits e in
          let A = C.all k in
          let w' : List ℕ = written w n filler name in
          let s : n + 1 ≡ suc n = omega arith in
          let z : 0 + n ≡ n = omega arith in
          let p : tab (limit_in w') 0 n ≡ l = tab_same (limit_in w') (limit_in w) 0 0 n (λ i j. written_before n (0 + i) (omega arith)) ∙ A.1 in
          let q : limit_in w' (0 + n) ≡ x = ap (limit_in w') z ∙ written_limit n h k in
          let g = length-append l (x ∷ []) in
          record {
            are = ap (tab (limit_in w') 0) (written_count n h ∙ s) ∙ tab_snoc (limit_in w') 0 n ∙ rw (p, q) (sym (take_all most_limits (l ++ (x ∷ [])) (omega (arith, A.0))));
          }
      by false e =
          let k = ltb-false n most_limits e in
          record { are = W.are ∙ sym (take-append-le most_limits l (x ∷ []) (omega (arith, C.within))) }
