-- Laws of the index: a search along its links is a search of all, and one number more. Assumes nothing.
use Rattle.std.specs.Prelude.{◌≡◌, Bool, true, false, List, eqb, ltb, get_or}
use Rattle.std.proofs.Math.Path.{refl, sym}
use Rattle.std.proofs.Common.{ap, ◌∙◌, add-one, eqb-true, ltb-true, ltb-false}
use Prim.Native.Nat.{ℕ, zero, suc, ◌+◌, ◌-◌, ◌<◌, ◌≤◌}
use native.Mathlib.Omega.{arith}
use Rattle.std.proofs.lemmas.Bool.{eqb-false}
use Rattle.std.proofs.Math.Bool.{or-true, or-false}
use Rattle.rules.specs.Base.{any}
use Rattle.rules.specs.TextLaws.{by_test}
use Rattle.deck.specs.Index.{last, Indexed}
use Rattle.deck.specs.Records.{tab}
use Rattle.deck.specs.TabLaws.{any_more}

module _ (H : ℕ → ℕ) (h : ℕ) where
  last_at : (n i : ℕ) → last H n h ≡ suc i → H i ≡ h
  unfolding last
  last_at zero i e = absurd (omega arith)
  last_at (suc n) i e =
      by_test (eqb (H n) h)
      (λ a. let q : suc n ≡ suc i = sym (rw a refl) ∙ e in let m : n ≡ i = omega arith in rw (← m) (eqb-true (H n) h a))
      (λ a. last_at n i (sym (rw a refl) ∙ e))

  last_most : (n : ℕ) → last H n h ≤ n
  unfolding last
  last_most zero = omega arith
  last_most (suc n) = by_test (eqb (H n) h) (λ a. rw a (omega arith)) (λ a. let q = last_most n in rw a (omega arith))

pub last_same : (H G : ℕ → ℕ) (n h : ℕ) → ((i : ℕ) → i < n → H i ≡ G i) → last H n h ≡ last G n h
unfolding last
last_same H G zero h e = refl
last_same H G (suc n) h e = rw (e n (omega arith), last_same H G n h (λ i l. e i (omega arith))) refl

-- ---- the search among the first n of f for one that passes p, where all that pass have hash h
module _ {A : Type 0} (p : A → Bool) (f : ℕ → A) (H : ℕ → ℕ) (h n : ℕ) where
  -- at c of the chain: the answer is the answer among the first c
  pub record Chasing (c : ℕ) : Type 0 where
    pub within : c ≤ n
    pub hashed : (i : ℕ) → c ≡ suc i → H i ≡ h
    pub rest : any p (tab f c) ≡ any p (tab f n)

  module _ (agree : (i : ℕ) → i < n → p (f i) ≡ true → H i ≡ h) where
    -- numbers after the last with this hash do not pass
    skip : (m : ℕ) → m ≤ n → any p (tab f (last H m h)) ≡ any p (tab f m)
    unfolding last
    skip zero l = refl
    skip (suc m) l =
        by_test (eqb (H m) h) (λ a. rw a refl)
        (λ a. by_test (p (f m)) (λ b. absurd (eqb-false (H m) h a (agree m (omega arith) b)))
        (λ b. rw a (skip m (omega arith) ∙ sym (any_more f p m ∙ rw b (or-false (any p (tab f m)))))))

    module _ (head link : ℕ) (w : List ℕ) (I : Indexed head link H w n) where
      pub chase_first : (c g : ℕ) → g ≡ h → g < 1024 → c ≡ get_or w (head + g) 0 → Chasing c
      chase_first c g a l e =
          let q : c ≡ last H n h = e ∙ I.heads g l ∙ ap (last H n) a in
          record { within = rw q (last_most H h n); hashed = λ i a. last_at H h n i (sym q ∙ a); rest = rw q (skip n (omega arith)) }

      module _ (c : ℕ) (C : Chasing c) (z : c ≡ 0 → ⊥) where
        before : c ≡ suc (c - 1)
        before = omega arith

        pub chase_in : c - 1 < n
        chase_in = omega (arith, C.within)

        pub chase_yes : p (f (c - 1)) ≡ true → true ≡ any p (tab f n)
        chase_yes a = sym (ap (λ (j : ℕ). any p (tab f j)) before ∙ any_more f p (c - 1) ∙ rw a (or-true (any p (tab f (c - 1))))) ∙ C.rest

        next : (d : ℕ) → d ≡ get_or w (link + (c - 1)) 0 → d ≡ last H (c - 1) h
        next d e = e ∙ I.links (c - 1) chase_in ∙ ap (last H (c - 1)) (C.hashed (c - 1) before)

        pub chase_less : (d : ℕ) → d ≡ get_or w (link + (c - 1)) 0 → d < c
        chase_less d e = let l = last_most H h (c - 1) in rw (next d e) (omega arith)

        pub chase_on : (d : ℕ) → d ≡ get_or w (link + (c - 1)) 0 → p (f (c - 1)) ≡ false → Chasing d
        chase_on d e a =
            let q = next d e in
            let l = chase_less d e in
            let down : any p (tab f d) ≡ any p (tab f (c - 1)) = rw q (skip (c - 1) (omega (arith, C.within))) in
            let one : any p (tab f c) ≡ any p (tab f (c - 1)) = ap (λ (j : ℕ). any p (tab f j)) before ∙ any_more f p (c - 1) ∙ rw a (or-false (any p (tab f (c - 1)))) in
            record { within = omega (arith, C.within); hashed = λ i b. last_at H h (c - 1) i (sym q ∙ b); rest = down ∙ sym one ∙ C.rest }

  pub chase_end : (c : ℕ) → Chasing c → c ≡ 0 → false ≡ any p (tab f n)
  unfolding tab
  chase_end c C e = sym (ap (λ (j : ℕ). any p (tab f j)) e) ∙ C.rest

-- ---- one more number, n, with hash h
module _ (head link : ℕ) (H G : ℕ → ℕ) (w w₁ : List ℕ) (n h : ℕ) (I : Indexed head link H w n) (same : (i : ℕ) → i < n → H i ≡ G i) (e : h ≡ G n) (m : h < 1024)
    (new : get_or w₁ (head + h) 0 ≡ n + 1) (made : get_or w₁ (link + n) 0 ≡ get_or w (head + h) 0)
    (heads : (g : ℕ) → g < 1024 → (g ≡ h → ⊥) → get_or w₁ (head + g) 0 ≡ get_or w (head + g) 0) (links : (i : ℕ) → i < n → get_or w₁ (link + i) 0 ≡ get_or w (link + i) 0) where
  last_yes : (g : ℕ) → eqb (G n) g ≡ true → n + 1 ≡ last G (n + 1) g
  unfolding last
  last_yes g a = rw (add-one n, a) refl

  last_no : (g : ℕ) → eqb (G n) g ≡ false → last H n g ≡ last G (n + 1) g
  unfolding last
  last_no g a = last_same H G n g same ∙ rw (add-one n, a) refl

  pub indexed_more : Indexed head link G w₁ (n + 1)
  indexed_more = record {
    heads = λ g b. by_test (eqb (G n) g)
        (λ a. ap (λ (i : ℕ). get_or w₁ (head + i) 0) (sym (eqb-true (G n) g a) ∙ sym e) ∙ new ∙ last_yes g a)
        (λ a. heads g b (λ c. eqb-false (G n) g a (sym e ∙ sym c)) ∙ I.heads g b ∙ last_no g a);
    links = λ i b. by_test (ltb i n)
        (λ a. let y : i < n = ltb-true i n a in links i y ∙ I.links i y ∙ last_same H G i (H i) (λ j l. same j (omega arith)) ∙ ap (last G i) (same i y))
        (λ a. let y = ltb-false i n a in let q : i ≡ n = omega arith in rw q (made ∙ I.heads h m ∙ last_same H G n h same ∙ ap (last G n) e));
  }

-- a table that agrees where the index stands, and where the hashes are read
pub indexed_same : (head link : ℕ) (H G : ℕ → ℕ) (w w₁ : List ℕ) (n : ℕ) → Indexed head link H w n → ((i : ℕ) → i < n → H i ≡ G i)
    → ((h : ℕ) → h < 1024 → get_or w₁ (head + h) 0 ≡ get_or w (head + h) 0) → ((i : ℕ) → i < n → get_or w₁ (link + i) 0 ≡ get_or w (link + i) 0) → Indexed head link G w₁ n
indexed_same head link H G w w₁ n I same heads links = record {
  heads = λ h l. heads h l ∙ I.heads h l ∙ last_same H G n h same;
  links = λ i l. links i l ∙ I.links i l ∙ last_same H G i (H i) (λ j m. same j (omega arith)) ∙ ap (last G i) (same i l);
}
