-- The search along a chain of the index. Assumes nothing.
use mathlib.Core.Path.{◌≡◌, refl, sym, ap, ◌∙◌}
use mathlib.Core.Bool.{Bool, true, false}
use mathlib.Core.List.{List, [], ◌∷◌, ◌++◌}
use mathlib.Core.Option.{Option, none, some}
use Prim.Native.Nat.{ℕ, zero, suc, ◌+◌, ◌<◌, ◌≤◌}
use native.Mathlib.Omega.{arith}
use lib.ListN.{length, get_or}
use lib.Dec.{eqb}
use borrow.Author.Tests.{eqb-true, eqb-false}
use Rattle.rules.specs.Concept.{Concept, same_concept}
use Rattle.rules.specs.Pool.{Pool, found_in, find}
use Rattle.rules.specs.PoolLaws.{same_concept_lem}
use Rattle.rules.specs.TextLaws.{by_test}
use Rattle.pool.specs.declared.record.Record.{Record}
use Rattle.pool.specs.Layout.{heads_at, tab, run, field, count_of, concept_over, concept_at, pool_of, plain}
use Rattle.pool.specs.Index.{record_hash, hash_by, hash_of, hash_at, last}
use Rattle.pool.specs.Held.{Held}
use Rattle.pool.specs.Shapes.{listed_over}
use Rattle.pool.specs.HeldLaws.{pool_length, pool_snoc}

-- the code's hash is the concept's
pub hash_over : (w : List ℕ) (i : ℕ) (x : Record) → plain (concept_over w i x) ≡ x → hash_by (record_hash x) (run w i (count_of x)) ≡ hash_of (concept_over w i x)
hash_over w i x p = sym (ap (λ (y : Record). hash_by (record_hash y) (run w i (count_of x))) p) ∙ ap (hash_by (record_hash (plain (concept_over w i x)))) (sym (listed_over w i x p))

-- one concept more at the end
snoc_no : (e x : Concept) (p : Pool) → same_concept e x ≡ false → find e (p ++ (x ∷ [])) ≡ find e p
unfolding find
snoc_no e x [] h = rw h refl
snoc_no e x (y ∷ p) h = ap (found_in (same_concept e y)) (snoc_no e x p h)

found_none : (b : Bool) (o : Option ℕ) → found_in b o ≡ none → (b ≡ false) × (o ≡ none)
found_none true o h = absurd (let z : ◌≡◌ {A = ℕ} 0 1 = cc in omega arith)
found_none false none h = (refl, refl)
found_none false (some i) h = absurd (let z : ◌≡◌ {A = ℕ} 0 1 = cc in omega arith)

snoc_yes : (e x : Concept) (p : Pool) → find e p ≡ none → same_concept e x ≡ true → find e (p ++ (x ∷ [])) ≡ some (length p)
unfolding find
snoc_yes e x [] n h = rw h refl
snoc_yes e x (y ∷ p) n h =
    let t = found_none (same_concept e y) (find e p) n in
    rw (t.0, snoc_yes e x p t.1 h) refl

module _ (H : ℕ → ℕ) (h : ℕ) where
  last_at : (n i : ℕ) → last H n h ≡ suc i → H i ≡ h
  unfolding last
  last_at zero i e = absurd (omega arith)
  last_at (suc n) i e = by_test (eqb (H n) h)
      (λ a. let q : suc n ≡ suc i = sym (rw a refl) ∙ e in let m : n ≡ i = omega arith in rw (← m) (eqb-true (H n) h a))
      (λ a. last_at n i (sym (rw a refl) ∙ e))

  last_le : (n : ℕ) → last H n h ≤ n
  unfolding last
  last_le zero = omega arith
  last_le (suc n) = by_test (eqb (H n) h) (λ a. rw a (omega arith)) (λ a. let q = last_le n in rw a (omega arith))

module _ (w : List ℕ) (e : Concept) where
  next_no : (c : ℕ) → same_concept e (concept_at w c) ≡ false → find e (pool_of w (suc c)) ≡ find e (pool_of w c)
  next_no c h = ap (find e) (pool_snoc w c) ∙ snoc_no e (concept_at w c) (pool_of w c) h

  next_yes : (c : ℕ) → find (concept_at w c) (pool_of w c) ≡ none → same_concept e (concept_at w c) ≡ true → find e (pool_of w (suc c)) ≡ some c
  next_yes c n h =
      let q : e ≡ concept_at w c = same_concept_lem e (concept_at w c) h in
      ap (find e) (pool_snoc w c) ∙ snoc_yes e (concept_at w c) (pool_of w c) (rw q n) h ∙ ap some (pool_length w c)

  other : (c : ℕ) → eqb (hash_at w c) (hash_of e) ≡ false → same_concept e (concept_at w c) ≡ false
  other c h = by_test (same_concept e (concept_at w c))
      (λ a. absurd (eqb-false (hash_at w c) (hash_of e) h (ap hash_of (sym (same_concept_lem e (concept_at w c) a)))))
      (λ a. a)

  -- concepts after the last with this hash are others
  skip : (n : ℕ) → find e (pool_of w (last (hash_at w) n (hash_of e))) ≡ find e (pool_of w n)
  unfolding last
  skip zero = refl
  skip (suc n) = by_test (eqb (hash_at w n) (hash_of e)) (λ a. rw a refl) (λ a. rw a (skip n ∙ sym (next_no n (other n a))))

-- what is known of the chain where it goes on at c - 1: no concept from c on is the one sought
pub record Chasing (w : List ℕ) (n : ℕ) (e : Concept) (c : ℕ) : Type 0 where
  pub within : c ≤ n
  pub hashed : (i : ℕ) → c ≡ suc i → hash_at w i ≡ hash_of e
  pub rest : find e (pool_of w c) ≡ find e (pool_of w n)

module _ (w : List ℕ) (n m : ℕ) (e : Concept) (H : Held w n m) where
  pub chase_first : (h c : ℕ) → h ≡ hash_of e → h < 2048 → c ≡ get_or w (heads_at + h) 0 → Chasing w n e c
  chase_first h c q l f =
      let z : c ≡ last (hash_at w) n (hash_of e) = f ∙ H.heads h l ∙ ap (last (hash_at w) n) q in
      record {
        within = rw z (last_le (hash_at w) (hash_of e) n);
        hashed = λ i a. last_at (hash_at w) (hash_of e) n i (sym z ∙ a);
        rest = rw z (skip w e n);
      }

  module _ (c i : ℕ) (C : Chasing w n e c) (q : c ≡ suc i) where
    pub chase_yes : same_concept e (concept_at w i) ≡ true → some i ≡ find e (pool_of w n)
    chase_yes a = sym (next_yes w e i (H.records i (omega (arith, C.within))).new a) ∙ ap (λ (j : ℕ). find e (pool_of w j)) (sym q) ∙ C.rest

    next_is : (d : ℕ) → d ≡ field w i 5 → d ≡ last (hash_at w) i (hash_of e)
    next_is d f = f ∙ (H.records i (omega (arith, C.within))).link ∙ ap (last (hash_at w) i) (C.hashed i q)

    pub chase_less : (d : ℕ) → d ≡ field w i 5 → d ≤ i
    chase_less d f = rw (next_is d f) (last_le (hash_at w) (hash_of e) i)

    pub chase_on : (d : ℕ) → d ≡ field w i 5 → same_concept e (concept_at w i) ≡ false → Chasing w n e d
    chase_on d f a =
        let z = next_is d f in
        let l : d ≤ i = chase_less d f in
        record {
          within = omega (arith, C.within);
          hashed = λ j b. last_at (hash_at w) (hash_of e) i j (sym z ∙ b);
          rest = rw z (skip w e i) ∙ sym (next_no w e i a) ∙ ap (λ (j : ℕ). find e (pool_of w j)) (sym q) ∙ C.rest;
        }

pub chase_end : (w : List ℕ) (n : ℕ) (e : Concept) (c : ℕ) → Chasing w n e c → c ≡ 0 → none ≡ find e (pool_of w n)
unfolding tab find
chase_end w n e c C q = sym (ap (λ (j : ℕ). find e (pool_of w j)) q) ∙ C.rest
