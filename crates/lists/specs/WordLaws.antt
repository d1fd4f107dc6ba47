-- An axiom's words, which no call touches, and what is left of its list. Assumes nothing.
use Rattle.std.specs.Prelude.{◌≡◌, refl, List, [], ◌∷◌, ◌++◌, map, ℕ, ◌+◌, ◌-◌, ◌<◌, ◌≤◌, get_or}
use Rattle.std.proofs.Common.{sym, ap, ◌∙◌, arith}
use Rattle.ir.specs.Roles.{role_of}
use Rattle.ir.specs.Scratch.{numbers_at, lines_at}
use Rattle.ir.specs.declared.counters.Counters.{Counters}
use Rattle.rules.specs.Axioms.{paired, later_pairs, numbered, with_others, ordered_from}
use Rattle.pool.specs.Layout.{run}
use Rattle.pool.specs.Tabs.{tab_same, tab_next, tab_end}
use Rattle.axioms.specs.Wholes.{Untouched, Onward}
use Rattle.disjointness.specs.Covers.{Members}
use Rattle.lists.specs.Listed.{Listed, RolesListed}
use Rattle.lists.specs.PairLaws.{paired_next, later_next, others_next, others_skip, ordered_next}

-- ---- the words that are left of `count` from i on, after j of them
abbrev pub left : List ℕ → ℕ → ℕ → ℕ → List ℕ
left w i count j = run w (i + j) (count - j)

module _ (w : List ℕ) (i count : ℕ) where
  pub left_all : left w i count 0 ≡ run w i count
  left_all =
      let a : i + 0 ≡ i = omega arith in
      let b : count - 0 ≡ count = omega arith in
      rw (a, b) refl

  pub left_after : (j : ℕ) → left w i count (j + 1) ≡ run w (i + j + 1) (count - (j + 1))
  left_after j = let a : i + (j + 1) ≡ i + j + 1 = omega arith in rw a refl

  pub left_next : (j : ℕ) → j < count → left w i count j ≡ get_or w (i + j) 0 ∷ left w i count (j + 1)
  left_next j h = tab_next (λ (n : ℕ). get_or w n 0) i j count h

  pub left_end : (j : ℕ) → count ≤ j → left w i count j ≡ []
  left_end j h = tab_end (λ (n : ℕ). get_or w n 0) i j count h

-- ---- an axiom's words
module _ (w w' : List ℕ) (U : Untouched w w') where
  pub word_kept : (i : ℕ) → numbers_at ≤ i → i < lines_at → get_or w' i 0 ≡ get_or w i 0
  word_kept i a b = U.axioms i (omega arith) (omega arith)

  pub run_kept : (i n : ℕ) → numbers_at ≤ i → i + n ≤ lines_at → run w' i n ≡ run w i n
  run_kept i n a b = tab_same (λ (j : ℕ). get_or w' j 0) (λ (j : ℕ). get_or w j 0) i i n (λ j h. U.axioms (i + j) (omega arith) (omega arith))

  pub listed_kept : (k k' : Counters) (i count : ℕ) → Onward k k' → Listed w k i count → Listed w' k' i count
  listed_kept k k' i count O L = record {
    above = L.above;
    below = L.below;
    ids = λ j h. let e = U.axioms (i + j) (omega (arith, L.above)) (omega (arith, L.below)) in omega (arith, e, L.ids j h, O.concepts);
  }

  pub roles_kept : (i count : ℕ) → RolesListed w i count → RolesListed w' i count
  roles_kept i count L = record {
    above = L.above;
    below = L.below;
    codes = λ j h. let e = U.axioms (i + j) (omega (arith, L.above)) (omega (arith, L.below)) in omega (arith, e, L.codes j h);
  }

pub listed_members : (w : List ℕ) (k : Counters) (i count : ℕ) → Listed w k i count → Members w k i count
listed_members w k i count L = record { below = omega (arith, L.below); ids = L.ids }

-- ---- the pairs that are left: w₀ as the list was, w as it is read now
module _ (w₀ w : List ℕ) (U : Untouched w₀ w) (i count : ℕ) (lo : numbers_at ≤ i) (hi : i + count ≤ lines_at) where
  -- word j, as it is read
  pub word_read : (j a : ℕ) → j < count → a ≡ get_or w (i + j) 0 → a ≡ get_or w₀ (i + j) 0
  word_read j a h q = q ∙ word_kept w₀ w U (i + j) (omega arith) (omega arith)

  left_kept : (j : ℕ) → j < count → run w (i + j + 1) (count - (j + 1)) ≡ left w₀ i count (j + 1)
  left_kept j h = run_kept w₀ w U (i + j + 1) (count - (j + 1)) (omega arith) (omega arith) ∙ sym (left_after w₀ i count j)

  module _ (j : ℕ) (h : j < count) where
    -- the pairs of word j with each later one
    pub later_turn : later_pairs (left w₀ i count j) ≡ paired (get_or w (i + j) 0) (run w (i + j + 1) (count - (j + 1))) [] ++ later_pairs (left w₀ i count (j + 1))
    later_turn =
        let e = word_kept w₀ w U (i + j) (omega arith) (omega arith) in
        rw (e, left_kept j h) (later_next (get_or w₀ (i + j) 0) (left w₀ i count j) (left w₀ i count (j + 1)) (left_next w₀ i count j h))

    pub later_roles : later_pairs (map role_of (left w₀ i count j)) ≡ paired (role_of (get_or w (i + j) 0)) (map role_of (run w (i + j + 1) (count - (j + 1)))) [] ++ later_pairs (map role_of (left w₀ i count (j + 1)))
    later_roles =
        let e = word_kept w₀ w U (i + j) (omega arith) (omega arith) in
        rw (e, left_kept j h) (later_next (role_of (get_or w₀ (i + j) 0)) (map role_of (left w₀ i count j)) (map role_of (left w₀ i count (j + 1))) (ap (map role_of) (left_next w₀ i count j h)))

    -- with every other one
    pub ordered_turn : (all : List (ℕ × ℕ)) → all ≡ numbered 0 (run w₀ i count)
        → ordered_from (numbered j (left w₀ i count j)) all ≡ with_others (j, get_or w (i + j) 0) (numbered 0 (run w i count)) [] ++ ordered_from (numbered (j + 1) (left w₀ i count (j + 1))) all
    ordered_turn all q =
        let e = word_kept w₀ w U (i + j) (omega arith) (omega arith) in
        let r : numbered 0 (run w i count) ≡ all = ap (numbered 0) (run_kept w₀ w U i count lo hi) ∙ sym q in
        rw (e, r) (ordered_next j (get_or w₀ (i + j) 0) (left w₀ i count j) (left w₀ i count (j + 1)) all (left_next w₀ i count j h))

-- word j, as it is read
pub word_turn : (w : List ℕ) (i count j b : ℕ) → j < count → b ≡ get_or w (i + j) 0 → left w i count j ≡ b ∷ left w i count (j + 1)
word_turn w i count j b h q = rw q (left_next w i count j h)

-- a, which is a₀, with word j
module _ (w : List ℕ) (i count j a a₀ b : ℕ) (h : j < count) (e : a ≡ a₀) (q : b ≡ get_or w (i + j) 0) where
  turn : left w i count j ≡ b ∷ left w i count (j + 1)
  turn = word_turn w i count j b h q

  pub pair_next : paired a₀ (left w i count j) [] ≡ (a, b) ∷ paired a₀ (left w i count (j + 1)) []
  pair_next = rw e (paired_next a₀ b (left w i count j) (left w i count (j + 1)) turn)

  pub pair_roles : paired (role_of a₀) (map role_of (left w i count j)) [] ≡ (role_of a, role_of b) ∷ paired (role_of a₀) (map role_of (left w i count (j + 1))) []
  pair_roles = rw e (paired_next (role_of a₀) (role_of b) (map role_of (left w i count j)) (map role_of (left w i count (j + 1))) (ap (map role_of) turn))

  pub other_next : (n : ℕ) → (n ≡ j → ⊥) → with_others (n, a₀) (numbered j (left w i count j)) [] ≡ (a, b) ∷ with_others (n, a₀) (numbered (j + 1) (left w i count (j + 1))) []
  other_next n u = rw e (others_next n j a₀ b (left w i count j) (left w i count (j + 1)) turn u)

-- a with itself
pub other_skip : (w : List ℕ) (i count j n a : ℕ) → j < count → n ≡ j → with_others (n, a) (numbered j (left w i count j)) [] ≡ with_others (n, a) (numbered (j + 1) (left w i count (j + 1))) []
other_skip w i count j n a h u = others_skip n j a (get_or w (i + j) 0) (left w i count j) (left w i count (j + 1)) (left_next w i count j h) u
