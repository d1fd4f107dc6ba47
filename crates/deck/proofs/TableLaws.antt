-- Stores into the table, and what they leave alone. Assumes nothing.
use mathlib.Core.Path.{◌≡◌, refl, ap, ◌∙◌}
use mathlib.Core.List.{List, [], ◌∷◌}
use Prim.Native.Nat.{ℕ, ◌+◌, ◌*◌, ◌<◌, ◌≤◌}
use native.Mathlib.Omega.{arith}
use lib.ListN.{length, get_or, set, length-set}
use lib.Seq.{sets, length-sets, get_or-set_same, get_or-set_other}
use Rattle.words.specs.Runs.{get_d_sets_before, get_d_sets_after, get_d_sets_in}
use Rattle.deck.specs.Records.{concept_at, axiom_at, row_in, depth_in, axiom_fields, axiom_row_in, concepts_in, depths_in, axioms_in, sum}
use Rattle.deck.specs.TabLaws.{tab_same, sum_same}

-- ---- the words from a on and below b are the same
abbrev pub Agree : List ℕ → List ℕ → ℕ → ℕ → Type 0
Agree w v a b = (i : ℕ) → a ≤ i → i < b → get_or v i 0 ≡ get_or w i 0

module _ (s w v : List ℕ) (n : ℕ) (A : Agree w v 0 (3 * n)) where
  pub row_agree : (i : ℕ) → i < n → row_in s v i ≡ row_in s w i
  row_agree i l = rw (A (3 * i) (omega arith) (omega arith), A (3 * i + 1) (omega arith) (omega arith)) refl

  pub concepts_agree : concepts_in s v n ≡ concepts_in s w n
  concepts_agree = tab_same (λ i. concept_at (row_in s v i)) (λ i. concept_at (row_in s w i)) n (λ i l. ap concept_at (row_agree i l))

  pub depths_agree : depths_in v n ≡ depths_in w n
  depths_agree = tab_same (depth_in v) (depth_in w) n (λ i l. A (3 * i + 2) (omega arith) (omega arith))

module _ (s w v : List ℕ) (n : ℕ) (A : Agree w v 3072 (3072 + 2 * n)) where
  pub axiom_row_agree : (i : ℕ) → i < n → axiom_row_in s v i ≡ axiom_row_in s w i
  axiom_row_agree i l = rw (A (3072 + 2 * i) (omega arith) (omega arith), A (3072 + 2 * i + 1) (omega arith) (omega arith)) refl

  pub axioms_agree : axioms_in s v n ≡ axioms_in s w n
  axioms_agree = tab_same (λ i. axiom_at (axiom_row_in s v i)) (λ i. axiom_at (axiom_row_in s w i)) n (λ i l. ap axiom_at (axiom_row_agree i l))

  pub fields_agree : sum (axiom_fields v) n ≡ sum (axiom_fields w) n
  fields_agree = sum_same (axiom_fields v) (axiom_fields w) n (λ i l. A (3072 + 2 * i + 1) (omega arith) (omega arith))

-- ---- an axiom's record
abbrev pub axiom_put : List ℕ → ℕ → ℕ → ℕ → List ℕ
axiom_put w a p n = sets w (3072 + 2 * a) (p ∷ n ∷ [])

module _ (w : List ℕ) (a p n : ℕ) (few : a < 1024) (long : 7168 ≤ length w) where
  pub axiom_before : (b : ℕ) → b ≤ 3072 + 2 * a → Agree w (axiom_put w a p n) 0 b
  axiom_before b h i l m = get_d_sets_before (p ∷ n ∷ []) w (3072 + 2 * a) i 0 (omega arith)

  pub axiom_after : Agree w (axiom_put w a p n) 5120 7168
  axiom_after i l m = get_d_sets_after (p ∷ n ∷ []) w (3072 + 2 * a) i 0 (omega arith)

  pub axiom_begin : get_or (axiom_put w a p n) (3072 + 2 * a) 0 ≡ p
  axiom_begin = let e : 3072 + 2 * a ≡ 3072 + 2 * a + 0 = omega arith in ap (λ (i : ℕ). get_or (axiom_put w a p n) i 0) e ∙ get_d_sets_in (p ∷ n ∷ []) w (3072 + 2 * a) 0 0 (omega arith) (omega arith)

  pub axiom_fields_lem : get_or (axiom_put w a p n) (3072 + 2 * a + 1) 0 ≡ n
  axiom_fields_lem = let e : 3072 + 2 * a + 1 ≡ 3072 + 2 * a + 1 = omega arith in ap (λ (i : ℕ). get_or (axiom_put w a p n) i 0) e ∙ get_d_sets_in (p ∷ n ∷ []) w (3072 + 2 * a) 1 0 (omega arith) (omega arith)

-- ---- a concept's record, and its place in the index
abbrev pub concept_put : List ℕ → ℕ → ℕ → ℕ → ℕ → List ℕ
concept_put w c p n d = sets w (3 * c) (p ∷ n ∷ d ∷ [])

abbrev pub index_put : List ℕ → ℕ → ℕ → List ℕ
index_put w c h = set (set w (6144 + c) (get_or w (5120 + h) 0)) (5120 + h) (c + 1)

module _ (w : List ℕ) (c p n d h : ℕ) (few : c < 1024) (small : h < 1024) (long : 7168 ≤ length w) where
  put_long : length (concept_put w c p n d) ≡ length w
  put_long = length-sets w (3 * c) (p ∷ n ∷ d ∷ [])

  -- a word that the index does not take
  far : (i : ℕ) → (i ≡ 5120 + h → ⊥) → (i ≡ 6144 + c → ⊥) → get_or (index_put (concept_put w c p n d) c h) i 0 ≡ get_or (concept_put w c p n d) i 0
  far i a b =
      get_or-set_other (set (concept_put w c p n d) (6144 + c) (get_or (concept_put w c p n d) (5120 + h) 0)) (5120 + h) i (c + 1) 0 a
      ∙ get_or-set_other (concept_put w c p n d) (6144 + c) i (get_or (concept_put w c p n d) (5120 + h) 0) 0 b

  behind : (i : ℕ) → 3072 ≤ i → get_or (concept_put w c p n d) i 0 ≡ get_or w i 0
  behind i l = get_d_sets_after (p ∷ n ∷ d ∷ []) w (3 * c) i 0 (omega arith)

  pub concept_before : Agree w (index_put (concept_put w c p n d) c h) 0 (3 * c)
  concept_before i l m = far i (λ e. absurd (omega arith)) (λ e. absurd (omega arith)) ∙ get_d_sets_before (p ∷ n ∷ d ∷ []) w (3 * c) i 0 m

  pub concept_after : Agree w (index_put (concept_put w c p n d) c h) 3072 5120
  concept_after i l m = far i (λ e. absurd (omega arith)) (λ e. absurd (omega arith)) ∙ behind i l

  pub concept_word : (k : ℕ) → k < 3 → get_or (index_put (concept_put w c p n d) c h) (3 * c + k) 0 ≡ get_or (p ∷ n ∷ d ∷ []) k 0
  concept_word k l = far (3 * c + k) (λ e. absurd (omega arith)) (λ e. absurd (omega arith)) ∙ get_d_sets_in (p ∷ n ∷ d ∷ []) w (3 * c) k 0 l (omega arith)

  pub concept_begin : get_or (index_put (concept_put w c p n d) c h) (3 * c) 0 ≡ p
  concept_begin = let e : 3 * c ≡ 3 * c + 0 = omega arith in ap (λ (i : ℕ). get_or (index_put (concept_put w c p n d) c h) i 0) e ∙ concept_word 0 (omega arith)

  pub head_new : get_or (index_put (concept_put w c p n d) c h) (5120 + h) 0 ≡ c + 1
  head_new = get_or-set_same (set (concept_put w c p n d) (6144 + c) (get_or (concept_put w c p n d) (5120 + h) 0)) (5120 + h) (c + 1) 0 (simp length-set (omega (arith, put_long)))

  pub head_old : (g : ℕ) → g < 1024 → (g ≡ h → ⊥) → get_or (index_put (concept_put w c p n d) c h) (5120 + g) 0 ≡ get_or w (5120 + g) 0
  head_old g l z = far (5120 + g) (λ e. z (omega arith)) (λ e. absurd (omega arith)) ∙ behind (5120 + g) (omega arith)

  pub link_new : get_or (index_put (concept_put w c p n d) c h) (6144 + c) 0 ≡ get_or w (5120 + h) 0
  link_new =
      get_or-set_other (set (concept_put w c p n d) (6144 + c) (get_or (concept_put w c p n d) (5120 + h) 0)) (5120 + h) (6144 + c) (c + 1) 0 (λ e. absurd (omega arith))
      ∙ get_or-set_same (concept_put w c p n d) (6144 + c) (get_or (concept_put w c p n d) (5120 + h) 0) 0 (omega (arith, put_long)) ∙ behind (5120 + h) (omega arith)

  pub link_old : (i : ℕ) → i < c → get_or (index_put (concept_put w c p n d) c h) (6144 + i) 0 ≡ get_or w (6144 + i) 0
  link_old i l = far (6144 + i) (λ e. absurd (omega arith)) (λ e. absurd (omega arith)) ∙ behind (6144 + i) (omega arith)
