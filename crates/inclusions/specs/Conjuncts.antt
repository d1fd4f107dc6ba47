-- The top-level conjuncts of a concept, as they stand in the words of scratch. Assumes nothing.
use Rattle.std.specs.Prelude.{◌≡◌, refl, Bool, true, false, List, [], ◌∷◌, ℕ, suc, ◌+◌, ◌*◌, ◌<◌, ◌≤◌, take}
use Rattle.std.proofs.Math.Path.{sym, ap}
use Rattle.std.proofs.Common.{◌∙◌, get_or-take}
use native.Mathlib.Omega.{arith}
use Rattle.std.proofs.Math.ListN.{get_or}
use Rattle.std.proofs.Math.Dec.{eqb}
use borrow.Author.Tests.{eqb-true, ne_eqb}
use Rattle.ir.specs.Pick.{pick}
use Rattle.ir.specs.Scratch.{stack_at}
use Rattle.rules.specs.Concept.{Concept}
use Rattle.rules.specs.Concept.{Top, Bot, Atomic, Nominal, SelfRestriction, Not, And, Or, Some, All, Min, Max}
use Rattle.rules.specs.Pool.{at, members, most_concepts, most_members}
use Rattle.rules.specs.Axioms.{conjuncts}
use Rattle.rules.specs.TextLaws.{by_test}
use Rattle.pool.specs.Layout.{members_at, tab, run, field, is_list, concept_from, concept_at, pool_of, plain}
use Rattle.pool.specs.Held.{Held}
use Rattle.pool.specs.Tabs.{tab_same, tab_each}
use Rattle.pool.specs.HeldLaws.{pool_at, members_next, members_rise, record_kind, list_count, list_within, list_below, concept_is}

-- how many concept c has, and the i-th of them
abbrev pub count_in : List ℕ → ℕ → ℕ
count_in w c = pick (eqb (field w c 0) 7) (field w c 2) 1

abbrev pub conjunct_in : List ℕ → ℕ → ℕ → ℕ
conjunct_in w c i = pick (eqb (field w c 0) 7) (get_or w (members_at + field w c 3 + i) 0) c

-- where an And's i-th member is read
abbrev pub MemberIn : List ℕ → ℕ → ℕ → Type 0
MemberIn w c i = field w c 0 ≡ 7 → field w c 3 + i < most_members

-- ---- as the code reads them
module _ (w : List ℕ) (c kind : ℕ) (e : kind ≡ field w c 0) where
  is_and : kind ≡ 7 → field w c 0 ≡ 7
  is_and a = sym e ∙ a

  no_and : (kind ≡ 7 → ⊥) → eqb (field w c 0) 7 ≡ false
  no_and a = ne_eqb (field w c 0) 7 (λ b. a (e ∙ b))

  pub count_and : (n : ℕ) → kind ≡ 7 → n ≡ field w c 2 → n ≡ count_in w c
  count_and n a q = rw (is_and a) q

  pub count_one : (kind ≡ 7 → ⊥) → 1 ≡ count_in w c
  count_one a = rw (no_and a) refl

  pub member_less : (i d : ℕ) → kind ≡ 7 → d ≡ field w c 3 → MemberIn w c i → d + i < most_members
  member_less i d a q M = omega (arith, q, M (is_and a))

  pub conjunct_and : (i d p : ℕ) → kind ≡ 7 → d ≡ field w c 3 → p ≡ get_or w (members_at + (d + i)) 0 → p ≡ conjunct_in w c i
  conjunct_and i d p a q r =
      let e : members_at + (d + i) ≡ members_at + d + i = omega arith in
      rw (is_and a, ← q, ← e) r

  pub conjunct_self : (i : ℕ) → (kind ≡ 7 → ⊥) → c ≡ conjunct_in w c i
  conjunct_self i a = rw (no_and a) refl

-- a concept that is no And is its own conjunct
alone : (c : ℕ) (e : Concept) → eqb (plain e).kind 7 ≡ false → conjuncts c e ≡ c ∷ []
alone c Top h = refl
alone c Bot h = refl
alone c (Atomic _) h = refl
alone c (Nominal _) h = refl
alone c (SelfRestriction _) h = refl
alone c (Not _) h = refl
alone c (And _) h = absurd (let z : ◌≡◌ {A = Bool} true false = h in let y : ◌≡◌ {A = ℕ} 0 1 = cc in omega arith)
alone c (Or _) h = refl
alone c (Some _ _) h = refl
alone c (All _ _) h = refl
alone c (Min _ _ _) h = refl
alone c (Max _ _ _) h = refl

module _ (w : List ℕ) (n m : ℕ) (H : Held w n m) (c : ℕ) (h : c < n) where
  list : field w c 0 ≡ 7 → is_list (field w c 0) ≡ true
  list e = rw e refl

  pub member_in : (i : ℕ) → i < count_in w c → MemberIn w c i
  member_in i l e =
      let z : count_in w c ≡ field w c 2 = rw e refl in
      omega (arith, list_within w n m H c h (list e), H.space)

  -- an And's are below it
  pub conjunct_below : field w c 0 ≡ 7 → (i : ℕ) → i < count_in w c → conjunct_in w c i < c
  conjunct_below e i l =
      let z : count_in w c ≡ field w c 2 = rw e refl in
      let y : conjunct_in w c i ≡ get_or w (members_at + field w c 3 + i) 0 = rw e refl in
      rw y (tab_each (λ j. get_or w j 0) (λ d. d < c) (members_at + field w c 3) (field w c 2) (list_below w n m H c h (list e)) i (omega arith))

  pub conjunct_inside : (i : ℕ) → i < count_in w c → conjunct_in w c i < n
  conjunct_inside i l = by_test (eqb (field w c 0) 7)
      (λ a. let b = conjunct_below (eqb-true (field w c 0) 7 a) i l in omega arith)
      (λ a. rw a h)

  -- they fit beside the members of the concepts below
  pub and_room : field w c 0 ≡ 7 → count_in w c + members (pool_of w c) ≤ most_members
  and_room e =
      let z : count_in w c ≡ field w c 2 = rw e refl in
      omega (arith, list_count w n m H c h (list e), members_next w c, members_rise w (suc c) n h, H.count, H.space)

  pub count_few : count_in w c ≤ most_members
  count_few = by_test (eqb (field w c 0) 7)
      (λ a. omega (arith, and_room (eqb-true (field w c 0) 7 a)))
      (λ a. rw a (omega arith))

  pub members_few : members (pool_of w c) ≤ most_members
  members_few = omega (arith, members_rise w c n (omega arith), H.count, H.space)

  -- the rule's conjuncts are these
  pub conjuncts_are : conjuncts c (at (pool_of w n) c) ≡ tab (conjunct_in w c) 0 (count_in w c)
  unfolding concept_from tab
  conjuncts_are = ap (conjuncts c) (pool_at w n c h) ∙ by_test (eqb (field w c 0) 7)
      (λ a. let e = eqb-true (field w c 0) 7 a in
      let q : concept_at w c ≡ And (run w (members_at + field w c 3) (field w c 2)) = concept_is w c 7 e in
      ap (conjuncts c) q ∙ sym (ap (λ (b : Bool). tab (λ i. pick b (get_or w (members_at + field w c 3 + i) 0) c) 0 (pick b (field w c 2) 1)) a
      ∙ tab_same (λ i. get_or w (members_at + field w c 3 + i) 0) (λ j. get_or w j 0) 0 (members_at + field w c 3) (field w c 2)
      (λ k l. let z : members_at + field w c 3 + (0 + k) ≡ members_at + field w c 3 + k = omega arith in ap (λ (j : ℕ). get_or w j 0) z)))
      (λ a. alone c (concept_at w c) (ap (λ (x : ℕ). eqb x 7) (sym (record_kind w n m H c h)) ∙ a) ∙ sym (ap (λ (b : Bool). tab (λ i. pick b (get_or w (members_at + field w c 3 + i) 0) c) 0 (pick b (field w c 2) 1)) a))

-- ---- after writes from the stack on
pub word_low : (w w' : List ℕ) → take stack_at w' ≡ take stack_at w → (i : ℕ) → i < stack_at → get_or w' i 0 ≡ get_or w i 0
word_low w w' e i h = sym (get_or-take stack_at w' i 0 h) ∙ ap (λ (l : List ℕ). get_or l i 0) e ∙ get_or-take stack_at w i 0 h

module _ (w w' : List ℕ) (e : take stack_at w' ≡ take stack_at w) (c : ℕ) (h : c < most_concepts) where
  field_low : (j : ℕ) → j < 6 → field w' c j ≡ field w c j
  field_low j l = word_low w w' e (6 * c + j) (omega arith)

  pub count_kept : count_in w' c ≡ count_in w c
  count_kept = rw (field_low 0 (omega arith), field_low 2 (omega arith)) refl

  pub conjunct_kept : (i : ℕ) → MemberIn w c i → conjunct_in w' c i ≡ conjunct_in w c i
  conjunct_kept i M = by_test (eqb (field w c 0) 7)
      (λ a. let f = M (eqb-true (field w c 0) 7 a) in
      rw (field_low 0 (omega arith), field_low 3 (omega arith), a) (word_low w w' e (members_at + field w c 3 + i) (omega arith)))
      (λ a. rw (field_low 0 (omega arith), a) refl)

  pub member_kept : (i : ℕ) → MemberIn w c i → MemberIn w' c i
  member_kept i M q = rw (field_low 3 (omega arith)) (M (sym (field_low 0 (omega arith)) ∙ q))
