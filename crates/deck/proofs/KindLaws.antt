-- What the kinds say: a concept line of the right length is its concept's row, and so what a concept is can be read off its line.
-- Assumes nothing.
use mathlib.Core.Path.{◌≡◌, refl, sym, ap, subst, ◌∙◌}
use mathlib.Core.Bool.{Bool, true, false}
use mathlib.Core.List.{List, [], ◌∷◌, ◌++◌, map}
use mathlib.Core.Logic.{⊎_elim}
use Prim.Native.Nat.{ℕ, zero, suc, ◌+◌, ◌-◌, ◌<◌, ◌≤◌}
use native.Mathlib.Omega.{arith}
use borrow.Author.Tests.{eqb-true, eqb-false, leb-true, le-leb, lt-leb, ltb-true, ltb-false, not-true}
use lib.Dec.{eqb, ltb, leb}
use lib.ListN.{length, get_or, take, drop, replicate, length-drop, get_or-map}
use lib.Seq.{get_or-take, get_or-drop}
use mathlib.Core.Bool.{not}
use Rattle.ir.specs.Pick.{pick}
use Rattle.ir.specs.Roles.{code_role}
use Rattle.rules.specs.Base.{all}
use Rattle.rules.specs.Concept.{Concept, concept_row}
use Rattle.rules.specs.Concept.{Top, Bot, Atomic, Nominal, SelfRestriction, Not, And, Or, Some, All, Min, Max}
use Rattle.rules.specs.Deck.{most_listed, sections, fixed_fields, list_kinds, section_of, fixed_of, list_of, concept_of, fields_ok, parts_of, member_of, under_and, under_or, list_ok, members_ok, bound_ok}
use Rattle.rules.specs.DeckLaws.{all_each}
use Rattle.rules.specs.Text.{most_number}
use Rattle.rules.specs.TextLaws.{each_get_d, by_test}
use Rattle.deck.specs.Kinds.{section_said, fixed_said, listed_said, first_said, Says}
use Rattle.deck.specs.Records.{section_number, firsts, first_part, kind_member, under, IsList}
use Rattle.deck.specs.declared.kinds.Kind.{Kind}
use Rattle.deck.specs.declared.state.Section.{Section}
use Rattle.deck.specs.declared.state.Section.TheVariants.{Header, Keys, Concepts, Axioms}
use Rattle.std.specs.Prelude.{Option}
use Rattle.std.specs.declared.option.Option.TheVariants as option
use Rattle.std.proofs.lemmas.Bool.{and_parts}

-- ---- the code's table of kinds
zeros : (m n : ℕ) → get_or (replicate {0} {A = ℕ} m 0) n 0 ≡ 0
zeros zero n = refl
zeros (suc m) zero = refl
zeros (suc m) (suc n) = zeros m n

padded : (l : List ℕ) (m n : ℕ) → get_or (l ++ replicate {0} {A = ℕ} m 0) n 0 ≡ get_or l n 0
padded [] m n = zeros m n
padded (x ∷ l) m zero = refl
padded (x ∷ l) m (suc n) = padded l m n

-- the table's columns are those of the rules
pub says : (l : List (Option Kind)) (n : ℕ) → map section_said l ≡ sections → map fixed_said l ≡ fixed_fields
    → map listed_said l ≡ map (λ i. eqb i 1) list_kinds → map first_said l ≡ firsts ++ replicate 24 0 → Says (get_or l n option.None) n
says l n a b c e = record {
  section = sym (get_or-map section_said l n option.None) ∙ rw a refl;
  fixed = sym (get_or-map fixed_said l n option.None) ∙ rw b refl;
  listed = sym (get_or-map listed_said l n option.None) ∙ rw c (get_or-map (λ i. eqb i 1) list_kinds n 0);
  first = sym (get_or-map first_said l n option.None) ∙ rw e (padded firsts 24 n);
}

-- a section that is not that of the concepts
pub no_concepts : (s : Option Section) → (s ≡ option.Some Concepts → ⊥) → eqb (section_number s) 3 ≡ false
no_concepts option.None h = refl
no_concepts (option.Some Header) h = refl
no_concepts (option.Some Keys) h = refl
no_concepts (option.Some Concepts) h = absurd (h refl)
no_concepts (option.Some Axioms) h = refl

pub fixed_most : (k : ℕ) → fixed_of k ≤ 4
fixed_most k = each_get_d (λ n. n ≤ 4) fixed_fields k 0 (all_each (λ n. leb n 4) (λ n. n ≤ 4) (λ n. leb-true n 4) fixed_fields refl) (omega arith)

-- the list's length, by the line's
module _ (r : List ℕ) (k : ℕ) where
  pub list_room : length r ≤ 129 + fixed_of k → leb (length (list_of k r)) most_listed ≡ true
  list_room h = let l = length-drop (1 + fixed_of k) r in le-leb (length (list_of k r)) most_listed (omega arith)

  pub list_full : 129 + fixed_of k < length r → leb (length (list_of k r)) most_listed ≡ false
  list_full h = let l = length-drop (1 + fixed_of k) r in lt-leb (length (list_of k r)) most_listed (omega arith)

pub all_map : {A : Type 0} (q : A → Bool) (f : ℕ → A) (l : List ℕ) → all q (map f l) ≡ all (λ x. q (f x)) l
all_map q f [] = refl
all_map q f (x ∷ l) = rw (all_map q f l) refl

pub first_most : (k : ℕ) → first_part k ≤ 5
first_most k = each_get_d (λ n. n ≤ 5) firsts k 0 (all_each (λ n. leb n 5) (λ n. n ≤ 5) (λ n. leb-true n 5) firsts refl) (omega arith)

-- ---- the sections
-- a number that is no entry of a list
none_is : (v : ℕ) (l : List ℕ) → all (λ n. not (eqb n v)) l ≡ true → (0 ≡ v → ⊥) → (i : ℕ) → get_or l i 0 ≡ v → ⊥
none_is v l h z i = each_get_d (λ n. n ≡ v → ⊥) l i 0 (all_each (λ n. not (eqb n v)) (λ n. n ≡ v → ⊥) (λ n b. eqb-false n v (not-true (eqb n v) b)) l h) z

late : (m k v : ℕ) → all (λ n. not (eqb n v)) (drop m sections) ≡ true → (0 ≡ v → ⊥) → m ≤ k → section_of k ≡ v → ⊥
late m k v a z h e =
    let q : m + (k - m) ≡ k = omega arith in
    none_is v (drop m sections) a z (k - m) (get_or-drop m sections (k - m) 0 ∙ ap section_of q ∙ e)

early : (m k v : ℕ) → all (λ n. not (eqb n v)) (take m sections) ≡ true → (0 ≡ v → ⊥) → k < m → section_of k ≡ v → ⊥
early m k v a z h e = none_is v (take m sections) a z k (get_or-take m sections k 0 h ∙ e)

-- kinds in a row that have one section: n of them from m on
same_at : (v : ℕ) (l : List ℕ) → all (λ n. eqb n v) l ≡ true → (i : ℕ) → i < length l → v ≡ get_or l i 0
same_at v [] a i h = absurd (omega arith)
same_at v (x ∷ l) a zero h = sym (eqb-true x v (and_parts (eqb x v) (all (λ n. eqb n v) l) a).0)
same_at v (x ∷ l) a (suc i) h = same_at v l (and_parts (eqb x v) (all (λ n. eqb n v) l) a).1 i (omega arith)

pub stretch : (m n v k : ℕ) → all (λ i. eqb i v) (take n (drop m sections)) ≡ true → length (take n (drop m sections)) ≡ n → m ≤ k → k < m + n → v ≡ section_of k
stretch m n v k a e h l =
    let q : m + (k - m) ≡ k = omega arith in
    let i : k - m < n = omega arith in
    same_at v (take n (drop m sections)) a (k - m) (rw e i) ∙ get_or-take n (drop m sections) (k - m) 0 i ∙ get_or-drop m sections (k - m) 0 ∙ ap section_of q

-- 13 and 15 to 20 are no kinds
pub no_kind : (k : ℕ) → 13 ≤ k → (k ≡ 14 → ⊥) → k < 21 → 0 ≡ section_of k
no_kind k h d l =
    by_test (ltb k 14) (λ c. stretch 13 1 0 k refl refl h (omega (arith, ltb-true k 14 c)))
    (λ c. stretch 15 6 0 k refl refl (omega (arith, ltb-false k 14 c, d)) (omega arith))

-- key marks are of kind 14
pub key_kind : (k : ℕ) → section_of k ≡ 2 → k ≡ 14
key_kind k e =
    by_test (ltb k 14) (λ c. absurd (early 14 k 2 refl (λ z. absurd (omega arith)) (ltb-true k 14 c) e))
    (λ c. by_test (ltb k 15) (λ d. let a = ltb-false k 14 c in let b = ltb-true k 15 d in omega arith) (λ d. absurd (late 15 k 2 refl (λ z. absurd (omega arith)) (ltb-false k 15 d) e)))

-- concepts are of kinds 1 to 12
concept_range : (k : ℕ) → section_of k ≡ 3 → (1 ≤ k) × (k ≤ 12)
concept_range zero e = absurd (omega arith)
concept_range (suc k) e = by_test (ltb (suc k) 13) (λ c. let l = ltb-true (suc k) 13 c in (omega arith, omega arith)) (λ c. absurd (late 13 (suc k) 3 refl (λ z. absurd (omega arith)) (ltb-false (suc k) 13 c) e))

-- axioms are of kinds 21 to 36
axiom_range : (k : ℕ) → section_of k ≡ 4 → (21 ≤ k) × (k ≤ 36)
axiom_range k e =
    by_test (ltb k 21) (λ c. absurd (early 21 k 4 refl (λ z. absurd (omega arith)) (ltb-true k 21 c) e))
    (λ c. by_test (ltb k 37) (λ d. let a = ltb-false k 21 c in let b = ltb-true k 37 d in (a, omega arith)) (λ d. absurd (late 37 k 4 refl (λ z. absurd (omega arith)) (ltb-false k 37 d) e)))

module _ (P : ℕ → Type 0) where
  pub from : (k m : ℕ) → m ≤ k → P m → (m + 1 ≤ k → P k) → P k
  from k m l a go = by_test (eqb k m) (λ e. subst P (sym (eqb-true k m e)) a) (λ e. go (omega (arith, eqb-false k m e)))

  concept_kinds : P 1 → P 2 → P 3 → P 4 → P 5 → P 6 → P 7 → P 8 → P 9 → P 10 → P 11 → P 12 → (k : ℕ) → section_of k ≡ 3 → P k
  concept_kinds a b c d e f g h i j l m k s =
      let r = concept_range k s in
      from k 1 r.0 a (λ o. from k 2 o b (λ o. from k 3 o c (λ o. from k 4 o d (λ o. from k 5 o e (λ o. from k 6 o f
      (λ o. from k 7 o g (λ o. from k 8 o h (λ o. from k 9 o i (λ o. from k 10 o j (λ o. from k 11 o l (λ o. from k 12 o m (λ o. absurd (omega (arith, r.1))))))))))))))

  pub axiom_kinds : P 21 → P 22 → P 23 → P 24 → P 25 → P 26 → P 27 → P 28 → P 29 → P 30 → P 31 → P 32 → P 33 → P 34 → P 35 → P 36 → (k : ℕ) → section_of k ≡ 4 → P k
  axiom_kinds a b c d e f g h i j l m n p q t k s =
      let r = axiom_range k s in
      from k 21 r.0 a (λ o. from k 22 o b (λ o. from k 23 o c (λ o. from k 24 o d (λ o. from k 25 o e (λ o. from k 26 o f
      (λ o. from k 27 o g (λ o. from k 28 o h (λ o. from k 29 o i (λ o. from k 30 o j (λ o. from k 31 o l (λ o. from k 32 o m
      (λ o. from k 33 o n (λ o. from k 34 o p (λ o. from k 35 o q (λ o. from k 36 o t (λ o. absurd (omega (arith, r.1))))))))))))))))))

-- ---- rows of one to four numbers, and of one or more
one : (r : List ℕ) → eqb (length r) 1 ≡ true → get_or r 0 0 ∷ [] ≡ r
one [] h = absurd (omega (arith, eqb-true 0 1 h))
one (a ∷ []) h = refl
one (a ∷ b ∷ r) h = absurd (omega (arith, eqb-true (length (a ∷ b ∷ r)) 1 h))

two : (r : List ℕ) → eqb (length r) 2 ≡ true → get_or r 0 0 ∷ get_or r 1 0 ∷ [] ≡ r
two [] h = absurd (omega (arith, eqb-true 0 2 h))
two (a ∷ r) h = ap (λ (l : List ℕ). a ∷ l) (one r (by_length r (eqb-true (length (a ∷ r)) 2 h)))
  where
    by_length : (r : List ℕ) → suc (length r) ≡ 2 → eqb (length r) 1 ≡ true
    by_length r h = let e : length r ≡ 1 = omega arith in rw e refl

three : (r : List ℕ) → eqb (length r) 3 ≡ true → get_or r 0 0 ∷ get_or r 1 0 ∷ get_or r 2 0 ∷ [] ≡ r
three [] h = absurd (omega (arith, eqb-true 0 3 h))
three (a ∷ r) h = ap (λ (l : List ℕ). a ∷ l) (two r (by_length r (eqb-true (length (a ∷ r)) 3 h)))
  where
    by_length : (r : List ℕ) → suc (length r) ≡ 3 → eqb (length r) 2 ≡ true
    by_length r h = let e : length r ≡ 2 = omega arith in rw e refl

four : (r : List ℕ) → eqb (length r) 4 ≡ true → get_or r 0 0 ∷ get_or r 1 0 ∷ get_or r 2 0 ∷ get_or r 3 0 ∷ [] ≡ r
four [] h = absurd (omega (arith, eqb-true 0 4 h))
four (a ∷ r) h = ap (λ (l : List ℕ). a ∷ l) (three r (by_length r (eqb-true (length (a ∷ r)) 4 h)))
  where
    by_length : (r : List ℕ) → suc (length r) ≡ 4 → eqb (length r) 3 ≡ true
    by_length r h = let e : length r ≡ 3 = omega arith in rw e refl

some : (r : List ℕ) → leb 1 (length r) ≡ true → get_or r 0 0 ∷ drop 1 r ≡ r
some [] h = absurd (omega (arith, leb-true 1 0 h))
some (a ∷ r) h = refl

-- a line of a concept kind, with the right number of fields, is its concept's row
pub concept_row_lem : (r : List ℕ) (k : ℕ) → section_of k ≡ 3 → k ≡ get_or r 0 0 → fields_ok k (length r) ≡ true → concept_row (concept_of k r) ≡ r
unfolding concept_of
concept_row_lem r =
    concept_kinds (λ k. k ≡ get_or r 0 0 → fields_ok k (length r) ≡ true → concept_row (concept_of k r) ≡ r)
    (λ e h. rw e (one r h))
    (λ e h. rw e (one r h))
    (λ e h. rw e (two r h))
    (λ e h. rw e (two r h))
    (λ e h. rw (code_role (get_or r 1 0), e) (two r h))
    (λ e h. rw e (two r h))
    (λ e h. rw e (some r h))
    (λ e h. rw e (some r h))
    (λ e h. rw (code_role (get_or r 1 0), e) (three r h))
    (λ e h. rw (code_role (get_or r 1 0), e) (three r h))
    (λ e h. rw (code_role (get_or r 2 0), e) (four r h))
    (λ e h. rw (code_role (get_or r 2 0), e) (four r h))

-- ---- what can be read off a concept's row
pub parts_row : (e : Concept) → parts_of e ≡ drop (first_part (get_or (concept_row e) 0 0)) (concept_row e)
parts_row Top = refl
parts_row Bot = refl
parts_row (Atomic _) = refl
parts_row (Nominal _) = refl
parts_row (SelfRestriction _) = refl
parts_row (Not _) = refl
parts_row (And _) = refl
parts_row (Or _) = refl
parts_row (Some _ _) = refl
parts_row (All _ _) = refl
parts_row (Min _ _ _) = refl
parts_row (Max _ _ _) = refl

pub member_row : (e : Concept) → member_of e ≡ kind_member (get_or (concept_row e) 0 0)
member_row Top = refl
member_row Bot = refl
member_row (Atomic _) = refl
member_row (Nominal _) = refl
member_row (SelfRestriction _) = refl
member_row (Not _) = refl
member_row (And _) = refl
member_row (Or _) = refl
member_row (Some _ _) = refl
member_row (All _ _) = refl
member_row (Min _ _ _) = refl
member_row (Max _ _ _) = refl

pub members_row : (p : List Concept) (e : Concept) → members_ok p e ≡ pick (eqb (get_or (concept_row e) 0 0) 7) (list_ok p under_and (drop 1 (concept_row e))) (pick (eqb (get_or (concept_row e) 0 0) 8) (list_ok p under_or (drop 1 (concept_row e))) true)
members_row p Top = refl
members_row p Bot = refl
members_row p (Atomic _) = refl
members_row p (Nominal _) = refl
members_row p (SelfRestriction _) = refl
members_row p (Not _) = refl
members_row p (And _) = refl
members_row p (Or _) = refl
members_row p (Some _ _) = refl
members_row p (All _ _) = refl
members_row p (Min _ _ _) = refl
members_row p (Max _ _ _) = refl

pub bound_row : (e : Concept) → bound_ok e ≡ pick (eqb (get_or (concept_row e) 0 0) 12) (ltb (get_or (concept_row e) 1 0) most_number) true
bound_row Top = refl
bound_row Bot = refl
bound_row (Atomic _) = refl
bound_row (Nominal _) = refl
bound_row (SelfRestriction _) = refl
bound_row (Not _) = refl
bound_row (And _) = refl
bound_row (Or _) = refl
bound_row (Some _ _) = refl
bound_row (All _ _) = refl
bound_row (Min _ _ _) = refl
bound_row (Max _ _ _) = refl

-- a list takes every member but Top, Bot and its own kind
pub fit_law : (k m : ℕ) → IsList k → under k (kind_member m) ≡ pick (eqb m 1) false (pick (eqb m 2) false (pick (eqb m k) false true))
fit_law k m = ⊎_elim (λ e. rw e and_list_lem) (λ e. rw e or_list_lem)
  where
    and_list_lem : under_and (kind_member m) ≡ pick (eqb m 1) false (pick (eqb m 2) false (pick (eqb m 7) false true))
    and_list_lem =
        by_test (eqb m 1) (λ a. rw a refl) (λ a. by_test (eqb m 2) (λ b. rw (a, b) refl) (λ b. by_test (eqb m 7) (λ c. rw (a, b, c) refl)
        (λ c. by_test (eqb m 8) (λ d. rw (a, b, c, d) refl) (λ d. rw (a, b, c, d) refl))))

    or_list_lem : under_or (kind_member m) ≡ pick (eqb m 1) false (pick (eqb m 2) false (pick (eqb m 8) false true))
    or_list_lem =
        by_test (eqb m 1) (λ a. rw a refl) (λ a. by_test (eqb m 2) (λ b. rw (a, b) refl) (λ b. by_test (eqb m 7) (λ c. rw (a, b, c) (seven c))
        (λ c. by_test (eqb m 8) (λ d. rw (a, b, c, d) refl) (λ d. rw (a, b, c, d) refl))))
      where
        seven : eqb m 7 ≡ true → true ≡ pick (eqb m 8) false true
        seven c = rw (eqb-true m 7 c) refl
