-- A concept's record and the set that it means, kind by kind. Assumes nothing.
use mathlib.Core.Path.{◌≡◌, refl, sym, ap, ◌∙◌, subst}
use mathlib.Core.Bool.{Bool, true, not}
use mathlib.Core.List.{List}
use Prim.Native.Nat.{ℕ, ◌+◌, ◌*◌, ◌<◌, ◌≤◌}
use native.Mathlib.Omega.{arith}
use lib.Dec.{eqb}
use lib.ListN.{length}
use borrow.Author.Tests.{eqb-true, eqb-false}
use Rattle.ir.specs.Roles.{role_id, role_of, code_in}
use Rattle.rules.specs.Concept.{Concept}
use Rattle.rules.specs.Concept.{Top, Bot, Atomic, Nominal, SelfRestriction, Not, And, Or, Some, All, Min, Max}
use Rattle.rules.specs.Pool.{at, members}
use Rattle.rules.specs.Deck.{Known}
use Rattle.rules.specs.DeckLaws.{bounds_of}
use Rattle.rules.specs.Invariants.{Each, Bounded}
use Rattle.rules.specs.EachLaws.{each_map}
use Rattle.rules.specs.JointLaws.{conj, disj}
use Rattle.rules.specs.Semantics.{Interpretation, concept_means, means, related}
use Rattle.meaning.proofs.Finite.{means_at}
use Rattle.meaning.specs.Joints.{over, over_all, over_any}
use Rattle.meaning.specs.Truth.{by_truth}
use Rattle.pool.specs.Layout.{members_at, field, is_list, run, concept_from, concept_at}
use Rattle.pool.specs.HeldLaws.{pool_at, concept_is, kind_range, list_within, list_below}
use Rattle.states.specs.Masks.{mask_of}
use Rattle.states.specs.MaskLaws.{mask_empty, mask_same}
use Rattle.sets.specs.Kept.{set_at}
use Rattle.sets.specs.Places.{concepts_at}
use Rattle.extents.specs.Ready.{Ready, ConceptSets}
use Rattle.extents.specs.ReadyLaws.{class_set, individual_set, code_row}
use Rattle.sets.specs.Laid.{Rows}
use Rattle.extents.specs.Sets.{restricted}

-- the four restrictions
four : {P : Type 0} (k : ℕ) → 9 ≤ k → k ≤ 12 → (k ≡ 9 → P) → (k ≡ 10 → P) → (k ≡ 11 → P) → (k ≡ 12 → P) → P
four k l m f g h i = by_truth (eqb k 9) (λ a. f (eqb-true k 9 a)) (λ a.
    by_truth (eqb k 10) (λ b. g (eqb-true k 10 b)) (λ b.
    by_truth (eqb k 11) (λ c. h (eqb-true k 11 c)) (λ c.
    let p = eqb-false k 9 a in
    let q = eqb-false k 10 b in
    let r = eqb-false k 11 c in
    i (omega arith))))

module _ (d : Known) (I : Interpretation) (w v : List ℕ) (R : Ready d I w v) (c : ℕ) (h : c < length d.concepts) where
  abbrev m : ℕ → ℕ → Bool
  m = means I d.concepts

  abbrev kind : ℕ
  kind = field v c 0

  abbrev code : ℕ
  code = field v c 1

  abbrev number : ℕ
  number = field v c 2

  abbrev child : ℕ
  child = field v c 3

  abbrev list : List ℕ
  list = run v (members_at + child) number

  here : at d.concepts c ≡ concept_at v c
  here = ap (λ p. at p c) (sym R.pool) ∙ pool_at v (length d.concepts) c h

  bounded : (e : Concept) → concept_at v c ≡ e → Bounded (bounds_of d) c e
  bounded e q = subst (Bounded (bounds_of d) c) (here ∙ q) (R.inside.wf c h)

  is_set_lem : (e : Concept) (r : ℕ) → concept_at v c ≡ e → r ≡ mask_of I.size (λ x. concept_means I m e x) → r ≡ mask_of I.size (m c)
  is_set_lem e r q s = s ∙ ap (mask_of I.size) (sym (means_at I (bounds_of d) d.concepts R.inside.wf c h ∙ ap (concept_means I m) (here ∙ q)))

  kinds : (1 ≤ kind) × (kind ≤ 12)
  kinds = kind_range v (length d.concepts) (members d.concepts) R.held c h

  pub kind_some : 1 ≤ kind
  kind_some = kinds.0

  role_rows : code < 2 * d.header.roles → Rows v code I.size (related I (role_of code))
  role_rows q x l = code_row d I w v R code x q l

  -- ---- Top, Bot, a class, an individual
  pub top_set : kind ≡ 1 → (s r : ℕ) → s ≡ I.size → r ≡ mask_of s (λ _. true) → r ≡ mask_of I.size (m c)
  unfolding concept_from
  top_set k s r e q = is_set_lem Top r (concept_is v c 1 k) (q ∙ ap (λ (n : ℕ). mask_of n (λ _. true)) e)

  pub bot_set : kind ≡ 2 → (r : ℕ) → r ≡ 0 → r ≡ mask_of I.size (m c)
  unfolding concept_from
  bot_set k r q = is_set_lem Bot r (concept_is v c 2 k) (q ∙ sym (mask_empty I.size))

  pub class_in_lem : kind ≡ 3 → number < d.header.classes
  unfolding concept_from
  class_in_lem k = bounded (Atomic number) (concept_is v c 3 k)

  pub atomic_set : kind ≡ 3 → 2 * number + 2 ≤ length w → (r : ℕ) → r ≡ set_at w number → r ≡ mask_of I.size (m c)
  unfolding concept_from
  atomic_set k l r q = is_set_lem (Atomic number) r (concept_is v c 3 k) (q ∙ class_set d I w v R number l)

  pub individual_in : kind ≡ 4 → number < d.header.individuals
  unfolding concept_from
  individual_in k = bounded (Nominal number) (concept_is v c 4 k)

  pub nominal_set : kind ≡ 4 → 2 * (d.header.classes + number) + 2 ≤ length w → (r : ℕ) → r ≡ set_at w (d.header.classes + number) → r ≡ mask_of I.size (m c)
  unfolding concept_from
  nominal_set k l r q = is_set_lem (Nominal number) r (concept_is v c 4 k) (q ∙ individual_set d I w v R number (individual_in k) l)

  -- ---- Self, Not
  pub self_code : kind ≡ 5 → code < 2 * d.header.roles
  unfolding concept_from
  self_code k = code_in code d.header.roles (bounded (SelfRestriction (role_of code)) (concept_is v c 5 k))

  pub self_set : kind ≡ 5 → (s r : ℕ) → s ≡ I.size → ((f : ℕ → ℕ → Bool) → Rows v code s f → r ≡ mask_of s (λ x. f x x)) → r ≡ mask_of I.size (m c)
  unfolding concept_from
  self_set k s r e q = is_set_lem (SelfRestriction (role_of code)) r (concept_is v c 5 k)
      (subst (λ (n : ℕ). (f : ℕ → ℕ → Bool) → Rows v code n f → r ≡ mask_of n (λ x. f x x)) e q (related I (role_of code)) (role_rows (self_code k)))

  pub not_child : kind ≡ 6 → child < c
  unfolding concept_from
  not_child k = bounded (Not child) (concept_is v c 6 k)

  pub not_set : kind ≡ 6 → ConceptSets d I c v → (s r : ℕ) → s ≡ I.size → ((g : ℕ → Bool) → set_at v (concepts_at + child) ≡ mask_of s g → r ≡ mask_of s (λ x. not (g x)))
      → r ≡ mask_of I.size (m c)
  unfolding concept_from
  not_set k S s r e q = is_set_lem (Not child) r (concept_is v c 6 k)
      (subst (λ (n : ℕ). (g : ℕ → Bool) → set_at v (concepts_at + child) ≡ mask_of n g → r ≡ mask_of n (λ x. not (g x))) e q (m child) (S child (not_child k)))

  -- ---- And, Or
  pub list_room : is_list kind ≡ true → child + number ≤ 16384
  list_room a = omega (arith, list_within v (length d.concepts) (members d.concepts) R.held c h a, R.held.space)

  pub list_small : is_list kind ≡ true → Each (λ e. e < c) list
  list_small a = list_below v (length d.concepts) (members d.concepts) R.held c h a

  pub list_few : is_list kind ≡ true → Each (λ e. e < 2048) list
  list_few a = each_map (λ e. e < c) (λ e. e < 2048) (λ e l. omega (arith, R.inside.few_concepts)) list (list_small a)

  list_sets : is_list kind ≡ true → ConceptSets d I c v → Each (λ e. set_at v (concepts_at + e) ≡ mask_of I.size (m e)) list
  list_sets a S = each_map (λ e. e < c) (λ e. set_at v (concepts_at + e) ≡ mask_of I.size (m e)) (λ e l. S e l) list (list_small a)

  pub and_set : kind ≡ 7 → ConceptSets d I c v → (s r : ℕ) → s ≡ I.size
      → ((k : ℕ → ℕ → Bool) → Each (λ e. set_at v (concepts_at + e) ≡ mask_of s (k e)) list → r ≡ mask_of s (λ x. over conj (λ e. k e x) list)) → r ≡ mask_of I.size (m c)
  unfolding concept_from
  and_set k S s r e q = is_set_lem (And list) r (concept_is v c 7 k)
      (subst (λ (n : ℕ). (k : ℕ → ℕ → Bool) → Each (λ e. set_at v (concepts_at + e) ≡ mask_of n (k e)) list → r ≡ mask_of n (λ x. over conj (λ e. k e x) list)) e q m (list_sets (ap is_list k) S)
      ∙ mask_same I.size (λ x. over conj (λ e. m e x) list) (λ x. concept_means I m (And list) x) (λ x _. over_all (λ e. m e x) list))

  pub or_set : kind ≡ 8 → ConceptSets d I c v → (s r : ℕ) → s ≡ I.size
      → ((k : ℕ → ℕ → Bool) → Each (λ e. set_at v (concepts_at + e) ≡ mask_of s (k e)) list → r ≡ mask_of s (λ x. over disj (λ e. k e x) list)) → r ≡ mask_of I.size (m c)
  unfolding concept_from
  or_set k S s r e q = is_set_lem (Or list) r (concept_is v c 8 k)
      (subst (λ (n : ℕ). (k : ℕ → ℕ → Bool) → Each (λ e. set_at v (concepts_at + e) ≡ mask_of n (k e)) list → r ≡ mask_of n (λ x. over disj (λ e. k e x) list)) e q m (list_sets (ap is_list k) S)
      ∙ mask_same I.size (λ x. over disj (λ e. m e x) list) (λ x. concept_means I m (Or list) x) (λ x _. over_any (λ e. m e x) list))

  -- ---- Some, All, Min, Max
  restriction_in : 9 ≤ kind → (role_id (role_of code) < d.header.roles) × (child < c)
  unfolding concept_from
  restriction_in l = four kind l kinds.1
      (λ k. bounded (Some (role_of code) child) (concept_is v c 9 k))
      (λ k. bounded (All (role_of code) child) (concept_is v c 10 k))
      (λ k. let b = bounded (Min number (role_of code) child) (concept_is v c 11 k) in (b.1, b.2))
      (λ k. let b = bounded (Max number (role_of code) child) (concept_is v c 12 k) in (b.1, b.2))

  pub restriction_code : 9 ≤ kind → code < 2 * d.header.roles
  restriction_code l = code_in code d.header.roles (restriction_in l).0

  pub restriction_child : 9 ≤ kind → child < c
  restriction_child l = (restriction_in l).1

  restriction_is : 9 ≤ kind → (x : ℕ) → restricted kind number I.size (related I (role_of code) x) (m child) ≡ concept_means I m (concept_at v c) x
  unfolding concept_from
  restriction_is l x = four kind l kinds.1
      (λ k. go 9 (Some (role_of code) child) k (concept_is v c 9 k) refl)
      (λ k. go 10 (All (role_of code) child) k (concept_is v c 10 k) refl)
      (λ k. go 11 (Min number (role_of code) child) k (concept_is v c 11 k) refl)
      (λ k. go 12 (Max number (role_of code) child) k (concept_is v c 12 k) refl)
    where
      go : (k : ℕ) (e : Concept) → kind ≡ k → concept_at v c ≡ e → restricted k number I.size (related I (role_of code) x) (m child) ≡ concept_means I m e x
          → restricted kind number I.size (related I (role_of code) x) (m child) ≡ concept_means I m (concept_at v c) x
      go k e a b q = ap (λ (j : ℕ). restricted j number I.size (related I (role_of code) x) (m child)) a ∙ q ∙ ap (λ (f : Concept). concept_means I m f x) (sym b)

  pub restriction_set : 9 ≤ kind → ConceptSets d I c v → (s r : ℕ) → s ≡ I.size
      → ((f : ℕ → ℕ → Bool) (g : ℕ → Bool) → Rows v code s f → set_at v (concepts_at + child) ≡ mask_of s g → r ≡ mask_of s (λ x. restricted kind number s (f x) g)) → r ≡ mask_of I.size (m c)
  restriction_set l S s r e q = is_set_lem (concept_at v c) r refl
      (subst (λ (n : ℕ). (f : ℕ → ℕ → Bool) (g : ℕ → Bool) → Rows v code n f → set_at v (concepts_at + child) ≡ mask_of n g → r ≡ mask_of n (λ x. restricted kind number n (f x) g)) e q
      (related I (role_of code)) (m child) (role_rows (restriction_code l)) (S child (restriction_child l))
      ∙ mask_same I.size (λ x. restricted kind number I.size (related I (role_of code) x) (m child)) (λ x. concept_means I m (concept_at v c) x) (λ x _. restriction_is l x))
