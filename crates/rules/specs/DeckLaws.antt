-- What holds of a deck that was read: its concepts and axioms name what is declared and what comes before them, within the
-- limits; and of a refusal: its number is one of 2 to 9, and its line is a line of the deck. Assumes nothing.
use Rattle.std.specs.Prelude.{◌≡◌, refl, Bool, true, false, ◌&&◌, eqb, ltb, leb}
use Rattle.std.proofs.Common.{sym, ap₂, subst, ◌∙◌, length-drop}
use Rattle.std.proofs.Math.Path.{ap}
use Rattle.std.proofs.lemmas.Bool.{false≢true, and_parts, or_parts}
use mathlib.Core.List.{List, [], ◌∷◌, ◌++◌, map}
use Prim.Native.Nat.{ℕ, zero, suc, ◌+◌, ◌*◌, ◌/◌, ◌<◌, ◌≤◌}
use native.Mathlib.Omega.{arith}
use borrow.Author.Tests.{eqb-true, eqb-false, leb-true, ltb-true, ltb-false, eq-eqb, ne_eqb}
use Rattle.std.proofs.Math.ListN.{length, get_or, length-append, get_or-append}
use Rattle.std.proofs.lemmas.List.{length-map}
use Rattle.std.proofs.Math.Seq.{get_or-append_seam}
use Rattle.ir.specs.Pick.{pick}
use Rattle.ir.specs.Records.{same_words}
use Rattle.ir.specs.Roles.{role_id, role_of}
use Rattle.rules.specs.Base.{all, any}
use Rattle.rules.specs.Text.{most_number, Row, row, broken_row, row_of}
use Rattle.rules.specs.Concept.{Concept, Axiom, same_concept, concept_row}
use Rattle.rules.specs.Concept.{Top, Bot, Atomic, Nominal, SelfRestriction, Not, And, Or, Some, All, Min, Max}
use Rattle.rules.specs.Concept.{SubClassOf, EquivalentClasses, DisjointClasses, DisjointUnion, ObjectPropertyDomain, ObjectPropertyRange, SubChain, TransitiveRole, IrreflexiveRole, AsymmetricRole, DisjointObjectProperties, InverseObjectProperties, SubObjectPropertyOf, EquivalentObjectProperties, ReflexiveRole, ClassAssertion}
use Rattle.rules.specs.Pool.{Pool, at, width, members}
use Rattle.rules.specs.Deck.{most_bytes, most_classes, most_individuals, most_roles, most_options, most_listed, most_concept_lines, most_axioms, most_depth, sections, section_of, list_of, role_at, concept_of, axiom_of, Header, header_of, Known, known, in_order, fields_ok, shape_ok, header_ok, room_ok, limits_ok, role_ok, concept_names_ok, axiom_names_ok, names_ok, parts_of, deepest, depth_of, nest_ok, rising, Member, member_of, under_and, under_or, list_ok, members_ok, bound_ok, concept_verdict, verdict, entered, Told, fine, refused, on_verdict, on_row, read_by, nothing, read_lines, read_deck}
use Rattle.rules.specs.Invariants.{Each, Bounds, RoleIn, Bounded, Wf, InAnd, InOr, RisingFrom, TwoRising, AxiomIn}
use Rattle.rules.specs.TextLaws.{by_test, pick_by, each_get_d, lines_of, RowRead, Reads, row_reads}
use Rattle.rules.specs.EachLaws.{each_map, each_both, each_append}
use Rattle.rules.specs.PoolLaws.{members_snoc}
use Rattle.rules.specs.DepthLaws.{parts_below as parts_named}

-- ---- tests and lists
pub all_each : {A : Type 0} (p : A → Bool) (P : A → Type 0) → ((a : A) → p a ≡ true → P a) → (l : List A) → all p l ≡ true → Each P l
all_each p P f [] h = tt
all_each p P f (x ∷ l) h = let g = and_parts (p x) (all p l) h in (f x g.0, all_each p P f l g.1)

pub any_false : {A : Type 0} (p : A → Bool) (d : A) (l : List A) → any p l ≡ false → (i : ℕ) → i < length l → p (get_or l i d) ≡ false
any_false p d [] h i g = absurd (omega arith)
any_false p d (x ∷ l) h zero g = (or_parts (p x) (any p l) h).0
any_false p d (x ∷ l) h (suc i) g = any_false p d l (or_parts (p x) (any p l) h).1 i (omega arith)

-- ---- sameness goes both ways
pub same_eqb : (x y : ℕ) → eqb x y ≡ eqb y x
same_eqb x y = by_test (eqb x y) (λ e. e ∙ sym (eq-eqb y x (sym (eqb-true x y e)))) (λ e. e ∙ sym (ne_eqb y x (λ q. eqb-false x y e (sym q))))

pub same_words_sym : (l m : List ℕ) → same_words l m ≡ same_words m l
same_words_sym [] [] = refl
same_words_sym [] (y ∷ m) = refl
same_words_sym (x ∷ l) [] = refl
same_words_sym (x ∷ l) (y ∷ m) = rw (same_eqb x y, same_words_sym l m) refl

-- ---- a verdict of 0: each test has passed
pub pick_zero : (t : Bool) (u n : ℕ) → 0 < n → pick t u n ≡ 0 → (t ≡ true) × (u ≡ 0)
pick_zero true u n l h = (refl, h)
pick_zero false u n l h = absurd (omega arith)

pub pick_not : (t : Bool) (u n : ℕ) → 0 < n → pick t n u ≡ 0 → (t ≡ false) × (u ≡ 0)
pick_not true u n l h = absurd (omega arith)
pick_not false u n l h = (refl, h)

pub record Passed (s : Known) (k : ℕ) (r : List ℕ) : Type 0 where
  pub shape : shape_ok s k r ≡ true
  pub limits : limits_ok s k r ≡ true
  pub names : names_ok s k r ≡ true
  pub concept : section_of k ≡ 3 → concept_verdict s (concept_of k r) ≡ 0

pub verdict_zero : (s : Known) (k : ℕ) (r : List ℕ) → verdict s k r ≡ 0 → Passed s k r
unfolding verdict
verdict_zero s k r h =
    let x : ℕ = pick (eqb (section_of k) 3) (concept_verdict s (concept_of k r)) 0 in
    let y : ℕ = pick (names_ok s k r) x 5 in
    let z : ℕ = pick (limits_ok s k r) y 4 in
    let a = pick_zero (shape_ok s k r) z 3 (omega arith) h in
    let b = pick_zero (limits_ok s k r) y 4 (omega arith) a.1 in
    let c = pick_zero (names_ok s k r) x 5 (omega arith) b.1 in
    record { shape = a.0; limits = b.0; names = c.0; concept = λ e. rw e at c.1 }

pub record ConceptPassed (s : Known) (e : Concept) : Type 0 where
  pub below : Each (λ c. c < length s.concepts) (parts_of e)
  pub depth : depth_of s.depths e ≤ most_depth
  pub listed : members_ok s.concepts e ≡ true
  pub fresh : any (same_concept e) s.concepts ≡ false
  pub bound : bound_ok e ≡ true

pub concept_zero : (s : Known) (e : Concept) → concept_verdict s e ≡ 0 → ConceptPassed s e
unfolding concept_verdict
concept_zero s e h =
    let x : ℕ = pick (bound_ok e) 0 9 in
    let y : ℕ = pick (any (same_concept e) s.concepts) 8 x in
    let z : ℕ = pick (members_ok s.concepts e) y 7 in
    let a = pick_zero (nest_ok s e) z 6 (omega arith) h in
    let b = pick_zero (members_ok s.concepts e) y 7 (omega arith) a.1 in
    let c = pick_not (any (same_concept e) s.concepts) x 8 (omega arith) b.1 in
    let d = pick_zero (bound_ok e) 0 9 (omega arith) c.1 in
    let n = and_parts (all (λ c. ltb c (length s.concepts)) (parts_of e)) (leb (depth_of s.depths e) most_depth) a.0 in
    record {
      below = all_each (λ c. ltb c (length s.concepts)) (λ c. c < length s.concepts) (λ c q. ltb-true c (length s.concepts) q) (parts_of e) n.0;
      depth = leb-true (depth_of s.depths e) most_depth n.1;
      listed = b.0;
      fresh = c.0;
      bound = d.0;
    }

-- a verdict is 0 or one of 3 to 9
abbrev Numbered : ℕ → Type 0
Numbered v = (v ≡ 0 → ⊥) → (3 ≤ v) × (v ≤ 9)

pub verdict_numbered : (s : Known) (k : ℕ) (r : List ℕ) → (verdict s k r ≡ 0 → ⊥) → (3 ≤ verdict s k r) × (verdict s k r ≤ 9)
unfolding verdict concept_verdict
verdict_numbered s k r =
    let e : Concept = concept_of k r in
    let c4 : ℕ = pick (bound_ok e) 0 9 in
    let c3 : ℕ = pick (any (same_concept e) s.concepts) 8 c4 in
    let c2 : ℕ = pick (members_ok s.concepts e) c3 7 in
    let c1 : ℕ = pick (nest_ok s e) c2 6 in
    let x : ℕ = pick (eqb (section_of k) 3) c1 0 in
    let y : ℕ = pick (names_ok s k r) x 5 in
    let z : ℕ = pick (limits_ok s k r) y 4 in
    pick_by Numbered (shape_ok s k r) z 3
    (λ _. pick_by Numbered (limits_ok s k r) y 4
    (λ _. pick_by Numbered (names_ok s k r) x 5
    (λ _. pick_by Numbered (eqb (section_of k) 3) c1 0
    (λ _. pick_by Numbered (nest_ok s e) c2 6
    (λ _. pick_by Numbered (members_ok s.concepts e) c3 7
    (λ _. pick_by Numbered (any (same_concept e) s.concepts) 8 c4
    (λ _ _. omega arith)
    (λ _. pick_by Numbered (bound_ok e) 0 9 (λ _ n. absurd (n refl)) (λ _ _. omega arith)))
    (λ _ _. omega arith))
    (λ _ _. omega arith))
    (λ _ n. absurd (n refl)))
    (λ _ _. omega arith))
    (λ _ _. omega arith))
    (λ _ _. omega arith)

-- ---- what a deck is known to be
abbrev pub bounds_in : Header → Bounds
bounds_in h = record { classes = h.classes; individuals = h.individuals; roles = h.roles }

abbrev pub bounds_of : Known → Bounds
bounds_of d = bounds_in d.header

-- an And or Or list of the pool: two members or more, at most 128, rising, and no member that the list would absorb
abbrev pub ListIn : Pool → Concept → Type 0
ListIn p Top = Unit {0}
ListIn p Bot = Unit {0}
ListIn p (Atomic _) = Unit {0}
ListIn p (Nominal _) = Unit {0}
ListIn p (SelfRestriction _) = Unit {0}
ListIn p (Not _) = Unit {0}
ListIn p (And l) = TwoRising l × (length l ≤ most_listed) × Each (λ c. InAnd (at p c)) l
ListIn p (Or l) = TwoRising l × (length l ≤ most_listed) × Each (λ c. InOr (at p c)) l
ListIn p (Some _ _) = Unit {0}
ListIn p (All _ _) = Unit {0}
ListIn p (Min _ _ _) = Unit {0}
ListIn p (Max _ _ _) = Unit {0}

-- how many list members an axiom has, and a list of axioms
abbrev pub axiom_width : Axiom → ℕ
axiom_width (SubClassOf _ _) = 0
axiom_width (EquivalentClasses l) = length l
axiom_width (DisjointClasses l) = length l
axiom_width (DisjointUnion _ l) = length l
axiom_width (ObjectPropertyDomain _ _) = 0
axiom_width (ObjectPropertyRange _ _) = 0
axiom_width (SubChain _ l) = length l
axiom_width (TransitiveRole _) = 0
axiom_width (IrreflexiveRole _) = 0
axiom_width (AsymmetricRole _) = 0
axiom_width (DisjointObjectProperties l) = length l
axiom_width (InverseObjectProperties _ _) = 0
axiom_width (SubObjectPropertyOf _ _) = 0
axiom_width (EquivalentObjectProperties l) = length l
axiom_width (ReflexiveRole _) = 0
axiom_width (ClassAssertion _ _) = 0

unfoldable pub axiom_members : List Axiom → ℕ
axiom_members [] = 0
axiom_members (a ∷ l) = axiom_width a + axiom_members l

-- the lines behind the header
abbrev pub line_count : Known → ℕ
line_count d = length d.keys + length d.concepts + length d.axioms

-- what of a deck's bytes is known to be used: each line behind the header has 12, and each list member 11 more
abbrev pub bytes_used : Known → ℕ
bytes_used d = 11 * (members d.concepts + axiom_members d.axioms) + 12 * line_count d

pub record DeckIn (d : Known) : Type 0 where
  pub classes : d.header.classes ≤ most_classes
  pub individuals : d.header.individuals ≤ most_individuals
  pub roles : d.header.roles ≤ most_roles
  pub options : d.header.options ≤ most_options
  pub keys : Each (λ k. k < d.header.classes) d.keys
  pub wf : Wf (bounds_of d) d.concepts
  pub lists : (c : ℕ) → c < length d.concepts → ListIn d.concepts (at d.concepts c)
  pub distinct : (i j : ℕ) → i < j → j < length d.concepts → same_concept (at d.concepts i) (at d.concepts j) ≡ false
  pub axioms : Each (AxiomIn (bounds_of d) (length d.concepts)) d.axioms
  pub few_concepts : length d.concepts ≤ most_concept_lines
  pub few_axioms : length d.axioms ≤ most_axioms
  -- a depth for each concept, and the parts' are less
  pub depths : length d.depths ≡ length d.concepts
  pub depth : Each (λ n. n ≤ most_depth) d.depths
  pub falls : (c : ℕ) → c < length d.concepts → Each (λ a. get_or d.depths a 0 < get_or d.depths c 0) (parts_of (at d.concepts c))
  pub axiom_lists : Each (λ a. axiom_width a ≤ most_listed) d.axioms
  pub size : bytes_used d ≤ most_bytes

-- ---- a concept line
-- the number of a Min, which no other test bounds
abbrev Small : Concept → Type 0
Small Top = Unit {0}
Small Bot = Unit {0}
Small (Atomic _) = Unit {0}
Small (Nominal _) = Unit {0}
Small (SelfRestriction _) = Unit {0}
Small (Not _) = Unit {0}
Small (And _) = Unit {0}
Small (Or _) = Unit {0}
Small (Some _ _) = Unit {0}
Small (All _ _) = Unit {0}
Small (Min n _ _) = n ≤ most_number
Small (Max _ _ _) = Unit {0}

record FromRow (r : List ℕ) (e : Concept) : Type 0 where
  small : Small e
  narrow : width e < length r
  listed : width e ≤ most_listed

module _ (k : ℕ) (r : List ℕ) (N : Each (λ n. n ≤ most_number) r) (some : 0 < length r) (L : length (list_of k r) ≤ most_listed) where
  other : (e : Concept) → Small e → width e ≡ 0 → FromRow r e
  other e h w = record { small = h; narrow = omega arith; listed = omega arith }

  list : (e : Concept) → Small e → width e ≡ length (list_of k r) → FromRow r e
  list e h w = record { small = h; narrow = rw (w, length-drop) (omega arith); listed = omega arith }

  from_row : FromRow r (concept_of k r)
  unfolding concept_of
  from_row =
      pick_by (FromRow r) (eqb k 1) Top _ (λ _. other Top tt refl)
      (λ _. pick_by (FromRow r) (eqb k 2) Bot _ (λ _. other Bot tt refl)
      (λ _. pick_by (FromRow r) (eqb k 3) (Atomic (get_or r 1 0)) _ (λ _. other (Atomic _) tt refl)
      (λ _. pick_by (FromRow r) (eqb k 4) (Nominal (get_or r 1 0)) _ (λ _. other (Nominal _) tt refl)
      (λ _. pick_by (FromRow r) (eqb k 5) (SelfRestriction (role_at r 1)) _ (λ _. other (SelfRestriction _) tt refl)
      (λ _. pick_by (FromRow r) (eqb k 6) (Not (get_or r 1 0)) _ (λ _. other (Not _) tt refl)
      (λ _. pick_by (FromRow r) (eqb k 7) (And (list_of k r)) _ (λ _. list (And _) tt refl)
      (λ _. pick_by (FromRow r) (eqb k 8) (Or (list_of k r)) _ (λ _. list (Or _) tt refl)
      (λ _. pick_by (FromRow r) (eqb k 9) (Some (role_at r 1) (get_or r 2 0)) _ (λ _. other (Some _ _) tt refl)
      (λ _. pick_by (FromRow r) (eqb k 10) (All (role_at r 1) (get_or r 2 0)) _ (λ _. other (All _ _) tt refl)
      (λ _. pick_by (FromRow r) (eqb k 11) (Min (get_or r 1 0) (role_at r 2) (get_or r 3 0)) (Max (get_or r 1 0) (role_at r 2) (get_or r 3 0))
      (λ _. other (Min _ _ _) (each_get_d (λ n. n ≤ most_number) r 1 0 N (omega arith)) refl)
      (λ _. other (Max _ _ _) tt refl)))))))))))

-- the record names what is declared and earlier ids
bounded : (h : Header) (n : ℕ) (e : Concept) → concept_names_ok h e ≡ true → Each (λ c. c < n) (parts_of e) → Small e → bound_ok e ≡ true → Bounded (bounds_in h) n e
bounded h n Top v p s b = tt
bounded h n Bot v p s b = tt
bounded h n (Atomic a) v p s b = ltb-true a h.classes v
bounded h n (Nominal i) v p s b = ltb-true i h.individuals v
bounded h n (SelfRestriction r) v p s b = ltb-true (role_id r) h.roles v
bounded h n (Not c) v p s b = p.0
bounded h n (And l) v p s b = p
bounded h n (Or l) v p s b = p
bounded h n (Some r c) v p s b = (ltb-true (role_id r) h.roles v, p.0)
bounded h n (All r c) v p s b = (ltb-true (role_id r) h.roles v, p.0)
bounded h n (Min k r c) v p s b = (s, ltb-true (role_id r) h.roles v, p.0)
bounded h n (Max k r c) v p s b = (ltb-true k most_number b, ltb-true (role_id r) h.roles v, p.0)

pub parts_below : (B : Bounds) (n m : ℕ) (e : Concept) → n ≤ m → Bounded B n e → Each (λ c. c < m) (parts_of e)
parts_below B n m e l h = each_map (λ c. c < n) (λ c. c < m) (λ c q. omega arith) (parts_of e) (parts_named B n e h)

-- lists
rising_from : (x : ℕ) (l : List ℕ) → rising (x ∷ l) ≡ true → RisingFrom x l
unfolding rising
rising_from x [] h = tt
rising_from x (y ∷ l) h = let g = and_parts (ltb x y) (rising (y ∷ l)) h in (ltb-true x y g.0, rising_from y l g.1)

two_rising : (l : List ℕ) → 2 ≤ length l → rising l ≡ true → TwoRising l
two_rising [] n h = absurd (omega arith)
two_rising (x ∷ []) n h = absurd (omega arith)
two_rising (x ∷ y ∷ l) n h = rising_from x (y ∷ l) h

pub two_length : (l : List ℕ) → TwoRising l → 2 ≤ length l
two_length [] h = absurd h
two_length (x ∷ []) h = absurd h
two_length (x ∷ y ∷ l) h = omega arith

in_and : (e : Concept) → under_and (member_of e) ≡ true → InAnd e
in_and Top h = absurd (false≢true h)
in_and Bot h = absurd (false≢true h)
in_and (Atomic _) h = tt
in_and (Nominal _) h = tt
in_and (SelfRestriction _) h = tt
in_and (Not _) h = tt
in_and (And _) h = absurd (false≢true h)
in_and (Or _) h = tt
in_and (Some _ _) h = tt
in_and (All _ _) h = tt
in_and (Min _ _ _) h = tt
in_and (Max _ _ _) h = tt

in_or : (e : Concept) → under_or (member_of e) ≡ true → InOr e
in_or Top h = absurd (false≢true h)
in_or Bot h = absurd (false≢true h)
in_or (Atomic _) h = tt
in_or (Nominal _) h = tt
in_or (SelfRestriction _) h = tt
in_or (Not _) h = tt
in_or (And _) h = tt
in_or (Or _) h = absurd (false≢true h)
in_or (Some _ _) h = tt
in_or (All _ _) h = tt
in_or (Min _ _ _) h = tt
in_or (Max _ _ _) h = tt

list_ok_lem : (p : Pool) (f : Member → Bool) (P : Concept → Type 0) → ((e : Concept) → f (member_of e) ≡ true → P e) → (l : List ℕ) → length l ≤ most_listed → list_ok p f l ≡ true
    → TwoRising l × (length l ≤ most_listed) × Each (λ c. P (at p c)) l
list_ok_lem p f P g l n h =
    let a = and_parts (leb 2 (length l) && rising l) (all (λ c. f (member_of (at p c))) l) h in
    let b = and_parts (leb 2 (length l)) (rising l) a.0 in
    (two_rising l (leb-true 2 (length l) b.0) b.1, n, all_each (λ c. f (member_of (at p c))) (λ c. P (at p c)) (λ c q. g (at p c) q) l a.1)

list_in : (p : Pool) (e : Concept) → width e ≤ most_listed → members_ok p e ≡ true → ListIn p e
list_in p Top w h = tt
list_in p Bot w h = tt
list_in p (Atomic _) w h = tt
list_in p (Nominal _) w h = tt
list_in p (SelfRestriction _) w h = tt
list_in p (Not _) w h = tt
list_in p (And l) w h = list_ok_lem p under_and InAnd in_and l w h
list_in p (Or l) w h = list_ok_lem p under_or InOr in_or l w h
list_in p (Some _ _) w h = tt
list_in p (All _ _) w h = tt
list_in p (Min _ _ _) w h = tt
list_in p (Max _ _ _) w h = tt

-- ---- one concept more
module _ (p : Pool) (e : Concept) where
  at_old : (c : ℕ) → c < length p → at (p ++ (e ∷ [])) c ≡ at p c
  at_old c h = get_or-append p (e ∷ []) Top c h

  at_new : at (p ++ (e ∷ [])) (length p) ≡ e
  at_new = get_or-append_seam p e [] Top

  length_more : length (p ++ (e ∷ [])) ≡ length p + 1
  length_more = length-append p (e ∷ [])

  -- what holds of each record, and of the new one
  every_more : (P : ℕ → Concept → Type 0) → ((c : ℕ) → c < length p → P c (at p c)) → P (length p) e → (c : ℕ) → c < length (p ++ (e ∷ [])) → P c (at (p ++ (e ∷ [])) c)
  every_more P old new c h =
      by_test (ltb c (length p))
      (λ q. let l = ltb-true c (length p) q in rw (at_old c l) (old c l))
      (λ q. let l : c ≡ length p = omega (arith, ltb-false c (length p) q, length_more) in rw (l, at_new) new)

  each_old : (P : Concept → Type 0) (l : List ℕ) → Each (λ c. c < length p) l → Each (λ c. P (at p c)) l → Each (λ c. P (at (p ++ (e ∷ [])) c)) l
  each_old P l h g = each_both (λ c. c < length p) (λ c. P (at p c)) (λ c. P (at (p ++ (e ∷ [])) c)) (λ c a b. rw (at_old c a) b) l h g

  list_old : (x : Concept) → Each (λ c. c < length p) (parts_of x) → ListIn p x → ListIn (p ++ (e ∷ [])) x
  list_old Top h g = tt
  list_old Bot h g = tt
  list_old (Atomic _) h g = tt
  list_old (Nominal _) h g = tt
  list_old (SelfRestriction _) h g = tt
  list_old (Not _) h g = tt
  list_old (And l) h g = (g.0, g.1, each_old InAnd l h g.2)
  list_old (Or l) h g = (g.0, g.1, each_old InOr l h g.2)
  list_old (Some _ _) h g = tt
  list_old (All _ _) h g = tt
  list_old (Min _ _ _) h g = tt
  list_old (Max _ _ _) h g = tt

  distinct_more : ((i j : ℕ) → i < j → j < length p → same_concept (at p i) (at p j) ≡ false) → any (same_concept e) p ≡ false
      → (i j : ℕ) → i < j → j < length (p ++ (e ∷ [])) → same_concept (at (p ++ (e ∷ [])) i) (at (p ++ (e ∷ [])) j) ≡ false
  distinct_more old new i j l h =
      by_test (ltb j (length p))
      (λ q. let m = ltb-true j (length p) q in let n : i < length p = omega arith in ap₂ same_concept (at_old i n) (at_old j m) ∙ old i j l m)
      (λ q.
      let m : j ≡ length p = omega (arith, ltb-false j (length p) q, length_more) in
      let n : i < length p = omega arith in
      ap₂ same_concept (at_old i n) (ap (at (p ++ (e ∷ []))) m ∙ at_new) ∙ same_words_sym (concept_row (at p i)) (concept_row e) ∙ any_false (same_concept e) Top p new i n)

-- depths
module _ (ds : List ℕ) where
  deepest_least : (d : ℕ) (l : List ℕ) → d ≤ deepest ds d l
  unfolding deepest
  deepest_least d [] = omega arith
  deepest_least d (c ∷ l) =
      let x : ℕ = get_or ds c 0 in
      let h = deepest_least (pick (ltb d x) x d) l in
      omega (arith, pick_by (λ (n : ℕ). d ≤ n) (ltb d x) x d (λ q. omega (arith, ltb-true d x q)) (λ _. omega arith))

  deepest_each : (d : ℕ) (l : List ℕ) → Each (λ c. get_or ds c 0 ≤ deepest ds d l) l
  unfolding deepest
  deepest_each d [] = tt
  deepest_each d (c ∷ l) =
      let x : ℕ = get_or ds c 0 in
      let y : ℕ = pick (ltb d x) x d in
      (omega (arith, pick_by (λ (n : ℕ). x ≤ n) (ltb d x) x d (λ _. omega arith) (λ q. ltb-false d x q), deepest_least y l), deepest_each y l)

  depth_old : (n c : ℕ) → c < length ds → get_or (ds ++ (n ∷ [])) c 0 ≡ get_or ds c 0
  depth_old n c h = get_or-append ds (n ∷ []) 0 c h

  falls_more : (p : Pool) (e : Concept) → length ds ≡ length p → ((c : ℕ) → c < length p → Each (λ a. a < length p) (parts_of (at p c)))
      → ((c : ℕ) → c < length p → Each (λ a. get_or ds a 0 < get_or ds c 0) (parts_of (at p c))) → Each (λ a. a < length p) (parts_of e)
      → (c : ℕ) → c < length (p ++ (e ∷ []))
      → Each (λ a. get_or (ds ++ (depth_of ds e ∷ [])) a 0 < get_or (ds ++ (depth_of ds e ∷ [])) c 0) (parts_of (at (p ++ (e ∷ [])) c))
  falls_more p e q below old new =
      let n : ℕ = depth_of ds e in
      let ds' : List ℕ = ds ++ (n ∷ []) in
      let last : get_or ds' (length p) 0 ≡ n = rw (← q) (get_or-append_seam ds n [] 0) in
      every_more p e (λ c x. Each (λ a. get_or ds' a 0 < get_or ds' c 0) (parts_of x))
      (λ c h. each_both (λ a. a < length p) (λ a. get_or ds a 0 < get_or ds c 0) (λ a. get_or ds' a 0 < get_or ds' c 0)
      (λ a x y. rw (depth_old n a (omega arith), depth_old n c (omega arith)) y) (parts_of (at p c)) (below c h) (old c h))
      (each_both (λ a. a < length p) (λ a. get_or ds a 0 ≤ deepest ds 0 (parts_of e)) (λ a. get_or ds' a 0 < get_or ds' (length p) 0)
      (λ a x y. rw (depth_old n a (omega arith), last) (omega arith)) (parts_of e) new (deepest_each 0 (parts_of e)))

-- ---- an axiom line
axiom_in : (h : Header) (n : ℕ) (a : Axiom) → axiom_names_ok h n a ≡ true → AxiomIn (bounds_in h) n a
axiom_in h n (SubClassOf sub sup) v = let g = and_parts (ltb sub n) (ltb sup n) v in (ltb-true sub n g.0, ltb-true sup n g.1)
axiom_in h n (EquivalentClasses l) v = all_each (λ c. ltb c n) (λ c. c < n) (λ c. ltb-true c n) l v
axiom_in h n (DisjointClasses l) v = all_each (λ c. ltb c n) (λ c. c < n) (λ c. ltb-true c n) l v
axiom_in h n (DisjointUnion a l) v =
    let g = and_parts (ltb a h.classes) (all (λ c. ltb c n) l) v in
    (ltb-true a h.classes g.0, all_each (λ c. ltb c n) (λ c. c < n) (λ c. ltb-true c n) l g.1)
axiom_in h n (ObjectPropertyDomain r c) v = let g = and_parts (role_ok h r) (ltb c n) v in (ltb-true (role_id r) h.roles g.0, ltb-true c n g.1)
axiom_in h n (ObjectPropertyRange r c) v = let g = and_parts (role_ok h r) (ltb c n) v in (ltb-true (role_id r) h.roles g.0, ltb-true c n g.1)
axiom_in h n (SubChain sup parts) v =
    let g = and_parts (role_ok h sup) (all (role_ok h) parts) v in
    (ltb-true (role_id sup) h.roles g.0, all_each (role_ok h) (RoleIn (bounds_in h)) (λ r. ltb-true (role_id r) h.roles) parts g.1)
axiom_in h n (TransitiveRole r) v = ltb-true (role_id r) h.roles v
axiom_in h n (IrreflexiveRole r) v = ltb-true (role_id r) h.roles v
axiom_in h n (AsymmetricRole r) v = ltb-true (role_id r) h.roles v
axiom_in h n (DisjointObjectProperties l) v = all_each (role_ok h) (RoleIn (bounds_in h)) (λ r. ltb-true (role_id r) h.roles) l v
axiom_in h n (InverseObjectProperties r s) v = let g = and_parts (role_ok h r) (role_ok h s) v in (ltb-true (role_id r) h.roles g.0, ltb-true (role_id s) h.roles g.1)
axiom_in h n (SubObjectPropertyOf r s) v = let g = and_parts (role_ok h r) (role_ok h s) v in (ltb-true (role_id r) h.roles g.0, ltb-true (role_id s) h.roles g.1)
axiom_in h n (EquivalentObjectProperties l) v = all_each (role_ok h) (RoleIn (bounds_in h)) (λ r. ltb-true (role_id r) h.roles) l v
axiom_in h n (ReflexiveRole r) v = ltb-true (role_id r) h.roles v
axiom_in h n (ClassAssertion c i) v = let g = and_parts (ltb c n) (ltb i h.individuals) v in (ltb-true c n g.0, ltb-true i h.individuals g.1)

record AxiomFrom (r : List ℕ) (a : Axiom) : Type 0 where
  narrow : axiom_width a < length r
  listed : axiom_width a ≤ most_listed

module _ (k : ℕ) (r : List ℕ) (some : 0 < length r) (L : length (list_of k r) ≤ most_listed) where
  axiom_other : (a : Axiom) → axiom_width a ≡ 0 → AxiomFrom r a
  axiom_other a w = record { narrow = omega arith; listed = omega arith }

  axiom_list : (a : Axiom) → axiom_width a ≡ length (list_of k r) → AxiomFrom r a
  axiom_list a w = record { narrow = rw (w, length-drop) (omega arith); listed = omega arith }

  axiom_from : AxiomFrom r (axiom_of k r)
  unfolding axiom_of
  axiom_from =
      pick_by (AxiomFrom r) (eqb k 21) (SubClassOf (get_or r 1 0) (get_or r 2 0)) _ (λ _. axiom_other (SubClassOf _ _) refl)
      (λ _. pick_by (AxiomFrom r) (eqb k 22) (EquivalentClasses (list_of k r)) _ (λ _. axiom_list (EquivalentClasses _) refl)
      (λ _. pick_by (AxiomFrom r) (eqb k 23) (DisjointClasses (list_of k r)) _ (λ _. axiom_list (DisjointClasses _) refl)
      (λ _. pick_by (AxiomFrom r) (eqb k 24) (DisjointUnion (get_or r 1 0) (list_of k r)) _ (λ _. axiom_list (DisjointUnion _ _) refl)
      (λ _. pick_by (AxiomFrom r) (eqb k 25) (ObjectPropertyDomain (role_at r 1) (get_or r 2 0)) _ (λ _. axiom_other (ObjectPropertyDomain _ _) refl)
      (λ _. pick_by (AxiomFrom r) (eqb k 26) (ObjectPropertyRange (role_at r 1) (get_or r 2 0)) _ (λ _. axiom_other (ObjectPropertyRange _ _) refl)
      (λ _. pick_by (AxiomFrom r) (eqb k 27) (SubChain (role_at r 1) (map role_of (list_of k r))) _ (λ _. axiom_list (SubChain _ _) (length-map (list_of k r) role_of))
      (λ _. pick_by (AxiomFrom r) (eqb k 28) (TransitiveRole (role_at r 1)) _ (λ _. axiom_other (TransitiveRole _) refl)
      (λ _. pick_by (AxiomFrom r) (eqb k 29) (IrreflexiveRole (role_at r 1)) _ (λ _. axiom_other (IrreflexiveRole _) refl)
      (λ _. pick_by (AxiomFrom r) (eqb k 30) (AsymmetricRole (role_at r 1)) _ (λ _. axiom_other (AsymmetricRole _) refl)
      (λ _. pick_by (AxiomFrom r) (eqb k 31) (DisjointObjectProperties (map role_of (list_of k r))) _ (λ _. axiom_list (DisjointObjectProperties _) (length-map (list_of k r) role_of))
      (λ _. pick_by (AxiomFrom r) (eqb k 32) (InverseObjectProperties (role_at r 1) (role_at r 2)) _ (λ _. axiom_other (InverseObjectProperties _ _) refl)
      (λ _. pick_by (AxiomFrom r) (eqb k 33) (SubObjectPropertyOf (role_at r 1) (role_at r 2)) _ (λ _. axiom_other (SubObjectPropertyOf _ _) refl)
      (λ _. pick_by (AxiomFrom r) (eqb k 34) (EquivalentObjectProperties (map role_of (list_of k r))) _ (λ _. axiom_list (EquivalentObjectProperties _) (length-map (list_of k r) role_of))
      (λ _. pick_by (AxiomFrom r) (eqb k 35) (ReflexiveRole (role_at r 1)) (ClassAssertion (get_or r 1 0) (get_or r 2 0))
      (λ _. axiom_other (ReflexiveRole _) refl)
      (λ _. axiom_other (ClassAssertion _ _) refl)))))))))))))))

axiom_members_more : (l : List Axiom) (a : Axiom) → axiom_members (l ++ (a ∷ [])) ≡ axiom_members l + axiom_width a
unfolding axiom_members
axiom_members_more [] a = omega arith
axiom_members_more (x ∷ l) a = omega (arith, axiom_members_more l a)

-- ---- the sections
section_most : (k : ℕ) → section_of k ≤ 4
section_most k = each_get_d (λ n. n ≤ 4) sections k 0 (all_each (λ n. leb n 4) (λ n. n ≤ 4) (λ n. leb-true n 4) sections refl) (omega arith)

section_cases : {P : Type 0} (n : ℕ) → n ≤ 4 → (n ≡ 0 → P) → (n ≡ 1 → P) → (n ≡ 2 → P) → (n ≡ 3 → P) → (n ≡ 4 → P) → P
section_cases zero h a b c d e = a refl
section_cases (suc zero) h a b c d e = b refl
section_cases (suc (suc zero)) h a b c d e = c refl
section_cases (suc (suc (suc zero))) h a b c d e = d refl
section_cases (suc (suc (suc (suc n)))) h a b c d e = e (omega arith)

-- what is known after n bytes of a deck: the lists of the sections to come are empty
pub record KnownAt (n : ℕ) (d : Known) : Type 0 where
  pub in_deck : DeckIn d
  pub no_keys : d.section < 2 → d.keys ≡ []
  pub no_concepts : d.section < 3 → d.concepts ≡ []
  pub no_axioms : d.section < 4 → d.axioms ≡ []
  pub used : bytes_used d ≤ n

pub nothing_known : KnownAt 0 nothing
unfolding members axiom_members
nothing_known = record {
  in_deck = record {
    classes = omega arith;
    individuals = omega arith;
    roles = omega arith;
    options = omega arith;
    keys = tt;
    wf = λ c h. absurd (omega arith);
    lists = λ c h. absurd (omega arith);
    distinct = λ i j h g. absurd (omega arith);
    axioms = tt;
    axiom_lists = tt;
    few_concepts = omega arith;
    few_axioms = omega arith;
    depths = refl;
    depth = tt;
    falls = λ c h. absurd (omega arith);
    size = omega arith;
  };
  no_keys = λ _. refl;
  no_concepts = λ _. refl;
  no_axioms = λ _. refl;
  used = omega arith;
}

-- the tests of a line whose kind is of section i
abbrev room_in : Known → List ℕ → ℕ → Bool
room_in s r i =
    pick (eqb i 1) (header_ok (header_of r))
    (pick (eqb i 3) (ltb (length s.concepts) most_concept_lines)
    (pick (eqb i 4) (ltb (length s.axioms) most_axioms) true))

abbrev names_in : Known → ℕ → List ℕ → ℕ → Bool
names_in s k r i =
    pick (eqb i 2) (ltb (get_or r 1 0) s.header.classes)
    (pick (eqb i 3) (concept_names_ok s.header (concept_of k r))
    (pick (eqb i 4) (axiom_names_ok s.header (length s.concepts) (axiom_of k r)) true))

header_ok_lem : (h : Header) → header_ok h ≡ true → (h.classes ≤ most_classes) × (h.individuals ≤ most_individuals) × (h.roles ≤ most_roles) × (h.options ≤ most_options)
header_ok_lem h e =
    let a : Bool = leb h.classes most_classes in
    let b : Bool = leb h.individuals most_individuals in
    let c : Bool = leb h.roles most_roles in
    let x = and_parts (a && b && c) (leb h.options most_options) e in
    let y = and_parts (a && b) c x.0 in
    let z = and_parts a b y.0 in
    (leb-true h.classes most_classes z.0, leb-true h.individuals most_individuals z.1, leb-true h.roles most_roles y.1, leb-true h.options most_options x.1)

-- ---- a good line keeps all that is known
module _ (n : ℕ) (s : Known) (k : ℕ) (r : List ℕ) (K : KnownAt n s) (N : Each (λ i. i ≤ most_number) r) (some : 0 < length r) (T : Passed s k r) (most : n + 11 * length r + 1 ≤ most_bytes) where
  order_is : (i : ℕ) → section_of k ≡ i → in_order s.section i ≡ true
  order_is i e = subst (λ (j : ℕ). in_order s.section j ≡ true) e (and_parts (in_order s.section (section_of k)) (fields_ok k (length r)) T.shape).0

  room_is : (i : ℕ) → section_of k ≡ i → room_in s r i ≡ true
  room_is i e = subst (λ (j : ℕ). room_in s r j ≡ true) e (and_parts (leb (length (list_of k r)) most_listed) (room_ok s k r) T.limits).1

  listed : length (list_of k r) ≤ most_listed
  listed = leb-true (length (list_of k r)) most_listed (and_parts (leb (length (list_of k r)) most_listed) (room_ok s k r) T.limits).0

  names_is : (i : ℕ) → section_of k ≡ i → names_in s k r i ≡ true
  names_is i e = subst (λ (j : ℕ). names_in s k r j ≡ true) e T.names

  enter_header : section_of k ≡ 1 → KnownAt (n + 11 * length r + 1) (entered s k r)
  unfolding entered members axiom_members
  enter_header e =
      let o : s.section ≡ 0 = eqb-true s.section 0 (order_is 1 e) in
      let h = header_ok_lem (header_of r) (room_is 1 e) in
      let a : s.keys ≡ [] = K.no_keys (omega arith) in
      let b : s.concepts ≡ [] = K.no_concepts (omega arith) in
      let c : s.axioms ≡ [] = K.no_axioms (omega arith) in
      let q : length s.depths ≡ 0 = K.in_deck.depths ∙ ap length b in
      rw (e, a, b, c) record {
        in_deck = record {
          classes = h.0;
          individuals = h.1;
          roles = h.2;
          options = h.3;
          keys = tt;
          wf = λ c h. absurd (omega arith);
          lists = λ c h. absurd (omega arith);
          distinct = λ i j h g. absurd (omega arith);
          axioms = tt;
          axiom_lists = tt;
          few_concepts = omega arith;
          few_axioms = omega arith;
          depths = q;
          depth = K.in_deck.depth;
          falls = λ c h. absurd (omega arith);
          size = omega arith;
        };
        no_keys = λ _. refl;
        no_concepts = λ _. refl;
        no_axioms = λ _. refl;
        used = omega arith;
      }

  enter_key : section_of k ≡ 2 → KnownAt (n + 11 * length r + 1) (entered s k r)
  unfolding entered
  enter_key e =
      let o = and_parts (leb 1 s.section) (leb s.section 2) (order_is 2 e) in
      let m = leb-true s.section 2 o.1 in
      let D = K.in_deck in
      let x : ℕ = get_or r 1 0 in
      let u : bytes_used (known 2 s.header (s.keys ++ (x ∷ [])) s.concepts s.depths s.axioms) ≤ n + 11 * length r + 1 = omega (arith, length-append s.keys (x ∷ []), K.used) in
      rw e record {
        in_deck = record {
          classes = D.classes;
          individuals = D.individuals;
          roles = D.roles;
          options = D.options;
          keys = each_append (λ i. i < s.header.classes) s.keys (x ∷ []) D.keys (ltb-true x s.header.classes (names_is 2 e), tt);
          wf = D.wf;
          lists = D.lists;
          distinct = D.distinct;
          axioms = D.axioms;
          axiom_lists = D.axiom_lists;
          few_concepts = D.few_concepts;
          few_axioms = D.few_axioms;
          depths = D.depths;
          depth = D.depth;
          falls = D.falls;
          size = omega arith;
        };
        no_keys = λ h. absurd (omega arith);
        no_concepts = λ _. K.no_concepts (omega arith);
        no_axioms = λ _. K.no_axioms (omega arith);
        used = u;
      }

  enter_axiom : section_of k ≡ 4 → KnownAt (n + 11 * length r + 1) (entered s k r)
  unfolding entered
  enter_axiom e =
      let D = K.in_deck in
      let a : Axiom = axiom_of k r in
      let g : length (s.axioms ++ (a ∷ [])) ≡ length s.axioms + 1 = length-append s.axioms (a ∷ []) in
      let F = axiom_from k r some listed in
      let u : bytes_used (known 4 s.header s.keys s.concepts s.depths (s.axioms ++ (a ∷ []))) ≤ n + 11 * length r + 1 = omega (arith, K.used, axiom_members_more s.axioms a, F.narrow) in
      rw e record {
        in_deck = record {
          classes = D.classes;
          individuals = D.individuals;
          roles = D.roles;
          options = D.options;
          keys = D.keys;
          wf = D.wf;
          lists = D.lists;
          distinct = D.distinct;
          axioms = each_append (AxiomIn (bounds_of s) (length s.concepts)) s.axioms (a ∷ []) D.axioms (axiom_in s.header (length s.concepts) a (names_is 4 e), tt);
          axiom_lists = each_append (λ i. axiom_width i ≤ most_listed) s.axioms (a ∷ []) D.axiom_lists (F.listed, tt);
          few_concepts = D.few_concepts;
          few_axioms = omega (arith, ltb-true (length s.axioms) most_axioms (room_is 4 e));
          depths = D.depths;
          depth = D.depth;
          falls = D.falls;
          size = omega arith;
        };
        no_keys = λ h. absurd (omega arith);
        no_concepts = λ h. absurd (omega arith);
        no_axioms = λ h. absurd (omega arith);
        used = u;
      }

  enter_concept : section_of k ≡ 3 → KnownAt (n + 11 * length r + 1) (entered s k r)
  unfolding entered
  enter_concept e =
      let D = K.in_deck in
      let p : Pool = s.concepts in
      let x : Concept = concept_of k r in
      let o = and_parts (leb 1 s.section) (leb s.section 3) (order_is 3 e) in
      let m = leb-true s.section 3 o.1 in
      let c : s.axioms ≡ [] = K.no_axioms (omega arith) in
      let C = concept_zero s x (T.concept e) in
      let F = from_row k r N some listed in
      let B = bounded s.header (length p) x (names_is 3 e) C.below F.small C.bound in
      let below : (i : ℕ) → i < length p → Each (λ a. a < length p) (parts_of (at p i)) = λ i h. parts_below (bounds_of s) i (length p) (at p i) (omega arith) (D.wf i h) in
      let g : length (p ++ (x ∷ [])) ≡ length p + 1 = length_more p x in
      let u : bytes_used (known 3 s.header s.keys (p ++ (x ∷ [])) s.depths s.axioms) ≤ n + 11 * length r + 1 = omega (arith, K.used, members_snoc p x, F.narrow) in
      rw e record {
        in_deck = record {
          classes = D.classes;
          individuals = D.individuals;
          roles = D.roles;
          options = D.options;
          keys = D.keys;
          wf = every_more p x (λ i y. Bounded (bounds_of s) i y) D.wf B;
          lists = every_more p x (λ i y. ListIn (p ++ (x ∷ [])) y) (λ i h. list_old p x (at p i) (below i h) (D.lists i h)) (list_old p x x C.below (list_in p x F.listed C.listed));
          distinct = distinct_more p x D.distinct C.fresh;
          axioms = rw c tt;
          axiom_lists = D.axiom_lists;
          few_concepts = omega (arith, ltb-true (length p) most_concept_lines (room_is 3 e));
          few_axioms = D.few_axioms;
          depths = omega (arith, length-append s.depths (depth_of s.depths x ∷ []), D.depths);
          depth = each_append (λ i. i ≤ most_depth) s.depths (depth_of s.depths x ∷ []) D.depth (C.depth, tt);
          falls = falls_more s.depths p x D.depths below D.falls C.below;
          size = omega arith;
        };
        no_keys = λ h. absurd (omega arith);
        no_concepts = λ h. absurd (omega arith);
        no_axioms = λ h. c;
        used = u;
      }

  pub enter_known : KnownAt (n + 11 * length r + 1) (entered s k r)
  enter_known = section_cases (section_of k) (section_most k) (λ e. absurd (false≢true (order_is 0 e))) enter_header enter_key enter_concept enter_axiom

-- the deck's list members, against the pool's 16,384
pub members_few : (d : Known) → DeckIn d → members d.concepts + axiom_members d.axioms ≤ 5957
members_few d D = omega (arith, D.size)

-- ---- the whole deck
-- a refusal's number, and its line
pub record Refusal (deck : List ℕ) (number line : ℕ) : Type 0 where
  pub low : 2 ≤ number
  pub high : number ≤ 9
  pub in_lines : line ≤ lines_of deck
  pub in_bytes : 12 * line ≤ length deck + 12
  pub whole : line ≡ 0 → (number ≡ 2) × (most_bytes < length deck)

pub record DeckRead (deck : List ℕ) (d : Known) : Type 0 where
  pub in_deck : DeckIn d
  pub used : bytes_used d ≤ length deck

abbrev pub Answers : List ℕ → Told → Type 0
Answers deck (fine d) = DeckRead deck d
Answers deck (refused n line) = Refusal deck n line

-- line `line` begins behind n bytes, with the bytes `rest`
record Going (deck : List ℕ) (n line : ℕ) (rest : List ℕ) : Type 0 where
  begun : 0 < line
  place : n + length rest ≡ length deck
  most : length deck ≤ most_bytes
  bytes : 12 * line + length rest ≤ length deck + 12
  lines : 0 < length rest → line + lines_of rest ≤ lines_of deck + 1

lines_some : (s : List ℕ) → 0 < lines_of s
unfolding lines_of
lines_some [] = omega arith
lines_some (b ∷ []) = omega arith
lines_some (b ∷ c ∷ s) = omega (arith, lines_some (c ∷ s))

module _ (deck : List ℕ) (n : ℕ) (s : Known) (line : ℕ) (bytes : List ℕ) (G : Going deck n line bytes) (K : KnownAt n s) where
  answer_refused : (v : ℕ) → 0 < length bytes → 2 ≤ v → v ≤ 9 → Answers deck (refused v line)
  answer_refused v h a b = record {
    low = a;
    high = b;
    in_lines = omega (arith, G.lines h, lines_some bytes);
    in_bytes = omega (arith, G.bytes);
    whole = λ e. absurd (omega (arith, G.begun));
  }

  answer_fine : Answers deck (fine s)
  answer_fine = record { in_deck = K.in_deck; used = omega (arith, K.used, G.place) }

  module _ (go : Known → List ℕ → Told) (on : (d : Known) (m : ℕ) (rest : List ℕ) → length rest < length bytes → Going deck m (line + 1) rest → KnownAt m d → Answers deck (go d rest)) where
    answer_verdict : (r rest : List ℕ) → RowRead (length bytes) (lines_of bytes) r rest → (t : Bool) → eqb (verdict s (get_or r 0 0) r) 0 ≡ t
        → Answers deck (on_verdict (λ d. go d rest) s line r (verdict s (get_or r 0 0) r) t)
    answer_verdict r rest R true e =
        let v = verdict_zero s (get_or r 0 0) r (eqb-true (verdict s (get_or r 0 0) r) 0 e) in
        let m : ℕ = n + 11 * length r + 1 in
        let g : Going deck m (line + 1) rest = record {
          begun = omega arith;
          place = omega (arith, R.bytes, G.place);
          most = G.most;
          bytes = omega (arith, R.bytes, R.some, G.bytes);
          lines = λ h. omega (arith, R.lines h, G.lines (omega (arith, R.bytes)));
        } in
        on (entered s (get_or r 0 0) r) m rest (omega (arith, R.bytes)) g (enter_known n s (get_or r 0 0) r K R.numbers R.some v (omega (arith, R.bytes, G.place, G.most)))
    answer_verdict r rest R false e =
        let v = verdict_numbered s (get_or r 0 0) r (eqb-false (verdict s (get_or r 0 0) r) 0 e) in
        answer_refused (verdict s (get_or r 0 0) r) (omega (arith, R.bytes)) (omega (arith, v.0)) v.1

    answer_row : 0 < length bytes → (R : Row) → Reads (length bytes) (lines_of bytes) R → Answers deck (on_row go s line R)
    answer_row h broken_row R = answer_refused 2 h (omega arith) (omega arith)
    answer_row h (row r rest) R = answer_verdict r rest R (eqb (verdict s (get_or r 0 0) r) 0) refl

answer_by : (deck : List ℕ) (f n : ℕ) (s : Known) (line : ℕ) (bytes : List ℕ) → length bytes < f → Going deck n line bytes → KnownAt n s → Answers deck (read_by f s line bytes)
unfolding read_by
answer_by deck zero n s line bytes h G K = absurd (omega arith)
answer_by deck (suc f) n s line [] h G K = answer_fine deck n s line [] G K
answer_by deck (suc f) n s line (b ∷ bytes) h G K =
    answer_row deck n s line (b ∷ bytes) G K (λ d rest. read_by f d (line + 1) rest)
    (λ d m rest l g k. answer_by deck f m d (line + 1) rest (omega arith) g k)
    (omega arith) (row_of (b ∷ bytes)) (row_reads (b ∷ bytes))

answer_lines : (deck : List ℕ) → length deck ≤ most_bytes → Answers deck (read_lines deck)
unfolding lines_of
answer_lines [] h = record { low = omega arith; high = omega arith; in_lines = omega arith; in_bytes = omega arith; whole = λ e. absurd (omega arith) }
answer_lines (b ∷ bytes) h =
    answer_by (b ∷ bytes) (suc (length (b ∷ bytes))) 0 nothing 1 (b ∷ bytes) (omega arith)
    record { begun = omega arith; place = omega arith; most = h; bytes = omega arith; lines = λ _. omega arith } nothing_known

pub read_answers : (deck : List ℕ) → Answers deck (read_deck deck)
unfolding read_deck
read_answers deck =
    pick_by (Answers deck) (ltb most_bytes (length deck)) (refused 2 0) (read_lines deck)
    (λ e. record { low = omega arith; high = omega arith; in_lines = omega arith; in_bytes = omega arith; whole = λ _. (refl, ltb-true most_bytes (length deck) e) })
    (λ e. answer_lines deck (ltb-false most_bytes (length deck) e))

-- a refusal's number is one of 2 to 9, its line a line of the deck; line 0 comes with 2 alone, where the deck is too long
pub read_enough : (deck : List ℕ) (number line : ℕ) → read_deck deck ≡ refused number line → Refusal deck number line
read_enough deck number line h = subst (Answers deck) h (read_answers deck)

-- so the bound of readBy is enough
pub read_ends : (deck : List ℕ) → read_deck deck ≡ refused 0 0 → ⊥
read_ends deck h = omega (arith, (read_enough deck 0 0 h).low)

module _ (deck : List ℕ) (d : Known) (h : read_deck deck ≡ fine d) where
  pub read_in : DeckIn d
  read_in = (subst (Answers deck) h (read_answers deck)).in_deck

  pub read_size : bytes_used d ≤ length deck
  read_size = (subst (Answers deck) h (read_answers deck)).used

  pub read_members : members d.concepts + axiom_members d.axioms ≤ length deck / 11
  read_members = omega (arith, read_size)
