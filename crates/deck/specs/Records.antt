-- What the reader keeps of a deck, and what is known by it. A line is where it begins and its number of fields; its numbers stay in
-- the deck.
use Rattle.std.specs.Prelude.{◌≡◌, Bool, true, List, [], ◌∷◌, ◌++◌, ◌⊎◌, ℕ, zero, suc, ◌+◌, ◌*◌, ◌<◌, ◌≤◌, length, get_or, eqb, Option, Some, None, Result, Ok, Err}
use Prim.{Unit}
use Rattle.words.specs.Words.{words}
use Rattle.ir.specs.Pick.{pick}
use Rattle.ir.specs.Refusals.{refusal_number}
use Rattle.ir.specs.declared.refusal.Refusal.{Refusal}
use Rattle.rules.specs.Text.{most_number}
use Rattle.rules.specs.Concept.{Concept, Axiom, concept_row}
use Rattle.rules.specs.Deck.{most_bytes, most_concept_lines, most_axioms, most_depth, section_of, concept_of, axiom_of, Header, Known, known, fields_ok, Member, trivial, and_list, or_list, plain, under_and, under_or, concept_verdict, verdict, entered, Told, fine, refused}
use Rattle.rules.specs.Invariants.{Each}
use Rattle.text.specs.Rows.{row_at}
use Rattle.deck.specs.Index.{hash_of, Indexed}
use Rattle.deck.specs.declared.row.Row.{Row}
use Rattle.deck.specs.declared.state.Section.{Section}
use Rattle.deck.specs.declared.state.Section.TheVariants.{Header as HeaderSection, Keys, Concepts, Axioms}
use Rattle.deck.specs.declared.state.State.{State}
use Rattle.ir.specs.declared.answer.Refused.{Refused}

-- ---- sections
abbrev pub section_code : Section → ℕ
section_code HeaderSection = 1
section_code Keys = 2
section_code Concepts = 3
section_code Axioms = 4

-- of a line that may be of none, or stand first
abbrev pub section_number : Option Section → ℕ
section_number None = 0
section_number (Some s) = section_code s

-- a verdict's number
abbrev pub verdict_number : Result (Unit {0}) Refusal → ℕ
verdict_number (Ok _) = 0
verdict_number (Err r) = refusal_number r

-- ---- kinds
-- where the concepts that a concept line names begin, which are the rest of the line
abbrev pub firsts : List ℕ
firsts = 5 ∷ 1 ∷ 1 ∷ 2 ∷ 2 ∷ 2 ∷ 1 ∷ 1 ∷ 1 ∷ 2 ∷ 2 ∷ 3 ∷ 3 ∷ []

abbrev pub first_part : ℕ → ℕ
first_part k = get_or firsts k 0

-- what a line of kind k is as a member
abbrev pub kind_member : ℕ → Member
kind_member k = pick (eqb k 1) trivial (pick (eqb k 2) trivial (pick (eqb k 7) and_list (pick (eqb k 8) or_list plain)))

-- the members that a list of kind k takes
abbrev pub IsList : ℕ → Type 0
IsList k = (k ≡ 7) ⊎ (k ≡ 8)

abbrev pub under : ℕ → Member → Bool
under k = pick (eqb k 7) under_and under_or

-- ---- the state
abbrev pub header_in : State → Header
header_in k = record { classes = k.classes; individuals = k.individuals; roles = k.roles; options = k.options }

abbrev pub with_header : State → List ℕ → ℕ → State
with_header k r q = record { section = Some HeaderSection; classes = get_or r 1 0; individuals = get_or r 2 0; roles = get_or r 3 0; options = get_or r 4 0; marks = q; keys = k.keys; concepts = k.concepts; axioms = k.axioms }

abbrev pub with_key : State → State
with_key k = record { section = Some Keys; classes = k.classes; individuals = k.individuals; roles = k.roles; options = k.options; marks = k.marks; keys = k.keys + 1; concepts = k.concepts; axioms = k.axioms }

abbrev pub with_concept : State → State
with_concept k = record { section = Some Concepts; classes = k.classes; individuals = k.individuals; roles = k.roles; options = k.options; marks = k.marks; keys = k.keys; concepts = k.concepts + 1; axioms = k.axioms }

abbrev pub with_axiom : State → State
with_axiom k = record { section = Some Axioms; classes = k.classes; individuals = k.individuals; roles = k.roles; options = k.options; marks = k.marks; keys = k.keys; concepts = k.concepts; axioms = k.axioms + 1 }

-- a line's verdict, by the number v of its first three checks: 6 to 9 are a concept line's
abbrev pub behind_line : Known → ℕ → List ℕ → ℕ → ℕ
behind_line d k r v = pick (eqb v 0) (pick (eqb (section_of k) 3) (concept_verdict d (concept_of k r)) 0) v

-- what the state says of all that is known
pub record Counted (k : State) (d : Known) : Type 0 where
  pub header : d.header ≡ header_in k
  pub concepts : length d.concepts ≡ k.concepts
  pub axioms : length d.axioms ≡ k.axioms

-- ---- the table: three words for each of 1,024 concept lines, two for each of 1,024 axiom lines, and the index's heads and links
abbrev pub axioms_at : ℕ
axioms_at = 3072

abbrev pub heads_at : ℕ
heads_at = 5120

abbrev pub links_at : ℕ
links_at = 6144

abbrev pub table_bytes : ℕ
table_bytes = 28672

-- the first n
unfoldable pub tab : {A : Type 0} → (ℕ → A) → ℕ → List A
tab f zero = []
tab f (suc n) = tab f n ++ (f n ∷ [])

-- and their sum
unfoldable pub sum : (ℕ → ℕ) → ℕ → ℕ
sum f zero = 0
sum f (suc n) = sum f n + f n

abbrev pub concept_at : List ℕ → Concept
concept_at r = concept_of (get_or r 0 0) r

abbrev pub axiom_at : List ℕ → Axiom
axiom_at r = axiom_of (get_or r 0 0) r

-- of a deck's bytes s and a table's words w: concept line i, its depth, axiom line i
abbrev pub row_in : List ℕ → List ℕ → ℕ → List ℕ
row_in s w i = row_at s (get_or w (3 * i) 0) (get_or w (3 * i + 1) 0)

abbrev pub depth_in : List ℕ → ℕ → ℕ
depth_in w i = get_or w (3 * i + 2) 0

abbrev pub axiom_fields : List ℕ → ℕ → ℕ
axiom_fields w i = get_or w (axioms_at + 2 * i + 1) 0

abbrev pub axiom_row_in : List ℕ → List ℕ → ℕ → List ℕ
axiom_row_in s w i = row_at s (get_or w (axioms_at + 2 * i) 0) (axiom_fields w i)

-- key mark i: each is a line of two fields
abbrev pub key_in : List ℕ → ℕ → ℕ → ℕ
key_in s marks i = get_or (row_at s (marks + 23 * i) 2) 1 0

abbrev pub concepts_in : List ℕ → List ℕ → ℕ → List Concept
concepts_in s w n = tab (λ i. concept_at (row_in s w i)) n

abbrev pub depths_in : List ℕ → ℕ → List ℕ
depths_in w n = tab (depth_in w) n

abbrev pub axioms_in : List ℕ → List ℕ → ℕ → List Axiom
axioms_in s w n = tab (λ i. axiom_at (axiom_row_in s w i)) n

abbrev pub keys_in : List ℕ → ℕ → ℕ → List ℕ
keys_in s marks n = tab (key_in s marks) n

-- all that is known, by the deck, the table and the state
abbrev pub known_in : List ℕ → List ℕ → State → Known
known_in s t k = known (section_number k.section) (header_in k) (keys_in s k.marks k.keys) (concepts_in s (words t) k.concepts) (depths_in (words t) k.concepts) (axioms_in s (words t) k.axioms)

-- ---- what holds of them
abbrev pub hash_in : List ℕ → List ℕ → ℕ → ℕ
hash_in s w i = hash_of (row_in s w i)

-- each number of a line is one
abbrev pub Numbers : List ℕ → Type 0
Numbers r = Each (λ x. x ≤ most_number) r

-- the records of n concept lines: each lies in the deck, is its concept's row and is at most 64 deep, and the index holds them
pub record ConceptsHeld (s t : List ℕ) (n : ℕ) : Type 0 where
  pub room : table_bytes ≤ length t
  pub few : n ≤ most_concept_lines
  pub lines : (i : ℕ) → i < n → get_or (words t) (3 * i) 0 + 11 * get_or (words t) (3 * i + 1) 0 ≤ length s
  pub rows : (i : ℕ) → i < n → concept_row (concept_at (row_in s (words t) i)) ≡ row_in s (words t) i
  pub numbers : (i : ℕ) → i < n → Numbers (row_in s (words t) i)
  pub depths : (i : ℕ) → i < n → depth_in (words t) i ≤ most_depth
  pub index : Indexed heads_at links_at (hash_in s (words t)) (words t) n

-- the row of an axiom line
pub record AxiomLine (r : List ℕ) : Type 0 where
  pub section : section_of (get_or r 0 0) ≡ 4
  pub fields : fields_ok (get_or r 0 0) (length r) ≡ true
  pub numbers : Numbers r

-- before the line at p: the axiom lines lie in the deck, apart and of their kinds, and the key marks end here, as long as there may
-- be more
pub record Held (s t : List ℕ) (k : State) (p : ℕ) : Type 0 where
  pub small : length s ≤ most_bytes
  pub concepts : ConceptsHeld s t k.concepts
  pub few : k.axioms ≤ most_axioms
  pub lines : (i : ℕ) → i < k.axioms → get_or (words t) (axioms_at + 2 * i) 0 + 11 * axiom_fields (words t) i ≤ length s
  pub rows : (i : ℕ) → i < k.axioms → AxiomLine (axiom_row_in s (words t) i)
  pub used : 11 * sum (axiom_fields (words t)) k.axioms ≤ p
  pub keys : k.marks + 23 * k.keys ≤ length s
  pub last_key : section_number k.section ≤ 2 → k.marks + 23 * k.keys ≡ p
  pub no_key : section_number k.section ≤ 1 → k.keys ≡ 0

-- a concept line of kind j with n fields at p, of the right number
pub record ConceptLine (s : List ℕ) (p n j : ℕ) : Type 0 where
  pub within : p + 11 * n ≤ length s
  pub kind : j ≡ get_or (row_at s p n) 0 0
  pub section : section_of j ≡ 3
  pub fields : fields_ok j n ≡ true

abbrev pub IsConceptLine : Row → ℕ → Type 0
IsConceptLine r j = ConceptLine r.deck.now r.line.begin r.line.fields j

-- a good line of n fields at p, and what it leaves
pub record Entering (s t : List ℕ) (p n : ℕ) (k : State) : Type 0 where
  pub line : p + 11 * n < length s
  pub held : Held s t k p
  pub numbers : Numbers (row_at s p n)
  pub good : verdict (known_in s t k) (get_or (row_at s p n) 0 0) (row_at s p n) ≡ 0

pub record Entered (s t t₁ : List ℕ) (p n : ℕ) (k k₁ : State) : Type 0 where
  pub after : known_in s t₁ k₁ ≡ entered (known_in s t k) (get_or (row_at s p n) 0 0) (row_at s p n)
  pub held : Held s t₁ k₁ (p + 11 * n + 1)

abbrev pub RowEntering : Row → List ℕ → State → Type 0
RowEntering r t k = Entering r.deck.now t r.line.begin r.line.fields k

abbrev pub RowEntered : Row → List ℕ → List ℕ → State → State → Type 0
RowEntered r t t₁ k k₁ = Entered r.deck.now t t₁ r.line.begin r.line.fields k k₁

-- ---- the whole deck
-- a table with an empty index
pub record Fresh (t : List ℕ) : Type 0 where
  pub room : table_bytes ≤ length t
  pub heads : (h : ℕ) → h < 1024 → get_or (words t) (heads_at + h) 0 ≡ 0

abbrev pub told_of : List ℕ → List ℕ → Result State Refused → Told
told_of s t (Ok k) = fine (known_in s t k)
told_of s t (Err r) = refused (refusal_number r.refusal) r.line

-- the records of a deck that was accepted
abbrev pub Kept : List ℕ → List ℕ → Result State Refused → Type 0
Kept s t (Ok k) = Held s t k (length s)
Kept s t (Err r) = Unit {0}
