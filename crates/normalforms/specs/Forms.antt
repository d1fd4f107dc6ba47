-- The text that the program prints for a deck, from the rules.
use Rattle.std.specs.Prelude.{List, [], ◌∷◌, ◌++◌, map, ℕ, length}
use Rattle.ir.specs.Pick.{pick}
use Rattle.ir.specs.Roles.{role_code}
use Rattle.rules.specs.Concept.{Concept, Axiom}
use Rattle.rules.specs.Concept.{SubClassOf, EquivalentClasses, DisjointClasses, DisjointUnion, ObjectPropertyDomain, ObjectPropertyRange, SubChain, TransitiveRole, IrreflexiveRole, AsymmetricRole, DisjointObjectProperties, InverseObjectProperties, SubObjectPropertyOf, EquivalentObjectProperties, ReflexiveRole, ClassAssertion}
use Rattle.rules.specs.Pool.{Pool, members}
use Rattle.rules.specs.Deck.{Told, fine, refused, axiom_line, parts_of}
use Rattle.rules.specs.Normalize.{St}
use Rattle.rules.specs.Run.{Lined, done, stopped, nnf_axioms}
use Rattle.rules.specs.Lister.{fields_text}
use Rattle.pool.specs.declared.record.Record.{Record}
use Rattle.pool.specs.Layout.{is_list, plain}

-- a concept's line, of its record
abbrev pub record_line : Record → List ℕ → List ℕ
record_line x l = pick (is_list x.kind) (x.kind ∷ l) (x.kind ∷ x.role ∷ x.number ∷ x.child ∷ [])

abbrev pub concept_line : Concept → List ℕ
concept_line e = record_line (plain e) (parts_of e)

-- an axiom's line, as a deck has it
abbrev pub axiom_line_of : Axiom → List ℕ
axiom_line_of (SubClassOf c d) = 21 ∷ c ∷ d ∷ []
axiom_line_of (EquivalentClasses l) = 22 ∷ l
axiom_line_of (DisjointClasses l) = 23 ∷ l
axiom_line_of (DisjointUnion a l) = 24 ∷ a ∷ l
axiom_line_of (ObjectPropertyDomain r c) = 25 ∷ role_code r ∷ c ∷ []
axiom_line_of (ObjectPropertyRange r c) = 26 ∷ role_code r ∷ c ∷ []
axiom_line_of (SubChain r l) = 27 ∷ role_code r ∷ map role_code l
axiom_line_of (TransitiveRole r) = 28 ∷ role_code r ∷ []
axiom_line_of (IrreflexiveRole r) = 29 ∷ role_code r ∷ []
axiom_line_of (AsymmetricRole r) = 30 ∷ role_code r ∷ []
axiom_line_of (DisjointObjectProperties l) = 31 ∷ map role_code l
axiom_line_of (InverseObjectProperties r s) = 32 ∷ role_code r ∷ role_code s ∷ []
axiom_line_of (SubObjectPropertyOf r s) = 33 ∷ role_code r ∷ role_code s ∷ []
axiom_line_of (EquivalentObjectProperties l) = 34 ∷ map role_code l
axiom_line_of (ReflexiveRole r) = 35 ∷ role_code r ∷ []
axiom_line_of (ClassAssertion c i) = 36 ∷ c ∷ i ∷ []

unfoldable pub concepts_text : Pool → List ℕ
concepts_text [] = []
concepts_text (e ∷ p) = fields_text (concept_line e) ++ concepts_text p

unfoldable pub axioms_text : List Axiom → List ℕ
axioms_text [] = []
axioms_text (a ∷ l) = fields_text (axiom_line_of a) ++ axioms_text l

-- visits, concepts and list members
abbrev pub sums_line : Pool → ℕ → List ℕ
sums_line p visits = 44 ∷ visits ∷ length p ∷ members p ∷ []

abbrev pub normal_text : List Axiom → Pool → ℕ → List ℕ
normal_text l p visits = concepts_text p ++ (axioms_text l ++ fields_text (sums_line p visits))

abbrev pub refusal_text : ℕ → ℕ → List ℕ
refusal_text e line = fields_text (49 ∷ e ∷ line ∷ [])

abbrev pub lined_text : Lined St (List Axiom) → List ℕ
lined_text (done l s) = normal_text l s.pool s.visits
lined_text (stopped e line) = refusal_text e line

abbrev pub most_visits : ℕ
most_visits = 1000000

-- of what was read
abbrev pub forms_text : Told → List ℕ
forms_text (fine d) = lined_text (nnf_axioms (axiom_line d 0) d.axioms (record { pool = d.concepts; visits = 0; limit = most_visits }))
forms_text (refused e line) = refusal_text e line

-- the bytes of the longest text: 45 for each concept, 11 for each list member, as many for each number of an axiom, a line feed for
-- each axiom, and the last line
abbrev pub most_text : ℕ
most_text = 341037
