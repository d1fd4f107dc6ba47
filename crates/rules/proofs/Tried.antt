-- The statements tried on computed examples: true ones, and one for each proviso and each condition that is false without it; and
-- of option 4 names that settle and names that do not.
use Rattle.std.specs.Prelude.{◌≡◌, refl, Bool, true, false, ◌&&◌, ◌||◌, List, [], ◌∷◌, map, ℕ, zero, suc, ◌-◌, length, eqb}
use Rattle.std.proofs.Math.Option.{Option, none, some}
use Prim.Native.String.{String}
use Rattle.words.specs.Words.{words}
use Rattle.ir.specs.Records.{read_of, class_read, role_read, exists_read, at_most_read, at_least_read, equal_read}
use Rattle.rules.specs.Base.{all}
use Rattle.rules.specs.Concept.{Axiom}
use Rattle.rules.specs.Pool.{Pool}
use Rattle.rules.specs.Normalize.{St}
use Rattle.rules.specs.State.{Limit}
use Rattle.rules.specs.Axioms.{Clausifier}
use Rattle.rules.specs.Deck.{Known, Told, fine, refused, read_deck, axiom_line}
use Rattle.rules.specs.Run.{Outcome, accepted, Run}
use Rattle.rules.specs.Run as Run
use Rattle.rules.specs.Decode.{decode_atoms, decode_clause, decode_from}
use Rattle.rules.specs.Semantics.{Interpretation, elements, same_truth, elements_below, meanings_from, means, chain_related, inserted, vars_of, every_choice, clause_holds}
use Rattle.rules.specs.Statements.{clauses_of, all_hold, satisfies_all, satisfies_some, is_inverse_axiom, is_clausified}
use Rattle.rules.specs.EqualNames.{Call, settle_calls, axioms_calls, calls_of}
use Rattle.rules.proofs.Cases.{lines_of}
use Rattle.rules.specs.Compute.{computed, tables}

-- what the statements speak of, of one deck and one interpretation
pub data Tried : Type 0 where
  -- all axioms satisfied; every clause left in the tables holds; axioms 32 satisfied; axioms 21 to 31 satisfied
  tried : (all clauses inverse clausified : Bool) → Tried
  untried : Tried

abbrev pub tried_run : Interpretation → Run.Lengths → Known → Outcome → Tried
tried_run I t d (accepted a) = tried (satisfies_all d I) (all_hold I (clauses_of t a)) (satisfies_some is_inverse_axiom d I) (satisfies_some is_clausified d I)
tried_run I t d (Run.refused k line) = untried

abbrev pub tried_deck : Interpretation → Run.Lengths → List ℕ → Told → Tried
tried_deck I t deck (fine d) = tried_run I t d (Run deck t)
tried_deck I t deck (refused k line) = untried

unfoldable pub try : Interpretation → List String → Tried
unfolding computed words read_of class_read role_read exists_read at_most_read at_least_read equal_read decode_atoms decode_clause decode_from elements_below meanings_from means chain_related inserted vars_of every_choice clause_holds lines_of
try I deck = tried_deck I (tables 16 32 4) (lines_of deck) (read_deck (lines_of deck))

-- sets and pairs by listing
abbrev pub is_one : List ℕ → ℕ → Bool
is_one [] x = false
is_one (y ∷ l) x = eqb x y || is_one l x

abbrev pub is_pair : List (ℕ × ℕ) → ℕ → ℕ → Bool
is_pair [] x y = false
is_pair (p ∷ l) x y = (eqb x p.0 && eqb y p.1) || is_pair l x y

abbrev pub set_of : List (List ℕ) → ℕ → ℕ → Bool
set_of [] c x = false
set_of (l ∷ ls) zero x = is_one l x
set_of (l ∷ ls) (suc c) x = set_of ls c x

abbrev pub pairs_of : List (List (ℕ × ℕ)) → ℕ → ℕ → ℕ → Bool
pairs_of [] r x y = false
pairs_of (l ∷ ls) zero x y = is_pair l x y
pairs_of (l ∷ ls) (suc r) x y = pairs_of ls r x y

-- size, the classes' sets by id, the roles' pairs by id; individual i is element i
abbrev pub interpretation : ℕ → List (List ℕ) → List (List (ℕ × ℕ)) → Interpretation
interpretation n cs rs = record { size = n; class = set_of cs; role = pairs_of rs; individual = λ i. i }

-- ---- true ones: a model and no model, and clauses that hold and do not
-- Some r A ⊑ B; classes A, B; role r
abbrev pub some_under : List String
some_under =
    "          0          2          0          1          3" ∷
    "          3          0" ∷
    "          3          1" ∷
    "          9          0          0" ∷
    "         21          2          1" ∷ []

model : try (interpretation 2 ((1 ∷ []) ∷ (0 ∷ []) ∷ []) (((0, 1) ∷ []) ∷ [])) some_under ≡ tried true true true true
unfolding try
model = refl

no_model : try (interpretation 2 ((1 ∷ []) ∷ [] ∷ []) (((0, 1) ∷ []) ∷ [])) some_under ≡ tried false false true false
unfolding try
no_model = refl

-- A ⊑ Some r (B and C): with the name's set (class 3) as it should be, and too large
abbrev pub some_of_both : List String
some_of_both =
    "          0          3          0          1          3" ∷
    "          3          0" ∷
    "          3          1" ∷
    "          3          2" ∷
    "          7          1          2" ∷
    "          9          0          3" ∷
    "         21          0          4" ∷ []

named : try (interpretation 2 ((0 ∷ []) ∷ (1 ∷ []) ∷ (0 ∷ 1 ∷ []) ∷ (1 ∷ []) ∷ []) (((0, 1) ∷ []) ∷ [])) some_of_both ≡ tried true true true true
unfolding try
named = refl

misnamed : try (interpretation 2 ((0 ∷ []) ∷ (1 ∷ []) ∷ (0 ∷ 1 ∷ []) ∷ (0 ∷ 1 ∷ []) ∷ []) (((0, 1) ∷ []) ∷ [])) some_of_both ≡ tried true false true true
unfolding try
misnamed = refl

-- ---- each proviso of the second half is needed: every clause and axiom 32 hold, and a clausified axiom is not satisfied
-- a deferral: the chain r r r ⊑ s
deferral_needed : try (interpretation 4 [] (((0, 1) ∷ (1, 2) ∷ (2, 3) ∷ []) ∷ [] ∷ []))
    ("          0          0          0          2          3" ∷
    "         27          2          0          0          0" ∷ []) ≡ tried false true true false
unfolding try
deferral_needed = refl

-- a data key: A ⊑ Max 0 r B, with B marked
key_needed : try (interpretation 2 ((0 ∷ []) ∷ (1 ∷ []) ∷ []) (((0, 1) ∷ []) ∷ []))
    ("          0          2          0          1          3" ∷
    "         14          1" ∷
    "          3          0" ∷
    "          3          1" ∷
    "         12          0          0          1" ∷
    "         21          0          2" ∷ []) ≡ tried false true true false
unfolding try
key_needed = refl

-- an at-most atom over a fresh class: A ⊑ Max 0 r (B and C), the name's set empty
at_most_needed : try (interpretation 2 ((0 ∷ []) ∷ (1 ∷ []) ∷ (1 ∷ []) ∷ [] ∷ []) (((0, 1) ∷ []) ∷ []))
    ("          0          3          0          1          3" ∷
    "          3          0" ∷
    "          3          1" ∷
    "          3          2" ∷
    "          7          1          2" ∷
    "         12          0          0          3" ∷
    "         21          0          4" ∷ []) ≡ tried false true true false
unfolding try
at_most_needed = refl

-- with option 4 the same world breaks a clause, whatever the other options: B and C → the name
abbrev pub settled_limit : String → List String
settled_limit header =
    header ∷
    "          3          0" ∷
    "          3          1" ∷
    "          3          2" ∷
    "          7          1          2" ∷
    "         12          0          0          3" ∷
    "         21          0          4" ∷ []

abbrev options_four : List (List String)
options_four =
    settled_limit "          0          3          0          1          4" ∷
    settled_limit "          0          3          0          1          5" ∷
    settled_limit "          0          3          0          1          6" ∷
    settled_limit "          0          3          0          1          7" ∷ []

at_most_not_needed : map (try (interpretation 2 ((0 ∷ []) ∷ (1 ∷ []) ∷ (1 ∷ []) ∷ [] ∷ []) (((0, 1) ∷ []) ∷ []))) options_four
    ≡ tried false false true false ∷ tried false false true false ∷ tried false false true false ∷ tried false false true false ∷ []
unfolding try
at_most_not_needed = refl

-- and where every clause holds, the axiom does: no r pair, and the name's set is B and C
at_most_named : map (try (interpretation 2 ((0 ∷ []) ∷ (1 ∷ []) ∷ (1 ∷ []) ∷ (1 ∷ []) ∷ []) ([] ∷ []))) options_four
    ≡ tried true true true true ∷ tried true true true true ∷ tried true true true true ∷ tried true true true true ∷ []
unfolding try
at_most_named = refl

-- ---- option 8: r0 and r1 are inverse, and then r2 and r0, so that r1 is r2
abbrev pub some_followed : String → List String
some_followed header =
    header ∷
    "          3          0" ∷
    "          3          1" ∷
    "          9          2          1" ∷
    "         32          0          2" ∷
    "         32          4          0" ∷
    "         21          0          2" ∷ []

abbrev options_eight : List (List String)
options_eight =
    some_followed "          0          2          0          3          3" ∷
    some_followed "          0          2          0          3         11" ∷ []

followed_model : map (try (interpretation 2 ((0 ∷ []) ∷ (1 ∷ []) ∷ []) (((1, 0) ∷ []) ∷ ((0, 1) ∷ []) ∷ ((0, 1) ∷ []) ∷ []))) options_eight
    ≡ tried true true true true ∷ tried true true true true ∷ []
unfolding try
followed_model = refl

followed_no_model : map (try (interpretation 2 ((0 ∷ []) ∷ [] ∷ []) (((1, 0) ∷ []) ∷ ((0, 1) ∷ []) ∷ ((0, 1) ∷ []) ∷ []))) options_eight
    ≡ tried false false true false ∷ tried false false true false ∷ []
unfolding try
followed_no_model = refl

-- kind 32 alone does not make the two alike: r1 is declared reflexive, some r2 A ⊑ B, and no element is related to any
abbrev pub reflexive_followed : String → List String
reflexive_followed header =
    header ∷
    "          3          0" ∷
    "          3          1" ∷
    "          9          4          0" ∷
    "         32          0          2" ∷
    "         32          4          0" ∷
    "         35          2" ∷
    "         21          2          1" ∷ []

reflexive_needed : map (try (interpretation 1 ((0 ∷ []) ∷ [] ∷ []) [])) (reflexive_followed "          0          2          0          3          3" ∷ reflexive_followed "          0          2          0          3         11" ∷ [])
    ≡ tried false true true true ∷ tried false false true true ∷ []
unfolding try
reflexive_needed = refl

-- the inverse-role axioms: r inverse of s, A ⊑ Some s B, with no s pair where r has one
inverse_needed : try (interpretation 2 ((0 ∷ []) ∷ (1 ∷ []) ∷ []) (((1, 0) ∷ []) ∷ [] ∷ []))
    ("          0          2          0          2          3" ∷
    "          3          0" ∷
    "          3          1" ∷
    "          9          2          1" ∷
    "         32          0          2" ∷
    "         21          0          2" ∷ []) ≡ tried false true false false
unfolding try
inverse_needed = refl

-- an individual's class with another member: B ⊑ {i}, with an element of B that is not i in the individual's class (class 1)
alone_needed : try (interpretation 2 ((1 ∷ []) ∷ (0 ∷ 1 ∷ []) ∷ []) [])
    ("          0          1          1          0          3" ∷
    "          3          0" ∷
    "          4          0" ∷
    "         21          0          1" ∷ []) ≡ tried false true true false
unfolding try
alone_needed = refl

-- an element: Top ⊑ Bot is satisfied where there is none, and its clause, which has no variable, does not hold
element_needed : try (interpretation 0 [] [])
    ("          0          0          0          0          3" ∷
    "          1" ∷
    "          2" ∷
    "         21          0          1" ∷ []) ≡ tried true false true true
unfolding try
element_needed = refl

-- ---- option 4: a name is its filler only where it settles
-- a limit whose turn came: its name; how many deferrals the inclusion of its filler in it made; and whether the name is the filler
pub record TriedName : Type 0 where
  pub name : ℕ
  pub deferred : ℕ
  pub is_filler : Bool

pub data TriedNames : Type 0 where
  -- every clause left in the tables holds; and the limits, in order
  names : (clauses : Bool) → List TriedName → TriedNames
  unnamed : TriedNames

abbrev pub name_of_call : Interpretation → Pool → Call → Option Limit → List TriedName → List TriedName
name_of_call I p c none rest = rest
name_of_call I p c (some w) rest = record {
  name = w.name;
  deferred = length c.after.out.deferrals - length c.before.out.deferrals;
  is_filler = all (λ x. same_truth (I.class w.name x) (means I p w.filler x)) (elements I);
} ∷ rest

unfoldable pub names_of_calls : Interpretation → Pool → List Call → List TriedName
names_of_calls I p [] = []
names_of_calls I p (c ∷ l) = name_of_call I p c c.of (names_of_calls I p l)

abbrev pub tried_clausified : Interpretation → Bool → List Call → Run.Lined Clausifier (Unit {0}) → TriedNames
tried_clausified I clauses calls (Run.done _ z) = names clauses (names_of_calls I z.pool calls)
tried_clausified I clauses calls (Run.stopped k line) = unnamed

abbrev pub tried_normal : Interpretation → Run.Lengths → Known → Bool → Run.Lined St (List Axiom) → TriedNames
tried_normal I t d clauses (Run.done axioms s) = tried_clausified I clauses (calls_of t d axioms s) (Run.clausify_axioms (Run.env_of d (Run.rooms_of t) axioms) (axiom_line d 0) axioms (Run.start d s))
tried_normal I t d clauses (Run.stopped k line) = unnamed

abbrev pub names_of_run : Interpretation → Run.Lengths → Known → Outcome → TriedNames
names_of_run I t d (accepted a) = tried_normal I t d (all_hold I (clauses_of t a)) (Run.nnf_axioms (axiom_line d 0) d.axioms (record { pool = d.concepts; visits = 0; limit = Run.visit_limit }))
names_of_run I t d (Run.refused k line) = unnamed

abbrev pub names_of_deck : Interpretation → Run.Lengths → List ℕ → Told → TriedNames
names_of_deck I t deck (fine d) = names_of_run I t d (Run deck t)
names_of_deck I t deck (refused k line) = unnamed

unfoldable pub try_names : Interpretation → List String → TriedNames
unfolding try settle_calls axioms_calls names_of_calls
try_names I deck = names_of_deck I (tables 16 64 4) (lines_of deck) (read_deck (lines_of deck))

abbrev settled : ℕ → TriedName
settled n = record { name = n; deferred = 0; is_filler = true }

-- A ⊑ Max 0 r (B and C): the name is the filler wherever the clauses hold
name_settles : try_names (interpretation 2 ((0 ∷ []) ∷ (1 ∷ []) ∷ (1 ∷ []) ∷ (1 ∷ []) ∷ []) ([] ∷ [])) (settled_limit "          0          3          0          1          7") ≡ names true (settled 3 ∷ [])
unfolding try_names
name_settles = refl

-- A limit queued in it is deferred: A ⊑ Max 0 s F, where F is Max 1 r G, and G an Or of nine classes and an Or of nine others. G is
-- not put below its name (class 20), for its 81 alternatives, so the name of F (class 19) holds 0, which has two r successors in
-- G; yet F below its name deferred nothing.
nested_not_settled : try_names (interpretation 3
    ([] ∷ (1 ∷ 2 ∷ []) ∷ [] ∷ [] ∷ [] ∷ [] ∷ [] ∷ [] ∷ [] ∷ [] ∷ (1 ∷ 2 ∷ []) ∷ [] ∷ [] ∷ [] ∷ [] ∷ [] ∷ [] ∷ [] ∷ [] ∷ (0 ∷ 1 ∷ 2 ∷ []) ∷ [] ∷ (1 ∷ 2 ∷ []) ∷ [])
    ([] ∷ ((0, 1) ∷ (0, 2) ∷ []) ∷ []))
    ("          0         19          0          2          7" ∷
    "          3          0" ∷
    "          3          1" ∷
    "          3          2" ∷
    "          3          3" ∷
    "          3          4" ∷
    "          3          5" ∷
    "          3          6" ∷
    "          3          7" ∷
    "          3          8" ∷
    "          3          9" ∷
    "          3         10" ∷
    "          3         11" ∷
    "          3         12" ∷
    "          3         13" ∷
    "          3         14" ∷
    "          3         15" ∷
    "          3         16" ∷
    "          3         17" ∷
    "          3         18" ∷
    "          8          1          2          3          4          5          6          7          8          9" ∷
    "          8         10         11         12         13         14         15         16         17         18" ∷
    "          7         19         20" ∷
    "         12          1          2         21" ∷
    "         12          0          0         22" ∷
    "         21          0         23" ∷ [])
    ≡ names true (record { name = 19; deferred = 0; is_filler = false } ∷ record { name = 20; deferred = 1; is_filler = false } ∷ [])
unfolding try_names
nested_not_settled = refl

-- A count over a data key is dropped: A ⊑ Max 0 s F, where F is Max 1 r K, and K marked. No clause speaks of F, nothing is
-- deferred, and the name of F (class 2) holds 0, which has two r successors in K.
key_not_settled : try_names (interpretation 3 ([] ∷ (1 ∷ 2 ∷ []) ∷ (0 ∷ 1 ∷ 2 ∷ []) ∷ [] ∷ []) ([] ∷ ((0, 1) ∷ (0, 2) ∷ []) ∷ []))
    ("          0          2          0          2          7" ∷
    "         14          1" ∷
    "          3          0" ∷
    "          3          1" ∷
    "         12          1          2          1" ∷
    "         12          0          0          2" ∷
    "         21          0          3" ∷ [])
    ≡ names true (record { name = 2; deferred = 0; is_filler = false } ∷ [])
unfolding try_names
key_not_settled = refl
