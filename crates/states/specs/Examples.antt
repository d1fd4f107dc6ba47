-- Both tests on small decks and states, and a state's text, computed.
use Rattle.std.specs.Prelude.{◌≡◌, refl, List, [], ◌∷◌}
use Prim.Native.String.{String}
use Rattle.rules.specs.Ascii.{ascii}
use Rattle.rules.proofs.Cases.{lines_of}
use Rattle.rules.specs.Lister.{decimal_by, fields_text}
use Rattle.states.specs.State.{state}
use Rattle.states.specs.Print.{lines_text, numbered, printed}
use Rattle.states.specs.Tried.{tried}

-- A below some r (B and C): one fresh class, 3
abbrev pub named : List String
named =
    "          0          3          0          1          3" ∷
    "          3          0" ∷
    "          3          1" ∷
    "          3          2" ∷
    "          7          1          2" ∷
    "          9          0          3" ∷
    "         21          0          4" ∷ []

-- the axiom holds; with the name's line as it should be the clauses do
named_right : tried (lines_of named)
    (lines_of
    ("         50          2" ∷
    "         51          0          0" ∷
    "         51          1          1" ∷
    "         51          2          0          1" ∷
    "         51          3          1" ∷
    "         52          0          0          1" ∷ [])) ≡ (0 ∷ [], 0 ∷ [])
unfolding tried
named_right = refl

-- without its line the name is empty: the last clause, A(X) → some r 3 (X), is broken at 0
named_empty : tried (lines_of named)
    (lines_of
    ("         50          2" ∷
    "         51          0          0" ∷
    "         51          1          1" ∷
    "         51          2          0          1" ∷
    "         52          0          0          1" ∷ [])) ≡ (0 ∷ [], 1 ∷ 2 ∷ 0 ∷ [])
unfolding tried
named_empty = refl

-- class 4 is no id of the run: 13 at line 2, for either test
named_beyond : tried (lines_of named)
    (lines_of
    ("         50          2" ∷
    "         51          4          1" ∷ [])) ≡ (2 ∷ 13 ∷ 2 ∷ [], 2 ∷ 13 ∷ 2 ∷ [])
unfolding tried
named_beyond = refl

-- r inverse of s: the pair as r has it, where only s has one; no clause is made of it
inverse_pair : tried
    (lines_of
    ("          0          0          0          2          3" ∷
    "         32          0          2" ∷ []))
    (lines_of
    ("         50          3" ∷
    "         52          1          2          1" ∷ [])) ≡ (1 ∷ 2 ∷ 1 ∷ 2 ∷ [], 0 ∷ [])
unfolding tried
inverse_pair = refl

-- a chain of three shows all four of its elements, the least path that ends outside; it is deferred, so no clause breaks
chain_path : tried
    (lines_of
    ("          0          0          0          2          3" ∷
    "         27          2          0          0          0" ∷ []))
    (lines_of
    ("         50          4" ∷
    "         52          0          0          1          1          2          1          3          2          0          3          3" ∷
    "         52          1          0          0" ∷ [])) ≡ (1 ∷ 2 ∷ 0 ∷ 1 ∷ 3 ∷ 3 ∷ [], 0 ∷ [])
unfolding tried
chain_path = refl

-- an assertion shows nothing; individual 1 has no line in the second state: 13, line 0
abbrev pub asserted : List String
asserted =
    "          0          1          2          0          3" ∷
    "          3          0" ∷
    "         36          0          1" ∷ []

assertion_broken : tried (lines_of asserted)
    (lines_of
    ("         50          1" ∷
    "         53          0          0" ∷
    "         53          1          0" ∷ [])) ≡ (1 ∷ 3 ∷ [], 0 ∷ [])
unfolding tried
assertion_broken = refl

individual_missing : tried (lines_of asserted)
    (lines_of
    ("         50          1" ∷
    "         53          0          0" ∷ [])) ≡ (2 ∷ 13 ∷ 0 ∷ [], 2 ∷ 13 ∷ 0 ∷ [])
unfolding tried
individual_missing = refl

-- five variables: the axiom is tested, its clause is not
five_variables : tried
    (lines_of
    ("          0          1          0          1          2" ∷
    "          3          0" ∷
    "          9          0          0" ∷
    "          9          0          1" ∷
    "          9          0          2" ∷
    "          9          0          3" ∷
    "         21          4          0" ∷ []))
    (lines_of ("         50          1" ∷ [])) ≡ (0 ∷ [], 2 ∷ 14 ∷ 0 ∷ [])
unfolding tried
five_variables = refl

-- an empty state
state_empty : tried (lines_of ("          0          0          0          0          3" ∷ [])) [] ≡ (2 ∷ 13 ∷ 1 ∷ [], 2 ∷ 13 ∷ 1 ∷ [])
unfolding tried
state_empty = refl

-- a state's own text
state_printed : printed (state 2 ((0, 0 ∷ []) ∷ (3, 0 ∷ 1 ∷ []) ∷ (4, []) ∷ []) ((0, 0 ∷ 1 ∷ 1 ∷ 1 ∷ []) ∷ []) (1 ∷ 0 ∷ [])) ≡
    lines_of
    ("         50          2" ∷
    "         51          0          0" ∷
    "         51          3          0          1" ∷
    "         51          4" ∷
    "         52          0          0          1          1          1" ∷
    "         53          0          1" ∷
    "         53          1          0" ∷ [])
unfolding printed lines_text numbered fields_text decimal_by lines_of ascii
state_printed = refl
