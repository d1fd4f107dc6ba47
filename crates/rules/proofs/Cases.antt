-- Three tables over the definitions, each checked by one computation: document 01's [P] cases with its worked listing, and cases of
-- option 4, their outcomes written out by hand; and the decided decks with the Rust's answers.
use Rattle.std.specs.Prelude.{◌≡◌, refl, List, [], ◌∷◌, ◌++◌, map, ℕ}
use Prim.Native.String.{String}
use Rattle.ir.specs.Deferrals.{deferral_kind}
use Rattle.ir.specs.declared.role.Role.TheVariants.{Named, Inverse}
use Rattle.ir.specs.declared.atom.Atom.TheVariants.{Class, Exists, AtMost, AtLeast, Role as RoleAtom}
use Rattle.std.specs.Prelude.{Some}
use Rattle.rules.specs.Ascii.{ascii}
use Rattle.rules.specs.State.{Clause, clause, Deferred}
use Rattle.rules.specs.Run.{Outcome, accepted, refused, Run, run_with, ten_numbers}
use Rattle.rules.specs.Lister.{lister_lengths, outcome_text}
use Rattle.rules.specs.Compute.{computed, tables}
use Rattle.rules.specs.Decided.{Decided, decided}

-- a deck's bytes, or a listing's: each line and its line feed
unfoldable pub lines_of : List String → List ℕ
lines_of [] = []
lines_of (l ∷ ls) = ascii l ++ (10 ∷ lines_of ls)

abbrev pub pair_of : Deferred → ℕ × ℕ
pair_of d = (d.line, deferral_kind d.kind)

-- ---- document 01's [P] cases
-- clauses, deferrals (line, kind), and the ten numbers of line 43; or a refusal
pub data Answer : Type 0 where
  clauses : List Clause → List (ℕ × ℕ) → List ℕ → Answer
  refusal : ℕ → ℕ → Answer

abbrev pub answer_of : Outcome → Answer
answer_of (accepted a) = clauses a.clauses (map pair_of a.deferrals) (ten_numbers a)
answer_of (refused k line) = refusal k line

pub record Case : Type 0 where
  pub deck : List String
  pub answer : Answer

-- A, B, C are classes 0, 1, 2; r and s are roles 0 and 1; X is variable 0; the first fresh id follows the classes
abbrev pub cases : List Case
cases =
    -- no axiom: all counts 0
    record {
      deck = "          0          3          0          1          3" ∷ [];
      answer = clauses [] [] (0 ∷ 0 ∷ 0 ∷ 0 ∷ 0 ∷ 0 ∷ 0 ∷ 0 ∷ 0 ∷ 0 ∷ []);
    } ∷
    -- Some r A ⊑ B: r(X,1) A(1) → B(X)
    record {
      deck =
          "          0          3          0          1          3" ∷
          "          3          0" ∷
          "          3          1" ∷
          "          9          0          0" ∷
          "         21          2          1" ∷ [];
      answer = clauses (clause (RoleAtom (Named 0) 0 1 ∷ Class 0 1 ∷ []) (Class 1 0 ∷ []) ∷ []) [] (1 ∷ 1 ∷ 0 ∷ 0 ∷ 0 ∷ 0 ∷ 0 ∷ 0 ∷ 0 ∷ 6 ∷ []);
    } ∷
    -- A ⊑ All r B: A(X) r(X,1) → B(1)
    record {
      deck =
          "          0          3          0          1          3" ∷
          "          3          0" ∷
          "          3          1" ∷
          "         10          0          1" ∷
          "         21          0          2" ∷ [];
      answer = clauses (clause (Class 0 0 ∷ RoleAtom (Named 0) 0 1 ∷ []) (Class 1 1 ∷ []) ∷ []) [] (1 ∷ 1 ∷ 0 ∷ 0 ∷ 0 ∷ 0 ∷ 0 ∷ 0 ∷ 0 ∷ 6 ∷ []);
    } ∷
    -- A ⊑ Not A: A(X) A(X) → nothing
    record {
      deck =
          "          0          3          0          1          3" ∷
          "          3          0" ∷
          "          6          0" ∷
          "         21          0          1" ∷ [];
      answer = clauses (clause (Class 0 0 ∷ Class 0 0 ∷ []) [] ∷ []) [] (1 ∷ 1 ∷ 0 ∷ 1 ∷ 0 ∷ 0 ∷ 0 ∷ 0 ∷ 0 ∷ 5 ∷ []);
    } ∷
    -- Top ⊑ A: empty body
    record {
      deck =
          "          0          3          0          1          3" ∷
          "          1" ∷
          "          3          0" ∷
          "         21          0          1" ∷ [];
      answer = clauses (clause [] (Class 0 0 ∷ []) ∷ []) [] (1 ∷ 1 ∷ 0 ∷ 0 ∷ 0 ∷ 0 ∷ 0 ∷ 0 ∷ 0 ∷ 4 ∷ []);
    } ∷
    -- A is the disjoint union of no members: A(X) → nothing
    record {
      deck =
          "          0          3          0          1          3" ∷
          "         24          0" ∷ [];
      answer = clauses (clause (Class 0 0 ∷ []) [] ∷ []) [] (1 ∷ 1 ∷ 0 ∷ 1 ∷ 0 ∷ 0 ∷ 0 ∷ 0 ∷ 0 ∷ 0 ∷ []);
    } ∷
    -- chain of 3: one deferral
    record {
      deck =
          "          0          3          0          1          3" ∷
          "         27          0          0          0          0" ∷ [];
      answer = clauses [] ((2, 4) ∷ []) (0 ∷ 0 ∷ 0 ∷ 0 ∷ 0 ∷ 1 ∷ 0 ∷ 0 ∷ 0 ∷ 0 ∷ []);
    } ∷
    -- reflexive r, Some r A ⊑ B: also A(X) → B(X)
    record {
      deck =
          "          0          3          0          1          3" ∷
          "          3          0" ∷
          "          3          1" ∷
          "          9          0          0" ∷
          "         35          0" ∷
          "         21          2          1" ∷ [];
      answer = clauses (clause (RoleAtom (Named 0) 0 1 ∷ Class 0 1 ∷ []) (Class 1 0 ∷ []) ∷ clause (Class 0 0 ∷ []) (Class 1 0 ∷ []) ∷ []) [] (2 ∷ 2 ∷ 0 ∷ 0 ∷ 0 ∷ 0 ∷ 0 ∷ 0 ∷ 0 ∷ 6 ∷ []);
    } ∷
    -- reflexive r, A ⊑ Max 2 r B: also A(X) r(X,1) → r(X,X)
    record {
      deck =
          "          0          3          0          1          3" ∷
          "          3          0" ∷
          "          3          1" ∷
          "         12          2          0          1" ∷
          "         35          0" ∷
          "         21          0          2" ∷ [];
      answer = clauses (clause (Class 0 0 ∷ []) (AtMost (Named 0) (Some 1) 2 0 ∷ []) ∷ clause (Class 0 0 ∷ RoleAtom (Named 0) 0 1 ∷ []) (RoleAtom (Named 0) 0 0 ∷ []) ∷ []) [] (2 ∷ 2 ∷ 0 ∷ 0 ∷ 0 ∷ 0 ∷ 0 ∷ 0 ∷ 0 ∷ 6 ∷ []);
    } ∷
    -- A ⊑ Max 2 r (B and C): q → B, q → C, A → AtMost(r,q,2)
    record {
      deck =
          "          0          3          0          1          3" ∷
          "          3          0" ∷
          "          3          1" ∷
          "          3          2" ∷
          "          7          1          2" ∷
          "         12          2          0          3" ∷
          "         21          0          4" ∷ [];
      answer = clauses (clause (Class 3 0 ∷ []) (Class 1 0 ∷ []) ∷ clause (Class 3 0 ∷ []) (Class 2 0 ∷ []) ∷ clause (Class 0 0 ∷ []) (AtMost (Named 0) (Some 3) 2 0 ∷ []) ∷ []) [] (3 ∷ 3 ∷ 0 ∷ 0 ∷ 0 ∷ 0 ∷ 0 ∷ 0 ∷ 1 ∷ 11 ∷ []);
    } ∷
    -- r inverse of s, A ⊑ Some s B: Exists over inverse r
    record {
      deck =
          "          0          3          0          2          3" ∷
          "          3          0" ∷
          "          3          1" ∷
          "          9          2          1" ∷
          "         32          0          2" ∷
          "         21          0          2" ∷ [];
      answer = clauses (clause (Class 0 0 ∷ []) (Exists (Inverse 0) 1 0 ∷ []) ∷ []) [] (1 ∷ 1 ∷ 0 ∷ 0 ∷ 1 ∷ 0 ∷ 0 ∷ 0 ∷ 0 ∷ 6 ∷ []);
    } ∷
    -- the map is one step deep: r0 inverse of r1, then r2 inverse of r0; A ⊑ Some r1 B and A ⊑ Some r0 B
    record {
      deck =
          "          0          3          0          3          3" ∷
          "          3          0" ∷
          "          3          1" ∷
          "          9          2          1" ∷
          "          9          0          1" ∷
          "         32          0          2" ∷
          "         32          4          0" ∷
          "         21          0          2" ∷
          "         21          0          3" ∷ [];
      answer = clauses (clause (Class 0 0 ∷ []) (Exists (Inverse 0) 1 0 ∷ []) ∷ clause (Class 0 0 ∷ []) (Exists (Inverse 2) 1 0 ∷ []) ∷ []) [] (2 ∷ 2 ∷ 0 ∷ 0 ∷ 2 ∷ 0 ∷ 0 ∷ 0 ∷ 0 ∷ 12 ∷ []);
    } ∷
    []

pub cases_hold : map (λ c. answer_of (Run (lines_of c.deck) lister_lengths)) cases ≡ map (λ c. c.answer) cases
unfolding computed lines_of
cases_hold = refl

-- ---- option 4: A, B, C, r, s and X as above
abbrev pub limit_cases : List Case
limit_cases =
    -- A ⊑ Max 2 r (B and C): then B and C → q
    record {
      deck =
          "          0          3          0          1          7" ∷
          "          3          0" ∷
          "          3          1" ∷
          "          3          2" ∷
          "          7          1          2" ∷
          "         12          2          0          3" ∷
          "         21          0          4" ∷ [];
      answer = clauses (clause (Class 3 0 ∷ []) (Class 1 0 ∷ []) ∷ clause (Class 3 0 ∷ []) (Class 2 0 ∷ []) ∷ clause (Class 0 0 ∷ []) (AtMost (Named 0) (Some 3) 2 0 ∷ []) ∷ clause (Class 1 0 ∷ Class 2 0 ∷ []) (Class 3 0 ∷ []) ∷ []) [] (4 ∷ 4 ∷ 0 ∷ 0 ∷ 0 ∷ 0 ∷ 0 ∷ 0 ∷ 1 ∷ 15 ∷ []);
    } ∷
    -- A ⊑ Max 1 r (B and C) and Max 2 r (B or C): the first limit is settled first
    record {
      deck =
          "          0          3          0          1          7" ∷
          "          3          0" ∷
          "          3          1" ∷
          "          3          2" ∷
          "          7          1          2" ∷
          "          8          1          2" ∷
          "         12          1          0          3" ∷
          "         12          2          0          4" ∷
          "          7          5          6" ∷
          "         21          0          7" ∷ [];
      answer = clauses (clause (Class 3 0 ∷ []) (Class 1 0 ∷ []) ∷ clause (Class 3 0 ∷ []) (Class 2 0 ∷ []) ∷ clause (Class 0 0 ∷ []) (AtMost (Named 0) (Some 3) 1 0 ∷ []) ∷ clause (Class 4 0 ∷ []) (Class 1 0 ∷ Class 2 0 ∷ []) ∷ clause (Class 0 0 ∷ []) (AtMost (Named 0) (Some 4) 2 0 ∷ []) ∷ clause (Class 1 0 ∷ Class 2 0 ∷ []) (Class 3 0 ∷ []) ∷ clause (Class 1 0 ∷ []) (Class 4 0 ∷ []) ∷ clause (Class 2 0 ∷ []) (Class 4 0 ∷ []) ∷ []) [] (8 ∷ 7 ∷ 1 ∷ 0 ∷ 0 ∷ 0 ∷ 0 ∷ 0 ∷ 2 ∷ 31 ∷ []);
    } ∷
    -- A ⊑ Max 1 r (Max 0 s (B and C)): the outer filler first; the filler of the at-least atom that it gives does not wait
    record {
      deck =
          "          0          3          0          2          7" ∷
          "          3          0" ∷
          "          3          1" ∷
          "          3          2" ∷
          "          7          1          2" ∷
          "         12          0          2          3" ∷
          "         12          1          0          4" ∷
          "         21          0          5" ∷ [];
      answer = clauses (clause (Class 4 0 ∷ []) (Class 1 0 ∷ []) ∷ clause (Class 4 0 ∷ []) (Class 2 0 ∷ []) ∷ clause (Class 3 0 ∷ []) (AtMost (Named 1) (Some 4) 0 0 ∷ []) ∷ clause (Class 0 0 ∷ []) (AtMost (Named 0) (Some 3) 1 0 ∷ []) ∷ clause (Class 5 0 ∷ []) (Class 1 0 ∷ []) ∷ clause (Class 5 0 ∷ []) (Class 2 0 ∷ []) ∷ clause [] (Class 3 0 ∷ AtLeast (Named 1) (Some 5) 1 0 ∷ []) ∷ clause (Class 1 0 ∷ Class 2 0 ∷ []) (Class 4 0 ∷ []) ∷ []) [] (8 ∷ 7 ∷ 1 ∷ 0 ∷ 0 ∷ 0 ∷ 0 ∷ 0 ∷ 3 ∷ 31 ∷ []);
    } ∷
    -- A is Max 1 r (B and C): after both inclusions
    record {
      deck =
          "          0          3          0          1          7" ∷
          "          3          0" ∷
          "          3          1" ∷
          "          3          2" ∷
          "          7          1          2" ∷
          "         12          1          0          3" ∷
          "         22          0          4" ∷ [];
      answer = clauses (clause (Class 3 0 ∷ []) (Class 1 0 ∷ []) ∷ clause (Class 3 0 ∷ []) (Class 2 0 ∷ []) ∷ clause (Class 0 0 ∷ []) (AtMost (Named 0) (Some 3) 1 0 ∷ []) ∷ clause (Class 4 0 ∷ []) (Class 1 0 ∷ []) ∷ clause (Class 4 0 ∷ []) (Class 2 0 ∷ []) ∷ clause [] (Class 0 0 ∷ AtLeast (Named 0) (Some 4) 2 0 ∷ []) ∷ clause (Class 1 0 ∷ Class 2 0 ∷ []) (Class 3 0 ∷ []) ∷ []) [] (7 ∷ 6 ∷ 1 ∷ 0 ∷ 0 ∷ 0 ∷ 0 ∷ 0 ∷ 2 ∷ 28 ∷ []);
    } ∷
    -- A ⊑ Min 2 r (B and C): no limit
    record {
      deck =
          "          0          3          0          1          4" ∷
          "          3          0" ∷
          "          3          1" ∷
          "          3          2" ∷
          "          7          1          2" ∷
          "         11          2          0          3" ∷
          "         21          0          4" ∷ [];
      answer = clauses (clause (Class 3 0 ∷ []) (Class 1 0 ∷ []) ∷ clause (Class 3 0 ∷ []) (Class 2 0 ∷ []) ∷ clause (Class 0 0 ∷ []) (AtLeast (Named 0) (Some 3) 2 0 ∷ []) ∷ []) [] (3 ∷ 3 ∷ 0 ∷ 0 ∷ 0 ∷ 0 ∷ 0 ∷ 0 ∷ 1 ∷ 11 ∷ []);
    } ∷
    -- A ⊑ Max 2 r B: no name
    record {
      deck =
          "          0          3          0          1          4" ∷
          "          3          0" ∷
          "          3          1" ∷
          "         12          2          0          1" ∷
          "         21          0          2" ∷ [];
      answer = clauses (clause (Class 0 0 ∷ []) (AtMost (Named 0) (Some 1) 2 0 ∷ []) ∷ []) [] (1 ∷ 1 ∷ 0 ∷ 0 ∷ 0 ∷ 0 ∷ 0 ∷ 0 ∷ 0 ∷ 6 ∷ []);
    } ∷
    []

pub limit_cases_hold : map (λ c. answer_of (Run (lines_of c.deck) lister_lengths)) limit_cases ≡ map (λ c. c.answer) limit_cases
unfolding computed lines_of
limit_cases_hold = refl

-- ---- the decided decks, and document 01's worked listing before them
abbrev pub worked : Decided
worked = record {
  deck =
      "          0          3          0          1          3" ∷
      "          3          0" ∷
      "          3          1" ∷
      "          9          0          1" ∷
      "         21          0          2" ∷ [];
  visits = 1000000;
  clauses = 1024;
  atoms = 2048;
  deferred = 256;
  listing =
      "         41          0          1          1" ∷
      "         42          1          0          1          0          0          0" ∷
      "         42          3          0          2          0          0          0" ∷
      "         43          1          1          0          0          1          0          0          0          0          6" ∷ [];
  deferrals = [];
}

abbrev pub deferrals_of : Outcome → List (ℕ × ℕ)
deferrals_of (accepted a) = map pair_of a.deferrals
deferrals_of (refused k line) = []

pub record Listed : Type 0 where
  pub bytes : List ℕ
  pub deferrals : List (ℕ × ℕ)

abbrev pub listed_of : Outcome → Listed
listed_of o = record { bytes = outcome_text o; deferrals = deferrals_of o }

abbrev pub expected : Decided → Listed
expected d = record { bytes = lines_of d.listing; deferrals = d.deferrals }

pub decided_hold : map (λ d. listed_of (run_with d.visits (lines_of d.deck) (tables d.clauses d.atoms d.deferred))) (worked ∷ decided) ≡ map expected (worked ∷ decided)
unfolding computed lines_of
decided_hold = refl
