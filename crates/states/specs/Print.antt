-- A state's text, line by line, and what a state keeps that was read.
use Rattle.std.specs.Prelude.{◌≡◌, true, List, [], ◌∷◌, ◌++◌, ℕ, ◌+◌, ◌<◌, ◌≤◌, length, ltb}
use Rattle.rules.specs.Base.{all}
use Rattle.rules.specs.Deck.{Known, rising}
use Rattle.rules.specs.Invariants.{Each}
use Rattle.rules.specs.Lister.{fields_text}
use Rattle.states.specs.State.{State, most_elements, rising_pairs, takes_class}

-- ---- the text
-- a line of kind k for each id with its numbers
unfoldable pub lines_text : ℕ → List (ℕ × List ℕ) → List ℕ
lines_text k [] = []
lines_text k (p ∷ l) = fields_text (k ∷ p.0 ∷ p.1) ++ lines_text k l

-- the individuals from i on, each with its element
unfoldable pub numbered : ℕ → List ℕ → List (ℕ × List ℕ)
numbered i [] = []
numbered i (e ∷ l) = (i, e ∷ []) ∷ numbered (i + 1) l

unfoldable pub printed : State → List ℕ
printed s = fields_text (50 ∷ s.size ∷ []) ++ (lines_text 51 s.classes ++ (lines_text 52 s.roles ++ lines_text 53 (numbered 0 s.individuals)))

-- ---- the reader's rules, of a state
-- each id is below those after it
abbrev pub IdsRise : List (ℕ × List ℕ) → Type 0
IdsRise [] = Unit {0}
IdsRise (p ∷ l) = Each (λ (q : ℕ × List ℕ). p.0 < q.0) l × IdsRise l

pub record ClassLine (d : Known) (fresh n : ℕ) (p : ℕ × List ℕ) : Type 0 where
  pub id : takes_class d fresh p.0 ≡ true
  pub elements : all (λ e. ltb e n) p.1 ≡ true
  pub rise : rising p.1 ≡ true

pub record RoleLine (d : Known) (n : ℕ) (p : ℕ × List ℕ) : Type 0 where
  pub id : p.0 < d.header.roles
  pub elements : all (λ e. ltb e n) p.1 ≡ true
  pub rise : rising_pairs p.1 ≡ true

pub record Lines (d : Known) (fresh : ℕ) (s : State) : Type 0 where
  pub some : 1 ≤ s.size
  pub few : s.size ≤ most_elements
  pub classes : Each (ClassLine d fresh s.size) s.classes
  pub class_ids : IdsRise s.classes
  pub roles : Each (RoleLine d s.size) s.roles
  pub role_ids : IdsRise s.roles
  pub individuals : Each (λ e. e < s.size) s.individuals

pub record Stating (d : Known) (fresh : ℕ) (s : State) : Type 0 where
  pub lines : Lines d fresh s
  pub many : length s.individuals ≡ d.header.individuals
