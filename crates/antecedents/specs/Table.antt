-- Two words for each concept: how many alternatives it has as an antecedent, and how many variables they take.
use Rattle.std.specs.Prelude.{◌≡◌, Bool, true, false, List, [], ◌∷◌, ℕ, ◌+◌, ◌*◌, ◌<◌, min, get_or, take, drop}
use Rattle.ir.specs.Scratch.{alternatives_at, axioms_at}
use Rattle.rules.specs.Concept.{Concept}
use Rattle.rules.specs.Concept.{Top, Bot, Atomic, Nominal, SelfRestriction, Not, And, Or, Some, All, Min, Max}
use Rattle.rules.specs.Pool.{Pool, at}

abbrev pub size_in : List ℕ → ℕ → ℕ
size_in w c = get_or w (alternatives_at + 2 * c) 0

abbrev pub vars_in : List ℕ → ℕ → ℕ
vars_in w c = get_or w (alternatives_at + 2 * c + 1) 0

-- no variable is ever that large
abbrev pub plus_vars : ℕ → ℕ → ℕ
plus_vars a b = min (a + b) 4294967295

-- a part of an And (true) or Or more; over 64 alternatives are 65
abbrev pub join_size : Bool → ℕ → ℕ → ℕ
join_size true a n = min (a * n) 65
join_size false a n = min (a + n) 65

unfoldable pub size_all : List ℕ → Bool → List ℕ → ℕ → ℕ
size_all w b [] a = a
size_all w b (x ∷ l) a = size_all w b l (join_size b a (size_in w x))

unfoldable pub vars_all : List ℕ → List ℕ → ℕ → ℕ
vars_all w [] a = a
vars_all w (x ∷ l) a = vars_all w l (plus_vars a (vars_in w x))

-- a concept's row, from those of its parts
abbrev pub size_of : List ℕ → Concept → ℕ
size_of w Top = 1
size_of w Bot = 0
size_of w (Atomic _) = 1
size_of w (Nominal _) = 1
size_of w (SelfRestriction _) = 0
size_of w (Not _) = 0
size_of w (And l) = size_all w true l 1
size_of w (Or l) = size_all w false l 0
size_of w (Some _ d) = size_in w d
size_of w (All _ _) = 0
size_of w (Min _ _ _) = 0
size_of w (Max _ _ _) = 0

abbrev pub vars_of : List ℕ → Concept → ℕ
vars_of w Top = 0
vars_of w Bot = 0
vars_of w (Atomic _) = 0
vars_of w (Nominal _) = 0
vars_of w (SelfRestriction _) = 0
vars_of w (Not _) = 0
vars_of w (And l) = vars_all w l 0
vars_of w (Or l) = vars_all w l 0
vars_of w (Some _ d) = plus_vars (vars_in w d) 1
vars_of w (All _ _) = 0
vars_of w (Min _ _ _) = 0
vars_of w (Max _ _ _) = 0

-- the rows of the first n concepts of p stand in w
pub record Numbered (w : List ℕ) (p : Pool) (n : ℕ) : Type 0 where
  pub size : (c : ℕ) → c < n → size_in w c ≡ size_of w (at p c)
  pub vars : (c : ℕ) → c < n → vars_in w c ≡ vars_of w (at p c)

-- all words outside the rows are as they were
pub record Outside (w w' : List ℕ) : Type 0 where
  pub low : take alternatives_at w' ≡ take alternatives_at w
  pub high : drop axioms_at w' ≡ drop axioms_at w
