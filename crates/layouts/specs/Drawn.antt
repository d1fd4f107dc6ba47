-- A state's lines so far, drawn into the words w of the store and v of scratch.
use Rattle.std.specs.Prelude.{◌≡◌, Bool, true, false, ◌&&◌, ◌||◌, List, ◌⊎◌, ℕ, ◌+◌, ◌*◌, ◌<◌, ◌≤◌, eqb, leb, length, get_or, drop}
use Rattle.ir.specs.Pick.{pick}
use Rattle.ir.specs.Roles.{role_of}
use Rattle.rules.specs.Base.{contains}
use Rattle.rules.specs.Deck.{Known}
use Rattle.rules.specs.Invariants.{Each}
use Rattle.rules.specs.Run.{scratch_bytes}
use Rattle.rules.specs.Semantics.{pairs_of}
use Rattle.words.specs.Words.{words}
use Rattle.states.specs.State.{State, most_elements, numbers_at, has_pair, is_individual_class, line_ok, entered}
use Rattle.states.specs.Test.{store_bytes}
use Rattle.states.specs.Masks.{mask_of}
use Rattle.sets.specs.Kept.{set_at, set_put}
use Rattle.sets.specs.Laid.{row_of, KeptTo}
use Rattle.layouts.specs.declared.limits.Limits.{Limits}
use Rattle.layouts.specs.declared.enter.At.{At}
use Rattle.layouts.specs.Read.{known_of}
use Rattle.layouts.specs.Lines.{line_in, LineThere, before, rows_word}

-- set c, where there is room for it
abbrev pub room_put : List ℕ → ℕ → ℕ → List ℕ
room_put w c m = pick (leb (2 * c + 2) (length w)) (set_put w c m) w

-- set i has element y too, and nothing else has changed
pub record Linked (v v' : List ℕ) (i y : ℕ) : Type 0 where
  pub more : (n : ℕ) (f : ℕ → Bool) → y < n → set_at v i ≡ mask_of n f → set_at v' i ≡ mask_of n (λ z. f z || eqb z y)
  pub others : (j : ℕ) → (j ≡ i → ⊥) → set_at v' j ≡ set_at v j
  pub kept : KeptTo rows_word v v'

-- the rows of so many roles hold these pairs, in both directions
abbrev pub RowsAs : ℕ → ℕ → List ℕ → (ℕ → ℕ → ℕ → Bool) → Type 0
RowsAs n roles v f = (code x : ℕ) → code < 2 * roles → x < n → row_of v code x ≡ mask_of n (pairs_of f (role_of code) x)

abbrev pub with_pair : (ℕ → ℕ → ℕ → Bool) → ℕ → ℕ → ℕ → ℕ → ℕ → ℕ → Bool
with_pair f r a b k x y = f k x y || (eqb k r && (eqb x a && eqb y b))

abbrev pub with_pairs : (ℕ → ℕ → ℕ → Bool) → ℕ → List ℕ → ℕ → ℕ → ℕ → Bool
with_pairs f r l k x y = f k x y || (eqb k r && has_pair l x y)

abbrev pub entered_line : State → List ℕ → State
entered_line s r = entered s (get_or r 0 0) (get_or r 1 0) (drop 2 r)

-- kind and id of the line r
abbrev pub IsLine : At → List ℕ → Type 0
IsLine at r = (at.kind ≡ get_or r 0 0) × (at.id ≡ get_or r 1 0)

-- a line of kind m and id j may stand behind one of kind k and id i
abbrev pub Later : ℕ → ℕ → ℕ → ℕ → Type 0
Later k i m j = (k < m) ⊎ ((k ≡ m) × (i < j))

-- whatever line may follow has an id of its own
pub record Ahead (s : State) (kind id : ℕ) : Type 0 where
  pub classes : (i : ℕ) → Later kind id 51 i → Each (λ p. p.0 < i) s.classes
  pub roles : (i : ℕ) → Later kind id 52 i → Each (λ p. p.0 < i) s.roles
  pub singles : (i : ℕ) → Later kind id 53 i → length s.individuals ≤ i

pub record Drawn (d : Known) (s : State) (at : At) (size : ℕ) (w v : List ℕ) : Type 0 where
  pub size_is : s.size ≡ size
  pub singles_are : at.singles ≡ length s.individuals
  pub ahead : Ahead s at.kind at.id
  pub classes : (c : ℕ) → 2 * c + 2 ≤ length w → is_individual_class d c ≡ false → set_at w c ≡ mask_of size (contains (numbers_at s.classes c))
  pub singles : (j : ℕ) → j < length s.individuals → set_at w (d.header.classes + j) ≡ mask_of size (λ x. eqb x (get_or s.individuals j 0))
  pub rows : RowsAs size d.header.roles v (λ r x y. has_pair (numbers_at s.roles r) x y)

-- what entering a line asks of the bytes of the store and of scratch
pub record Enterable (m : Limits) (at : At) (size : ℕ) (store scratch : List ℕ) (n : ℕ) : Type 0 where
  pub few : size ≤ most_elements
  pub room : store_bytes ≤ length store
  pub there : LineThere scratch n
  pub some : 2 ≤ n
  pub fine : line_ok (known_of m) m.fresh (before at.kind at.id size) (line_in (words scratch) n) ≡ true
  pub singles : (i : ℕ) → Later at.kind at.id 53 i → at.singles ≤ i

-- before the second line: every set is empty
pub record Blank (m : Limits) (size : ℕ) (text store scratch : List ℕ) (from : ℕ) : Type 0 where
  pub some : 0 < size
  pub few : size ≤ most_elements
  pub room : store_bytes ≤ length store
  pub space : scratch_bytes ≤ length scratch
  pub within : from ≤ length text
  pub classes : (c : ℕ) → set_at (words store) c ≡ 0
  pub rows : (code x : ℕ) → code < 2 * m.roles → x < most_elements → row_of (words scratch) code x ≡ 0
