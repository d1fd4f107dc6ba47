-- What a step of the search did: from the set that the flags held to the rule's next set, with nothing else written.
use Rattle.std.specs.Prelude.{◌≡◌, List, [], ◌∷◌, ℕ, zero, suc, ◌+◌, ◌*◌, ◌/◌, ◌<◌, ◌≤◌, length, get_or}
use Rattle.words.specs.Words.{words}
use Rattle.ir.specs.Scratch.{roles_at, alternatives_at, lines_at}
use Rattle.rules.specs.Deck.{most_roles}
use Rattle.rules.specs.State.{Env}
use Rattle.rules.specs.Stats.{one}
use Rattle.rules.specs.Reflexive.{inserted, reflexive_from, edges_from, edges_among, role_edges, all_edges, round, closed, reflexive_role_ids}
use Rattle.pool.specs.Layout.{tab}
use Rattle.ontology.specs.Layout.{axiom_at, axioms_of}
use Rattle.inverse.specs.Layout.{RolesHeld, Building}
use Rattle.reflexive.specs.Flags.{is_flagged, FlagsHeld, MapWithin, OnlyFlags}

-- the id that a role's code is mapped to
abbrev pub id_at : List ℕ → ℕ → ℕ
id_at w c = get_or w (roles_at + c / 2) 0 / 2

-- the ids of the n codes from word i on
abbrev pub ids_at : List ℕ → ℕ → ℕ → List ℕ
ids_at w i n = tab (λ j. id_at w (get_or w j 0)) i n

-- how many of the first n flags are set
unfoldable pub flagged : List ℕ → ℕ → ℕ
flagged w zero = 0
flagged w (suc n) = one (is_flagged w n) + flagged w n

-- ---- what a step makes of a set
abbrev pub insertion : ℕ → Env → List ℕ → List ℕ
insertion a env set = inserted set a

abbrev pub edge : ℕ → ℕ → Env → List ℕ → List ℕ
edge a b env set = round ((a, b) ∷ []) set

-- edges from a to n codes from word i on
abbrev pub edges_to : List ℕ → ℕ → ℕ → ℕ → Env → List ℕ → List ℕ
edges_to w a i n env set = round (edges_from env a (ids_at w i n)) set

-- edges from the first k of n codes to all of them
abbrev pub edges_across : List ℕ → ℕ → ℕ → ℕ → Env → List ℕ → List ℕ
edges_across w i n k env set = round (edges_among env (ids_at w i k) (ids_at w i n)) set

-- edges of one axiom, and of the first n
abbrev pub axiom_edges : List ℕ → ℕ → Env → List ℕ → List ℕ
axiom_edges w i env set = round (role_edges env (axiom_at w i)) set

abbrev pub axioms_edges : List ℕ → ℕ → Env → List ℕ → List ℕ
axioms_edges w n env set = round (all_edges env (axioms_of w n)) set

-- the roles that the first n axioms declare reflexive
abbrev pub declared_ids : List ℕ → ℕ → Env → List ℕ → List ℕ
declared_ids w n env set = reflexive_from env set (axioms_of w n)

-- ---- what the code asks
-- scratch's bytes s, where so many flags are set
pub record Ready (s : List ℕ) (size : ℕ) : Type 0 where
  pub space : 4 * lines_at ≤ length s
  pub map : MapWithin (words s)
  pub sized : size ≡ flagged (words s) most_roles

-- n role codes from word i on
pub record Codes (w : List ℕ) (i n : ℕ) : Type 0 where
  pub above : alternatives_at ≤ i
  pub below : i + n ≤ lines_at
  pub small : (j : ℕ) → j < n → get_or w (i + j) 0 < 2 * most_roles

-- axiom i is one of those in scratch
pub record HasAxiom (s : List ℕ) (i : ℕ) : Type 0 where
  pub count : ℕ
  pub building : Building s count
  pub below : i < count

-- ---- what the code did
-- a set of `size` became the set f of it, of r
pub record Step (w w' : List ℕ) (size r : ℕ) (f : Env → List ℕ → List ℕ) : Type 0 where
  pub moved : (env : Env) → RolesHeld w env.inverse_canon → (set : List ℕ) → FlagsHeld w set → size ≡ length set → FlagsHeld w' (f env set) × (r ≡ length (f env set))
  pub only : OnlyFlags w w'
  pub sized : r ≡ flagged w' most_roles
  pub grows : size ≤ r

-- whatever the flags were, they hold the set f, of r
pub record Begun (w w' : List ℕ) (r : ℕ) (f : Env → List ℕ) : Type 0 where
  pub made : (env : Env) → RolesHeld w env.inverse_canon → FlagsHeld w' (f env) × (r ≡ length (f env))
  pub only : OnlyFlags w w'
  pub sized : r ≡ flagged w' most_roles

-- ---- loops, of scratch's bytes s₀ before them and s now
-- i of n turns are made; f says what i turns make of a set
pub record Walk (s₀ s : List ℕ) (size r i n : ℕ) (f : ℕ → Env → List ℕ → List ℕ) : Type 0 where
  pub within : i ≤ n
  pub step : Step (words s₀) (words s) size r (f i)
  pub long : length s ≡ length s₀

-- the rounds from here on give the rule's set
pub record Left (w : List ℕ) (size : ℕ) (edges : List (ℕ × ℕ)) (target : List ℕ) : Type 0 where
  pub set : List ℕ
  pub fuel : ℕ
  pub held : FlagsHeld w set
  pub count : size ≡ length set
  pub same : target ≡ closed fuel edges set

pub record Closing (s₀ s : List ℕ) (n size : ℕ) : Type 0 where
  pub left : (env : Env) → RolesHeld (words s₀) env.inverse_canon → Left (words s) size (all_edges env (axioms_of (words s₀) n)) (reflexive_role_ids env (axioms_of (words s₀) n))
  pub only : OnlyFlags (words s₀) (words s)
  pub sized : size ≡ flagged (words s) most_roles
  pub long : length s ≡ length s₀
