-- What the writing of one alternative asks of scratch's bytes s, and what it promises.
use Rattle.std.specs.Prelude.{◌≡◌, List, [], ◌∷◌, ℕ, ◌+◌, ◌*◌, ◌-◌, ◌/◌, ◌%◌, ◌<◌, ◌≤◌, ltb, length, get_or, take, Option, Some, None}
use Rattle.std.proofs.Math.Option.{some}
use Rattle.std.proofs.lemmas.List.Edits.{sets}
use Rattle.words.specs.Words.{words}
use Rattle.ir.specs.Pick.{pick}
use Rattle.ir.specs.Roles.{role_of}
use Rattle.ir.specs.Scratch.{hands_at}
use Rattle.ir.specs.declared.atom.Atom.{Atom}
use Rattle.ir.specs.declared.atom.Atom.TheVariants.{Role as RoleAtom}
use Rattle.ir.specs.declared.counters.Counters.{Counters}
use Rattle.rules.specs.Base.{ok}
use Rattle.rules.specs.State.{Env, Out, most_in_hand}
use Rattle.rules.specs.Antecedents.{Alternatives, encode_by}
use Rattle.rules.specs.Run.{flat}
use Rattle.rules.specs.Deck.{most_classes, most_individuals, most_roles}
use Rattle.rules.specs.Inverse.{InverseCanon, canon_role}
use Rattle.rules.specs.Invariants.{Bounds, Wf}
use Rattle.rules.specs.Pool.{Pool}
use Rattle.pool.specs.Layout.{members_at, field, pool_of, run}
use Rattle.pool.specs.Held.{Held}
use Rattle.inverse.specs.Layout.{RolesHeld}
use Rattle.tables.specs.Good.{most_names}
use Rattle.antecedents.specs.declared.write.Chosen.{Chosen}
use Rattle.antecedents.specs.declared.write.Part.{Part}
use Rattle.antecedents.specs.States.{Fine}
use Rattle.antecedents.specs.Table.{size_in, vars_in, plus_vars}
use Rattle.antecedents.specs.Picks.{pick_and, pick_alt, put_at, write_on}

-- a pool's classes are a deck's or names of limits, its individuals and roles a deck's; base: the class of individual 0
pub record Named (p : Pool) (base : ℕ) : Type 0 where
  pub bounds : Bounds
  pub wf : Wf bounds p
  pub classes : bounds.classes ≤ most_names
  pub individuals : bounds.individuals ≤ most_individuals
  pub roles : bounds.roles ≤ most_roles
  pub first : base ≤ most_classes

-- c is a concept of such a pool in s
pub record Writable (s : List ℕ) (base c : ℕ) : Type 0 where
  pub concepts : ℕ
  pub members : ℕ
  pub room : 4 * hands_at ≤ length s
  pub held : Held (words s) concepts members
  pub inside : c < concepts
  pub named : Named (pool_of (words s) concepts) base

-- w's pool, rows and roles are those of w₀, a pool of n concepts under the inverse map
pub record Reads (w w₀ : List ℕ) (n : ℕ) (canon : InverseCanon) : Type 0 where
  pub like : take hands_at w ≡ take hands_at w₀
  pub members : ℕ
  pub held : Held w₀ n members
  pub roles : RolesHeld w₀ canon

-- nothing below record `at` is changed, and r is not below it
pub record Kept (w : List ℕ) (at : ℕ) (w' : List ℕ) (r : ℕ) : Type 0 where
  pub low : take (6 * at) w' ≡ take (6 * at) w
  pub up : at ≤ r

-- the role atom of concept c is written
pub record WroteRole (w : List ℕ) (c v y at : ℕ) (w' : List ℕ) (r : ℕ) : Type 0 where
  pub kept : Kept w at w' r
  pub same : (canon : InverseCanon) → RolesHeld w canon → (w', r) ≡ put_at w at (RoleAtom (canon_role canon (role_of (field w c 1))) v y)

-- the k-th alternative of c is written
pub record Wrote (base : ℕ) (w : List ℕ) (c v y k at : ℕ) (w' : List ℕ) (r : ℕ) : Type 0 where
  pub kept : Kept w at w' r
  pub same : (w₀ : List ℕ) (n f : ℕ) (canon : InverseCanon) → Reads w w₀ n canon → c < n → c < f → (w', r) ≡ write_on (w, at) (pick_alt canon base (pool_of w₀ n) w₀ f c v y k)

-- the parts of an And's k-th alternative are written
pub record WroteAll (base : ℕ) (w : List ℕ) (c start many v y k at : ℕ) (w' : List ℕ) (r : ℕ) : Type 0 where
  pub kept : Kept w at w' r
  pub same : (w₀ : List ℕ) (n f : ℕ) (canon : InverseCanon) → Reads w w₀ n canon → c < n → c ≤ f
      → (w', r) ≡ write_on (w, at) (pick_and w₀ (pick_alt canon base (pool_of w₀ n) w₀ f) v (run w (members_at + start) many) y (size_in w₀ c) k)

-- and of its own
abbrev pub WroteList : ℕ → List ℕ → ℕ → ℕ → ℕ → ℕ → ℕ → List ℕ → ℕ → Type 0
WroteList base w c v y k at w' r = WroteAll base w c (field w c 3) (field w c 2) v y k at w' r

-- the disjunct that holds the k-th alternative
unfoldable pub chosen_of : List ℕ → List ℕ → ℕ → ℕ → Option Chosen
chosen_of w [] y k = None
chosen_of w (x ∷ l) y k = pick (ltb k (size_in w x)) (Some (record { id = x; var = y; index = k })) (chosen_of w l (plus_vars y (vars_in w x)) (k - size_in w x))

-- list member i as the next part, at product r, index j and variable y
pub record PartIs (w : List ℕ) (i r j y : ℕ) (q : Part) : Type 0 where
  pub id : q.id ≡ get_or w (members_at + i) 0
  pub left : q.left ≡ r / size_in w q.id
  pub digit : q.digit ≡ j / q.left
  pub rest : q.rest ≡ j % q.left
  pub next : q.next ≡ plus_vars y (vars_in w q.id)

-- ---- the caller's side
-- the atoms a stand from record `base` on, and r is the record after them
pub record Stored (w : List ℕ) (base : ℕ) (a : List Atom) (w' : List ℕ) (r : ℕ) : Type 0 where
  pub words : w' ≡ sets w (6 * base) (flat a)
  pub next : r ≡ base + length a
  pub short : length a ≤ most_in_hand

-- the i-th alternative is written from record `base` on: the rule's, where the rule has it; and nothing below is changed
pub record Written (w : List ℕ) (k : Counters) (base c v y i : ℕ) (w' : List ℕ) (r : ℕ) : Type 0 where
  pub kept : Kept w base w' r
  pub rule : (env : Env) (f : ℕ) (s : Out) (l : Alternatives) (s' : Out) → RolesHeld w env.inverse_canon → k.nominal_base ≡ env.nominal_base → c < f → y ≡ s.next_var → Fine s
      → encode_by env (pool_of w k.concepts) f c v s ≡ ok (some l) s' → i < length l → Stored w base (get_or l i []) w' r
