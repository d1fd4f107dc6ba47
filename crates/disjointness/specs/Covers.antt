-- The heads that cover a class: all of them, or why there are none.
use Rattle.axioms.specs.RoleAxioms.{hand_at}
use Rattle.std.specs.Prelude.{◌≡◌, Bool, true, false, List, [], ◌∷◌, ◌++◌, ℕ, ◌+◌, ◌*◌, ◌-◌, ◌<◌, ◌≤◌, ltb, length, get_or, take, Result, Ok, Err}
use Rattle.std.proofs.Math.Option.{Option, none, some}
use Prim.{Unit}
use Rattle.ir.specs.Scratch.{hands_at}
use Rattle.ir.specs.declared.counters.Counters.{Counters}
use Rattle.ir.specs.declared.refusal.Refusal.{Refusal}
use Rattle.ir.specs.Refusals.{refusal_number}
use Rattle.ir.specs.declared.atom.Atom.{Atom}
use Rattle.ir.specs.declared.atom.Atom.TheVariants.{Class}
use Rattle.ir.specs.declared.deferral.Deferral.TheVariants.{DisjointUnionCovering}
use Rattle.rules.specs.Base.{refuse}
use Rattle.rules.specs.Pool.{Pool, at}
use Rattle.rules.specs.State.{Env, E, class_id_of, push, defer}
use Rattle.pool.specs.Layout.{run, pool_of}
use Rattle.hands.specs.Hands.{InHand, EnvIn}

-- the `count` words from i on are concepts, and lie below the hands
pub record Members (w : List ℕ) (k : Counters) (i count : ℕ) : Type 0 where
  pub below : i + count ≤ hands_at
  pub ids : (j : ℕ) → j < count → get_or w (i + j) 0 < k.concepts

pub data Covering : Type 0 where
  all : List Atom → Covering
  missing : Covering
  long : Covering

abbrev pub one_more : (List Atom → Covering) → List Atom → ℕ → Bool → Covering
one_more rest hs c true = rest (hs ++ (Class c 0 ∷ []))
one_more rest hs c false = long

abbrev pub with_head : (List Atom → Covering) → List Atom → Option ℕ → Covering
with_head rest hs none = missing
with_head rest hs (some c) = one_more rest hs c (ltb (length hs) 256)

unfoldable pub heads_of : Env → Pool → List ℕ → List Atom → Covering
heads_of env pool [] hs = all hs
heads_of env pool (m ∷ l) hs = with_head (λ more. heads_of env pool l more) hs (class_id_of env (at pool m))

-- what is emitted for them
abbrev pub cover_by : Env → ℕ → Covering → E (Unit {0})
cover_by env class (all hs) = push env (Class class 0 ∷ []) hs
cover_by env class missing = defer env DisjointUnionCovering
cover_by env class long = refuse 12

-- the words at exit: x stands first in hand, the heads behind it
pub record AllIn (base count : ℕ) (w : List ℕ) (x : Atom) (hs : List Atom) : Type 0 where
  pub hand : InHand w base (1 + count) (x ∷ hs)
  pub few : count ≤ 256

-- the code's answer: whether each member has a head, or that they are too many
abbrev pub Outcome : ℕ → ℕ → List ℕ → Atom → Result Bool Refusal → Covering → Type 0
Outcome base count w x (Ok true) (all hs) = AllIn base count w x hs
Outcome base count w x (Ok true) missing = ⊥
Outcome base count w x (Ok true) long = ⊥
Outcome base count w x (Ok false) (all hs) = ⊥
Outcome base count w x (Ok false) missing = Unit {0}
Outcome base count w x (Ok false) long = ⊥
Outcome base count w x (Err e) (all hs) = ⊥
Outcome base count w x (Err e) missing = ⊥
Outcome base count w x (Err e) long = refusal_number e ≡ 12

pub record HeadsDid (k : Counters) (i count : ℕ) (w w' : List ℕ) (r : Result Bool Refusal) : Type 0 where
  pub equal : (env : Env) (x : Atom) → EnvIn env k w → InHand w hand_at 1 (x ∷ []) → Outcome hand_at count w' x r (heads_of env (pool_of w k.concepts) (run w i count) [])
  pub frame : take (6 * (hand_at + 1)) w' ≡ take (6 * (hand_at + 1)) w
  pub few : r ≡ Ok true → count ≤ 256

-- j members are done
pub record HeadsSo (env : Env) (pool : Pool) (i count : ℕ) (w₀ : List ℕ) (x : Atom) (w : List ℕ) (j : ℕ) : Type 0 where
  pub heads : List Atom
  pub long : j ≡ length heads
  pub hand : InHand w hand_at (1 + j) (x ∷ heads)
  pub rest : heads_of env pool (run w₀ i count) [] ≡ heads_of env pool (run w₀ (i + j) (count - j)) heads

pub record HeadsAt (k : Counters) (i count : ℕ) (w₀ w : List ℕ) (j : ℕ) : Type 0 where
  pub within : j ≤ count
  pub few : j ≤ 256
  pub frame : take (6 * (hand_at + 1)) w ≡ take (6 * (hand_at + 1)) w₀
  pub so : (env : Env) (x : Atom) → EnvIn env k w₀ → InHand w₀ hand_at 1 (x ∷ []) → HeadsSo env (pool_of w₀ k.concepts) i count w₀ x w j
