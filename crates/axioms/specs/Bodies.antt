-- What is emitted for each alternative of an antecedent.
use Rattle.std.specs.Prelude.{◌≡◌, List, [], ◌∷◌, ◌++◌, ℕ, ◌*◌, ◌<◌, ◌≤◌, length, take, drop}
use Rattle.std.proofs.Math.Option.{Option, some}
use Prim.{Unit}
use Rattle.words.specs.Words.{words}
use Rattle.ir.specs.declared.counters.Counters.{Counters}
use Rattle.ir.specs.Answer.{Answer}
use Rattle.ir.specs.declared.atom.Atom.{Atom}
use Rattle.ir.specs.declared.atom.Atom.TheVariants.{Class}
use Rattle.rules.specs.Base.{ok, for_each, ◌>>=◌, ◌>>◌}
use Rattle.rules.specs.Inverse.{InverseCanon}
use Rattle.rules.specs.Pool.{Pool}
use Rattle.rules.specs.State.{Limit, Env, Out, E, restart_vars, push}
use Rattle.rules.specs.Antecedents.{Alternatives, encode_by, encode_antecedent}
use Rattle.rules.specs.Axioms.{member_with}
use Rattle.pool.specs.Layout.{pool_of}
use Rattle.inverse.specs.Layout.{RolesHeld}
use Rattle.tables.specs.Drawn.{tables, show, shown, after}
use Rattle.tables.specs.Good.{Good, GoodAnswer, Alike, KeptAnswer}
use Rattle.waiting.specs.Limits.{Waits}
use Rattle.hands.specs.Hands.{Four, EnvHeld, Waiting}
use Rattle.axioms.specs.RoleAxioms.{hand_at}
use Rattle.leaves.specs.Reading.{Reading}
use Rattle.antecedents.specs.States.{Fine}
use Rattle.antecedents.specs.Table.{Numbered}

-- a pool whose antecedents' rows are filled, and the role map
pub record Encoding (s : List ℕ) (k : Counters) : Type 0 where
  pub reading : Reading s k
  pub rows : Numbered (words s) (pool_of (words s) k.concepts) k.concepts
  pub canon : InverseCanon
  pub roles : RolesHeld (words s) canon

-- concept c is encoded, its variables beginning anew, and `rest` is done with what that gives
abbrev pub encoded_then : Env → Pool → ℕ → (Option Alternatives → E (Unit {0})) → E (Unit {0})
encoded_then env pool c rest = restart_vars >> (encode_antecedent env pool c 0 >>= (λ o. rest o))

-- unionMember, over the pool
abbrev pub member_rule : Env → Pool → ℕ → ℕ → E (Unit {0})
member_rule env pool class m = encoded_then env pool m (member_with env class)

-- concept c has the alternatives l, whose variables begin with y
pub record Encodes (env : Env) (w : List ℕ) (k : Counters) (c y count f : ℕ) (t : Out) (l : Alternatives) (s : Out) : Type 0 where
  pub roles : RolesHeld w env.inverse_canon
  pub first : k.nominal_base ≡ env.nominal_base
  pub above : c < f
  pub begins : y ≡ t.next_var
  pub fine : Fine t
  pub encoded : encode_by env (pool_of w k.concepts) f c 0 t ≡ ok (some l) s
  pub long : count ≡ length l

-- for some env and state
pub record Sourced (w : List ℕ) (k : Counters) (c y count : ℕ) : Type 0 where
  pub env : Env
  pub bound : ℕ
  pub start : Out
  pub alternatives : Alternatives
  pub end : Out
  pub encodes : Encodes env w k c y count bound start alternatives end

abbrev pub gives_class : ℕ → Env → List Atom → E (Unit {0})
gives_class class env b = push env b (Class class 0 ∷ [])

-- a call did for each alternative what the rule does
pub record Bodied (each : Env → List Atom → E (Unit {0})) (k : Counters) (c y count : ℕ) (x x' : Four) (r : Answer) : Type 0 where
  pub equal : (env : Env) (f : ℕ) (t : Out) (l : Alternatives) (s : Out) → EnvHeld env k x → Encodes env x.scratch k c y count f t l s → tables k x.clauses x.atoms x.deferrals ≡ show k env.rooms s
      → after r x'.clauses x'.atoms x'.deferrals ≡ shown (λ _. 0) k env.rooms (for_each (each env) l s)
  pub frame : take (6 * hand_at) x'.scratch ≡ take (6 * hand_at) x.scratch
  pub good : GoodAnswer r
  pub kept : KeptAnswer k r

-- and where scratch has the limits that wait, behind any others, it has those that wait after the rule
pub record BodiedWaits (each : Env → List Atom → E (Unit {0})) (k : Counters) (c y count : ℕ) (x x' : Four) : Type 0 where
  pub waits : (env : Env) (f : ℕ) (t : Out) (l : Alternatives) (s : Out) (p : List Limit) → EnvHeld env k x → Encodes env x.scratch k c y count f t l s → tables k x.clauses x.atoms x.deferrals ≡ show k env.rooms s
      → Waits x.scratch (p ++ s.limits) → Waiting x'.scratch p (for_each (each env) l s)

-- i alternatives are done, and the tables show the state that the rule is in
pub record BodiedSo (each : Env → List Atom → E (Unit {0})) (env : Env) (k m : Counters) (x : Four) (l : Alternatives) (s : Out) (i : ℕ) : Type 0 where
  pub state : Out
  pub drawn : tables m x.clauses x.atoms x.deferrals ≡ show k env.rooms state
  pub rest : for_each (each env) l s ≡ for_each (each env) (drop i l) state

pub record BodiedAt (each : Env → List Atom → E (Unit {0})) (k : Counters) (c y count : ℕ) (x₀ x : Four) (m : Counters) (i : ℕ) : Type 0 where
  pub within : i ≤ count
  pub frame : take (6 * hand_at) x.scratch ≡ take (6 * hand_at) x₀.scratch
  pub good : Good m
  pub alike : Alike k m
  pub so : (env : Env) (f : ℕ) (t : Out) (l : Alternatives) (s : Out) → EnvHeld env k x₀ → Encodes env x₀.scratch k c y count f t l s → tables k x₀.clauses x₀.atoms x₀.deferrals ≡ show k env.rooms s
      → BodiedSo each env k m x l s i

-- and scratch has the limits that wait in that state, behind p
pub record WaitsSo (each : Env → List Atom → E (Unit {0})) (env : Env) (k m : Counters) (x : Four) (l : Alternatives) (s : Out) (p : List Limit) (i : ℕ) : Type 0 where
  pub so : BodiedSo each env k m x l s i
  pub waits : Waits x.scratch (p ++ so.state.limits)

pub record WaitsAt (each : Env → List Atom → E (Unit {0})) (k : Counters) (c y count : ℕ) (x₀ x : Four) (m : Counters) (i : ℕ) : Type 0 where
  pub so : (env : Env) (f : ℕ) (t : Out) (l : Alternatives) (s : Out) (p : List Limit) → EnvHeld env k x₀ → Encodes env x₀.scratch k c y count f t l s → tables k x₀.clauses x₀.atoms x₀.deferrals ≡ show k env.rooms s
      → Waits x₀.scratch (p ++ s.limits) → WaitsSo each env k m x l s p i
