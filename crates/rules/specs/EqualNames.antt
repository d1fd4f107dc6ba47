-- Option 4, name by name: when the name of an at-most filler is the filler. Two runs of clauses say it, "name below filler", made as
-- soon as the name is taken, and "filler below name", made when the limit's turn comes. Each may name fillers of its own, so a
-- name is its filler where the second deferred nothing, no count was dropped in either, and the same holds of every limit queued
-- in either.
use Rattle.std.specs.Prelude.{◌≡◌, true, false, ℕ, zero, suc, ◌+◌, ◌<◌, ◌≤◌, length, eqb}
use mathlib.Core.List.{List, [], ◌∷◌, ◌++◌, Memᴰ}
use Rattle.std.proofs.Math.Option.{Option, none, some}
use Rattle.ir.specs.Options.{equal_names}
use Rattle.ir.specs.declared.atom.Atom.TheVariants.{Class}
use Rattle.rules.specs.Base.{Res, ok, refused, any}
use Rattle.rules.specs.Concept.{Axiom}
use Rattle.rules.specs.Pool.{Pool}
use Rattle.rules.specs.Normalize.{St}
use Rattle.rules.specs.State.{Clause, Deferred, Limit, Env, Out, with_limits}
use Rattle.rules.specs.Heads.{emit_by}
use Rattle.rules.specs.Axioms.{Clausifier, clausify_axiom, other_half, clausify_whole}
use Rattle.rules.specs.Deck.{Known, fine, read_deck, axiom_line}
use Rattle.rules.specs.Run.{Lengths, Accepted, accepted, Run, done, nnf_axioms, clausifier_at, clausify_axioms, env_of, start, rooms_of, visit_limit}
use Rattle.rules.specs.Invariants.{Each, Grown}
use Rattle.rules.specs.Semantics.{Interpretation, means}
use Rattle.rules.specs.Statements.{Proper, clauses_of, all_hold, is_inverse_axiom, satisfies_some}

-- ---- the calls of a run that make clauses: for each axiom its own, then an inclusion for each limit that waits
pub record Call : Type 0 where
  -- whose filler is put below its name; none: the axiom's own clauses
  pub of : Option Limit
  pub before : Clausifier
  pub after : Clausifier

-- a call that was not refused, and those after it
abbrev pub called : Option Limit → Clausifier → (Clausifier → List Call) → Res Clausifier (Unit {0}) → List Call
called w z rest (ok _ y) = record { of = w; before = z; after = y } ∷ rest y
called w z rest (refused _) = []

-- what a run does next, if it was not refused
abbrev pub go_on : Res Clausifier (Unit {0}) → (Clausifier → List Call) → List Call
go_on (ok _ y) rest = rest y
go_on (refused _) rest = []

abbrev pub leaving : List Limit → Clausifier → Clausifier
leaving l z = record { pool = z.pool; out = with_limits l z.out }

module _ (env : Env) where
  abbrev pub next_calls : (Clausifier → List Call) → List Limit → Clausifier → List Call
  next_calls rest [] z = []
  next_calls rest (w ∷ l) z = called (some w) (leaving l z) rest (other_half env w (leaving l z))

  unfoldable pub settle_calls : ℕ → Clausifier → List Call
  settle_calls zero z = []
  settle_calls (suc f) z = next_calls (λ y. settle_calls f y) z.out.limits z

  abbrev pub whole_calls : Axiom → Clausifier → List Call
  whole_calls a z = called none z (λ y. settle_calls (suc y.out.limit) y) (clausify_axiom env a z)

  unfoldable pub axioms_calls : ℕ → List Axiom → Clausifier → List Call
  axioms_calls line [] z = []
  axioms_calls line (a ∷ l) z = whole_calls a (clausifier_at line z) ++ go_on (clausify_whole env a (clausifier_at line z)) (λ y. axioms_calls (line + 1) l y)

-- ---- name below filler
-- t comes after s in one call: what was made, deferred and queued between them
pub record Later (s t : Out) : Type 0 where
  pub made : List Clause
  pub clauses : t.clauses ≡ s.clauses ++ made
  pub deferred : List Deferred
  pub deferrals : t.deferrals ≡ s.deferrals ++ deferred
  pub queued : List Limit
  pub limits : t.limits ≡ s.limits ++ queued
  pub fresh : s.next_fresh ≤ t.next_fresh

-- The clauses of w's name, made between s and t, the two ends of a call after which the pool is q: emit_head of the filler under
-- the name, from a state in which w is the last limit queued and its name the last class taken.
pub record NameBelow (env : Env) (q : Pool) (s t : Out) (w : Limit) : Type 0 where
  pub pool : Pool
  pub from : Out
  pub to : Out
  pub bound : ℕ
  pub call : emit_by env pool bound (Class w.name 0 ∷ []) w.filler 0 from ≡ ok tt to
  pub before : Later s from
  pub between : Later from to
  pub after : Later to t
  pub grown : Grown pool q
  pub held : w.filler < length pool
  pub enough : w.filler < bound
  pub last : (l : List Limit) × (from.limits ≡ l ++ (w ∷ []))
  pub taken : from.next_fresh ≡ suc w.name
  pub variable : 0 < from.next_var

-- ---- filler below name
-- the two halves of w, queued in the call c: its name's clauses there, and the call that puts its filler below its name
pub record Halves (env : Env) (calls : List Call) (c : Call) (w : Limit) : Type 0 where
  pub below : NameBelow env c.after.pool c.before.out c.after.out w
  pub turn : Call
  pub taken : Memᴰ turn calls
  pub of : turn.of ≡ some w

-- ---- what settles
-- without data keys: a call drops no count over a key exactly where it goes just so without them
abbrev pub keyless : Env → Env
keyless env = record { nominal_base = env.nominal_base; inverse_canon = env.inverse_canon; dkey_classes = []; card_disjunct_atoms = env.card_disjunct_atoms; equal_names = env.equal_names; rooms = env.rooms }

-- every limit of a list settles, in a run of these calls
pub data Settle (env : Env) (calls : List Call) : List Limit → Type 0 where
  nothing : Settle env calls []
  settles : {w : Limit} {l made : List Limit} {c : Call} → Settle env calls l → Memᴰ c calls → (H : Halves env calls c w)
      -- name below filler, which defers nothing: no count was dropped, and what was queued settles
      → emit_by (keyless env) H.below.pool H.below.bound (Class w.name 0 ∷ []) w.filler 0 H.below.from ≡ ok tt H.below.to
      → Settle env calls H.below.between.queued
      -- filler below name: nothing was deferred, no count was dropped, and what was queued settles
      → H.turn.after.out.deferrals ≡ H.turn.before.out.deferrals
      → other_half (keyless env) w H.turn.before ≡ ok tt H.turn.after
      → H.turn.after.out.limits ≡ H.turn.before.out.limits ++ made
      → Settle env calls made
      → Settle env calls (w ∷ l)

abbrev pub Settles : Env → List Call → Limit → Type 0
Settles env calls w = Settle env calls (w ∷ [])

-- the name of w is its filler
abbrev pub NameIsFiller : Interpretation → Pool → Limit → Type 0
NameIsFiller I p w = (x : ℕ) → x < I.size → I.class w.name x ≡ means I p w.filler x

-- ---- the statements: of every accepted run with option 4 that clausified these axioms in the state z, and every interpretation in
-- which its clauses hold and the inverse-role axioms are satisfied
pub record Clausifies (deck : List ℕ) (t : Lengths) (d : Known) (a : Accepted) (axioms : List Axiom) (s : St) (z : Clausifier) : Type 0 where
  pub read : read_deck deck ≡ fine d
  pub ran : Run deck t ≡ accepted a
  pub option : equal_names d.header.options ≡ true
  pub normal : nnf_axioms (axiom_line d 0) d.axioms (record { pool = d.concepts; visits = 0; limit = visit_limit }) ≡ done axioms s
  pub clausified : clausify_axioms (env_of d (rooms_of t) axioms) (axiom_line d 0) axioms (start d s) ≡ done tt z

abbrev pub calls_of : Lengths → Known → List Axiom → St → List Call
calls_of t d axioms s = axioms_calls (env_of d (rooms_of t) axioms) (axiom_line d 0) axioms (start d s)

pub record Models (t : Lengths) (d : Known) (a : Accepted) (I : Interpretation) : Type 0 where
  pub proper : Proper d I
  pub clauses : all_hold I (clauses_of t a) ≡ true
  pub inverses : satisfies_some is_inverse_axiom d I ≡ true

-- every limit that a call of the run queued has both halves
abbrev pub LimitsHaveHalves : Type 0
LimitsHaveHalves = (deck : List ℕ) (t : Lengths) (d : Known) (a : Accepted) (axioms : List Axiom) (s : St) (z : Clausifier) → Clausifies deck t d a axioms s z
    → (c : Call) → Memᴰ c (calls_of t d axioms s) → (ws : List Limit) → c.after.out.limits ≡ c.before.out.limits ++ ws
    → Each (Halves (env_of d (rooms_of t) axioms) (calls_of t d axioms s) c) ws

-- a limit that settles: its name is its filler
abbrev pub SettledNames : Type 0
SettledNames = (deck : List ℕ) (t : Lengths) (d : Known) (a : Accepted) (axioms : List Axiom) (s : St) (z : Clausifier) → Clausifies deck t d a axioms s z
    → (I : Interpretation) → Models t d a I
    → (w : Limit) → Settles (env_of d (rooms_of t) axioms) (calls_of t d axioms s) w → NameIsFiller I z.pool w

-- without data keys and deferrals with its axiom's line: every limit of the axiom settles
abbrev pub LimitsOfAxiom : Type 0
LimitsOfAxiom = (deck : List ℕ) (t : Lengths) (d : Known) (a : Accepted) (axioms : List Axiom) (s : St) (z : Clausifier) → Clausifies deck t d a axioms s z
    → d.keys ≡ []
    → (c : Call) → Memᴰ c (calls_of t d axioms s) → any (λ e. eqb e.line c.before.out.line) a.deferrals ≡ false
    → (w : Limit) → c.of ≡ some w → Settles (env_of d (rooms_of t) axioms) (calls_of t d axioms s) w

-- so its name is its filler
abbrev pub NamesOfAxiom : Type 0
NamesOfAxiom = (deck : List ℕ) (t : Lengths) (d : Known) (a : Accepted) (axioms : List Axiom) (s : St) (z : Clausifier) → Clausifies deck t d a axioms s z
    → d.keys ≡ [] → (I : Interpretation) → Models t d a I
    → (c : Call) → Memᴰ c (calls_of t d axioms s) → any (λ e. eqb e.line c.before.out.line) a.deferrals ≡ false
    → (w : Limit) → c.of ≡ some w → NameIsFiller I z.pool w
