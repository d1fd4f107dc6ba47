-- What head_atom_for answers, and what goes on after an answer.
use Rattle.std.specs.Prelude.{◌≡◌, List, ℕ, ◌+◌, ◌*◌, ◌<◌, ◌≤◌, ◌^◌, take}
use Rattle.std.proofs.Math.Option.{Option, none, some}
use Prim.{Unit}
use Rattle.ir.specs.Records.{Fits}
use Rattle.ir.specs.declared.counters.Counters.{Counters}
use Rattle.ir.specs.Answer.{Answer}
use Rattle.ir.specs.Answer.{Done, Refused}
use Rattle.ir.specs.Headed.{Headed}
use Rattle.ir.specs.Headed as Head
use Rattle.ir.specs.declared.atom.Atom.{Atom}
use Rattle.rules.specs.Base.{Res, ok, refused, then}
use Rattle.rules.specs.State.{Env, Out}
use Rattle.tables.specs.Drawn.{Tables, tables, show, shown, after}
use Rattle.tables.specs.Good.{Good, GoodAnswer, Alike, KeptAnswer}
use Rattle.hands.specs.Hands.{InHand, Four, EnvIn, EnvHeld}

-- a class id whose record can be written
abbrev pub Small : Answer → Type 0
Small (Done k q) = q + 1 < 2 ^ 32
Small (Refused e) = Unit {0}

-- ---- head_atom_for
abbrev pub headed : Headed → List ℕ → List ℕ → List ℕ → Res Tables (Option Atom)
headed (Head.Made k x) c a d = ok (some x) (tables k c a d)
headed (Head.Absent k) c a d = ok none (tables k c a d)
headed (Head.Refused e) c a d = refused e

abbrev pub shown_atom : Env → Counters → Res Out (Option Atom) → Res Tables (Option Atom)
shown_atom env k (ok x s) = ok x (show k env.rooms s)
shown_atom env k (refused e) = refused e

abbrev pub GoodHeaded : Headed → Type 0
GoodHeaded (Head.Made k x) = Good k × Fits x
GoodHeaded (Head.Absent k) = Good k
GoodHeaded (Head.Refused e) = Unit {0}

abbrev pub KeptHeaded : Counters → Headed → Type 0
KeptHeaded k (Head.Made k' x) = Alike k k'
KeptHeaded k (Head.Absent k') = Alike k k'
KeptHeaded k (Head.Refused e) = Unit {0}

pub record DidAtom (low : ℕ) (rule : Env → ℕ → Out → Res Out (Option Atom)) (k : Counters) (base : ℕ) (x y : Four) (r : Headed) : Type 0 where
  pub equal : (env : Env) (f : ℕ) (s : Out) → low ≤ f → EnvHeld env k x → tables k x.clauses x.atoms x.deferrals ≡ show k env.rooms s
      → headed r y.clauses y.atoms y.deferrals ≡ shown_atom env k (rule env f s)
  pub frame : take (6 * base) y.scratch ≡ take (6 * base) x.scratch
  pub good : GoodHeaded r
  pub kept : KeptHeaded k r

-- ---- after an answer that names a class: whatever the rules answered so far
pub record DidAfter (rule : Env → List Atom → ℕ → Out → Res Out (Unit {0})) (k : Counters) (named : Answer) (base n : ℕ) (x y : Four) (r : Answer) : Type 0 where
  pub equal : (env : Env) (b : List Atom) (X : Res Out ℕ) → EnvHeld env k x → InHand x.scratch base n b → after named x.clauses x.atoms x.deferrals ≡ shown (λ q. q) k env.rooms X
      → after r y.clauses y.atoms y.deferrals ≡ shown (λ _. 0) k env.rooms (then X (λ q s. rule env b q s))
  pub frame : take (6 * (base + n)) y.scratch ≡ take (6 * (base + n)) x.scratch
  pub good : GoodAnswer r
  pub kept : KeptAnswer k r

-- the atom that is made of the class
pub record MadeAfter (atom : Env → ℕ → Atom) (k : Counters) (named : Answer) (w : List ℕ) (r : Headed) : Type 0 where
  pub equal : (env : Env) (c a d : List ℕ) (X : Res Out ℕ) → EnvIn env k w → after named c a d ≡ shown (λ q. q) k env.rooms X → headed r c a d ≡ shown_atom env k (then X (λ q s. ok (some (atom env q)) s))
  pub good : GoodHeaded r
  pub kept : KeptHeaded k r
