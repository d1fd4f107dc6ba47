-- The clausifier's state in scratch, the counters and the lent tables: pool and clauses side by side.
use Rattle.std.specs.Prelude.{◌≡◌, List, ◌++◌, ℕ, ◌+◌, ◌*◌, ◌<◌, ◌≤◌, length, get_or}
use Prim.{Unit}
use Rattle.ir.specs.Scratch.{keys_at, alternatives_at, axioms_at, lines_at, hands_at, limits_at, limits_words}
use Rattle.ir.specs.declared.counters.Counters.{Counters}
use Rattle.ir.specs.Answer.{Answer}
use Rattle.ir.specs.Answer.{Done, Refused}
use Rattle.rules.specs.Base.{Res, ok, refused}
use Rattle.rules.specs.Pool.{Pool}
use Rattle.rules.specs.State.{Limit, Rooms, Env, Out}
use Rattle.rules.specs.Axioms.{Clausifier, C}
use Rattle.rules.specs.Post.{Post}
use Rattle.pool.specs.Layout.{pool_of}
use Rattle.pool.specs.Answers.{sized}
use Rattle.tables.specs.Drawn.{Tables, tables, show}
use Rattle.tables.specs.Good.{Good}
use Rattle.waiting.specs.Limits.{Waits}
use Rattle.hands.specs.Hands.{Four, EnvHeld}
use Rattle.axioms.specs.Bodies.{Encoding}

-- the pool, beside the counters and the words of the tables
pub data Whole : Type 0 where
  whole : Pool → Tables → Whole

-- a state, drawn; what it does not have is k's
abbrev pub drawn : Counters → Rooms → Clausifier → Whole
drawn k rooms z = whole z.pool (show (sized k z.pool) rooms z.out)

abbrev pub shown_whole : {A : Type 0} → (A → ℕ) → Counters → Rooms → Res Clausifier A → Res Whole ℕ
shown_whole value k rooms (ok a z) = ok (value a) (drawn k rooms z)
shown_whole value k rooms (refused e) = refused e

-- the code's answer, with scratch and the tables at exit
abbrev pub after_whole : Answer → Four → Res Whole ℕ
after_whole (Done k i) y = ok i (whole (pool_of y.scratch k.concepts) (tables k y.clauses y.atoms y.deferrals))
after_whole (Refused e) y = refused e

-- the state that stands in scratch, for an emission's state s
abbrev pub standing : Counters → Four → Out → Clausifier
standing k x s = record { pool = pool_of x.scratch k.concepts; out = s }

-- what the code asks of scratch's bytes s
pub record Clausifying (s : List ℕ) (k : Counters) : Type 0 where
  pub encoding : Encoding s k
  pub good : Good k
  pub space : 4 * (hands_at + 127000) ≤ length s
  pub queue : 4 * (limits_at + limits_words) ≤ length s

-- and leaves it so
abbrev pub ClausifyingAfter : List ℕ → Answer → Type 0
ClausifyingAfter s (Done k i) = Clausifying s k
ClausifyingAfter s (Refused e) = Unit {0}

-- key marks, role map and axioms are as they were
pub record Untouched (w w' : List ℕ) : Type 0 where
  pub maps : (j : ℕ) → keys_at ≤ j → j < alternatives_at → get_or w' j 0 ≡ get_or w j 0
  pub axioms : (j : ℕ) → axioms_at ≤ j → j < lines_at → get_or w' j 0 ≡ get_or w j 0

-- counters of the same deck, with no concept less
pub record Onward (k k' : Counters) : Type 0 where
  pub nominals : k'.nominal_base ≡ k.nominal_base
  pub options : k'.options ≡ k.options
  pub concepts : k.concepts ≤ k'.concepts

abbrev pub OnwardAnswer : Counters → Answer → Type 0
OnwardAnswer k (Done k' i) = Onward k k'
OnwardAnswer k (Refused e) = Unit {0}

-- a call did what the rule does
pub record Clausified (rule : Env → C (Unit {0})) (k : Counters) (x y : Four) (r : Answer) : Type 0 where
  pub equal : (env : Env) (s : Out) → EnvHeld env k x → tables k x.clauses x.atoms x.deferrals ≡ show k env.rooms s
      → after_whole r y ≡ shown_whole (λ _. 0) k env.rooms (rule env (standing k x s))
  pub untouched : Untouched x.scratch y.scratch
  pub onward : OnwardAnswer k r

-- w has the limits that wait after an answer, behind p
abbrev pub WaitingWhole : {A : Type 0} → List ℕ → List Limit → Res Clausifier A → Type 0
WaitingWhole w p X = Post (λ _ z. Waits w (p ++ z.out.limits)) X

-- and where scratch has the limits that wait, behind any others, it has those that wait after the rule
pub record Queued (rule : Env → C (Unit {0})) (k : Counters) (x y : Four) : Type 0 where
  pub waits : (env : Env) (s : Out) (p : List Limit) → EnvHeld env k x → tables k x.clauses x.atoms x.deferrals ≡ show k env.rooms s
      → Waits x.scratch (p ++ s.limits) → WaitingWhole y.scratch p (rule env (standing k x s))
