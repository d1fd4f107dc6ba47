-- Bodies and heads in hand, and what a call that emits does to the lent tables.
use Rattle.std.specs.Prelude.{◌≡◌, false, List, ◌++◌, ℕ, ◌+◌, ◌*◌, ◌≤◌, length, take}
use Rattle.words.specs.Words.{words}
use Rattle.ir.specs.Options.{card_disjunct_atoms, equal_names}
use Rattle.ir.specs.declared.counters.Counters.{Counters}
use Rattle.ir.specs.Answer.{Answer}
use Rattle.ir.specs.declared.atom.Atom.{Atom}
use Rattle.rules.specs.Base.{Res, contains}
use Rattle.rules.specs.Deck.{most_classes}
use Rattle.rules.specs.State.{Limit, Env, Out}
use Rattle.rules.specs.Run.{flat}
use Rattle.rules.specs.Post.{Post}
use Rattle.inverse.specs.Layout.{RolesHeld}
use Rattle.ontology.specs.Layout.{KeysHeld}
use Rattle.tables.specs.declared.lent.Tables.{Tables}
use Rattle.tables.specs.Drawn.{tables, show, shown, after, Lent}
use Rattle.tables.specs.Good.{GoodAnswer, KeptAnswer}
use Rattle.waiting.specs.Limits.{Waits}

-- atoms base to base + n of the words are b
pub record InHand (w : List ℕ) (base n : ℕ) (b : List Atom) : Type 0 where
  pub long : n ≡ length b
  pub are : take (6 * (base + n)) w ≡ take (6 * base) w ++ flat b

-- the words of scratch and of the clause, atom and deferral tables
pub record Four : Type 0 where
  pub scratch : List ℕ
  pub clauses : List ℕ
  pub atoms : List ℕ
  pub deferrals : List ℕ

abbrev pub four : (w c a d : List ℕ) → Four
four w c a d = record { scratch = w; clauses = c; atoms = a; deferrals = d }

-- scratch's words beside the lent tables'
abbrev pub four_of : List ℕ → Tables → Four
four_of w t = four w (words t.clauses.now) (words t.atoms.now) (words t.deferrals.now)

-- what does not change, as it stands in the counters and in scratch
pub record EnvIn (env : Env) (k : Counters) (w : List ℕ) : Type 0 where
  pub nominals : k.nominal_base ≡ env.nominal_base
  pub option : card_disjunct_atoms k.options ≡ env.card_disjunct_atoms
  pub names : equal_names k.options ≡ env.equal_names
  pub keys : KeysHeld w env.dkey_classes
  pub no_keys : (a : ℕ) → most_classes ≤ a → contains env.dkey_classes a ≡ false
  pub roles : RolesHeld w env.inverse_canon

-- and in the tables' sizes
pub record EnvHeld (env : Env) (k : Counters) (x : Four) : Type 0 where
  pub read : EnvIn env k x.scratch
  pub lent : Lent env.rooms x.clauses x.atoms x.deferrals

-- a call with the body b in hand did what the rule does, at every bound from low on; below the top of the body scratch is as it was
pub record Did {A : Type 0} (value : A → ℕ) (low : ℕ) (rule : Env → ℕ → List Atom → Out → Res Out A) (k : Counters) (base n : ℕ) (x y : Four) (r : Answer) : Type 0 where
  pub equal : (env : Env) (f : ℕ) (b : List Atom) (s : Out) → low ≤ f → EnvHeld env k x → InHand x.scratch base n b → tables k x.clauses x.atoms x.deferrals ≡ show k env.rooms s
      → after r y.clauses y.atoms y.deferrals ≡ shown value k env.rooms (rule env f b s)
  pub frame : take (6 * (base + n)) y.scratch ≡ take (6 * (base + n)) x.scratch
  pub good : GoodAnswer r
  pub kept : KeptAnswer k r

-- w has the limits that wait after an answer, behind p
abbrev pub Waiting : {A : Type 0} → List ℕ → List Limit → Res Out A → Type 0
Waiting w p X = Post (λ _ t. Waits w (p ++ t.limits)) X

-- and where scratch has the limits that wait, behind any others, it has those that wait after the rule
pub record Queues {A : Type 0} (low : ℕ) (rule : Env → ℕ → List Atom → Out → Res Out A) (k : Counters) (base n : ℕ) (x y : Four) : Type 0 where
  pub waits : (env : Env) (f : ℕ) (b : List Atom) (s : Out) (p : List Limit) → low ≤ f → EnvHeld env k x → InHand x.scratch base n b → tables k x.clauses x.atoms x.deferrals ≡ show k env.rooms s
      → Waits x.scratch (p ++ s.limits) → Waiting y.scratch p (rule env f b s)
