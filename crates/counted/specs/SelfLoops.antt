-- add_counted_self_loops as the code does it: each loop is pushed at once, and the loops so far are the clauses from number `from` on.
use Rattle.std.specs.Prelude.{◌≡◌, Bool, true, false, List, [], ◌∷◌, ℕ, ◌+◌, ◌*◌, ◌<◌, ◌≤◌, ◌^◌, length, get_or, take, drop}
use Prim.{Unit, tt}
use Rattle.ir.specs.Roles.{role_id}
use Rattle.ir.specs.declared.role.Role.{Role}
use Rattle.ir.specs.declared.counters.Counters.{Counters}
use Rattle.ir.specs.Answer.{Answer}
use Rattle.ir.specs.Answer.{Done, Refused}
use Rattle.ir.specs.declared.atom.Atom.{Atom}
use Rattle.ir.specs.declared.atom.Atom.TheVariants.{Class, Exists, AtMost, AtLeast, Equal, Role as RoleAtom}
use Rattle.rules.specs.Base.{Res, ok, ◌>>=◌, ◌>>◌, return, contains}
use Rattle.rules.specs.Deck.{most_roles}
use Rattle.rules.specs.Invariants.{Each, Bounds, ClauseIn}
use Rattle.rules.specs.State.{Clause, clause, Env, Out, E, with, push}
use Rattle.rules.specs.Run.{clause_words}
use Rattle.rules.specs.Reflexive.{contains_clause, next_var_of}
use Rattle.contraction.specs.Passes.{Drawn}
use Rattle.counted.specs.StandingLaws.{nth}

module _ (env : Env) (set : List ℕ) (from : ℕ) where
  abbrev pub push_new : Clause → Out → Bool → Res Out (Unit {0})
  push_new x s true = ok tt s
  push_new x s false = push env x.body x.head s

  abbrev pub push_over : Clause → Role → ℕ → Bool → E (Unit {0})
  push_over c r v false = return tt
  push_over c r v true = with c.body (RoleAtom r v (next_var_of c)) >>= (λ body s. push_new (clause body (RoleAtom r v v ∷ [])) s (contains_clause (drop from s.clauses) (clause body (RoleAtom r v v ∷ []))))

  abbrev pub push_of : Clause → Atom → E (Unit {0})
  push_of c (Class _ _) = return tt
  push_of c (RoleAtom _ _ _) = return tt
  push_of c (Exists _ _ _) = return tt
  push_of c (AtMost r q n v) = push_over c r v (contains set (role_id r))
  push_of c (AtLeast _ _ _ _) = return tt
  push_of c (Equal _ _) = return tt

  unfoldable pub push_head : Clause → List Atom → E (Unit {0})
  push_head c [] = return tt
  push_head c (a ∷ l) = do
    push_of c a
    push_head c l

  unfoldable pub push_all : List Clause → E (Unit {0})
  push_all [] = return tt
  push_all (c ∷ l) = do
    push_head c c.head
    push_all l

-- of head atom j of clause c, and of clause c
abbrev pub loop_at : ℕ → ℕ → ℕ → Env → List ℕ → E (Unit {0})
loop_at from c j env set s = push_of env set from (nth s.clauses c) (get_or (nth s.clauses c).head j (Equal 0 0)) s

abbrev pub loops_at : ℕ → ℕ → Env → List ℕ → E (Unit {0})
loops_at from c env set s = push_head env set from (nth s.clauses c) (nth s.clauses c).head s

-- the tables are drawn from a state with the clauses l
pub record Showing (k : Counters) (c a : List ℕ) (l : List Clause) : Type 0 where
  pub deferrals : List ℕ
  pub from : Drawn k c a deferrals
  pub clauses : from.state.clauses ≡ l

-- the tables while loops are pushed: the first clauses within the bounds, and the loops with one variable more
pub record Looping (k : Counters) (c a : List ℕ) (from : ℕ) : Type 0 where
  pub list : List Clause
  pub showing : Showing k c a list
  pub bounds : Bounds
  pub roles : bounds.roles ≤ most_roles
  pub fresh : ℕ
  pub classes : fresh < 2 ^ 31
  pub vars : ℕ
  pub few : vars < 2 ^ 31
  pub within : from ≤ length list
  pub old : Each (ClauseIn bounds fresh vars) (take from list)
  pub new : Each (ClauseIn bounds fresh (vars + 1)) (drop from list)

-- after a step: the rows of the first clauses are as they were
pub record Looped (k : Counters) (c c' a' : List ℕ) (from : ℕ) : Type 0 where
  pub looping : Looping k c' a' from
  pub rows : take (clause_words * from) c' ≡ take (clause_words * from) c

abbrev pub LoopedAfter : ℕ → (c c' a' : List ℕ) → Answer → Type 0
LoopedAfter from c c' a' (Done k i) = Looped k c c' a' from
LoopedAfter from c c' a' (Refused e) = Unit {0}
