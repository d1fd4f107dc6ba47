-- The turns over a clause's head atoms, and over the clauses. Assumes nothing.
use Rattle.std.specs.Prelude.{◌≡◌, Bool, ltb, length}
use Rattle.std.proofs.Math.Path.{refl}
use Rattle.std.proofs.Common.{sym, ap, ◌∙◌, drop_of_length-le}
use Rattle.std.proofs.Math.Bool.{true, false}
use mathlib.Core.List.{List, [], ◌∷◌}
use Prim.{Unit, tt}
use Prim.Native.Nat.{ℕ, suc, ◌+◌, ◌<◌, ◌≤◌, ◌^◌}
use native.Mathlib.Omega.{arith}
use Rattle.std.proofs.Math.ListN.{get_or, drop}
use Rattle.std.proofs.Math.Seq.{drop-cons}
use Rattle.ir.specs.Roles.{role_id}
use Rattle.ir.specs.declared.role.Role.{Role}
use Rattle.ir.specs.declared.counters.Counters.{Counters}
use Rattle.ir.specs.Answer.{Answer}
use Rattle.ir.specs.Answer.{Done, Refused}
use Rattle.ir.specs.declared.atom.Atom.{Atom}
use Rattle.ir.specs.declared.atom.Atom.TheVariants.{Class, Exists, AtMost, AtLeast, Equal, Role as RoleAtom}
use Rattle.rules.specs.Base.{ok, then, contains}
use Rattle.rules.specs.Added.{push_adds}
use Rattle.rules.specs.Ends.{Ends, end, stop, ends_then, ends_map}
use Rattle.rules.specs.State.{Clause, clause, Env, Out, longer, with, most_in_hand}
use Rattle.rules.specs.Reflexive.{contains_clause, next_var_of, add_counted_self_loops}
use Rattle.rules.proofs.ReflexiveLaws.{loop_clause}
use Rattle.tables.specs.Drawn.{shown}
use Rattle.tables.specs.DrawnLaws.{clauses_count}
use Rattle.tables.specs.Good.{Good}
use Rattle.hands.specs.Hands.{Four, four}
use Rattle.tables.specs.Tabled.{head_count, no_clause, Tabled}
use Rattle.contraction.specs.Passes.{Passed, Standing, StandingBelow, Drawn}
use Rattle.tables.specs.ClauseLaws.{clause_at, count_kept}
use Rattle.counted.specs.StandingLaws.{nth}
use Rattle.counted.specs.SelfLoops.{push_new, push_over, push_of, push_head, push_all, loop_at, loops_at, Looping, LoopedAfter}
use Rattle.counted.specs.LoopLaws.{pushed_loops}
use Rattle.counted.specs.LoopingLaws.{looping_within, looping_start, looping_end}
use Rattle.counted.specs.Turns.{Rule, Longer, longer_none, longer_then, longer_nth, TurnAt, turn_start, turn_next, turn_stop, turn_end}

-- what is left of the head atoms of clause i, and of the clauses
abbrev pub heads_left : ℕ → ℕ → ℕ → Out → Rule
heads_left from i j s env set t = push_head env set from (nth s.clauses i) (drop j (nth s.clauses i).head) t

abbrev pub all_loops : ℕ → Rule
all_loops from env set s = push_all env set from s.clauses s

abbrev pub clauses_left : ℕ → ℕ → Out → Rule
clauses_left from j s env set t = push_all env set from (drop j s.clauses) t

module _ (env : Env) (set : List ℕ) (from : ℕ) where
  new_grows : (x : Clause) (s : Out) (b : Bool) → Ends (λ _ t. Longer s t) (push_new env set from x s b)
  new_grows x s true = end (longer_none s)
  new_grows x s false = ends_map (push_adds env (λ _. Unit {0}) x.body x.head s tt) (λ _ t a. record { more = a.new; clauses = a.clauses })

  over_grows : (c : Clause) (r : Role) (v : ℕ) (s : Out) (b : Bool) → Ends (λ _ t. Longer s t) (push_over env set from c r v b s)
  unfolding with
  over_grows c r v s false = end (longer_none s)
  over_grows c r v s true = go (ltb (length c.body) most_in_hand)
    where
      go : (b : Bool) → Ends (λ _ t. Longer s t) (then (longer c.body (RoleAtom r v (next_var_of c)) b s) (λ body u. push_new env set from (clause body (RoleAtom r v v ∷ [])) u (contains_clause (drop from u.clauses) (clause body (RoleAtom r v v ∷ [])))))
      go true = new_grows (loop_clause c r v) s (contains_clause (drop from s.clauses) (loop_clause c r v))
      go false = stop 11

  pub of_grows : (c : Clause) (x : Atom) (s : Out) → Ends (λ _ t. Longer s t) (push_of env set from c x s)
  of_grows c (Class _ _) s = end (longer_none s)
  of_grows c (RoleAtom _ _ _) s = end (longer_none s)
  of_grows c (Exists _ _ _) s = end (longer_none s)
  of_grows c (AtMost r q n v) s = over_grows c r v s (contains set (role_id r))
  of_grows c (AtLeast _ _ _ _) s = end (longer_none s)
  of_grows c (Equal _ _) s = end (longer_none s)

  pub head_grows : (c : Clause) (l : List Atom) (s : Out) → Ends (λ _ t. Longer s t) (push_head env set from c l s)
  unfolding push_head
  head_grows c [] s = end (longer_none s)
  head_grows c (x ∷ l) s = ends_then (of_grows c x s) (λ _ t a. ends_map (head_grows c l t) (λ _ u b. longer_then a b))

  -- the next head atom
  pub head_step : (i j : ℕ) (s t : Out) → i < length s.clauses → j < length (nth s.clauses i).head → Longer s t
      → heads_left from i j s env set t ≡ then (loop_at from i j env set t) (λ _. heads_left from i (j + 1) s env set)
  unfolding push_head
  head_step i j s t h lt a =
      let x = nth s.clauses i in
      let p : j + 1 ≡ suc j = omega arith in
      let q : drop j x.head ≡ get_or x.head j (Equal 0 0) ∷ drop (suc j) x.head = drop-cons x.head j (Equal 0 0) lt in
      rw (p, q, longer_nth s t i a h) refl

  pub head_end : (i j : ℕ) (s t : Out) → length (nth s.clauses i).head ≤ j → heads_left from i j s env set t ≡ ok tt t
  unfolding push_head
  head_end i j s t h = rw (drop_of_length-le (nth s.clauses i).head {i = j} h) refl

  -- the next clause
  pub clause_step : (j : ℕ) (s t : Out) → j < length s.clauses → Longer s t → clauses_left from j s env set t ≡ then (loops_at from j env set t) (λ _. clauses_left from (j + 1) s env set)
  unfolding push_all
  clause_step j s t h a =
      let p : j + 1 ≡ suc j = omega arith in
      let q : drop j s.clauses ≡ nth s.clauses j ∷ drop (suc j) s.clauses = drop-cons s.clauses j no_clause h in
      rw (p, q, longer_nth s t j a h) refl

  pub clause_end : (j : ℕ) (s t : Out) → length s.clauses ≤ j → clauses_left from j s env set t ≡ ok tt t
  unfolding push_all
  clause_end j s t h = rw (drop_of_length-le s.clauses {i = j} h) refl

-- ---- the head atoms of clause i
abbrev pub HeadsAt : (from i : ℕ) (k : Counters) (w₀ c₀ a₀ w c a : List ℕ) → Counters → ℕ → Type 0
HeadsAt from i k w₀ c₀ a₀ w c a l j = TurnAt (loops_at from i) (heads_left from i) from k w₀ c₀ a₀ w c a l j

module _ (from i nh : ℕ) (k : Counters) (w₀ c₀ a₀ : List ℕ) (L : Looping k c₀ a₀ from) (li : i < from) (en : nh ≡ head_count c₀ i) where
  pub heads_start : Good k → HeadsAt from i k w₀ c₀ a₀ w₀ c₀ a₀ k 0
  heads_start g = turn_start (loops_at from i) (heads_left from i) from k w₀ c₀ a₀ L g (λ env set s. refl)

  heads : (s : Out) → Tabled c₀ a₀ k.clauses s.clauses → nh ≡ length (nth s.clauses i).head
  heads s T = en ∙ (clause_at c₀ a₀ k.clauses s.clauses T i (omega (arith, looping_within k c₀ a₀ from L))).head

  pub heads_end : (w c a : List ℕ) (l : Counters) (j : ℕ) → HeadsAt from i k w₀ c₀ a₀ w c a l j → nh ≤ j → (d : List ℕ) → Passed (loops_at from i) k (four w₀ c₀ a₀ d) (four w c a d) (Done l 0)
  heads_end w c a l j A h = turn_end (loops_at from i) (heads_left from i) from k w₀ c₀ a₀ w c a l j A (λ env set s t T. head_end env set from i j s t (omega (arith, heads s T)))

  module _ (w c a : List ℕ) (l : Counters) (j : ℕ) (A : HeadsAt from i k w₀ c₀ a₀ w c a l j) (lt : j < nh) where
    -- clause i has its head atoms still
    pub heads_there : j < head_count c i
    heads_there = omega (arith, count_kept c₀ c from i A.looped.rows li)

    module _ (lc : length c ≡ length c₀) (la : length a ≡ length a₀) (w' c' a' : List ℕ) (r : Answer) (P : (d : List ℕ) → Passed (loop_at from i j) l (four w c a d) (four w' c' a' d) r) where
      one_grows : (env : Env) (set : List ℕ) (t : Out) → Ends (λ _ u. Longer t u) (loop_at from i j env set t)
      one_grows env set t = of_grows env set from (nth t.clauses i) (get_or (nth t.clauses i).head j (Equal 0 0)) t

      one_step : (env : Env) (set : List ℕ) (s t : Out) → Tabled c₀ a₀ k.clauses s.clauses → Longer s t → heads_left from i j s env set t ≡ then (loop_at from i j env set t) (λ _. heads_left from i (j + 1) s env set)
      one_step env set s t T a = head_step env set from i j s t (omega (arith, T.count, looping_within k c₀ a₀ from L)) (omega (arith, heads s T)) a

      pub heads_next : LoopedAfter from c c' a' r → (m : Counters) (n : ℕ) → r ≡ Done m n → HeadsAt from i k w₀ c₀ a₀ w' c' a' m (j + 1)
      heads_next = turn_next (loops_at from i) (heads_left from i) from k w₀ c₀ a₀ w c a l j A lc la (loop_at from i j) one_grows one_step w' c' a' r P

      pub heads_stop : (x : ℕ) → r ≡ Refused x → (d : List ℕ) → Passed (loops_at from i) k (four w₀ c₀ a₀ d) (four w' c' a' d) (Refused x)
      heads_stop = turn_stop (loops_at from i) (heads_left from i) from k w₀ c₀ a₀ w c a l j A lc la (loop_at from i j) one_grows one_step w' c' a' r P

-- ---- the clauses
abbrev pub ClausesAt : (k : Counters) (w₀ c₀ a₀ w c a : List ℕ) → Counters → ℕ → Type 0
ClausesAt k w₀ c₀ a₀ w c a l j = TurnAt (all_loops k.clauses) (clauses_left k.clauses) k.clauses k w₀ c₀ a₀ w c a l j

-- what pushes them at once is the pass
pass_is : (k : Counters) (x y : Four) (r : Answer) → Passed (all_loops k.clauses) k x y r → Passed (λ env set. add_counted_self_loops env set) k x y r
pass_is k x y r P = record {
  equal = λ env set s F l e. P.equal env set s F l e
      ∙ ap (shown (λ _. 0) k env.rooms) (sym (pushed_loops env set s k.clauses (clauses_count env k s x.clauses x.atoms x.deferrals e)));
  maps = P.maps;
  good = P.good;
  kept = P.kept;
}

module _ (k : Counters) (w₀ c₀ a₀ d₀ : List ℕ) (S : Standing k c₀ a₀) (D : Drawn k c₀ a₀ d₀) where
  pub clauses_start : Good k → ClausesAt k w₀ c₀ a₀ w₀ c₀ a₀ k 0
  clauses_start g = turn_start (all_loops k.clauses) (clauses_left k.clauses) k.clauses k w₀ c₀ a₀ (looping_start k c₀ a₀ d₀ S D) g (λ env set s. refl)

  pub clauses_end : (w c a : List ℕ) (l : Counters) (j : ℕ) → ClausesAt k w₀ c₀ a₀ w c a l j → k.clauses ≤ j → (d : List ℕ) → Passed (λ env set. add_counted_self_loops env set) k (four w₀ c₀ a₀ d) (four w c a d) (Done l 0)
  clauses_end w c a l j A h d =
      pass_is k (four w₀ c₀ a₀ d) (four w c a d) (Done l 0)
      (turn_end (all_loops k.clauses) (clauses_left k.clauses) k.clauses k w₀ c₀ a₀ w c a l j A (λ env set s t T. clause_end env set k.clauses j s t (omega (arith, T.count))) d)

  pub clauses_stand : (w c a : List ℕ) (l : Counters) (j : ℕ) → ClausesAt k w₀ c₀ a₀ w c a l j → StandingBelow (2 ^ 31 + 1) l c a
  clauses_stand w c a l j A = looping_end l c a k.clauses A.looped.looping

  module _ (w c a : List ℕ) (l : Counters) (j : ℕ) (A : ClausesAt k w₀ c₀ a₀ w c a l j) (lt : j < k.clauses)
      (lc : length c ≡ length c₀) (la : length a ≡ length a₀) (w' c' a' : List ℕ) (r : Answer) (P : (d : List ℕ) → Passed (loops_at k.clauses j) l (four w c a d) (four w' c' a' d) r) where
    all_grows : (env : Env) (set : List ℕ) (t : Out) → Ends (λ _ u. Longer t u) (loops_at k.clauses j env set t)
    all_grows env set t = head_grows env set k.clauses (nth t.clauses j) (nth t.clauses j).head t

    all_step : (env : Env) (set : List ℕ) (s t : Out) → Tabled c₀ a₀ k.clauses s.clauses → Longer s t
        → clauses_left k.clauses j s env set t ≡ then (loops_at k.clauses j env set t) (λ _. clauses_left k.clauses (j + 1) s env set)
    all_step env set s t T a = clause_step env set k.clauses j s t (omega (arith, T.count)) a

    pub clauses_next : LoopedAfter k.clauses c c' a' r → (m : Counters) (n : ℕ) → r ≡ Done m n → ClausesAt k w₀ c₀ a₀ w' c' a' m (j + 1)
    clauses_next = turn_next (all_loops k.clauses) (clauses_left k.clauses) k.clauses k w₀ c₀ a₀ w c a l j A lc la (loops_at k.clauses j) all_grows all_step w' c' a' r P

    pub clauses_stop : (x : ℕ) → r ≡ Refused x → (d : List ℕ) → Passed (λ env set. add_counted_self_loops env set) k (four w₀ c₀ a₀ d) (four w' c' a' d) (Refused x)
    clauses_stop x e d =
        pass_is k (four w₀ c₀ a₀ d) (four w' c' a' d) (Refused x)
        (turn_stop (all_loops k.clauses) (clauses_left k.clauses) k.clauses k w₀ c₀ a₀ w c a l j A lc la (loops_at k.clauses j) all_grows all_step w' c' a' r P x e d)
