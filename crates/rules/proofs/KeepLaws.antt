-- What every rule that emits keeps, over one pool: whatever a clause or a deferral that the tables still hold keeps, a limit that
-- begins to wait, and counters that grow. R are the refusals that are met: every number, where nothing is asked of the pool; or
-- every number but 0, where no bound of these rules is too small (Reach). Assumes nothing.
use Rattle.std.specs.Prelude.{◌≡◌, Bool, not, ◌&&◌, ◌||◌, eqb}
use Rattle.std.proofs.Math.Path.{refl}
use Rattle.std.proofs.Math.Bool.{true, false}
use mathlib.Core.List.{List, [], ◌∷◌, ◌++◌, map}
use Rattle.std.proofs.Math.Option.{Option, none, some}
use Prim.Native.Nat.{ℕ, zero, suc, ◌+◌, ◌≤◌, ◌<◌}
use Rattle.std.proofs.Common.{arith, ltb-true, leb-true}
use Rattle.std.proofs.Math.ListN.{length}
use Rattle.std.proofs.Math.Dec.{ltb, leb}
use Rattle.std.proofs.lemmas.Bool.{and_parts}
use Rattle.ir.specs.Pick.{pick}
use Rattle.ir.specs.declared.role.Role.{Role}
use Rattle.ir.specs.declared.atom.Atom.{Atom}
use Rattle.ir.specs.declared.atom.Atom.TheVariants.{Class, Role as RoleAtom}
use Rattle.ir.specs.declared.deferral.Deferral.{Deferral}
use Rattle.ir.specs.declared.deferral.Deferral.TheVariants.{DisjointUnionMember, DisjointUnionCovering, RoleChainLenNe2, Antecedent, HeadOrDisjunct, HeadNotNonatomic}
use Rattle.rules.specs.Base.{return, refuse, all, for_each, ◌>>=◌, ◌>>◌, ok}
use Rattle.rules.specs.Concept.{Concept}
use Rattle.rules.specs.Concept.{Top, Bot, Atomic, Nominal, SelfRestriction, Not, And, Or, Some, All, Min, Max}
use Rattle.rules.specs.Pool.{Pool, at}
use Rattle.rules.specs.State.{clause, total, Env, Out, out, E, canon, most_in_hand, begun, visit, restart_vars, fresh_var, fresh_class, longer, with, push_in, push, defer_in, defer, class_id_of, is_dkey, await, with_limits}
use Rattle.rules.specs.Antecedents.{Alternatives, antecedent_dnf_cap, cross, in_hand, within, and_with, encode_and, or_with, encode_or, some_with, encode_step, encode_by, encode_antecedent}
use Rattle.rules.specs.Heads.{Emits, is_top, is_dkey_qualifier, name_or, atomic_name_of, qualifier_or, cardinality_qualifier, name_atom, not_atom, max_atom, min_atom, compound_atom, atom_or, head_atom_for, head_or, heads, push_heads, emit_not, unless_dkey, emit_step, emit_by, emit_head, limit_qualifier, named_anew}
use Rattle.rules.specs.Axioms.{Parts, emit_bodies, sorted, partition, bodies_or_defer, push_pair, push_pairs, pair_with, member_with, cover_with, cover, domain, range, chain, chain_of, asymmetric, disjoint_roles}
use Rattle.rules.specs.Invariants.{Each}
use Rattle.rules.specs.Post.{Post, post_every}
use Rattle.rules.specs.Ends.{EndsBy, stops_by, end_by, by_then, by_post}
use Rattle.rules.specs.EachLaws.{each_snoc, each_unit}
use Rattle.rules.proofs.EmitLaws.{pushed, deferred, awaiting}

-- kept by the small steps
pub record Invariant (env : Env) (J : Out → Type 0) : Type 0 where
  pub counts : (s : Out) (v x q : ℕ) → s.visits ≤ v → s.next_fresh ≤ q → J s → J (out v s.limit x q s.clauses s.deferrals s.line s.limits)
  pub pushes : (s : Out) (b h : List Atom) → length s.clauses < env.rooms.clauses → total s.clauses + length (b ++ h) ≤ env.rooms.atoms → J s → J (pushed b h s)
  pub defers : (s : Out) (k : Deferral) → length s.deferrals < env.rooms.deferrals → J s → J (deferred k s)

-- kept by a rule, whose refusal is one of R
pub record Keeps (R : ℕ → Type 0) (J : Out → Type 0) {A : Type 0} (m : E A) : Type 0 where
  pub run : (s : Out) → J s → EndsBy R (λ _ t. J t) (m s)

-- P of the ids that a record names
abbrev pub PartsIn : (ℕ → Type 0) → Concept → Type 0
PartsIn P Top = Unit {0}
PartsIn P Bot = Unit {0}
PartsIn P (Atomic _) = Unit {0}
PartsIn P (Nominal _) = Unit {0}
PartsIn P (SelfRestriction _) = Unit {0}
PartsIn P (Not c) = P c
PartsIn P (And l) = Each P l
PartsIn P (Or l) = Each P l
PartsIn P (Some _ c) = P c
PartsIn P (All _ c) = P c
PartsIn P (Min _ _ c) = P c
PartsIn P (Max _ _ c) = P c

-- the ids at which a recursive rule may be called by a bound: with an id those that its record names, by one less; and by 0 none,
-- unless the refusal 0 is met
pub record Reach (R : ℕ → Type 0) (pool : Pool) (At : ℕ → ℕ → Type 0) : Type 0 where
  pub none : (c : ℕ) → At zero c → R 0
  pub down : (f c : ℕ) → At (suc f) c → PartsIn (At f) (at pool c)
  pub up : (f c : ℕ) → At f c → At (suc f) c

-- conjuncts with P, sorted
pub record Sorted (J : Out → Type 0) (P : ℕ → Type 0) (parts : Parts) (t : Out) : Type 0 where
  pub kept : J t
  pub soft : Each P parts.soft
  pub hard : Each P parts.hard

-- ---- rules in a row
module _ {R : ℕ → Type 0} {J : Out → Type 0} where
  pub keeps_return : {A : Type 0} (a : A) → Keeps R J (return a)
  keeps_return a = record { run = λ s j. end_by j }

  pub keeps_then : {A B : Type 0} {m : E A} {f : A → E B} → Keeps R J m → ((a : A) → Keeps R J (f a)) → Keeps R J (m >>= f)
  keeps_then h k = record { run = λ s j. by_then (h.run s j) (λ a t i. (k a).run t i) }

  -- as a law of one run
  pub keeps_post : {A : Type 0} {m : E A} → Keeps R J m → (s : Out) → Post (λ _ t. J s → J t) (m s)
  keeps_post h s = post_every (λ j. by_post (h.run s j))

  pub keeps_each : {A : Type 0} (Q : A → Type 0) {f : A → E (Unit {0})} → ((a : A) → Q a → Keeps R J (f a)) → (l : List A) → Each Q l → Keeps R J (for_each f l)
  unfolding for_each
  keeps_each Q h [] u = keeps_return tt
  keeps_each Q h (a ∷ l) u = keeps_then (h a u.0) (λ _. keeps_each Q h l u.1)

-- ---- the small steps
module _ (R : ℕ → Type 0) (others : (k : ℕ) → R (suc k)) (env : Env) (J : Out → Type 0) (I : Invariant env J) where
  pub keeps_refuse : {A : Type 0} (k : ℕ) → Keeps R J {A = A} (refuse (suc k))
  keeps_refuse k = record { run = λ s j. stops_by (others k) }

  pub keeps_within : (long few : Bool) (l : Alternatives) (rest : Alternatives → E (Option Alternatives)) → ((k : Alternatives) → Keeps R J (rest k)) → Keeps R J (within long few l rest)
  keeps_within false few l rest h = keeps_refuse 11
  keeps_within true false l rest h = keeps_return none
  keeps_within true true l rest h = h l

  pub keeps_with : (l : List Atom) (a : Atom) → Keeps R J (with l a)
  unfolding with
  keeps_with l a = go (ltb (length l) most_in_hand)
    where
      go : (b : Bool) → Keeps R J (longer l a b)
      go true = keeps_return (l ++ (a ∷ []))
      go false = keeps_refuse 11

  pub keeps_visit : Keeps R J visit
  unfolding visit
  keeps_visit = record { run = λ s j. go s j (ltb s.visits s.limit) }
    where
      go : (s : Out) → J s → (b : Bool) → EndsBy R (λ _ t. J t) (begun s b)
      go s j true = end_by (I.counts s (s.visits + 1) s.next_var s.next_fresh (omega arith) (omega arith) j)
      go s j false = stops_by (others 9)

  pub keeps_restart : Keeps R J restart_vars
  unfolding restart_vars
  keeps_restart = record { run = λ s j. end_by (I.counts s s.visits 1 s.next_fresh (omega arith) (omega arith) j) }

  pub keeps_var : Keeps R J fresh_var
  unfolding fresh_var
  keeps_var = record { run = λ s j. end_by (I.counts s s.visits (s.next_var + 1) s.next_fresh (omega arith) (omega arith) j) }

  pub keeps_class : Keeps R J fresh_class
  unfolding fresh_class
  keeps_class = record { run = λ s j. end_by (I.counts s s.visits s.next_var (s.next_fresh + 1) (omega arith) (omega arith) j) }

  pub keeps_push : (b h : List Atom) → Keeps R J (push env b h)
  unfolding push
  keeps_push b h = record { run = λ s j. go s j (ltb (length s.clauses) env.rooms.clauses && leb (total s.clauses + length (b ++ h)) env.rooms.atoms) refl }
    where
      go : (s : Out) → J s → (k : Bool) → (ltb (length s.clauses) env.rooms.clauses && leb (total s.clauses + length (b ++ h)) env.rooms.atoms) ≡ k
          → EndsBy R (λ _ t. J t) (push_in (clause b h) s k)
      go s j false e = stops_by (others 11)
      go s j true e =
          let q = and_parts (ltb (length s.clauses) env.rooms.clauses) (leb (total s.clauses + length (b ++ h)) env.rooms.atoms) e in
          end_by (I.pushes s b h (ltb-true (length s.clauses) env.rooms.clauses q.0) (leb-true (total s.clauses + length (b ++ h)) env.rooms.atoms q.1) j)

  pub keeps_defer : (k : Deferral) → Keeps R J (defer env k)
  unfolding defer
  keeps_defer k = record { run = λ s j. go s j (ltb (length s.deferrals) env.rooms.deferrals) refl }
    where
      go : (s : Out) → J s → (b : Bool) → ltb (length s.deferrals) env.rooms.deferrals ≡ b → EndsBy R (λ _ t. J t) (defer_in k s b)
      go s j false e = stops_by (others 11)
      go s j true e = end_by (I.defers s k (ltb-true (length s.deferrals) env.rooms.deferrals e) j)

  -- ---- rules of axioms that look at no part of a concept
  -- from variable 1
  pub restarted_keeps : {A : Type 0} {m : E A} → Keeps R J m → Keeps R J (restart_vars >> m)
  restarted_keeps h = keeps_then keeps_restart (λ _. h)

  pub keeps_pairs : (k l : Alternatives) → Keeps R J (push_pairs env k l)
  unfolding push_pairs
  keeps_pairs k l = keeps_each (λ _. Unit {0}) (λ a _. keeps_each (λ _. Unit {0}) (λ b _. go (a ++ b) (in_hand (a ++ b))) l (each_unit l)) k (each_unit k)
    where
      go : (b : List Atom) (t : Bool) → Keeps R J (push_pair env b t)
      go b true = keeps_push b []
      go b false = keeps_refuse 11

  pub keeps_pair : (other : E (Unit {0})) → Keeps R J other → (k l : Option Alternatives) → Keeps R J (pair_with env other k l)
  keeps_pair other h none l = h
  keeps_pair other h (some k) none = h
  keeps_pair other h (some k) (some l) = keeps_pairs k l

  pub keeps_member : (class : ℕ) (o : Option Alternatives) → Keeps R J (member_with env class o)
  keeps_member class none = keeps_defer DisjointUnionMember
  keeps_member class (some l) = keeps_each (λ _. Unit {0}) (λ b _. keeps_push b (Class class 0 ∷ [])) l (each_unit l)

  pub keeps_cover : (pool : Pool) (class : ℕ) (l : List ℕ) (head : List Atom) → Keeps R J (cover env pool class l head)
  unfolding cover
  keeps_cover pool class [] head = keeps_push (Class class 0 ∷ []) head
  keeps_cover pool class (m ∷ l) head = go (λ more. keeps_cover pool class l more) (class_id_of env (at pool m))
    where
      go : ((more : List Atom) → Keeps R J (cover env pool class l more)) → (o : Option ℕ) → Keeps R J (cover_with env (λ more. cover env pool class l more) head o)
      go rest none = keeps_defer DisjointUnionCovering
      go rest (some c) = keeps_then (keeps_with head (Class c 0)) rest

  pub keeps_chain : (r₁ r₂ r₃ : Role) (pool : Pool) → Keeps R J (chain env r₁ r₂ r₃ pool)
  unfolding chain
  keeps_chain r₁ r₂ r₃ pool = restarted_keeps (keeps_then keeps_var (λ y. keeps_then keeps_var (λ z. keeps_push _ _)))

  pub keeps_chain_of : (sup : Role) (parts : List Role) (pool : Pool) → Keeps R J (chain_of env sup parts pool)
  keeps_chain_of sup [] pool = keeps_defer RoleChainLenNe2
  keeps_chain_of sup (a ∷ []) pool = keeps_defer RoleChainLenNe2
  keeps_chain_of sup (a ∷ b ∷ []) pool = keeps_chain a b sup pool
  keeps_chain_of sup (a ∷ b ∷ c ∷ l) pool = keeps_defer RoleChainLenNe2

  pub keeps_asymmetric : (r : Role) (pool : Pool) → Keeps R J (asymmetric env r pool)
  unfolding asymmetric
  keeps_asymmetric r pool = restarted_keeps (keeps_then keeps_var (λ y. keeps_push _ _))

  pub keeps_roles : (p : Role × Role) (pool : Pool) (b : Bool) → Keeps R J (disjoint_roles env p pool b)
  keeps_roles p pool true = keeps_return tt
  keeps_roles p pool false = restarted_keeps (keeps_then keeps_var (λ y. keeps_push _ _))

  -- ---- rules that only read the pool
  module _ (pool : Pool) (At : ℕ → ℕ → Type 0) (reach : Reach R pool At) where
    -- ---- antecedents: what encodes the concepts with P
    module _ (encode : ℕ → ℕ → E (Option Alternatives)) (P : ℕ → Type 0) (W : (c v : ℕ) → P c → Keeps R J (encode c v)) where
      keeps_and : (l : List ℕ) (v : ℕ) (acc : Alternatives) → Each P l → Keeps R J (encode_and env pool encode l v acc)
      unfolding encode_and
      keeps_and [] v acc u = keeps_return (some acc)
      keeps_and (c ∷ l) v acc u = keeps_then (W c v u.0) (go (λ next. keeps_and l v next u.1))
        where
          go : ((next : Alternatives) → Keeps R J (encode_and env pool encode l v next)) → (o : Option Alternatives) → Keeps R J (and_with env pool encode (λ next. encode_and env pool encode l v next) acc o)
          go rest none = keeps_return none
          go rest (some k) = keeps_within (all in_hand (cross acc k)) (leb (length (cross acc k)) antecedent_dnf_cap) (cross acc k) (λ next. encode_and env pool encode l v next) rest

      keeps_or : (l : List ℕ) (v : ℕ) (acc : Alternatives) → Each P l → Keeps R J (encode_or env pool encode l v acc)
      unfolding encode_or
      keeps_or [] v acc u = keeps_return (some acc)
      keeps_or (c ∷ l) v acc u = keeps_then (W c v u.0) (go (λ next. keeps_or l v next u.1))
        where
          go : ((next : Alternatives) → Keeps R J (encode_or env pool encode l v next)) → (o : Option Alternatives) → Keeps R J (or_with env pool encode (λ next. encode_or env pool encode l v next) acc o)
          go rest none = keeps_return none
          go rest (some k) = keeps_within true (leb (length (acc ++ k)) antecedent_dnf_cap) (acc ++ k) (λ next. encode_or env pool encode l v next) rest

      keeps_some : (a : Atom) (o : Option Alternatives) → Keeps R J (some_with env pool encode a o)
      keeps_some a none = keeps_return none
      keeps_some a (some l) = keeps_within (all in_hand (map (λ b. a ∷ b) l)) true (map (λ b. a ∷ b) l) (λ k. return (some k)) (λ k. keeps_return (some k))

      keeps_encode_step : (v : ℕ) (e : Concept) → PartsIn P e → Keeps R J (encode_step env pool encode v e)
      unfolding encode_step
      keeps_encode_step v Top u = keeps_return _
      keeps_encode_step v Bot u = keeps_return _
      keeps_encode_step v (Atomic a) u = keeps_return _
      keeps_encode_step v (Nominal i) u = keeps_return _
      keeps_encode_step v (SelfRestriction _) u = keeps_return _
      keeps_encode_step v (Not _) u = keeps_return _
      keeps_encode_step v (And l) u = keeps_and l v ([] ∷ []) u
      keeps_encode_step v (Or l) u = keeps_or l v [] u
      keeps_encode_step v (Some r d) u = keeps_then keeps_var (λ y. keeps_then (W d y u) (λ o. keeps_some (RoleAtom (canon env r) v y) o))
      keeps_encode_step v (All _ _) u = keeps_return _
      keeps_encode_step v (Min _ _ _) u = keeps_return _
      keeps_encode_step v (Max _ _ _) u = keeps_return _

    pub keeps_encode : (f c v : ℕ) → At f c → Keeps R J (encode_by env pool f c v)
    unfolding encode_by
    keeps_encode zero c v h = record { run = λ s j. stops_by (reach.none c h) }
    keeps_encode (suc f) c v h = keeps_then keeps_visit (λ _. keeps_encode_step (λ d u. encode_by env pool f d u) (At f) (λ d u i. keeps_encode f d u i) v (at pool c) (reach.down f c h))

    -- ---- heads: what emits the concepts with P
    module _ (emit : Emits) (P : ℕ → Type 0) (closed : (c : ℕ) → P c → PartsIn P (at pool c)) (awaits : (c : ℕ) → P c → env.equal_names ≡ true → (s : Out) → J s → J (awaiting c s))
        (W : (b : List Atom) (c v : ℕ) → P c → Keeps R J (emit b c v)) where
      keeps_name_or : (c : ℕ) → P c → (o : Option ℕ) → Keeps R J (name_or env pool emit c o)
      unfolding name_or
      keeps_name_or c h (some a) = keeps_return a
      keeps_name_or c h none = keeps_then keeps_class (λ q. keeps_then (W (Class q 0 ∷ []) c 0 h) (λ _. keeps_return q))

      keeps_name : (c : ℕ) → P c → Keeps R J (atomic_name_of env pool emit c)
      unfolding atomic_name_of
      keeps_name c h = keeps_then keeps_visit (λ _. keeps_name_or c h (class_id_of env (at pool c)))

      keeps_qualifier : (c : ℕ) → P c → Keeps R J (cardinality_qualifier env pool emit c)
      unfolding cardinality_qualifier qualifier_or
      keeps_qualifier c h = go (is_top (at pool c))
        where
          go : (b : Bool) → Keeps R J (qualifier_or env pool emit c b)
          go true = keeps_return _
          go false = keeps_then (keeps_name c h) (λ q. keeps_return _)

      -- the filler of a limit
      keeps_await : (c : ℕ) → P c → (b : Bool) → Keeps R J (await env c b)
      unfolding await
      keeps_await c h b = record { run = λ s j. go s j (env.equal_names && b) refl }
        where
          go : (s : Out) → J s → (k : Bool) → (env.equal_names && b) ≡ k → EndsBy R (λ (_ : Unit {0}) t. J t) (ok tt (with_limits (pick k (s.limits ++ (record { filler = c; name = s.next_fresh } ∷ [])) s.limits) s))
          go s j true e = end_by (awaits c h (and_parts env.equal_names b e).0 s j)
          go s j false e = end_by j

      keeps_limit : (c : ℕ) → P c → Keeps R J (limit_qualifier env pool emit c)
      unfolding limit_qualifier
      keeps_limit c h = keeps_then (keeps_await c h (named_anew env (at pool c))) (λ _. keeps_qualifier c h)

      keeps_name_atom : (c v : ℕ) → P c → Keeps R J (name_atom env pool emit c v)
      unfolding name_atom
      keeps_name_atom c v h = keeps_then (keeps_name c h) (λ q. keeps_return _)

      keeps_auxiliary : (v : ℕ) (b : ℕ → List Atom) → Keeps R J (fresh_class >>= (λ q. push env (b q) [] >> return (some (Class q v))))
      keeps_auxiliary v b = keeps_then keeps_class (λ q. keeps_then (keeps_push (b q) []) (λ _. keeps_return _))

      keeps_not_atom : (v : ℕ) (e : Concept) (o : Option ℕ) → Keeps R J (not_atom env pool emit v e o)
      unfolding not_atom
      keeps_not_atom v e (some a) = keeps_auxiliary v (λ q. Class q 0 ∷ Class a 0 ∷ [])
      keeps_not_atom v Top none = keeps_return none
      keeps_not_atom v Bot none = keeps_return none
      keeps_not_atom v (Atomic _) none = keeps_return none
      keeps_not_atom v (Nominal _) none = keeps_return none
      keeps_not_atom v (SelfRestriction r) none = keeps_auxiliary v (λ q. Class q 0 ∷ RoleAtom (canon env r) 0 0 ∷ [])
      keeps_not_atom v (Not _) none = keeps_return none
      keeps_not_atom v (And _) none = keeps_return none
      keeps_not_atom v (Or _) none = keeps_return none
      keeps_not_atom v (Some _ _) none = keeps_return none
      keeps_not_atom v (All _ _) none = keeps_return none
      keeps_not_atom v (Min _ _ _) none = keeps_return none
      keeps_not_atom v (Max _ _ _) none = keeps_return none

      keeps_max_atom : (c v k : ℕ) (r : Role) (d : ℕ) → P c → P d → (b : Bool) → Keeps R J (max_atom env pool emit c v k r d b)
      unfolding max_atom
      keeps_max_atom c v k r d h i true = keeps_name_atom c v h
      keeps_max_atom c v k r d h i false = keeps_then (keeps_limit d i) (λ q. keeps_return _)

      keeps_min_atom : (c v k : ℕ) (r : Role) (d : ℕ) → P c → P d → (b : Bool) → Keeps R J (min_atom env pool emit c v k r d b)
      unfolding min_atom
      keeps_min_atom c v k r d h i true = keeps_name_atom c v h
      keeps_min_atom c v k r d h i false = keeps_then (keeps_qualifier d i) (λ q. keeps_return _)

      keeps_compound : (c v : ℕ) → P c → (e : Concept) → PartsIn P e → Keeps R J (compound_atom env pool emit c v e)
      unfolding compound_atom
      keeps_compound c v h Top u = keeps_name_atom c v h
      keeps_compound c v h Bot u = keeps_name_atom c v h
      keeps_compound c v h (Atomic _) u = keeps_name_atom c v h
      keeps_compound c v h (Nominal _) u = keeps_name_atom c v h
      keeps_compound c v h (SelfRestriction _) u = keeps_name_atom c v h
      keeps_compound c v h (Not d) u = keeps_not_atom v (at pool d) (class_id_of env (at pool d))
      keeps_compound c v h (And _) u = keeps_name_atom c v h
      keeps_compound c v h (Or _) u = keeps_name_atom c v h
      keeps_compound c v h (Some r d) u = keeps_then (keeps_name d u) (λ q. keeps_return _)
      keeps_compound c v h (All _ _) u = keeps_name_atom c v h
      keeps_compound c v h (Min k r d) u = keeps_min_atom c v k r d h u (not env.card_disjunct_atoms || (eqb k 0 || is_dkey env (class_id_of env (at pool d))))
      keeps_compound c v h (Max k r d) u = keeps_max_atom c v k r d h u (not env.card_disjunct_atoms || is_dkey env (class_id_of env (at pool d)))

      keeps_head_atom : (c v : ℕ) → P c → Keeps R J (head_atom_for env pool emit c v)
      unfolding head_atom_for atom_or
      keeps_head_atom c v h = keeps_then keeps_visit (λ _. go (class_id_of env (at pool c)))
        where
          go : (o : Option ℕ) → Keeps R J (atom_or env pool emit c v o)
          go (some a) = keeps_return _
          go none = keeps_compound c v h (at pool c) (closed c h)

      keeps_heads : (l : List ℕ) (v : ℕ) (hs : List Atom) → Each P l → Keeps R J (heads env pool emit l v hs)
      unfolding heads
      keeps_heads [] v hs u = keeps_return (some hs)
      keeps_heads (c ∷ l) v hs u = keeps_then (keeps_head_atom c v u.0) (go (λ more. keeps_heads l v more u.1))
        where
          go : ((more : List Atom) → Keeps R J (heads env pool emit l v more)) → (o : Option Atom) → Keeps R J (head_or env pool emit (λ more. heads env pool emit l v more) hs o)
          go rest none = keeps_return none
          go rest (some a) = keeps_then (keeps_with hs a) rest

      keeps_push_heads : (b : List Atom) (o : Option (List Atom)) → Keeps R J (push_heads env pool emit b o)
      keeps_push_heads b none = keeps_defer HeadOrDisjunct
      keeps_push_heads b (some hs) = keeps_push b hs

      keeps_denial : (b : List Atom) (a : Atom) → Keeps R J (with b a >>= (λ more. push env more []))
      keeps_denial b a = keeps_then (keeps_with b a) (λ more. keeps_push more [])

      keeps_not : (b : List Atom) (v : ℕ) (e : Concept) (o : Option ℕ) → Keeps R J (emit_not env pool emit b v e o)
      unfolding emit_not
      keeps_not b v e (some a) = keeps_denial b (Class a v)
      keeps_not b v Top none = keeps_defer HeadNotNonatomic
      keeps_not b v Bot none = keeps_defer HeadNotNonatomic
      keeps_not b v (Atomic _) none = keeps_defer HeadNotNonatomic
      keeps_not b v (Nominal _) none = keeps_defer HeadNotNonatomic
      keeps_not b v (SelfRestriction r) none = keeps_denial b (RoleAtom (canon env r) v v)
      keeps_not b v (Not _) none = keeps_defer HeadNotNonatomic
      keeps_not b v (And _) none = keeps_defer HeadNotNonatomic
      keeps_not b v (Or _) none = keeps_defer HeadNotNonatomic
      keeps_not b v (Some _ _) none = keeps_defer HeadNotNonatomic
      keeps_not b v (All _ _) none = keeps_defer HeadNotNonatomic
      keeps_not b v (Min _ _ _) none = keeps_defer HeadNotNonatomic
      keeps_not b v (Max _ _ _) none = keeps_defer HeadNotNonatomic

      keeps_unless : (b : List Atom) (a : Atom) (k : Bool) → Keeps R J (unless_dkey env pool emit b a k)
      keeps_unless b a true = keeps_return tt
      keeps_unless b a false = keeps_push b (a ∷ [])

      keeps_emit_step : (b : List Atom) (v : ℕ) (e : Concept) → PartsIn P e → Keeps R J (emit_step env pool emit b v e)
      unfolding emit_step
      keeps_emit_step b v Top u = keeps_return tt
      keeps_emit_step b v Bot u = keeps_push b []
      keeps_emit_step b v (Atomic a) u = keeps_push b _
      keeps_emit_step b v (Nominal i) u = keeps_push b _
      keeps_emit_step b v (And l) u = keeps_each P (λ c h. W b c v h) l u
      keeps_emit_step b v (Or l) u = keeps_then (keeps_heads l v [] u) (λ o. keeps_push_heads b o)
      keeps_emit_step b v (Some r d) u = keeps_then (keeps_name d u) (λ q. keeps_push b _)
      keeps_emit_step b v (All r d) u = keeps_then keeps_var (λ y. keeps_then (keeps_with b _) (λ more. W more d y u))
      keeps_emit_step b v (Not d) u = keeps_not b v (at pool d) (class_id_of env (at pool d))
      keeps_emit_step b v (Min zero r d) u = keeps_return tt
      keeps_emit_step b v (Min (suc k) r d) u = keeps_then (keeps_qualifier d u) (λ q. keeps_unless b _ (is_dkey_qualifier env q))
      keeps_emit_step b v (Max k r d) u = keeps_then (keeps_limit d u) (λ q. keeps_unless b _ (is_dkey_qualifier env q))
      keeps_emit_step b v (SelfRestriction r) u = keeps_push b _

    -- ---- as an axiom's rules call them
    pub keeps_antecedent : (c : ℕ) → At (suc c) c → Keeps R J (encode_antecedent env pool c 0)
    keeps_antecedent c h = keeps_encode (suc c) c 0 h

    -- the conjuncts of an antecedent, sorted
    pub keeps_partition : (l soft hard : List ℕ) → Each (λ p. At (suc p) p) l → Each (λ p. At (suc p) p) soft → Each (λ p. At (suc p) p) hard → (s : Out) → J s → EndsBy R (Sorted J (λ p. At (suc p) p)) (partition env pool l soft hard s)
    unfolding partition
    keeps_partition [] soft hard u v w s j = end_by (record { kept = j; soft = v; hard = w })
    keeps_partition (p ∷ l) soft hard u v w s j =
        by_then (keeps_restart.run s j) (λ _ r i.
        by_then ((keeps_antecedent p u.0).run r i) (λ o t k. go t (λ a b x y. keeps_partition l a b u.1 x y t k) o))
      where
        go : (t : Out) → ((a b : List ℕ) → Each (λ p. At (suc p) p) a → Each (λ p. At (suc p) p) b → EndsBy R (Sorted J (λ p. At (suc p) p)) (partition env pool l a b t))
            → (o : Option Alternatives) → EndsBy R (Sorted J (λ p. At (suc p) p)) (sorted env (λ a b. partition env pool l a b) soft hard p o t)
        go t rest none = rest soft (hard ++ (p ∷ [])) v (each_snoc (λ p. At (suc p) p) hard p w u.0)
        go t rest (some k) = rest (soft ++ (p ∷ [])) hard (each_snoc (λ p. At (suc p) p) soft p v u.0) w

    -- ---- heads, with their limits
    module _ (awaits : (f c : ℕ) → At f c → env.equal_names ≡ true → (s : Out) → J s → J (awaiting c s)) where
      pub keeps_emit : (f : ℕ) (b : List Atom) (c v : ℕ) → At f c → Keeps R J (emit_by env pool f b c v)
      unfolding emit_by
      keeps_emit zero b c v h = record { run = λ s j. stops_by (reach.none c h) }
      keeps_emit (suc f) b c v h = keeps_then keeps_visit (λ _.
          keeps_emit_step (λ a d u. emit_by env pool f a d u) (At f) (λ d i. reach.down f d (reach.up f d i)) (awaits f) (λ a d u i. keeps_emit f a d u i) b v (at pool c) (reach.down f c h))

      pub keeps_head : (b : List Atom) (c v : ℕ) → At (suc c) c → Keeps R J (emit_head env pool b c v)
      keeps_head b c v h = keeps_emit (suc c) b c v h

      pub keeps_bodies : (l : Alternatives) (c : ℕ) → At (suc c) c → Keeps R J (emit_bodies env pool l c)
      unfolding emit_bodies
      keeps_bodies l c h = keeps_each (λ _. Unit {0}) (λ b _. keeps_head b c 0 h) l (each_unit l)

      pub keeps_bodies_or : (c : ℕ) → At (suc c) c → (o : Option Alternatives) → Keeps R J (bodies_or_defer env pool c o)
      keeps_bodies_or c h none = keeps_defer Antecedent
      keeps_bodies_or c h (some l) = keeps_bodies l c h

      pub keeps_domain : (r : Role) (c : ℕ) → At (suc c) c → Keeps R J (domain env r c pool)
      unfolding domain
      keeps_domain r c h = restarted_keeps (keeps_then keeps_var (λ y. keeps_head _ c 0 h))

      pub keeps_range : (r : Role) (c : ℕ) → At (suc c) c → Keeps R J (range env r c pool)
      unfolding range
      keeps_range r c h = restarted_keeps (keeps_then keeps_var (λ y. keeps_head _ c y h))
