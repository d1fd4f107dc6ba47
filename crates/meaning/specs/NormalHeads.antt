-- emit_head of a normal concept defers nothing, and the fillers that it queues are normal. So no name's clauses are ever deferred.
-- Assumes nothing.
use Rattle.std.specs.Prelude.{◌≡◌, Bool, not, ◌&&◌, ◌||◌, eqb, ltb}
use Rattle.std.proofs.Math.Path.{refl}
use Rattle.std.proofs.Common.{sym, ap, ◌∙◌, arith}
use Rattle.std.proofs.Math.Bool.{true, false}
use mathlib.Core.List.{List, [], ◌∷◌, ◌++◌, append-nil, append_assoc}
use Rattle.std.proofs.Math.Option.{Option, none, some}
use Prim.Native.Nat.{ℕ, zero, suc, ◌+◌, ◌<◌}
use Rattle.std.proofs.Math.ListN.{length}
use Rattle.std.proofs.Math.Dec.{leb}
use Rattle.ir.specs.Pick.{pick}
use Rattle.ir.specs.declared.role.Role.{Role}
use Rattle.ir.specs.declared.atom.Atom.{Atom}
use Rattle.ir.specs.declared.atom.Atom.TheVariants.{Class, Role as RoleAtom}
use Rattle.rules.specs.Base.{ok, return, for_each, ◌>>=◌, ◌>>◌}
use Rattle.rules.specs.Concept.{Concept}
use Rattle.rules.specs.Concept.{Top, Bot, Atomic, Nominal, SelfRestriction, Not, And, Or, Some, All, Min, Max}
use Rattle.rules.specs.Pool.{Pool, at}
use Rattle.rules.specs.State.{clause, total, Limit, Env, Out, E, canon, most_in_hand, begun, visit, fresh_var, fresh_class, with_limits, await, longer, with, push_in, push, class_id_of, is_dkey}
use Rattle.rules.specs.Heads.{Emits, is_top, is_dkey_qualifier, name_or, atomic_name_of, qualifier_or, cardinality_qualifier, named_anew, limit_qualifier, name_atom, not_atom, max_atom, min_atom, compound_atom, atom_or, head_atom_for, head_or, heads, push_heads, emit_not, unless_dkey, emit_step, emit_by}
use Rattle.rules.specs.Post.{Post, give, refuses, post_then, post_map}
use Rattle.rules.specs.Invariants.{Each, Bounds, Bounded, Wf, IsLiteral, NormalStep}
use Rattle.rules.specs.PoolLaws.{IsNormal, normal_record}
use Rattle.rules.specs.EachLaws.{each_both, each_append}

-- an answer that is there
abbrev Found : {A : Type 0} → Option A → Type 0
Found none = ⊥
Found (some _) = Unit {0}

abbrev Any : {A : Type 0} → A → Type 0
Any a = Unit {0}

module _ (B : Bounds) (env : Env) (pool : Pool) (wf : Wf B pool) where
  -- a normal concept of the pool
  abbrev pub In : ℕ → Type 0
  In c = (c < length pool) × IsNormal pool c

  -- nothing deferred, and normal fillers queued
  pub record Clean (s t : Out) : Type 0 where
    pub deferrals : t.deferrals ≡ s.deferrals
    pub queued : List Limit
    pub limits : t.limits ≡ s.limits ++ queued
    pub normal : Each (λ w. In w.filler) queued

  still : (s t : Out) → t.deferrals ≡ s.deferrals → t.limits ≡ s.limits → Clean s t
  still s t d l = record { deferrals = d; queued = []; limits = l ∙ sym (append-nil s.limits); normal = tt }

  clean_trans : {s t u : Out} → Clean s t → Clean t u → Clean s u
  clean_trans {s} X Y = record {
    deferrals = Y.deferrals ∙ X.deferrals;
    queued = X.queued ++ Y.queued;
    limits = Y.limits ∙ ap (λ l. l ++ Y.queued) X.limits ∙ append_assoc s.limits X.queued Y.queued;
    normal = each_append (λ w. In w.filler) X.queued Y.queued X.normal Y.normal;
  }

  -- a rule that is so, with Q of its answer
  pub record Frees {A : Type 0} (Q : A → Type 0) (m : E A) : Type 0 where
    pub run : (s : Out) → Post (λ a t. Clean s t × Q a) (m s)

  frees_return : {A : Type 0} {Q : A → Type 0} (a : A) → Q a → Frees Q (return a)
  frees_return a q = record { run = λ s. give (still s s refl refl, q) }

  frees_then : {A D : Type 0} {Q : A → Type 0} {R : D → Type 0} {m : E A} {f : A → E D} → Frees Q m → ((a : A) → Q a → Frees R (f a)) → Frees R (m >>= f)
  frees_then h k = record { run = λ s. post_then (h.run s) (λ a t X. post_map ((k a X.1).run t) (λ b u Y. (clean_trans X.0 Y.0, Y.1))) }

  frees_each : {A : Type 0} (P : A → Type 0) (f : A → E (Unit {0})) → ((a : A) → P a → Frees Any (f a)) → (l : List A) → Each P l → Frees Any (for_each f l)
  unfolding for_each
  frees_each P f h [] u = frees_return tt tt
  frees_each P f h (a ∷ l) u = frees_then (h a u.0) (λ _ _. frees_each P f h l u.1)

  -- ---- the small steps
  frees_visit : Frees Any visit
  unfolding visit
  frees_visit = record { run = λ s. go s (ltb s.visits s.limit) }
    where
      go : (s : Out) (b : Bool) → Post (λ a t. Clean s t × Any a) (begun s b)
      go s true = give (still s _ refl refl, tt)
      go s false = refuses

  frees_var : Frees Any fresh_var
  unfolding fresh_var
  frees_var = record { run = λ s. give (still s _ refl refl, tt) }

  frees_class : Frees Any fresh_class
  unfolding fresh_class
  frees_class = record { run = λ s. give (still s _ refl refl, tt) }

  frees_with : (l : List Atom) (a : Atom) → Frees Any (with l a)
  unfolding with
  frees_with l a = record { run = λ s. go s (ltb (length l) most_in_hand) }
    where
      go : (s : Out) (b : Bool) → Post (λ a t. Clean s t × Any a) (longer l a b s)
      go s true = give (still s s refl refl, tt)
      go s false = refuses

  frees_push : (b h : List Atom) → Frees Any (push env b h)
  unfolding push
  frees_push b h = record { run = λ s. go s (ltb (length s.clauses) env.rooms.clauses && leb (total s.clauses + length (b ++ h)) env.rooms.atoms) }
    where
      go : (s : Out) (k : Bool) → Post (λ a t. Clean s t × Any a) (push_in (clause b h) s k)
      go s true = give (still s _ refl refl, tt)
      go s false = refuses

  frees_await : (c : ℕ) → In c → (b : Bool) → Frees Any (await env c b)
  unfolding await
  frees_await c h b = record { run = λ s. go s (env.equal_names && b) }
    where
      go : (s : Out) (k : Bool) → Post (λ (a : Unit {0}) t. Clean s t × Any a) (ok tt (with_limits (pick k (s.limits ++ (record { filler = c; name = s.next_fresh } ∷ [])) s.limits) s))
      go s true = give (record { deferrals = refl; queued = record { filler = c; name = s.next_fresh } ∷ []; limits = refl; normal = (h, tt) }, tt)
      go s false = give (still s _ refl refl, tt)

  -- ---- the arms, over a call that is so
  module _ (emit : Emits) (W : (b : List Atom) (c v : ℕ) → In c → Frees Any (emit b c v)) where
    frees_name_or : (c : ℕ) → In c → (o : Option ℕ) → Frees Any (name_or env pool emit c o)
    unfolding name_or
    frees_name_or c h (some a) = frees_return a tt
    frees_name_or c h none = frees_then frees_class (λ q _. frees_then (W (Class q 0 ∷ []) c 0 h) (λ _ _. frees_return q tt))

    frees_name : (c : ℕ) → In c → Frees Any (atomic_name_of env pool emit c)
    unfolding atomic_name_of
    frees_name c h = frees_then frees_visit (λ _ _. frees_name_or c h (class_id_of env (at pool c)))

    frees_qualifier : (c : ℕ) → In c → Frees Any (cardinality_qualifier env pool emit c)
    unfolding cardinality_qualifier qualifier_or
    frees_qualifier c h = go (is_top (at pool c))
      where
        go : (b : Bool) → Frees Any (qualifier_or env pool emit c b)
        go true = frees_return _ tt
        go false = frees_then (frees_name c h) (λ q _. frees_return _ tt)

    frees_limit : (c : ℕ) → In c → Frees Any (limit_qualifier env pool emit c)
    unfolding limit_qualifier
    frees_limit c h = frees_then (frees_await c h (named_anew env (at pool c))) (λ _ _. frees_qualifier c h)

    -- ---- head_atom_for answers
    frees_name_atom : (c v : ℕ) → In c → Frees Found (name_atom env pool emit c v)
    unfolding name_atom
    frees_name_atom c v h = frees_then (frees_name c h) (λ q _. frees_return _ tt)

    frees_auxiliary : (v : ℕ) (b : ℕ → List Atom) → Frees Found (fresh_class >>= (λ q. push env (b q) [] >> return (some (Class q v))))
    frees_auxiliary v b = frees_then frees_class (λ q _. frees_then (frees_push (b q) []) (λ _ _. frees_return _ tt))

    frees_not_atom : (v : ℕ) (e : Concept) → IsLiteral e → Frees Found (not_atom env pool emit v e (class_id_of env e))
    unfolding not_atom
    frees_not_atom v Top h = absurd h
    frees_not_atom v Bot h = absurd h
    frees_not_atom v (Atomic a) h = frees_auxiliary v (λ q. Class q 0 ∷ Class a 0 ∷ [])
    frees_not_atom v (Nominal i) h = frees_auxiliary v (λ q. Class q 0 ∷ Class (env.nominal_base + i) 0 ∷ [])
    frees_not_atom v (SelfRestriction r) h = frees_auxiliary v (λ q. Class q 0 ∷ RoleAtom (canon env r) 0 0 ∷ [])
    frees_not_atom v (Not _) h = absurd h
    frees_not_atom v (And _) h = absurd h
    frees_not_atom v (Or _) h = absurd h
    frees_not_atom v (Some _ _) h = absurd h
    frees_not_atom v (All _ _) h = absurd h
    frees_not_atom v (Min _ _ _) h = absurd h
    frees_not_atom v (Max _ _ _) h = absurd h

    frees_max_atom : (c v k : ℕ) (r : Role) (d : ℕ) → In c → In d → (b : Bool) → Frees Found (max_atom env pool emit c v k r d b)
    unfolding max_atom
    frees_max_atom c v k r d h i true = frees_name_atom c v h
    frees_max_atom c v k r d h i false = frees_then (frees_limit d i) (λ q _. frees_return _ tt)

    frees_min_atom : (c v k : ℕ) (r : Role) (d : ℕ) → In c → In d → (b : Bool) → Frees Found (min_atom env pool emit c v k r d b)
    unfolding min_atom
    frees_min_atom c v k r d h i true = frees_name_atom c v h
    frees_min_atom c v k r d h i false = frees_then (frees_qualifier d i) (λ q _. frees_return _ tt)

    -- the parts of a record below n
    inside : (n : ℕ) → n < length pool → (d : ℕ) → d < n → IsNormal pool d → In d
    inside n h d k i = (omega arith, i)

    insides : (n : ℕ) → n < length pool → (l : List ℕ) → Each (λ d. d < n) l → Each (IsNormal pool) l → Each In l
    insides n h l u v = each_both (λ d. d < n) (IsNormal pool) In (inside n h) l u v

    frees_compound : (c v : ℕ) → In c → (e : Concept) → Bounded B c e → NormalStep (IsNormal pool) pool e → Frees Found (compound_atom env pool emit c v e)
    unfolding compound_atom
    frees_compound c v h Top u n = frees_name_atom c v h
    frees_compound c v h Bot u n = frees_name_atom c v h
    frees_compound c v h (Atomic _) u n = frees_name_atom c v h
    frees_compound c v h (Nominal _) u n = frees_name_atom c v h
    frees_compound c v h (SelfRestriction _) u n = frees_name_atom c v h
    frees_compound c v h (Not d) u n = frees_not_atom v (at pool d) n
    frees_compound c v h (And _) u n = frees_name_atom c v h
    frees_compound c v h (Or _) u n = frees_name_atom c v h
    frees_compound c v h (Some r d) u n = frees_then (frees_name d (inside c h.0 d u.1 n)) (λ q _. frees_return _ tt)
    frees_compound c v h (All _ _) u n = frees_name_atom c v h
    frees_compound c v h (Min zero r d) u n = absurd n
    frees_compound c v h (Min (suc k) r d) u n = frees_min_atom c v (suc k) r d h (inside c h.0 d u.2 n) (not env.card_disjunct_atoms || (eqb (suc k) 0 || is_dkey env (class_id_of env (at pool d))))
    frees_compound c v h (Max k r d) u n = frees_max_atom c v k r d h (inside c h.0 d u.2 n) (not env.card_disjunct_atoms || is_dkey env (class_id_of env (at pool d)))

    frees_head_atom : (c v : ℕ) → In c → Frees Found (head_atom_for env pool emit c v)
    unfolding head_atom_for atom_or
    frees_head_atom c v h = frees_then frees_visit (λ _ _. go (class_id_of env (at pool c)))
      where
        go : (o : Option ℕ) → Frees Found (atom_or env pool emit c v o)
        go none = frees_compound c v h (at pool c) (wf c h.0) (normal_record B pool c wf h.0 h.1)
        go (some a) = frees_return _ tt

    frees_heads : (l : List ℕ) (v : ℕ) (hs : List Atom) → Each In l → Frees Found (heads env pool emit l v hs)
    unfolding heads
    frees_heads [] v hs u = frees_return _ tt
    frees_heads (c ∷ l) v hs u = frees_then (frees_head_atom c v u.0) (λ o. go (λ more. frees_heads l v more u.1) o)
      where
        go : ((more : List Atom) → Frees Found (heads env pool emit l v more)) → (o : Option Atom) → Found o → Frees Found (head_or env pool emit (λ more. heads env pool emit l v more) hs o)
        go rest none h = absurd h
        go rest (some a) h = frees_then (frees_with hs a) (λ more _. rest more)

    frees_push_heads : (b : List Atom) (o : Option (List Atom)) → Found o → Frees Any (push_heads env pool emit b o)
    frees_push_heads b none h = absurd h
    frees_push_heads b (some hs) h = frees_push b hs

    frees_not : (b : List Atom) (v : ℕ) (e : Concept) → IsLiteral e → Frees Any (emit_not env pool emit b v e (class_id_of env e))
    unfolding emit_not
    frees_not b v Top h = absurd h
    frees_not b v Bot h = absurd h
    frees_not b v (Atomic a) h = frees_then (frees_with b (Class a v)) (λ more _. frees_push more [])
    frees_not b v (Nominal i) h = frees_then (frees_with b (Class (env.nominal_base + i) v)) (λ more _. frees_push more [])
    frees_not b v (SelfRestriction r) h = frees_then (frees_with b (RoleAtom (canon env r) v v)) (λ more _. frees_push more [])
    frees_not b v (Not _) h = absurd h
    frees_not b v (And _) h = absurd h
    frees_not b v (Or _) h = absurd h
    frees_not b v (Some _ _) h = absurd h
    frees_not b v (All _ _) h = absurd h
    frees_not b v (Min _ _ _) h = absurd h
    frees_not b v (Max _ _ _) h = absurd h

    frees_unless : (b : List Atom) (a : Atom) (k : Bool) → Frees Any (unless_dkey env pool emit b a k)
    frees_unless b a true = frees_return tt tt
    frees_unless b a false = frees_push b (a ∷ [])

    frees_step : (b : List Atom) (c v : ℕ) → c < length pool → (e : Concept) → Bounded B c e → NormalStep (IsNormal pool) pool e → Frees Any (emit_step env pool emit b v e)
    unfolding emit_step
    frees_step b c v h Top u n = frees_return tt tt
    frees_step b c v h Bot u n = frees_push b []
    frees_step b c v h (Atomic a) u n = frees_push b _
    frees_step b c v h (Nominal i) u n = frees_push b _
    frees_step b c v h (SelfRestriction r) u n = frees_push b _
    frees_step b c v h (Not d) u n = frees_not b v (at pool d) n
    frees_step b c v h (And l) u n = frees_each In (λ d. emit b d v) (λ d i. W b d v i) l (insides c h l u n.2)
    frees_step b c v h (Or l) u n = frees_then (frees_heads l v [] (insides c h l u n.2)) (λ o f. frees_push_heads b o f)
    frees_step b c v h (Some r d) u n = frees_then (frees_name d (inside c h d u.1 n)) (λ q _. frees_push b _)
    frees_step b c v h (All r d) u n = frees_then frees_var (λ y _. frees_then (frees_with b (RoleAtom (canon env r) v y)) (λ more _. W more d y (inside c h d u.1 n)))
    frees_step b c v h (Min zero r d) u n = absurd n
    frees_step b c v h (Min (suc k) r d) u n = frees_then (frees_qualifier d (inside c h d u.2 n)) (λ q _. frees_unless b _ (is_dkey_qualifier env q))
    frees_step b c v h (Max k r d) u n = frees_then (frees_limit d (inside c h d u.2 n)) (λ q _. frees_unless b _ (is_dkey_qualifier env q))

  -- ---- emit_head, by any bound
  pub frees_emit : (f : ℕ) (b : List Atom) (c v : ℕ) → In c → Frees Any (emit_by env pool f b c v)
  unfolding emit_by
  frees_emit zero b c v h = record { run = λ s. refuses }
  frees_emit (suc f) b c v h = frees_then frees_visit (λ _ _.
      frees_step (λ k d u. emit_by env pool f k d u) (λ k d u i. frees_emit f k d u i) b c v h.0 (at pool c) (wf c h.0) (normal_record B pool c wf h.0 h.1))
