-- emit_head and head_atom_for by what they do first. Assumes nothing.
use Rattle.std.proofs.Math.Path.{◌≡◌, refl}
use Rattle.std.specs.Prelude.{Bool, not, ◌||◌, ◌&&◌, eqb, List, [], ◌∷◌, ◌++◌}
use Rattle.std.proofs.Math.Bool.{true, false}
use Rattle.std.proofs.lemmas.Bool.{not-true}
use Rattle.ir.specs.Pick.{pick}
use Rattle.ir.specs.declared.role.Role.{Role}
use Rattle.std.proofs.Math.Option.{some}
use Prim.Native.Nat.{ℕ, zero, suc}
use Rattle.std.proofs.Common.{arith}
use Rattle.ir.specs.declared.atom.Atom.{Atom}
use Rattle.ir.specs.declared.atom.Atom.TheVariants.{AtMost, AtLeast}
use Rattle.std.specs.Prelude.{None, Some}
use Rattle.rules.specs.Base.{Res, ok, refused, then}
use Rattle.rules.specs.Concept.{Concept}
use Rattle.rules.specs.Concept.{Top, Bot, Atomic, Nominal, SelfRestriction, Not, And, Or, Some, All, Min, Max}
use Rattle.rules.specs.Pool.{Pool, at}
use Rattle.rules.specs.State.{Env, Out, canon, with_limits, await, class_id_of, is_dkey}
use Rattle.rules.specs.Heads.{Emits, is_top, named_anew, is_dkey_qualifier, unless_dkey, emit_step, emit_not, atomic_name_of, cardinality_qualifier, limit_qualifier, qualifier_or, atom_or, compound_atom, not_atom, name_atom, min_atom, max_atom}
use Rattle.leaves.specs.Leaves.{is_leaf, leaf_of, emit_leaf, emit_named, disjunct_of, name_filler, disjunct_atom, negated_atom, body_or, negated_or, counted_or}

-- ---- option 4: nothing waits
pub await_none : (env : Env) (c : ℕ) (s : Out) → await env c false s ≡ ok tt s
unfolding await
await_none env c s = off env.equal_names
  where
    off : (b : Bool) → ◌≡◌ {A = Res Out (Unit {0})} (ok tt (with_limits (pick (b && false) (s.limits ++ (record { filler = c; name = s.next_fresh } ∷ [])) s.limits) s)) (ok tt s)
    off true = refl
    off false = refl

module _ (env : Env) (pool : Pool) (emit : Emits) where
  not_leaf : (b : List Atom) (v : ℕ) (s : Out) (e : Concept) → emit_not env pool emit b v e (class_id_of env e) s ≡ emit_leaf env pool b (body_or env pool (negated_atom env pool v e)) s
  unfolding emit_not
  not_leaf b v s Top = refl
  not_leaf b v s Bot = refl
  not_leaf b v s (Atomic _) = refl
  not_leaf b v s (Nominal _) = refl
  not_leaf b v s (SelfRestriction _) = refl
  not_leaf b v s (Not _) = refl
  not_leaf b v s (And _) = refl
  not_leaf b v s (Or _) = refl
  not_leaf b v s (Some _ _) = refl
  not_leaf b v s (All _ _) = refl
  not_leaf b v s (Min _ _ _) = refl
  not_leaf b v s (Max _ _ _) = refl

  pub emit_leaf_lem : (b : List Atom) (v : ℕ) (s : Out) (e : Concept) → is_leaf env pool e ≡ true → emit_step env pool emit b v e s ≡ emit_leaf env pool b (leaf_of env pool v e) s
  unfolding emit_step limit_qualifier cardinality_qualifier qualifier_or
  emit_leaf_lem b v s Top h = refl
  emit_leaf_lem b v s Bot h = refl
  emit_leaf_lem b v s (Atomic _) h = refl
  emit_leaf_lem b v s (Nominal _) h = refl
  emit_leaf_lem b v s (SelfRestriction _) h = refl
  emit_leaf_lem b v s (Not d) h = not_leaf b v s (at pool d)
  emit_leaf_lem b v s (And _) h = absurd (let z : ◌≡◌ {A = ℕ} 0 1 = cc in omega arith)
  emit_leaf_lem b v s (Or _) h = absurd (let z : ◌≡◌ {A = ℕ} 0 1 = cc in omega arith)
  emit_leaf_lem b v s (Some _ _) h = absurd (let z : ◌≡◌ {A = ℕ} 0 1 = cc in omega arith)
  emit_leaf_lem b v s (All _ _) h = absurd (let z : ◌≡◌ {A = ℕ} 0 1 = cc in omega arith)
  emit_leaf_lem b v s (Min zero r d) h = refl
  emit_leaf_lem b v s (Min (suc n) r d) h = rw h refl
  emit_leaf_lem b v s (Max n r d) h = rw (h, await_none env d s) refl

  -- a restriction whose filler is named
  abbrev pub is_named : Concept → Bool
  is_named Top = false
  is_named Bot = false
  is_named (Atomic _) = false
  is_named (Nominal _) = false
  is_named (SelfRestriction _) = false
  is_named (Not _) = false
  is_named (And _) = false
  is_named (Or _) = false
  is_named (Some _ _) = true
  is_named (All _ _) = false
  is_named (Min zero _ _) = false
  is_named (Min (suc _) _ d) = not (is_top (at pool d))
  is_named (Max _ _ d) = not (is_top (at pool d))

  through : {A B : Type 0} (f : ℕ → A) (m : Res Out ℕ) (g : A → Out → Res Out B) → then (then m (λ q t. ok (f q) t)) g ≡ then m (λ q t. g (f q) t)
  through f (ok q t) g = refl
  through f (refused n) g = refl

  past : {A B C : Type 0} (m : Res Out (Unit {0})) (f : Out → Res Out A) (g : A → Out → Res Out C) (f' : Out → Res Out B) (g' : B → Out → Res Out C) → ((t : Out) → then (f t) g ≡ then (f' t) g')
      → then (then m (λ _ t. f t)) g ≡ then (then m (λ _ t. f' t)) g'
  past (ok _ s) f g f' g' h = h s
  past (refused n) f g f' g' h = refl

  pub emit_named_lem : (b : List Atom) (v : ℕ) (s : Out) (e : Concept) → is_named e ≡ true → emit_step env pool emit b v e s ≡ then (name_filler env pool (atomic_name_of env pool emit) e s) (λ q t. emit_named env pool v e b q t)
  unfolding emit_step limit_qualifier cardinality_qualifier qualifier_or
  emit_named_lem b v s Top h = absurd (let z : ◌≡◌ {A = ℕ} 0 1 = cc in omega arith)
  emit_named_lem b v s Bot h = absurd (let z : ◌≡◌ {A = ℕ} 0 1 = cc in omega arith)
  emit_named_lem b v s (Atomic _) h = absurd (let z : ◌≡◌ {A = ℕ} 0 1 = cc in omega arith)
  emit_named_lem b v s (Nominal _) h = absurd (let z : ◌≡◌ {A = ℕ} 0 1 = cc in omega arith)
  emit_named_lem b v s (SelfRestriction _) h = absurd (let z : ◌≡◌ {A = ℕ} 0 1 = cc in omega arith)
  emit_named_lem b v s (Not d) h = absurd (let z : ◌≡◌ {A = ℕ} 0 1 = cc in omega arith)
  emit_named_lem b v s (And _) h = absurd (let z : ◌≡◌ {A = ℕ} 0 1 = cc in omega arith)
  emit_named_lem b v s (Or _) h = absurd (let z : ◌≡◌ {A = ℕ} 0 1 = cc in omega arith)
  emit_named_lem b v s (Some r d) h = rw (await_none env d s) refl
  emit_named_lem b v s (All _ _) h = absurd (let z : ◌≡◌ {A = ℕ} 0 1 = cc in omega arith)
  emit_named_lem b v s (Min zero r d) h = absurd (let z : ◌≡◌ {A = ℕ} 0 1 = cc in omega arith)
  emit_named_lem b v s (Min (suc n) r d) h = rw (not-true (is_top (at pool d)) h, await_none env d s) (through Some (atomic_name_of env pool emit d s) (λ q t. unless_dkey env pool emit b (AtLeast (canon env r) q (suc n) v) (is_dkey_qualifier env q) t))
  emit_named_lem b v s (Max n r d) h = past (await env d (named_anew env (at pool d)) s) (cardinality_qualifier env pool emit d) (λ q t. unless_dkey env pool emit b (AtMost (canon env r) q n v) (is_dkey_qualifier env q) t) (atomic_name_of env pool emit d) (λ q t. emit_named env pool v (Max n r d) b q t)
      (λ t. rw (not-true (is_top (at pool d)) h) (through Some (atomic_name_of env pool emit d t) (λ q t. unless_dkey env pool emit b (AtMost (canon env r) q n v) (is_dkey_qualifier env q) t)))

  -- ---- head_atom_for
  not_disjunct : (c v : ℕ) (s : Out) (x e : Concept) → not_atom env pool emit v e (class_id_of env e) s ≡ disjunct_atom env pool (atomic_name_of env pool emit) c v x (negated_or env pool (negated_atom env pool 0 e)) s
  unfolding not_atom
  not_disjunct c v s x Top = refl
  not_disjunct c v s x Bot = refl
  not_disjunct c v s x (Atomic _) = refl
  not_disjunct c v s x (Nominal _) = refl
  not_disjunct c v s x (SelfRestriction _) = refl
  not_disjunct c v s x (Not _) = refl
  not_disjunct c v s x (And _) = refl
  not_disjunct c v s x (Or _) = refl
  not_disjunct c v s x (Some _ _) = refl
  not_disjunct c v s x (All _ _) = refl
  not_disjunct c v s x (Min _ _ _) = refl
  not_disjunct c v s x (Max _ _ _) = refl

  min_disjunct : (c v : ℕ) (s : Out) (n : ℕ) (r : Role) (d : ℕ) (named top : Bool) → is_top (at pool d) ≡ top
      → min_atom env pool emit c v n r d named s ≡ disjunct_atom env pool (atomic_name_of env pool emit) c v (Min n r d) (counted_or env pool named top (AtLeast (canon env r) None n v)) s
  unfolding min_atom name_atom cardinality_qualifier qualifier_or
  min_disjunct c v s n r d true top e = refl
  min_disjunct c v s n r d false true e = rw e refl
  min_disjunct c v s n r d false false e = rw (e, await_none env d s) (through Some (atomic_name_of env pool emit d s) (λ q t. ok (some (AtLeast (canon env r) q n v)) t))

  max_disjunct : (c v : ℕ) (s : Out) (n : ℕ) (r : Role) (d : ℕ) (named top : Bool) → is_top (at pool d) ≡ top
      → max_atom env pool emit c v n r d named s ≡ disjunct_atom env pool (atomic_name_of env pool emit) c v (Max n r d) (counted_or env pool named top (AtMost (canon env r) None n v)) s
  unfolding max_atom name_atom limit_qualifier cardinality_qualifier qualifier_or
  max_disjunct c v s n r d true top e = refl
  max_disjunct c v s n r d false true e = rw (e, await_none env d s) refl
  max_disjunct c v s n r d false false e = past (await env d (named_anew env (at pool d)) s) (cardinality_qualifier env pool emit d) (λ q t. ok (some (AtMost (canon env r) q n v)) t) (atomic_name_of env pool emit d) (λ q t. ok (some (AtMost (canon env r) (Some q) n v)) t)
      (λ t. rw e (through Some (atomic_name_of env pool emit d t) (λ q t. ok (some (AtMost (canon env r) q n v)) t)))

  pub head_disjunct : (c v : ℕ) (s : Out) (e : Concept) → at pool c ≡ e → atom_or env pool emit c v (class_id_of env e) s ≡ disjunct_atom env pool (atomic_name_of env pool emit) c v e (disjunct_of env pool v e) s
  unfolding atom_or compound_atom name_atom
  head_disjunct c v s Top q = rw q refl
  head_disjunct c v s Bot q = rw q refl
  head_disjunct c v s (Atomic _) q = refl
  head_disjunct c v s (Nominal _) q = refl
  head_disjunct c v s (SelfRestriction _) q = rw q refl
  head_disjunct c v s (Not d) q = rw q (not_disjunct c v s (Not d) (at pool d))
  head_disjunct c v s (And _) q = rw q refl
  head_disjunct c v s (Or _) q = rw q refl
  head_disjunct c v s (Some r d) q = rw (q, await_none env d s) refl
  head_disjunct c v s (All _ _) q = rw q refl
  head_disjunct c v s (Min n r d) q = rw q (min_disjunct c v s n r d (not env.card_disjunct_atoms || (eqb n 0 || is_dkey env (class_id_of env (at pool d)))) (is_top (at pool d)) refl)
  head_disjunct c v s (Max n r d) q = rw q (max_disjunct c v s n r d (not env.card_disjunct_atoms || is_dkey env (class_id_of env (at pool d))) (is_top (at pool d)) refl)
