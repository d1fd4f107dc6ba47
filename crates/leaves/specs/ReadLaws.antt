-- What a concept is, by the words of its record. Assumes nothing.
use Rattle.std.specs.Prelude.{◌≡◌, refl, Bool, true, false, not, ◌||◌, List, ℕ, zero, suc, ◌+◌, ◌*◌, ◌%◌, ◌<◌, ◌≤◌, ◌^◌, eqb, ltb}
use Rattle.std.proofs.Common.{ap, subst, ◌∙◌, arith, eqb-true, ltb-true, ltb-false}
use Rattle.std.proofs.Math.Option.{none, some}
use Prim.{tt}
use Rattle.std.proofs.lemmas.Bool.{eqb-false}
use Rattle.words.specs.Words.{words}
use Rattle.ir.specs.Pick.{pick}
use Rattle.ir.specs.Roles.{role_id, role_of, code_below}
use Rattle.ir.specs.declared.counters.Counters.{Counters}
use Rattle.ir.specs.declared.role.Role.{Role}
use Rattle.ir.specs.declared.atom.Atom.TheVariants.{Class, AtLeast}
use Rattle.std.specs.Prelude.{None}
use Rattle.rules.specs.Concept.{Concept}
use Rattle.rules.specs.Concept.{Top, Bot, Atomic, Nominal, SelfRestriction, Not, And, Or, Some, All, Min, Max}
use Rattle.rules.specs.Pool.{Pool, at, members}
use Rattle.rules.specs.Deck.{most_individuals, most_roles}
use Rattle.rules.specs.State.{Env, canon, class_id_of, is_dkey}
use Rattle.rules.specs.Heads.{is_top}
use Rattle.rules.specs.Invariants.{Bounds, Bounded}
use Rattle.rules.specs.TextLaws.{by_test}
use Rattle.pool.specs.declared.record.Record.{Record}
use Rattle.pool.specs.Layout.{field, concept_from, concept_at, pool_of, plain, starts_at, members_at, run}
use Rattle.pool.specs.HeldLaws.{pool_length, pool_at, record_kind, concept_is, kind_range}
use Rattle.tables.specs.Good.{most_names}
use Rattle.leaves.specs.declared.leaf.Leaf.TheVariants as LeafIs
use Rattle.leaves.specs.declared.disjunct.Disjunct.TheVariants as DisjunctIs
use Rattle.leaves.specs.declared.form.Form.TheVariants as FormIs
use Rattle.leaves.specs.Classes.{HasRole, Restricts, at_least_none, is_max, anew}
use Rattle.leaves.specs.Leaves.{negated_atom, leaf_of, counted_or, disjunct_of, no_atom, over_top}
use Rattle.leaves.specs.Reading.{Reading, form_of}

-- ---- the concept, where its record's kind is known
module _ (w : List ℕ) (c : ℕ) where
  pub concept_1 : field w c 0 ≡ 1 → concept_at w c ≡ Top
  unfolding concept_from
  concept_1 e = concept_is w c 1 e

  pub concept_2 : field w c 0 ≡ 2 → concept_at w c ≡ Bot
  unfolding concept_from
  concept_2 e = concept_is w c 2 e

  pub concept_3 : field w c 0 ≡ 3 → concept_at w c ≡ Atomic (field w c 2)
  unfolding concept_from
  concept_3 e = concept_is w c 3 e

  pub concept_4 : field w c 0 ≡ 4 → concept_at w c ≡ Nominal (field w c 2)
  unfolding concept_from
  concept_4 e = concept_is w c 4 e

  pub concept_5 : field w c 0 ≡ 5 → concept_at w c ≡ SelfRestriction (role_of (field w c 1))
  unfolding concept_from
  concept_5 e = concept_is w c 5 e

  pub concept_6 : field w c 0 ≡ 6 → concept_at w c ≡ Not (field w c 3)
  unfolding concept_from
  concept_6 e = concept_is w c 6 e

  pub concept_7 : field w c 0 ≡ 7 → concept_at w c ≡ And (run w (members_at + field w c 3) (field w c 2))
  unfolding concept_from
  concept_7 e = concept_is w c 7 e

  pub concept_8 : field w c 0 ≡ 8 → concept_at w c ≡ Or (run w (members_at + field w c 3) (field w c 2))
  unfolding concept_from
  concept_8 e = concept_is w c 8 e

  pub concept_9 : field w c 0 ≡ 9 → concept_at w c ≡ Some (role_of (field w c 1)) (field w c 3)
  unfolding concept_from
  concept_9 e = concept_is w c 9 e

  pub concept_10 : field w c 0 ≡ 10 → concept_at w c ≡ All (role_of (field w c 1)) (field w c 3)
  unfolding concept_from
  concept_10 e = concept_is w c 10 e

  pub concept_11 : field w c 0 ≡ 11 → concept_at w c ≡ Min (field w c 2) (role_of (field w c 1)) (field w c 3)
  unfolding concept_from
  concept_11 e = concept_is w c 11 e

  pub concept_12 : field w c 0 ≡ 12 → concept_at w c ≡ Max (field w c 2) (role_of (field w c 1)) (field w c 3)
  unfolding concept_from
  concept_12 e = concept_is w c 12 e

-- ---- the concept by its kind's number
pub top_kind : (e : Concept) → eqb (plain e).kind 1 ≡ is_top e
top_kind Top = refl
top_kind Bot = refl
top_kind (Atomic a) = refl
top_kind (Nominal i) = refl
top_kind (SelfRestriction r) = refl
top_kind (Not d) = refl
top_kind (And l) = refl
top_kind (Or l) = refl
top_kind (Some r d) = refl
top_kind (All r d) = refl
top_kind (Min n r d) = refl
top_kind (Max n r d) = refl

pub none_kind : (e : Concept) → ((plain e).kind ≡ 11 → ⊥) → false ≡ at_least_none e
none_kind Top h = refl
none_kind Bot h = refl
none_kind (Atomic a) h = refl
none_kind (Nominal i) h = refl
none_kind (SelfRestriction r) h = refl
none_kind (Not d) h = refl
none_kind (And l) h = refl
none_kind (Or l) h = refl
none_kind (Some r d) h = refl
none_kind (All r d) h = refl
none_kind (Min n r d) h = absurd (h refl)
none_kind (Max n r d) h = refl

pub class_none : (env : Env) (e : Concept) → ((plain e).kind ≡ 3 → ⊥) → ((plain e).kind ≡ 4 → ⊥) → none ≡ class_id_of env e
class_none env Top h g = refl
class_none env Bot h g = refl
class_none env (Atomic a) h g = absurd (h refl)
class_none env (Nominal i) h g = absurd (g refl)
class_none env (SelfRestriction r) h g = refl
class_none env (Not d) h g = refl
class_none env (And l) h g = refl
class_none env (Or l) h g = refl
class_none env (Some r d) h g = refl
class_none env (All r d) h g = refl
class_none env (Min n r d) h g = refl
class_none env (Max n r d) h g = refl

pub anew_kind : (e : Concept) → ((plain e).kind ≡ 1 → ⊥) → ((plain e).kind ≡ 3 → ⊥) → ((plain e).kind ≡ 4 → ⊥) → true ≡ anew e
anew_kind Top h g f = absurd (h refl)
anew_kind Bot h g f = refl
anew_kind (Atomic a) h g f = absurd (g refl)
anew_kind (Nominal i) h g f = absurd (f refl)
anew_kind (SelfRestriction r) h g f = refl
anew_kind (Not d) h g f = refl
anew_kind (And l) h g f = refl
anew_kind (Or l) h g f = refl
anew_kind (Some r d) h g f = refl
anew_kind (All r d) h g f = refl
anew_kind (Min n r d) h g f = refl
anew_kind (Max n r d) h g f = refl

pub max_kind : (e : Concept) → ((plain e).kind ≡ 12 → ⊥) → is_max e ≡ false
max_kind Top h = refl
max_kind Bot h = refl
max_kind (Atomic a) h = refl
max_kind (Nominal i) h = refl
max_kind (SelfRestriction r) h = refl
max_kind (Not d) h = refl
max_kind (And l) h = refl
max_kind (Or l) h = refl
max_kind (Some r d) h = refl
max_kind (All r d) h = refl
max_kind (Min n r d) h = refl
max_kind (Max n r d) h = absurd (h refl)

pub has_role : (e : Concept) → 9 ≤ (plain e).kind → HasRole e
has_role Top h = absurd (omega arith)
has_role Bot h = absurd (omega arith)
has_role (Atomic a) h = absurd (omega arith)
has_role (Nominal i) h = absurd (omega arith)
has_role (SelfRestriction r) h = tt
has_role (Not d) h = absurd (omega arith)
has_role (And l) h = absurd (omega arith)
has_role (Or l) h = absurd (omega arith)
has_role (Some r d) h = tt
has_role (All r d) h = tt
has_role (Min n r d) h = tt
has_role (Max n r d) h = tt

pub self_role : (e : Concept) → (plain e).kind ≡ 5 → HasRole e
self_role Top h = absurd (omega arith)
self_role Bot h = absurd (omega arith)
self_role (Atomic a) h = absurd (omega arith)
self_role (Nominal i) h = absurd (omega arith)
self_role (SelfRestriction r) h = tt
self_role (Not d) h = absurd (omega arith)
self_role (And l) h = absurd (omega arith)
self_role (Or l) h = absurd (omega arith)
self_role (Some r d) h = tt
self_role (All r d) h = tt
self_role (Min n r d) h = tt
self_role (Max n r d) h = tt

pub restricts_role : (e : Concept) → Restricts e → HasRole e
restricts_role Top h = absurd h
restricts_role Bot h = absurd h
restricts_role (Atomic a) h = absurd h
restricts_role (Nominal i) h = absurd h
restricts_role (SelfRestriction r) h = absurd h
restricts_role (Not d) h = absurd h
restricts_role (And l) h = absurd h
restricts_role (Or l) h = absurd h
restricts_role (Some r d) h = tt
restricts_role (All r d) h = absurd h
restricts_role (Min n r d) h = tt
restricts_role (Max n r d) h = tt

pub restricts_kind : (e : Concept) → Restricts e → ((plain e).kind ≡ 9 → ⊥) → 11 ≤ (plain e).kind
restricts_kind Top h g = absurd h
restricts_kind Bot h g = absurd h
restricts_kind (Atomic a) h g = absurd h
restricts_kind (Nominal i) h g = absurd h
restricts_kind (SelfRestriction r) h g = absurd h
restricts_kind (Not d) h g = absurd h
restricts_kind (And l) h g = absurd h
restricts_kind (Or l) h g = absurd h
restricts_kind (Some r d) h g = absurd (g refl)
restricts_kind (All r d) h g = absurd h
restricts_kind (Min n r d) h g = omega arith
restricts_kind (Max n r d) h g = omega arith

pub counts_restrict : (e : Concept) → 11 ≤ (plain e).kind → Restricts e
counts_restrict Top h = absurd (omega arith)
counts_restrict Bot h = absurd (omega arith)
counts_restrict (Atomic a) h = absurd (omega arith)
counts_restrict (Nominal i) h = absurd (omega arith)
counts_restrict (SelfRestriction r) h = absurd (omega arith)
counts_restrict (Not d) h = absurd (omega arith)
counts_restrict (And l) h = absurd (omega arith)
counts_restrict (Or l) h = absurd (omega arith)
counts_restrict (Some r d) h = absurd (omega arith)
counts_restrict (All r d) h = absurd (omega arith)
counts_restrict (Min n r d) h = tt
counts_restrict (Max n r d) h = tt

role_bounded : (B : Bounds) (c : ℕ) (e : Concept) → Bounded B c e → HasRole e → B.roles ≤ most_roles → (plain e).role < 2 * most_roles
role_bounded B c Top b h m = absurd h
role_bounded B c Bot b h m = absurd h
role_bounded B c (Atomic a) b h m = absurd h
role_bounded B c (Nominal i) b h m = absurd h
role_bounded B c (SelfRestriction r) b h m = omega (arith, code_below r B.roles b)
role_bounded B c (Not d) b h m = absurd h
role_bounded B c (And l) b h m = absurd h
role_bounded B c (Or l) b h m = absurd h
role_bounded B c (Some r d) b h m = omega (arith, code_below r B.roles b.0)
role_bounded B c (All r d) b h m = omega (arith, code_below r B.roles b.0)
role_bounded B c (Min n r d) b h m = omega (arith, code_below r B.roles b.1)
role_bounded B c (Max n r d) b h m = omega (arith, code_below r B.roles b.1)

-- ---- a negated concept
module _ (env : Env) (pool : Pool) (v a : ℕ) where
  pub negated_class : (e : Concept) → some a ≡ class_id_of env e → some (Class a v) ≡ negated_atom env pool v e
  negated_class Top h = absurd (let z : ◌≡◌ {A = ℕ} 0 1 = cc in omega arith)
  negated_class Bot h = absurd (let z : ◌≡◌ {A = ℕ} 0 1 = cc in omega arith)
  negated_class (Atomic a) h = cc
  negated_class (Nominal i) h = cc
  negated_class (SelfRestriction r) h = absurd (let z : ◌≡◌ {A = ℕ} 0 1 = cc in omega arith)
  negated_class (Not d) h = absurd (let z : ◌≡◌ {A = ℕ} 0 1 = cc in omega arith)
  negated_class (And l) h = absurd (let z : ◌≡◌ {A = ℕ} 0 1 = cc in omega arith)
  negated_class (Or l) h = absurd (let z : ◌≡◌ {A = ℕ} 0 1 = cc in omega arith)
  negated_class (Some r d) h = absurd (let z : ◌≡◌ {A = ℕ} 0 1 = cc in omega arith)
  negated_class (All r d) h = absurd (let z : ◌≡◌ {A = ℕ} 0 1 = cc in omega arith)
  negated_class (Min n r d) h = absurd (let z : ◌≡◌ {A = ℕ} 0 1 = cc in omega arith)
  negated_class (Max n r d) h = absurd (let z : ◌≡◌ {A = ℕ} 0 1 = cc in omega arith)

  pub negated_none : (e : Concept) → ((plain e).kind ≡ 5 → ⊥) → none ≡ class_id_of env e → none ≡ negated_atom env pool v e
  negated_none Top g h = refl
  negated_none Bot g h = refl
  negated_none (Atomic a) g h = absurd (let z : ◌≡◌ {A = ℕ} 0 1 = cc in omega arith)
  negated_none (Nominal i) g h = absurd (let z : ◌≡◌ {A = ℕ} 0 1 = cc in omega arith)
  negated_none (SelfRestriction r) g h = absurd (g refl)
  negated_none (Not d) g h = refl
  negated_none (And l) g h = refl
  negated_none (Or l) g h = refl
  negated_none (Some r d) g h = refl
  negated_none (All r d) g h = refl
  negated_none (Min n r d) g h = refl
  negated_none (Max n r d) g h = refl

-- ---- leaves
module _ (env : Env) (pool : Pool) (v : ℕ) where
  pub leaf_rest : (e : Concept) → ((plain e).kind ≡ 2 → ⊥) → ((plain e).kind ≡ 3 → ⊥) → ((plain e).kind ≡ 4 → ⊥) → ((plain e).kind ≡ 5 → ⊥) → ((plain e).kind ≡ 6 → ⊥) → ((plain e).kind ≡ 11 → ⊥) → ((plain e).kind ≡ 12 → ⊥) → LeafIs.Nothing ≡ leaf_of env pool v e
  leaf_rest Top h2 h3 h4 h5 h6 h11 h12 = refl
  leaf_rest Bot h2 h3 h4 h5 h6 h11 h12 = absurd (h2 refl)
  leaf_rest (Atomic a) h2 h3 h4 h5 h6 h11 h12 = absurd (h3 refl)
  leaf_rest (Nominal i) h2 h3 h4 h5 h6 h11 h12 = absurd (h4 refl)
  leaf_rest (SelfRestriction r) h2 h3 h4 h5 h6 h11 h12 = absurd (h5 refl)
  leaf_rest (Not d) h2 h3 h4 h5 h6 h11 h12 = absurd (h6 refl)
  leaf_rest (And l) h2 h3 h4 h5 h6 h11 h12 = refl
  leaf_rest (Or l) h2 h3 h4 h5 h6 h11 h12 = refl
  leaf_rest (Some r d) h2 h3 h4 h5 h6 h11 h12 = refl
  leaf_rest (All r d) h2 h3 h4 h5 h6 h11 h12 = refl
  leaf_rest (Min n r d) h2 h3 h4 h5 h6 h11 h12 = absurd (h11 refl)
  leaf_rest (Max n r d) h2 h3 h4 h5 h6 h11 h12 = absurd (h12 refl)

  pub leaf_min : (n : ℕ) (r : Role) (d : ℕ) → (n ≡ 0 → ⊥) → LeafIs.Head (AtLeast (canon env r) None n v) ≡ leaf_of env pool v (Min n r d)
  leaf_min zero r d h = absurd (h refl)
  leaf_min (suc n) r d h = refl

  pub leaf_min_none : (n : ℕ) (r : Role) (d : ℕ) → n ≡ 0 → LeafIs.Nothing ≡ leaf_of env pool v (Min n r d)
  leaf_min_none zero r d h = refl
  leaf_min_none (suc n) r d h = absurd (omega arith)

  pub disjunct_rest : (e : Concept) → ((plain e).kind ≡ 3 → ⊥) → ((plain e).kind ≡ 4 → ⊥) → ((plain e).kind ≡ 6 → ⊥) → ((plain e).kind ≡ 9 → ⊥) → ((plain e).kind ≡ 11 → ⊥) → ((plain e).kind ≡ 12 → ⊥) → DisjunctIs.Whole ≡ disjunct_of env pool v e
  disjunct_rest Top h3 h4 h6 h9 h11 h12 = refl
  disjunct_rest Bot h3 h4 h6 h9 h11 h12 = refl
  disjunct_rest (Atomic a) h3 h4 h6 h9 h11 h12 = absurd (h3 refl)
  disjunct_rest (Nominal i) h3 h4 h6 h9 h11 h12 = absurd (h4 refl)
  disjunct_rest (SelfRestriction r) h3 h4 h6 h9 h11 h12 = refl
  disjunct_rest (Not d) h3 h4 h6 h9 h11 h12 = absurd (h6 refl)
  disjunct_rest (And l) h3 h4 h6 h9 h11 h12 = refl
  disjunct_rest (Or l) h3 h4 h6 h9 h11 h12 = refl
  disjunct_rest (Some r d) h3 h4 h6 h9 h11 h12 = absurd (h9 refl)
  disjunct_rest (All r d) h3 h4 h6 h9 h11 h12 = refl
  disjunct_rest (Min n r d) h3 h4 h6 h9 h11 h12 = absurd (h11 refl)
  disjunct_rest (Max n r d) h3 h4 h6 h9 h11 h12 = absurd (h12 refl)

  -- Min and Max, by the code's three tests
  pub counted_is : (e : Concept) → 11 ≤ (plain e).kind → disjunct_of env pool v e ≡ counted_or env pool (no_atom env pool e) (is_top (at pool (plain e).child)) (over_top env pool v e)
  counted_is Top h = absurd (omega arith)
  counted_is Bot h = absurd (omega arith)
  counted_is (Atomic a) h = absurd (omega arith)
  counted_is (Nominal i) h = absurd (omega arith)
  counted_is (SelfRestriction r) h = absurd (omega arith)
  counted_is (Not d) h = absurd (omega arith)
  counted_is (And l) h = absurd (omega arith)
  counted_is (Or l) h = absurd (omega arith)
  counted_is (Some r d) h = absurd (omega arith)
  counted_is (All r d) h = absurd (omega arith)
  counted_is (Min n r d) h = refl
  counted_is (Max n r d) h = refl

  pub no_atom_is : (e : Concept) → 11 ≤ (plain e).kind → no_atom env pool e ≡ not env.card_disjunct_atoms || (at_least_none e || is_dkey env (class_id_of env (at pool (plain e).child)))
  no_atom_is Top h = absurd (omega arith)
  no_atom_is Bot h = absurd (omega arith)
  no_atom_is (Atomic a) h = absurd (omega arith)
  no_atom_is (Nominal i) h = absurd (omega arith)
  no_atom_is (SelfRestriction r) h = absurd (omega arith)
  no_atom_is (Not d) h = absurd (omega arith)
  no_atom_is (And l) h = absurd (omega arith)
  no_atom_is (Or l) h = absurd (omega arith)
  no_atom_is (Some r d) h = absurd (omega arith)
  no_atom_is (All r d) h = absurd (omega arith)
  no_atom_is (Min n r d) h = refl
  no_atom_is (Max n r d) h = refl

pub or_rest : (o n d : Bool) → not o ≡ false → n ≡ false → not o || (n || d) ≡ d
or_rest true false d h g = refl
or_rest true true d h g = absurd (let z : ◌≡◌ {A = ℕ} 0 1 = cc in omega arith)
or_rest false n d h g = absurd (let z : ◌≡◌ {A = ℕ} 0 1 = cc in omega arith)

-- ---- forms
module _ (pool : Pool) where
  -- Min and Max
  pub form_counted : (e : Concept) (t : Bool) → 11 ≤ (plain e).kind → false ≡ at_least_none e → t ≡ is_top (at pool (plain e).child) → pick t FormIs.Leaf FormIs.Named ≡ form_of pool e
  form_counted Top t h g q = absurd (omega arith)
  form_counted Bot t h g q = absurd (omega arith)
  form_counted (Atomic a) t h g q = absurd (omega arith)
  form_counted (Nominal i) t h g q = absurd (omega arith)
  form_counted (SelfRestriction r) t h g q = absurd (omega arith)
  form_counted (Not d) t h g q = absurd (omega arith)
  form_counted (And l) t h g q = absurd (omega arith)
  form_counted (Or l) t h g q = absurd (omega arith)
  form_counted (Some r d) t h g q = absurd (omega arith)
  form_counted (All r d) t h g q = absurd (omega arith)
  form_counted (Min zero r d) t h g q = absurd (let z : ◌≡◌ {A = ℕ} 0 1 = cc in omega arith)
  form_counted (Min (suc n) r d) t h g q = rw q refl
  form_counted (Max n r d) t h g q = rw q refl

pub above : (x m : ℕ) → m ≤ x → (x ≡ m → ⊥) → m < x
above x m l n = by_test (ltb m x) (λ a. ltb-true m x a) (λ a. absurd (n (omega (arith, ltb-false m x a))))

pub eleven : (x : ℕ) → 11 ≤ x → x ≤ 12 → (x ≡ 12 → ⊥) → x ≡ 11
eleven x l m n = by_test (eqb x 11) (λ a. eqb-true x 11 a) (λ a. absurd (n (omega (arith, above x 11 l (eqb-false x 11 a), m))))

pub twelve : (x : ℕ) → 11 ≤ x → x ≤ 12 → (x ≡ 11 → ⊥) → x ≡ 12
twelve x l m n = omega (arith, above x 11 l n, m)

starts_child : (m : ℕ) (e : Concept) → 11 ≤ (plain e).kind → (starts_at m (plain e)).child ≡ (plain e).child
starts_child m Top h = absurd (omega arith)
starts_child m Bot h = absurd (omega arith)
starts_child m (Atomic a) h = absurd (omega arith)
starts_child m (Nominal i) h = absurd (omega arith)
starts_child m (SelfRestriction r) h = absurd (omega arith)
starts_child m (Not d) h = absurd (omega arith)
starts_child m (And l) h = absurd (omega arith)
starts_child m (Or l) h = absurd (omega arith)
starts_child m (Some r d) h = absurd (omega arith)
starts_child m (All r d) h = absurd (omega arith)
starts_child m (Min n r d) h = refl
starts_child m (Max n r d) h = refl

-- ---- a record of a pool that is read
module _ (s : List ℕ) (k : Counters) (R : Reading s k) (c : ℕ) (h : c < k.concepts) where
  pub kind_of : field (words s) c 0 ≡ (plain (concept_at (words s) c)).kind
  kind_of = record_kind (words s) k.concepts k.members R.ready.held c h

  pub most_kind : field (words s) c 0 ≤ 12
  most_kind = (kind_range (words s) k.concepts k.members R.ready.held c h).1

  pub at_is : at (pool_of (words s) k.concepts) c ≡ concept_at (words s) c
  at_is = pool_at (words s) k.concepts c h

  bounded : Bounded R.bounds c (concept_at (words s) c)
  bounded = subst (Bounded R.bounds c) at_is (R.wf c (rw (pool_length (words s) k.concepts) h))

  pub top_is : eqb (field (words s) c 0) 1 ≡ is_top (concept_at (words s) c)
  top_is = ap (λ (x : ℕ). eqb x 1) kind_of ∙ top_kind (concept_at (words s) c)

  role_of_lem : field (words s) c 1 ≡ (plain (concept_at (words s) c)).role
  role_of_lem = ap (λ (x : Record). x.role) (R.ready.held.records c h).words

  pub role_small : HasRole (concept_at (words s) c) → field (words s) c 1 < 2 * most_roles
  role_small r = rw role_of_lem (role_bounded R.bounds c (concept_at (words s) c) bounded r R.roles)

  pub class_small : field (words s) c 0 ≡ 3 → field (words s) c 2 < most_names
  class_small e = let b = subst (Bounded R.bounds c) (concept_3 (words s) c e) bounded in omega (arith, b, R.classes)

  pub nominal_small : field (words s) c 0 ≡ 4 → field (words s) c 2 < most_individuals
  nominal_small e = let b = subst (Bounded R.bounds c) (concept_4 (words s) c e) bounded in omega (arith, b, R.individuals)

  pub child_6 : field (words s) c 0 ≡ 6 → field (words s) c 3 < c
  child_6 e = (subst (Bounded R.bounds c) (concept_6 (words s) c e) bounded)

  pub child_9 : field (words s) c 0 ≡ 9 → field (words s) c 3 < c
  child_9 e = (subst (Bounded R.bounds c) (concept_9 (words s) c e) bounded).1

  pub child_10 : field (words s) c 0 ≡ 10 → field (words s) c 3 < c
  child_10 e = (subst (Bounded R.bounds c) (concept_10 (words s) c e) bounded).1

  pub child_11 : field (words s) c 0 ≡ 11 → field (words s) c 3 < c
  child_11 e = (subst (Bounded R.bounds c) (concept_11 (words s) c e) bounded).2

  pub child_12 : field (words s) c 0 ≡ 12 → field (words s) c 3 < c
  child_12 e = (subst (Bounded R.bounds c) (concept_12 (words s) c e) bounded).2

  -- of Min and Max
  pub counted_child : 11 ≤ field (words s) c 0 → field (words s) c 3 < c
  counted_child l = by_test (eqb (field (words s) c 0) 11) (λ a. child_11 (eqb-true (field (words s) c 0) 11 a)) (λ a. child_12 (omega (arith, above (field (words s) c 0) 11 l (eqb-false (field (words s) c 0) 11 a), most_kind)))

  pub counted_at : 11 ≤ field (words s) c 0 → at (pool_of (words s) k.concepts) (plain (concept_at (words s) c)).child ≡ concept_at (words s) (field (words s) c 3)
  counted_at l =
      let q : field (words s) c 3 ≡ (plain (concept_at (words s) c)).child = ap (λ (x : Record). x.child) (R.ready.held.records c h).words ∙ starts_child (members (pool_of (words s) c)) (concept_at (words s) c) (rw kind_of at l) in
      let b = counted_child l in
      rw (← q) (pool_at (words s) k.concepts (field (words s) c 3) (omega arith))

pub role_of_code : (x : ℕ) → x < 2 ^ 32 → role_id (role_of x) < 2 ^ 31
role_of_code x h = by_test (eqb (x % 2) 0) (λ a. rw a (omega arith)) (λ a. rw a (omega arith))
