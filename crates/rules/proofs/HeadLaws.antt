-- What emitHead does, with its names, qualifiers and head atoms: every clause that it pushes is within bounds, and each
-- fresh class and variable has its own visit.
use Rattle.std.proofs.Math.Bool.{Bool, true, false}
use Rattle.std.specs.Prelude.{not, ◌&&◌, ◌||◌, length, eqb}
use mathlib.Core.List.{List, [], ◌∷◌, ◌++◌}
use Rattle.std.proofs.Math.Option.{Option, none, some}
use Prim.Native.Nat.{ℕ, zero, suc, ◌+◌, ◌≤◌, ◌<◌}
use Rattle.std.proofs.Common.{not-suc-le-zero, le_refl, arith}
use Rattle.std.proofs.Math.Nat.{le_trans}
use Rattle.ir.specs.Pick.{pick}
use Rattle.ir.specs.declared.role.Role.{Role}
use Rattle.ir.specs.declared.atom.Atom.{Atom}
use Rattle.ir.specs.declared.atom.Atom.TheVariants.{Class, Exists, AtMost, AtLeast, Role as RoleAtom}
use Rattle.ir.specs.Qualifiers.{Qualifier}
use Rattle.std.specs.Prelude.{None}
use Rattle.ir.specs.declared.deferral.Deferral.TheVariants.{HeadOrDisjunct, HeadNotNonatomic}
use Rattle.rules.specs.Text.{most_number}
use Rattle.rules.specs.Base.{Res, ok, then, is_some}
use Rattle.rules.specs.Concept.{Concept}
use Rattle.rules.specs.Concept.{Top, Bot, Atomic, Nominal, SelfRestriction, Not, And, Or, Some, All, Min, Max}
use Rattle.rules.specs.Pool.{Pool, at}
use Rattle.rules.specs.State.{Env, Out, E, canon, most_in_hand, with_limits, await, visit, fresh_var, fresh_class, with, push, class_id_of, is_dkey}
use Rattle.rules.specs.Heads.{Emits, is_top, is_dkey_qualifier, name_or, atomic_name_of, qualifier_or, cardinality_qualifier, limit_qualifier, name_atom, not_atom, max_atom, min_atom, compound_atom, atom_or, head_atom_for, head_or, heads, push_heads, emit_not, unless_dkey, emit_step, emit_by}
use Rattle.rules.specs.Invariants.{Each, Bounds, RoleIn, Bounded, Wf, QualifierIn, AtomIn}
use Rattle.rules.specs.Post.{Post, give, post_then, post_map}
use Rattle.rules.proofs.EmitLaws.{for_each_lem, atom_more, AtomsIn, atoms_with, atoms_none, atoms_one, Stepped, stepped_refl, stepped_trans, visited, with_var, with_class, visited_stepped, visited_var, visited_class, awaiting, visited_limit, visit_then, with_then, push_made, defer_made, above_after, atoms_after, stepped_after, AtomAt, AtomsAt}
use Rattle.rules.specs.Handed.{RolesKept, Above}

-- ---- what a call is handed
-- X is a variable, and the fresh classes come after the declared ones
pub record Rooted (B : Bounds) (env : Env) (s : Out) : Type 0 where
  pub above : Above B env s.next_fresh
  pub root : 0 < s.next_var

pub rooted_more : {B : Bounds} {env : Env} {s t : Out} → Stepped B s t → Rooted B env s → Rooted B env t
rooted_more X R = record { above = above_after X R.above; root = le_trans R.root X.more }

-- a body and a variable
pub record Ready (B : Bounds) (env : Env) (s : Out) (b : List Atom) (v : ℕ) : Type 0 where
  pub rooted : Rooted B env s
  pub var : v < s.next_var
  pub body : AtomsAt B s b

pub ready_more : {B : Bounds} {env : Env} {s t : Out} {b : List Atom} {v : ℕ} → Stepped B s t → Ready B env s b v → Ready B env t b v
ready_more X R = record { rooted = rooted_more X R.rooted; var = le_trans R.var X.more; body = atoms_after X R.body }

-- ---- what is answered
abbrev pub ClassOr : ℕ → Option ℕ → Type 0
ClassOr fresh none = Unit {0}
ClassOr fresh (some a) = a < fresh

abbrev pub AtomOr : Bounds → ℕ → ℕ → Option Atom → Type 0
AtomOr B fresh vars none = Unit {0}
AtomOr B fresh vars (some a) = AtomIn B fresh vars a

abbrev pub AtomsOr : Bounds → ℕ → ℕ → Option (List Atom) → Type 0
AtomsOr B fresh vars none = Unit {0}
AtomsOr B fresh vars (some l) = AtomsIn B fresh vars l

pub record Named (B : Bounds) (s : Out) (q : ℕ) (t : Out) : Type 0 where
  pub stepped : Stepped B s t
  pub class : q < t.next_fresh

pub record Qualifying (B : Bounds) (s : Out) (q : Qualifier) (t : Out) : Type 0 where
  pub stepped : Stepped B s t
  pub qualifier : QualifierIn t.next_fresh q

pub record Heading (B : Bounds) (s : Out) (o : Option Atom) (t : Out) : Type 0 where
  pub stepped : Stepped B s t
  pub atom : AtomOr B t.next_fresh t.next_var o

pub record HeadingAll (B : Bounds) (s : Out) (o : Option (List Atom)) (t : Out) : Type 0 where
  pub stepped : Stepped B s t
  pub atoms : AtomsOr B t.next_fresh t.next_var o

heading_after : {B : Bounds} {s t u : Out} {o : Option Atom} → Stepped B s t → Heading B t o u → Heading B s o u
heading_after X Y = record { stepped = stepped_trans X Y.stepped; atom = Y.atom }

-- a class or an individual has a class below the fresh ones
pub class_in_lem : {B : Bounds} {env : Env} {fresh : ℕ} → Above B env fresh → (n : ℕ) (e : Concept) → Bounded B n e → ClassOr fresh (class_id_of env e)
class_in_lem A n Top u = tt
class_in_lem A n Bot u = tt
class_in_lem A n (Atomic a) u = A.classes a u
class_in_lem A n (Nominal i) u = A.individuals i u
class_in_lem A n (SelfRestriction _) u = tt
class_in_lem A n (Not _) u = tt
class_in_lem A n (And _) u = tt
class_in_lem A n (Or _) u = tt
class_in_lem A n (Some _ _) u = tt
class_in_lem A n (All _ _) u = tt
class_in_lem A n (Min _ _ _) u = tt
class_in_lem A n (Max _ _ _) u = tt

module _ (B : Bounds) (env : Env) (pool : Pool) (roles : RolesKept B env) (wf : Wf B pool) where
  -- a rule that emits the concepts below n
  abbrev pub EmitsBelow : ℕ → Emits → Type 0
  EmitsBelow n emit = (b : List Atom) (c v : ℕ) (s : Out) → c < n → Ready B env s b v → Post (λ _ t. Stepped B s t) (emit b c v s)

  module _ (emit : Emits) (n : ℕ) (fits : n ≤ length pool) (W : EmitsBelow n emit) where
    bounded_at : (c : ℕ) → c < n → Bounded B c (at pool c)
    bounded_at c h = wf c (le_trans h fits)

    -- ---- names: one anew, from the state t that has paid for it; the rest after the visit; and the whole
    name_anew : (c : ℕ) (s t : Out) → c < n → Rooted B env s → Stepped B s t → s.next_fresh < t.next_fresh → Post (Named B s) (then (emit (Class s.next_fresh 0 ∷ []) c 0 t) (λ _ u. ok s.next_fresh u))
    name_anew c s t h R X k = post_then (W (Class s.next_fresh 0 ∷ []) c 0 t h (record {
      rooted = rooted_more X R;
      var = le_trans R.root X.more;
      body = atoms_one B t.next_fresh t.next_var (Class s.next_fresh 0) (k, le_trans R.root X.more);
    })) (λ _ u Y. give (record { stepped = stepped_trans X Y; class = le_trans k Y.emitted.fresh }))

    name_or_lem : (c : ℕ) (s : Out) → s.visits < s.limit → c < n → Rooted B env s → (o : Option ℕ) → ClassOr s.next_fresh o → Post (Named B s) (name_or env pool emit c o (visited s))
    unfolding name_or fresh_class
    name_or_lem c s able h R (some a) u = give (record { stepped = visited_stepped B s able; class = u })
    name_or_lem c s able h R none u = name_anew c s (with_class (visited s)) h R (visited_class B s able) (omega arith)

    pub name_made : (c : ℕ) (s : Out) → c < n → Rooted B env s → Post (Named B s) (atomic_name_of env pool emit c s)
    unfolding atomic_name_of
    name_made c s h R = visit_then s (λ _. name_or env pool emit c (class_id_of env (at pool c))) (λ able. name_or_lem c s able h R (class_id_of env (at pool c)) (class_in_lem R.above c (at pool c) (bounded_at c h)))

    -- ---- qualifiers
    qualifier_or_lem : (c : ℕ) (s : Out) → c < n → Rooted B env s → (b : Bool) → Post (Qualifying B s) (qualifier_or env pool emit c b s)
    unfolding qualifier_or
    qualifier_or_lem c s h R true = give (record { stepped = stepped_refl B s; qualifier = tt })
    qualifier_or_lem c s h R false = post_then (name_made c s h R) (λ q t X. give (record { stepped = X.stepped; qualifier = X.class }))

    pub qualifier_made : (c : ℕ) (s : Out) → c < n → Rooted B env s → Post (Qualifying B s) (cardinality_qualifier env pool emit c s)
    unfolding cardinality_qualifier
    qualifier_made c s h R = qualifier_or_lem c s h R (is_top (at pool c))

    -- the filler of a limit: to wait and to be named is one step, since the name is below the next class only once it is taken
    pub limit_made : (c : ℕ) (s : Out) → c < n → Rooted B env s → Post (Qualifying B s) (limit_qualifier env pool emit c s)
    unfolding limit_qualifier await cardinality_qualifier qualifier_or atomic_name_of name_or fresh_class
    limit_made c s h R = go env.equal_names (is_top (at pool c))
      where
        -- whether it waits
        waits : Bool → Out
        waits b = with_limits (pick b (s.limits ++ (record { filler = c; name = s.next_fresh } ∷ [])) s.limits) s

        name : (b : Bool) (o : Option ℕ) → ClassOr s.next_fresh o → Post (Named B s) (then (visit (waits (b && not (is_some o)))) (λ _. name_or env pool emit c o))
        name true none u = visit_then (awaiting c s) (λ _. name_or env pool emit c none) (λ able. name_anew c s (with_class (visited (awaiting c s))) h R (visited_limit B c s able) (omega arith))
        name true (some a) u = visit_then s (λ _. name_or env pool emit c (some a)) (λ able. name_or_lem c s able h R (some a) u)
        name false o u = visit_then s (λ _. name_or env pool emit c o) (λ able. name_or_lem c s able h R o u)

        unqualified : Post (Qualifying B s) (ok None s)
        unqualified = give (record { stepped = stepped_refl B s; qualifier = tt })

        go : (b top : Bool) → Post (Qualifying B s) (qualifier_or env pool emit c top (waits (b && (not top && not (is_some (class_id_of env (at pool c)))))))
        go true true = unqualified
        go false true = unqualified
        go b false = post_then (name b (class_id_of env (at pool c)) (class_in_lem R.above c (at pool c) (bounded_at c h))) (λ q t X. give (record { stepped = X.stepped; qualifier = X.class }))

    -- ---- head atoms
    name_atom_lem : (c v : ℕ) (s : Out) → c < n → v < s.next_var → Rooted B env s → Post (Heading B s) (name_atom env pool emit c v s)
    unfolding name_atom
    name_atom_lem c v s h k R = post_then (name_made c s h R) (λ q t X. give (record { stepped = X.stepped; atom = (X.class, le_trans k X.stepped.more) }))

    -- a fresh class that excludes an atom at X
    excluded : (v : ℕ) (a : Atom) (s : Out) → s.visits < s.limit → v < s.next_var → Rooted B env s → AtomAt B s a
        → Post (Heading B s) (then (push env (Class s.next_fresh 0 ∷ a ∷ []) [] (with_class (visited s))) (λ _ t. ok (some (Class s.next_fresh v)) t))
    excluded v a s able k R i =
        post_then (push_made {B = B} env (with_class (visited s)) (record { each = ((omega arith, R.root), (atom_more B (omega arith) (le_refl s.next_var) a i, tt)); short = omega arith }) (atoms_none B (s.next_fresh + 1) s.next_var))
        (λ _ t X. give (record { stepped = stepped_trans (visited_class B s able) X; atom = (omega (arith, X.emitted.fresh), le_trans k X.more) }))

    not_atom_lem : (v : ℕ) (s : Out) → s.visits < s.limit → v < s.next_var → Rooted B env s → (d : ℕ) (e : Concept) → Bounded B d e → (o : Option ℕ) → ClassOr s.next_fresh o
        → Post (Heading B s) (not_atom env pool emit v e o (visited s))
    unfolding not_atom fresh_class
    not_atom_lem v s able k R d e u (some a) i = excluded v (Class a 0) s able k R (i, R.root)
    not_atom_lem v s able k R d Top u none i = give (record { stepped = visited_stepped B s able; atom = tt })
    not_atom_lem v s able k R d Bot u none i = give (record { stepped = visited_stepped B s able; atom = tt })
    not_atom_lem v s able k R d (Atomic _) u none i = give (record { stepped = visited_stepped B s able; atom = tt })
    not_atom_lem v s able k R d (Nominal _) u none i = give (record { stepped = visited_stepped B s able; atom = tt })
    not_atom_lem v s able k R d (SelfRestriction r) u none i = excluded v (RoleAtom (canon env r) 0 0) s able k R (roles r u, R.root, R.root)
    not_atom_lem v s able k R d (Not _) u none i = give (record { stepped = visited_stepped B s able; atom = tt })
    not_atom_lem v s able k R d (And _) u none i = give (record { stepped = visited_stepped B s able; atom = tt })
    not_atom_lem v s able k R d (Or _) u none i = give (record { stepped = visited_stepped B s able; atom = tt })
    not_atom_lem v s able k R d (Some _ _) u none i = give (record { stepped = visited_stepped B s able; atom = tt })
    not_atom_lem v s able k R d (All _ _) u none i = give (record { stepped = visited_stepped B s able; atom = tt })
    not_atom_lem v s able k R d (Min _ _ _) u none i = give (record { stepped = visited_stepped B s able; atom = tt })
    not_atom_lem v s able k R d (Max _ _ _) u none i = give (record { stepped = visited_stepped B s able; atom = tt })

    max_atom_lem : (c v m : ℕ) (r : Role) (d : ℕ) (s : Out) → c < n → d < n → m ≤ most_number → RoleIn B r → v < s.next_var → Rooted B env s → (b : Bool) → Post (Heading B s) (max_atom env pool emit c v m r d b s)
    unfolding max_atom
    max_atom_lem c v m r d s h i j l k R true = name_atom_lem c v s h k R
    max_atom_lem c v m r d s h i j l k R false = post_then (limit_made d s i R) (λ q t X. give (record { stepped = X.stepped; atom = (roles r l, X.qualifier, j, le_trans k X.stepped.more) }))

    min_atom_lem : (c v m : ℕ) (r : Role) (d : ℕ) (s : Out) → c < n → d < n → m ≤ most_number → RoleIn B r → v < s.next_var → Rooted B env s → (b : Bool) → Post (Heading B s) (min_atom env pool emit c v m r d b s)
    unfolding min_atom
    min_atom_lem c v m r d s h i j l k R true = name_atom_lem c v s h k R
    min_atom_lem c v m r d s h i j l k R false = post_then (qualifier_made d s i R) (λ q t X. give (record { stepped = X.stepped; atom = (roles r l, X.qualifier, j, le_trans k X.stepped.more) }))

    some_atom : (v : ℕ) (r : Role) (d : ℕ) (s : Out) → d < n → RoleIn B r → v < s.next_var → Rooted B env s → Post (Heading B s) (then (atomic_name_of env pool emit d s) (λ q t. ok (some (Exists (canon env r) q v)) t))
    some_atom v r d s i l k R = post_then (name_made d s i R) (λ q t X. give (record { stepped = X.stepped; atom = (roles r l, X.class, le_trans k X.stepped.more) }))

    compound_atom_lem : (c v : ℕ) (s : Out) → s.visits < s.limit → c < n → v < s.next_var → Rooted B env s → (e : Concept) → Bounded B c e → Post (Heading B s) (compound_atom env pool emit c v e (visited s))
    unfolding compound_atom
    compound_atom_lem c v s able h k R e u = go e u
      where
        X : Stepped B s (visited s)
        X = visited_stepped B s able

        R₁ : Rooted B env (visited s)
        R₁ = rooted_more X R

        after : {r : Res Out (Option Atom)} → Post (Heading B (visited s)) r → Post (Heading B s) r
        after p = post_map p (λ o t Y. heading_after X Y)

        name : Post (Heading B s) (name_atom env pool emit c v (visited s))
        name = after (name_atom_lem c v (visited s) h k R₁)

        go : (e : Concept) → Bounded B c e → Post (Heading B s) (compound_atom env pool emit c v e (visited s))
        go Top u = name
        go Bot u = name
        go (Atomic _) u = name
        go (Nominal _) u = name
        go (SelfRestriction _) u = name
        go (Not d) u = not_atom_lem v s able k R d (at pool d) (bounded_at d (le_trans u (omega arith))) (class_id_of env (at pool d)) (class_in_lem R.above d (at pool d) (bounded_at d (le_trans u (omega arith))))
        go (And _) u = name
        go (Or _) u = name
        go (Some r d) u = after (some_atom v r d (visited s) (le_trans u.1 (omega arith)) u.0 k R₁)
        go (All _ _) u = name
        go (Min m r d) u = after (min_atom_lem c v m r d (visited s) h (le_trans u.2 (omega arith)) u.0 u.1 k R₁ (not env.card_disjunct_atoms || (eqb m 0 || is_dkey env (class_id_of env (at pool d)))))
        go (Max m r d) u = after (max_atom_lem c v m r d (visited s) h (le_trans u.2 (omega arith)) (omega (arith, u.0)) u.1 k R₁ (not env.card_disjunct_atoms || is_dkey env (class_id_of env (at pool d))))

    atom_or_lem : (c v : ℕ) (s : Out) → s.visits < s.limit → c < n → v < s.next_var → Rooted B env s → (o : Option ℕ) → ClassOr s.next_fresh o → Post (Heading B s) (atom_or env pool emit c v o (visited s))
    unfolding atom_or
    atom_or_lem c v s able h k R (some a) u = give (record { stepped = visited_stepped B s able; atom = (u, k) })
    atom_or_lem c v s able h k R none u = compound_atom_lem c v s able h k R (at pool c) (bounded_at c h)

    pub head_atom_made : (c v : ℕ) (s : Out) → c < n → v < s.next_var → Rooted B env s → Post (Heading B s) (head_atom_for env pool emit c v s)
    unfolding head_atom_for
    head_atom_made c v s h k R = visit_then s (λ _. atom_or env pool emit c v (class_id_of env (at pool c))) (λ able. atom_or_lem c v s able h k R (class_id_of env (at pool c)) (class_in_lem R.above c (at pool c) (bounded_at c h)))

    -- ---- the disjuncts of an Or
    pub heads_made : (l : List ℕ) (v : ℕ) (hs : List Atom) (s : Out) → Each (λ c. c < n) l → v < s.next_var → Rooted B env s → AtomsAt B s hs
        → Post (HeadingAll B s) (heads env pool emit l v hs s)
    unfolding heads
    heads_made [] v hs s u k R A = give (record { stepped = stepped_refl B s; atoms = A })
    heads_made (c ∷ l) v hs s u k R A = post_then (head_atom_made c v s u.0 k R) (λ o t X. go (λ more t k R A. heads_made l v more t u.1 k R A) o t X)
      where
        go : ((more : List Atom) (t : Out) → v < t.next_var → Rooted B env t → AtomsAt B t more → Post (HeadingAll B t) (heads env pool emit l v more t))
            → (o : Option Atom) (t : Out) → Heading B s o t → Post (HeadingAll B s) (head_or env pool emit (λ more. heads env pool emit l v more) hs o t)
        go rest none t X = give (record { stepped = X.stepped; atoms = tt })
        go rest (some a) t X = with_then hs a t (λ more. heads env pool emit l v more) (λ short.
            post_map (rest (hs ++ (a ∷ [])) t (le_trans k X.stepped.more) (rooted_more X.stepped R) (atoms_with a (atoms_after X.stepped A) X.atom short))
            (λ o₁ u Y. record { stepped = stepped_trans X.stepped Y.stepped; atoms = Y.atoms }))

    push_heads_lem : (b : List Atom) (v : ℕ) (s t : Out) → Ready B env s b v → (o : Option (List Atom)) → HeadingAll B s o t → Post (λ _ u. Stepped B s u) (push_heads env pool emit b o t)
    push_heads_lem b v s t R none X = stepped_after X.stepped (defer_made B env HeadOrDisjunct t)
    push_heads_lem b v s t R (some hs) X = stepped_after X.stepped (push_made env t (ready_more X.stepped R).body X.atoms)

    -- ---- the arms of emitHead
    -- a body with one atom more, and no head
    denied : (b : List Atom) (v : ℕ) (a : Atom) (s : Out) → Ready B env s b v → AtomAt B s a → Post (λ _ t. Stepped B s t) (then (with b a s) (λ more. push env more []))
    denied b v a s R i = with_then b a s (λ more. push env more []) (λ short. push_made env s (atoms_with a R.body i short) (atoms_none B s.next_fresh s.next_var))

    not_made : (b : List Atom) (v : ℕ) (s : Out) → Ready B env s b v → (d : ℕ) (e : Concept) → Bounded B d e → (o : Option ℕ) → ClassOr s.next_fresh o → Post (λ _ t. Stepped B s t) (emit_not env pool emit b v e o s)
    unfolding emit_not
    not_made b v s R d e u (some a) i = denied b v (Class a v) s R (i, R.var)
    not_made b v s R d Top u none i = defer_made B env HeadNotNonatomic s
    not_made b v s R d Bot u none i = defer_made B env HeadNotNonatomic s
    not_made b v s R d (Atomic _) u none i = defer_made B env HeadNotNonatomic s
    not_made b v s R d (Nominal _) u none i = defer_made B env HeadNotNonatomic s
    not_made b v s R d (SelfRestriction r) u none i = denied b v (RoleAtom (canon env r) v v) s R (roles r u, R.var, R.var)
    not_made b v s R d (Not _) u none i = defer_made B env HeadNotNonatomic s
    not_made b v s R d (And _) u none i = defer_made B env HeadNotNonatomic s
    not_made b v s R d (Or _) u none i = defer_made B env HeadNotNonatomic s
    not_made b v s R d (Some _ _) u none i = defer_made B env HeadNotNonatomic s
    not_made b v s R d (All _ _) u none i = defer_made B env HeadNotNonatomic s
    not_made b v s R d (Min _ _ _) u none i = defer_made B env HeadNotNonatomic s
    not_made b v s R d (Max _ _ _) u none i = defer_made B env HeadNotNonatomic s

    one_made : (b : List Atom) (v : ℕ) (a : Atom) (s : Out) → Ready B env s b v → AtomAt B s a → Post (λ _ t. Stepped B s t) (push env b (a ∷ []) s)
    one_made b v a s R i = push_made env s R.body (atoms_one B s.next_fresh s.next_var a i)

    unless_made : (b : List Atom) (v : ℕ) (a : Atom) (s : Out) → Ready B env s b v → AtomAt B s a → (k : Bool) → Post (λ _ t. Stepped B s t) (unless_dkey env pool emit b a k s)
    unless_made b v a s R i true = give (stepped_refl B s)
    unless_made b v a s R i false = one_made b v a s R i

    -- a number restriction, as the atom that its qualifier gives
    count_made : (b : List Atom) (v : ℕ) (d : ℕ) (qualifier : E Qualifier) (atom : Qualifier → Atom) (s : Out) → Ready B env s b v → Post (Qualifying B s) (qualifier s)
        → ((q : Qualifier) (t : Out) → QualifierIn t.next_fresh q → v < t.next_var → AtomAt B t (atom q))
        → Post (λ _ t. Stepped B s t) (then (qualifier s) (λ q. unless_dkey env pool emit b (atom q) (is_dkey_qualifier env q)))
    count_made b v d qualifier atom s R h i = post_then h (λ q t X.
        let R₁ = ready_more X.stepped R in
        stepped_after X.stepped (unless_made b v (atom q) t R₁ (i q t X.qualifier R₁.var) (is_dkey_qualifier env q)))

    some_made : (b : List Atom) (v : ℕ) (r : Role) (d : ℕ) (s : Out) → Ready B env s b v → RoleIn B r → d < n → Post (λ _ t. Stepped B s t) (then (atomic_name_of env pool emit d s) (λ q. push env b (Exists (canon env r) q v ∷ [])))
    some_made b v r d s R l h = post_then (name_made d s h R.rooted) (λ q t X.
        let R₁ = ready_more X.stepped R in
        stepped_after X.stepped (one_made b v (Exists (canon env r) q v) t R₁ (roles r l, X.class, R₁.var)))

    -- the next variable, and a body with a role to it; s is before the visit that pays for it
    all_made : (b : List Atom) (v : ℕ) (r : Role) (d : ℕ) (s : Out) → s.visits < s.limit → Ready B env s b v → RoleIn B r → d < n
        → Post (λ _ t. Stepped B s t) (then (with b (RoleAtom (canon env r) v s.next_var) (with_var (visited s))) (λ more. emit more d s.next_var))
    all_made b v r d s able R l h = with_then b (RoleAtom (canon env r) v s.next_var) (with_var (visited s)) (λ more. emit more d s.next_var) (λ short.
        let R₁ = ready_more (visited_var B s able) R in
        stepped_after (visited_var B s able) (W (b ++ (RoleAtom (canon env r) v s.next_var ∷ [])) d s.next_var (with_var (visited s)) h (record {
          rooted = R₁.rooted;
          var = omega arith;
          body = atoms_with (RoleAtom (canon env r) v s.next_var) R₁.body (roles r l, R₁.var, omega arith) short;
        })))

    -- the rest of emitHead, after its visit
    step_made : (b : List Atom) (v : ℕ) (s : Out) → s.visits < s.limit → Ready B env s b v → (e : Concept) → Bounded B n e → Post (λ _ t. Stepped B s t) (emit_step env pool emit b v e (visited s))
    unfolding emit_step fresh_var
    step_made b v s able R e u = go e u
      where
        X : Stepped B s (visited s)
        X = visited_stepped B s able

        R₁ : Ready B env (visited s) b v
        R₁ = ready_more X R

        after : {A : Type 0} {r : Res Out A} → Post (λ _ t. Stepped B (visited s) t) r → Post (λ _ t. Stepped B s t) r
        after p = stepped_after X p

        go : (e : Concept) → Bounded B n e → Post (λ _ t. Stepped B s t) (emit_step env pool emit b v e (visited s))
        go Top u = give X
        go Bot u = after (push_made env (visited s) R₁.body (atoms_none B s.next_fresh s.next_var))
        go (Atomic a) u = after (one_made b v (Class a v) (visited s) R₁ (R.rooted.above.classes a u, R.var))
        go (Nominal i) u = after (one_made b v (Class (env.nominal_base + i) v) (visited s) R₁ (R.rooted.above.individuals i u, R.var))
        go (SelfRestriction r) u = after (one_made b v (RoleAtom (canon env r) v v) (visited s) R₁ (roles r u, R.var, R.var))
        go (Not d) u = after (not_made b v (visited s) R₁ d (at pool d) (bounded_at d u) (class_id_of env (at pool d)) (class_in_lem R.rooted.above d (at pool d) (bounded_at d u)))
        go (And l) u = for_each_lem (Stepped B s) (λ p. p < n) (λ p. emit b p v) (λ p t h Y. stepped_after Y (W b p v t h (ready_more Y R))) l u (visited s) X
        go (Or l) u = post_then (heads_made l v [] (visited s) u R.var R₁.rooted (atoms_none B s.next_fresh s.next_var)) (λ o t Y. after (push_heads_lem b v (visited s) t R₁ o Y))
        go (Some r d) u = after (some_made b v r d (visited s) R₁ u.0 u.1)
        go (All r d) u = all_made b v r d s able R u.0 u.1
        go (Min zero r d) u = give X
        go (Min (suc m) r d) u = after (count_made b v d (cardinality_qualifier env pool emit d) (λ q. AtLeast (canon env r) q (suc m) v) (visited s) R₁ (qualifier_made d (visited s) u.2 R₁.rooted) (λ q t i k. (roles r u.1, i, u.0, k)))
        go (Max m r d) u = after (count_made b v d (limit_qualifier env pool emit d) (λ q. AtMost (canon env r) q m v) (visited s) R₁ (limit_made d (visited s) u.2 R₁.rooted) (λ q t i k. (roles r u.1, i, omega (arith, u.0), k)))

  -- ---- emitHead, for every bound above the id
  pub emit_ready : (f : ℕ) (b : List Atom) (c v : ℕ) (s : Out) → c < length pool → c < f → Ready B env s b v → Post (λ _ t. Stepped B s t) (emit_by env pool f b c v s)
  unfolding emit_by
  emit_ready zero b c v s k h R = absurd (not-suc-le-zero h)
  emit_ready (suc f) b c v s k h R = go (λ b d u t i R. emit_ready f b d u t (le_trans i (omega arith)) (le_trans i (omega arith)) R)
    where
      go : EmitsBelow c (λ b d u. emit_by env pool f b d u) → Post (λ _ t. Stepped B s t) (emit_by env pool (suc f) b c v s)
      go ih = visit_then s (λ _. emit_step env pool (λ k d u. emit_by env pool f k d u) b v (at pool c)) (λ able. step_made (λ k d u. emit_by env pool f k d u) c (omega arith) ih b v s able R (at pool c) (wf c k))

  pub emit_made : (f : ℕ) (b : List Atom) (c v : ℕ) (s : Out) → Above B env s.next_fresh → c < length pool → c < f → v < s.next_var → 0 < s.next_var
      → Each (AtomIn B s.next_fresh s.next_var) b → length b ≤ most_in_hand → Post (λ _ t. Stepped B s t) (emit_by env pool f b c v s)
  emit_made f b c v s A k h var root each short = emit_ready f b c v s k h (record { rooted = record { above = A; root = root }; var = var; body = record { each = each; short = short } })
