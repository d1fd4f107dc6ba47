-- A clause holds, by the choices of elements for its own variables, exactly when it follows under every choice of elements for
-- all variables (where there is an element). Assumes nothing.
use Rattle.std.specs.Prelude.{◌≡◌, refl, Bool, false, ◌&&◌, ◌||◌, eqb, leb, ltb}
use Rattle.std.proofs.Math.Path.{sym}
use Rattle.std.proofs.Common.{ap, ap₂, ◌∙◌, eq-eqb, eqb-true}
use Rattle.std.proofs.Math.Bool.{true}
use Rattle.std.proofs.lemmas.Bool.{false≢true}
use mathlib.Core.List.{List, [], ◌∷◌, ◌++◌, map}
use Rattle.std.proofs.Math.Option.{some}
use Prim.Native.Nat.{ℕ, ◌<◌}
use Rattle.ir.specs.Atoms.{atom_vars}
use Rattle.ir.specs.declared.atom.Atom.{Atom}
use Rattle.ir.specs.declared.atom.Atom.TheVariants.{Class, Exists, AtMost, AtLeast, Equal, Role as RoleAtom}
use Rattle.rules.specs.Base.{all, any, contains}
use Rattle.rules.specs.Pool.{insert, placed}
use Rattle.rules.specs.State.{Clause}
use Rattle.rules.specs.Invariants.{Each}
use Rattle.rules.specs.Semantics.{Interpretation, elements, related, qualifies, count, atom_holds, inserted, vars_of, clause_vars, chosen, every_choice, clause_holds_at, clause_holds, read_holds}
use Rattle.meaning.specs.Truth.{and_left, and_right, and_both, or_unit, implies_elim, implies_intro, all_elements, elements_all, by_truth}

-- an element for every variable
abbrev pub Choice : Interpretation → (ℕ → ℕ) → Type 0
Choice I f = (v : ℕ) → f v < I.size

-- wherever the body holds, a head atom does
pub record Follows (I : Interpretation) (c : Clause) : Type 0 where
  pub follows : (f : ℕ → ℕ) → Choice I f → all (atom_holds I f) c.body ≡ true → any (atom_holds I f) c.head ≡ true

-- two choices that agree on a list of variables
abbrev pub AgreeOn : List ℕ → (ℕ → ℕ) → (ℕ → ℕ) → Type 0
AgreeOn l f g = Each (λ v. f v ≡ g v) l

module _ (I : Interpretation) where
  pub atom_agree : (f g : ℕ → ℕ) (a : Atom) → AgreeOn (atom_vars a) f g → atom_holds I f a ≡ atom_holds I g a
  atom_agree f g (Class c v) u = ap (I.class c) u.0
  atom_agree f g (RoleAtom r x v) u = ap₂ (related I r) u.0 u.1.0
  atom_agree f g (Exists r c v) u = ap (λ z. any (λ y. related I r z y && I.class c y) (elements I)) u.0
  atom_agree f g (AtMost r q n v) u = ap (λ z. leb (count (λ y. related I r z y && qualifies I q y) (elements I)) n) u.0
  atom_agree f g (AtLeast r q n v) u = ap (λ z. leb n (count (λ y. related I r z y && qualifies I q y) (elements I))) u.0
  atom_agree f g (Equal x v) u = ap₂ eqb u.0 u.1.0

-- ---- a choice overridden on one variable
pub chosen_choice : (I : Interpretation) (f : ℕ → ℕ) (v x : ℕ) → Choice I f → x < I.size → Choice I (chosen f v x)
chosen_choice I f v x c l u = by_truth (eqb u v) (λ e. rw e l) (λ e. rw e (c u))

-- ---- a choice overridden on a list of variables
unfoldable overridden : (ℕ → ℕ) → (ℕ → ℕ) → List ℕ → ℕ → ℕ
overridden g f [] = f
overridden g f (v ∷ vs) = overridden g (chosen f v (g v)) vs

-- where it is in the list, or was right before, it is g's
overridden_at : (g f : ℕ → ℕ) (vs : List ℕ) (u : ℕ) → (contains vs u ≡ false → f u ≡ g u) → overridden g f vs u ≡ g u
unfolding overridden
overridden_at g f [] u h = h refl
overridden_at g f (v ∷ vs) u h = overridden_at g (chosen f v (g v)) vs u (λ q. by_truth (eqb u v)
    (λ e. rw e (ap g (sym (eqb-true u v e))))
    (λ e. rw e (h (rw (e, q) refl))))

module _ (I : Interpretation) where
  every_elim : (g f : ℕ → ℕ) (vs : List ℕ) (t : (ℕ → ℕ) → Bool) → Choice I g → every_choice I vs f t ≡ true → t (overridden g f vs) ≡ true
  unfolding every_choice overridden
  every_elim g f [] t c h = h
  every_elim g f (v ∷ vs) t c h = every_elim g (chosen f v (g v)) vs t c (elements_all I.size (λ x. every_choice I vs (chosen f v x) t) h (g v) (c v))

  every_intro : (f : ℕ → ℕ) (vs : List ℕ) (t : (ℕ → ℕ) → Bool) → Choice I f → ((g : ℕ → ℕ) → Choice I g → t g ≡ true) → every_choice I vs f t ≡ true
  unfolding every_choice
  every_intro f [] t c h = h f c
  every_intro f (v ∷ vs) t c h =
      all_elements I.size (λ x. every_choice I vs (chosen f v x) t) (λ x l. every_intro (chosen f v x) vs t (chosen_choice I f v x c l) h)

-- ---- the clause's own variables
contains_insert : (u x : ℕ) (l : List ℕ) → contains l u ≡ true → contains (insert x l) u ≡ true
unfolding insert
contains_insert u x [] h = absurd (false≢true h)
contains_insert u x (y ∷ l) h = go (ltb x y) (eqb x y) (contains_insert u x l)
  where
    go : (a b : Bool) → (contains l u ≡ true → contains (insert x l) u ≡ true) → contains (placed x y l (insert x l) a b) u ≡ true
    go true b r = rw h (or_unit (eqb u x))
    go false true r = h
    go false false r = by_truth (eqb u y) (λ e. rw e) (λ e. rw e (r (rw e at h)))

contains_inserted : (x : ℕ) (l : List ℕ) → contains (insert x l) x ≡ true
unfolding insert
contains_inserted x [] = rw (eq-eqb x x refl)
contains_inserted x (y ∷ l) = by_truth (ltb x y)
    (λ e. rw (e, eq-eqb x x refl))
    (λ e. rw e (by_truth (eqb x y) (λ q. rw (q, q)) (λ q. rw (q, contains_inserted x l) (or_unit (eqb x y)))))

contains_all : (vs l : List ℕ) (u : ℕ) → contains l u ≡ true → contains (inserted vs l) u ≡ true
unfolding inserted
contains_all [] l u h = h
contains_all (v ∷ vs) l u h = contains_insert u v (inserted vs l) (contains_all vs l u h)

contains_each : (vs l : List ℕ) → Each (λ u. contains (inserted vs l) u ≡ true) vs
unfolding inserted
contains_each [] l = tt
contains_each (v ∷ vs) l = (contains_inserted v (inserted vs l), each_in vs (contains_each vs l))
  where
    each_in : (k : List ℕ) → Each (λ u. contains (inserted vs l) u ≡ true) k → Each (λ u. contains (insert v (inserted vs l)) u ≡ true) k
    each_in [] u = tt
    each_in (x ∷ k) u = (contains_insert x v (inserted vs l) u.0, each_in k u.1)

-- every atom's variables are among those of the list
abbrev pub InVars : List ℕ → Atom → Type 0
InVars vars a = Each (λ u. contains vars u ≡ true) (atom_vars a)

in_more : (vs vars : List ℕ) (k : List ℕ) → Each (λ u. contains vars u ≡ true) k → Each (λ u. contains (inserted vs vars) u ≡ true) k
in_more vs vars [] u = tt
in_more vs vars (x ∷ k) u = (contains_all vs vars x u.0, in_more vs vars k u.1)

each_more : (vs vars : List ℕ) (l : List Atom) → Each (InVars vars) l → Each (InVars (inserted vs vars)) l
each_more vs vars [] u = tt
each_more vs vars (a ∷ l) u = (in_more vs vars (atom_vars a) u.0, each_more vs vars l u.1)

pub in_vars : (l : List Atom) → Each (InVars (vars_of l)) l
unfolding vars_of
in_vars [] = tt
in_vars (a ∷ l) = (contains_each (atom_vars a) (vars_of l), each_more (atom_vars a) (vars_of l) l (in_vars l))

-- ---- atoms under the overridden choice
module _ (I : Interpretation) (g f : ℕ → ℕ) (vars : List ℕ) where
  agree_vars : (k : List ℕ) → Each (λ u. contains vars u ≡ true) k → AgreeOn k (overridden g f vars) g
  agree_vars [] u = tt
  agree_vars (x ∷ k) u = (overridden_at g f vars x (λ q. absurd (false≢true (sym q ∙ u.0))), agree_vars k u.1)

  all_overridden : (l : List Atom) → Each (InVars vars) l → all (atom_holds I (overridden g f vars)) l ≡ all (atom_holds I g) l
  all_overridden [] u = refl
  all_overridden (a ∷ l) u = ap₂ ◌&&◌ (atom_agree I (overridden g f vars) g a (agree_vars (atom_vars a) u.0)) (all_overridden l u.1)

  any_overridden : (l : List Atom) → Each (InVars vars) l → any (atom_holds I (overridden g f vars)) l ≡ any (atom_holds I g) l
  any_overridden [] u = refl
  any_overridden (a ∷ l) u = ap₂ ◌||◌ (atom_agree I (overridden g f vars) g a (agree_vars (atom_vars a) u.0)) (any_overridden l u.1)

front : (vars : List ℕ) (k l : List Atom) → Each (InVars vars) (k ++ l) → Each (InVars vars) k
front vars [] l u = tt
front vars (a ∷ k) l u = (u.0, front vars k l u.1)

back : (vars : List ℕ) (k l : List Atom) → Each (InVars vars) (k ++ l) → Each (InVars vars) l
back vars [] l u = u
back vars (a ∷ k) l u = back vars k l u.1

-- ---- the two are the same
module _ (I : Interpretation) (c : Clause) (some-element : 0 < I.size) where
  pub holds_follows : clause_holds I c ≡ true → Follows I c
  unfolding clause_holds
  holds_follows h = record {
    follows = λ g ch b.
        let vars = clause_vars c in
        let e = in_vars (c.body ++ c.head) in
        let t : clause_holds_at I c (overridden g (λ _. 0) vars) ≡ true = every_elim I g (λ _. 0) vars (clause_holds_at I c) ch h in
        sym (any_overridden I g (λ _. 0) vars c.head (back vars c.body c.head e))
        ∙ implies_elim (all (atom_holds I (overridden g (λ _. 0) vars)) c.body) (any (atom_holds I (overridden g (λ _. 0) vars)) c.head) t
        (all_overridden I g (λ _. 0) vars c.body (front vars c.body c.head e) ∙ b);
  }

  pub follows_holds : Follows I c → clause_holds I c ≡ true
  unfolding clause_holds
  follows_holds w = every_intro I (λ _. 0) (clause_vars c) (clause_holds_at I c) (λ _. some-element)
      (λ g ch. implies_intro (all (atom_holds I g) c.body) (any (atom_holds I g) c.head) (w.follows g ch))

-- lists of clauses that were read
pub all_follow : (I : Interpretation) → 0 < I.size → (l : List Clause) → all (read_holds I) (map some l) ≡ true → Each (Follows I) l
all_follow I n [] h = tt
all_follow I n (c ∷ l) h = (holds_follows I c n (and_left (clause_holds I c) (all (read_holds I) (map some l)) h), all_follow I n l (and_right (clause_holds I c) (all (read_holds I) (map some l)) h))

pub follow_all : (I : Interpretation) → 0 < I.size → (l : List Clause) → Each (Follows I) l → all (read_holds I) (map some l) ≡ true
follow_all I n [] u = refl
follow_all I n (c ∷ l) u = and_both (follows_holds I c n u.0) (follow_all I n l u.1)
