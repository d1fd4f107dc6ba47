-- Unfolding of reflexive roles: a clause contracted along an atom over a reflexive role follows from the clause, so the pass adds
-- only clauses that follow from those before it. Assumes nothing.
use Rattle.std.specs.Prelude.{◌≡◌, refl, Bool, true, false, ◌&&◌, ◌||◌, ℕ, ◌<◌, eqb}
use Rattle.std.proofs.Common.{sym, ap, ap₂, ◌∙◌, eq-eqb}
use mathlib.Core.List.{List, [], ◌∷◌, ◌++◌, map}
use Rattle.ir.specs.Pick.{pick}
use Rattle.ir.specs.Roles.{role_id}
use Rattle.ir.specs.Atoms.{substitute_atom, replaced}
use Rattle.ir.specs.declared.role.Role.{Role}
use Rattle.ir.specs.declared.atom.Atom.{Atom}
use Rattle.ir.specs.declared.atom.Atom.TheVariants.{Class, Exists, AtMost, AtLeast, Equal, Role as RoleAtom}
use Rattle.rules.specs.Base.{all, any}
use Rattle.rules.specs.State.{Env, Out, Clause, clause}
use Rattle.rules.specs.Post.{Post}
use Rattle.rules.specs.Invariants.{Each}
use Rattle.rules.specs.Semantics.{Interpretation, related, atom_holds}
use Rattle.rules.specs.Reflexive.{kept_var, dropped_var, contracted, apply_reflexive_roles}
use Rattle.rules.specs.Ends.{ends_post, ends_map}
use Rattle.rules.proofs.ReflexiveLaws.{Keeps, reflexive_adds}
use Rattle.rules.specs.EachLaws.{each_left, each_right, each_append}
use Rattle.meaning.specs.Truth.{and_left, and_right, and_both, all_append}
use Rattle.meaning.specs.Choices.{Follows}
use Rattle.meaning.specs.Valuations.{AtomUnder, ClauseUnder}
use Rattle.meaning.specs.ReflexiveSet.{Reflexive, self_pair, each_contains}
use Rattle.meaning.specs.Passes.{Due, PassMeans, due_own, due_means}

-- ---- substitution
module _ (I : Interpretation) (f g : ℕ → ℕ) where
  -- an atom with its variables mapped, by the choice behind the map
  substituted_holds : (a : Atom) → atom_holds I f (substitute_atom a g) ≡ atom_holds I (λ v. f (g v)) a
  substituted_holds (Class c v) = refl
  substituted_holds (RoleAtom r u v) = refl
  substituted_holds (Exists r c v) = refl
  substituted_holds (AtMost r q n v) = refl
  substituted_holds (AtLeast r q n v) = refl
  substituted_holds (Equal u v) = refl

  pub substituted_all : (l : List Atom) → all (atom_holds I f) (map (λ a. substitute_atom a g) l) ≡ all (atom_holds I (λ v. f (g v))) l
  substituted_all [] = refl
  substituted_all (a ∷ l) = ap₂ ◌&&◌ (substituted_holds a) (substituted_all l)

  pub substituted_any : (l : List Atom) → any (atom_holds I f) (map (λ a. substitute_atom a g) l) ≡ any (atom_holds I (λ v. f (g v))) l
  substituted_any [] = refl
  substituted_any (a ∷ l) = ap₂ ◌||◌ (substituted_holds a) (substituted_any l)

-- both ends of the atom become the variable that is kept
pick_same : {A : Type 0} (b : Bool) (x : A) → pick b x x ≡ x
pick_same true x = refl
pick_same false x = refl

pick_other : (v d k : ℕ) → v ≡ k → replaced d k v ≡ k
pick_other v d k e = rw e (pick_same (eqb k d) k)

pick_itself : (d k : ℕ) → replaced d k d ≡ k
pick_itself d k = rw (eq-eqb d d refl)

source_kept : (src tgt : ℕ) → replaced (dropped_var src tgt) (kept_var src tgt) src ≡ kept_var src tgt
source_kept src tgt = go (eqb tgt 0)
  where
    go : (b : Bool) → replaced (pick b src tgt) (pick b tgt src) src ≡ pick b tgt src
    go true = pick_itself src tgt
    go false = pick_other src tgt src refl

target_kept : (src tgt : ℕ) → replaced (dropped_var src tgt) (kept_var src tgt) tgt ≡ kept_var src tgt
target_kept src tgt = go (eqb tgt 0)
  where
    go : (b : Bool) → replaced (pick b src tgt) (pick b tgt src) tgt ≡ pick b tgt src
    go true = pick_other tgt src tgt refl
    go false = pick_itself tgt src

-- ---- the contracted clause follows
module _ (I : Interpretation) where
  -- a reflexive role holds at two elements that are one
  pub self_related : (r : Role) → Reflexive I (role_id r) → (x y : ℕ) → x ≡ y → x < I.size → related I r x y ≡ true
  self_related r h x y e l = rw (← e) (sym (self_pair I r x) ∙ h x l)

  pub contracted_follows : (before after head : List Atom) (r : Role) (src tgt : ℕ) → Reflexive I (role_id r)
      → Follows I (clause (before ++ (RoleAtom r src tgt ∷ after)) head) → Follows I (contracted before after head src tgt)
  contracted_follows before after head r src tgt h u = record {
    follows = λ f c b.
        let m = replaced (dropped_var src tgt) (kept_var src tgt) in
        let g : ℕ → ℕ = λ v. f (m v) in
        let t : all (atom_holds I g) before && all (atom_holds I g) after ≡ true = sym (all_append (atom_holds I g) before after) ∙ sym (substituted_all I f m (before ++ after)) ∙ b in
        let q : related I r (g src) (g tgt) ≡ true = self_related r h (g src) (g tgt) (ap f (source_kept src tgt ∙ sym (target_kept src tgt))) (c (m src)) in
        substituted_any I f m head
        ∙ u.follows g (λ v. c (m v))
        (all_append (atom_holds I g) before (RoleAtom r src tgt ∷ after)
        ∙ and_both (and_left (all (atom_holds I g) before) (all (atom_holds I g) after) t) (and_both q (and_right (all (atom_holds I g) before) (all (atom_holds I g) after) t)));
  }

substitute_under : (n : ℕ) (g : ℕ → ℕ) (a : Atom) → AtomUnder n a → AtomUnder n (substitute_atom a g)
substitute_under n g (Class c v) u = u
substitute_under n g (RoleAtom r x v) u = u
substitute_under n g (Exists r c v) u = u
substitute_under n g (AtMost r q k v) u = u
substitute_under n g (AtLeast r q k v) u = u
substitute_under n g (Equal x v) u = u

substituted_under : (n : ℕ) (g : ℕ → ℕ) (l : List Atom) → Each (AtomUnder n) l → Each (AtomUnder n) (map (λ a. substitute_atom a g) l)
substituted_under n g [] u = tt
substituted_under n g (a ∷ l) u = (substitute_under n g a u.0, substituted_under n g l u.1)

pub contracted_under : (n : ℕ) (before after head : List Atom) (r : Role) (src tgt : ℕ)
    → ClauseUnder n (clause (before ++ (RoleAtom r src tgt ∷ after)) head) → ClauseUnder n (contracted before after head src tgt)
contracted_under n before after head r src tgt u =
    let g = replaced (dropped_var src tgt) (kept_var src tgt) in
    let P = AtomUnder n in
    let e : Each P (before ++ after) = each_append P before after (each_left P before (RoleAtom r src tgt ∷ after) u.body) (each_right P before (RoleAtom r src tgt ∷ after) u.body).1 in
    record { body = substituted_under n g (before ++ after) e; head = substituted_under n g head u.head }

-- P of a clause is P of it contracted along an atom over a role of the set
pub contracted_due : (env : Env) (set : List ℕ) (l : List Clause) → Keeps env set (Due set l)
contracted_due env set l r before after head src tgt e d = record {
  from = λ I h u. contracted_follows I before after head r src tgt (each_contains (Reflexive I) set (role_id r) h e) (d.from I h u);
  under = λ n u. contracted_under n before after head r src tgt (d.under n u);
}

pub unfold_means : (env : Env) (set : List ℕ) (s : Out) → Post (λ _ t. PassMeans set s t) (apply_reflexive_roles env set s)
unfold_means env set s =
    ends_post (ends_map (reflexive_adds env set (Due set s.clauses) (contracted_due env set s.clauses) s (due_own set s.clauses)) (λ _ t A. due_means set env s t A))
