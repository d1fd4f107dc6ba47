-- Renumbering a body is a renaming of its variables: a variable becomes its place in the list of the variables met, so that a
-- choice for the one body is a choice for the other. Assumes nothing.
use Rattle.std.specs.Prelude.{◌≡◌, Bool, true, false, ℕ, get_or, eqb}
use Rattle.std.proofs.Math.Path.{refl, sym, ap, ap₂}
use Rattle.std.proofs.Common.{◌∙◌, eq-eqb, ne_eqb, eqb-true}
use Rattle.std.proofs.Math.Bool.{◌&&◌}
use Rattle.std.proofs.lemmas.Bool.{false≢true, eqb-false}
use mathlib.Core.List.{List, [], ◌∷◌, ◌++◌}
use Rattle.ir.specs.Pick.{pick}
use Rattle.ir.specs.declared.atom.Atom.{Atom}
use Rattle.ir.specs.declared.atom.Atom.TheVariants.{Class, Exists, AtMost, AtLeast, Equal, Role as RoleAtom}
use Rattle.rules.specs.Base.{all, contains}
use Rattle.rules.specs.Reflexive.{atoms_vars}
use Rattle.rules.specs.Branches.{place_in, place_of, met_with, renumber_from, renumber}
use Rattle.rules.specs.Invariants.{Each}
use Rattle.rules.specs.Semantics.{Interpretation, related, atom_holds}
use Rattle.meaning.specs.Truth.{by_truth}
use Rattle.meaning.specs.Choices.{Choice}
use Rattle.meaning.specs.Valuations.{AtomUnder}
use Rattle.meaning.specs.Matching.{contains_here, contains_left, contains_right, contains_both, all_alike}

-- class and role atoms: those that a branch is made of
abbrev pub IsTree : Atom → Type 0
IsTree (Class _ _) = Unit {0}
IsTree (RoleAtom _ _ _) = Unit {0}
IsTree (Exists _ _ _) = ⊥
IsTree (AtMost _ _ _ _) = ⊥
IsTree (AtLeast _ _ _ _) = ⊥
IsTree (Equal _ _) = ⊥

-- ---- places
place_joined : (met more : List ℕ) (v : ℕ) → contains met v ≡ true → place_of (met ++ more) v ≡ place_of met v
unfolding place_of
place_joined [] more v h = absurd (false≢true h)
place_joined (u ∷ met) more v h =
    by_truth (eqb u v) (λ e. rw e) (λ e. ap (place_in (eqb u v)) (place_joined met more v (rw (ne_eqb v u (λ q. eqb-false u v e (sym q))) at h)))

place_last : (met : List ℕ) (v : ℕ) → place_of (met ++ (v ∷ [])) v ≡ place_of met v
unfolding place_of
place_last [] v = rw (eq-eqb v v refl)
place_last (u ∷ met) v = ap (place_in (eqb u v)) (place_last met v)

place_with : (met : List ℕ) (v : ℕ) → place_of (met_with met v) v ≡ place_of met v
place_with met v = go (contains met v)
  where
    go : (b : Bool) → place_of (pick b met (met ++ (v ∷ []))) v ≡ place_of met v
    go true = refl
    go false = place_last met v

at_place : (met : List ℕ) (v d : ℕ) → contains met v ≡ true → get_or met (place_of met v) d ≡ v
unfolding place_of
at_place [] v d h = absurd (false≢true h)
at_place (u ∷ met) v d h =
    by_truth (eqb u v) (λ e. rw e (eqb-true u v e)) (λ e. rw e (at_place met v d (rw (ne_eqb v u (λ q. eqb-false u v e (sym q))) at h)))

-- ---- a list of variables met, and a later one: what is met keeps its place
record Later (met late : List ℕ) : Type 0 where
  has : (v : ℕ) → contains met v ≡ true → contains late v ≡ true
  place : (v : ℕ) → contains met v ≡ true → place_of late v ≡ place_of met v

later_trans : {a b c : List ℕ} → Later a b → Later b c → Later a c
later_trans p q = record { has = λ v h. q.has v (p.has v h); place = λ v h. q.place v (p.has v h) ∙ p.place v h }

later_with : (met : List ℕ) (u : ℕ) → Later met (met_with met u)
later_with met u = go (contains met u)
  where
    go : (b : Bool) → Later met (pick b met (met ++ (u ∷ [])))
    go true = record { has = λ v h. h; place = λ v h. refl }
    go false = record { has = λ v h. contains_left v met (u ∷ []) h; place = λ v h. place_joined met (u ∷ []) v h }

with_has : (met : List ℕ) (u : ℕ) → contains (met_with met u) u ≡ true
with_has met u = by_truth (contains met u) (λ e. rw e e) (λ e. rw e (contains_right u met (u ∷ []) (contains_here u [])))

-- the variables met when the atoms are done
unfoldable met_after : List ℕ → List Atom → List ℕ
met_after met [] = met
met_after met (Class k v ∷ l) = met_after (met_with met v) l
met_after met (RoleAtom r u v ∷ l) = met_after (met_with (met_with met u) v) l
met_after met (Exists r k v ∷ l) = met_after met l
met_after met (AtMost r q n v ∷ l) = met_after met l
met_after met (AtLeast r q n v ∷ l) = met_after met l
met_after met (Equal u v ∷ l) = met_after met l

after_later : (met : List ℕ) (l : List Atom) → Later met (met_after met l)
unfolding met_after
after_later met [] = record { has = λ v h. h; place = λ v h. refl }
after_later met (Class k v ∷ l) = later_trans (later_with met v) (after_later (met_with met v) l)
after_later met (RoleAtom r u v ∷ l) = later_trans (later_with met u) (later_trans (later_with (met_with met u) v) (after_later (met_with (met_with met u) v) l))
after_later met (Exists r k v ∷ l) = after_later met l
after_later met (AtMost r q n v ∷ l) = after_later met l
after_later met (AtLeast r q n v ∷ l) = after_later met l
after_later met (Equal u v ∷ l) = after_later met l

-- a variable's place when it is met, and at the end
met_place : (met late : List ℕ) (v : ℕ) → Later (met_with met v) late → place_of met v ≡ place_of late v
met_place met late v a = sym (a.place v (with_has met v) ∙ place_with met v)

-- every variable is met
after_has : (met : List ℕ) (l : List Atom) → Each IsTree l → (v : ℕ) → contains (atoms_vars l) v ≡ true → contains (met_after met l) v ≡ true
unfolding met_after atoms_vars
after_has met [] t v h = absurd (false≢true h)
after_has met (Class k u ∷ l) t v h =
    contains_both v (u ∷ []) (atoms_vars l) (λ c. (after_later (met_with met u) l).has v (met_one c)) (λ c. after_has (met_with met u) l t.1 v c) h
  where
    met_one : contains (u ∷ []) v ≡ true → contains (met_with met u) v ≡ true
    met_one c = by_truth (eqb v u) (λ e. rw (eqb-true v u e) (with_has met u)) (λ e. absurd (false≢true (rw e at c)))
after_has met (RoleAtom r u w ∷ l) t v h =
    contains_both v (u ∷ w ∷ []) (atoms_vars l) (λ c. (after_later (met_with (met_with met u) w) l).has v (met_two c)) (λ c. after_has (met_with (met_with met u) w) l t.1 v c) h
  where
    met_two : contains (u ∷ w ∷ []) v ≡ true → contains (met_with (met_with met u) w) v ≡ true
    met_two c =
        by_truth (eqb v u) (λ e. (later_with (met_with met u) w).has v (rw (eqb-true v u e) (with_has met u)))
        (λ e. by_truth (eqb v w) (λ d. rw (eqb-true v w d) (with_has (met_with met u) w)) (λ d. absurd (false≢true (rw (e, d) at c))))
after_has met (Exists r k u ∷ l) t v h = absurd t.0
after_has met (AtMost r q n u ∷ l) t v h = absurd t.0
after_has met (AtLeast r q n u ∷ l) t v h = absurd t.0
after_has met (Equal u w ∷ l) t v h = absurd t.0

-- ---- a choice for the renumbered body, read through the places
module _ (I : Interpretation) where
  renumbered_holds : (g : ℕ → ℕ) (met : List ℕ) (l : List Atom) → Each IsTree l
      → all (atom_holds I g) (renumber_from met l) ≡ all (atom_holds I (λ v. g (place_of (met_after met l) v))) l
  unfolding renumber_from met_after
  renumbered_holds g met [] t = refl
  renumbered_holds g met (Class k v ∷ l) t =
      ap₂ ◌&&◌ (ap (λ z. I.class k (g z)) (met_place met (met_after (met_with met v) l) v (after_later (met_with met v) l))) (renumbered_holds g (met_with met v) l t.1)
  renumbered_holds g met (RoleAtom r u v ∷ l) t =
      let late : Later (met_with (met_with met u) v) (met_after (met_with (met_with met u) v) l) = after_later (met_with (met_with met u) v) l in
      ap₂ ◌&&◌ (ap₂ (λ y z. related I r (g y) (g z)) (met_place met (met_after (met_with (met_with met u) v) l) u (later_trans (later_with (met_with met u) v) late))
      (met_place (met_with met u) (met_after (met_with (met_with met u) v) l) v late)) (renumbered_holds g (met_with (met_with met u) v) l t.1)
  renumbered_holds g met (Exists r k v ∷ l) t = absurd t.0
  renumbered_holds g met (AtMost r q n v ∷ l) t = absurd t.0
  renumbered_holds g met (AtLeast r q n v ∷ l) t = absurd t.0
  renumbered_holds g met (Equal u v ∷ l) t = absurd t.0

  module _ (l : List Atom) (root : ℕ) (t : Each IsTree l) where
    met_all : List ℕ
    met_all = met_after (root ∷ []) l

    root_place : place_of met_all root ≡ 0
    unfolding met_all place_of
    root_place = (after_later (root ∷ []) l).place root (contains_here root []) ∙ rw (eq-eqb root root refl)

    -- where the body holds, the renumbered one does, with X for the root
    pub renumber_says : (f : ℕ → ℕ) → Choice I f → all (atom_holds I f) l ≡ true → (g : ℕ → ℕ) × Choice I g × (g 0 ≡ f root) × (all (atom_holds I g) (renumber l root) ≡ true)
    unfolding met_all
    renumber_says f c h = (
      λ n. f (get_or met_all n root),
      λ n. c (get_or met_all n root),
      ap (λ z. f (get_or met_all z root)) (sym root_place) ∙ ap f (at_place met_all root root ((after_later (root ∷ []) l).has root (contains_here root []))),
      renumbered_holds (λ n. f (get_or met_all n root)) (root ∷ []) l t
          ∙ all_alike I (λ v. f (get_or met_all (place_of met_all v) root)) f l (λ v e. ap f (at_place met_all v root (after_has (root ∷ []) l t v e)))
          ∙ h,
    )

    -- and the other way
    pub renumber_gets : (g : ℕ → ℕ) → Choice I g → all (atom_holds I g) (renumber l root) ≡ true → (f : ℕ → ℕ) × Choice I f × (f root ≡ g 0) × (all (atom_holds I f) l ≡ true)
    unfolding met_all
    renumber_gets g c h = (λ v. g (place_of met_all v), λ v. c (place_of met_all v), ap g root_place, sym (renumbered_holds g (root ∷ []) l t) ∙ h)

-- ---- renumbering keeps the classes
pub renumber_under : (n : ℕ) (met : List ℕ) (l : List Atom) → Each (AtomUnder n) l → Each (AtomUnder n) (renumber_from met l)
unfolding renumber_from
renumber_under n met [] u = tt
renumber_under n met (Class k v ∷ l) u = (u.0, renumber_under n (met_with met v) l u.1)
renumber_under n met (RoleAtom r x v ∷ l) u = (tt, renumber_under n (met_with (met_with met x) v) l u.1)
renumber_under n met (Exists r k v ∷ l) u = (u.0, renumber_under n met l u.1)
renumber_under n met (AtMost r q m v ∷ l) u = (u.0, renumber_under n met l u.1)
renumber_under n met (AtLeast r q m v ∷ l) u = (u.0, renumber_under n met l u.1)
renumber_under n met (Equal x v ∷ l) u = (tt, renumber_under n met l u.1)
