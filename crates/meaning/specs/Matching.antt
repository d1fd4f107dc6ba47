-- The elements at which a body can be matched: a search over the choices of elements for the body's variables. The fresh class
-- of a named branch is given this set. Assumes nothing.
use Rattle.std.specs.Prelude.{◌≡◌, Bool, true, ℕ, ◌<◌}
use Rattle.std.proofs.Math.Path.{refl, ap, ap₂, fun_ext}
use Rattle.std.proofs.Common.{sym, ◌∙◌, subst}
use Rattle.std.proofs.Math.Bool.{◌&&◌, ◌||◌}
use Rattle.std.proofs.lemmas.Bool.{false≢true}
use mathlib.Core.List.{List, [], ◌∷◌, ◌++◌}
use Rattle.std.proofs.Math.Dec.{eqb}
use borrow.Author.Tests.{eq-eqb, eqb-true}
use Rattle.ir.specs.Atoms.{atom_vars}
use Rattle.ir.specs.declared.atom.Atom.{Atom}
use Rattle.rules.specs.Base.{all, any, contains}
use Rattle.rules.specs.Reflexive.{atoms_vars}
use Rattle.rules.specs.Invariants.{Each}
use Rattle.rules.specs.Semantics.{Interpretation, with_classes, elements, atom_holds, chosen}
use Rattle.meaning.specs.Truth.{and_left, and_right, and_both, or_unit, by_truth, any_append, any_at, any_find}
use Rattle.meaning.specs.Choices.{Choice, atom_agree, chosen_choice}
use Rattle.meaning.specs.Valuations.{Valuation, Agree, AtomUnder, all_agree}

-- ---- the members of a list of variables
pub contains_here : (v : ℕ) (l : List ℕ) → contains (v ∷ l) v ≡ true
contains_here v l = rw (eq-eqb v v refl)

pub contains_there : (v u : ℕ) (l : List ℕ) → contains l v ≡ true → contains (u ∷ l) v ≡ true
contains_there v u l h = rw h (or_unit (eqb v u))

pub contains_left : (v : ℕ) (k l : List ℕ) → contains k v ≡ true → contains (k ++ l) v ≡ true
contains_left v k l h = any_append (eqb v) k l ∙ rw h

pub contains_right : (v : ℕ) (k l : List ℕ) → contains l v ≡ true → contains (k ++ l) v ≡ true
contains_right v k l h = any_append (eqb v) k l ∙ rw h (or_unit (contains k v))

pub contains_both : {P : Type 0} (v : ℕ) (k l : List ℕ) → (contains k v ≡ true → P) → (contains l v ≡ true → P) → contains (k ++ l) v ≡ true → P
contains_both v k l f g h = by_truth (contains k v) f (λ e. g (sym (rw e at (any_append (eqb v) k l)) ∙ h))

pub each_member : (P : ℕ → Type 0) (l : List ℕ) → ((v : ℕ) → contains l v ≡ true → P v) → Each P l
each_member P [] h = tt
each_member P (u ∷ l) h = (h u (contains_here u l), each_member P l (λ v c. h v (contains_there v u l c)))

pub member_each : (P : ℕ → Type 0) (l : List ℕ) → Each P l → (v : ℕ) → contains l v ≡ true → P v
member_each P [] e v h = absurd (false≢true h)
member_each P (u ∷ l) e v h = by_truth (eqb v u) (λ t. subst P (sym (eqb-true v u t)) e.0) (λ t. member_each P l e.1 v (rw t at h))

-- ---- the variables of a list of atoms
pub vars_each : (P : ℕ → Type 0) (b : List Atom) → Each (λ a. Each P (atom_vars a)) b → (v : ℕ) → contains (atoms_vars b) v ≡ true → P v
unfolding atoms_vars
vars_each P [] e v h = absurd (false≢true h)
vars_each P (a ∷ b) e v h = contains_both v (atom_vars a) (atoms_vars b) (member_each P (atom_vars a) e.0 v) (vars_each P b e.1 v) h

pub each_vars : (P : ℕ → Type 0) (b : List Atom) → ((v : ℕ) → contains (atoms_vars b) v ≡ true → P v) → Each (λ a. Each P (atom_vars a)) b
unfolding atoms_vars
each_vars P [] h = tt
each_vars P (a ∷ b) h = (
  each_member P (atom_vars a) (λ v c. h v (contains_left v (atom_vars a) (atoms_vars b) c)),
  each_vars P b (λ v c. h v (contains_right v (atom_vars a) (atoms_vars b) c)),
)

-- ---- choices that agree on the variables of a list of atoms
abbrev pub Alike : List ℕ → (ℕ → ℕ) → (ℕ → ℕ) → Type 0
Alike l f g = (v : ℕ) → contains l v ≡ true → f v ≡ g v

module _ (I : Interpretation) (f g : ℕ → ℕ) where
  pub all_alike : (b : List Atom) → Alike (atoms_vars b) f g → all (atom_holds I f) b ≡ all (atom_holds I g) b
  unfolding atoms_vars
  all_alike [] h = refl
  all_alike (a ∷ b) h =
      ap₂ ◌&&◌ (atom_agree I f g a (each_member (λ v. f v ≡ g v) (atom_vars a) (λ v c. h v (contains_left v (atom_vars a) (atoms_vars b) c))))
      (all_alike b (λ v c. h v (contains_right v (atom_vars a) (atoms_vars b) c)))

  pub any_alike : (b : List Atom) → Alike (atoms_vars b) f g → any (atom_holds I f) b ≡ any (atom_holds I g) b
  unfolding atoms_vars
  any_alike [] h = refl
  any_alike (a ∷ b) h =
      ap₂ ◌||◌ (atom_agree I f g a (each_member (λ v. f v ≡ g v) (atom_vars a) (λ v c. h v (contains_left v (atom_vars a) (atoms_vars b) c))))
      (any_alike b (λ v c. h v (contains_right v (atom_vars a) (atoms_vars b) c)))

-- ---- is there a choice of elements for these variables that passes?
unfoldable pub some_choice : Interpretation → List ℕ → (ℕ → ℕ) → ((ℕ → ℕ) → Bool) → Bool
some_choice I [] f t = t f
some_choice I (v ∷ vs) f t = any (λ x. some_choice I vs (chosen f v x) t) (elements I)

-- f with g's elements for these variables
unfoldable puts : (ℕ → ℕ) → List ℕ → (ℕ → ℕ) → ℕ → ℕ
puts f [] g = f
puts f (v ∷ vs) g = puts (chosen f v (g v)) vs g

puts_same : (f : ℕ → ℕ) (vs : List ℕ) (g : ℕ → ℕ) (u : ℕ) → f u ≡ g u → puts f vs g u ≡ g u
unfolding puts
puts_same f [] g u h = h
puts_same f (v ∷ vs) g u h = puts_same (chosen f v (g v)) vs g u (by_truth (eqb u v) (λ e. rw e (ap g (sym (eqb-true u v e)))) (λ e. rw e h))

puts_on : (f : ℕ → ℕ) (vs : List ℕ) (g : ℕ → ℕ) → Alike vs (puts f vs g) g
unfolding puts
puts_on f [] g u h = absurd (false≢true h)
puts_on f (v ∷ vs) g u h =
    by_truth (eqb u v) (λ e. puts_same (chosen f v (g v)) vs g u (rw e (ap g (sym (eqb-true u v e))))) (λ e. puts_on (chosen f v (g v)) vs g u (rw e at h))

module _ (I : Interpretation) (t : (ℕ → ℕ) → Bool) where
  some_find : (vs : List ℕ) (f : ℕ → ℕ) → Choice I f → some_choice I vs f t ≡ true → (g : ℕ → ℕ) × Choice I g × (t g ≡ true)
  unfolding some_choice
  some_find [] f c h = (f, c, h)
  some_find (v ∷ vs) f c h =
      let p = any_find I.size (λ x. some_choice I vs (chosen f v x) t) h in
      some_find vs (chosen f v p.0) (chosen_choice I f v p.0 c p.1) p.2

  some_has : (vs : List ℕ) (f g : ℕ → ℕ) → Choice I g → t (puts f vs g) ≡ true → some_choice I vs f t ≡ true
  unfolding some_choice puts
  some_has [] f g c h = h
  some_has (v ∷ vs) f g c h = any_at I.size (λ x. some_choice I vs (chosen f v x) t) (g v) (c v) (some_has vs (chosen f v (g v)) g c h)

-- ---- the elements at which a body can be matched
module _ (I : Interpretation) where
  -- the body holds, and variable X has this element
  abbrev matched_by : Valuation → List Atom → ℕ → (ℕ → ℕ) → Bool
  matched_by k b x f = eqb (f 0) x && all (atom_holds (with_classes I k) f) b

  unfoldable pub matches : Valuation → List Atom → ℕ → Bool
  matches k b x = some_choice I (atoms_vars b) (λ _. x) (matched_by k b x)

  pub matches_find : (k : Valuation) (b : List Atom) (x : ℕ) → x < I.size → matches k b x ≡ true
      → (g : ℕ → ℕ) × Choice I g × (g 0 ≡ x) × (all (atom_holds (with_classes I k) g) b ≡ true)
  unfolding matches
  matches_find k b x l h =
      let p = some_find I (matched_by k b x) (atoms_vars b) (λ _. x) (λ _. l) h in
      (p.0, p.1, eqb-true (p.0 0) x (and_left (eqb (p.0 0) x) _ p.2), and_right (eqb (p.0 0) x) _ p.2)

  pub matches_has : (k : Valuation) (b : List Atom) (g : ℕ → ℕ) → Choice I g → all (atom_holds (with_classes I k) g) b ≡ true → matches k b (g 0) ≡ true
  unfolding matches
  matches_has k b g c h =
      let p = puts (λ _. g 0) (atoms_vars b) g in
      some_has I (matched_by k b (g 0)) (atoms_vars b) (λ _. g 0) g c
      (and_both (eq-eqb (p 0) (g 0) (puts_same (λ _. g 0) (atoms_vars b) g 0 refl))
      (all_alike (with_classes I k) p g b (puts_on (λ _. g 0) (atoms_vars b) g) ∙ h))

  -- it rests on the classes that the body names
  pub matches_agree : {n : ℕ} {k l : Valuation} → Agree n k l → (b : List Atom) → Each (AtomUnder n) b → matches k b ≡ matches l b
  unfolding matches
  matches_agree a b u = fun_ext (λ x. ap (some_choice I (atoms_vars b) (λ _. x)) (fun_ext (λ f. ap (λ z. eqb (f 0) x && z) (all_agree I a f b u))))
