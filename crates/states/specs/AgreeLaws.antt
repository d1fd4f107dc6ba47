-- Clauses look at the elements only: sets for the classes that agree on these give the same verdict. Assumes nothing.
use Rattle.std.specs.Prelude.{◌≡◌, refl, Bool, ◌&&◌, ◌||◌, ℕ, ◌<◌, eqb, leb}
use Rattle.std.proofs.Common.{sym, ap, ◌∙◌}
use Rattle.std.proofs.Math.Path.{ap₂}
use mathlib.Core.List.{List, [], ◌∷◌, map}
use Rattle.std.proofs.Math.Option.{some}
use Rattle.ir.specs.declared.atom.Atom.{Atom}
use Rattle.ir.specs.declared.atom.Atom.TheVariants.{Class, Exists, AtMost, AtLeast, Equal, Role as RoleAtom}
use Rattle.ir.specs.Qualifiers.{Qualifier}
use Rattle.std.specs.Prelude.{None, Some}
use Rattle.rules.specs.Base.{all, any}
use Rattle.rules.specs.State.{Clause}
use Rattle.rules.specs.Semantics.{Interpretation, with_classes, related, qualifies, implies, atom_holds, clause_vars, chosen, every_choice, clause_holds_at, clause_holds}
use Rattle.rules.specs.Statements.{all_hold}
use Rattle.meaning.specs.Truth.{by_truth, all_same, any_same, count_same}
use Rattle.meaning.specs.Choices.{Choice}
use Rattle.states.specs.Test.{clauses_verdict}
use Rattle.states.specs.VerdictLaws.{is_holds, clauses_hold_lem}

module _ (I : Interpretation) (sets : ℕ → ℕ → Bool) (agree : (c x : ℕ) → x < I.size → sets c x ≡ I.class c x) where
  abbrev J : Interpretation
  J = with_classes I sets

  qualifies_same : (q : Qualifier) (y : ℕ) → y < I.size → qualifies J q y ≡ qualifies I q y
  qualifies_same None y h = refl
  qualifies_same (Some c) y h = agree c y h

  atom_same : (f : ℕ → ℕ) → Choice I f → (a : Atom) → atom_holds J f a ≡ atom_holds I f a
  atom_same f g (Class c v) = agree c (f v) (g v)
  atom_same f g (RoleAtom r u v) = refl
  atom_same f g (Exists r c v) = any_same I.size (λ y. related J r (f v) y && sets c y) (λ y. related I r (f v) y && I.class c y) (λ y h. ap (λ b. related I r (f v) y && b) (agree c y h))
  atom_same f g (AtMost r q n v) =
      ap (λ (k : ℕ). leb k n) (count_same I.size (λ y. related J r (f v) y && qualifies J q y) (λ y. related I r (f v) y && qualifies I q y) (λ y h. ap (λ b. related I r (f v) y && b) (qualifies_same q y h)))
  atom_same f g (AtLeast r q n v) =
      ap (λ (k : ℕ). leb n k) (count_same I.size (λ y. related J r (f v) y && qualifies J q y) (λ y. related I r (f v) y && qualifies I q y) (λ y h. ap (λ b. related I r (f v) y && b) (qualifies_same q y h)))
  atom_same f g (Equal u v) = refl

  all_atoms : (f : ℕ → ℕ) → Choice I f → (l : List Atom) → all (atom_holds J f) l ≡ all (atom_holds I f) l
  all_atoms f g [] = refl
  all_atoms f g (a ∷ l) = ap₂ ◌&&◌ (atom_same f g a) (all_atoms f g l)

  any_atom_lem : (f : ℕ → ℕ) → Choice I f → (l : List Atom) → any (atom_holds J f) l ≡ any (atom_holds I f) l
  any_atom_lem f g [] = refl
  any_atom_lem f g (a ∷ l) = ap₂ ◌||◌ (atom_same f g a) (any_atom_lem f g l)

  choices_same : (t u : (ℕ → ℕ) → Bool) → ((f : ℕ → ℕ) → Choice I f → t f ≡ u f) → (vs : List ℕ) (f : ℕ → ℕ) → Choice I f → every_choice J vs f t ≡ every_choice I vs f u
  unfolding every_choice
  choices_same t u h [] f g = h f g
  choices_same t u h (v ∷ vs) f g =
      all_same I.size (λ x. every_choice J vs (chosen f v x) t) (λ x. every_choice I vs (chosen f v x) u) (λ x k. choices_same t u h vs (chosen f v x) (λ w. by_truth (eqb w v) (λ e. rw e k) (λ e. rw e (g w))))

  clause_same : 0 < I.size → (c : Clause) → clause_holds J c ≡ clause_holds I c
  unfolding clause_holds
  clause_same h c = choices_same (clause_holds_at J c) (clause_holds_at I c) (λ f g. ap₂ implies (all_atoms f g c.body) (any_atom_lem f g c.head)) (clause_vars c) (λ _. 0) (λ v. h)

  pub clauses_agree : 0 < I.size → (l : List Clause) → is_holds (clauses_verdict (with_classes I sets) l) ≡ is_holds (clauses_verdict I l)
  clauses_agree h l = clauses_hold_lem J l ∙ mapped l ∙ sym (clauses_hold_lem I l)
    where
      mapped : (l : List Clause) → all_hold J (map some l) ≡ all_hold I (map some l)
      mapped [] = refl
      mapped (c ∷ l) = ap₂ ◌&&◌ (clause_same h c) (mapped l)
