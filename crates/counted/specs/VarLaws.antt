-- The greatest variable of a run of atoms, by the last two words of each record. Assumes nothing.
use Rattle.std.specs.Prelude.{◌≡◌, refl, Bool, true, false, max, ℕ, zero, suc, ◌+◌, ◌*◌, ◌/◌, ◌<◌, ◌≤◌, ◌^◌, ltb, length, get_or, drop}
use Rattle.std.proofs.Common.{sym, ◌∙◌, arith, ltb-true, ltb-false, le-ltb, drop_of_length-le, drop-cons}
use Rattle.std.proofs.Math.Path.{ap}
use Rattle.std.specs.List.{fold, range_with_len}
use mathlib.Core.List.{List, ◌∷◌, ◌++◌}
use Rattle.words.specs.Words.{words}
use Rattle.ir.specs.Pick.{pick}
use Rattle.ir.specs.Atoms.{atom_vars}
use Rattle.ir.specs.Records.{six, words_of}
use Rattle.ir.specs.declared.atom.Atom.{Atom}
use Rattle.ir.specs.declared.atom.Atom.TheVariants.{Class, Exists, AtMost, AtLeast, Equal, Role as RoleAtom}
use Rattle.rules.specs.Reflexive.{max_var, atoms_vars}
use Rattle.tables.specs.Tabled.{At, Run}
use Rattle.tables.specs.AtomLaws.{no_atom, source_is, target_is, run_nth}

-- a part whose atoms' greatest variable is not the last number
pub record VarsThere (s : List ℕ) : Type 0 where
  pub atoms : List Atom
  pub run : Run s atoms
  pub small : max_var 0 (atoms_vars atoms) + 1 < 2 ^ 32

-- what the greatest of the atoms from i on is still to be compared with
pub record VarsAt (s : List ℕ) (i greatest : ℕ) : Type 0 where
  pub within : i ≤ length s / 24
  pub rest : (l : List Atom) → Run s l → max_var 0 (atoms_vars l) ≡ max_var greatest (atoms_vars (drop i l))

abbrev pub up_to : ℕ → ℕ → ℕ
up_to m v = pick (ltb m v) v m

up_zero : (m : ℕ) → up_to m 0 ≡ m
up_zero m = rw (le-ltb m 0 (omega arith)) refl

-- the two words of a record give its variables, and 0
step_vars : (x : Atom) (m : ℕ) (l : List ℕ) → max_var m (atom_vars x ++ l) ≡ max_var (up_to (up_to m (words_of x).4) (words_of x).5) l
unfolding max_var
step_vars (Class k v) m l = ap (λ (y : ℕ). max_var y l) (sym (up_zero (up_to m v)))
step_vars (RoleAtom r u v) m l = refl
step_vars (Exists r k v) m l = ap (λ (y : ℕ). max_var y l) (sym (up_zero (up_to m v)))
step_vars (AtMost r q n v) m l = ap (λ (y : ℕ). max_var y l) (sym (up_zero (up_to m v)))
step_vars (AtLeast r q n v) m l = ap (λ (y : ℕ). max_var y l) (sym (up_zero (up_to m v)))
step_vars (Equal u v) m l = refl

next_atom : (x : Atom) (m : List Atom) (g g2 : ℕ) → g2 ≡ up_to (up_to g (words_of x).4) (words_of x).5 → max_var g (atoms_vars (x ∷ m)) ≡ max_var g2 (atoms_vars m)
unfolding atoms_vars
next_atom x m g g2 e = step_vars x g (atoms_vars m) ∙ ap (λ (y : ℕ). max_var y (atoms_vars m)) (sym e)

-- the greater of two
up_max : (m v : ℕ) → up_to m v ≡ max m v
up_max m v = by (ltb m v) refl
  where
    by : (b : Bool) → ltb m v ≡ b → pick b v m ≡ max m v
    by true e = let h = ltb-true m v e in omega (arith, h)
    by false e = let h = ltb-false m v e in omega (arith, h)

module _ (s : List ℕ) where
  pub vars_start : VarsAt s 0 0
  vars_start = record { within = omega arith; rest = λ l R. refl }

  pub vars_next : (i g u v g2 : ℕ) → VarsAt s i g → i < length s / 24 → u ≡ get_or (words s) (6 * i + 4) 0 → v ≡ get_or (words s) (6 * i + 5) 0
      → g2 ≡ max (max g u) v → VarsAt s (i + 1) g2
  vars_next i g u v g2 A lt eu ev e = record {
    within = omega arith;
    rest = λ l R.
        let h : i < length l = omega (arith, R.long) in
        let x : Atom = get_or l i no_atom in
        let X : At (words s) (6 * i) (six x) = run_nth s l i R h in
        let p : i + 1 ≡ suc i = omega arith in
        let q : drop i l ≡ x ∷ drop (suc i) l = drop-cons l i no_atom h in
        let u4 : u ≡ (words_of x).4 = eu ∙ source_is (words s) i x X in
        let v5 : v ≡ (words_of x).5 = ev ∙ target_is (words s) i x X in
        let z : g2 ≡ up_to (up_to g (words_of x).4) (words_of x).5 = e ∙ sym (up_max (max g u) v) ∙ ap (λ (y : ℕ). up_to y v) (sym (up_max g u)) ∙ rw (u4, v5) refl in
        A.rest l R ∙ ap (λ (t : List Atom). max_var g (atoms_vars t)) q ∙ next_atom x (drop (suc i) l) g g2 z ∙ ap (λ (y : ℕ). max_var g2 (atoms_vars (drop y l))) (sym p);
  }

  pub vars_end : (i g : ℕ) → VarsAt s i g → length s / 24 ≤ i → (l : List Atom) → Run s l → max_var 0 (atoms_vars l) ≡ g
  unfolding max_var atoms_vars
  vars_end i g A h l R = A.rest l R ∙ ap (λ (z : List Atom). max_var g (atoms_vars z)) (drop_of_length-le l {i = i} (omega (arith, R.long)))

  -- the sum does not pass the last number
  pub vars_small : (i g : ℕ) → VarsAt s i g → length s / 24 ≤ i → VarsThere s → g + 1 < 2 ^ 32
  vars_small i g A h T = let e = vars_end i g A h T.atoms T.run in omega (arith, T.small, e)

-- the greater of g and of the two last words of record i
abbrev pub greater : List ℕ → ℕ → ℕ → ℕ
greater w g i = max (max g (get_or w (6 * i + 4) 0)) (get_or w (6 * i + 5) 0)

-- over n records from i on
pub vars_fold : (s : List ℕ) (n i g : ℕ) → VarsAt s i g → i + n ≤ length s / 24 → VarsAt s (i + n) (fold (greater (words s)) g (range_with_len i n))
vars_fold s zero i g A h = let e : i + 0 ≡ i = omega arith in rw e A
vars_fold s (suc n) i g A h =
    let e : i + suc n ≡ (i + 1) + n = omega arith in
    rw e (vars_fold s n (i + 1) (greater (words s) g i) (vars_next s i g _ _ (greater (words s) g i) A (omega arith) refl refl refl) (omega arith))
