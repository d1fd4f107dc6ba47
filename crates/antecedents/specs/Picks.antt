-- One alternative of an antecedent, found by the rows, and its writing.
use Rattle.std.specs.Prelude.{List, [], ◌∷◌, ◌++◌, ℕ, zero, suc, ◌+◌, ◌*◌, ◌-◌, ◌/◌, ◌%◌, length, ltb}
use Rattle.std.proofs.lemmas.List.Edits.{sets}
use Rattle.ir.specs.Pick.{pick}
use Rattle.ir.specs.Records.{six}
use Rattle.ir.specs.declared.atom.Atom.{Atom}
use Rattle.ir.specs.declared.atom.Atom.TheVariants.{Class, Role as RoleAtom}
use Rattle.rules.specs.Concept.{Concept}
use Rattle.rules.specs.Concept.{Top, Bot, Atomic, Nominal, SelfRestriction, Not, And, Or, Some, All, Min, Max}
use Rattle.rules.specs.Pool.{Pool, at}
use Rattle.rules.specs.Inverse.{InverseCanon, canon_role}
use Rattle.antecedents.specs.Table.{size_in, vars_in, plus_vars}

-- by id, variable, first fresh variable and index
abbrev pub Pick : Type 0
Pick = ℕ → ℕ → ℕ → ℕ → List Atom

-- And: k's digits, the first part's first; r is the product of the sizes from here on
unfoldable pub pick_and : List ℕ → Pick → ℕ → List ℕ → ℕ → ℕ → ℕ → List Atom
pick_and t P v [] y r k = []
pick_and t P v (x ∷ l) y r k = P x v y (k / (r / size_in t x)) ++ pick_and t P v l (plus_vars y (vars_in t x)) (r / size_in t x) (k % (r / size_in t x))

-- Or: the part in which k falls
unfoldable pub pick_or : List ℕ → Pick → ℕ → List ℕ → ℕ → ℕ → List Atom
pick_or t P v [] y k = []
pick_or t P v (x ∷ l) y k = pick (ltb k (size_in t x)) (P x v y k) (pick_or t P v l (plus_vars y (vars_in t x)) (k - size_in t x))

module _ (canon : InverseCanon) (base : ℕ) (p : Pool) (t : List ℕ) where
  abbrev pub pick_step : Pick → ℕ → ℕ → ℕ → ℕ → Concept → List Atom
  pick_step P c v y k Top = []
  pick_step P c v y k Bot = []
  pick_step P c v y k (Atomic a) = Class a v ∷ []
  pick_step P c v y k (Nominal i) = Class (base + i) v ∷ []
  pick_step P c v y k (SelfRestriction _) = []
  pick_step P c v y k (Not _) = []
  pick_step P c v y k (And l) = pick_and t P v l y (size_in t c) k
  pick_step P c v y k (Or l) = pick_or t P v l y k
  pick_step P c v y k (Some r d) = RoleAtom (canon_role canon r) v y ∷ P d y (plus_vars y 1) k
  pick_step P c v y k (All _ _) = []
  pick_step P c v y k (Min _ _ _) = []
  pick_step P c v y k (Max _ _ _) = []

  unfoldable pub pick_alt : ℕ → Pick
  pick_alt zero c v y k = []
  pick_alt (suc f) c v y k = pick_step (λ d u z j. pick_alt f d u z j) c v y k (at p c)

-- ---- writing
-- an atom's words at record `at`, if there is room; and the next record
abbrev pub put_at : List ℕ → ℕ → Atom → List ℕ × ℕ
put_at w at a = pick (ltb at (length w / 6)) (sets w (6 * at) (six a), at + 1) (w, at)

unfoldable pub write_on : List ℕ × ℕ → List Atom → List ℕ × ℕ
write_on s [] = s
write_on s (a ∷ l) = write_on (put_at s.0 s.1 a) l
