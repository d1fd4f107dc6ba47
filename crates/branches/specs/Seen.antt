-- The variables seen, in order of first appearance: `distinct` of the rules conses, and the code adds at the end.
use Rattle.std.specs.Prelude.{◌≡◌, List, [], ◌∷◌, map, ℕ, ◌/◌, ◌≤◌, length, take, drop, eqb}
use Rattle.ir.specs.Pick.{pick}
use Rattle.ir.specs.declared.atom.Atom.{Atom}
use Rattle.rules.specs.Branches.{met_with, all_role_vars, body_var_count_from}
use Rattle.tables.specs.Tabled.{Run}

unfoldable pub mets : List ℕ → List ℕ → List ℕ
mets met [] = met
mets met (v ∷ l) = mets (met_with met v) l

-- with those of the role atoms of l, X for the root
unfoldable pub met_in : ℕ → List ℕ → List Atom → List ℕ
met_in root met l = mets met (map (λ v. pick (eqb v root) 0 v) (all_role_vars l))

-- is_wide before atom i of the `count` in the bytes s: n variables are seen, and the atoms left make as many as the rule counts
pub record Walked (s : List ℕ) (count root : ℕ) (seen : List ℕ) (n i : ℕ) : Type 0 where
  pub all : count ≡ length s / 24
  pub here : i ≤ count
  pub few : n ≤ 8
  pub room : length seen ≡ 10
  pub left : (l : List Atom) → Run s l → length (met_in root (take n seen) (drop i l)) ≡ body_var_count_from l root
