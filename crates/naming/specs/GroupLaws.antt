-- The groups of the rule: each has an atom, and with the root's own they are the atoms. Assumes nothing.
use Rattle.std.specs.Prelude.{Bool, ◌≡◌, ℕ, suc, ◌+◌, ◌≤◌, eqb}
use Rattle.std.proofs.Math.Bool.{true, false}
use Rattle.std.proofs.Math.Path.{refl}
use Rattle.std.proofs.Common.{sym, ap, subst, ◌∙◌}
use mathlib.Core.List.{List, [], ◌∷◌, ◌++◌, append-nil, append_assoc}
use Rattle.std.proofs.Math.Option.{Option, none, some}
use native.Mathlib.Omega.{arith}
use Rattle.std.proofs.Math.ListN.{length, length-append}
use Rattle.ir.specs.declared.atom.Atom.{Atom}
use Rattle.rules.specs.Invariants.{Each}
use Rattle.rules.specs.EachLaws.{each_append, each_left, each_right, each_snoc}
use Rattle.rules.specs.Branches.{Groups, Home, root_home, branch, homeless, atom_home, join_group, into_group, place_atom, grouped}
use Rattle.branches.specs.Grouped.{all_of, nothing}
use Rattle.naming.specs.Splits.{Filled}

-- P of each atom, n atoms in all, and each group filled
pub record Well (P : Atom → Type 0) (n : ℕ) (g : Groups) : Type 0 where
  pub own : Each P g.root_atoms
  pub others : Each P (all_of g.groups)
  pub filled : Filled g.groups
  pub total : length g.root_atoms + length (all_of g.groups) ≡ n

abbrev pub WellBy : (Atom → Type 0) → ℕ → Option Groups → Type 0
WellBy P n none = Unit {0}
WellBy P n (some g) = Well P n g

module _ (P : Atom → Type 0) where
  into_well : (l : List (ℕ × List Atom)) (t : ℕ) (a : Atom) → P a → Each P (all_of l) → Filled l
      → Each P (all_of (into_group l t a)) × Filled (into_group l t a) × (length (all_of (into_group l t a)) ≡ length (all_of l) + 1)
  unfolding all_of into_group
  into_well [] t a p q f = ((p, tt), (omega arith, tt), refl)
  into_well (g ∷ l) t a p q f = go (eqb g.0 t) (into_well l t a p (each_right P g.1 (all_of l) q) f.1)
    where
      go : (b : Bool) → Each P (all_of (into_group l t a)) × Filled (into_group l t a) × (length (all_of (into_group l t a)) ≡ length (all_of l) + 1)
          → Each P (all_of (join_group g a l (into_group l t a) b)) × Filled (join_group g a l (into_group l t a) b) × (length (all_of (join_group g a l (into_group l t a) b)) ≡ length (g.1 ++ all_of l) + 1)
      go true r =
          let n1 = length-append g.1 (a ∷ []) in
          let n2 = length-append (g.1 ++ (a ∷ [])) (all_of l) in
          let n3 = length-append g.1 (all_of l) in
          (each_append P (g.1 ++ (a ∷ [])) (all_of l) (each_snoc P g.1 a (each_left P g.1 (all_of l) q) p) (each_right P g.1 (all_of l) q), (omega arith, f.1), omega arith)
      go false r =
          let n2 = length-append g.1 (all_of (into_group l t a)) in
          let n3 = length-append g.1 (all_of l) in
          (each_append P g.1 (all_of (into_group l t a)) (each_left P g.1 (all_of l) q) r.0, (f.0, r.1), omega (arith, r.2))

  place_well : (n m : ℕ) (rest : Groups → Option Groups) → ((k : Groups) → Well P (n + 1) k → WellBy P m (rest k))
      → (g : Groups) (a : Atom) (o : Home) → P a → Well P n g → WellBy P m (place_atom rest g a o)
  place_well n m rest again g a root_home p q =
      let e = length-append g.root_atoms (a ∷ []) in
      again _ (record { own = each_snoc P g.root_atoms a q.own p; others = q.others; filled = q.filled; total = omega (arith, q.total) })
  place_well n m rest again g a (branch t) p q =
      let i = into_well g.groups t a p q.others q.filled in
      again _ (record { own = q.own; others = i.0; filled = i.1; total = omega (arith, q.total, i.2) })
  place_well n m rest again g a homeless p q = tt

  grouped_from : (parents : List (ℕ × ℕ)) (root : ℕ) (g : Groups) (l : List Atom) (n m : ℕ) → Each P l → Well P n g → n + length l ≡ m → WellBy P m (grouped parents root g l)
  unfolding grouped
  grouped_from parents root g [] n m p q e = record { own = q.own; others = q.others; filled = q.filled; total = omega (arith, q.total) }
  grouped_from parents root g (a ∷ l) n m p q e =
      place_well n m (λ k. grouped parents root k l) (λ k r. grouped_from parents root k l (n + 1) m p.1 r (omega arith)) g a (atom_home parents root a) p.0 q

  pub grouped_well : (parents : List (ℕ × ℕ)) (root : ℕ) (l : List Atom) → Each P l → WellBy P (length l) (grouped parents root nothing l)
  unfolding all_of
  grouped_well parents root l p = grouped_from parents root nothing l 0 (length l) p (record { own = tt; others = tt; filled = tt; total = refl }) (omega arith)

pub filled_few : (l : List (ℕ × List Atom)) → Filled l → length l ≤ length (all_of l)
unfolding all_of
filled_few [] f = omega arith
filled_few (g ∷ l) f = omega (arith, length-append g.1 (all_of l), filled_few l f.1, f.0)

-- ---- without groups the atoms are the root's own
into_more : (l : List (ℕ × List Atom)) (t : ℕ) (a : Atom) → (1 ≤ length (into_group l t a)) × (length l ≤ length (into_group l t a))
unfolding into_group
into_more [] t a = (omega arith, omega arith)
into_more (g ∷ l) t a = go (eqb g.0 t) (into_more l t a)
  where
    go : (b : Bool) → (1 ≤ length (into_group l t a)) × (length l ≤ length (into_group l t a))
        → (1 ≤ length (join_group g a l (into_group l t a) b)) × (suc (length l) ≤ length (join_group g a l (into_group l t a) b))
    go true r = (omega arith, omega arith)
    go false r = (omega arith, omega (arith, r.1))

abbrev MoreBy : Groups → List Atom → Option Groups → Type 0
MoreBy g l none = Unit {0}
MoreBy g l (some k) = (length g.groups ≤ length k.groups) × (length k.groups ≡ 0 → k.root_atoms ≡ g.root_atoms ++ l)

place_more : (rest : Groups → Option Groups) (l : List Atom) → ((k : Groups) → MoreBy k l (rest k)) → (g : Groups) (a : Atom) (o : Home) → MoreBy g (a ∷ l) (place_atom rest g a o)
place_more rest l again g a root_home = go (rest _) (again _)
  where
    go : (o : Option Groups) → MoreBy (record { root_atoms = g.root_atoms ++ (a ∷ []); groups = g.groups }) l o → MoreBy g (a ∷ l) o
    go none m = tt
    go (some k) m = (m.0, λ z. m.1 z ∙ append_assoc g.root_atoms (a ∷ []) l)
place_more rest l again g a (branch t) = go (rest _) (again _)
  where
    go : (o : Option Groups) → MoreBy (record { root_atoms = g.root_atoms; groups = into_group g.groups t a }) l o → MoreBy g (a ∷ l) o
    go none m = tt
    go (some k) m = let i = into_more g.groups t a in (omega (arith, m.0, i.1), λ z. absurd (omega (arith, m.0, i.0)))
place_more rest l again g a homeless = tt

grouped_more : (parents : List (ℕ × ℕ)) (root : ℕ) (g : Groups) (l : List Atom) → MoreBy g l (grouped parents root g l)
unfolding grouped
grouped_more parents root g [] = (omega arith, λ z. sym (append-nil g.root_atoms))
grouped_more parents root g (a ∷ l) = place_more (λ k. grouped parents root k l) l (λ k. grouped_more parents root k l) g a (atom_home parents root a)

pub grouped_alone : (parents : List (ℕ × ℕ)) (root : ℕ) (l : List Atom) (k : Groups) → grouped parents root nothing l ≡ some k → k.groups ≡ [] → k.root_atoms ≡ l
grouped_alone parents root l k e f = let m = subst (MoreBy nothing l) e (grouped_more parents root nothing l) in m.1 (ap length f)
