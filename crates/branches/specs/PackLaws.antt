-- An atom in a word, and back. Assumes nothing.
use Rattle.std.specs.Prelude.{Bool, true, false, ◌≡◌, refl, List, [], ◌∷◌, map, ℕ, suc, ◌+◌, ◌*◌, ◌/◌, ◌%◌, ◌<◌, length, get_or, drop, eqb}
use Rattle.std.proofs.Common.{sym, ap, ◌∙◌, arith, eqb-true}
use Rattle.std.proofs.lemmas.Bool.{eqb-false}
use Rattle.ir.specs.RecordLaws.{same_atom_refl}
use Rattle.ir.specs.Roles.{role_id, role_code, role_of, role_code_lem}
use Rattle.ir.specs.declared.role.Role.{Role}
use Rattle.ir.specs.declared.role.Role.TheVariants.{Named, Inverse}
use Rattle.ir.specs.declared.atom.Atom.{Atom}
use Rattle.ir.specs.declared.atom.Atom.TheVariants.{Class, Exists, AtMost, AtLeast, Equal, Role as RoleAtom}
use Rattle.rules.specs.Reflexive.{same_atoms}
use Rattle.rules.specs.Invariants.{Each}
use Rattle.rules.proofs.ReflexiveLaws.{same_atoms_lem}
use Rattle.branches.specs.Memo.{packed, Packable}

pub code_small : (r : Role) → role_code r < 2048 → role_id r < 2147483648
code_small (Named i) h = omega arith
code_small (Inverse i) h = omega arith

-- the last digit to base 1024, and the rest
digit : (a b w : ℕ) → b < 1024 → w ≡ 1024 * a + b → (w / 1024 ≡ a) × (w % 1024 ≡ b)
digit a b w h e = (omega arith, omega arith)

half : (x w : ℕ) → w ≡ 2 * x + 1 → w / 2 ≡ x
half x w e = omega arith

-- ---- an even word is a class atom's, an odd one a role atom's
pub unpack_class : (w : ℕ) (a : Atom) → w % 2 ≡ 0 → Packable a → w ≡ packed a → Class (w / 2 / 1024) (w / 2 % 1024) ≡ a
unpack_class w (Class k v) z p e =
    let x : w / 2 ≡ 1024 * k + v = omega arith in
    let d = digit k v (w / 2) p.1 x in
    rw (d.0, d.1) refl
unpack_class w (RoleAtom r u v) z p e = absurd (omega arith)
unpack_class w (Exists _ _ _) z p e = absurd p
unpack_class w (AtMost _ _ _ _) z p e = absurd p
unpack_class w (AtLeast _ _ _ _) z p e = absurd p
unpack_class w (Equal _ _) z p e = absurd p

pub unpack_role : (w : ℕ) (a : Atom) → (w % 2 ≡ 0 → ⊥) → Packable a → w ≡ packed a → RoleAtom (role_of (w / 2 / 1024 / 1024)) (w / 2 / 1024 % 1024) (w / 2 % 1024) ≡ a
unpack_role w (Class k v) z p e = absurd (z (omega arith))
unpack_role w (RoleAtom r u v) z p e =
    let c = role_code r in
    let x : w / 2 ≡ 1024 * (1024 * c + u) + v = half (1024 * (1024 * c + u) + v) w e in
    let d = digit (1024 * c + u) v (w / 2) p.2 x in
    let f = digit c u (w / 2 / 1024) p.1 d.0 in
    rw (f.0, f.1, d.1, role_code_lem r) refl
unpack_role w (Exists _ _ _) z p e = absurd p
unpack_role w (AtMost _ _ _ _) z p e = absurd p
unpack_role w (AtLeast _ _ _ _) z p e = absurd p
unpack_role w (Equal _ _) z p e = absurd p

pub pack_inj : (a b : Atom) → Packable a → Packable b → packed a ≡ packed b → a ≡ b
pack_inj a b p q e = go (eqb (packed a % 2) 0) refl
  where
    go : (t : Bool) → eqb (packed a % 2) 0 ≡ t → a ≡ b
    go true h = let z = eqb-true (packed a % 2) 0 h in sym (unpack_class (packed a) a z p refl) ∙ unpack_class (packed a) b z q e
    go false h = let z = eqb-false (packed a % 2) 0 h in sym (unpack_role (packed a) a z p refl) ∙ unpack_role (packed a) b z q e

-- ---- atoms in words
pub cons_same : (a b : Atom) (l m : List Atom) → a ≡ b → l ≡ m → a ∷ l ≡ b ∷ m
cons_same a b l m e f = cc

pub packs_inj : (l m : List Atom) → Each Packable l → Each Packable m → map packed l ≡ map packed m → l ≡ m
packs_inj [] [] p q e = refl
packs_inj [] (b ∷ m) p q e = absurd (let z : ◌≡◌ {A = ℕ} 0 (suc (length (map packed m))) = ap length e in omega arith)
packs_inj (a ∷ l) [] p q e = absurd (let z : ◌≡◌ {A = ℕ} (suc (length (map packed l))) 0 = ap length e in omega arith)
packs_inj (a ∷ l) (b ∷ m) p q e =
    let h : packed a ≡ packed b = ap (λ (x : List ℕ). get_or x 0 0) e in
    let t : map packed l ≡ map packed m = ap (λ (x : List ℕ). drop 1 x) e in
    cons_same a b l m (pack_inj a b p.0 q.0 h) (packs_inj l m p.1 q.1 t)

-- equality of bodies is equality of their words
same_refl : (l : List Atom) → same_atoms l l ≡ true
unfolding same_atoms
same_refl [] = refl
same_refl (a ∷ l) = rw (same_atom_refl a, same_refl l) refl

pub same_packed : (l m : List Atom) → Each Packable l → Each Packable m → map packed l ≡ map packed m → same_atoms l m ≡ true
same_packed l m p q e = rw (packs_inj l m p q e) (same_refl m)

pub other_packed : (l m : List Atom) → (map packed l ≡ map packed m → ⊥) → same_atoms l m ≡ false
other_packed l m f = go (same_atoms l m) refl
  where
    go : (b : Bool) → same_atoms l m ≡ b → b ≡ false
    go true e = absurd (f (ap (map packed) (same_atoms_lem l m e)))
    go false e = refl
