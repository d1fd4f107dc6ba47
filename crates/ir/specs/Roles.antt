-- Roles and their codes.
use Rattle.std.specs.Prelude.{◌≡◌, refl, Bool, true, false, ℕ, zero, suc, ◌+◌, ◌*◌, ◌/◌, ◌%◌, ◌<◌, eqb}
use Rattle.std.proofs.Common.{sym, ap, ◌∙◌, arith, eqb-true}
use Rattle.std.proofs.lemmas.Bool.{eqb-false}
use Rattle.ir.specs.Pick.{pick}
use Rattle.ir.specs.declared.role.Role.{Role}
use Rattle.ir.specs.declared.role.Role.TheVariants.{Named, Inverse}

abbrev pub role_id : Role → ℕ
role_id (Named i) = i
role_id (Inverse i) = i

abbrev pub is_inverse : Role → Bool
is_inverse (Named i) = false
is_inverse (Inverse i) = true

abbrev pub flipped : Role → Role
flipped (Named i) = Inverse i
flipped (Inverse i) = Named i

-- 2 × id, plus 1 for the inverse
abbrev pub role_code : Role → ℕ
role_code (Named i) = 2 * i
role_code (Inverse i) = 2 * i + 1

abbrev pub role_of : ℕ → Role
role_of c = pick (eqb (c % 2) 0) (Named (c / 2)) (Inverse (c / 2))

-- ---- laws
pub role_code_lem : (r : Role) → role_of (role_code r) ≡ r
role_code_lem (Named i) =
    let e : 2 * i % 2 ≡ 0 = omega arith in
    let d : 2 * i / 2 ≡ i = omega arith in
    rw (e, d) refl
role_code_lem (Inverse i) =
    let e : (2 * i + 1) % 2 ≡ 1 = omega arith in
    let d : (2 * i + 1) / 2 ≡ i = omega arith in
    rw (e, d) refl

odd : (c : ℕ) → (c % 2 ≡ 0 → ⊥) → c % 2 ≡ 1
odd c h = parity (c % 2) (omega arith) h
  where
    parity : (n : ℕ) → n < 2 → (n ≡ 0 → ⊥) → n ≡ 1
    parity zero l h = absurd (h refl)
    parity (suc n) l h = omega arith

code_by : (c : ℕ) (b : Bool) → eqb (c % 2) 0 ≡ b → role_code (pick b (Named (c / 2)) (Inverse (c / 2))) ≡ c
code_by c true e = let h = eqb-true (c % 2) 0 e in omega arith
code_by c false e = let h : c % 2 ≡ 0 → ⊥ = eqb-false (c % 2) 0 e in let k : c % 2 ≡ 1 = odd c h in omega arith

pub code_role : (c : ℕ) → role_code (role_of c) ≡ c
code_role c = code_by c (eqb (c % 2) 0) refl

-- a code by its id
pub id_half : (c : ℕ) → role_id (role_of c) ≡ c / 2
id_half c = by (eqb (c % 2) 0)
  where
    by : (b : Bool) → role_id (pick b (Named (c / 2)) (Inverse (c / 2))) ≡ c / 2
    by true = refl
    by false = refl

pub code_in : (c n : ℕ) → role_id (role_of c) < n → c < 2 * n
code_in c n h = let e = id_half c in omega arith

pub code_below : (r : Role) (n : ℕ) → role_id r < n → role_code r < 2 * n
code_below (Named i) n h = omega arith
code_below (Inverse i) n h = omega arith

pub role_code_inj : (r s : Role) → role_code r ≡ role_code s → r ≡ s
role_code_inj r s e = sym (role_code_lem r) ∙ ap role_of e ∙ role_code_lem s

pub flip_flip : (r : Role) → flipped (flipped r) ≡ r
flip_flip (Named i) = refl
flip_flip (Inverse i) = refl

pub flip_id : (r : Role) → role_id (flipped r) ≡ role_id r
flip_id (Named i) = refl
flip_id (Inverse i) = refl
