-- Role codes. Assumes nothing.
use mathlib.Core.Path.{◌≡◌, ap, ◌∙◌}
use Prim.Native.Nat.{ℕ, ◌*◌, ◌<◌, ◌^◌}
use native.Mathlib.Omega.{arith}
use Rattle.ir.specs.Roles.{role_of, role_code, role_id, flipped, role_code_lem, flip_id, id_half, code_below}
use Rattle.ir.specs.declared.role.Role.{Role}
use Rattle.rules.specs.Semantics.{Interpretation, related}
use Rattle.meaning.specs.InverseMap.{flip_turns}

-- the other polarity
pub id_small : (c : ℕ) → c < 2048 → role_id (flipped (role_of c)) < 2 ^ 31
id_small c h = let e = flip_id (role_of c) in let f = id_half c in omega arith

pub turned_in : (c n : ℕ) → c < 2 * n → role_code (flipped (role_of c)) < 2 * n
turned_in c n h = let e = id_half c in let f = flip_id (role_of c) in code_below (flipped (role_of c)) n (omega arith)

pub turned_related : (I : Interpretation) (c x y : ℕ) → related I (role_of (role_code (flipped (role_of c)))) x y ≡ related I (role_of c) y x
turned_related I c x y = ap (λ (r : Role). related I r x y) (role_code_lem (flipped (role_of c))) ∙ flip_turns I (role_of c) x y
