use mathlib.Core.Path.{◌≡◌, sym, ap, ap₂, ◌∙◌}
use mathlib.Core.Bool.{Bool, true, false}
use Prim.Native.Nat.{ℕ, suc, ◌+◌, ◌*◌, ◌^◌}
use native.Mathlib.Omega.{arith}
use native.Mathlib.Nat.{one-mul}
use native.Mathlib.Numerals.{add-one}
use lib.Bits.{bit_or, or_shifted_r}
use Rattle.rules.specs.Semantics.{one}
use Rattle.states.specs.Masks.{mask_of, mask_small}
use Rattle.states.specs.MaskLaws.{mask_snoc}
use Rattle.sets.proofs.Laws.{shifted}
use Rattle.sets.proofs.grown.Goals as goal

-- the set with element x, and without it
more : (x : ℕ) (f : ℕ → Bool) → true ≡ f x → bit_or (mask_of x f) (2 ^ x) ≡ mask_of (x + 1) f
more x f e =
    let s = mask_snoc x f in
    let o : one (f x) * 2 ^ x ≡ 2 ^ x = ap (λ (b : Bool). one b * 2 ^ x) (sym e) ∙ one-mul (2 ^ x) in
    let p : 1 * 2 ^ x ≡ 2 ^ x = one-mul (2 ^ x) in
    let q = or_shifted_r 1 x (mask_of x f) (mask_small x f) in
    let t : 1 * 2 ^ x + mask_of x f ≡ mask_of (suc x) f = omega (arith, s, o, p) in
    ap (bit_or (mask_of x f)) (sym p) ∙ q ∙ t ∙ ap (λ (k : ℕ). mask_of k f) (sym (add-one x))

less : (x : ℕ) (f : ℕ → Bool) → false ≡ f x → mask_of x f ≡ mask_of (x + 1) f
less x f e =
    let s = mask_snoc x f in
    let o : one (f x) * 2 ^ x ≡ 0 * 2 ^ x = ap (λ (b : Bool). one b * 2 ^ x) (sym e) in
    let t : mask_of x f ≡ mask_of (suc x) f = omega (arith, s, o) in
    t ∙ ap (λ (k : ℕ). mask_of k f) (sym (add-one x))

pub returns-then-b : goal.returns-then-b
returns-then-b c = λ f e h. ap₂ bit_or e (shifted c.args.x c.requires) ∙ more c.args.x f (sym c.if-b.true ∙ h)

pub returns : goal.returns
returns c = λ f e h. e ∙ less c.args.x f (sym c.if-b.false ∙ h)
