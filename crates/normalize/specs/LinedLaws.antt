-- A refusal with the line of its axiom, as map_err gives it. Assumes nothing.
use mathlib.Core.Path.{◌≡◌, refl, sym, ap, ◌∙◌}
use mathlib.Core.Bool.{true≢false, false≢true}
use Prim.Native.Nat.{ℕ}
use Rattle.std.specs.Prelude.{Result, Ok, Err, is_ok, MatchResult, IsErrAnd}
use Rattle.ir.specs.declared.answer.Refused.{Refused}
use Rattle.ir.specs.declared.refusal.Refusal.{Refusal}

-- v refuses too, and the line is the one that was given
pub lined_err : {A : Type 0} (v : Result A Refusal) (m : Result A Refused) (line : ℕ) (Q : Refusal → Refused → Type 0) → ((r : Refusal) (d : Refused) → Q r d → d ≡ record { refusal = r; line = line })
    → MatchResult v (λ x. m ≡ Ok x) (λ r. IsErrAnd m (Q r)) → is_ok m ≡ is_ok v → (d : Refused) → m ≡ Err d → (v ≡ Err d.refusal) × (d.line ≡ line)
lined_err (Ok x) m line Q g h q d e = absurd (true≢false (sym q ∙ ap is_ok e))
lined_err (Err r) m line Q g h q d e = let k = g r d (rw e at h) in (rw k refl, rw k refl)

pub lined_ok : {A : Type 0} (Q : Refusal → Type 0) (v : Result A Refusal) (m : Result A Refused) (x : A) → MatchResult v (λ y. m ≡ Ok y) Q → is_ok m ≡ is_ok v → m ≡ Ok x → v ≡ Ok x
lined_ok Q (Ok y) m x h q e = let p : y ≡ x = cc in ap Ok p
lined_ok Q (Err r) m x h q e = absurd (false≢true (sym q ∙ ap is_ok e))
