-- Lists of words of two lengths are not the same. Assumes nothing.
use Rattle.std.specs.Prelude.{Bool, true, false, ◌≡◌, refl, List, ℕ, length}
use Rattle.std.proofs.Common.{sym, ap, ◌∙◌}
use Rattle.ir.specs.Records.{same_words}
use Rattle.ir.specs.RecordLaws.{same_words_lem}

unlike : (l m : List ℕ) → (length l ≡ length m → ⊥) → (b : Bool) → same_words l m ≡ b → false ≡ b
unlike l m h true e = absurd (h (ap length (same_words_lem l m e)))
unlike l m h false e = refl

pub same_short : (l m : List ℕ) (n k : ℕ) → n ≡ length l → k ≡ length m → (n ≡ k → ⊥) → false ≡ same_words l m
same_short l m n k e f h = unlike l m (λ q. h (e ∙ q ∙ sym f)) (same_words l m) refl
