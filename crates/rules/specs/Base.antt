-- What a rule answers: a value and the state after it, or a refusal's number; and the loops over lists.
use Rattle.std.specs.Prelude.{Bool, true, false, ◌&&◌, ◌||◌, List, [], ◌∷◌, ℕ, eqb}
use Rattle.std.proofs.Math.Option.{Option, none, some}

pub data Res (S A : Type 0) : Type 0 where
  ok : A → S → Res S A
  refused : ℕ → Res S A

-- the rest is run only after an answer
abbrev pub then : {S A B : Type 0} → Res S A → (A → S → Res S B) → Res S B
then (ok a s) f = f a s
then (refused k) f = refused k

abbrev pub M : Type 0 → Type 0 → Type 0
M S A = S → Res S A

infixl 20 ◌>>=◌
abbrev pub ◌>>=◌ : {S A B : Type 0} → M S A → (A → M S B) → M S B
◌>>=◌ m f = λ s. then (m s) f

infixl 20 ◌>>◌
abbrev pub ◌>>◌ : {S A B : Type 0} → M S A → M S B → M S B
◌>>◌ m f = λ s. then (m s) (λ _. f)

abbrev pub return : {S A : Type 0} → A → M S A
return a = λ s. ok a s

abbrev pub refuse : {S A : Type 0} → ℕ → M S A
refuse k = λ s. refused k

-- f's answer for each element, in order
unfoldable pub each : {S A B : Type 0} → (A → M S B) → List A → M S (List B)
each f [] = return []
each f (x ∷ l) = do
  y ← f x
  k ← each f l
  return (y ∷ k)

-- f for each element, in order
unfoldable pub for_each : {S A : Type 0} → (A → M S (Unit {0})) → List A → M S (Unit {0})
for_each f [] = return tt
for_each f (x ∷ l) = do
  f x
  for_each f l

-- ---- tests over lists
abbrev pub all : {A : Type 0} → (A → Bool) → List A → Bool
all p [] = true
all p (x ∷ l) = p x && all p l

abbrev pub any : {A : Type 0} → (A → Bool) → List A → Bool
any p [] = false
any p (x ∷ l) = p x || any p l

-- the elements that pass
abbrev pub kept : {A : Type 0} → A → List A → Bool → List A
kept x l true = x ∷ l
kept x l false = l

unfoldable pub filter : {A : Type 0} → (A → Bool) → List A → List A
filter p [] = []
filter p (x ∷ l) = kept x (filter p l) (p x)

abbrev pub contains : List ℕ → ℕ → Bool
contains l n = any (eqb n) l

abbrev pub is_some : {A : Type 0} → Option A → Bool
is_some (some _) = true
is_some none = false
