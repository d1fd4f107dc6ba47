-- Texts in 11 columns, and a text that was put among other bytes.
use Rattle.std.specs.Prelude.{◌≡◌, List, [], ◌∷◌, ◌++◌, ℕ, zero, suc, ◌+◌, ◌-◌, length}
use Rattle.std.proofs.lemmas.List.Edits.{sets}
use Rattle.rules.specs.Lister.{field_text}

-- a line's text but for its line feed
unfoldable pub columns_text : List ℕ → List ℕ
columns_text [] = []
columns_text (n ∷ l) = field_text n ++ columns_text l

-- the bytes s became s', with the text from `at` on, which ends at r
pub record Put (s : List ℕ) (at : ℕ) (text : List ℕ) (s' : List ℕ) (r : ℕ) : Type 0 where
  pub bytes : s' ≡ sets s at text
  pub end : r ≡ at + length text

-- the texts of n numbers from i on, one behind the other
unfoldable pub texts_of : (ℕ → List ℕ) → ℕ → ℕ → List ℕ
texts_of f i zero = []
texts_of f i (suc n) = f i ++ texts_of f (i + 1) n

-- of those below n, the ones from i on
abbrev pub texts_left : (ℕ → List ℕ) → ℕ → ℕ → List ℕ
texts_left f i n = texts_of f i (n - i)
