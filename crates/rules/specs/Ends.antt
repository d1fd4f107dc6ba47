-- What holds of a rule's answer, if it is one; and that its refusal, if it is one, is not the number 0, by which the
-- definitions mark a bound that was too small.
use Rattle.std.specs.Prelude.{◌≡◌, ℕ, suc}
use Rattle.std.proofs.Common.{arith}
use Rattle.rules.specs.Base.{Res, ok, refused, M, then}
use Rattle.rules.specs.Post.{Post, gives, refuses}

-- the answer is no `refused 0`
abbrev pub NotZero : {S A : Type 0} → Res S A → Type 0
NotZero (ok a s) = Unit {0}
NotZero (refused k) = k ≡ 0 → ⊥

pub data Ends {S A : Type 0} (Q : A → S → Type 0) : Res S A → Type 0 where
  ends : {a : A} {s : S} → Q a s → Ends Q (ok a s)
  stops : {k : ℕ} → (k ≡ 0 → ⊥) → Ends Q (refused k)

pub ends_then : {S A B : Type 0} {P : A → S → Type 0} {Q : B → S → Type 0} {r : Res S A} {f : A → M S B}
    → Ends P r → ((a : A) (s : S) → P a s → Ends Q (f a s)) → Ends Q (then r f)
ends_then (ends {a = a} {s = s} h) k = k a s h
ends_then (stops n) k = stops n

pub ends_map : {S A : Type 0} {P Q : A → S → Type 0} {r : Res S A} → Ends P r → ((a : A) (s : S) → P a s → Q a s) → Ends Q r
ends_map (ends {a = a} {s = s} h) k = ends (k a s h)
ends_map (stops n) k = stops n

-- `ends` as a function: the expected type of a function's call is read before its arguments
pub end : {S A : Type 0} {Q : A → S → Type 0} {a : A} {s : S} → Q a s → Ends Q (ok a s)
end h = ends h

-- a refusal by a number other than 0
pub stop : {S A : Type 0} {Q : A → S → Type 0} (k : ℕ) → Ends Q (refused (suc k))
stop k = stops (λ (e : suc k ≡ 0). omega arith)

pub ends_post : {S A : Type 0} {Q : A → S → Type 0} {r : Res S A} → Ends Q r → Post Q r
ends_post (ends h) = gives h
ends_post (stops n) = refuses

pub ends_not_zero : {S A : Type 0} {Q : A → S → Type 0} {r : Res S A} → Ends Q r → NotZero r
ends_not_zero (ends h) = tt
ends_not_zero (stops n) = n

-- ---- a refusal among those that R allows
pub data EndsBy {S A : Type 0} (R : ℕ → Type 0) (Q : A → S → Type 0) : Res S A → Type 0 where
  ends_by : {a : A} {s : S} → Q a s → EndsBy R Q (ok a s)
  stops_by : {k : ℕ} → R k → EndsBy R Q (refused k)

-- none by 0
abbrev pub NotNull : ℕ → Type 0
NotNull k = k ≡ 0 → ⊥

pub by_then : {S A B : Type 0} {R : ℕ → Type 0} {P : A → S → Type 0} {Q : B → S → Type 0} {r : Res S A} {f : A → M S B}
    → EndsBy R P r → ((a : A) (s : S) → P a s → EndsBy R Q (f a s)) → EndsBy R Q (then r f)
by_then (ends_by {a = a} {s = s} h) k = k a s h
by_then (stops_by n) k = stops_by n

-- `ends_by` as a function
pub end_by : {S A : Type 0} {R : ℕ → Type 0} {Q : A → S → Type 0} {a : A} {s : S} → Q a s → EndsBy R Q (ok a s)
end_by h = ends_by h

pub by_ends : {S A : Type 0} {Q : A → S → Type 0} {r : Res S A} → EndsBy NotNull Q r → Ends Q r
by_ends (ends_by h) = ends h
by_ends (stops_by n) = stops n

pub by_post : {S A : Type 0} {R : ℕ → Type 0} {Q : A → S → Type 0} {r : Res S A} → EndsBy R Q r → Post Q r
by_post (ends_by h) = gives h
by_post (stops_by n) = refuses

-- two properties of one answer
pub ends_both : {S A : Type 0} {P Q : A → S → Type 0} {r : Res S A} → Post P r → Ends Q r → Ends (λ a s. P a s × Q a s) r
ends_both (gives h) (ends k) = ends (h, k)
ends_both refuses (stops n) = stops n
