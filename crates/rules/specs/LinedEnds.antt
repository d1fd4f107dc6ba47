-- What holds of an answer with its line, if it is one; and that its refusal, if it is one, is not the number 0: as Ends, for
-- the loops over axioms. Assumes nothing.
use Rattle.std.specs.Prelude.{◌≡◌, ℕ}
use Rattle.rules.specs.Base.{Res}
use Rattle.rules.specs.Run.{Lined, done, stopped, lined, lined_then}
use Rattle.rules.specs.Ends.{Ends, ends, stops}
use Rattle.rules.specs.LinedPost.{LinedPost, finishes, stops as stops_post, done_post}

pub data LinedEnds {S A : Type 0} (Q : A → S → Type 0) : Lined S A → Type 0 where
  closes : {a : A} {s : S} → Q a s → LinedEnds Q (done a s)
  halts : {k line : ℕ} → (k ≡ 0 → ⊥) → LinedEnds Q (stopped k line)

pub lined_ends : {S A : Type 0} {Q : A → S → Type 0} (line : ℕ) {r : Res S A} → Ends Q r → LinedEnds Q (lined line r)
lined_ends line (ends h) = closes h
lined_ends line (stops n) = halts n

pub lined_ends_then : {S T A B : Type 0} {P : A → S → Type 0} {Q : B → T → Type 0} {r : Lined S A} {f : A → S → Lined T B}
    → LinedEnds P r → ((a : A) (s : S) → P a s → LinedEnds Q (f a s)) → LinedEnds Q (lined_then r f)
lined_ends_then (closes {a = a} {s = s} h) k = k a s h
lined_ends_then (halts n) k = halts n

pub lined_ends_map : {S A : Type 0} {P Q : A → S → Type 0} {r : Lined S A} → LinedEnds P r → ((a : A) (s : S) → P a s → Q a s) → LinedEnds Q r
lined_ends_map (closes {a = a} {s = s} h) k = closes (k a s h)
lined_ends_map (halts n) k = halts n

pub lined_ends_post : {S A : Type 0} {Q : A → S → Type 0} {r : Lined S A} → LinedEnds Q r → LinedPost Q r
lined_ends_post (closes h) = finishes h
lined_ends_post (halts n) = stops_post

-- two properties of one run
pub lined_ends_both : {S A : Type 0} {P Q : A → S → Type 0} {r : Lined S A} → LinedPost P r → LinedEnds Q r → LinedEnds (λ a s. P a s × Q a s) r
lined_ends_both h (closes k) = closes (done_post h, k)
lined_ends_both h (halts n) = halts n

-- `closes` as a function: the expected type of a function's call is read before its arguments
pub close : {S A : Type 0} {Q : A → S → Type 0} {a : A} {s : S} → Q a s → LinedEnds Q (done a s)
close h = closes h
