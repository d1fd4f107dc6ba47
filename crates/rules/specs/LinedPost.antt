-- What holds of an answer with its line, if it is one: as Post, for the loops over axioms.
use Rattle.std.specs.Prelude.{ℕ}
use Rattle.rules.specs.Base.{Res}
use Rattle.rules.specs.Run.{Lined, done, stopped, lined, lined_then}
use Rattle.rules.specs.Post.{Post, gives, refuses}

pub data LinedPost {S A : Type 0} (Q : A → S → Type 0) : Lined S A → Type 0 where
  finishes : {a : A} {s : S} → Q a s → LinedPost Q (done a s)
  stops : {k line : ℕ} → LinedPost Q (stopped k line)

pub lined_post : {S A : Type 0} {Q : A → S → Type 0} (line : ℕ) {r : Res S A} → Post Q r → LinedPost Q (lined line r)
lined_post line (gives h) = finishes h
lined_post line refuses = stops

pub lined_then_lem : {S T A B : Type 0} {P : A → S → Type 0} {Q : B → T → Type 0} {r : Lined S A} {f : A → S → Lined T B}
    → LinedPost P r → ((a : A) (s : S) → P a s → LinedPost Q (f a s)) → LinedPost Q (lined_then r f)
lined_then_lem (finishes {a = a} {s = s} h) k = k a s h
lined_then_lem stops k = stops

pub lined_map : {S A : Type 0} {P Q : A → S → Type 0} {r : Lined S A} → LinedPost P r → ((a : A) (s : S) → P a s → Q a s) → LinedPost Q r
lined_map (finishes {a = a} {s = s} h) k = finishes (k a s h)
lined_map stops k = stops

-- `finishes` as a function: the expected type of a function's call is read before its arguments, and of a constructor's after
pub finish : {S A : Type 0} {Q : A → S → Type 0} {a : A} {s : S} → Q a s → LinedPost Q (done a s)
finish h = finishes h

-- what holds of an answer that is there
pub done_post : {S A : Type 0} {Q : A → S → Type 0} {a : A} {s : S} → LinedPost Q (done a s) → Q a s
done_post (finishes h) = h

pub lined_both : {S A : Type 0} {P Q : A → S → Type 0} {r : Lined S A} → LinedPost P r → LinedPost Q r → LinedPost (λ a s. P a s × Q a s) r
lined_both (finishes h) k = finishes (h, done_post k)
lined_both stops k = stops
