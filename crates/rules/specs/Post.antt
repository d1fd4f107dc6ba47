-- What holds of a rule's answer, if it is one: the way in which laws of a run are stated and proved.
use Rattle.std.specs.Prelude.{◌≡◌, ℕ}
use Rattle.std.proofs.Math.Path.{refl}
use Rattle.rules.specs.Base.{Res, ok, refused, M, then}

pub data Post {S A : Type 0} (Q : A → S → Type 0) : Res S A → Type 0 where
  gives : {a : A} {s : S} → Q a s → Post Q (ok a s)
  refuses : {k : ℕ} → Post Q (refused k)

pub post_then : {S A B : Type 0} {P : A → S → Type 0} {Q : B → S → Type 0} {r : Res S A} {f : A → M S B}
    → Post P r → ((a : A) (s : S) → P a s → Post Q (f a s)) → Post Q (then r f)
post_then (gives {a = a} {s = s} h) k = k a s h
post_then refuses k = refuses

pub post_map : {S A : Type 0} {P Q : A → S → Type 0} {r : Res S A} → Post P r → ((a : A) (s : S) → P a s → Q a s) → Post Q r
post_map (gives {a = a} {s = s} h) k = gives (k a s h)
post_map refuses k = refuses

-- the rest, where it is the same after every answer that there is
pub then_same : {S A B : Type 0} {P : A → S → Type 0} {r : Res S A} {f g : A → M S B} → Post P r → ((a : A) (s : S) → P a s → f a s ≡ g a s) → then r f ≡ then r g
then_same (gives {a = a} {s = s} h) k = k a s h
then_same refuses k = refl

-- `gives` as a function: the expected type of a function's call is read before its arguments, and of a constructor's after
pub give : {S A : Type 0} {Q : A → S → Type 0} {a : A} {s : S} → Q a s → Post Q (ok a s)
give h = gives h

-- an answer, of which nothing is said
pub post_any : {S A : Type 0} (r : Res S A) → Post (λ _ _. Unit {0}) r
post_any (ok a s) = gives tt
post_any (refused k) = refuses

-- of an answer that is one
pub post_ok : {S A : Type 0} (P : A → S → Type 0) (a : A) (s : S) → Post P (ok a s) → P a s
post_ok P a s (gives x) = x

-- one run, many properties
pub post_every : {S A K : Type 0} {Q : K → A → S → Type 0} {r : Res S A} → ((k : K) → Post (Q k) r) → Post (λ a s. (k : K) → Q k a s) r
post_every {Q = Q} {r = ok a s} h = gives (λ k. post_ok (Q k) a s (h k))
post_every {Q = Q} {r = refused k} h = refuses
