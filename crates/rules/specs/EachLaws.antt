-- What holds of each element of a list. Assumes nothing.
use Rattle.std.specs.Prelude.{◌≡◌, ℕ, zero, suc, ◌<◌, length, get_or, drop}
use Rattle.std.proofs.Common.{sym, subst, arith}
use mathlib.Core.List.{List, [], ◌∷◌, ◌++◌, map, Memᴰ}
use Rattle.rules.specs.Invariants.{Each}

module _ {A : Type 0} where
  pub each_map : (P Q : A → Type 0) → ((a : A) → P a → Q a) → (l : List A) → Each P l → Each Q l
  each_map P Q h [] u = tt
  each_map P Q h (a ∷ l) u = (h a u.0, each_map P Q h l u.1)

  pub each_any : (P : A → Type 0) → ((a : A) → P a) → (l : List A) → Each P l
  each_any P h [] = tt
  each_any P h (a ∷ l) = (h a, each_any P h l)

  pub each_both : (P Q R : A → Type 0) → ((a : A) → P a → Q a → R a) → (l : List A) → Each P l → Each Q l → Each R l
  each_both P Q R h [] u v = tt
  each_both P Q R h (a ∷ l) u v = (h a u.0 v.0, each_both P Q R h l u.1 v.1)

  pub each_append : (P : A → Type 0) (k l : List A) → Each P k → Each P l → Each P (k ++ l)
  each_append P [] l u v = v
  each_append P (a ∷ k) l u v = (u.0, each_append P k l u.1 v)

  pub each_left : (P : A → Type 0) (k l : List A) → Each P (k ++ l) → Each P k
  each_left P [] l u = tt
  each_left P (a ∷ k) l u = (u.0, each_left P k l u.1)

  pub each_right : (P : A → Type 0) (k l : List A) → Each P (k ++ l) → Each P l
  each_right P [] l u = u
  each_right P (a ∷ k) l u = each_right P k l u.1

  -- one element more at the end
  pub each_snoc : (P : A → Type 0) (l : List A) (x : A) → Each P l → P x → Each P (l ++ (x ∷ []))
  each_snoc P l x p q = each_append P l (x ∷ []) p (q, tt)

  pub each_unit : (l : List A) → Each (λ (_ : A). Unit {0}) l
  each_unit l = each_any (λ (_ : A). Unit {0}) (λ _. tt) l

  pub each_member : (P : A → Type 0) {x : A} {l : List A} → Each P l → Memᴰ x l → P x
  each_member P p (Memᴰ.head e) = subst P (sym e) p.0
  each_member P p (Memᴰ.tail m) = each_member P p.1 m

  -- element i; the first of those from element i on
  pub each_nth : (P : A → Type 0) (l : List A) (i : ℕ) (d : A) → Each P l → i < length l → P (get_or l i d)
  each_nth P [] i d p h = absurd (omega arith)
  each_nth P (x ∷ l) zero d p h = p.0
  each_nth P (x ∷ l) (suc i) d p h = each_nth P l i d p.1 (omega arith)

  pub each_drop : (P : A → Type 0) (l : List A) (i : ℕ) (x : A) (m : List A) → Each P l → drop i l ≡ x ∷ m → P x
  each_drop P [] zero x m p e = absurd (let z : ◌≡◌ {A = ℕ} 0 1 = cc in omega arith)
  each_drop P [] (suc i) x m p e = absurd (let z : ◌≡◌ {A = ℕ} 0 1 = cc in omega arith)
  each_drop P (y ∷ l) zero x m p e = let f : y ≡ x = cc in subst P f p.0
  each_drop P (y ∷ l) (suc i) x m p e = each_drop P l i x m p.1 e

pub each_mapped : {A B : Type 0} (P : A → Type 0) (Q : B → Type 0) (f : A → B) → ((x : A) → P x → Q (f x)) → (l : List A) → Each P l → Each Q (map f l)
each_mapped P Q f g [] p = tt
each_mapped P Q f g (x ∷ l) p = (g x p.0, each_mapped P Q f g l p.1)

pub each_unmapped : {A B : Type 0} (P : B → Type 0) (f : A → B) (l : List A) → Each P (map f l) → Each (λ x. P (f x)) l
each_unmapped P f [] h = tt
each_unmapped P f (x ∷ l) h = (h.0, each_unmapped P f l h.1)
