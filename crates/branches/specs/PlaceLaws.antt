-- The search for a place. Assumes nothing.
use Rattle.std.specs.Prelude.{◌≡◌, refl, Option, Some, None, is_some, List, [], ◌∷◌, ℕ, zero, suc, ◌+◌, ◌≤◌, ◌<◌, length, get_or, drop}
use Rattle.std.proofs.Common.{sym, ap, ◌∙◌, arith, eq-eqb, ne_eqb, get_or-take, get_or-drop}
use Rattle.rules.specs.Base.{contains}
use Rattle.rules.specs.Branches.{place_of}
use Rattle.branches.specs.Renumbered.{run}
use Rattle.branches.specs.Places.{PlaceIs}
use Rattle.branches.specs.MetLaws.{run_long}

pub place_some : (l : List ℕ) (v : ℕ) (r : Option ℕ) → PlaceIs l v r → is_some r ≡ contains l v
place_some l v (Some i) P = sym P.2
place_some l v None P = sym P

-- the first word that is v, or none is
pub place_found : (l : List ℕ) (v i : ℕ) → i < length l → get_or l i 0 ≡ v → ((k : ℕ) → k < i → get_or l k 0 ≡ v → ⊥) → PlaceIs l v (Some i)
unfolding place_of
place_found [] v i h e f = absurd (omega arith)
place_found (x ∷ l) v zero h e f = (omega arith, rw (eq-eqb x v e) refl, rw (eq-eqb v x (sym e)) refl)
place_found (x ∷ l) v (suc i) h e f =
    let r = place_found l v i (omega arith) e (λ k q. f (suc k) (omega arith)) in
    let n : x ≡ v → ⊥ = f 0 (omega arith) in
    (omega arith, rw (ne_eqb x v n) (ap suc r.1), rw (ne_eqb v x (λ q. n (sym q))) r.2)

pub place_none : (l : List ℕ) (v : ℕ) → ((k : ℕ) → k < length l → get_or l k 0 ≡ v → ⊥) → PlaceIs l v None
place_none [] v f = refl
place_none (x ∷ l) v f = rw (ne_eqb v x (λ q. f 0 (omega arith) (sym q))) (place_none l v (λ k q. f (suc k) (omega arith)))

-- the n words from word m on, by their places
module _ (w : List ℕ) (m n v : ℕ) (long : m + n ≤ length w) where
  here : (k : ℕ) → k < n → get_or (run w m n) k 0 ≡ get_or w (m + k) 0
  here k h = get_or-take n (drop m w) k 0 h ∙ get_or-drop m w k 0

  pub place_first : (i : ℕ) → i < n → get_or w (m + i) 0 ≡ v → ((k : ℕ) → k < i → get_or w (m + k) 0 ≡ v → ⊥) → PlaceIs (run w m n) v (Some i)
  place_first i h e f = place_found (run w m n) v i (omega (arith, run_long w m n 0 long)) (here i h ∙ e) (λ k q z. f k q (sym (here k (omega arith)) ∙ z))

  pub place_nowhere : ((k : ℕ) → k < n → get_or w (m + k) 0 ≡ v → ⊥) → PlaceIs (run w m n) v None
  place_nowhere f = place_none (run w m n) v (λ k q z. let h : k < n = omega (arith, run_long w m n 0 long) in f k h (sym (here k h) ∙ z))
