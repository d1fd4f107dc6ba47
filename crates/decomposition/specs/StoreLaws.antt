-- Runs of words stored in a table. Assumes nothing.
use Rattle.std.specs.Prelude.{◌≡◌, List, [], ◌∷◌, ◌++◌, ℕ, zero, suc, ◌+◌, ◌≤◌, length, take, drop}
use Rattle.std.proofs.Common.{ap, ◌∙◌, arith, length-append, take_at, length-take-le}
use Rattle.std.proofs.lemmas.List.Edits.{sets, sets-eq}
use Rattle.rules.specs.State.{Clause, total}

-- ---- a run of stores
-- what stands up to its end
pub take_store : (w m : List ℕ) (p q : ℕ) → q ≡ p + length m → q ≤ length w → take q (sets w p m) ≡ take p w ++ m
take_store w m p q e h =
    let n : length (take p w ++ m) ≡ q = omega (arith, length-append (take p w) m, length-take-le p w (omega arith)) in
    ap (take q) (sets-eq m w p (omega arith))
    ∙ take_at (take p w ++ m) (drop (p + length m) w) q n

-- ---- one clause more of a list
pub next_clause : (l : List Clause) (i : ℕ) (x : Clause) (m : List Clause) → drop i l ≡ x ∷ m
    → (suc i ≤ length l) × (total (take (i + 1) l) ≡ total (take i l) + length (x.body ++ x.head)) × (drop (i + 1) l ≡ m)
unfolding total
next_clause [] zero x m e = absurd (let z : ◌≡◌ {A = ℕ} 0 1 = cc in omega arith)
next_clause [] (suc i) x m e = absurd (let z : ◌≡◌ {A = ℕ} 0 1 = cc in omega arith)
next_clause (y ∷ l) zero x m e =
    let f : y ≡ x = cc in
    let g : l ≡ m = cc in
    (omega arith, omega (arith, ap (λ (z : Clause). length (z.body ++ z.head)) f), g)
next_clause (y ∷ l) (suc i) x m e =
    let n : suc i + 1 ≡ suc (i + 1) = omega arith in
    let h = next_clause l i x m e in
    rw n (omega (arith, h.0), omega (arith, h.1), h.2)
