-- A variable more. Assumes nothing.
use Rattle.std.specs.Prelude.{Bool, true, false, ◌≡◌, refl, List, [], ◌∷◌, ◌++◌, ℕ, ◌+◌, ◌≤◌, ◌<◌, length, get_or, drop, set, eqb, ltb}
use Rattle.std.proofs.Common.{sym, ap, ◌∙◌, arith, add-one, ltb-true, ltb-false, eqb-true, length-append, length-drop, length-set, get_or-set_same, get_or-set_other, drop-set-lt, take-suc-set}
use Rattle.std.proofs.lemmas.Bool.{eqb-false}
use Rattle.std.proofs.Math.ListN.{get_or-append}
use Rattle.std.proofs.lemmas.List.{get_or_at, take-set-le, drop-set-add}
use Rattle.ir.specs.Pick.{pick}
use Rattle.rules.specs.Base.{contains}
use Rattle.rules.specs.Branches.{below, top_of}
use Rattle.rules.specs.DeckLaws.{same_eqb}
use Rattle.branches.specs.Layout.{bound_at, tops_at, met_at, work_words}
use Rattle.trees.specs.Growth.{bound_of, top_for, bind_of, Kept, Growing}
use Rattle.trees.specs.TopLaws.{parent_other, top_kept, top_child, top_under_lem}
use Rattle.trees.specs.PlaceLaws.{not_first, not_more}

module _ (w : List ℕ) (n i v : ℕ) (few : n ≤ 256) (long : work_words ≤ length w) where
  -- ---- the words
  bound_more : bound_of (bind_of w n i v false) (n + 1) ≡ bound_of w n ++ (v ∷ [])
  bound_more =
      let z : tops_at + n ≡ bound_at + (257 + n) = omega arith in
      let x = top_for w i v in
      let d = drop bound_at w in
      rw (z, drop-set-add bound_at (set w (bound_at + n) v) (257 + n) x, drop-set-add bound_at w n v, take-set-le (n + 1) (set d n v) (257 + n) x (omega arith), add-one n)
      (take-suc-set d n v (omega (arith, length-drop bound_at w)))

  top_old : (j : ℕ) → j < n → get_or (bind_of w n i v false) (tops_at + j) 0 ≡ get_or w (tops_at + j) 0
  top_old j h =
      get_or-set_other (set w (bound_at + n) v) (tops_at + n) (tops_at + j) (top_for w i v) 0 (λ e. omega arith)
      ∙ get_or-set_other w (bound_at + n) (tops_at + j) v 0 (λ e. omega arith)

  top_here : get_or (bind_of w n i v false) (tops_at + n) 0 ≡ top_for w i v
  top_here = get_or-set_same (set w (bound_at + n) v) (tops_at + n) (top_for w i v) 0 (omega (arith, length-set w (bound_at + n) v))

  pub bind_kept : (b : Bool) → Kept w (bind_of w n i v b)
  bind_kept true = record { front = refl; back = refl }
  bind_kept false = record {
    front = take-set-le bound_at (set w (bound_at + n) v) (tops_at + n) (top_for w i v) (omega arith) ∙ take-set-le bound_at w (bound_at + n) v (omega arith);
    back = drop-set-lt met_at (set w (bound_at + n) v) (tops_at + n) (top_for w i v) (omega arith) ∙ drop-set-lt met_at w (bound_at + n) v (omega arith);
  }

  -- ---- v below u, which is at place i
  module _ (root u : ℕ) (vs : List ℕ) (parents : List (ℕ × ℕ)) (G : Growing w root n vs parents) (h : i < n) (e : get_or vs i 0 ≡ u) (new : contains vs v ≡ false) where
    apart : eqb v root ≡ false
    apart = rw (← G.first) (not_first vs v new (omega (arith, G.long, G.filled)))

    top_new : (b : Bool) → eqb i 0 ≡ b → top_of (parents ++ ((v, u) ∷ [])) root v ≡ below (pick b v (get_or w (tops_at + i) 0))
    top_new true q =
        let z : i ≡ 0 = eqb-true i 0 q in
        let y : u ≡ root = sym e ∙ ap (λ (k : ℕ). get_or vs k 0) z ∙ G.first in
        rw y (top_child parents root v apart (G.alone v new))
    top_new false q =
        let z : i ≡ 0 → ⊥ = eqb-false i 0 q in
        top_under_lem parents root u v (get_or w (tops_at + i) 0) apart (G.alone v new) (rw (← e) (G.tops i (omega arith) h))

    tops_more : (j : ℕ) → 1 ≤ j → j < n + 1 → (b : Bool) → ltb j n ≡ b → top_of (parents ++ ((v, u) ∷ [])) root (get_or (vs ++ (v ∷ [])) j 0) ≡ below (get_or (bind_of w n i v false) (tops_at + j) 0)
    tops_more j g k true q =
        let y : j < n = ltb-true j n q in
        rw (get_or-append vs (v ∷ []) 0 j (omega (arith, G.long)), top_old j y) (top_kept parents (v, u) root (get_or vs j 0) (get_or w (tops_at + j) 0) (G.tops j g y))
    tops_more j g k false q =
        let y : n ≤ j = ltb-false j n q in
        let z : j ≡ n = omega arith in
        rw z (rw (get_or_at vs v [] 0 n (sym G.long), top_here) (top_new (eqb i 0) refl))

    pub bind_growing : Growing (bind_of w n i v false) root (n + 1) (vs ++ (v ∷ [])) (parents ++ ((v, u) ∷ []))
    bind_growing = record {
      long = omega (arith, length-append vs (v ∷ []), G.long);
      filled = omega arith;
      vars = bound_more ∙ ap (λ (l : List ℕ). l ++ (v ∷ [])) G.vars;
      first = get_or-append vs (v ∷ []) 0 0 (omega (arith, G.long, G.filled)) ∙ G.first;
      tops = λ j g k. tops_more j g k (ltb j n) refl;
      alone = λ x q. let k = not_more vs v x q in parent_other parents u v x (same_eqb v x ∙ k.1) (G.alone x k.0);
    }
