-- Laws of the rows: a concept's row reads those of smaller ids only, so rows stay where words outside them change and where
-- the pool grows. Assumes nothing.
use Rattle.std.specs.Prelude.{◌≡◌, Bool, true, false, ℕ, ◌+◌, ◌*◌, ◌<◌, ◌≤◌, length, get_or, set, take, ltb}
use Rattle.std.proofs.Math.Path.{refl, ap}
use Rattle.std.proofs.Common.{sym, ◌∙◌, subst, arith, length-set, get_or-set_same, get_or-set_other, take-take, ltb-true, ltb-false}
use mathlib.Core.List.{List, [], ◌∷◌}
use Rattle.ir.specs.Scratch.{alternatives_at, axioms_at}
use Rattle.rules.specs.Concept.{Concept}
use Rattle.rules.specs.Concept.{Top, Bot, Atomic, Nominal, SelfRestriction, Not, And, Or, Some, All, Min, Max}
use Rattle.rules.specs.Pool.{Pool, at, most_concepts}
use Rattle.rules.specs.Deck.{parts_of}
use Rattle.rules.specs.PoolLaws.{grown_at}
use Rattle.rules.specs.Invariants.{Each, Grown}
use Rattle.rules.specs.TextLaws.{by_test}
use Rattle.pool.specs.Layout.{pool_words, pool_of}
use Rattle.pool.specs.Held.{Held}
use Rattle.pool.specs.HeldLaws.{pool_length, pool_at, held_kept, pool_kept}
use Rattle.antecedents.specs.Table.{size_in, vars_in, plus_vars, join_size, size_all, vars_all, size_of, vars_of, Numbered, Outside}

-- ---- two tables with the same rows below c
pub record Agree (w w' : List ℕ) (c : ℕ) : Type 0 where
  pub size : (d : ℕ) → d < c → size_in w' d ≡ size_in w d
  pub vars : (d : ℕ) → d < c → vars_in w' d ≡ vars_in w d

module _ (w w' : List ℕ) (c : ℕ) (A : Agree w w' c) where
  sizes_agree : (b : Bool) (l : List ℕ) (a : ℕ) → Each (λ d. d < c) l → size_all w' b l a ≡ size_all w b l a
  unfolding size_all
  sizes_agree b [] a h = refl
  sizes_agree b (x ∷ l) a h = sizes_agree b l (join_size b a (size_in w' x)) h.1 ∙ ap (λ (z : ℕ). size_all w b l (join_size b a z)) (A.size x h.0)

  vars_agree : (l : List ℕ) (a : ℕ) → Each (λ d. d < c) l → vars_all w' l a ≡ vars_all w l a
  unfolding vars_all
  vars_agree [] a h = refl
  vars_agree (x ∷ l) a h = vars_agree l (plus_vars a (vars_in w' x)) h.1 ∙ ap (λ (z : ℕ). vars_all w l (plus_vars a z)) (A.vars x h.0)

  size_of_agree : (e : Concept) → Each (λ d. d < c) (parts_of e) → size_of w' e ≡ size_of w e
  size_of_agree Top h = refl
  size_of_agree Bot h = refl
  size_of_agree (Atomic _) h = refl
  size_of_agree (Nominal _) h = refl
  size_of_agree (SelfRestriction _) h = refl
  size_of_agree (Not _) h = refl
  size_of_agree (And l) h = sizes_agree true l 1 h
  size_of_agree (Or l) h = sizes_agree false l 0 h
  size_of_agree (Some _ d) h = A.size d h.0
  size_of_agree (All _ _) h = refl
  size_of_agree (Min _ _ _) h = refl
  size_of_agree (Max _ _ _) h = refl

  vars_of_agree : (e : Concept) → Each (λ d. d < c) (parts_of e) → vars_of w' e ≡ vars_of w e
  vars_of_agree Top h = refl
  vars_of_agree Bot h = refl
  vars_of_agree (Atomic _) h = refl
  vars_of_agree (Nominal _) h = refl
  vars_of_agree (SelfRestriction _) h = refl
  vars_of_agree (Not _) h = refl
  vars_of_agree (And l) h = vars_agree l 0 h
  vars_of_agree (Or l) h = vars_agree l 0 h
  vars_of_agree (Some _ d) h = ap (λ (z : ℕ). plus_vars z 1) (A.vars d h.0)
  vars_of_agree (All _ _) h = refl
  vars_of_agree (Min _ _ _) h = refl
  vars_of_agree (Max _ _ _) h = refl

agree_less : {w w' : List ℕ} {c d : ℕ} → d ≤ c → Agree w w' c → Agree w w' d
agree_less h A = record { size = λ x l. A.size x (omega arith); vars = λ x l. A.vars x (omega arith) }

-- ---- pools whose parts are smaller ids
abbrev pub Below : Pool → Type 0
Below p = (c : ℕ) → c < length p → Each (λ d. d < c) (parts_of (at p c))

pub held_below : (w : List ℕ) (n m : ℕ) → Held w n m → Below (pool_of w n)
held_below w n m H c h =
    let l : c < n = subst (λ (z : ℕ). c < z) (pool_length w n) h in
    subst (λ (e : Concept). Each (λ d. d < c) (parts_of e)) (sym (pool_at w n c l)) (H.records c l).below

module _ (p : Pool) (B : Below p) (n : ℕ) (h : n ≤ length p) where
  agree_numbered : (w w' : List ℕ) → Agree w w' n → Numbered w p n → Numbered w' p n
  agree_numbered w w' A N = record {
    size = λ c l. A.size c l ∙ N.size c l ∙ sym (size_of_agree w w' c (agree_less (omega arith) A) (at p c) (B c (omega arith)));
    vars = λ c l. A.vars c l ∙ N.vars c l ∙ sym (vars_of_agree w w' c (agree_less (omega arith) A) (at p c) (B c (omega arith)));
  }

  -- the rows stay where words outside them change
  pub numbered_same : n ≤ most_concepts → (w w' : List ℕ) → ((i : ℕ) → alternatives_at ≤ i → i < axioms_at → get_or w' i 0 ≡ get_or w i 0) → Numbered w p n → Numbered w' p n
  numbered_same g w w' e = agree_numbered w w' (record { size = λ c l. e (alternatives_at + 2 * c) (omega arith) (omega arith); vars = λ c l. e (alternatives_at + 2 * c + 1) (omega arith) (omega arith) })

-- and where the pool grows
pub numbered_grown : (w : List ℕ) (p q : Pool) (n : ℕ) → n ≤ length p → Grown p q → Numbered w p n → Numbered w q n
numbered_grown w p q n h G N = record {
  size = λ c l. N.size c l ∙ ap (size_of w) (sym (grown_at G c (omega arith)));
  vars = λ c l. N.vars c l ∙ ap (vars_of w) (sym (grown_at G c (omega arith)));
}

-- both, of the words of scratch
pub numbered_kept : (w w' : List ℕ) (n m n' : ℕ) → Held w n m → Grown (pool_of w n) (pool_of w' n') → ((i : ℕ) → alternatives_at ≤ i → i < axioms_at → get_or w' i 0 ≡ get_or w i 0)
    → Numbered w (pool_of w n) n → Numbered w' (pool_of w' n') n
numbered_kept w w' n m n' H G e N =
    let l : n ≤ length (pool_of w n) = rw (pool_length w n) (omega arith) in
    numbered_grown w' (pool_of w n) (pool_of w' n') n l G (numbered_same (pool_of w n) (held_below w n m H) n l H.few w w' e N)

-- ---- words outside the rows
module _ (w w' : List ℕ) (O : Outside w w') where
  outside_low : take pool_words w' ≡ take pool_words w
  outside_low = sym (take-take pool_words alternatives_at w' (omega arith)) ∙ ap (take pool_words) O.low ∙ take-take pool_words alternatives_at w (omega arith)

  pub outside_pool : (n m : ℕ) → Held w n m → pool_of w' n ≡ pool_of w n
  outside_pool n m H = pool_kept w w' n m H outside_low

  pub outside_held : (n m : ℕ) → Held w n m → length w' ≡ length w → Held w' n m
  outside_held n m H e = held_kept w w' n m H outside_low e

-- ---- one row more
module _ (w : List ℕ) (c n u : ℕ) where
  abbrev pub row_put : List ℕ
  row_put = set (set w (alternatives_at + 2 * c) n) (alternatives_at + 2 * c + 1) u

  put_agree : Agree w row_put c
  put_agree = record {
    size = λ d l. get_or-set_other (set w (alternatives_at + 2 * c) n) (alternatives_at + 2 * c + 1) (alternatives_at + 2 * d) u 0 (λ e. absurd (omega arith)) ∙ get_or-set_other w (alternatives_at + 2 * c) (alternatives_at + 2 * d) n 0 (λ e. absurd (omega arith));
    vars = λ d l. get_or-set_other (set w (alternatives_at + 2 * c) n) (alternatives_at + 2 * c + 1) (alternatives_at + 2 * d + 1) u 0 (λ e. absurd (omega arith)) ∙ get_or-set_other w (alternatives_at + 2 * c) (alternatives_at + 2 * d + 1) n 0 (λ e. absurd (omega arith));
  }

  put_size : alternatives_at + 2 * c < length w → size_in row_put c ≡ n
  put_size h = get_or-set_other (set w (alternatives_at + 2 * c) n) (alternatives_at + 2 * c + 1) (alternatives_at + 2 * c) u 0 (λ e. absurd (omega arith)) ∙ get_or-set_same w (alternatives_at + 2 * c) n 0 h

  put_vars : alternatives_at + 2 * c + 1 < length w → vars_in row_put c ≡ u
  put_vars h = let l : length (set w (alternatives_at + 2 * c) n) ≡ length w = length-set w (alternatives_at + 2 * c) n in get_or-set_same (set w (alternatives_at + 2 * c) n) (alternatives_at + 2 * c + 1) u 0 (omega arith)

  pub numbered_next : (p : Pool) → Below p → c < length p → alternatives_at + 2 * c + 1 < length w → n ≡ size_of w (at p c) → u ≡ vars_of w (at p c) → Numbered w p c → Numbered row_put p (c + 1)
  numbered_next p B l r en eu N =
      let old : Numbered row_put p c = agree_numbered p B c (omega arith) w row_put put_agree N in
      record {
        size = λ d i. by_test (ltb d c)
            (λ e. old.size d (ltb-true d c e))
            (λ e. let g = ltb-false d c e in let q : c ≡ d = omega arith in subst (λ (z : ℕ). size_in row_put z ≡ size_of row_put (at p z)) q (put_size (omega arith) ∙ en ∙ sym (size_of_agree w row_put c put_agree (at p c) (B c l))));
        vars = λ d i. by_test (ltb d c)
            (λ e. old.vars d (ltb-true d c e))
            (λ e. let g = ltb-false d c e in let q : c ≡ d = omega arith in subst (λ (z : ℕ). vars_in row_put z ≡ vars_of row_put (at p z)) q (put_vars r ∙ eu ∙ sym (vars_of_agree w row_put c put_agree (at p c) (B c l))));
      }
