-- The rows, one law for each way through the code.
use mathlib.Core.Path.{◌≡◌, refl, sym, ap, ◌∙◌, subst}
use mathlib.Core.Bool.{Bool, true, false}
use mathlib.Core.List.{List, ◌∷◌}
use Prim.Native.Nat.{ℕ, ◌+◌, ◌*◌, ◌/◌, ◌-◌, ◌<◌, ◌≤◌, min}
use native.Mathlib.Omega.{arith}
use native.Mathlib.Nat.{add-zero, sub-zero}
use lib.ListN.{length, get_or, set, take, drop}
use lib.Seq.{take-set-le, drop-set-lt}
use Rattle.words.specs.Words.{words}
use Rattle.words.specs.Laws.{length_words, words_long}
use Rattle.ir.specs.Scratch.{alternatives_at, axioms_at}
use Rattle.ir.specs.Roles.{role_of}
use Rattle.ir.specs.declared.counters.Counters.{Counters}
use Rattle.rules.specs.Concept.{Concept}
use Rattle.rules.specs.Concept.{And, Or, Some}
use Rattle.rules.specs.Pool.{Pool, at}
use Rattle.pool.specs.Layout.{members_at, run, field, record_at, count_of, concept_at, pool_of}
use Rattle.pool.specs.Held.{Ready, Held}
use Rattle.pool.specs.HeldLaws.{pool_length, pool_at}
use Rattle.pool.specs.Tabs.{tab_next, tab_end}
use Rattle.antecedents.specs.Stands.{Stands}
use Rattle.antecedents.specs.Kinds.{at_top, at_class, at_nominal, at_and, at_or, at_some, Other, by_other}
use Rattle.antecedents.specs.Table.{size_in, vars_in, plus_vars, join_size, size_all, vars_all, size_of, vars_of, Numbered, Outside}
use Rattle.antecedents.specs.TableLaws.{held_below, numbered_next, outside_pool, outside_held}

module _ (a n x y : ℕ) (ex : x ≡ a) (ey : y ≡ n) where
  pub times_small : x * y < 65 → x * y ≡ min (a * n) 65
  times_small h = rw (← ex, ← ey) (omega arith)

  pub times_large : 65 ≤ x * y → 65 ≡ min (a * n) 65
  times_large h = rw (← ex, ← ey) (omega arith)

pub sets_row : (w w₁ w₂ : List ℕ) (i a b : ℕ) → w₁ ≡ set w i a → w₂ ≡ set w₁ (i + 1) b → w₂ ≡ set (set w i a) (i + 1) b
sets_row w w₁ w₂ i a b e d = d ∙ ap (λ (z : List ℕ). set z (i + 1) b) e

-- ---- a list's row
pub record Turn (w : List ℕ) (b : Bool) (start many first size vars i : ℕ) : Type 0 where
  pub within : i ≤ many
  pub sizes : size_all w b (run w (members_at + start) many) first ≡ size_all w b (run w (members_at + start + i) (many - i)) size
  pub variables : vars_all w (run w (members_at + start) many) 0 ≡ vars_all w (run w (members_at + start + i) (many - i)) vars

module _ (w : List ℕ) (b : Bool) (start many first : ℕ) where
  pub turn_first : Turn w b start many first first 0 0
  turn_first = record { within = omega arith; sizes = rw (add-zero (members_at + start), sub-zero many) refl; variables = rw (add-zero (members_at + start), sub-zero many) refl }

  one_size : (x : ℕ) (l : List ℕ) (a a' n : ℕ) → n ≡ size_in w x → a' ≡ join_size b a n → size_all w b (x ∷ l) a ≡ size_all w b l a'
  unfolding size_all
  one_size x l a a' n en e = rw (e, en) refl

  one_vars : (x : ℕ) (l : List ℕ) (a a' n : ℕ) → n ≡ vars_in w x → a' ≡ plus_vars a n → vars_all w (x ∷ l) a ≡ vars_all w l a'
  unfolding vars_all
  one_vars x l a a' n en e = rw (e, en) refl

  module _ (size vars i : ℕ) (turn : Turn w b start many first size vars i) where
    pub turn_end : many ≤ i → (size ≡ size_all w b (run w (members_at + start) many) first) × (vars ≡ vars_all w (run w (members_at + start) many) 0)
    unfolding size_all vars_all
    turn_end h =
        let e = tab_end (λ j. get_or w j 0) (members_at + start) i many h in
        (sym (turn.sizes ∙ ap (λ (l : List ℕ). size_all w b l size) e), sym (turn.variables ∙ ap (λ (l : List ℕ). vars_all w l vars) e))

    pub turn_next : i < many → (x n size' u vars' : ℕ) → x ≡ get_or w (members_at + (start + i)) 0 → n ≡ size_in w x → size' ≡ join_size b size n → u ≡ vars_in w x → vars' ≡ plus_vars vars u
        → Turn w b start many first size' vars' (i + 1)
    turn_next lt x n size' u vars' ex en es eu ev =
        let d : members_at + start + i ≡ members_at + (start + i) = omega arith in
        let ex₁ : get_or w (members_at + start + i) 0 ≡ x = ap (λ (z : ℕ). get_or w z 0) d ∙ sym ex in
        let l : List ℕ = run w (members_at + start + (i + 1)) (many - (i + 1)) in
        let e : run w (members_at + start + i) (many - i) ≡ x ∷ l = tab_next (λ j. get_or w j 0) (members_at + start) i many lt ∙ ap (λ (z : ℕ). z ∷ l) ex₁ in
        record {
          within = omega arith;
          sizes = turn.sizes ∙ ap (λ (m : List ℕ). size_all w b m size) e ∙ one_size x l size size' n en es;
          variables = turn.variables ∙ ap (λ (m : List ℕ). vars_all w m vars) e ∙ one_vars x l vars vars' u eu ev;
        }

-- ---- a row
pub record Here (w : List ℕ) (c kind a b : ℕ) : Type 0 where
  pub kind_is : kind ≡ field w c 0
  pub a_is : a ≡ field w c 2
  pub b_is : b ≡ field w c 3

abbrev pub IsRow : List ℕ → Concept → ℕ → ℕ → Type 0
IsRow w e n u = (n ≡ size_of w e) × (u ≡ vars_of w e)

module _ (w : List ℕ) (c kind a b : ℕ) (h : Here w c kind a b) where
  kind_of : (x : ℕ) → kind ≡ x → field w c 0 ≡ x
  kind_of x e = sym h.kind_is ∙ e

  back : (e : Concept) (n u : ℕ) → concept_at w c ≡ e → IsRow w e n u → IsRow w (concept_at w c) n u
  back e n u q r = subst (λ (x : Concept). IsRow w x n u) (sym q) r

  pub row_top : kind ≡ 1 → IsRow w (concept_at w c) 1 0
  row_top e = back _ 1 0 (at_top w c (kind_of 1 e)) (refl, refl)

  pub row_class : kind ≡ 3 → IsRow w (concept_at w c) 1 0
  row_class e = back _ 1 0 (at_class w c (kind_of 3 e)) (refl, refl)

  pub row_nominal : kind ≡ 4 → IsRow w (concept_at w c) 1 0
  row_nominal e = back _ 1 0 (at_nominal w c (kind_of 4 e)) (refl, refl)

  pub row_and : kind ≡ 7 → (n u : ℕ) → (n ≡ size_all w true (run w (members_at + b) a) 1) × (u ≡ vars_all w (run w (members_at + b) a) 0) → IsRow w (concept_at w c) n u
  row_and e n u q = back (And (run w (members_at + b) a)) n u (rw (h.a_is, h.b_is) (at_and w c (kind_of 7 e))) q

  pub row_or : kind ≡ 8 → (n u : ℕ) → (n ≡ size_all w false (run w (members_at + b) a) 0) × (u ≡ vars_all w (run w (members_at + b) a) 0) → IsRow w (concept_at w c) n u
  row_or e n u q = back (Or (run w (members_at + b) a)) n u (rw (h.a_is, h.b_is) (at_or w c (kind_of 8 e))) q

  pub row_some : kind ≡ 9 → (n v u : ℕ) → n ≡ size_in w b → v ≡ vars_in w b → u ≡ plus_vars v 1 → IsRow w (concept_at w c) n u
  row_some e n v u en ev eu = back (Some (role_of (field w c 1)) b) n u (rw h.b_is (at_some w c (kind_of 9 e))) (en, eu ∙ ap (λ (z : ℕ). plus_vars z 1) ev)

  pub row_other : Other kind → IsRow w (concept_at w c) 0 0
  row_other o = by_other (λ e. IsRow w e 0 0)
      (record { bot = (refl, refl); self = λ _. (refl, refl); not = λ _. (refl, refl); all = λ _ _. (refl, refl); min = λ _ _ _. (refl, refl); max = λ _ _ _. (refl, refl) })
      (record_at w c) (run w (members_at + field w c 3) (count_of (record_at w c))) (rw h.kind_is at o)

-- ---- all rows
pub record Filled (s₀ s : List ℕ) (n c : ℕ) : Type 0 where
  pub within : c ≤ n
  pub len : length s ≡ length s₀
  pub rows : Numbered (words s) (pool_of (words s₀) n) c
  pub outside : Outside (words s₀) (words s)

pub filled_first : (s : List ℕ) (n c : ℕ) → c ≤ n → Numbered (words s) (pool_of (words s) n) c → Filled s s n c
filled_first s n c h N = record { within = h; len = refl; rows = N; outside = record { low = refl; high = refl } }

module _ (s₀ s : List ℕ) (k : Counters) (c : ℕ) (R : Ready s₀ k) (F : Filled s₀ s k.concepts c) where
  held_now : Held (words s) k.concepts k.members
  held_now = outside_held (words s₀) (words s) F.outside k.concepts k.members R.held (words_long s₀ s F.len)

  pub filled_stands : c < k.concepts → Stands s c
  filled_stands h = record { concepts = k.concepts; members = k.members; room = rw F.len R.room; held = held_now; inside = h }

  pub filled_next : c < k.concepts → 4 * axioms_at ≤ length s₀ → (s' : List ℕ) (n u : ℕ) → IsRow (words s) (concept_at (words s) c) n u
      → words s' ≡ set (set (words s) (alternatives_at + 2 * c) n) (alternatives_at + 2 * c + 1) u → length s' ≡ length s → Filled s₀ s' k.concepts (c + 1)
  filled_next h room s' n u q e l =
      let w = words s in
      let p = pool_of (words s₀) k.concepts in
      let few = R.held.few in
      let len : length p ≡ k.concepts = pool_length (words s₀) k.concepts in
      let same : concept_at w c ≡ at p c = sym (pool_at w k.concepts c h) ∙ ap (λ (x : Pool). at x c) (outside_pool (words s₀) w F.outside k.concepts k.members R.held) in
      let lw : length w ≡ length s / 4 = length_words s in
      let ls = F.len in
      let i : ℕ = alternatives_at + 2 * c in
      record {
        within = omega arith;
        len = l ∙ F.len;
        rows = subst (λ (x : List ℕ). Numbered x p (c + 1)) (sym e)
            (numbered_next w c n u p (held_below (words s₀) k.concepts k.members R.held) (omega arith) (omega arith) (q.0 ∙ ap (size_of w) same) (q.1 ∙ ap (vars_of w) same) F.rows);
        outside = record {
          low = ap (take alternatives_at) e ∙ take-set-le alternatives_at (set w i n) (i + 1) u (omega arith) ∙ take-set-le alternatives_at w i n (omega arith) ∙ F.outside.low;
          high = ap (drop axioms_at) e ∙ drop-set-lt axioms_at (set w i n) (i + 1) u (omega arith) ∙ drop-set-lt axioms_at w i n (omega arith) ∙ F.outside.high;
        };
      }

  pub filled_end : k.concepts ≤ c → Numbered (words s) (pool_of (words s₀) k.concepts) k.concepts × Outside (words s₀) (words s)
  filled_end h =
      let l = F.within in
      let e : c ≡ k.concepts = omega arith in
      (subst (λ (n : ℕ). Numbered (words s) (pool_of (words s₀) k.concepts) n) e F.rows, F.outside)
