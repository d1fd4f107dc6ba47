-- Before the second line, and any deck that declares as many. Assumes nothing.
use mathlib.Core.Path.{◌≡◌, refl, sym, ap, ap₂, subst, ◌∙◌}
use mathlib.Core.Bool.{Bool, true, false, ◌&&◌}
use mathlib.Core.List.{List, [], ◌∷◌}
use Prim.Native.Nat.{ℕ, zero, suc, ◌+◌, ◌*◌, ◌-◌, ◌<◌, ◌≤◌}
use native.Mathlib.Omega.{arith}
use lib.Dec.{eqb, ltb, leb}
use lib.ListN.{length, get_or, replicate, length-replicate, get_or-replicate}
use lib.Seq.{sets}
use Rattle.ir.specs.Pick.{pick}
use Rattle.rules.specs.Base.{contains}
use Rattle.rules.specs.Text.{Row, row, broken_row, row_of}
use Rattle.rules.specs.Deck.{Known}
use Rattle.rules.specs.Semantics.{Interpretation}
use Rattle.words.specs.Words.{words}
use Rattle.words.specs.Runs.{get_d_sets_in, get_d_sets_before}
use Rattle.states.specs.State.{State, Seen, StateTold, stated, bad, unread, numbers_at, has_pair, line_ok, on_line, on_state_row, state_by}
use Rattle.sets.specs.Kept.{set_at}
use Rattle.sets.specs.Places.{rows_at}
use Rattle.sets.specs.Laid.{Laid, row_of as row_in, KeptTo}
use Rattle.layouts.specs.declared.limits.Limits.{Limits}
use Rattle.layouts.specs.declared.BadLine.{BadLine}
use Rattle.std.specs.Prelude.{Result, Ok, Err}
use Rattle.layouts.specs.Read.{Declares, known_of, StatedAs}
use Rattle.layouts.specs.Lines.{rows_word}

-- ---- words of zeros
zero_word : (n i : ℕ) → get_or (words (replicate n 0)) i 0 ≡ 0
unfolding words
zero_word zero i = refl
zero_word (suc zero) i = refl
zero_word (suc (suc zero)) i = refl
zero_word (suc (suc (suc zero))) i = refl
zero_word (suc (suc (suc (suc n)))) zero = refl
zero_word (suc (suc (suc (suc n)))) (suc i) = zero_word n i

pub no_set : (s : List ℕ) (n c : ℕ) → s ≡ replicate n 0 → set_at (words s) c ≡ 0
no_set s n c e =
    let a : get_or (words s) (2 * c) 0 ≡ 0 = ap (λ (t : List ℕ). get_or (words t) (2 * c) 0) e ∙ zero_word n (2 * c) in
    let b : get_or (words s) (2 * c + 1) 0 ≡ 0 = ap (λ (t : List ℕ). get_or (words t) (2 * c + 1) 0) e ∙ zero_word n (2 * c + 1) in
    omega (arith, a, b)

-- the rows of so many roles
pub no_row : (w w' : List ℕ) (roles code x : ℕ) → w' ≡ sets w rows_word (replicate (256 * roles) 0) → rows_word + 256 * roles ≤ length w → code < 2 * roles → x < 64 → row_in w' code x ≡ 0
no_row w w' roles code x e h q z =
    let a = word (128 * code + 2 * x) (omega arith) (2 * (rows_at + 64 * code + x)) (omega arith) in
    let b = word (128 * code + 2 * x + 1) (omega arith) (2 * (rows_at + 64 * code + x) + 1) (omega arith) in
    omega (arith, a, b)
  where
    word : (k : ℕ) → k < 256 * roles → (i : ℕ) → i ≡ rows_word + k → get_or w' i 0 ≡ 0
    word k l i f =
        let n = length-replicate {0} {A = ℕ} (256 * roles) 0 in
        ap₂ (λ (u : List ℕ) (j : ℕ). get_or u j 0) e f ∙ get_d_sets_in (replicate (256 * roles) 0) w rows_word k 0 (omega (arith, n, l)) (omega (arith, n, h)) ∙ get_or-replicate (256 * roles) k 0 0 l

pub rows_before : (w w' vs : List ℕ) → w' ≡ sets w rows_word vs → KeptTo rows_word w w'
rows_before w w' vs e i h = ap (λ (u : List ℕ). get_or u i 0) e ∙ get_d_sets_before vs w rows_word i 0 h

-- ---- a deck that declares as many
module _ (d : Known) (m : Limits) (D : Declares d m) where
  same_line_lem : (fresh : ℕ) (w : Seen) (r : List ℕ) → line_ok d fresh w r ≡ line_ok (known_of m) fresh w r
  same_line_lem fresh w r = rw (D.classes, D.individuals, D.roles) refl

  pub same_read : (f fresh line : ℕ) (w : Seen) (bytes : List ℕ) → state_by f d fresh line w bytes ≡ state_by f (known_of m) fresh line w bytes
  unfolding state_by
  same_read zero fresh line w bytes = refl
  same_read (suc f) fresh line w [] = rw D.individuals refl
  same_read (suc f) fresh line w (b ∷ bytes) = rows (λ v rest. same_read f fresh (line + 1) v rest) (row_of (b ∷ bytes))
    where
      lines : (rest rest' : Seen → StateTold) (v : Seen) (t : Bool) → ((u : Seen) → rest u ≡ rest' u) → on_line rest line v t ≡ on_line rest' line v t
      lines rest rest' v true h = h v
      lines rest rest' v false h = refl

      rows : ((v : Seen) (rest : List ℕ) → state_by f d fresh (line + 1) v rest ≡ state_by f (known_of m) fresh (line + 1) v rest) → (x : Row)
          → on_state_row d fresh (λ v rest. state_by f d fresh (line + 1) v rest) line w x ≡ on_state_row (known_of m) fresh (λ v rest. state_by f (known_of m) fresh (line + 1) v rest) line w x
      rows h broken_row = refl
      rows h (row r rest) = rw (same_line_lem fresh w r) (lines (λ v. state_by f d fresh (line + 1) v rest) (λ v. state_by f (known_of m) fresh (line + 1) v rest) _ (line_ok (known_of m) fresh w r) (λ v. h v rest))

  abbrev meant : State → ℕ → ℕ → Interpretation
  meant s a b = record {
    size = s.size;
    class = λ c x. pick (leb a c && ltb c (a + b)) (eqb x (get_or s.individuals (c - a) 0)) (contains (numbers_at s.classes c) x);
    role = λ r x y. has_pair (numbers_at s.roles r) x y;
    individual = λ i. get_or s.individuals i 0;
  }

  pub same_stated : (x : StateTold) (w v : List ℕ) (r : Result ℕ BadLine) → StatedAs (known_of m) m x w v r → StatedAs d m x w v r
  same_stated (stated s) w v (Ok n) h = (h.0, subst (λ (I : Interpretation). Laid I m.roles w v) (ap₂ (meant s) (sym D.classes) (sym D.individuals)) h.1)
  same_stated (stated s) w v (Err l) h = h
  same_stated (bad l) w v (Ok n) h = h
  same_stated (bad l) w v (Err k) h = h
  same_stated unread w v r h = h
