-- The loop over a state's lines: what is drawn so far, and what is left to read. Assumes nothing.
use mathlib.Core.Path.{◌≡◌, refl, sym, ap, ap₂, subst, ◌∙◌}
use mathlib.Core.Bool.{true, false}
use mathlib.Core.List.{List, [], ◌∷◌}
use Prim.Native.Nat.{ℕ, zero, suc, ◌+◌, ◌*◌, ◌-◌, ◌<◌, ◌≤◌}
use native.Mathlib.Omega.{arith}
use borrow.Author.Tests.{eqb-true, leb-true, ltb-true}
use lib.Dec.{eqb, ltb, leb}
use lib.ListN.{length, get_or, drop, length-drop, drop_of_length-le}
use Rattle.ir.specs.Roles.{role_of}
use Rattle.ir.specs.declared.role.Role.{Role}
use Rattle.ir.specs.declared.role.Role.TheVariants.{Named, Inverse}
use Rattle.rules.specs.Base.{contains}
use Rattle.rules.specs.Text.{row_of}
use Rattle.rules.specs.Deck.{Known}
use Rattle.rules.specs.Semantics.{pairs_of}
use Rattle.words.specs.Words.{words}
use Rattle.meaning.specs.Truth.{by_truth, and_left, and_right}
use Rattle.states.specs.State.{State, state, Seen, seen, StateTold, bad, numbers_at, has_pair, is_individual_class, interpretation_of, line_ok, on_line, on_state_row, ended, state_by}
use Rattle.states.specs.LineLaws.{start_few}
use Rattle.states.specs.Masks.{mask_of}
use Rattle.states.specs.MaskLaws.{mask_same, mask_empty}
use Rattle.sets.specs.Kept.{set_at}
use Rattle.sets.specs.KeptLaws.{set_same}
use Rattle.sets.specs.Places.{line_at, rows_at}
use Rattle.sets.specs.Laid.{Laid, KeptTo}
use Rattle.layouts.specs.declared.limits.Limits.{Limits}
use Rattle.std.specs.Prelude.{Err}
use Rattle.layouts.specs.declared.enter.At.{At}
use Rattle.layouts.specs.Read.{known_of, StatedAs, ended_as}
use Rattle.layouts.specs.Lines.{line_in, before, rows_word, KeptFrom, GoodLine}
use Rattle.layouts.specs.Drawn.{Drawn, Blank, IsLine, entered_line}
use Rattle.layouts.proofs.Drawing.{at}
use Rattle.layouts.proofs.Reading.{line_same, BadLine}

-- ---- the whole state
pub laid_out : (d : Known) (s : State) (a : At) (size : ℕ) (w v : List ℕ) → Drawn d s a size w v → 0 < size → size ≤ 64 → length s.individuals ≡ d.header.individuals → Laid (interpretation_of d s) d.header.roles w v
laid_out d s a size w v D some few all = record {
  some = omega (arith, D.size_is, some);
  few = omega (arith, D.size_is, few);
  classes = λ c h. one c h ∙ ap (λ (n : ℕ). mask_of n ((interpretation_of d s).class c)) (sym D.size_is);
  rows = λ code x h q. D.rows code x h (omega (arith, q, D.size_is)) ∙ ap (λ (n : ℕ). mask_of n (pairs_of (λ r x y. has_pair (numbers_at s.roles r) x y) (role_of code) x)) (sym D.size_is);
}
  where
    one : (c : ℕ) → 2 * c + 2 ≤ length w → set_at w c ≡ mask_of size ((interpretation_of d s).class c)
    one c h = by_truth (is_individual_class d c)
        (λ e.
        let a = leb-true d.header.classes c (and_left (leb d.header.classes c) (ltb c (d.header.classes + d.header.individuals)) e) in
        let b = ltb-true c (d.header.classes + d.header.individuals) (and_right (leb d.header.classes c) (ltb c (d.header.classes + d.header.individuals)) e) in
        let q : d.header.classes + (c - d.header.classes) ≡ c = omega arith in
        ap (set_at w) (sym q) ∙ D.singles (c - d.header.classes) (omega (arith, a, b, all))
        ∙ mask_same size (λ x. eqb x (get_or s.individuals (c - d.header.classes) 0)) ((interpretation_of d s).class c) (λ x _. rw e refl))
        (λ e. D.classes c h e ∙ mask_same size (contains (numbers_at s.classes c)) ((interpretation_of d s).class c) (λ x _. rw e refl))

-- rows that are as they were
pub drawn_kept : (d : Known) (s : State) (a : At) (size : ℕ) (w v v' : List ℕ) → KeptFrom rows_word v v' → Drawn d s a size w v → Drawn d s a size w v'
drawn_kept d s a size w v v' k D = record {
  size_is = D.size_is;
  singles_are = D.singles_are;
  ahead = D.ahead;
  classes = D.classes;
  singles = D.singles;
  rows = λ code x h q. set_same v v' (rows_at + 64 * code + x) (k (2 * (rows_at + 64 * code + x)) (omega arith)) (k (2 * (rows_at + 64 * code + x) + 1) (omega arith)) ∙ D.rows code x h q;
}

-- ---- one line of the definition
line_step : (d : Known) (fresh f line : ℕ) (w : Seen) (l : List ℕ) → 0 < length l → state_by (suc f) d fresh line w l ≡ on_state_row d fresh (λ v rest. state_by f d fresh (line + 1) v rest) line w (row_of l)
unfolding state_by
line_step d fresh f line w [] h = absurd (omega arith)
line_step d fresh f line w (b ∷ l) h = refl

empty : (d : Known) (fresh f line : ℕ) (w : Seen) → state_by (suc f) d fresh line w [] ≡ ended d w.so_far
unfolding state_by
empty d fresh f line w = refl

-- ---- the loop
module _ (text store₀ scratch₀ : List ℕ) (m : Limits) (size from : ℕ) where
  abbrev whole : StateTold
  whole = state_by (suc (length (drop from text))) (known_of m) m.fresh 2 (before 50 0 size) (drop from text)

  pub record Going (store scratch : List ℕ) (a : At) (p line : ℕ) : Type 0 where
    pub so_far : State
    pub fuel : ℕ
    pub drawn : Drawn (known_of m) so_far a size (words store) (words scratch)
    pub within : p ≤ length text
    pub enough : length text - p < fuel
    pub lines : line ≤ p + 2
    pub rest : state_by fuel (known_of m) m.fresh line (seen a.kind a.id so_far) (drop p text) ≡ whole
    pub kept : KeptTo line_at (words scratch₀) (words scratch)
    pub store_long : length store ≡ length store₀
    pub scratch_long : length scratch ≡ length scratch₀

  pub going_first : Blank m size text store₀ scratch₀ from → Going store₀ scratch₀ (at 50 0 0) from 2
  unfolding numbers_at has_pair
  going_first B = record {
    so_far = state size [] [] [];
    fuel = suc (length (drop from text));
    drawn = record {
      size_is = refl;
      singles_are = refl;
      ahead = record { classes = λ i _. tt; roles = λ i _. tt; singles = λ i _. omega arith };
      classes = λ c _ _. B.classes c ∙ sym (mask_empty size);
      singles = λ j h. absurd (omega arith);
      rows = λ code x h q. B.rows code x h (omega (arith, q, B.few)) ∙ sym (mask_empty size) ∙ mask_same size (λ _. false) (pairs_of (λ r x y. has_pair (numbers_at [] r) x y) (role_of code) x) (λ z _. none (role_of code) x z);
    };
    within = B.within;
    enough = let n = length-drop from text in omega (arith, n);
    lines = omega arith;
    rest = refl;
    kept = λ i _. refl;
    store_long = refl;
    scratch_long = refl;
  }
    where
      none : (r : Role) (x z : ℕ) → false ≡ pairs_of (λ r x y. has_pair (numbers_at [] r) x y) r x z
      none (Named r) x z = refl
      none (Inverse r) x z = refl

  module _ (store scratch : List ℕ) (a : At) (p line : ℕ) (G : Going store scratch a p line) where
    pub going_bad : p < length text → BadLine m a.kind a.id size text p → whole ≡ bad line
    going_bad h b = go G.fuel G.enough G.rest
      where
        go : (f : ℕ) → length text - p < f → state_by f (known_of m) m.fresh line (seen a.kind a.id G.so_far) (drop p text) ≡ whole → whole ≡ bad line
        go zero q e = absurd (omega arith)
        go (suc f) q e =
            let n = length-drop p text in
            sym e ∙ line_step (known_of m) m.fresh f line (seen a.kind a.id G.so_far) (drop p text) (omega (arith, n, h)) ∙ b (λ v rest. state_by f (known_of m) m.fresh (line + 1) v rest) line G.so_far G.drawn.size_is

    pub going_few : p < length text → BadLine m a.kind a.id size text p → line < 4294967296
    going_few h b =
        let q = start_few (known_of m) m.fresh (suc (length (drop from text))) (state size [] [] []) (drop from text) line (going_bad h b) in
        omega (arith, q, m.few_classes, m.few_individuals, m.few_roles, m.few_fresh)

    pub going_told : (w v : List ℕ) (n : ℕ) → n ≡ line → p < length text → BadLine m a.kind a.id size text p → StatedAs (known_of m) m whole w v (Err record { line = n })
    going_told w v n e h b = subst (λ (x : StateTold). StatedAs (known_of m) m x w v (Err record { line = n })) (sym (going_bad h b)) e

    module _ (w₁ : List ℕ) (n q : ℕ) (L : GoodLine m a.kind a.id size text p (words scratch) w₁ n q) where
      pub going_drawn : Drawn (known_of m) G.so_far a size (words store) w₁
      going_drawn = drawn_kept (known_of m) G.so_far a size (words store) (words scratch) w₁ L.rows G.drawn

      pub going_on : (store' scratch' : List ℕ) (a' : At) → p < length text → IsLine a' (line_in w₁ n) → ((s : State) → Drawn (known_of m) s a size (words store) w₁ → Drawn (known_of m) (entered_line s (line_in w₁ n)) a' size (words store') (words scratch'))
          → KeptTo line_at (words scratch) w₁ → KeptTo rows_word w₁ (words scratch') → length store' ≡ length store → length scratch' ≡ length scratch → Going store' scratch' a' q (line + 1)
      going_on store' scratch' a' h is draw k₁ k₂ l₁ l₂ = go G.fuel G.enough G.rest
        where
          r : List ℕ
          r = line_in w₁ n

          s' : State
          s' = entered_line G.so_far r

          fine : line_ok (known_of m) m.fresh (seen a.kind a.id G.so_far) r ≡ true
          fine = line_same (known_of m) m.fresh a.kind a.id size G.so_far r G.drawn.size_is ∙ L.fine

          step : (f : ℕ) → state_by (suc f) (known_of m) m.fresh line (seen a.kind a.id G.so_far) (drop p text) ≡ state_by f (known_of m) m.fresh (line + 1) (seen a'.kind a'.id s') (drop q text)
          step f =
              let n = length-drop p text in
              line_step (known_of m) m.fresh f line (seen a.kind a.id G.so_far) (drop p text) (omega (arith, n, h))
              ∙ ap (on_state_row (known_of m) m.fresh (λ v rest. state_by f (known_of m) m.fresh (line + 1) v rest) line (seen a.kind a.id G.so_far)) L.read
              ∙ ap (on_line (λ v. state_by f (known_of m) m.fresh (line + 1) v (drop q text)) line (seen (get_or r 0 0) (get_or r 1 0) s')) fine
              ∙ ap₂ (λ (x y : ℕ). state_by f (known_of m) m.fresh (line + 1) (seen x y s') (drop q text)) (sym is.0) (sym is.1)

          go : (f : ℕ) → length text - p < f → state_by f (known_of m) m.fresh line (seen a.kind a.id G.so_far) (drop p text) ≡ whole → Going store' scratch' a' q (line + 1)
          go zero u e = absurd (omega arith)
          go (suc f) u e = record {
            so_far = s';
            fuel = f;
            drawn = draw G.so_far going_drawn;
            within = L.within;
            enough = omega (arith, u, L.onward, h);
            lines = omega (arith, G.lines, L.onward);
            rest = sym (step f) ∙ e;
            kept = λ i y. k₂ i (omega arith) ∙ k₁ i y ∙ G.kept i y;
            store_long = l₁ ∙ G.store_long;
            scratch_long = l₂ ∙ G.scratch_long;
          }

    pub going_end : 0 < size → size ≤ 64 → length text ≤ p → StatedAs (known_of m) m whole (words store) (words scratch) (ended_as size a.singles m.individuals)
    going_end some few h = go G.fuel G.enough G.rest
      where
        s : State
        s = G.so_far

        last : (f : ℕ) → state_by (suc f) (known_of m) m.fresh line (seen a.kind a.id s) (drop p text) ≡ ended (known_of m) s
        last f = ap (state_by (suc f) (known_of m) m.fresh line (seen a.kind a.id s)) (drop_of_length-le text {i = p} h) ∙ empty (known_of m) m.fresh f line (seen a.kind a.id s)

        told : StatedAs (known_of m) m (ended (known_of m) s) (words store) (words scratch) (ended_as size a.singles m.individuals)
        told = subst (λ (k : ℕ). StatedAs (known_of m) m (ended (known_of m) s) (words store) (words scratch) (ended_as size k m.individuals)) (sym G.drawn.singles_are) (by_truth (eqb (length s.individuals) m.individuals) yes_all no_all)
          where
            yes_all : eqb (length s.individuals) m.individuals ≡ true → StatedAs (known_of m) m (ended (known_of m) s) (words store) (words scratch) (ended_as size (length s.individuals) m.individuals)
            yes_all e = rw e (sym G.drawn.size_is, laid_out (known_of m) s a size (words store) (words scratch) G.drawn some few (eqb-true (length s.individuals) m.individuals e))

            no_all : eqb (length s.individuals) m.individuals ≡ false → StatedAs (known_of m) m (ended (known_of m) s) (words store) (words scratch) (ended_as size (length s.individuals) m.individuals)
            no_all e = rw e refl

        go : (f : ℕ) → length text - p < f → state_by f (known_of m) m.fresh line (seen a.kind a.id s) (drop p text) ≡ whole → StatedAs (known_of m) m whole (words store) (words scratch) (ended_as size a.singles m.individuals)
        go zero q e = absurd (omega arith)
        go (suc f) q e = subst (λ (x : StateTold). StatedAs (known_of m) m x (words store) (words scratch) (ended_as size a.singles m.individuals)) (sym (last f) ∙ e) told
