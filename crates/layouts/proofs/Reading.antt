-- What the row reader tells of a state's line. Assumes nothing.
use denote.Enum.Declared.{tag_of}
use types.Run.{OneOf}
use mathlib.Core.Path.{◌≡◌, refl, sym, ap, subst, ◌∙◌}
use mathlib.Core.Bool.{true, false, ◌&&◌}
use mathlib.Core.List.{List, [], ◌∷◌}
use mathlib.Core.Logic.{⊎_elim}
use Prim.Native.Nat.{ℕ, suc, ◌<◌, ◌≤◌}
use native.Mathlib.Omega.{arith}
use borrow.Author.Tests.{eqb-true, ne_eqb, leb-true, leb-false}
use lib.Dec.{eqb, leb}
use lib.ListN.{length, get_or, drop}
use lib.Seq.{sets}
use Rattle.std.specs.Prelude.{Option, None}
use Rattle.std.specs.Bool.{then_some}
use Rattle.rules.specs.Text.{Row, row, broken_row, row_of}
use Rattle.rules.specs.Deck.{Known}
use Rattle.rules.specs.Run.{scratch_bytes}
use Rattle.words.specs.Words.{words}
use Rattle.words.specs.Laws.{length_words}
use Rattle.words.specs.Runs.{get_d_sets_before}
use Rattle.text.specs.declared.Line.{Line}
use Rattle.text.specs.declared.Line.TheVariants.{Read, Long, Broken}
use Rattle.text.specs.contracts.Line.{the_type}
use Rattle.text.specs.Rows.{row_at, line_said, fields_in, Placed}
use Rattle.text.specs.RowLaws.{length_row, held_row, held_behind}
use Rattle.meaning.specs.Truth.{by_truth, and_left, and_right}
use Rattle.states.specs.State.{State, state, Seen, seen, StateTold, bad, count_ok, most_elements, line_ok, on_line, on_state_row, on_count, state_by, read_state}
use Rattle.sets.specs.Places.{line_at, line_words}
use Rattle.sets.specs.Laid.{KeptTo}
use Rattle.layouts.specs.declared.limits.Limits.{Limits}
use Rattle.layouts.specs.Read.{known_of}
use Rattle.layouts.specs.Lines.{line_in, before, rows_word, KeptFrom, ReadLine, NumbersAs, FirstLine, GoodLine}
use Rattle.layouts.specs.declared.line.Next.{Next}
use Rattle.layouts.proofs.Facts.{line_fine, long_bad}

-- how many numbers a line has; too many where it breaks the layout
abbrev numbers_told : Row → ℕ
numbers_told (row r bytes) = length r
numbers_told broken_row = 40961

-- ---- the words behind the row reader
pub kept_before : (w w' vs : List ℕ) (a : ℕ) → w' ≡ sets w a vs → KeptTo a w w'
kept_before w w' vs a e i h = ap (λ (u : List ℕ). get_or u i 0) e ∙ get_d_sets_before vs w a i 0 h

module _ (text : List ℕ) (p : ℕ) (t : List ℕ) (space : scratch_bytes ≤ length t) (w' : List ℕ) (n q : ℕ) (x : Line) (is : x ≡ Read n q)
    (said : line_said text p x ≡ row_of (drop p text)) (put : w' ≡ sets (words t) line_at (row_at text p (fields_in x))) where
  put_is : w' ≡ sets (words t) line_at (row_at text p n)
  put_is = put ∙ ap (λ (y : Line). sets (words t) line_at (row_at text p (fields_in y))) is

  read_is : row_of (drop p text) ≡ row (row_at text p n) (drop q text)
  read_is = sym said ∙ ap (line_said text p) is

  line_is : n ≤ line_words → line_in w' n ≡ row_at text p n
  line_is h = ap (λ (u : List ℕ). line_in u n) put_is ∙ held_row (words t) text line_at p n (omega (arith, length_words t))

  rows_kept : n ≤ line_words → KeptFrom rows_word (words t) w'
  rows_kept h i g = ap (λ (u : List ℕ). get_or u i 0) put_is ∙ held_behind (words t) text line_at p n i (omega arith)

  pub numbers_read : (room : ℕ) → Placed text p room x → (o : Option Next) → o ≡ then_some (leb n 40960) (record { count = n; behind = q }) → NumbersAs text p (words t) w' o
  numbers_read room P o e = by_truth (leb n 40960)
      (λ c. let h = leb-true n 40960 c in let l = line_is h in rw (e, c) (record {
        few = h;
        count = ap length l ∙ length_row text p n;
        read = read_is ∙ ap (λ (r : List ℕ). row r (drop q text)) (sym l);
        behind = (subst (Placed text p room) is P).1.0;
        within = (subst (Placed text p room) is P).1.1;
        rows = rows_kept h;
      }))
      (λ c. let h = leb-false n 40960 c in rw (e, c) (λ r bytes f. let m = ap numbers_told (sym read_is ∙ f) in omega (arith, h, m, length_row text p n)))

pub numbers_other : (text : List ℕ) (p : ℕ) (v v' : List ℕ) (x : Line) (room : ℕ) → OneOf (1 ∷ 2 ∷ []) (tag_of the_type x) → line_said text p x ≡ row_of (drop p text) → Placed text p room x → 40960 ≤ room → NumbersAs text p v v' None
numbers_other text p v v' (Read n q) room k e P h = absurd (⊎_elim (λ u. omega (arith, u)) (λ u. omega (arith, u)) k)
numbers_other text p v v' (Long n q) room k e P h = λ r bytes f. let m = ap numbers_told (e ∙ f) in omega (arith, P.0, m, length_row text p n)
numbers_other text p v v' (Broken n) room k e P h = λ r bytes f. let m = ap numbers_told (e ∙ f) in omega (arith, m)

-- ---- the first line
module _ (text : List ℕ) where
  not_counted : (r rest : List ℕ) → row_of text ≡ row r rest → count_ok r ≡ false → (d : Known) (fresh : ℕ) → read_state d fresh text ≡ bad 1
  unfolding read_state
  not_counted r rest e f d fresh = ap (on_count d fresh) e ∙ ap (on_line (λ w. state_by (suc (length rest)) d fresh 2 w rest) 1 (seen 50 0 (state (get_or r 1 0) [] [] []))) f

  pub first_bad : (s rest : List ℕ) → row_of text ≡ row s rest → false ≡ count_ok s → (d : Known) (fresh : ℕ) → read_state d fresh text ≡ bad 1
  first_bad s rest e g = not_counted s rest e (sym g)

  pub first_none : (x : Row) → row_of text ≡ x → ((r bytes : List ℕ) → x ≡ row r bytes → line_words < length r) → (d : Known) (fresh : ℕ) → read_state d fresh text ≡ bad 1
  unfolding read_state
  first_none (row r bytes) e N = let h = N r bytes refl in not_counted r bytes e (rw (ne_eqb (length r) 2 (λ q. omega (arith, h, q))) refl)
  first_none broken_row e N = λ d fresh. ap (on_count d fresh) e

  pub first_two : (s : List ℕ) → true ≡ count_ok s → length s ≡ 2
  first_two s g =
      let a = eqb (length s) 2 in
      let b = eqb (get_or s 0 0) 50 in
      eqb-true (length s) 2 (and_left a b (and_left (a && b) (leb 1 (get_or s 1 0)) (and_left (a && b && leb 1 (get_or s 1 0)) (leb (get_or s 1 0) most_elements) (sym g))))

  pub first_read : (s : List ℕ) (size q : ℕ) → row_of text ≡ row s (drop q text) → true ≡ count_ok s → size ≡ get_or s 1 0 → q ≤ length text → FirstLine text size q
  unfolding read_state
  first_read s size q e g z h =
      let a = eqb (length s) 2 in
      let b = eqb (get_or s 0 0) 50 in
      let some = leb-true 1 (get_or s 1 0) (and_right (a && b) (leb 1 (get_or s 1 0)) (and_left (a && b && leb 1 (get_or s 1 0)) (leb (get_or s 1 0) most_elements) (sym g))) in
      let few = leb-true (get_or s 1 0) most_elements (and_right (a && b && leb 1 (get_or s 1 0)) (leb (get_or s 1 0) most_elements) (sym g)) in
      record {
        some = omega (arith, some, z);
        few = omega (arith, few, z);
        within = h;
        read = λ d fresh.
            ap (on_count d fresh) e
            ∙ ap (on_line (λ w. state_by (suc (length (drop q text))) d fresh 2 w (drop q text)) 1 (seen 50 0 (state (get_or s 1 0) [] [] []))) (sym g)
            ∙ ap (λ (n : ℕ). state_by (suc (length (drop q text))) d fresh 2 (before 50 0 n) (drop q text)) (sym z);
      }

-- ---- a line behind it
pub line_same : (d : Known) (fresh kind id size : ℕ) (s : State) (r : List ℕ) → s.size ≡ size → line_ok d fresh (seen kind id s) r ≡ line_ok d fresh (before kind id size) r
line_same d fresh kind id size s r e = ap (λ (n : ℕ). line_ok d fresh (before kind id n) r) e

module _ (m : Limits) (kind id size : ℕ) (text : List ℕ) (p : ℕ) where
  abbrev pub BadLine : Type 0
  BadLine = (rest : Seen → List ℕ → StateTold) (line : ℕ) (s : State) → s.size ≡ size → on_state_row (known_of m) m.fresh rest line (seen kind id s) (row_of (drop p text)) ≡ bad line

  not_fine : (r bytes : List ℕ) → row_of (drop p text) ≡ row r bytes → line_ok (known_of m) m.fresh (before kind id size) r ≡ false → BadLine
  not_fine r bytes e f rest line s z = ap (on_state_row (known_of m) m.fresh rest line (seen kind id s)) e ∙ rw (line_same (known_of m) m.fresh kind id size s r z, f) refl

  pub next_bad : (s bytes : List ℕ) → row_of (drop p text) ≡ row s bytes → false ≡ line_ok (known_of m) m.fresh (before kind id size) s → BadLine
  next_bad s bytes e g = not_fine s bytes e (sym g)

  pub next_none : size ≤ 64 → (x : Row) → row_of (drop p text) ≡ x → ((r bytes : List ℕ) → x ≡ row r bytes → line_words < length r) → BadLine
  next_none s (row r bytes) e N = not_fine r bytes e (long_bad (known_of m) m.fresh kind id size r s (N r bytes refl))
  next_none s broken_row e N = λ rest line t z. ap (on_state_row (known_of m) m.fresh rest line (seen kind id t)) e

  pub next_good : (v v' : List ℕ) (n q : ℕ) → ReadLine text p v v' n q → line_ok (known_of m) m.fresh (before kind id size) (line_in v' n) ≡ true → GoodLine m kind id size text p v v' n q
  next_good v v' n q R f =
      let two = (line_fine (known_of m) m.fresh kind id size (line_in v' n) f).two in
      record {
        some = omega (arith, two, R.count);
        few = R.few;
        read = R.read;
        fine = f;
        onward = omega (arith, two, R.count, R.behind);
        within = R.within;
        rows = R.rows;
      }
