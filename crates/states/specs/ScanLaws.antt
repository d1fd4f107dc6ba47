-- A class's line found in the state's text: what is read so is what the state says. For fresh classes beyond the store's room.
-- Assumes nothing.
use Rattle.std.specs.Prelude.{◌≡◌, refl, Bool, ◌&&◌, ◌||◌, length, get_or, drop}
use Rattle.std.proofs.Common.{sym, ◌∙◌}
use Rattle.std.proofs.Math.Path.{ap}
use Rattle.std.proofs.Math.Bool.{true, false}
use mathlib.Core.List.{List, [], ◌∷◌, ◌++◌}
use Prim.Native.Nat.{ℕ, zero, suc, ◌+◌}
use Rattle.std.proofs.Math.Dec.{eqb}
use Rattle.ir.specs.Pick.{pick}
use Rattle.rules.specs.Text.{Row, row, broken_row, row_of}
use Rattle.rules.specs.Deck.{Known}
use Rattle.meaning.specs.Truth.{by_truth}
use Rattle.states.specs.State.{State, state, Seen, seen, stated, numbers_at, count_ok, line_ok, entered, on_line, on_state_row, state_by, on_count, read_state}
use Rattle.states.specs.ProperLaws.{not_stated, not_read, ended_is}

-- the numbers of class c's line, from these bytes on
abbrev pub on_scan : (List ℕ → List ℕ) → ℕ → Row → List ℕ
on_scan rest c broken_row = []
on_scan rest c (row r bytes) = pick (eqb (get_or r 0 0) 51 && eqb c (get_or r 1 0)) (drop 2 r) (rest bytes)

unfoldable pub scan_by : ℕ → List ℕ → ℕ → List ℕ
scan_by zero bytes c = []
scan_by (suc f) [] c = []
scan_by (suc f) (b ∷ bytes) c = on_scan (λ rest. scan_by f rest c) c (row_of (b ∷ bytes))

abbrev has_line : List (ℕ × List ℕ) → ℕ → Bool
has_line [] c = false
has_line (p ∷ l) c = eqb c p.0 || has_line l c

-- the lines so far, or else x
abbrev or_scan : List (ℕ × List ℕ) → ℕ → List ℕ → List ℕ
or_scan l c x = pick (has_line l c) (numbers_at l c) x

-- one line more
more : (l : List (ℕ × List ℕ)) (c i : ℕ) (k x : List ℕ) → or_scan (l ++ ((i, k) ∷ [])) c x ≡ or_scan l c (pick (eqb c i) k x)
unfolding numbers_at
more [] c i k x = by_truth (eqb c i) (λ e. rw e refl) (λ e. rw e refl)
more (p ∷ l) c i k x = by_truth (eqb c p.0) (λ e. rw e refl) (λ e. rw e (more l c i k x))

line_more : (s : State) (k i : ℕ) (l : List ℕ) (c : ℕ) (x : List ℕ) → or_scan (entered s k i l).classes c x ≡ or_scan s.classes c (pick (eqb k 51 && eqb c i) l x)
line_more s k i l c x = by_truth (eqb k 51) (λ e. rw e (more s.classes c i l x)) (λ e. by_truth (eqb k 52) (λ f. rw (e, f) refl) (λ f. rw (e, f) refl))

last_scan : (l : List (ℕ × List ℕ)) (c : ℕ) → numbers_at l c ≡ or_scan l c []
unfolding numbers_at
last_scan [] c = refl
last_scan (p ∷ l) c = by_truth (eqb c p.0) (λ e. rw e refl) (λ e. rw e (last_scan l c))

module _ (d : Known) (fresh : ℕ) (u : State) (c : ℕ) where
  by_scan : (f line : ℕ) (w : Seen) (bytes : List ℕ) → state_by f d fresh line w bytes ≡ stated u → numbers_at u.classes c ≡ or_scan w.so_far.classes c (scan_by f bytes c)
  unfolding state_by scan_by
  by_scan zero line w bytes h = absurd (not_read u h)
  by_scan (suc f) line w [] h = ap (λ (s : State). numbers_at s.classes c) (sym (ended_is d w.so_far u h).0) ∙ last_scan w.so_far.classes c
  by_scan (suc f) line w (b ∷ bytes) h = rows (λ v rest q. by_scan f (line + 1) v rest q) (row_of (b ∷ bytes)) h
    where
      rows : ((v : Seen) (rest : List ℕ) → state_by f d fresh (line + 1) v rest ≡ stated u → numbers_at u.classes c ≡ or_scan v.so_far.classes c (scan_by f rest c)) → (x : Row)
          → on_state_row d fresh (λ v rest. state_by f d fresh (line + 1) v rest) line w x ≡ stated u → numbers_at u.classes c ≡ or_scan w.so_far.classes c (on_scan (λ rest. scan_by f rest c) c x)
      rows g broken_row q = absurd (not_stated line u q)
      rows g (row r rest) q = go (line_ok d fresh w r) q
        where
          go : (ok : Bool) → on_line (λ v. state_by f d fresh (line + 1) v rest) line (seen (get_or r 0 0) (get_or r 1 0) (entered w.so_far (get_or r 0 0) (get_or r 1 0) (drop 2 r))) ok ≡ stated u
              → numbers_at u.classes c ≡ or_scan w.so_far.classes c (pick (eqb (get_or r 0 0) 51 && eqb c (get_or r 1 0)) (drop 2 r) (scan_by f rest c))
          go true p = g (seen (get_or r 0 0) (get_or r 1 0) (entered w.so_far (get_or r 0 0) (get_or r 1 0) (drop 2 r))) rest p ∙ line_more w.so_far (get_or r 0 0) (get_or r 1 0) (drop 2 r) c (scan_by f rest c)
          go false p = absurd (not_stated line u p)

-- from the first line's end on
pub scan_read : (d : Known) (fresh : ℕ) (u : State) (c : ℕ) (bytes r rest : List ℕ) → read_state d fresh bytes ≡ stated u → row_of bytes ≡ row r rest → numbers_at u.classes c ≡ scan_by (suc (length rest)) rest c
unfolding read_state
scan_read d fresh u c bytes r rest h e = go (count_ok r) (ap (on_count d fresh) (sym e) ∙ h)
  where
    go : (ok : Bool) → on_line (λ w. state_by (suc (length rest)) d fresh 2 w rest) 1 (seen 50 0 (state (get_or r 1 0) [] [] [])) ok ≡ stated u → numbers_at u.classes c ≡ scan_by (suc (length rest)) rest c
    go true q = by_scan d fresh u c (suc (length rest)) 2 (seen 50 0 (state (get_or r 1 0) [] [] [])) rest q
    go false q = absurd (not_stated 1 u q)

-- ---- in the whole text, whose first line names no class
abbrev pub scanned_row : ℕ → Row → List ℕ
scanned_row c broken_row = []
scanned_row c (row r rest) = scan_by (suc (length rest)) rest c

abbrev pub scanned : List ℕ → ℕ → List ℕ
scanned bytes c = scanned_row c (row_of bytes)

pub scanned_read : (d : Known) (fresh : ℕ) (u : State) (c : ℕ) (bytes : List ℕ) → read_state d fresh bytes ≡ stated u → numbers_at u.classes c ≡ scanned bytes c
unfolding read_state
scanned_read d fresh u c bytes h = go (row_of bytes) refl
  where
    go : (x : Row) → row_of bytes ≡ x → numbers_at u.classes c ≡ scanned_row c x
    go broken_row e = absurd (not_stated 1 u (ap (on_count d fresh) (sym e) ∙ h))
    go (row r rest) e = scan_read d fresh u c bytes r rest h e
