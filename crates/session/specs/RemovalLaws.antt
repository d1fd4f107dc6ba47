-- Where a line of the live deck ends, by the text alone; the line cut out of it; a strike by what was read. Assumes nothing.
use Rattle.std.specs.Prelude.{◌≡◌, refl, Bool, true, false, ◌&&◌, List, [], ◌∷◌, ◌++◌, ℕ, zero, suc, ◌+◌, ◌*◌, ◌-◌, ◌≤◌, ◌<◌, eqb, leb, ltb, length, get_or, take, drop, replicate}
use Rattle.std.proofs.Common.{sym, ap, ap₂, ◌∙◌, subst, true≢false, append_assoc, arith, eqb-true, eq-eqb, le-leb, le-ltb, lt-ltb, length-append, length-drop, length-take-le, take_at, drop_at}
use Rattle.std.proofs.lemmas.Bool.{lt-leb}
use Rattle.std.proofs.lemmas.List.{get_or-drop, length-replicate, take-append-le, drop-append-le, replicate-append-replicate}
use Rattle.std.proofs.Math.Seq.{paste, take-append-add, drop-append-add}
use borrow.Rule.Slice.PartMut.{put_mid}
use Rattle.words.specs.Words.{words, bytes}
use Rattle.ir.specs.Pick.{pick}
use Rattle.rules.specs.Invariants.{Each}
use Rattle.rules.specs.Deck.{most_bytes, nothing, axiom_line}
use Rattle.spelling.specs.Rows.{IsLine}
use Rattle.spelling.specs.Lines.{Line, IsRow, text_of, text_append}
use Rattle.spelling.specs.Decks.{deck_short, deck_lines, deck_some}
use Rattle.deck.specs.declared.state.State.{State}
use Rattle.deck.specs.Records.{known_in, axiom_at, axiom_row_in}
use Rattle.deck.specs.TabLaws.{length_tab}
use Rattle.session.specs.Session.{session_bytes, stored, deck_in, without, done, refused, Holding, on_holding, last_line, strike_from, call_strike}
use Rattle.session.specs.Told.{Live}
use Rattle.session.specs.HeldLaws.{stored_long}
use Rattle.session.specs.StrikeLaws.{line_tail, line_end, no_line, without_line}
use Rattle.session.specs.PlaceLaws.{At, each_first, places, opened, lines_some}
use Rattle.session.specs.HeaderLaws.{line_long}

-- the bytes up to the first line feed, it too
unfoldable pub to_feed : List ℕ → ℕ
to_feed [] = 0
to_feed (b ∷ s) = pick (eqb b 10) 1 (suc (to_feed s))

-- of a text that begins with a line, they are the line's
pub feed_line : (l t : List ℕ) → IsLine l → to_feed (l ++ t) ≡ length l
unfolding to_feed
feed_line [] t h = no_line h
feed_line (b ∷ l) t h = by (eqb b 10) refl (feed_line l t)
  where
    by : (x : Bool) → eqb b 10 ≡ x → (IsLine l → to_feed (l ++ t) ≡ length l) → pick x 1 (suc (to_feed (l ++ t))) ≡ suc (length l)
    by true q more = ap (λ (z : List ℕ). suc (length z)) (line_end b l q h)
    by false q more = ap suc (more (line_tail b l q h))

-- a line feed among them is the last
pub feed_first : (s : List ℕ) (i : ℕ) → i < to_feed s → get_or s i 0 ≡ 10 → i + 1 ≡ to_feed s
unfolding to_feed
feed_first [] i h e = absurd (omega arith)
feed_first (b ∷ s) zero h e = rw (eq-eqb b 10 e) refl
feed_first (b ∷ s) (suc i) h e = by (eqb b 10) h (λ k. feed_first s i k e)
  where
    by : (x : Bool) → suc i < pick x 1 (suc (to_feed s)) → (i < to_feed s → i + 1 ≡ to_feed s) → suc i + 1 ≡ pick x 1 (suc (to_feed s))
    by true h more = absurd (omega arith)
    by false h more = omega (arith, more (omega arith))

-- the last byte of a line is a line feed
pub feed_last : (l t : List ℕ) (i : ℕ) → IsLine l → i + 1 ≡ length l → get_or (l ++ t) i 0 ≡ 10
feed_last [] t i h e = no_line h
feed_last (b ∷ l) t zero h e = by (eqb b 10) refl
  where
    by : (x : Bool) → eqb b 10 ≡ x → b ≡ 10
    by true q = eqb-true b 10 q
    by false q = let k : IsLine l = line_tail b l q h in none l k (omega arith)
      where
        none : (l : List ℕ) → IsLine l → length l ≡ 0 → b ≡ 10
        none [] k e = no_line k
        none (c ∷ l) k e = absurd (omega arith)
feed_last (b ∷ l) t (suc i) h e = by (eqb b 10) refl (λ k. feed_last l t i k (omega arith))
  where
    by : (x : Bool) → eqb b 10 ≡ x → (IsLine l → get_or (l ++ t) i 0 ≡ 10) → get_or (l ++ t) i 0 ≡ 10
    by true q more = absurd (omega (arith, ap (λ (z : List ℕ). length z) (line_end b l q h)))
    by false q more = more (line_tail b l q h)

-- ---- a text of lines
pub text_drop : (l : List Line) (x : Line) (m : List Line) → drop (length (text_of l)) (text_of (l ++ (x ∷ m))) ≡ x.text ++ text_of m
unfolding text_of
text_drop l x m = ap (λ (z : List ℕ). drop (length (text_of l)) z) (text_append l (x ∷ m)) ∙ drop_at (text_of l) (x.text ++ text_of m) (length (text_of l)) refl

-- ---- a line stands at this place of the text: so many fields, then a line feed
pub record Standing (s : List ℕ) (at : ℕ) : Type 0 where
  pub fields : ℕ
  pub long : to_feed (drop at s) ≡ 11 * fields + 1
  pub room : at + to_feed (drop at s) ≤ length s
  pub feed : get_or s (at + 11 * fields) 0 ≡ 10

pub row_there : (l : List Line) (x : Line) (m : List Line) → Each IsRow (l ++ (x ∷ m)) → IsRow x
row_there [] x m R = R.0
row_there (y ∷ l) x m R = row_there l x m R.1

pub end_there : (s : List ℕ) (at : ℕ) (l : List Line) (x : Line) (m : List Line) → Each IsRow (l ++ (x ∷ m)) → s ≡ text_of (l ++ (x ∷ m)) → at ≡ length (text_of l) → to_feed (drop at s) ≡ length x.text
end_there s at l x m R t a = ap (λ (z : List ℕ). to_feed (drop at z)) t ∙ ap (λ (n : ℕ). to_feed (drop n (text_of (l ++ (x ∷ m))))) a ∙ ap to_feed (text_drop l x m) ∙ feed_line x.text (text_of m) (row_there l x m R).is_line

pub standing : (s : List ℕ) (at : ℕ) (l : List Line) (x : Line) (m : List Line) → Each IsRow (l ++ (x ∷ m)) → s ≡ text_of (l ++ (x ∷ m)) → at ≡ length (text_of l) → Standing s at
unfolding text_of
standing s at l x m R t a =
    let X = row_there l x m R in
    let n = length x.numbers in
    let long : length x.text ≡ 11 * n + 1 = line_long x X in
    let d : drop at s ≡ x.text ++ text_of m = ap (λ (z : List ℕ). drop at z) t ∙ ap (λ (k : ℕ). drop k (text_of (l ++ (x ∷ m)))) a ∙ text_drop l x m in
    let f = end_there s at l x m R t a in
    record {
      fields = n;
      long = f ∙ long;
      room = omega (arith, f, a, ap (λ (z : List ℕ). length z) (t ∙ text_append l (x ∷ m)), length-append (text_of l) (x.text ++ text_of m), length-append x.text (text_of m));
      feed = sym (get_or-drop at s (11 * n) 0) ∙ ap (λ (z : List ℕ). get_or z (11 * n) 0) d ∙ feed_last x.text (text_of m) (11 * n) X.is_line (sym long);
    }

-- a line feed behind whole fields, not behind the line's end, is the last byte
pub at_feed : (s : List ℕ) (at i : ℕ) → i < to_feed (drop at s) → get_or s (at + i) 0 ≡ 10 → i + 1 ≡ to_feed (drop at s)
at_feed s at i h e = feed_first (drop at s) i h (get_or-drop at s i 0 ∙ e)

-- another byte there is no line's last, so a field stands there
pub at_field : (s : List ℕ) (at j : ℕ) → Standing s at → 11 * j < to_feed (drop at s) → (get_or s (at + 11 * j) 0 ≡ 10 → ⊥) → 11 * (j + 1) < to_feed (drop at s)
at_field s at j S h e =
    let ne : j ≡ S.fields → ⊥ = λ q. e (ap (λ (k : ℕ). get_or s (at + 11 * k) 0) q ∙ S.feed) in
    omega (arith, S.long, ne)

-- ---- a stored deck, and a part of it cut out
pub stored_size : (s d : List ℕ) → length s ≡ session_bytes → s ≡ stored d → length d ≤ most_bytes
unfolding stored bytes
stored_size s d h e = omega (arith, ap (λ (z : List ℕ). length z) e, length-append d (replicate (most_bytes - length d) 0), length-replicate {0} {A = ℕ} (most_bytes - length d) 0)

-- what is left
abbrev left : (from to : ℕ) → List ℕ → List ℕ
left from to d = take from d ++ drop to d

module _ (h d z : List ℕ) (from to : ℕ) (a : from ≤ to) (b : to ≤ length d) where
  left_long : length (left from to d) ≡ length d - (to - from)
  left_long = omega (arith, length-append (take from d) (drop to d), length-take-le from d (omega arith), length-drop to d)

  -- after the bytes behind are moved to the front
  moved : (m : ℕ) → m ≡ length d - to → paste (h ++ (d ++ z)) (length h + from) (drop (length h + to) (h ++ (d ++ z))) m ≡ (h ++ left from to d) ++ (drop (length d - (to - from)) d ++ z)
  moved m e =
      let e1 : length d - (to - from) ≤ length d = omega arith in
      let front : take (length h + from) (h ++ (d ++ z)) ≡ h ++ take from d = take-append-add h (d ++ z) from ∙ ap (λ (y : List ℕ). h ++ y) (take-append-le from d z (omega arith)) in
      let run : take m (drop (length h + to) (h ++ (d ++ z))) ≡ drop to d =
      ap (λ (y : List ℕ). take m y) (drop-append-add h (d ++ z) to ∙ drop-append-le to d z b) ∙ take_at (drop to d) z m (omega (arith, length-drop to d)) in
      let place : length h + from + m ≡ length h + (length d - (to - from)) = omega arith in
      let back : drop (length h + from + m) (h ++ (d ++ z)) ≡ drop (length d - (to - from)) d ++ z =
      ap (λ (i : ℕ). drop i (h ++ (d ++ z))) place ∙ drop-append-add h (d ++ z) (length d - (to - from)) ∙ drop-append-le (length d - (to - from)) d z e1 in
      ap₂ (λ (x y : List ℕ). x ++ y) (ap₂ (λ (x y : List ℕ). x ++ y) front run ∙ append_assoc h (take from d) (drop to d)) back

  -- after zeros are put behind them
  filled : (s : List ℕ) (m k : ℕ) (ys : List ℕ) → s ≡ (h ++ left from to d) ++ (drop (length d - (to - from)) d ++ z) → m ≡ length h + (length d - (to - from)) → k ≡ to - from → put_mid m k s ys ≡ h ++ (left from to d ++ (ys ++ z))
  filled s m k ys e p q =
      let l : length (h ++ left from to d) ≡ m = omega (arith, length-append h (left from to d), left_long) in
      let front : take m s ≡ h ++ left from to d = ap (λ (y : List ℕ). take m y) e ∙ take_at (h ++ left from to d) (drop (length d - (to - from)) d ++ z) m l in
      let back : drop k (drop m s) ≡ z =
      ap (λ (y : List ℕ). drop k (drop m y)) e ∙ ap (λ (y : List ℕ). drop k y) (drop_at (h ++ left from to d) (drop (length d - (to - from)) d ++ z) m l) ∙ drop_at (drop (length d - (to - from)) d) z k (omega (arith, length-drop (length d - (to - from)) d)) in
      ap₂ (λ (x y : List ℕ). x ++ (ys ++ y)) front back ∙ append_assoc h (left from to d) (ys ++ z)

pub cut_is : (s d s1 s2 ys : List ℕ) (n from to e m k : ℕ) → s ≡ stored d → length d ≤ most_bytes → n ≡ length d → from ≤ to → to ≤ length d → e ≡ n - (to - from)
    → s1 ≡ paste s (4 + from) (drop (4 + to) s) m → m ≡ n - to → s2 ≡ put_mid (4 + e) k s1 ys → k ≡ to - from → ys ≡ replicate k 0
    → bytes (e ∷ []) ++ drop 4 s2 ≡ stored (take from d ++ drop to d)
unfolding stored bytes
cut_is s d s1 s2 ys n from to e m k st small ne a b ee q1 me q2 ke yz =
    let h : List ℕ = bytes (length d ∷ []) in
    let z : List ℕ = replicate (most_bytes - length d) 0 in
    let x : List ℕ = take from d ++ drop to d in
    let l : length x ≡ e = omega (arith, left_long h d z from to a b) in
    let one : s1 ≡ (h ++ x) ++ (drop (length d - (to - from)) d ++ z) = q1 ∙ ap (λ (y : List ℕ). paste y (4 + from) (drop (4 + to) y) m) st ∙ moved h d z from to a b m (omega arith) in
    let two : s2 ≡ h ++ (x ++ (ys ++ z)) = q2 ∙ filled h d z from to a b s1 (4 + e) k ys one (omega arith) ke in
    let c : k + (most_bytes - length d) ≡ most_bytes - length x = omega arith in
    let zs : ys ++ z ≡ replicate (most_bytes - length x) 0 = ap (λ (y : List ℕ). y ++ z) yz ∙ replicate-append-replicate k (most_bytes - length d) 0 ∙ ap (λ (i : ℕ). replicate i 0) c in
    ap₂ (λ (i : ℕ) (y : List ℕ). bytes (i ∷ []) ++ y) (sym l) (ap (λ (y : List ℕ). drop 4 y) two ∙ ap (λ (y : List ℕ). x ++ y) zs)

-- ---- where line i begins
pub lines_before : (l : List Line) (i : ℕ) (A : At l i) → take i l ≡ A.first
lines_before l i A = ap (λ (z : List Line). take i z) A.is ∙ take_at A.first (A.it ∷ A.later) i A.place

pub next_place : (l : List Line) (i : ℕ) (A : At l i) → length (text_of (take i l)) + length A.it.text ≡ length (text_of (take (i + 1) l))
unfolding text_of
next_place l i A =
    let e : (A.first ++ (A.it ∷ [])) ++ A.later ≡ l = append_assoc A.first (A.it ∷ []) A.later ∙ sym A.is in
    let n : length (A.first ++ (A.it ∷ [])) ≡ i + 1 = omega (arith, length-append A.first (A.it ∷ []), A.place) in
    let t : take (i + 1) l ≡ A.first ++ (A.it ∷ []) = ap (λ (z : List Line). take (i + 1) z) (sym e) ∙ take_at (A.first ++ (A.it ∷ [])) A.later (i + 1) n in
    let w = ap (λ (z : List Line). length (text_of z)) t in
    omega (arith, w, ap (λ (z : List Line). length (text_of z)) (lines_before l i A), ap (λ (z : List ℕ). length z) (text_append A.first (A.it ∷ [])), length-append (text_of A.first) (A.it.text ++ []), length-append A.it.text [])

-- ---- a line cut out
pub line_cut : (deck : List ℕ) (l : List Line) (k from to : ℕ) (A : At l k) → Each IsRow l → deck ≡ text_of l → from ≡ length (text_of (take k l)) → to ≡ from + length A.it.text
    → (from ≤ to) × (to ≤ length deck) × (take from deck ++ drop to deck ≡ without k deck)
unfolding text_of
line_cut deck l k from to A R t f e =
    let a : List ℕ = text_of A.first in
    let x : List ℕ = A.it.text in
    let b : List ℕ = text_of A.later in
    let S : Each IsRow (A.first ++ (A.it ∷ A.later)) = subst (λ (z : List Line). Each IsRow z) A.is R in
    let d : deck ≡ a ++ (x ++ b) = t ∙ ap text_of A.is ∙ text_append A.first (A.it ∷ A.later) in
    let fa : length a ≡ from = sym (f ∙ ap (λ (z : List Line). length (text_of z)) (lines_before l k A)) in
    let n : length (a ++ x) ≡ to = omega (arith, length-append a x) in
    let front : take from deck ≡ a = ap (λ (z : List ℕ). take from z) d ∙ take_at a (x ++ b) from fa in
    let back : drop to deck ≡ b = ap (λ (z : List ℕ). drop to z) (d ∙ sym (append_assoc a x b)) ∙ drop_at (a ++ x) b to n in
    let w : without k deck ≡ a ++ b = ap₂ {C = List ℕ} without (sym A.place) (t ∙ ap text_of A.is) ∙ without_line A.first A.it A.later (each_first IsRow A.first (A.it ∷ A.later) S) (row_there A.first A.it A.later S) ∙ text_append A.first A.later in
    (omega arith, omega (arith, ap (λ (z : List ℕ). length z) d, length-append a (x ++ b), length-append x b), ap₂ (λ (y z : List ℕ). y ++ z) front back ∙ sym w)

-- ---- a strike, by the state that was read
module _ (s t : List ℕ) (n : ℕ) (k : State) (line : ℕ) (L : Live s t n k) where
  axioms_count : length (known_in (deck_in s) t k).axioms ≡ k.axioms
  axioms_count = length_tab (λ i. axiom_at (axiom_row_in (deck_in s) (words t) i)) k.axioms

  called : call_strike s line n ≡ strike_from (deck_in s) (known_in (deck_in s) t k) line
  called = ap (λ (h : Holding). on_holding h (λ deck d. strike_from deck d line)) L.is

  -- no axiom stands there
  pub strike_low : line < axiom_line (known_in (deck_in s) t k) 0 → call_strike s line n ≡ refused 15 0
  unfolding strike_from
  strike_low h = called ∙ rw (lt-leb (axiom_line (known_in (deck_in s) t k) 0) line h) refl

  pub strike_high : axiom_line (known_in (deck_in s) t k) k.axioms ≤ line → call_strike s line n ≡ refused 15 0
  unfolding strike_from
  strike_high h =
      let d = known_in (deck_in s) t k in
      let e : ltb line (last_line d) ≡ false = le-ltb line (last_line d) (omega (arith, axioms_count)) in
      called ∙ by (leb (axiom_line d 0) line) (ltb line (last_line d)) e
    where
      by : (a b : Bool) → b ≡ false → pick (a && b) (done (without (line - 1) (deck_in s))) (refused 15 0) ≡ refused 15 0
      by a true e = absurd (true≢false e)
      by true false e = refl
      by false false e = refl

  pub strike_done : axiom_line (known_in (deck_in s) t k) 0 ≤ line → line < axiom_line (known_in (deck_in s) t k) k.axioms → call_strike s line n ≡ done (without (line - 1) (deck_in s))
  unfolding strike_from
  strike_done a b =
      let d = known_in (deck_in s) t k in
      let p : leb (axiom_line d 0) line ≡ true = le-leb (axiom_line d 0) line a in
      let q : ltb line (last_line d) ≡ true = lt-ltb line (last_line d) (omega (arith, axioms_count)) in
      called ∙ rw (p, q) refl

  -- the line that an axiom stands on is one of the deck's
  pub struck_there : line < axiom_line (known_in (deck_in s) t k) k.axioms → (l : List Line) × Each IsRow l × (deck_in s ≡ text_of l) × (line - 1 < length l)
  struck_there b =
      let deck = deck_in s in
      let d = known_in deck t k in
      let H = deck_lines deck d L.read in
      let P = places H.lines nothing 1 d H.check in
      let o = opened H.lines nothing 1 d H.check (lines_some H.lines (omega (arith, ap (λ (z : List ℕ). length z) H.is, deck_some deck d L.read))) in
      (H.lines, H.rows, H.is, omega (arith, axioms_count, P.front, P.count, o, ap (λ (z : List Line). length z) P.is, length-append P.before P.axiom_lines))

  pub live_size : length s ≡ session_bytes
  live_size = ap (λ (z : List ℕ). length z) L.form ∙ stored_long (deck_in s) (deck_short (deck_in s) (known_in (deck_in s) t k) L.read)
