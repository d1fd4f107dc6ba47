-- The reading of a state never runs out of its bound, and a bad line's number is small, however long the text. Assumes nothing.
use Rattle.std.specs.Prelude.{◌≡◌, Bool, false, ◌&&◌, ◌||◌, ◌⊎◌, get_or, drop, eqb, ltb, leb}
use Rattle.std.proofs.Math.Path.{refl}
use Rattle.std.proofs.Common.{sym, ap, inl, inr, not-suc-le-zero, arith, ltb-true, leb-true, eqb-true, eq-eqb, ne_eqb}
use Rattle.std.proofs.Math.Bool.{true}
use Rattle.std.proofs.lemmas.Bool.{false≢true, eqb-false, or_cases}
use mathlib.Core.List.{List, [], ◌∷◌}
use Prim.Native.Nat.{ℕ, zero, suc, ◌+◌, ◌<◌, ◌≤◌}
use Rattle.std.proofs.Math.ListN.{length}
use Rattle.ir.specs.Pick.{pick}
use Rattle.rules.specs.Text.{Row, row, broken_row, row_of}
use Rattle.rules.specs.TextLaws.{row_shorter}
use Rattle.rules.specs.Base.{all}
use Rattle.rules.specs.Deck.{Known, rising}
use Rattle.rules.specs.Run.{first_fresh}
use Rattle.rules.specs.Statements.{is_fresh}
use Rattle.meaning.specs.Truth.{and_left, and_right, by_truth}
use Rattle.states.specs.State.{State, state, Seen, seen, StateTold, stated, bad, unread, count_ok, follows_ok, rising_pairs, takes_class, rest_ok, line_ok, entered, ended, on_line, on_state_row, state_by, on_count, read_state}

abbrev pub is_read : StateTold → Bool
is_read (stated s) = true
is_read (bad line) = true
is_read unread = false

ended_read : (d : Known) (s : State) → is_read (ended d s) ≡ true
ended_read d s = go (eqb (length s.individuals) d.header.individuals)
  where
    go : (b : Bool) → is_read (pick b (stated s) (bad 0)) ≡ true
    go true = refl
    go false = refl

module _ (d : Known) (fresh : ℕ) where
  line_read : (rest : Seen → StateTold) (line : ℕ) (w : Seen) (b : Bool) → is_read (rest w) ≡ true → is_read (on_line rest line w b) ≡ true
  line_read rest line w true h = h
  line_read rest line w false h = refl

  by_read : (f line : ℕ) (w : Seen) (bytes : List ℕ) → length bytes < f → is_read (state_by f d fresh line w bytes) ≡ true
  unfolding state_by
  by_read zero line w bytes h = absurd (not-suc-le-zero h)
  by_read (suc f) line w [] h = ended_read d w.so_far
  by_read (suc f) line w (b ∷ bytes) h = rows (λ v rest k. by_read f (line + 1) v rest k) (row_of (b ∷ bytes)) refl
    where
      rows : ((v : Seen) (rest : List ℕ) → length rest < f → is_read (state_by f d fresh (line + 1) v rest) ≡ true) → (x : Row) → row_of (b ∷ bytes) ≡ x → is_read (on_state_row d fresh (λ v rest. state_by f d fresh (line + 1) v rest) line w x) ≡ true
      rows g broken_row e = refl
      rows g (row r rest) e =
          let v = seen (get_or r 0 0) (get_or r 1 0) (entered w.so_far (get_or r 0 0) (get_or r 1 0) (drop 2 r)) in
          let k : length rest + 12 ≤ length (b ∷ bytes) = row_shorter (b ∷ bytes) r rest e in
          line_read (λ u. state_by f d fresh (line + 1) u rest) line v (line_ok d fresh w r) (g v rest (omega arith))

  pub state_read : (bytes : List ℕ) → is_read (read_state d fresh bytes) ≡ true
  unfolding read_state
  state_read bytes = count (row_of bytes)
    where
      count : (x : Row) → is_read (on_count d fresh x) ≡ true
      count broken_row = refl
      count (row r rest) = line_read (λ w. state_by (suc (length rest)) d fresh 2 w rest) 1 (seen 50 0 (state (get_or r 1 0) [] [] [])) (count_ok r) (by_read (suc (length rest)) 2 (seen 50 0 (state (get_or r 1 0) [] [] [])) rest (omega arith))

-- ---- good lines rise, so they are few
module _ (d : Known) (fresh : ℕ) where
  abbrev pub ends : ℕ
  ends = first_fresh d + fresh

  -- a line's rank among all lines that a state may have
  abbrev rank : ℕ → ℕ → ℕ
  rank k i = pick (eqb k 51) (1 + i) (pick (eqb k 52) (1 + ends + i) (pick (eqb k 53) (1 + ends + d.header.roles + i) 0))

  pub record Placed (k i : ℕ) : Type 0 where
    pub low : 50 ≤ k
    pub high : k ≤ 53
    pub class : k ≡ 51 → i < ends
    pub role : k ≡ 52 → i < d.header.roles
    pub single : k ≡ 53 → i < d.header.individuals

  -- a kind from 50 to 53, with the rank's value
  data Kind (k i : ℕ) : Type 0 where
    count : k ≡ 50 → rank k i ≡ 0 → Kind k i
    class : k ≡ 51 → rank k i ≡ 1 + i → i < ends → Kind k i
    role : k ≡ 52 → rank k i ≡ 1 + ends + i → i < d.header.roles → Kind k i
    single : k ≡ 53 → rank k i ≡ 1 + ends + d.header.roles + i → i < d.header.individuals → Kind k i

  kind_of : (k i : ℕ) → Placed k i → Kind k i
  kind_of k i P = by_truth (eqb k 51) (λ e. let q = eqb-true k 51 e in class q (rw e refl) (P.class q))
      (λ e. by_truth (eqb k 52) (λ f. let q = eqb-true k 52 f in role q (rw (e, f) refl) (P.role q))
      (λ f. by_truth (eqb k 53) (λ g. let q = eqb-true k 53 g in single q (rw (e, f, g) refl) (P.single q))
      (λ g. count (fifty (eqb-false k 51 e) (eqb-false k 52 f) (eqb-false k 53 g)) (rw (e, f, g) refl))))
    where
      fifty : (k ≡ 51 → ⊥) → (k ≡ 52 → ⊥) → (k ≡ 53 → ⊥) → k ≡ 50
      fifty a b c = let l = P.low in let h = P.high in omega arith

  rank_most : (k i : ℕ) → Placed k i → rank k i ≤ ends + d.header.roles + d.header.individuals
  rank_most k i P = go (kind_of k i P)
    where
      go : Kind k i → rank k i ≤ ends + d.header.roles + d.header.individuals
      go (count e r) = omega (arith, r)
      go (class e r h) = omega (arith, r, h)
      go (role e r h) = omega (arith, r, h)
      go (single e r h) = omega (arith, r, h)

  rank_up : (k i m j : ℕ) → Kind k i → Kind m j → (k < m) ⊎ ((k ≡ m) × (i < j)) → 50 < m → rank k i < rank m j
  rank_up k i m j (count e1 r1) (count e2 r2) (inl q) z = omega (arith, e1, r1, e2, r2, q, z)
  rank_up k i m j (count e1 r1) (count e2 r2) (inr q) z = omega (arith, e1, r1, e2, r2, q.0, q.1, z)
  rank_up k i m j (count e1 r1) (class e2 r2 h2) (inl q) z = omega (arith, e1, r1, e2, r2, h2, q, z)
  rank_up k i m j (count e1 r1) (class e2 r2 h2) (inr q) z = omega (arith, e1, r1, e2, r2, h2, q.0, q.1, z)
  rank_up k i m j (count e1 r1) (role e2 r2 h2) (inl q) z = omega (arith, e1, r1, e2, r2, h2, q, z)
  rank_up k i m j (count e1 r1) (role e2 r2 h2) (inr q) z = omega (arith, e1, r1, e2, r2, h2, q.0, q.1, z)
  rank_up k i m j (count e1 r1) (single e2 r2 h2) (inl q) z = omega (arith, e1, r1, e2, r2, h2, q, z)
  rank_up k i m j (count e1 r1) (single e2 r2 h2) (inr q) z = omega (arith, e1, r1, e2, r2, h2, q.0, q.1, z)
  rank_up k i m j (class e1 r1 h1) (count e2 r2) (inl q) z = omega (arith, e1, r1, h1, e2, r2, q, z)
  rank_up k i m j (class e1 r1 h1) (count e2 r2) (inr q) z = omega (arith, e1, r1, h1, e2, r2, q.0, q.1, z)
  rank_up k i m j (class e1 r1 h1) (class e2 r2 h2) (inl q) z = omega (arith, e1, r1, h1, e2, r2, h2, q, z)
  rank_up k i m j (class e1 r1 h1) (class e2 r2 h2) (inr q) z = omega (arith, e1, r1, h1, e2, r2, h2, q.0, q.1, z)
  rank_up k i m j (class e1 r1 h1) (role e2 r2 h2) (inl q) z = omega (arith, e1, r1, h1, e2, r2, h2, q, z)
  rank_up k i m j (class e1 r1 h1) (role e2 r2 h2) (inr q) z = omega (arith, e1, r1, h1, e2, r2, h2, q.0, q.1, z)
  rank_up k i m j (class e1 r1 h1) (single e2 r2 h2) (inl q) z = omega (arith, e1, r1, h1, e2, r2, h2, q, z)
  rank_up k i m j (class e1 r1 h1) (single e2 r2 h2) (inr q) z = omega (arith, e1, r1, h1, e2, r2, h2, q.0, q.1, z)
  rank_up k i m j (role e1 r1 h1) (count e2 r2) (inl q) z = omega (arith, e1, r1, h1, e2, r2, q, z)
  rank_up k i m j (role e1 r1 h1) (count e2 r2) (inr q) z = omega (arith, e1, r1, h1, e2, r2, q.0, q.1, z)
  rank_up k i m j (role e1 r1 h1) (class e2 r2 h2) (inl q) z = omega (arith, e1, r1, h1, e2, r2, h2, q, z)
  rank_up k i m j (role e1 r1 h1) (class e2 r2 h2) (inr q) z = omega (arith, e1, r1, h1, e2, r2, h2, q.0, q.1, z)
  rank_up k i m j (role e1 r1 h1) (role e2 r2 h2) (inl q) z = omega (arith, e1, r1, h1, e2, r2, h2, q, z)
  rank_up k i m j (role e1 r1 h1) (role e2 r2 h2) (inr q) z = omega (arith, e1, r1, h1, e2, r2, h2, q.0, q.1, z)
  rank_up k i m j (role e1 r1 h1) (single e2 r2 h2) (inl q) z = omega (arith, e1, r1, h1, e2, r2, h2, q, z)
  rank_up k i m j (role e1 r1 h1) (single e2 r2 h2) (inr q) z = omega (arith, e1, r1, h1, e2, r2, h2, q.0, q.1, z)
  rank_up k i m j (single e1 r1 h1) (count e2 r2) (inl q) z = omega (arith, e1, r1, h1, e2, r2, q, z)
  rank_up k i m j (single e1 r1 h1) (count e2 r2) (inr q) z = omega (arith, e1, r1, h1, e2, r2, q.0, q.1, z)
  rank_up k i m j (single e1 r1 h1) (class e2 r2 h2) (inl q) z = omega (arith, e1, r1, h1, e2, r2, h2, q, z)
  rank_up k i m j (single e1 r1 h1) (class e2 r2 h2) (inr q) z = omega (arith, e1, r1, h1, e2, r2, h2, q.0, q.1, z)
  rank_up k i m j (single e1 r1 h1) (role e2 r2 h2) (inl q) z = omega (arith, e1, r1, h1, e2, r2, h2, q, z)
  rank_up k i m j (single e1 r1 h1) (role e2 r2 h2) (inr q) z = omega (arith, e1, r1, h1, e2, r2, h2, q.0, q.1, z)
  rank_up k i m j (single e1 r1 h1) (single e2 r2 h2) (inl q) z = omega (arith, e1, r1, h1, e2, r2, h2, q, z)
  rank_up k i m j (single e1 r1 h1) (single e2 r2 h2) (inr q) z = omega (arith, e1, r1, h1, e2, r2, h2, q.0, q.1, z)

  pub class_below_lem : (i : ℕ) → takes_class d fresh i ≡ true → i < ends
  class_below_lem i h = go (or_cases (ltb i d.header.classes) (is_fresh d fresh i) h)
    where
      go : (ltb i d.header.classes ≡ true) ⊎ (is_fresh d fresh i ≡ true) → i < ends
      go (inl q) = let b = ltb-true i d.header.classes q in omega arith
      go (inr q) = ltb-true i ends (and_right (leb (first_fresh d) i) (ltb i ends) q)

  -- what a good line's kind and id are
  pub record Onward (w : Seen) (k i : ℕ) : Type 0 where
    pub placed : Placed k i
    pub begun : 51 ≤ k
    pub later : (w.kind < k) ⊎ ((w.kind ≡ k) × (w.id < i))

  pub line_onward : (w : Seen) (r : List ℕ) → line_ok d fresh w r ≡ true → Onward w (get_or r 0 0) (get_or r 1 0)
  line_onward w r h =
      let k = get_or r 0 0 in
      let i = get_or r 1 0 in
      let l = drop 2 r in
      let a = leb 2 (length r) in
      let b = follows_ok w k i in
      let c = all (λ e. ltb e w.so_far.size) l in
      let rest = and_right (a && b && c) (rest_ok d fresh k i l) h in
      let follows = and_right a b (and_left (a && b) c (and_left (a && b && c) (rest_ok d fresh k i l) h)) in
      let late = ltb w.kind k || (eqb w.kind k && ltb w.id i) in
      let range = and_left (leb 51 k && leb k 53) late follows in
      let low = leb-true 51 k (and_left (leb 51 k) (leb k 53) range) in
      let high = leb-true k 53 (and_right (leb 51 k) (leb k 53) range) in
      record {
        placed = record {
          low = omega arith;
          high = high;
          class = λ e. class_below_lem i (and_left (takes_class d fresh i) (rising l) (rw (eq-eqb k 51 e) at rest));
          role = λ e. ltb-true i d.header.roles (and_left (ltb i d.header.roles) (rising_pairs l) (rw (ne_eqb k 51 (λ q. omega arith), eq-eqb k 52 e) at rest));
          single = λ e. ltb-true i d.header.individuals (and_left (ltb i d.header.individuals) (eqb (length l) 1) (rw (ne_eqb k 51 (λ q. omega arith), ne_eqb k 52 (λ q. omega arith)) at rest));
        };
        begun = low;
        later = go (or_cases (ltb w.kind k) (eqb w.kind k && ltb w.id i) (and_right (leb 51 k && leb k 53) late follows));
      }
    where
      go : (ltb w.kind (get_or r 0 0) ≡ true) ⊎ ((eqb w.kind (get_or r 0 0) && ltb w.id (get_or r 1 0)) ≡ true) → (w.kind < get_or r 0 0) ⊎ ((w.kind ≡ get_or r 0 0) × (w.id < get_or r 1 0))
      go (inl q) = inl (ltb-true w.kind (get_or r 0 0) q)
      go (inr q) = inr (eqb-true w.kind (get_or r 0 0) (and_left (eqb w.kind (get_or r 0 0)) (ltb w.id (get_or r 1 0)) q), ltb-true w.id (get_or r 1 0) (and_right (eqb w.kind (get_or r 0 0)) (ltb w.id (get_or r 1 0)) q))

  line_above : (w : Seen) (r : List ℕ) → Placed w.kind w.id → line_ok d fresh w r ≡ true → rank w.kind w.id < rank (get_or r 0 0) (get_or r 1 0)
  line_above w r P h =
      let O = line_onward w r h in
      rank_up w.kind w.id (get_or r 0 0) (get_or r 1 0) (kind_of w.kind w.id P) (kind_of (get_or r 0 0) (get_or r 1 0) O.placed) O.later O.begun

  abbrev pub most_lines : ℕ
  most_lines = 2 + ends + d.header.roles + d.header.individuals

  bad_is : (a b : ℕ) → bad a ≡ bad b → a ≡ b
  bad_is a b e = ap line_of_lem e
    where
      line_of_lem : StateTold → ℕ
      line_of_lem (stated s) = 0
      line_of_lem (bad n) = n
      line_of_lem unread = 0

  not_bad : (s : State) (n : ℕ) → stated s ≡ bad n → ⊥
  not_bad s n e = false≢true (ap is_bad e)
    where
      is_bad : StateTold → Bool
      is_bad (stated s) = false
      is_bad (bad n) = true
      is_bad unread = false

  unread_bad : (n : ℕ) → unread ≡ bad n → ⊥
  unread_bad n e = false≢true (ap is_bad e)
    where
      is_bad : StateTold → Bool
      is_bad (stated s) = false
      is_bad (bad n) = true
      is_bad unread = false

  ended_bad : (s : State) (n : ℕ) → ended d s ≡ bad n → n ≡ 0
  ended_bad s n h = by_truth (eqb (length s.individuals) d.header.individuals) (λ e. absurd (not_bad s n (rw e at h))) (λ e. sym (bad_is 0 n (rw e at h)))

  by_few : (f line : ℕ) (w : Seen) (bytes : List ℕ) (n : ℕ) → Placed w.kind w.id → line ≤ 2 + rank w.kind w.id → state_by f d fresh line w bytes ≡ bad n → n ≤ most_lines
  unfolding state_by
  by_few zero line w bytes n P l h = absurd (unread_bad n h)
  by_few (suc f) line w [] n P l h = omega (arith, ended_bad w.so_far n h)
  by_few (suc f) line w (b ∷ bytes) n P l h = rows (λ v rest Q k q. by_few f (line + 1) v rest n Q k q) (row_of (b ∷ bytes)) h
    where
      here : n ≡ line → n ≤ most_lines
      here e = omega (arith, e, l, rank_most w.kind w.id P)

      rows : ((v : Seen) (rest : List ℕ) → Placed v.kind v.id → line + 1 ≤ 2 + rank v.kind v.id → state_by f d fresh (line + 1) v rest ≡ bad n → n ≤ most_lines) → (x : Row)
          → on_state_row d fresh (λ v rest. state_by f d fresh (line + 1) v rest) line w x ≡ bad n → n ≤ most_lines
      rows g broken_row q = here (sym (bad_is line n q))
      rows g (row r rest) q = go (line_ok d fresh w r) refl q
        where
          go : (ok : Bool) → line_ok d fresh w r ≡ ok → on_line (λ v. state_by f d fresh (line + 1) v rest) line (seen (get_or r 0 0) (get_or r 1 0) (entered w.so_far (get_or r 0 0) (get_or r 1 0) (drop 2 r))) ok ≡ bad n → n ≤ most_lines
          go true e p =
              g (seen (get_or r 0 0) (get_or r 1 0) (entered w.so_far (get_or r 0 0) (get_or r 1 0) (drop 2 r))) rest (line_onward w r e).placed (omega (arith, l, line_above w r P e)) p
          go false e p = here (sym (bad_is line n p))

  -- behind the first line
  pub start_few : (f : ℕ) (s : State) (bytes : List ℕ) (n : ℕ) → state_by f d fresh 2 (seen 50 0 s) bytes ≡ bad n → n ≤ most_lines
  start_few f s bytes n h = by_few f 2 (seen 50 0 s) bytes n start (omega arith) h
    where
      start : Placed 50 0
      start = record { low = omega arith; high = omega arith; class = λ e. absurd (omega arith); role = λ e. absurd (omega arith); single = λ e. absurd (omega arith) }

  -- whatever the text's length
  pub state_few : (bytes : List ℕ) (n : ℕ) → read_state d fresh bytes ≡ bad n → n ≤ most_lines
  unfolding read_state
  state_few bytes n h = count_few (row_of bytes) h
    where
      first : n ≡ 1 → n ≤ most_lines
      first e = omega (arith, e)

      count_few : (x : Row) → on_count d fresh x ≡ bad n → n ≤ most_lines
      count_few broken_row q = first (sym (bad_is 1 n q))
      count_few (row r rest) q = go (count_ok r) q
        where
          go : (ok : Bool) → on_line (λ w. state_by (suc (length rest)) d fresh 2 w rest) 1 (seen 50 0 (state (get_or r 1 0) [] [] [])) ok ≡ bad n → n ≤ most_lines
          go true p = start_few (suc (length rest)) (state (get_or r 1 0) [] [] []) rest n p
          go false p = first (sym (bad_is 1 n p))
