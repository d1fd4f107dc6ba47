-- One line more, drawn. Assumes nothing.
use mathlib.Core.Path.{◌≡◌, refl, sym, ap, ap₂, subst, ◌∙◌}
use mathlib.Core.Bool.{true, false, false≢true}
use mathlib.Core.List.{List, [], ◌∷◌, ◌++◌}
use mathlib.Core.Logic.{inl, inr}
use Prim.Native.Nat.{ℕ, ◌+◌, ◌*◌, ◌<◌, ◌≤◌}
use native.Mathlib.Omega.{arith}
use borrow.Author.Tests.{eqb-true, eqb-false, eq-eqb, ne_eqb, le-leb, lt-ltb}
use lib.Dec.{eqb}
use lib.ListN.{length, get_or, drop, length-drop, length-append, get_or-append}
use lib.Seq.{get_or-append_seam, get_or-drop}
use Rattle.rules.specs.Base.{contains}
use Rattle.rules.specs.Deck.{Known}
use Rattle.rules.specs.Invariants.{Each}
use Rattle.rules.specs.EachLaws.{each_map, each_snoc}
use Rattle.meaning.specs.Truth.{by_truth, or_none}
use Rattle.states.specs.State.{State, numbers_at, has_pair, is_individual_class, entered}
use Rattle.states.specs.Masks.{mask_of}
use Rattle.sets.specs.Kept.{set_at}
use Rattle.layouts.specs.declared.enter.At.{At}
use Rattle.layouts.specs.declared.limits.Limits.{Limits}
use Rattle.layouts.specs.Read.{known_of}
use Rattle.layouts.specs.Drawn.{room_put, RowsAs, with_pairs, Later, Ahead, Drawn, entered_line}
use Rattle.layouts.proofs.Facts.{Fine}
use Rattle.layouts.proofs.Links.{room_length, room_put_lem, room_other, rows_same}

abbrev Lines : Type 0
Lines = List (ℕ × List ℕ)

abbrev Below : ℕ → Lines → Type 0
Below i l = Each (λ p. p.0 < i) l

-- ---- a line appended
absent : (l : Lines) (i : ℕ) → Below i l → numbers_at l i ≡ []
unfolding numbers_at
absent [] i h = refl
absent (p ∷ l) i h = rw (ne_eqb i p.0 (λ e. let q = h.0 in omega arith)) (absent l i h.1)

added_same : (l : Lines) (i : ℕ) (k : List ℕ) → Below i l → numbers_at (l ++ ((i, k) ∷ [])) i ≡ k
unfolding numbers_at
added_same [] i k h = rw (eq-eqb i i refl) refl
added_same (p ∷ l) i k h = rw (ne_eqb i p.0 (λ e. let q = h.0 in omega arith)) (added_same l i k h.1)

added_other : (l : Lines) (i c : ℕ) (k : List ℕ) → (c ≡ i → ⊥) → numbers_at (l ++ ((i, k) ∷ [])) c ≡ numbers_at l c
unfolding numbers_at
added_other [] i c k h = rw (ne_eqb c i h) refl
added_other (p ∷ l) i c k h = by_truth (eqb c p.0) (λ e. rw e refl) (λ e. rw e (added_other l i c k h))

below_more : (l : Lines) (i j : ℕ) (k : List ℕ) → Below i l → i < j → Below j (l ++ ((i, k) ∷ []))
below_more l i j k h q = each_snoc (λ p. p.0 < j) l (i, k) (each_map (λ p. p.0 < i) (λ p. p.0 < j) (λ p s. omega arith) l h) q

-- ---- the lines that may follow
-- before this kind, before a greater one
earlier : (kind id k i m j : ℕ) → Later kind id k i → k < m → Later kind id m j
earlier kind id k i m j (inl q) h = inl (omega arith)
earlier kind id k i m j (inr q) h = inl (omega (arith, q.0, h))

beyond : (k i j : ℕ) {P : Type 0} → Later k i k j → (i < j → P) → P
beyond k i j (inl q) f = absurd (omega arith)
beyond k i j (inr q) f = f q.1

passed : (k i m j : ℕ) {P : Type 0} → Later k i m j → m < k → P
passed k i m j (inl q) h = absurd (omega arith)
passed k i m j (inr q) h = absurd (omega (arith, q.0, h))

module _ (s : State) (kind id : ℕ) (A : Ahead s kind id) (i : ℕ) (l : List ℕ) where
  ahead_class : Later kind id 51 i → Ahead (entered s 51 i l) 51 i
  ahead_class h = record {
    classes = λ j q. beyond 51 i j q (λ p. below_more s.classes i j l (A.classes i h) p);
    roles = λ j q. A.roles j (earlier kind id 51 i 52 j h (omega arith));
    singles = λ j q. A.singles j (earlier kind id 51 i 53 j h (omega arith));
  }

  ahead_role : Later kind id 52 i → Ahead (entered s 52 i l) 52 i
  ahead_role h = record {
    classes = λ j q. passed 52 i 51 j q (omega arith);
    roles = λ j q. beyond 52 i j q (λ p. below_more s.roles i j l (A.roles i h) p);
    singles = λ j q. A.singles j (earlier kind id 52 i 53 j h (omega arith));
  }

  ahead_single : Later kind id 53 i → length l ≡ 1 → Ahead (entered s 53 i l) 53 i
  ahead_single h e = record {
    classes = λ j q. passed 53 i 51 j q (omega arith);
    roles = λ j q. passed 53 i 52 j q (omega arith);
    singles = λ j q. beyond 53 i j q (λ p. let a = A.singles i h in let n = length-append s.individuals l in omega (arith, a, n, p, e));
  }

-- ---- the words
abbrev pub at : ℕ → ℕ → ℕ → At
at k i n = record { kind = k; id = i; singles = n }

module _ (d : Known) (s : State) (a : At) (size : ℕ) (w v : List ℕ) (D : Drawn d s a size w v) (i : ℕ) (l : List ℕ) where
  class_drawn : Later a.kind a.id 51 i → Drawn d (entered s 51 i l) (at 51 i a.singles) size (room_put w i (mask_of size (contains l))) v
  class_drawn h = record {
    size_is = D.size_is;
    singles_are = D.singles_are;
    ahead = ahead_class s a.kind a.id D.ahead i l h;
    classes = λ c q n. one c (rw (room_length w i (mask_of size (contains l))) at q) n;
    singles = λ j q. let z = D.ahead.singles 0 (earlier a.kind a.id 51 i 53 0 h (omega arith)) in absurd (omega (arith, z, q));
    rows = D.rows;
  }
    where
      one : (c : ℕ) → 2 * c + 2 ≤ length w → is_individual_class d c ≡ false → set_at (room_put w i (mask_of size (contains l))) c ≡ mask_of size (contains (numbers_at (s.classes ++ ((i, l) ∷ [])) c))
      one c q n = by_truth (eqb c i)
          (λ e.
          let f = eqb-true c i e in
          let t : numbers_at (s.classes ++ ((i, l) ∷ [])) c ≡ l = ap (numbers_at (s.classes ++ ((i, l) ∷ []))) f ∙ added_same s.classes i l (D.ahead.classes i h) in
          ap (set_at (room_put w i (mask_of size (contains l)))) f ∙ room_put_lem w i (mask_of size (contains l)) (omega arith) ∙ ap (λ (u : List ℕ). mask_of size (contains u)) (sym t))
          (λ e.
          let f = eqb-false c i e in
          room_other w i (mask_of size (contains l)) c f ∙ D.classes c q n ∙ ap (λ (u : List ℕ). mask_of size (contains u)) (sym (added_other s.classes i c l f)))

  role_drawn : (v' : List ℕ) → Later a.kind a.id 52 i → RowsAs size d.header.roles v' (with_pairs (λ r x y. has_pair (numbers_at s.roles r) x y) i l) → Drawn d (entered s 52 i l) (at 52 i a.singles) size w v'
  unfolding has_pair
  role_drawn v' h R = record {
    size_is = D.size_is;
    singles_are = D.singles_are;
    ahead = ahead_role s a.kind a.id D.ahead i l h;
    classes = D.classes;
    singles = D.singles;
    rows = rows_same size d.header.roles v' (with_pairs (λ r x y. has_pair (numbers_at s.roles r) x y) i l) (λ r x y. has_pair (numbers_at (s.roles ++ ((i, l) ∷ [])) r) x y) pair R;
  }
    where
      pair : (r x y : ℕ) → with_pairs (λ r x y. has_pair (numbers_at s.roles r) x y) i l r x y ≡ has_pair (numbers_at (s.roles ++ ((i, l) ∷ [])) r) x y
      pair r x y = by_truth (eqb r i)
          (λ e.
          let f = eqb-true r i e in
          let t : numbers_at (s.roles ++ ((i, l) ∷ [])) r ≡ l = ap (numbers_at (s.roles ++ ((i, l) ∷ []))) f ∙ added_same s.roles i l (D.ahead.roles i h) in
          let z : numbers_at s.roles r ≡ [] = ap (numbers_at s.roles) f ∙ absent s.roles i (D.ahead.roles i h) in
          rw (e, t, z) refl)
          (λ e. rw (e, added_other s.roles i r l (eqb-false r i e)) (or_none (has_pair (numbers_at s.roles r) x y)))

  single_drawn : (x : ℕ) → l ≡ x ∷ [] → Later a.kind a.id 53 i → i < d.header.individuals → 2 * (d.header.classes + a.singles) + 2 ≤ length w
      → Drawn d (entered s 53 i l) (at 53 i (a.singles + 1)) size (room_put w (d.header.classes + a.singles) (mask_of size (λ y. eqb y x))) v
  single_drawn x e h b room = record {
    size_is = D.size_is;
    singles_are = let n = length-append s.individuals l in omega (arith, n, ap length e, D.singles_are);
    ahead = ahead_single s a.kind a.id D.ahead i l h (ap length e);
    classes = λ c q n. room_other w (d.header.classes + a.singles) (mask_of size (λ y. eqb y x)) c (apart c n) ∙ D.classes c (rw (room_length w (d.header.classes + a.singles) (mask_of size (λ y. eqb y x))) at q) n;
    singles = λ j q. one j (let n = length-append s.individuals l in omega (arith, n, ap length e, q));
    rows = D.rows;
  }
    where
      few : a.singles < d.header.individuals
      few = let z = D.ahead.singles i h in omega (arith, z, D.singles_are, b)

      apart : (c : ℕ) → is_individual_class d c ≡ false → c ≡ d.header.classes + a.singles → ⊥
      apart c n q = false≢true (sym n ∙ yes)
        where
          yes : is_individual_class d c ≡ true
          yes = rw (le-leb d.header.classes c (omega arith), lt-ltb c (d.header.classes + d.header.individuals) (omega (arith, q, few))) refl

      one : (j : ℕ) → j < length s.individuals + 1 → set_at (room_put w (d.header.classes + a.singles) (mask_of size (λ y. eqb y x))) (d.header.classes + j) ≡ mask_of size (λ y. eqb y (get_or (s.individuals ++ l) j 0))
      one j q = by_truth (eqb j (length s.individuals))
          (λ f.
          let g = eqb-true j (length s.individuals) f in
          let n : d.header.classes + j ≡ d.header.classes + a.singles = omega (arith, g, D.singles_are) in
          let t : get_or (s.individuals ++ l) j 0 ≡ x = ap (λ (k : ℕ). get_or (s.individuals ++ l) k 0) g ∙ ap (λ (u : List ℕ). get_or (s.individuals ++ u) (length s.individuals) 0) e ∙ get_or-append_seam s.individuals x [] 0 in
          ap (set_at (room_put w (d.header.classes + a.singles) (mask_of size (λ y. eqb y x)))) n ∙ room_put_lem w (d.header.classes + a.singles) (mask_of size (λ y. eqb y x)) room ∙ ap (λ (u : ℕ). mask_of size (λ y. eqb y u)) (sym t))
          (λ f.
          let g = eqb-false j (length s.individuals) f in
          let b = D.singles_are in
          let m : j < length s.individuals = omega arith in
          room_other w (d.header.classes + a.singles) (mask_of size (λ y. eqb y x)) (d.header.classes + j) (λ u. g (omega (arith, u, b))) ∙ D.singles j m
          ∙ ap (λ (u : ℕ). mask_of size (λ y. eqb y u)) (sym (get_or-append s.individuals l 0 j m)))

-- ---- the line as it was read
later_is : (kind id k i m j : ℕ) → Later kind id k i → k ≡ m → i ≡ j → Later kind id m j
later_is kind id k i m j (inl q) e f = inl (omega (arith, q, e))
later_is kind id k i m j (inr q) e f = inr (omega (arith, q.0, e), omega (arith, q.1, f))

module _ (m : Limits) (s : State) (a : At) (size : ℕ) (w v : List ℕ) (D : Drawn (known_of m) s a size w v) (r : List ℕ) (F : Fine (known_of m) m.fresh a.kind a.id size r)
    (k i : ℕ) (ek : k ≡ get_or r 0 0) (ei : i ≡ get_or r 1 0) where
  as_line : (n : ℕ) (w' v' : List ℕ) (x : ℕ) → k ≡ x → Drawn (known_of m) (entered s x i (drop 2 r)) (at x i n) size w' v' → Drawn (known_of m) (entered_line s r) (at k i n) size w' v'
  as_line n w' v' x e E =
      subst (λ (t : State). Drawn (known_of m) t (at k i n) size w' v') (ap₂ (λ (x y : ℕ). entered s x y (drop 2 r)) ek ei)
      (subst (λ (y : ℕ). Drawn (known_of m) (entered s y i (drop 2 r)) (at y i n) size w' v') (sym e) E)

  later : (x : ℕ) → k ≡ x → Later a.kind a.id x i
  later x e = later_is a.kind a.id (get_or r 0 0) (get_or r 1 0) x i F.onward.later (sym ek ∙ e) (sym ei)

  pub class_line : k ≡ 51 → Drawn (known_of m) (entered_line s r) (at k i a.singles) size (room_put w i (mask_of size (contains (drop 2 r)))) v
  class_line e = as_line a.singles (room_put w i (mask_of size (contains (drop 2 r)))) v 51 e (class_drawn (known_of m) s a size w v D i (drop 2 r) (later 51 e))

  pub role_line : (v' : List ℕ) → k ≡ 52 → RowsAs size m.roles v' (with_pairs (λ r x y. has_pair (numbers_at s.roles r) x y) i (drop 2 r)) → Drawn (known_of m) (entered_line s r) (at k i a.singles) size w v'
  role_line v' e R = as_line a.singles w v' 52 e (role_drawn (known_of m) s a size w v D i (drop 2 r) v' (later 52 e) R)

  pub single_line : (x : ℕ) → k ≡ 53 → x ≡ get_or r 2 0 → 2 * (m.classes + a.singles) + 2 ≤ length w
      → Drawn (known_of m) (entered_line s r) (at k i (a.singles + 1)) size (room_put w (m.classes + a.singles) (mask_of size (λ y. eqb y x))) v
  single_line x e f room = as_line (a.singles + 1) (room_put w (m.classes + a.singles) (mask_of size (λ y. eqb y x))) v 53 e (single_drawn (known_of m) s a size w v D i (drop 2 r) x alone (later 53 e) known room)
    where
      known : i < m.individuals
      known = let q = F.onward.placed.single (sym ek ∙ e) in omega (arith, q, ei)

      only : (l : List ℕ) → length l ≡ 1 → l ≡ get_or l 0 0 ∷ []
      only [] h = absurd (omega arith)
      only (y ∷ []) h = refl
      only (y ∷ z ∷ l) h = absurd (omega arith)

      alone : drop 2 r ≡ x ∷ []
      alone = only (drop 2 r) (F.single (sym ek ∙ e)) ∙ ap (λ (y : ℕ). y ∷ []) (get_or-drop 2 r 0 0 ∙ sym f)

-- a line that is neither 51 nor 52
pub third_kind : (m : Limits) (kind id size : ℕ) (r : List ℕ) (k : ℕ) → Fine (known_of m) m.fresh kind id size r → k ≡ get_or r 0 0 → (k ≡ 51 → ⊥) → (k ≡ 52 → ⊥) → get_or r 0 0 ≡ 53
third_kind m kind id size r k F e a b = let p = F.onward.begun in let q = F.onward.placed.high in omega (arith, p, q, e, a, b)

pub single_few : (m : Limits) (kind id size n : ℕ) (r : List ℕ) → Fine (known_of m) m.fresh kind id size r → get_or r 0 0 ≡ 53 → ((i : ℕ) → Later kind id 53 i → n ≤ i) → n < m.individuals
single_few m kind id size n r F e h =
    let p = F.onward.placed.single e in
    let q = h (get_or r 1 0) (later_is kind id (get_or r 0 0) (get_or r 1 0) 53 (get_or r 1 0) F.onward.later e refl) in
    omega (arith, p, q)

pub single_long : (m : Limits) (kind id size n : ℕ) (r : List ℕ) → Fine (known_of m) m.fresh kind id size r → get_or r 0 0 ≡ 53 → length r ≡ n → n ≡ 3
single_long m kind id size n r F e h = let p = F.single e in let q = length-drop 2 r in let t = F.two in omega (arith, p, q, t, h)
