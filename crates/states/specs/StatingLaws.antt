-- A state that was read keeps the reader's rules. Assumes nothing.
use Rattle.std.specs.Prelude.{◌≡◌, refl, Bool, true, false, ◌&&◌, ◌||◌, ◌⊎◌, get_or, drop, eqb, ltb, leb}
use Rattle.std.proofs.Common.{sym, ◌∙◌, inl, inr, le_refl, arith, ltb-true, leb-true, eqb-true}
use Rattle.std.proofs.Math.Path.{ap, subst}
use mathlib.Core.List.{List, [], ◌∷◌, ◌++◌}
use Prim.Native.Nat.{ℕ, zero, suc, ◌+◌, ◌<◌, ◌≤◌}
use Rattle.std.proofs.Math.ListN.{length}
use Rattle.std.proofs.lemmas.Bool.{or_cases}
use Rattle.rules.specs.Base.{all}
use Rattle.rules.specs.Text.{Row, row, broken_row, row_of}
use Rattle.rules.specs.Deck.{Known, rising}
use Rattle.rules.specs.Invariants.{Each}
use Rattle.rules.specs.EachLaws.{each_map, each_append, each_snoc}
use Rattle.meaning.specs.Truth.{and_left, and_right, by_truth, all_each}
use Rattle.states.specs.State.{State, state, Seen, seen, StateTold, stated, most_elements, count_ok, follows_ok, rising_pairs, takes_class, rest_ok, line_ok, entered, on_line, on_state_row, state_by, on_count, read_state}
use Rattle.states.specs.ProperLaws.{not_stated, not_read, ended_is}
use Rattle.states.specs.Print.{IdsRise, ClassLine, RoleLine, Lines, Stating}
use Rattle.states.specs.PrintedLaws.{Later}

-- ---- order
-- line x of kind a is not behind line j of kind m
abbrev Past : ℕ → ℕ → ℕ → ℕ → Type 0
Past m j a x = (a < m) ⊎ ((a ≡ m) × (x ≤ j))

past_on : (m j k i a x : ℕ) → Later m j k i → Past m j a x → Past k i a x
past_on m j k i a x (inl l) (inl p) = inl (omega arith)
past_on m j k i a x (inl l) (inr p) = inl (omega (arith, p.0))
past_on m j k i a x (inr l) (inl p) = inl (omega (arith, l.0))
past_on m j k i a x (inr l) (inr p) = inr (p.0 ∙ l.0, omega (arith, l.1, p.1))

past_below : (m j k i x : ℕ) → Later m j k i → Past m j k x → x < i
past_below m j k i x (inl l) (inl p) = absurd (omega arith)
past_below m j k i x (inl l) (inr p) = absurd (omega (arith, p.0))
past_below m j k i x (inr l) (inl p) = absurd (omega (arith, l.0))
past_below m j k i x (inr l) (inr p) = omega (arith, l.1, p.1)

pub ids_append : (k l : List (ℕ × List ℕ)) → IdsRise k → IdsRise l → Each (λ (p : ℕ × List ℕ). Each (λ (q : ℕ × List ℕ). p.0 < q.0) l) k → IdsRise (k ++ l)
ids_append [] l u v h = v
ids_append (p ∷ k) l u v h = (each_append (λ (q : ℕ × List ℕ). p.0 < q.0) k l u.0 h.0, ids_append k l u.1 v h.1)

module _ (d : Known) (fresh : ℕ) where
  -- ---- what a good line says
  record LineSays (w : Seen) (k i : ℕ) (l : List ℕ) : Type 0 where
    high : k ≤ 53
    low : 51 ≤ k
    later : Later w.kind w.id k i
    elements : all (λ e. ltb e w.so_far.size) l ≡ true
    rest : rest_ok d fresh k i l ≡ true

  line_says : (w : Seen) (r : List ℕ) → line_ok d fresh w r ≡ true → LineSays w (get_or r 0 0) (get_or r 1 0) (drop 2 r)
  line_says w r h =
      let k = get_or r 0 0 in
      let i = get_or r 1 0 in
      let l = drop 2 r in
      let a = leb 2 (length r) in
      let b = follows_ok w k i in
      let c = all (λ e. ltb e w.so_far.size) l in
      let checked = and_left (a && b && c) (rest_ok d fresh k i l) h in
      let follows = and_right a b (and_left (a && b) c checked) in
      let late = ltb w.kind k || (eqb w.kind k && ltb w.id i) in
      let range = and_left (leb 51 k && leb k 53) late follows in
      record {
        high = leb-true k 53 (and_right (leb 51 k) (leb k 53) range);
        low = leb-true 51 k (and_left (leb 51 k) (leb k 53) range);
        later = go (or_cases (ltb w.kind k) (eqb w.kind k && ltb w.id i) (and_right (leb 51 k && leb k 53) late follows));
        elements = and_right (a && b) c checked;
        rest = and_right (a && b && c) (rest_ok d fresh k i l) h;
      }
    where
      go : (ltb w.kind (get_or r 0 0) ≡ true) ⊎ ((eqb w.kind (get_or r 0 0) && ltb w.id (get_or r 1 0)) ≡ true) → Later w.kind w.id (get_or r 0 0) (get_or r 1 0)
      go (inl q) = inl (ltb-true w.kind (get_or r 0 0) q)
      go (inr q) = inr (eqb-true w.kind (get_or r 0 0) (and_left (eqb w.kind (get_or r 0 0)) (ltb w.id (get_or r 1 0)) q), ltb-true w.id (get_or r 1 0) (and_right (eqb w.kind (get_or r 0 0)) (ltb w.id (get_or r 1 0)) q))

  -- ---- the lines so far, none behind the last one
  record Kept (w : Seen) : Type 0 where
    lines : Lines d fresh w.so_far
    classes : Each (λ (p : ℕ × List ℕ). Past w.kind w.id 51 p.0) w.so_far.classes
    roles : Each (λ (p : ℕ × List ℕ). Past w.kind w.id 52 p.0) w.so_far.roles

  module _ (w : Seen) (k i : ℕ) (l : List ℕ) (K : Kept w) (L : LineSays w k i l) where
    past : (a : ℕ) (m : List (ℕ × List ℕ)) → Each (λ (p : ℕ × List ℕ). Past w.kind w.id a p.0) m → Each (λ (p : ℕ × List ℕ). Past k i a p.0) m
    past a m E = each_map (λ (p : ℕ × List ℕ). Past w.kind w.id a p.0) (λ p. Past k i a p.0) (λ p q. past_on w.kind w.id k i a p.0 L.later q) m E

    ids : (m : List (ℕ × List ℕ)) → IdsRise m → Each (λ (p : ℕ × List ℕ). Past w.kind w.id k p.0) m → IdsRise (m ++ ((i, l) ∷ []))
    ids m u E = ids_append m ((i, l) ∷ []) u (tt, tt) (each_map (λ (p : ℕ × List ℕ). Past w.kind w.id k p.0) (λ p. (p.0 < i) × Unit {0}) (λ p q. (past_below w.kind w.id k i p.0 L.later q, tt)) m E)

    class_kept : eqb k 51 ≡ true → Kept (seen k i (state w.so_far.size (w.so_far.classes ++ ((i, l) ∷ [])) w.so_far.roles w.so_far.individuals))
    class_kept e =
        let q : k ≡ 51 = eqb-true k 51 e in
        let good : (takes_class d fresh i && rising l) ≡ true = rw e at L.rest in
        let O = K.lines in
        record {
          lines = record {
            some = O.some;
            few = O.few;
            classes = each_snoc (ClassLine d fresh w.so_far.size) w.so_far.classes (i, l) O.classes
                (record { id = and_left (takes_class d fresh i) (rising l) good; elements = L.elements; rise = and_right (takes_class d fresh i) (rising l) good });
            class_ids = ids w.so_far.classes O.class_ids (subst (λ (a : ℕ). Each (λ (p : ℕ × List ℕ). Past w.kind w.id a p.0) w.so_far.classes) (sym q) K.classes);
            roles = O.roles;
            role_ids = O.role_ids;
            individuals = O.individuals;
          };
          classes = each_snoc (λ (p : ℕ × List ℕ). Past k i 51 p.0) w.so_far.classes (i, l) (past 51 w.so_far.classes K.classes) (inr (sym q, le_refl i));
          roles = past 52 w.so_far.roles K.roles;
        }

    role_kept : eqb k 51 ≡ false → eqb k 52 ≡ true → Kept (seen k i (state w.so_far.size w.so_far.classes (w.so_far.roles ++ ((i, l) ∷ [])) w.so_far.individuals))
    role_kept e f =
        let q : k ≡ 52 = eqb-true k 52 f in
        let good : (ltb i d.header.roles && rising_pairs l) ≡ true = rw (e, f) at L.rest in
        let O = K.lines in
        record {
          lines = record {
            some = O.some;
            few = O.few;
            classes = O.classes;
            class_ids = O.class_ids;
            roles = each_snoc (RoleLine d w.so_far.size) w.so_far.roles (i, l) O.roles
                (record { id = ltb-true i d.header.roles (and_left (ltb i d.header.roles) (rising_pairs l) good); elements = L.elements; rise = and_right (ltb i d.header.roles) (rising_pairs l) good });
            role_ids = ids w.so_far.roles O.role_ids (subst (λ (a : ℕ). Each (λ (p : ℕ × List ℕ). Past w.kind w.id a p.0) w.so_far.roles) (sym q) K.roles);
            individuals = O.individuals;
          };
          classes = past 51 w.so_far.classes K.classes;
          roles = each_snoc (λ (p : ℕ × List ℕ). Past k i 52 p.0) w.so_far.roles (i, l) (past 52 w.so_far.roles K.roles) (inr (sym q, le_refl i));
        }

    individual_kept : Kept (seen k i (state w.so_far.size w.so_far.classes w.so_far.roles (w.so_far.individuals ++ l)))
    individual_kept =
        let O = K.lines in
        let n = w.so_far.size in
        record {
          lines = record {
            some = O.some;
            few = O.few;
            classes = O.classes;
            class_ids = O.class_ids;
            roles = O.roles;
            role_ids = O.role_ids;
            individuals = each_append (λ x. x < n) w.so_far.individuals l O.individuals (each_map (λ x. ltb x n ≡ true) (λ x. x < n) (λ x q. ltb-true x n q) l (all_each (λ x. ltb x n) l L.elements));
          };
          classes = past 51 w.so_far.classes K.classes;
          roles = past 52 w.so_far.roles K.roles;
        }

    line_kept : Kept (seen k i (entered w.so_far k i l))
    line_kept = by_truth (eqb k 51) (λ e. rw e (class_kept e)) (λ e. by_truth (eqb k 52) (λ f. rw (e, f) (role_kept e f)) (λ f. rw (e, f) individual_kept))

  -- ---- the whole text
  module _ (u : State) where
    row_kept : (rest : Seen → List ℕ → StateTold) → ((w : Seen) (bytes : List ℕ) → Kept w → rest w bytes ≡ stated u → Stating d fresh u) → (line : ℕ) (w : Seen) (x : Row) → Kept w
        → on_state_row d fresh rest line w x ≡ stated u → Stating d fresh u
    row_kept rest g line w broken_row K h = absurd (not_stated line u h)
    row_kept rest g line w (row r bytes) K h = go (line_ok d fresh w r) refl h
      where
        go : (b : Bool) → line_ok d fresh w r ≡ b → on_line (λ v. rest v bytes) line (seen (get_or r 0 0) (get_or r 1 0) (entered w.so_far (get_or r 0 0) (get_or r 1 0) (drop 2 r))) b ≡ stated u → Stating d fresh u
        go true e q = g (seen (get_or r 0 0) (get_or r 1 0) (entered w.so_far (get_or r 0 0) (get_or r 1 0) (drop 2 r))) bytes (line_kept w (get_or r 0 0) (get_or r 1 0) (drop 2 r) K (line_says w r e)) q
        go false e q = absurd (not_stated line u q)

    by_kept : (f line : ℕ) (w : Seen) (bytes : List ℕ) → Kept w → state_by f d fresh line w bytes ≡ stated u → Stating d fresh u
    unfolding state_by
    by_kept zero line w bytes K h = absurd (not_read u h)
    by_kept (suc f) line w [] K h =
        let e = ended_is d w.so_far u h in
        record { lines = subst (Lines d fresh) e.0 K.lines; many = ap (λ (v : State). length v.individuals) (sym e.0) ∙ e.1 }
    by_kept (suc f) line w (b ∷ bytes) K h = row_kept (λ v rest. state_by f d fresh (line + 1) v rest) (λ v rest T q. by_kept f (line + 1) v rest T q) line w (row_of (b ∷ bytes)) K h

    count_kept : (x : Row) → on_count d fresh x ≡ stated u → Stating d fresh u
    count_kept broken_row h = absurd (not_stated 1 u h)
    count_kept (row r bytes) h = go (count_ok r) refl h
      where
        go : (b : Bool) → count_ok r ≡ b → on_line (λ w. state_by (suc (length bytes)) d fresh 2 w bytes) 1 (seen 50 0 (state (get_or r 1 0) [] [] [])) b ≡ stated u → Stating d fresh u
        go true e q =
            let two = eqb (length r) 2 && eqb (get_or r 0 0) 50 in
            let low = leb 1 (get_or r 1 0) in
            let high = leb (get_or r 1 0) most_elements in
            by_kept (suc (length bytes)) 2 (seen 50 0 (state (get_or r 1 0) [] [] [])) bytes (record {
              lines = record {
                some = leb-true 1 (get_or r 1 0) (and_right two low (and_left (two && low) high e));
                few = leb-true (get_or r 1 0) most_elements (and_right (two && low) high e);
                classes = tt;
                class_ids = tt;
                roles = tt;
                role_ids = tt;
                individuals = tt;
              };
              classes = tt;
              roles = tt;
            }) q
        go false e q = absurd (not_stated 1 u q)

    pub read_stating : (bytes : List ℕ) → read_state d fresh bytes ≡ stated u → Stating d fresh u
    unfolding read_state
    read_stating bytes h = count_kept (row_of bytes) h
