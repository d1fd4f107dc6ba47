-- A state that keeps the reader's rules is read back from its text. Assumes nothing.
use Rattle.std.specs.Prelude.{◌≡◌, true, ◌&&◌, ◌||◌, ◌⊎◌, eqb, ltb}
use Rattle.std.proofs.Math.Path.{refl, ap}
use Rattle.std.proofs.Common.{sym, ◌∙◌, subst, inl, ltb-true, lt-ltb, le-leb, eq-eqb}
use mathlib.Core.List.{List, [], ◌∷◌, ◌++◌, append_assoc, append-nil}
use Rattle.std.proofs.Math.Logic.{inr}
use Prim.Native.Nat.{ℕ, zero, suc, ◌+◌, ◌<◌, ◌≤◌}
use native.Mathlib.Omega.{arith}
use Rattle.std.proofs.Math.ListN.{length, length-append}
use Rattle.rules.specs.Base.{all}
use Rattle.rules.specs.Text.{most_number, row_of}
use Rattle.rules.specs.Lister.{fields_text}
use Rattle.rules.specs.Deck.{Known}
use Rattle.rules.specs.Run.{first_fresh}
use Rattle.rules.specs.Invariants.{Each}
use Rattle.rules.specs.EachLaws.{each_map, each_any}
use Rattle.meaning.specs.Truth.{and_both, or_unit, by_truth, all_each}
use Rattle.states.specs.State.{State, state, Seen, seen, stated, most_elements, rest_ok, line_ok, entered, ended, on_line, on_state_row, state_by, on_count, read_state}
use Rattle.states.specs.LineLaws.{class_below_lem}
use Rattle.rules.specs.PrintLaws.{row_printed, length_fields}
use Rattle.states.specs.Print.{lines_text, numbered, printed, IdsRise, ClassLine, RoleLine, Stating}

-- by kind, then by id
abbrev pub Later : ℕ → ℕ → ℕ → ℕ → Type 0
Later m j k i = (m < k) ⊎ ((m ≡ k) × (j < i))

module _ (d : Known) (fresh : ℕ) where
  -- what a line of kind k with this id and these numbers has, in a state of n elements
  record LineIn (k n : ℕ) (p : ℕ × List ℕ) : Type 0 where
    elements : all (λ e. ltb e n) p.1 ≡ true
    rest : rest_ok d fresh k p.0 p.1 ≡ true
    small : Each (λ e. e ≤ most_number) (k ∷ p.0 ∷ p.1)

  line_ok_lem : (w : Seen) (k : ℕ) (p : ℕ × List ℕ) → 51 ≤ k → k ≤ 53 → Later w.kind w.id k p.0 → LineIn k w.so_far.size p → line_ok d fresh w (k ∷ p.0 ∷ p.1) ≡ true
  line_ok_lem w k p low high l I =
      rw (le-leb 2 (length (k ∷ p.0 ∷ p.1)) (omega arith), le-leb 51 k low, le-leb k 53 high, late l, I.elements, I.rest) refl
    where
      late : Later w.kind w.id k p.0 → (ltb w.kind k || (eqb w.kind k && ltb w.id p.0)) ≡ true
      late (inl q) = rw (lt-ltb w.kind k q) refl
      late (inr q) = rw (eq-eqb w.kind k q.0, lt-ltb w.id p.0 q.1) (or_unit (ltb w.kind k))

  -- one line of the text
  nonempty : (f line : ℕ) (w : Seen) (bytes : List ℕ) → 0 < length bytes → state_by (suc f) d fresh line w bytes ≡ on_state_row d fresh (λ v rest. state_by f d fresh (line + 1) v rest) line w (row_of bytes)
  unfolding state_by
  nonempty f line w [] h = absurd (omega arith)
  nonempty f line w (b ∷ bytes) h = refl

  line_goes : (f line : ℕ) (w : Seen) (k : ℕ) (p : ℕ × List ℕ) (rest : List ℕ) → Each (λ e. e ≤ most_number) (k ∷ p.0 ∷ p.1) → line_ok d fresh w (k ∷ p.0 ∷ p.1) ≡ true
      → state_by (suc f) d fresh line w (fields_text (k ∷ p.0 ∷ p.1) ++ rest) ≡ state_by f d fresh (line + 1) (seen k p.0 (entered w.so_far k p.0 p.1)) rest
  line_goes f line w k p rest small ok =
      let t = fields_text (k ∷ p.0 ∷ p.1) in
      nonempty f line w (t ++ rest) (omega (arith, length-append t rest, length_fields (k ∷ p.0 ∷ p.1)))
      ∙ ap (on_state_row d fresh (λ v bytes. state_by f d fresh (line + 1) v bytes) line w) (row_printed k (p.0 ∷ p.1) rest small)
      ∙ rw ok refl

  -- ---- lines of one kind
  unfoldable entered_all : State → ℕ → List (ℕ × List ℕ) → State
  entered_all s k [] = s
  entered_all s k (p ∷ l) = entered_all (entered s k p.0 p.1) k l

  entered_size : (s : State) (k i : ℕ) (l : List ℕ) → (entered s k i l).size ≡ s.size
  entered_size s k i l = by_truth (eqb k 51) (λ e. rw e refl) (λ e. by_truth (eqb k 52) (λ f. rw (e, f) refl) (λ f. rw (e, f) refl))

  module _ (u : State) (k : ℕ) (low : 51 ≤ k) (high : k ≤ 53) (rest : List ℕ) where
    lines_go : (l : List (ℕ × List ℕ)) (w : Seen) → w.kind ≤ k → Each (λ (p : ℕ × List ℕ). Later w.kind w.id k p.0) l → IdsRise l → Each (LineIn k w.so_far.size) l
        → ((f line : ℕ) (v : Seen) → v.kind ≤ k → v.so_far ≡ entered_all w.so_far k l → length rest < f → state_by f d fresh line v rest ≡ stated u)
        → (f line : ℕ) → length (lines_text k l ++ rest) < f → state_by f d fresh line w (lines_text k l ++ rest) ≡ stated u
    unfolding lines_text entered_all
    lines_go [] w m ahead rise I on f line h = on f line w m refl h
    lines_go (p ∷ l) w m ahead rise I on zero line h = absurd (omega arith)
    lines_go (p ∷ l) w m ahead rise I on (suc f) line h =
        let t = fields_text (k ∷ p.0 ∷ p.1) in
        let more = lines_text k l ++ rest in
        let v = seen k p.0 (entered w.so_far k p.0 p.1) in
        let e : (t ++ lines_text k l) ++ rest ≡ t ++ more = append_assoc t (lines_text k l) rest in
        let shorter : length more < f = omega (arith, ap length e, length-append t more, length_fields (k ∷ p.0 ∷ p.1)) in
        ap (state_by (suc f) d fresh line w) e
        ∙ line_goes f line w k p more I.0.small (line_ok_lem w k p low high ahead.0 I.0)
        ∙ lines_go l v (omega arith) (each_map (λ (q : ℕ × List ℕ). p.0 < q.0) (λ q. Later k p.0 k q.0) (λ q g. inr (refl, g)) l rise.0) rise.1
        (subst (λ (n : ℕ). Each (LineIn k n) l) (sym (entered_size w.so_far k p.0 p.1)) I.1) on f (line + 1) shorter

  -- ---- what the lines of each kind enter
  entered_classes : (s : State) (l : List (ℕ × List ℕ)) → entered_all s 51 l ≡ state s.size (s.classes ++ l) s.roles s.individuals
  unfolding entered_all
  entered_classes s [] = ap (λ (c : List (ℕ × List ℕ)). state s.size c s.roles s.individuals) (sym (append-nil s.classes))
  entered_classes s (p ∷ l) =
      entered_classes (state s.size (s.classes ++ (p ∷ [])) s.roles s.individuals) l
      ∙ ap (λ (c : List (ℕ × List ℕ)). state s.size c s.roles s.individuals) (append_assoc s.classes (p ∷ []) l)

  entered_roles : (s : State) (l : List (ℕ × List ℕ)) → entered_all s 52 l ≡ state s.size s.classes (s.roles ++ l) s.individuals
  unfolding entered_all
  entered_roles s [] = ap (λ (c : List (ℕ × List ℕ)). state s.size s.classes c s.individuals) (sym (append-nil s.roles))
  entered_roles s (p ∷ l) =
      entered_roles (state s.size s.classes (s.roles ++ (p ∷ [])) s.individuals) l
      ∙ ap (λ (c : List (ℕ × List ℕ)). state s.size s.classes c s.individuals) (append_assoc s.roles (p ∷ []) l)

  entered_individuals : (s : State) (i : ℕ) (l : List ℕ) → entered_all s 53 (numbered i l) ≡ state s.size s.classes s.roles (s.individuals ++ l)
  unfolding entered_all numbered
  entered_individuals s i [] = ap (state s.size s.classes s.roles) (sym (append-nil s.individuals))
  entered_individuals s i (e ∷ l) =
      entered_individuals (state s.size s.classes s.roles (s.individuals ++ (e ∷ []))) (i + 1) l
      ∙ ap (state s.size s.classes s.roles) (append_assoc s.individuals (e ∷ []) l)

  -- the individuals' ids
  numbered_from : (j i : ℕ) (l : List ℕ) → j < i → Each (λ (p : ℕ × List ℕ). j < p.0) (numbered i l)
  unfolding numbered
  numbered_from j i [] h = tt
  numbered_from j i (e ∷ l) h = (h, numbered_from j (i + 1) l (omega arith))

  numbered_rise : (i : ℕ) (l : List ℕ) → IdsRise (numbered i l)
  unfolding numbered
  numbered_rise i [] = tt
  numbered_rise i (e ∷ l) = (numbered_from i (i + 1) l (omega arith), numbered_rise (i + 1) l)

  -- ---- the whole text
  -- ids that fit a row's number
  pub record Writable : Type 0 where
    pub classes : first_fresh d + fresh ≤ most_number
    pub roles : d.header.roles ≤ most_number
    pub individuals : d.header.individuals ≤ most_number

  numbers_small : (n : ℕ) (l : List ℕ) → n ≤ most_elements → all (λ e. ltb e n) l ≡ true → Each (λ e. e ≤ most_number) l
  numbers_small n l h a = each_map (λ e. ltb e n ≡ true) (λ e. e ≤ most_number) (λ e q. let k = ltb-true e n q in omega arith) l (all_each (λ e. ltb e n) l a)

  individuals_in : (n i : ℕ) (l : List ℕ) → n ≤ most_elements → i + length l ≤ d.header.individuals → d.header.individuals ≤ most_number → Each (λ e. e < n) l → Each (LineIn 53 n) (numbered i l)
  unfolding numbered
  individuals_in n i [] m h b E = tt
  individuals_in n i (e ∷ l) m h b E = (
    record {
      elements = rw (lt-ltb e n E.0) refl;
      rest = rw (lt-ltb i d.header.individuals (omega arith)) refl;
      small = (omega arith, (omega arith, (omega (arith, E.0), tt)));
    },
    individuals_in n (i + 1) l m (omega arith) b E.1,
  )

  last_line : (s : State) → length s.individuals ≡ d.header.individuals → (f line : ℕ) (v : Seen) → v.so_far ≡ s → 0 < f → state_by f d fresh line v [] ≡ stated s
  unfolding state_by
  last_line s m zero line v e h = absurd (omega arith)
  last_line s m (suc f) line v e h = ap (ended d) e ∙ rw (eq-eqb (length s.individuals) d.header.individuals m) refl

  module _ (s : State) (W : Writable) (S : Stating d fresh s) where
    class_in_lem : (p : ℕ × List ℕ) → ClassLine d fresh s.size p → LineIn 51 s.size p
    class_in_lem p C = record {
      elements = C.elements;
      rest = and_both C.id C.rise;
      small = (omega arith, (omega (arith, class_below_lem d fresh p.0 C.id, W.classes), numbers_small s.size p.1 S.lines.few C.elements));
    }

    role_in : (p : ℕ × List ℕ) → RoleLine d s.size p → LineIn 52 s.size p
    role_in p R = record {
      elements = R.elements;
      rest = and_both (lt-ltb p.0 d.header.roles R.id) R.rise;
      small = (omega arith, (omega (arith, R.id, W.roles), numbers_small s.size p.1 S.lines.few R.elements));
    }

    abbrev individual_lines : List (ℕ × List ℕ)
    individual_lines = numbered 0 s.individuals

    -- a kind not yet begun
    all_later : (m j k : ℕ) (l : List (ℕ × List ℕ)) → m < k → Each (λ (p : ℕ × List ℕ). Later m j k p.0) l
    all_later m j k l h = each_any (λ (p : ℕ × List ℕ). Later m j k p.0) (λ p. inl h) l

    on_individuals : (f line : ℕ) (w : Seen) → w.kind ≤ 52 → w.so_far ≡ state s.size s.classes s.roles [] → length (lines_text 53 individual_lines) < f → state_by f d fresh line w (lines_text 53 individual_lines) ≡ stated s
    on_individuals f line w m e h =
        let t = lines_text 53 individual_lines in
        ap (state_by f d fresh line w) (sym (append-nil t))
        ∙ lines_go s 53 (omega arith) (omega arith) [] individual_lines w (omega arith) (all_later w.kind w.id 53 individual_lines (omega arith)) (numbered_rise 0 s.individuals)
        (subst (λ (n : ℕ). Each (LineIn 53 n) individual_lines) (ap (λ (v : State). v.size) (sym e)) (individuals_in s.size 0 s.individuals S.lines.few (omega (arith, S.many)) W.individuals S.lines.individuals))
        (λ f line v m q g. last_line s S.many f line v (q ∙ ap (λ (v : State). entered_all v 53 individual_lines) e ∙ entered_individuals (state s.size s.classes s.roles []) 0 s.individuals) g)
        f line (omega (arith, ap length (append-nil t)))

    on_roles : (f line : ℕ) (w : Seen) → w.kind ≤ 51 → w.so_far ≡ state s.size s.classes [] [] → length (lines_text 52 s.roles ++ lines_text 53 individual_lines) < f
        → state_by f d fresh line w (lines_text 52 s.roles ++ lines_text 53 individual_lines) ≡ stated s
    on_roles f line w m e h =
        lines_go s 52 (omega arith) (omega arith) (lines_text 53 individual_lines) s.roles w (omega arith) (all_later w.kind w.id 52 s.roles (omega arith)) S.lines.role_ids
        (subst (λ (n : ℕ). Each (LineIn 52 n) s.roles) (ap (λ (v : State). v.size) (sym e)) (each_map (RoleLine d s.size) (LineIn 52 s.size) role_in s.roles S.lines.roles))
        (λ f line v m q g. on_individuals f line v m (q ∙ ap (λ (v : State). entered_all v 52 s.roles) e ∙ entered_roles (state s.size s.classes [] []) s.roles) g)
        f line h

    on_classes : (f line : ℕ) → length (lines_text 51 s.classes ++ (lines_text 52 s.roles ++ lines_text 53 individual_lines)) < f
        → state_by f d fresh line (seen 50 0 (state s.size [] [] [])) (lines_text 51 s.classes ++ (lines_text 52 s.roles ++ lines_text 53 individual_lines)) ≡ stated s
    on_classes f line h =
        lines_go s 51 (omega arith) (omega arith) (lines_text 52 s.roles ++ lines_text 53 individual_lines) s.classes (seen 50 0 (state s.size [] [] [])) (omega arith) (all_later 50 0 51 s.classes (omega arith)) S.lines.class_ids
        (each_map (ClassLine d fresh s.size) (LineIn 51 s.size) class_in_lem s.classes S.lines.classes)
        (λ f line v m q g. on_roles f line v m (q ∙ entered_classes (state s.size [] [] []) s.classes) g)
        f line h

    pub printed_read : read_state d fresh (printed s) ≡ stated s
    unfolding read_state printed
    printed_read =
        let rest = lines_text 51 s.classes ++ (lines_text 52 s.roles ++ lines_text 53 individual_lines) in
        let start = seen 50 0 (state s.size [] [] []) in
        ap (on_count d fresh) (row_printed 50 (s.size ∷ []) rest (omega arith, (omega (arith, S.lines.few), tt)))
        ∙ ap (on_line (λ w. state_by (suc (length rest)) d fresh 2 w rest) 1 start) (and_both (le-leb 1 s.size S.lines.some) (le-leb s.size most_elements S.lines.few))
        ∙ on_classes (suc (length rest)) 2 (omega arith)
