-- A state with other lines for the fresh classes: the sets that are given, as a text that can be entered. Assumes nothing.
use Rattle.std.specs.Prelude.{◌≡◌, Bool, get_or, eqb, leb}
use Rattle.std.proofs.Math.Path.{refl}
use Rattle.std.proofs.Common.{sym, ap, ◌∙◌}
use Rattle.std.proofs.Math.Bool.{true, false, false≢true, and-false}
use mathlib.Core.List.{List, [], ◌∷◌, ◌++◌}
use Prim.Native.Nat.{ℕ, zero, suc, ◌+◌, ◌-◌, ◌<◌, ◌≤◌}
use native.Mathlib.Omega.{arith}
use Rattle.std.proofs.Math.Decide.{ℕ_discrete}
use Rattle.std.proofs.Math.Dec.{ltb}
use borrow.Author.Tests.{ltb-true, leb-true, lt-ltb, le-ltb, le-leb, eq-eqb, ne_eqb}
use Rattle.ir.specs.Pick.{pick}
use Rattle.rules.specs.Base.{contains, kept, filter}
use Rattle.rules.specs.Deck.{Known, rising}
use Rattle.rules.specs.Run.{first_fresh}
use Rattle.rules.specs.Invariants.{Each}
use Rattle.rules.specs.EachLaws.{each_map, each_append}
use Rattle.rules.specs.Statements.{is_fresh}
use Rattle.rules.proofs.BranchLaws.{filter_each}
use Rattle.meaning.specs.Truth.{and_left, and_right, and_both, or_unit, by_truth, each_all}
use Rattle.states.specs.State.{State, state, numbers_at, interpretation_of, is_individual_class, takes_class}
use Rattle.states.specs.Conditions.{rises}
use Rattle.states.specs.Print.{IdsRise, ClassLine, Stating}
use Rattle.states.specs.StatingLaws.{ids_append}

-- ---- the elements of a set, rising
unfoldable pub elements_of : ℕ → (ℕ → Bool) → List ℕ
elements_of n f = filter f (rises 0 n)

rises_from : (a n : ℕ) → Each (λ x. (a ≤ x) × (x < a + n)) (rises a n)
unfolding rises
rises_from a zero = tt
rises_from a (suc n) = ((omega arith, omega arith), each_map (λ x. (suc a ≤ x) × (x < suc a + n)) (λ x. (a ≤ x) × (x < a + suc n)) (λ x h. (omega (arith, h.0), omega (arith, h.1))) (rises (suc a) n) (rises_from (suc a) n))

kept_from : (f : ℕ → Bool) (a n : ℕ) → Each (λ x. (a ≤ x) × (x < a + n)) (filter f (rises a n))
kept_from f a n = filter_each (λ x. (a ≤ x) × (x < a + n)) f (rises a n) (rises_from a n)

rising_cons : (x : ℕ) (l : List ℕ) → Each (λ y. x < y) l → rising l ≡ true → rising (x ∷ l) ≡ true
unfolding rising
rising_cons x [] u h = refl
rising_cons x (y ∷ l) u h = and_both (lt-ltb x y u.0) h

rising_kept : (f : ℕ → Bool) (a n : ℕ) → rising (filter f (rises a n)) ≡ true
unfolding rises filter rising
rising_kept f a zero = refl
rising_kept f a (suc n) =
    let l = filter f (rises (suc a) n) in
    by_truth (f a)
    (λ e. rw e (rising_cons a l (each_map (λ x. (suc a ≤ x) × (x < suc a + n)) (λ x. a < x) (λ x h. h.0) l (kept_from f (suc a) n)) (rising_kept f (suc a) n)))
    (λ e. rw e (rising_kept f (suc a) n))

not_in : (l : List ℕ) (x : ℕ) → Each (λ y. x < y) l → contains l x ≡ false
not_in [] x u = refl
not_in (y ∷ l) x u = rw (ne_eqb x y (λ e. let h = u.0 in omega arith)) (not_in l x u.1)

in_kept : (f : ℕ → Bool) (a n x : ℕ) → a ≤ x → x < a + n → contains (filter f (rises a n)) x ≡ f x
unfolding rises filter
in_kept f a zero x l h = absurd (omega arith)
in_kept f a (suc n) x l h = go (ℕ_discrete x a) (λ q. in_kept f (suc a) n x q (omega arith))
  where
    rest : List ℕ
    rest = filter f (rises (suc a) n)

    go : Dec (x ≡ a) → (suc a ≤ x → contains rest x ≡ f x) → contains (kept a rest (f a)) x ≡ f x
    go (yes q) r = by_truth (f a)
        (λ e. rw (e, eq-eqb x a q) (sym (ap f q ∙ e)))
        (λ e. rw e (not_in rest x (each_map (λ y. (suc a ≤ y) × (y < suc a + n)) (λ y. x < y) (λ y g. omega (arith, g.0)) rest (kept_from f (suc a) n)) ∙ sym (ap f q ∙ e)))
    go (no q) r = by_truth (f a) (λ e. rw (e, ne_eqb x a q) (r (omega arith))) (λ e. rw e (r (omega arith)))

-- ---- lines found by their ids
unfoldable pub fresh_lines : (ℕ → ℕ → Bool) → ℕ → ℕ → ℕ → List (ℕ × List ℕ)
fresh_lines sets n c zero = []
fresh_lines sets n c (suc k) = (c, elements_of n (sets c)) ∷ fresh_lines sets n (c + 1) k

abbrev pub is_declared : Known → (ℕ × List ℕ) → Bool
is_declared d p = ltb p.0 d.header.classes

-- the lines of declared classes, and one for each fresh class
abbrev pub refilled : Known → ℕ → (ℕ → ℕ → Bool) → State → State
refilled d fresh sets s = state s.size (filter (is_declared d) s.classes ++ fresh_lines sets s.size (first_fresh d) fresh) s.roles s.individuals

module _ (sets : ℕ → ℕ → Bool) (n : ℕ) where
  fresh_at : (c k i : ℕ) → c ≤ i → i < c + k → numbers_at (fresh_lines sets n c k) i ≡ elements_of n (sets i)
  unfolding fresh_lines numbers_at
  fresh_at c zero i l h = absurd (omega arith)
  fresh_at c (suc k) i l h = go (ℕ_discrete i c) (λ q. fresh_at (c + 1) k i q (omega arith))
    where
      go : Dec (i ≡ c) → (c + 1 ≤ i → numbers_at (fresh_lines sets n (c + 1) k) i ≡ elements_of n (sets i)) → pick (eqb i c) (elements_of n (sets c)) (numbers_at (fresh_lines sets n (c + 1) k) i) ≡ elements_of n (sets i)
      go (yes q) r = rw (eq-eqb i c q) (ap (λ (j : ℕ). elements_of n (sets j)) (sym q))
      go (no q) r = rw (ne_eqb i c q) (r (omega arith))

  fresh_ids_lem : (c k : ℕ) → Each (λ (p : ℕ × List ℕ). (c ≤ p.0) × (p.0 < c + k)) (fresh_lines sets n c k)
  unfolding fresh_lines
  fresh_ids_lem c zero = tt
  fresh_ids_lem c (suc k) = ((omega arith, omega arith), each_map (λ (p : ℕ × List ℕ). (c + 1 ≤ p.0) × (p.0 < c + 1 + k)) (λ p. (c ≤ p.0) × (p.0 < c + suc k)) (λ p h. (omega (arith, h.0), omega (arith, h.1))) (fresh_lines sets n (c + 1) k) (fresh_ids_lem (c + 1) k))

  fresh_rise : (c k : ℕ) → IdsRise (fresh_lines sets n c k)
  unfolding fresh_lines
  fresh_rise c zero = tt
  fresh_rise c (suc k) = (each_map (λ (p : ℕ × List ℕ). (c + 1 ≤ p.0) × (p.0 < c + 1 + k)) (λ p. c < p.0) (λ p h. omega (arith, h.0)) (fresh_lines sets n (c + 1) k) (fresh_ids_lem (c + 1) k), fresh_rise (c + 1) k)

-- no line has the id
none_at : (l : List (ℕ × List ℕ)) (c : ℕ) → Each (λ (p : ℕ × List ℕ). c ≡ p.0 → ⊥) l → numbers_at l c ≡ []
unfolding numbers_at
none_at [] c u = refl
none_at (p ∷ l) c u = rw (ne_eqb c p.0 u.0) (none_at l c u.1)

-- lines kept by their ids, then others
module _ (keep : ℕ → Bool) (m : List (ℕ × List ℕ)) (c : ℕ) where
  abbrev keeps : (ℕ × List ℕ) → Bool
  keeps p = keep p.0

  other : (p : ℕ × List ℕ) (b : Bool) → keep c ≡ b → (keep p.0 ≡ b → ⊥) → eqb c p.0 ≡ false
  other p b e h = ne_eqb c p.0 (λ q. h (ap keep (sym q) ∙ e))

  kept_at : (l : List (ℕ × List ℕ)) → keep c ≡ true → numbers_at m c ≡ [] → numbers_at (filter keeps l ++ m) c ≡ numbers_at l c
  unfolding numbers_at filter
  kept_at [] e h = h
  kept_at (p ∷ l) e h = by_truth (keep p.0)
      (λ q. rw q (ap (pick (eqb c p.0) p.1) (kept_at l e h)))
      (λ q. rw (q, other p true e (λ g. false≢true (sym q ∙ g))) (kept_at l e h))

  dropped_at : (l : List (ℕ × List ℕ)) → keep c ≡ false → numbers_at (filter keeps l ++ m) c ≡ numbers_at m c
  unfolding numbers_at filter
  dropped_at [] e = refl
  dropped_at (p ∷ l) e = by_truth (keep p.0)
      (λ q. rw (q, other p false e (λ g. false≢true (sym g ∙ q))) (dropped_at l e))
      (λ q. rw q (dropped_at l e))

ids_filter : (f : (ℕ × List ℕ) → Bool) (l : List (ℕ × List ℕ)) → IdsRise l → IdsRise (filter f l)
unfolding filter
ids_filter f [] u = tt
ids_filter f (p ∷ l) u = by_truth (f p) (λ e. rw e (filter_each (λ (q : ℕ × List ℕ). p.0 < q.0) f l u.0, ids_filter f l u.1)) (λ e. rw e (ids_filter f l u.1))

passed : {A : Type 0} (f : A → Bool) (l : List A) → Each (λ x. f x ≡ true) (filter f l)
unfolding filter
passed f [] = tt
passed f (x ∷ l) = by_truth (f x) (λ e. rw e (e, passed f l)) (λ e. rw e (passed f l))

module _ (d : Known) (fresh : ℕ) (sets : ℕ → ℕ → Bool) (s : State) (S : Stating d fresh s) where
  abbrev declared_lines : List (ℕ × List ℕ)
  declared_lines = filter (is_declared d) s.classes

  abbrev own_lines : List (ℕ × List ℕ)
  own_lines = fresh_lines sets s.size (first_fresh d) fresh

  fresh_is : (c : ℕ) → first_fresh d ≤ c → c < first_fresh d + fresh → is_fresh d fresh c ≡ true
  fresh_is c l h = and_both (le-leb (first_fresh d) c l) (lt-ltb c (first_fresh d + fresh) h)

  fresh_range : (c : ℕ) → is_fresh d fresh c ≡ true → (first_fresh d ≤ c) × (c < first_fresh d + fresh)
  fresh_range c e =
      (leb-true (first_fresh d) c (and_left (leb (first_fresh d) c) (ltb c (first_fresh d + fresh)) e), ltb-true c (first_fresh d + fresh) (and_right (leb (first_fresh d) c) (ltb c (first_fresh d + fresh)) e))

  -- ---- it keeps the reader's rules
  own_line : (c k : ℕ) → first_fresh d ≤ c → c + k ≤ first_fresh d + fresh → Each (ClassLine d fresh s.size) (fresh_lines sets s.size c k)
  unfolding fresh_lines elements_of
  own_line c zero l h = tt
  own_line c (suc k) l h =
      let n = s.size in
      let E = kept_from (sets c) 0 n in (
        record {
          id = rw (fresh_is c l (omega arith)) (or_unit (ltb c d.header.classes));
          elements = each_all (λ e. ltb e n) (filter (sets c) (rises 0 n)) (each_map (λ x. (0 ≤ x) × (x < 0 + n)) (λ x. ltb x n ≡ true) (λ x g. lt-ltb x n (omega (arith, g.1))) (filter (sets c) (rises 0 n)) E);
          rise = rising_kept (sets c) 0 n;
        },
        own_line (c + 1) k (omega arith) (omega arith),
      )

  pub refilled_stating : Stating d fresh (refilled d fresh sets s)
  refilled_stating =
      let O = S.lines in
      record {
        lines = record {
          some = O.some;
          few = O.few;
          classes = each_append (ClassLine d fresh s.size) declared_lines own_lines (filter_each (ClassLine d fresh s.size) (is_declared d) s.classes O.classes) (own_line (first_fresh d) fresh (omega arith) (omega arith));
          class_ids = ids_append declared_lines own_lines (ids_filter (is_declared d) s.classes O.class_ids) (fresh_rise sets s.size (first_fresh d) fresh)
              (each_map (λ (p : ℕ × List ℕ). is_declared d p ≡ true) (λ p. Each (λ (q : ℕ × List ℕ). p.0 < q.0) own_lines)
              (λ p e. each_map (λ (q : ℕ × List ℕ). (first_fresh d ≤ q.0) × (q.0 < first_fresh d + fresh)) (λ q. p.0 < q.0) (λ q h. omega (arith, h.0, ltb-true p.0 d.header.classes e)) own_lines (fresh_ids_lem sets s.size (first_fresh d) fresh))
              declared_lines (passed (is_declared d) s.classes));
          roles = O.roles;
          role_ids = O.role_ids;
          individuals = O.individuals;
        };
        many = S.many;
      }

  -- ---- its sets
  -- a class that is not fresh keeps its line, or has none as before
  own_none : (c : ℕ) → is_fresh d fresh c ≡ false → numbers_at own_lines c ≡ []
  own_none c e = none_at own_lines c (each_map (λ (p : ℕ × List ℕ). (first_fresh d ≤ p.0) × (p.0 < first_fresh d + fresh)) (λ p. c ≡ p.0 → ⊥)
      (λ p h q. false≢true (sym e ∙ ap (is_fresh d fresh) q ∙ fresh_is p.0 h.0 h.1)) own_lines (fresh_ids_lem sets s.size (first_fresh d) fresh))

  untaken : (c : ℕ) → takes_class d fresh c ≡ false → numbers_at s.classes c ≡ []
  untaken c e = none_at s.classes c (each_map (ClassLine d fresh s.size) (λ p. c ≡ p.0 → ⊥) (λ p C q. false≢true (sym e ∙ ap (takes_class d fresh) q ∙ C.id)) s.classes S.lines.classes)

  pub others_kept : (c : ℕ) → is_fresh d fresh c ≡ false → numbers_at (refilled d fresh sets s).classes c ≡ numbers_at s.classes c
  others_kept c e = by_truth (ltb c d.header.classes)
      (λ q. kept_at (λ i. ltb i d.header.classes) own_lines c s.classes q (own_none c e))
      (λ q. dropped_at (λ i. ltb i d.header.classes) own_lines c s.classes q ∙ own_none c e ∙ sym (untaken c (rw (q, e) refl)))

  pub others_same : (c : ℕ) → is_fresh d fresh c ≡ false → (interpretation_of d (refilled d fresh sets s)).class c ≡ (interpretation_of d s).class c
  others_same c e = ap {B = ℕ → Bool} (λ (l : List ℕ) (x : ℕ). pick (is_individual_class d c) (eqb x (get_or s.individuals (c - d.header.classes) 0)) (contains l x)) (others_kept c e)

  -- a fresh class has its set, of the elements
  pub fresh_given : (c x : ℕ) → is_fresh d fresh c ≡ true → x < s.size → (interpretation_of d (refilled d fresh sets s)).class c x ≡ sets c x
  unfolding elements_of
  fresh_given c x e h =
      let r = fresh_range c e in
      let beyond : is_individual_class d c ≡ false = rw (le-ltb c (d.header.classes + d.header.individuals) r.0) (and-false (leb d.header.classes c)) in
      let line : numbers_at (refilled d fresh sets s).classes c ≡ elements_of s.size (sets c) =
      dropped_at (λ i. ltb i d.header.classes) own_lines c s.classes (le-ltb c d.header.classes (omega (arith, r.0))) ∙ fresh_at sets s.size (first_fresh d) fresh c r.0 r.1 in
      rw beyond (ap (λ (l : List ℕ). contains l x) line ∙ in_kept (sets c) 0 s.size x (omega arith) (omega arith))
