-- The tables hold what breaks a clause: an element fits behind others exactly where it breaks every atom that it makes known; so
-- the search by the tables finds the least elements that break it. Assumes nothing.
use Rattle.std.proofs.Math.Bool.{and_assoc}
use Rattle.std.proofs.lemmas.Bool.{false_from_ne_true}
use mathlib.Core.Path.{◌≡◌, refl, sym, ap, ap₂, ◌∙◌}
use mathlib.Core.Bool.{Bool, true, false, not, ◌&&◌, ◌||◌, false≢true}
use mathlib.Core.List.{List, [], ◌∷◌, ◌++◌}
use mathlib.Core.Logic.{◌⊎◌, inl, inr}
use mathlib.Core.Option.{none}
use Prim.Native.Nat.{ℕ, zero, suc, ◌+◌, ◌<◌, ◌≤◌}
use native.Mathlib.Omega.{arith}
use lib.ListN.{length, get_or, take, length-append}
use lib.Seq.{take-suc, take-length, get_or-take, length-take-le}
use lib.Dec.{eqb}
use borrow.Author.Tests.{eq-eqb, ne_eqb, eqb-true, eqb-false}
use Rattle.ir.specs.Pick.{pick}
use Rattle.ir.specs.Atoms.{atom_vars}
use Rattle.ir.specs.declared.atom.Atom.{Atom}
use Rattle.ir.specs.declared.atom.Atom.TheVariants.{Class, Exists, AtMost, AtLeast, Equal, Role as RoleAtom}
use Rattle.rules.specs.Base.{all, contains}
use Rattle.rules.specs.State.{Clause}
use Rattle.rules.specs.Invariants.{Each, RisingFrom}
use Rattle.rules.specs.JointLaws.{Rising, insert_rising}
use Rattle.rules.specs.EachLaws.{each_any, each_left, each_right, each_map}
use Rattle.rules.specs.Semantics.{Interpretation, implies, chosen, atom_holds, inserted, vars_of, clause_vars}
use Rattle.meaning.specs.Truth.{or_none, and_unit, any_append, each_all, and_crossed}
use Rattle.meaning.specs.Choices.{AgreeOn, atom_agree, InVars, in_vars}
use Rattle.states.specs.Conditions.{rises, behind, chosen_from, clause_broken}
use Rattle.states.specs.ChainLaws.{first_same}
use Rattle.states.specs.SearchLaws.{search}
use Rattle.states.specs.LiteralLaws.{Distinct, unchosen, decided, all_and, all_on, next_breaks, clause_search}
use Rattle.clausetests.specs.Fitting.{turned, only_in, both_in, atom_one, atom_two, clause_one, clause_two}
use Rattle.clausetests.specs.Search.{narrowed, search_by}
use Rattle.clausetests.proofs.PlaceLaws.{nth_in, places_same, both_means, both_there, both_turned}

-- ---- a clause's variables: each once, and every atom has only these
rising_out : (x y : ℕ) (l : List ℕ) → RisingFrom x l → y ≤ x → contains l y ≡ false
rising_out x y [] r h = refl
rising_out x y (z ∷ l) r h = rw (ne_eqb y z (λ e. omega (arith, r.0)), rising_out z y l r.1 (omega (arith, r.0))) refl

rising_distinct : (l : List ℕ) → Rising l → Distinct l
rising_distinct [] r = tt
rising_distinct (x ∷ l) r = (rising_out x x l r (omega arith), rising_distinct l (rest x l r))
  where
    rest : (x : ℕ) (l : List ℕ) → RisingFrom x l → Rising l
    rest x [] r = tt
    rest x (y ∷ l) r = r.1

inserted_rising : (vs l : List ℕ) → Rising l → Rising (inserted vs l)
unfolding inserted
inserted_rising [] l r = r
inserted_rising (v ∷ vs) l r = insert_rising v (inserted vs l) (inserted_rising vs l r)

vars_rising : (l : List Atom) → Rising (vars_of l)
unfolding vars_of
vars_rising [] = tt
vars_rising (a ∷ l) = inserted_rising (atom_vars a) (vars_of l) (vars_rising l)

pub vars_distinct : (c : Clause) → Distinct (clause_vars c)
vars_distinct c = rising_distinct (clause_vars c) (vars_rising (c.body ++ c.head))

all_decided : (vs : List ℕ) (l : List Atom) → Each (InVars vs) l → Each (λ a. decided vs (length vs) a ≡ true) l
all_decided vs l h = each_map (InVars vs) (λ a. decided vs (length vs) a ≡ true) (λ a q. ap (λ (t : List ℕ). all (contains t) (atom_vars a)) (take-length vs) ∙ each_all (contains vs) (atom_vars a) q) l h

-- ---- places
contains_next : (vs : List ℕ) (j u : ℕ) → j < length vs → contains (take (suc j) vs) u ≡ contains (take j vs) u || eqb u (get_or vs j 0)
contains_next vs j u h = ap (λ (t : List ℕ). contains t u) (take-suc vs j 0 h) ∙ any_append (eqb u) (take j vs) (get_or vs j 0 ∷ []) ∙ ap (λ b. contains (take j vs) u || b) (or_none (eqb u (get_or vs j 0)))

-- what is in a list has a place there
find_place : (l : List ℕ) (u : ℕ) → contains l u ≡ true → (i : ℕ) × (i < length l) × (get_or l i 0 ≡ u)
find_place [] u h = absurd (false≢true h)
find_place (v ∷ l) u h = go (eqb u v) refl (find_place l u)
  where
    go : (b : Bool) → eqb u v ≡ b → (contains l u ≡ true → (i : ℕ) × (i < length l) × (get_or l i 0 ≡ u)) → (i : ℕ) × (i < suc (length l)) × (get_or (v ∷ l) i 0 ≡ u)
    go true e r = (0, omega arith, sym (eqb-true u v e))
    go false e r = let q = r (rw e at h) in (suc q.0, omega (arith, q.1), q.2)

-- the element chosen for the variable at place i
chosen_nth : (f : ℕ → ℕ) (vs l : List ℕ) (i : ℕ) → Distinct vs → i < length vs → i < length l → chosen_from f vs l (get_or vs i 0) ≡ get_or l i 0
unfolding chosen_from
chosen_nth f [] l i D a b = absurd (omega arith)
chosen_nth f (v ∷ vs) [] i D a b = absurd (omega arith)
chosen_nth f (v ∷ vs) (x ∷ l) zero D a b = unchosen (chosen f v x) vs l v D.0 ∙ rw (eq-eqb v v refl) refl
chosen_nth f (v ∷ vs) (x ∷ l) (suc i) D a b = chosen_nth (chosen f v x) vs l i D.1 (omega arith) (omega arith)

nth_front : (p : List ℕ) (x i : ℕ) → i < length p → get_or (p ++ (x ∷ [])) i 0 ≡ get_or p i 0
nth_front [] x i h = absurd (omega arith)
nth_front (y ∷ p) x zero h = refl
nth_front (y ∷ p) x (suc i) h = nth_front p x i (omega arith)

nth_last : (p : List ℕ) (x : ℕ) → get_or (p ++ (x ∷ [])) (length p) 0 ≡ x
nth_last [] x = refl
nth_last (y ∷ p) x = nth_last p x

-- ---- what fits at place j behind the elements p, which stand from place i on
abbrev fits_from : (ℕ → ℕ → ℕ → ℕ → Bool) → ℕ → List ℕ → ℕ → ℕ → Bool
fits_from two i [] j x = true
fits_from two i (e ∷ p) j x = two i j e x && fits_from two (suc i) p j x

abbrev fitting : (ℕ → ℕ → Bool) → (ℕ → ℕ → ℕ → ℕ → Bool) → List ℕ → ℕ → ℕ → Bool
fitting one two p j x = one j x && fits_from two 0 p j x

fits_snoc : (two : ℕ → ℕ → ℕ → ℕ → Bool) (i : ℕ) (p : List ℕ) (e j x : ℕ) → fits_from two i (p ++ (e ∷ [])) j x ≡ fits_from two i p j x && two (i + length p) j e x
fits_snoc two i [] e j x = let z : i ≡ i + 0 = omega arith in and_unit (two i j e x) ∙ ap (λ (k : ℕ). two k j e x) z
fits_snoc two i (d ∷ p) e j x =
    let z : suc i + length p ≡ i + suc (length p) = omega arith in
    ap (λ b. two i j d x && b) (fits_snoc two (suc i) p e j x ∙ ap (λ (k : ℕ). fits_from two (suc i) p j x && two k j e x) z) ∙ sym (and_assoc (two i j d x) (fits_from two (suc i) p j x) (two (i + suc (length p)) j e x))

fits_true : (two : ℕ → ℕ → ℕ → ℕ → Bool) (i : ℕ) (p : List ℕ) (j x : ℕ) → ((q : ℕ) → q < length p → two (i + q) j (get_or p q 0) x ≡ true) → fits_from two i p j x ≡ true
fits_true two i [] j x h = refl
fits_true two i (e ∷ p) j x h =
    let z : i + 0 ≡ i = omega arith in
    rw (sym (ap (λ (k : ℕ). two k j e x) z) ∙ h 0 (omega arith), fits_true two (suc i) p j x (λ q l. let y : suc i + q ≡ i + suc q = omega arith in ap (λ (k : ℕ). two k j (get_or p q 0) x) y ∙ h (suc q) (omega arith))) refl

fits_one : (two : ℕ → ℕ → ℕ → ℕ → Bool) (i : ℕ) (p : List ℕ) (j x r : ℕ) → r < length p → ((q : ℕ) → q < length p → (q ≡ r → ⊥) → two (i + q) j (get_or p q 0) x ≡ true) → fits_from two i p j x ≡ two (i + r) j (get_or p r 0) x
fits_one two i [] j x r l h = absurd (omega arith)
fits_one two i (e ∷ p) j x zero l h =
    let z : i ≡ i + 0 = omega arith in
    ap (λ b. two i j e x && b) (fits_true two (suc i) p j x (λ q k. let y : suc i + q ≡ i + suc q = omega arith in ap (λ (k : ℕ). two k j (get_or p q 0) x) y ∙ h (suc q) (omega arith) (λ w. omega arith))) ∙ and_unit (two i j e x) ∙ ap (λ (k : ℕ). two k j e x) z
fits_one two i (e ∷ p) j x (suc r) l h =
    let z : i + 0 ≡ i = omega arith in
    let w : suc i + r ≡ i + suc r = omega arith in
    rw (sym (ap (λ (k : ℕ). two k j e x) z) ∙ h 0 (omega arith) (λ q. omega arith))
    (fits_one two (suc i) p j x r (omega arith) (λ q k n. let y : suc i + q ≡ i + suc q = omega arith in ap (λ (k : ℕ). two k j (get_or p q 0) x) y ∙ h (suc q) (omega arith) (λ m. n (omega arith))) ∙ ap (λ (k : ℕ). two k j (get_or p r 0) x) w)

all_true : {A : Type 0} (l : List A) → all (λ (_ : A). true) l ≡ true
all_true [] = refl
all_true (a ∷ l) = all_true l

fits_all : (t : Atom → ℕ → ℕ → ℕ → ℕ → Bool) (l : List Atom) (i : ℕ) (p : List ℕ) (j x : ℕ) → all (λ a. fits_from (t a) i p j x) l ≡ fits_from (λ k q e y. all (λ a. t a k q e y) l) i p j x
fits_all t l i [] j x = all_true l
fits_all t l i (e ∷ p) j x = all_and (λ a. t a i j e x) (λ a. fits_from (t a) (suc i) p j x) l ∙ ap (λ b. all (λ a. t a i j e x) l && b) (fits_all t l (suc i) p j x)

fits_and : (t u : ℕ → ℕ → ℕ → ℕ → Bool) (i : ℕ) (p : List ℕ) (j x : ℕ) → fits_from t i p j x && fits_from u i p j x ≡ fits_from (λ k q e y. t k q e y && u k q e y) i p j x
fits_and t u i [] j x = refl
fits_and t u i (e ∷ p) j x = and_crossed (t i j e x) (fits_from t (suc i) p j x) (u i j e x) (fits_from u (suc i) p j x) ∙ ap (λ b. (t i j e x && u i j e x) && b) (fits_and t u (suc i) p j x)

-- ---- the two searches
module _ (n : ℕ) (one : ℕ → ℕ → Bool) (two : ℕ → ℕ → ℕ → ℕ → Bool) (next : List ℕ → ℕ → Bool) (k : ℕ) (so : (p : List ℕ) (x : ℕ) → length p < k → next p x ≡ fitting one two p (length p) x) where
  same_search : (r : ℕ) (p : List ℕ) (F : ℕ → ℕ → Bool) → length p + r ≤ k → ((q y : ℕ) → F q y ≡ fitting one two p q y) → search (rises 0 n) next r p ≡ search_by n two r (length p) F
  unfolding search search_by
  same_search zero p F h f = refl
  same_search (suc r) p F h f = first_same
      (λ x. pick (next p x) (behind x (search (rises 0 n) next r (p ++ (x ∷ [])))) none)
      (λ x. pick (F (length p) x) (behind x (search_by n two r (length p + 1) (narrowed two (length p) x F))) none) 0 n
      (λ x _.
      let e : length (p ++ (x ∷ [])) ≡ length p + 1 = length-append p (x ∷ []) in
      let g : next p x ≡ F (length p) x = so p x (omega arith) ∙ sym (f (length p) x) in
      let s : search (rises 0 n) next r (p ++ (x ∷ [])) ≡ search_by n two r (length p + 1) (narrowed two (length p) x F) =
      same_search r (p ++ (x ∷ [])) (narrowed two (length p) x F) (omega arith)
      (λ q y. ap (λ b. b && two (length p) q x y) (f q y) ∙ and_assoc (one q y) (fits_from two 0 p q y) (two (length p) q x y) ∙ ap (λ b. one q y && b) (sym (fits_snoc two 0 p x q y ∙ front p q x y)))
      ∙ ap (λ (m : ℕ). search_by n two r m (narrowed two (length p) x F)) e in
      rw (g, s) refl)
    where
      front : (p : List ℕ) (q x y : ℕ) → fits_from two 0 p q y && two (0 + length p) q x y ≡ fits_from two 0 p q y && two (length p) q x y
      front p q x y = let z : 0 + length p ≡ length p = omega arith in ap (λ (m : ℕ). fits_from two 0 p q y && two m q x y) z

-- ---- one atom, of the variables L, that means H: which of the tables it stands in
module _ (vs : List ℕ) (D : Distinct vs) (p : List ℕ) (x : ℕ) (lt : length p < length vs) (L : List ℕ) (H : (ℕ → ℕ) → Bool) (agree : (f g : ℕ → ℕ) → AgreeOn L f g → H f ≡ H g) where
  abbrev j : ℕ
  j = length p

  abbrev new : ℕ
  new = get_or vs j 0

  abbrev pick_all : ℕ → ℕ
  pick_all = chosen_from (λ _. 0) vs (p ++ (x ∷ []))

  abbrev known : Bool
  known = all (contains (take (suc j) vs)) L && not (all (contains (take j vs)) L)

  abbrev pair_test : ℕ → ℕ → ℕ → ℕ → Bool
  pair_test i q e y = implies (both_in (get_or vs i 0) (get_or vs q 0) L) (H (chosen (λ _. e) (get_or vs q 0) y))

  abbrev Broken : Type 0
  Broken = implies known (H pick_all) ≡ implies (only_in new L) (H (λ _. x)) && fits_from pair_test 0 p j x

  pair_off : (q : ℕ) → both_in (get_or vs q 0) new L ≡ false → pair_test (0 + q) j (get_or p q 0) x ≡ true
  pair_off q e = let z : 0 + q ≡ q = omega arith in rw (z, e) refl

  -- not known yet, or known before
  idle : known ≡ false → only_in new L ≡ false → ((i : ℕ) → i < j → both_in (get_or vs i 0) new L ≡ false) → Broken
  idle a o b = rw (a, o) (sym (fits_true pair_test 0 p j x (λ q h. pair_off q (b q h))))

  -- of the new variable alone
  alone : known ≡ true → only_in new L ≡ true → ((i : ℕ) → i < j → both_in (get_or vs i 0) new L ≡ false) → H pick_all ≡ H (λ _. x) → Broken
  alone a o b e = rw (a, o, fits_true pair_test 0 p j x (λ q h. pair_off q (b q h))) (e ∙ sym (and_unit (H (λ _. x))))

  -- of the new variable and the one at place i
  paired : (i : ℕ) → i < j → known ≡ true → only_in new L ≡ false → both_in (get_or vs i 0) new L ≡ true → ((q : ℕ) → q < j → (q ≡ i → ⊥) → both_in (get_or vs q 0) new L ≡ false) → H pick_all ≡ H (chosen (λ _. get_or p i 0) new x) → Broken
  paired i l a o b n e =
      let z : 0 + i ≡ i = omega arith in
      rw (a, o) (e ∙ sym (fits_one pair_test 0 p j x i l (λ q h m. pair_off q (n q h m)) ∙ rw (z, b) refl))

  -- the places before the new one
  below_new : (i : ℕ) → i < j → get_or vs i 0 ≡ new → ⊥
  below_new i h e = let q = places_same vs D i j (omega arith) lt e in omega arith

  in_front : (i u : ℕ) → i < j → u ≡ get_or vs i 0 → contains (take j vs) u ≡ true
  in_front i u h e =
      let l : length (take j vs) ≡ j = length-take-le j vs (omega arith) in
      ap (contains (take j vs)) (e ∙ sym (get_or-take j vs i 0 h)) ∙ nth_in (take j vs) i (omega arith)

  new_out : contains (take j vs) new ≡ false
  new_out = false_from_ne_true (contains (take j vs) new) (λ e.
      let f = find_place (take j vs) new e in
      let l : length (take j vs) ≡ j = length-take-le j vs (omega arith) in
      let h : f.0 < j = omega (arith, f.1) in
      below_new f.0 h (sym (get_or-take j vs f.0 0 h) ∙ f.2))

  place_of_lem : (u : ℕ) → contains (take j vs) u ≡ true → (i : ℕ) × (i < j) × (get_or vs i 0 ≡ u)
  place_of_lem u e =
      let f = find_place (take j vs) u e in
      let l : length (take j vs) ≡ j = length-take-le j vs (omega arith) in
      let h : f.0 < j = omega (arith, f.1) in
      (f.0, h, sym (get_or-take j vs f.0 0 h) ∙ f.2)

  long_all : length (p ++ (x ∷ [])) ≡ j + 1
  long_all = length-append p (x ∷ [])

  -- what is chosen
  pick_new : (u : ℕ) → u ≡ new → pick_all u ≡ x
  pick_new u e = ap pick_all e ∙ chosen_nth (λ _. 0) vs (p ++ (x ∷ [])) j D lt (omega (arith, long_all)) ∙ nth_last p x

  pick_old : (u i : ℕ) → i < j → get_or vs i 0 ≡ u → pick_all u ≡ get_or p i 0
  pick_old u i h e = ap pick_all (sym e) ∙ chosen_nth (λ _. 0) vs (p ++ (x ∷ [])) i D (omega arith) (omega (arith, long_all)) ∙ nth_front p x i h

  chosen_new : (u e : ℕ) → u ≡ new → chosen (λ _. e) new x u ≡ x
  chosen_new u e h = rw (eq-eqb u new h) refl

  chosen_old : (u e : ℕ) → (u ≡ new → ⊥) → chosen (λ _. e) new x u ≡ e
  chosen_old u e h = rw (ne_eqb u new h) refl

  next_in : (u : ℕ) → contains (take (suc j) vs) u ≡ contains (take j vs) u || eqb u new
  next_in u = contains_next vs j u lt

-- an atom of one variable
module _ (vs : List ℕ) (D : Distinct vs) (p : List ℕ) (x : ℕ) (lt : length p < length vs) (u : ℕ) (H : (ℕ → ℕ) → Bool) (agree : (f g : ℕ → ℕ) → AgreeOn (u ∷ []) f g → H f ≡ H g) where
  one_known : (e c : Bool) → eqb u (get_or vs (length p) 0) ≡ e → contains (take (length p) vs) u ≡ c → known vs D p x lt (u ∷ []) H agree ≡ ((c || e) && true) && not (c && true)
  one_known e c he hc = rw (next_in vs D p x lt (u ∷ []) H agree u, hc, he) refl

  one_case : (e c : Bool) → eqb u (get_or vs (length p) 0) ≡ e → contains (take (length p) vs) u ≡ c → Broken vs D p x lt (u ∷ []) H agree
  one_case true true he hc = absurd (false≢true (sym (new_out vs D p x lt (u ∷ []) H agree) ∙ sym (ap (contains (take (length p) vs)) (eqb-true u (get_or vs (length p) 0) he)) ∙ hc))
  one_case true false he hc = alone vs D p x lt (u ∷ []) H agree (one_known true false he hc) (rw he refl) (λ i h. refl) (agree (pick_all vs D p x lt (u ∷ []) H agree) (λ _. x) (pick_new vs D p x lt (u ∷ []) H agree u (eqb-true u (get_or vs (length p) 0) he), tt))
  one_case false true he hc = idle vs D p x lt (u ∷ []) H agree (one_known false true he hc) (rw he refl) (λ i h. refl)
  one_case false false he hc = idle vs D p x lt (u ∷ []) H agree (one_known false false he hc) (rw he refl) (λ i h. refl)

  one_atom : Broken vs D p x lt (u ∷ []) H agree
  one_atom = one_case (eqb u (get_or vs (length p) 0)) (contains (take (length p) vs) u) refl refl

-- an atom of two
module _ (vs : List ℕ) (D : Distinct vs) (p : List ℕ) (x : ℕ) (lt : length p < length vs) (u w : ℕ) (H : (ℕ → ℕ) → Bool) (agree : (f g : ℕ → ℕ) → AgreeOn (u ∷ w ∷ []) f g → H f ≡ H g) where
  abbrev M : List ℕ
  M = u ∷ w ∷ []

  abbrev t : ℕ
  t = get_or vs (length p) 0

  two_known : (e f c d : Bool) → eqb u t ≡ e → eqb w t ≡ f → contains (take (length p) vs) u ≡ c → contains (take (length p) vs) w ≡ d → known vs D p x lt M H agree ≡ ((c || e) && ((d || f) && true)) && not (c && (d && true))
  two_known e f c d he hf hc hd = rw (next_in vs D p x lt M H agree u, next_in vs D p x lt M H agree w, hc, hd, he, hf) refl

  old_known : (c d : Bool) → ((c || false) && ((d || false) && true)) && not (c && (d && true)) ≡ false
  old_known true true = refl
  old_known true false = refl
  old_known false true = refl
  old_known false false = refl

  -- no pair with an earlier place
  no_pair_at : (i : ℕ) → i < length p → (u ≡ get_or vs i 0 → w ≡ t → ⊥) → (u ≡ t → w ≡ get_or vs i 0 → ⊥) → both_in (get_or vs i 0) t M ≡ false
  no_pair_at i h f g = false_from_ne_true (both_in (get_or vs i 0) t M) (λ e. go (both_means (get_or vs i 0) t u w e))
    where
      go : ((u ≡ get_or vs i 0) × (w ≡ t)) ⊎ ((u ≡ t) × (w ≡ get_or vs i 0)) → ⊥
      go (inl q) = f q.0 q.1
      go (inr q) = g q.0 q.1

  no_pair : ((i : ℕ) → i < length p → u ≡ get_or vs i 0 → w ≡ t → ⊥) → ((i : ℕ) → i < length p → u ≡ t → w ≡ get_or vs i 0 → ⊥) → (i : ℕ) → i < length p → both_in (get_or vs i 0) t M ≡ false
  no_pair f g i h = no_pair_at i h (f i h) (g i h)

  off : (a : ℕ) → contains (take (length p) vs) a ≡ false → (i : ℕ) → i < length p → a ≡ get_or vs i 0 → ⊥
  off a c i h e = false≢true (sym c ∙ in_front vs D p x lt M H agree i a h e)

  in_new : (a : ℕ) → eqb a t ≡ true → contains (take (length p) vs) a ≡ true → ⊥
  in_new a e c = false≢true (sym (new_out vs D p x lt M H agree) ∙ sym (ap (contains (take (length p) vs)) (eqb-true a t e)) ∙ c)

  two_case : (e f c d : Bool) → eqb u t ≡ e → eqb w t ≡ f → contains (take (length p) vs) u ≡ c → contains (take (length p) vs) w ≡ d → Broken vs D p x lt M H agree
  two_case true f true d he hf hc hd = absurd (in_new u he hc)
  two_case true true false true he hf hc hd = absurd (in_new w hf hd)
  two_case true true false false he hf hc hd = alone vs D p x lt M H agree (two_known true true false false he hf hc hd) (rw (he, hf) refl) (no_pair (λ i h a b. off u hc i h a) (λ i h a b. off w hd i h b))
      (agree (pick_all vs D p x lt M H agree) (λ _. x) (pick_new vs D p x lt M H agree u (eqb-true u t he), (pick_new vs D p x lt M H agree w (eqb-true w t hf), tt)))
  two_case true false false true he hf hc hd =
      let q = place_of_lem vs D p x lt M H agree w hd in
      let n = eqb-true u t he in
      paired vs D p x lt M H agree q.0 q.1 (two_known true false false true he hf hc hd) (rw (he, hf) refl)
      (ap₂ (λ (a b : ℕ). both_in (get_or vs q.0 0) t (a ∷ b ∷ [])) n (sym q.2) ∙ both_turned (get_or vs q.0 0) t)
      (λ i h m. no_pair_at i h (λ a b. off u hc i h a) (λ a b. m (places_same vs D i q.0 (omega arith) (omega (arith, q.1)) (sym b ∙ sym q.2))))
      (agree (pick_all vs D p x lt M H agree) (chosen (λ _. get_or p q.0 0) t x)
      (pick_new vs D p x lt M H agree u n ∙ sym (chosen_new vs D p x lt M H agree u (get_or p q.0 0) n), (pick_old vs D p x lt M H agree w q.0 q.1 q.2 ∙ sym (chosen_old vs D p x lt M H agree w (get_or p q.0 0) (eqb-false w t hf)), tt)))
  two_case true false false false he hf hc hd = idle vs D p x lt M H agree (two_known true false false false he hf hc hd) (rw (he, hf) refl) (no_pair (λ i h a b. off u hc i h a) (λ i h a b. off w hd i h b))
  two_case false true c true he hf hc hd = absurd (in_new w hf hd)
  two_case false true true false he hf hc hd =
      let q = place_of_lem vs D p x lt M H agree u hc in
      let n = eqb-true w t hf in
      paired vs D p x lt M H agree q.0 q.1 (two_known false true true false he hf hc hd) (rw he refl)
      (ap₂ (λ (a b : ℕ). both_in (get_or vs q.0 0) t (a ∷ b ∷ [])) (sym q.2) n ∙ both_there (get_or vs q.0 0) t)
      (λ i h m. no_pair_at i h (λ a b. m (places_same vs D i q.0 (omega arith) (omega (arith, q.1)) (sym a ∙ sym q.2))) (λ a b. off w hd i h b))
      (agree (pick_all vs D p x lt M H agree) (chosen (λ _. get_or p q.0 0) t x)
      (pick_old vs D p x lt M H agree u q.0 q.1 q.2 ∙ sym (chosen_old vs D p x lt M H agree u (get_or p q.0 0) (eqb-false u t he)), (pick_new vs D p x lt M H agree w n ∙ sym (chosen_new vs D p x lt M H agree w (get_or p q.0 0) n), tt)))
  two_case false true false false he hf hc hd = idle vs D p x lt M H agree (two_known false true false false he hf hc hd) (rw he refl) (no_pair (λ i h a b. off u hc i h a) (λ i h a b. off w hd i h b))
  two_case false false c d he hf hc hd = idle vs D p x lt M H agree (two_known false false c d he hf hc hd ∙ old_known c d) (rw he refl) (no_pair (λ i h a b. eqb-false w t hf b) (λ i h a b. eqb-false u t he a))

  two_atom : Broken vs D p x lt M H agree
  two_atom = two_case (eqb u t) (eqb w t) (contains (take (length p) vs) u) (contains (take (length p) vs) w) refl refl refl refl

-- ---- the clause
module _ (I : Interpretation) (vs : List ℕ) (D : Distinct vs) (p : List ℕ) (x : ℕ) (lt : length p < length vs) (head : Bool) where
  abbrev newly : Atom → Bool
  newly a = implies (decided vs (suc (length p)) a && not (decided vs (length p) a)) (turned head (atom_holds I (chosen_from (λ _. 0) vs (p ++ (x ∷ []))) a))

  abbrev tabled : Atom → Bool
  tabled a = atom_one I vs head a (length p) x && fits_from (atom_two I vs head a) 0 p (length p) x

  atom_next : (a : Atom) → newly a ≡ tabled a
  atom_next (Class k v) = one_atom vs D p x lt v (λ f. turned head (atom_holds I f (Class k v))) (λ f g e. ap (turned head) (atom_agree I f g (Class k v) e))
  atom_next (RoleAtom r u v) = two_atom vs D p x lt u v (λ f. turned head (atom_holds I f (RoleAtom r u v))) (λ f g e. ap (turned head) (atom_agree I f g (RoleAtom r u v) e))
  atom_next (Exists r k v) = one_atom vs D p x lt v (λ f. turned head (atom_holds I f (Exists r k v))) (λ f g e. ap (turned head) (atom_agree I f g (Exists r k v) e))
  atom_next (AtMost r q n v) = one_atom vs D p x lt v (λ f. turned head (atom_holds I f (AtMost r q n v))) (λ f g e. ap (turned head) (atom_agree I f g (AtMost r q n v) e))
  atom_next (AtLeast r q n v) = one_atom vs D p x lt v (λ f. turned head (atom_holds I f (AtLeast r q n v))) (λ f g e. ap (turned head) (atom_agree I f g (AtLeast r q n v) e))
  atom_next (Equal u v) = two_atom vs D p x lt u v (λ f. turned head (atom_holds I f (Equal u v))) (λ f g e. ap (turned head) (atom_agree I f g (Equal u v) e))

  atoms_next : (l : List Atom) → all newly l ≡ all (λ a. atom_one I vs head a (length p) x) l && fits_from (λ i j e y. all (λ a. atom_two I vs head a i j e y) l) 0 p (length p) x
  atoms_next l =
      all_on newly tabled l (each_any (λ a. newly a ≡ tabled a) atom_next l)
      ∙ all_and (λ a. atom_one I vs head a (length p) x) (λ a. fits_from (atom_two I vs head a) 0 p (length p) x) l
      ∙ ap (λ b. all (λ a. atom_one I vs head a (length p) x) l && b) (fits_all (atom_two I vs head) l 0 p (length p) x)

module _ (I : Interpretation) (c : Clause) where
  abbrev only : Distinct (clause_vars c)
  only = vars_distinct c

  next_fits : (p : List ℕ) (x : ℕ) → length p < length (clause_vars c) → next_breaks I c only p x ≡ fitting (clause_one I c) (clause_two I c) p (length p) x
  next_fits p x lt =
      let vs = clause_vars c in
      let k = length p in
      ap₂ ◌&&◌ (atoms_next I vs only p x lt false c.body) (atoms_next I vs only p x lt true c.head)
      ∙ and_crossed (all (λ a. atom_one I vs false a k x) c.body) (fits_from (λ i j e y. all (λ a. atom_two I vs false a i j e y) c.body) 0 p k x) (all (λ a. atom_one I vs true a k x) c.head) (fits_from (λ i j e y. all (λ a. atom_two I vs true a i j e y) c.head) 0 p k x)
      ∙ ap (λ b. clause_one I c k x && b) (fits_and (λ i j e y. all (λ a. atom_two I vs false a i j e y) c.body) (λ i j e y. all (λ a. atom_two I vs true a i j e y) c.head) 0 p k x)

  -- the search by the tables finds the least elements that break the clause
  pub broken_search : clause_broken I c ≡ search_by I.size (clause_two I c) (length (clause_vars c)) 0 (clause_one I c)
  broken_search =
      let vs = clause_vars c in
      let every = in_vars (c.body ++ c.head) in
      clause_search I c only (all_decided vs c.body (each_left (InVars vs) c.body c.head every)) (all_decided vs c.head (each_right (InVars vs) c.body c.head every))
      ∙ same_search I.size (clause_one I c) (clause_two I c) (next_breaks I c only) (length vs) next_fits (length vs) [] (clause_one I c) (omega arith) (λ q y. sym (and_unit (clause_one I c q y)))
