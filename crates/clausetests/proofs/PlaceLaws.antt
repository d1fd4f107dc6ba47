-- An atom by the places of its variables: the one table that it narrows. Assumes nothing.
use Rattle.std.proofs.lemmas.Bool.{or_cases, false_from_ne_true}
use mathlib.Core.Path.{◌≡◌, refl, sym, ap, subst, ◌∙◌}
use mathlib.Core.Bool.{Bool, true, false, ◌&&◌, false≢true}
use mathlib.Core.List.{List, [], ◌∷◌}
use mathlib.Core.Logic.{◌⊎◌, inl, inr}
use Prim.Native.Nat.{ℕ, zero, suc, ◌+◌, ◌*◌, ◌<◌, ◌≤◌}
use native.Mathlib.Omega.{arith}
use lib.ListN.{length, get_or}
use lib.Seq.{length-take-le}
use lib.Dec.{eqb}
use borrow.Author.Tests.{eq-eqb, eqb-true}
use Rattle.ir.specs.Atoms.{atom_vars}
use Rattle.ir.specs.declared.atom.Atom.{Atom}
use Rattle.ir.specs.declared.atom.Atom.TheVariants.{Class, Exists, AtMost, AtLeast, Equal, Role as RoleAtom}
use Rattle.rules.specs.Base.{contains}
use Rattle.rules.specs.Invariants.{Each}
use Rattle.rules.specs.Semantics.{Interpretation, atom_holds, chosen}
use Rattle.meaning.specs.Choices.{InVars}
use Rattle.meaning.specs.Truth.{and_left, and_right, and_unit, or_unit}
use Rattle.states.specs.Masks.{mask_of}
use Rattle.states.specs.LiteralLaws.{Distinct}
use Rattle.sets.specs.Kept.{set_at}
use Rattle.sets.specs.Places.{vars_at}
use Rattle.clausetests.specs.declared.listed.Vars.{Vars}
use Rattle.clausetests.specs.Vars.{four, VarsAs, few, many}
use Rattle.clausetests.specs.Given.{AtomThere, OneIs, PairWith}
use Rattle.clausetests.specs.Fitting.{pair_at, Tables, turned, only_in, both_in, one_with, two_with, Changed, Meant, MeantThere}
use Rattle.clausetests.proofs.FittingLaws.{pair_within, tables_one, tables_two}

-- ---- variables and their places
pub vars_long : (vs : List ℕ) (v : Vars) → VarsAs vs v → v.n ≤ 4 → length vs ≡ v.n
vars_long vs v (few h e) l = ap length (sym e) ∙ length-take-le v.n (four v.ids) h
vars_long vs v (many h e) l = absurd (omega arith)

pub nth_in : (vs : List ℕ) (j : ℕ) → j < length vs → contains vs (get_or vs j 0) ≡ true
nth_in [] j h = absurd (omega arith)
nth_in (v ∷ vs) zero h = rw (eq-eqb v v refl) refl
nth_in (v ∷ vs) (suc j) h = rw (nth_in vs j (omega arith)) (or_unit (eqb (get_or vs j 0) v))

pub places_same : (vs : List ℕ) → Distinct vs → (i j : ℕ) → i < length vs → j < length vs → get_or vs i 0 ≡ get_or vs j 0 → i ≡ j
places_same [] D i j a b e = absurd (omega arith)
places_same (v ∷ vs) D zero zero a b e = refl
places_same (v ∷ vs) D zero (suc j) a b e = absurd (false≢true (sym D.0 ∙ ap (contains vs) e ∙ nth_in vs j (omega arith)))
places_same (v ∷ vs) D (suc i) zero a b e = absurd (false≢true (sym D.0 ∙ ap (contains vs) (sym e) ∙ nth_in vs i (omega arith)))
places_same (v ∷ vs) D (suc i) (suc j) a b e = ap suc (places_same vs D.1 i j (omega arith) (omega arith) e)

-- ---- the tests of an atom's variables
pub only_first : (u x : ℕ) (l : List ℕ) → only_in u (x ∷ l) ≡ true → x ≡ u
only_first u x l h = eqb-true x u (and_left (eqb x u) (only_in u l) h)

pub only_second : (u x y : ℕ) → only_in u (x ∷ y ∷ []) ≡ true → y ≡ u
only_second u x y h = only_first u y [] (and_right (eqb x u) (only_in u (y ∷ [])) h)

pub both_means : (s t x y : ℕ) → both_in s t (x ∷ y ∷ []) ≡ true → ((x ≡ s) × (y ≡ t)) ⊎ ((x ≡ t) × (y ≡ s))
both_means s t x y h = go (or_cases (eqb x s && eqb y t) (eqb x t && eqb y s) h)
  where
    go : (eqb x s && eqb y t ≡ true) ⊎ (eqb x t && eqb y s ≡ true) → ((x ≡ s) × (y ≡ t)) ⊎ ((x ≡ t) × (y ≡ s))
    go (inl e) = inl (eqb-true x s (and_left (eqb x s) (eqb y t) e), eqb-true y t (and_right (eqb x s) (eqb y t) e))
    go (inr e) = inr (eqb-true x t (and_left (eqb x t) (eqb y s) e), eqb-true y s (and_right (eqb x t) (eqb y s) e))

only_single : (x : ℕ) → only_in x (x ∷ []) ≡ true
only_single x = rw (eq-eqb x x refl) refl

only_double : (x : ℕ) → only_in x (x ∷ x ∷ []) ≡ true
only_double x = rw (eq-eqb x x refl) refl

pub both_there : (x y : ℕ) → both_in x y (x ∷ y ∷ []) ≡ true
both_there x y = rw (eq-eqb x x refl, eq-eqb y y refl) refl

pub both_turned : (x y : ℕ) → both_in x y (y ∷ x ∷ []) ≡ true
both_turned x y = rw (eq-eqb x x refl, eq-eqb y y refl) (or_unit (eqb y x && eqb x y))

-- an atom of two variables
abbrev head_of : List ℕ → ℕ
head_of [] = 0
head_of (x ∷ l) = x

one_is : (u v x y f : ℕ) → ◌≡◌ {A = List ℕ} (u ∷ v ∷ []) (x ∷ y ∷ []) → (x ≡ y → ⊥) → (f ≡ x) ⊎ (f ≡ y) → OneIs f u v
one_is u v x y f e h (inl z) = inl (ap head_of e ∙ sym z, λ q. h (sym z ∙ sym q ∙ ap (λ (l : List ℕ). get_or l 1 0) e))
one_is u v x y f e h (inr z) = inr (ap (λ (l : List ℕ). get_or l 1 0) e ∙ sym z, λ q. h (sym (ap head_of e) ∙ q ∙ z))

pub pair_with_lem : (a : Atom) (x y f : ℕ) → atom_vars a ≡ x ∷ y ∷ [] → (x ≡ y → ⊥) → (f ≡ x) ⊎ (f ≡ y) → PairWith f a
pair_with_lem (Class k v) x y f e h o = absurd (omega (arith, ap length e))
pair_with_lem (RoleAtom r u v) x y f e h o = one_is u v x y f e h o
pair_with_lem (Exists r k v) x y f e h o = absurd (omega (arith, ap length e))
pair_with_lem (AtMost r q m v) x y f e h o = absurd (omega (arith, ap length e))
pair_with_lem (AtLeast r q m v) x y f e h o = absurd (omega (arith, ap length e))
pair_with_lem (Equal u v) x y f e h o = one_is u v x y f e h o

-- ---- what the code asks
pub meant_atom : (size : ℕ) (a : Atom) (v : Vars) (text store s : List ℕ) → MeantThere size (a ∷ []) v text store s → AtomThere size a text store s
meant_atom size a v text store s T = record { meant = T.meant; roles = T.roles; given = T.so.given; names = T.so.names.0; space = T.space }

pub single_in : (vs : List ℕ) (a : Atom) (x : ℕ) → InVars vs a → atom_vars a ≡ x ∷ [] → contains vs x ≡ true
single_in vs a x h e = (subst (Each (λ u. contains vs u ≡ true)) e h).0

pub pair_in : (vs : List ℕ) (a : Atom) (x y : ℕ) → InVars vs a → atom_vars a ≡ x ∷ y ∷ [] → (contains vs x ≡ true) × (contains vs y ≡ true)
pair_in vs a x y h e = let g = subst (Each (λ u. contains vs u ≡ true)) e h in (g.0, g.1.0)

-- variables at different places
pub vars_apart : (vs : List ℕ) (v : Vars) (i j x y : ℕ) → Distinct vs → VarsAs vs v → v.n ≤ 4 → i < v.n → j < v.n → (i ≡ j → ⊥) → get_or vs i 0 ≡ x → get_or vs j 0 ≡ y → x ≡ y → ⊥
vars_apart vs v i j x y D A l hi hj n ex ey e = n (places_same vs D i j (omega (arith, vars_long vs v A l)) (omega (arith, vars_long vs v A l)) (ex ∙ e ∙ sym ey))

-- the sets of a pair lie below the elements that are shown
pub pair_low : (i j at : ℕ) → i < j → j < 4 → at ≡ pair_at i j → (vars_at ≤ at) × (at + 64 ≤ 44032)
pair_low i j at h l e = let p = pair_within i j 4 h l (omega arith) in (omega arith, omega arith)

-- ---- the tables narrowed
module _ (I : Interpretation) (roles : ℕ) (vs : List ℕ) (size : ℕ) (a : Atom) (v : Vars) (text w s s' : List ℕ) (head : Bool) (one : ℕ → ℕ → Bool) (two : ℕ → ℕ → ℕ → ℕ → Bool)
    (M : Meant I roles vs size (a ∷ []) v text w s) (T : Tables size v.n one two s) where
  abbrev Narrowed : Type 0
  Narrowed = Tables size v.n (one_with I vs head a one) (two_with I vs head a two) s'

  long : length vs ≡ v.n
  long = vars_long vs v M.are M.few

  small : size ≤ 64
  small = omega (arith, M.given.elements, M.given.laid.few)

  same : (i j : ℕ) → i < v.n → j < v.n → get_or vs i 0 ≡ get_or vs j 0 → i ≡ j
  same i j h l e = places_same vs M.distinct i j (omega (arith, long)) (omega (arith, long)) e

  kept_one : (j x : ℕ) → only_in (get_or vs j 0) (atom_vars a) ≡ false → one_with I vs head a one j x ≡ one j x
  kept_one j x e = rw e (and_unit (one j x))

  kept_two : (i j e x : ℕ) → both_in (get_or vs i 0) (get_or vs j 0) (atom_vars a) ≡ false → two_with I vs head a two i j e x ≡ two i j e x
  kept_two i j e x h = rw h (and_unit (two i j e x))

  module _ (p : ℕ) (hp : p < v.n) (C : Changed (2 * (vars_at + p)) (2 * (vars_at + p) + 2) s s') (E : set_at s' (vars_at + p) ≡ mask_of size (λ x. one p x && turned head (atom_holds I (λ _. x) a))) where
    at_one : only_in (get_or vs p 0) (atom_vars a) ≡ true → ((j : ℕ) → j < v.n → only_in (get_or vs j 0) (atom_vars a) ≡ true → j ≡ p) → ((i j : ℕ) → i < j → j < v.n → both_in (get_or vs i 0) (get_or vs j 0) (atom_vars a) ≡ true → ⊥) → Narrowed
    at_one here only none = tables_one size v.n one (one_with I vs head a one) two (two_with I vs head a two) s s' M.few small T p (λ x. turned head (atom_holds I (λ _. x) a)) hp C E
        (λ x. rw here refl)
        (λ j h n x. kept_one j x (false_from_ne_true (only_in (get_or vs j 0) (atom_vars a)) (λ q. n (only j h q))))
        (λ i j e x h l. kept_two i j e x (false_from_ne_true (both_in (get_or vs i 0) (get_or vs j 0) (atom_vars a)) (none i j h l)))

    -- an atom of the variable at place p
    pub narrowed_single : (x : ℕ) → atom_vars a ≡ x ∷ [] → get_or vs p 0 ≡ x → Narrowed
    narrowed_single x e f =
        let g : atom_vars a ≡ get_or vs p 0 ∷ [] = rw f e in
        at_one (ap (only_in (get_or vs p 0)) g ∙ only_single (get_or vs p 0))
        (λ j h q. sym (same p j hp h (only_first (get_or vs j 0) (get_or vs p 0) [] (sym (ap (only_in (get_or vs j 0)) g) ∙ q))))
        (λ i j h l q. false≢true (sym (ap (both_in (get_or vs i 0) (get_or vs j 0)) g) ∙ q))

    pub narrowed_same : (x y : ℕ) → atom_vars a ≡ x ∷ y ∷ [] → get_or vs p 0 ≡ x → get_or vs p 0 ≡ y → Narrowed
    narrowed_same x y e f f' =
        let u = get_or vs p 0 in
        let g : atom_vars a ≡ u ∷ u ∷ [] = e ∙ ap (λ (z : ℕ). z ∷ y ∷ []) (sym f) ∙ ap (λ (z : ℕ). u ∷ z ∷ []) (sym f') in
        at_one (ap (only_in u) g ∙ only_double u)
        (λ j h q. sym (same p j hp h (only_first (get_or vs j 0) u (u ∷ []) (sym (ap (only_in (get_or vs j 0)) g) ∙ q))))
        (λ i j h l q. apart i j h l (both_means (get_or vs i 0) (get_or vs j 0) u u (sym (ap (both_in (get_or vs i 0) (get_or vs j 0)) g) ∙ q)))
      where
        apart : (i j : ℕ) → i < j → j < v.n → ((get_or vs p 0 ≡ get_or vs i 0) × (get_or vs p 0 ≡ get_or vs j 0)) ⊎ ((get_or vs p 0 ≡ get_or vs j 0) × (get_or vs p 0 ≡ get_or vs i 0)) → ⊥
        apart i j h l (inl q) = let y = same i j (omega arith) l (sym q.0 ∙ q.1) in omega arith
        apart i j h l (inr q) = let y = same i j (omega arith) l (sym q.1 ∙ q.0) in omega arith

  module _ (p q at f : ℕ) (hp : p < q) (hq : q < v.n) (ea : at ≡ pair_at p q) (ef : get_or vs q 0 ≡ f) (C : Changed (2 * at) (2 * (at + 64)) s s')
      (E : (e : ℕ) → e < size → set_at s' (at + e) ≡ mask_of size (λ x. two p q e x && turned head (atom_holds I (chosen (λ _. e) f x) a))) where
    at_two : both_in (get_or vs p 0) (get_or vs q 0) (atom_vars a) ≡ true → ((i j : ℕ) → i < j → j < v.n → both_in (get_or vs i 0) (get_or vs j 0) (atom_vars a) ≡ true → (i ≡ p) × (j ≡ q)) → ((j : ℕ) → j < v.n → only_in (get_or vs j 0) (atom_vars a) ≡ true → ⊥) → Narrowed
    at_two here both none = tables_two size v.n one (one_with I vs head a one) two (two_with I vs head a two) s s' M.few small T p q (λ e x. turned head (atom_holds I (chosen (λ _. e) (get_or vs q 0) x) a)) hp hq
        (subst (λ (t : ℕ). Changed (2 * t) (2 * (t + 64)) s s') ea C)
        (λ e h. ap (λ (t : ℕ). set_at s' (t + e)) (sym ea) ∙ E e h ∙ ap (λ (t : ℕ). mask_of size (λ x. two p q e x && turned head (atom_holds I (chosen (λ _. e) t x) a))) (sym ef))
        (λ e x. rw here refl)
        (λ i j e x h l n. kept_two i j e x (false_from_ne_true (both_in (get_or vs i 0) (get_or vs j 0) (atom_vars a)) (λ z. n (both i j h l z))))
        (λ j x h. kept_one j x (false_from_ne_true (only_in (get_or vs j 0) (atom_vars a)) (none j h)))

    -- an atom of the variables at the places p and q, in either order
    pub narrowed_pair : (x y : ℕ) → atom_vars a ≡ x ∷ y ∷ [] → get_or vs p 0 ≡ x → get_or vs q 0 ≡ y → Narrowed
    narrowed_pair x y e fp fq =
        let u = get_or vs p 0 in
        let t = get_or vs q 0 in
        let g : atom_vars a ≡ u ∷ t ∷ [] = e ∙ ap (λ (z : ℕ). z ∷ y ∷ []) (sym fp) ∙ ap (λ (z : ℕ). u ∷ z ∷ []) (sym fq) in
        at_two (ap (both_in u t) g ∙ both_there u t)
        (λ i j h l z. these i j h l (both_means (get_or vs i 0) (get_or vs j 0) u t (sym (ap (both_in (get_or vs i 0) (get_or vs j 0)) g) ∙ z)))
        (λ j h z. let k = sym (ap (only_in (get_or vs j 0)) g) ∙ z in let n = same p q (omega arith) hq (only_first (get_or vs j 0) u (t ∷ []) k ∙ sym (only_second (get_or vs j 0) u t k)) in omega arith)
      where
        these : (i j : ℕ) → i < j → j < v.n → ((get_or vs p 0 ≡ get_or vs i 0) × (get_or vs q 0 ≡ get_or vs j 0)) ⊎ ((get_or vs p 0 ≡ get_or vs j 0) × (get_or vs q 0 ≡ get_or vs i 0)) → (i ≡ p) × (j ≡ q)
        these i j h l (inl z) = (sym (same p i (omega arith) (omega arith) z.0), sym (same q j hq l z.1))
        these i j h l (inr z) = let a = same p j (omega arith) l z.0 in let b = same q i hq (omega arith) z.1 in absurd (omega arith)

    pub narrowed_turned : (x y : ℕ) → atom_vars a ≡ x ∷ y ∷ [] → get_or vs q 0 ≡ x → get_or vs p 0 ≡ y → Narrowed
    narrowed_turned x y e fq fp =
        let u = get_or vs p 0 in
        let t = get_or vs q 0 in
        let g : atom_vars a ≡ t ∷ u ∷ [] = e ∙ ap (λ (z : ℕ). z ∷ y ∷ []) (sym fq) ∙ ap (λ (z : ℕ). t ∷ z ∷ []) (sym fp) in
        at_two (ap (both_in u t) g ∙ both_turned u t)
        (λ i j h l z. these i j h l (both_means (get_or vs i 0) (get_or vs j 0) t u (sym (ap (both_in (get_or vs i 0) (get_or vs j 0)) g) ∙ z)))
        (λ j h z. let k = sym (ap (only_in (get_or vs j 0)) g) ∙ z in let n = same q p hq (omega arith) (only_first (get_or vs j 0) t (u ∷ []) k ∙ sym (only_second (get_or vs j 0) t u k)) in omega arith)
      where
        these : (i j : ℕ) → i < j → j < v.n → ((get_or vs q 0 ≡ get_or vs i 0) × (get_or vs p 0 ≡ get_or vs j 0)) ⊎ ((get_or vs q 0 ≡ get_or vs j 0) × (get_or vs p 0 ≡ get_or vs i 0)) → (i ≡ p) × (j ≡ q)
        these i j h l (inl z) = let a = same q i hq (omega arith) z.0 in let b = same p j (omega arith) l z.1 in absurd (omega arith)
        these i j h l (inr z) = (sym (same p i (omega arith) (omega arith) z.1), sym (same q j hq l z.0))
