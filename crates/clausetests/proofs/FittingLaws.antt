-- The tables: where they stand, other words that stay, and one table narrowed. Assumes nothing.
use mathlib.Core.Path.{◌≡◌, refl, sym, ◌∙◌}
use mathlib.Core.Bool.{Bool, true, false, not, ◌&&◌, false≢true}
use mathlib.Core.List.{List}
use Prim.Native.Nat.{ℕ, zero, suc, ◌+◌, ◌*◌, ◌<◌, ◌≤◌}
use native.Mathlib.Omega.{arith}
use native.Mathlib.Decide.{ℕ_discrete}
use lib.ListN.{length}
use lib.Dec.{ltb}
use borrow.Author.Tests.{ltb-true, ltb-false}
use Rattle.words.specs.Words.{words}
use Rattle.ir.specs.declared.atom.Atom.{Atom}
use Rattle.rules.specs.Semantics.{Interpretation}
use Rattle.meaning.specs.Truth.{by_truth}
use Rattle.states.specs.Masks.{mask_of}
use Rattle.states.specs.MaskLaws.{mask_same}
use Rattle.sets.specs.Kept.{set_at, set_put}
use Rattle.sets.specs.KeptLaws.{word_before, word_behind, set_same}
use Rattle.sets.specs.Places.{vars_at, pairs_at, rows_at, shown_at}
use Rattle.clausetests.specs.Given.{Given, AtomThere}
use Rattle.clausetests.specs.Fitting.{pairs, pair_at, Tables, turned, Changed}

by_order : {P : Type 0} (i j : ℕ) → (i < j → P) → (j ≤ i → P) → P
by_order i j f g = by_truth (ltb i j) (λ e. f (ltb-true i j e)) (λ e. g (ltb-false i j e))

-- ---- a body's atom and a head's
pub as_head : (n : ℕ) (f g : ℕ → Bool) (head : Bool) (r : ℕ) → head ≡ true → r ≡ mask_of n (λ x. f x && not (g x)) → r ≡ mask_of n (λ x. f x && turned head (g x))
as_head n f g true r h e = e
as_head n f g false r h e = absurd (false≢true h)

pub as_body : (n : ℕ) (f g : ℕ → Bool) (head : Bool) (r : ℕ) → head ≡ false → r ≡ mask_of n (λ x. f x && g x) → r ≡ mask_of n (λ x. f x && turned head (g x))
as_body n f g true r h e = absurd (false≢true (sym h))
as_body n f g false r h e = e

-- ---- the pairs of k places, those of each later place behind the others
pub pair_within : (i j k : ℕ) → i < j → j < k → k ≤ 4 → i + pairs j < pairs k
pair_within i zero k a b h = absurd (omega arith)
pair_within i (suc zero) zero a b h = absurd (omega arith)
pair_within i (suc zero) (suc zero) a b h = absurd (omega arith)
pair_within i (suc zero) (suc (suc zero)) a b h = omega arith
pair_within i (suc zero) (suc (suc (suc zero))) a b h = omega arith
pair_within i (suc zero) (suc (suc (suc (suc k)))) a b h = omega arith
pair_within i (suc (suc zero)) zero a b h = absurd (omega arith)
pair_within i (suc (suc zero)) (suc zero) a b h = absurd (omega arith)
pair_within i (suc (suc zero)) (suc (suc zero)) a b h = absurd (omega arith)
pair_within i (suc (suc zero)) (suc (suc (suc zero))) a b h = omega arith
pair_within i (suc (suc zero)) (suc (suc (suc (suc k)))) a b h = omega arith
pair_within i (suc (suc (suc zero))) zero a b h = absurd (omega arith)
pair_within i (suc (suc (suc zero))) (suc zero) a b h = absurd (omega arith)
pair_within i (suc (suc (suc zero))) (suc (suc zero)) a b h = absurd (omega arith)
pair_within i (suc (suc (suc zero))) (suc (suc (suc zero))) a b h = absurd (omega arith)
pair_within i (suc (suc (suc zero))) (suc (suc (suc (suc k)))) a b h = omega arith
pair_within i (suc (suc (suc (suc j)))) k a b h = absurd (omega arith)

pub pairs_few : (k : ℕ) → pairs k ≤ 6
pairs_few zero = omega arith
pairs_few (suc zero) = omega arith
pairs_few (suc (suc zero)) = omega arith
pairs_few (suc (suc (suc zero))) = omega arith
pairs_few (suc (suc (suc (suc k)))) = omega arith

-- ---- words that stay
pub changed_none : (a b : ℕ) (v : List ℕ) → Changed a b v v
changed_none a b v = record { before = λ i h. refl; behind = λ i h. refl }

pub changed_then : (a b : ℕ) (v v' v'' : List ℕ) → Changed a b v v' → Changed a b v' v'' → Changed a b v v''
changed_then a b v v' v'' C D = record { before = λ i h. D.before i h ∙ C.before i h; behind = λ i h. D.behind i h ∙ C.behind i h }

pub changed_wide : (a b c d : ℕ) (v v' : List ℕ) → c ≤ a → b ≤ d → Changed a b v v' → Changed c d v v'
changed_wide a b c d v v' h k C = record { before = λ i l. C.before i (omega arith); behind = λ i l. C.behind i (omega arith) }

pub changed_put : (v v' : List ℕ) (i m : ℕ) → v' ≡ set_put v i m → Changed (2 * i) (2 * i + 2) v v'
changed_put v v' i m e = rw e (record { before = word_before v i m; behind = word_behind v i m })

module _ (a b : ℕ) (v v' : List ℕ) (C : Changed a b v v') where
  pub set_before : (i : ℕ) → 2 * i + 2 ≤ a → set_at v' i ≡ set_at v i
  set_before i h = set_same v v' i (C.before (2 * i) (omega arith)) (C.before (2 * i + 1) (omega arith))

  pub set_behind_lem : (i : ℕ) → b ≤ 2 * i → set_at v' i ≡ set_at v i
  set_behind_lem i h = set_same v v' i (C.behind (2 * i) h) (C.behind (2 * i + 1) (omega arith))

  -- the state is still laid out
  pub given_kept : b ≤ 131072 → (I : Interpretation) (roles size : ℕ) (text w : List ℕ) → Given I roles size text w v → Given I roles size text w v'
  given_kept h I roles size text w G = record {
    laid = record {
      some = G.laid.some;
      few = G.laid.few;
      classes = G.laid.classes;
      rows = λ code x p q. set_behind_lem (rows_at + 64 * code + x) (omega arith) ∙ G.laid.rows code x p q;
    };
    found = G.found;
    elements = G.elements;
    few = G.few;
  }

-- what the code asks of an atom
pub atom_kept : (a b : ℕ) (size : ℕ) (x : Atom) (text store s s' : List ℕ) → b ≤ 131072 → length s' ≡ length s → Changed a b (words s) (words s') → AtomThere size x text store s → AtomThere size x text store s'
atom_kept a b size x text store s s' h e C A = record {
  meant = A.meant;
  roles = A.roles;
  given = given_kept a b (words s) (words s') C h A.meant A.roles size text (words store) A.given;
  names = A.names;
  space = rw e A.space;
}

pub atom_small : (size : ℕ) (x : Atom) (text store s : List ℕ) → AtomThere size x text store s → size ≤ 64
atom_small size x text store s A = omega (arith, A.given.elements, A.given.laid.few)

-- ---- sets from `at` on, one after the other, the one at i now
module _ (at i : ℕ) (v v' : List ℕ) (C : Changed (2 * (at + i)) (2 * (at + i) + 2) v v') where
  pub sets_done : (R : ℕ → ℕ) → ((q : ℕ) → q < i → set_at v (at + q) ≡ R q) → set_at v' (at + i) ≡ R i → (q : ℕ) → q < i + 1 → set_at v' (at + q) ≡ R q
  sets_done R F e q l = go (ℕ_discrete q i)
    where
      go : Dec (q ≡ i) → set_at v' (at + q) ≡ R q
      go (yes z) = rw z e
      go (no z) = set_before (2 * (at + i)) (2 * (at + i) + 2) v v' C (at + q) (omega arith) ∙ F q (omega arith)

  pub sets_left : (n : ℕ) (v₀ : List ℕ) → ((q : ℕ) → i ≤ q → q < n → set_at v (at + q) ≡ set_at v₀ (at + q)) → (q : ℕ) → i + 1 ≤ q → q < n → set_at v' (at + q) ≡ set_at v₀ (at + q)
  sets_left n v₀ F q a b = set_behind_lem (2 * (at + i)) (2 * (at + i) + 2) v v' C (at + q) (omega arith) ∙ F q (omega arith) b

  pub sets_changed : (n : ℕ) (v₀ : List ℕ) → i < n → Changed (2 * at) (2 * (at + n)) v₀ v → Changed (2 * at) (2 * (at + n)) v₀ v'
  sets_changed n v₀ l D = changed_then (2 * at) (2 * (at + n)) v₀ v v' D (changed_wide (2 * (at + i)) (2 * (at + i) + 2) (2 * at) (2 * (at + n)) v v' (omega arith) (omega arith) C)

-- the tables before any atom
module _ (n k m p : ℕ) (v v' v'' : List ℕ) (hk : k ≤ 4) (hn : n ≤ 64) (ep : p ≡ pairs k) (C : Changed (2 * pairs_at) (2 * (pairs_at + 64 * p)) v' v'') where
  pub tables_start : m ≡ mask_of n (λ _. true) → ((i : ℕ) → i < k → set_at v' (vars_at + i) ≡ m) → ((i : ℕ) → i < 64 * p → set_at v'' (pairs_at + i) ≡ m) → Tables n k (λ _ _. true) (λ _ _ _ _. true) v''
  tables_start e O T = record {
    ones = λ j h. set_before (2 * pairs_at) (2 * (pairs_at + 64 * p)) v' v'' C (vars_at + j) (omega arith) ∙ O j h ∙ e;
    twos = λ i j x a b d.
        let w = pair_within i j k a b hk in
        let z : pair_at i j + x ≡ pairs_at + (64 * (i + pairs j) + x) = omega arith in
        rw z (T (64 * (i + pairs j) + x) (omega arith) ∙ e);
  }

  pub changed_start : Changed (2 * vars_at) (2 * (vars_at + k)) v v' → Changed (2 * vars_at) shown_at v v''
  changed_start D = changed_then (2 * vars_at) shown_at v v' v'' (changed_wide (2 * vars_at) (2 * (vars_at + k)) (2 * vars_at) shown_at v v' (omega arith) (omega arith) D)
      (changed_wide (2 * pairs_at) (2 * (pairs_at + 64 * p)) (2 * vars_at) shown_at v' v'' (omega arith) (omega (arith, pairs_few k)) C)

-- ---- one set narrowed, or those of a pair
module _ (n k : ℕ) (one one' : ℕ → ℕ → Bool) (two two' : ℕ → ℕ → ℕ → ℕ → Bool) (v v' : List ℕ) (few : k ≤ 4) (small : n ≤ 64) (T : Tables n k one two v) where
  pub tables_one : (p : ℕ) (g : ℕ → Bool) → p < k → Changed (2 * (vars_at + p)) (2 * (vars_at + p) + 2) v v' → set_at v' (vars_at + p) ≡ mask_of n (λ x. one p x && g x)
      → ((x : ℕ) → one' p x ≡ one p x && g x) → ((j : ℕ) → j < k → (j ≡ p → ⊥) → (x : ℕ) → one' j x ≡ one j x) → ((i j e x : ℕ) → i < j → j < k → two' i j e x ≡ two i j e x)
      → Tables n k one' two' v'
  tables_one p g h C e here others pairwise = record {
    ones = λ j l. go j l (ℕ_discrete j p);
    twos = λ i j x a b d. set_behind_lem (2 * (vars_at + p)) (2 * (vars_at + p) + 2) v v' C (pair_at i j + x) (omega arith) ∙ T.twos i j x a b d ∙ mask_same n (two i j x) (two' i j x) (λ y _. sym (pairwise i j x y a b));
  }
    where
      go : (j : ℕ) → j < k → Dec (j ≡ p) → set_at v' (vars_at + j) ≡ mask_of n (one' j)
      go j l (yes z) = rw z (e ∙ mask_same n (λ x. one p x && g x) (one' p) (λ x _. sym (here x)))
      go j l (no z) = apart ∙ T.ones j l ∙ mask_same n (one j) (one' j) (λ x _. sym (others j l z x))
        where
          apart : set_at v' (vars_at + j) ≡ set_at v (vars_at + j)
          apart = by_order j p
              (λ q. set_before (2 * (vars_at + p)) (2 * (vars_at + p) + 2) v v' C (vars_at + j) (omega arith))
              (λ q. set_behind_lem (2 * (vars_at + p)) (2 * (vars_at + p) + 2) v v' C (vars_at + j) (omega (arith, z)))

  pub tables_two : (p q : ℕ) (g : ℕ → ℕ → Bool) → p < q → q < k → Changed (2 * pair_at p q) (2 * (pair_at p q + 64)) v v' → ((e : ℕ) → e < n → set_at v' (pair_at p q + e) ≡ mask_of n (λ x. two p q e x && g e x))
      → ((e x : ℕ) → two' p q e x ≡ two p q e x && g e x) → ((i j e x : ℕ) → i < j → j < k → ((i ≡ p) × (j ≡ q) → ⊥) → two' i j e x ≡ two i j e x) → ((j x : ℕ) → j < k → one' j x ≡ one j x)
      → Tables n k one' two' v'
  tables_two p q g hp hq C E here others singly = record {
    ones = λ j l. set_before (2 * pair_at p q) (2 * (pair_at p q + 64)) v v' C (vars_at + j) (omega arith) ∙ T.ones j l ∙ mask_same n (one j) (one' j) (λ x _. sym (singly j x l));
    twos = λ i j x a b d. go i j x a b d (ℕ_discrete i p) (ℕ_discrete j q);
  }
    where
      stays : (i j x : ℕ) → i < j → j < k → x < n → ((i ≡ p) × (j ≡ q) → ⊥) → set_at v' (pair_at i j + x) ≡ set_at v (pair_at i j + x) → set_at v' (pair_at i j + x) ≡ mask_of n (two' i j x)
      stays i j x a b d z s = s ∙ T.twos i j x a b d ∙ mask_same n (two i j x) (two' i j x) (λ y _. sym (others i j x y a b z))

      below : (i j x : ℕ) → x < n → i + pairs j < p + pairs q → set_at v' (pair_at i j + x) ≡ set_at v (pair_at i j + x)
      below i j x d l = set_before (2 * pair_at p q) (2 * (pair_at p q + 64)) v v' C (pair_at i j + x) (omega arith)

      above : (i j x : ℕ) → p + pairs q < i + pairs j → set_at v' (pair_at i j + x) ≡ set_at v (pair_at i j + x)
      above i j x l = set_behind_lem (2 * pair_at p q) (2 * (pair_at p q + 64)) v v' C (pair_at i j + x) (omega arith)

      go : (i j x : ℕ) → i < j → j < k → x < n → Dec (i ≡ p) → Dec (j ≡ q) → set_at v' (pair_at i j + x) ≡ mask_of n (two' i j x)
      go i j x a b d (yes y) (yes z) = rw (y, z) (E x d ∙ mask_same n (λ w. two p q x w && g x w) (two' p q x) (λ w _. sym (here x w)))
      go i j x a b d (no y) (yes z) = stays i j x a b d (λ w. y w.0) (by_order i p (λ l. below i j x d (rw z (omega arith))) (λ l. above i j x (rw z (omega (arith, y)))))
      go i j x a b d y (no z) = stays i j x a b d (λ w. z w.1) (by_order j q
          (λ l. below i j x d (let w = pair_within i j q a l (omega arith) in omega arith))
          (λ l. above i j x (let w = pair_within p q j hp (omega (arith, z)) (omega arith) in omega arith)))
