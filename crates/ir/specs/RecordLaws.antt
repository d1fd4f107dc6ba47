-- Six words and atoms: each atom is read back from its words, words that are read as an atom are that atom's, and equal words mean equal atoms. Assumes nothing.
use Rattle.std.specs.Prelude.{◌≡◌, Bool, true, false, List, [], ◌∷◌, ℕ, zero, suc, ◌+◌, ◌*◌, ◌-◌, ◌<◌, ◌≤◌, eqb, length, get_or}
use Rattle.std.proofs.Math.Path.{refl}
use Rattle.std.proofs.Common.{sym, ap, ◌∙◌, arith, eqb-true, eq-eqb, ne_eqb}
use Rattle.std.proofs.lemmas.List.Edits.{sets}
use Rattle.std.proofs.lemmas.Bool.{eqb-false}
use Rattle.words.specs.Runs.{get_d_sets_after, get_d_sets_before, get_d_sets_in}
use Rattle.ir.specs.Pick.{pick}
use Rattle.ir.specs.Roles.{role_code, role_of, role_code_lem, code_role}
use Rattle.ir.specs.declared.atom.Atom.{Atom}
use Rattle.ir.specs.declared.atom.Atom.TheVariants.{Class, Exists, AtMost, AtLeast, Equal, Role as RoleAtom}
use Rattle.ir.specs.Qualifiers.{Qualifier}
use Rattle.std.specs.Prelude.{None, Some}
use Rattle.ir.specs.declared.record.AtomWords.{AtomWords}
use Rattle.ir.specs.Records.{Read}
use Rattle.std.specs.Prelude.{None, Some}
use Rattle.ir.specs.Records.{qualifier_word, qualifier_of, words_of, six, six_of, record_at, read_words, atom_at, read_of, unused_words, class_read, role_read, exists_read, at_most_read, at_least_read, equal_read, same_words, same_atom}

pub qualifier_word_lem : (q : Qualifier) → qualifier_of (qualifier_word q) ≡ q
qualifier_word_lem None = refl
qualifier_word_lem (Some k) =
    let e : eqb (k + 1) 0 ≡ false = ne_eqb (k + 1) 0 (λ (z : k + 1 ≡ 0). absurd (omega arith)) in
    let d : k + 1 - 1 ≡ k = omega arith in
    rw (e, d) refl

-- an atom's words are read as the atom
pub read_six_lem : (a : Atom) → read_words (words_of a) ≡ Some a
unfolding read_of class_read role_read exists_read at_most_read at_least_read equal_read
read_six_lem (Class k v) =
    let e : eqb (k + 1) 0 ≡ false = ne_eqb (k + 1) 0 (λ (z : k + 1 ≡ 0). absurd (omega arith)) in
    let d : k + 1 - 1 ≡ k = omega arith in
    rw (e, d) refl
read_six_lem (RoleAtom r u v) = rw (role_code_lem r) refl
read_six_lem (Exists r k v) =
    let e : eqb (k + 1) 0 ≡ false = ne_eqb (k + 1) 0 (λ (z : k + 1 ≡ 0). absurd (omega arith)) in
    let d : k + 1 - 1 ≡ k = omega arith in
    rw (e, d, role_code_lem r) refl
read_six_lem (AtMost r q n v) = ap (λ (s : Qualifier). Some (AtMost (role_of (role_code r)) s n v)) (qualifier_word_lem q) ∙ rw (role_code_lem r) refl
read_six_lem (AtLeast r q n v) = ap (λ (s : Qualifier). Some (AtLeast (role_of (role_code r)) s n v)) (qualifier_word_lem q) ∙ rw (role_code_lem r) refl
read_six_lem (Equal u v) = refl

-- ---- the other way: words that are read as an atom are that atom's
six_words : (kind r k n u v : ℕ) → AtomWords
six_words kind r k n u v = record { 0 = kind; 1 = r; 2 = k; 3 = n; 4 = u; 5 = v }

again : Read → AtomWords → AtomWords
again (Some a) w = words_of a
again None w = w

by_test : (b : Bool) (x y : Read) (w : AtomWords) → (b ≡ true → again x w ≡ w) → (b ≡ false → again y w ≡ w) → again (pick b x y) w ≡ w
by_test true x y w f g = f refl
by_test false x y w f g = g refl

same_six : (k₁ r₁ c₁ n₁ u₁ v₁ k₂ r₂ c₂ n₂ u₂ v₂ : ℕ) → k₁ ≡ k₂ → r₁ ≡ r₂ → c₁ ≡ c₂ → n₁ ≡ n₂ → u₁ ≡ u₂ → v₁ ≡ v₂ → six_words k₁ r₁ c₁ n₁ u₁ v₁ ≡ six_words k₂ r₂ c₂ n₂ u₂ v₂
same_six k₁ r₁ c₁ n₁ u₁ v₁ k₂ r₂ c₂ n₂ u₂ v₂ e1 e2 e3 e4 e5 e6 = rw (e1, e2, e3, e4, e5, e6) refl

unused_zeros : (a b c : ℕ) → unused_words a b c ≡ true → (a ≡ 0) × (b ≡ 0) × (c ≡ 0)
unused_zeros a b c e = go (eqb a 0) (eqb b 0) refl refl e
  where
    go : (p q : Bool) → eqb a 0 ≡ p → eqb b 0 ≡ q → pick p (pick q (eqb c 0) false) false ≡ true → (a ≡ 0) × (b ≡ 0) × (c ≡ 0)
    go true true x y z = (eqb-true a 0 x, eqb-true b 0 y, eqb-true c 0 z)
    go true false x y z = absurd (let n : ◌≡◌ {A = ℕ} 0 1 = ap (λ t. pick t 1 0) z in omega arith)
    go false q x y z = absurd (let n : ◌≡◌ {A = ℕ} 0 1 = ap (λ t. pick t 1 0) z in omega arith)

positive : (n : ℕ) → (n ≡ 0 → ⊥) → n - 1 + 1 ≡ n
positive zero f = absurd (f refl)
positive (suc n) f = omega arith

qualifier_back : (k : ℕ) → qualifier_word (qualifier_of k) ≡ k
qualifier_back k = go (eqb k 0) refl
  where
    go : (b : Bool) → eqb k 0 ≡ b → qualifier_word (pick b None (Some (k - 1))) ≡ k
    go true e = sym (eqb-true k 0 e)
    go false e = positive k (eqb-false k 0 e)

module _ (kind r k n u v : ℕ) where
  class_again : kind ≡ 1 → again (class_read r k n u v) (six_words kind r k n u v) ≡ six_words kind r k n u v
  unfolding class_read six_words again
  class_again e =
      by_test (unused_words r n v) (pick (eqb k 0) None (Some (Class (k - 1) u))) None (six_words kind r k n u v)
      (λ z. by_test (eqb k 0) None (Some (Class (k - 1) u)) (six_words kind r k n u v) (λ y. refl)
      (λ y. let q = unused_zeros r n v z in
      same_six 1 0 (k - 1 + 1) 0 u 0 kind r k n u v (sym e) (sym q.0) (positive k (eqb-false k 0 y)) (sym q.1) refl (sym q.2)))
      (λ z. refl)

  role_again : kind ≡ 2 → again (role_read r k n u v) (six_words kind r k n u v) ≡ six_words kind r k n u v
  unfolding role_read six_words again
  role_again e =
      by_test (unused_words k n 0) (Some (RoleAtom (role_of r) u v)) None (six_words kind r k n u v)
      (λ z. let q = unused_zeros k n 0 z in
      same_six 2 (role_code (role_of r)) 0 0 u v kind r k n u v (sym e) (code_role r) (sym q.0) (sym q.1) refl refl)
      (λ z. refl)

  exists_again : kind ≡ 3 → again (exists_read r k n u v) (six_words kind r k n u v) ≡ six_words kind r k n u v
  unfolding exists_read six_words again
  exists_again e =
      by_test (unused_words n v 0) (pick (eqb k 0) None (Some (Exists (role_of r) (k - 1) u))) None (six_words kind r k n u v)
      (λ z. by_test (eqb k 0) None (Some (Exists (role_of r) (k - 1) u)) (six_words kind r k n u v) (λ y. refl)
      (λ y. let q = unused_zeros n v 0 z in
      same_six 3 (role_code (role_of r)) (k - 1 + 1) 0 u 0 kind r k n u v (sym e) (code_role r) (positive k (eqb-false k 0 y)) (sym q.0) refl (sym q.1)))
      (λ z. refl)

  at_most_again : kind ≡ 4 → again (at_most_read r k n u v) (six_words kind r k n u v) ≡ six_words kind r k n u v
  unfolding at_most_read six_words again
  at_most_again e =
      by_test (eqb v 0) (Some (AtMost (role_of r) (qualifier_of k) n u)) None (six_words kind r k n u v)
      (λ z. same_six 4 (role_code (role_of r)) (qualifier_word (qualifier_of k)) n u 0 kind r k n u v (sym e) (code_role r) (qualifier_back k) refl refl (sym (eqb-true v 0 z)))
      (λ z. refl)

  at_least_again : kind ≡ 5 → again (at_least_read r k n u v) (six_words kind r k n u v) ≡ six_words kind r k n u v
  unfolding at_least_read six_words again
  at_least_again e =
      by_test (eqb v 0) (Some (AtLeast (role_of r) (qualifier_of k) n u)) None (six_words kind r k n u v)
      (λ z. same_six 5 (role_code (role_of r)) (qualifier_word (qualifier_of k)) n u 0 kind r k n u v (sym e) (code_role r) (qualifier_back k) refl refl (sym (eqb-true v 0 z)))
      (λ z. refl)

  equal_again : kind ≡ 6 → again (equal_read r k n u v) (six_words kind r k n u v) ≡ six_words kind r k n u v
  unfolding equal_read six_words again
  equal_again e =
      by_test (unused_words r k n) (Some (Equal u v)) None (six_words kind r k n u v)
      (λ z. let q = unused_zeros r k n z in same_six 6 0 0 0 u v kind r k n u v (sym e) (sym q.0) (sym q.1) (sym q.2) refl refl)
      (λ z. refl)

  read_again : again (read_of kind r k n u v) (six_words kind r k n u v) ≡ six_words kind r k n u v
  unfolding read_of again
  read_again =
      let w = six_words kind r k n u v in
      by_test (eqb kind 1) _ _ w (λ z. class_again (eqb-true kind 1 z))
      (λ _. by_test (eqb kind 2) _ _ w (λ z. role_again (eqb-true kind 2 z))
      (λ _. by_test (eqb kind 3) _ _ w (λ z. exists_again (eqb-true kind 3 z))
      (λ _. by_test (eqb kind 4) _ _ w (λ z. at_most_again (eqb-true kind 4 z))
      (λ _. by_test (eqb kind 5) _ _ w (λ z. at_least_again (eqb-true kind 5 z))
      (λ _. by_test (eqb kind 6) _ None w (λ z. equal_again (eqb-true kind 6 z)) (λ _. refl))))))

pub read_only : (w : AtomWords) (a : Atom) → read_words w ≡ Some a → w ≡ words_of a
unfolding again six_words
read_only w a e = sym (read_again w.0 w.1 w.2 w.3 w.4 w.5) ∙ ap (λ (x : Read). again x w) e

-- ---- equality
same_rest : (x y : ℕ) (l m : List ℕ) → x ≡ y → l ≡ m → x ∷ l ≡ y ∷ m
same_rest x y l m e f = cc

same_heads : (x y : ℕ) (l m : List ℕ) → (same_words l m ≡ true → l ≡ m) → (b : Bool) → eqb x y ≡ b → pick b (same_words l m) false ≡ true → x ∷ l ≡ y ∷ m
same_heads x y l m f true p q = same_rest x y l m (eqb-true x y p) (f q)
same_heads x y l m f false p q = absurd (let n : ◌≡◌ {A = ℕ} 0 1 = ap (λ t. pick t 1 0) q in omega arith)

read_six : List ℕ → Read
read_six l = read_words (record { 0 = get_or l 0 0; 1 = get_or l 1 0; 2 = get_or l 2 0; 3 = get_or l 3 0; 4 = get_or l 4 0; 5 = get_or l 5 0 })

read_inj : {a b : Atom} → Some a ≡ Some b → a ≡ b
read_inj {a} {b} e = cc

pub same_words_lem : (l m : List ℕ) → same_words l m ≡ true → l ≡ m
same_words_lem [] [] e = refl
same_words_lem [] (y ∷ m) e = absurd (let n : ◌≡◌ {A = ℕ} 0 1 = ap (λ t. pick t 1 0) e in omega arith)
same_words_lem (x ∷ l) [] e = absurd (let n : ◌≡◌ {A = ℕ} 0 1 = ap (λ t. pick t 1 0) e in omega arith)
same_words_lem (x ∷ l) (y ∷ m) e = same_heads x y l m (λ q. same_words_lem l m q) (eqb x y) refl e

pub same_words_refl : (l : List ℕ) → same_words l l ≡ true
same_words_refl [] = refl
same_words_refl (x ∷ l) = rw (eq-eqb x x refl) (same_words_refl l)

pub six_inj : (a b : Atom) → six a ≡ six b → a ≡ b
unfolding read_six
six_inj a b e = read_inj (sym (read_six_lem a) ∙ ap read_six e ∙ read_six_lem b)

pub same_atom_lem : (a b : Atom) → same_atom a b ≡ true → a ≡ b
unfolding same_atom
same_atom_lem a b e = six_inj a b (same_words_lem (six a) (six b) e)

pub same_atom_refl : (a : Atom) → same_atom a a ≡ true
unfolding same_atom
same_atom_refl a = same_words_refl (six a)

-- ---- records in a table
pub record_put_lem : (w : List ℕ) (i : ℕ) (x : AtomWords) → 6 * i + 6 ≤ length w → record_at (sets w (6 * i) (six_of x)) i ≡ x
unfolding six_words
record_put_lem w i x h =
    let t : List ℕ = sets w (6 * i) (six_of x) in
    let at : (k : ℕ) → k < 6 → get_or t (6 * i + k) 0 ≡ get_or (six_of x) k 0 = λ k l. get_d_sets_in (six_of x) w (6 * i) k 0 l h in
    let z : 6 * i ≡ 6 * i + 0 = omega arith in
    same_six (get_or t (6 * i) 0) (get_or t (6 * i + 1) 0) (get_or t (6 * i + 2) 0) (get_or t (6 * i + 3) 0) (get_or t (6 * i + 4) 0) (get_or t (6 * i + 5) 0) x.0 x.1 x.2 x.3 x.4 x.5
    (ap (λ (j : ℕ). get_or t j 0) z ∙ at 0 (omega arith)) (at 1 (omega arith)) (at 2 (omega arith)) (at 3 (omega arith)) (at 4 (omega arith)) (at 5 (omega arith))

record_same : (t w : List ℕ) (j : ℕ) → ((k : ℕ) → k < 6 → get_or t (6 * j + k) 0 ≡ get_or w (6 * j + k) 0) → record_at t j ≡ record_at w j
unfolding six_words
record_same t w j at =
    let z : 6 * j ≡ 6 * j + 0 = omega arith in
    same_six (get_or t (6 * j) 0) (get_or t (6 * j + 1) 0) (get_or t (6 * j + 2) 0) (get_or t (6 * j + 3) 0) (get_or t (6 * j + 4) 0) (get_or t (6 * j + 5) 0)
    (get_or w (6 * j) 0) (get_or w (6 * j + 1) 0) (get_or w (6 * j + 2) 0) (get_or w (6 * j + 3) 0) (get_or w (6 * j + 4) 0) (get_or w (6 * j + 5) 0)
    (ap (λ (n : ℕ). get_or t n 0) z ∙ at 0 (omega arith) ∙ ap (λ (n : ℕ). get_or w n 0) (sym z)) (at 1 (omega arith)) (at 2 (omega arith)) (at 3 (omega arith)) (at 4 (omega arith)) (at 5 (omega arith))

-- a record written elsewhere
pub record_put_after : (w : List ℕ) (i j : ℕ) (x : AtomWords) → i < j → record_at (sets w (6 * i) (six_of x)) j ≡ record_at w j
record_put_after w i j x h = record_same (sets w (6 * i) (six_of x)) w j (λ k l. get_d_sets_after (six_of x) w (6 * i) (6 * j + k) 0 (omega arith))

pub record_put_before : (w : List ℕ) (i j : ℕ) (x : AtomWords) → j < i → record_at (sets w (6 * i) (six_of x)) j ≡ record_at w j
record_put_before w i j x h = record_same (sets w (6 * i) (six_of x)) w j (λ k l. get_d_sets_before (six_of x) w (6 * i) (6 * j + k) 0 (omega arith))

pub atom_at_put : (w : List ℕ) (i : ℕ) (a : Atom) → 6 * i + 6 ≤ length w → atom_at (sets w (6 * i) (six a)) i ≡ Some a
atom_at_put w i a h = ap read_words (record_put_lem w i (words_of a) h) ∙ read_six_lem a
