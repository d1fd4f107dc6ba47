-- The map while it is built. Assumes nothing.
use Rattle.std.specs.Prelude.{◌≡◌, refl, ◌||◌, List, [], ◌∷◌, ℕ, suc, ◌+◌, ◌*◌, ◌<◌, ◌≤◌, length, get_or, set}
use Rattle.std.proofs.Common.{sym, ap, ◌∙◌, arith, eq-eqb, ne_eqb, get_or-set_same, get_or-set_other, length-set}
use Rattle.std.proofs.Math.Bool.{true, false}
use Rattle.std.proofs.lemmas.Bool.{or_parts}
use borrow.Author.Tests.{eqb-true, eqb-false}
use Rattle.std.proofs.Math.Dec.{eqb}
use Rattle.words.specs.Words.{words}
use Rattle.words.specs.Laws.{length_words}
use Rattle.ir.specs.Scratch.{roles_at, alternatives_at}
use Rattle.ir.specs.Roles.{role_id, role_code, is_inverse, flipped}
use Rattle.ir.specs.declared.role.Role.{Role}
use Rattle.ir.specs.declared.role.Role.TheVariants.{Named, Inverse}
use Rattle.rules.specs.Deck.{most_roles}
use Rattle.rules.specs.Inverse.{InverseCanon, lookup, skipped, declared, canon_of, canon_role}
use Rattle.rules.specs.Base.{is_some}
use Rattle.rules.specs.TextLaws.{by_test}
use Rattle.rules.proofs.RingLaws.{no_some, newness, free_newness}
use Rattle.inverse.specs.Layout.{RolesHeld, MappedAt, free, key, Mapped, Entries, Beside, entries_at}

-- the map that canon_role reads
pub mapped_held : (w : List ℕ) (m : InverseCanon) → Mapped w m most_roles → RolesHeld w m
unfolding canon_role
mapped_held w m M = record { mapped = λ r l. at r (M.each r l) }
  where
    at : (r : ℕ) → MappedAt w m r → get_or w (roles_at + r) 0 ≡ role_code (canon_of (Named r) (lookup m r))
    at r (free a b) = rw a b
    at r (key i l a b) = rw a b

-- ---- one entry more, of the named roles a and b
module _ (w w' : List ℕ) (m : InverseCanon) (a b : ℕ) (M : Mapped w m most_roles) (small : a < most_roles) where
  module _ (h : skipped m (Named a) (Named b) ≡ false) (e : w' ≡ set w (roles_at + b) (2 * a + 1)) (long : roles_at + most_roles ≤ length w) where
    entry : (k : ℕ) → k < most_roles → MappedAt w' (declared m (Named a) (Named b)) k
    unfolding lookup
    entry k l = rw h (by_test (eqb b k)
        (λ t. let z : b ≡ k = eqb-true b k t in
        key a small (rw t refl) (rw (e, ← z) (get_or-set_same w (roles_at + b) (2 * a + 1) 0 (omega arith))))
        (λ t. other k t (M.each k l)))
      where
        other : (k : ℕ) → eqb b k ≡ false → MappedAt w m k → MappedAt w' (record { key = b; value = Inverse a } ∷ m) k
        other k t (free x y) = free (rw t x) (rw e (get_or-set_other w (roles_at + b) (roles_at + k) (2 * a + 1) 0 (λ z. eqb-false b k t (omega arith)) ∙ y))
        other k t (key i l x y) = key i l (rw t x) (rw e (get_or-set_other w (roles_at + b) (roles_at + k) (2 * a + 1) 0 (λ z. eqb-false b k t (omega arith)) ∙ y))

-- the other roles make none
pub declare_more : (w w' : List ℕ) (m : InverseCanon) (r s : Role) → Mapped w m most_roles → skipped m r s ≡ false → role_id r < most_roles → w' ≡ set w (roles_at + role_id s) (role_code (flipped r)) → roles_at + most_roles ≤ length w
    → Mapped w' (declared m r s) most_roles
declare_more w w' m (Named a) (Named b) M h small e long = record { each = entry w w' m a b M small h e long }
declare_more w w' m (Named a) (Inverse b) M h small e long = absurd (let y : ◌≡◌ {A = ℕ} 0 1 = cc in omega arith)
declare_more w w' m (Inverse a) s M h small e long = absurd (let y : ◌≡◌ {A = ℕ} 0 1 = cc in omega arith)

-- ---- the entries: one more, with its key behind the others
module _ (w w₁ w₂ : List ℕ) (m : InverseCanon) (r s : Role) (n : ℕ) (E : Entries w m n) (h : skipped m r s ≡ false) (room : n < most_roles) (long : alternatives_at ≤ length w)
    (e : w₁ ≡ set w (roles_at + role_id s) (role_code (flipped r))) (f : w₂ ≡ set w₁ (entries_at + n) (role_id s)) (small : role_id s < most_roles) where
  long_lem : length w₁ ≡ length w
  long_lem = rw e (length-set w (roles_at + role_id s) (role_code (flipped r)))

  before : (j : ℕ) → (j ≡ entries_at + n → ⊥) → get_or w₂ j 0 ≡ get_or w₁ j 0
  before j d = rw f (get_or-set_other w₁ (entries_at + n) j (role_id s) 0 d)

  last_key : get_or w₂ (entries_at + n) 0 ≡ role_id s
  last_key = rw f (get_or-set_same w₁ (entries_at + n) (role_id s) 0 (omega (arith, long_lem, long)))

  other_key : (i : ℕ) → i < n → get_or w₂ (entries_at + i) 0 ≡ get_or w (entries_at + i) 0
  other_key i l = before (entries_at + i) (λ z. absurd (omega arith)) ∙ rw e (get_or-set_other w (roles_at + role_id s) (entries_at + i) (role_code (flipped r)) 0 (λ z. absurd (omega arith)))

  -- the key had no entry
  key_free : newness m (role_id s) ≡ 0
  key_free = free_newness m (role_id s) (no_some (lookup m (role_id s)) (or_parts (is_inverse r || is_inverse s || eqb (role_id r) (role_id s) || is_some (lookup m (role_id r))) (is_some (lookup m (role_id s))) h).1)

  mapped_behind : (m : InverseCanon) → Mapped w₁ m most_roles → Mapped w₂ m most_roles
  mapped_behind m M = record { each = λ k l. at k l (M.each k l) }
    where
      at : (k : ℕ) → k < most_roles → MappedAt w₁ m k → MappedAt w₂ m k
      at k l (free a b) = free a (before (roles_at + k) (λ z. absurd (omega arith)) ∙ b)
      at k l (key i q a b) = key i q a (before (roles_at + k) (λ z. absurd (omega arith)) ∙ b)

  newness_now : (k i : ℕ) → k ≡ get_or w₂ (entries_at + i) 0 → i < n + 1 → newness (record { key = role_id s; value = flipped r } ∷ m) k ≡ suc i
  newness_now k i q l = by_test (eqb i n)
      (λ t. let z = eqb-true i n t in let y : role_id s ≡ k = sym (q ∙ ap (λ x. get_or w₂ (entries_at + x) 0) z ∙ last_key) in rw (eq-eqb (role_id s) k y, z) (ap suc E.count))
      (λ t.
      let small_i : i < n = omega (arith, eqb-false i n t) in
      let old : newness m k ≡ suc i = rw (q ∙ other_key i small_i) (E.order i small_i) in
      rw (ne_eqb (role_id s) k (λ z. absurd (let y : newness m k ≡ 0 = rw (← z) key_free in omega (arith, old)))) old)

  pub entries_more : role_id r < most_roles → Entries w₂ (declared m r s) (n + 1)
  entries_more low = record {
    mapped = mapped_behind (declared m r s) (declare_more w w₁ m r s E.mapped h low e (omega (arith, long)));
    count = rw h (omega (arith, E.count));
    order = λ i l. rw h (newness_now (get_or w₂ (entries_at + i) 0) i refl l);
    keys = λ i l. by_test (eqb i n)
        (λ t. let z = eqb-true i n t in rw (z, last_key) small)
        (λ t. let small_i : i < n = omega (arith, eqb-false i n t) in rw (other_key i small_i) (E.keys i small_i));
  }

-- the others make none
pub entries_same : (w : List ℕ) (m : InverseCanon) (r s : Role) (n : ℕ) → Entries w m n → skipped m r s ≡ true → Entries w (declared m r s) n
entries_same w m r s n E h = rw h E

pub entries_none : (w : List ℕ) → Mapped w [] most_roles → Entries w [] 0
entries_none w M = record { mapped = M; count = refl; order = λ i l. absurd (omega arith); keys = λ i l. absurd (omega arith) }

-- ---- each role its own
pub mapped_none : (w : List ℕ) → Mapped w [] 0
mapped_none w = record { each = λ r l. absurd (omega arith) }

pub mapped_own : (w w' : List ℕ) (n : ℕ) → Mapped w [] n → w' ≡ set w (roles_at + n) (2 * n) → roles_at + n < length w → Mapped w' [] (n + 1)
unfolding lookup
mapped_own w w' n M e long = record {
  each = λ r l. by_test (eqb r n)
      (λ t. let z : r ≡ n = eqb-true r n t in rw (z, e) (free refl (get_or-set_same w (roles_at + n) (2 * n) 0 long)))
      (λ t. old r t (M.each r (omega (arith, eqb-false r n t))));
}
  where
    old : (r : ℕ) → eqb r n ≡ false → MappedAt w [] r → MappedAt w' [] r
    old r t (free a b) = free a (rw e (get_or-set_other w (roles_at + n) (roles_at + r) (2 * n) 0 (λ z. eqb-false r n t (omega arith)) ∙ b))
    old r t (key i l a b) = absurd (let z : ◌≡◌ {A = ℕ} 0 1 = cc in omega arith)

-- ---- what is beside the map
pub beside_refl : (w : List ℕ) → Beside w w
beside_refl w = record { below = λ j l. refl; above = λ j l. refl }

pub beside_trans : (w w₁ w₂ : List ℕ) → Beside w w₁ → Beside w₁ w₂ → Beside w w₂
beside_trans w w₁ w₂ A B = record { below = λ j l. B.below j l ∙ A.below j l; above = λ j l. B.above j l ∙ A.above j l }

pub beside_set : (w w' : List ℕ) (j x : ℕ) → roles_at ≤ j → j < alternatives_at → w' ≡ set w j x → Beside w w'
beside_set w w' i x a b e = record {
  below = λ j l. rw e (get_or-set_other w i j x 0 (λ z. absurd (omega arith)));
  above = λ j l. rw e (get_or-set_other w i j x 0 (λ z. absurd (omega arith)));
}

-- ---- the loop over the roles, in scratch's bytes
pub record Clearing (s₀ s : List ℕ) (n : ℕ) : Type 0 where
  pub within : n ≤ most_roles
  pub mapped : Mapped (words s) [] n
  pub beside : Beside (words s₀) (words s)
  pub long : length s ≡ length s₀

pub clearing_next : (s₀ s s' : List ℕ) (n : ℕ) → Clearing s₀ s n → n < most_roles → 4 * (roles_at + most_roles) ≤ length s₀ → words s' ≡ set (words s) (roles_at + n) (2 * n) → length s' ≡ length s → Clearing s₀ s' (n + 1)
clearing_next s₀ s s' n C h r e l = record {
  within = omega arith;
  mapped = mapped_own (words s) (words s') n C.mapped e (omega (arith, C.long, length_words s));
  beside = beside_trans (words s₀) (words s) (words s') C.beside (beside_set (words s) (words s') (roles_at + n) (2 * n) (omega arith) (omega arith) e);
  long = l ∙ C.long;
}
