-- One entry followed. Assumes nothing.
use Rattle.std.specs.Prelude.{◌≡◌, refl, List, ℕ, suc, ◌+◌, ◌*◌, ◌<◌, ◌≤◌, length, get_or, set, eqb, leb}
use Rattle.std.proofs.Common.{sym, ap, ◌∙◌, arith, eqb-true, le-leb, leb-false, get_or-set_same, get_or-set_other}
use Rattle.std.proofs.lemmas.Bool.{lt-leb}
use Rattle.std.proofs.Math.Option.{Option, none, some}
use borrow.Author.Tests.{eqb-false, leb-true}
use Rattle.words.specs.Words.{words}
use Rattle.words.specs.Laws.{length_words}
use Rattle.ir.specs.Pick.{pick}
use Rattle.ir.specs.Scratch.{roles_at, alternatives_at}
use Rattle.ir.specs.Roles.{role_id, role_code, role_of, role_code_lem, code_below, id_half, flipped, flip_id}
use Rattle.ir.specs.declared.role.Role.{Role}
use Rattle.ir.specs.declared.role.Role.TheVariants.{Named, Inverse}
use Rattle.rules.specs.Base.{is_some}
use Rattle.rules.specs.Concept.{Axiom}
use Rattle.rules.specs.Deck.{most_roles}
use Rattle.rules.specs.Inverse.{InverseCanon, lookup, build_inverse_canon, canon_role, follow, followed}
use Rattle.rules.specs.TextLaws.{by_test}
use Rattle.rules.proofs.FollowLaws.{step_turns, step_free, follow_turns, follow_free, step_by}
use Rattle.rules.proofs.RingLaws.{newness, newness_most, newness_known, newness_one, Onward, ends, newer, step_onward, follow_on}
use Rattle.inverse.specs.Layout.{RolesHeld, MappedAt, free, key, Entries, entries_at}
use Rattle.inverse.specs.Following.{half, halfway, Halfway}
use Rattle.inverse.specs.BuildLaws.{mapped_held}

-- ---- the map while it is followed
step_half : (m : InverseCanon) (n i : ℕ) → canon_role (halfway m n) (Named i) ≡ pick (is_some (lookup m i)) (half m n i) (Named i)
step_half m n i = step_by (half m n) m i

-- as it was made
pub half_first : (m : InverseCanon) (i : ℕ) → canon_role (halfway m (length m)) (Named i) ≡ canon_role m (Named i)
half_first m i = step_half m (length m) i ∙ go (lookup m i) refl
  where
    go : (o : Option Role) → lookup m i ≡ o → pick (is_some o) (half m (length m) i) (Named i) ≡ canon_role m (Named i)
    go none h = sym (step_free m (Named i) h)
    go (some q) h = rw (le-leb (newness m i) (length m) (newness_most m i)) refl

-- all are followed
pub half_last : (m : InverseCanon) (i : ℕ) → canon_role (halfway m 0) (Named i) ≡ canon_role (followed m) (Named i)
half_last m i = step_half m 0 i ∙ go (lookup m i) refl ∙ sym (step_by (λ k. follow m (Named k)) m i)
  where
    go : (o : Option Role) → lookup m i ≡ o → pick (is_some o) (half m 0 i) (Named i) ≡ pick (is_some o) (follow m (Named i)) (Named i)
    go none h = refl
    go (some q) h = rw (lt-leb (newness m i) 0 (newness_known m i q h)) refl

-- a role whose entry, if it has one, is followed
beyond : (m : InverseCanon) (n i : ℕ) → (newness m i ≤ n → newness m i ≡ 0) → canon_role (halfway m n) (Named i) ≡ follow m (Named i)
beyond m n i far = step_half m n i ∙ go (lookup m i) refl
  where
    go : (o : Option Role) → lookup m i ≡ o → pick (is_some o) (half m n i) (Named i) ≡ follow m (Named i)
    go none h = sym (follow_free (length m) m (Named i) h)
    go (some q) h = by_test (leb (newness m i) n)
        (λ t. absurd (let y = newness_known m i q h in let z = far (leb-true (newness m i) n t) in omega arith))
        (λ t. rw t refl)

role_beyond : (m : InverseCanon) (n : ℕ) (q : Role) → (newness m (role_id q) ≤ n → newness m (role_id q) ≡ 0) → canon_role (halfway m n) q ≡ follow m q
role_beyond m n (Named i) far = beyond m n i far
role_beyond m n (Inverse i) far = step_turns (halfway m n) (Named i) ∙ ap flipped (beyond m n i far) ∙ sym (follow_turns (length m) m (Named i))

-- ---- entry n, of key k
module _ (l : List Axiom) (n k : ℕ) (e : newness (build_inverse_canon l) k ≡ suc n) where
  abbrev m : InverseCanon
  m = build_inverse_canon l

  -- as it was made
  entry_made : canon_role (halfway m (suc n)) (Named k) ≡ canon_role m (Named k)
  entry_made = step_half m (suc n) k ∙ go (lookup m k) refl
    where
      go : (o : Option Role) → lookup m k ≡ o → pick (is_some o) (half m (suc n) k) (Named k) ≡ canon_role m (Named k)
      go none h = sym (step_free m (Named k) h)
      go (some q) h = rw (le-leb (newness m k) (suc n) (omega (arith, e))) refl

  -- one step on from there ends
  entry_ends : canon_role (halfway m (suc n)) (canon_role m (Named k)) ≡ follow m (Named k)
  entry_ends = role_beyond m (suc n) (canon_role m (Named k)) (far (step_onward l (Named k))) ∙ follow_on l (Named k)
    where
      far : Onward m k (role_id (canon_role m (Named k))) → newness m (role_id (canon_role m (Named k))) ≤ suc n → newness m (role_id (canon_role m (Named k))) ≡ 0
      far (ends z) h = z
      far (newer z) h = absurd (omega (arith, e))

  -- and is where it ends in the next map
  entry_next : canon_role (halfway m n) (Named k) ≡ follow m (Named k)
  entry_next = beyond m n k (λ h. absurd (omega (arith, e)))

  -- the other roles are as they were
  other_next : (r : ℕ) → (r ≡ k → ⊥) → canon_role (halfway m n) (Named r) ≡ canon_role (halfway m (suc n)) (Named r)
  other_next r d = step_half m n r ∙ go (lookup m r) refl ∙ sym (step_half m (suc n) r)
    where
      go : (o : Option Role) → lookup m r ≡ o → pick (is_some o) (half m n r) (Named r) ≡ pick (is_some o) (half m (suc n) r) (Named r)
      go none h = refl
      go (some q) h =
          let p = newness_known m r q h in
          let apart : newness m r ≡ suc n → ⊥ = λ z. d (newness_one m r k p (z ∙ sym e)) in
          by_test (leb (newness m r) n)
          (λ t. rw (t, le-leb (newness m r) (suc n) (let y = leb-true (newness m r) n t in omega arith)) refl)
          (λ t. rw (t, lt-leb (newness m r) (suc n) (let y = leb-false (newness m r) n t in omega arith)) refl)

-- ---- a role that is looked up is one of the deck's
id_below : (r : Role) (n : ℕ) → role_code r < 2 * n → role_id r < n
id_below (Named i) n h = omega arith
id_below (Inverse i) n h = omega arith

module _ (w : List ℕ) (c : InverseCanon) (R : RolesHeld w c) (W : (r : ℕ) → r < most_roles → get_or w (roles_at + r) 0 < 2 * most_roles) where
  named_in : (i : ℕ) → i < most_roles → role_id (canon_role c (Named i)) < most_roles
  named_in i h = id_below (canon_role c (Named i)) most_roles (rw (← (R.mapped i h)) (W i h))

  held_in : (r : Role) → role_id r < most_roles → role_id (canon_role c r) < most_roles
  held_in (Named i) h = named_in i h
  held_in (Inverse i) h = rw (step_turns c (Named i), flip_id (canon_role c (Named i))) (named_in i h)

-- ---- the words
pub halfway_next : (l : List Axiom) (s s' : List ℕ) (n k c : ℕ) (r : Role) → Halfway l s (suc n) → k ≡ get_or (words s) (entries_at + n) 0 → c ≡ get_or (words s) (roles_at + k) 0
    → ((m : InverseCanon) → RolesHeld (words s) m → r ≡ canon_role m (role_of c)) → words s' ≡ set (words s) (roles_at + k) (role_code r) → length s' ≡ length s → Halfway l s' n
halfway_next l s s' n k c r H ek ec er e long = record {
  space = omega (arith, long, H.space);
  few = omega (arith, H.few);
  held = record { mapped = λ j h. by_test (eqb j k) (λ t. let z = eqb-true j k t in rw z (mine ∙ ap role_code (sym mapped_is))) (λ t. there j (eqb-false j k t) ∙ H.held.mapped j h ∙ ap role_code (sym (other_next l n k new j (eqb-false j k t)))) };
  within = λ j h. by_test (eqb j k) (λ t. let z = eqb-true j k t in rw (z, mine) (code_below r most_roles small)) (λ t. rw (there j (eqb-false j k t)) (H.within j h));
  order = λ i h. rw (beside i) (H.order i (omega arith));
  keys = λ i h. rw (beside i) (H.keys i (omega arith));
}
  where
    M : InverseCanon
    M = build_inverse_canon l

    new : newness (build_inverse_canon l) k ≡ suc n
    new = rw ek (H.order n (omega arith))

    low : k < most_roles
    low = rw ek (H.keys n (omega arith))

    code_is : c ≡ role_code (canon_role M (Named k))
    code_is = ec ∙ H.held.mapped k low ∙ ap role_code (entry_made l n k new)

    value_is : r ≡ canon_role (halfway M (suc n)) (canon_role M (Named k))
    value_is = er (halfway M (suc n)) H.held ∙ ap (λ x. canon_role (halfway M (suc n)) (role_of x)) code_is ∙ ap (canon_role (halfway M (suc n))) (role_code_lem (canon_role M (Named k)))

    mapped_is : canon_role (halfway M n) (Named k) ≡ r
    mapped_is = entry_next l n k new ∙ sym (entry_ends l n k new) ∙ sym value_is

    small : role_id r < most_roles
    small = rw (er (halfway M (suc n)) H.held) (held_in (words s) (halfway M (suc n)) H.held H.within (role_of c) (let y = id_half c in let z = H.within k low in omega (arith, ec)))

    mine : get_or (words s') (roles_at + k) 0 ≡ role_code r
    mine = rw e (get_or-set_same (words s) (roles_at + k) (role_code r) 0 (omega (arith, length_words s, H.space, low)))

    there : (j : ℕ) → (j ≡ k → ⊥) → get_or (words s') (roles_at + j) 0 ≡ get_or (words s) (roles_at + j) 0
    there j d = rw e (get_or-set_other (words s) (roles_at + k) (roles_at + j) (role_code r) 0 (λ z. d (omega arith)))

    beside : (i : ℕ) → get_or (words s') (entries_at + i) 0 ≡ get_or (words s) (entries_at + i) 0
    beside i = rw e (get_or-set_other (words s) (roles_at + k) (entries_at + i) (role_code r) 0 (λ z. absurd (omega (arith, low))))

-- ---- before the first and after the last
pub halfway_first : (l : List Axiom) (s : List ℕ) (n : ℕ) → 4 * alternatives_at ≤ length s → n ≤ most_roles → Entries (words s) (build_inverse_canon l) n → Halfway l s n
halfway_first l s n space few E = record {
  space = space;
  few = few;
  held = record { mapped = λ r h. (mapped_held (words s) M E.mapped).mapped r h ∙ ap role_code (sym (rw (← E.count) (half_first M r))) };
  within = λ r h. code_at r h (E.mapped.each r h);
  order = E.order;
  keys = E.keys;
}
  where
    M : InverseCanon
    M = build_inverse_canon l

    code_at : (r : ℕ) → r < most_roles → MappedAt (words s) (build_inverse_canon l) r → get_or (words s) (roles_at + r) 0 < 2 * most_roles
    code_at r h (free a b) = omega (arith, b)
    code_at r h (key i low a b) = omega (arith, b)

pub halfway_last : (l : List Axiom) (s : List ℕ) → Halfway l s 0 → RolesHeld (words s) (followed (build_inverse_canon l))
halfway_last l s H = record { mapped = λ r h. H.held.mapped r h ∙ ap role_code (half_last (build_inverse_canon l) r) }
