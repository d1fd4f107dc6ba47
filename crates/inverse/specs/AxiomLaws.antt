-- The loop over the axioms. Assumes nothing.
use Rattle.std.specs.Prelude.{◌≡◌, refl, true, List, [], length, get_or}
use Rattle.std.proofs.Common.{sym, ap, ◌∙◌, zero-add, eqb-true}
use Rattle.std.proofs.Math.Path.{subst}
use Prim.Native.Nat.{ℕ, suc, ◌+◌, ◌*◌, ◌-◌, ◌<◌, ◌≤◌}
use native.Mathlib.Omega.{arith}
use Rattle.words.specs.Words.{words}
use Rattle.ir.specs.Scratch.{axioms_at, numbers_at, lines_at}
use Rattle.ir.specs.Roles.{role_id, role_of, code_in}
use Rattle.ir.specs.declared.role.Role.{Role}
use Rattle.rules.specs.Concept.{Axiom, InverseObjectProperties}
use Rattle.rules.specs.Deck.{most_roles, section_of, fields_ok, axiom_of}
use Rattle.rules.specs.Inverse.{InverseCanon, declared, inverse_of, build_from}
use Rattle.rules.specs.Invariants.{Bounds, RoleIn, AxiomIn}
use Rattle.pool.specs.Layout.{tab}
use Rattle.pool.specs.Tabs.{tab_each}
use Rattle.deck.proofs.KindLaws.{axiom_kinds}
use Rattle.ontology.specs.Layout.{axiom_start, axiom_count, axiom_number, axiom_row, axiom_at, axioms_of, AxiomsHeld}
use Rattle.ontology.specs.KeptAxioms.{axiom_kept, axioms_kept, held_axioms}
use Rattle.ontology.specs.Rows.{inverse_is}
use Rattle.inverse.specs.Layout.{Mapped, Entries, Beside, Building}
use Rattle.inverse.specs.BuildLaws.{entries_none, beside_refl, beside_trans}

-- ---- one axiom
abbrev Idle : InverseCanon → List ℕ → ℕ → Type 0
Idle m r k = (k ≡ 32 → ⊥) → inverse_of m (axiom_of k r) ≡ m

-- an axiom of another kind makes no entry
pub other_kind : (m : InverseCanon) (r : List ℕ) (k : ℕ) → section_of k ≡ 4 → Idle m r k
unfolding axiom_of
other_kind m r =
    axiom_kinds (Idle m r) (λ _. refl) (λ _. refl) (λ _. refl) (λ _. refl) (λ _. refl) (λ _. refl) (λ _. refl) (λ _. refl) (λ _. refl) (λ _. refl) (λ _. refl)
    (λ h. absurd (h refl)) (λ _. refl) (λ _. refl) (λ _. refl) (λ _. refl)

module _ (w : List ℕ) (n i : ℕ) (H : AxiomsHeld w n) (h : i < n) (k : axiom_number w i 0 ≡ 32) where
  pub three : axiom_count w i ≡ 3
  three = eqb-true (axiom_count w i) 3 (subst (λ (x : ℕ). fields_ok x (axiom_count w i) ≡ true) k (H.fields i h))

  pub inverse_axiom : axiom_at w i ≡ InverseObjectProperties (role_of (axiom_number w i 1)) (role_of (axiom_number w i 2))
  inverse_axiom = ap (λ (x : ℕ). axiom_of x (axiom_row w i)) k ∙ inverse_is w (numbers_at + axiom_start w i) (axiom_count w i) three

-- the code of a role of the deck
pub code_small : (B : Bounds) (c : ℕ) → B.roles ≤ most_roles → RoleIn B (role_of c) → c < 2 * most_roles
code_small B c l h = omega (arith, code_in c B.roles h)

-- ---- the numbers that the code reads
module _ (s : List ℕ) (n i : ℕ) (A : Building s n) (h : i < n) where
  pub axiom_idle : (k : ℕ) → k ≡ axiom_number (words s) i 0 → (k ≡ 32 → ⊥) → (c : ℕ) (m : InverseCanon) → Entries (words s) m c → Entries (words s) (inverse_of m (axiom_at (words s) i)) c
  axiom_idle k e d c m M = subst (λ (x : InverseCanon). Entries (words s) x c) (sym (other_kind m (axiom_row (words s) i) (axiom_number (words s) i 0) (A.held.kinds i h) (λ z. d (e ∙ z)))) M

  module _ (k : axiom_number (words s) i 0 ≡ 32) where
    roles_in : RoleIn A.bounds (role_of (axiom_number (words s) i 1)) × RoleIn A.bounds (role_of (axiom_number (words s) i 2))
    roles_in =
        let e : 0 + i ≡ i = zero-add i in
        subst (AxiomIn A.bounds A.concepts) (inverse_axiom (words s) n i A.held h k) (rw e at (tab_each (axiom_at (words s)) (AxiomIn A.bounds A.concepts) 0 n A.inside i h))

    pub first_small : (r : Role) → r ≡ role_of (axiom_number (words s) i 1) → role_id r < most_roles
    first_small r e = rw e (omega (arith, roles_in.0, A.few))

    pub second_small : (r : Role) → r ≡ role_of (axiom_number (words s) i 2) → role_id r < most_roles
    second_small r e = rw e (omega (arith, roles_in.1, A.few))

    pub axiom_entry : (r t : Role) (w' : List ℕ) (c c' : ℕ) → r ≡ role_of (axiom_number (words s) i 1) → t ≡ role_of (axiom_number (words s) i 2)
        → ((m : InverseCanon) → Entries (words s) m c → Entries w' (declared m r t) c')
        → (m : InverseCanon) → Entries (words s) m c → Entries w' (inverse_of m (axiom_at (words s) i)) c'
    axiom_entry r t w' c c' er et D m M =
        let e : InverseObjectProperties r t ≡ axiom_at (words s) i =
        ap (λ (x : Role). InverseObjectProperties x t) er ∙ ap (λ (x : Role). InverseObjectProperties (role_of (axiom_number (words s) i 1)) x) et ∙ sym (inverse_axiom (words s) n i A.held h k) in
        subst (λ (a : Axiom). Entries w' (inverse_of m a) c') e (D m M)

-- ---- a write elsewhere leaves the axioms as they are
module _ (s₀ s : List ℕ) (n : ℕ) (A : Building s₀ n) (K : (j : ℕ) → axioms_at ≤ j → j < lines_at → get_or (words s) j 0 ≡ get_or (words s₀) j 0) (l : length s ≡ length s₀) where
  pub building_kept : Building s n
  building_kept = record {
    space = omega (arith, A.space);
    held = held_axioms (words s₀) (words s) n A.held K;
    bounds = A.bounds;
    few = A.few;
    concepts = A.concepts;
    inside = rw (axioms_kept (words s₀) (words s) n A.held K) A.inside;
  }

-- so does one to the map
pub beside_axioms : (w w' : List ℕ) → Beside w w' → (j : ℕ) → axioms_at ≤ j → j < lines_at → get_or w' j 0 ≡ get_or w j 0
beside_axioms w w' B j h k = B.above j (omega arith)

-- ---- the loop: of scratch's bytes s₀ before it and s now, i axioms are read, and they made c entries
pub record Reading (s₀ s : List ℕ) (n i c : ℕ) : Type 0 where
  pub asked : Building s₀ n
  pub within : i ≤ n
  pub map : InverseCanon
  pub entries : Entries (words s) map c
  pub few : c ≤ i
  pub rest : build_from [] (axioms_of (words s₀) n) ≡ build_from map (tab (axiom_at (words s₀)) i (n - i))
  pub beside : Beside (words s₀) (words s)
  pub long : length s ≡ length s₀

pub reading_first : (s : List ℕ) (n : ℕ) → Building s n → Mapped (words s) [] most_roles → Reading s s n 0 0
reading_first s n A M = record {
  asked = A;
  within = omega arith;
  map = [];
  entries = entries_none (words s) M;
  few = omega arith;
  rest = let e : n - 0 ≡ n = omega arith in rw e refl;
  beside = beside_refl (words s);
  long = refl;
}

module _ (s₀ s : List ℕ) (n i c : ℕ) (R : Reading s₀ s n i c) where
  pub reading_asks : Building s n
  reading_asks = building_kept s₀ s n R.asked (beside_axioms (words s₀) (words s) R.beside) R.long

  pub reading_next : i < n → (s' : List ℕ) (c' : ℕ) → ((m : InverseCanon) → Entries (words s) m c → Entries (words s') (inverse_of m (axiom_at (words s) i)) c') → c' ≤ c + 1 → Beside (words s) (words s') → length s' ≡ length s → Reading s₀ s' n (i + 1) c'
  unfolding build_from tab
  reading_next h s' c' M few B l = record {
    asked = R.asked;
    within = omega arith;
    map = inverse_of R.map (axiom_at (words s₀) i);
    few = omega (arith, few, R.few);
    entries = subst (λ (a : Axiom). Entries (words s') (inverse_of R.map a) c') (axiom_kept (words s₀) (words s) n R.asked.held (beside_axioms (words s₀) (words s) R.beside) i h) (M R.map R.entries);
    beside = beside_trans (words s₀) (words s) (words s') R.beside B;
    long = l ∙ R.long;
    rest = R.rest ∙ (let e : n - i ≡ suc (n - (i + 1)) = omega arith in rw e refl);
  }

  pub reading_end : n ≤ i → Entries (words s) (build_from [] (axioms_of (words s₀) n)) c
  unfolding build_from tab
  reading_end h =
      let e : n - i ≡ 0 = omega arith in
      subst (λ (m : InverseCanon). Entries (words s) m c) (sym (R.rest ∙ rw e refl)) R.entries
