-- The set of flagged roles, and what leaves the flags alone. Assumes nothing.
use Rattle.std.specs.Prelude.{◌≡◌, refl, Bool, true, false, not, List, [], ℕ, zero, suc, ◌+◌, ◌<◌, ◌≤◌, eqb}
use Rattle.std.proofs.Common.{sym, ap, ◌∙◌, arith, eq-eqb, ne_eqb, eqb-true}
use Rattle.std.proofs.lemmas.Bool.{eqb-false}
use Rattle.rules.specs.Base.{kept, contains}
use Rattle.rules.specs.Deck.{most_roles}
use Rattle.rules.specs.Invariants.{Each}
use Rattle.rules.specs.EachLaws.{each_map}
use Rattle.reflexive.specs.Flags.{flags_at, is_flagged, FlagsHeld}
use Rattle.unfolding.specs.Unfolding.{Between}

-- the flagged roles below n
unfoldable pub flagged : List ℕ → ℕ → List ℕ
flagged w zero = []
flagged w (suc n) = kept n (flagged w n) (is_flagged w n)

flagged_none : (w : List ℕ) (n a : ℕ) → n ≤ a → contains (flagged w n) a ≡ false
unfolding flagged
flagged_none w zero a h = refl
flagged_none w (suc n) a h = go (is_flagged w n) (flagged_none w n a (omega arith))
  where
    go : (b : Bool) → contains (flagged w n) a ≡ false → contains (kept n (flagged w n) b) a ≡ false
    go true e = rw (ne_eqb a n (λ z. omega arith)) e
    go false e = e

flagged_is : (w : List ℕ) (n a : ℕ) → a < n → is_flagged w a ≡ contains (flagged w n) a
unfolding flagged
flagged_is w zero a h = absurd (omega arith)
flagged_is w (suc n) a h = by (eqb a n) refl (λ l. flagged_is w n a l)
  where
    here : (b : Bool) → is_flagged w n ≡ b → b ≡ contains (kept n (flagged w n) b) n
    here true e = rw (eq-eqb n n refl) refl
    here false e = sym (flagged_none w n n (omega arith))

    there : (b : Bool) → eqb a n ≡ false → contains (flagged w n) a ≡ contains (kept n (flagged w n) b) a
    there true e = rw e refl
    there false e = refl

    by : (b : Bool) → eqb a n ≡ b → (a < n → is_flagged w a ≡ contains (flagged w n) a) → is_flagged w a ≡ contains (kept n (flagged w n) (is_flagged w n)) a
    by true e again = rw (eqb-true a n e) (here (is_flagged w n) refl)
    by false e again = let z = eqb-false a n e in again (omega arith) ∙ there (is_flagged w n) e

flagged_within : (w : List ℕ) (n : ℕ) → Each (λ a. a < n) (flagged w n)
unfolding flagged
flagged_within w zero = tt
flagged_within w (suc n) = go (is_flagged w n) (each_map (λ (a : ℕ). a < n) (λ (a : ℕ). a < suc n) (λ a h. omega arith) (flagged w n) (flagged_within w n))
  where
    go : (b : Bool) → Each (λ a. a < suc n) (flagged w n) → Each (λ a. a < suc n) (kept n (flagged w n) b)
    go true p = (omega arith, p)
    go false p = p

abbrev pub flag_set : List ℕ → List ℕ
flag_set w = flagged w most_roles

pub flag_set_lem : (w : List ℕ) → FlagsHeld w (flag_set w)
flag_set_lem w = record { marked = λ a h. flagged_is w most_roles a h; within = flagged_within w most_roles }

pub flags_kept : (w w' : List ℕ) (roles : List ℕ) → Between w w' → FlagsHeld w roles → FlagsHeld w' roles
flags_kept w w' roles B F = record {
  marked = λ a h. ap (λ (x : ℕ). not (eqb x 0)) (B (flags_at + a) (omega arith) (omega arith)) ∙ F.marked a h;
  within = F.within;
}
