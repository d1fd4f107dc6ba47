-- A search for Exists in a run of atoms, at atom i. Assumes nothing.
use Rattle.std.specs.Prelude.{true, false, ◌≡◌, refl, List, [], ◌∷◌, ℕ, zero, suc, ◌+◌, ◌*◌, ◌/◌, ◌≤◌, ◌<◌, length, get_or, drop}
use Rattle.std.proofs.Common.{sym, ◌∙◌, arith, drop_of_length-le}
use Rattle.std.proofs.Math.Bool.{or-true}
use Rattle.words.specs.Words.{words}
use Rattle.ir.specs.Records.{words_of}
use Rattle.ir.specs.declared.atom.Atom.{Atom}
use Rattle.ir.specs.declared.atom.Atom.TheVariants.{Class, Exists, AtMost, AtLeast, Equal, Role as RoleAtom}
use Rattle.rules.specs.Base.{any}
use Rattle.rules.specs.Stats.{is_exists}
use Rattle.tables.specs.Tabled.{Run}
use Rattle.branches.specs.AtomsLaws.{run_atom}

-- ---- by the kind
is_exists_lem : (a : Atom) → (words_of a).0 ≡ 3 → is_exists a ≡ true
is_exists_lem (Class k v) e = absurd (omega arith)
is_exists_lem (RoleAtom r u v) e = absurd (omega arith)
is_exists_lem (Exists r k v) e = refl
is_exists_lem (AtMost r q n v) e = absurd (omega arith)
is_exists_lem (AtLeast r q n v) e = absurd (omega arith)
is_exists_lem (Equal u v) e = absurd (omega arith)

no_exists : (a : Atom) → ((words_of a).0 ≡ 3 → ⊥) → is_exists a ≡ false
no_exists (Class k v) e = refl
no_exists (RoleAtom r u v) e = refl
no_exists (Exists r k v) e = absurd (e refl)
no_exists (AtMost r q n v) e = refl
no_exists (AtLeast r q n v) e = refl
no_exists (Equal u v) e = refl

-- ---- before atom i of a run
module _ (s : List ℕ) (n i : ℕ) (e : n ≡ length s / 24) (l : List Atom) (R : Run s l) where
  pub exists_found : i < n → get_or (words s) (6 * i) 0 ≡ 3 → any is_exists (drop i l) ≡ true
  exists_found h q = let a = run_atom s n i e l R h in rw (a.split, is_exists_lem a.atom (sym a.words.kind ∙ q)) refl

  pub exists_on : i < n → (get_or (words s) (6 * i) 0 ≡ 3 → ⊥) → any is_exists (drop i l) ≡ any is_exists (drop (i + 1) l)
  exists_on h q = let a = run_atom s n i e l R h in rw (a.split, no_exists a.atom (λ k. q (a.words.kind ∙ k))) refl

  pub exists_out : n ≤ i → any is_exists (drop i l) ≡ false
  exists_out h =
      let z : length l ≤ i = omega (arith, R.long) in
      rw (drop_of_length-le l z) refl

pub exists_back : (l : List Atom) (k : ℕ) → any is_exists (drop k l) ≡ true → any is_exists l ≡ true
exists_back [] zero e = e
exists_back [] (suc k) e = e
exists_back (a ∷ l) zero e = e
exists_back (a ∷ l) (suc k) e = rw (exists_back l k e) (or-true (is_exists a))
