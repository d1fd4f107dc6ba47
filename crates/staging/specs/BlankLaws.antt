-- Lent tables of zeros. Assumes nothing.
use Rattle.std.specs.Prelude.{◌≡◌, refl, List, ℕ, ◌*◌, length, replicate}
use Rattle.std.proofs.Common.{sym, ap, ◌∙◌, arith}
use Rattle.words.specs.Words.{words}
use Rattle.words.specs.Laws.{length_words, words_zeros}
use Rattle.ir.specs.declared.counters.Counters.{Counters}
use Rattle.rules.specs.State.{Rooms}
use Rattle.rules.specs.Run.{clause_words, atom_words, deferral_words}
use Rattle.tables.specs.Drawn.{tables, Lent}
use Rattle.clausifier.specs.Prepare.{empty}
use Rattle.staging.specs.Stage.{Blank}

pub blank_tables : (rooms : Rooms) (c a d : List ℕ) (k : Counters) → Blank rooms c a d → tables k c a d ≡ empty k rooms
blank_tables rooms c a d k B =
    let x : c ≡ replicate (clause_words * rooms.clauses) 0 = B.clauses ∙ ap (λ (n : ℕ). replicate n 0) B.sizes.clauses in
    let y : a ≡ replicate (atom_words * rooms.atoms) 0 = B.atoms ∙ ap (λ (n : ℕ). replicate n 0) B.sizes.atoms in
    let z : d ≡ replicate (deferral_words * rooms.deferrals) 0 = B.deferrals ∙ ap (λ (n : ℕ). replicate n 0) B.sizes.deferrals in
    rw (x, y, z) refl

-- ---- tables of the same lengths
pub record SameLong (c a d c' a' d' : List ℕ) : Type 0 where
  pub clauses : length c' ≡ length c
  pub atoms : length a' ≡ length a
  pub deferrals : length d' ≡ length d

pub lent_kept : (rooms : Rooms) (c a d c' a' d' : List ℕ) → SameLong c a d c' a' d' → Lent rooms c a d → Lent rooms c' a' d'
lent_kept rooms c a d c' a' d' S l = record { clauses = S.clauses ∙ l.clauses; atoms = S.atoms ∙ l.atoms; deferrals = S.deferrals ∙ l.deferrals }

-- ---- bytes
zeros_long : (s : List ℕ) (m : ℕ) → length s ≡ 4 * m → length (words s) ≡ m
zeros_long s m e = omega (arith, length_words s)

zeros_words : (s : List ℕ) (m : ℕ) → length s ≡ 4 * m → s ≡ replicate (length s) 0 → words s ≡ replicate (length (words s)) 0
zeros_words s m e z =
    ap words (z ∙ ap (λ (n : ℕ). replicate n 0) e) ∙ words_zeros m ∙ ap (λ (n : ℕ). replicate n 0) (sym (zeros_long s m e))

pub blank_zeros : (rooms : Rooms) (c a d : List ℕ) → length c ≡ 4 * (clause_words * rooms.clauses) → length a ≡ 4 * (atom_words * rooms.atoms) → length d ≡ 4 * (deferral_words * rooms.deferrals)
    → c ≡ replicate (length c) 0 → a ≡ replicate (length a) 0 → d ≡ replicate (length d) 0 → Blank rooms (words c) (words a) (words d)
blank_zeros rooms c a d e f g x y z = record {
  sizes = record {
    clauses = zeros_long c (clause_words * rooms.clauses) e;
    atoms = zeros_long a (atom_words * rooms.atoms) f;
    deferrals = zeros_long d (deferral_words * rooms.deferrals) g;
  };
  clauses = zeros_words c (clause_words * rooms.clauses) e x;
  atoms = zeros_words a (atom_words * rooms.atoms) f y;
  deferrals = zeros_words d (deferral_words * rooms.deferrals) g z;
}
