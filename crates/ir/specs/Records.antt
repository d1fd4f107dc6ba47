-- An atom as six words: kind, role code, class id + 1, number, two variables; unused is 0, and class 0 on kinds 4 and 5 means unqualified.
use Rattle.std.specs.Prelude.{Bool, Option, Some, None, true, false, List, [], ◌∷◌, ℕ, ◌+◌, ◌*◌, ◌-◌, ◌<◌, ◌^◌, eqb, get_or}
use Prim.{Unit}
use Rattle.ir.specs.Pick.{pick}
use Rattle.ir.specs.Roles.{role_id, role_code, role_of}
use Rattle.ir.specs.declared.atom.Atom.{Atom}
use Rattle.ir.specs.declared.atom.Atom.TheVariants.{Class, Exists, AtMost, AtLeast, Equal, Role as RoleAtom}
use Rattle.ir.specs.Qualifiers.{Qualifier}
use Rattle.ir.specs.declared.record.AtomWords.{AtomWords}

-- what six words are: an atom, or none
abbrev pub Read : Type 0
Read = Option Atom

abbrev pub qualifier_word : Qualifier → ℕ
qualifier_word None = 0
qualifier_word (Some k) = k + 1

abbrev pub qualifier_of : ℕ → Qualifier
qualifier_of w = pick (eqb w 0) None (Some (w - 1))

-- the record's words
abbrev pub words_of : Atom → AtomWords
words_of (Class k v) = record { 0 = 1; 1 = 0; 2 = k + 1; 3 = 0; 4 = v; 5 = 0 }
words_of (RoleAtom r u v) = record { 0 = 2; 1 = role_code r; 2 = 0; 3 = 0; 4 = u; 5 = v }
words_of (Exists r k v) = record { 0 = 3; 1 = role_code r; 2 = k + 1; 3 = 0; 4 = v; 5 = 0 }
words_of (AtMost r q n v) = record { 0 = 4; 1 = role_code r; 2 = qualifier_word q; 3 = n; 4 = v; 5 = 0 }
words_of (AtLeast r q n v) = record { 0 = 5; 1 = role_code r; 2 = qualifier_word q; 3 = n; 4 = v; 5 = 0 }
words_of (Equal u v) = record { 0 = 6; 1 = 0; 2 = 0; 3 = 0; 4 = u; 5 = v }

abbrev pub six_of : AtomWords → List ℕ
six_of w = w.0 ∷ w.1 ∷ w.2 ∷ w.3 ∷ w.4 ∷ w.5 ∷ []

-- the six words of an atom, in the table's order
abbrev pub six : Atom → List ℕ
six a = six_of (words_of a)

-- record i of a table's words
abbrev pub record_at : List ℕ → ℕ → AtomWords
record_at w i = record { 0 = get_or w (6 * i) 0; 1 = get_or w (6 * i + 1) 0; 2 = get_or w (6 * i + 2) 0; 3 = get_or w (6 * i + 3) 0; 4 = get_or w (6 * i + 4) 0; 5 = get_or w (6 * i + 5) 0 }

-- what the code can write in four bytes a word
abbrev pub Fits : Atom → Type 0
Fits (Class k v) = k + 1 < 2 ^ 32
Fits (RoleAtom r u v) = role_id r < 2 ^ 31
Fits (Exists r k v) = (role_id r < 2 ^ 31) × (k + 1 < 2 ^ 32)
Fits (AtMost r q n v) = (role_id r < 2 ^ 31) × (qualifier_word q < 2 ^ 32)
Fits (AtLeast r q n v) = (role_id r < 2 ^ 31) × (qualifier_word q < 2 ^ 32)
Fits (Equal u v) = Unit

-- ---- reading back: six words that no atom has are none
abbrev pub unused_words : ℕ → ℕ → ℕ → Bool
unused_words a b c = pick (eqb a 0) (pick (eqb b 0) (eqb c 0) false) false

-- each kind, of role code r, class word k, number n, variables u and v
unfoldable pub class_read : (r k n u v : ℕ) → Read
class_read r k n u v = pick (unused_words r n v) (pick (eqb k 0) None (Some (Class (k - 1) u))) None

unfoldable pub role_read : (r k n u v : ℕ) → Read
role_read r k n u v = pick (unused_words k n 0) (Some (RoleAtom (role_of r) u v)) None

unfoldable pub exists_read : (r k n u v : ℕ) → Read
exists_read r k n u v = pick (unused_words n v 0) (pick (eqb k 0) None (Some (Exists (role_of r) (k - 1) u))) None

unfoldable pub at_most_read : (r k n u v : ℕ) → Read
at_most_read r k n u v = pick (eqb v 0) (Some (AtMost (role_of r) (qualifier_of k) n u)) None

unfoldable pub at_least_read : (r k n u v : ℕ) → Read
at_least_read r k n u v = pick (eqb v 0) (Some (AtLeast (role_of r) (qualifier_of k) n u)) None

unfoldable pub equal_read : (r k n u v : ℕ) → Read
equal_read r k n u v = pick (unused_words r k n) (Some (Equal u v)) None

unfoldable pub read_of : (kind r k n u v : ℕ) → Read
read_of kind r k n u v =
    pick (eqb kind 1) (class_read r k n u v)
    (pick (eqb kind 2) (role_read r k n u v)
    (pick (eqb kind 3) (exists_read r k n u v)
    (pick (eqb kind 4) (at_most_read r k n u v)
    (pick (eqb kind 5) (at_least_read r k n u v)
    (pick (eqb kind 6) (equal_read r k n u v)
    None)))))

-- what a record is, and record i of a table's words
abbrev pub read_words : AtomWords → Read
read_words w = read_of w.0 w.1 w.2 w.3 w.4 w.5

abbrev pub atom_at : List ℕ → ℕ → Read
atom_at w i = read_words (record_at w i)

-- equality of lists of words, and of atoms by their words
abbrev pub same_words : List ℕ → List ℕ → Bool
same_words [] [] = true
same_words [] (y ∷ m) = false
same_words (x ∷ l) [] = false
same_words (x ∷ l) (y ∷ m) = pick (eqb x y) (same_words l m) false

unfoldable pub same_atom : Atom → Atom → Bool
same_atom a b = same_words (six a) (six b)
