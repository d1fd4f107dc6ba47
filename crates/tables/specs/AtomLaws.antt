-- Atoms by their words: in a table from atom i on, and in a part of a table's bytes. Assumes nothing.
use Rattle.std.specs.Prelude.{◌≡◌, refl, List, ◌∷◌, ◌++◌, ℕ, suc, ◌+◌, ◌*◌, ◌-◌, ◌<◌, ◌≤◌, length, get_or, take, drop}
use Rattle.std.proofs.Common.{sym, ap, ◌∙◌, arith, length-append, length-drop, take-append-drop, take_at, take_all, drop_at, drop-cons, length-take-le}
use Rattle.std.proofs.Math.Seq.{take-length}
use Rattle.words.specs.Words.{words}
use Rattle.words.specs.Laws.{words_take, words_drop}
use Rattle.ir.specs.Records.{six, read_words, atom_at}
use Rattle.ir.specs.RecordLaws.{read_six_lem}
use Rattle.ir.specs.declared.atom.Atom.{Atom}
use Rattle.ir.specs.declared.atom.Atom.TheVariants.{Equal}
use Rattle.std.specs.Prelude.{Some}
use Rattle.rules.specs.Run.{flat}
use Rattle.rules.specs.DecodeLaws.{flat_long, flat_append}
use Rattle.tables.specs.Tabled.{At, Run}
use Rattle.tables.specs.TabledLaws.{at_front, at_back, at_word}

-- an atom where there is none
abbrev pub no_atom : Atom
no_atom = Equal 0 0

-- ---- the words of one atom
module _ (w : List ℕ) (i : ℕ) (x : Atom) (h : At w (6 * i) (six x)) where
  word : (k : ℕ) → k < 6 → get_or w (6 * i + k) 0 ≡ get_or (six x) k 0
  word k l = at_word w (6 * i) (six x) k h l

  pub kind_is : get_or w (6 * i) 0 ≡ get_or (six x) 0 0
  kind_is = let z : 6 * i + 0 ≡ 6 * i = omega arith in ap (λ (j : ℕ). get_or w j 0) (sym z) ∙ word 0 (omega arith)

  pub role_is : get_or w (6 * i + 1) 0 ≡ get_or (six x) 1 0
  role_is = word 1 (omega arith)

  pub source_is : get_or w (6 * i + 4) 0 ≡ get_or (six x) 4 0
  source_is = word 4 (omega arith)

  pub target_is : get_or w (6 * i + 5) 0 ≡ get_or (six x) 5 0
  target_is = word 5 (omega arith)

  pub read_is : atom_at w i ≡ Some x
  read_is = ap read_words (rw (kind_is, role_is, word 2 (omega arith), word 3 (omega arith), source_is, target_is) refl) ∙ read_six_lem x

-- ---- from atom i on: the first atoms, the others, and atom j
module _ (w : List ℕ) (i : ℕ) where
  pub flat_front : (l m : List Atom) → At w (6 * i) (flat (l ++ m)) → At w (6 * i) (flat l)
  flat_front l m h = at_front w (6 * i) (flat l) (flat m) (rw (flat_append l m) at h)

  pub flat_back : (l m : List Atom) (j : ℕ) → At w (6 * i) (flat (l ++ m)) → j ≡ i + length l → At w (6 * j) (flat m)
  flat_back l m j h e = let f = flat_long l in at_back w (6 * i) (flat l) (flat m) (rw (flat_append l m) at h) (6 * j) (omega arith)

  pub flat_first : (x : Atom) (l : List Atom) → At w (6 * i) (flat (x ∷ l)) → At w (6 * i) (six x)
  unfolding flat
  flat_first x l h = at_front w (6 * i) (six x) (flat l) h

  pub flat_drop : (l : List Atom) (j : ℕ) → At w (6 * i) (flat l) → j ≤ length l → At w (6 * (i + j)) (flat (drop j l))
  flat_drop l j h le = let e = length-take-le j l le in flat_back (take j l) (drop j l) (i + j) (rw (take-append-drop j l) h) (omega arith)

pub flat_nth : (w : List ℕ) (i : ℕ) (l : List Atom) (j : ℕ) → At w (6 * i) (flat l) → j < length l → At w (6 * (i + j)) (six (get_or l j no_atom))
flat_nth w i l j h le = flat_first w (i + j) (get_or l j no_atom) (drop (suc j) l) (rw (drop-cons l j no_atom le) at (flat_drop w i l j h (omega arith)))

-- ---- a part of the bytes, `&s[p..q]`: its length and its words
pub part_long : (s : List ℕ) (p q : ℕ) → q ≤ length s → length (take (q - p) (drop p s)) ≡ q - p
part_long s p q h = length-take-le (q - p) (drop p s) (omega (arith, length-drop p s))

pub words_part : (s : List ℕ) (i n p q : ℕ) → p ≡ 4 * i → q ≡ 4 * (i + n) → words (take (q - p) (drop p s)) ≡ take n (drop i (words s))
words_part s i n p q ep eq =
    let e : q - p ≡ 4 * n = omega arith in
    rw (e, ep, words_take n (drop (4 * i) s), words_drop i s) refl

pub part_words : (s : List ℕ) (i n p q : ℕ) (xs : List ℕ) → p ≡ 4 * i → q ≡ 4 * (i + n) → n ≡ length xs → At (words s) i xs → words (take (q - p) (drop p s)) ≡ xs
part_words s i n p q xs ep eq en h = words_part s i n p q ep eq ∙ rw en h

-- atoms in a table, as a part of its bytes
pub part_run : (s : List ℕ) (first count to : ℕ) (l : List Atom) → to ≡ 24 * (first + count) → to ≤ length s → count ≡ length l → At (words s) (6 * first) (flat l) → Run (take (to - 24 * first) (drop (24 * first) s)) l
part_run s first count to l e h n A = record {
  long = part_long s (24 * first) to h ∙ omega arith;
  are = part_words s (6 * first) (6 * count) (24 * first) to (flat l) (omega arith) (omega arith) (omega (arith, flat_long l)) A;
}

-- ---- atoms in a part: all, atom j, the one behind others; the first atoms, `&s[..n]`, and the others, `&s[n..]`
pub run_at : (s : List ℕ) (l : List Atom) → Run s l → At (words s) 0 (flat l)
run_at s l R = rw R.are (take-length (flat l))

pub run_nth : (s : List ℕ) (l : List Atom) (j : ℕ) → Run s l → j < length l → At (words s) (6 * j) (six (get_or l j no_atom))
run_nth s l j R h = let z : 0 + j ≡ j = omega arith in rw z at (flat_nth (words s) 0 l j (run_at s l R) h)

pub run_behind : (s : List ℕ) (before after : List Atom) (x : Atom) (j : ℕ) → Run s (before ++ (x ∷ after)) → j ≡ length before → At (words s) (6 * j) (six x)
run_behind s before after x j R e = flat_first (words s) j x after (flat_back (words s) 0 before (x ∷ after) j (run_at s (before ++ (x ∷ after)) R) (omega arith))

module _ (s : List ℕ) (l m : List Atom) (R : Run s (l ++ m)) (n : ℕ) (e : n ≡ 4 * length (flat l)) where
  whole : words s ≡ flat l ++ flat m
  whole = R.are ∙ flat_append l m

  pub run_front : Run (take n s) l
  run_front = record {
    long = length-take-le n s (omega (arith, R.long, length-append l m, flat_long l)) ∙ omega (arith, flat_long l);
    are = rw (e, words_take (length (flat l)) s, whole) (take_at (flat l) (flat m) (length (flat l)) refl);
  }

  pub run_back : Run (take (length s - n) (drop n s)) m
  run_back = rw (take_all (length s - n) (drop n s) (omega (arith, length-drop n s))) (record {
    long = length-drop n s ∙ omega (arith, R.long, length-append l m, flat_long l);
    are = rw (e, words_drop (length (flat l)) s, whole) (drop_at (flat l) (flat m) (length (flat l)) refl);
  })
