-- Laws of the text of clauses: its pieces and its length. Assumes nothing.
use Rattle.std.specs.Prelude.{◌≡◌, List, [], ◌∷◌, ◌++◌, length, get_or, take, drop}
use Rattle.std.proofs.Math.Path.{refl}
use Rattle.std.proofs.Common.{sym, ap, ap₂, subst, ◌∙◌, append_assoc, arith, length-take, length-drop, drop_of_length-le}
use Prim.Native.Nat.{ℕ, zero, suc, ◌+◌, ◌*◌, ◌/◌, ◌<◌, ◌≤◌}
use Rattle.std.proofs.Math.ListN.{length-append}
use Rattle.words.specs.Words.{words}
use Rattle.ir.specs.Records.{six}
use Rattle.ir.specs.declared.atom.Atom.{Atom}
use Rattle.rules.specs.State.{Clause, total}
use Rattle.rules.specs.Run.{atom_words, flat}
use Rattle.rules.specs.Lister.{fields_text, atoms_text, clauses_text}
use Rattle.tables.specs.Tabled.{At, Run, no_clause, ClauseAt, Tabled, atom_count}
use Rattle.tables.specs.TabledLaws.{at_front, at_back}
use Rattle.tables.specs.AtomLaws.{run_at}
use Rattle.tables.specs.ClauseLaws.{clause_at, clause_split}
use Rattle.rows.specs.Rows.{Put, texts_of}
use Rattle.rows.specs.RowLaws.{Left, left_all, left_more, left_fits, left_none, length_line, put_then}
use Rattle.listing.specs.Listing.{Listable, atom_text, clause_text, ListedTo}

-- ---- the atoms of a run
atoms_from : (m : List Atom) (w : List ℕ) (j : ℕ) → At w (atom_words * j) (flat m) → texts_of (atom_text w) j (length m) ≡ atoms_text m
unfolding texts_of atoms_text flat
atoms_from [] w j e = refl
atoms_from (x ∷ m) w j e =
    let f : take atom_words (drop (atom_words * j) w) ≡ six x = at_front w (atom_words * j) (six x) (flat m) e in
    let g : At w (atom_words * (j + 1)) (flat m) = at_back w (atom_words * j) (six x) (flat m) e (atom_words * (j + 1)) (omega arith) in
    ap₂ (λ (r t : List ℕ). fields_text (42 ∷ r) ++ t) f (atoms_from m w (j + 1) g)

pub run_text : (s : List ℕ) (n : ℕ) (l : List Atom) → n ≡ length s / (4 * atom_words) → Run s l → texts_of (atom_text (words s)) 0 n ≡ atoms_text l
run_text s n l e R = let m : n ≡ length l = omega (arith, R.long) in rw m (atoms_from l (words s) 0 (run_at s l R))

module _ (w : List ℕ) where
  pub atom_long : (j : ℕ) → atom_words * (j + 1) ≤ length w → length (atom_text w j) ≡ 78
  atom_long j h = rw (length_line (42 ∷ take atom_words (drop (atom_words * j) w))) (omega (arith, length-take atom_words (drop (atom_words * j) w), length-drop (atom_words * j) w))

  pub atom_texts_long : (n j : ℕ) → atom_words * (j + n) ≤ length w → length (texts_of (atom_text w) j n) ≡ 78 * n
  unfolding texts_of
  atom_texts_long zero j h = refl
  atom_texts_long (suc n) j h = omega (arith, length-append (atom_text w j) (texts_of (atom_text w) (j + 1) n), atom_long j (omega arith), atom_texts_long n (j + 1) (omega arith))

-- ---- lengths
atoms_long : (m : List Atom) → length (atoms_text m) ≡ 78 * length m
unfolding atoms_text
atoms_long [] = refl
atoms_long (x ∷ m) = omega (arith, length-append (fields_text (42 ∷ six x)) (atoms_text m), length_line (42 ∷ six x), atoms_long m)

text_long : (i : ℕ) (x : Clause) → length (clause_text i x) ≡ 45 + 78 * length (x.body ++ x.head)
text_long i x =
    let r : List ℕ = 41 ∷ i ∷ length x.body ∷ length x.head ∷ [] in
    let m = x.body ++ x.head in
    omega (arith, length-append (fields_text r) (atoms_text m), length_line r, atoms_long m)

-- ---- the clauses one by one
-- the two pieces of a clause's text
pub clause_put_lem : (i : ℕ) (x : Clause) (b h : ℕ) {s s' s'' : List ℕ} {at p q : ℕ} → b ≡ length x.body → h ≡ length x.head
    → Put s at (fields_text (41 ∷ i ∷ b ∷ h ∷ [])) s' p → Put s' p (atoms_text (x.body ++ x.head)) s'' q → Put s at (clause_text i x) s'' q
clause_put_lem i x b h e f P Q = put_then (rw (e, f) at P) Q

text_first : (i : ℕ) (x : Clause) (l : List Clause) → clauses_text i (x ∷ l) ≡ clause_text i x ++ clauses_text (i + 1) l
unfolding clauses_text
text_first i x l = sym (append_assoc (fields_text (41 ∷ i ∷ length x.body ∷ length x.head ∷ [])) (atoms_text (x.body ++ x.head)) (clauses_text (i + 1) l))

text_none : (i : ℕ) → clauses_text i [] ≡ []
unfolding clauses_text
text_none i = refl

pub clauses_long : (i : ℕ) (l : List Clause) → length (clauses_text i l) ≡ 45 * length l + 78 * total l
unfolding total
clauses_long i [] = ap length (text_none i)
clauses_long i (x ∷ l) = omega (arith, ap length (text_first i x l), length-append (clause_text i x) (clauses_text (i + 1) l), text_long i x, clauses_long (i + 1) l)

-- ---- the clauses of the tables
module _ (c a : List ℕ) (n : ℕ) (s : List ℕ) (at : ℕ) where
  pub listed_none : ListedTo c a n s at s at 0
  listed_none = record { here = omega arith; left = λ l _. left_all s at (clauses_text 0 l) }

  module _ (s' : List ℕ) (p i : ℕ) (L : ListedTo c a n s at s' p i) where
    pub listed_same : Listable c a n at (length s) → length s' ≡ length s
    listed_same A = (L.left A.list A.tabled).long

    next : i < n → (l : List Clause) → Tabled c a n l → Left s at (clauses_text 0 l) s' p (clause_text i (get_or l i no_clause) ++ clauses_text (i + 1) (drop (i + 1) l))
    next h l T =
        let x = get_or l i no_clause in
        subst (Left s at (clauses_text 0 l) s' p) (ap (clauses_text i) (clause_split c a n l T i h) ∙ text_first i x (drop (i + 1) l)) (L.left l T)

    -- there is room for the next
    pub listed_fits : Listable c a n at (length s) → i < n → p + 45 + 78 * atom_count c i ≤ length s'
    listed_fits A h =
        let l = A.list in
        let x = get_or l i no_clause in
        let C = clause_at c a n l A.tabled i h in
        let f = left_fits s at (clauses_text 0 l) s' p (clause_text i x) (clauses_text (i + 1) (drop (i + 1) l)) (next h l A.tabled) (omega (arith, A.fits, clauses_long 0 l, A.tabled.count)) in
        omega (arith, f, text_long i x, length-append x.body x.head, C.body, C.head)

    pub listed_next : i < n → (s'' : List ℕ) (q : ℕ) → ((x : Clause) → ClauseAt c a i x → Put s' p (clause_text i x) s'' q) → ListedTo c a n s at s'' q (i + 1)
    listed_next h s'' q P = record {
      here = omega arith;
      left = λ l T. let x = get_or l i no_clause in left_more s at (clauses_text 0 l) s' p (clause_text i x) (clauses_text (i + 1) (drop (i + 1) l)) s'' q (next h l T) (P x (clause_at c a n l T i h));
    }

    pub listed_end : n ≤ i → (l : List Clause) → Tabled c a n l → Put s at (clauses_text 0 l) s' p
    listed_end h l T =
        let z : length l ≤ i = omega (arith, T.count) in
        left_none s at (clauses_text 0 l) s' p (subst (Left s at (clauses_text 0 l) s' p) (ap (clauses_text i) (drop_of_length-le l z) ∙ text_none i) (L.left l T))
