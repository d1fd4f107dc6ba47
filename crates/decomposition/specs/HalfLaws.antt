-- One clause more at its place. Assumes nothing.
use Rattle.std.specs.Prelude.{◌≡◌, refl, take, drop}
use Rattle.std.proofs.Math.Path.{sym, ap}
use Rattle.std.proofs.Common.{◌∙◌, drop-drop}
use mathlib.Core.List.{List, [], ◌∷◌, ◌++◌, append-nil}
use Prim.Native.Nat.{ℕ, ◌+◌, ◌*◌, ◌-◌, ◌≤◌}
use native.Mathlib.Omega.{arith}
use Rattle.std.proofs.Math.ListN.{length, length-append}
use Rattle.std.proofs.lemmas.List.Edits.{sets}
use Rattle.std.proofs.Math.Seq.{length-sets}
use Rattle.words.specs.Runs.{drop_sets}
use Rattle.rules.specs.State.{Clause, total}
use Rattle.rules.specs.Run.{clause_words, flat, clause_records, atom_records}
use Rattle.rules.specs.DecodeLaws.{flat_long, clause_records_long}
use Rattle.rules.specs.Added.{total_append}
use Rattle.decomposition.specs.Placing.{Half}
use Rattle.tables.specs.ClauseLaws.{clauses_append, atoms_append}
use Rattle.decomposition.specs.StoreLaws.{take_store, next_clause}

pub half_start : (l : List Clause) (c a : List ℕ) → Half l c a c a 0 0 []
unfolding clause_records atom_records total
half_start l c a = record {
  many = refl;
  among = omega arith;
  sum = refl;
  low = omega arith;
  clauses = refl;
  clauses_rest = refl;
  atoms = refl;
  atoms_rest = refl;
  same_clauses = refl;
  same_atoms = refl;
}

-- from a place on as before, and so from a later one
rest_same : (w w' : List ℕ) (p q : ℕ) → p ≤ q → drop p w' ≡ drop p w → drop q w' ≡ drop q w
rest_same w w' p q h e =
    let f : p + (q - p) ≡ q = omega arith in
    rw f at (sym (drop-drop (q - p) p w') ∙ ap (drop (q - p)) e ∙ drop-drop (q - p) p w)

module _ (l : List Clause) (c a c' a' : List ℕ) (i to : ℕ) (done : List Clause) (H : Half l c a c' a' i to done)
    (x y : Clause) (m : List Clause) (split : drop i l ≡ x ∷ m) (less : length (y.body ++ y.head) ≤ length (x.body ++ x.head))
    (row_in : clause_words * i + clause_words ≤ length c') (run_in : 6 * (total (take i l) + length (x.body ++ x.head)) ≤ length a') where
  -- clause i is y now
  pub half_next : (c'' a'' : List ℕ) (t : ℕ) → c'' ≡ sets c' (clause_words * i) (clause_records to (y ∷ [])) → a'' ≡ sets a' (6 * to) (flat (y.body ++ y.head)) → t ≡ to + length (y.body ++ y.head)
      → Half l c a c'' a'' (i + 1) t (done ++ (y ∷ []))
  unfolding atom_records total
  half_next c'' a'' t ec ea et =
      let n = next_clause l i x m split in
      let row : List ℕ = clause_records to (y ∷ []) in
      let lw = clause_records_long to (y ∷ []) in
      let run : List ℕ = flat (y.body ++ y.head) in
      let lr = flat_long (y.body ++ y.head) in
      let lt = total_append done (y ∷ []) in
      let q : 6 * t ≡ 6 * to + length run = omega arith in
      let u : clause_words * (i + 1) ≡ clause_words * i + length row = omega arith in
      let z : 0 + total done ≡ to = omega (arith, H.sum) in
      record {
        many = omega (arith, length-append done (y ∷ []), H.many);
        among = omega (arith, n.0);
        sum = omega (arith, H.sum);
        low = omega (arith, n.1, H.low);
        clauses = ap (take (clause_words * (i + 1))) ec ∙ take_store c' row (clause_words * i) (clause_words * (i + 1)) u (omega arith) ∙ ap (λ (v : List ℕ). v ++ row) H.clauses
            ∙ sym (clauses_append 0 done (y ∷ []) ∙ ap (λ (v : ℕ). clause_records 0 done ++ clause_records v (y ∷ [])) z);
        clauses_rest = ap (drop (clause_words * (i + 1))) ec ∙ drop_sets row c' (clause_words * i) (clause_words * (i + 1)) (omega arith) ∙ rest_same c c' (clause_words * i) (clause_words * (i + 1)) (omega arith) H.clauses_rest;
        atoms = ap (take (6 * t)) ea ∙ take_store a' run (6 * to) (6 * t) q (omega (arith, H.low)) ∙ ap (λ (v : List ℕ). v ++ run) H.atoms
            ∙ sym (atoms_append done (y ∷ []) ∙ ap (λ (v : List ℕ). atom_records done ++ v) (append-nil run));
        atoms_rest = ap (drop (6 * total (take (i + 1) l))) ea ∙ drop_sets run a' (6 * to) (6 * total (take (i + 1) l)) (omega (arith, n.1, H.low))
            ∙ rest_same a a' (6 * total (take i l)) (6 * total (take (i + 1) l)) (omega (arith, n.1)) H.atoms_rest;
        same_clauses = ap length ec ∙ length-sets c' (clause_words * i) row ∙ H.same_clauses;
        same_atoms = ap length ea ∙ length-sets a' (6 * to) run ∙ H.same_atoms;
      }
