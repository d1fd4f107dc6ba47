-- Tables of whole records: from their words to their bytes, cleared ones, and the clauses that a run left in them. Assumes
-- nothing.
use Rattle.std.specs.Prelude.{◌≡◌, Bool, true, false, ◌&&◌, List, ◌++◌, ℕ, ◌*◌, ◌-◌, ◌/◌, ◌%◌, ◌≤◌, length, take, replicate, eqb, leb}
use Rattle.std.proofs.Common.{sym, ap, ◌∙◌, arith, eqb-true}
use Rattle.std.proofs.Math.Seq.{take-append_seam}
use Rattle.std.proofs.lemmas.Bool.{and_parts}
use Rattle.words.specs.Words.{words, bytes}
use Rattle.words.specs.Laws.{Bytes}
use Rattle.words.specs.Bytes.{bytes_append, bytes_zeros, bytes_words}
use Rattle.ir.specs.declared.counters.Counters.{Counters}
use Rattle.rules.specs.State.{Rooms, total}
use Rattle.rules.specs.Run.{Lengths, Accepted, table_ok, sizes_ok, rooms_of, clause_words, atom_words, deferral_words, most_clauses, most_atoms, most_deferrals, scratch_bytes, clause_records, atom_records, table_of}
use Rattle.rules.proofs.RunLaws.{sizes_ok_lem}
use Rattle.rules.specs.DecodeLaws.{clause_records_long, atom_records_long}
use Rattle.tables.specs.Drawn.{padded, Sized}
use Rattle.tables.specs.Tabled.{Tabled}
use Rattle.staging.specs.Stage.{Blank}
use Rattle.staging.specs.BlankLaws.{blank_zeros}
use Rattle.run.specs.Ran.{Left}
use Rattle.clausify.specs.Answer.{Zeros}

-- ---- records in words are records in bytes
pub table_bytes_lem : (s ws : List ℕ) (n : ℕ) → Bytes s → length s ≡ 4 * n → words s ≡ padded n ws → s ≡ table_of (length s) ws
unfolding table_of padded
table_bytes_lem s ws n b e h =
    let z : 4 * (n - length ws) ≡ length s - 4 * length ws = omega arith in
    sym (bytes_words s (omega arith) b) ∙ ap bytes h ∙ bytes_append ws (replicate (n - length ws) 0)
    ∙ ap (λ (t : List ℕ). bytes ws ++ t) (bytes_zeros (n - length ws) ∙ ap (λ (m : ℕ). replicate m 0) z)

-- ---- sizes that pass
-- what `&&` gives, where its second part is looked at and where not
pub and_then : (x z a b : Bool) → x ≡ true → x ≡ a → z ≡ b → z ≡ (a && b)
and_then x z a b e f g = let h : true ≡ a = sym e ∙ f in rw (← h) g

pub and_stop : (x z a b : Bool) → x ≡ false → x ≡ a → z ≡ x → z ≡ (a && b)
and_stop x z a b e f g = let h : false ≡ a = sym e ∙ f in rw (← h) (g ∙ e)

-- whole records, and no more than may be
pub record Whole (t : Lengths) : Type 0 where
  pub clauses : t.clauses ≡ 4 * (clause_words * (rooms_of t).clauses)
  pub atoms : t.atoms ≡ 4 * (atom_words * (rooms_of t).atoms)
  pub deferrals : t.deferrals ≡ 4 * (deferral_words * (rooms_of t).deferrals)
  pub sized : Sized t.clauses t.atoms t.deferrals
  pub scratch : scratch_bytes ≤ t.scratch

records_whole : (w most n : ℕ) → table_ok w most n ≡ true → n % (4 * w) ≡ 0
records_whole w most n e = eqb-true (n % (4 * w)) 0 (and_parts (eqb (n % (4 * w)) 0) (leb (n / (4 * w)) most) e).0

pub sizes_whole : (t : Lengths) → sizes_ok t ≡ true → Whole t
sizes_whole t e =
    let x = table_ok clause_words most_clauses t.clauses in
    let y = table_ok atom_words most_atoms t.atoms in
    let z = table_ok deferral_words most_deferrals t.deferrals in
    let f = and_parts (x && y && z) (leb scratch_bytes t.scratch) e in
    let g = and_parts (x && y) z f.0 in
    let h = and_parts x y g.0 in
    let c = records_whole clause_words most_clauses t.clauses h.0 in
    let a = records_whole atom_words most_atoms t.atoms h.1 in
    let d = records_whole deferral_words most_deferrals t.deferrals g.1 in
    let S = sizes_ok_lem t e in
    record {
      clauses = omega arith;
      atoms = omega arith;
      deferrals = omega arith;
      sized = record { clauses = omega (arith, S.clauses); atoms = omega (arith, S.atoms); deferrals = omega (arith, S.deferrals) };
      scratch = S.scratch;
    }

-- ---- cleared tables
pub cleared_blank : (rooms : Rooms) (c a d : List ℕ) → length c ≡ 4 * (clause_words * rooms.clauses) → length a ≡ 4 * (atom_words * rooms.atoms) → length d ≡ 4 * (deferral_words * rooms.deferrals)
    → Zeros c a d → Blank rooms (words c) (words a) (words d)
cleared_blank rooms c a d e f g Z = blank_zeros rooms c a d e f g Z.clauses Z.atoms Z.deferrals

-- ---- the clauses that a run left
front : (n m : ℕ) (l w : List ℕ) → length l ≡ m → w ≡ padded n l → take m w ≡ l
unfolding padded
front n m l w e h = rw (h, ← e) (take-append_seam l (replicate (n - length l) 0))

pub left_tabled : (rooms : Rooms) (x : Accepted) (k : Counters) (first m : ℕ) (c a d : List ℕ) → Left rooms x k first m c a d → Tabled c a k.clauses x.clauses
left_tabled rooms x k first m c a d L = record {
  count = L.many;
  clauses = front (clause_words * rooms.clauses) (clause_words * k.clauses) (clause_records 0 x.clauses) c (clause_records_long 0 x.clauses ∙ ap (λ (n : ℕ). clause_words * n) (sym L.many)) L.clauses;
  atoms = front (atom_words * rooms.atoms) (atom_words * total x.clauses) (atom_records x.clauses) a (atom_records_long x.clauses) L.atoms;
}
