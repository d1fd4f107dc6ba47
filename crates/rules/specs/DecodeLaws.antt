-- The tables' words and bytes are read back: the clauses and deferrals from their records, with anything behind them, and
-- from the tables at exit, where every number fits its word. Assumes nothing.
use Rattle.std.specs.Prelude.{◌≡◌, refl, ℕ, zero, suc, ◌+◌, ◌*◌, ◌-◌, ◌≤◌, ◌<◌, ◌^◌, get_or, replicate}
use Rattle.std.proofs.Common.{sym, ap, ap₂, ◌∙◌, length-append, get_or-append-add}
use mathlib.Core.List.{List, [], ◌∷◌, ◌++◌, map, append_assoc}
use Rattle.std.proofs.Math.Option.{Option, some}
use native.Mathlib.Omega.{arith}
use Rattle.std.proofs.Math.ListN.{length}
use Rattle.std.proofs.lemmas.List.{length-replicate}
use Rattle.words.specs.Words.{words, bytes}
use Rattle.words.specs.Laws.{Bytes, words_append}
use Rattle.words.specs.Bytes.{Words, words_bytes, length_bytes, bytes_small}
use Rattle.ir.specs.Roles.{role_code}
use Rattle.ir.specs.Records.{six, six_of, words_of, record_at, read_words, atom_at, qualifier_word}
use Rattle.ir.specs.RecordLaws.{read_six_lem}
use Rattle.ir.specs.Deferrals.{deferral_kind}
use Rattle.ir.specs.declared.role.Role.{Role}
use Rattle.ir.specs.declared.role.Role.TheVariants.{Named, Inverse}
use Rattle.ir.specs.declared.atom.Atom.{Atom}
use Rattle.ir.specs.declared.atom.Atom.TheVariants.{Class, Exists, AtMost, AtLeast, Equal, Role as RoleAtom}
use Rattle.ir.specs.Qualifiers.{Qualifier}
use Rattle.std.specs.Prelude.{None, Some}
use Rattle.ir.specs.declared.deferral.Deferral.{Deferral}
use Rattle.ir.specs.declared.deferral.Deferral.TheVariants.{DisjointAntecedent, DisjointUnionMember, DisjointUnionCovering, RoleChainLenNe2, Antecedent, HeadOrDisjunct, HeadExistsInner, HeadNotNonatomic, ReflexiveDerivedCap}
use Rattle.ir.specs.declared.record.AtomWords.{AtomWords}
use Rattle.std.specs.Prelude.{Some}
use Rattle.rules.specs.State.{Clause, Deferred, total}
use Rattle.rules.specs.Run.{Lengths, rooms_of, flat, atom_records, clause_records, deferral_records, table_of}
use Rattle.rules.specs.Invariants.{Each, Bounds, RoleIn, QualifierIn, AtomIn, ClauseIn}
use Rattle.rules.specs.Decode.{read_on, decode_atoms, clause_of, decode_runs, decode_clause, decode_from, decode_clauses, deferrals_from, decode_deferrals}

-- ---- lengths
pub flat_long : (l : List Atom) → length (flat l) ≡ 6 * length l
unfolding flat
flat_long [] = refl
flat_long (a ∷ l) = let h = flat_long l in let e = length-append (six a) (flat l) in omega arith

pub flat_append : (l m : List Atom) → flat (l ++ m) ≡ flat l ++ flat m
unfolding flat
flat_append [] m = refl
flat_append (a ∷ l) m = ap (λ (t : List ℕ). six a ++ t) (flat_append l m)

pub atom_records_long : (l : List Clause) → length (atom_records l) ≡ 6 * total l
unfolding atom_records total
atom_records_long [] = refl
atom_records_long (c ∷ l) =
    let h = atom_records_long l in
    let g = flat_long (c.body ++ c.head) in
    let e = length-append (flat (c.body ++ c.head)) (atom_records l) in
    omega arith

pub clause_records_long : (first : ℕ) (l : List Clause) → length (clause_records first l) ≡ 3 * length l
unfolding clause_records
clause_records_long first [] = refl
clause_records_long first (c ∷ l) = let h = clause_records_long (first + length (c.body ++ c.head)) l in omega arith

pub deferral_records_long : (l : List Deferred) → length (deferral_records l) ≡ 2 * length l
unfolding deferral_records
deferral_records_long [] = refl
deferral_records_long (d ∷ l) = let h = deferral_records_long l in omega arith

-- ---- reading back from words
-- element k behind a front of known length
get_d_behind : (front w : List ℕ) (n k m : ℕ) → length front ≡ n → m ≡ n + k → get_or (front ++ w) m 0 ≡ get_or w k 0
get_d_behind front w n k m e f = let g : m ≡ length front + k = omega arith in rw g (get_or-append-add front w k 0)

record_behind : (front rest : List ℕ) (i : ℕ) (x : AtomWords) → length front ≡ 6 * i → record_at (front ++ (six_of x ++ rest)) i ≡ x
record_behind front rest i x e =
    rw (
      get_d_behind front (six_of x ++ rest) (6 * i) 0 (6 * i) e (omega arith),
      get_d_behind front (six_of x ++ rest) (6 * i) 1 (6 * i + 1) e refl,
      get_d_behind front (six_of x ++ rest) (6 * i) 2 (6 * i + 2) e refl,
      get_d_behind front (six_of x ++ rest) (6 * i) 3 (6 * i + 3) e refl,
      get_d_behind front (six_of x ++ rest) (6 * i) 4 (6 * i + 4) e refl,
      get_d_behind front (six_of x ++ rest) (6 * i) 5 (6 * i + 5) e refl,
    ) refl

-- the atoms that stand behind `front`, whatever follows
pub decode_flat : (l : List Atom) (front rest : List ℕ) (i : ℕ) → length front ≡ 6 * i → decode_atoms (front ++ (flat l ++ rest)) i (length l) ≡ some l
unfolding decode_atoms flat
decode_flat [] front rest i e = refl
decode_flat (a ∷ l) front rest i e =
    let m = length-append front (six a) in
    let next = decode_flat l (front ++ six a) rest (i + 1) (omega arith) in
    let same : front ++ (six a ++ (flat l ++ rest)) ≡ (front ++ six a) ++ (flat l ++ rest) = sym (append_assoc front (six a) (flat l ++ rest)) in
    let here : atom_at (front ++ (six a ++ (flat l ++ rest))) i ≡ Some a = ap read_words (record_behind front (flat l ++ rest) i (words_of a) e) ∙ read_six_lem a in
    let there : decode_atoms (front ++ (six a ++ (flat l ++ rest))) (i + 1) (length l) ≡ some l = ap (λ (w : List ℕ). decode_atoms w (i + 1) (length l)) same ∙ next in
    ap₂ read_on here there

pub decode_run : (c : Clause) (front rest : List ℕ) (first : ℕ) → length front ≡ 6 * first
    → decode_runs (front ++ (flat (c.body ++ c.head) ++ rest)) first (length c.body) (length c.head) ≡ some c
decode_run c front rest first e =
    let b = flat c.body in
    let h = flat c.head in
    let body : flat (c.body ++ c.head) ++ rest ≡ b ++ (h ++ rest) = ap (λ (t : List ℕ). t ++ rest) (flat_append c.body c.head) ∙ append_assoc b h rest in
    let head : front ++ (b ++ (h ++ rest)) ≡ (front ++ b) ++ (h ++ rest) = sym (append_assoc front b (h ++ rest)) in
    let m = length-append front b in
    let k = flat_long c.body in
    let bs : decode_atoms (front ++ (b ++ (h ++ rest))) first (length c.body) ≡ some c.body = decode_flat c.body front (h ++ rest) first e in
    let hs : decode_atoms (front ++ (b ++ (h ++ rest))) (first + length c.body) (length c.head) ≡ some c.head
    = ap (λ (w : List ℕ). decode_atoms w (first + length c.body) (length c.head)) head ∙ decode_flat c.head (front ++ b) rest (first + length c.body) (omega arith) in
    rw body (ap₂ clause_of bs hs)

-- clause i, whose record and atoms stand behind those of others
decode_one : (c : Clause) (fc fa rc ra : List ℕ) (i first : ℕ) → length fc ≡ 3 * i → length fa ≡ 6 * first
    → decode_clause (fc ++ (first ∷ length c.body ∷ length c.head ∷ rc)) (fa ++ (flat (c.body ++ c.head) ++ ra)) i ≡ some c
unfolding decode_clause
decode_one c fc fa rc ra i first e f =
    let w : List ℕ = first ∷ length c.body ∷ length c.head ∷ rc in
    rw (get_d_behind fc w (3 * i) 0 (3 * i) e (omega arith), get_d_behind fc w (3 * i) 1 (3 * i + 1) e refl, get_d_behind fc w (3 * i) 2 (3 * i + 2) e refl)
    (decode_run c fa ra first f)

-- the records of a list of clauses, behind those of others, whatever follows
pub decode_from_lem : (l : List Clause) (fc fa rc ra : List ℕ) (i first : ℕ) → length fc ≡ 3 * i → length fa ≡ 6 * first
    → decode_from i (length l) (fc ++ (clause_records first l ++ rc)) (fa ++ (atom_records l ++ ra)) ≡ map some l
unfolding decode_from clause_records atom_records
decode_from_lem [] fc fa rc ra i first e f = refl
decode_from_lem (c ∷ l) fc fa rc ra i first e f =
    let n = length (c.body ++ c.head) in
    let three : List ℕ = first ∷ length c.body ∷ length c.head ∷ [] in
    let run = flat (c.body ++ c.head) in
    let cw : List ℕ = fc ++ (three ++ (clause_records (first + n) l ++ rc)) in
    let aw : List ℕ = fa ++ ((run ++ atom_records l) ++ ra) in
    let ca : cw ≡ (fc ++ three) ++ (clause_records (first + n) l ++ rc) = sym (append_assoc fc three (clause_records (first + n) l ++ rc)) in
    let ar : aw ≡ fa ++ (run ++ (atom_records l ++ ra)) = ap (λ (t : List ℕ). fa ++ t) (append_assoc run (atom_records l) ra) in
    let aa : aw ≡ (fa ++ run) ++ (atom_records l ++ ra) = ar ∙ sym (append_assoc fa run (atom_records l ++ ra)) in
    let m1 = length-append fc three in
    let m2 = length-append fa run in
    let m3 = flat_long (c.body ++ c.head) in
    let next : decode_from (i + 1) (length l) cw aw ≡ map some l
    = ap₂ (λ (x y : List ℕ). decode_from (i + 1) (length l) x y) ca aa ∙ decode_from_lem l (fc ++ three) (fa ++ run) rc ra (i + 1) (first + n) (omega arith) (omega arith) in
    let here : decode_clause cw aw i ≡ some c
    = ap (λ (w : List ℕ). decode_clause cw w i) ar ∙ decode_one c fc fa (clause_records (first + n) l ++ rc) (atom_records l ++ ra) i first e f in
    ap₂ (λ (x : Option Clause) (y : List (Option Clause)). x ∷ y) here next

pub decode_records : (l : List Clause) (rc ra : List ℕ) → decode_clauses (length l) (clause_records 0 l ++ rc) (atom_records l ++ ra) ≡ map some l
decode_records l rc ra = decode_from_lem l [] [] rc ra 0 0 refl refl

-- a deferral as the two words of its record
abbrev pub deferral_pair : Deferred → ℕ × ℕ
deferral_pair d = (d.line, deferral_kind d.kind)

pub deferrals_from_lem : (l : List Deferred) (front rest : List ℕ) (i : ℕ) → length front ≡ 2 * i
    → deferrals_from i (length l) (front ++ (deferral_records l ++ rest)) ≡ map deferral_pair l
unfolding deferrals_from deferral_records
deferrals_from_lem [] front rest i e = refl
deferrals_from_lem (d ∷ l) front rest i e =
    let two : List ℕ = d.line ∷ deferral_kind d.kind ∷ [] in
    let w : List ℕ = two ++ (deferral_records l ++ rest) in
    let m = length-append front two in
    let next = deferrals_from_lem l (front ++ two) rest (i + 1) (omega arith) in
    let same : front ++ w ≡ (front ++ two) ++ (deferral_records l ++ rest) = sym (append_assoc front two (deferral_records l ++ rest)) in
    let later : deferrals_from (i + 1) (length l) (front ++ w) ≡ map deferral_pair l = ap (λ (x : List ℕ). deferrals_from (i + 1) (length l) x) same ∙ next in
    rw (get_d_behind front w (2 * i) 0 (2 * i) e (omega arith), get_d_behind front w (2 * i) 1 (2 * i + 1) e refl, later) refl

pub decode_deferrals_lem : (l : List Deferred) (rest : List ℕ) → decode_deferrals (length l) (deferral_records l ++ rest) ≡ map deferral_pair l
decode_deferrals_lem l rest = deferrals_from_lem l [] rest 0 refl

-- ---- the tables' bytes
pub table_length : (n : ℕ) (ws : List ℕ) → 4 * length ws ≤ n → length (table_of n ws) ≡ n
unfolding table_of
table_length n ws h =
    let l = length-append (bytes ws) (replicate (n - 4 * length ws) 0) in
    let b = length_bytes ws in
    let z = length-replicate {0} {A = ℕ} (n - 4 * length ws) 0 in
    omega arith

-- records within the rooms fill no more than their tables
pub clause_table_length : (t : Lengths) (l : List Clause) → length l ≤ (rooms_of t).clauses → length (table_of t.clauses (clause_records 0 l)) ≡ t.clauses
clause_table_length t l h = let e = clause_records_long 0 l in table_length t.clauses (clause_records 0 l) (omega arith)

pub atom_table_length : (t : Lengths) (l : List Clause) → total l ≤ (rooms_of t).atoms → length (table_of t.atoms (atom_records l)) ≡ t.atoms
atom_table_length t l h = let e = atom_records_long l in table_length t.atoms (atom_records l) (omega arith)

pub deferral_table_length : (t : Lengths) (l : List Deferred) → length l ≤ (rooms_of t).deferrals → length (table_of t.deferrals (deferral_records l)) ≡ t.deferrals
deferral_table_length t l h = let e = deferral_records_long l in table_length t.deferrals (deferral_records l) (omega arith)

pub zeros_small : (n : ℕ) → Bytes (replicate n 0)
zeros_small zero k = omega arith
zeros_small (suc n) zero = omega arith
zeros_small (suc n) (suc k) = zeros_small n k

append_small : (s t : List ℕ) → Bytes s → Bytes t → Bytes (s ++ t)
append_small [] t p q k = q k
append_small (x ∷ s) t p q zero = p 0
append_small (x ∷ s) t p q (suc k) = append_small s t (λ j. p (suc j)) q k

pub table_small : (n : ℕ) (ws : List ℕ) → Bytes (table_of n ws)
unfolding table_of
table_small n ws = append_small (bytes ws) (replicate (n - 4 * length ws) 0) (bytes_small ws) (zeros_small (n - 4 * length ws))

-- the words of a table: those that it holds, then those of its zeros
pub words_table : (n : ℕ) (ws : List ℕ) → Words ws → words (table_of n ws) ≡ ws ++ words (replicate (n - 4 * length ws) 0)
unfolding table_of
words_table n ws h =
    let b = length_bytes ws in
    words_append (bytes ws) (replicate (n - 4 * length ws) 0) (omega arith) ∙ ap (λ (x : List ℕ). x ++ words (replicate (n - 4 * length ws) 0)) (words_bytes ws h)

-- the clauses of an accepted run, from the tables at exit
pub decode_tables : (n m : ℕ) (l : List Clause) → Words (clause_records 0 l) → Words (atom_records l)
    → decode_clauses (length l) (words (table_of n (clause_records 0 l))) (words (table_of m (atom_records l))) ≡ map some l
decode_tables n m l p q =
    ap₂ (λ (x y : List ℕ). decode_clauses (length l) x y) (words_table n (clause_records 0 l) p) (words_table m (atom_records l) q)
    ∙ decode_records l (words (replicate (n - 4 * length (clause_records 0 l)) 0)) (words (replicate (m - 4 * length (atom_records l)) 0))

pub decode_deferral_table : (n : ℕ) (l : List Deferred) → Words (deferral_records l)
    → decode_deferrals (length l) (words (table_of n (deferral_records l))) ≡ map deferral_pair l
decode_deferral_table n l p =
    ap (λ (x : List ℕ). decode_deferrals (length l) x) (words_table n (deferral_records l) p) ∙ decode_deferrals_lem l (words (replicate (n - 4 * length (deferral_records l)) 0))

-- ---- every number of the records fits a word
abbrev Small : List ℕ → Type 0
Small l = Each (λ n. n < 2 ^ 32) l

small_words : (l : List ℕ) → Small l → Words l
small_words [] p k = omega arith
small_words (x ∷ l) p zero = p.0
small_words (x ∷ l) p (suc k) = small_words l p.1 k

append_smalls : (s t : List ℕ) → Small s → Small t → Small (s ++ t)
append_smalls [] t p q = q
append_smalls (x ∷ s) t p q = (p.0, append_smalls s t p.1 q)

module _ (B : Bounds) (fresh vars : ℕ) (roles : B.roles ≤ 2 ^ 31) (classes : fresh < 2 ^ 32) (variables : vars ≤ 2 ^ 32) where
  role_fits : (r : Role) → RoleIn B r → role_code r < 2 ^ 32
  role_fits (Named i) h = omega arith
  role_fits (Inverse i) h = omega arith

  qualifier_fits : (q : Qualifier) → QualifierIn fresh q → qualifier_word q < 2 ^ 32
  qualifier_fits None h = omega arith
  qualifier_fits (Some k) h = omega arith

  atom_fits : (a : Atom) → AtomIn B fresh vars a → Small (six a)
  atom_fits (Class k v) h = omega arith
  atom_fits (RoleAtom r u v) h = let f = role_fits r h.0 in omega arith
  atom_fits (Exists r k v) h = let f = role_fits r h.0 in omega arith
  atom_fits (AtMost r q n v) h = let f = role_fits r h.0 in let g = qualifier_fits q h.1 in omega arith
  atom_fits (AtLeast r q n v) h = let f = role_fits r h.0 in let g = qualifier_fits q h.1 in omega arith
  atom_fits (Equal u v) h = omega arith

  flat_fits : (l : List Atom) → Each (AtomIn B fresh vars) l → Small (flat l)
  unfolding flat
  flat_fits [] h = tt
  flat_fits (a ∷ l) h = append_smalls (six a) (flat l) (atom_fits a h.0) (flat_fits l h.1)

  atoms_fit : (l : List Clause) → Each (ClauseIn B fresh vars) l → Small (atom_records l)
  unfolding atom_records
  atoms_fit [] h = tt
  atoms_fit (c ∷ l) h =
      let run : Small (flat c.body ++ flat c.head) = append_smalls (flat c.body) (flat c.head) (flat_fits c.body h.0.body_in) (flat_fits c.head h.0.head_in) in
      append_smalls (flat (c.body ++ c.head)) (atom_records l) (rw (flat_append c.body c.head) run) (atoms_fit l h.1)

  clauses_fit : (first : ℕ) (l : List Clause) → first + total l < 2 ^ 32 → Each (ClauseIn B fresh vars) l → Small (clause_records first l)
  unfolding clause_records total
  clauses_fit first [] t h = tt
  clauses_fit first (c ∷ l) t h =
      (omega arith, (omega (arith, h.0.body_short), (omega (arith, h.0.head_short), clauses_fit (first + length (c.body ++ c.head)) l (omega arith) h.1)))

  -- all words of the clauses' records
  pub fits_words : (l : List Clause) → Each (ClauseIn B fresh vars) l → total l < 2 ^ 32 → Words (clause_records 0 l) × Words (atom_records l)
  fits_words l h t = (small_words (clause_records 0 l) (clauses_fit 0 l (omega arith) h), small_words (atom_records l) (atoms_fit l h))

kind_small : (k : Deferral) → deferral_kind k < 2 ^ 32
kind_small DisjointAntecedent = omega arith
kind_small DisjointUnionMember = omega arith
kind_small DisjointUnionCovering = omega arith
kind_small RoleChainLenNe2 = omega arith
kind_small Antecedent = omega arith
kind_small HeadOrDisjunct = omega arith
kind_small HeadExistsInner = omega arith
kind_small HeadNotNonatomic = omega arith
kind_small ReflexiveDerivedCap = omega arith

deferrals_fit : (l : List Deferred) → Each (λ d. d.line < 2 ^ 32) l → Small (deferral_records l)
unfolding deferral_records
deferrals_fit [] h = tt
deferrals_fit (d ∷ l) h = (h.0, (kind_small d.kind, deferrals_fit l h.1))

-- and those of the deferrals' records
pub fits_deferrals : (l : List Deferred) → Each (λ d. d.line < 2 ^ 32) l → Words (deferral_records l)
fits_deferrals l h = small_words (deferral_records l) (deferrals_fit l h)
