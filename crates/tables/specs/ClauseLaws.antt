-- The clauses of the tables one by one; their bodies and heads as parts of the atom table; whole tables. Assumes nothing.
use Rattle.std.specs.Prelude.{◌≡◌, refl, get_or, set, take, drop, replicate}
use Rattle.std.proofs.Common.{sym, ap, ap₂, ◌∙◌, length-take, take-append-drop, take_at, drop-cons, get_or-take, get_or-drop, get_or-set_other}
use mathlib.Core.List.{List, [], ◌∷◌, ◌++◌, map, append_assoc}
use Rattle.std.proofs.Math.Option.{Option, some}
use Prim.Native.Nat.{ℕ, zero, suc, ◌+◌, ◌*◌, ◌-◌, ◌<◌, ◌≤◌}
use native.Mathlib.Omega.{arith}
use Rattle.std.proofs.Math.ListN.{length, length-append}
use Rattle.std.proofs.lemmas.List.Edits.{sets}
use Rattle.std.proofs.lemmas.List.{set-get_or}
use Rattle.words.specs.Words.{words}
use Rattle.words.specs.Laws.{length_words}
use Rattle.ir.specs.declared.counters.Counters.{Counters}
use Rattle.rules.specs.State.{Clause, Env, Rooms, Out, total}
use Rattle.rules.specs.Run.{clause_words, atom_words, flat, clause_records, atom_records}
use Rattle.rules.specs.Decode.{decode_clauses}
use Rattle.rules.specs.DecodeLaws.{flat_long, flat_append, clause_records_long, atom_records_long, decode_records}
use Rattle.tables.specs.Drawn.{padded, Tables, tables, counters_in, clauses_in, atoms_in, show}
use Rattle.tables.specs.Tabled.{first_atom, body_count, head_count, clause_put, first_put, body_put, At, Run, no_clause, ClauseAt, From, Tabled, ClauseThere, TableThere}
use Rattle.tables.specs.TabledLaws.{at_front, at_back, at_get, at_long, first_is, count_is, rest_is}
use Rattle.tables.specs.AtomLaws.{part_long, part_words}

-- ---- a clause of those that stand from clause j and atom f on
module _ (c a : List ℕ) where
  -- the first of them, and the others
  module _ (j f : ℕ) (x : Clause) (l : List Clause) (F : From c a j f (x ∷ l)) where
    pub from_first : first_atom c j ≡ f
    unfolding clause_records
    from_first = first_is c j f (length x.body) (length x.head) (clause_records (f + length (x.body ++ x.head)) l) F.rows

    pub from_here : ClauseAt c a j x
    unfolding clause_records atom_records total
    from_here =
        let b = length x.body in
        let d = length x.head in
        let r = clause_records (f + length (x.body ++ x.head)) l in
        let e : At c (clause_words * j) (f ∷ b ∷ d ∷ r) = F.rows in
        let k = count_is c j f b d r e in
        let n = length-append x.body x.head in
        let p = F.room in
        record {
          row = omega (arith, at_long c (clause_words * j) (f ∷ b ∷ d ∷ r) e);
          body = at_get c (clause_words * j + 1) b (d ∷ r) (at_back c (clause_words * j) (f ∷ []) (b ∷ d ∷ r) e (clause_words * j + 1) refl);
          head = at_get c (clause_words * j + 2) d r (at_back c (clause_words * j) (f ∷ b ∷ []) (d ∷ r) e (clause_words * j + 2) refl);
          room = omega (arith, from_first);
          atoms = rw from_first (at_front a (atom_words * f) (flat (x.body ++ x.head)) (atom_records l) F.atoms);
        }

    pub from_rest : From c a (j + 1) (f + length (x.body ++ x.head)) l
    unfolding clause_records atom_records total
    from_rest =
        let m = length (x.body ++ x.head) in
        let n : atom_words * (f + m) ≡ atom_words * f + length (flat (x.body ++ x.head)) = omega (arith, flat_long (x.body ++ x.head)) in
        let p = F.room in
        record {
          rows = rest_is c j f (length x.body) (length x.head) (clause_records (f + m) l) F.rows;
          atoms = at_back a (atom_words * f) (flat (x.body ++ x.head)) (atom_records l) F.atoms (atom_words * (f + m)) n;
          room = omega arith;
        }

  pub from_at : (l : List Clause) (j f i : ℕ) → From c a j f l → i < length l → ClauseAt c a (j + i) (get_or l i no_clause) × (first_atom c (j + i) ≡ f + total (take i l))
  unfolding total
  from_at [] j f i F h = absurd (omega arith)
  from_at (x ∷ l) j f zero F h =
      let z : j + 0 ≡ j = omega arith in
      let y : f + 0 ≡ f = omega arith in
      rw (z, y) (from_here j f x l F, from_first j f x l F)
  from_at (x ∷ l) j f (suc i) F h =
      let z : j + suc i ≡ j + 1 + i = omega arith in
      let m = length (x.body ++ x.head) in
      let r = from_at l (j + 1) (f + m) i (from_rest j f x l F) (omega arith) in
      rw z (r.0, r.1 ∙ omega arith)

-- ---- the tables' front
module _ (c a : List ℕ) (n : ℕ) (l : List Clause) (T : Tabled c a n l) where
  pub tabled_long : (clause_words * n ≤ length c) × (atom_words * total l ≤ length a)
  tabled_long = (omega (arith, ap length T.clauses, length-take (clause_words * n) c, clause_records_long 0 l, T.count), omega (arith, ap length T.atoms, length-take (atom_words * total l) a, atom_records_long l))

  pub tabled_from : From c a 0 0 l
  tabled_from =
      let e : length (clause_records 0 l) ≡ clause_words * n = omega (arith, clause_records_long 0 l, T.count) in
      let g : length (atom_records l) ≡ atom_words * total l = atom_records_long l in
      record { rows = rw e T.clauses; atoms = rw g T.atoms; room = omega (arith, tabled_long.1) }

  module _ (i : ℕ) (h : i < n) where
    both : ClauseAt c a i (get_or l i no_clause) × (first_atom c i ≡ 0 + total (take i l))
    both = let z : 0 + i ≡ i = omega arith in rw z at (from_at c a l 0 0 i tabled_from (omega (arith, T.count)))

    pub clause_at : ClauseAt c a i (get_or l i no_clause)
    clause_at = both.0

    pub clause_first : first_atom c i ≡ total (take i l)
    clause_first = omega (arith, both.1)

    pub clause_split : drop i l ≡ get_or l i no_clause ∷ drop (i + 1) l
    clause_split = let z : i + 1 ≡ suc i = omega arith in rw z (drop-cons l i no_clause (omega (arith, T.count)))

pub there_at : (c a : List ℕ) (n : ℕ) → TableThere c a n → (i : ℕ) → i < n → ClauseThere c a i
there_at c a n T i h = record { clause = get_or T.list i no_clause; is = clause_at c a n T.list T.tabled i h }

-- other tables with the same first words
pub count_kept : (c c' : List ℕ) (n i : ℕ) → take (clause_words * n) c' ≡ take (clause_words * n) c → i < n → head_count c' i ≡ head_count c i
count_kept c c' n i e h =
    sym (get_or-take (clause_words * n) c' (clause_words * i + 2) 0 (omega arith)) ∙ ap (λ (t : List ℕ). get_or t (clause_words * i + 2) 0) e ∙ get_or-take (clause_words * n) c (clause_words * i + 2) 0 (omega arith)

-- other tables with the same words from the clause on
word_same : (c c' : List ℕ) (p q j : ℕ) → q ≡ p + j → drop p c' ≡ drop p c → get_or c' q 0 ≡ get_or c q 0
word_same c c' p q j e h = rw e (sym (get_or-drop p c' j 0) ∙ ap (λ (t : List ℕ). get_or t j 0) h ∙ get_or-drop p c j 0)

pub first_same : (c c' : List ℕ) (i : ℕ) → drop (clause_words * i) c' ≡ drop (clause_words * i) c → first_atom c' i ≡ first_atom c i
first_same c c' i e = word_same c c' (clause_words * i) (clause_words * i) 0 (omega arith) e

pub clause_kept : (c a c' a' : List ℕ) (i : ℕ) (x : Clause) → drop (clause_words * i) c' ≡ drop (clause_words * i) c → drop (atom_words * first_atom c i) a' ≡ drop (atom_words * first_atom c i) a → length c' ≡ length c → length a' ≡ length a → ClauseAt c a i x → ClauseAt c' a' i x
clause_kept c a c' a' i x e f lc la C =
    let g : first_atom c' i ≡ first_atom c i = first_same c c' i e in
    let b : body_count c' i ≡ body_count c i = word_same c c' (clause_words * i) (clause_words * i + 1) 1 refl e in
    let h : head_count c' i ≡ head_count c i = word_same c c' (clause_words * i) (clause_words * i + 2) 2 refl e in
    record {
      row = omega (arith, C.row);
      body = b ∙ C.body;
      head = h ∙ C.head;
      room = omega (arith, C.room);
      atoms = rw g (ap (take (length (flat (x.body ++ x.head)))) f ∙ C.atoms);
    }

-- other tables with the same front
pub tabled_kept : (c a c' a' : List ℕ) (n : ℕ) (l : List Clause) → take (clause_words * n) c' ≡ take (clause_words * n) c → take (atom_words * total l) a' ≡ take (atom_words * total l) a → Tabled c a n l → Tabled c' a' n l
tabled_kept c a c' a' n l e f T = record { count = T.count; clauses = e ∙ T.clauses; atoms = f ∙ T.atoms }

-- the same words hold the same clauses
some_same : (l m : List Clause) → ◌≡◌ {A = List (Option Clause)} (map some l) (map some m) → l ≡ m
some_same [] [] e = refl
some_same [] (y ∷ m) e = absurd (let z : ◌≡◌ {A = ℕ} 0 1 = cc in omega arith)
some_same (x ∷ l) [] e = absurd (let z : ◌≡◌ {A = ℕ} 0 1 = cc in omega arith)
some_same (x ∷ l) (y ∷ m) e =
    let f : x ≡ y = cc in
    let g : ◌≡◌ {A = List (Option Clause)} (map some l) (map some m) = cc in
    ap₂ (λ (z : Clause) (n : List Clause). z ∷ n) f (some_same l m g)

pub tabled_read : (c a : List ℕ) (n : ℕ) (l : List Clause) → Tabled c a n l → decode_clauses n c a ≡ map some l
tabled_read c a n l T =
    let x : clause_records 0 l ++ drop (clause_words * n) c ≡ c = ap (λ (t : List ℕ). t ++ drop (clause_words * n) c) (sym T.clauses) ∙ take-append-drop (clause_words * n) c in
    let y : atom_records l ++ drop (atom_words * total l) a ≡ a = ap (λ (t : List ℕ). t ++ drop (atom_words * total l) a) (sym T.atoms) ∙ take-append-drop (atom_words * total l) a in
    ap (λ (j : ℕ). decode_clauses j c a) T.count ∙ ap₂ (decode_clauses (length l)) (sym x) (sym y) ∙ decode_records l (drop (clause_words * n) c) (drop (atom_words * total l) a)

pub tabled_same : (c a : List ℕ) (n : ℕ) (l m : List Clause) → Tabled c a n l → Tabled c a n m → l ≡ m
tabled_same c a n l m T U = some_same l m (sym (tabled_read c a n l T) ∙ tabled_read c a n m U)

-- ---- a state's clauses stand in its tables
pub padded_front : (n p : ℕ) (l : List ℕ) → length l ≡ p → take p (padded n l) ≡ l
unfolding padded
padded_front n p l e = take_at l (replicate (n - length l) 0) p e

pub shown_tabled : (k k' : Counters) (rooms : Rooms) (s : Out) (c a d : List ℕ) → tables k c a d ≡ show k' rooms s → Tabled c a k.clauses s.clauses
unfolding show
shown_tabled k k' rooms s c a d e =
    let n : k.clauses ≡ length s.clauses = ap (λ (t : Tables). (counters_in t).clauses) e in
    record {
      count = n;
      clauses = ap (λ (t : Tables). take (clause_words * k.clauses) (clauses_in t)) e ∙ padded_front (clause_words * rooms.clauses) (clause_words * k.clauses) (clause_records 0 s.clauses) (omega (arith, clause_records_long 0 s.clauses));
      atoms = ap (λ (t : Tables). take (atom_words * total s.clauses) (atoms_in t)) e ∙ padded_front (atom_words * rooms.atoms) (atom_words * total s.clauses) (atom_records s.clauses) (atom_records_long s.clauses);
    }

pub show_tabled : (env : Env) (k : Counters) (c a d : List ℕ) (s : Out) → tables k c a d ≡ show k env.rooms s → Tabled c a k.clauses s.clauses
show_tabled env k c a d s e = shown_tabled k k env.rooms s c a d e

-- ---- one record written
-- a word is stored that is there
word_there : (c : List ℕ) (p x : ℕ) → get_or c p 0 ≡ x → set c p x ≡ c
word_there c p x e = ap (set c p) (sym e) ∙ set-get_or c p 0

-- its atoms begin elsewhere
pub first_put_lem : (c : List ℕ) (i first : ℕ) (x : Clause) → body_count c i ≡ length x.body → head_count c i ≡ length x.head → first_put c i first ≡ sets c (clause_words * i) (clause_records first (x ∷ []))
unfolding clause_records
first_put_lem c i first x eb eh =
    let p : ℕ = clause_words * i in
    let d : List ℕ = set c p first in
    let y : p + 1 ≡ suc p = omega arith in
    let z : p + 2 ≡ suc (suc p) = omega arith in
    let fb : get_or d (suc p) 0 ≡ length x.body = get_or-set_other c p (suc p) first 0 (λ (e : suc p ≡ p). absurd (omega arith)) ∙ rw y at eb in
    let fh : get_or d (suc (suc p)) 0 ≡ length x.head = get_or-set_other c p (suc (suc p)) first 0 (λ (e : suc (suc p) ≡ p). absurd (omega arith)) ∙ rw z at eh in
    sym (ap (λ (t : List ℕ). set t (suc (suc p)) (length x.head)) (word_there d (suc p) (length x.body) fb) ∙ word_there d (suc (suc p)) (length x.head) fh)

-- and its body has n atoms
pub body_put_lem : (c : List ℕ) (i first n : ℕ) (x : Clause) → n ≡ length x.body → head_count c i ≡ length x.head → body_put (first_put c i first) i n ≡ sets c (clause_words * i) (clause_records first (x ∷ []))
unfolding clause_records
body_put_lem c i first n x eb eh =
    let p : ℕ = clause_words * i in
    let d : List ℕ = set (set c p first) (suc p) (length x.body) in
    let y : p + 1 ≡ suc p = omega arith in
    let z : p + 2 ≡ suc (suc p) = omega arith in
    let f : get_or d (suc (suc p)) 0 ≡ length x.head =
    get_or-set_other (set c p first) (suc p) (suc (suc p)) (length x.body) 0 (λ (e : suc (suc p) ≡ suc p). absurd (omega arith))
    ∙ get_or-set_other c p (suc (suc p)) first 0 (λ (e : suc (suc p) ≡ p). absurd (omega arith)) ∙ rw z at eh in
    rw (y, eb) (sym (word_there d (suc (suc p)) (length x.head) f))

-- a clause, and then the others
pub records_put : (c : List ℕ) (i first : ℕ) (x : Clause) (l : List Clause)
    → sets c (clause_words * i) (clause_records first (x ∷ l)) ≡ sets (clause_put c i first (length x.body) (length x.head)) (clause_words * (i + 1)) (clause_records (first + length (x.body ++ x.head)) l)
unfolding clause_records
records_put c i first x l = let f : clause_words * (i + 1) ≡ suc (suc (suc (clause_words * i))) = omega arith in rw f refl

-- ---- the records of clauses behind others
pub clauses_append : (f : ℕ) (l m : List Clause) → clause_records f (l ++ m) ≡ clause_records f l ++ clause_records (f + total l) m
unfolding clause_records total
clauses_append f [] m = let e : f ≡ f + 0 = omega arith in ap (λ (x : ℕ). clause_records x m) e
clauses_append f (x ∷ l) m =
    let n = length (x.body ++ x.head) in
    let e : f + n + total l ≡ f + (n + total l) = omega arith in
    ap (λ (t : List ℕ). f ∷ length x.body ∷ length x.head ∷ t) (clauses_append (f + n) l m ∙ ap (λ (y : ℕ). clause_records (f + n) l ++ clause_records y m) e)

pub atoms_append : (l m : List Clause) → atom_records (l ++ m) ≡ atom_records l ++ atom_records m
unfolding atom_records
atoms_append [] m = refl
atoms_append (x ∷ l) m = ap (λ (t : List ℕ). flat (x.body ++ x.head) ++ t) (atoms_append l m) ∙ sym (append_assoc (flat (x.body ++ x.head)) (atom_records l) (atom_records m))

-- ---- a clause's body and head as parts of the atom table's bytes
module _ (s t : List ℕ) (i : ℕ) (x : Clause) (C : ClauseAt (words s) (words t) i x) (first nb : ℕ) (ef : first ≡ first_atom (words s) i) (eb : nb ≡ body_count (words s) i) where
  runs : At (words t) (atom_words * first_atom (words s) i) (flat x.body ++ flat x.head)
  runs = rw (flat_append x.body x.head) at C.atoms

  pub body_in_lem : 24 * (first + nb) ≤ length t
  body_in_lem = omega (arith, C.room, length_words t)

  pub body_run : Run (take (24 * (first + nb) - 24 * first) (drop (24 * first) t)) x.body
  body_run = record {
    long = part_long t (24 * first) (24 * (first + nb)) body_in_lem ∙ omega (arith, C.body);
    are = part_words t (atom_words * first_atom (words s) i) (atom_words * nb) (24 * first) (24 * (first + nb)) (flat x.body) (omega arith) (omega arith) (omega (arith, flat_long x.body, C.body))
        (at_front (words t) (atom_words * first_atom (words s) i) (flat x.body) (flat x.head) runs);
  }

  module _ (nh : ℕ) (eh : nh ≡ head_count (words s) i) where
    pub head_in_lem : 24 * (first + nb + nh) ≤ length t
    head_in_lem = omega (arith, C.room, length_words t)

    pub head_run : Run (take (24 * (first + nb + nh) - 24 * (first + nb)) (drop (24 * (first + nb)) t)) x.head
    head_run = record {
      long = part_long t (24 * (first + nb)) (24 * (first + nb + nh)) head_in_lem ∙ omega (arith, C.head);
      are = part_words t (atom_words * (first + nb)) (atom_words * nh) (24 * (first + nb)) (24 * (first + nb + nh)) (flat x.head) (omega arith) (omega arith) (omega (arith, flat_long x.head, C.head))
          (at_back (words t) (atom_words * first_atom (words s) i) (flat x.body) (flat x.head) runs (atom_words * (first + nb)) (omega (arith, flat_long x.body, C.body)));
    }

    pub whole_run : Run (take (24 * (first + nb + nh) - 24 * first) (drop (24 * first) t)) (x.body ++ x.head)
    whole_run = record {
      long = part_long t (24 * first) (24 * (first + nb + nh)) head_in_lem ∙ omega (arith, C.body, C.head, length-append x.body x.head);
      are = part_words t (atom_words * first_atom (words s) i) (atom_words * (nb + nh)) (24 * first) (24 * (first + nb + nh)) (flat (x.body ++ x.head)) (omega arith) (omega arith)
          (omega (arith, flat_long (x.body ++ x.head), C.body, C.head, length-append x.body x.head)) C.atoms;
    }
