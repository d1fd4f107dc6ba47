-- An accepted run: its clauses and deferrals are within their bounds and the tables' rooms, its tables have their lent lengths,
-- are bytes, and are read back as the clauses and deferrals; and no run is refused by 0, by which the definitions mark a bound
-- that was too small. Assumes nothing.
use Rattle.std.specs.Prelude.{◌≡◌, Bool, true, false, ◌&&◌, List, [], ◌∷◌, map, ℕ, suc, ◌+◌, ◌≤◌, ◌<◌, ◌^◌, ◌/◌, ◌%◌, length, eqb, leb}
use Rattle.std.proofs.Math.Path.{refl}
use Rattle.std.proofs.Common.{ap, subst, leb-true}
use Rattle.std.proofs.Math.Option.{some}
use native.Mathlib.Omega.{arith}
use Rattle.std.proofs.lemmas.List.{length-replicate}
use Rattle.std.proofs.lemmas.Bool.{and_parts}
use Rattle.words.specs.Words.{words}
use Rattle.words.specs.Laws.{Bytes}
use Rattle.words.specs.Bytes.{Words}
use Rattle.ir.specs.Options.{body_decompose, follow_roles}
use Rattle.rules.specs.Concept.{Axiom}
use Rattle.rules.specs.Normalize.{St, nnf_axiom}
use Rattle.rules.specs.State.{Rooms, Out, Deferred, total}
use Rattle.rules.specs.Axioms.{Clausifier}
use Rattle.rules.specs.Stats.{clause_stats}
use Rattle.rules.specs.Deck.{Known, Told, fine, refused as unread, read_deck, axiom_line}
use Rattle.rules.specs.Run.{Lined, lined, lined_then, nnf_axioms, at_line, clausifier_at, late_passes, Accepted, Outcome, accepted, refused, first_fresh, env_of, accepted_of, outcome_of, start, clausify_normal, run_deck}
use Rattle.rules.specs.Run.{clause_words, atom_words, deferral_words, most_clauses, most_atoms, most_deferrals, scratch_bytes, visit_limit, Lengths, table_ok, sizes_ok, rooms_of, run_read, run_sized, run_with, Run, clause_records, atom_records, deferral_records, clause_table, atom_table, deferral_table}
use Rattle.rules.specs.Statements.{clauses_of}
use Rattle.rules.specs.Decode.{decode_deferrals}
use Rattle.rules.specs.Post.{post_any}
use Rattle.rules.specs.Ends.{ends_map}
use Rattle.rules.specs.LinedPost.{LinedPost, finishes, stops, finish, lined_post, lined_then_lem}
use Rattle.rules.specs.LinedEnds.{LinedEnds, closes, halts, lined_ends, lined_ends_then, lined_ends_both, lined_ends_post}
use Rattle.rules.specs.Invariants.{Each, ClauseIn}
use Rattle.rules.specs.EachLaws.{each_map, each_append}
use Rattle.rules.proofs.BoundLaws.{clauses_grow}
use Rattle.rules.proofs.NormalizeLaws.{AxiomsMade}
use Rattle.rules.proofs.AntecedentLaws.{canon_in}
use Rattle.rules.proofs.LateLaws.{late_in}
use Rattle.rules.proofs.NnfEnds.{nnf_axioms_end}
use Rattle.rules.proofs.RoomLaws.{Tabled}
use Rattle.rules.proofs.SettleLaws.{Whole, axioms_tabled, start_ready}
use Rattle.rules.specs.DeckLaws.{bounds_of, line_count, DeckIn, Answers, read_answers, read_in}
use Rattle.rules.specs.DecodeLaws.{zeros_small, deferral_pair, clause_table_length, atom_table_length, deferral_table_length, table_small, decode_tables, decode_deferral_table, fits_words, fits_deferrals}

-- ---- the run of a deck
-- what a run's state is when it ends; n is the number of rewritten bodies
pub record RunIn (d : Known) (limit : ℕ) (rooms : Rooms) (n : ℕ) (s : Out) : Type 0 where
  pub all_in : Each (ClauseIn (bounds_of d) s.next_fresh (limit + 513)) s.clauses
  pub first : first_fresh d ≤ s.next_fresh
  pub most : s.next_fresh ≤ first_fresh d + limit + length s.clauses
  pub clauses : length s.clauses ≤ rooms.clauses
  pub atoms : total s.clauses ≤ rooms.atoms
  pub deferrals : length s.deferrals ≤ rooms.deferrals
  pub lines : Each (λ e. e.line ≤ 1 + line_count d) s.deferrals
  pub visits : s.visits ≤ limit
  pub counted : n ≤ length s.clauses

-- normal form keeps the number of axioms
nnf_count : (line : ℕ) (l : List Axiom) (s : St) → LinedPost (λ k _. length k ≡ length l) (nnf_axioms line l s)
unfolding nnf_axioms
nnf_count line [] s = finish refl
nnf_count line (a ∷ l) s = lined_then_lem (lined_post line (post_any (nnf_axiom a s))) (λ b t _. lined_then_lem (nnf_count (line + 1) l t) (λ k u e. finish (ap suc e)))

-- from the state before the late passes to the state after them
module _ (limit : ℕ) (rooms : Rooms) (d : Known) where
  abbrev begun : St
  begun = record { pool = d.concepts; visits = 0; limit = limit }

  late_run : (axioms : List Axiom) (s : St) → AxiomsMade (bounds_of d) begun d.axioms axioms s → (z : Clausifier) → Whole (bounds_of d) (start d s) (clausifier_at 0 z)
      → Tabled (env_of d rooms axioms) (1 + line_count d) z.out
      → LinedEnds (RunIn d limit rooms) (lined 0 (late_passes (env_of d rooms axioms) axioms (body_decompose d.header.options) (at_line 0 z.out)))
  late_run axioms s A z X T =
      let B = bounds_of d in
      let w : s.visits ≤ s.limit = A.ran.within (omega arith) in
      let v : z.out.visits ≤ limit = omega (arith, X.emitted.within w, X.emitted.limit, A.ran.limit) in
      let all_in : Each (ClauseIn B z.out.next_fresh (z.out.visits + 3)) z.out.clauses = rw X.emitted.clauses X.emitted.new_in in
      lined_ends 0 (ends_map (late_in (env_of d rooms axioms) axioms (body_decompose d.header.options) B (z.out.visits + 3) (limit + 513) (at_line 0 z.out) (omega arith) (omega arith) all_in)
      (λ n t L.
      let r = L.roomy (record { clauses = T.roomy.clauses; atoms = T.roomy.atoms; deferrals = T.roomy.deferrals }) in
      record {
        all_in = L.all_in;
        first = omega (arith, L.fresh, X.emitted.fresh);
        most = omega (arith, L.names, X.emitted.names);
        clauses = r.clauses;
        atoms = r.atoms;
        deferrals = r.deferrals;
        lines = rw L.deferrals (each_append (λ (e : Deferred). e.line ≤ 1 + line_count d) z.out.deferrals L.deferring T.lines
            (each_map (λ (e : Deferred). e.line ≡ 0) (λ e. e.line ≤ 1 + line_count d) (λ e h. omega arith) L.deferring L.deferring_at));
        visits = omega (arith, L.same_visits);
        counted = L.counted;
      }))

  normal_run : (axioms : List Axiom) (s : St) → length axioms ≡ length d.axioms → AxiomsMade (bounds_of d) begun d.axioms axioms s → LinedEnds (RunIn d limit rooms) (clausify_normal d rooms axioms s)
  unfolding clausify_normal total
  normal_run axioms s e A =
      let B = bounds_of d in
      let env = env_of d rooms axioms in
      lined_ends_then (axioms_tabled B env (canon_in B (length s.pool) (follow_roles d.header.options) axioms A.inside) (1 + line_count d) (axiom_line d 0) axioms (start d s) (omega arith)
      (start_ready B d rooms axioms s (omega arith) (omega arith) A.ran.wf) A.inside
      (record { roomy = record { clauses = omega arith; atoms = omega arith; deferrals = omega arith }; line = omega arith; lines = tt }))
      (λ _ z X. late_run axioms s A z X.0 X.1)

-- what runDeck hands to outcomeOf
abbrev pub deck_run : ℕ → Rooms → Known → Lined Out ℕ
deck_run limit rooms d =
    lined_then (nnf_axioms (axiom_line d 0) d.axioms (record { pool = d.concepts; visits = 0; limit = limit })) (λ axioms s. clausify_normal d rooms axioms s)

pub run_ends : (limit : ℕ) (rooms : Rooms) (d : Known) → DeckIn d → LinedEnds (RunIn d limit rooms) (deck_run limit rooms d)
run_ends limit rooms d D =
    let s : St = record { pool = d.concepts; visits = 0; limit = limit } in
    lined_ends_then (lined_ends_both (nnf_count (axiom_line d 0) d.axioms s) (nnf_axioms_end (bounds_of d) (axiom_line d 0) d.axioms s D.wf D.axioms))
    (λ axioms t X. normal_run limit rooms d axioms t X.0 X.1)

pub run_in : (limit : ℕ) (rooms : Rooms) (d : Known) → DeckIn d → LinedPost (RunIn d limit rooms) (deck_run limit rooms d)
run_in limit rooms d D = lined_ends_post (run_ends limit rooms d D)

-- ---- accepted runs
pub accepted_from : {Q : ℕ → Out → Type 0} (d : Known) (a : Accepted) {r : Lined Out ℕ} → LinedPost Q r → outcome_of d r ≡ accepted a → (n : ℕ) × (s : Out) × Q n s × (accepted_of d n s ≡ a)
accepted_from d a (finishes {a = n} {s = s} q) e = (n, s, q, cc)
accepted_from d a (stops {k = k} {line = line}) e = let z : ◌≡◌ {A = ℕ} 0 1 = cc in absurd (omega arith)

-- the same of what it leaves
pub record AcceptedIn (d : Known) (limit : ℕ) (rooms : Rooms) (a : Accepted) : Type 0 where
  pub all_in : Each (ClauseIn (bounds_of d) (first_fresh d + a.fresh_ids) (limit + 513)) a.clauses
  pub fresh : a.fresh_ids ≤ limit + length a.clauses
  pub clauses : length a.clauses ≤ rooms.clauses
  pub atoms : total a.clauses ≤ rooms.atoms
  pub deferrals : length a.deferrals ≤ rooms.deferrals
  pub lines : Each (λ e. e.line ≤ 1 + line_count d) a.deferrals
  pub visits : a.visits ≤ limit
  pub counted : a.stats.total ≡ length a.clauses
  pub deferred : a.stats.deferred ≡ length a.deferrals
  pub decomposed : a.stats.decomposed ≤ length a.clauses

accepted_in : (d : Known) (limit : ℕ) (rooms : Rooms) (n : ℕ) (s : Out) → RunIn d limit rooms n s → AcceptedIn d limit rooms (accepted_of d n s)
unfolding clause_stats
accepted_in d limit rooms n s R = record {
  all_in = clauses_grow (bounds_of d) (omega (arith, R.first)) (omega arith) s.clauses R.all_in;
  fresh = omega (arith, R.first, R.most);
  clauses = R.clauses;
  atoms = R.atoms;
  deferrals = R.deferrals;
  lines = R.lines;
  visits = R.visits;
  counted = refl;
  deferred = refl;
  decomposed = R.counted;
}

-- ---- the lent tables
pub record Sized (t : Lengths) : Type 0 where
  pub clauses : (rooms_of t).clauses ≤ most_clauses
  pub atoms : (rooms_of t).atoms ≤ most_atoms
  pub deferrals : (rooms_of t).deferrals ≤ most_deferrals
  pub scratch : scratch_bytes ≤ t.scratch

pub sizes_ok_lem : (t : Lengths) → sizes_ok t ≡ true → Sized t
sizes_ok_lem t e =
    let x = table_ok clause_words most_clauses t.clauses in
    let y = table_ok atom_words most_atoms t.atoms in
    let z = table_ok deferral_words most_deferrals t.deferrals in
    let f = and_parts (x && y && z) (leb scratch_bytes t.scratch) e in
    let g = and_parts (x && y) z f.0 in
    let h = and_parts x y g.0 in
    record {
      clauses = leb-true (t.clauses / 12) most_clauses (and_parts (eqb (t.clauses % 12) 0) (leb (t.clauses / 12) most_clauses) h.0).1;
      atoms = leb-true (t.atoms / 24) most_atoms (and_parts (eqb (t.atoms % 24) 0) (leb (t.atoms / 24) most_atoms) h.1).1;
      deferrals = leb-true (t.deferrals / 8) most_deferrals (and_parts (eqb (t.deferrals % 8) 0) (leb (t.deferrals / 8) most_deferrals) g.1).1;
      scratch = leb-true scratch_bytes t.scratch f.1;
    }

-- ---- the whole run, under any limit of visits
-- what holds of an outcome that the run of a checked deck may have, and of the others
module _ (limit : ℕ) (deck : List ℕ) (t : Lengths) where
  pub run_outcome : (P : Outcome → Type 0) → P (refused 1 0) → ((k line : ℕ) → 2 ≤ k → P (refused k line)) → ((d : Known) → read_deck deck ≡ fine d → Sized t → P (outcome_of d (deck_run limit (rooms_of t) d)))
      → P (run_with limit deck t)
  unfolding run_with run_deck
  run_outcome P small unreadable ran = sized (sizes_ok t) refl
    where
      told : Sized t → (r : Told) → read_deck deck ≡ r → Answers deck r → P (run_read limit (rooms_of t) r)
      told z (fine d) e A = ran d e z
      told z (unread k line) e A = unreadable k line A.low

      sized : (b : Bool) → sizes_ok t ≡ b → P (run_sized limit deck t b)
      sized false e = small
      sized true e = told (sizes_ok_lem t e) (read_deck deck) refl (read_answers deck)

  -- an accepted run of a deck that was read: what holds of the deck's run holds of the state that it ended in
  pub run_from : {Q : ℕ → Out → Type 0} (d : Known) (a : Accepted) → read_deck deck ≡ fine d → run_with limit deck t ≡ accepted a → LinedPost Q (deck_run limit (rooms_of t) d)
      → Sized t × (n : ℕ) × (s : Out) × Q n s × (accepted_of d n s ≡ a)
  run_from {Q} d a e q h = run_outcome (λ o. o ≡ accepted a → State) (other 1 0) (λ k line _. other k line) (λ k f z r.
      let same : k ≡ d = cc in
      let y = accepted_from d a h (subst (λ m. outcome_of m (deck_run limit (rooms_of t) m) ≡ accepted a) same r) in
      (z, y.0, y.1, y.2, y.3)) q
    where
      State : Type 0
      State = Sized t × (n : ℕ) × (s : Out) × Q n s × (accepted_of d n s ≡ a)

      other : (k line : ℕ) → refused k line ≡ accepted a → State
      other k line r = let z : ◌≡◌ {A = ℕ} 0 1 = cc in absurd (omega arith)

  pub run_accepted : (d : Known) (a : Accepted) → read_deck deck ≡ fine d → run_with limit deck t ≡ accepted a → Sized t × AcceptedIn d limit (rooms_of t) a
  run_accepted d a e q =
      let x = run_from d a e q (run_in limit (rooms_of t) d (read_in deck d e)) in
      (x.0, subst (AcceptedIn d limit (rooms_of t)) x.4 (accepted_in d limit (rooms_of t) x.1 x.2 x.3))

-- ---- the tables at exit
-- every word of a run under the contract's limit is below 2 ^ 32
module _ (deck : List ℕ) (t : Lengths) (d : Known) (a : Accepted) (e : read_deck deck ≡ fine d) (q : Run deck t ≡ accepted a) where
  clauses_words : Words (clause_records 0 a.clauses) × Words (atom_records a.clauses)
  clauses_words =
      let x = run_accepted visit_limit deck t d a e q in
      let D = read_in deck d e in
      fits_words (bounds_of d) (first_fresh d + a.fresh_ids) (visit_limit + 513)
      (omega (arith, D.roles)) (omega (arith, D.classes, D.individuals, x.1.fresh, x.1.clauses, x.0.clauses)) (omega arith)
      a.clauses x.1.all_in (omega (arith, x.1.atoms, x.0.atoms))

  deferrals_words : Words (deferral_records a.deferrals)
  deferrals_words =
      let x = run_accepted visit_limit deck t d a e q in
      let D = read_in deck d e in
      fits_deferrals a.deferrals (each_map (λ (k : Deferred). k.line ≤ 1 + line_count d) (λ k. k.line < 2 ^ 32) (λ k h. omega (arith, D.size)) a.deferrals x.1.lines)

  -- the clauses and deferrals are read back from the tables' bytes, by the reply's counts
  pub run_decoded : clauses_of t a ≡ map some a.clauses
  run_decoded = rw (run_accepted visit_limit deck t d a e q).1.counted (decode_tables t.clauses t.atoms a.clauses clauses_words.0 clauses_words.1)

  pub run_deferrals : decode_deferrals a.stats.deferred (words (deferral_table t (accepted a))) ≡ map deferral_pair a.deferrals
  run_deferrals = rw (run_accepted visit_limit deck t d a e q).1.deferred (decode_deferral_table t.deferrals a.deferrals deferrals_words)

-- whatever the outcome, each table has its lent length and is bytes
pub record Tables (t : Lengths) (o : Outcome) : Type 0 where
  pub clause_length : length (clause_table t o) ≡ t.clauses
  pub atom_length : length (atom_table t o) ≡ t.atoms
  pub deferral_length : length (deferral_table t o) ≡ t.deferrals
  pub clause_bytes : Bytes (clause_table t o)
  pub atom_bytes : Bytes (atom_table t o)
  pub deferral_bytes : Bytes (deferral_table t o)

refused_tables : (t : Lengths) (k line : ℕ) → Tables t (refused k line)
refused_tables t k line = record {
  clause_length = length-replicate t.clauses 0;
  atom_length = length-replicate t.atoms 0;
  deferral_length = length-replicate t.deferrals 0;
  clause_bytes = zeros_small t.clauses;
  atom_bytes = zeros_small t.atoms;
  deferral_bytes = zeros_small t.deferrals;
}

outcome_tables : (d : Known) (limit : ℕ) (t : Lengths) {r : Lined Out ℕ} → LinedPost (RunIn d limit (rooms_of t)) r → Tables t (outcome_of d r)
outcome_tables d limit t (finishes {s = s} R) = record {
  clause_length = clause_table_length t s.clauses R.clauses;
  atom_length = atom_table_length t s.clauses R.atoms;
  deferral_length = deferral_table_length t s.deferrals R.deferrals;
  clause_bytes = table_small t.clauses (clause_records 0 s.clauses);
  atom_bytes = table_small t.atoms (atom_records s.clauses);
  deferral_bytes = table_small t.deferrals (deferral_records s.deferrals);
}
outcome_tables d limit t (stops {k = k} {line = line}) = refused_tables t k line

pub run_with_tables : (limit : ℕ) (deck : List ℕ) (t : Lengths) → Tables t (run_with limit deck t)
run_with_tables limit deck t = run_outcome limit deck t (Tables t) (refused_tables t 1 0) (λ k line _. refused_tables t k line)
    (λ d e _. outcome_tables d limit t (run_in limit (rooms_of t) d (read_in deck d e)))

pub run_tables : (deck : List ℕ) (t : Lengths) → Tables t (Run deck t)
run_tables deck t = run_with_tables visit_limit deck t

-- ---- no bound of a recursive rule is too small
abbrev NotZeroth : Outcome → Type 0
NotZeroth (accepted a) = Unit {0}
NotZeroth (refused k line) = k ≡ 0 → ⊥

outcome_not_zero : {Q : ℕ → Out → Type 0} (d : Known) {r : Lined Out ℕ} → LinedEnds Q r → NotZeroth (outcome_of d r)
outcome_not_zero d (closes q) = tt
outcome_not_zero d (halts n) = n

pub run_with_never_zero : (limit : ℕ) (deck : List ℕ) (t : Lengths) (line : ℕ) → run_with limit deck t ≡ refused 0 line → ⊥
run_with_never_zero limit deck t line q =
    subst NotZeroth q (run_outcome limit deck t NotZeroth (omega arith) (λ k _ h. omega arith) (λ d e _. outcome_not_zero d (run_ends limit (rooms_of t) d (read_in deck d e)))) refl

pub run_never_zero : (deck : List ℕ) (t : Lengths) (line : ℕ) → Run deck t ≡ refused 0 line → ⊥
run_never_zero deck t line q = run_with_never_zero visit_limit deck t line q
