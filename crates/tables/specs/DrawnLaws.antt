-- Laws of the drawing: one clause more, one deferral more. Assumes nothing.
use Rattle.std.specs.Prelude.{◌≡◌, false, List, [], ◌∷◌, ◌++◌, ℕ, ◌+◌, ◌*◌, ◌-◌, ◌/◌, ◌≤◌, ◌<◌, replicate}
use Rattle.std.proofs.Math.Path.{refl, ap}
use Rattle.std.proofs.Common.{sym, ◌∙◌, append-nil, append_assoc}
use native.Mathlib.Omega.{arith}
use borrow.Author.Tests.{lt-ltb, le-ltb, le-leb}
use Rattle.std.proofs.Math.ListN.{length, length-append}
use Rattle.std.proofs.lemmas.List.{length-replicate, drop-replicate}
use Rattle.std.proofs.Math.Seq.{sets, take-append_seam, drop-append-add}
use Rattle.std.proofs.lemmas.List.Edits.{sets-eq}
use Rattle.words.specs.Words.{words}
use Rattle.words.specs.Runs.{sets_append}
use Rattle.ir.specs.Counts.{pushed, deferred_once}
use Rattle.ir.specs.Records.{six}
use Rattle.ir.specs.Deferrals.{deferral_kind}
use Rattle.ir.specs.declared.counters.Counters.{Counters}
use Rattle.ir.specs.declared.atom.Atom.{Atom}
use Rattle.ir.specs.declared.deferral.Deferral.{Deferral}
use Rattle.rules.specs.Base.{ok, refused}
use Rattle.rules.specs.State.{Clause, clause, Deferred, Env, Out, total, push, defer, Rooms}
use Rattle.rules.specs.Run.{clause_words, atom_words, deferral_words, flat, atom_records, clause_records, deferral_records}
use Rattle.rules.specs.DecodeLaws.{flat_long, flat_append, atom_records_long, clause_records_long, deferral_records_long}
use Rattle.tables.specs.Drawn.{padded, tables, counters_in, clauses_in, atoms_in, deferrals_in, counters_of, show, shown, roomy}
use Rattle.tables.specs.Tabled.{clause_put, deferral_put, Run}

-- ---- the same by its own counters
pub show_same : (k k' : Counters) (rooms : Rooms) (s : Out) (c a d : List ℕ) → tables k' c a d ≡ show k rooms s → tables k' c a d ≡ show k' rooms s
unfolding show
show_same k k' rooms s c a d e =
    let q = ap counters_in e in
    let x : k'.concepts ≡ k.concepts = ap (λ (z : Counters). z.concepts) q in
    let m : k'.members ≡ k.members = ap (λ (z : Counters). z.members) q in
    let b : k'.nominal_base ≡ k.nominal_base = ap (λ (z : Counters). z.nominal_base) q in
    let n : k'.options ≡ k.options = ap (λ (z : Counters). z.options) q in
    e ∙ rw (x, m, b, n) refl

-- ---- the records of one more
total_snoc : (l : List Clause) (c : Clause) → total (l ++ (c ∷ [])) ≡ total l + length (c.body ++ c.head)
unfolding total
total_snoc [] c = omega arith
total_snoc (x ∷ l) c = omega (arith, total_snoc l c)

atoms_snoc : (l : List Clause) (c : Clause) → atom_records (l ++ (c ∷ [])) ≡ atom_records l ++ flat (c.body ++ c.head)
unfolding atom_records
atoms_snoc [] c = append-nil (flat (c.body ++ c.head))
atoms_snoc (x ∷ l) c = ap (λ (t : List ℕ). flat (x.body ++ x.head) ++ t) (atoms_snoc l c) ∙ sym (append_assoc (flat (x.body ++ x.head)) (atom_records l) (flat (c.body ++ c.head)))

clauses_snoc : (f : ℕ) (l : List Clause) (c : Clause) → clause_records f (l ++ (c ∷ [])) ≡ clause_records f l ++ ((f + total l) ∷ length c.body ∷ length c.head ∷ [])
unfolding clause_records total
clauses_snoc f [] c = let e : f ≡ f + 0 = omega arith in ap (λ (x : ℕ). x ∷ length c.body ∷ length c.head ∷ []) e
clauses_snoc f (x ∷ l) c =
    let m = length (x.body ++ x.head) in
    let e : f + m + total l ≡ f + (m + total l) = omega arith in
    ap (λ (t : List ℕ). f ∷ length x.body ∷ length x.head ∷ t)
    (clauses_snoc (f + m) l c ∙ ap (λ (y : ℕ). clause_records (f + m) l ++ (y ∷ length c.body ∷ length c.head ∷ [])) e)

deferrals_snoc : (l : List Deferred) (d : Deferred) → deferral_records (l ++ (d ∷ [])) ≡ deferral_records l ++ (d.line ∷ deferral_kind d.kind ∷ [])
unfolding deferral_records
deferrals_snoc [] d = refl
deferrals_snoc (x ∷ l) d = ap (λ (t : List ℕ). x.line ∷ deferral_kind x.kind ∷ t) (deferrals_snoc l d)

-- ---- the atoms of a clause with one head atom: its body, and the head behind it
pub headed_stores : (w w₁ w₂ r : List ℕ) (i m : ℕ) (b : List Atom) (x : Atom) → r ≡ flat b → m ≡ length b → w₁ ≡ sets w (atom_words * i) r → w₂ ≡ sets w₁ (atom_words * (i + m)) (six x)
    → w₂ ≡ sets w (atom_words * i) (flat (b ++ (x ∷ [])))
unfolding flat
headed_stores w w₁ w₂ r i m b x er em e f =
    let p : atom_words * (i + m) ≡ atom_words * i + length (flat b) = omega (arith, flat_long b) in
    let g : flat (b ++ (x ∷ [])) ≡ flat b ++ six x = flat_append b (x ∷ []) ∙ ap (λ (z : List ℕ). flat b ++ z) (append-nil (six x)) in
    f ∙ rw (e, er, p, g) (sets_append (flat b) (six x) w (atom_words * i))

-- the atoms of a clause in two runs
pub run_stores : (w w₁ w₂ s t : List ℕ) (i n : ℕ) (b h : List Atom) → Run s b → Run t h → n ≡ length b → w₁ ≡ sets w (atom_words * i) (words s) → w₂ ≡ sets w₁ (atom_words * (i + n)) (words t) → w₂ ≡ sets w (atom_words * i) (flat (b ++ h))
run_stores w w₁ w₂ s t i n b h S T en e f =
    let p : atom_words * (i + n) ≡ atom_words * i + length (flat b) = omega (arith, flat_long b) in
    f ∙ rw (e, S.are, T.are, p, flat_append b h) (sets_append (flat b) (flat h) w (atom_words * i))

-- ---- a write at the end
pub padded_put : (n : ℕ) (l m : List ℕ) → length l + length m ≤ n → sets (padded n l) (length l) m ≡ padded n (l ++ m)
unfolding padded
padded_put n l m h =
    let z : List ℕ = replicate (n - length l) 0 in
    let a : length (l ++ z) ≡ length l + length z = length-append l z in
    let b : length z ≡ n - length l = length-replicate {0} {A = ℕ} (n - length l) 0 in
    let g : n - length l - length m ≡ n - (length l + length m) = omega arith in
    sets-eq m (l ++ z) (length l) (omega arith)
    ∙ rw (take-append_seam l z, drop-append-add l z (length m), drop-replicate {X = ℕ} (length m) (n - length l) 0, length-append l m, g) refl

-- ---- push and defer, over a drawn state
module _ (env : Env) (k : Counters) (s : Out) (c a d : List ℕ) (e : tables k c a d ≡ show k env.rooms s) where
  pub counters_is : k ≡ counters_of k s
  unfolding show
  counters_is = ap counters_in e

  pub clauses_is : c ≡ padded (clause_words * env.rooms.clauses) (clause_records 0 s.clauses)
  unfolding show
  clauses_is = ap clauses_in e

  pub atoms_is : a ≡ padded (atom_words * env.rooms.atoms) (atom_records s.clauses)
  unfolding show
  atoms_is = ap atoms_in e

  pub deferrals_is : d ≡ padded (deferral_words * env.rooms.deferrals) (deferral_records s.deferrals)
  unfolding show
  deferrals_is = ap deferrals_in e

  pub clauses_count : k.clauses ≡ length s.clauses
  clauses_count = ap (λ (x : Counters). x.clauses) counters_is

  pub atoms_count : k.atoms ≡ total s.clauses
  atoms_count = ap (λ (x : Counters). x.atoms) counters_is

  pub deferrals_count : k.deferrals ≡ length s.deferrals
  deferrals_count = ap (λ (x : Counters). x.deferrals) counters_is

  module _ (b h : List Atom) where
    pub push_no_room : (x y n : ℕ) → x / (4 * clause_words) ≡ env.rooms.clauses → y / (4 * atom_words) ≡ env.rooms.atoms → n ≡ length (b ++ h) → roomy x y k n ≡ false → refused 12 ≡ shown {A = Unit {0}} (λ _. 0) k env.rooms (push env b h s)
    unfolding push
    push_no_room x y n ex ey en q = rw (rw (ex, ey, en, clauses_count, atoms_count) at q) refl

    pub push_done : k.clauses < env.rooms.clauses → k.atoms + length (b ++ h) ≤ env.rooms.atoms
        → ok 0 (tables (pushed (length (b ++ h)) k) (clause_put c k.clauses k.atoms (length b) (length h)) (sets a (atom_words * k.atoms) (flat (b ++ h))) d) ≡ shown {A = Unit {0}} (λ _. 0) k env.rooms (push env b h s)
    unfolding push show
    push_done l m =
        let x = clauses_count in
        let y = atoms_count in
        let lc = clause_records_long 0 s.clauses in
        let la = atom_records_long s.clauses in
        let lf = flat_long (b ++ h) in
        let cs : clause_put c k.clauses k.atoms (length b) (length h) ≡ padded (clause_words * env.rooms.clauses) (clause_records 0 (s.clauses ++ (clause b h ∷ []))) =
        rw (clauses_snoc 0 s.clauses (clause b h)) (
        let p : clause_words * k.clauses ≡ length (clause_records 0 s.clauses) = omega arith in
        let q : k.atoms ≡ 0 + total s.clauses = omega arith in
        rw (p, clauses_is, q) (padded_put (clause_words * env.rooms.clauses) (clause_records 0 s.clauses) ((0 + total s.clauses) ∷ length b ∷ length h ∷ []) (omega arith))) in
        let ts : sets a (atom_words * k.atoms) (flat (b ++ h)) ≡ padded (atom_words * env.rooms.atoms) (atom_records (s.clauses ++ (clause b h ∷ []))) =
        rw (atoms_snoc s.clauses (clause b h)) (
        let p : atom_words * k.atoms ≡ length (atom_records s.clauses) = omega arith in
        rw (p, atoms_is) (padded_put (atom_words * env.rooms.atoms) (atom_records s.clauses) (flat (b ++ h)) (omega arith))) in
        let ks : pushed (length (b ++ h)) k ≡ counters_of k (record { visits = s.visits; limit = s.limit; next_var = s.next_var; next_fresh = s.next_fresh; clauses = s.clauses ++ (clause b h ∷ []); deferrals = s.deferrals; line = s.line; limits = s.limits }) =
        let n : length (s.clauses ++ (clause b h ∷ [])) ≡ k.clauses + 1 = omega (arith, length-append s.clauses (clause b h ∷ [])) in
        let t : total (s.clauses ++ (clause b h ∷ [])) ≡ k.atoms + length (b ++ h) = omega (arith, total_snoc s.clauses (clause b h)) in
        rw (n, t) (ap (pushed (length (b ++ h))) counters_is ∙ rw (← x, ← y) refl) in
        rw (lt-ltb (length s.clauses) env.rooms.clauses (rw (← x) l), le-leb (total s.clauses + length (b ++ h)) env.rooms.atoms (rw (← y) m), cs, ts, ks, ← deferrals_is) refl

    -- the same of what the code wrote: the body's run, and the head's behind it
    pub push_runs : (x y : List ℕ) (n m : ℕ) (k' : Counters) (c' a₁ a' : List ℕ) → Run x b → Run y h → n ≡ length x / 24 → m ≡ length y / 24 → k.clauses < env.rooms.clauses → k.atoms + n + m ≤ env.rooms.atoms → k' ≡ pushed (n + m) k
        → c' ≡ clause_put c k.clauses k.atoms n m → a₁ ≡ sets a (atom_words * k.atoms) (words x) → a' ≡ sets a₁ (atom_words * (k.atoms + n)) (words y) → ok 0 (tables k' c' a' d) ≡ shown {A = Unit {0}} (λ _. 0) k env.rooms (push env b h s)
    push_runs x y n m k' c' a₁ a' X Y en em l g ek ec e₁ ea =
        let q : n ≡ length b = omega (arith, X.long) in
        let r : m ≡ length h = omega (arith, Y.long) in
        let t : n + m ≡ length (b ++ h) = omega (arith, length-append b h) in
        let z : a' ≡ sets a (atom_words * k.atoms) (flat (b ++ h)) = run_stores a a₁ a' x y k.atoms n b h X Y q e₁ ea in
        rw (ek, ec, z, t, q, r) (push_done l (omega arith))

    -- the same in one run
    pub push_after : (m n o : ℕ) (k' : Counters) (r c' a' : List ℕ) → k.clauses < env.rooms.clauses → k.atoms + m ≤ env.rooms.atoms → m ≡ length (b ++ h) → n ≡ length b → o ≡ m - n → r ≡ flat (b ++ h) → k' ≡ pushed m k
        → c' ≡ clause_put c k.clauses k.atoms n o → a' ≡ sets a (atom_words * k.atoms) r → ok 0 (tables k' c' a' d) ≡ shown {A = Unit {0}} (λ _. 0) k env.rooms (push env b h s)
    push_after m n o k' r c' a' l g em en eo er ek ec ea =
        let q : o ≡ length h = omega (arith, length-append b h) in
        rw (ek, ec, ea, er, em, en, q) (push_done l (rw em at g))

  pub defer_none : (kind : Deferral) → env.rooms.deferrals ≤ k.deferrals → refused 12 ≡ shown {A = Unit {0}} (λ _. 0) k env.rooms (defer env kind s)
  unfolding defer
  defer_none kind l = rw (le-ltb (length s.deferrals) env.rooms.deferrals (rw (← deferrals_count) l)) refl

  pub defer_done : (kind : Deferral) → k.deferrals < env.rooms.deferrals → ok 0 (tables (deferred_once k) c a (deferral_put d k.deferrals k.line (deferral_kind kind))) ≡ shown {A = Unit {0}} (λ _. 0) k env.rooms (defer env kind s)
  unfolding defer show
  defer_done kind l =
      let x = deferrals_count in
      let ld = deferral_records_long s.deferrals in
      let n : k.line ≡ s.line = ap (λ (y : Counters). y.line) counters_is in
      let ds : deferral_put d k.deferrals k.line (deferral_kind kind) ≡ padded (deferral_words * env.rooms.deferrals) (deferral_records (s.deferrals ++ (record { line = s.line; kind = kind } ∷ []))) =
      rw (deferrals_snoc s.deferrals (record { line = s.line; kind = kind })) (
      let p : deferral_words * k.deferrals ≡ length (deferral_records s.deferrals) = omega arith in
      rw (p, deferrals_is, n) (padded_put (deferral_words * env.rooms.deferrals) (deferral_records s.deferrals) (s.line ∷ deferral_kind kind ∷ []) (omega arith))) in
      let ks : deferred_once k ≡ counters_of k (record { visits = s.visits; limit = s.limit; next_var = s.next_var; next_fresh = s.next_fresh; clauses = s.clauses; deferrals = s.deferrals ++ (record { line = s.line; kind = kind } ∷ []); line = s.line; limits = s.limits }) =
      let m : length (s.deferrals ++ (record { line = s.line; kind = kind } ∷ [])) ≡ k.deferrals + 1 = omega (arith, length-append s.deferrals (record { line = s.line; kind = kind } ∷ [])) in
      rw m (ap deferred_once counters_is ∙ rw (← x) refl) in
      rw (lt-ltb (length s.deferrals) env.rooms.deferrals (rw (← x) l), ds, ks, ← clauses_is, ← atoms_is) refl

  pub defer_after : (kind : Deferral) (n : ℕ) (k' : Counters) (d' : List ℕ) → k.deferrals < env.rooms.deferrals → n ≡ deferral_kind kind → k' ≡ deferred_once k → d' ≡ deferral_put d k.deferrals k.line n → ok 0 (tables k' c a d') ≡ shown {A = Unit {0}} (λ _. 0) k env.rooms (defer env kind s)
  defer_after kind n k' d' l en ek ed = rw (ek, ed, en) (defer_done kind l)
