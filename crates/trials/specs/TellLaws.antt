-- A run's reply told with a state: what is short enough for the store, and the clauses in the tables. Assumes nothing.
use Rattle.std.specs.Prelude.{◌≡◌, refl, Bool, true, false, List, [], ◌∷◌, ◌++◌, ℕ, ◌+◌, ◌≤◌, length}
use Rattle.std.proofs.Common.{sym, ap, subst, ◌∙◌, arith, ltb-false}
use Rattle.std.proofs.lemmas.Bool.{false≢true}
use Prim.{tt}
use Rattle.ir.specs.declared.atom.Atom.{Atom}
use Rattle.ir.specs.declared.atom.Atom.TheVariants.{Class, Exists, AtMost, AtLeast, Equal, Role as RoleAtom}
use Rattle.words.specs.Words.{words}
use Rattle.rules.specs.Base.{any}
use Rattle.rules.specs.Concept.{Axiom}
use Rattle.rules.specs.Concept.{SubClassOf, EquivalentClasses, DisjointClasses, DisjointUnion, ObjectPropertyDomain, ObjectPropertyRange, SubChain, TransitiveRole, IrreflexiveRole, AsymmetricRole, DisjointObjectProperties, InverseObjectProperties, SubObjectPropertyOf, EquivalentObjectProperties, ReflexiveRole, ClassAssertion}
use Rattle.rules.specs.State.{Clause}
use Rattle.rules.specs.Deck.{Known, axiom_line, most_listed}
use Rattle.rules.specs.DeckLaws.{DeckIn, axiom_width, bounds_of}
use Rattle.rules.specs.Invariants.{Bounds, Each, AtomIn, ClauseIn}
use Rattle.rules.specs.EachLaws.{each_map}
use Rattle.rules.specs.Run.{Lengths, Accepted, accepted, refused, sizes_ok, visit_limit, first_fresh, clause_table, atom_table}
use Rattle.rules.proofs.RunLaws.{Tables, run_accepted, run_tables}
use Rattle.rules.specs.Semantics.{Interpretation, clause_vars}
use Rattle.meaning.specs.Truth.{by_truth}
use Rattle.statistics.specs.declared.ClauseStats.{ClauseStats}
use Rattle.clausify.specs.Entry.{coded}
use Rattle.clausify.specs.RunTabled.{run_tabled}
use Rattle.tables.specs.Drawn.{Sized}
use Rattle.tables.specs.Tabled.{Tabled}
use Rattle.clausify.specs.AnswerLaws.{run_unsized}
use Rattle.clausify.specs.TableLaws.{sizes_whole}
use Rattle.states.specs.State.{StateTold, stated, bad, unread, interpretation_of}
use Rattle.states.specs.Conditions.{axiom_vars, axiom_holds_at, axiom_broken, clause_true_at, clause_broken}
use Rattle.states.specs.LeastLaws.{least_found}
use Rattle.states.specs.VerdictLaws.{first_broken_lem}
use Rattle.states.specs.Test.{Test, axioms, clauses, Verdict, holds, broken, axioms_verdict, clauses_verdict, wide_clause}
use Rattle.clausetests.specs.Given.{NamesRoles}
use Rattle.clausetests.specs.Clauses.{ClauseNames}
use Rattle.trials.specs.Judged.{unless_denied, judged_of}
use Rattle.trials.specs.Judging.{Clauses}
use Rattle.trials.specs.Stored.{ShortVerdict, Short, Counted, most_shown}
use Rattle.trials.specs.Tells.{Ran}

-- ---- what is shown is short
axiom_short : (a : Axiom) → axiom_width a ≤ most_listed → axiom_vars a ≤ most_shown
axiom_short (SubClassOf _ _) h = omega arith
axiom_short (EquivalentClasses _) h = omega arith
axiom_short (DisjointClasses _) h = omega arith
axiom_short (DisjointUnion _ _) h = omega arith
axiom_short (ObjectPropertyDomain _ _) h = omega arith
axiom_short (ObjectPropertyRange _ _) h = omega arith
axiom_short (SubChain _ l) h = omega arith
axiom_short (TransitiveRole _) h = omega arith
axiom_short (IrreflexiveRole _) h = omega arith
axiom_short (AsymmetricRole _) h = omega arith
axiom_short (DisjointObjectProperties _) h = omega arith
axiom_short (InverseObjectProperties _ _) h = omega arith
axiom_short (SubObjectPropertyOf _ _) h = omega arith
axiom_short (EquivalentObjectProperties _) h = omega arith
axiom_short (ReflexiveRole _) h = omega arith
axiom_short (ClassAssertion _ _) h = omega arith

-- what each has, the one behind the first has
each_this : {A : Type 0} (P : A → Type 0) (before : List A) (a : A) (after : List A) → Each P (before ++ (a ∷ after)) → P a
each_this P [] a after h = h.0
each_this P (b ∷ before) a after h = each_this P before a after h.1

any_this : {A : Type 0} (f : A → Bool) (before : List A) (a : A) (after : List A) → any f (before ++ (a ∷ after)) ≡ false → f a ≡ false
any_this f [] a after h = by_truth (f a) (λ e. absurd (false≢true (sym h ∙ rw e refl))) (λ e. e)
any_this f (b ∷ before) a after h = by_truth (f b) (λ e. absurd (false≢true (sym h ∙ rw e refl))) (λ e. any_this f before a after (sym (rw e refl) ∙ h))

short_axioms : (d : Known) (I : Interpretation) → DeckIn d → ShortVerdict (axioms_verdict I d)
short_axioms d I D = go (axioms_verdict I d) refl
  where
    go : (v : Verdict) → axioms_verdict I d ≡ v → ShortVerdict v
    go holds e = tt
    go (broken n l) e =
        let F = first_broken_lem (axiom_broken I d.concepts) (axiom_line d 0) d.axioms n l e in
        let w = each_this (λ a. axiom_width a ≤ most_listed) F.before F.this F.after (subst (Each (λ a. axiom_width a ≤ most_listed)) F.parts D.axiom_lists) in
        let m = (least_found I.size (axiom_vars F.this) (axiom_holds_at I d.concepts F.this) l F.breaks).assigned.many in
        omega (arith, m, axiom_short F.this w)

short_clauses : (l : List Clause) (I : Interpretation) → any wide_clause l ≡ false → ShortVerdict (clauses_verdict I l)
short_clauses l I h = go (clauses_verdict I l) refl
  where
    go : (v : Verdict) → clauses_verdict I l ≡ v → ShortVerdict v
    go holds e = tt
    go (broken n k) e =
        let F = first_broken_lem (clause_broken I) 0 l n k e in
        let w = any_this wide_clause F.before F.this F.after (ap (any wide_clause) (sym F.parts) ∙ h) in
        let q = ltb-false 4 (length (clause_vars F.this)) w in
        let m = (least_found I.size (length (clause_vars F.this)) (clause_true_at I F.this) k F.breaks).assigned.many in
        omega (arith, m, q)

pub judged_short : (k : Test) (d : Known) (l : List Clause) (x : StateTold) → DeckIn d → Short (judged_of k d l x)
judged_short axioms d l (stated s) D = short_axioms d (interpretation_of d s) D
judged_short axioms d l (bad line) D = tt
judged_short axioms d l unread D = tt
judged_short clauses d l (stated s) D = go (any wide_clause l) refl
  where
    go : (b : Bool) → any wide_clause l ≡ b → Short (unless_denied (clauses_verdict (interpretation_of d s) l) b)
    go true e = tt
    go false e = short_clauses l (interpretation_of d s) e
judged_short clauses d l (bad line) D = tt
judged_short clauses d l unread D = tt

-- ---- the reply's numbers are the run's
pub counted_fresh : (a : Accepted) (s : ClauseStats) (fresh_ids visits : ℕ) → Counted a s fresh_ids visits → a.fresh_ids ≡ fresh_ids
counted_fresh a s fresh_ids visits e = cc

pub counted_total : (a : Accepted) (s : ClauseStats) (fresh_ids visits : ℕ) → Counted a s fresh_ids visits → a.stats.total ≡ s.total
counted_total a s fresh_ids visits e = let q : coded a.stats ≡ s = cc in ap (λ (z : ClauseStats). z.total) q

-- ---- the clauses that it left
names_atom : (B : Bounds) (fresh vars : ℕ) (a : Atom) → AtomIn B fresh vars a → NamesRoles B.roles a
names_atom B fresh vars (Class k v) h = tt
names_atom B fresh vars (RoleAtom r u v) h = h.0
names_atom B fresh vars (Exists r k v) h = h.0
names_atom B fresh vars (AtMost r q n v) h = h.0
names_atom B fresh vars (AtLeast r q n v) h = h.0
names_atom B fresh vars (Equal u v) h = tt

names_clause : (B : Bounds) (fresh vars : ℕ) (c : Clause) → ClauseIn B fresh vars c → ClauseNames B.roles c
names_clause B fresh vars c h = (each_map (AtomIn B fresh vars) (NamesRoles B.roles) (names_atom B fresh vars) c.body h.body_in, each_map (AtomIn B fresh vars) (NamesRoles B.roles) (names_atom B fresh vars) c.head h.head_in)

module _ (deck : List ℕ) (t : Lengths) (a : Accepted) (s : ClauseStats) (fresh_ids visits : ℕ) (R : Ran deck t a s fresh_ids visits) where
  pub ran_few : fresh_ids ≤ 2000000
  ran_few =
      let x = run_accepted visit_limit deck t R.known a R.read R.is in
      omega (arith, counted_fresh a s fresh_ids visits R.counted, x.1.fresh, x.1.clauses, x.0.clauses)

  pub ran_clauses : (c m : List ℕ) → c ≡ clause_table t (accepted a) → m ≡ atom_table t (accepted a) → Clauses R.known s.total a.clauses (words c) (words m)
  ran_clauses c m e f =
      let x = run_accepted visit_limit deck t R.known a R.read R.is in
      rw (e, f) (record {
        tabled = subst (λ (n : ℕ). Tabled (words (clause_table t (accepted a))) (words (atom_table t (accepted a))) n a.clauses) (counted_total a s fresh_ids visits R.counted) (run_tabled deck t a R.is);
        names = each_map (ClauseIn (bounds_of R.known) (first_fresh R.known + a.fresh_ids) (visit_limit + 513)) (ClauseNames R.known.header.roles) (names_clause (bounds_of R.known) (first_fresh R.known + a.fresh_ids) (visit_limit + 513)) a.clauses x.1.all_in;
      })

  pub ran_fits : sizes_ok t ≡ true
  ran_fits = by_truth (sizes_ok t) (λ e. e) (λ e. absurd (not_refused (sym (run_unsized deck t e) ∙ R.is)))
    where
      not_refused : refused 1 0 ≡ accepted a → ⊥
      not_refused h = let z : ◌≡◌ {A = ℕ} 0 1 = cc in omega arith

  pub ran_sized : (c m : List ℕ) → c ≡ clause_table t (accepted a) → m ≡ atom_table t (accepted a) → Sized (length c) (length m) 0
  ran_sized c m e f =
      let W = sizes_whole t ran_fits in
      let T = subst (Tables t) R.is (run_tables deck t) in
      record { clauses = omega (arith, ap length e, T.clause_length, W.sized.clauses); atoms = omega (arith, ap length f, T.atom_length, W.sized.atoms); deferrals = omega arith }
