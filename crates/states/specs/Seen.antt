-- What a user sees of one test's answer, of the other test with the same deck and lent sizes: the meaning of the clauses (demand 3)
-- in the two verdicts. Assumes nothing.
use Rattle.std.specs.Prelude.{◌≡◌, not, ◌||◌, List, ◌⊎◌}
use Rattle.std.proofs.Math.Path.{refl, ap, ap₂}
use Rattle.std.proofs.Common.{sym, ◌∙◌, inl, inr}
use Rattle.std.proofs.Math.Bool.{Bool, true, false}
use Rattle.std.proofs.lemmas.Bool.{false≢true}
use Prim.Native.Nat.{ℕ}
use Rattle.rules.specs.Base.{any}
use Rattle.rules.specs.Concept.{Axiom}
use Rattle.rules.specs.Deck.{Known, Told, fine, read_deck, axiom_line}
use Rattle.rules.specs.Deck as Deck
use Rattle.rules.specs.DeckLaws.{read_in}
use Rattle.rules.specs.Run.{Accepted, Outcome, accepted, Run}
use Rattle.rules.specs.Run as Run
use Rattle.rules.specs.Semantics.{satisfied}
use Rattle.rules.specs.Statements.{is_inverse_axiom, is_clausified, satisfies_some, satisfies_all, clauses_of, Provisos}
use Rattle.meaning.specs.Truth.{by_truth}
use Rattle.states.specs.State.{StateTold, stated, bad, unread, read_state, interpretation_of}
use Rattle.states.specs.Conditions.{axiom_broken, clause_broken}
use Rattle.states.specs.Test.{Test, axioms, clauses, Verdict, holds, broken, Tested, told, refused, axioms_verdict, clauses_verdict, wide_clause, unless_wide, verdict_on, on_state, on_run, Lent, lent_ok, test_sized, test_state}
use Rattle.states.specs.LeastLaws.{is_none}
use Rattle.states.specs.HoldsLaws.{axiom_holds}
use Rattle.states.specs.VerdictLaws.{is_holds, holds_is, First, first_passes, first_broken_lem, axioms_hold}
use Rattle.states.specs.Together.{Given, meant, given_known, told_refused, told_run, told_by, refused_alike, none_to_choose, clauses_then_axioms, Alike}
use Rattle.states.specs.InText.{half_one_in_text}
use Rattle.states.specs.AlikeLaws.{every_alike, clauses_broken_by}

-- ---- what is seen
-- the clause test says 'holds', or is refused by 14, which comes before its verdict
abbrev pub HoldsUnlessWide : Accepted → Tested → Type 0
HoldsUnlessWide a o = (o ≡ told a holds) ⊎ (o ≡ refused 14 0)

abbrev pub BrokenUnlessWide : Accepted → Tested → Type 0
BrokenUnlessWide a o = ((n : ℕ) × (l : List ℕ) × (o ≡ told a (broken n l))) ⊎ (o ≡ refused 14 0)

module _ (deck s : List ℕ) (t : Lent) where
  abbrev pub RunProvisos : (a : Accepted) → Given deck s t a → Type 0
  RunProvisos a G = Provisos G.known a.fresh_ids a.stats.deferred (clauses_of t.run a)

  -- the deck's axioms of some kinds are satisfied by the state
  abbrev pub SomeHold : (Axiom → Bool) → (a : Accepted) → Given deck s t a → Bool
  SomeHold kind a G = satisfies_some kind G.known (meant G)

  -- the axioms hold
  pub record AxiomsHeld (a : Accepted) : Type 0 where
    pub given : Given deck s t a
    -- other lines for the fresh classes, all else as it was: with these both tests say 'holds' (and all clauses hold, also where
    -- 14 refuses to say so)
    pub text : List ℕ
    pub entered : Given deck text t a
    pub alike : Alike given.known a.fresh_ids (meant given) (meant entered)
    pub axioms_too : test_state axioms deck text t ≡ told a holds
    pub clauses_hold : clauses_verdict (meant entered) a.clauses ≡ holds
    pub clauses_too : HoldsUnlessWide a (test_state clauses deck text t)
    -- where there is no fresh class, with this very state
    pub none_fresh : a.fresh_ids ≡ 0 → HoldsUnlessWide a (test_state clauses deck s t)

  -- an axiom is broken: the first one in line order
  pub record AxiomBroken (a : Accepted) (n : ℕ) (l : List ℕ) : Type 0 where
    pub given : Given deck s t a
    pub first : First (axiom_broken (meant given) given.known.concepts) (axiom_line given.known 0) given.known.axioms n l
    pub of_clausified : is_clausified first.this ≡ true → SomeHold is_clausified a given ≡ false
    -- one of kinds 21 to 31 is, each axiom 32 is satisfied, and the provisos hold: some clause is broken, whatever lines the fresh
    -- classes have
    pub clause_too : SomeHold is_clausified a given ≡ false → SomeHold is_inverse_axiom a given ≡ true → RunProvisos a given
        → (text : List ℕ) (entered : Given deck text t a) → Alike given.known a.fresh_ids (meant given) (meant entered) → BrokenUnlessWide a (test_state clauses deck text t)

  -- the clauses hold: under the provisos an axiom that is broken is of kinds 32 to 36, or some axiom 32 is broken
  pub record ClausesHeld (a : Accepted) : Type 0 where
    pub given : Given deck s t a
    pub axioms_too : RunProvisos a given → SomeHold is_inverse_axiom a given ≡ true → SomeHold is_clausified a given ≡ true
    pub broken_axiom : RunProvisos a given → (n : ℕ) (l : List ℕ) → test_state axioms deck s t ≡ told a (broken n l)
        → (SomeHold is_inverse_axiom a given ≡ false) ⊎ ((F : First (axiom_broken (meant given) given.known.concepts) (axiom_line given.known 0) given.known.axioms n l) → is_clausified F.this ≡ false)

  -- a clause is broken: the first one; where there is no fresh class, some axiom is
  pub record ClauseBroken (a : Accepted) (n : ℕ) (l : List ℕ) : Type 0 where
    pub given : Given deck s t a
    pub first : First (clause_broken (meant given)) 0 a.clauses n l
    pub none_fresh : a.fresh_ids ≡ 0 → (m : ℕ) × (k : List ℕ) × (test_state axioms deck s t ≡ told a (broken m k))

  -- ---- of the answer. What refuses one test refuses the other, but for 14
  abbrev pub SeenByAxioms : Tested → Type 0
  SeenByAxioms (told a holds) = AxiomsHeld a
  SeenByAxioms (told a (broken n l)) = AxiomBroken a n l
  SeenByAxioms (refused n line) = test_state clauses deck s t ≡ refused n line

  abbrev pub SeenByClauses : Tested → Type 0
  SeenByClauses (told a holds) = ClausesHeld a
  SeenByClauses (told a (broken n l)) = ClauseBroken a n l
  SeenByClauses (refused n line) = (test_state axioms deck s t ≡ refused n line) ⊎ ((n ≡ 14) × (line ≡ 0) × (a : Accepted) × (v : Verdict) × (test_state axioms deck s t ≡ told a v))

-- ---- answers by what is given
module _ (deck s : List ℕ) (t : Lent) (a : Accepted) where
  told_lent : (k : Test) (v : Verdict) → test_state k deck s t ≡ told a v → lent_ok t ≡ true
  unfolding test_state
  told_lent k v h = by_truth (lent_ok t) (λ e. e) (λ e. absurd (false≢true (ap is_told (sym (rw e at h)))))
    where
      is_told : Tested → Bool
      is_told (told b w) = false
      is_told (refused n line) = true

  given_tested : (k : Test) (G : Given deck s t a) → lent_ok t ≡ true → test_state k deck s t ≡ verdict_on k G.known a (meant G)
  unfolding test_state
  given_tested k G h = ap (test_sized k deck s t) h ∙ ap₂ (λ x o. on_run k x o s) G.read G.run ∙ ap (on_state k G.known a) G.stated_as

  -- the clause test, where something is given
  module _ (G : Given deck s t a) (lent : lent_ok t ≡ true) where
    clauses_told : (v : Verdict) → clauses_verdict (meant G) a.clauses ≡ v → (test_state clauses deck s t ≡ told a v) ⊎ (test_state clauses deck s t ≡ refused 14 0)
    clauses_told v e = go (any wide_clause a.clauses) (given_tested clauses G lent)
      where
        go : (b : Bool) → test_state clauses deck s t ≡ unless_wide a (clauses_verdict (meant G) a.clauses) b → (test_state clauses deck s t ≡ told a v) ⊎ (test_state clauses deck s t ≡ refused 14 0)
        go true q = inr q
        go false q = inl (q ∙ ap (told a) e)

    clauses_broken : is_holds (clauses_verdict (meant G) a.clauses) ≡ false → BrokenUnlessWide a (test_state clauses deck s t)
    clauses_broken h = go (clauses_verdict (meant G) a.clauses) refl h
      where
        go : (v : Verdict) → clauses_verdict (meant G) a.clauses ≡ v → is_holds v ≡ false → BrokenUnlessWide a (test_state clauses deck s t)
        go holds e q = absurd (false≢true (sym q))
        go (broken n l) e q = some (clauses_told (broken n l) e)
          where
            some : (test_state clauses deck s t ≡ told a (broken n l)) ⊎ (test_state clauses deck s t ≡ refused 14 0) → BrokenUnlessWide a (test_state clauses deck s t)
            some (inl g) = inl (n, l, g)
            some (inr g) = inr g

    axioms_told : test_state axioms deck s t ≡ told a (axioms_verdict (meant G) G.known)
    axioms_told = given_tested axioms G lent

-- ---- the axiom test
module _ (deck s : List ℕ) (t : Lent) (a : Accepted) where
  axioms_held : test_state axioms deck s t ≡ told a holds → AxiomsHeld deck s t a
  axioms_held h =
      let X = half_one_in_text deck s t a h in
      let G = X.0 in
      let R = X.1 in
      let H = R.given in
      let lent = told_lent deck s t a axioms holds h in
      let here : axioms_verdict (meant G) G.known ≡ holds = (told_run a a (axioms_verdict (meant G) G.known) holds (sym (axioms_told deck s t a G lent) ∙ h)).1 in
      let there : is_holds (axioms_verdict (meant H) H.known) ≡ true =
      axioms_hold (meant H) H.known ∙ ap (λ (d : Known). satisfies_all d (meant H)) (given_known deck R.text s t a H G)
      ∙ every_alike G.known a.fresh_ids (meant G) (meant H) R.alike (read_in deck G.known G.read) ∙ sym (axioms_hold (meant G) G.known) ∙ ap is_holds here in
      record {
        given = G;
        text = R.text;
        entered = H;
        alike = R.alike;
        axioms_too = axioms_told deck R.text t a H lent ∙ ap (told a) (holds_is (axioms_verdict (meant H) H.known) there);
        clauses_hold = R.hold;
        clauses_too = clauses_told deck R.text t a H lent holds R.hold;
        none_fresh = λ e. none e (clauses_told deck s t a G lent (clauses_verdict (meant G) a.clauses) refl);
      }
    where
      none : a.fresh_ids ≡ 0 → {v : Verdict} → (test_state clauses deck s t ≡ told a v) ⊎ (test_state clauses deck s t ≡ refused 14 0) → HoldsUnlessWide a (test_state clauses deck s t)
      none e {v} (inl q) = inl (q ∙ ap (told a) (none_to_choose deck s t a v e h q))
      none e (inr q) = inr q

  axiom_broken_lem : (n : ℕ) (l : List ℕ) → test_state axioms deck s t ≡ told a (broken n l) → AxiomBroken deck s t a n l
  axiom_broken_lem n l h =
      let T = told_by axioms deck s t a (broken n l) h in
      let G = T.given in
      let f = axiom_broken (meant G) G.known.concepts in
      let F = first_broken_lem f (axiom_line G.known 0) G.known.axioms n l (sym T.verdict) in
      let fails : satisfied (meant G) G.known.concepts F.this ≡ false = axiom_holds (meant G) G.known.concepts F.this ∙ ap is_none F.breaks in
      let p : Axiom → Bool = λ b. not (is_clausified b) || satisfied (meant G) G.known.concepts b in
      record {
        given = G;
        first = F;
        of_clausified = λ c. by_truth (SomeHold deck s t is_clausified a G)
            (λ e. let here : p F.this ≡ true = first_passes f (axiom_line G.known 0) G.known.axioms n l F p e in absurd (false≢true (rw (c, fails) at here)))
            (λ e. e);
        clause_too = λ b i P text H A. clauses_broken deck text t a H (told_lent deck s t a axioms (broken n l) h) (clauses_broken_by deck s t a G b i P text H A);
      }

  -- ---- the clause test
  clauses_are_held : test_state clauses deck s t ≡ told a holds → ClausesHeld deck s t a
  clauses_are_held h =
      let T = told_by clauses deck s t a holds h in
      let G = T.given in
      record {
        given = G;
        axioms_too = λ P i. by_truth (SomeHold deck s t is_clausified a G)
            (λ e. e)
            (λ e. absurd (false≢true (sym (clauses_broken_by deck s t a G e i P s G (record { size = refl; roles = refl; individuals = refl; same = λ c q. refl })) ∙ ap is_holds (sym T.verdict))));
        broken_axiom = λ P n l k. clauses_then_axioms deck s t a n l h k G P;
      }

  clause_broken_lem : (n : ℕ) (l : List ℕ) → test_state clauses deck s t ≡ told a (broken n l) → ClauseBroken deck s t a n l
  clause_broken_lem n l h =
      let T = told_by clauses deck s t a (broken n l) h in
      let G = T.given in
      record {
        given = G;
        first = first_broken_lem (clause_broken (meant G)) 0 a.clauses n l (sym T.verdict);
        none_fresh = λ e. none e (axioms_verdict (meant G) G.known) (axioms_told deck s t a G (told_lent deck s t a clauses (broken n l) h));
      }
    where
      none : a.fresh_ids ≡ 0 → (v : Verdict) → test_state axioms deck s t ≡ told a v → (m : ℕ) × (k : List ℕ) × (test_state axioms deck s t ≡ told a (broken m k))
      none e holds q = absurd (false≢true (ap is_holds (none_to_choose deck s t a (broken n l) e q h)))
      none e (broken m k) q = (m, k, q)

-- ---- every answer
module _ (deck s : List ℕ) (t : Lent) where
  clauses_refused : (n line : ℕ) → test_state clauses deck s t ≡ refused n line → SeenByClauses deck s t (refused n line)
  unfolding test_state
  clauses_refused n line h = go (lent_ok t) refl h
    where
      is_refused_lem : (m l : ℕ) → refused m l ≡ refused n line → (m ≡ n) × (l ≡ line)
      is_refused_lem m l e = (ap number e, ap at e)
        where
          number : Tested → ℕ
          number (told a v) = 0
          number (refused m l) = m

          at : Tested → ℕ
          at (told a v) = 0
          at (refused m l) = l

      wide : (a : Accepted) (v w : Verdict) (b : Bool) → test_state axioms deck s t ≡ told a w → unless_wide a v b ≡ refused n line → SeenByClauses deck s t (refused n line)
      wide a v w true g q = let e = is_refused_lem 14 0 q in inr (sym e.0, sym e.1, a, w, g)
      wide a v w false g q = told_refused a v n line (sym q)

      on_state_lem : (d : Known) (a : Accepted) (x : StateTold) → test_state axioms deck s t ≡ on_state axioms d a x → on_state clauses d a x ≡ refused n line → SeenByClauses deck s t (refused n line)
      on_state_lem d a (stated u) g q = wide a (clauses_verdict (interpretation_of d u) a.clauses) (axioms_verdict (interpretation_of d u) d) (any wide_clause a.clauses) g q
      on_state_lem d a (bad l) g q = inl (g ∙ q)
      on_state_lem d a unread g q = inl (g ∙ q)

      on_run_lem : (x : Told) (o : Outcome) → test_state axioms deck s t ≡ on_run axioms x o s → on_run clauses x o s ≡ refused n line → SeenByClauses deck s t (refused n line)
      on_run_lem (fine d) (accepted a) g q = on_state_lem d a (read_state d a.fresh_ids s) g q
      on_run_lem (fine d) (Run.refused m l) g q = inl (g ∙ q)
      on_run_lem (Deck.refused m l) (accepted a) g q = inl (g ∙ q)
      on_run_lem (Deck.refused m l) (Run.refused m₂ l₂) g q = inl (g ∙ q)

      go : (b : Bool) → lent_ok t ≡ b → test_sized clauses deck s t b ≡ refused n line → SeenByClauses deck s t (refused n line)
      go true e q = on_run_lem (read_deck deck) (Run deck t.run) (ap (test_sized axioms deck s t) e) q
      go false e q = inl (ap (test_sized axioms deck s t) e ∙ q)

  pub seen_axioms : SeenByAxioms deck s t (test_state axioms deck s t)
  seen_axioms = go (test_state axioms deck s t) refl
    where
      go : (o : Tested) → test_state axioms deck s t ≡ o → SeenByAxioms deck s t o
      go (told a holds) e = axioms_held deck s t a e
      go (told a (broken n l)) e = axiom_broken_lem deck s t a n l e
      go (refused n line) e = refused_alike deck s t n line e

  pub seen_clauses : SeenByClauses deck s t (test_state clauses deck s t)
  seen_clauses = go (test_state clauses deck s t) refl
    where
      go : (o : Tested) → test_state clauses deck s t ≡ o → SeenByClauses deck s t o
      go (told a holds) e = clauses_are_held deck s t a e
      go (told a (broken n l)) e = clause_broken_lem deck s t a n l e
      go (refused n line) e = clauses_refused n line e
