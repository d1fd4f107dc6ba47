-- No axiom names a fresh class: states that differ in the lines of fresh classes alone satisfy the same axioms. So half two turned
-- round: an axiom that is broken breaks the clauses, whatever these lines are. Assumes nothing.
use Rattle.std.specs.Prelude.{◌≡◌, refl, Bool, true, false, List, ℕ}
use Rattle.std.proofs.Common.{sym, ap, ◌∙◌, subst}
use Rattle.std.proofs.lemmas.Bool.{false≢true, lt-leb}
use Rattle.rules.specs.Concept.{Axiom}
use Rattle.rules.specs.Deck.{Known}
use Rattle.rules.specs.DeckLaws.{DeckIn, read_in}
use Rattle.rules.specs.Run.{Accepted, first_fresh}
use Rattle.rules.proofs.RunLaws.{run_decoded}
use Rattle.rules.specs.Semantics.{Interpretation, with_classes}
use Rattle.rules.specs.Statements.{Proper, is_inverse_axiom, is_clausified, satisfies_some, satisfies_all, clauses_of, all_hold, Provisos}
use Rattle.meaning.specs.Truth.{by_truth}
use Rattle.meaning.specs.Valuations.{Agree}
use Rattle.meaning.specs.DeckAgree.{some_agree, every_agree}
use Rattle.meaning.proofs.Theorem.{demand_three_second}
use Rattle.states.specs.Test.{clauses_verdict, Lent}
use Rattle.states.specs.VerdictLaws.{is_holds, clauses_hold_lem}
use Rattle.states.specs.ProperLaws.{read_sound, read_proper}
use Rattle.states.specs.Together.{Given, meant, given_known, Alike}

-- ---- axioms
module _ (d : Known) (fresh_ids : ℕ) (I J : Interpretation) (A : Alike d fresh_ids I J) (D : DeckIn d) where
  -- the classes' sets are all that differs
  alike_is : J ≡ with_classes I J.class
  alike_is =
      ap (λ (n : ℕ). record { size = n; class = J.class; role = J.role; individual = J.individual }) A.size
      ∙ ap (λ (r : ℕ → ℕ → ℕ → Bool). record { size = I.size; class = J.class; role = r; individual = J.individual }) A.roles
      ∙ ap (λ (f : ℕ → ℕ). record { size = I.size; class = J.class; role = I.role; individual = f }) A.individuals

  agrees : Agree (first_fresh d) J.class I.class
  agrees = record { same = λ c h. A.same c (rw (lt-leb (first_fresh d) c h) refl) }

  pub some_alike : (kind : Axiom → Bool) → satisfies_some kind d J ≡ satisfies_some kind d I
  some_alike kind = ap (λ K. satisfies_some kind d K) alike_is ∙ some_agree d D I J.class agrees kind

  pub every_alike : satisfies_all d J ≡ satisfies_all d I
  every_alike = ap (satisfies_all d) alike_is ∙ every_agree d D I J.class agrees

-- ---- half two, turned round
-- a broken axiom of kinds 21 to 31, with every axiom 32 satisfied and under the provisos: no lines for the fresh classes make the
-- clauses hold
module _ (deck s : List ℕ) (t : Lent) (a : Accepted) (G : Given deck s t a) where
  pub clauses_broken_by : satisfies_some is_clausified G.known (meant G) ≡ false → satisfies_some is_inverse_axiom G.known (meant G) ≡ true
      → Provisos G.known a.fresh_ids a.stats.deferred (clauses_of t.run a)
      → (text : List ℕ) (H : Given deck text t a) → Alike G.known a.fresh_ids (meant G) (meant H) → is_holds (clauses_verdict (meant H) a.clauses) ≡ false
  clauses_broken_by b i P text H A = by_truth (is_holds (clauses_verdict (meant H) a.clauses)) (λ e. absurd (clash e)) (λ e. e)
    where
      clash : is_holds (clauses_verdict (meant H) a.clauses) ≡ true → ⊥
      clash e =
          let D = read_in deck G.known G.read in
          let proper : Proper G.known (meant H) =
          subst (λ (k : Known). Proper k (meant H)) (given_known deck text s t a H G) (read_proper H.known H.state (read_sound H.known a.fresh_ids H.state text H.stated_as)) in
          let decoded = run_decoded deck t.run G.known a G.read G.run in
          let every : all_hold (meant H) (clauses_of t.run a) ≡ true = ap (all_hold (meant H)) decoded ∙ sym (clauses_hold_lem (meant H) a.clauses) ∙ e in
          let inverses : satisfies_some is_inverse_axiom G.known (meant H) ≡ true = some_alike G.known a.fresh_ids (meant G) (meant H) A D is_inverse_axiom ∙ i in
          let S = demand_three_second deck t.run G.known a G.read G.run P (meant H) proper every inverses in
          false≢true (sym b ∙ sym (some_alike G.known a.fresh_ids (meant G) (meant H) A D is_clausified) ∙ S)
