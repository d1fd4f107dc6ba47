-- Demand 3, both halves. In plain words: docs/MEANING.md. Assumes nothing.
use Rattle.std.specs.Prelude.{◌≡◌, true, false, List, ℕ, ◌+◌, length}
use Rattle.std.proofs.Common.{sym, ap, ◌∙◌, subst, arith}
use Rattle.rules.specs.Base.{any}
use Rattle.rules.specs.State.{Out}
use Rattle.rules.specs.Deck.{Known, fine, read_deck}
use Rattle.rules.specs.Run.{Lengths, Accepted, accepted, Run, first_fresh, accepted_of, rooms_of, visit_limit}
use Rattle.rules.specs.Invariants.{Each}
use Rattle.rules.specs.DeckLaws.{read_in}
use Rattle.rules.proofs.RunLaws.{Sized, run_from, run_accepted, run_decoded}
use Rattle.rules.specs.Semantics.{Interpretation, with_classes}
use Rattle.rules.specs.Statements.{Proper, is_fresh, is_inverse_axiom, satisfies_some, has_fresh_at_most, all_hold, DemandThreeFirst, DemandThreeSecond}
use Rattle.meaning.specs.Truth.{all_some}
use Rattle.meaning.specs.Choices.{Follows, all_follow, follow_all}
use Rattle.meaning.specs.Valuations.{ClauseUnder, follow_agree}
use Rattle.meaning.specs.Adds.{Fine}
use Rattle.meaning.proofs.Composition.{Means, run_means}
use Rattle.meaning.specs.FreshClasses.{clauses_fine, sets, sets_same, sets_agree}

-- ---- the state that an accepted run of a deck ended in, for an interpretation of the deck that satisfies its inverse-role axioms
module _ (deck : List ℕ) (t : Lengths) (d : Known) (a : Accepted) (e : read_deck deck ≡ fine d) (q : Run deck t ≡ accepted a) (I : Interpretation) (P : Proper d I) (inverses : satisfies_some is_inverse_axiom d I ≡ true) where
  record Left : Type 0 where
    state : Out
    means : Means I d (read_in deck d e) P inverses state
    clauses : state.clauses ≡ a.clauses
    deferred : length state.deferrals ≡ a.stats.deferred
    under : Each (ClauseUnder (first_fresh d + a.fresh_ids)) a.clauses

  left : Left
  left = go (run_from visit_limit deck t d a e q (run_means I d (read_in deck d e) P inverses visit_limit (rooms_of t)))
    where
      go : Sized t × (n : ℕ) × (s : Out) × Means I d (read_in deck d e) P inverses s × (accepted_of d n s ≡ a) → Left
      go x =
          let fresh : x.2.next_fresh ≡ first_fresh d + a.fresh_ids = omega (arith, x.3.above, ap (λ z. z.fresh_ids) x.4) in
          let same : x.2.clauses ≡ a.clauses = ap (λ z. z.clauses) x.4 in
          let count : length x.2.deferrals ≡ length a.deferrals = ap (λ z. length z.deferrals) x.4 in
          record {
            state = x.2;
            means = x.3;
            clauses = same;
            deferred = count ∙ sym (run_accepted visit_limit deck t d a e q).1.deferred;
            under = subst (Each (ClauseUnder (first_fresh d + a.fresh_ids))) same (subst (λ m. Each (ClauseUnder m) x.2.clauses) fresh x.3.under);
          }

-- (1) For every deck that is read, all lent tables and every accepted run: where an interpretation with an element, in which each
-- individual's class holds that individual alone, satisfies all axioms of the deck, sets can be given to the fresh classes,
-- nothing else changing, so that every clause that the run left in the tables' bytes holds.
pub demand_three_first : DemandThreeFirst
demand_three_first deck t d a e q I P h =
    let L = left deck t d a e q I P (all_some is_inverse_axiom _ d.axioms h) in
    let x = L.means.gets h in
    record {
      sets = sets d a.fresh_ids I x.0;
      same = sets_same d a.fresh_ids I x.0;
      hold = rw (run_decoded deck t d a e q) (follow_all (with_classes I (sets d a.fresh_ids I x.0)) P.inhabited a.clauses
          (follow_agree I (sets_agree d a.fresh_ids I x.0 x.1) a.clauses L.under (subst (Each (Follows (with_classes I x.0))) L.clauses x.2)));
    }

-- (2) For the same decks, tables, runs and interpretations: where every clause holds, with whatever sets the fresh classes have,
-- and the inverse-role axioms of the deck are satisfied, every axiom of kinds 21 to 31 is satisfied; if nothing was deferred, no
-- class is marked as data key, and, without option 4, no at-most atom names a fresh class.
pub demand_three_second : DemandThreeSecond
demand_three_second deck t d a e q provisos I P h inverses =
    let L = left deck t d a e q I P inverses in
    let decoded = run_decoded deck t d a e q in
    L.means.says
    (subst (Each (Follows I)) (sym L.clauses) (all_follow I P.inhabited a.clauses (subst (λ l. all_hold I l ≡ true) decoded h)))
    (λ off. subst (Each (Fine (first_fresh d))) (sym L.clauses) (clauses_fine d a.fresh_ids a.clauses L.under (subst (λ l. any (has_fresh_at_most (is_fresh d a.fresh_ids)) l ≡ false) decoded (provisos.no_fresh_at_most off))))
    provisos.no_key (L.deferred ∙ provisos.no_deferral)
