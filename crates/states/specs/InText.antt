-- Half one with a text: where the axioms hold, other lines for the fresh classes make the clauses hold. Assumes nothing.
use Rattle.std.specs.Prelude.{◌≡◌, refl, Bool, List, ℕ, ◌<◌}
use Rattle.std.proofs.Common.{sym, ap, ◌∙◌, arith}
use Rattle.rules.specs.Deck.{Known, fine, read_deck}
use Rattle.rules.specs.DeckLaws.{read_in}
use Rattle.rules.specs.Run.{Accepted, accepted, Run, visit_limit}
use Rattle.rules.proofs.RunLaws.{run_accepted}
use Rattle.rules.specs.Semantics.{with_classes}
use Rattle.rules.specs.Statements.{is_fresh}
use Rattle.meaning.specs.Truth.{by_truth}
use Rattle.states.specs.State.{State}
use Rattle.states.specs.Test.{Lent}
use Rattle.states.specs.VerdictLaws.{is_holds, holds_is}
use Rattle.states.specs.AgreeLaws.{clauses_agree}
use Rattle.states.specs.Print.{printed, Stating}
use Rattle.states.specs.PrintedLaws.{Writable, printed_read}
use Rattle.states.specs.StatingLaws.{read_stating}
use Rattle.states.specs.RepairLaws.{refilled, refilled_stating, others_same, fresh_given}
use Rattle.states.specs.Together.{Given, meant, Alike, Choosable, Repair, HalfOneInText, axioms_then_clauses}

-- every id of an accepted run can be written
pub run_writable : (deck : List ℕ) (t : Lent) (d : Known) (a : Accepted) → read_deck deck ≡ fine d → Run deck t.run ≡ accepted a → Writable d a.fresh_ids
run_writable deck t d a e q =
    let x = run_accepted visit_limit deck t.run d a e q in
    let D = read_in deck d e in
    record {
      classes = omega (arith, D.classes, D.individuals, x.1.fresh, x.1.clauses, x.0.clauses);
      roles = omega (arith, D.roles);
      individuals = omega (arith, D.individuals);
    }

module _ (deck s : List ℕ) (t : Lent) (a : Accepted) where
  -- the text of any sets for the fresh classes
  module _ (G : Given deck s t a) (sets : ℕ → ℕ → Bool) where
    stating : Stating G.known a.fresh_ids G.state
    stating = read_stating G.known a.fresh_ids G.state s G.stated_as

    abbrev other : State
    other = refilled G.known a.fresh_ids sets G.state

    abbrev given : Given deck (printed other) t a
    given = record {
      known = G.known;
      read = G.read;
      run = G.run;
      state = other;
      stated_as = printed_read G.known a.fresh_ids other (run_writable deck t G.known a G.read G.run) (refilled_stating G.known a.fresh_ids sets G.state stating);
    }

    alike : Alike G.known a.fresh_ids (meant G) (meant given)
    alike = record { size = refl; roles = refl; individuals = refl; same = others_same G.known a.fresh_ids sets G.state stating }

  repair : (G : Given deck s t a) → Choosable deck s t a G → Repair deck s t a G
  repair G C = record {
    text = printed (other G C.sets);
    given = given G C.sets;
    alike = alike G C.sets;
    hold = holds_is _ (clauses_agree (with_classes (meant G) C.sets) (meant (given G C.sets)).class agree (stating G C.sets).lines.some a.clauses ∙ ap is_holds C.hold);
  }
    where
      agree : (c x : ℕ) → x < G.state.size → (meant (given G C.sets)).class c x ≡ C.sets c x
      agree c x h = by_truth (is_fresh G.known a.fresh_ids c)
          (λ e. fresh_given G.known a.fresh_ids C.sets G.state (stating G C.sets) c x e h)
          (λ e. ap (λ (f : ℕ → Bool). f x) (others_same G.known a.fresh_ids C.sets G.state (stating G C.sets) c e ∙ sym (C.same c e)))

  pub half_one_in_text : HalfOneInText deck s t a
  half_one_in_text h = let X = axioms_then_clauses deck s t a h in (X.0, repair X.0 X.1)
