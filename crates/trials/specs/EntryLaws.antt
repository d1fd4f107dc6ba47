-- From the run's answer and what was told to the entry's promise. Assumes nothing.
use Rattle.std.specs.Prelude.{◌≡◌, Bool, true, List, ℕ, length, replicate, leb}
use Rattle.std.proofs.Math.Path.{refl, ap}
use Rattle.std.proofs.Common.{sym, ap₂, subst, ◌∙◌, arith, leb-true}
use Rattle.std.proofs.Math.Bool.{false}
use Prim.{tt}
use Rattle.std.proofs.lemmas.List.{length-replicate}
use Rattle.words.specs.Words.{words}
use Rattle.rules.specs.Deck.{Known, Told, fine, read_deck}
use Rattle.rules.specs.Deck as Deck
use Rattle.rules.specs.Run.{Accepted, Outcome, accepted, Run, sizes_ok, clause_table, atom_table, deferral_table}
use Rattle.rules.specs.Run as Run
use Rattle.rules.proofs.RunLaws.{Tables, run_tables}
use Rattle.meaning.specs.Truth.{by_truth}
use Rattle.statistics.specs.declared.ClauseStats.{ClauseStats}
use Rattle.clausify.specs.Reply.{Reply}
use Rattle.clausify.specs.Entry.{coded}
use Rattle.clausify.specs.Answer.{Answered, run_if}
use Rattle.clausify.specs.AnswerLaws.{run_unsized}
use Rattle.clausify.specs.TableLaws.{sizes_whole}
use Rattle.clausify.specs.RunTabled.{run_read_lem}
use Rattle.clausify.specs.MeaningLaws.{run_meaning}
use Rattle.states.specs.State.{read_state}
use Rattle.states.specs.Test.{Test, Verdict, holds, broken, Tested, told, refused, on_run, store_bytes, Lent, lent_ok, test_sized, test_state, store_table, tested_clauses, tested_atoms, tested_deferrals}
use Rattle.trials.specs.Tried.{Tried}
use Rattle.trials.specs.Tried as Said
use Rattle.trials.specs.Judged.{Judgement, given, denied, judged_of, tested_as, on_state_lem}
use Rattle.trials.specs.Entry.{verdict_reply, tried_of, MeaningStored, MeantTried}
use Rattle.trials.specs.Tells.{Ran, TellThere, tested_on, Numbered, NumberedAs, ToldAs, TellsAs, kept_of}
use Rattle.trials.specs.TellLaws.{ran_fits}

pub record Promised (k : Test) (deck state : List ℕ) (t : Lent) (r : Tried) (c a d store : List ℕ) : Type 0 where
  pub reply : r ≡ tried_of (test_state k deck state t)
  pub clauses : c ≡ tested_clauses t (test_state k deck state t)
  pub atoms : a ≡ tested_atoms t (test_state k deck state t)
  pub deferrals : d ≡ tested_deferrals t (test_state k deck state t)
  pub stored : store ≡ store_table t (test_state k deck state t)
  pub meaning : MeantTried deck c a store r

-- ---- the test of lent tables that fit, or not
module _ (k : Test) (deck state : List ℕ) (t : Lent) where
  lent_fits : sizes_ok t.run ≡ true → leb store_bytes t.store ≡ true → test_state k deck state t ≡ on_run k (read_deck deck) (Run deck t.run) state
  unfolding test_state
  lent_fits e f = rw (e, f) refl

  store_unfit : leb store_bytes t.store ≡ false → test_state k deck state t ≡ refused 1 0
  unfolding test_state
  store_unfit f =
      let unfit : lent_ok t ≡ false = by_truth (sizes_ok t.run) (λ e. rw (e, f) refl) (λ e. rw e refl) in
      ap (test_sized k deck state t) unfit

  run_unfit : sizes_ok t.run ≡ false → test_state k deck state t ≡ refused 1 0
  unfolding test_state
  run_unfit e = rw e refl

  tested_ran : (x : Accepted) (d : Known) → sizes_ok t.run ≡ true → leb store_bytes t.store ≡ true → Run deck t.run ≡ accepted x → read_deck deck ≡ fine d → test_state k deck state t ≡ tested_on k d x state
  tested_ran x d e f q h = lent_fits e f ∙ ap₂ (λ (y : Told) (o : Outcome). on_run k y o state) h q ∙ on_state_lem k d x (read_state d x.fresh_ids state)

  tested_refused : (n line : ℕ) → leb store_bytes t.store ≡ true → Run deck t.run ≡ Run.refused n line → test_state k deck state t ≡ refused n line
  tested_refused n line f q = by_truth (sizes_ok t.run)
      (λ e. lent_fits e f ∙ ap (λ (o : Outcome). on_run k (read_deck deck) o state) q ∙ any_read (read_deck deck))
      (λ e. run_unfit e ∙ ap turned (sym (run_unsized deck t.run e) ∙ q))
    where
      any_read : (y : Told) → on_run k y (Run.refused n line) state ≡ refused n line
      any_read (fine d) = refl
      any_read (Deck.refused m at) = refl

      turned : Outcome → Tested
      turned (accepted a) = refused 0 0
      turned (Run.refused m at) = refused m at

  -- ---- zeros in all
  promised_refused : (n line : ℕ) (r : Tried) (c a d c' a' d' store : List ℕ) → test_state k deck state t ≡ refused n line → r ≡ Said.Refused n line
      → length c ≡ t.run.clauses → length a ≡ t.run.atoms → length d ≡ t.run.deferrals → c' ≡ kept_of r c → a' ≡ kept_of r a → d' ≡ kept_of r d → store ≡ replicate t.store 0
      → Promised k deck state t r c' a' d' store
  promised_refused n line r c a d c' a' d' store e h lc la ld kc ka kd s = record {
    reply = h ∙ sym (ap tried_of e);
    clauses = kc ∙ ap (λ (x : Tried). kept_of x c) h ∙ ap (λ (m : ℕ). replicate m 0) lc ∙ sym (ap (tested_clauses t) e);
    atoms = ka ∙ ap (λ (x : Tried). kept_of x a) h ∙ ap (λ (m : ℕ). replicate m 0) la ∙ sym (ap (tested_atoms t) e);
    deferrals = kd ∙ ap (λ (x : Tried). kept_of x d) h ∙ ap (λ (m : ℕ). replicate m 0) ld ∙ sym (ap (tested_deferrals t) e);
    stored = s ∙ sym (ap (store_table t) e);
    meaning = subst (MeantTried deck c' a' store) (sym h) tt;
  }

  -- ---- a verdict
  kept_verdict : (v : Verdict) (c : List ℕ) → kept_of (verdict_reply v) c ≡ c
  kept_verdict holds c = refl
  kept_verdict (broken n l) c = refl

  meant_verdict : (v : Verdict) (c a store : List ℕ) → MeaningStored deck c a store → MeantTried deck c a store (verdict_reply v)
  meant_verdict holds c a store M = M
  meant_verdict (broken n l) c a store M = M

  numbered_verdict : (v : Verdict) (w : List ℕ) (s : ClauseStats) (fresh_ids : ℕ) → NumberedAs w s fresh_ids (verdict_reply v) → Numbered w s fresh_ids
  numbered_verdict holds w s fresh_ids N = N
  numbered_verdict (broken n l) w s fresh_ids N = N

  promised_told : (x : Accepted) (v : Verdict) (r : Tried) (c a d c' a' d' store : List ℕ) → Run deck t.run ≡ accepted x → test_state k deck state t ≡ told x v → r ≡ verdict_reply v
      → c ≡ clause_table t.run (accepted x) → a ≡ atom_table t.run (accepted x) → d ≡ deferral_table t.run (accepted x) → c' ≡ kept_of r c → a' ≡ kept_of r a → d' ≡ kept_of r d
      → store ≡ store_table t (told x v) → NumberedAs (words store) (coded x.stats) x.fresh_ids r → Promised k deck state t r c' a' d' store
  promised_told x v r c a d c' a' d' store q e h ec ea ed kc ka kd s N =
      let C : c' ≡ clause_table t.run (accepted x) = kc ∙ ap (λ (y : Tried). kept_of y c) h ∙ kept_verdict v c ∙ ec in
      let A : a' ≡ atom_table t.run (accepted x) = ka ∙ ap (λ (y : Tried). kept_of y a) h ∙ kept_verdict v a ∙ ea in
      let n = numbered_verdict v (words store) (coded x.stats) x.fresh_ids (subst (NumberedAs (words store) (coded x.stats) x.fresh_ids) h N) in
      let M : MeaningStored deck c' a' store = rw (n.total, n.fresh, n.deferred) (run_meaning deck t.run x c' a' q C A) in
      record {
        reply = h ∙ sym (ap tried_of e);
        clauses = C ∙ sym (ap (tested_clauses t) e);
        atoms = A ∙ sym (ap (tested_atoms t) e);
        deferrals = kd ∙ ap (λ (y : Tried). kept_of y d) h ∙ kept_verdict v d ∙ ed ∙ sym (ap (tested_deferrals t) e);
        stored = s ∙ sym (ap (store_table t) e);
        meaning = subst (MeantTried deck c' a' store) (sym h) (meant_verdict v c' a' store M);
      }

  -- ---- of a run that was accepted
  promised_ran : (x : Accepted) (d₀ : Known) (J : Judgement) (r : Tried) (c a d c' a' d' store : List ℕ) → Run deck t.run ≡ accepted x → test_state k deck state t ≡ tested_as x J
      → ToldAs (tested_as x J) (coded x.stats) x.fresh_ids t.store store r
      → c ≡ clause_table t.run (accepted x) → a ≡ atom_table t.run (accepted x) → d ≡ deferral_table t.run (accepted x) → c' ≡ kept_of r c → a' ≡ kept_of r a → d' ≡ kept_of r d
      → Promised k deck state t r c' a' d' store
  promised_ran x d₀ (given v) r c a d c' a' d' store q e T ec ea ed kc ka kd =
      promised_told x v r c a d c' a' d' store q e T.reply ec ea ed kc ka kd (T.stored t refl) T.numbered
  promised_ran x d₀ (denied n line) r c a d c' a' d' store q e T ec ea ed kc ka kd =
      let L = subst (Tables t.run) q (run_tables deck t.run) in
      promised_refused n line r c a d c' a' d' store e T.reply (ap length ec ∙ L.clause_length) (ap length ea ∙ L.atom_length) (ap length ed ∙ L.deferral_length) kc ka kd (T.stored t refl)

  -- ---- the entry
  module _ (reply : Reply) (c a d c' a' d' store : List ℕ) (r : Tried) (kc : c' ≡ kept_of r c) (ka : a' ≡ kept_of r a) (kd : d' ≡ kept_of r d) where
    promised_as : (o : Outcome) → leb store_bytes t.store ≡ true → Run deck t.run ≡ o → Answered o t.run reply c a d → TellsAs k deck state c a t.store reply store r → Promised k deck state t r c' a' d' store
    promised_as (accepted x) f q A T =
        let R = run_read_lem deck t.run x q in
        let N : Ran deck t.run x (coded x.stats) x.fresh_ids x.visits = record { known = R.0; read = R.1; is = q; counted = refl } in
        let S = subst (λ (y : Reply). TellsAs k deck state c a t.store y store r) A.reply T t.run x N A.clauses A.atoms in
        let e = tested_ran x R.0 (ran_fits deck t.run x (coded x.stats) x.fresh_ids x.visits N) f q R.1 in
        promised_ran x R.0 (judged_of k R.0 x.clauses (read_state R.0 x.fresh_ids state)) r c a d c' a' d' store q e S A.clauses A.atoms A.deferrals kc ka kd
    promised_as (Run.refused n line) f q A T =
        let S = subst (λ (y : Reply). TellsAs k deck state c a t.store y store r) A.reply T in
        promised_refused n line r c a d c' a' d' store (tested_refused n line f q) S.0 (ap length A.clauses ∙ length-replicate t.run.clauses 0) (ap length A.atoms ∙ length-replicate t.run.atoms 0) (ap length A.deferrals ∙ length-replicate t.run.deferrals 0) kc ka kd S.1

    pub promised : (b : Bool) → b ≡ leb store_bytes t.store → Answered (run_if b (Run deck t.run)) t.run reply c a d → TellsAs k deck state c a t.store reply store r → Promised k deck state t r c' a' d' store
    promised true f A T = promised_as (Run deck t.run) (sym f) refl A T
    promised false f A T =
        let S = subst (λ (y : Reply). TellsAs k deck state c a t.store y store r) A.reply T in
        promised_refused 1 0 r c a d c' a' d' store (store_unfit (sym f)) S.0 (ap length A.clauses ∙ length-replicate t.run.clauses 0) (ap length A.atoms ∙ length-replicate t.run.atoms 0) (ap length A.deferrals ∙ length-replicate t.run.deferrals 0) kc ka kd S.1

-- ---- what is told asks no more than the run's answer
module _ (deck : List ℕ) (t : Lent) (reply : Reply) (c a d store scratch : List ℕ) (ls : length store ≡ t.store) (lt : length scratch ≡ t.run.scratch) where
  there_as : (o : Outcome) → leb store_bytes t.store ≡ true → Run deck t.run ≡ o → Answered o t.run reply c a d → TellThere deck c a store scratch reply
  there_as (accepted x) f q A =
      let R = run_read_lem deck t.run x q in
      let N : Ran deck t.run x (coded x.stats) x.fresh_ids x.visits = record { known = R.0; read = R.1; is = q; counted = refl } in
      let W = sizes_whole t.run (ran_fits deck t.run x (coded x.stats) x.fresh_ids x.visits N) in
      subst (TellThere deck c a store scratch) (sym A.reply) (record { lengths = t.run; run = x; ran = N; clausal = A.clauses; atomic = A.atoms; room = omega (arith, ls, leb-true store_bytes t.store f); space = omega (arith, lt, W.scratch) })
  there_as (Run.refused n line) f q A = subst (TellThere deck c a store scratch) (sym A.reply) tt

  pub tell_there : (b : Bool) → b ≡ leb store_bytes t.store → Answered (run_if b (Run deck t.run)) t.run reply c a d → TellThere deck c a store scratch reply
  tell_there true f A = there_as (Run deck t.run) (sym f) refl A
  tell_there false f A = subst (TellThere deck c a store scratch) (sym A.reply) tt
