-- The run between cleared tables: its answer is the outcome's reply and tables. Assumes nothing.
use Rattle.std.specs.Prelude.{◌≡◌, refl, true, false, List, ℕ, ◌*◌, ◌-◌, length, replicate, Result, Ok, Err}
use Rattle.std.proofs.Common.{sym, ap, subst, ◌∙◌}
use Rattle.words.specs.Words.{words}
use Rattle.words.specs.Laws.{Bytes}
use Rattle.ir.specs.Refusals.{refusal_number}
use Rattle.ir.specs.declared.answer.Refused.{Refused}
use Rattle.ir.specs.declared.counters.Counters.{Counters}
use Rattle.rules.specs.State.{Rooms}
use Rattle.rules.specs.Stats as Rules
use Rattle.rules.specs.Deck.{read_deck}
use Rattle.rules.specs.Run.{Lengths, Outcome, Accepted, accepted, refused, sizes_ok, rooms_of, run_read, run_with, visit_limit, Run, clause_words, atom_words, deferral_words, clause_records, atom_records, deferral_records, table_of, clause_table, atom_table, deferral_table}
use Rattle.statistics.specs.declared.ClauseStats.{ClauseStats}
use Rattle.statistics.specs.Counted.{stats_of}
use Rattle.run.specs.declared.Ran.{Ran}
use Rattle.clausify.specs.Reply.{Reply}
use Rattle.clausify.specs.Reply as Replies
use Rattle.run.specs.Ran.{Left, RanAs}
use Rattle.clausify.specs.Entry.{lent, reply_of}
use Rattle.clausify.specs.Answer.{Answered}
use Rattle.clausify.specs.TableLaws.{table_bytes_lem, sizes_whole}

-- ---- accepted
pub reply_left : (rooms : Rooms) (x : Accepted) (k : Counters) (first m : ℕ) (c a d : List ℕ) (s : ClauseStats) → Left rooms x k first m c a d → stats_of s ≡ Rules.clause_stats x.clauses k.deferrals m
    → Replies.Accepted s (k.next_class - first) k.visits ≡ reply_of (accepted x)
reply_left rooms x k first m c a d s L e = rw (L.stats, ← e, L.fresh, L.visits) refl

-- ---- the run's answer
module _ (rooms : Rooms) (c a d : List ℕ) where
  -- an accepted run
  pub record Kept (o : Outcome) (k : Counters) (first m : ℕ) : Type 0 where
    pub run : Accepted
    pub is : o ≡ accepted run
    pub left : Left rooms run k first m c a d

  kept : (o : Outcome) (r : Ran) → RanAs rooms o c a d (Ok r) → Kept o r.counters r.first r.decomposed
  kept (accepted x) r h = record { run = x; is = refl; left = h }
  kept (refused n line) r h = absurd h

  stopped : (o : Outcome) (e : Refused) → RanAs rooms o c a d (Err e) → o ≡ refused (refusal_number e.refusal) e.line
  stopped (accepted x) e h = absurd h
  stopped (refused m at) e h = rw (h.0, h.1) refl

  pub ran_kept : (o : Outcome) (x : Result Ran Refused) (r : Ran) → RanAs rooms o c a d x → x ≡ Ok r → Kept o r.counters r.first r.decomposed
  ran_kept o x r h q = kept o r (subst (RanAs rooms o c a d) q h)

  pub ran_stopped : (o : Outcome) (x : Result Ran Refused) (e : Refused) → RanAs rooms o c a d x → x ≡ Err e → o ≡ refused (refusal_number e.refusal) e.line
  ran_stopped o x e h q = stopped o e (subst (RanAs rooms o c a d) q h)

-- ---- the whole answer
run_sized_lem : (deck : List ℕ) (t : Lengths) → sizes_ok t ≡ true → Run deck t ≡ run_read visit_limit (rooms_of t) (read_deck deck)
unfolding run_with
run_sized_lem deck t e = rw e refl

pub run_unsized : (deck : List ℕ) (t : Lengths) → sizes_ok t ≡ false → Run deck t ≡ refused 1 0
unfolding run_with
run_unsized deck t e = rw e refl

-- tables of the same lengths
pub same_lent : (c a d s c' a' d' : List ℕ) → length c' ≡ length c → length a' ≡ length a → length d' ≡ length d → lent c' a' d' s ≡ lent c a d s
same_lent c a d s c' a' d' e f g = rw (e, f, g) refl

pub answered_lent : (deck : List ℕ) (t t' : Lengths) (r : Reply) (c a d : List ℕ) → t' ≡ t → Answered (Run deck t') t' r c a d → Answered (Run deck t) t r c a d
answered_lent deck t t' r c a d e A = subst (λ (u : Lengths). Answered (Run deck u) u r c a d) e A

-- zeros, on a refusal
pub answered_refused : (o : Outcome) (t : Lengths) (n line : ℕ) (c a d : List ℕ) → o ≡ refused n line → c ≡ replicate t.clauses 0 → a ≡ replicate t.atoms 0 → d ≡ replicate t.deferrals 0
    → Answered o t (Replies.Refused n line) c a d
answered_refused o t n line c a d e x y z = record { reply = sym (ap reply_of e); clauses = x ∙ sym (ap (clause_table t) e); atoms = y ∙ sym (ap (atom_table t) e); deferrals = z ∙ sym (ap (deferral_table t) e) }

pub answered_unsized : (deck : List ℕ) (t : Lengths) (c a d : List ℕ) → false ≡ sizes_ok t → c ≡ replicate t.clauses 0 → a ≡ replicate t.atoms 0 → d ≡ replicate t.deferrals 0
    → Answered (Run deck t) t (Replies.Refused 1 0) c a d
answered_unsized deck t c a d e x y z = answered_refused (Run deck t) t 1 0 c a d (run_unsized deck t (sym e)) x y z

module _ (deck : List ℕ) (t : Lengths) (fits : sizes_ok t ≡ true) (r : Result Ran Refused) where
  abbrev Ending : List ℕ → List ℕ → List ℕ → Type 0
  Ending c a d = RanAs (rooms_of t) (run_read visit_limit (rooms_of t) (read_deck deck)) (words c) (words a) (words d) r

  pub answered_stopped : (e : Refused) (c a d c' a' d' : List ℕ) → Ending c a d → r ≡ Err e → c' ≡ replicate t.clauses 0 → a' ≡ replicate t.atoms 0 → d' ≡ replicate t.deferrals 0
      → Answered (Run deck t) t (Replies.Refused (refusal_number e.refusal) e.line) c' a' d'
  answered_stopped e c a d c' a' d' h q x y z =
      answered_refused (Run deck t) t (refusal_number e.refusal) e.line c' a' d' (run_sized_lem deck t fits ∙ ran_stopped (rooms_of t) (words c) (words a) (words d) (run_read visit_limit (rooms_of t) (read_deck deck)) r e h q) x y z

  -- the tables' bytes, from their words
  pub answered_kept : (ran : Ran) (c a d : List ℕ) (reply : Reply) → Ending c a d → r ≡ Ok ran
      → length c ≡ t.clauses → length a ≡ t.atoms → length d ≡ t.deferrals → Bytes c → Bytes a → Bytes d
      → ((rooms : Rooms) (x : Accepted) (w : List ℕ) → Left rooms x ran.counters ran.first ran.decomposed (words c) (words a) w → reply ≡ reply_of (accepted x)) → Answered (Run deck t) t reply c a d
  answered_kept ran c a d reply h e lc la ld bc ba bd f =
      let o = run_read visit_limit (rooms_of t) (read_deck deck) in
      let K = ran_kept (rooms_of t) (words c) (words a) (words d) o r ran h e in
      let W = sizes_whole t fits in
      let L = K.left in
      let x = K.run in
      let is : Run deck t ≡ accepted x = run_sized_lem deck t fits ∙ K.is in
      record {
        reply = f (rooms_of t) x (words d) L ∙ sym (ap reply_of is);
        clauses = table_bytes_lem c (clause_records 0 x.clauses) (clause_words * (rooms_of t).clauses) bc (lc ∙ W.clauses) L.clauses ∙ ap (λ (n : ℕ). table_of n (clause_records 0 x.clauses)) lc ∙ sym (ap (clause_table t) is);
        atoms = table_bytes_lem a (atom_records x.clauses) (atom_words * (rooms_of t).atoms) ba (la ∙ W.atoms) L.atoms ∙ ap (λ (n : ℕ). table_of n (atom_records x.clauses)) la ∙ sym (ap (atom_table t) is);
        deferrals = table_bytes_lem d (deferral_records x.deferrals) (deferral_words * (rooms_of t).deferrals) bd (ld ∙ W.deferrals) L.deferrals ∙ ap (λ (n : ℕ). table_of n (deferral_records x.deferrals)) ld ∙ sym (ap (deferral_table t) is);
      }
