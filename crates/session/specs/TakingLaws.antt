-- A taking is a run of the live deck, and its clauses mean what the deck says. Assumes nothing.
use Rattle.std.specs.Prelude.{◌≡◌, refl, Bool, true, false, ◌&&◌, List, ℕ}
use Rattle.std.proofs.Common.{sym, ap, subst, ◌∙◌, arith}
use Prim.{tt}
use Rattle.ir.specs.Pick.{pick}
use Rattle.ir.specs.Refusals.{refusal_number}
use Rattle.ir.specs.declared.answer.Refused.{Refused as Refusing}
use Rattle.ir.specs.declared.refusal.Refusal.TheVariants.{WrongSize}
use Rattle.rules.specs.Deck.{Known, Told, fine, read_deck}
use Rattle.rules.specs.Deck as Deck
use Rattle.rules.specs.Run.{Lengths, Outcome, accepted, refused, Run, table_ok, clause_words, atom_words, deferral_words, most_clauses, most_atoms, most_deferrals}
use Rattle.statistics.specs.declared.ClauseStats.{ClauseStats}
use Rattle.clausify.specs.RunTabled.{run_read_lem}
use Rattle.clausify.specs.AnswerLaws.{run_unsized}
use Rattle.clausify.specs.Reply.{Reply}
use Rattle.clausify.specs.Reply as Replies
use Rattle.clausify.specs.Entry.{Meant}
use Rattle.clausify.specs.Answer.{Answered, run_if}
use Rattle.clausify.specs.MeaningLaws.{meant}
use Rattle.session.specs.Session.{deck_in, Holding, holds, no_deck, holding_as, is_stored, held_in, scratch_ok, live, take_of, call_take}
use Rattle.session.specs.Taking.{is_held, holds_deck}

-- ---- an outcome that was told
module _ (t : Lengths) (c a d : List ℕ) where
  none_accepted : {P : Type 0} (k line : ℕ) (x : ClauseStats) (f v : ℕ) → Replies.Accepted x f v ≡ Replies.Refused k line → P
  none_accepted k line x f v e = absurd (let z : ◌≡◌ {A = ℕ} 0 1 = cc in omega arith)

  -- a refusal of whatever number left zeros
  refused_one : (o : Outcome) (k line : ℕ) → Answered o t (Replies.Refused k line) c a d → Answered (refused 1 0) t (Replies.Refused 1 0) c a d
  refused_one (accepted x) k line A = none_accepted k line _ _ _ (sym A.reply)
  refused_one (refused j at) k line A = record { reply = refl; clauses = A.clauses; atoms = A.atoms; deferrals = A.deferrals }

-- ---- what a session holds
pub record Held (s deck : List ℕ) (d : Known) : Type 0 where
  pub is : deck ≡ deck_in s
  pub stored : is_stored s ≡ true
  pub read : read_deck (deck_in s) ≡ fine d

pub held_is : (s deck : List ℕ) (d : Known) → held_in s ≡ holds deck d → Held s deck d
unfolding held_in
held_is s deck d e = by (is_stored s) refl (read_deck (deck_in s)) refl e
  where
    by : (b : Bool) → is_stored s ≡ b → (x : Told) → read_deck (deck_in s) ≡ x → pick b (holding_as (deck_in s) x) no_deck ≡ holds deck d → Held s deck d
    by true q (fine k) r e = let f : deck_in s ≡ deck = cc in let g : k ≡ d = cc in record { is = sym f; stored = q; read = r ∙ ap fine g }
    by true q (Deck.refused k line) r e = absurd (let z : ◌≡◌ {A = ℕ} 0 1 = cc in omega arith)
    by false q x r e = absurd (let z : ◌≡◌ {A = ℕ} 0 1 = cc in omega arith)

held_read : (s : List ℕ) (d : Known) → is_stored s ≡ true → read_deck (deck_in s) ≡ fine d → held_in s ≡ holds (deck_in s) d
unfolding held_in
held_read s d q r = rw (q, r) refl

-- scratch that is too short
unsized : (deck : List ℕ) (t : Lengths) → scratch_ok t.scratch ≡ false → Run deck t ≡ refused 1 0
unsized deck t h = run_unsized deck t (last (table_ok clause_words most_clauses t.clauses) (table_ok atom_words most_atoms t.atoms) (table_ok deferral_words most_deferrals t.deferrals) (scratch_ok t.scratch) h)
  where
    last : (x y z w : Bool) → w ≡ false → (x && y && z && w) ≡ false
    last false y z w e = refl
    last true false z w e = refl
    last true true false w e = refl
    last true true true w e = e

-- ---- a taking, as the code answers it
module _ (s : List ℕ) (t : Lengths) (c a d : List ℕ) where
  pub taken : (fit : Bool) (x : ClauseStats) (f v : ℕ) → Answered (run_if (fit && is_stored s) (Run (deck_in s) t)) t (Replies.Accepted x f v) c a d → Answered (run_if fit (call_take s t)) t (Replies.Accepted x f v) c a d
  taken false x f v A = none_accepted t c a d 1 0 x f v A.reply
  taken true x f v A = by (is_stored s) refl A
    where
      on : (o : Outcome) → Run (deck_in s) t ≡ o → is_stored s ≡ true → Answered o t (Replies.Accepted x f v) c a d → Answered (call_take s t) t (Replies.Accepted x f v) c a d
      on (refused k line) q b A = none_accepted t c a d k line x f v A.reply
      on (accepted y) q b A =
          let R = run_read_lem (deck_in s) t y q in
          let e : call_take s t ≡ accepted y = ap (λ (h : Holding). take_of h t) (held_read s R.0 b R.1) ∙ q in
          subst (λ (o : Outcome). Answered o t (Replies.Accepted x f v) c a d) (sym e) A

      by : (b : Bool) → is_stored s ≡ b → Answered (run_if b (Run (deck_in s) t)) t (Replies.Accepted x f v) c a d → Answered (call_take s t) t (Replies.Accepted x f v) c a d
      by false b A = none_accepted t c a d 1 0 x f v A.reply
      by true b A = on (Run (deck_in s) t) refl b A

  module _ (e : Refusing) where
    abbrev pub wrong : Refusing
    wrong = record { refusal = WrongSize; line = 0 }

    abbrev told : Refusing → Reply
    told r = Replies.Refused (refusal_number r.refusal) r.line

    pub taken_not : (fit : Bool) (r : Refusing) → r ≡ pick (fit && holds_deck s t.scratch) e wrong → Answered (run_if (fit && is_stored s) (Run (deck_in s) t)) t (told e) c a d → Answered (run_if fit (call_take s t)) t (told r) c a d
    unfolding live
    taken_not false r p A = rw p (refused_one t c a d (refused 1 0) (refusal_number e.refusal) e.line A)
    taken_not true r p A = by (held_in s) refl (scratch_ok t.scratch) refl p
      where
        one : Answered (refused 1 0) t (told wrong) c a d
        one = refused_one t c a d (run_if (is_stored s) (Run (deck_in s) t)) (refusal_number e.refusal) e.line A

        by : (h : Holding) → held_in s ≡ h → (b : Bool) → scratch_ok t.scratch ≡ b → r ≡ pick (is_held (pick b h no_deck)) e wrong → Answered (take_of h t) t (told r) c a d
        by no_deck q true z p = rw p one
        by no_deck q false z p = rw p one
        by (holds deck k) q true z p =
            let H = held_is s deck k q in
            rw (p, H.is) (subst (λ (b : Bool). Answered (run_if b (Run (deck_in s) t)) t (told e) c a d) H.stored A)
        by (holds deck k) q false z p = rw (p, unsized deck t z) one

  -- its clauses
  pub taken_meant : (r : Reply) → Answered (call_take s t) t r c a d → Meant (deck_in s) c a r
  taken_meant r A = by (held_in s) refl A
    where
      by : (h : Holding) → held_in s ≡ h → Answered (take_of h t) t r c a d → Meant (deck_in s) c a r
      by no_deck q A = subst (Meant (deck_in s) c a) (sym A.reply) tt
      by (holds deck k) q A = let H = held_is s deck k q in subst (λ (l : List ℕ). Meant l c a r) H.is (meant deck t c a d r A)

-- ---- the code's flag, and the deck that it runs
pub flag_then : {fit stored b : Bool} → fit ≡ true → stored ≡ b → stored ≡ (fit && b)
flag_then {fit} {stored} {b} e q = q ∙ ap (λ (x : Bool). x && b) (sym e)

pub flag_else : {fit stored : Bool} (b : Bool) → fit ≡ false → stored ≡ fit → stored ≡ (fit && b)
flag_else {fit} {stored} b e q = q ∙ e ∙ ap (λ (x : Bool). x && b) (sym e)

pub of_flag : (s : List ℕ) (t : Lengths) (c a d : List ℕ) {flag b : Bool} {deck : List ℕ} {r : Reply} → flag ≡ b → deck ≡ deck_in s → Answered (run_if flag (Run deck t)) t r c a d → Answered (run_if b (Run (deck_in s) t)) t r c a d
of_flag s t c a d e q A = rw (e, q) at A
