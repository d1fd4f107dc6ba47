-- A state's test for callers in C: the reply as one number, and the clauses' meaning by it.
use Rattle.std.specs.Prelude.{◌≡◌, Bool, List, ℕ, zero, suc, ◌+◌, ◌*◌, ◌≤◌, ◌<◌}
use Rattle.std.proofs.Math.Path.{refl}
use Rattle.std.proofs.Common.{sym, ap, subst, ◌∙◌}
use Rattle.std.proofs.Math.Bool.{true, false}
use Rattle.std.proofs.lemmas.Bool.{false≢true}
use Prim.{tt}
use native.Mathlib.Omega.{arith}
use Rattle.rules.specs.Base.{any}
use Rattle.rules.specs.Deck.{Known, Told, fine, read_deck}
use Rattle.rules.specs.Deck as Deck
use Rattle.rules.specs.DeckLaws.{read_enough}
use Rattle.rules.specs.Run.{Accepted, Outcome, accepted, Run}
use Rattle.rules.specs.Run as Run
use Rattle.rules.proofs.RunLaws.{run_never_zero}
use Rattle.states.specs.State.{State, StateTold, stated, bad, unread, read_state, interpretation_of}
use Rattle.states.specs.LineLaws.{is_read, state_read}
use Rattle.states.specs.Test.{Test, axioms, clauses, holds, broken, Tested, told, refused, clauses_verdict, wide_clause, unless_wide, on_state, on_run, Lent, lent_ok, test_sized, test_state, tested_code}
use Rattle.trials.specs.Tried.{Tried}
use Rattle.trials.specs.Tried as Said
use Rattle.trials.specs.Entry.{tried_of, MeaningStored, MeantTried}

abbrev pub code_of_tried : Tried → ℕ
code_of_tried Said.Holds = 0
code_of_tried (Said.Broken n k) = 1
code_of_tried (Said.Refused n line) = n * 4294967296 + line

-- demand 3, by the numbers in the store, with a verdict
abbrev pub MeantCode : (deck clauses atoms store : List ℕ) → ℕ → Type 0
MeantCode deck c a store r = r ≤ 1 → MeaningStored deck c a store

-- ---- laws
pub code_tried : (o : Tested) → code_of_tried (tried_of o) ≡ tested_code o
code_tried (told a holds) = refl
code_tried (told a (broken n l)) = refl
code_tried (refused n line) = refl

positive : (n : ℕ) → (n ≡ 0 → ⊥) → 0 < n
positive zero h = absurd (h refl)
positive (suc n) h = omega arith

-- no refusal has the number 0
abbrev Numbered : Tested → Type 0
Numbered (told a v) = Unit {0}
Numbered (refused n line) = 0 < n

module _ (k : Test) (deck state : List ℕ) (t : Lent) where
  on_verdict_lem : (d : Known) (a : Accepted) (s : State) → Numbered (on_state k d a (stated s))
  on_verdict_lem d a s = by k
    where
      wide : (b : Bool) → Numbered (unless_wide a (clauses_verdict (interpretation_of d s) a.clauses) b)
      wide true = omega arith
      wide false = tt

      by : (k : Test) → Numbered (on_state k d a (stated s))
      by axioms = tt
      by clauses = wide (any wide_clause a.clauses)

  on_state_lem : (d : Known) (a : Accepted) (x : StateTold) → read_state d a.fresh_ids state ≡ x → Numbered (on_state k d a x)
  on_state_lem d a (stated s) e = on_verdict_lem d a s
  on_state_lem d a (bad line) e = omega arith
  on_state_lem d a unread e = absurd (false≢true (ap is_read (sym e) ∙ state_read d a.fresh_ids state))

  on_run_lem : (x : Told) (o : Outcome) → read_deck deck ≡ x → Run deck t.run ≡ o → Numbered (on_run k x o state)
  on_run_lem (fine d) (accepted a) r q = on_state_lem d a (read_state d a.fresh_ids state) refl
  on_run_lem (fine d) (Run.refused n line) r q = positive n (λ e. run_never_zero deck t.run line (q ∙ ap (λ (m : ℕ). Run.refused m line) e))
  on_run_lem (Deck.refused n line) (accepted a) r q = let h = (read_enough deck n line r).low in omega arith
  on_run_lem (Deck.refused n line) (Run.refused m at) r q = positive m (λ e. run_never_zero deck t.run at (q ∙ ap (λ (i : ℕ). Run.refused i at) e))

  pub tested_numbered : Numbered (test_state k deck state t)
  unfolding test_state
  tested_numbered = go (lent_ok t)
    where
      go : (b : Bool) → Numbered (test_sized k deck state t b)
      go true = on_run_lem (read_deck deck) (Run deck t.run) refl refl
      go false = omega arith

-- so a reply of 0 or 1 is a verdict
pub meant_code : (k : Test) (deck state : List ℕ) (t : Lent) (r : Tried) (c a store : List ℕ) → r ≡ tried_of (test_state k deck state t) → MeantTried deck c a store r → MeantCode deck c a store (code_of_tried r)
meant_code k deck state t r c a store e M = subst (λ (x : Tried). MeantTried deck c a store x → MeantCode deck c a store (code_of_tried x)) (sym e) (go (test_state k deck state t) (tested_numbered k deck state t)) M
  where
    go : (o : Tested) → Numbered o → MeantTried deck c a store (tried_of o) → MeantCode deck c a store (code_of_tried (tried_of o))
    go (told x holds) N m l = m
    go (told x (broken n q)) N m l = m
    go (refused n line) N m l = absurd (omega arith)
