-- The run's answer, from the later passes' or from a refusal before them. Assumes nothing.
use Rattle.std.specs.Prelude.{◌≡◌, List, ℕ, length, Result, Ok, Err}
use Rattle.std.proofs.Math.Path.{refl, ap, subst}
use Rattle.std.proofs.Common.{sym, ◌∙◌, arith}
use Prim.{tt}
use Rattle.ir.specs.Counts.{at_line}
use Rattle.ir.specs.Options.{body_decompose}
use Rattle.ir.specs.declared.counters.Counters.{Counters}
use Rattle.ir.specs.Answer.{answer}
use Rattle.ir.specs.Refusals.{refusal_number}
use Rattle.ir.specs.declared.answer.Refused.{Refused}
use Rattle.ir.specs.declared.refusal.Refusal.{Refusal}
use Rattle.rules.specs.Base.{Res, ok, refused as refuses}
use Rattle.rules.specs.Concept.{Axiom}
use Rattle.rules.specs.Normalize.{St}
use Rattle.rules.specs.State.{Rooms, Out}
use Rattle.rules.specs.Deck.{Known, Told, refused as unread, axiom_line}
use Rattle.rules.specs.DeckLaws.{DeckIn}
use Rattle.rules.specs.LinedPost.{LinedPost, done_post}
use Rattle.rules.specs.Run.{Lined, done, stopped, lined, lined_then, at_line as line_at, clausify_axioms, late_passes, Outcome, refused, first_fresh, env_of, accepted_of, outcome_of, start, clausify_normal, run_deck, run_read}
use Rattle.rules.proofs.RunLaws.{RunIn, deck_run, run_in}
use Rattle.normalize.specs.Loaded.{normalized}
use Rattle.tables.specs.Drawn.{Tables, tables, counters_in, clauses_in, atoms_in, deferrals_in, show, shown, after}
use Rattle.staging.specs.Stage.{staged}
use Rattle.run.specs.declared.Ran.{Ran}
use Rattle.run.specs.Ran.{Left, RanAs}
use Rattle.run.specs.Before.{Before}
use Rattle.late.specs.Later.{Later}
use Rattle.run.specs.LateLaws.{later}

-- ---- the rules' run
-- refused before the later passes
module _ (limit : ℕ) (rooms : Rooms) (d : Known) (e line : ℕ) where
  stops : (x : Lined St (List Axiom)) → lined_then x (λ axioms s. clausify_axioms (env_of d rooms axioms) (axiom_line d 0) axioms (start d s)) ≡ stopped e line → lined_then x (λ axioms s. clausify_normal d rooms axioms s) ≡ stopped e line
  unfolding clausify_normal
  stops (done axioms s) h = rw h refl
  stops (stopped n l) h = cc

  pub run_stops : staged limit rooms d ≡ stopped e line → run_deck limit rooms d ≡ refused e line
  unfolding run_deck
  run_stops h = ap (outcome_of d) (stops (normalized d limit) h)

-- what the later passes do
module _ (s : List ℕ) (k : Counters) (n first : ℕ) (c a d : List ℕ) (B : Before s k n first c a d) where
  abbrev pub latest : Res Out ℕ
  latest = late_passes (env_of B.known B.rooms B.staged.normal) B.staged.normal (body_decompose B.known.header.options) (line_at 0 B.staged.state.out)

  clausified : clausify_axioms (env_of B.known B.rooms B.staged.normal) (axiom_line B.known 0) B.staged.normal (start B.known B.staged.begun) ≡ done tt B.staged.state
  clausified = rw B.staged.formed at B.staged.made

  pub run_latest : deck_run B.limit B.rooms B.known ≡ lined 0 latest
  unfolding clausify_normal
  run_latest = rw (B.staged.formed, clausified) refl

-- ---- the later passes' answer
abbrev pub ran_of : Counters → ℕ → Result ℕ Refusal → Result Ran Refused
ran_of k first (Ok m) = Ok record { counters = k; first = first; decomposed = m }
ran_of k first (Err e) = Err record { refusal = e; line = 0 }

left_of : (d : Known) (limit : ℕ) (rooms : Rooms) (k l : Counters) (first m : ℕ) (s : Out) (c a f : List ℕ) → first ≡ first_fresh d → RunIn d limit rooms m s → tables l c a f ≡ show k rooms s → Left rooms (accepted_of d m s) l first m c a f
unfolding show
left_of d limit rooms k l first m s c a f e R h =
    let next : l.next_class ≡ s.next_fresh = ap (λ (t : Tables). (counters_in t).next_class) h in
    let deferred : l.deferrals ≡ length s.deferrals = ap (λ (t : Tables). (counters_in t).deferrals) h in
    record {
      clauses = ap clauses_in h;
      atoms = ap atoms_in h;
      deferrals = ap deferrals_in h;
      many = ap (λ (t : Tables). (counters_in t).clauses) h;
      deferred = deferred;
      stats = rw deferred refl;
      low = omega (arith, R.first);
      fresh = rw (next, e) refl;
      visits = sym (ap (λ (t : Tables). (counters_in t).visits) h);
    }

module _ (d : Known) (D : DeckIn d) (limit : ℕ) (rooms : Rooms) (k : Counters) (first : ℕ) (e : first ≡ first_fresh d) (c a f : List ℕ) where
  ran_late : (x : Res Out ℕ) (l : Counters) (r : Result ℕ Refusal) → deck_run limit rooms d ≡ lined 0 x → after (answer l r) c a f ≡ shown (λ m. m) k rooms x → RanAs rooms (outcome_of d (lined 0 x)) c a f (ran_of l first r)
  ran_late (ok m s) l (Ok i) q h =
      let R : RunIn d limit rooms m s = done_post (subst (LinedPost (RunIn d limit rooms)) q (run_in limit rooms d D)) in
      let same : i ≡ m = cc in
      let t : tables l c a f ≡ show k rooms s = cc in
      subst (λ (j : ℕ). Left rooms (accepted_of d m s) l first j c a f) (sym same) (left_of d limit rooms k l first m s c a f e R t)
  ran_late (ok m s) l (Err n) q h = absurd (let z : ◌≡◌ {A = ℕ} 0 1 = cc in omega arith)
  ran_late (refuses m) l (Ok i) q h = absurd (let z : ◌≡◌ {A = ℕ} 0 1 = cc in omega arith)
  ran_late (refuses m) l (Err n) q h = let z : refusal_number n ≡ m = cc in (z, refl)

-- the run's answer is the rules', where late_passes was called with the counters k'
module _ (s : List ℕ) (k : Counters) (n first : ℕ) (c a d : List ℕ) (B : Before s k n first c a d) (k' : Counters) (at : k' ≡ at_line 0 k) (c' a' d' : List ℕ) (l : Counters) (r : Result ℕ Refusal)
    (h : (L : Later s k' n c a d) → after (answer l r) c' a' d' ≡ shown (λ m. m) k' L.env.rooms (late_passes L.env L.axioms (body_decompose k'.options) L.state)) where
  abbrev latest_of : ℕ → Res Out ℕ
  latest_of options = late_passes (env_of B.known B.rooms B.staged.normal) B.staged.normal (body_decompose options) (line_at 0 B.staged.state.out)

  late_is : after (answer l r) c' a' d' ≡ shown (λ m. m) (at_line 0 k) B.rooms (latest s k n first c a d B)
  late_is =
      subst (λ (j : Counters). (L : Later s j n c a d) → after (answer l r) c' a' d' ≡ shown (λ m. m) j L.env.rooms (late_passes L.env L.axioms (body_decompose j.options) L.state)) at h (later s k n first c a d B)
      ∙ ap (λ (w : ℕ). shown (λ m. m) (at_line 0 k) B.rooms (latest_of w)) B.staged.options

  pub ran_as : RanAs B.rooms (run_deck B.limit B.rooms B.known) c' a' d' (ran_of l first r)
  unfolding run_deck
  ran_as =
      let q = run_latest s k n first c a d B in
      subst (λ (y : Lined Out ℕ). RanAs B.rooms (outcome_of B.known y) c' a' d' (ran_of l first r)) (sym q)
      (ran_late B.known B.inside B.limit B.rooms (at_line 0 k) first B.fresh c' a' d' (latest s k n first c a d B) l r q late_is)

-- ---- refused before the later passes
pub ran_stopped : (limit : ℕ) (rooms : Rooms) (d : Known) (c a f : List ℕ) (e : Refused) → staged limit rooms d ≡ stopped (refusal_number e.refusal) e.line → RanAs rooms (run_deck limit rooms d) c a f (Err e)
ran_stopped limit rooms d c a f e h = subst (λ (o : Outcome). RanAs rooms o c a f (Err e)) (sym (run_stops limit rooms d (refusal_number e.refusal) e.line h)) (refl, refl)

pub ran_unread : (limit : ℕ) (rooms : Rooms) (t : Told) (c a f : List ℕ) (e : Refused) → t ≡ unread (refusal_number e.refusal) e.line → RanAs rooms (run_read limit rooms t) c a f (Err e)
ran_unread limit rooms t c a f e h = subst (λ (o : Told). RanAs rooms (run_read limit rooms o) c a f (Err e)) (sym h) (refl, refl)
