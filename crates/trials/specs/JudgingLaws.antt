-- The deck that was read twice, once for its header and once into scratch, is one deck; and what is laid out beside it is ready
-- for the tests. Assumes nothing.
use Rattle.std.specs.Prelude.{◌≡◌, refl, Bool, true, false, List, ℕ, ◌+◌, ◌/◌, ◌≤◌, length, ltb, leb, Result, Ok, Err, is_ok}
use Rattle.std.proofs.Common.{sym, ap, subst, ◌∙◌, arith, ltb-true, le_refl}
use Rattle.std.proofs.lemmas.Bool.{false≢true}
use Rattle.ir.specs.Refusals.{refusal_number}
use Rattle.ir.specs.declared.counters.Counters.{Counters}
use Rattle.words.specs.Words.{words}
use Rattle.rules.specs.Base.{contains}
use Rattle.rules.specs.State.{Clause}
use Rattle.meaning.specs.Truth.{by_truth, and_right}
use Rattle.states.specs.ScanLaws.{scanned_read}
use Rattle.rules.specs.Deck.{Known, Told, fine, refused, read_deck}
use Rattle.rules.specs.DeckLaws.{DeckIn, read_in}
use Rattle.rules.specs.Semantics.{Interpretation}
use Rattle.rules.specs.Statements.{Proper}
use Rattle.ir.specs.declared.answer.Refused.{Refused}
use Rattle.deck.specs.declared.state.State.{State as Reader}
use Rattle.deck.specs.Records.{known_in, told_of}
use Rattle.ontology.specs.Loads as Loads
use Rattle.ontology.specs.Loads.{Holds, LoadedAs, loaded, stopped}
use Rattle.states.specs.State.{State, StateTold, stated, bad, unread, read_state, is_individual_class, interpretation_of}
use Rattle.states.specs.ProperLaws.{read_sound, read_proper}
use Rattle.sets.specs.Places.{deck_words}
use Rattle.sets.specs.Laid.{Laid, Found, KeptTo, KeptIn}
use Rattle.words.specs.Laws.{length_words}
use Rattle.extents.specs.declared.Trial.{Trial}
use Rattle.extents.specs.Ready.{Ready, Fits, ConceptSets, ReadyThere, SetsThere}
use Rattle.extents.specs.ReadyLaws.{ready_kept}
use Rattle.rules.specs.Pool.{members}
use Rattle.pool.specs.Layout.{pool_of, members_at, heads_at}
use Rattle.pool.specs.Held.{Held}
use Rattle.pool.specs.HeldLaws.{Same, held_same, pool_same}
use Rattle.ontology.specs.Layout.{axioms_of, AxiomsHeld}
use Rattle.ontology.specs.KeptAxioms.{held_axioms, axioms_kept}
use Rattle.layouts.specs.declared.limits.Limits.{Limits}
use Rattle.layouts.specs.declared.BadLine.{BadLine}
use Rattle.layouts.specs.Read.{Declares, StatedAs}
use Rattle.trials.specs.Judging.{InScratch, trial_of, Clauses, Clausal}

-- ---- what was read
known_of_lem : Known → Told → Known
known_of_lem d (fine e) = e
known_of_lem d (refused n line) = d

pub fine_same : (d e : Known) → fine d ≡ fine e → d ≡ e
unfolding known_of_lem
fine_same d e h = ap (known_of_lem d) h

pub fine_refused : {P : Type 0} (d : Known) (n line : ℕ) → refused n line ≡ fine d → P
fine_refused d n line h = absurd (false≢true (ap is_fine h))
  where
    is_fine : Told → Bool
    is_fine (fine d) = true
    is_fine (refused n line) = false

module _ (deck t : List ℕ) (a : Result Reader Refused) (e : told_of deck t a ≡ read_deck deck) where
  pub answer_known : (k : Reader) (d : Known) → a ≡ Ok k → read_deck deck ≡ fine d → known_in deck t k ≡ d
  answer_known k d h f = fine_same (known_in deck t k) d (sym (ap (told_of deck t) h) ∙ e ∙ f)

  pub answer_refused : {P : Type 0} (r : Refused) (d : Known) → a ≡ Err r → read_deck deck ≡ fine d → P
  answer_refused r d h f = fine_refused d (refusal_number r.refusal) r.line (sym (ap (told_of deck t) h) ∙ e ∙ f)

pub answer_ok : (deck t : List ℕ) (a : Result Reader Refused) (d : Known) → told_of deck t a ≡ read_deck deck → read_deck deck ≡ fine d → is_ok a ≡ true
answer_ok deck t (Ok k) d e f = refl
answer_ok deck t (Err r) d e f = fine_refused d (refusal_number r.refusal) r.line (e ∙ f)

-- the header, as the reader has it
pub record Opened (d : Known) (k : Reader) : Type 0 where
  pub inside : DeckIn d
  pub classes : d.header.classes ≡ k.classes
  pub individuals : d.header.individuals ≡ k.individuals
  pub roles : d.header.roles ≡ k.roles

pub opened : (deck t : List ℕ) (a : Result Reader Refused) (k : Reader) (d : Known) → told_of deck t a ≡ read_deck deck → a ≡ Ok k → read_deck deck ≡ fine d → Opened d k
opened deck t a k d e h f =
    let q = answer_known deck t a e k d h f in
    record { inside = read_in deck d f; classes = ap (λ (x : Known). x.header.classes) (sym q); individuals = ap (λ (x : Known). x.header.individuals) (sym q); roles = ap (λ (x : Known). x.header.roles) (sym q) }

-- ---- what was loaded
pub loaded_in : (deck w : List ℕ) (k : Counters) (n : ℕ) (d : Known) → LoadedAs 0 (read_deck deck) w (Loads.Accepted k n) → read_deck deck ≡ fine d → InScratch d w k n
loaded_in deck w k n d (loaded e _ _ f H) g = record { inside = read_in deck d g; holds = subst (λ (x : Known). Holds x 0 w k n) (fine_same e d (sym f ∙ g)) H }

pub not_stopped : {P : Type 0} (deck w : List ℕ) (e line : ℕ) (d : Known) → LoadedAs 0 (read_deck deck) w (Loads.Refused e line) → read_deck deck ≡ fine d → P
not_stopped deck w e line d (stopped _ _ f) g = fine_refused d e line (sym f ∙ g)

-- ---- a state read beside it
module _ (d : Known) (v v' w : List ℕ) (k : Counters) (n : ℕ) (S : InScratch d v k n) (K : KeptTo deck_words v v') (long : length v' ≡ length v) where
  abbrev H : Holds d 0 v k n
  H = S.holds

  held_there : Held v (length d.concepts) (members d.concepts)
  held_there = subst (λ (c : Counters). Held v c.concepts c.members) H.counters H.held

  pool_there : pool_of v (length d.concepts) ≡ d.concepts
  pool_there = subst (λ (c : Counters). pool_of v c.concepts ≡ d.concepts) H.counters H.pool

  lines_there : AxiomsHeld v (length d.axioms)
  lines_there = subst (AxiomsHeld v) H.count H.lines

  same_records : Same v v' (length d.concepts) (members d.concepts)
  same_records = record {
    records = λ i h. K i (omega (arith, held_there.few));
    members = λ i h. K (members_at + i) (omega (arith, held_there.space));
  }

  pub ready_beside : (I : Interpretation) → Laid I d.header.roles w v' → Proper d I → Ready d I w v'
  ready_beside I L P = record {
    inside = S.inside;
    held = held_same v v' (length d.concepts) (members d.concepts) held_there same_records long (λ h l. K (heads_at + h) (omega arith));
    pool = pool_same v v' (length d.concepts) (members d.concepts) held_there same_records (length d.concepts) (le_refl _) ∙ pool_there;
    lines = held_axioms v v' (length d.axioms) lines_there (λ j _ h. K j (omega arith));
    listed = axioms_kept v v' (length d.axioms) lines_there (λ j _ h. K j (omega arith)) ∙ subst (λ (m : ℕ). axioms_of v m ≡ d.axioms) H.count H.axioms;
    laid = L;
    proper = P;
  }

  pub fits_beside : (I : Interpretation) (size : ℕ) → size ≡ I.size → Fits d I (trial_of k n size)
  fits_beside I size e = rw H.counters (record { size = e; base = refl; concepts = refl; axioms = H.count; line = refl })

-- ---- what the state's reading says
pub record Stating (d : Known) (m : Limits) (text w v : List ℕ) (size : ℕ) : Type 0 where
  pub state : State
  pub read : read_state d m.fresh text ≡ stated state
  pub elements : size ≡ (interpretation_of d state).size
  pub laid : Laid (interpretation_of d state) d.header.roles w v
  pub proper : Proper d (interpretation_of d state)

module _ (d : Known) (m : Limits) (text w v : List ℕ) (D : Declares d m) where
  pub stated_as : (r : Result ℕ BadLine) (size : ℕ) → r ≡ Ok size → StatedAs d m (read_state d m.fresh text) w v r → Stating d m text w v size
  stated_as r size e h = go (read_state d m.fresh text) refl (subst (StatedAs d m (read_state d m.fresh text) w v) e h)
    where
      go : (x : StateTold) → read_state d m.fresh text ≡ x → StatedAs d m x w v (Ok size) → Stating d m text w v size
      go (stated s) q z = record { state = s; read = q; elements = z.0; laid = subst (λ (n : ℕ). Laid (interpretation_of d s) n w v) (sym D.roles) z.1; proper = read_proper d s (read_sound d m.fresh s text q) }
      go (bad line) q z = absurd z
      go unread q z = absurd z

  pub bad_as : (r : Result ℕ BadLine) (b : BadLine) → r ≡ Err b → StatedAs d m (read_state d m.fresh text) w v r → read_state d m.fresh text ≡ bad b.line
  bad_as r b e h = go (read_state d m.fresh text) refl (subst (StatedAs d m (read_state d m.fresh text) w v) e h)
    where
      go : (x : StateTold) → read_state d m.fresh text ≡ x → StatedAs d m x w v (Err b) → x ≡ bad b.line
      go (stated s) q z = absurd z
      go (bad l) q z = ap bad (sym z)
      go unread q z = absurd z

-- ---- behind the concepts' sets
pub ready_after : (d : Known) (I : Interpretation) (w s s' : List ℕ) → Ready d I w (words s) → length s' ≡ length s → KeptTo deck_words (words s) (words s') → KeptIn 86016 393216 (words s) (words s') → Ready d I w (words s')
ready_after d I w s s' R e K L =
    ready_kept d I w (words s) R (words s') K (λ i a b. L i (omega arith) b) (length_words s' ∙ ap (λ (n : ℕ). n / 4) e ∙ sym (length_words s))

pub sets_after : (store s s' : List ℕ) (t : Trial) (R : ReadyThere store s t) → length s' ≡ length s → KeptTo deck_words (words s) (words s') → KeptIn 86016 393216 (words s) (words s')
    → ConceptSets R.known R.meant (length R.known.concepts) (words s') → SetsThere store s' t
sets_after store s s' t R e K L C = record {
  known = R.known;
  meant = R.meant;
  ready = ready_after R.known R.meant (words store) s s' R.ready e K L;
  fits = R.fits;
  sets = C;
  room = R.room;
  space = omega (arith, e, R.space);
}

-- ---- the clauses' test
individual_low : (d : Known) (c : ℕ) → DeckIn d → 8192 ≤ c → is_individual_class d c ≡ false
individual_low d c D h = by_truth (is_individual_class d c)
    (λ e. let q = ltb-true c (d.header.classes + d.header.individuals) (and_right (leb d.header.classes c) (ltb c (d.header.classes + d.header.individuals)) e) in absurd (omega (arith, D.classes, D.individuals)))
    (λ e. e)

pub found_beside : (d : Known) (m : Limits) (text w v : List ℕ) (size : ℕ) (T : Stating d m text w v size) → DeckIn d → 16384 ≤ length w → Found (interpretation_of d T.state) text w
found_beside d m text w v size T D h = record {
  beyond = λ c x l.
      let e = individual_low d c D (omega arith) in
      let q = scanned_read d m.fresh T.state c text T.read in
      rw e (ap (λ (k : List ℕ). contains k x) (sym q));
}

pub clausal_beside : (d : Known) (m : Limits) (text w v c a : List ℕ) (size count : ℕ) (l : List Clause) (T : Stating d m text w v size) → DeckIn d → 16384 ≤ length w → Clauses d count l c a
    → Clausal (interpretation_of d T.state) d.header.roles size count l text c a w v
clausal_beside d m text w v c a size count l T D h C = record {
  given = record { laid = T.laid; found = found_beside d m text w v size T D h; elements = T.elements; few = D.roles };
  tabled = C.tabled;
  names = C.names;
}
