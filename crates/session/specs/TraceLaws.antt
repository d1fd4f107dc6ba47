-- After any calls a session holds a deck whose content is the start's, folded over them: counts, key marks and concepts as at the start,
-- the options taken last, the axioms in order of adding. Each taking is a run of that deck. Assumes nothing.
use Rattle.std.specs.Prelude.{◌≡◌, refl, Bool, true, false, List, [], ◌∷◌, ◌++◌, ℕ, ◌+◌, ◌-◌, length, get_or, drop}
use Rattle.std.proofs.Common.{sym, ap, ap₂, subst, ◌∙◌, arith, take_at, drop_at, length-append, append_assoc}
use Rattle.ir.specs.Pick.{pick}
use Rattle.rules.specs.Text.{row_of}
use Rattle.rules.specs.Concept.{Concept, Axiom}
use Rattle.rules.specs.Deck.{section_of, axiom_of, axiom_line, Header, Known, optioned, entered, fine, read_deck}
use Rattle.session.specs.Session.{stored, Holding, holds, no_deck, Did, done, refused, add_to, strike_from, options_in, on_holding, scratch_ok, live, call_start, session_after, session_started, Done, said_of}
use Rattle.session.specs.StartLaws.{begun_done}
use Rattle.session.specs.HeldLaws.{held_stored, take_stored}
use Rattle.session.specs.SessionLaws.{add_law}
use Rattle.session.specs.PlaceLaws.{strike_is}
use Rattle.session.specs.HeaderLaws.{options_is}
use Rattle.session.specs.Trace.{Call, add, strike, options, did, after_call, after_calls, Content, content, axiom_said, but, with_axioms, first_line, effect, is_done, content_after, content_afters, Holds}

holds_now : (deck : List ℕ) (d : Known) (b : Content) → read_deck deck ≡ fine d → content d ≡ b → Holds (stored deck) b
holds_now deck d b e q = record { deck = deck; known = d; is = refl; read = e; what = q; takings = λ t. take_stored deck d t e }

-- ---- what each call that is done makes
content_is : {h h' : Header} {k k' : List ℕ} {c c' : List Concept} {a a' : List Axiom} → h ≡ h' → k ≡ k' → c ≡ c' → a ≡ a'
    → ◌≡◌ {A = Content} (record { header = h; keys = k; concepts = c; axioms = a }) (record { header = h'; keys = k'; concepts = c'; axioms = a' })
content_is e f g i = rw (e, f, g, i) refl

entered_rest : (d : Known) (k : ℕ) (r : List ℕ) (l : List Axiom) → section_of k ≡ 4 → (entered d k r).axioms ≡ l → content (entered d k r) ≡ with_axioms (content d) l
unfolding entered
entered_rest d k r l four e = rw four (content_is refl refl refl (rw four at e))

but_at : (l m : List Axiom) (x : Axiom) (i : ℕ) → length l ≡ i → but i (l ++ (x ∷ m)) ≡ l ++ m
but_at l m x i e =
    let f : length (l ++ (x ∷ [])) ≡ i + 1 = length-append l (x ∷ []) ∙ omega (arith, e) in
    ap₂ {C = List Axiom} ◌++◌ (take_at l (x ∷ m) i e) (ap (drop (i + 1)) (sym (append_assoc l (x ∷ []) m)) ∙ drop_at (l ++ (x ∷ [])) m (i + 1) f)

module _ (deck : List ℕ) (d : Known) (e : read_deck deck ≡ fine d) (after : List ℕ) where
  add_step : (text : List ℕ) (n : ℕ) → add_to deck d text ≡ done after → Holds (stored after) (effect (add text n) (content d))
  add_step text n q =
      let A = add_law deck d text after e q in
      let x : axiom_of (get_or A.numbers 0 0) A.numbers ≡ axiom_said (row_of text) = ap axiom_said (sym A.said) in
      holds_now after (entered d (get_or A.numbers 0 0) A.numbers) (effect (add text n) (content d)) A.read
      (entered_rest d (get_or A.numbers 0 0) A.numbers _ A.axiom_row (A.axioms ∙ ap (λ (y : Axiom). d.axioms ++ (y ∷ [])) x))

  strike_step : (line n : ℕ) → strike_from deck d line ≡ done after → Holds (stored after) (effect (strike line n) (content d))
  strike_step line n q =
      let S = strike_is deck d line after e q in
      let i : length S.earlier ≡ line - axiom_line d 0 = omega (arith, S.place) in
      let j : line - axiom_line d 0 ≡ line - first_line (content d) = omega arith in
      holds_now after S.left (effect (strike line n) (content d)) S.read
      (content_is S.fewer.header S.fewer.keys S.fewer.concepts (S.are ∙ sym (ap (but (line - axiom_line d 0)) S.were ∙ but_at S.earlier S.later S.it (line - axiom_line d 0) i) ∙ ap (λ (m : ℕ). but m d.axioms) j))

  options_step : (o n : ℕ) → options_in deck d o ≡ done after → Holds (stored after) (effect (options o n) (content d))
  options_step o n q = holds_now after (optioned d o) (effect (options o n) (content d)) (options_is deck d o after e q) refl

-- ---- one call
did_live : (deck : List ℕ) (d : Known) (n : ℕ) → read_deck deck ≡ fine d → live (stored deck) n ≡ pick (scratch_ok n) (holds deck d) no_deck
unfolding live
did_live deck d n e = ap (λ (h : Holding). pick (scratch_ok n) h no_deck) (held_stored deck d e)

-- by what the live deck's own rule says
ruled : Call → List ℕ → Known → Did
ruled (add text n) deck d = add_to deck d text
ruled (strike line n) deck d = strike_from deck d line
ruled (options o n) deck d = options_in deck d o

scratch_of : Call → ℕ
scratch_of (add text n) = n
scratch_of (strike line n) = n
scratch_of (options o n) = n

step : (c : Call) (deck : List ℕ) (d : Known) → read_deck deck ≡ fine d → (after : List ℕ) → ruled c deck d ≡ done after → Holds (stored after) (effect c (content d))
unfolding ruled
step (add text n) deck d e after q = add_step deck d e after text n q
step (strike line n) deck d e after q = strike_step deck d e after line n q
step (options o n) deck d e after q = options_step deck d e after o n q

did_ruled : (c : Call) (deck : List ℕ) (d : Known) → read_deck deck ≡ fine d → did c (stored deck) ≡ pick (scratch_ok (scratch_of c)) (ruled c deck d) (refused 1 0)
unfolding ruled scratch_of
did_ruled (add text n) deck d e = ap (λ (h : Holding). on_holding h (λ deck d. add_to deck d text)) (did_live deck d n e) ∙ by (scratch_ok n)
  where
    by : (b : Bool) → on_holding (pick b (holds deck d) no_deck) (λ deck d. add_to deck d text) ≡ pick b (add_to deck d text) (refused 1 0)
    by true = refl
    by false = refl
did_ruled (strike line n) deck d e = ap (λ (h : Holding). on_holding h (λ deck d. strike_from deck d line)) (did_live deck d n e) ∙ by (scratch_ok n)
  where
    by : (b : Bool) → on_holding (pick b (holds deck d) no_deck) (λ deck d. strike_from deck d line) ≡ pick b (strike_from deck d line) (refused 1 0)
    by true = refl
    by false = refl
did_ruled (options o n) deck d e = ap (λ (h : Holding). on_holding h (λ deck d. options_in deck d o)) (did_live deck d n e) ∙ by (scratch_ok n)
  where
    by : (b : Bool) → on_holding (pick b (holds deck d) no_deck) (λ deck d. options_in deck d o) ≡ pick b (options_in deck d o) (refused 1 0)
    by true = refl
    by false = refl

one_call : (c : Call) (deck : List ℕ) (d : Known) → read_deck deck ≡ fine d → Holds (after_call c (stored deck)) (content_after c (stored deck) (content d))
one_call c deck d e =
    subst (λ (x : Did). Holds (session_after (stored deck) x) (pick (is_done x) (effect c (content d)) (content d))) (sym (did_ruled c deck d e)) (by (scratch_ok (scratch_of c)) (ruled c deck d) refl)
  where
    by : (b : Bool) (x : Did) → ruled c deck d ≡ x → Holds (session_after (stored deck) (pick b x (refused 1 0))) (pick (is_done (pick b x (refused 1 0))) (effect c (content d)) (content d))
    by false x q = holds_now deck d (content d) e refl
    by true (done after) q = step c deck d e after q
    by true (refused k line) q = holds_now deck d (content d) e refl

-- ---- any calls
pub trace_law : (l : List Call) (s : List ℕ) (b : Content) → Holds s b → Holds (after_calls l s) (content_afters l s b)
unfolding after_calls content_afters
trace_law [] s b H = H
trace_law (c ∷ l) s b H =
    trace_law l (after_call c s) (content_after c s b)
    (subst (λ (x : Content). Holds (after_call c s) (content_after c s x)) H.what
    (subst (λ (z : List ℕ). Holds (after_call c z) (content_after c z (content H.known))) (sym H.is) (one_call c H.deck H.known H.read)))

-- of one call's contract
pub goes_on : (c : Call) (s s' : List ℕ) (b : Content) → s' ≡ after_call c s → Holds s b → Holds s' (content_after c s b)
unfolding after_calls content_afters
goes_on c s s' b e H = subst (λ (z : List ℕ). Holds z (content_after c s b)) (sym e) (trace_law (c ∷ []) s b H)

pub begins : (s s' deck : List ℕ) (n : ℕ) (d : Known) → s' ≡ session_started s (call_start (length s) deck n) → read_deck deck ≡ fine d → Done ≡ said_of (call_start (length s) deck n) → Holds s' (content d)
begins s s' deck n d e r q = let B = begun_done (length s) deck n q in subst (λ (z : List ℕ). Holds z (content d)) (sym (e ∙ ap (session_started s) B.is)) (holds_now deck d (content d) r refl)

-- from a start that was done
pub from_start : (deck : List ℕ) (d : Known) (l : List Call) → read_deck deck ≡ fine d → Holds (after_calls l (stored deck)) (content_afters l (stored deck) (content d))
from_start deck d l e = trace_law l (stored deck) (content d) (holds_now deck d (content d) e refl)

-- ---- counts, key marks and concepts are the start's
pub record Kept (b b' : Content) : Type 0 where
  pub classes : b'.header.classes ≡ b.header.classes
  pub individuals : b'.header.individuals ≡ b.header.individuals
  pub roles : b'.header.roles ≡ b.header.roles
  pub keys : b'.keys ≡ b.keys
  pub concepts : b'.concepts ≡ b.concepts

kept_call : (c : Call) (b : Content) (x : Bool) → Kept b (pick x (effect c b) b)
kept_call c b false = record { classes = refl; individuals = refl; roles = refl; keys = refl; concepts = refl }
kept_call (add text n) b true = record { classes = refl; individuals = refl; roles = refl; keys = refl; concepts = refl }
kept_call (strike line n) b true = record { classes = refl; individuals = refl; roles = refl; keys = refl; concepts = refl }
kept_call (options o n) b true = record { classes = refl; individuals = refl; roles = refl; keys = refl; concepts = refl }

pub kept : (l : List Call) (s : List ℕ) (b : Content) → Kept b (content_afters l s b)
unfolding content_afters
kept [] s b = record { classes = refl; individuals = refl; roles = refl; keys = refl; concepts = refl }
kept (c ∷ l) s b =
    let K = kept_call c b (is_done (did c s)) in
    let L = kept l (after_call c s) (content_after c s b) in
    record { classes = L.classes ∙ K.classes; individuals = L.individuals ∙ K.individuals; roles = L.roles ∙ K.roles; keys = L.keys ∙ K.keys; concepts = L.concepts ∙ K.concepts }
