-- What a user sees who tests the axioms and then the clauses of one deck with one state: demand 3, of the two verdicts. Assumes
-- nothing.
use Rattle.std.specs.Prelude.{◌≡◌, Bool, not, ◌||◌, List, ◌⊎◌, ℕ, ◌+◌, ltb, leb}
use Rattle.std.proofs.Math.Path.{refl, fun_ext}
use Rattle.std.proofs.Common.{sym, ap, ◌∙◌, subst, inl, inr, arith, ltb-true, leb-true}
use Rattle.std.proofs.Math.Bool.{true, false}
use Rattle.std.proofs.lemmas.Bool.{false≢true}
use Rattle.rules.specs.Base.{any}
use Rattle.rules.specs.Deck.{Known, Told, fine, read_deck, axiom_line}
use Rattle.rules.specs.Deck as Deck
use Rattle.rules.specs.Run.{Accepted, Outcome, accepted, Run, first_fresh}
use Rattle.rules.specs.Run as Run
use Rattle.rules.proofs.RunLaws.{run_decoded}
use Rattle.rules.specs.Semantics.{Interpretation, with_classes, satisfied}
use Rattle.rules.specs.Statements.{is_fresh, is_inverse_axiom, is_clausified, satisfies_some, satisfies_all, clauses_of, all_hold, Provisos}
use Rattle.meaning.specs.Truth.{and_left, and_right, by_truth}
use Rattle.meaning.proofs.Theorem.{demand_three_first, demand_three_second}
use Rattle.states.specs.State.{State, StateTold, stated, bad, unread, read_state, interpretation_of}
use Rattle.states.specs.Conditions.{axiom_broken}
use Rattle.states.specs.Test.{Test, axioms, clauses, Verdict, holds, broken, Tested, told, refused, axioms_verdict, clauses_verdict, wide_clause, unless_wide, verdict_on, on_state, on_run, Lent, lent_ok, test_sized, test_state}
use Rattle.states.specs.LeastLaws.{is_none}
use Rattle.states.specs.HoldsLaws.{axiom_holds}
use Rattle.states.specs.VerdictLaws.{is_holds, holds_is, First, first_passes, axioms_hold, clauses_hold_lem}
use Rattle.states.specs.ProperLaws.{read_sound, read_proper}

-- ---- where a verdict is told, the deck was read and run, and the state read
pub record Given (deck s : List ℕ) (t : Lent) (a : Accepted) : Type 0 where
  pub known : Known
  pub read : read_deck deck ≡ fine known
  pub run : Run deck t.run ≡ accepted a
  pub state : State
  pub stated_as : read_state known a.fresh_ids s ≡ stated state

abbrev pub meant : {deck s : List ℕ} {t : Lent} {a : Accepted} → Given deck s t a → Interpretation
meant G = interpretation_of G.known G.state

pub told_refused : {P : Type 0} (a : Accepted) (v : Verdict) (n line : ℕ) → refused n line ≡ told a v → P
told_refused a v n line e = absurd (false≢true (ap is_refused (sym e)))
  where
    is_refused : Tested → Bool
    is_refused (told a v) = false
    is_refused (refused n line) = true

pub told_run : (a b : Accepted) (v w : Verdict) → told a v ≡ told b w → (a ≡ b) × (v ≡ w)
told_run a b v w e = (ap run e, ap verdict e)
  where
    run : Tested → Accepted
    run (told a v) = a
    run (refused n line) = a

    verdict : Tested → Verdict
    verdict (told a v) = v
    verdict (refused n line) = v

abbrev verdict_by : Test → Known → Accepted → Interpretation → Verdict
verdict_by axioms d a I = axioms_verdict I d
verdict_by clauses d a I = clauses_verdict I a.clauses

pub record ToldBy (k : Test) (deck s : List ℕ) (t : Lent) (a : Accepted) (v : Verdict) : Type 0 where
  pub given : Given deck s t a
  pub verdict : v ≡ verdict_by k given.known a (meant given)

module _ (k : Test) (deck s : List ℕ) (t : Lent) (a : Accepted) (v : Verdict) where
  on_verdict_lem : (d : Known) (b : Accepted) (I : Interpretation) → verdict_on k d b I ≡ told a v → (b ≡ a) × (verdict_by k d b I ≡ v)
  on_verdict_lem d b I h = by k h
    where
      wide : (x : Bool) → unless_wide b (clauses_verdict I b.clauses) x ≡ told a v → (b ≡ a) × (clauses_verdict I b.clauses ≡ v)
      wide true q = told_refused a v 14 0 q
      wide false q = told_run b a (clauses_verdict I b.clauses) v q

      by : (k : Test) → verdict_on k d b I ≡ told a v → (b ≡ a) × (verdict_by k d b I ≡ v)
      by axioms q = told_run b a (axioms_verdict I d) v q
      by clauses q = wide (any wide_clause b.clauses) q

  on_state_lem : (d : Known) (b : Accepted) (x : StateTold) → read_deck deck ≡ fine d → Run deck t.run ≡ accepted b → read_state d b.fresh_ids s ≡ x → on_state k d b x ≡ told a v → ToldBy k deck s t a v
  on_state_lem d b (stated u) r q e h =
      let w = on_verdict_lem d b (interpretation_of d u) h in
      subst (λ (c : Accepted). ToldBy k deck s t c v) w.0 (record { given = record { known = d; read = r; run = q; state = u; stated_as = e }; verdict = sym w.1 })
  on_state_lem d b (bad line) r q e h = told_refused a v 13 line h
  on_state_lem d b unread r q e h = told_refused a v 0 0 h

  on_run_lem : (x : Told) (o : Outcome) → read_deck deck ≡ x → Run deck t.run ≡ o → on_run k x o s ≡ told a v → ToldBy k deck s t a v
  on_run_lem (fine d) (accepted b) r q h = on_state_lem d b (read_state d b.fresh_ids s) r q refl h
  on_run_lem (fine d) (Run.refused n line) r q h = told_refused a v n line h
  on_run_lem (Deck.refused n line) (accepted b) r q h = told_refused a v n line h
  on_run_lem (Deck.refused n line) (Run.refused m at) r q h = told_refused a v m at h

  pub told_by : test_state k deck s t ≡ told a v → ToldBy k deck s t a v
  unfolding test_state
  told_by h = go (lent_ok t) h
    where
      go : (b : Bool) → test_sized k deck s t b ≡ told a v → ToldBy k deck s t a v
      go true q = on_run_lem (read_deck deck) (Run deck t.run) refl refl q
      go false q = told_refused a v 1 0 q

-- a deck and a state have one reading
known_of_lem : Known → Told → Known
known_of_lem d (fine e) = e
known_of_lem d (Deck.refused n line) = d

state_of_lem : State → StateTold → State
state_of_lem u (stated w) = w
state_of_lem u (bad line) = u
state_of_lem u unread = u

pub given_known : (deck s text : List ℕ) (t : Lent) (a : Accepted) (T : Given deck s t a) (G : Given deck text t a) → T.known ≡ G.known
unfolding known_of_lem
given_known deck s text t a T G = ap (known_of_lem T.known) (sym T.read ∙ G.read)

pub given_same : (deck s : List ℕ) (t : Lent) (a : Accepted) (T G : Given deck s t a) → meant T ≡ meant G
unfolding state_of_lem
given_same deck s t a T G =
    let one = given_known deck s s t a T G in
    let two : T.state ≡ G.state = ap (state_of_lem T.state) (sym T.stated_as ∙ ap (λ (d : Known). read_state d a.fresh_ids s) one ∙ G.stated_as) in
    ap (λ (d : Known). interpretation_of d T.state) one ∙ ap (interpretation_of G.known) two

-- ---- the two tests refuse alike, but for 14
pub refused_alike : (deck s : List ℕ) (t : Lent) (n line : ℕ) → test_state axioms deck s t ≡ refused n line → test_state clauses deck s t ≡ refused n line
unfolding test_state
refused_alike deck s t n line h = go (lent_ok t) h
  where
    state : (d : Known) (a : Accepted) (x : StateTold) → on_state axioms d a x ≡ refused n line → on_state clauses d a x ≡ refused n line
    state d a (stated u) q = told_refused a (axioms_verdict (interpretation_of d u) d) n line (sym q)
    state d a (bad l) q = q
    state d a unread q = q

    run : (x : Told) (o : Outcome) → on_run axioms x o s ≡ refused n line → on_run clauses x o s ≡ refused n line
    run (fine d) (accepted a) q = state d a (read_state d a.fresh_ids s) q
    run (fine d) (Run.refused m l) q = q
    run (Deck.refused m l) (accepted a) q = q
    run (Deck.refused m l) (Run.refused m₂ l₂) q = q

    go : (b : Bool) → test_sized axioms deck s t b ≡ refused n line → test_sized clauses deck s t b ≡ refused n line
    go true q = run (read_deck deck) (Run deck t.run) q
    go false q = q

-- ---- the same but for the fresh classes
pub record Alike (d : Known) (fresh_ids : ℕ) (I J : Interpretation) : Type 0 where
  pub size : J.size ≡ I.size
  pub roles : J.role ≡ I.role
  pub individuals : J.individual ≡ I.individual
  pub same : (c : ℕ) → is_fresh d fresh_ids c ≡ false → J.class c ≡ I.class c

-- ---- half one: where the axioms hold, the fresh classes' lines can be chosen, nothing else changing, so that the clauses hold
module _ (deck s : List ℕ) (t : Lent) (a : Accepted) where
  pub record Choosable (G : Given deck s t a) : Type 0 where
    pub sets : ℕ → ℕ → Bool
    pub same : (c : ℕ) → is_fresh G.known a.fresh_ids c ≡ false → sets c ≡ (meant G).class c
    pub hold : clauses_verdict (with_classes (meant G) sets) a.clauses ≡ holds

  pub axioms_then_clauses : test_state axioms deck s t ≡ told a holds → (G : Given deck s t a) × Choosable G
  axioms_then_clauses h =
      let T = told_by axioms deck s t a holds h in
      let G = T.given in
      let I = meant G in
      let R = read_sound G.known a.fresh_ids G.state s G.stated_as in
      let every_holds : satisfies_all G.known I ≡ true = sym (axioms_hold I G.known) ∙ ap is_holds (sym T.verdict) in
      let X = demand_three_first deck t.run G.known a G.read G.run I (read_proper G.known G.state R) every_holds in
      let decoded = run_decoded deck t.run G.known a G.read G.run in
      (G, record { sets = X.sets; same = X.same; hold = holds_is _ (clauses_hold_lem (with_classes I X.sets) a.clauses ∙ ap (all_hold (with_classes I X.sets)) (sym decoded) ∙ X.hold) })

  -- the same as a text that a user can enter (proved in InText)
  pub record Repair (G : Given deck s t a) : Type 0 where
    pub text : List ℕ
    pub given : Given deck text t a
    pub alike : Alike G.known a.fresh_ids (meant G) (meant given)
    pub hold : clauses_verdict (meant given) a.clauses ≡ holds

  abbrev pub HalfOneInText : Type 0
  HalfOneInText = test_state axioms deck s t ≡ told a holds → (G : Given deck s t a) × Repair G

  -- without fresh classes there is nothing to choose
  none_fresh_lem : (d : Known) (n c : ℕ) → n ≡ 0 → is_fresh d n c ≡ false
  none_fresh_lem d n c e = by_truth (is_fresh d n c)
      (λ q. let l = leb-true (first_fresh d) c (and_left (leb (first_fresh d) c) (ltb c (first_fresh d + n)) q) in
      let h = ltb-true c (first_fresh d + n) (and_right (leb (first_fresh d) c) (ltb c (first_fresh d + n)) q) in absurd (omega arith))
      (λ q. q)

  pub none_to_choose : (v : Verdict) → a.fresh_ids ≡ 0 → test_state axioms deck s t ≡ told a holds → test_state clauses deck s t ≡ told a v → v ≡ holds
  none_to_choose v e h k =
      let X = axioms_then_clauses h in
      let G = X.0 in
      let C = X.1 in
      let T = told_by clauses deck s t a v k in
      let sets : C.sets ≡ (meant G).class = fun_ext (λ c. C.same c (none_fresh_lem G.known a.fresh_ids c e)) in
      T.verdict ∙ ap (λ (I : Interpretation). clauses_verdict I a.clauses) (given_same deck s t a T.given G) ∙ ap (λ m. clauses_verdict (with_classes (meant G) m) a.clauses) (sym sets) ∙ C.hold

  -- ---- half two: where the clauses hold, under the provisos an axiom that is broken is read only (32 to 36), or an inverse-role
  -- axiom is broken
  pub clauses_then_axioms : (n : ℕ) (l : List ℕ) → test_state clauses deck s t ≡ told a holds → test_state axioms deck s t ≡ told a (broken n l)
      → (G : Given deck s t a) → Provisos G.known a.fresh_ids a.stats.deferred (clauses_of t.run a)
      → (satisfies_some is_inverse_axiom G.known (meant G) ≡ false) ⊎ ((F : First (axiom_broken (meant G) G.known.concepts) (axiom_line G.known 0) G.known.axioms n l) → is_clausified F.this ≡ false)
  clauses_then_axioms n l h k G P = by_truth (satisfies_some is_inverse_axiom G.known (meant G))
      (λ e. inr (λ F. by_truth (is_clausified F.this) (λ c. absurd (clash e F c)) (λ c. c)))
      (λ e. inl e)
    where
      clash : satisfies_some is_inverse_axiom G.known (meant G) ≡ true → (F : First (axiom_broken (meant G) G.known.concepts) (axiom_line G.known 0) G.known.axioms n l) → is_clausified F.this ≡ true → ⊥
      clash e F c =
          let T = told_by clauses deck s t a holds h in
          let R = read_sound G.known a.fresh_ids G.state s G.stated_as in
          let held : clauses_verdict (meant G) a.clauses ≡ holds = ap (λ I. clauses_verdict I a.clauses) (sym (given_same deck s t a T.given G)) ∙ sym T.verdict in
          let decoded = run_decoded deck t.run G.known a G.read G.run in
          let every : all_hold (meant G) (clauses_of t.run a) ≡ true = ap (all_hold (meant G)) decoded ∙ sym (clauses_hold_lem (meant G) a.clauses) ∙ ap is_holds held in
          let S = demand_three_second deck t.run G.known a G.read G.run P (meant G) (read_proper G.known G.state R) every e in
          let here : (not (is_clausified F.this) || satisfied (meant G) G.known.concepts F.this) ≡ true =
          first_passes (axiom_broken (meant G) G.known.concepts) (axiom_line G.known 0) G.known.axioms n l F (λ b. not (is_clausified b) || satisfied (meant G) G.known.concepts b) S in
          let sat : satisfied (meant G) G.known.concepts F.this ≡ true = rw c at here in
          false≢true (sym (axiom_holds (meant G) G.known.concepts F.this ∙ ap is_none F.breaks) ∙ sat)
