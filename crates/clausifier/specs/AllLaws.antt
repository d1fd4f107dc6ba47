-- Axiom after axiom. Assumes nothing.
use Rattle.std.specs.Prelude.{◌≡◌, List, ℕ, ◌+◌, ◌-◌, ◌<◌, ◌≤◌, length}
use Rattle.std.proofs.Math.Path.{refl}
use Rattle.std.proofs.Common.{sym, ap, subst, ◌∙◌, arith}
use Prim.{Unit, tt}
use Rattle.words.specs.Words.{words}
use Rattle.words.specs.Laws.{words_long}
use Rattle.ir.specs.Counts.{at_line}
use Rattle.ir.specs.declared.counters.Counters.{Counters}
use Rattle.ir.specs.Answer.{Answer}
use Rattle.ir.specs.Answer.{Done, Refused}
use Rattle.ir.specs.Lined.{Finished, Stopped}
use Rattle.rules.specs.Base.{Res, ok, refused}
use Rattle.rules.specs.State.{Env, Out, Rooms}
use Rattle.rules.specs.Axioms.{Clausifier, clausify_whole}
use Rattle.rules.specs.Invariants.{Each, Bounds, AxiomIn}
use Rattle.rules.specs.Post.{Post, post_ok}
use Rattle.rules.proofs.NormalizeLaws.{axioms_more}
use Rattle.rules.proofs.SettleLaws as Rules
use Rattle.rules.proofs.SettleLaws.{ready_at, whole_ready}
use Rattle.rules.specs.Handed.{Ready}
use Rattle.rules.specs.Run.{Lined, done, lined, lined_then, at_line as line_at, clausifier_at, clausify_axioms}
use Rattle.pool.specs.Layout.{tab, pool_of}
use Rattle.pool.specs.Held.{Held}
use Rattle.pool.specs.Answers.{sized}
use Rattle.pool.specs.HeldLaws.{pool_length}
use Rattle.pool.specs.Tabs.{tab_next, tab_end, tab_each}
use Rattle.pool.specs.AnswerLaws.{sized_same}
use Rattle.ontology.specs.Layout.{axiom_at, axioms_of}
use Rattle.tables.specs.Drawn.{Tables, tables, show, counters_in, clauses_in, atoms_in, deferrals_in}
use Rattle.tables.specs.Good.{Alike, alike_step, good_same}
use Rattle.hands.specs.Hands.{Four, four}
use Rattle.leaves.specs.StepLaws.{show_alike}
use Rattle.axioms.specs.BodyLaws.{encoding_kept}
use Rattle.axioms.specs.Wholes.{Whole, whole, drawn, shown_whole, after_whole, standing, Clausifying, ClausifyingAfter, Untouched, Onward, OnwardAnswer}
use Rattle.axioms.specs.WholeLaws.{drawn_same}
use Rattle.clausifier.specs.Arms.{AxiomsOf, AxiomOf}
use Rattle.clausifier.specs.Limited.{Readied, ReadyFor, Limited}
use Rattle.clausifier.specs.All.{shown_lined, after_lined, ReadyForAll, ClausifiedAll}
use Rattle.axioms.specs.OnwardLaws.{untouched_same, untouched_then, onward_same, onward_then}
use Rattle.lists.specs.TurnLaws.{env_turned}
use Rattle.ontology.specs.KeptAxioms.{axiom_kept}
use Rattle.clausifier.specs.KeptLaws.{axioms_of_kept}

-- ---- at another line
alike_line : (k k' : Counters) (n : ℕ) → k' ≡ at_line n k → Alike k k'
alike_line k k' n e = alike_step k k' (at_line n) e refl refl refl refl

onward_line : (k k' : Counters) (n : ℕ) → k' ≡ at_line n k → Onward k k'
onward_line k k' n e = let A = alike_line k k' n e in record { nominals = A.nominals; options = A.options; concepts = omega (arith, A.concepts) }

drawn_line : (k : Counters) (rooms : Rooms) (s : Out) (c a d : List ℕ) (n : ℕ) → tables k c a d ≡ show k rooms s → tables (at_line n k) c a d ≡ show k rooms (line_at n s)
unfolding show
drawn_line k rooms s c a d n e = ap (λ (h : Tables). tables (at_line n (counters_in h)) (clauses_in h) (atoms_in h) (deferrals_in h)) e

drawn_lined : (k k' : Counters) (rooms : Rooms) (s : Out) (c a d : List ℕ) (n : ℕ) → k' ≡ at_line n k → tables k c a d ≡ show k rooms s → tables k' c a d ≡ show k' rooms (line_at n s)
drawn_lined k k' rooms s c a d n q e =
    subst (λ (z : Counters). tables z c a d ≡ show z rooms (line_at n s)) (sym q)
    (drawn_line k rooms s c a d n e ∙ sym (show_alike k (at_line n k) rooms (line_at n s) (alike_line k (at_line n k) n refl)))

pub clausifying_line : (s : List ℕ) (k k' : Counters) (n : ℕ) → k' ≡ at_line n k → Clausifying s k → Clausifying s k'
clausifying_line s k k' n e C = record {
  encoding = encoding_kept s s k k' refl refl (alike_line k k' n e) C.encoding;
  good = good_same k k' (ap (λ (z : Counters). z.limit) e) (ap (λ (z : Counters). z.visits) e) (ap (λ (z : Counters). z.next_var) e) (ap (λ (z : Counters). z.next_class) e) C.good;
  space = C.space;
  queue = C.queue;
}

-- ---- the loop, from the counters k₀ and the words x₀: i of n axioms are done
pub record TurnSo (env : Env) (B : Bounds) (n line : ℕ) (w₀ : List ℕ) (z₀ : Clausifier) (k : Counters) (x : Four) (i : ℕ) : Type 0 where
  pub state : Out
  pub drawn : tables k x.clauses x.atoms x.deferrals ≡ show k env.rooms state
  pub ready : Ready B env (standing k x state)
  pub rest : clausify_axioms env line (axioms_of w₀ n) z₀ ≡ clausify_axioms env (line + i) (tab (axiom_at w₀) (0 + i) (n - i)) (standing k x state)

pub record Turn (n line : ℕ) (k₀ : Counters) (x₀ : Four) (k : Counters) (x : Four) (i : ℕ) : Type 0 where
  pub within : i ≤ n
  pub untouched : Untouched x₀.scratch x.scratch
  pub onward : Onward k₀ k
  pub so : (env : Env) (B : Bounds) (s : Out) → Readied env B k₀ x₀ s → Each (AxiomIn B k₀.concepts) (axioms_of x₀.scratch n) → TurnSo env B n line x₀.scratch (standing k₀ x₀ s) k x i

pub turn_first : (n line : ℕ) (k : Counters) (x : Four) → Turn n line k x k x 0
turn_first n line k x = record {
  within = omega arith;
  untouched = untouched_same x.scratch;
  onward = onward_same k;
  so = λ env B s P u. record {
    state = s;
    drawn = P.shown;
    ready = P.ready;
    rest =
        let a : line + 0 ≡ line = omega arith in
        let b : n - 0 ≡ n = omega arith in
        rw (a, b) refl;
  };
}

-- the state after an answer
module _ (k m : Counters) (rooms : Rooms) (y : Four) (z : Clausifier) (j : ℕ) (A : Onward k m) (H : Held y.scratch m.concepts m.members)
    (e : ◌≡◌ {A = Res Whole ℕ} (after_whole (Done m j) y) (ok 0 (drawn k rooms z))) where
  pool_is : pool_of y.scratch m.concepts ≡ z.pool
  pool_is = cc

  sized_is : sized m z.pool ≡ m
  sized_is = ap (sized m) (sym pool_is) ∙ sized_same y.scratch m H

  pub stands_drawn : tables m y.clauses y.atoms y.deferrals ≡ show m rooms z.out
  stands_drawn =
      let t : tables m y.clauses y.atoms y.deferrals ≡ show (sized k z.pool) rooms z.out = cc in
      let d = drawn_same k m rooms A.nominals A.options z in
      let u : show (sized m z.pool) rooms z.out ≡ show (sized k z.pool) rooms z.out = cc in
      t ∙ sym u ∙ ap (λ (c : Counters). show c rooms z.out) sized_is

  pub stands_is : z ≡ standing m y z.out
  stands_is = rw pool_is refl

module _ (n line : ℕ) (k₀ : Counters) (x₀ : Four) (A : AxiomsOf x₀.scratch k₀ n) (k : Counters) (x : Four) (i : ℕ) (T : Turn n line k₀ x₀ k x i) where
  pub turn_axioms : AxiomsOf x.scratch k n
  turn_axioms = axioms_of_kept x₀.scratch x.scratch k₀ k n T.untouched T.onward.concepts A

  same_axiom : i < n → axiom_at x.scratch i ≡ axiom_at x₀.scratch (0 + i)
  same_axiom h = let e : 0 + i ≡ i = omega arith in rw e (axiom_kept x₀.scratch x.scratch n A.held T.untouched.axioms i h)

  -- at its line
  module _ (h : i < n) (k' : Counters) (q : k' ≡ at_line (line + i) k) where
    at_line_lem : Onward k k'
    at_line_lem = onward_line k k' (line + i) q

    same_start : (s : Out) → standing k' x (line_at (line + i) s) ≡ clausifier_at (line + i) (standing k x s)
    same_start s = rw q refl

    pub turn_readied : length x.clauses ≡ length x₀.clauses → length x.atoms ≡ length x₀.atoms → length x.deferrals ≡ length x₀.deferrals
        → (env : Env) (B : Bounds) (s : Out) → Readied env B k₀ x₀ s → (S : TurnSo env B n line x₀.scratch (standing k₀ x₀ s) k x i) → Readied env B k' x (line_at (line + i) S.state)
    turn_readied lc la ld env B s P S = record {
      held = env_turned env k₀ k' x₀ x T.untouched (onward_then k₀ k k' T.onward at_line_lem) (record { clauses = lc; atoms = la; deferrals = ld }) P.held;
      shown = drawn_lined k k' env.rooms S.state x.clauses x.atoms x.deferrals (line + i) q S.drawn;
      roles = P.roles;
      ready = subst (Ready B env) (sym (same_start S.state)) (ready_at (line + i) S.ready);
    }

    pub turn_inside : (B : Bounds) → Each (AxiomIn B k₀.concepts) (axioms_of x₀.scratch n) → AxiomIn B k'.concepts (axiom_at x.scratch i)
    turn_inside B u =
        let m = axioms_more B k₀.concepts k'.concepts (axioms_of x₀.scratch n) (onward_then k₀ k k' T.onward at_line_lem).concepts u in
        subst (AxiomIn B k'.concepts) (sym (same_axiom h)) (tab_each (axiom_at x₀.scratch) (AxiomIn B k'.concepts) 0 n m i h)

  module _ (h : i < n) (k' : Counters) (q : k' ≡ at_line (line + i) k) (lc : length x.clauses ≡ length x₀.clauses) (la : length x.atoms ≡ length x₀.atoms) (ld : length x.deferrals ≡ length x₀.deferrals)
      (y : Four) (r : Answer) (D : Limited (axiom_at x.scratch i) k' x y r) where
    -- the next axiom, and those after it
    abbrev after : Env → Clausifier → Lined Clausifier (Unit {0})
    after env z = clausify_axioms env (line + i + 1) (tab (axiom_at x₀.scratch) (0 + (i + 1)) (n - (i + 1))) z

    abbrev next : Env → Out → Res Clausifier (Unit {0})
    next env s = clausify_whole env (axiom_at x.scratch i) (standing k' x (line_at (line + i) s))

    one_more_lem : (env : Env) (s : Out) → clausify_axioms env (line + i) (tab (axiom_at x₀.scratch) (0 + i) (n - i)) (standing k x s) ≡ lined_then (lined (line + i) (next env s)) (λ _ z. after env z)
    unfolding clausify_axioms
    one_more_lem env s = rw (tab_next (axiom_at x₀.scratch) 0 i n h, same_axiom h, same_start h k' q s) refl

    -- what the call did, for a state
    module _ (env : Env) (B : Bounds) (s : Out) (P : Readied env B k₀ x₀ s) (u : Each (AxiomIn B k₀.concepts) (axioms_of x₀.scratch n)) (S : TurnSo env B n line x₀.scratch (standing k₀ x₀ s) k x i) where
      told : after_whole r y ≡ shown_whole (λ _. 0) k' env.rooms (next env S.state)
      told = D.equal env B (line_at (line + i) S.state) (turn_readied h k' q lc la ld env B s P S) (turn_inside h k' q B u)

      ready_next : (z : Clausifier) → next env S.state ≡ ok tt z → Ready B env z
      ready_next z e =
          let p = standing k' x (line_at (line + i) S.state) in
          let a = axiom_at x.scratch i in
          let j : AxiomIn B (length p.pool) a = rw (pool_length x.scratch k'.concepts) (turn_inside h k' q B u) in
          (post_ok (λ _ v. Rules.Whole B p v × Ready B env v) tt z (subst (Post (λ _ v. Rules.Whole B p v × Ready B env v)) e (whole_ready B env P.roles a p (turn_readied h k' q lc la ld env B s P S).ready j))).1

    still : Untouched x₀.scratch y.scratch
    still = untouched_then x₀.scratch x.scratch y.scratch T.untouched D.untouched

    module _ (m : Counters) (j : ℕ) (e : r ≡ Done m j) (H : Held y.scratch m.concepts m.members) where
      onward_next : Onward k' m
      onward_next = subst (OnwardAnswer k') e D.onward

      go_on_lem : (env : Env) (B : Bounds) (z₀ : Clausifier) (X : Res Clausifier (Unit {0})) → after_whole (Done m j) y ≡ shown_whole (λ _. 0) k' env.rooms X
          → ((z : Clausifier) → X ≡ ok tt z → Ready B env z)
          → clausify_axioms env line (axioms_of x₀.scratch n) z₀ ≡ lined_then (lined (line + i) X) (λ _ z. after env z) → TurnSo env B n line x₀.scratch z₀ m y (i + 1)
      go_on_lem env B z₀ (ok tt z) p g l = record {
        state = z.out;
        drawn = stands_drawn k' m env.rooms y z j onward_next H p;
        ready = subst (Ready B env) (stands_is k' m env.rooms y z j onward_next H p) (g z refl);
        rest =
            let b : line + i + 1 ≡ line + (i + 1) = omega arith in
            let g : after env z ≡ after env (standing m y z.out) = ap (after env) (stands_is k' m env.rooms y z j onward_next H p) in
            l ∙ g ∙ rw b refl;
      }
      go_on_lem env B z₀ (refused x) p g l = absurd (let z : ◌≡◌ {A = ℕ} 0 1 = cc in omega arith)

      pub turn_next : Turn n line k₀ x₀ m y (i + 1)
      turn_next = record {
        within = omega arith;
        untouched = still;
        onward = onward_then k₀ k' m (onward_then k₀ k k' T.onward (at_line_lem h k' q)) onward_next;
        so = λ env B s P u.
            let S = T.so env B s P u in
            go_on_lem env B (standing k₀ x₀ s) (next env S.state) (subst (λ (a : Answer). after_whole a y ≡ shown_whole (λ _. 0) k' env.rooms (next env S.state)) e (told env B s P u S)) (ready_next env B s P u S)
            (S.rest ∙ one_more_lem env S.state);
      }

    module _ (o : ℕ) (e : r ≡ Refused o) where
      stop : (env : Env) (z₀ : Clausifier) (X : Res Clausifier (Unit {0})) → after_whole (Refused o) y ≡ shown_whole (λ _. 0) k' env.rooms X
          → clausify_axioms env line (axioms_of x₀.scratch n) z₀ ≡ lined_then (lined (line + i) X) (λ _ z. after env z) → after_lined (Stopped o (line + i)) y ≡ shown_lined k₀ env.rooms (clausify_axioms env line (axioms_of x₀.scratch n) z₀)
      stop env z₀ (ok a z) p l = absurd (let z : ◌≡◌ {A = ℕ} 0 1 = cc in omega arith)
      stop env z₀ (refused b) p l =
          let c : o ≡ b = cc in
          sym (ap (shown_lined k₀ env.rooms) l ∙ rw c refl)

      pub turn_stop : ClausifiedAll n line k₀ x₀ y (Stopped o (line + i))
      turn_stop = record {
        equal = λ env B s P u.
            let S = T.so env B s P u in
            stop env (standing k₀ x₀ s) (next env S.state) (subst (λ (a : Answer). after_whole a y ≡ shown_whole (λ _. 0) k' env.rooms (next env S.state)) e (told env B s P u S))
            (S.rest ∙ one_more_lem env S.state);
        untouched = still;
        onward = tt;
      }

  module _ (h : n ≤ i) (H : Held x.scratch k.concepts k.members) where
    nothing_left : (env : Env) (z : Clausifier) → clausify_axioms env (line + i) (tab (axiom_at x₀.scratch) (0 + i) (n - i)) z ≡ done tt z
    unfolding clausify_axioms
    nothing_left env z = rw (tab_end (axiom_at x₀.scratch) 0 i n h) refl

    -- drawn by the counters of the start
    last_drawn : (rooms : Rooms) (s : Out) → tables k x.clauses x.atoms x.deferrals ≡ show k rooms s → whole (pool_of x.scratch k.concepts) (tables k x.clauses x.atoms x.deferrals) ≡ drawn k₀ rooms (standing k x s)
    last_drawn rooms s t =
        let u : sized k (pool_of x.scratch k.concepts) ≡ k = sized_same x.scratch k H in
        ap (whole (pool_of x.scratch k.concepts)) (t ∙ ap (λ (c : Counters). show c rooms s) (sym u)) ∙ drawn_same k₀ k rooms T.onward.nominals T.onward.options (standing k x s)

    pub turn_end : ClausifiedAll n line k₀ x₀ x (Finished k)
    turn_end = record {
      equal = λ env B s P u.
          let S = T.so env B s P u in
          ap (λ (w : Whole). done tt w) (last_drawn env.rooms S.state S.drawn)
          ∙ ap (shown_lined k₀ env.rooms) (sym (S.rest ∙ nothing_left env (standing k x S.state)));
      untouched = T.untouched;
      onward = T.onward;
    }

-- ---- the loop over bytes, from k₀ and the tables s₀, c₀, a₀, d₀
pub record Going (s₀ c₀ a₀ d₀ : List ℕ) (n line : ℕ) (k₀ : Counters) (s c a d : List ℕ) (k : Counters) (i : ℕ) : Type 0 where
  pub turn : Turn n line k₀ (four (words s₀) (words c₀) (words a₀) (words d₀)) k (four (words s) (words c) (words a) (words d)) i
  pub ready : Clausifying s k
  pub scratch : length s ≡ length s₀
  pub clauses : length c ≡ length c₀
  pub atoms : length a ≡ length a₀
  pub deferrals : length d ≡ length d₀

pub going_first : (s c a d : List ℕ) (n line : ℕ) (k : Counters) → Clausifying s k → Going s c a d n line k s c a d k 0
going_first s c a d n line k C = record { turn = turn_first n line k (four (words s) (words c) (words a) (words d)); ready = C; scratch = refl; clauses = refl; atoms = refl; deferrals = refl }

module _ (s₀ c₀ a₀ d₀ : List ℕ) (n line : ℕ) (k₀ : Counters) (A : AxiomsOf (words s₀) k₀ n) (s c a d : List ℕ) (k : Counters) (i : ℕ) (G : Going s₀ c₀ a₀ d₀ n line k₀ s c a d k i) where
  abbrev x₀ : Four
  x₀ = four (words s₀) (words c₀) (words a₀) (words d₀)

  abbrev x : Four
  x = four (words s) (words c) (words a) (words d)

  module _ (h : i < n) (here : ℕ) (eh : here ≡ line + i) (k' : Counters) (q : k' ≡ at_line here k) where
    at_here : k' ≡ at_line (line + i) k
    at_here = rw (← eh) q

    going_ready : ReadyForAll n k₀ x₀ → ReadyFor (axiom_at (words s) i) k' x
    going_ready R =
        let S = G.turn.so R.env R.bounds R.state R.readied R.inside in
        record {
          env = R.env;
          bounds = R.bounds;
          state = line_at (line + i) S.state;
          readied = turn_readied n line k₀ x₀ A k x i G.turn h k' at_here (words_long c₀ c G.clauses) (words_long a₀ a G.atoms) (words_long d₀ d G.deferrals) R.env R.bounds R.state R.readied S;
          inside = turn_inside n line k₀ x₀ A k x i G.turn h k' at_here R.bounds R.inside;
        }

    pub going_asks : ReadyForAll n k₀ x₀ → Clausifying s k' × AxiomOf (words s) k' i × ReadyFor (axiom_at (words s) i) k' x
    going_asks R = (
      clausifying_line s k k' here q G.ready,
      record { count = n; axioms = axioms_of_kept (words s) (words s) k k' n (untouched_same (words s)) (onward_line k k' here q).concepts (turn_axioms n line k₀ x₀ A k x i G.turn); among = h },
      going_ready R,
    )

    module _ (s' c' a' d' : List ℕ) (ls : length s' ≡ length s) (lc : length c' ≡ length c) (la : length a' ≡ length a) (ld : length d' ≡ length d) (r : Answer)
        (D : Limited (axiom_at (words s) i) k' x (four (words s') (words c') (words a') (words d')) r) where
      pub going_next : (m : Counters) (j : ℕ) → r ≡ Done m j → ClausifyingAfter s' r → Going s₀ c₀ a₀ d₀ n line k₀ s' c' a' d' m (i + 1)
      going_next m j e C =
          let R : Clausifying s' m = subst (ClausifyingAfter s') e C in
          record {
            turn = turn_next n line k₀ x₀ A k x i G.turn h k' at_here (words_long c₀ c G.clauses) (words_long a₀ a G.atoms) (words_long d₀ d G.deferrals) (four (words s') (words c') (words a') (words d')) r D m j e R.encoding.reading.ready.held;
            ready = R;
            scratch = ls ∙ G.scratch;
            clauses = lc ∙ G.clauses;
            atoms = la ∙ G.atoms;
            deferrals = ld ∙ G.deferrals;
          }

      pub going_stop : (o : ℕ) → r ≡ Refused o → ClausifiedAll n line k₀ x₀ (four (words s') (words c') (words a') (words d')) (Stopped o here)
      going_stop o e = rw eh (turn_stop n line k₀ x₀ A k x i G.turn h k' at_here (words_long c₀ c G.clauses) (words_long a₀ a G.atoms) (words_long d₀ d G.deferrals) (four (words s') (words c') (words a') (words d')) r D o e)

  pub going_end : n ≤ i → ClausifiedAll n line k₀ x₀ x (Finished k)
  going_end h = turn_end n line k₀ x₀ A k x i G.turn h G.ready.encoding.reading.ready.held
