-- An axiom, and then the limits that it named. Assumes nothing.
use Rattle.std.specs.Prelude.{◌≡◌, refl, Bool, true, false, ◌&&◌, List, [], ◌++◌, ℕ, length, set, take}
use Rattle.std.proofs.Common.{sym, subst, ◌∙◌, arith, ne_eqb}
use Rattle.std.proofs.Math.Path.{ap}
use Prim.{Unit, tt}
use Rattle.std.proofs.lemmas.List.{take-set-le}
use Rattle.words.specs.Words.{words}
use Rattle.words.specs.Laws.{length_words}
use Rattle.ir.specs.Options.{equal_names}
use Rattle.ir.specs.Scratch.{stack_at, limits_at}
use Rattle.ir.specs.declared.counters.Counters.{Counters}
use Rattle.ir.specs.Answer.{Answer}
use Rattle.ir.specs.Answer.{Done, Refused}
use Rattle.rules.specs.Base.{Res, then}
use Rattle.rules.specs.Concept.{Axiom}
use Rattle.rules.specs.Pool.{Pool}
use Rattle.rules.specs.State.{Env, Out}
use Rattle.rules.specs.Axioms.{Clausifier, clausify_axiom, settle, clausify_whole}
use Rattle.rules.specs.Invariants.{Bounds, up_to, AxiomIn}
use Rattle.rules.specs.Post.{Post, post_ok}
use Rattle.rules.proofs.AxiomLaws as Rules
use Rattle.rules.proofs.SettleLaws.{axiom_waits}
use Rattle.rules.specs.Handed.{Settling, Ready, names_limits}
use Rattle.rules.proofs.WholeLaws.{whole_alone}
use Rattle.pool.specs.Layout.{pool_of}
use Rattle.pool.specs.HeldLaws.{pool_length}
use Rattle.ontology.specs.Layout.{axiom_at, axiom_number}
use Rattle.ontology.specs.KeptAxioms.{axiom_kept}
use Rattle.waiting.specs.Limits.{Waits}
use Rattle.waiting.specs.LimitLaws.{waits_reset}
use Rattle.hands.specs.Hands.{Four, four}
use Rattle.leaves.specs.StepLaws.{alike_same}
use Rattle.axioms.specs.Wholes.{shown_whole, standing, Clausifying, Untouched, WaitingWhole}
use Rattle.axioms.specs.OnwardLaws.{untouched_then, onward_same, onward_answer, shown_same}
use Rattle.inclusions.specs.GrowLaws.{front_pool, untouched_front, clausifying_front}
use Rattle.lists.specs.Turns.{SameLong, Answered}
use Rattle.lists.specs.TurnLaws.{env_turned, own_state, whole_answered, refused_is}
use Rattle.clausifier.specs.Arms.{AxiomOf, Axiomed}
use Rattle.clausifier.specs.ArmLaws.{limits_kind, kind_names}
use Rattle.clausifier.specs.KeptLaws.{axioms_of_kept}
use Rattle.clausifier.specs.Settles.{Settlable, Unsettled, Settled}
use Rattle.clausifier.specs.Limited.{Readied, ReadyFor, Limited}

-- ---- whether the axiom may name limits
module _ (w : List ℕ) (k : Counters) (i kind : ℕ) (A : AxiomOf w k i) (e : kind ≡ axiom_number w i 0) where
  names_as : names_limits (axiom_at w i) ≡ limits_kind kind
  names_as = kind_names _ (axiom_number w i 0) (A.axioms.held.kinds i A.among) ∙ ap limits_kind (sym e)

  -- it may
  pub names_limits_lem : (n : ℕ) → kind ≡ n → limits_kind n ≡ true → (b : Bool) → b ≡ true → true ≡ (names_limits (axiom_at w i) && b)
  names_limits_lem n q t b u = rw (names_as, q, t, u) refl

  -- or makes no head
  pub names_none : (kind ≡ 21 → ⊥) → (kind ≡ 22 → ⊥) → (kind ≡ 25 → ⊥) → (kind ≡ 26 → ⊥) → (b : Bool) → false ≡ (names_limits (axiom_at w i) && b)
  names_none n1 n2 n5 n6 b = rw (names_as, ne_eqb kind 21 n1, ne_eqb kind 22 n2, ne_eqb kind 25 n5, ne_eqb kind 26 n6) refl

-- without option 4 none does
pub names_off : (a : Axiom) (b : Bool) → b ≡ false → false ≡ (names_limits a && b)
names_off a b e = rw e (by (names_limits a))
  where
    by : (c : Bool) → false ≡ (c && false)
    by true = refl
    by false = refl

-- both are so
pub both_names : (b c : Bool) → true ≡ (b && c) → b ≡ true
both_names true c e = refl
both_names false c e = sym e

-- ---- where it names none
pub limited_alone : (a : Axiom) (k : Counters) (x y : Four) (r : Answer) → false ≡ (names_limits a && equal_names k.options) → Axiomed a k x y r → Limited a k x y r
limited_alone a k x y r e D = record {
  equal = λ env B s P i.
      let off : (names_limits a && env.equal_names) ≡ false = ap (λ (b : Bool). names_limits a && b) (sym P.held.read.names) ∙ sym e in
      D.did.equal env s P.held P.shown ∙ ap (shown_whole (λ _. 0) k env.rooms) (sym (whole_alone env a (standing k x s) off P.ready.none));
  untouched = D.did.untouched;
  onward = D.did.onward;
}

-- ---- where it may: the queue is emptied first
module _ (s s1 : List ℕ) (e : words s1 ≡ set (words s) limits_at 0) (l : length s1 ≡ length s) where
  front : take stack_at (words s1) ≡ take stack_at (words s)
  front = ap (take stack_at) e ∙ take-set-le stack_at (words s) limits_at 0 (omega arith)

  pub reset_untouched : Untouched (words s) (words s1)
  reset_untouched = untouched_front (words s) (words s1) front

  module _ (k : Counters) (C : Clausifying s k) where
    pub reset_clausifying : Clausifying s1 k
    reset_clausifying = clausifying_front s s1 k k C l front (alike_same k) C.good

    pub reset_none : Waits (words s1) []
    reset_none = waits_reset (words s) (words s1) (omega (arith, C.queue, length_words s)) e

    pub reset_standing : (c a d : List ℕ) (o : Out) → standing k (four (words s1) c a d) o ≡ standing k (four (words s) c a d) o
    reset_standing c a d o = ap (λ (p : Pool). record { pool = p; out = o }) (front_pool s s1 k stack_at C.encoding.reading (omega arith) front)

    pub reset_readied : (c a d : List ℕ) (env : Env) (B : Bounds) (o : Out) → Readied env B k (four (words s) c a d) o → Readied env B k (four (words s1) c a d) o
    reset_readied c a d env B o P = record {
      held = env_turned env k k (four (words s) c a d) (four (words s1) c a d) reset_untouched (onward_same k) (record { clauses = refl; atoms = refl; deferrals = refl }) P.held;
      shown = P.shown;
      roles = P.roles;
      ready = subst (Ready B env) (sym (reset_standing c a d o)) P.ready;
    }

  module _ (k : Counters) (i : ℕ) (A : AxiomOf (words s) k i) where
    pub reset_axiom : AxiomOf (words s1) k i
    reset_axiom = record { count = A.count; axioms = axioms_of_kept (words s) (words s1) k k A.count reset_untouched (omega arith) A.axioms; among = A.among }

    pub reset_same : axiom_at (words s1) i ≡ axiom_at (words s) i
    reset_same = axiom_kept (words s) (words s1) A.count A.axioms.held reset_untouched.axioms i A.among

-- the axiom's own clauses, from x on
module _ (a : Axiom) (k : Counters) (x : Four) (W : Waits x.scratch []) (y : Four) where
  -- refused
  pub own_stop : (e : ℕ) → Axiomed a k x y (Refused e) → Limited a k x y (Refused e)
  unfolding clausify_whole
  own_stop e D = record {
    equal = λ env B s P i.
        let q = refused_is k env.rooms e (clausify_axiom env a (standing k x s)) (D.did.equal env s P.held P.shown) in
        ap (λ (r : Res Clausifier (Unit {0})). shown_whole (λ _. 0) k env.rooms (then r (λ _. settle env))) (sym q);
    untouched = D.did.untouched;
    onward = tt;
  }

  module _ (l : Counters) (j : ℕ) (D : Axiomed a k x y (Done l j)) (n : names_limits a ≡ true) (L : SameLong x y) where
    module _ (env : Env) (B : Bounds) (s : Out) (P : Readied env B k x s) (i : AxiomIn B k.concepts a) where
      A : Answered l env.rooms y (clausify_axiom env a (standing k x s))
      A = whole_answered k l j env.rooms y (clausify_axiom env a (standing k x s)) (D.did.equal env s P.held P.shown)

      own : standing l y A.state.out ≡ A.state
      own = own_state l env.rooms y A.state A.stands

      settling : Settling B env A.state
      settling =
          let h : AxiomIn B (length (pool_of x.scratch k.concepts)) a = rw (pool_length x.scratch k.concepts) i in
          (post_ok (λ _ u. Rules.Clausified (up_to B s.next_fresh) (standing k x s) u × Settling B env u) tt A.state
          (subst (Post (λ _ u. Rules.Clausified (up_to B s.next_fresh) (standing k x s) u × Settling B env u)) A.is (axiom_waits B env P.roles a (standing k x s) P.ready h))).1

      waiting : Waits y.scratch A.state.out.limits
      waiting =
          let Q = (D.queued n).waits env s [] P.held P.shown (subst (Waits x.scratch) (sym P.ready.none) W) in
          post_ok (λ _ u. Waits y.scratch ([] ++ u.out.limits)) tt A.state (subst (WaitingWhole y.scratch []) A.is Q)

      settlable : Settlable env B l y A.state.out
      settlable = record {
        held = env_turned env k l x y D.did.untouched D.did.onward L P.held;
        shown = A.stands.tables;
        roles = P.roles;
        settling = subst (Settling B env) (sym own) settling;
        waits = waiting;
      }

    -- there are limits to settle
    pub own_unsettled : ReadyFor a k x → Unsettled l y
    own_unsettled R = record { env = R.env; bounds = R.bounds; state = (A R.env R.bounds R.state R.readied R.inside).state.out; settlable = settlable R.env R.bounds R.state R.readied R.inside }

    -- and they were settled
    pub own_settled : (y' : Four) (r : Answer) → Settled l y y' r → Limited a k x y' r
    unfolding clausify_whole
    own_settled y' r X = record {
      equal = λ env B s P i.
          let z = A env B s P i in
          let o : settle env (standing l y z.state.out) ≡ clausify_whole env a (standing k x s) =
          ap (λ (u : Clausifier). settle env u) (own env B s P i) ∙ ap (λ (q : Res Clausifier (Unit {0})). then q (λ _. settle env)) (sym z.is) in
          X.equal env B z.state.out (settlable env B s P i) ∙ shown_same (λ _. 0) k l env.rooms D.did.onward (settle env (standing l y z.state.out)) ∙ ap (shown_whole (λ _. 0) k env.rooms) o;
      untouched = untouched_then x.scratch y.scratch y'.scratch D.did.untouched X.untouched;
      onward = onward_answer k l r D.did.onward X.onward;
    }

-- ---- and all that from the words before the queue was emptied
module _ (s s1 : List ℕ) (e : words s1 ≡ set (words s) limits_at 0) (l : length s1 ≡ length s) (k : Counters) (C : Clausifying s k) (i : ℕ) (A : AxiomOf (words s) k i) (c a d : List ℕ) where
  pub reset_for : ReadyFor (axiom_at (words s) i) k (four (words s) c a d) → ReadyFor (axiom_at (words s1) i) k (four (words s1) c a d)
  reset_for R = record {
    env = R.env;
    bounds = R.bounds;
    state = R.state;
    readied = reset_readied s s1 e l k C c a d R.env R.bounds R.state R.readied;
    inside = subst (AxiomIn R.bounds k.concepts) (sym (reset_same s s1 e l k i A)) R.inside;
  }

  pub reset_names : names_limits (axiom_at (words s) i) ≡ true → names_limits (axiom_at (words s1) i) ≡ true
  reset_names n = ap names_limits (reset_same s s1 e l k i A) ∙ n

  pub reset_limited : (y : Four) (r : Answer) → Limited (axiom_at (words s1) i) k (four (words s1) c a d) y r → Limited (axiom_at (words s) i) k (four (words s) c a d) y r
  reset_limited y r X = record {
    equal = λ env B o P h.
        X.equal env B o (reset_readied s s1 e l k C c a d env B o P) (subst (AxiomIn B k.concepts) (sym (reset_same s s1 e l k i A)) h)
        ∙ ap (λ (z : Clausifier). shown_whole (λ _. 0) k env.rooms (clausify_whole env (axiom_at (words s1) i) z)) (reset_standing s s1 e l k C c a d o)
        ∙ ap (λ (b : Axiom). shown_whole (λ _. 0) k env.rooms (clausify_whole env b (standing k (four (words s) c a d) o))) (reset_same s s1 e l k i A);
    untouched = untouched_then (words s) (words s1) y.scratch (reset_untouched s s1 e l) X.untouched;
    onward = X.onward;
  }
