-- The loop over the axioms. Assumes nothing.
use Rattle.std.specs.Prelude.{◌≡◌, List, [], ◌∷◌, ◌++◌, ℕ, suc, ◌+◌, ◌*◌, ◌-◌, ◌<◌, ◌≤◌, length, eqb, true}
use Rattle.std.proofs.Math.Path.{refl}
use Rattle.std.proofs.Common.{sym, ap, subst, ◌∙◌, append_assoc, append-nil, zero-add, eqb-true}
use native.Mathlib.Omega.{arith}
use Prim.{tt}
use Rattle.words.specs.Words.{words}
use Rattle.std.proofs.lemmas.Bool.{eqb-false}
use Rattle.rules.specs.TextLaws.{by_test}
use Rattle.ir.specs.Scratch.{numbers_at, lines_at, stack_at, hands_at}
use Rattle.ir.specs.declared.counters.Counters.{Counters}
use Rattle.ir.specs.Answer.{Answer}
use Rattle.ir.specs.Answer.{Done, Refused}
use Rattle.ir.specs.Lined.{Finished, Stopped}
use Rattle.rules.specs.Base.{Res, ok, refused}
use Rattle.rules.specs.Concept.{Axiom}
use Rattle.rules.specs.Normalize.{St, nnf_axiom}
use Rattle.rules.specs.Run.{Lined, done, stopped, lined, lined_then, nnf_axioms}
use Rattle.rules.specs.Post.{Post, gives}
use Rattle.rules.specs.Invariants.{Each, Bounds, Wf, AxiomIn}
use Rattle.rules.proofs.NormalizeLaws.{AxiomMade, nnf_axiom_made, axiom_more}
use Rattle.rules.specs.PoolLaws.{grown_length}
use Rattle.pool.specs.Layout.{tab, pool_of}
use Rattle.pool.specs.Held.{Held}
use Rattle.pool.specs.HeldLaws.{pool_length}
use Rattle.pool.specs.Tabs.{tab_same, tab_snoc, tab_each, each_tab}
use Rattle.ontology.specs.Layout.{axiom_count, axiom_number, axiom_at, axioms_of, AxiomsHeld}
use Rattle.rebuilding.specs.States.{state_of, counted, told, HeldRun, Kept}
use Rattle.normalize.specs.Known.{Known, KnownAfter}
use Rattle.normalize.specs.Axioms.{concepts_at, concepts_in, after_axiom, after_axioms, told_lined, HeldLined, NormalizingAxioms}
use Rattle.normalize.specs.AxiomLaws.{concepts_inside, axiom_kept, held_after}

-- ---- an answer and the state after it
-- the rule answered too, with the state that scratch and the counters have now
pub record Answered (k k' : Counters) (w : List ℕ) (b : Axiom) (m : Res St Axiom) : Type 0 where
  pub state : m ≡ ok b (state_of k' w)
  pub counters : k' ≡ counted k (state_of k' w)

pub axiom_answered : (k k' : Counters) (j : ℕ) (w : List ℕ) (b : Axiom) (m : Res St Axiom) → after_axiom (Done k' j) b w ≡ told k m → Answered k k' w b m
axiom_answered k k' j w b (ok c s) e =
    let x : b ≡ c = cc in
    let y : k' ≡ counted k s = cc in
    let z : pool_of w k'.concepts ≡ s.pool = cc in
    let q : state_of k' w ≡ s = rw (z, y) refl in
    record { state = rw (x, q) refl; counters = y ∙ ap (counted k) (sym q) }
axiom_answered k k' j w b (refused n) e = absurd (let z : ◌≡◌ {A = ℕ} 0 1 = cc in omega arith)

pub axiom_refused : (k : Counters) (n : ℕ) (w : List ℕ) (b : Axiom) (m : Res St Axiom) → after_axiom (Refused n) b w ≡ told k m → m ≡ refused n
axiom_refused k n w b (ok c s) e = absurd (let z : ◌≡◌ {A = ℕ} 0 1 = cc in omega arith)
axiom_refused k n w b (refused x) e = cc

-- one axiom's numbers are among all of them
kept_axiom : (w₀ w w' : List ℕ) (n i : ℕ) (A : AxiomsHeld w n) → i < n → Kept numbers_at (lines_at - numbers_at) stack_at w₀ w → Kept (concepts_at w i) (concepts_in w i) stack_at w w'
    → Kept numbers_at (lines_at - numbers_at) stack_at w₀ w'
kept_axiom w₀ w w' n i A h L K =
    let f = A.within i h in
    let g = concepts_inside (axiom_number w i 0) (A.kinds i h) (axiom_count w i) (A.fields i h) in
    record {
      before = λ m x y. K.before m x (omega arith) ∙ L.before m x y;
      between = λ m x y. K.between m (omega (arith, g.0)) y ∙ L.between m x y;
      behind = λ m x. K.behind m x ∙ L.behind m x;
    }

-- ---- the loop, from scratch w₀ with counters k₀: i of n axioms are normalised
pub record Turn (B : Bounds) (w₀ : List ℕ) (k₀ : Counters) (n line : ℕ) (w : List ℕ) (v : Counters) (i : ℕ) : Type 0 where
  pub within : i ≤ n
  pub held : Held w v.concepts v.members
  pub wf : Wf B (pool_of w v.concepts)
  pub axioms : AxiomsHeld w n
  pub inside : Each (AxiomIn B v.concepts) (axioms_of w n)
  pub kept : Kept numbers_at (lines_at - numbers_at) stack_at w₀ w
  pub rest : told_lined k₀ (nnf_axioms line (axioms_of w₀ n) (state_of k₀ w₀)) ≡ told_lined v (lined_then (nnf_axioms (line + i) (tab (axiom_at w) i (n - i)) (state_of v w)) (λ l t. done (tab (axiom_at w) 0 i ++ l) t))

-- nothing before the first
lined_then_nothing : {A : Type 0} (k : Counters) (m : Lined St (List A)) → told_lined k m ≡ told_lined k (lined_then m (λ l t. done ([] ++ l) t))
lined_then_nothing k (done l t) = refl
lined_then_nothing k (stopped e line) = refl

pub turn_first : (B : Bounds) (w : List ℕ) (k : Counters) (n line : ℕ) → Held w k.concepts k.members → Wf B (pool_of w k.concepts) → AxiomsHeld w n
    → Each (AxiomIn B k.concepts) (axioms_of w n) → Turn B w k n line w k 0
unfolding tab
turn_first B w k n line h f a e = record {
  within = omega arith;
  held = h;
  wf = f;
  axioms = a;
  inside = e;
  kept = record { before = λ j x y. refl; between = λ j x y. refl; behind = λ j x. refl };
  rest =
      let x : line + 0 ≡ line = omega arith in
      let y : n - 0 ≡ n = omega arith in
      rw (x, y) (lined_then_nothing k (nnf_axioms line (axioms_of w n) (state_of k w)));
}

-- the next axiom and those after it
tab_first : {A : Type 0} (f : ℕ → A) (i n : ℕ) → i < n → tab f i (n - i) ≡ f i ∷ tab f (i + 1) (n - (i + 1))
unfolding tab
tab_first f i n h = let e : n - i ≡ suc (n - (i + 1)) = omega arith in rw e refl

module _ (B : Bounds) (w₀ : List ℕ) (k₀ : Counters) (n line : ℕ) (w : List ℕ) (v : Counters) (i : ℕ) (T : Turn B w₀ k₀ n line w v i) (h : i < n) where
  abbrev rule : Res St Axiom
  rule = nnf_axiom (axiom_at w i) (state_of v w)

  one_more_lem : nnf_axioms (line + i) (tab (axiom_at w) i (n - i)) (state_of v w) ≡ lined_then (lined (line + i) rule) (λ b s. lined_then (nnf_axioms (line + i + 1) (tab (axiom_at w) (i + 1) (n - (i + 1))) s) (λ l t. done (b ∷ l) t))
  unfolding nnf_axioms
  one_more_lem = rw (tab_first (axiom_at w) i n h) refl

  pub turn_stop : (e : ℕ) (b : Axiom) (w' : List ℕ) → after_axiom (Refused e) b w' ≡ told v rule → stopped e (line + i) ≡ told_lined k₀ (nnf_axioms line (axioms_of w₀ n) (state_of k₀ w₀))
  turn_stop e b w' a = sym (T.rest ∙ rw (one_more_lem, axiom_refused v e w' b rule a) refl)

  -- after an answer
  module _ (v' : Counters) (j : ℕ) (w' : List ℕ) (a : after_axiom (Done v' j) (axiom_at w' i) w' ≡ told v rule) (H : Held w' v'.concepts v'.members) (K : Kept (concepts_at w i) (concepts_in w i) stack_at w w') where
    abbrev given : Answered v v' w' (axiom_at w' i) rule
    given = axiom_answered v v' j w' (axiom_at w' i) rule a

    made : AxiomMade B (state_of v w) (axiom_at w i) (axiom_at w' i) (state_of v' w')
    made = from (subst (Post (AxiomMade B (state_of v w) (axiom_at w i))) given.state (nnf_axiom_made B (axiom_at w i) (state_of v w) T.wf here))
      where
        here : AxiomIn B (length (pool_of w v.concepts)) (axiom_at w i)
        here =
            let e : 0 + i ≡ i = zero-add i in
            rw (pool_length w v.concepts) (rw e at (tab_each (axiom_at w) (AxiomIn B v.concepts) 0 n T.inside i h))

        from : Post (AxiomMade B (state_of v w) (axiom_at w i)) (ok (axiom_at w' i) (state_of v' w')) → AxiomMade B (state_of v w) (axiom_at w i) (axiom_at w' i) (state_of v' w')
        from (gives m) = m

    more : v.concepts ≤ v'.concepts
    more = omega (arith, grown_length made.ran.grows, pool_length w v.concepts, pool_length w' v'.concepts)

    same : (m : ℕ) → m < n → (m ≡ i → ⊥) → axiom_at w' m ≡ axiom_at w m
    same = axiom_kept w w' n i T.axioms h K

    -- the axioms before and after it
    earlier : tab (axiom_at w') 0 i ≡ tab (axiom_at w) 0 i
    earlier = tab_same (axiom_at w') (axiom_at w) 0 0 i (λ m l. let e : 0 + m ≡ m = zero-add m in rw e (same m (omega arith) (λ q. absurd (omega arith))))

    later : tab (axiom_at w') (i + 1) (n - (i + 1)) ≡ tab (axiom_at w) (i + 1) (n - (i + 1))
    later = tab_same (axiom_at w') (axiom_at w) (i + 1) (i + 1) (n - (i + 1)) (λ m l. same (i + 1 + m) (omega arith) (λ q. absurd (omega arith)))

    one : {A : Type 0} (l : List A) (x : A) (m : List A) → (l ++ (x ∷ [])) ++ m ≡ l ++ (x ∷ m)
    one l x m = append_assoc l (x ∷ []) m

    joined : (m : Lined St (List Axiom)) → lined_then (lined_then m (λ l t. done (axiom_at w' i ∷ l) t)) (λ l t. done (tab (axiom_at w) 0 i ++ l) t) ≡ lined_then m (λ l t. done (tab (axiom_at w') 0 (suc i) ++ l) t)
    joined (done l t) =
        let e : 0 + i ≡ i = zero-add i in
        let q : tab (axiom_at w') 0 (suc i) ≡ tab (axiom_at w) 0 i ++ (axiom_at w' i ∷ []) = tab_snoc (axiom_at w') 0 i ∙ rw (e, earlier) refl in
        ap (λ (x : List Axiom). done x t) (sym (ap (λ (y : List Axiom). y ++ l) q ∙ one (tab (axiom_at w) 0 i) (axiom_at w' i) l))
    joined (stopped e line) = refl

    told_same : {A : Type 0} (m : Lined St A) → told_lined v m ≡ told_lined v' m
    told_same (done x t) = rw given.counters refl
    told_same (stopped e line) = refl

    inside_after : Each (AxiomIn B v'.concepts) (axioms_of w' n)
    inside_after = each_tab (axiom_at w') (AxiomIn B v'.concepts) 0 n (λ m l.
        let e : 0 + m ≡ m = zero-add m in
        rw e (by_test (eqb m i)
        (λ c. let q = eqb-true m i c in rw q (rw (pool_length w' v'.concepts) at made.inside))
        (λ c. let o = tab_each (axiom_at w) (AxiomIn B v.concepts) 0 n T.inside m l in
        rw (same m l (eqb-false m i c)) (axiom_more B v.concepts v'.concepts (axiom_at w m) more (rw e at o)))))

    kept_after : Kept numbers_at (lines_at - numbers_at) stack_at w₀ w'
    kept_after = kept_axiom w₀ w w' n i T.axioms h T.kept K

    pub turn_next : Turn B w₀ k₀ n line w' v' (i + 1)
    turn_next = record {
      within = omega arith;
      held = H;
      wf = made.ran.wf;
      axioms = held_after w w' n i T.axioms h K;
      inside = inside_after;
      kept = kept_after;
      rest =
          let s : suc i ≡ i + 1 = omega arith in
          let p : line + i + 1 ≡ line + (i + 1) = omega arith in
          T.rest ∙ ap (λ (m : Lined St (List Axiom)). told_lined v (lined_then m (λ l t. done (tab (axiom_at w) 0 i ++ l) t))) one_more_lem
          ∙ rw (given.state, ← later) refl
          ∙ ap (told_lined v) (joined (nnf_axioms (line + i + 1) (tab (axiom_at w') (i + 1) (n - (i + 1))) (state_of v' w')))
          ∙ told_same (lined_then (nnf_axioms (line + i + 1) (tab (axiom_at w') (i + 1) (n - (i + 1))) (state_of v' w')) (λ l t. done (tab (axiom_at w') 0 (suc i) ++ l) t))
          ∙ rw (s, p) refl;
    }

-- ---- the end
module _ (B : Bounds) (w₀ : List ℕ) (k₀ : Counters) (n line : ℕ) (w : List ℕ) (v : Counters) (i : ℕ) (T : Turn B w₀ k₀ n line w v i) (h : n ≤ i) where
  last : i ≡ n
  last = omega (arith, T.within)

  -- the counters have the pool's sizes
  sizes : counted v (state_of v w) ≡ v
  sizes =
      let c = pool_length w v.concepts in
      let m = T.held.count in
      rw (c, ← m) refl

  nothing_left : nnf_axioms (line + i) (tab (axiom_at w) i (n - i)) (state_of v w) ≡ done [] (state_of v w)
  unfolding nnf_axioms tab
  nothing_left = let e : n - i ≡ 0 = omega arith in rw e refl

  pub turn_end : after_axioms (Finished v) (axioms_of w n) w ≡ told_lined k₀ (nnf_axioms line (axioms_of w₀ n) (state_of k₀ w₀))
  turn_end = sym (T.rest ∙ ap (λ (m : Lined St (List Axiom)). told_lined v (lined_then m (λ l t. done (tab (axiom_at w) 0 i ++ l) t))) nothing_left
      ∙ rw (append-nil (tab (axiom_at w) 0 i), sizes, last) refl)

  pub turn_held : HeldLined (Finished v) n w
  turn_held = (T.held, T.axioms)

-- ---- the loop over scratch's bytes
pub record Going (s₀ : List ℕ) (k₀ : Counters) (n line : ℕ) (s : List ℕ) (v : Counters) (i : ℕ) : Type 0 where
  pub bounds : Bounds
  pub turn : Turn bounds (words s₀) k₀ n line (words s) v i
  pub long : length s ≡ length s₀
  pub space : 4 * hands_at ≤ length s₀
  pub known : Known (words s) v.concepts

pub going_first : (s : List ℕ) (k : Counters) (n line : ℕ) → NormalizingAxioms s k n → Known (words s) k.concepts → Going s k n line s k 0
going_first s k n line A K = record { known = K; bounds = A.bounds; turn = turn_first A.bounds (words s) k n line A.ready.held A.wf A.held A.inside; long = refl; space = A.space }

module _ (s₀ : List ℕ) (k₀ : Counters) (n line : ℕ) (s : List ℕ) (v : Counters) (i : ℕ) where
  module _ (G : Going s₀ k₀ n line s v i) where
    pub going_asks : NormalizingAxioms s v n
    going_asks = record {
      bounds = G.bounds;
      ready = record { room = omega (arith, G.long, G.space); held = G.turn.held };
      wf = G.turn.wf;
      held = G.turn.axioms;
      inside = G.turn.inside;
      space = omega (arith, G.long, G.space);
    }

    module _ (h : i < n) (r : Answer) (s' : List ℕ) (l : length s' ≡ length s) where
      pub going_next : (v' : Counters) (j : ℕ) → r ≡ Done v' j
          → (after_axiom r (axiom_at (words s') i) (words s') ≡ told v (nnf_axiom (axiom_at (words s) i) (state_of v (words s)))) × (HeldRun r (words s') × (Kept (concepts_at (words s) i) (concepts_in (words s) i) stack_at (words s) (words s') × KnownAfter true r (words s')))
          → Going s₀ k₀ n line s' v' (i + 1)
      going_next v' j e d =
          let d' = subst (λ (x : Answer). (after_axiom x (axiom_at (words s') i) (words s') ≡ told v (nnf_axiom (axiom_at (words s) i) (state_of v (words s)))) × (HeldRun x (words s') × (Kept (concepts_at (words s) i) (concepts_in (words s) i) stack_at (words s) (words s') × KnownAfter true x (words s')))) e d in
          record {
            bounds = G.bounds;
            turn = turn_next G.bounds (words s₀) k₀ n line (words s) v i G.turn h v' j (words s') d'.0 d'.1.0 d'.1.1.0;
            known = d'.1.1.1;
            long = l ∙ G.long;
            space = G.space;
          }

      pub going_stop : (e : ℕ) → r ≡ Refused e
          → (after_axiom r (axiom_at (words s') i) (words s') ≡ told v (nnf_axiom (axiom_at (words s) i) (state_of v (words s)))) × (HeldRun r (words s') × (Kept (concepts_at (words s) i) (concepts_in (words s) i) stack_at (words s) (words s') × KnownAfter true r (words s')))
          → (after_axioms (Stopped e (line + i)) (axioms_of (words s') n) (words s') ≡ told_lined k₀ (nnf_axioms line (axioms_of (words s₀) n) (state_of k₀ (words s₀))))
          × (HeldLined (Stopped e (line + i)) n (words s') × Kept numbers_at (lines_at - numbers_at) stack_at (words s₀) (words s'))
      going_stop e q d = (
        turn_stop G.bounds (words s₀) k₀ n line (words s) v i G.turn h e (axiom_at (words s') i) (words s') (subst (λ (x : Answer). after_axiom x (axiom_at (words s') i) (words s') ≡ told v (nnf_axiom (axiom_at (words s) i) (state_of v (words s)))) q d.0),
        (tt, kept_axiom (words s₀) (words s) (words s') n i G.turn.axioms h G.turn.kept d.1.1.0),
      )

    pub going_end : n ≤ i → (after_axioms (Finished v) (axioms_of (words s) n) (words s) ≡ told_lined k₀ (nnf_axioms line (axioms_of (words s₀) n) (state_of k₀ (words s₀))))
        × (HeldLined (Finished v) n (words s) × Kept numbers_at (lines_at - numbers_at) stack_at (words s₀) (words s))
    going_end h = (turn_end G.bounds (words s₀) k₀ n line (words s) v i G.turn h, (turn_held G.bounds (words s₀) k₀ n line (words s) v i G.turn h, G.turn.kept))
