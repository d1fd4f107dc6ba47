-- Limit after limit. Assumes nothing.
use Rattle.std.specs.Prelude.{◌≡◌, refl, ℕ, zero, suc, ◌+◌, ◌<◌, ◌≤◌, get_or}
use Rattle.std.proofs.Common.{sym, subst, ◌∙◌, arith}
use Rattle.std.proofs.Math.Path.{ap}
use mathlib.Core.List.{List, [], ◌∷◌, ◌++◌, append_assoc}
use Prim.{Unit, tt}
use Rattle.std.proofs.Math.ListN.{length, length-append}
use Rattle.words.specs.Words.{words}
use Rattle.ir.specs.Scratch.{limits_at}
use Rattle.ir.specs.declared.counters.Counters.{Counters}
use Rattle.ir.specs.Answer.{Answer}
use Rattle.ir.specs.Answer.{Done, Refused}
use Rattle.rules.specs.Base.{Res, ok, then}
use Rattle.rules.specs.State.{Limit, Env, Out, with_limits}
use Rattle.rules.specs.Axioms.{Clausifier, C, other_half, settle}
use Rattle.rules.specs.Invariants.{Each, Bounds, NamesFrom}
use Rattle.rules.specs.Post.{Post, post_ok}
use Rattle.rules.proofs.SettleLaws.{Halved, waits_for, below_fresh, half_settles}
use Rattle.rules.specs.Handed.{Settling}
use Rattle.rules.proofs.WholeLaws.{settle_none}
use Rattle.rules.proofs.SettleSteps.{settle_next_lem}
use Rattle.pool.specs.Held.{Held}
use Rattle.pool.specs.HeldLaws.{pool_length}
use Rattle.tables.specs.Good.{Good, most_names, names_few}
use Rattle.waiting.specs.Limits.{most_limits, limit_in, Waits}
use Rattle.waiting.specs.LimitLaws.{waits_at, waits_end}
use Rattle.hands.specs.Hands.{Four, four, EnvHeld}
use Rattle.leaves.specs.StepLaws.{class_is}
use Rattle.heads.specs.StepLaws.{drawn_limits}
use Rattle.axioms.specs.Wholes.{Whole, shown_whole, after_whole, standing, Clausifying, ClausifyingAfter, Clausified, WaitingWhole, Queued}
use Rattle.axioms.specs.WholeLaws.{Standing}
use Rattle.axioms.specs.OnwardLaws.{untouched_same, untouched_then, onward_same, onward_then}
use Rattle.lists.specs.Turns.{SameLong, Answered}
use Rattle.lists.specs.TurnLaws.{long_same, long_then, long_words, env_turned, own_state, standing_drawn, whole_answered, refused_is}
use Rattle.clausifier.specs.Settles.{limit_of, Settlable, Unsettled, Settled, SettledSo, SettledTo, SettledAt}

-- ---- the first that waits
record First (l : List Limit) (w : Limit) : Type 0 where
  others : List Limit
  is : l ≡ w ∷ others

first_at : (past l : List Limit) (i : ℕ) (d w : Limit) → length past ≡ i → i < length (past ++ l) → w ≡ get_or (past ++ l) i d → First l w
first_at [] [] i d w e h q = absurd (omega arith)
first_at [] (v ∷ l) zero d w e h q = record { others = l; is = ap (λ (u : Limit). u ∷ l) (sym q) }
first_at [] (v ∷ l) (suc i) d w e h q = absurd (omega arith)
first_at (v ∷ past) l zero d w e h q = absurd (omega arith)
first_at (v ∷ past) l (suc i) d w e h q = first_at past l i d w (omega arith) (omega arith) q

none_left : (past l : List Limit) (i : ℕ) → length past ≡ i → length (past ++ l) ≤ i → l ≡ []
none_left past [] i e h = refl
none_left past (w ∷ l) i e h = absurd (omega (arith, length-append past (w ∷ l)))

-- ---- the loop
pub settled_start : (k : Counters) (x : Four) → SettledTo k x k x 0
settled_start k x = record {
  few = omega arith;
  so = λ env B s P. record { past = []; many = refl; state = standing k x s; stands = record { pool = refl; tables = P.shown }; settling = P.settling; waits = P.waits; rest = refl };
  untouched = untouched_same x.scratch;
  onward = onward_same k;
  long = long_same x;
}

module _ (k₀ : Counters) (x₀ : Four) (k : Counters) (x : Four) (i : ℕ) (T : SettledTo k₀ x₀ k x i) where
  -- no limit is left
  pub settled_end : Held x.scratch k.concepts k.members → get_or x.scratch limits_at 0 ≤ i → Settled k₀ x₀ x (Done k 0)
  settled_end H h = record {
    equal = λ env B s P.
        let S = T.so env B s P in
        let l = none_left S.past S.state.out.limits i S.many (waits_end x.scratch (S.past ++ S.state.out.limits) i S.waits h (omega (arith, T.few, H.few))) in
        ap (λ (u : Whole). ok 0 u) (standing_drawn k₀ k env.rooms x S.state H T.onward S.stands) ∙ ap (shown_whole (λ _. 0) k₀ env.rooms) (sym (S.rest ∙ settle_none env S.state l));
    untouched = T.untouched;
    onward = T.onward;
  }

  -- the next one, as it is read
  module _ (h : i < get_or x.scratch limits_at 0) (filler name : ℕ) (ef : filler ≡ (limit_in x.scratch i).filler) (en : name ≡ (limit_in x.scratch i).name) where
    first : (env : Env) (B : Bounds) (z₀ : Clausifier) (S : SettledSo env B z₀ k x i) → First S.state.out.limits (limit_of filler name)
    first env B z₀ S =
        let d = limit_in x.scratch i in
        let W = waits_at x.scratch (S.past ++ S.state.out.limits) d i S.waits h in
        let e : limit_of filler name ≡ limit_in x.scratch i = rw (ef, en) refl in
        first_at S.past S.state.out.limits i d (limit_of filler name) S.many W.1 (e ∙ W.2)

    -- is a concept of the pool, and a class
    module _ (env : Env) (B : Bounds) (z₀ : Clausifier) (S : SettledSo env B z₀ k x i) (G : Good k) where
      pool_long : length S.state.pool ≡ k.concepts
      pool_long = ap (λ p. length p) (sym S.stands.pool) ∙ pool_length x.scratch k.concepts

      pub first_held : (filler < k.concepts) × (name < most_names)
      first_held =
          let F = first env B z₀ S in
          let A = S.settling.awaits in
          let z = S.state in
          let held = subst (Each (λ (w : Limit). w.filler < length z.pool)) F.is A.held in
          let named = subst (λ l. NamesFrom A.above l z.out.next_fresh) F.is A.named in
          let below : suc name ≤ z.out.next_fresh = below_fresh (suc name) z.out.next_fresh F.others named.1 in
          (omega (arith, held.0, pool_long), omega (arith, below, names_few k G, class_is k env.rooms z.out x.clauses x.atoms x.deferrals S.stands.tables))

    abbrev half : Env → C (Unit {0})
    half env = other_half env (limit_of filler name)

    module _ (y : Four) where
      -- the call, of the state z without its first limit
      called : (r : Answer) → Clausified half k x y r → (env : Env) → EnvHeld env k₀ x₀ → (z : Clausifier) (l : List Limit) → Standing k env.rooms x z → after_whole r y ≡ shown_whole (λ _. 0) k env.rooms (half env (waits_for l z))
      called r D env E z l S =
          D.equal env (with_limits l z.out) (env_turned env k₀ k x₀ x T.untouched T.onward T.long E) (drawn_limits k env.rooms z.out x.clauses x.atoms x.deferrals l S.tables)
          ∙ ap (λ (u : Clausifier). shown_whole (λ _. 0) k env.rooms (half env (waits_for l u))) (own_state k env.rooms x z S)

      pub settled_stop : (e : ℕ) → Clausified half k x y (Refused e) → Settled k₀ x₀ y (Refused e)
      settled_stop e D = record {
        equal = λ env B s P.
            let S = T.so env B s P in
            let F = first env B (standing k₀ x₀ s) S in
            let n = settle_next_lem B env P.roles (limit_of filler name) F.others S.state S.settling F.is in
            let q = refused_is k env.rooms e (half env (waits_for F.others S.state)) (called (Refused e) D env P.held S.state F.others S.stands) in
            ap (shown_whole (λ _. 0) k₀ env.rooms) (sym (S.rest ∙ n ∙ ap (λ (r : Res Clausifier (Unit {0})). then r (λ _ u. settle env u)) q));
        untouched = untouched_then x₀.scratch x.scratch y.scratch T.untouched D.untouched;
        onward = tt;
      }

      module _ (m : Counters) (j : ℕ) (D : Clausified half k x y (Done m j)) (Q : Queued half k x y) where
        -- the state after it
        module _ (env : Env) (B : Bounds) (s : Out) (P : Settlable env B k₀ x₀ s) where
          S : SettledSo env B (standing k₀ x₀ s) k x i
          S = T.so env B s P

          F : First S.state.out.limits (limit_of filler name)
          F = first env B (standing k₀ x₀ s) S

          before : Clausifier
          before = waits_for F.others S.state

          A : Answered m env.rooms y (half env before)
          unfolding before
          A = whole_answered k m j env.rooms y (half env before) (called (Done m j) D env P.held S.state F.others S.stands)

          made : Halved B before A.state × Settling B env A.state
          unfolding before
          made = post_ok (λ _ u. Halved B before u × Settling B env u) tt A.state
              (subst (Post (λ _ u. Halved B before u × Settling B env u)) A.is (half_settles B env P.roles (limit_of filler name) F.others S.state S.settling F.is))

          -- the limits that wait, behind those that were settled
          moved : (S.past ++ (limit_of filler name ∷ [])) ++ F.others ≡ S.past ++ S.state.out.limits
          moved = append_assoc S.past (limit_of filler name ∷ []) F.others ∙ ap (λ (l : List Limit). S.past ++ l) (sym F.is)

          waiting : Waits y.scratch ((S.past ++ (limit_of filler name ∷ [])) ++ A.state.out.limits)
          unfolding before
          waiting =
              let p : List Limit = S.past ++ (limit_of filler name ∷ []) in
              let own = own_state k env.rooms x S.state S.stands in
              let W = Q.waits env before.out p (env_turned env k₀ k x₀ x T.untouched T.onward T.long P.held) (drawn_limits k env.rooms S.state.out x.clauses x.atoms x.deferrals F.others S.stands.tables) (rw moved S.waits) in
              post_ok (λ _ u. Waits y.scratch (p ++ u.out.limits)) tt A.state (subst (WaitingWhole y.scratch p) (ap (λ (u : Clausifier). half env (waits_for F.others u)) own ∙ A.is) W)

          after : SettledSo env B (standing k₀ x₀ s) m y (i + 1)
          unfolding before
          after = record {
            past = S.past ++ (limit_of filler name ∷ []);
            many = omega (arith, S.many, length-append S.past (limit_of filler name ∷ []));
            state = A.state;
            stands = A.stands;
            settling = made.1;
            waits = waiting;
            rest = S.rest ∙ settle_next_lem B env P.roles (limit_of filler name) F.others S.state S.settling F.is ∙ ap (λ (r : Res Clausifier (Unit {0})). then r (λ _ u. settle env u)) A.is;
          }

          grew : suc k.concepts ≤ m.concepts
          unfolding before
          grew =
              let p : length A.state.pool ≡ m.concepts = ap (λ q. length q) (sym A.stands.pool) ∙ pool_length y.scratch m.concepts in
              let q : length S.state.pool ≡ k.concepts = ap (λ q. length q) (sym S.stands.pool) ∙ pool_length x.scratch k.concepts in
              omega (arith, made.0.more, p, q)

        pub settled_next : Unsettled k₀ x₀ → filler < k.concepts → SameLong x y → SettledTo k₀ x₀ m y (i + 1)
        settled_next U lt L =
            let g = grew U.env U.bounds U.state U.settlable in
            record {
              few = omega (arith, T.few, lt, g);
              so = after;
              untouched = untouched_then x₀.scratch x.scratch y.scratch T.untouched D.untouched;
              onward = onward_then k₀ k m T.onward D.onward;
              long = long_then x₀ x y T.long L;
            }

-- ---- the loop over bytes
pub settle_first : (s c a d : List ℕ) (k : Counters) → Clausifying s k → SettledAt s c a d k s c a d k 0
settle_first s c a d k C = record { turn = settled_start k (four (words s) (words c) (words a) (words d)); ready = C; scratch = refl; clauses = refl; atoms = refl; deferrals = refl }

module _ (s₀ c₀ a₀ d₀ : List ℕ) (k₀ : Counters) (s c a d : List ℕ) (k : Counters) (i : ℕ) (G : SettledAt s₀ c₀ a₀ d₀ k₀ s c a d k i) where
  abbrev from : Four
  from = four (words s₀) (words c₀) (words a₀) (words d₀)

  abbrev here : Four
  here = four (words s) (words c) (words a) (words d)

  pub settle_end : (n : ℕ) → n ≡ get_or (words s) limits_at 0 → n ≤ i → Settled k₀ from here (Done k 0)
  settle_end n e h = settled_end k₀ from k here i G.turn G.ready.encoding.reading.ready.held (rw (← e) h)

  -- for the state of the start
  module _ (U : Unsettled k₀ from) where
    so_far : SettledSo U.env U.bounds (standing k₀ from U.state) k here i
    so_far = G.turn.so U.env U.bounds U.state U.settlable

    module _ (n : ℕ) (e : n ≡ get_or (words s) limits_at 0) (h : i < n) where
      next : i < get_or (words s) limits_at 0
      next = rw (← e) h

      -- its place
      pub settle_place : i < most_limits
      settle_place = let S = so_far in (waits_at (words s) (S.past ++ S.state.out.limits) (limit_in (words s) i) i S.waits next).0

      module _ (filler name : ℕ) (ef : filler ≡ (limit_in (words s) i).filler) (en : name ≡ (limit_in (words s) i).name) where
        pub settle_asks : (filler < k.concepts) × (name < most_names)
        settle_asks = first_held k₀ from k here i G.turn next filler name ef en U.env U.bounds (standing k₀ from U.state) so_far G.ready.good

        module _ (s' c' a' d' : List ℕ) (ls : length s' ≡ length s) (lc : length c' ≡ length c) (la : length a' ≡ length a) (ld : length d' ≡ length d) (r : Answer)
            (D : Clausified (λ env. other_half env (limit_of filler name)) k here (four (words s') (words c') (words a') (words d')) r)
            (Q : Queued (λ env. other_half env (limit_of filler name)) k here (four (words s') (words c') (words a') (words d'))) where
          abbrev there : Four
          there = four (words s') (words c') (words a') (words d')

          pub settle_more : (m : Counters) (j : ℕ) → r ≡ Done m j → ClausifyingAfter s' r → SettledAt s₀ c₀ a₀ d₀ k₀ s' c' a' d' m (i + 1)
          settle_more m j q C = record {
            turn =
                settled_next k₀ from k here i G.turn next filler name ef en there m j (subst (Clausified (λ env. other_half env (limit_of filler name)) k here there) q D) Q U settle_asks.0
                (long_words (words s) (words s') c a d c' a' d' lc la ld);
            ready = subst (ClausifyingAfter s') q C;
            scratch = ls ∙ G.scratch;
            clauses = lc ∙ G.clauses;
            atoms = la ∙ G.atoms;
            deferrals = ld ∙ G.deferrals;
          }

          pub settle_halt : (o : ℕ) → r ≡ Refused o → Settled k₀ from there (Refused o)
          settle_halt o q = settled_stop k₀ from k here i G.turn next filler name ef en there o (subst (Clausified (λ env. other_half env (limit_of filler name)) k here there) q D)
