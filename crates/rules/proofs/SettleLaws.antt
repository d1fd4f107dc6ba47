-- Option 4: what an axiom with the limits that it named does. The limits that wait name classes above those of the pool; each that
-- is settled adds one concept and begins a visit, so the bound of `settle` is never too small. Assumes nothing.
use Rattle.std.specs.Prelude.{◌≡◌}
use Rattle.std.proofs.Math.Path.{refl, subst}
use Rattle.std.proofs.Common.{sym, ap, le_refl, arith}
use mathlib.Core.List.{List, [], ◌∷◌}
use Prim.Native.Nat.{ℕ, zero, suc, ◌+◌, ◌≤◌, ◌<◌}
use Rattle.std.proofs.Math.Nat.{le_trans}
use Rattle.std.proofs.Math.ListN.{length}
use Rattle.ir.specs.Options.{follow_roles}
use Rattle.rules.specs.Handed.{Awaits, Settling, Ready, RolesKept, Above}
use Rattle.rules.specs.Base.{Res, then}
use Rattle.rules.specs.Concept.{Axiom, Atomic}
use Rattle.rules.specs.Pool.{Pool, intern_raw}
use Rattle.rules.specs.Normalize.{St, back_in, in_pool}
use Rattle.rules.specs.State.{Limit, Env, Rooms, Out, with_limits, leave_limits}
use Rattle.rules.specs.Axioms.{Clausifier, C, back_nnf, in_nnf, clausify_gci, clausify_axiom, other_half, settle_next, settle_by, settle, clausify_whole}
use Rattle.rules.specs.Run.{at_line, clausifier_at, clausify_axioms, env_of, start}
use Rattle.rules.specs.Deck.{Known}
use Rattle.rules.specs.Invariants.{Each, Bounds, up_to, Wf, Grown, Made, AxiomIn, NamesFrom, Emitted}
use Rattle.rules.specs.Ends.{Ends, ends, stops, end, ends_then, ends_map, ends_post, ends_both}
use Rattle.rules.specs.LinedPost.{LinedPost, lined_map}
use Rattle.rules.specs.LinedEnds.{LinedEnds, close, lined_ends, lined_ends_then, lined_ends_map, lined_ends_post}
use Rattle.rules.specs.EachLaws.{each_map, each_snoc}
use Rattle.rules.specs.PoolLaws.{grown_refl, grown_trans, grown_length, intern_made}
use Rattle.rules.proofs.NormalizeLaws.{axioms_more}
use Rattle.rules.proofs.EmitLaws.{above_more, names_append, emitted_trans, emitted_refl}
use Rattle.rules.proofs.AntecedentLaws.{canon_in}
use Rattle.rules.specs.LimitLaws.{wf_up, axiom_up, emitted_at, Adds, name_adds}
use Rattle.rules.proofs.AxiomLaws.{Clausified, Fit, clausified_refl, st_of, gci_made, axiom_made}
use Rattle.rules.specs.Post.{Post, post_map}
use Rattle.rules.proofs.NnfEnds.{ends_of, intern_not_zero}
use Rattle.rules.specs.Added.{Roomy}
use Rattle.rules.proofs.RoomLaws.{PoolInvariant, from_gci, from_axiom, Begins, gci_visits, Tabled, roomy_kept, tabled_kept}

-- ---- what is said
-- a limit was settled, from z
pub record Halved (B : Bounds) (z y : Clausifier) : Type 0 where
  pub grows : Grown z.pool y.pool
  pub more : suc (length z.pool) ≤ length y.pool
  pub emitted : Emitted B (y.out.visits + 3) z.out y.out
  pub begins : Begins z.out y.out
  pub vars : y.out.next_var ≤ y.out.visits + 3
  pub awaits : Awaits B y

-- an axiom with its limits, or several axioms
pub record Whole (B : Bounds) (z y : Clausifier) : Type 0 where
  pub grows : Grown z.pool y.pool
  pub wf : Wf (up_to B y.out.next_fresh) y.pool
  pub emitted : Emitted B (y.out.visits + 3) z.out y.out
  pub vars : y.out.next_var ≤ y.out.visits + 3
  pub none : y.out.limits ≡ []

-- the state with other limits
abbrev pub waits_for : List Limit → Clausifier → Clausifier
waits_for l z = record { pool = z.pool; out = with_limits l z.out }

-- ---- limits set aside
pub emitted_apart : {B : Bounds} {vars : ℕ} {s t : Out} → Emitted B vars s t → Emitted B vars (with_limits [] s) (with_limits [] t)
emitted_apart X = record {
  new = X.new;
  clauses = X.clauses;
  new_in = X.new_in;
  deferring = X.deferring;
  deferrals = X.deferrals;
  waiting = [];
  limits = refl;
  named = X.fresh;
  limit = X.limit;
  line = X.line;
  visits = X.visits;
  within = X.within;
  fresh = X.fresh;
  names = X.names;
}

apart : (z : Clausifier) → z.out.limits ≡ [] → waits_for [] z ≡ z
apart z e = ap (λ l. waits_for l z) (sym e)

above_up : {B : Bounds} {env : Env} {n fresh : ℕ} → n ≤ fresh → Above B env fresh → Above (up_to B n) env fresh
above_up h A = record { classes = λ a k. le_trans k h; individuals = A.individuals }

pub below_fresh : (q r : ℕ) (l : List Limit) → NamesFrom q l r → q ≤ r
below_fresh q r [] u = u
below_fresh q r (w ∷ l) u = let h = below_fresh (suc w.name) r l u.1 in omega (arith, u.0)

-- fillers are concepts of the pool
abbrev Fillers : Pool → Out → Type 0
Fillers p s = Each (λ w. w.filler < length p) s.limits

fillers_kept : (env : Env) → PoolInvariant env Fillers
fillers_kept env = record {
  steps = λ p. record { counts = λ s v x q _ _ j. j; pushes = λ s b h _ _ j. j; defers = λ s k _ j. j };
  awaits = λ p c h e s j. each_snoc (λ (w : Limit). w.filler < length p) s.limits (record { filler = c; name = s.next_fresh }) j h;
  grows = λ p q G s j. each_map (λ (w : Limit). w.filler < length p) (λ w. w.filler < length q) (λ w h. le_trans h (grown_length G)) s.limits j;
}

-- a constructor of the pool
pool_then : {A : Type 0} {P : ℕ → Pool → Type 0} {Q : A → Clausifier → Type 0} (z : Clausifier) (f : Pool → Res Pool ℕ) (k : ℕ → C A)
    → Ends P (f z.pool) → ((i : ℕ) (q : Pool) → P i q → Ends Q (k i (record { pool = q; out = z.out }))) → Ends Q (then (in_nnf (in_pool f) z) k)
pool_then {P = P} {Q = Q} z f k h g = go h
  where
    go : {r : Res Pool ℕ} → Ends P r → Ends Q (then (back_nnf z (back_in (st_of z) r)) k)
    go (ends {a = i} {s = q} x) = g i q x
    go (stops n) = stops n

-- ---- settled, one after the other
settled_none : {B : Bounds} {env : Env} (z : Clausifier) → Settling B env z → z.out.limits ≡ [] → Whole B (waits_for [] z) z
settled_none {B} z S e = record {
  grows = grown_refl z.pool;
  wf = wf_up B (below_fresh S.awaits.above z.out.next_fresh z.out.limits S.awaits.named) z.pool S.awaits.wf;
  emitted = subst (λ (y : Clausifier). Emitted B (z.out.visits + 3) (with_limits [] z.out) y.out) (apart z e) (emitted_refl B (z.out.visits + 3) (with_limits [] z.out));
  vars = S.vars;
  none = e;
}

pub settling_after : {B : Bounds} {env : Env} {l : List Limit} {z y : Clausifier} → Settling B env z → Halved B (waits_for l z) y → Settling B env y
settling_after S X = record { awaits = X.awaits; above = above_more X.emitted.fresh S.above; vars = X.vars }

settled_more : {B : Bounds} {l : List Limit} (z : Clausifier) {y x : Clausifier} → Halved B (waits_for l z) y → Whole B (waits_for [] y) x → Whole B (waits_for [] z) x
settled_more z X Y = record {
  grows = grown_trans X.grows Y.grows;
  wf = Y.wf;
  emitted = emitted_trans (omega (arith, Y.emitted.visits)) (emitted_apart X.emitted) Y.emitted;
  vars = Y.vars;
  none = Y.none;
}

-- ---- lines are no part of what is said over several axioms
pub ready_at : {B : Bounds} {env : Env} {z : Clausifier} (line : ℕ) → Ready B env z → Ready B env (clausifier_at line z)
ready_at line R = record { wf = R.wf; above = R.above; vars = R.vars; none = R.none }

pub ready_after : {B : Bounds} {env : Env} {z y : Clausifier} → Ready B env z → Whole B z y → Ready B env y
ready_after R X = record { wf = X.wf; above = above_more X.emitted.fresh R.above; vars = X.vars; none = X.none }

whole_trans : {B : Bounds} {x y z : Clausifier} → Whole B x y → Whole B y z → Whole B x z
whole_trans X Y = record { grows = grown_trans X.grows Y.grows; wf = Y.wf; emitted = emitted_trans (omega (arith, Y.emitted.visits)) X.emitted Y.emitted; vars = Y.vars; none = Y.none }

without_line : {B : Bounds} {y : Clausifier} (line : ℕ) (z : Clausifier) → Whole B (clausifier_at line z) y → Whole B (clausifier_at 0 z) (clausifier_at 0 y)
without_line line z X =
    let e = X.emitted in
    record {
      grows = X.grows;
      wf = X.wf;
      emitted = record {
        new = e.new;
        clauses = e.clauses;
        new_in = e.new_in;
        deferring = e.deferring;
        deferrals = e.deferrals;
        waiting = e.waiting;
        limits = e.limits;
        named = e.named;
        limit = e.limit;
        line = refl;
        visits = e.visits;
        within = e.within;
        fresh = e.fresh;
        names = e.names;
      };
      vars = X.vars;
      none = X.none;
    }

-- ---- one limit
-- what is kept of nothing
pub nothing_kept : (env : Env) → PoolInvariant env (λ _ _. Unit {0})
nothing_kept env = record { steps = λ p. record { counts = λ s v x q _ _ _. tt; pushes = λ s b h _ _ _. tt; defers = λ s k _ _. tt }; awaits = λ p c h e s _. tt; grows = λ p q G s _. tt }

module _ (B : Bounds) (w : Limit) (l : List Limit) (z : Clausifier) (A : Awaits B z) (e : z.out.limits ≡ w ∷ l) where
  -- its name enters the pool as the last concept
  pub half_name : Ends (λ i q. Adds w.name z.pool i q × Made (up_to B (suc w.name)) z.pool i q) (intern_raw (Atomic w.name) z.pool)
  half_name =
      let p = z.pool in
      let named = subst (λ k. NamesFrom A.above k z.out.next_fresh) e A.named in
      ends_both (name_adds B w.name p (wf_up B named.0 p A.wf))
      (ends_of (intern_made (up_to B (suc w.name)) (Atomic w.name) p (wf_up B (omega (arith, named.0)) p A.wf) (le_refl (suc w.name))) (intern_not_zero (Atomic w.name) p))

  -- so each that is settled adds a concept
  pub half_grows : (env : Env) → Post (λ _ y. suc (length z.pool) ≤ length y.pool) (other_half env w (waits_for l z))
  unfolding other_half
  half_grows env = ends_post (pool_then (waits_for l z) (intern_raw (Atomic w.name)) (λ a. clausify_gci env w.filler a) half_name (λ i q R.
      let M = R.1 in
      let h = le_trans (subst (Each (λ (x : Limit). x.filler < length z.pool)) e A.held).0 (grown_length M.grows) in
      ends_map ((from_gci env (λ _ _. Unit {0}) (nothing_kept env) (up_to B (suc w.name)) q w.filler i h M.held).run (record { pool = q; out = with_limits l z.out }) (record { grows = grown_refl q; wf = M.wf; kept = tt }))
      (λ _ y K. omega (arith, R.0.1, grown_length K.grows))))

module _ (B : Bounds) (env : Env) (roles : RolesKept B env) where
  module _ (J : Pool → Out → Type 0) (I : PoolInvariant env J) where
    -- its inclusion, after its name has entered the pool q as i
    half_from : (w : Limit) (l : List Limit) (z : Clausifier) (i : ℕ) (q : Pool) → Settling B env z → z.out.limits ≡ w ∷ l → Made (up_to B (suc w.name)) z.pool i q → length q ≡ suc (length z.pool)
        → J z.pool (with_limits l z.out) → Ends (λ _ y. Halved B (waits_for l z) y × J y.pool y.out) (clausify_gci env w.filler i (record { pool = q; out = with_limits l z.out }))
    half_from w l z i q S e M n j =
        let named = subst (λ k. NamesFrom S.awaits.above k z.out.next_fresh) e S.awaits.named in
        let held = subst (Each (λ (x : Limit). x.filler < length z.pool)) e S.awaits.held in
        let n₁ = suc w.name in
        let B₁ = up_to B n₁ in
        let x : Clausifier = record { pool = q; out = with_limits l z.out } in
        let h = le_trans held.0 (grown_length M.grows) in
        let F : Fit B₁ env x = record { wf = M.wf; above = above_up (below_fresh n₁ z.out.next_fresh l named.1) S.above; vars = S.vars } in
        let fillers = each_map (λ (v : Limit). v.filler < length z.pool) (λ v. v.filler < length q) (λ v k. le_trans k (grown_length M.grows)) l held.1 in
        ends_map (ends_both (gci_made B₁ env roles x F w.filler i x (clausified_refl x F) h M.held)
        (ends_both (ends_post ((from_gci env Fillers (fillers_kept env) B₁ q w.filler i h M.held).run x (record { grows = grown_refl q; wf = M.wf; kept = fillers })))
        (ends_both (gci_visits B₁ env w.filler i x M.wf h M.held)
        ((from_gci env J I B₁ q w.filler i h M.held).run x (record { grows = grown_refl q; wf = M.wf; kept = I.grows z.pool q M.grows (with_limits l z.out) j })))))
        (λ _ y R. (
          record {
            grows = grown_trans M.grows R.0.grows;
            more = omega (arith, n, grown_length R.0.grows);
            emitted = emitted_at B R.0.emitted;
            begins = R.1.1.0;
            vars = R.0.vars;
            awaits = record {
              above = n₁;
              wf = R.0.wf;
              named = rw R.0.emitted.limits (names_append n₁ z.out.next_fresh y.out.next_fresh l R.0.emitted.waiting named.1 R.0.emitted.named);
              held = R.1.0.kept;
            };
          },
          R.1.1.1.kept,
        ))

    pub half_made : (w : Limit) (l : List Limit) (z : Clausifier) → Settling B env z → z.out.limits ≡ w ∷ l → J z.pool (with_limits l z.out)
        → Ends (λ _ y. Halved B (waits_for l z) y × J y.pool y.out) (other_half env w (waits_for l z))
    unfolding other_half
    half_made w l z S e j = pool_then (waits_for l z) (intern_raw (Atomic w.name)) (λ a. clausify_gci env w.filler a) (half_name B w l z S.awaits e) (λ i q R. half_from w l z i q S e R.1 R.0.1 j)

    -- ---- all that wait; what is kept does not read the limits
    module _ (apart-kept : (p : Pool) (w : List Limit) (s : Out) → J p s → J p (with_limits w s)) where
      settle_by_lem : (f : ℕ) (z : Clausifier) → Settling B env z → (f ≡ 0 → z.out.visits ≤ z.out.limit) → z.out.limit < f + z.out.visits → J z.pool z.out → Ends (λ _ y. Whole B (waits_for [] z) y × J y.pool y.out) (settle_by env f z)
      unfolding settle_by leave_limits
      settle_by_lem zero z S k h j = absurd (omega (arith, k refl))
      settle_by_lem (suc f) z S _ h j = go (λ y T k h i. settle_by_lem f y T (λ _. k) h i) z.out.limits refl
        where
          go : ((y : Clausifier) → Settling B env y → y.out.visits ≤ y.out.limit → y.out.limit < f + y.out.visits → J y.pool y.out → Ends (λ _ x. Whole B (waits_for [] y) x × J x.pool x.out) (settle_by env f y))
              → (k : List Limit) → z.out.limits ≡ k → Ends (λ _ y. Whole B (waits_for [] z) y × J y.pool y.out) (settle_next env (λ y. settle_by env f y) k z)
          go rest [] e = end (settled_none z S e, j)
          go rest (w ∷ l) e = ends_then (half_made w l z S e (apart-kept z.pool l z.out j)) (λ _ y R.
              ends_map (rest y (settling_after S R.0) (R.0.emitted.within (omega (arith, R.0.begins.1))) (omega (arith, R.0.begins.0, R.0.emitted.limit)) R.1) (λ _ x X. (settled_more z R.0 X.0, X.1)))

      pub settle_made : (z : Clausifier) → Settling B env z → J z.pool z.out → Ends (λ _ y. Whole B (waits_for [] z) y × J y.pool y.out) (settle env z)
      settle_made z S j = settle_by_lem (suc z.out.limit) z S (λ (e : suc z.out.limit ≡ 0). absurd (omega arith)) (omega arith) j

  -- ---- one axiom
  ready_fit : {z : Clausifier} → Ready B env z → Fit (up_to B z.out.next_fresh) env z
  ready_fit {z} R = record { wf = R.wf; above = above_up (le_refl z.out.next_fresh) R.above; vars = R.vars }

  -- the declared classes are below the next one
  classes_below : (z : Clausifier) → Above B env z.out.next_fresh → B.classes ≤ z.out.next_fresh
  classes_below z A = go B.classes A.classes
    where
      go : (n : ℕ) → ((a : ℕ) → a < n → a < z.out.next_fresh) → n ≤ z.out.next_fresh
      go zero h = omega arith
      go (suc n) h = h n (omega arith)

  module _ (J : Pool → Out → Type 0) (I : PoolInvariant env J) where
    -- its own clauses
    pub axiom_awaits : (a : Axiom) (z : Clausifier) → Ready B env z → AxiomIn B (length z.pool) a → J z.pool z.out
        → Ends (λ _ y. Clausified (up_to B z.out.next_fresh) z y × (Settling B env y × J y.pool y.out)) (clausify_axiom env a z)
    axiom_awaits a z R i j =
        let n = z.out.next_fresh in
        let B₁ = up_to B n in
        let i₁ = axiom_up B (classes_below z R.above) (length z.pool) a i in
        let none : Fillers z.pool z.out = rw R.none tt in
        ends_map (ends_both (axiom_made B₁ env roles a z (ready_fit R) i₁)
        (ends_both (ends_post ((from_axiom env Fillers (fillers_kept env) B₁ z.pool a i₁).run z (record { grows = grown_refl z.pool; wf = R.wf; kept = none })))
        ((from_axiom env J I B₁ z.pool a i₁).run z (record { grows = grown_refl z.pool; wf = R.wf; kept = j }))))
        (λ _ y X. (
          X.0,
          (
            record {
              awaits = record { above = n; wf = X.0.wf; named = rw (X.0.emitted.limits, R.none) X.0.emitted.named; held = X.1.0.kept };
              above = above_more X.0.emitted.fresh R.above;
              vars = X.0.vars;
            },
            X.1.1.kept,
          ),
        ))

    module _ (apart-kept : (p : Pool) (w : List Limit) (s : Out) → J p s → J p (with_limits w s)) where
      -- and its limits
      pub whole_made : (a : Axiom) (z : Clausifier) → Ready B env z → AxiomIn B (length z.pool) a → J z.pool z.out → Ends (λ _ y. Whole B z y × J y.pool y.out) (clausify_whole env a z)
      unfolding clausify_whole
      whole_made a z R i j = ends_then (axiom_awaits a z R i j) (λ _ y X. ends_map (settle_made J I apart-kept y X.1.0 X.1.1) (λ _ x Y. (
        record {
          grows = grown_trans X.0.grows Y.0.grows;
          wf = Y.0.wf;
          emitted = subst (λ (w : Clausifier). Emitted B (x.out.visits + 3) w.out x.out) (apart z R.none) (emitted_trans (omega (arith, Y.0.emitted.visits)) (emitted_apart (emitted_at B X.0.emitted)) Y.0.emitted);
          vars = Y.0.vars;
          none = Y.0.none;
        },
        Y.1,
      )))

      -- ---- all axioms; lines are no part of what is said over several
      module _ (most : ℕ) (lines : (n : ℕ) → n ≤ most → (p : Pool) (s : Out) → J p s → J p (at_line n s)) where
        pub axioms_kept : (line : ℕ) (l : List Axiom) (z : Clausifier) → line + length l ≤ suc most → Ready B env z → Each (AxiomIn B (length z.pool)) l → J z.pool z.out
            → LinedEnds (λ _ y. Whole B (clausifier_at 0 z) (clausifier_at 0 y) × J y.pool y.out) (clausify_axioms env line l z)
        unfolding clausify_axioms
        axioms_kept line [] z h R u j = close (record { grows = grown_refl z.pool; wf = R.wf; emitted = emitted_refl B (z.out.visits + 3) (at_line 0 z.out); vars = R.vars; none = R.none }, j)
        axioms_kept line (a ∷ l) z h R u j =
            lined_ends_then (lined_ends line (whole_made a (clausifier_at line z) (ready_at line R) u.0 (lines line (omega arith) z.pool z.out j))) (λ _ y X.
            lined_ends_map (axioms_kept (line + 1) l y (omega arith) (ready_after (ready_at line R) X.0) (axioms_more B (length z.pool) (length y.pool) l (grown_length X.0.grows) u.1) X.1) (λ _ x Y.
            (whole_trans (without_line line z X.0) Y.0, Y.1)))

-- ---- each by itself
module _ (B : Bounds) (env : Env) (roles : RolesKept B env) where
  pub axiom_waits : (a : Axiom) (z : Clausifier) → Ready B env z → AxiomIn B (length z.pool) a → Post (λ _ y. Clausified (up_to B z.out.next_fresh) z y × Settling B env y) (clausify_axiom env a z)
  axiom_waits a z R i = post_map (ends_post (axiom_awaits B env roles (λ _ _. Unit {0}) (nothing_kept env) a z R i tt)) (λ _ y X. (X.0, X.1.0))

  pub half_settles : (w : Limit) (l : List Limit) (z : Clausifier) → Settling B env z → z.out.limits ≡ w ∷ l → Post (λ _ y. Halved B (waits_for l z) y × Settling B env y) (other_half env w (waits_for l z))
  half_settles w l z S e = post_map (ends_post (half_made B env roles (λ _ _. Unit {0}) (nothing_kept env) w l z S e tt)) (λ _ y X. (X.0, settling_after S X.0))

  pub whole_ready : (a : Axiom) (z : Clausifier) → Ready B env z → AxiomIn B (length z.pool) a → Post (λ _ y. Whole B z y × Ready B env y) (clausify_whole env a z)
  whole_ready a z R i = post_map (ends_post (whole_made B env roles (λ _ _. Unit {0}) (nothing_kept env) (λ p w s j. j) a z R i tt)) (λ _ y X. (X.0, ready_after R X.0))

-- ---- as the run calls it
pub axioms_made : (B : Bounds) (env : Env) (roles : RolesKept B env) (line : ℕ) (l : List Axiom) (z : Clausifier) → Ready B env z → Each (AxiomIn B (length z.pool)) l
    → LinedPost (λ _ y. Whole B (clausifier_at 0 z) (clausifier_at 0 y)) (clausify_axioms env line l z)
axioms_made B env roles line l z R u =
    lined_map (lined_ends_post (axioms_kept B env roles (λ _ _. Unit {0}) (nothing_kept env) (λ p w s j. j) (line + length l) (λ n h p s j. j) line l z (omega arith) R u tt)) (λ _ y X. X.0)

pub axioms_roomy : (B : Bounds) (env : Env) (roles : RolesKept B env) (line : ℕ) (l : List Axiom) (z : Clausifier) → Ready B env z → Each (AxiomIn B (length z.pool)) l → Roomy env z.out
    → LinedEnds (λ _ y. Whole B (clausifier_at 0 z) (clausifier_at 0 y) × Roomy env y.out) (clausify_axioms env line l z)
axioms_roomy B env roles line l z R u r =
    axioms_kept B env roles (λ _. Roomy env) (roomy_kept env) (λ p w s x. record { clauses = x.clauses; atoms = x.atoms; deferrals = x.deferrals })
    (line + length l) (λ n h p s x. record { clauses = x.clauses; atoms = x.atoms; deferrals = x.deferrals }) line l z (omega arith) R u r

pub axioms_tabled : (B : Bounds) (env : Env) (roles : RolesKept B env) (most line : ℕ) (l : List Axiom) (z : Clausifier) → line + length l ≤ suc most → Ready B env z → Each (AxiomIn B (length z.pool)) l → Tabled env most z.out
    → LinedEnds (λ _ y. Whole B (clausifier_at 0 z) (clausifier_at 0 y) × Tabled env most y.out) (clausify_axioms env line l z)
axioms_tabled B env roles most line l z h R u t =
    axioms_kept B env roles (λ _. Tabled env most) (tabled_kept env most)
    (λ p w s x. record { roomy = record { clauses = x.roomy.clauses; atoms = x.roomy.atoms; deferrals = x.roomy.deferrals }; line = x.line; lines = x.lines }) most
    (λ n k p s x. record { roomy = record { clauses = x.roomy.clauses; atoms = x.roomy.atoms; deferrals = x.roomy.deferrals }; line = k; lines = x.lines }) line l z h R u t

pub start_ready : (B : Bounds) (d : Known) (rooms : Rooms) (axioms : List Axiom) (s : St) → B.classes ≤ d.header.classes → B.individuals ≤ d.header.individuals → Wf B s.pool → Ready B (env_of d rooms axioms) (start d s)
start_ready B d rooms axioms s h k w = record {
  wf = wf_up B {m = B.classes} (omega arith) s.pool w;
  above = record { classes = λ a i. omega arith; individuals = λ i j. omega arith };
  vars = omega arith;
  none = refl;
}

pub run_axioms_made : (B : Bounds) (d : Known) (rooms : Rooms) (line : ℕ) (axioms : List Axiom) (s : St)
    → B.classes ≤ d.header.classes → B.individuals ≤ d.header.individuals → Wf B s.pool → Each (AxiomIn B (length s.pool)) axioms
    → LinedPost (λ _ y. Whole B (start d s) (clausifier_at 0 y)) (clausify_axioms (env_of d rooms axioms) line axioms (start d s))
run_axioms_made B d rooms line axioms s h k w u =
    axioms_made B (env_of d rooms axioms) (canon_in B (length s.pool) (follow_roles d.header.options) axioms u) line axioms (start d s) (start_ready B d rooms axioms s h k w) u
