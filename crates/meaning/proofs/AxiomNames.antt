-- Option 4, axiom by axiom: without data keys, and with no deferral at the axiom's line, every limit of the axiom settles. Nothing of
-- an interpretation is asked, so one without elements serves. Assumes nothing.
use Rattle.std.specs.Prelude.{◌≡◌, Bool, false, eqb}
use Rattle.std.proofs.Math.Path.{refl, sym, ap, subst}
use Rattle.std.proofs.Common.{◌∙◌, arith, length-append, eq-eqb}
use Rattle.std.proofs.lemmas.Bool.{false≢true, or_parts}
use mathlib.Core.List.{List, [], ◌∷◌, ◌++◌, append-nil, append_assoc, Memᴰ}
use Rattle.std.proofs.Math.Option.{Option, none, some}
use Prim.Native.Nat.{ℕ, zero, suc, ◌+◌, ◌≤◌, ◌<◌}
use Rattle.std.proofs.Math.ListN.{length}
use Rattle.std.proofs.lemmas.List.{nil_from_length}
use Rattle.ir.specs.declared.atom.Atom.TheVariants.{Class}
use Rattle.rules.specs.Base.{Res, ok, then, any}
use Rattle.rules.specs.Concept.{Axiom}
use Rattle.rules.specs.Pool.{Pool}
use Rattle.rules.specs.State.{Deferred, Limit, Env, leave_limits}
use Rattle.rules.specs.Heads.{emit_by}
use Rattle.rules.specs.Axioms.{Clausifier, other_half, settle_next, settle_by, settle, clausify_whole}
use Rattle.rules.specs.Run.{lined, lined_then, clausifier_at, clausify_axioms}
use Rattle.rules.specs.Post.{Post, gives, give, refuses, post_map}
use Rattle.rules.specs.LinedPost.{LinedPost, stops, finish, lined_map}
use Rattle.rules.specs.Invariants.{Each, Bounds, up_to, Wf, Grown, AxiomIn}
use Rattle.rules.specs.PoolLaws.{grown_trans, grown_length, post_both}
use Rattle.rules.proofs.NormalizeLaws.{axiom_more}
use Rattle.rules.specs.EachLaws.{each_map, each_both, each_append, each_left, each_right}
use Rattle.rules.specs.LimitLaws.{wf_up}
use Rattle.rules.specs.EqualNames.{Call, called, go_on, leaving, next_calls, settle_calls, whole_calls, axioms_calls, NameBelow, keyless, Halves, Settle, nothing, settles, Settles}
use Rattle.rules.specs.Semantics.{Interpretation}
use Rattle.meaning.specs.Truth.{any_append}
use Rattle.meaning.specs.Tracks.{post_said, Behind, Firsts, Track}
use Rattle.meaning.specs.Adds.{Setting}
use Rattle.meaning.proofs.Axioms.{Clausified, Whole, Own, own_limits, Sat, own_means, whole_means}
use Rattle.meaning.proofs.EqualNames.{some_is, none_some, append_cancel}
use Rattle.meaning.proofs.Settle.{Held, Puts, other_half_means, holds_after}

-- ---- small laws
-- records with line n, none of which has it
no_line : (n : ℕ) (l : List Deferred) → Each (λ d. d.line ≡ n) l → any (λ e. eqb e.line n) l ≡ false → l ≡ []
no_line n [] q f = refl
no_line n (d ∷ l) q f = absurd (false≢true (sym (or_parts (eqb d.line n) (any (λ e. eqb e.line n) l) f).0 ∙ eq-eqb d.line n q.0))

-- without keys an environment is keyless
keyless_is : (env : Env) → env.dkey_classes ≡ [] → env ≡ keyless env
keyless_is env e = ap (λ l. record { nominal_base = env.nominal_base; inverse_canon = env.inverse_canon; dkey_classes = l; card_disjunct_atoms = env.card_disjunct_atoms; equal_names = env.equal_names; rooms = env.rooms }) e

module _ (env : Env) (calls : List Call) where
  settle_left : (l m : List Limit) → Settle env calls (l ++ m) → Settle env calls l
  settle_left [] m h = nothing
  settle_left (w ∷ l) m (settles rest c H call queued free call' limits queued') = settles (settle_left l m rest) c H call queued free call' limits queued'

  settle_right : (l m : List Limit) → Settle env calls (l ++ m) → Settle env calls m
  settle_right [] m h = h
  settle_right (w ∷ l) m (settles rest c H call queued free call' limits queued') = settle_right l m rest

  -- ---- what waits: each limit with its name's clauses, and behind it what they queued
  pub record First (w : Limit) (l : List Limit) : Type 0 where
    pub call : Call
    pub member : Memᴰ call calls
    pub below : NameBelow env call.after.pool call.before.out call.after.out w
    pub behind : Behind below.between.queued l

  abbrev pub Queue : List Limit → Type 0
  Queue [] = Unit {0}
  Queue (w ∷ l) = First w l × Queue l

  queue_append : (l m : List Limit) → Queue l → Queue m → Queue (l ++ m)
  queue_append [] m Q R = R
  queue_append (w ∷ l) m Q R = (
    record {
      call = Q.0.call;
      member = Q.0.member;
      below = Q.0.below;
      behind = record { others = Q.0.behind.others ++ m; split = ap (λ z. z ++ m) Q.0.behind.split ∙ append_assoc Q.0.below.between.queued Q.0.behind.others m };
    },
    queue_append l m Q.1 R,
  )

  queue_of_lem : (c : Call) → Memᴰ c calls → (ws : List Limit) → Firsts env c.after.pool c.before.out c.after.out ws → Queue ws
  queue_of_lem c m [] F = tt
  queue_of_lem c m (w ∷ l) F = (record { call = c; member = m; below = F.0; behind = F.1 }, queue_of_lem c m l F.2)

  -- the first that waits settles, where the others do and what its inclusion made
  settle_first : env.dkey_classes ≡ [] → (w : Limit) (l made : List Limit) (d : Call) → First w l → Settle env calls l → Memᴰ d calls → d.of ≡ some w
      → d.after.out.deferrals ≡ d.before.out.deferrals → other_half env w d.before ≡ ok tt d.after → d.after.out.limits ≡ d.before.out.limits ++ made → Settle env calls made → Settle env calls (w ∷ l)
  settle_first keys w l made d F rest m is free call limits queued =
      let X = F.below in
      settles rest F.member (record { below = X; turn = d; taken = m; of = is })
      (subst (λ v. emit_by v X.pool X.bound (Class w.name 0 ∷ []) w.filler 0 X.from ≡ ok tt X.to) (keyless_is env keys) X.call)
      (settle_left X.between.queued F.behind.others (subst (Settle env calls) F.behind.split rest))
      free (subst (λ v. other_half v w d.before ≡ ok tt d.after) (keyless_is env keys) call) limits queued

  alone_settles : (w : Limit) (l : List Limit) → Settle env calls (w ∷ l) → Settles env calls w
  alone_settles w l h = settle_left (w ∷ []) l h

  abbrev pub SettledCall : Call → Type 0
  SettledCall c = (w : Limit) → c.of ≡ some w → Settles env calls w

-- both are empty
both_empty : {A : Type 0} (k l : List A) → k ++ l ≡ [] → (k ≡ []) × (l ≡ [])
both_empty k l e = let n = sym (length-append k l) ∙ ap length e in (nil_from_length k (omega (arith, n)), nil_from_length l (omega (arith, n)))

module _ (env : Env) (calls : List Call) where
  -- its turn comes
  abbrev Turn : Limit → Type 0
  Turn w = (d : Call) × Memᴰ d calls × (d.of ≡ some w)

  -- what the call queued has both halves
  abbrev pub HasHalves : Call → Type 0
  HasHalves c = (ws : List Limit) → c.after.out.limits ≡ c.before.out.limits ++ ws → Each (Halves env calls c) ws

  halves_of : (c : Call) (ws : List Limit) → Firsts env c.after.pool c.before.out c.after.out ws → Each Turn ws → Each (Halves env calls c) ws
  halves_of c [] F u = tt
  halves_of c (w ∷ l) F u = (record { below = F.0; turn = u.0.0; taken = u.0.1; of = u.0.2 }, halves_of c l F.2 u.1)

  abbrev pub Among : List Call → Type 0
  Among part = Each (λ c. Memᴰ c calls) part

  -- ---- a part of a run, from z, where ws wait, to t: both halves of its limits; what it deferred, at its line; and if nothing, its
  -- limits settle
  pub record Ran (z : Clausifier) (ws : List Limit) (t : Clausifier) (part : List Call) : Type 0 where
    pub turns : Among part → Each Turn ws
    pub halves : Among part → Each HasHalves part
    pub deferred : List Deferred
    pub deferrals : t.out.deferrals ≡ z.out.deferrals ++ deferred
    pub line : t.out.line ≡ z.out.line
    pub lines : Each (λ d. d.line ≡ z.out.line) deferred
    pub same_line : Each (λ c. c.before.out.line ≡ z.out.line) part
    pub settled : env.dkey_classes ≡ [] → deferred ≡ [] → Among part → Queue env calls ws → Settle env calls ws × Each (SettledCall env calls) part

  ran_none : (z : Clausifier) → Ran z [] z []
  ran_none z = record { turns = λ _. tt; halves = λ _. tt; deferred = []; deferrals = sym (append-nil z.out.deferrals); line = refl; lines = tt; same_line = tt; settled = λ _ _ _ _. (nothing, tt) }

  ran_left : (l : List Limit) (z : Clausifier) {ws : List Limit} {t : Clausifier} {part : List Call} → Ran (leaving l z) ws t part → Ran z ws t part
  ran_left l z X = record { turns = X.turns; halves = X.halves; deferred = X.deferred; deferrals = X.deferrals; line = X.line; lines = X.lines; same_line = X.same_line; settled = X.settled }

  -- a call with its track, and what follows it
  ran_more : (ws : List Limit) (o : Option Limit) (z y t : Clausifier) (waiting : List Limit) (rest : List Call) → y.out.limits ≡ z.out.limits ++ waiting
      → (K : Track env y.pool z.out y.out waiting) (X : Ran y y.out.limits t rest)
      → (Among (record { of = o; before = z; after = y } ∷ rest) → Each Turn z.out.limits → Each Turn ws)
      → (env.dkey_classes ≡ [] → K.later.deferred ≡ [] → X.deferred ≡ [] → Among (record { of = o; before = z; after = y } ∷ rest) → Queue env calls ws
      → Settle env calls ws × Each (SettledCall env calls) (record { of = o; before = z; after = y } ∷ rest))
      → Ran z ws t (record { of = o; before = z; after = y } ∷ rest)
  ran_more ws o z y t waiting rest waits K X turn h = record {
    turns = λ m. turn m (each_left Turn z.out.limits waiting (subst (Each Turn) waits (X.turns m.1)));
    halves = λ m. (
      λ us e. subst (Each (Halves env calls (record { of = o; before = z; after = y }))) (append_cancel z.out.limits waiting us (sym waits ∙ e))
          (halves_of (record { of = o; before = z; after = y }) waiting K.firsts (each_right Turn z.out.limits waiting (subst (Each Turn) waits (X.turns m.1)))),
      X.halves m.1,
    );
    deferred = K.later.deferred ++ X.deferred;
    deferrals = X.deferrals ∙ ap (λ l. l ++ X.deferred) K.later.deferrals ∙ append_assoc z.out.deferrals K.later.deferred X.deferred;
    line = X.line ∙ K.line;
    lines = each_append (λ d. d.line ≡ z.out.line) K.later.deferred X.deferred K.lines (each_map (λ d. d.line ≡ y.out.line) (λ d. d.line ≡ z.out.line) (λ _ e. e ∙ K.line) X.deferred X.lines);
    same_line = (refl, each_map (λ c. c.before.out.line ≡ y.out.line) (λ c. c.before.out.line ≡ z.out.line) (λ _ e. e ∙ K.line) rest X.same_line);
    settled = λ keys e m Q. let b = both_empty K.later.deferred X.deferred e in h keys b.0 b.1 m Q;
  }

  module _ (I : Interpretation) (B : Bounds) (low : ℕ) (S : Setting I B env low) where
    abbrev Waits : Clausifier → Limit → Type 0
    Waits = Held I B env low S.individuals S.keeps

    -- ---- the queue
    settle_runs : (f : ℕ) (z : Clausifier) → Wf (up_to B z.out.next_fresh) z.pool → low ≤ z.out.next_fresh → Each (Waits z) z.out.limits
        → Post (λ _ t. Ran z z.out.limits t (settle_calls env f z)) (settle_by env f z)
    unfolding settle_by settle_calls leave_limits
    settle_runs zero z w b h = refuses
    settle_runs (suc f) z w b h = go z.out.limits h (settle_runs f)
      where
        go : (ws : List Limit) → Each (Waits z) ws
            → ((y : Clausifier) → Wf (up_to B y.out.next_fresh) y.pool → low ≤ y.out.next_fresh → Each (Waits y) y.out.limits → Post (λ _ t. Ran y y.out.limits t (settle_calls env f y)) (settle_by env f y))
            → Post (λ _ t. Ran z ws t (next_calls env (λ y. settle_calls env f y) ws z)) (settle_next env (λ y. settle_by env f y) ws z)
        go [] u ih = give (ran_none z)
        go (x ∷ l) u ih = by (post_said (other_half_means I B env low S.individuals S.keeps (leaving l z) b w x u.0))
          where
            by : {r : Res Clausifier (Unit {0})} → Post (λ v t. Puts I B env low S.individuals S.keeps (leaving l z) b w x t × (other_half env x (leaving l z) ≡ ok v t)) r
                → Post (λ _ t. Ran z (x ∷ l) t (called (some x) (leaving l z) (λ y. settle_calls env f y) r)) (then r (λ _ y. settle_by env f y))
            by (gives {s = y} P) =
                let D = P.0 in
                let A = D.added in
                post_map (ih y (wf_up B A.fresh y.pool D.moved.wf) (omega (arith, A.fresh)) (holds_after I B env low S.individuals S.keeps (leaving l z) b w x y D l refl u.1)) (λ _ t X.
                ran_left l z (ran_more (x ∷ l) (some x) (leaving l z) y t A.waiting (settle_calls env f y) A.waits A.track X (λ m u. ((record { of = some x; before = leaving l z; after = y }, m.0, refl), u)) (λ keys e e' m Q.
                let d : Call = record { of = some x; before = leaving l z; after = y } in
                let same : y.out.deferrals ≡ z.out.deferrals = A.track.later.deferrals ∙ ap (λ k. z.out.deferrals ++ k) e ∙ append-nil z.out.deferrals in
                let R = X.settled keys e' m.1 (subst (Queue env calls) (sym A.waits) (queue_append env calls l A.waiting Q.1 (queue_of_lem env calls d m.0 A.waiting A.track.firsts))) in
                let all = subst (Settle env calls) A.waits R.0 in
                let first = settle_first env calls keys x l A.waiting d Q.0 (settle_left env calls l A.waiting all) m.0 refl same P.1 A.waits (settle_right env calls l A.waiting all) in
                (first, (λ v s. subst (Settles env calls) (some_is s) (alone_settles env calls x l first), R.1)))))
            by refuses = refuses

    -- ---- an axiom with its limits
    whole_runs : (a : Axiom) (z : Clausifier) → low ≤ z.out.next_fresh → z.out.limits ≡ [] → Wf (up_to B z.out.next_fresh) z.pool → AxiomIn B (length z.pool) a
        → Post (λ _ t. Ran z [] t (whole_calls env a z)) (clausify_whole env a z)
    unfolding clausify_whole
    whole_runs a z b e w h = go (own_means I B env low S a z b e w h)
      where
        go : {r : Res Clausifier (Unit {0})} → Post (λ _ t. Own I B env low S a z b e t) r → Post (λ _ t. Ran z [] t (called none z (λ y. settle_calls env (suc y.out.limit) y) r)) (then r (λ _. settle env))
        go (gives {s = y} D) =
            let A = D.added in
            let waits = own_limits I B env low S a z b e y D in
            let held = each_both (λ w. w.filler < length y.pool) (λ w. w.name < y.out.next_fresh) (Waits y) (λ _ h k. (h, k)) A.waiting A.held A.named in
            post_map (settle_runs (suc y.out.limit) y (wf_up B A.fresh y.pool D.moved.wf) (omega (arith, A.fresh)) (subst (Each (Waits y)) (sym waits) held)) (λ _ t X.
            ran_more [] none z y t A.waiting (settle_calls env (suc y.out.limit) y) A.waits A.track X (λ m u. tt) (λ keys _ e' m Q.
            let c : Call = record { of = none; before = z; after = y } in
            let R = X.settled keys e' m.1 (subst (Queue env calls) (sym waits) (queue_of_lem env calls c m.0 A.waiting A.track.firsts)) in
            (nothing, (λ v s. absurd (none_some s), R.1))))
        go refuses = refuses

    -- ---- all axioms: a limit of an axiom at whose line nothing was deferred in the end
    abbrev pub FreeAt : List Deferred → Call → Type 0
    FreeAt last c = any (λ e. eqb e.line c.before.out.line) last ≡ false

    pub record RanAll (z t : Clausifier) (part : List Call) : Type 0 where
      pub halves : Among part → Each HasHalves part
      pub deferred : List Deferred
      pub deferrals : t.out.deferrals ≡ z.out.deferrals ++ deferred
      pub settled : env.dkey_classes ≡ [] → (last late : List Deferred) → last ≡ t.out.deferrals ++ late → Among part → Each (λ c. FreeAt last c → SettledCall env calls c) part

    -- one after another
    ran_then : (line : ℕ) (z t u : Clausifier) (part rest : List Call) → Ran (clausifier_at line z) [] t part → RanAll t u rest → RanAll z u (part ++ rest)
    ran_then line z t u part rest X Y = record {
      halves = λ m. each_append HasHalves part rest (X.halves (each_left (λ c. Memᴰ c calls) part rest m)) (Y.halves (each_right (λ c. Memᴰ c calls) part rest m));
      deferred = X.deferred ++ Y.deferred;
      deferrals = Y.deferrals ∙ ap (λ k. k ++ Y.deferred) X.deferrals ∙ append_assoc z.out.deferrals X.deferred Y.deferred;
      settled = λ keys last late e m. each_append (λ c. FreeAt last c → SettledCall env calls c) part rest
          (free_calls last part X.same_line (λ d. (X.settled keys d (each_left (λ c. Memᴰ c calls) part rest m) tt).1)
          (λ c q f. none_deferred last late e c.before.out.line (each_map (λ d. d.line ≡ line) (λ d. d.line ≡ c.before.out.line) (λ _ k. k ∙ sym q) X.deferred X.lines) f))
          (Y.settled keys last late e (each_right (λ c. Memᴰ c calls) part rest m));
    }
      where
        -- nothing of the axiom's own
        none_deferred : (last late : List Deferred) → last ≡ u.out.deferrals ++ late → (n : ℕ) → Each (λ d. d.line ≡ n) X.deferred → any (λ e. eqb e.line n) last ≡ false → X.deferred ≡ []
        none_deferred last late e n q f =
            let all : last ≡ z.out.deferrals ++ (X.deferred ++ (Y.deferred ++ late)) = e ∙ ap (λ k. k ++ late) (Y.deferrals ∙ ap (λ k. k ++ Y.deferred) X.deferrals) ∙ append_assoc (z.out.deferrals ++ X.deferred) Y.deferred late
            ∙ append_assoc z.out.deferrals X.deferred (Y.deferred ++ late) in
            let on : Deferred → Bool = λ d. eqb d.line n in
            let g = or_parts (any on z.out.deferrals) (any on (X.deferred ++ (Y.deferred ++ late))) (sym (any_append on z.out.deferrals (X.deferred ++ (Y.deferred ++ late))) ∙ ap (any on) (sym all) ∙ f) in
            no_line n X.deferred q (or_parts (any on X.deferred) (any on (Y.deferred ++ late)) (sym (any_append on X.deferred (Y.deferred ++ late)) ∙ g.1)).0

        free_calls : (last : List Deferred) (l : List Call) → Each (λ c. c.before.out.line ≡ line) l → (X.deferred ≡ [] → Each (SettledCall env calls) l)
            → ((c : Call) → c.before.out.line ≡ line → FreeAt last c → X.deferred ≡ []) → Each (λ c. FreeAt last c → SettledCall env calls c) l
        free_calls last [] q h g = tt
        free_calls last (c ∷ l) q h g = (λ f. (h (g c q.0 f)).0, free_calls last l q.1 (λ d. (h d).1) g)

    module _ (p : Pool) where
      pub axioms_run : (line : ℕ) (l : List Axiom) (z : Clausifier) → Grown p z.pool → Wf (up_to B z.out.next_fresh) z.pool → low ≤ z.out.next_fresh → z.out.limits ≡ [] → Each (AxiomIn B (length p)) l
          → LinedPost (λ _ t. RanAll z t (axioms_calls env line l z)) (clausify_axioms env line l z)
      unfolding clausify_axioms axioms_calls
      axioms_run line [] z g w b e h = finish (record { halves = λ _. tt; deferred = []; deferrals = sym (append-nil z.out.deferrals); settled = λ _ last late q m. tt })
      axioms_run line (a ∷ l) z g w b e h =
          let y = clausifier_at line z in
          let i = axiom_more B (length p) (length z.pool) a (grown_length g) h.0 in
          go (λ t. axioms_run (line + 1) l t) (post_both (whole_runs a y b e w i) (whole_means I B env low S a y b e w i))
        where
          go : ((t : Clausifier) → Grown p t.pool → Wf (up_to B t.out.next_fresh) t.pool → low ≤ t.out.next_fresh → t.out.limits ≡ [] → Each (AxiomIn B (length p)) l
              → LinedPost (λ _ u. RanAll t u (axioms_calls env (line + 1) l t)) (clausify_axioms env (line + 1) l t))
              → {r : Res Clausifier (Unit {0})}
              → Post (λ _ t. Ran (clausifier_at line z) [] t (whole_calls env a (clausifier_at line z)) × Whole I B env low S (clausifier_at line z) (Sat I B env low S a (clausifier_at line z) b e) (λ k. Clausified a → Sat I B env low S a (clausifier_at line z) b e k) t) r
              → LinedPost (λ _ u. RanAll z u (whole_calls env a (clausifier_at line z) ++ go_on r (λ t. axioms_calls env (line + 1) l t))) (lined_then (lined line r) (λ _ t. clausify_axioms env (line + 1) l t))
          go rest (gives {s = t} X) = lined_map (rest t (grown_trans g X.1.grows) X.1.wf (omega (arith, X.1.fresh)) X.1.none h.1) (λ _ u Y. ran_then line z t u (whole_calls env a (clausifier_at line z)) (axioms_calls env (line + 1) l t) X.0 Y)
          go rest refuses = stops
