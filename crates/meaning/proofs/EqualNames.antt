-- Option 4, name by name: a limit that settles has a name that is its filler, wherever the run's clauses hold. Assumes nothing.
use Rattle.std.specs.Prelude.{◌≡◌, Bool, true, false, drop}
use Rattle.std.proofs.Math.Path.{refl, subst}
use Rattle.std.proofs.Common.{sym, ap, ◌∙◌, le_trans, arith}
use Rattle.std.proofs.lemmas.Bool.{false≢true}
use mathlib.Core.List.{List, [], ◌∷◌, ◌++◌, append-nil, append_assoc}
use Rattle.std.proofs.Math.Option.{Option, none, some}
use Prim.Native.Nat.{ℕ, zero, suc, ◌+◌, ◌≤◌, ◌<◌}
use Rattle.std.proofs.Math.ListN.{length}
use Rattle.std.proofs.Math.Seq.{drop-append_seam}
use Rattle.ir.specs.declared.role.Role.{Role}
use Rattle.ir.specs.declared.atom.Atom.TheVariants.{Class}
use Rattle.rules.specs.Base.{Res, ok, then}
use Rattle.rules.specs.Concept.{Axiom}
use Rattle.rules.specs.Pool.{Pool, at}
use Rattle.rules.specs.State.{Clause, Limit, Env, canon, leave_limits}
use Rattle.rules.specs.Heads.{emit_by}
use Rattle.rules.specs.Axioms.{Clausifier, other_half, settle_next, settle_by, settle, clausify_whole}
use Rattle.rules.specs.Run.{lined, lined_then, clausifier_at, clausify_axioms}
use Rattle.rules.specs.Post.{Post, gives, give, refuses, post_map}
use Rattle.rules.specs.LinedPost.{LinedPost, stops, finish, lined_map}
use Rattle.rules.specs.Invariants.{Each, Bounds, up_to, Bounded, Wf, Grown, Normal, AxiomIn}
use Rattle.rules.specs.PoolLaws.{grown_refl, grown_trans, grown_length, grown_at, post_both, IsNormal, normal_step}
use Rattle.rules.proofs.NormalizeLaws.{axiom_more, AxiomNormal, axiom_normal_grown}
use Rattle.rules.specs.EachLaws.{each_both, each_append, each_left, each_right, each_member}
use Rattle.rules.specs.LimitLaws.{wf_up, axiom_up}
use Rattle.rules.specs.EqualNames.{Call, called, go_on, leaving, next_calls, settle_calls, whole_calls, axioms_calls, NameBelow, keyless, Settle, nothing, settles}
use Rattle.rules.specs.Semantics.{Interpretation, with_classes, related, means}
use Rattle.meaning.specs.Truth.{and_both}
use Rattle.meaning.proofs.Finite.{means_grown}
use Rattle.meaning.specs.Choices.{Follows}
use Rattle.meaning.specs.Valuations.{Valuation, each_of_lem}
use Rattle.meaning.specs.Adds.{Setting, Alone}
use Rattle.meaning.proofs.Added.{insides_shrunk}
use Rattle.meaning.proofs.Heads.{emit_means}
use Rattle.meaning.specs.NormalHeads.{frees_emit}
use Rattle.meaning.proofs.NormalQueue.{NormalFiller, NormalQueue, other_queue, own_queue}
use Rattle.meaning.proofs.Axioms.{Clausified, Whole, Own, own_limits, Sat, own_means, whole_means}
use Rattle.meaning.proofs.Settle.{setting, Held, Puts, other_half_means, holds_after}

-- ---- small laws
post_given : {S A : Type 0} {Q : A → S → Type 0} {a : A} {s : S} {r : Res S A} → r ≡ ok a s → Post Q r → Q a s
post_given {Q = Q} {a = a} {s = s} e h = go (subst (Post Q) e h)
  where
    go : Post Q (ok a s) → Q a s
    go (gives x) = x

pub append_cancel : {A : Type 0} (k l m : List A) → k ++ l ≡ k ++ m → l ≡ m
append_cancel k l m e = sym (drop-append_seam k l) ∙ ap (drop (length k)) e ∙ drop-append_seam k m

wf_shrunk : (B : Bounds) {p q : Pool} → Grown p q → Wf B q → Wf B p
wf_shrunk B {p} {q} g w c h = subst (Bounded B c) (grown_at g c h) (w c (le_trans h (grown_length g)))

pub some_is : {A : Type 0} {a b : A} → some a ≡ some b → a ≡ b
some_is {A} {a} e = ap (or_else_lem a) e
  where
    or_else_lem : A → Option A → A
    or_else_lem a none = a
    or_else_lem a (some b) = b

pub none_some : {A : Type 0} {a : A} → none ≡ some a → ⊥
none_some {A} {a} e = false≢true (ap is e)
  where
    is : Option A → Bool
    is none = false
    is (some _) = true

-- a concept of a smaller pool
normal_shrunk : (B : Bounds) (f : ℕ) (p q : Pool) (c : ℕ) → Wf B p → Grown p q → c < length p → Normal f q c → Normal f p c
normal_shrunk B zero p q c w g h k = k
normal_shrunk B (suc f) p q c w g h k =
    normal_step B (Normal f q) (Normal f p) q p c (λ d i. sym (grown_at g d (omega arith))) (λ d i. normal_shrunk B f p q d w g (omega arith)) (at p c) (w c h) (rw (grown_at g c h) at k)

-- ---- how far a run went
pub record Went (z t : Clausifier) : Type 0 where
  pub grows : Grown z.pool t.pool
  pub made : List Clause
  pub clauses : t.out.clauses ≡ z.out.clauses ++ made

pub went_refl : (z : Clausifier) → Went z z
went_refl z = record { grows = grown_refl z.pool; made = []; clauses = sym (append-nil z.out.clauses) }

pub went_trans : {z t u : Clausifier} → Went z t → Went t u → Went z u
went_trans {z} {t} {u} X Y = record {
  grows = grown_trans X.grows Y.grows;
  made = X.made ++ Y.made;
  clauses = Y.clauses ∙ ap (λ l. l ++ Y.made) X.clauses ∙ append_assoc z.out.clauses X.made Y.made;
}

pub went_at : (line : ℕ) (z : Clausifier) {t : Clausifier} → Went (clausifier_at line z) t → Went z t
went_at line z X = record { grows = X.grows; made = X.made; clauses = X.clauses }

pub went_left : (l : List Limit) (z : Clausifier) {t : Clausifier} → Went (leaving l z) t → Went z t
went_left l z X = record { grows = X.grows; made = X.made; clauses = X.clauses }

module _ (I : Interpretation) (B : Bounds) (env : Env) (low : ℕ) (inds : (i : ℕ) → i < B.individuals → env.nominal_base + i < low)
    (keeps : (r : Role) (x y : ℕ) → x < I.size → y < I.size → related I (canon env r) x y ≡ related I r x y) where
  -- a call of a run that went on to e
  pub record Good (e : Clausifier) (c : Call) : Type 0 where
    pub low≤ : low ≤ c.before.out.next_fresh
    pub wf : Wf (up_to B c.before.out.next_fresh) c.after.pool
    pub went : Went c.before c.after
    pub on : Went c.after e
    pub held : (w : Limit) → c.of ≡ some w → Held I B env low inds keeps c.before w
    pub normal : NormalQueue c.after.pool c.after.out

  -- ---- the two halves, in the pool and under the clauses of e
  module _ (e : Clausifier) (k : Valuation) (alone : Alone I B env k) (follow : Each (Follows (with_classes I k)) e.out.clauses) (option : env.equal_names ≡ true) where
    abbrev pub IsIn : Limit → Type 0
    IsIn w = (x : ℕ) → x < I.size → means (with_classes I k) e.pool w.filler x ≡ true → k w.name x ≡ true

    abbrev pub IsUnder : Limit → Type 0
    IsUnder w = (x : ℕ) → x < I.size → k w.name x ≡ true → means (with_classes I k) e.pool w.filler x ≡ true

    -- the filler is normal where its name's clauses were made
    filler_normal : {w : Limit} {c : Call} → Good e c → (X : NameBelow env c.after.pool c.before.out c.after.out w) → IsNormal X.pool w.filler
    filler_normal {w} {c} G X =
        let n = c.before.out.next_fresh in
        let N = NormalFiller c.after.pool in
        let at-to = each_left N X.to.limits X.after.queued (subst (Each N) X.after.limits G.normal) in
        let at_from = each_left N X.from.limits X.between.queued (subst (Each N) X.between.limits at-to) in
        let here = each_right N X.last.0 (w ∷ []) (subst (Each N) X.last.1 at_from) in
        normal_shrunk (up_to B n) (suc w.filler) X.pool c.after.pool w.filler (wf_shrunk (up_to B n) X.grown G.wf) X.grown X.held here.0.1

    name_below : {w : Limit} {c : Call} → Good e c → (X : NameBelow env c.after.pool c.before.out c.after.out w)
        → emit_by (keyless env) X.pool X.bound (Class w.name 0 ∷ []) w.filler 0 X.from ≡ ok tt X.to → Each IsIn X.between.queued → IsUnder w
    name_below {w} {c} G X call queued x l h =
        let n = c.before.out.next_fresh in
        let S : Setting I (up_to B n) (keyless env) n = setting I B (keyless env) low inds keeps n G.low≤ in
        let wf : Wf (up_to B n) X.pool = wf_shrunk (up_to B n) X.grown G.wf in
        let A = post_given call (emit_means I (up_to B n) (keyless env) n S X.pool wf X.bound (Class w.name 0 ∷ []) w.filler 0 X.from X.held X.enough (record {
          above = X.before.fresh;
          root = X.variable;
          var = X.variable;
          under = (omega (arith, X.taken), tt);
          vars = (X.variable, tt);
        })) in
        let clean = post_given call ((frees_emit (up_to B n) (keyless env) X.pool wf X.bound (Class w.name 0 ∷ []) w.filler 0 (X.held, filler_normal G X)).run X.from) in
        let g : Grown X.pool e.pool = grown_trans X.grown G.on.grows in
        let same : X.between.queued ≡ A.waiting = append_cancel X.from.limits X.between.queued A.waiting (sym X.between.limits ∙ A.waits) in
        let inside = insides_shrunk I g k A.waiting A.held (subst (Each IsIn) same queued) in
        let upto = subst (Each (Follows (with_classes I k))) (G.on.clauses ∙ ap (λ z. z ++ G.on.made) X.after.clauses) follow in
        let at-to = each_left (Follows (with_classes I k)) X.to.clauses X.after.made (each_left (Follows (with_classes I k)) (X.to.clauses ++ X.after.made) G.on.made upto) in
        let new = each_right (Follows (with_classes I k)) X.from.clauses A.new (subst (Each (Follows (with_classes I k))) A.grown at-to) in
        let gives = A.says k (record { alone = alone.alone }) new inside (λ off. absurd (false≢true (sym off ∙ option))) refl (ap length clean.0.deferrals) in
        ap (λ f. f x) (means_grown (with_classes I k) g w.filler X.held) ∙ gives (λ _. x) (λ _. l) (and_both h refl)

    filler_below : {w : Limit} {d : Call} (made : List Limit) → Good e d → d.of ≡ some w → d.after.out.deferrals ≡ d.before.out.deferrals → other_half (keyless env) w d.before ≡ ok tt d.after
        → d.after.out.limits ≡ d.before.out.limits ++ made → Each IsIn made → IsIn w
    filler_below {w} {d} made G is free call limits queued x l h =
        let n = d.before.out.next_fresh in
        let wf : Wf (up_to B n) d.before.pool = wf_shrunk (up_to B n) G.went.grows G.wf in
        let held = G.held w is in
        let D = post_given call (other_half_means I B (keyless env) low inds keeps d.before G.low≤ wf w held) in
        let A = D.added in
        let same : made ≡ A.waiting = append_cancel d.before.out.limits made A.waiting (sym limits ∙ A.waits) in
        let inside = insides_shrunk I G.on.grows k A.waiting A.held (subst (Each IsIn) same queued) in
        let new = each_right (Follows (with_classes I k)) d.before.out.clauses A.new (subst (Each (Follows (with_classes I k))) A.grown (each_left (Follows (with_classes I k)) d.after.out.clauses G.on.made
        (subst (Each (Follows (with_classes I k))) G.on.clauses follow))) in
        let gives = A.says k (record { alone = alone.alone }) new inside (λ off. absurd (false≢true (sym off ∙ option))) refl (ap length free) in
        gives x l (ap (λ f. f x) (sym (means_grown (with_classes I k) (grown_trans G.went.grows G.on.grows) w.filler held.0)) ∙ h)

    -- ---- so of each limit of a list that settles
    pub both_halves : {calls : List Call} → Each (Good e) calls → {ws : List Limit} → Settle env calls ws → Each (λ w. IsIn w × IsUnder w) ws
    both_halves G nothing = tt
    both_halves G (settles {made = made} rest c H call queued free call' limits queued') = (
      (
        filler_below made (each_member (Good e) G H.taken) H.of free call' limits (each_of_lem (λ _ h. h.0) made (both_halves G queued')),
        name_below (each_member (Good e) G c) H.below call (each_of_lem (λ _ h. h.0) H.below.between.queued (both_halves G queued)),
      ),
      both_halves G rest,
    )

  -- ---- the calls of a run are good
  went_of : {z : Clausifier} (low≤ : low ≤ z.out.next_fresh) (wf : Wf (up_to B z.out.next_fresh) z.pool) (w : Limit) {t : Clausifier} → Puts I B env low inds keeps z low≤ wf w t → Went z t
  went_of low≤ wf w D = record { grows = D.moved.grows; made = D.added.new; clauses = D.added.grown }

  -- a part of a run that ended in t, with its calls
  abbrev pub WellMade : Clausifier → Clausifier → List Call → Type 0
  WellMade z t calls = Went z t × ((e : Clausifier) → Went t e → Each (Good e) calls)

  settle_calls_lem : (f : ℕ) (z : Clausifier) → Wf (up_to B z.out.next_fresh) z.pool → low ≤ z.out.next_fresh → Each (Held I B env low inds keeps z) z.out.limits → NormalQueue z.pool z.out
      → Post (λ _ t. WellMade z t (settle_calls env f z)) (settle_by env f z)
  unfolding settle_by settle_calls leave_limits
  settle_calls_lem zero z w b h j = refuses
  settle_calls_lem (suc f) z w b h j = go z.out.limits h j (settle_calls_lem f)
    where
      go : (ws : List Limit) → Each (Held I B env low inds keeps z) ws → Each (NormalFiller z.pool) ws
          → ((y : Clausifier) → Wf (up_to B y.out.next_fresh) y.pool → low ≤ y.out.next_fresh → Each (Held I B env low inds keeps y) y.out.limits → NormalQueue y.pool y.out
          → Post (λ _ t. WellMade y t (settle_calls env f y)) (settle_by env f y))
          → Post (λ _ t. WellMade z t (next_calls env (λ y. settle_calls env f y) ws z)) (settle_next env (λ y. settle_by env f y) ws z)
      go [] u v ih = give (went_refl z, λ e q. tt)
      go (x ∷ l) u v ih = by (post_both (other_half_means I B env low inds keeps (leaving l z) b w x u.0) (other_queue (up_to B z.out.next_fresh) env x (leaving l z) w u.0.0 u.0.1 v.1))
        where
          by : {r : Res Clausifier (Unit {0})} → Post (λ _ t. Puts I B env low inds keeps (leaving l z) b w x t × NormalQueue t.pool t.out) r
              → Post (λ _ t. WellMade z t (called (some x) (leaving l z) (λ y. settle_calls env f y) r)) (then r (λ _ y. settle_by env f y))
          by (gives {s = y} P) =
              let D = P.0 in
              post_map (ih y (wf_up B D.added.fresh y.pool D.moved.wf) (omega (arith, D.added.fresh)) (holds_after I B env low inds keeps (leaving l z) b w x y D l refl u.1) P.1)
              (λ _ t X. (
                went_left l z (went_trans (went_of {z = leaving l z} b w x D) X.0),
                λ e q. (
                  record {
                    low≤ = b;
                    wf = D.moved.wf;
                    went = went_of {z = leaving l z} b w x D;
                    on = went_trans X.0 q;
                    held = λ v s. subst (Held I B env low inds keeps z) (some_is s) u.0;
                    normal = P.1;
                  },
                  X.1 e q,
                ),
              ))
          by refuses = refuses

module _ (I : Interpretation) (B : Bounds) (env : Env) (low : ℕ) (S : Setting I B env low) where
  abbrev pub Made : Clausifier → Clausifier → List Call → Type 0
  Made = WellMade I B env low S.individuals S.keeps

  -- an axiom with its limits
  whole_calls_lem : (a : Axiom) (z : Clausifier) → low ≤ z.out.next_fresh → z.out.limits ≡ [] → Wf (up_to B z.out.next_fresh) z.pool → AxiomIn B (length z.pool) a → AxiomNormal z.pool a
      → Post (λ _ t. Made z t (whole_calls env a z)) (clausify_whole env a z)
  unfolding clausify_whole
  whole_calls_lem a z b e w h k =
      let own = own_means I B env low S a z b e w h in
      go (post_both own (own_queue (up_to B z.out.next_fresh) env z w (subst (Each (NormalFiller z.pool)) (sym e) tt) a (axiom_up B (le_trans S.classes b) (length z.pool) a h) k (post_map own (λ _ t D. D.moved.grows))))
    where
      go : {r : Res Clausifier (Unit {0})} → Post (λ _ t. Own I B env low S a z b e t × NormalQueue t.pool t.out) r → Post (λ _ t. Made z t (called none z (λ y. settle_calls env (suc y.out.limit) y) r)) (then r (λ _. settle env))
      go (gives {s = y} P) =
          let D = P.0 in
          let A = D.added in
          let own : Went z y = record { grows = D.moved.grows; made = A.new; clauses = A.grown } in
          let held = each_both (λ w. w.filler < length y.pool) (λ w. w.name < y.out.next_fresh) (Held I B env low S.individuals S.keeps y) (λ _ h k. (h, k)) A.waiting A.held A.named in
          post_map (settle_calls_lem I B env low S.individuals S.keeps (suc y.out.limit) y (wf_up B A.fresh y.pool D.moved.wf) (omega (arith, A.fresh))
          (subst (Each (Held I B env low S.individuals S.keeps y)) (sym (own_limits I B env low S a z b e y D)) held) P.1)
          (λ _ t X. (went_trans own X.0, λ e q. (record { low≤ = b; wf = D.moved.wf; went = own; on = went_trans X.0 q; held = λ v s. absurd (none_some s); normal = P.1 }, X.1 e q)))
      go refuses = refuses

  -- all axioms
  module _ (p : Pool) (wp : Wf B p) where
    pub axioms_calls_lem : (line : ℕ) (l : List Axiom) (z : Clausifier) → Grown p z.pool → Wf (up_to B z.out.next_fresh) z.pool → low ≤ z.out.next_fresh → z.out.limits ≡ [] → Each (AxiomIn B (length p)) l → Each (AxiomNormal p) l
        → LinedPost (λ _ t. Made z t (axioms_calls env line l z)) (clausify_axioms env line l z)
    unfolding clausify_axioms axioms_calls
    axioms_calls_lem line [] z g w b e h n = finish (went_refl z, λ e q. tt)
    axioms_calls_lem line (a ∷ l) z g w b e h n =
        let y = clausifier_at line z in
        let i = axiom_more B (length p) (length z.pool) a (grown_length g) h.0 in
        go (λ t. axioms_calls_lem (line + 1) l t) (post_both (whole_calls_lem a y b e w i (axiom_normal_grown B p z.pool wp g a h.0 n.0)) (whole_means I B env low S a y b e w i))
      where
        go : ((t : Clausifier) → Grown p t.pool → Wf (up_to B t.out.next_fresh) t.pool → low ≤ t.out.next_fresh → t.out.limits ≡ [] → Each (AxiomIn B (length p)) l → Each (AxiomNormal p) l
            → LinedPost (λ _ u. Made t u (axioms_calls env (line + 1) l t)) (clausify_axioms env (line + 1) l t))
            → {r : Res Clausifier (Unit {0})}
            → Post (λ a₁ t. Made (clausifier_at line z) t (whole_calls env a (clausifier_at line z)) × Whole I B env low S (clausifier_at line z) (Sat I B env low S a (clausifier_at line z) b e) (λ k. Clausified a → Sat I B env low S a (clausifier_at line z) b e k) t) r
            → LinedPost (λ _ u. Made z u (whole_calls env a (clausifier_at line z) ++ go_on r (λ t. axioms_calls env (line + 1) l t))) (lined_then (lined line r) (λ _ t. clausify_axioms env (line + 1) l t))
        go rest (gives {s = t} X) = lined_map (rest t (grown_trans g X.1.grows) X.1.wf (omega (arith, X.1.fresh)) X.1.none h.1 n.1) (λ _ u Y. (
          went_at line z (went_trans X.0.0 Y.0),
          λ e q. each_append (Good I B env low S.individuals S.keeps e) (whole_calls env a (clausifier_at line z)) (axioms_calls env (line + 1) l t) (X.0.1 e (went_trans Y.0 q)) (Y.1 e q),
        ))
        go rest refuses = stops
