-- A normal form that is made again: the same answer, after as many visits, and nothing new in the pool.
-- Assumes nothing.
use Rattle.std.specs.Prelude.{◌≡◌, refl, Bool, true, false, List, [], ◌∷◌, ℕ, zero, suc, ◌+◌, ◌-◌, ◌<◌, ◌≤◌, length, ltb, leb}
use Rattle.std.proofs.Common.{sym, ap, subst, ◌∙◌, not-suc-le-zero, arith, leb-true, leb-false, le-leb}
use Prim.{tt}
use Rattle.std.proofs.lemmas.Bool.{lt-leb}
use Rattle.rules.specs.Base.{Res, ok, then, return, each}
use Rattle.rules.specs.Concept.{Concept}
use Rattle.rules.specs.Concept.{Top, Bot, Atomic, Nominal, SelfRestriction, Not, And, Or, Some, All, Min, Max}
use Rattle.rules.specs.Pool.{Pool, at}
use Rattle.rules.specs.Deck.{parts_of}
use Rattle.rules.specs.Normalize.{St, N, begun, visit, back_in, in_pool, nnf_by}
use Rattle.rules.specs.Post.{Post, gives, refuses, give, post_then}
use Rattle.rules.specs.Invariants.{Each, Bounds, Wf, Grown}
use Rattle.rules.specs.PoolLaws.{post_both, grown_trans, grown_length, grown_at, below_more}
use Rattle.rules.specs.DepthLaws.{parts_below}
use Rattle.rebuilding.specs.Steps.{visited_parts, part_negated, rebuilt}
use Rattle.normalize.specs.Settled.{later, paid_if, paid, Settled}
use Rattle.normalize.specs.StepLaws.{step_by, nnf_by_lem}
use Rattle.normalize.specs.StateLaws.{by_done, each_by_done}
use Rattle.normalize.specs.LastingLaws.{Finds, rebuilt_lasts}

pub settled_grown : {p q : Pool} → Grown p q → (b : Bool) (c i v : ℕ) → Settled p b c i v → Settled q b c i v
settled_grown g b c i v S u h = S u (grown_trans g h)

-- ---- visits that are paid
-- u after n visits in all
abbrev reached : St → ℕ → St
reached u n = record { pool = u.pool; visits = n; limit = u.limit }

module _ {A C : Type 0} (a : A) (v : ℕ) (g : A → N C) (c : C) (u : St) where
  -- then nothing more
  paid_last : g a (later u v) ≡ ok c (later u v) → then (paid a v u) g ≡ paid c v u
  paid_last h = go (leb (u.visits + v) u.limit)
    where
      go : (t : Bool) → then (paid_if a v u t) g ≡ paid_if c v u t
      go true = h
      go false = refl

  -- then w more
  paid_then : (w : ℕ) → (u.visits + v ≤ u.limit → g a (later u v) ≡ paid c w (later u v)) → then (paid a v u) g ≡ paid c (v + w) u
  paid_then w h = go (leb (u.visits + v) u.limit) refl
    where
      e : u.visits + v + w ≡ u.visits + (v + w)
      e = omega arith

      same : (t : Bool) → paid_if c w (later u v) t ≡ paid_if c (v + w) u t
      same true = ap (λ n. ok c (reached u n)) e
      same false = refl

      go : (t : Bool) → leb (u.visits + v) u.limit ≡ t → then (paid_if a v u t) g ≡ paid c (v + w) u
      go true k = h (leb-true (u.visits + v) u.limit k) ∙ same (leb (u.visits + v + w) u.limit) ∙ ap (λ n. paid_if c (v + w) u (leb n u.limit)) e
      go false k = sym (ap (paid_if c (v + w) u) (lt-leb (u.visits + (v + w)) u.limit (omega (arith, leb-false (u.visits + v) u.limit k))))

paid_none : {A : Type 0} (a : A) (u : St) → u.visits ≤ u.limit → ok a u ≡ paid a 0 u
paid_none a u h =
    let e : u.visits ≡ u.visits + 0 = omega arith in
    ap (λ n. ok a (reached u n)) e ∙ sym (ap (paid_if a 0 u) (le-leb (u.visits + 0) u.limit (omega arith)))

paid_visit : (u : St) → visit u ≡ paid tt 1 u
unfolding visit
paid_visit u =
    let e : suc u.visits ≡ u.visits + 1 = omega arith in
    go (ltb u.visits u.limit) ∙ ap (λ n. paid_if tt 1 u (leb n u.limit)) e
  where
    go : (t : Bool) → begun u t ≡ paid_if tt 1 u t
    go true = refl
    go false = refl

-- ---- the visited parts
pub parts_each : (P : ℕ → Type 0) (b : Bool) (e : Concept) → Each P (parts_of e) → Each P (visited_parts b e)
parts_each P false e h = h
parts_each P true Top h = h
parts_each P true Bot h = h
parts_each P true (Atomic _) h = h
parts_each P true (Nominal _) h = h
parts_each P true (SelfRestriction _) h = h
parts_each P true (Not _) h = h
parts_each P true (And _) h = h
parts_each P true (Or _) h = h
parts_each P true (Some _ _) h = h
parts_each P true (All _ _) h = h
parts_each P true (Min zero _ _) h = tt
parts_each P true (Min (suc _) _ _) h = h
parts_each P true (Max _ _ _) h = h

-- ---- what an answer says of all that follow it
-- a list's normal forms, where a visit has begun
abbrev SettledAll : Pool → Bool → (l k : List ℕ) → ℕ → Type 0
SettledAll p b l k v = (u : St) → Grown p u.pool → u.visits ≤ u.limit → (f : ℕ) → Each (λ d. d < f) l → each (λ d. nnf_by b f d) l u ≡ paid k v u

-- from a state s
abbrev Again : Bool → ℕ → St → ℕ → St → Type 0
Again b c s i t = Settled t.pool b c i (t.visits - s.visits) × (s.visits < t.visits)

abbrev AgainAll : Bool → List ℕ → St → List ℕ → St → Type 0
AgainAll b l s k t = SettledAll t.pool b l k (t.visits - s.visits)

-- of all concepts below f
abbrev AgainBelow : Bounds → ℕ → Type 0
AgainBelow B f = (b : Bool) (c : ℕ) (s : St) → Wf B s.pool → c < length s.pool → c < f → Post (Again b c s) (nnf_by b f c s)

-- ---- a list
abbrev rest : (ℕ → N ℕ) → List ℕ → ℕ → N (List ℕ)
rest g l y u = then (each g l u) (λ k. return (y ∷ k))

each_again : (B : Bounds) (f : ℕ) → AgainBelow B f → (b : Bool) (l : List ℕ) → Each (λ d. d < f) l → (s : St) → Wf B s.pool → Each (λ d. d < length s.pool) l
    → Post (AgainAll b l s) (each (λ d. nnf_by b f d) l s)
unfolding each
each_again B f one b [] j s w h = give (λ u g le n o. let z : 0 ≡ s.visits - s.visits = omega arith in paid_none [] u le ∙ ap (λ v. paid [] v u) z)
each_again B f one b (a ∷ l) j s w h =
    post_then (post_both (by_done B b f a s w h.0 j.0) (one b a s w h.0 j.0)) (λ y t D.
    let i = below_more (grown_length D.0.ran.grows) l h.1 in
    post_then (post_both (each_by_done B b (λ _. f) f (λ d k. k) l j.1 t D.0.ran.wf i) (each_again B f one b l j.1 t D.0.ran.wf i)) (λ k x E.
    give (λ u g le n o.
    let v : ℕ = t.visits - s.visits in
    let m : ℕ = x.visits - t.visits in
    let z : v + m ≡ x.visits - s.visits = omega (arith, D.0.ran.visits, E.0.ran.visits) in
    ap (λ r. then r (rest (λ d. nnf_by b n d) l)) (D.1.0 u (grown_trans E.0.ran.grows g) n o.0)
    ∙ paid_then y v (rest (λ d. nnf_by b n d) l) (y ∷ k) u m (λ q.
    ap (λ r. then r (λ k. return (y ∷ k))) (E.1 (later u v) g q n o.1) ∙ paid_last k m (λ k. return (y ∷ k)) (y ∷ k) (later u v) refl)
    ∙ ap (λ v. paid (y ∷ k) v u) z)))

-- ---- one step
-- a constructor of the pool
back_post : {P : ℕ → Pool → Type 0} {Q : ℕ → St → Type 0} {r : Res Pool ℕ} (s : St) → Post P r → ((i : ℕ) (q : Pool) → P i q → Q i (record { pool = q; visits = s.visits; limit = s.limit }))
    → Post Q (back_in s r)
back_post s (gives {a = i} {s = q} h) k = give (k i q h)
back_post s refuses k = refuses

-- of a concept c that is e
abbrev step_of : Bool → ℕ → Concept → ℕ → N ℕ
step_of b c e f t = then (each (λ d. nnf_by (part_negated b e) f d) (visited_parts b e) t) (λ l. in_pool (rebuilt b c e l))

-- its parts have normal forms k in pool p, and its own is then i
step_again : (b : Bool) (c : ℕ) (e : Concept) → Each (λ d. d < c) (visited_parts b e) → (k : List ℕ) (v : ℕ) (p : Pool) → SettledAll p (part_negated b e) (visited_parts b e) k v
    → (i : ℕ) (q : Pool) → Finds (rebuilt b c e k) p i q → (u : St) → Grown q u.pool → at u.pool c ≡ e → (f : ℕ) → c < f → nnf_by b f c u ≡ paid i (1 + v) u
step_again b c e below k v p S i q F u g z zero l = absurd (not-suc-le-zero l)
step_again b c e below k v p S i q F u g z (suc f) l =
    nnf_by_lem b f c u
    ∙ ap (λ r. then r (λ _. step_by b f c)) (paid_visit u)
    ∙ paid_then tt 1 (λ _. step_by b f c) i u v (λ le.
    ap (λ x. step_of b c x f (later u 1)) z
    ∙ ap (λ r. then r (λ l. in_pool (rebuilt b c e l))) (S (later u 1) (grown_trans F.0 g) le f (below_more (omega arith) (visited_parts b e) below))
    ∙ paid_last k v (λ l. in_pool (rebuilt b c e l)) i (later u 1) (ap (back_in (later (later u 1) v)) (F.1 u.pool g)))

again_next : (B : Bounds) (f : ℕ) → AgainBelow B f → AgainBelow B (suc f)
again_next B f one b c s w h l =
    subst (Post (Again b c s)) (sym (nnf_by_lem b f c s ∙ ap (λ r. then r (λ _. step_by b f c)) (paid_visit s))) (go (leb (s.visits + 1) s.limit))
  where
    e : Concept
    e = at s.pool c

    parts : List ℕ
    parts = visited_parts b e

    below : Each (λ d. d < c) parts
    below = parts_each (λ d. d < c) b e (parts_below B c e (w c h))

    inside : Each (λ d. d < length s.pool) parts
    inside = below_more (omega arith) parts below

    go : (t : Bool) → Post (Again b c s) (then (paid_if (tt {0}) 1 s t) (λ _. step_by b f c))
    go false = refuses
    go true =
        post_then (post_both (each_by_done B (part_negated b e) (λ _. f) c (λ d i. omega arith) parts below (later s 1) w inside)
        (each_again B f one (part_negated b e) parts (below_more (omega arith) parts below) (later s 1) w inside)) (λ k x D.
        back_post x (rebuilt_lasts b c e k x.pool D.0.held) (λ i q F.
        let v : ℕ = x.visits - (s.visits + 1) in
        let z : 1 + v ≡ x.visits - s.visits = omega (arith, D.0.ran.visits) in (
          λ u g n o. step_again b c e below k v x.pool D.1 i q F u g (grown_at (grown_trans D.0.ran.grows (grown_trans F.0 g)) c h) n o ∙ ap (λ v. paid i v u) z,
          omega (arith, D.0.ran.visits),
        )))

again_below : (B : Bounds) (f : ℕ) → AgainBelow B f
again_below B zero = λ b c s w h l. absurd (not-suc-le-zero l)
again_below B (suc f) = again_next B f (again_below B f)

pub again : (B : Bounds) (b : Bool) (f c : ℕ) (s : St) (i : ℕ) (t : St) → Wf B s.pool → c < length s.pool → c < f → nnf_by b f c s ≡ ok i t
    → Settled t.pool b c i (t.visits - s.visits) × (s.visits < t.visits)
again B b f c s i t w h l e = go (subst (Post (Again b c s)) e (again_below B f b c s w h l))
  where
    go : Post (Again b c s) (ok i t) → Again b c s i t
    go (gives x) = x
