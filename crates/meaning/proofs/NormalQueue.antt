-- Option 4: the limits that wait have normal fillers, throughout a run. Assumes nothing.
use Rattle.std.specs.Prelude.{◌≡◌, true, false, ◌&&◌, ℕ, zero, suc, ◌<◌}
use Rattle.std.proofs.Math.Path.{refl}
use Rattle.std.proofs.Common.{sym, ap, subst, le_refl, le_trans, arith}
use mathlib.Core.List.{List, [], ◌∷◌, ◌++◌}
use Rattle.std.proofs.Math.Option.{Option, none, some}
use Rattle.std.proofs.Math.ListN.{length}
use Rattle.rules.specs.Base.{then, each, for_each, ◌>>◌, ◌>>=◌}
use Rattle.rules.specs.Concept.{Concept, Axiom}
use Rattle.rules.specs.Concept.{Top, Bot, Atomic, Nominal, SelfRestriction, Not, And, Or, Some, All, Min, Max}
use Rattle.rules.specs.Concept.{SubClassOf, EquivalentClasses, DisjointClasses, DisjointUnion, ObjectPropertyDomain, ObjectPropertyRange, SubChain, TransitiveRole, IrreflexiveRole, AsymmetricRole, DisjointObjectProperties, InverseObjectProperties, SubObjectPropertyOf, EquivalentObjectProperties, ReflexiveRole, ClassAssertion}
use Rattle.rules.specs.Pool.{Pool, at, intern_raw, mk_and, mk_or}
use Rattle.rules.specs.Normalize.{St, nnf_complement}
use Rattle.rules.specs.State.{Limit, Env, Out, restarted, restart_vars}
use Rattle.rules.specs.Antecedents.{Alternatives, encode_antecedent}
use Rattle.rules.specs.Heads.{emit_head}
use Rattle.rules.specs.Axioms.{Clausifier, visited_to, in_out, conjuncts, later_pairs, ordered_pairs, emit_bodies, partition, soft_and, bodies_or_defer, absorb_parts, absorb_hard_antecedent, gci_with, clausify_gci, domain, range, clausify_axiom, other_half}
use Rattle.rules.specs.Post.{Post, give, post_then, post_map}
use Rattle.rules.specs.Ends.{by_post}
use Rattle.rules.specs.Invariants.{Each, Bounds, Bounded, Wf, Grown, Made, IsLiteral, NormalStep, AxiomIn}
use Rattle.rules.specs.PoolLaws.{grown_refl, grown_trans, grown_length, below_more, post_both, IsNormal, normal_record, record_normal, normal_grown, intern_made, intern_normal, and_made, or_made, or_normal}
use Rattle.rules.proofs.NormalizeLaws.{negation_made, AxiomNormal}
use Rattle.rules.specs.EachLaws.{each_map, each_both, each_append, each_snoc}
use Rattle.rules.proofs.EmitLaws.{awaiting}
use Rattle.rules.proofs.KeepLaws.{Invariant, Keeps, PartsIn, Reach, keeps_antecedent, keeps_partition, keeps_head, keeps_bodies, keeps_bodies_or, keeps_domain, keeps_range}
use Rattle.rules.proofs.WholeLaws.{AnyRefusal, axiom_leaves}
use Rattle.rules.specs.Handed.{names_limits}
use Rattle.rules.proofs.AxiomLaws.{conjuncts_in}
use Rattle.meaning.proofs.Absorb.{nnf_then, pool_then, out_then, out_last}
use Rattle.meaning.specs.Pairs.{later_each, ordered_of_later}

-- every filler is a normal concept of the pool
abbrev pub NormalFiller : Pool → Limit → Type 0
NormalFiller p w = (w.filler < length p) × IsNormal p w.filler

abbrev pub NormalQueue : Pool → Out → Type 0
NormalQueue p s = Each (NormalFiller p) s.limits

pub queue_grown : (B : Bounds) (p q : Pool) → Wf B p → Grown p q → (l : List Limit) → Each (NormalFiller p) l → Each (NormalFiller q) l
queue_grown B p q w g l u = each_map (NormalFiller p) (NormalFiller q) (λ x h. (le_trans h.0 (grown_length g), normal_grown B (suc x.filler) p q x.filler w g h.0 h.1)) l u

-- ---- the rules over one pool
abbrev Held : Pool → ℕ → ℕ → Type 0
Held p f c = c < length p

abbrev NormalAt : Pool → ℕ → ℕ → Type 0
NormalAt p f c = (c < length p) × IsNormal p c

module _ (B : Bounds) (env : Env) (p : Pool) (wf : Wf B p) where
  kept : Invariant env (NormalQueue p)
  kept = record { counts = λ s v x q _ _ j. j; pushes = λ s b h _ _ j. j; defers = λ s k _ j. j }

  -- parts that are held
  held_parts : (f c : ℕ) → c < length p → (e : Concept) → Bounded B c e → PartsIn (Held p f) e
  held_parts f c h Top b = tt
  held_parts f c h Bot b = tt
  held_parts f c h (Atomic _) b = tt
  held_parts f c h (Nominal _) b = tt
  held_parts f c h (SelfRestriction _) b = tt
  held_parts f c h (Not d) b = omega arith
  held_parts f c h (And l) b = below_more (omega arith) l b
  held_parts f c h (Or l) b = below_more (omega arith) l b
  held_parts f c h (Some _ d) b = omega (arith, b.1)
  held_parts f c h (All _ d) b = omega (arith, b.1)
  held_parts f c h (Min _ _ d) b = omega (arith, b.2)
  held_parts f c h (Max _ _ d) b = omega (arith, b.2)

  held_reach : Reach AnyRefusal p (Held p)
  held_reach = record { none = λ c h. tt; down = λ f c h. held_parts f c h (at p c) (wf c h); up = λ f c h. h }

  -- and normal; what a literal is
  literal_normal : (c : ℕ) → c < length p → IsLiteral (at p c) → IsNormal p c
  literal_normal c h l = record_normal B p c wf h (go (at p c) l)
    where
      go : (e : Concept) → IsLiteral e → NormalStep (IsNormal p) p e
      go Top l = tt
      go Bot l = tt
      go (Atomic _) l = tt
      go (Nominal _) l = tt
      go (SelfRestriction _) l = tt
      go (Not _) l = absurd l
      go (And _) l = absurd l
      go (Or _) l = absurd l
      go (Some _ _) l = absurd l
      go (All _ _) l = absurd l
      go (Min _ _ _) l = absurd l
      go (Max _ _ _) l = absurd l

  normal_parts : (f c : ℕ) → c < length p → (e : Concept) → Bounded B c e → NormalStep (IsNormal p) p e → PartsIn (NormalAt p f) e
  normal_parts f c h Top b n = tt
  normal_parts f c h Bot b n = tt
  normal_parts f c h (Atomic _) b n = tt
  normal_parts f c h (Nominal _) b n = tt
  normal_parts f c h (SelfRestriction _) b n = tt
  normal_parts f c h (Not d) b n = (omega arith, literal_normal d (omega arith) n)
  normal_parts f c h (And l) b n = each_both (λ d. d < c) (IsNormal p) (NormalAt p f) (λ d i k. (omega arith, k)) l b n.2
  normal_parts f c h (Or l) b n = each_both (λ d. d < c) (IsNormal p) (NormalAt p f) (λ d i k. (omega arith, k)) l b n.2
  normal_parts f c h (Some _ d) b n = (omega (arith, b.1), n)
  normal_parts f c h (All _ d) b n = (omega (arith, b.1), n)
  normal_parts f c h (Min zero _ d) b n = absurd n
  normal_parts f c h (Min (suc _) _ d) b n = (omega (arith, b.2), n)
  normal_parts f c h (Max _ _ d) b n = (omega (arith, b.2), n)

  normal_reach : Reach AnyRefusal p (NormalAt p)
  normal_reach = record { none = λ c h. tt; down = λ f c h. normal_parts f c h.0 (at p c) (wf c h.0) (normal_record B p c wf h.0 h.1); up = λ f c h. h }

  awaits : (f c : ℕ) → NormalAt p f c → env.equal_names ≡ true → (s : Out) → NormalQueue p s → NormalQueue p (awaiting c s)
  awaits f c h e s j = each_snoc (NormalFiller p) s.limits (record { filler = c; name = s.next_fresh }) j h

  -- what reads an antecedent, sorts its conjuncts, and emits heads
  encode_keeps : (c : ℕ) → c < length p → Keeps AnyRefusal (NormalQueue p) (encode_antecedent env p c 0)
  encode_keeps c h = keeps_antecedent AnyRefusal (λ _. tt) env (NormalQueue p) kept p (Held p) held_reach c h

  head_keeps : (c : ℕ) → NormalAt p 0 c → Keeps AnyRefusal (NormalQueue p) (emit_head env p [] c 0)
  head_keeps c h = keeps_head AnyRefusal (λ _. tt) env (NormalQueue p) kept p (NormalAt p) normal_reach awaits [] c 0 h

  bodies_keep : (l : Alternatives) (c : ℕ) → NormalAt p 0 c → Keeps AnyRefusal (NormalQueue p) (emit_bodies env p l c)
  bodies_keep l c h = keeps_bodies AnyRefusal (λ _. tt) env (NormalQueue p) kept p (NormalAt p) normal_reach awaits l c h

  bodies_or_keep : (c : ℕ) → NormalAt p 0 c → (o : Option Alternatives) → Keeps AnyRefusal (NormalQueue p) (bodies_or_defer env p c o)
  bodies_or_keep c h o = keeps_bodies_or AnyRefusal (λ _. tt) env (NormalQueue p) kept p (NormalAt p) normal_reach awaits c h o

-- ---- rules that also make concepts
pub record Kept (B : Bounds) (z t : Clausifier) : Type 0 where
  pub grows : Grown z.pool t.pool
  pub wf : Wf B t.pool
  pub queue : NormalQueue t.pool t.out

record Negated (B : Bounds) (s : St) (ks : List ℕ) (t : St) : Type 0 where
  grows : Grown s.pool t.pool
  wf : Wf B t.pool
  held : Each (λ i. i < length t.pool) ks
  normal : Each (IsNormal t.pool) ks

module _ (B : Bounds) (env : Env) where
  negated : (l : List ℕ) (s : St) → Wf B s.pool → Each (λ c. c < length s.pool) l → Post (Negated B s) (each nnf_complement l s)
  unfolding each
  negated [] s w u = give (record { grows = grown_refl s.pool; wf = w; held = tt; normal = tt })
  negated (c ∷ l) s w u =
      post_then (negation_made B (suc c) c s w u.0 (le_refl (suc c))) (λ i t N.
      post_then (negated l t N.made.wf (below_more (grown_length N.made.grows) l u.1)) (λ ks r D.
      give (record {
        grows = grown_trans N.made.grows D.grows;
        wf = D.wf;
        held = (le_trans N.made.held (grown_length D.grows), D.held);
        normal = (normal_grown B (suc i) t.pool r.pool i N.made.wf D.grows N.made.held N.normal, D.normal);
      })))

  -- a disjunction of normal concepts
  or_kept : (p : Pool) → Wf B p → (l : List ℕ) → Each (λ c. c < length p) l → Each (IsNormal p) l → Post (λ i q. Made B p i q × IsNormal q i) (mk_or l p)
  or_kept p w l u n = post_both (or_made B p w l u) (or_normal B p w l u n)

  module _ (p : Pool) (w : Wf B p) (sub sup : ℕ) (ksub : sub < length p) (ksup : sup < length p) (n : IsNormal p sup) where
    none_kept : (s : Out) (hard : List ℕ) → NormalQueue p s → Post (λ _ t. Kept B (record { pool = p; out = s }) t) (absorb_parts env sub sup [] hard (record { pool = p; out = s }))
    unfolding absorb_parts restart_vars
    none_kept s hard j =
        nnf_then (record { pool = p; out = s }) (nnf_complement sub) _ (negation_made B (suc sub) sub (record { pool = p; visits = s.visits; limit = s.limit }) w ksub (le_refl (suc sub))) (λ a t M.
        let up = normal_grown B (suc sup) p t.pool sup w M.made.grows ksup n in
        pool_then (record { pool = t.pool; out = visited_to t.visits s }) (mk_or (a ∷ sup ∷ [])) _
        (or_kept t.pool M.made.wf (a ∷ sup ∷ []) (M.made.held, (le_trans ksup (grown_length M.made.grows), tt)) (M.normal, (up, tt))) (λ h q O.
        let g : Grown p q = grown_trans M.made.grows O.0.grows in
        out_last (record { pool = q; out = visited_to t.visits s }) (λ pool. restart_vars >> emit_head env pool [] h 0)
        (by_post ((head_keeps B env q O.0.wf h (O.0.held, O.1)).run (restarted (visited_to t.visits s)) (queue_grown B p q w g s.limits j)))
        (λ _ u k. record { grows = g; wf = O.0.wf; queue = k })))

    some_kept : (s : Out) (a : ℕ) (soft hard : List ℕ) → NormalQueue p s → Each (λ c. c < length p) (a ∷ soft) → Each (λ c. c < length p) hard
        → Post (λ _ t. Kept B (record { pool = p; out = s }) t) (absorb_parts env sub sup (a ∷ soft) hard (record { pool = p; out = s }))
    unfolding absorb_parts restart_vars
    some_kept s a soft hard j us uh =
        nnf_then (record { pool = p; out = s }) (each nnf_complement hard) _ (negated hard (record { pool = p; visits = s.visits; limit = s.limit }) w uh) (λ ns t M.
        let up = normal_grown B (suc sup) p t.pool sup w M.grows ksup n in
        pool_then (record { pool = t.pool; out = visited_to t.visits s }) (mk_or (ns ++ (sup ∷ []))) _
        (or_kept t.pool M.wf (ns ++ (sup ∷ [])) (each_append (λ c. c < length t.pool) ns (sup ∷ []) M.held (le_trans ksup (grown_length M.grows), tt))
        (each_append (IsNormal t.pool) ns (sup ∷ []) M.normal (up, tt))) (λ h q O.
        let g : Grown p q = grown_trans M.grows O.0.grows in
        soft_then soft a q (visited_to t.visits s) h O.0.wf (below_more (grown_length g) (a ∷ soft) us) (λ c r G wr kc.
        let gr : Grown p r = grown_trans g G in
        out_last (record { pool = r; out = visited_to t.visits s }) (λ pool. restart_vars >> (encode_antecedent env pool c 0 >>= (λ o. bodies_or_defer env pool h o)))
        (post_then (by_post ((encode_keeps B env r wr c kc).run (restarted (visited_to t.visits s)) (queue_grown B p r w gr s.limits j))) (λ o u k.
        by_post ((bodies_or_keep B env r wr h (le_trans O.0.held (grown_length G), normal_grown B (suc h) q r h O.0.wf G O.0.held O.1) o).run u k)))
        (λ _ u k. record { grows = gr; wf = wr; queue = k }))))
      where
        soft_then : (soft : List ℕ) (a : ℕ) (q : Pool) (s₁ : Out) (h : ℕ) → Wf B q → Each (λ c. c < length q) (a ∷ soft)
            → ((c : ℕ) (r : Pool) → Grown q r → Wf B r → c < length r → Post (λ _ t. Kept B (record { pool = p; out = s }) t) (in_out (λ pool. restart_vars >> (encode_antecedent env pool c 0 >>= (λ o. bodies_or_defer env pool h o))) (record { pool = r; out = s₁ })))
            → Post (λ _ t. Kept B (record { pool = p; out = s }) t) (then (soft_and env (a ∷ soft) (record { pool = q; out = s₁ })) (λ c. in_out (λ pool. restart_vars >> (encode_antecedent env pool c 0 >>= (λ o. bodies_or_defer env pool h o)))))
        soft_then [] a q s₁ h wq u k = k a q (grown_refl q) wq u.0
        soft_then (b ∷ l) a q s₁ h wq u k = pool_then (record { pool = q; out = s₁ }) (mk_and (a ∷ b ∷ l)) _ (and_made B q wq (a ∷ b ∷ l) u) (λ c r M. k c r M.grows M.wf M.held)

    absorb_kept : (s : Out) → NormalQueue p s → Post (λ _ t. Kept B (record { pool = p; out = s }) t) (absorb_hard_antecedent env sub sup (record { pool = p; out = s }))
    unfolding absorb_hard_antecedent
    absorb_kept s j =
        out_then (record { pool = p; out = s }) (λ pool. partition env pool (conjuncts sub (at pool sub)) [] []) _
        (by_post (keeps_partition AnyRefusal (λ _. tt) env (NormalQueue p) (kept B env p w) p (Held p) (held_reach B env p w) (conjuncts sub (at p sub)) [] [] (conjuncts_in B (length p) sub ksub (at p sub) (w sub ksub)) tt tt s j))
        (λ ps t Z. go t ps.soft ps.hard Z.kept Z.soft Z.hard)
      where
        go : (t : Out) (soft hard : List ℕ) → NormalQueue p t → Each (λ c. c < length p) soft → Each (λ c. c < length p) hard
            → Post (λ _ u. Kept B (record { pool = p; out = s }) u) (absorb_parts env sub sup soft hard (record { pool = p; out = t }))
        go t [] hard k us uh = post_map (none_kept t hard k) (λ _ u X. record { grows = X.grows; wf = X.wf; queue = X.queue })
        go t (a ∷ soft) hard k us uh = post_map (some_kept t a soft hard k us uh) (λ _ u X. record { grows = X.grows; wf = X.wf; queue = X.queue })

  pub gci_kept : (sub sup : ℕ) (z : Clausifier) → Wf B z.pool → sub < length z.pool → sup < length z.pool → IsNormal z.pool sup → NormalQueue z.pool z.out
      → Post (λ _ t. Kept B z t) (clausify_gci env sub sup z)
  unfolding clausify_gci restart_vars
  gci_kept sub sup z w ksub ksup n j =
      out_then z (λ pool. restart_vars >> encode_antecedent env pool sub 0) _ (by_post ((encode_keeps B env z.pool w sub ksub).run (restarted z.out) j)) go
    where
      go : (o : Option Alternatives) (s : Out) → NormalQueue z.pool s → Post (λ _ t. Kept B z t) (gci_with env sub sup o (record { pool = z.pool; out = s }))
      go none s k = post_map (absorb_kept z.pool w sub sup ksub ksup n s k) (λ _ u X. record { grows = X.grows; wf = X.wf; queue = X.queue })
      go (some l) s k = out_last (record { pool = z.pool; out = s }) (λ pool. emit_bodies env pool l sup) (by_post ((bodies_keep B env z.pool w l sup (ksup, n)).run s k)) (λ _ u i. record { grows = grown_refl z.pool; wf = w; queue = i })

  -- ---- one limit
  pub other_queue : (w : Limit) (z : Clausifier) → Wf B z.pool → w.filler < length z.pool → w.name < B.classes → NormalQueue z.pool z.out
      → Post (λ _ t. NormalQueue t.pool t.out) (other_half env w z)
  unfolding other_half
  other_queue w z wf h k j =
      pool_then z (intern_raw (Atomic w.name)) _ (post_both (intern_made B (Atomic w.name) z.pool wf k) (intern_normal B (Atomic w.name) z.pool wf k tt)) (λ a q M.
      post_map (gci_kept w.filler a (record { pool = q; out = z.out }) M.0.wf (le_trans h (grown_length M.0.grows)) M.0.held M.1 (queue_grown B z.pool q wf M.0.grows z.out.limits j))
      (λ _ t X. X.queue))

  -- ---- one axiom
  -- inclusions of concepts of the pool z in normal ones
  inclusions_kept : (z : Clausifier) → Wf B z.pool → (l : List (ℕ × ℕ)) → Each (λ q. (q.0 < length z.pool) × NormalAt z.pool 0 q.1) l → (t : Clausifier) → Kept B z t
      → Post (λ _ u. Kept B z u) (for_each (λ q. clausify_gci env q.0 q.1) l t)
  unfolding for_each
  inclusions_kept z w [] u t K = give K
  inclusions_kept z w (q ∷ l) u t K =
      let g = K.grows in
      post_then (gci_kept q.0 q.1 t K.wf (le_trans u.0.0 (grown_length g)) (le_trans u.0.1.0 (grown_length g)) (normal_grown B (suc q.1) z.pool t.pool q.1 w g u.0.1.0 u.0.1.1) K.queue) (λ _ y X.
      inclusions_kept z w l u.1 y (record { grows = grown_trans g X.grows; wf = X.wf; queue = X.queue }))

  module _ (z : Clausifier) (w : Wf B z.pool) (j : NormalQueue z.pool z.out) where
    -- an axiom that makes no head
    leaves_queue : (a : Axiom) → names_limits a ≡ false → Post (λ _ t. Grown z.pool t.pool) (clausify_axiom env a z) → Post (λ _ t. NormalQueue t.pool t.out) (clausify_axiom env a z)
    leaves_queue a e g = post_map (post_both g ((axiom_leaves env a (ap (λ b. b && env.equal_names) e)).run z)) (λ _ t X.
        subst (Each (NormalFiller t.pool)) (sym X.1) (queue_grown B z.pool t.pool w X.0 z.out.limits j))

    equivalent_queue : (l : List ℕ) → Each (λ c. c < length z.pool) l → Each (IsNormal z.pool) l → Post (λ _ t. NormalQueue t.pool t.out) (for_each (λ q. clausify_gci env q.0 q.1) (ordered_pairs l) z)
    equivalent_queue l u n = post_map (inclusions_kept z w (ordered_pairs l) (each_map (λ q. NormalAt z.pool 0 q.0 × NormalAt z.pool 0 q.1) (λ q. (q.0 < length z.pool) × NormalAt z.pool 0 q.1) (λ q h. (h.0.0, h.1)) (ordered_pairs l)
        (ordered_of_later (λ c d. NormalAt z.pool 0 c × NormalAt z.pool 0 d) l (each_map (λ q. NormalAt z.pool 0 q.0 × NormalAt z.pool 0 q.1)
        (λ q. (NormalAt z.pool 0 q.0 × NormalAt z.pool 0 q.1) × (NormalAt z.pool 0 q.1 × NormalAt z.pool 0 q.0)) (λ q h. (h, (h.1, h.0))) (later_pairs l)
        (later_each (NormalAt z.pool 0) l (each_both (λ c. c < length z.pool) (IsNormal z.pool) (NormalAt z.pool 0) (λ c h k. (h, k)) l u n)))))
        z (record { grows = grown_refl z.pool; wf = w; queue = j })) (λ _ t K. K.queue)

    pub own_queue : (a : Axiom) → AxiomIn B (length z.pool) a → AxiomNormal z.pool a → Post (λ _ t. Grown z.pool t.pool) (clausify_axiom env a z) → Post (λ _ t. NormalQueue t.pool t.out) (clausify_axiom env a z)
    unfolding clausify_axiom
    own_queue (SubClassOf sub sup) h n g = post_map (gci_kept sub sup z w h.0 h.1 n.1 j) (λ _ t K. K.queue)
    own_queue (EquivalentClasses l) h n g = equivalent_queue l h n
    own_queue (DisjointClasses l) h n g = leaves_queue (DisjointClasses l) refl g
    own_queue (DisjointUnion a l) h n g = leaves_queue (DisjointUnion a l) refl g
    own_queue (ObjectPropertyDomain r c) h n g = out_last z (domain env r c) (by_post ((keeps_domain AnyRefusal (λ _. tt) env (NormalQueue z.pool) (kept B env z.pool w) z.pool (NormalAt z.pool) (normal_reach B env z.pool w) (awaits B env z.pool w) r c (h.1, n)).run z.out j)) (λ _ t k. k)
    own_queue (ObjectPropertyRange r c) h n g = out_last z (range env r c) (by_post ((keeps_range AnyRefusal (λ _. tt) env (NormalQueue z.pool) (kept B env z.pool w) z.pool (NormalAt z.pool) (normal_reach B env z.pool w) (awaits B env z.pool w) r c (h.1, n)).run z.out j)) (λ _ t k. k)
    own_queue (SubChain sup parts) h n g = leaves_queue (SubChain sup parts) refl g
    own_queue (TransitiveRole r) h n g = leaves_queue (TransitiveRole r) refl g
    own_queue (IrreflexiveRole r) h n g = leaves_queue (IrreflexiveRole r) refl g
    own_queue (AsymmetricRole r) h n g = leaves_queue (AsymmetricRole r) refl g
    own_queue (DisjointObjectProperties l) h n g = leaves_queue (DisjointObjectProperties l) refl g
    own_queue (InverseObjectProperties r s) h n g = give j
    own_queue (SubObjectPropertyOf r s) h n g = give j
    own_queue (EquivalentObjectProperties l) h n g = give j
    own_queue (ReflexiveRole r) h n g = give j
    own_queue (ClassAssertion c i) h n g = give j
