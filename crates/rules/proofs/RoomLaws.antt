-- What every rule of an axiom keeps: what the rules that emit keep over one pool (KeepLaws), and a pool that grows. No bound of
-- these rules is too small, so that none refuses by 0. At the end, three such things: the clauses, atoms and deferrals never pass
-- the tables' rooms, the deferrals' lines are lines of axioms, and an inclusion begins a visit. Assumes nothing.
use Rattle.std.specs.Prelude.{◌≡◌, true, ℕ, suc, ◌≤◌, ◌<◌, eqb}
use mathlib.Core.List.{List, [], ◌∷◌, ◌++◌}
use Rattle.std.proofs.Math.Option.{Option, none, some}
use Rattle.std.proofs.Common.{not-suc-le-zero, length-append}
use Rattle.std.proofs.Math.Nat.{le_trans}
use native.Mathlib.Omega.{arith}
use Rattle.std.proofs.Math.ListN.{length}
use Rattle.ir.specs.Roles.{role_code}
use Rattle.ir.specs.declared.atom.Atom.{Atom}
use Rattle.ir.specs.declared.atom.Atom.TheVariants.{Role as RoleAtom}
use Rattle.ir.specs.declared.deferral.Deferral.{Deferral}
use Rattle.ir.specs.declared.deferral.Deferral.TheVariants.{DisjointAntecedent}
use Rattle.rules.specs.Base.{Res, then, return, each, for_each, ◌>>=◌, ◌>>◌}
use Rattle.rules.specs.Concept.{Concept, Axiom}
use Rattle.rules.specs.Concept.{Top, Bot, Atomic, Nominal, SelfRestriction, Not, And, Or, Some, All, Min, Max}
use Rattle.rules.specs.Concept.{SubClassOf, EquivalentClasses, DisjointClasses, DisjointUnion, ObjectPropertyDomain, ObjectPropertyRange, SubChain, TransitiveRole, IrreflexiveRole, AsymmetricRole, DisjointObjectProperties, InverseObjectProperties, SubObjectPropertyOf, EquivalentObjectProperties, ReflexiveRole, ClassAssertion}
use Rattle.rules.specs.Pool.{Pool, at, mk_and, mk_or}
use Rattle.rules.specs.Normalize.{St, N, in_pool, nnf_complement}
use Rattle.rules.specs.State.{clause, Deferred, total, Env, Out, E, canon, restarted, restart_vars, push, defer}
use Rattle.rules.specs.Antecedents.{Alternatives, encode_antecedent}
use Rattle.rules.specs.Heads.{emit_head}
use Rattle.rules.specs.Axioms.{Clausifier, C, back_nnf, in_nnf, back_out, in_out, conjuncts, Parts, later_pairs, numbered, ordered_pairs, emit_bodies, partition, soft_and, bodies_or_defer, absorb_parts, absorb_hard_antecedent, gci_with, clausify_gci, disjoint_pair, union_member, clausify_axiom}
use Rattle.rules.specs.Invariants.{Each, Bounds, Bounded, Wf, Grown, AxiomIn}
use Rattle.rules.specs.Post.{Post, post_map, post_every}
use Rattle.rules.specs.Ends.{Ends, ends, stops, end, NotNull, ends_then, ends_map, ends_post, by_ends, ends_not_zero}
use Rattle.rules.specs.EachLaws.{each_snoc, each_unit, each_map}
use Rattle.rules.specs.JointLaws.{conj, disj}
use Rattle.rules.specs.PoolLaws.{grown_refl, grown_trans, grown_length, below_more}
use Rattle.rules.proofs.NnfEnds.{joint_ends, complement_ends, complements_end, ends_of}
use Rattle.rules.proofs.EmitLaws.{awaiting}
use Rattle.rules.proofs.AxiomLaws.{Both, each_later, each_numbered, each_ordered, conjuncts_in, st_of, after_nnf, after_out, PoolRan, AllRan, all_one, complement_ran, complements, or_in, and_in, out_then}
use Rattle.rules.proofs.EncodeKeeps.{encode_keeps}
use Rattle.rules.proofs.KeepLaws.{Invariant, Keeps, PartsIn, Reach, Sorted, keeps_return, keeps_then, keeps_push, keeps_defer, restarted_keeps, keeps_pair, keeps_member, keeps_cover, keeps_chain, keeps_chain_of, keeps_asymmetric, keeps_roles, keeps_antecedent, keeps_partition, keeps_head, keeps_bodies, keeps_bodies_or, keeps_domain, keeps_range}
use Rattle.rules.specs.Added.{total_append, Roomy}

-- kept by the small steps over each pool, by a limit that begins to wait, and by a pool that grows
pub record PoolInvariant (env : Env) (J : Pool → Out → Type 0) : Type 0 where
  pub steps : (p : Pool) → Invariant env (J p)
  pub awaits : (p : Pool) (c : ℕ) → c < length p → env.equal_names ≡ true → (s : Out) → J p s → J p (awaiting c s)
  pub grows : (p q : Pool) → Grown p q → (s : Out) → J p s → J q s

-- what an axiom's rules keep: the pool has grown from p, and its records name earlier ids
pub record Kept (J : Pool → Out → Type 0) (B : Bounds) (p : Pool) (z : Clausifier) : Type 0 where
  pub grows : Grown p z.pool
  pub wf : Wf B z.pool
  pub kept : J z.pool z.out

pub record KeepsFrom (J : Pool → Out → Type 0) (B : Bounds) (p : Pool) {A : Type 0} (m : C A) : Type 0 where
  pub run : (z : Clausifier) → Kept J B p z → Ends (λ _ y. Kept J B p y) (m z)

-- ids of a pool
abbrev pub HeldIn : Pool → List ℕ → Type 0
HeldIn p l = Each (λ c. c < length p) l

-- ---- no refusal by 0, over a pool whose records name earlier ids
not_null : (k : ℕ) → NotNull (suc k)
not_null k = λ (e : suc k ≡ 0). omega arith

-- an id of the pool, below the bound
abbrev pub Reached : Pool → ℕ → ℕ → Type 0
Reached p f c = (c < f) × (c < length p)

parts_reached : (B : Bounds) (p : Pool) (n f : ℕ) → n ≤ f → n ≤ length p → (e : Concept) → Bounded B n e → PartsIn (Reached p f) e
parts_reached B p n f h k e u = go e u
  where
    go : (e : Concept) → Bounded B n e → PartsIn (Reached p f) e
    go Top u = tt
    go Bot u = tt
    go (Atomic _) u = tt
    go (Nominal _) u = tt
    go (SelfRestriction _) u = tt
    go (Not c) u = (le_trans u h, le_trans u k)
    go (And l) u = each_map (λ c. c < n) (Reached p f) (λ c i. (le_trans i h, le_trans i k)) l u
    go (Or l) u = each_map (λ c. c < n) (Reached p f) (λ c i. (le_trans i h, le_trans i k)) l u
    go (Some _ c) u = (le_trans u.1 h, le_trans u.1 k)
    go (All _ c) u = (le_trans u.1 h, le_trans u.1 k)
    go (Min _ _ c) u = (le_trans u.2 h, le_trans u.2 k)
    go (Max _ _ c) u = (le_trans u.2 h, le_trans u.2 k)

pub reached : (B : Bounds) (p : Pool) → Wf B p → Reach NotNull p (Reached p)
reached B p wf = record {
  none = λ c h. absurd (not-suc-le-zero h.0);
  down = λ f c h. parts_reached B p c f (omega arith) (omega arith) (at p c) (wf c h.1);
  up = λ f c h. (omega arith, h.1);
}

complement_made : (B : Bounds) (c : ℕ) (s : St) → Wf B s.pool → c < length s.pool → Ends (PoolRan B s) (nnf_complement c s)
complement_made B c s w h = ends_of (complement_ran B c s w h) (ends_not_zero (complement_ends B c s w h))

complements_made : (B : Bounds) (l : List ℕ) (s : St) → Wf B s.pool → HeldIn s.pool l → Ends (AllRan B s) (each nnf_complement l s)
complements_made B l s w u = ends_of (complements B l s w u) (ends_not_zero (complements_end B l s w u))

or_kept : (B : Bounds) (l : List ℕ) (s : St) → Wf B s.pool → HeldIn s.pool l → Ends (PoolRan B s) (in_pool (mk_or l) s)
or_kept B l s w u = ends_of (or_in B l s w u) (ends_not_zero (joint_ends B s w disj l u))

and_kept : (B : Bounds) (l : List ℕ) (s : St) → Wf B s.pool → HeldIn s.pool l → Ends (PoolRan B s) (in_pool (mk_and l) s)
and_kept B l s w u = ends_of (and_in B l s w u) (ends_not_zero (joint_ends B s w conj l u))

nnf_then : {A D : Type 0} {P : A → St → Type 0} {Q : D → Clausifier → Type 0} (z : Clausifier) (f : N A) (k : A → C D)
    → Ends P (f (st_of z)) → ((a : A) (t : St) → P a t → Ends Q (k a (after_nnf t z))) → Ends Q (then (in_nnf f z) k)
nnf_then {A} {P = P} {Q = Q} z f k h g = go h
  where
    go : {r : Res St A} → Ends P r → Ends Q (then (back_nnf z r) k)
    go (ends {a = a} {s = t} x) = g a t x
    go (stops n) = stops n

module _ (env : Env) (J : Pool → Out → Type 0) (I : PoolInvariant env J) where
  -- ---- the rules over one pool
  module _ (pool : Pool) where
    push_kept : (b h : List Atom) → Keeps NotNull (J pool) (push env b h)
    push_kept b h = keeps_push NotNull not_null env (J pool) (I.steps pool) b h

    defer_kept : (k : Deferral) → Keeps NotNull (J pool) (defer env k)
    defer_kept k = keeps_defer NotNull not_null env (J pool) (I.steps pool) k

    again_kept : {A : Type 0} {m : E A} → Keeps NotNull (J pool) m → Keeps NotNull (J pool) (restart_vars >> m)
    again_kept h = restarted_keeps NotNull not_null env (J pool) (I.steps pool) h

    module _ (B : Bounds) (wf : Wf B pool) where
      antecedent_kept : (c : ℕ) → c < length pool → Keeps NotNull (J pool) (encode_antecedent env pool c 0)
      antecedent_kept c h = keeps_antecedent NotNull not_null env (J pool) (I.steps pool) pool (Reached pool) (reached B pool wf) c (omega arith, h)

      head_kept : (b : List Atom) (c v : ℕ) → c < length pool → Keeps NotNull (J pool) (emit_head env pool b c v)
      head_kept b c v h = keeps_head NotNull not_null env (J pool) (I.steps pool) pool (Reached pool) (reached B pool wf) (λ f d i. I.awaits pool d i.1) b c v (omega arith, h)

      bodies_kept : (l : Alternatives) (c : ℕ) → c < length pool → Keeps NotNull (J pool) (emit_bodies env pool l c)
      bodies_kept l c h = keeps_bodies NotNull not_null env (J pool) (I.steps pool) pool (Reached pool) (reached B pool wf) (λ f d i. I.awaits pool d i.1) l c (omega arith, h)

      bodies_or_kept : (c : ℕ) → c < length pool → (o : Option Alternatives) → Keeps NotNull (J pool) (bodies_or_defer env pool c o)
      bodies_or_kept c h o = keeps_bodies_or NotNull not_null env (J pool) (I.steps pool) pool (Reached pool) (reached B pool wf) (λ f d i. I.awaits pool d i.1) c (omega arith, h) o

      parts_kept : (l : List ℕ) → HeldIn pool l → (s : Out) → J pool s → Ends (Sorted (J pool) (λ c. c < length pool)) (partition env pool l [] [] s)
      parts_kept l u s j = ends_map (by_ends (keeps_partition NotNull not_null env (J pool) (I.steps pool) pool (Reached pool) (reached B pool wf) l [] [] (each_map (λ c. c < length pool) (λ c. Reached pool (suc c) c) (λ c h. (omega arith, h)) l u) tt tt s j))
          (λ parts t S. record {
            kept = S.kept;
            soft = each_map (λ c. Reached pool (suc c) c) (λ c. c < length pool) (λ c h. h.1) parts.soft S.soft;
            hard = each_map (λ c. Reached pool (suc c) c) (λ c. c < length pool) (λ c h. h.1) parts.hard S.hard;
          })

  -- ---- rules that also make concepts, from a pool p on
  module _ (B : Bounds) (p : Pool) where
    from_return : {A : Type 0} (a : A) → KeepsFrom J B p (return a)
    from_return a = record { run = λ z K. end K }

    from_then : {A D : Type 0} {m : C A} {f : A → C D} → KeepsFrom J B p m → ((a : A) → KeepsFrom J B p (f a)) → KeepsFrom J B p (m >>= f)
    from_then h k = record { run = λ z K. ends_then (h.run z K) (λ a y L. (k a).run y L) }

    from_each : {A : Type 0} (Q : A → Type 0) {f : A → C (Unit {0})} → ((a : A) → Q a → KeepsFrom J B p (f a)) → (l : List A) → Each Q l → KeepsFrom J B p (for_each f l)
    unfolding for_each
    from_each Q h [] u = from_return tt
    from_each Q h (a ∷ l) u = from_then (h a u.0) (λ _. from_each Q h l u.1)

    -- what only reads the pool
    out_kept : {A : Type 0} (z : Clausifier) (f : Pool → E A) → Kept J B p z → Keeps NotNull (J z.pool) (f z.pool) → Ends (λ _ y. Kept J B p y) (in_out f z)
    out_kept {A} z f K h = go (by_ends (h.run z.out K.kept))
      where
        go : {r : Res Out A} → Ends (λ _ t. J z.pool t) r → Ends (λ _ y. Kept J B p y) (back_out z r)
        go (ends j) = ends (record { grows = K.grows; wf = K.wf; kept = j })
        go (stops n) = stops n

    from_out : {A : Type 0} {f : Pool → E A} → ((pool : Pool) → Wf B pool → length p ≤ length pool → Keeps NotNull (J pool) (f pool)) → KeepsFrom J B p (in_out f)
    from_out {f = f} h = record { run = λ z K. out_kept z f K (h z.pool K.wf (grown_length K.grows)) }

    -- what makes concepts: the clauses stay
    nnf_kept : {t : St} {l : List ℕ} {z : Clausifier} → Kept J B p z → AllRan B (st_of z) l t → Kept J B p (after_nnf t z)
    nnf_kept {t} {l} {z} K A = record {
      grows = grown_trans K.grows A.grows;
      wf = A.wf;
      kept = (I.steps t.pool).counts z.out t.visits z.out.next_var z.out.next_fresh A.visits (omega arith) (I.grows z.pool t.pool A.grows z.out K.kept);
    }

    -- ---- hard antecedents
    absorb_none_lem : (sub sup : ℕ) (hard : List ℕ) (z : Clausifier) → Kept J B p z → sub < length z.pool → sup < length z.pool → Ends (λ _ y. Kept J B p y) (absorb_parts env sub sup [] hard z)
    unfolding absorb_parts
    absorb_none_lem sub sup hard z K h k =
        nnf_then z (nnf_complement sub) _ (complement_made B sub (st_of z) K.wf h) (λ i t M.
        let z₁ = after_nnf t z in
        let K₁ : Kept J B p z₁ = nnf_kept K (all_one M) in
        nnf_then z₁ (in_pool (mk_or (i ∷ sup ∷ []))) _ (or_kept B (i ∷ sup ∷ []) (st_of z₁) K₁.wf (M.made.held, (le_trans k (grown_length M.made.grows), tt))) (λ head u O.
        let z₂ = after_nnf u z₁ in
        let K₂ : Kept J B p z₂ = nnf_kept K₁ (all_one O) in
        out_kept z₂ (λ pool. restart_vars >> emit_head env pool [] head 0) K₂ (again_kept z₂.pool (head_kept z₂.pool B K₂.wf [] head 0 O.made.held))))

    -- the soft conjuncts as one concept
    soft_then : {A : Type 0} {Q : A → Clausifier → Type 0} (a : ℕ) (soft : List ℕ) (z : Clausifier) (k : ℕ → C A) → Kept J B p z → HeldIn z.pool (a ∷ soft)
        → ((g : ℕ) (y : Clausifier) → Kept J B p y → Grown z.pool y.pool → g < length y.pool → Ends Q (k g y)) → Ends Q (then (soft_and env (a ∷ soft) z) k)
    soft_then a [] z k K u h = h a z K (grown_refl z.pool) u.0
    soft_then a (b ∷ l) z k K u h = nnf_then z (in_pool (mk_and (a ∷ b ∷ l))) k (and_kept B (a ∷ b ∷ l) (st_of z) K.wf u)
        (λ g t M. h g (after_nnf t z) (nnf_kept K (all_one M)) M.made.grows M.made.held)

    absorb_some_lem : (sub sup a : ℕ) (soft hard : List ℕ) (z : Clausifier) → Kept J B p z → sup < length z.pool → HeldIn z.pool (a ∷ soft) → HeldIn z.pool hard
        → Ends (λ _ y. Kept J B p y) (absorb_parts env sub sup (a ∷ soft) hard z)
    unfolding absorb_parts
    absorb_some_lem sub sup a soft hard z K k us uh =
        nnf_then z (each nnf_complement hard) _ (complements_made B hard (st_of z) K.wf uh) (λ negated t A.
        let z₁ = after_nnf t z in
        let K₁ : Kept J B p z₁ = nnf_kept K A in
        nnf_then z₁ (in_pool (mk_or (negated ++ (sup ∷ [])))) _ (or_kept B (negated ++ (sup ∷ [])) (st_of z₁) K₁.wf
        (each_snoc (λ c. c < length t.pool) negated sup A.held (le_trans k (grown_length A.grows)))) (λ head u O.
        let z₂ = after_nnf u z₁ in
        let K₂ : Kept J B p z₂ = nnf_kept K₁ (all_one O) in
        soft_then a soft z₂ _ K₂ (below_more (grown_length (grown_trans A.grows O.made.grows)) (a ∷ soft) us) (λ g y L G h.
        out_kept y (λ pool. restart_vars >> (encode_antecedent env pool g 0 >>= (λ o. bodies_or_defer env pool head o))) L
        (again_kept y.pool (keeps_then (antecedent_kept y.pool B L.wf g h) (λ o. bodies_or_kept y.pool B L.wf head (le_trans O.made.held (grown_length G)) o))))))

    absorb_parts_lem : (sub sup : ℕ) (soft hard : List ℕ) (z : Clausifier) → Kept J B p z → sub < length z.pool → sup < length z.pool → HeldIn z.pool soft → HeldIn z.pool hard
        → Ends (λ _ y. Kept J B p y) (absorb_parts env sub sup soft hard z)
    absorb_parts_lem sub sup [] hard z K h k us uh = absorb_none_lem sub sup hard z K h k
    absorb_parts_lem sub sup (a ∷ soft) hard z K h k us uh = absorb_some_lem sub sup a soft hard z K k us uh

    from_absorb : (sub sup : ℕ) → sub < length p → sup < length p → KeepsFrom J B p (absorb_hard_antecedent env sub sup)
    unfolding absorb_hard_antecedent
    from_absorb sub sup h k = record { run = go }
      where
        go : (z : Clausifier) → Kept J B p z → Ends (λ _ y. Kept J B p y) (absorb_hard_antecedent env sub sup z)
        go z K = parted (parts_kept z.pool B K.wf (conjuncts sub (at z.pool sub)) (conjuncts_in B (length z.pool) sub i (at z.pool sub) (K.wf sub i)) z.out K.kept)
          where
            i : sub < length z.pool
            i = le_trans h (grown_length K.grows)

            parted : {r : Res Out Parts} → Ends (Sorted (J z.pool) (λ c. c < length z.pool)) r → Ends (λ _ y. Kept J B p y) (then (back_out z r) (λ parts. absorb_parts env sub sup parts.soft parts.hard))
            parted (ends {a = parts} {s = t} S) =
                absorb_parts_lem sub sup parts.soft parts.hard (after_out t z) (record { grows = K.grows; wf = K.wf; kept = S.kept }) i (le_trans k (grown_length K.grows)) S.soft S.hard
            parted (stops n) = stops n

    -- ---- inclusions
    pub from_gci_with : (sub sup : ℕ) → sub < length p → sup < length p → (o : Option Alternatives) → KeepsFrom J B p (gci_with env sub sup o)
    from_gci_with sub sup h k (some l) = from_out (λ pool w g. bodies_kept pool B w l sup (le_trans k g))
    from_gci_with sub sup h k none = from_absorb sub sup h k

    pub from_gci : (sub sup : ℕ) → sub < length p → sup < length p → KeepsFrom J B p (clausify_gci env sub sup)
    unfolding clausify_gci
    from_gci sub sup h k = from_then (from_out (λ pool w g. again_kept pool (antecedent_kept pool B w sub (le_trans h g)))) (λ o. from_gci_with sub sup h k o)

    -- ---- one axiom
    from_disjoint : (other : E (Unit {0})) → ((pool : Pool) → Keeps NotNull (J pool) other) → (l : List ℕ) → HeldIn p l → KeepsFrom J B p (for_each (disjoint_pair env other) (later_pairs l))
    unfolding disjoint_pair
    from_disjoint other q l u = from_each (Both (λ c. c < length p)) (λ x i. from_out (λ pool w g. again_kept pool (
        keeps_then (antecedent_kept pool B w x.0 (le_trans i.0 g)) (λ a.
        keeps_then (antecedent_kept pool B w x.1 (le_trans i.1 g)) (λ b. keeps_pair NotNull not_null env (J pool) (I.steps pool) other (q pool) a b)))))
        (later_pairs l) (each_later (λ c. c < length p) l u)

    from_members : (class : ℕ) (l : List ℕ) → HeldIn p l → KeepsFrom J B p (for_each (union_member env class) l)
    unfolding union_member
    from_members class l u = from_each (λ c. c < length p) (λ m i. from_out (λ pool w g. again_kept pool (
        keeps_then (antecedent_kept pool B w m (le_trans i g)) (λ o. keeps_member NotNull not_null env (J pool) (I.steps pool) class o)))) l u

    pub from_axiom : (a : Axiom) → AxiomIn B (length p) a → KeepsFrom J B p (clausify_axiom env a)
    unfolding clausify_axiom
    from_axiom (SubClassOf sub sup) i = from_gci sub sup i.0 i.1
    from_axiom (EquivalentClasses l) i = from_each (Both (λ c. c < length p)) (λ x j. from_gci x.0 x.1 j.0 j.1) (ordered_pairs l)
        (each_ordered (λ c. c < length p) (numbered 0 l) (numbered 0 l) (each_numbered (λ c. c < length p) 0 l i) (each_numbered (λ c. c < length p) 0 l i))
    from_axiom (DisjointClasses l) i = from_disjoint (defer env DisjointAntecedent) (λ pool. defer_kept pool DisjointAntecedent) l i
    from_axiom (DisjointUnion class l) i = from_then (from_disjoint (return tt) (λ pool. keeps_return tt) l i.1) (λ _.
        from_then (from_members class l i.1) (λ _.
        from_out (λ pool w g. again_kept pool (keeps_cover NotNull not_null env (J pool) (I.steps pool) pool class l []))))
    from_axiom (ObjectPropertyDomain r c) i = from_out (λ pool w g. keeps_domain NotNull not_null env (J pool) (I.steps pool) pool (Reached pool) (reached B pool w) (λ f d j. I.awaits pool d j.1) r c (omega arith, le_trans i.1 g))
    from_axiom (ObjectPropertyRange r c) i = from_out (λ pool w g. keeps_range NotNull not_null env (J pool) (I.steps pool) pool (Reached pool) (reached B pool w) (λ f d j. I.awaits pool d j.1) r c (omega arith, le_trans i.1 g))
    from_axiom (SubChain sup parts) i = from_out (λ pool w g. keeps_chain_of NotNull not_null env (J pool) (I.steps pool) sup parts pool)
    from_axiom (TransitiveRole r) i = from_out (λ pool w g. keeps_chain NotNull not_null env (J pool) (I.steps pool) r r r pool)
    from_axiom (IrreflexiveRole r) i = from_out (λ pool w g. push_kept pool (RoleAtom (canon env r) 0 0 ∷ []) [])
    from_axiom (AsymmetricRole r) i = from_out (λ pool w g. keeps_asymmetric NotNull not_null env (J pool) (I.steps pool) r pool)
    from_axiom (DisjointObjectProperties l) i = from_each (λ _. Unit {0}) (λ x _. from_out (λ pool w g. keeps_roles NotNull not_null env (J pool) (I.steps pool) x pool (eqb (role_code x.0) (role_code x.1)))) (later_pairs l) (each_unit (later_pairs l))
    from_axiom (InverseObjectProperties _ _) i = from_return tt
    from_axiom (SubObjectPropertyOf _ _) i = from_return tt
    from_axiom (EquivalentObjectProperties _) i = from_return tt
    from_axiom (ReflexiveRole _) i = from_return tt
    from_axiom (ClassAssertion _ _) i = from_return tt

-- ---- the tables' rooms, and the lines of the deferrals
pub record Tabled (env : Env) (most : ℕ) (s : Out) : Type 0 where
  pub roomy : Roomy env s
  pub line : s.line ≤ most
  pub lines : Each (λ d. d.line ≤ most) s.deferrals

roomy_steps : (env : Env) → Invariant env (Roomy env)
unfolding total
roomy_steps env = record {
  counts = λ s v x q _ _ r. record { clauses = r.clauses; atoms = r.atoms; deferrals = r.deferrals };
  pushes = λ s b h x y r.
      let z = total_append s.clauses (clause b h ∷ []) in
      let w = length-append s.clauses (clause b h ∷ []) in
      record { clauses = omega arith; atoms = omega arith; deferrals = r.deferrals };
  defers = λ s k x r.
      let d : Deferred = record { line = s.line; kind = k } in
      let w = length-append s.deferrals (d ∷ []) in
      record { clauses = r.clauses; atoms = r.atoms; deferrals = omega arith };
}

pub roomy_kept : (env : Env) → PoolInvariant env (λ _. Roomy env)
roomy_kept env = record {
  steps = λ p. roomy_steps env;
  awaits = λ p c h e s r. record { clauses = r.clauses; atoms = r.atoms; deferrals = r.deferrals };
  grows = λ p q G s r. r;
}

tabled_steps : (env : Env) (most : ℕ) → Invariant env (Tabled env most)
tabled_steps env most = record {
  counts = λ s v x q h k t. record { roomy = (roomy_steps env).counts s v x q h k t.roomy; line = t.line; lines = t.lines };
  pushes = λ s b h x y t. record { roomy = (roomy_steps env).pushes s b h x y t.roomy; line = t.line; lines = t.lines };
  defers = λ s k x t. record {
    roomy = (roomy_steps env).defers s k x t.roomy;
    line = t.line;
    lines = each_snoc (λ (d : Deferred). d.line ≤ most) s.deferrals (record { line = s.line; kind = k }) t.lines t.line;
  };
}

pub tabled_kept : (env : Env) (most : ℕ) → PoolInvariant env (λ _. Tabled env most)
tabled_kept env most = record {
  steps = λ p. tabled_steps env most;
  awaits = λ p c h e s t. record { roomy = (roomy_kept env).awaits p c h e s t.roomy; line = t.line; lines = t.lines };
  grows = λ p q G s t. t;
}

pub axiom_roomy : (B : Bounds) (env : Env) (a : Axiom) (z : Clausifier) → Wf B z.pool → AxiomIn B (length z.pool) a
    → Post (λ _ y. Roomy env z.out → Roomy env y.out) (clausify_axiom env a z)
axiom_roomy B env a z w i = post_every (λ r.
    post_map (ends_post ((from_axiom env (λ _. Roomy env) (roomy_kept env) B z.pool a i).run z (record { grows = grown_refl z.pool; wf = w; kept = r }))) (λ _ y K. K.kept))

-- ---- each inclusion begins a visit
visits_kept : (env : Env) (n : ℕ) → PoolInvariant env (λ _ s. n ≤ s.visits)
visits_kept env n = record {
  steps = λ p. record { counts = λ s v x q h k j. le_trans j h; pushes = λ s b h _ _ j. j; defers = λ s k _ j. j };
  awaits = λ p c h e s j. j;
  grows = λ p q G s j. j;
}

-- a visit was begun
abbrev pub Begins : Out → Out → Type 0
Begins s t = (s.visits < t.visits) × (s.visits < s.limit)

antecedent_visits : (env : Env) (pool : Pool) (c : ℕ) (s : Out) → Post (λ _ t. Begins s t) (then (restart_vars s) (λ _. encode_antecedent env pool c 0))
unfolding restart_vars
antecedent_visits env pool c s = encode_keeps Begins (λ s t u h k. (omega arith, h.1)) (λ s h. (omega arith, h)) (λ s h. (omega arith, h)) env pool (suc c) c 0 (restarted s)

pub gci_visits : (B : Bounds) (env : Env) (sub sup : ℕ) (z : Clausifier) → Wf B z.pool → sub < length z.pool → sup < length z.pool → Post (λ _ y. Begins z.out y.out) (clausify_gci env sub sup z)
unfolding clausify_gci
gci_visits B env sub sup z w h k =
    out_then z (λ pool. restart_vars >> encode_antecedent env pool sub 0) _ (antecedent_visits env z.pool sub z.out) (λ o t i.
    post_map (ends_post ((from_gci_with env (λ _ s. z.out.visits < s.visits) (visits_kept env (suc z.out.visits)) B z.pool sub sup h k o).run (after_out t z) (record { grows = grown_refl z.pool; wf = w; kept = i.0 })))
    (λ _ y K. (K.kept, i.1)))
