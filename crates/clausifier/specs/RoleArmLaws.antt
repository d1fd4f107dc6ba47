-- The arms of clausify_axiom over roles. Assumes nothing.
use Rattle.std.specs.Prelude.{◌≡◌, refl, true, List, [], ◌∷◌, map, ℕ, zero, suc, ◌+◌, ◌*◌, ◌-◌, ◌<◌, ◌≤◌, get_or}
use Rattle.std.proofs.Math.Path.{ap}
use Rattle.std.proofs.Common.{subst, ◌∙◌, arith, eqb-true, leb-true}
use Prim.{Unit, tt}
use Rattle.ir.specs.Roles.{role_of}
use Rattle.ir.specs.declared.role.Role.{Role}
use Rattle.ir.specs.declared.counters.Counters.{Counters}
use Rattle.ir.specs.Answer.{Answer}
use Rattle.ir.specs.Answer.{Done}
use Rattle.ir.specs.declared.deferral.Deferral.TheVariants.{RoleChainLenNe2}
use Rattle.rules.specs.Base.{ok, return, for_each}
use Rattle.rules.specs.Concept.{Axiom, SubChain, TransitiveRole, IrreflexiveRole, AsymmetricRole, DisjointObjectProperties}
use Rattle.rules.specs.Pool.{Pool}
use Rattle.rules.specs.Deck.{most_roles, section_of, axiom_of}
use Rattle.rules.specs.State.{Env, Out, defer}
use Rattle.rules.specs.Axioms.{Clausifier, in_out, back_out, later_pairs, chain, chain_of, asymmetric, clausify_axiom}
use Rattle.rules.specs.Invariants.{Each, RoleIn, AxiomIn}
use Rattle.rules.specs.EachLaws.{each_unmapped}
use Rattle.pool.specs.Layout.{tab, run, pool_of}
use Rattle.pool.specs.Held.{Held}
use Rattle.pool.specs.Tabs.{tab_each}
use Rattle.deck.proofs.KindLaws.{axiom_kinds}
use Rattle.tables.specs.Drawn.{tables, show, shown, after, Lent}
use Rattle.tables.specs.Good.{Good, GoodAnswer, KeptAnswer}
use Rattle.hands.specs.Hands.{Four, four, Did}
use Rattle.leaves.specs.StepLaws.{alike_same}
use Rattle.axioms.specs.RoleAxioms.{hand_at, irreflexive, not_both}
use Rattle.axioms.specs.Wholes.{Clausified}
use Rattle.lists.specs.Listed.{RolesListed, pair_disjoint}
use Rattle.ontology.specs.Rows.{row_axiom, chain_is, transitive_is, irreflexive_is, asymmetric_is, disjoint_roles_is}
use Rattle.clausifier.specs.Rows.{Row}
use Rattle.inverse.specs.AxiomLaws.{code_small}
use Rattle.clausifier.specs.ArmLaws.{axiom_as, did_arm, ok_fields, of_kind}

-- ---- one role
module _ (w : List ℕ) (k : Counters) (kind at count : ℕ) (R : Row w k kind at count) (a : ℕ) (p : a ≡ get_or w (at + 1) 0) where
  module _ (e : kind ≡ 28) where
    transitives_is : row_axiom w kind at count ≡ TransitiveRole (role_of a)
    transitives_is = of_kind w k kind at count R 28 (TransitiveRole (role_of (get_or w (at + 1) 0))) e (transitive_is w at count (eqb-true count 2 (ok_fields w k kind at count R 28 e))) ∙ rw p refl

    pub transitive_asks : a < 2 * most_roles
    transitive_asks = code_small R.bounds a R.roles (subst (AxiomIn R.bounds k.concepts) transitives_is R.inside)

    pub transitive_arm : (x y : Four) (r : Answer) → Held x.scratch k.concepts k.members
        → Did (λ _. 0) 0 (λ env f h s. chain env (role_of a) (role_of a) (role_of a) (pool_of x.scratch k.concepts) s) k hand_at 0 x y r → Clausified (λ env. clausify_axiom env (row_axiom w kind at count)) k x y r
    unfolding clausify_axiom
    transitive_arm x y r H D =
        axiom_as (row_axiom w kind at count) (TransitiveRole (role_of a)) k x y r transitives_is
        (did_arm (λ env. chain env (role_of a) (role_of a) (role_of a)) (TransitiveRole (role_of a)) k x y r H (λ env z. refl) D)

  module _ (e : kind ≡ 29) where
    irreflexives_is : row_axiom w kind at count ≡ IrreflexiveRole (role_of a)
    irreflexives_is = of_kind w k kind at count R 29 (IrreflexiveRole (role_of (get_or w (at + 1) 0))) e (irreflexive_is w at count (eqb-true count 2 (ok_fields w k kind at count R 29 e))) ∙ rw p refl

    pub irreflexive_asks : a < 2 * most_roles
    irreflexive_asks = code_small R.bounds a R.roles (subst (AxiomIn R.bounds k.concepts) irreflexives_is R.inside)

    pub irreflexive_arm : (x y : Four) (r : Answer) → Held x.scratch k.concepts k.members
        → Did (λ _. 0) 0 (λ env f h s. irreflexive env (role_of a) s) k hand_at 0 x y r → Clausified (λ env. clausify_axiom env (row_axiom w kind at count)) k x y r
    unfolding clausify_axiom
    irreflexive_arm x y r H D =
        axiom_as (row_axiom w kind at count) (IrreflexiveRole (role_of a)) k x y r irreflexives_is
        (did_arm (λ env pool. irreflexive env (role_of a)) (IrreflexiveRole (role_of a)) k x y r H (λ env z. refl) D)

  module _ (e : kind ≡ 30) where
    asymmetrics_is : row_axiom w kind at count ≡ AsymmetricRole (role_of a)
    asymmetrics_is = of_kind w k kind at count R 30 (AsymmetricRole (role_of (get_or w (at + 1) 0))) e (asymmetric_is w at count (eqb-true count 2 (ok_fields w k kind at count R 30 e))) ∙ rw p refl

    pub asymmetric_asks : a < 2 * most_roles
    asymmetric_asks = code_small R.bounds a R.roles (subst (AxiomIn R.bounds k.concepts) asymmetrics_is R.inside)

    pub asymmetric_arm : (x y : Four) (r : Answer) → Held x.scratch k.concepts k.members
        → Did (λ _. 0) 0 (λ env f h s. not_both env (role_of a) (role_of a) true s) k hand_at 0 x y r → Clausified (λ env. clausify_axiom env (row_axiom w kind at count)) k x y r
    unfolding clausify_axiom asymmetric
    asymmetric_arm x y r H D =
        axiom_as (row_axiom w kind at count) (AsymmetricRole (role_of a)) k x y r asymmetrics_is
        (did_arm (λ env pool. not_both env (role_of a) (role_of a) true) (AsymmetricRole (role_of a)) k x y r H (λ env z. refl) D)

-- ---- a list of roles
module _ (w : List ℕ) (k : Counters) (kind at count : ℕ) (R : Row w k kind at count) (e : kind ≡ 31) where
  pub roles_fit : 1 ≤ count
  roles_fit = leb-true 1 count (ok_fields w k kind at count R 31 e)

  roles_is : row_axiom w kind at count ≡ DisjointObjectProperties (map role_of (run w (at + 1) (count - 1)))
  roles_is = of_kind w k kind at count R 31 (DisjointObjectProperties (map role_of (run w (at + 1) (count - 1)))) e (disjoint_roles_is w at count)

  pub roles_asks : RolesListed w (at + 1) (count - 1)
  roles_asks =
      let f = roles_fit in
      let h : Each (λ c. RoleIn R.bounds (role_of c)) (run w (at + 1) (count - 1)) = each_unmapped (RoleIn R.bounds) role_of (run w (at + 1) (count - 1)) (subst (AxiomIn R.bounds k.concepts) roles_is R.inside) in
      record {
        above = omega (arith, R.above);
        below = omega (arith, R.below);
        codes = λ j l. code_small R.bounds (get_or w (at + 1 + j) 0) R.roles (tab_each (λ x. get_or w x 0) (λ c. RoleIn R.bounds (role_of c)) (at + 1) (count - 1) h j l);
      }

  pub roles_arm : (x y : Four) (r : Answer) → Clausified (λ env. for_each (pair_disjoint env) (later_pairs (map role_of (run w (at + 1) (count - 1))))) k x y r → Clausified (λ env. clausify_axiom env (row_axiom w kind at count)) k x y r
  unfolding clausify_axiom
  roles_arm x y r D = axiom_as (row_axiom w kind at count) (DisjointObjectProperties (map role_of (run w (at + 1) (count - 1)))) k x y r roles_is D

-- ---- a chain
-- the list of another length than two
chain_deferred : (env : Env) (w : List ℕ) (sup : Role) (i n : ℕ) (pool : Pool) → (n ≡ 2 → ⊥) → defer env RoleChainLenNe2 ≡ chain_of env sup (map role_of (run w i n)) pool
unfolding tab
chain_deferred env w sup i zero pool h = refl
chain_deferred env w sup i (suc zero) pool h = refl
chain_deferred env w sup i (suc (suc zero)) pool h = absurd (h refl)
chain_deferred env w sup i (suc (suc (suc n))) pool h = refl

two_words : (w : List ℕ) (i : ℕ) → run w i 2 ≡ get_or w i 0 ∷ get_or w (i + 1) 0 ∷ []
unfolding tab
two_words w i = refl

module _ (w : List ℕ) (k : Counters) (at count : ℕ) (R : Row w k 27 at count) where
  chain_fits : 2 ≤ count
  chain_fits = leb-true 2 count R.fields

  chains_is : row_axiom w 27 at count ≡ SubChain (role_of (get_or w (at + 1) 0)) (map role_of (run w (at + 2) (count - 2)))
  chains_is = chain_is w at count chain_fits

  module _ (e : count ≡ 4 → ⊥) (d d' c a : List ℕ) (r : Answer) (H : Held w k.concepts k.members) (g : GoodAnswer r) (kept : KeptAnswer k r)
      (P : (env : Env) (s : Out) (c a : List ℕ) → Lent env.rooms c a d → tables k c a d ≡ show k env.rooms s → after r c a d' ≡ shown (λ _. 0) k env.rooms (defer env RoleChainLenNe2 s)) where
    pub defer_arm : Clausified (λ env. clausify_axiom env (row_axiom w 27 at count)) k (four w c a d) (four w c a d') r
    unfolding clausify_axiom
    defer_arm =
        let f = chain_fits in
        let b : Axiom = SubChain (role_of (get_or w (at + 1) 0)) (map role_of (run w (at + 2) (count - 2))) in
        axiom_as (row_axiom w 27 at count) b k (four w c a d) (four w c a d') r chains_is
        (did_arm (λ env pool. defer env RoleChainLenNe2) b k (four w c a d) (four w c a d') r H
        (λ env z. ap (λ (m : Out → _). back_out z (m z.out)) (chain_deferred env w (role_of (get_or w (at + 1) 0)) (at + 2) (count - 2) z.pool (λ q. e (omega arith))))
        (record { equal = λ env f b s lo E i t. P env s c a E.lent t; frame = refl; good = g; kept = kept }))

  module _ (e : count ≡ 4) (t a b : ℕ) (pt : t ≡ get_or w (at + 1) 0) (pa : a ≡ get_or w (at + 2) 0) (pb : b ≡ get_or w (at + 3) 0) where
    chain_two : row_axiom w 27 at count ≡ SubChain (role_of t) (role_of a ∷ role_of b ∷ [])
    chain_two =
        let n : count - 2 ≡ 2 = omega arith in
        let i : at + 2 + 1 ≡ at + 3 = omega arith in
        let l : run w (at + 2) (count - 2) ≡ a ∷ b ∷ [] = ap (run w (at + 2)) n ∙ two_words w (at + 2) ∙ rw (i, pa, pb) refl in
        chains_is ∙ rw (l, pt) refl

    pub chain_asks : (a < 2 * most_roles) × (b < 2 * most_roles) × (t < 2 * most_roles)
    chain_asks =
        let h = subst (AxiomIn R.bounds k.concepts) chain_two R.inside in (
          code_small R.bounds a R.roles h.1.0,
          code_small R.bounds b R.roles h.1.1.0,
          code_small R.bounds t R.roles h.0,
        )

    pub chain_arm : (x y : Four) (r : Answer) → Held x.scratch k.concepts k.members
        → Did (λ _. 0) 0 (λ env f h s. chain env (role_of a) (role_of b) (role_of t) (pool_of x.scratch k.concepts) s) k hand_at 0 x y r → Clausified (λ env. clausify_axiom env (row_axiom w 27 at count)) k x y r
    unfolding clausify_axiom
    chain_arm x y r H D =
        axiom_as (row_axiom w 27 at count) (SubChain (role_of t) (role_of a ∷ role_of b ∷ [])) k x y r chain_two
        (did_arm (λ env. chain env (role_of a) (role_of b) (role_of t)) (SubChain (role_of t) (role_of a ∷ role_of b ∷ [])) k x y r H (λ env z. refl) D)

-- a row of kind 27, and what is made of it
module _ (w : List ℕ) (k : Counters) (kind at count : ℕ) (e : kind ≡ 27) where
  pub row_chain : Row w k kind at count → Row w k 27 at count
  row_chain R = subst (λ (n : ℕ). Row w k n at count) e R

  pub chained : (x y : Four) (r : Answer) → Clausified (λ env. clausify_axiom env (row_axiom w 27 at count)) k x y r → Clausified (λ env. clausify_axiom env (row_axiom w kind at count)) k x y r
  chained x y r D = axiom_as (row_axiom w kind at count) (row_axiom w 27 at count) k x y r (ap (λ (n : ℕ). row_axiom w n at count) e) D

-- ---- the others make no clause
abbrev Idle : Env → Clausifier → List ℕ → ℕ → Type 0
Idle env z r k = 27 ≤ k → (k ≡ 27 → ⊥) → (k ≡ 28 → ⊥) → (k ≡ 29 → ⊥) → (k ≡ 30 → ⊥) → (k ≡ 31 → ⊥) → in_out {A = Unit {0}} (λ pool. return tt) z ≡ clausify_axiom env (axiom_of k r) z

other_kinds : (env : Env) (z : Clausifier) (r : List ℕ) (k : ℕ) → section_of k ≡ 4 → Idle env z r k
unfolding axiom_of clausify_axiom
other_kinds env z r = axiom_kinds (Idle env z r)
    (λ l a b c d e. absurd (omega arith)) (λ l a b c d e. absurd (omega arith)) (λ l a b c d e. absurd (omega arith))
    (λ l a b c d e. absurd (omega arith)) (λ l a b c d e. absurd (omega arith)) (λ l a b c d e. absurd (omega arith))
    (λ l a b c d e. absurd (a refl)) (λ l a b c d e. absurd (b refl)) (λ l a b c d e. absurd (c refl)) (λ l a b c d e. absurd (d refl)) (λ l a b c d e. absurd (e refl))
    (λ l a b c d e. refl) (λ l a b c d e. refl) (λ l a b c d e. refl) (λ l a b c d e. refl) (λ l a b c d e. refl)

pub idle_arm : (w : List ℕ) (k : Counters) (kind at count : ℕ) → Row w k kind at count → 27 ≤ kind → (kind ≡ 27 → ⊥) → (kind ≡ 28 → ⊥) → (kind ≡ 29 → ⊥) → (kind ≡ 30 → ⊥) → (kind ≡ 31 → ⊥)
    → (x : Four) → Held x.scratch k.concepts k.members → Good k → Clausified (λ env. clausify_axiom env (row_axiom w kind at count)) k x x (Done k 0)
idle_arm w k kind at count R l a b c d e x H g =
    did_arm (λ env pool. return tt) (row_axiom w kind at count) k x x (Done k 0) H (λ env z. other_kinds env z (run w at count) kind R.section l a b c d e)
    (record { equal = λ env f h s lo E i t. ap (ok 0) t; frame = refl; good = g; kept = alike_same k })
