-- The arms of clausify_axiom: what each asks, and what its call gives. Assumes nothing.
use Rattle.std.specs.Prelude.{◌≡◌, Bool, ◌||◌, List, ℕ, ◌+◌, ◌*◌, ◌-◌, ◌<◌, ◌≤◌, ◌^◌, ◌⊎◌, eqb, get_or}
use Rattle.std.proofs.Math.Path.{refl}
use Rattle.std.proofs.Common.{sym, ap, subst, ◌∙◌, arith, eqb-true, ne_eqb, leb-true, ⊎_elim, inl, inr}
use Rattle.std.proofs.Math.Bool.{true, false}
use Rattle.std.proofs.lemmas.Bool.{false≢true}
use Prim.{Unit}
use Rattle.ir.specs.Pick.{pick}
use Rattle.ir.specs.Roles.{role_of}
use Rattle.ir.specs.declared.counters.Counters.{Counters}
use Rattle.ir.specs.Answer.{Answer}
use Rattle.ir.specs.declared.atom.Atom.{Atom}
use Rattle.rules.specs.Base.{Res, for_each}
use Rattle.rules.specs.Concept.{Axiom, SubClassOf, EquivalentClasses, DisjointClasses, DisjointUnion, ObjectPropertyDomain, ObjectPropertyRange}
use Rattle.rules.specs.Pool.{Pool}
use Rattle.rules.specs.Deck.{most_roles, section_of, axiom_of, fields_ok}
use Rattle.rules.specs.State.{Env, Out, E}
use Rattle.rules.specs.Axioms.{Clausifier, C, in_out, ordered_pairs, later_pairs, clausify_gci, disjoint_pair, clausify_axiom}
use Rattle.rules.specs.Handed.{names_limits}
use Rattle.rules.specs.Invariants.{Each, RoleIn, AxiomIn}
use Rattle.pool.specs.Layout.{run, pool_of}
use Rattle.deck.proofs.KindLaws.{axiom_kinds}
use Rattle.pool.specs.Held.{Held}
use Rattle.pool.specs.Tabs.{tab_each}
use Rattle.hands.specs.Hands.{Four, Did, Queues}
use Rattle.inverse.specs.AxiomLaws.{code_small}
use Rattle.axioms.specs.RoleAxioms.{hand_at, domain_or_range}
use Rattle.disjointness.specs.Pairs.{unencoded}
use Rattle.axioms.specs.Wholes.{Clausified, Queued}
use Rattle.axioms.specs.WholeLaws.{did_clausified}
use Rattle.axioms.specs.OnwardLaws.{clausified_is}
use Rattle.axioms.specs.QueuedLaws.{queues_queued, queued_is}
use Rattle.lists.specs.Listed.{Listed}
use Rattle.ontology.specs.Rows.{row_axiom, sub_class_is, equivalent_is, disjoint_is, union_is, domain_is, range_is}
use Rattle.clausifier.specs.Arms.{Axiomed}
use Rattle.clausifier.specs.Rows.{Row}

-- ---- rules that do the same
-- the axiom is another's
pub axiom_as : (a b : Axiom) (k : Counters) (x y : Four) (r : Answer) → a ≡ b → Clausified (λ env. clausify_axiom env b) k x y r → Clausified (λ env. clausify_axiom env a) k x y r
axiom_as a b k x y r e D = subst (λ (c : Axiom). Clausified (λ env. clausify_axiom env c) k x y r) (sym e) D

pub axiomed_as : (a b : Axiom) (k : Counters) (x y : Four) (r : Answer) → a ≡ b → Axiomed b k x y r → Axiomed a k x y r
axiomed_as a b k x y r e D = subst (λ (c : Axiom). Axiomed c k x y r) (sym e) D

-- one that names no limit
pub unlimited : (a : Axiom) (k : Counters) (x y : Four) (r : Answer) → names_limits a ≡ false → Clausified (λ env. clausify_axiom env a) k x y r → Axiomed a k x y r
unlimited a k x y r e D = record { did = D; queued = λ q. absurd (false≢true (sym e ∙ q)) }

-- ---- over classes
module _ (w : List ℕ) (k : Counters) (kind at count : ℕ) (R : Row w k kind at count) where
  -- a row of this kind
  pub ok_fields : (n : ℕ) → kind ≡ n → fields_ok n count ≡ true
  ok_fields n e = subst (λ (m : ℕ). fields_ok m count ≡ true) e R.fields

  pub of_kind : (n : ℕ) (a : Axiom) → kind ≡ n → row_axiom w n at count ≡ a → row_axiom w kind at count ≡ a
  of_kind n a e q = ap (λ (m : ℕ). row_axiom w m at count) e ∙ q

  listed : (m : ℕ) → m ≤ count → Each (λ c. c < k.concepts) (run w (at + m) (count - m)) → Listed w k (at + m) (count - m)
  listed m h e = record { above = omega (arith, R.above); below = omega (arith, R.below); ids = λ j l. tab_each (λ x. get_or w x 0) (λ c. c < k.concepts) (at + m) (count - m) e j l }

  module _ (e : kind ≡ 21) where
    gci_is : row_axiom w kind at count ≡ SubClassOf (get_or w (at + 1) 0) (get_or w (at + 2) 0)
    gci_is = of_kind 21 (SubClassOf (get_or w (at + 1) 0) (get_or w (at + 2) 0)) e (sub_class_is w at count (eqb-true count 3 (ok_fields 21 e)))

    module _ (a b : ℕ) (p : a ≡ get_or w (at + 1) 0) (q : b ≡ get_or w (at + 2) 0) where
      pub gci_asks : (a < k.concepts) × (b < k.concepts)
      gci_asks = let h = subst (AxiomIn R.bounds k.concepts) gci_is R.inside in (omega (arith, p, h.0), omega (arith, q, h.1))

      pub gci_arm : (x y : Four) (r : Answer) → Clausified (λ env. clausify_gci env a b) k x y r × Queued (λ env. clausify_gci env a b) k x y → Axiomed (row_axiom w kind at count) k x y r
      unfolding clausify_axiom
      gci_arm x y r D =
          let z : row_axiom w kind at count ≡ SubClassOf a b = gci_is ∙ rw (p, q) refl in
          axiomed_as (row_axiom w kind at count) (SubClassOf a b) k x y r z (record { did = D.0; queued = λ _. D.1 })

  module _ (e : kind ≡ 22) where
    pub equivalent_fits : 1 ≤ count
    equivalent_fits = leb-true 1 count (ok_fields 22 e)

    equivalents_is : row_axiom w kind at count ≡ EquivalentClasses (run w (at + 1) (count - 1))
    equivalents_is = of_kind 22 (EquivalentClasses (run w (at + 1) (count - 1))) e (equivalent_is w at count)

    pub equivalent_asks : Listed w k (at + 1) (count - 1)
    equivalent_asks = listed 1 equivalent_fits (subst (AxiomIn R.bounds k.concepts) equivalents_is R.inside)

    abbrev pairs_of : Env → C (Unit {0})
    pairs_of env = for_each (λ p. clausify_gci env p.0 p.1) (ordered_pairs (run w (at + 1) (count - 1)))

    pub equivalent_arm : (x y : Four) (r : Answer) → Clausified pairs_of k x y r × Queued pairs_of k x y → Axiomed (row_axiom w kind at count) k x y r
    unfolding clausify_axiom
    equivalent_arm x y r D = axiomed_as (row_axiom w kind at count) (EquivalentClasses (run w (at + 1) (count - 1))) k x y r equivalents_is (record { did = D.0; queued = λ _. D.1 })

  module _ (e : kind ≡ 23) where
    pub disjoint_fits : 1 ≤ count
    disjoint_fits = leb-true 1 count (ok_fields 23 e)

    disjoints_is : row_axiom w kind at count ≡ DisjointClasses (run w (at + 1) (count - 1))
    disjoints_is = of_kind 23 (DisjointClasses (run w (at + 1) (count - 1))) e (disjoint_is w at count)

    pub disjoint_asks : Listed w k (at + 1) (count - 1)
    disjoint_asks = listed 1 disjoint_fits (subst (AxiomIn R.bounds k.concepts) disjoints_is R.inside)

    pub disjoint_arm : (x y : Four) (r : Answer) → Clausified (λ env. for_each (disjoint_pair env (unencoded env true)) (later_pairs (run w (at + 1) (count - 1)))) k x y r → Axiomed (row_axiom w kind at count) k x y r
    unfolding clausify_axiom
    disjoint_arm x y r D = let a : Axiom = DisjointClasses (run w (at + 1) (count - 1)) in axiomed_as (row_axiom w kind at count) a k x y r disjoints_is (unlimited a k x y r refl D)

  module _ (e : kind ≡ 24) (a : ℕ) (p : a ≡ get_or w (at + 1) 0) where
    pub union_fits : 2 ≤ count
    union_fits = leb-true 2 count (ok_fields 24 e)

    unions_is : row_axiom w kind at count ≡ DisjointUnion a (run w (at + 2) (count - 2))
    unions_is = of_kind 24 (DisjointUnion (get_or w (at + 1) 0) (run w (at + 2) (count - 2))) e (union_is w at count union_fits) ∙ rw p refl

    pub union_asks : Listed w k (at + 2) (count - 2) × (a + 1 < 2 ^ 32)
    union_asks = let h = subst (AxiomIn R.bounds k.concepts) unions_is R.inside in (listed 2 union_fits h.1, omega (arith, h.0, R.classes))

    pub union_arm : (x y : Four) (r : Answer) → Clausified (λ env. clausify_axiom env (DisjointUnion a (run w (at + 2) (count - 2)))) k x y r → Axiomed (row_axiom w kind at count) k x y r
    union_arm x y r D = let b : Axiom = DisjointUnion a (run w (at + 2) (count - 2)) in axiomed_as (row_axiom w kind at count) b k x y r unions_is (unlimited b k x y r refl D)

-- a rule that only reads the pool
pub did_arm : (rule : Env → Pool → E (Unit {0})) (a : Axiom) (k : Counters) (x y : Four) (r : Answer) → Held x.scratch k.concepts k.members → ((env : Env) (z : Clausifier) → in_out (rule env) z ≡ clausify_axiom env a z)
    → Did (λ _. 0) 0 (λ env f b s. rule env (pool_of x.scratch k.concepts) s) k hand_at 0 x y r → Clausified (λ env. clausify_axiom env a) k x y r
did_arm rule a k x y r H f D = clausified_is (λ env. in_out (rule env)) (λ env. clausify_axiom env a) k x y r f (did_clausified rule k x y r H D)

-- the last two over classes
abbrev Last : ℕ → Type 0
Last k = k < 27 → (k ≡ 21 → ⊥) → (k ≡ 22 → ⊥) → (k ≡ 23 → ⊥) → (k ≡ 24 → ⊥) → (k ≡ 25) ⊎ (k ≡ 26)

last_classes : (k : ℕ) → section_of k ≡ 4 → Last k
last_classes = axiom_kinds Last (λ l a b c d. absurd (a refl)) (λ l a b c d. absurd (b refl)) (λ l a b c d. absurd (c refl)) (λ l a b c d. absurd (d refl)) (λ l a b c d. inl refl) (λ l a b c d. inr refl)
    (λ l a b c d. absurd (omega arith)) (λ l a b c d. absurd (omega arith)) (λ l a b c d. absurd (omega arith)) (λ l a b c d. absurd (omega arith)) (λ l a b c d. absurd (omega arith))
    (λ l a b c d. absurd (omega arith)) (λ l a b c d. absurd (omega arith)) (λ l a b c d. absurd (omega arith)) (λ l a b c d. absurd (omega arith)) (λ l a b c d. absurd (omega arith))

module _ (w : List ℕ) (k : Counters) (kind at count : ℕ) (R : Row w k kind at count) (l : kind < 27) (n1 : kind ≡ 21 → ⊥) (n2 : kind ≡ 22 → ⊥) (n3 : kind ≡ 23 → ⊥) (n4 : kind ≡ 24 → ⊥)
    (a b : ℕ) (p : a ≡ get_or w (at + 1) 0) (q : b ≡ get_or w (at + 2) 0) where
  abbrev pub domain_of : ℕ → Axiom
  domain_of n = pick (eqb n 26) (ObjectPropertyRange (role_of a) b) (ObjectPropertyDomain (role_of a) b)

  pub domains_is : row_axiom w kind at count ≡ domain_of kind
  domains_is = ⊎_elim
      (λ e. of_kind w k kind at count R 25 (ObjectPropertyDomain (role_of (get_or w (at + 1) 0)) (get_or w (at + 2) 0)) e (domain_is w at count (eqb-true count 3 (ok_fields w k kind at count R 25 e))) ∙ rw (e, p, q) refl)
      (λ e. of_kind w k kind at count R 26 (ObjectPropertyRange (role_of (get_or w (at + 1) 0)) (get_or w (at + 2) 0)) e (range_is w at count (eqb-true count 3 (ok_fields w k kind at count R 26 e))) ∙ rw (e, p, q) refl)
      (last_classes kind R.section l n1 n2 n3 n4)

  domains_in : (t : Bool) → AxiomIn R.bounds k.concepts (pick t (ObjectPropertyRange (role_of a) b) (ObjectPropertyDomain (role_of a) b)) → RoleIn R.bounds (role_of a) × (b < k.concepts)
  domains_in true h = h
  domains_in false h = h

  pub domain_asks : (a < 2 * most_roles) × (b < k.concepts)
  domain_asks =
      let h = domains_in (eqb kind 26) (subst (AxiomIn R.bounds k.concepts) domains_is R.inside) in
      (code_small R.bounds a R.roles h.0, h.1)

  domain_rule : (t : Bool) (env : Env) (z : Clausifier) → in_out (domain_or_range env (role_of a) b t) z ≡ clausify_axiom env (pick t (ObjectPropertyRange (role_of a) b) (ObjectPropertyDomain (role_of a) b)) z
  unfolding clausify_axiom
  domain_rule true env z = refl
  domain_rule false env z = refl

  abbrev rule_of : Bool → Four → Env → ℕ → List Atom → Out → Res Out (Unit {0})
  rule_of t x env f h s = domain_or_range env (role_of a) b t (pool_of x.scratch k.concepts) s

  pub domain_arm : (t : Bool) → t ≡ eqb kind 26 → (x y : Four) (r : Answer) → Held x.scratch k.concepts k.members
      → Did (λ _. 0) 0 (rule_of t x) k hand_at 0 x y r × Queues 0 (rule_of t x) k hand_at 0 x y → Axiomed (row_axiom w kind at count) k x y r
  domain_arm t e x y r H D =
      let o : Axiom = pick t (ObjectPropertyRange (role_of a) b) (ObjectPropertyDomain (role_of a) b) in
      let z : row_axiom w kind at count ≡ o = domains_is ∙ rw e refl in
      axiomed_as (row_axiom w kind at count) o k x y r z
      (record {
        did = did_arm (λ env. domain_or_range env (role_of a) b t) o k x y r H (domain_rule t) D.0;
        queued = λ _. queued_is (λ env. in_out (domain_or_range env (role_of a) b t)) (λ env. clausify_axiom env o) k x y (domain_rule t) (queues_queued (λ env. domain_or_range env (role_of a) b t) k x y D.1);
      })

-- ---- which kinds may name limits
abbrev pub limits_kind : ℕ → Bool
limits_kind n = eqb n 21 || (eqb n 22 || (eqb n 25 || eqb n 26))

abbrev NamesAs : List ℕ → ℕ → Type 0
NamesAs l n = names_limits (axiom_of n l) ≡ limits_kind n

pub kind_names : (l : List ℕ) (n : ℕ) → section_of n ≡ 4 → NamesAs l n
unfolding axiom_of
kind_names l = axiom_kinds (NamesAs l) refl refl refl refl refl refl refl refl refl refl refl refl refl refl refl refl

-- none over roles
pub roles_unlimited : (w : List ℕ) (k : Counters) (kind at count : ℕ) → Row w k kind at count → 27 ≤ kind → names_limits (row_axiom w kind at count) ≡ false
roles_unlimited w k kind at count R h =
    kind_names (run w at count) kind R.section
    ∙ rw (ne_eqb kind 21 (λ e. omega arith), ne_eqb kind 22 (λ e. omega arith), ne_eqb kind 25 (λ e. omega arith), ne_eqb kind 26 (λ e. omega arith)) refl
