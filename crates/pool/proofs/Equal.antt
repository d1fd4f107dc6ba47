-- The test of words is the test of concepts. Assumes nothing.
use Rattle.std.specs.Cmp.{both_ways}
use mathlib.Core.Path.{◌≡◌, refl, sym, ap, subst, ◌∙◌}
use mathlib.Core.Bool.{Bool, true, false}
use mathlib.Core.List.{List}
use Prim.{tt, Unit}
use Prim.Native.Nat.{ℕ, ◌+◌}
use lib.Dec.{eqb}
use borrow.Author.Tests.{eq-eqb, eqb-true}
use Rattle.ir.specs.Pick.{pick}
use Rattle.ir.specs.Records.{same_words}
use Rattle.ir.specs.RecordLaws.{same_words_lem, same_words_refl}
use Rattle.rules.specs.Concept.{Concept, concept_row, same_concept}
use Rattle.rules.specs.PoolLaws.{same_concept_lem}
use Rattle.rules.specs.TextLaws.{by_test}
use Rattle.pool.specs.declared.record.Record.{Record}
use Rattle.pool.specs.Layout.{members_at, tab, run, field, record_at, is_list, count_of, concept_from, concept_over, concept_at, plain, starts_at, listed}
use Rattle.pool.specs.Shapes.{list_from, list_listed, listed_over}

pub pick_true : (t u : Bool) → pick t u false ≡ true → (t ≡ true) × (u ≡ true)
pick_true true u h = (refl, h)
pick_true false u h = absurd (subst (λ (b : Bool). pick b ⊥ Unit) h tt)

module _ (w : List ℕ) (c i : ℕ) (x : Record) where
  abbrev there : List ℕ
  there = run w (members_at + field w c 3) x.number

  abbrev last_test : Bool
  last_test = pick (is_list x.kind) (same_words (run w i x.number) there) (eqb (field w c 3) x.child)

  -- what the code tests
  abbrev pub same_as : Bool
  same_as = pick (eqb (field w c 0) x.kind) (pick (eqb (field w c 1) x.role) (pick (eqb (field w c 2) x.number) last_test false) false) false

  -- kind, role and number
  module _ (e0 : field w c 0 ≡ x.kind) (e1 : field w c 1 ≡ x.role) (e2 : field w c 2 ≡ x.number) where
    count_eq : count_of (record_at w c) ≡ count_of x
    count_eq = rw (e0, e2) refl

    list_yes : is_list x.kind ≡ true → run w i x.number ≡ there → concept_over w i x ≡ concept_at w c
    list_yes a r =
        let n : count_of x ≡ x.number = rw a refl in
        let l : run w i (count_of x) ≡ run w (members_at + field w c 3) (count_of (record_at w c)) =
        ap (run w i) n ∙ r ∙ ap (run w (members_at + field w c 3)) (sym n ∙ sym count_eq) in
        ap (concept_from x) l ∙ list_from x (record_at w c) (run w (members_at + field w c 3) (count_of (record_at w c))) (sym e0) a

    flat_yes : is_list x.kind ≡ false → field w c 3 ≡ x.child → concept_over w i x ≡ concept_at w c
    unfolding tab
    flat_yes a e3 =
        let n : count_of x ≡ 0 = rw a refl in
        let r : record_at w c ≡ x = rw (e0, e1, e2, e3) refl in
        ap (λ (k : ℕ). concept_from x (run w i k)) n ∙ sym (ap (λ (k : ℕ). concept_from x (run w (members_at + field w c 3) k)) n)
        ∙ ap (concept_over w (members_at + field w c 3)) (sym r)

    yes_list : is_list x.kind ≡ true → plain (concept_over w i x) ≡ x → concept_over w i x ≡ concept_at w c → run w i x.number ≡ there
    yes_list a p q =
        let n : count_of x ≡ x.number = rw a refl in
        let b : is_list (field w c 0) ≡ true = ap is_list e0 ∙ a in
        let l : run w i (count_of x) ≡ run w (members_at + field w c 3) (count_of (record_at w c)) =
        sym (listed_over w i x p) ∙ ap listed q ∙ list_listed (record_at w c) (run w (members_at + field w c 3) (count_of (record_at w c))) b in
        ap (run w i) (sym n) ∙ l ∙ ap (run w (members_at + field w c 3)) (count_eq ∙ n)

  same_true : same_as ≡ true → concept_over w i x ≡ concept_at w c
  same_true h =
      let t0 = pick_true (eqb (field w c 0) x.kind) (pick (eqb (field w c 1) x.role) (pick (eqb (field w c 2) x.number) last_test false) false) h in
      let t1 = pick_true (eqb (field w c 1) x.role) (pick (eqb (field w c 2) x.number) last_test false) t0.1 in
      let t2 = pick_true (eqb (field w c 2) x.number) last_test t1.1 in
      let e0 = eqb-true (field w c 0) x.kind t0.0 in
      let e1 = eqb-true (field w c 1) x.role t1.0 in
      let e2 = eqb-true (field w c 2) x.number t2.0 in
      by_test (is_list x.kind)
      (λ a. list_yes e0 e1 e2 a (same_words_lem (run w i x.number) there (sym (ap (λ (b : Bool). pick b (same_words (run w i x.number) there) (eqb (field w c 3) x.child)) a) ∙ t2.1)))
      (λ a. flat_yes e0 e1 e2 a (eqb-true (field w c 3) x.child (sym (ap (λ (b : Bool). pick b (same_words (run w i x.number) there) (eqb (field w c 3) x.child)) a) ∙ t2.1)))

  true_same : (s : ℕ) → plain (concept_over w i x) ≡ x → record_at w c ≡ starts_at s (plain (concept_at w c)) → concept_over w i x ≡ concept_at w c → same_as ≡ true
  true_same s p r q =
      let z : record_at w c ≡ starts_at s x = r ∙ ap (λ (e : Concept). starts_at s (plain e)) (sym q) ∙ ap (starts_at s) p in
      let e0 : field w c 0 ≡ x.kind = ap (λ (y : Record). y.kind) z in
      let e1 : field w c 1 ≡ x.role = ap (λ (y : Record). y.role) z in
      let e2 : field w c 2 ≡ x.number = ap (λ (y : Record). y.number) z in
      let e3 : field w c 3 ≡ pick (is_list x.kind) s x.child = ap (λ (y : Record). y.child) z in
      let t : last_test ≡ true = by_test (is_list x.kind)
      (λ a. ap (λ (b : Bool). pick b (same_words (run w i x.number) there) (eqb (field w c 3) x.child)) a
      ∙ ap (λ (l : List ℕ). same_words l there) (yes_list e0 e1 e2 a p q) ∙ same_words_refl there)
      (λ a. ap (λ (b : Bool). pick b (same_words (run w i x.number) there) (eqb (field w c 3) x.child)) a
      ∙ eq-eqb (field w c 3) x.child (e3 ∙ ap (λ (b : Bool). pick b s x.child) a)) in
      rw (eq-eqb (field w c 0) x.kind e0, eq-eqb (field w c 1) x.role e1, eq-eqb (field w c 2) x.number e2) t

  pub same_as_lem : (s : ℕ) → plain (concept_over w i x) ≡ x → record_at w c ≡ starts_at s (plain (concept_at w c)) → same_as ≡ same_concept (concept_over w i x) (concept_at w c)
  same_as_lem s p r = both_ways same_as (same_concept (concept_over w i x) (concept_at w c))
      (λ a. ap (λ (e : Concept). same_concept e (concept_at w c)) (same_true a) ∙ same_words_refl (concept_row (concept_at w c)))
      (λ a. true_same s p r (same_concept_lem (concept_over w i x) (concept_at w c) a))
