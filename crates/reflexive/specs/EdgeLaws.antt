-- The rule's edges and sets, one more at the end. Assumes nothing.
use Rattle.std.specs.Prelude.{◌≡◌, Bool, ℕ, ◌+◌, eqb}
use Rattle.std.proofs.Math.Path.{refl, sym, ap}
use Rattle.std.proofs.Common.{◌∙◌, arith, add-one, eq-eqb, ne_eqb}
use Rattle.std.proofs.Math.Bool.{true, false}
use mathlib.Core.List.{List, [], ◌∷◌, ◌++◌, append_assoc, append-nil}
use Rattle.rules.specs.Concept.{Axiom}
use Rattle.rules.specs.State.{Env}
use Rattle.rules.specs.Reflexive.{declared_reflexive, reflexive_from, edge_to, edges_from, edges_among, role_edges, all_edges, round}
use Rattle.pool.specs.Layout.{tab}
use Rattle.pool.specs.Tabs.{tab_snoc}
use Rattle.reflexive.specs.Steps.{edge}

round_append : (k l : List (ℕ × ℕ)) (set : List ℕ) → round (k ++ l) set ≡ round l (round k set)
unfolding round
round_append [] l set = refl
round_append (e ∷ k) l set = round_append k l _

tab_more : {A : Type 0} (f : ℕ → A) (i n : ℕ) → tab f i (n + 1) ≡ tab f i n ++ (f (i + n) ∷ [])
tab_more f i n = rw (add-one n) (tab_snoc f i n)

module _ (env : Env) where
  from_snoc : (a b : ℕ) (l : List ℕ) → edges_from env a (l ++ (b ∷ [])) ≡ edges_from env a l ++ edges_from env a (b ∷ [])
  unfolding edges_from
  from_snoc a b [] = refl
  from_snoc a b (x ∷ l) = by (eqb a x) (from_snoc a b l)
    where
      by : (t : Bool) → edges_from env a (l ++ (b ∷ [])) ≡ edges_from env a l ++ edges_from env a (b ∷ []) → edge_to env a x (edges_from env a (l ++ (b ∷ []))) t ≡ edge_to env a x (edges_from env a l) t ++ edges_from env a (b ∷ [])
      by true h = h
      by false h = ap (λ (k : List (ℕ × ℕ)). (a, x) ∷ k) h

  among_snoc : (k l : List ℕ) (a : ℕ) → edges_among env (k ++ (a ∷ [])) l ≡ edges_among env k l ++ edges_from env a l
  unfolding edges_among
  among_snoc [] l a = append-nil (edges_from env a l)
  among_snoc (x ∷ k) l a = ap (λ (m : List (ℕ × ℕ)). edges_from env x l ++ m) (among_snoc k l a) ∙ sym (append_assoc (edges_from env x l) (edges_among env k l) (edges_from env a l))

  all_snoc : (l : List Axiom) (a : Axiom) → all_edges env (l ++ (a ∷ [])) ≡ all_edges env l ++ role_edges env a
  unfolding all_edges
  all_snoc [] a = append-nil (role_edges env a)
  all_snoc (x ∷ l) a = ap (λ (m : List (ℕ × ℕ)). role_edges env x ++ m) (all_snoc l a) ∙ sym (append_assoc (role_edges env x) (all_edges env l) (role_edges env a))

  declared_snoc : (l : List Axiom) (a : Axiom) (set : List ℕ) → reflexive_from env set (l ++ (a ∷ [])) ≡ declared_reflexive env (reflexive_from env set l) a
  unfolding reflexive_from
  declared_snoc [] a set = refl
  declared_snoc (x ∷ l) a set = declared_snoc l a (declared_reflexive env set x)

  -- ---- one turn more
  module _ (f : ℕ → ℕ) (i j : ℕ) (set : List ℕ) where
    from_more : (a b : ℕ) → b ≡ f (i + j) → round (edges_from env a (b ∷ [])) (round (edges_from env a (tab f i j)) set) ≡ round (edges_from env a (tab f i (j + 1))) set
    from_more a b e =
        let t : tab f i (j + 1) ≡ tab f i j ++ (b ∷ []) = tab_more f i j ∙ ap (λ (x : ℕ). tab f i j ++ (x ∷ [])) (sym e) in
        sym (ap (λ (l : List ℕ). round (edges_from env a l) set) t ∙ ap (λ (l : List (ℕ × ℕ)). round l set) (from_snoc a b (tab f i j)) ∙ round_append (edges_from env a (tab f i j)) (edges_from env a (b ∷ [])) set)

    pub from_next : (a b : ℕ) → b ≡ f (i + j) → (a ≡ b → ⊥) → edge a b env (round (edges_from env a (tab f i j)) set) ≡ round (edges_from env a (tab f i (j + 1))) set
    unfolding edges_from
    from_next a b e d = rw (ne_eqb a b d) at (from_more a b e)

    pub from_same : (a b : ℕ) → b ≡ f (i + j) → a ≡ b → round (edges_from env a (tab f i j)) set ≡ round (edges_from env a (tab f i (j + 1))) set
    unfolding edges_from round
    from_same a b e d = rw (eq-eqb a b d) at (from_more a b e)

    pub among_next : (l : List ℕ) → round (edges_from env (f (i + j)) l) (round (edges_among env (tab f i j) l) set) ≡ round (edges_among env (tab f i (j + 1)) l) set
    among_next l =
        sym (ap (λ (k : List ℕ). round (edges_among env k l) set) (tab_more f i j) ∙ ap (λ (k : List (ℕ × ℕ)). round k set) (among_snoc (tab f i j) l (f (i + j))) ∙ round_append (edges_among env (tab f i j) l) (edges_from env (f (i + j)) l) set)

  module _ (f : ℕ → Axiom) (i : ℕ) where
    first : tab f 0 (i + 1) ≡ tab f 0 i ++ (f i ∷ [])
    first = let e : 0 + i ≡ i = omega arith in tab_more f 0 i ∙ rw e refl

    pub all_next : (set : List ℕ) → round (role_edges env (f i)) (round (all_edges env (tab f 0 i)) set) ≡ round (all_edges env (tab f 0 (i + 1))) set
    all_next set = sym (ap (λ (l : List Axiom). round (all_edges env l) set) first ∙ ap (λ (l : List (ℕ × ℕ)). round l set) (all_snoc (tab f 0 i) (f i)) ∙ round_append (all_edges env (tab f 0 i)) (role_edges env (f i)) set)

    pub declared_next : (set : List ℕ) → declared_reflexive env (reflexive_from env set (tab f 0 i)) (f i) ≡ reflexive_from env set (tab f 0 (i + 1))
    declared_next set = sym (ap (λ (l : List Axiom). reflexive_from env set l) first ∙ declared_snoc (tab f 0 i) (f i) set)
