-- Normal form keeps each axiom's kind, so that what the axioms of some kinds say is said alike before and after. Assumes nothing.
use Rattle.std.specs.Prelude.{◌≡◌, refl, Bool, not, ◌&&◌, ◌||◌, List, [], ◌∷◌, map, ℕ, suc, ◌+◌}
use Rattle.std.proofs.Common.{ap₂, arith}
use Rattle.rules.specs.Base.{all, each}
use Rattle.rules.specs.Concept.{Axiom}
use Rattle.rules.specs.Concept.{SubClassOf, EquivalentClasses, DisjointClasses, DisjointUnion, ObjectPropertyDomain, ObjectPropertyRange, SubChain, TransitiveRole, IrreflexiveRole, AsymmetricRole, DisjointObjectProperties, InverseObjectProperties, SubObjectPropertyOf, EquivalentObjectProperties, ReflexiveRole, ClassAssertion}
use Rattle.rules.specs.Normalize.{St, to_nnf, nnf_axiom}
use Rattle.rules.specs.Run.{nnf_axioms}
use Rattle.rules.specs.Post.{Post, give, post_then, post_any}
use Rattle.rules.specs.LinedPost.{LinedPost, finish, lined_post, lined_then_lem}
use Rattle.rules.specs.Statements.{is_inverse_axiom, is_clausified}

-- the two kinds that the halves ask of
pub record SameKind (a b : Axiom) : Type 0 where
  pub inverse : is_inverse_axiom b ≡ is_inverse_axiom a
  pub clausified : is_clausified b ≡ is_clausified a

nnf_kind : (a : Axiom) (s : St) → Post (λ b _. SameKind a b) (nnf_axiom a s)
unfolding nnf_axiom
nnf_kind (SubClassOf sub sup) s = post_then (post_any (to_nnf (suc sub) sub s)) (λ _ t _. post_then (post_any (to_nnf (suc sup) sup t)) (λ _ _ _. give (record { inverse = refl; clausified = refl })))
nnf_kind (EquivalentClasses l) s = post_then (post_any (each (λ c. to_nnf (suc c) c) l s)) (λ _ _ _. give (record { inverse = refl; clausified = refl }))
nnf_kind (DisjointClasses l) s = post_then (post_any (each (λ c. to_nnf (suc c) c) l s)) (λ _ _ _. give (record { inverse = refl; clausified = refl }))
nnf_kind (DisjointUnion a l) s = post_then (post_any (each (λ c. to_nnf (suc c) c) l s)) (λ _ _ _. give (record { inverse = refl; clausified = refl }))
nnf_kind (ObjectPropertyDomain r c) s = post_then (post_any (to_nnf (suc c) c s)) (λ _ _ _. give (record { inverse = refl; clausified = refl }))
nnf_kind (ObjectPropertyRange r c) s = post_then (post_any (to_nnf (suc c) c s)) (λ _ _ _. give (record { inverse = refl; clausified = refl }))
nnf_kind (SubChain sup parts) s = give (record { inverse = refl; clausified = refl })
nnf_kind (TransitiveRole r) s = give (record { inverse = refl; clausified = refl })
nnf_kind (IrreflexiveRole r) s = give (record { inverse = refl; clausified = refl })
nnf_kind (AsymmetricRole r) s = give (record { inverse = refl; clausified = refl })
nnf_kind (DisjointObjectProperties l) s = give (record { inverse = refl; clausified = refl })
nnf_kind (InverseObjectProperties r o) s = give (record { inverse = refl; clausified = refl })
nnf_kind (SubObjectPropertyOf r o) s = give (record { inverse = refl; clausified = refl })
nnf_kind (EquivalentObjectProperties l) s = give (record { inverse = refl; clausified = refl })
nnf_kind (ReflexiveRole r) s = give (record { inverse = refl; clausified = refl })
nnf_kind (ClassAssertion c i) s = post_then (post_any (to_nnf (suc c) c s)) (λ _ _ _. give (record { inverse = refl; clausified = refl }))

-- the kinds of all axioms
pub record SameKinds (l k : List Axiom) : Type 0 where
  pub inverse : map is_inverse_axiom k ≡ map is_inverse_axiom l
  pub clausified : map is_clausified k ≡ map is_clausified l

pub nnf_kinds : (line : ℕ) (l : List Axiom) (s : St) → LinedPost (λ k _. SameKinds l k) (nnf_axioms line l s)
unfolding nnf_axioms
nnf_kinds line [] s = finish (record { inverse = refl; clausified = refl })
nnf_kinds line (a ∷ l) s = lined_then_lem (lined_post line (nnf_kind a s)) (λ b t K. lined_then_lem (nnf_kinds (line + 1) l t) (λ k u L.
    finish (record { inverse = ap₂ {C = List Bool} ◌∷◌ K.inverse L.inverse; clausified = ap₂ {C = List Bool} ◌∷◌ K.clausified L.clausified })))

-- what the axioms of one kind say, where the kinds and what is said are alike
pub some_same : {A : Type 0} (kind says said : A → Bool) (k l : List A) → map kind k ≡ map kind l → map says k ≡ map said l → all (λ a. not (kind a) || says a) k ≡ all (λ a. not (kind a) || said a) l
some_same kind says said [] [] e h = refl
some_same kind says said [] (b ∷ l) e h = let z : ◌≡◌ {A = ℕ} 0 1 = cc in absurd (omega arith)
some_same kind says said (a ∷ k) [] e h = let z : ◌≡◌ {A = ℕ} 0 1 = cc in absurd (omega arith)
some_same kind says said (a ∷ k) (b ∷ l) e h =
    let e₀ : kind a ≡ kind b = cc in
    let e₁ : map kind k ≡ map kind l = cc in
    let h₀ : says a ≡ said b = cc in
    let h₁ : map says k ≡ map said l = cc in
    ap₂ ◌&&◌ (ap₂ (λ x y. not x || y) e₀ h₀) (some_same kind says said k l e₁ h₁)

pub every_same : {A : Type 0} (says said : A → Bool) (k l : List A) → map says k ≡ map said l → all says k ≡ all said l
every_same says said [] [] h = refl
every_same says said [] (b ∷ l) h = let z : ◌≡◌ {A = ℕ} 0 1 = cc in absurd (omega arith)
every_same says said (a ∷ k) [] h = let z : ◌≡◌ {A = ℕ} 0 1 = cc in absurd (omega arith)
every_same says said (a ∷ k) (b ∷ l) h =
    let h₀ : says a ≡ said b = cc in
    let h₁ : map says k ≡ map said l = cc in
    ap₂ ◌&&◌ h₀ (every_same says said k l h₁)
