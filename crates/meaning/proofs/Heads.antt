-- emit_head means what it should: both halves, for one call, by the arms of the rule. A name is its concept in the first half,
-- and inside it in the second. Assumes nothing.
use Rattle.std.specs.Prelude.{◌≡◌, Bool, not, ◌&&◌, ◌||◌, leb, eqb}
use Rattle.std.proofs.Math.Path.{refl, sym, ap}
use Rattle.std.proofs.Common.{ap₂, ◌∙◌, not-suc-le-zero, le_refl, leb-true, le-leb}
use Rattle.std.proofs.Math.Bool.{true, false}
use Rattle.std.proofs.lemmas.Bool.{false≢true}
use mathlib.Core.List.{List, [], ◌∷◌, ◌++◌, append-nil, append_assoc}
use Rattle.std.proofs.Math.Option.{Option, none, some}
use Prim.Native.Nat.{ℕ, zero, suc, ◌+◌, ◌≤◌, ◌<◌}
use native.Mathlib.Omega.{arith}
use Rattle.std.proofs.Math.ListN.{length}
use Rattle.std.proofs.Math.Dec.{leb-zero}
use Rattle.ir.specs.Pick.{pick}
use Rattle.ir.specs.declared.role.Role.{Role}
use Rattle.ir.specs.declared.atom.Atom.{Atom}
use Rattle.ir.specs.declared.atom.Atom.TheVariants.{Class, Exists, AtMost, AtLeast, Role as RoleAtom}
use Rattle.ir.specs.Qualifiers.{Qualifier}
use Rattle.std.specs.Prelude.{None, Some}
use Rattle.ir.specs.declared.deferral.Deferral.TheVariants.{HeadOrDisjunct, HeadNotNonatomic}
use Rattle.rules.specs.Base.{Res, ok, is_some, then, all, any, contains, for_each}
use Rattle.rules.specs.Concept.{Concept}
use Rattle.rules.specs.Concept.{Top, Bot, Atomic, Nominal, SelfRestriction, Not, And, Or, Some, All, Min, Max}
use Rattle.rules.specs.Pool.{Pool, at}
use Rattle.rules.specs.State.{Limit, Env, Out, canon, visit, with_limits, await, fresh_var, fresh_class, with, push, class_id_of, is_dkey}
use Rattle.rules.specs.Heads.{Emits, is_top, is_dkey_qualifier, name_or, atomic_name_of, qualifier_or, cardinality_qualifier, limit_qualifier, name_atom, not_atom, max_atom, min_atom, compound_atom, atom_or, head_atom_for, head_or, heads, push_heads, emit_not, unless_dkey, emit_step, emit_by}
use Rattle.rules.specs.Post.{Post, gives, give, post_then, post_map}
use Rattle.rules.specs.Invariants.{Each, Bounds, Bounded, Wf, QualifierIn}
use Rattle.rules.specs.Semantics.{Interpretation, with_classes, elements, count, implies, related, concept_means, means, qualifies, atom_holds, chosen}
use Rattle.rules.specs.EachLaws.{each_append, each_left, each_right}
use Rattle.meaning.specs.Truth.{both_ways, or_none, and_left, and_right, and_both, not_intro, implies_elim, implies_intro, all_append, any_append, all_elements, elements_all, any_elements, any_same, count_same, count_more}
use Rattle.meaning.proofs.Finite.{means_at}
use Rattle.meaning.specs.Choices.{Choice}
use Rattle.meaning.specs.Valuations.{Valuation, Agree, AtomUnder, each_of_lem, atom_under_more, holds_agree, all_agree}
use Rattle.rules.specs.PoolLaws.{grown_refl}
use Rattle.rules.specs.EqualNames.{Later}
use Rattle.meaning.specs.Tracks.{Track, later_still, later_refl, later_trans, firsts_later, post_said}
use Rattle.meaning.specs.Adds.{VarsUnder, FineAtom, Setting, Alone, means_agree, Adds, stay, adds_map, seq, Pre, Gives, EmitMeans}
use Rattle.meaning.specs.Steps.{Always, body_agree, chosen_at, chosen_below, chosen_choice, vars_under_more, visited, next_variable, next_class, visit_then, with_then, pre_more, pre_visited, adds_moved, adds_visited, fresh_adds, push_for, defer_adds}

-- ---- tests
at_least_more : (n a b : ℕ) → leb n a ≡ true → a ≤ b → leb n b ≡ true
at_least_more n a b h l = le-leb n b (omega (arith, leb-true n a h))

-- an atom h for a disjunct c, behind the others
or_to : (a h c l : Bool) → (c ≡ true → h ≡ true) → a || (c || l) ≡ true → (a || (h || false)) || l ≡ true
or_to true h c l q e = refl
or_to false true c l q e = refl
or_to false false true l q e = absurd (false≢true (q refl))
or_to false false false l q e = e

or_from_lem : (a h c l : Bool) → (h ≡ true → c ≡ true) → (a || (h || false)) || l ≡ true → a || (c || l) ≡ true
or_from_lem true h c l q e = refl
or_from_lem false true c l q e = ap (λ z. z || l) (q refl)
or_from_lem false false true l q e = refl
or_from_lem false false false l q e = e

module _ (I : Interpretation) (B : Bounds) (env : Env) (base : ℕ) (S : Setting I B env base) (pool : Pool) (wf : Wf B pool) where
  -- what the ids mean under a valuation, and what a record does
  abbrev pub m : Valuation → ℕ → ℕ → Bool
  m k = means (with_classes I k) pool

  abbrev pub meant : Concept → Valuation → ℕ → Bool
  meant e k = concept_means (with_classes I k) (m k) e

  pub m_at : (k : Valuation) (c : ℕ) → c < length pool → m k c ≡ meant (at pool c) k
  m_at k c h = means_at (with_classes I k) B pool wf c h

  pub m_agree : {n : ℕ} {k l : Valuation} → base ≤ n → Agree n k l → m k ≡ m l
  m_agree h a = means_agree I B env base S h a pool wf

  -- wherever the body holds, g holds of the variable
  abbrev pub Wherever : (Valuation → ℕ → Bool) → List Atom → ℕ → Valuation → Type 0
  Wherever g b v k = (f : ℕ → ℕ) → Choice I f → all (atom_holds (with_classes I k) f) b ≡ true → g k (f v) ≡ true

  pub wherever_agree : {n : ℕ} {k l : Valuation} (g : Valuation → ℕ → Bool) (b : List Atom) (v : ℕ) → Each (AtomUnder n) b → g k ≡ g l → Agree n k l → Wherever g b v k → Wherever g b v l
  wherever_agree g b v u q a h f o e = ap (λ z. z (f v)) (sym q) ∙ h f o (all_agree I a f b u ∙ e)

  -- both halves of one call for concept c
  abbrev pub Headed : List Atom → ℕ → ℕ → Out → Unit {0} → Out → Type 0
  Headed b c v s _ t = Adds I B env base S pool wf s (Gives I B env base S pool wf b c v) Always (Gives I B env base S pool wf b c v) t

  -- what a name or a head atom is asked for with: no body
  abbrev pub Ready : Out → Type 0
  Ready s = Pre I B env base S pool wf s [] 0

  ready : {s : Out} {b : List Atom} {v : ℕ} → Pre I B env base S pool wf s b v → Ready s
  ready P = record { above = P.above; root = P.root; var = P.root; under = tt; vars = tt }

  -- ---- names and qualifiers: the qualifier is the concept c; or it is inside c, and is c where it names no class from base on
  abbrev pub Same : ℕ → Qualifier → Valuation → Type 0
  Same c q k = (x : ℕ) → x < I.size → qualifies (with_classes I k) q x ≡ m k c x

  abbrev pub Part : ℕ → Qualifier → Valuation → Type 0
  Part c q k = ((x : ℕ) → x < I.size → qualifies (with_classes I k) q x ≡ true → m k c x ≡ true) × (QualifierIn base q → Same c q k)

  -- under at-most: also the concept, where it names no class from base on or option 4 is on
  abbrev pub LimitPart : ℕ → Qualifier → Valuation → Type 0
  LimitPart c q k = (env.equal_names ≡ false → QualifierIn base q) → Same c q k

  pub record LimitName (c : ℕ) (s : Out) (q : Qualifier) (t : Out) : Type 0 where
    pub under : QualifierIn t.next_fresh q
    pub adds : Adds I B env base S pool wf s Always (Same c q) (LimitPart c q) t

  pub record Name (c : ℕ) (s : Out) (q : Qualifier) (t : Out) : Type 0 where
    pub under : QualifierIn t.next_fresh q
    pub adds : Adds I B env base S pool wf s Always (Same c q) (Part c q) t

  name_visited : (c : ℕ) (s : Out) (q : Qualifier) (t : Out) → Name c (visited s) q t → Name c s q t
  name_visited c s q t A = record { under = A.under; adds = adds_visited I B env base S pool wf s A.adds }

  -- ---- head atoms: the concept gives one of the atoms; one of them, if they are fine, gives the concept
  abbrev pub ToAtoms : ℕ → ℕ → List Atom → Valuation → Type 0
  ToAtoms c v hs k = (f : ℕ → ℕ) → Choice I f → m k c (f v) ≡ true → any (atom_holds (with_classes I k) f) hs ≡ true

  -- the atoms are fine, where option 4 is off
  abbrev pub Fines : List Atom → Type 0
  Fines hs = env.equal_names ≡ false → Each (FineAtom base) hs

  abbrev pub FromAtoms : ℕ → ℕ → List Atom → Valuation → Type 0
  FromAtoms c v hs k = Fines hs → (f : ℕ → ℕ) → Choice I f → any (atom_holds (with_classes I k) f) hs ≡ true → m k c (f v) ≡ true

  abbrev pub ToAtom : ℕ → ℕ → Atom → Valuation → Type 0
  ToAtom c v a k = (f : ℕ → ℕ) → Choice I f → m k c (f v) ≡ true → atom_holds (with_classes I k) f a ≡ true

  abbrev pub FromAtom : ℕ → ℕ → Atom → Valuation → Type 0
  FromAtom c v a k = (env.equal_names ≡ false → FineAtom base a) → (f : ℕ → ℕ) → Choice I f → atom_holds (with_classes I k) f a ≡ true → m k c (f v) ≡ true

  pub record Head (c v : ℕ) (s : Out) (a : Atom) (t : Out) : Type 0 where
    pub under : AtomUnder t.next_fresh a
    pub adds : Adds I B env base S pool wf s Always (ToAtom c v a) (FromAtom c v a) t

  -- of an answer that may be none
  abbrev pub HeadFor : ℕ → ℕ → Out → Option Atom → Out → Type 0
  HeadFor c v s none t = Adds I B env base S pool wf s Always Always Always t
  HeadFor c v s (some a) t = Head c v s a t

  head_visited : (c v : ℕ) (s : Out) (o : Option Atom) (t : Out) → HeadFor c v (visited s) o t → HeadFor c v s o t
  head_visited c v s none t A = adds_visited I B env base S pool wf s A
  head_visited c v s (some a) t A = record { under = A.under; adds = adds_visited I B env base S pool wf s A.adds }

  nothing : (c v : ℕ) (s : Out) → Post (λ o t. HeadFor c v s o t) (ok none s)
  nothing c v s = give (stay I B env base S pool wf s (λ _ _ _. tt) (λ _ _. tt))

  -- an atom that means the concept as it stands
  pub head_same : (c v : ℕ) (a : Atom) (s : Out) → AtomUnder s.next_fresh a
      → ((k : Valuation) → Alone I B env k → (f : ℕ → ℕ) → Choice I f → atom_holds (with_classes I k) f a ≡ m k c (f v)) → Head c v s a s
  head_same c v a s u e = record { under = u; adds = stay I B env base S pool wf s (λ k w _ f o t. e k w f o ∙ t) (λ k w _ f o t. sym (e k w f o) ∙ t) }

  -- a clause whose head is these atoms
  pub push_heads_lem : (b : List Atom) (c v : ℕ) (hs : List Atom) (s s₁ : Out) → Pre I B env base S pool wf s b v → Each (AtomUnder s₁.next_fresh) hs
      → Adds I B env base S pool wf s Always (ToAtoms c v hs) (FromAtoms c v hs) s₁ → Post (Headed b c v s) (push env b hs s₁)
  push_heads_lem b c v hs s s₁ P u A =
      post_map (push_for I B env base S pool wf {H = λ k. Wherever (λ k. m k c) b v k × ToAtoms c v hs k} {C = λ k. FromAtoms c v hs k → Wherever (λ k. m k c) b v k}
      b hs s₁ (each_of_lem (atom_under_more A.fresh) b P.under) u
      (λ k _ h. record { follows = λ f o e. h.1 f o (h.0 f o e) })
      (λ k _ w fine back f o e. back fine f o (w.follows f o e)))
      (λ _ t D. seq I B env base S pool wf P.above A D
      (λ k _. tt)
      (λ k l h a _ g. (wherever_agree (λ k. m k c) b v P.under (ap (λ z. z c) (m_agree P.above a)) a h, g))
      (λ k l a _ _. tt)
      (λ k _ back h. h back))

  pub push_head_lem : (b : List Atom) (c v : ℕ) (a : Atom) (s s₁ : Out) → Pre I B env base S pool wf s b v → Head c v s a s₁ → Post (Headed b c v s) (push env b (a ∷ []) s₁)
  push_head_lem b c v a s s₁ P A = push_heads_lem b c v (a ∷ []) s s₁ P (A.under, tt)
      (adds_map I B env base S pool wf
      (λ k h. h)
      (λ k g f o e. or_none (atom_holds (with_classes I k) f a) ∙ g f o e)
      (λ k g fine f o e. g (λ z. (fine z).0) f o (sym (or_none (atom_holds (with_classes I k) f a)) ∙ e)) A.adds)

  -- ---- the class of a record, if it is one
  abbrev pub ClassIs : Concept → Option ℕ → Type 0
  ClassIs e none = Unit {0}
  ClassIs e (some a) = (a < base) × ((k : Valuation) → Alone I B env k → (x : ℕ) → x < I.size → k a x ≡ meant e k x)

  class_is : (n : ℕ) (e : Concept) → Bounded B n e → ClassIs e (class_id_of env e)
  class_is n Top d = tt
  class_is n Bot d = tt
  class_is n (Atomic a) d = (omega (arith, S.classes), λ k _ x _. refl)
  class_is n (Nominal i) d = (S.individuals i d, λ k w x l. w.alone i x d l)
  class_is n (SelfRestriction _) d = tt
  class_is n (Not _) d = tt
  class_is n (And _) d = tt
  class_is n (Or _) d = tt
  class_is n (Some _ _) d = tt
  class_is n (All _ _) d = tt
  class_is n (Min _ _ _) d = tt
  class_is n (Max _ _ _) d = tt

  pub class_of : (c : ℕ) → c < length pool → ClassIs (at pool c) (class_id_of env (at pool c))
  class_of c h = class_is c (at pool c) (wf c h)

  -- ---- a fresh class for c, named by the clauses that a run adds
  named : (c : ℕ) (s : Out) (r : Res Out (Unit {0})) → Ready s → Post (Headed (Class s.next_fresh 0 ∷ []) c 0 (next_class s)) r → Post (λ _ t. Name c s (Some s.next_fresh) t) r
  named c s r R p = post_map p (λ _ t A. record {
    under = omega (arith, A.fresh);
    adds = seq I B env base S pool wf R.above (fresh_adds I B env base S pool wf (λ k. m k c) s (λ k l a. ap (λ z. z c) (m_agree R.above a))) A
        (λ k _. tt)
        (λ k l _ a _ g f o e. sym (g (f 0) (o 0)) ∙ and_left (l s.next_fresh (f 0)) true e)
        (λ k l a g _ x h. ap (λ z. z x) (sym (a.same s.next_fresh (omega arith))) ∙ g x h ∙ ap (λ z. z c x) (m_agree (omega (arith, R.above)) a))
        (λ k _ _ w. (λ x h e. w (λ _. x) (λ _. h) (and_both e refl), λ q. absurd (omega (arith, R.above))));
  })

  first : (s : Out) → Ready s → Pre I B env base S pool wf (next_class s) (Class s.next_fresh 0 ∷ []) 0
  first s R = record { above = omega (arith, R.above); root = R.root; var = R.root; under = (omega arith, tt); vars = (R.root, tt) }

  -- ---- a clause that denies an atom a, which means d
  pub deny_adds : (b : List Atom) (c d v : ℕ) (a : Atom) (s : Out) → Pre I B env base S pool wf s b v → AtomUnder s.next_fresh a → ((k : Valuation) → m k c ≡ meant (Not d) k)
      → ((k : Valuation) → Alone I B env k → (f : ℕ → ℕ) → Choice I f → atom_holds (with_classes I k) f a ≡ m k d (f v))
      → Post (Headed b c v s) (push env (b ++ (a ∷ [])) [] s)
  deny_adds b c d v a s P u p e = push_for I B env base S pool wf (b ++ (a ∷ [])) [] s (each_append (AtomUnder s.next_fresh) b (a ∷ []) P.under (u, tt)) tt
      (λ k w h. record {
        follows = λ f o t.
            let t' : all (atom_holds (with_classes I k) f) b && (atom_holds (with_classes I k) f a && true) ≡ true = sym (all_append (atom_holds (with_classes I k) f) b (a ∷ [])) ∙ t in
            let body = and_left (all (atom_holds (with_classes I k) f) b) (atom_holds (with_classes I k) f a && true) t' in
            let atom = and_left (atom_holds (with_classes I k) f a) true (and_right (all (atom_holds (with_classes I k) f) b) (atom_holds (with_classes I k) f a && true) t') in
            ap not (sym atom ∙ e k w f o) ∙ ap (λ z. z (f v)) (sym (p k)) ∙ h f o body;
      })
      (λ k w h _ f o t. ap (λ z. z (f v)) (p k) ∙ not_intro (m k d (f v)) (λ y. h.follows f o (all_append (atom_holds (with_classes I k) f) b (a ∷ []) ∙ and_both t (and_both (e k w f o ∙ y) refl))))

  -- ---- Exists, AtLeast and AtMost over a qualifier of d
  module _ (r : Role) (d : ℕ) (q : Qualifier) (k : Valuation) (x : ℕ) (l : x < I.size) where
    abbrev atom_pair : ℕ → Bool
    atom_pair y = related I (canon env r) x y && qualifies (with_classes I k) q y

    abbrev concept_pair : ℕ → Bool
    concept_pair y = related I r x y && m k d y

    pair_same : Same d q k → (y : ℕ) → y < I.size → atom_pair y ≡ concept_pair y
    pair_same g y h = ap₂ ◌&&◌ (S.keeps r x y l h) (g y h)

    pair_part : Part d q k → (y : ℕ) → y < I.size → atom_pair y ≡ true → concept_pair y ≡ true
    pair_part g y h e = and_both
        (sym (S.keeps r x y l h) ∙ and_left (related I (canon env r) x y) (qualifies (with_classes I k) q y) e)
        (g.0 y h (and_right (related I (canon env r) x y) (qualifies (with_classes I k) q y) e))

    some_same : Same d q k → any atom_pair (elements I) ≡ any concept_pair (elements I)
    some_same g = any_same I.size atom_pair concept_pair (pair_same g)

    some_part : Part d q k → any atom_pair (elements I) ≡ true → any concept_pair (elements I) ≡ true
    some_part g = any_elements I.size atom_pair concept_pair (pair_part g)

    number_same : Same d q k → count atom_pair (elements I) ≡ count concept_pair (elements I)
    number_same g = count_same I.size atom_pair concept_pair (pair_same g)

    number_part : Part d q k → count atom_pair (elements I) ≤ count concept_pair (elements I)
    number_part g = count_more I.size atom_pair concept_pair (pair_part g)

    least_part : (n : ℕ) → Part d q k → leb n (count atom_pair (elements I)) ≡ true → leb n (count concept_pair (elements I)) ≡ true
    least_part n g e = at_least_more n (count atom_pair (elements I)) (count concept_pair (elements I)) e (number_part g)

  module _ (c v : ℕ) (s t : Out) where
    name_head : (q : ℕ) → Name c s (Some q) t → Head c v s (Class q v) t
    name_head q A = record { under = A.under; adds = adds_map I B env base S pool wf (λ k h. h) (λ k g f o e. g (f v) (o v) ∙ e) (λ k g _ f o e. g.0 (f v) (o v) e) A.adds }

    some_head : (r : Role) (d q : ℕ) → ((k : Valuation) → m k c ≡ meant (Some r d) k) → Name d s (Some q) t → Head c v s (Exists (canon env r) q v) t
    some_head r d q p A = record {
      under = A.under;
      adds = adds_map I B env base S pool wf
          (λ k h. h)
          (λ k g f o e. some_same r d (Some q) k (f v) (o v) g ∙ ap (λ z. z (f v)) (sym (p k)) ∙ e)
          (λ k g _ f o e. ap (λ z. z (f v)) (p k) ∙ some_part r d (Some q) k (f v) (o v) g e) A.adds;
    }

    min_head : (n : ℕ) (r : Role) (d : ℕ) (q : Qualifier) → ((k : Valuation) → m k c ≡ meant (Min n r d) k) → Name d s q t → Head c v s (AtLeast (canon env r) q n v) t
    min_head n r d q p A = record {
      under = A.under;
      adds = adds_map I B env base S pool wf
          (λ k h. h)
          (λ k g f o e. ap (leb n) (number_same r d q k (f v) (o v) g) ∙ ap (λ z. z (f v)) (sym (p k)) ∙ e)
          (λ k g _ f o e. ap (λ z. z (f v)) (p k) ∙ least_part r d q k (f v) (o v) n g e) A.adds;
    }

    max_head : (n : ℕ) (r : Role) (d : ℕ) (q : Qualifier) → ((k : Valuation) → m k c ≡ meant (Max n r d) k) → LimitName d s q t → Head c v s (AtMost (canon env r) q n v) t
    max_head n r d q p A = record {
      under = A.under;
      adds = adds_map I B env base S pool wf
          (λ k h. h)
          (λ k g f o e. ap (λ z. leb z n) (number_same r d q k (f v) (o v) g) ∙ ap (λ z. z (f v)) (sym (p k)) ∙ e)
          (λ k g fine f o e. ap (λ z. z (f v)) (p k) ∙ ap (λ z. leb z n) (sym (number_same r d q k (f v) (o v) (g fine))) ∙ e) A.adds;
    }

  -- a negated atom at X, named
  not_named : (c d v : ℕ) (a : Atom) (s : Out) → Ready s → ((k : Valuation) → m k c ≡ meant (Not d) k) → AtomUnder s.next_fresh a
      → ((k : Valuation) → Alone I B env k → (f : ℕ → ℕ) → Choice I f → atom_holds (with_classes I k) f a ≡ m k d (f 0))
      → Post (λ o t. HeadFor c v s o t) (then (push env (Class s.next_fresh 0 ∷ a ∷ []) [] (next_class s)) (λ _ t. ok (some (Class s.next_fresh v)) t))
  not_named c d v a s R p u e =
      post_then (named c s (push env (Class s.next_fresh 0 ∷ a ∷ []) [] (next_class s)) R
      (deny_adds (Class s.next_fresh 0 ∷ []) c d 0 a (next_class s) (first s R) (atom_under_more (omega arith) a u) p e))
      (λ _ t A. give (name_head c v s t s.next_fresh A))

  -- ---- only Top is unqualified, and without data keys nothing is dropped
  top_is : (k : Valuation) (x : ℕ) (e : Concept) → is_top e ≡ true → meant e k x ≡ true
  top_is k x Top h = refl
  top_is k x Bot h = h
  top_is k x (Atomic _) h = absurd (false≢true h)
  top_is k x (Nominal _) h = absurd (false≢true h)
  top_is k x (SelfRestriction _) h = absurd (false≢true h)
  top_is k x (Not _) h = absurd (false≢true h)
  top_is k x (And _) h = absurd (false≢true h)
  top_is k x (Or _) h = absurd (false≢true h)
  top_is k x (Some _ _) h = absurd (false≢true h)
  top_is k x (All _ _) h = absurd (false≢true h)
  top_is k x (Min _ _ _) h = absurd (false≢true h)
  top_is k x (Max _ _ _) h = absurd (false≢true h)

  not_dkey : (q : Qualifier) → env.dkey_classes ≡ [] → is_dkey_qualifier env q ≡ false
  not_dkey None e = refl
  not_dkey (Some c) e = ap (λ l. contains l c) e

  -- ---- lists of parts
  abbrev pub all_of : List ℕ → Valuation → ℕ → Bool
  all_of l k x = all (λ c. m k c x) l

  abbrev pub any_of : List ℕ → Valuation → ℕ → Bool
  any_of l k x = any (λ c. m k c x) l

  -- the disjuncts l after the atoms hs
  abbrev pub ToHeads : List ℕ → ℕ → List Atom → List Atom → Valuation → Type 0
  ToHeads l v hs more k = (f : ℕ → ℕ) → Choice I f → any (atom_holds (with_classes I k) f) hs || any_of l k (f v) ≡ true → any (atom_holds (with_classes I k) f) more ≡ true

  abbrev pub FromHeads : List ℕ → ℕ → List Atom → List Atom → Valuation → Type 0
  FromHeads l v hs more k = Fines more → (f : ℕ → ℕ) → Choice I f → any (atom_holds (with_classes I k) f) more ≡ true → any (atom_holds (with_classes I k) f) hs || any_of l k (f v) ≡ true

  abbrev pub HeadsFor : List ℕ → ℕ → List Atom → Out → Option (List Atom) → Out → Type 0
  HeadsFor l v hs s none t = Adds I B env base S pool wf s Always Always Always t
  HeadsFor l v hs s (some more) t = Each (AtomUnder t.next_fresh) more × (Fines more → Fines hs) × Adds I B env base S pool wf s Always (ToHeads l v hs more) (FromHeads l v hs more) t

  heads_after : (c : ℕ) (l : List ℕ) (v : ℕ) (hs : List Atom) (x : Atom) (s s₁ : Out) → base ≤ s.next_fresh → Head c v s x s₁ → (o : Option (List Atom)) (t : Out)
      → HeadsFor l v (hs ++ (x ∷ [])) s₁ o t → HeadsFor (c ∷ l) v hs s o t
  heads_after c l v hs x s s₁ b A none t D = seq I B env base S pool wf b A.adds D (λ k _. tt) (λ k k' _ a _ _. tt) (λ k k' a _ g. g) (λ k _ _ w. w)
  heads_after c l v hs x s s₁ b A (some more) t D = (
    D.0,
    λ fine z. each_left (FineAtom base) hs (x ∷ []) (D.1 fine z),
    seq I B env base S pool wf b A.adds D.2
        (λ k _. tt)
        (λ k k' _ a _ _. tt)
        (λ k k' a g h f o e. h f o (ap (λ z. z || any_of l k' (f v)) (any_append (atom_holds (with_classes I k') f) hs (x ∷ []))
        ∙ or_to (any (atom_holds (with_classes I k') f) hs) (atom_holds (with_classes I k') f x) (m k' c (f v)) (any_of l k' (f v))
        (λ w. sym (holds_agree I a f x A.under) ∙ g f o (ap (λ z. z c (f v)) (m_agree (omega (arith, A.adds.fresh)) a) ∙ w)) e))
        (λ k _ g h fine f o e. or_from_lem (any (atom_holds (with_classes I k) f) hs) (atom_holds (with_classes I k) f x) (m k c (f v)) (any_of l k (f v))
        (λ w. g (λ z. (each_right (FineAtom base) hs (x ∷ []) (D.1 fine z)).0) f o w)
        (ap (λ z. z || any_of l k (f v)) (sym (any_append (atom_holds (with_classes I k) f) hs (x ∷ []))) ∙ h fine f o e)),
  )

  -- ---- All, and its part at a new variable
  all_to : (b : List Atom) (v : ℕ) (r : Role) (d y : ℕ) (k : Valuation) → Wherever (meant (All r d)) b v k → Wherever (λ k. m k d) (b ++ (RoleAtom (canon env r) v y ∷ [])) y k
  all_to b v r d y k h f o e =
      let e' : all (atom_holds (with_classes I k) f) b && (related I (canon env r) (f v) (f y) && true) ≡ true = sym (all_append (atom_holds (with_classes I k) f) b (RoleAtom (canon env r) v y ∷ [])) ∙ e in
      let body = and_left (all (atom_holds (with_classes I k) f) b) (related I (canon env r) (f v) (f y) && true) e' in
      let role = and_left (related I (canon env r) (f v) (f y)) true (and_right (all (atom_holds (with_classes I k) f) b) (related I (canon env r) (f v) (f y) && true) e') in
      implies_elim (related I r (f v) (f y)) (m k d (f y)) (elements_all I.size (λ z. implies (related I r (f v) z) (m k d z)) (h f o body) (f y) (o y)) (sym (S.keeps r (f v) (f y) (o v) (o y)) ∙ role)

  all_from : (b : List Atom) (v : ℕ) (r : Role) (d : ℕ) (s : Out) → Pre I B env base S pool wf s b v → (k : Valuation)
      → Wherever (λ k. m k d) (b ++ (RoleAtom (canon env r) v s.next_var ∷ [])) s.next_var k → Wherever (meant (All r d)) b v k
  all_from b v r d s P k h f o e = all_elements I.size (λ z. implies (related I r (f v) z) (m k d z)) (λ z l. implies_intro (related I r (f v) z) (m k d z) (λ q.
      let y = s.next_var in
      let g = chosen f y z in
      let here : g y ≡ z = chosen_at f y z in
      let there : f v ≡ g v = chosen_below f y z v P.var in
      let body : all (atom_holds (with_classes I k) g) b ≡ true = sym (body_agree (with_classes I k) y f g (chosen_below f y z) b P.vars) ∙ e in
      let role : related I (canon env r) (g v) (g y) ≡ true = ap₂ (related I (canon env r)) (sym there) here ∙ S.keeps r (f v) z (o v) l ∙ q in
      ap (m k d) (sym here) ∙ h g (chosen_choice I f y z o l) (all_append (atom_holds (with_classes I k) g) b (RoleAtom (canon env r) v y ∷ []) ∙ and_both body (and_both role refl))))

  -- what a call of emit_head on a smaller id is held to
  abbrev pub Works : Emits → ℕ → Type 0
  Works emit n = (b : List Atom) (c v : ℕ) (s : Out) → c < n → Pre I B env base S pool wf s b v → Post (Headed b c v s) (emit b c v s)

  -- ---- the arms, for a concept whose parts are below n
  module _ (most n : ℕ) (enough : n ≤ most) (held : n ≤ length pool) (works : Works (λ b d u. emit_by env pool most b d u) n) where
    abbrev emit : Emits
    emit b d u = emit_by env pool most b d u

    m_below : (k : Valuation) (c : ℕ) → c < n → m k c ≡ meant (at pool c) k
    m_below k c h = m_at k c (omega arith)

    class_below_lem : (c : ℕ) → c < n → ClassIs (at pool c) (class_id_of env (at pool c))
    class_below_lem c h = class_of c (omega arith)

    -- ---- atomic_name_of
    name_or_lem : (c : ℕ) (s : Out) → c < n → Ready s → (o : Option ℕ) → ClassIs (at pool c) o → Post (λ q t. Name c s (Some q) t) (name_or env pool emit c o s)
    unfolding name_or fresh_class
    name_or_lem c s h R (some a) is =
        give (record { under = omega (arith, is.0, R.above); adds = stay I B env base S pool wf s (λ k w _. know k w) (λ k w. (λ x l e. sym (know k w x l) ∙ e, λ _. know k w)) })
      where
        know : (k : Valuation) → Alone I B env k → Same c (Some a) k
        know k w x l = is.1 k w x l ∙ ap (λ z. z x) (sym (m_below k c h))
    name_or_lem c s h R none is =
        post_then (named c s (emit (Class s.next_fresh 0 ∷ []) c 0 (next_class s)) R (works (Class s.next_fresh 0 ∷ []) c 0 (next_class s) h (first s R))) (λ _ t A. give A)

    pub name_adds : (c : ℕ) (s : Out) → c < n → Ready s → Post (λ q t. Name c s (Some q) t) (atomic_name_of env pool emit c s)
    unfolding atomic_name_of
    name_adds c s h R = visit_then s (name_or env pool emit c (class_id_of env (at pool c)))
        (post_map (name_or_lem c (visited s) h (pre_visited I B env base S pool wf s [] 0 R) (class_id_of env (at pool c)) (class_below_lem c h)) (λ q t A. name_visited c s (Some q) t A))

    -- ---- cardinality_qualifier
    qualifier_or_lem : (c : ℕ) (s : Out) → c < n → Ready s → (t : Bool) → (t ≡ true → (k : Valuation) (x : ℕ) → m k c x ≡ true) → Post (λ q t. Name c s q t) (qualifier_or env pool emit c t s)
    unfolding qualifier_or
    qualifier_or_lem c s h R true top = give (record { under = tt; adds = stay I B env base S pool wf s (λ k _ _ x _. sym (top refl k x)) (λ k _. (λ x _ _. top refl k x, λ _ x _. sym (top refl k x))) })
    qualifier_or_lem c s h R false top = post_then (name_adds c s h R) (λ q t A. give A)

    pub qualifier_adds : (c : ℕ) (s : Out) → c < n → Ready s → Post (λ q t. Name c s q t) (cardinality_qualifier env pool emit c s)
    unfolding cardinality_qualifier
    qualifier_adds c s h R = qualifier_or_lem c s h R (is_top (at pool c)) (λ t k x. ap (λ z. z x) (m_below k c h) ∙ top_is k x (at pool c) t)

    -- ---- the filler of a limit
    -- nothing waits
    limit_plain : (c : ℕ) (s : Out) (q : Qualifier) (t : Out) → (env.equal_names ≡ true → QualifierIn base q) → Name c (with_limits s.limits s) q t → LimitName c s q t
    limit_plain c s q t kind A = record {
      under = A.under;
      adds = record {
        new = A.adds.new;
        grown = A.adds.grown;
        fresh = A.adds.fresh;
        var = A.adds.var;
        defers = A.adds.defers;
        under = A.adds.under;
        waiting = A.adds.waiting;
        waits = A.adds.waits;
        named = A.adds.named;
        held = A.adds.held;
        gets = A.adds.gets;
        says = λ k m f w n e d fine. (A.adds.says k m f w n e d).1 (by env.equal_names refl fine);
        track = A.adds.track;
      };
    }
      where
        by : (b : Bool) → env.equal_names ≡ b → (env.equal_names ≡ false → QualifierIn base q) → QualifierIn base q
        by true e fine = kind e
        by false e fine = fine e

    abbrev waits_for : ℕ → Out → Limit
    waits_for c s = record { filler = c; name = s.next_fresh }

    abbrev queueing : ℕ → Out → Out
    queueing c s = with_limits (s.limits ++ (waits_for c s ∷ [])) s

    -- the clauses of the name, and what they queued behind it
    limit_track : (c : ℕ) (s t : Out) {ws : List Limit} → c < n → Ready s → s.next_fresh < t.next_fresh
        → emit (Class s.next_fresh 0 ∷ []) c 0 (next_class (visited (queueing c s))) ≡ ok tt t → Track env pool (queueing c s) t ws → Track env pool s t (waits_for c s ∷ ws)
    limit_track c s t {ws} h R fresh called K =
        let queues : Later s (queueing c s) = record {
          made = [];
          clauses = sym (append-nil s.clauses);
          deferred = [];
          deferrals = sym (append-nil s.deferrals);
          queued = waits_for c s ∷ [];
          limits = refl;
          fresh = le_refl s.next_fresh;
        } in
        record {
          later = later_trans queues K.later;
          queued = ap (λ z. waits_for c s ∷ z) K.queued;
          line = K.line;
          lines = K.lines;
          firsts = (
            record {
              pool = pool;
              from = next_class (visited (queueing c s));
              to = t;
              bound = most;
              call = called;
              before = later_trans queues (later_still (record { clauses = refl; deferrals = refl; limits = refl; line = refl; fresh = omega arith }));
              between = record {
                made = K.later.made;
                clauses = K.later.clauses;
                deferred = K.later.deferred;
                deferrals = K.later.deferrals;
                queued = K.later.queued;
                limits = K.later.limits;
                fresh = omega arith;
              };
              after = later_refl t;
              grown = grown_refl pool;
              held = omega arith;
              enough = omega arith;
              last = (s.limits, refl);
              taken = omega arith;
              variable = R.root;
            },
            record { others = []; split = sym K.queued ∙ sym (append-nil K.later.queued) },
            firsts_later env pool pool (queueing c s) s t t (grown_refl pool) queues (later_refl t) ws K.firsts,
          );
        }

    -- the inclusion of the filler in its name waits
    limit_waits : (c : ℕ) (s : Out) (t : Out) → c < n → Ready s → Name c (queueing c s) (Some s.next_fresh) t
        → emit (Class s.next_fresh 0 ∷ []) c 0 (next_class (visited (queueing c s))) ≡ ok tt t → LimitName c s (Some s.next_fresh) t
    limit_waits c s t h R A called = record {
      under = A.under;
      adds = record {
        new = A.adds.new;
        grown = A.adds.grown;
        fresh = A.adds.fresh;
        var = A.adds.var;
        defers = A.adds.defers;
        under = A.adds.under;
        waiting = waits_for c s ∷ A.adds.waiting;
        waits = A.adds.waits ∙ append_assoc s.limits (waits_for c s ∷ []) A.adds.waiting;
        named = (A.under, A.adds.named);
        held = (omega arith, A.adds.held);
        gets = λ k m u. let r = A.adds.gets k m u in (r.0, r.1, r.2, ((λ x l e. r.4 x l ∙ e), r.3), r.4);
        says = λ k m f w v e d fine x l. both_ways (k s.next_fresh x) (m_of k c x) (λ z. (A.adds.says k m f w.1 v e d).0 x l z) (λ z. w.0 x l z);
        track = limit_track c s t h R A.under called A.adds.track;
      };
    }
      where
        m_of : Valuation → ℕ → ℕ → Bool
        m_of k c x = means (with_classes I k) pool c x

    -- a class that is no fresh one, or the next fresh one
    new_name : (c : ℕ) (s : Out) → c < n → Ready s → Post (λ q t. Name c s (Some q) t × (q ≡ s.next_fresh) × (emit (Class s.next_fresh 0 ∷ []) c 0 (next_class s) ≡ ok tt t)) (name_or env pool emit c none s)
    unfolding name_or fresh_class
    new_name c s h R =
        post_then (post_said (named c s (emit (Class s.next_fresh 0 ∷ []) c 0 (next_class s)) R (works (Class s.next_fresh 0 ∷ []) c 0 (next_class s) h (first s R)))) (λ _ t A. give (A.0, refl, A.1))

    old_name : (c : ℕ) (s : Out) → c < n → Ready s → (a : ℕ) → ClassIs (at pool c) (some a) → Post (λ q t. Name c s (Some q) t × (q < base)) (name_or env pool emit c (some a) s)
    unfolding name_or
    old_name c s h R a is = go (name_or_lem c s h R (some a) is)
      where
        go : Post (λ q t. Name c s (Some q) t) (ok a s) → Post (λ q t. Name c s (Some q) t × (q < base)) (ok a s)
        go (gives A) = give (A, is.0)

    abbrev Some-by : ℕ → Option ℕ → Out → Res Out Qualifier
    Some-by c o u = then (then (visit u) (λ _. name_or env pool emit c o)) (λ q t. ok (Some q) t)

    old_at : (c : ℕ) (u : Out) → c < n → Ready u → (a : ℕ) → ClassIs (at pool c) (some a) → Post (λ q t. Name c u q t × QualifierIn base q) (Some-by c (some a) u)
    old_at c u h R a is = post_then {P = λ q t. Name c u (Some q) t × (q < base)}
        (visit_then u (name_or env pool emit c (some a)) (post_map (old_name c (visited u) h (pre_visited I B env base S pool wf u [] 0 R) a is) (λ q t A. (name_visited c u (Some q) t A.0, A.1)))) (λ q t A. give A)

    new_at : (c : ℕ) (u : Out) → c < n → Ready u
        → Post (λ q t. Name c u q t × (q ≡ Some u.next_fresh) × (emit (Class u.next_fresh 0 ∷ []) c 0 (next_class (visited u)) ≡ ok tt t)) (Some-by c none u)
    new_at c u h R = post_then {P = λ q t. Name c u (Some q) t × (q ≡ u.next_fresh) × (emit (Class u.next_fresh 0 ∷ []) c 0 (next_class (visited u)) ≡ ok tt t)}
        (visit_then u (name_or env pool emit c none) (post_map (new_name c (visited u) h (pre_visited I B env base S pool wf u [] 0 R)) (λ q t A. (name_visited c u (Some q) t A.0, A.1, A.2))))
        (λ q t A. give (A.0, ap Some A.1, A.2))

    top_at : (c : ℕ) (u : Out) → ((k : Valuation) (x : ℕ) → m k c x ≡ true) → Name c u None u
    top_at c u top = record { under = tt; adds = stay I B env base S pool wf u (λ k _ _ x _. sym (top k x)) (λ k _. (λ x _ _. top k x, λ _ x _. sym (top k x))) }

    relimited : (s : Out) (ws : List Limit) → Ready s → Ready (with_limits ws s)
    relimited s ws R = record { above = R.above; root = R.root; var = R.var; under = tt; vars = tt }

    limit_or : (c : ℕ) (s : Out) → c < n → Ready s → (t : Bool) → (t ≡ true → (k : Valuation) (x : ℕ) → m k c x ≡ true) → (o : Option ℕ) → ClassIs (at pool c) o → class_id_of env (at pool c) ≡ o
        → Post (λ q t. LimitName c s q t) (then (await env c (not t && not (is_some o)) s) (λ _. qualifier_or env pool emit c t))
    unfolding await qualifier_or atomic_name_of
    limit_or c s h R true top o is e = go env.equal_names
      where
        go : (b : Bool) → Post (λ q t. LimitName c s q t) (ok None (with_limits (pick (b && false) (s.limits ++ (waits_for c s ∷ [])) s.limits) s))
        go true = give (limit_plain c s None (with_limits s.limits s) (λ _. tt) (top_at c (with_limits s.limits s) (top refl)))
        go false = give (limit_plain c s None (with_limits s.limits s) (λ _. tt) (top_at c (with_limits s.limits s) (top refl)))
    limit_or c s h R false top (some a) is e = rw e (go env.equal_names)
      where
        go : (b : Bool) → Post (λ q t. LimitName c s q t) (Some-by c (some a) (with_limits (pick (b && false) (s.limits ++ (waits_for c s ∷ [])) s.limits) s))
        go true = post_map (old_at c (with_limits s.limits s) h (relimited s s.limits R) a is) (λ q t X. limit_plain c s q t (λ _. X.1) X.0)
        go false = post_map (old_at c (with_limits s.limits s) h (relimited s s.limits R) a is) (λ q t X. limit_plain c s q t (λ _. X.1) X.0)
    limit_or c s h R false top none is e = rw e (go env.equal_names refl)
      where
        go : (b : Bool) → env.equal_names ≡ b → Post (λ q t. LimitName c s q t) (Some-by c none (with_limits (pick (b && true) (s.limits ++ (waits_for c s ∷ [])) s.limits) s))
        go true z = post_map (new_at c (queueing c s) h (relimited s (s.limits ++ (waits_for c s ∷ [])) R)) (λ q t X. rw X.1 (limit_waits c s t h R (rw X.1 at X.0) X.2))
        go false z = post_map (new_at c (with_limits s.limits s) h (relimited s s.limits R)) (λ q t X. limit_plain c s q t (λ y. absurd (false≢true (sym z ∙ y))) X.0)

    pub limit_adds : (c : ℕ) (s : Out) → c < n → Ready s → Post (λ q t. LimitName c s q t) (limit_qualifier env pool emit c s)
    unfolding limit_qualifier cardinality_qualifier
    limit_adds c s h R = limit_or c s h R (is_top (at pool c)) (λ t k x. ap (λ z. z x) (m_below k c h) ∙ top_is k x (at pool c) t) (class_id_of env (at pool c)) (class_below_lem c h) refl

    -- ---- head_atom_for
    name_atom_lem : (c v : ℕ) (s : Out) → c < n → Ready s → Post (λ o t. HeadFor c v s o t) (name_atom env pool emit c v s)
    unfolding name_atom
    name_atom_lem c v s h R = post_then (name_adds c s h R) (λ q t A. give (name_head c v s t q A))

    not_atom_lem : (c d v : ℕ) (s : Out) → Ready s → ((k : Valuation) → m k c ≡ meant (Not d) k) → (e : Concept) (o : Option ℕ) → ClassIs e o → ((k : Valuation) → m k d ≡ meant e k)
        → Post (λ o t. HeadFor c v s o t) (not_atom env pool emit v e o s)
    unfolding not_atom fresh_class
    not_atom_lem c d v s R p e (some a) is q = not_named c d v (Class a 0) s R p (omega (arith, is.0, R.above)) (λ k w f o. is.1 k w (f 0) (o 0) ∙ ap (λ z. z (f 0)) (sym (q k)))
    not_atom_lem c d v s R p Top none is q = nothing c v s
    not_atom_lem c d v s R p Bot none is q = nothing c v s
    not_atom_lem c d v s R p (Atomic _) none is q = nothing c v s
    not_atom_lem c d v s R p (Nominal _) none is q = nothing c v s
    not_atom_lem c d v s R p (SelfRestriction r) none is q = not_named c d v (RoleAtom (canon env r) 0 0) s R p tt (λ k w f o. S.keeps r (f 0) (f 0) (o 0) (o 0) ∙ ap (λ z. z (f 0)) (sym (q k)))
    not_atom_lem c d v s R p (Not _) none is q = nothing c v s
    not_atom_lem c d v s R p (And _) none is q = nothing c v s
    not_atom_lem c d v s R p (Or _) none is q = nothing c v s
    not_atom_lem c d v s R p (Some _ _) none is q = nothing c v s
    not_atom_lem c d v s R p (All _ _) none is q = nothing c v s
    not_atom_lem c d v s R p (Min _ _ _) none is q = nothing c v s
    not_atom_lem c d v s R p (Max _ _ _) none is q = nothing c v s

    min_atom_lem : (c v k : ℕ) (r : Role) (d : ℕ) (s : Out) → c < n → d < n → Ready s → ((l : Valuation) → m l c ≡ meant (Min k r d) l) → (t : Bool) → Post (λ o t. HeadFor c v s o t) (min_atom env pool emit c v k r d t s)
    unfolding min_atom
    min_atom_lem c v k r d s h j R p true = name_atom_lem c v s h R
    min_atom_lem c v k r d s h j R p false = post_then (qualifier_adds d s j R) (λ q t A. give (min_head c v s t k r d q p A))

    max_atom_lem : (c v k : ℕ) (r : Role) (d : ℕ) (s : Out) → c < n → d < n → Ready s → ((l : Valuation) → m l c ≡ meant (Max k r d) l) → (t : Bool) → Post (λ o t. HeadFor c v s o t) (max_atom env pool emit c v k r d t s)
    unfolding max_atom
    max_atom_lem c v k r d s h j R p true = name_atom_lem c v s h R
    max_atom_lem c v k r d s h j R p false = post_then (limit_adds d s j R) (λ q t A. give (max_head c v s t k r d q p A))

    compound_atom_lem : (c v : ℕ) (s : Out) → c < n → Ready s → (e : Concept) → Bounded B c e → ((k : Valuation) → m k c ≡ meant e k) → Post (λ o t. HeadFor c v s o t) (compound_atom env pool emit c v e s)
    unfolding compound_atom
    compound_atom_lem c v s h R Top u p = name_atom_lem c v s h R
    compound_atom_lem c v s h R Bot u p = name_atom_lem c v s h R
    compound_atom_lem c v s h R (Atomic _) u p = name_atom_lem c v s h R
    compound_atom_lem c v s h R (Nominal _) u p = name_atom_lem c v s h R
    compound_atom_lem c v s h R (SelfRestriction _) u p = name_atom_lem c v s h R
    compound_atom_lem c v s h R (Not d) u p =
        let j : d < n = omega arith in
        not_atom_lem c d v s R p (at pool d) (class_id_of env (at pool d)) (class_below_lem d j) (λ k. m_below k d j)
    compound_atom_lem c v s h R (And _) u p = name_atom_lem c v s h R
    compound_atom_lem c v s h R (Or _) u p = name_atom_lem c v s h R
    compound_atom_lem c v s h R (Some r d) u p = post_then (name_adds d s (omega (arith, u.1)) R) (λ q t A. give (some_head c v s t r d q p A))
    compound_atom_lem c v s h R (All _ _) u p = name_atom_lem c v s h R
    compound_atom_lem c v s h R (Min k r d) u p = min_atom_lem c v k r d s h (omega (arith, u.2)) R p (not env.card_disjunct_atoms || (eqb k 0 || is_dkey env (class_id_of env (at pool d))))
    compound_atom_lem c v s h R (Max k r d) u p = max_atom_lem c v k r d s h (omega (arith, u.2)) R p (not env.card_disjunct_atoms || is_dkey env (class_id_of env (at pool d)))

    atom_or_lem : (c v : ℕ) (s : Out) → c < n → Ready s → (o : Option ℕ) → ClassIs (at pool c) o → Post (λ o t. HeadFor c v s o t) (atom_or env pool emit c v o s)
    unfolding atom_or
    atom_or_lem c v s h R (some a) is = give (head_same c v (Class a v) s (omega (arith, is.0, R.above)) (λ k w f o. is.1 k w (f v) (o v) ∙ ap (λ z. z (f v)) (sym (m_below k c h))))
    atom_or_lem c v s h R none is = compound_atom_lem c v s h R (at pool c) (wf c (omega arith)) (λ k. m_below k c h)

    pub head_adds : (c v : ℕ) (s : Out) → c < n → Ready s → Post (λ o t. HeadFor c v s o t) (head_atom_for env pool emit c v s)
    unfolding head_atom_for
    head_adds c v s h R = visit_then s (atom_or env pool emit c v (class_id_of env (at pool c)))
        (post_map (atom_or_lem c v (visited s) h (pre_visited I B env base S pool wf s [] 0 R) (class_id_of env (at pool c)) (class_below_lem c h)) (λ o t A. head_visited c v s o t A))

    -- ---- And
    and_adds : (b : List Atom) (l : List ℕ) (v : ℕ) (s : Out) → Each (λ c. c < n) l → Pre I B env base S pool wf s b v
        → Post (λ _ t. Adds I B env base S pool wf s (Wherever (all_of l) b v) Always (Wherever (all_of l) b v) t) (for_each (λ c. emit b c v) l s)
    unfolding for_each
    and_adds b [] v s u P = give (stay I B env base S pool wf s (λ k _ _. tt) (λ k _ f o e. refl))
    and_adds b (c ∷ l) v s u P =
        post_then (works b c v s u.0 P) (λ _ s₁ A.
        post_map (and_adds b l v s₁ u.1 (pre_more I B env base S pool wf A.fresh A.var P)) (λ _ t D.
        seq I B env base S pool wf P.above A D
        (λ k h f o e. and_left (m k c (f v)) (all_of l k (f v)) (h f o e))
        (λ k k' h a _ _. wherever_agree (all_of l) b v P.under (ap (λ z x. all (λ c. z c x) l) (m_agree P.above a)) a (λ f o e. and_right (m k c (f v)) (all_of l k (f v)) (h f o e)))
        (λ k k' a _ _. tt)
        (λ k _ g h f o e. and_both (g f o e) (h f o e))))

    -- ---- Or
    pub heads_adds : (l : List ℕ) (v : ℕ) (hs : List Atom) (s : Out) → Each (λ c. c < n) l → Each (AtomUnder s.next_fresh) hs → Ready s → Post (λ o t. HeadsFor l v hs s o t) (heads env pool emit l v hs s)
    unfolding heads
    heads_adds [] v hs s u w R = give (w, λ fine. fine, stay I B env base S pool wf s (λ k _ _ f o e. sym (or_none (any (atom_holds (with_classes I k) f) hs)) ∙ e) (λ k _ _ f o e. or_none (any (atom_holds (with_classes I k) f) hs) ∙ e))
    heads_adds (c ∷ l) v hs s u w R = post_then (head_adds c v s u.0 R) (λ o s₁ A. go (λ more s₁ w R. heads_adds l v more s₁ u.1 w R) o s₁ A)
      where
        go : ((more : List Atom) (s₁ : Out) → Each (AtomUnder s₁.next_fresh) more → Ready s₁ → Post (λ o t. HeadsFor l v more s₁ o t) (heads env pool emit l v more s₁))
            → (o : Option Atom) (s₁ : Out) → HeadFor c v s o s₁ → Post (λ o t. HeadsFor (c ∷ l) v hs s o t) (head_or env pool emit (λ more. heads env pool emit l v more) hs o s₁)
        go rest none s₁ A = give A
        go rest (some x) s₁ A = with_then hs x s₁ (λ more. heads env pool emit l v more)
            (post_map (rest (hs ++ (x ∷ [])) s₁ (each_append (AtomUnder s₁.next_fresh) hs (x ∷ []) (each_of_lem (atom_under_more A.adds.fresh) hs w) (A.under, tt)) (pre_more I B env base S pool wf A.adds.fresh A.adds.var R))
            (λ o t D. heads_after c l v hs x s s₁ R.above A o t D))

    or_adds : (b : List Atom) (c v : ℕ) (l : List ℕ) (s : Out) → Pre I B env base S pool wf s b v → Each (λ c. c < n) l → ((k : Valuation) → m k c ≡ meant (Or l) k)
        → Post (Headed b c v s) (then (heads env pool emit l v [] s) (λ o. push_heads env pool emit b o))
    or_adds b c v l s P u p = post_then (heads_adds l v [] s u tt (ready P)) (λ o s₁ A. go o s₁ A)
      where
        go : (o : Option (List Atom)) (s₁ : Out) → HeadsFor l v [] s o s₁ → Post (Headed b c v s) (push_heads env pool emit b o s₁)
        go none s₁ A = post_map (defer_adds I B env base S pool wf {H = Always} {C = Wherever (λ k. m k c) b v} HeadOrDisjunct s₁) (λ _ t D.
            seq I B env base S pool wf P.above A D (λ k _. tt) (λ k k' _ a _ _. tt) (λ k k' a _ _. tt) (λ k _ _ w. w))
        go (some hs) s₁ A = push_heads_lem b c v hs s s₁ P A.0
            (adds_map I B env base S pool wf (λ k h. h) (λ k g f o e. g f o (ap (λ z. z (f v)) (sym (p k)) ∙ e)) (λ k g fine f o e. ap (λ z. z (f v)) (p k) ∙ g fine f o e) A.2)

    -- ---- Not
    not_adds : (b : List Atom) (c d v : ℕ) (s : Out) → Pre I B env base S pool wf s b v → ((k : Valuation) → m k c ≡ meant (Not d) k) → (e : Concept) (o : Option ℕ) → ClassIs e o
        → ((k : Valuation) → m k d ≡ meant e k) → Post (Headed b c v s) (emit_not env pool emit b v e o s)
    unfolding emit_not
    not_adds b c d v s P p e (some a) is q = with_then b (Class a v) s (λ more. push env more [])
        (deny_adds b c d v (Class a v) s P (omega (arith, is.0, P.above)) p (λ k w f o. is.1 k w (f v) (o v) ∙ ap (λ z. z (f v)) (sym (q k))))
    not_adds b c d v s P p Top none is q = defer_adds I B env base S pool wf HeadNotNonatomic s
    not_adds b c d v s P p Bot none is q = defer_adds I B env base S pool wf HeadNotNonatomic s
    not_adds b c d v s P p (Atomic _) none is q = defer_adds I B env base S pool wf HeadNotNonatomic s
    not_adds b c d v s P p (Nominal _) none is q = defer_adds I B env base S pool wf HeadNotNonatomic s
    not_adds b c d v s P p (SelfRestriction r) none is q = with_then b (RoleAtom (canon env r) v v) s (λ more. push env more [])
        (deny_adds b c d v (RoleAtom (canon env r) v v) s P tt p (λ k w f o. S.keeps r (f v) (f v) (o v) (o v) ∙ ap (λ z. z (f v)) (sym (q k))))
    not_adds b c d v s P p (Not _) none is q = defer_adds I B env base S pool wf HeadNotNonatomic s
    not_adds b c d v s P p (And _) none is q = defer_adds I B env base S pool wf HeadNotNonatomic s
    not_adds b c d v s P p (Or _) none is q = defer_adds I B env base S pool wf HeadNotNonatomic s
    not_adds b c d v s P p (Some _ _) none is q = defer_adds I B env base S pool wf HeadNotNonatomic s
    not_adds b c d v s P p (All _ _) none is q = defer_adds I B env base S pool wf HeadNotNonatomic s
    not_adds b c d v s P p (Min _ _ _) none is q = defer_adds I B env base S pool wf HeadNotNonatomic s
    not_adds b c d v s P p (Max _ _ _) none is q = defer_adds I B env base S pool wf HeadNotNonatomic s

    -- ---- All
    all_adds : (b : List Atom) (c v : ℕ) (r : Role) (d : ℕ) (s : Out) → Pre I B env base S pool wf s b v → d < n → ((k : Valuation) → m k c ≡ meant (All r d) k)
        → Post (Headed b c v s) (then (with b (RoleAtom (canon env r) v s.next_var) (next_variable s)) (λ more. emit more d s.next_var))
    all_adds b c v r d s P h p = with_then b (RoleAtom (canon env r) v s.next_var) (next_variable s) (λ more. emit more d s.next_var)
        (post_map (works (b ++ (RoleAtom (canon env r) v s.next_var ∷ [])) d s.next_var (next_variable s) h (record {
          above = P.above;
          root = omega arith;
          var = omega arith;
          under = each_append (AtomUnder s.next_fresh) b (RoleAtom (canon env r) v s.next_var ∷ []) P.under (tt, tt);
          vars = each_append (VarsUnder (s.next_var + 1)) b (RoleAtom (canon env r) v s.next_var ∷ []) (each_of_lem (vars_under_more (omega arith)) b P.vars) ((omega (arith, P.var), omega arith), tt);
        })) (λ _ t A. adds_moved I B env base S pool wf s s.visits (s.next_var + 1) (omega arith) (adds_map I B env base S pool wf
        (λ k g. all_to b v r d s.next_var k (λ f o e. ap (λ z. z (f v)) (sym (p k)) ∙ g f o e))
        (λ k _. tt)
        (λ k g f o e. ap (λ z. z (f v)) (p k) ∙ all_from b v r d s P k g f o e) A)))

    -- ---- Min and Max: over a data key the head is dropped, and then the second half is not asked
    unless_adds : (b : List Atom) (c v : ℕ) (a : Atom) (q : Qualifier) (s s₁ : Out) → Pre I B env base S pool wf s b v → Head c v s a s₁ → (t : Bool) → is_dkey_qualifier env q ≡ t
        → Post (Headed b c v s) (unless_dkey env pool emit b a t s₁)
    unless_adds b c v a q s s₁ P A true e = give (record {
      new = A.adds.new;
      grown = A.adds.grown;
      fresh = A.adds.fresh;
      var = A.adds.var;
      defers = A.adds.defers;
      under = A.adds.under;
      waiting = A.adds.waiting;
      waits = A.adds.waits;
      named = A.adds.named;
      held = A.adds.held;
      gets = λ k w _. let t = A.adds.gets k w tt in (t.0, t.1, t.2, t.3, tt);
      says = λ _ _ _ _ _ keys _. absurd (false≢true (sym (not_dkey q keys) ∙ e));
      track = A.adds.track;
    })
    unless_adds b c v a q s s₁ P A false e = push_head_lem b c v a s s₁ P A

    -- ---- one step of emit_head
    emit_step_lem : (b : List Atom) (c v : ℕ) (s : Out) → Pre I B env base S pool wf s b v → (e : Concept) → Bounded B n e → ((k : Valuation) → m k c ≡ meant e k) → Post (Headed b c v s) (emit_step env pool emit b v e s)
    unfolding emit_step fresh_var
    emit_step_lem b c v s P Top u p = give (stay I B env base S pool wf s (λ k _ _. tt) (λ k _ f o e. ap (λ z. z (f v)) (p k)))
    emit_step_lem b c v s P Bot u p = push_heads_lem b c v [] s s P tt (stay I B env base S pool wf s (λ k _ _ f o e. ap (λ z. z (f v)) (sym (p k)) ∙ e) (λ k _ _ f o e. ap (λ z. z (f v)) (p k) ∙ e))
    emit_step_lem b c v s P (Atomic a) u p = push_head_lem b c v (Class a v) s s P (head_same c v (Class a v) s (omega (arith, P.above, S.classes)) (λ k _ f o. ap (λ z. z (f v)) (sym (p k))))
    emit_step_lem b c v s P (Nominal i) u p = push_head_lem b c v (Class (env.nominal_base + i) v) s s P
        (head_same c v (Class (env.nominal_base + i) v) s (omega (arith, P.above, S.individuals i u)) (λ k w f o. w.alone i (f v) u (o v) ∙ ap (λ z. z (f v)) (sym (p k))))
    emit_step_lem b c v s P (SelfRestriction r) u p = push_head_lem b c v (RoleAtom (canon env r) v v) s s P
        (head_same c v (RoleAtom (canon env r) v v) s tt (λ k _ f o. S.keeps r (f v) (f v) (o v) (o v) ∙ ap (λ z. z (f v)) (sym (p k))))
    emit_step_lem b c v s P (Not d) u p = not_adds b c d v s P p (at pool d) (class_id_of env (at pool d)) (class_below_lem d u) (λ k. m_below k d u)
    emit_step_lem b c v s P (And l) u p = post_map (and_adds b l v s u P) (λ _ t A.
        adds_map I B env base S pool wf (λ k h f o e. ap (λ z. z (f v)) (sym (p k)) ∙ h f o e) (λ k _. tt) (λ k h f o e. ap (λ z. z (f v)) (p k) ∙ h f o e) A)
    emit_step_lem b c v s P (Or l) u p = or_adds b c v l s P u p
    emit_step_lem b c v s P (Some r d) u p = post_then (name_adds d s u.1 (ready P)) (λ q s₁ A. push_head_lem b c v (Exists (canon env r) q v) s s₁ P (some_head c v s s₁ r d q p A))
    emit_step_lem b c v s P (All r d) u p = all_adds b c v r d s P u.1 p
    emit_step_lem b c v s P (Min zero r d) u p = give (stay I B env base S pool wf s (λ k _ _. tt) (λ k _ f o e. ap (λ z. z (f v)) (p k) ∙ leb-zero (count (λ y. related I r (f v) y && m k d y) (elements I))))
    emit_step_lem b c v s P (Min (suc k) r d) u p = post_then (qualifier_adds d s u.2 (ready P)) (λ q s₁ A.
        unless_adds b c v (AtLeast (canon env r) q (suc k) v) q s s₁ P (min_head c v s s₁ (suc k) r d q p A) (is_dkey_qualifier env q) refl)
    emit_step_lem b c v s P (Max k r d) u p = post_then (limit_adds d s u.2 (ready P)) (λ q s₁ A.
        unless_adds b c v (AtMost (canon env r) q k v) q s s₁ P (max_head c v s s₁ k r d q p A) (is_dkey_qualifier env q) refl)

  -- ---- emit_head, by a bound above the id
  emit_by_lem : EmitMeans I B env base S pool wf
  unfolding emit_by
  emit_by_lem zero b c v s held h P = absurd (not-suc-le-zero h)
  emit_by_lem (suc f) b c v s held h P = go (emit_by_lem f)
    where
      go : ((b : List Atom) (c v : ℕ) (s : Out) → c < length pool → c < f → Pre I B env base S pool wf s b v → Post (Headed b c v s) (emit_by env pool f b c v s)) → Post (Headed b c v s) (emit_by env pool (suc f) b c v s)
      go ih = visit_then s (emit_step env pool (λ b d u. emit_by env pool f b d u) b v (at pool c)) (post_map
          (emit_step_lem f c (omega arith) (omega arith) (λ b d u s l P. ih b d u s (omega arith) (omega arith) P) b c v (visited s) (pre_visited I B env base S pool wf s b v P) (at pool c) (wf c held) (λ k. m_at k c held))
          (λ _ t A. adds_visited I B env base S pool wf s A))

pub emit_means : (I : Interpretation) (B : Bounds) (env : Env) (base : ℕ) (S : Setting I B env base) (pool : Pool) (wf : Wf B pool) → EmitMeans I B env base S pool wf
emit_means I B env base S pool wf = emit_by_lem I B env base S pool wf
