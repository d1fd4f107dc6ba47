-- Disjoint classes and disjoint unions: their clauses say them, both halves. A pair of a union that cannot be encoded is skipped
-- without a deferral; but its member is then deferred, since the pool alone decides what can be encoded. Assumes nothing.
use Rattle.std.specs.Prelude.{◌≡◌, refl, Bool, not, ◌&&◌, ◌||◌, ℕ, suc, ◌≤◌, ◌<◌, length, ltb}
use Rattle.std.proofs.Math.Path.{sym, ap}
use Rattle.std.proofs.Common.{ap₂, ◌∙◌, subst, le_refl, arith}
use Rattle.std.proofs.Math.Bool.{true, false, and-false, or_assoc}
use Rattle.std.proofs.lemmas.Bool.{false≢true, or_left, or_right}
use mathlib.Core.List.{List, [], ◌∷◌, ◌++◌, map}
use Rattle.std.proofs.Math.Option.{Option, none, some}
use Rattle.ir.specs.declared.atom.Atom.{Atom}
use Rattle.ir.specs.declared.atom.Atom.TheVariants.{Class}
use Rattle.ir.specs.declared.deferral.Deferral.TheVariants.{DisjointAntecedent, DisjointUnionMember, DisjointUnionCovering}
use Rattle.rules.specs.Base.{ok, then, ◌>>=◌, ◌>>◌, all, any, is_some, for_each}
use Rattle.rules.specs.Concept.{Concept}
use Rattle.rules.specs.Concept.{Top, Bot, Atomic, Nominal, SelfRestriction, Not, And, Or, Some, All, Min, Max}
use Rattle.rules.specs.Concept.{DisjointClasses, DisjointUnion}
use Rattle.rules.specs.Pool.{Pool, at}
use Rattle.rules.specs.State.{clause, Env, Out, E, restarted, restart_vars, longer, with, most_in_hand, push, defer, class_id_of}
use Rattle.rules.specs.Antecedents.{Alternatives, cross, in_hand, encode_antecedent}
use Rattle.rules.specs.Axioms.{later_pairs, push_pair, push_pairs, pair_with, member_with, cover_with, cover}
use Rattle.rules.specs.Post.{Post, give, refuses, post_then, post_map}
use Rattle.rules.specs.Invariants.{Each, Bounds, Bounded, Wf}
use Rattle.rules.specs.EachLaws.{each_map, each_both, each_append, each_left, each_right}
use Rattle.rules.proofs.ShapeLaws.{lengths_of, shape, shape_of}
use Rattle.rules.specs.PoolLaws.{post_both}
use Rattle.rules.specs.Semantics.{Interpretation, with_classes, concept_means, means, implies, same_truth, atom_holds, disjoint_at, satisfied}
use Rattle.meaning.specs.Truth.{and_left, and_right, and_both, or_none, not_intro, not_elim, implies_elim, implies_intro, all_elements, elements_all, any_append, all_each, each_all}
use Rattle.meaning.proofs.Finite.{means_at}
use Rattle.meaning.specs.Choices.{Choice, Follows}
use Rattle.meaning.specs.Valuations.{Valuation, AtomUnder}
use Rattle.meaning.specs.Adds.{Setting, Alone, means_agree, Nothing}
use Rattle.meaning.proofs.Antecedents.{Quiet, quiet_trans, some_holds, Encoded, Coded, cross_coded, encode_means}
use Rattle.meaning.proofs.Added.{Stable, each_stable, Added, added_none, added_map, added_then, quiet_added, push_added, defer_added, follows_stable, each_does}
use Rattle.meaning.proofs.Inclusions.{restart_quiet}
use Rattle.meaning.specs.Pairs.{any_gives, every_each, each_every, later_each}

-- ---- the rules over a pool that they only read
module _ (env : Env) where
  abbrev pub pair_at : E (Unit {0}) → ℕ × ℕ → Pool → E (Unit {0})
  pair_at other q pool = restart_vars >> (encode_antecedent env pool q.0 0 >>= (λ a. encode_antecedent env pool q.1 0 >>= (λ b. pair_with env other a b)))

  abbrev pub member_at : ℕ → ℕ → Pool → E (Unit {0})
  member_at class m pool = restart_vars >> (encode_antecedent env pool m 0 >>= (λ o. member_with env class o))

-- ---- every combination of two alternatives
module _ (Q : List Atom → Type 0) where
  map_each : (a : List Atom) (k : Alternatives) → Each (λ b. Q (a ++ b)) k → Each Q (map (λ b. a ++ b) k)
  map_each a [] u = tt
  map_each a (b ∷ k) u = (u.0, map_each a k u.1)

  each_of_map : (a : List Atom) (k : Alternatives) → Each Q (map (λ b. a ++ b) k) → Each (λ b. Q (a ++ b)) k
  each_of_map a [] u = tt
  each_of_map a (b ∷ k) u = (u.0, each_of_map a k u.1)

  cross_of : (l k : Alternatives) → Each (λ a. Each (λ b. Q (a ++ b)) k) l → Each Q (cross l k)
  unfolding cross
  cross_of [] k u = tt
  cross_of (a ∷ l) k u = each_append Q (map (λ b. a ++ b) k) (cross l k) (map_each a k u.0) (cross_of l k u.1)

  of_cross : (l k : Alternatives) → Each Q (cross l k) → Each (λ a. Each (λ b. Q (a ++ b)) k) l
  unfolding cross
  of_cross [] k u = tt
  of_cross (a ∷ l) k u = (each_of_map a k (each_left Q (map (λ b. a ++ b) k) (cross l k) u), of_cross l k (each_right Q (map (λ b. a ++ b) k) (cross l k) u))

-- ---- one head for every alternative
module _ (J : Interpretation) (h : List Atom) where
  bodies_follow : (l : Alternatives) → ((f : ℕ → ℕ) → Choice J f → some_holds J f l ≡ true → any (atom_holds J f) h ≡ true) → Each (λ b. Follows J (clause b h)) l
  bodies_follow [] q = tt
  bodies_follow (b ∷ l) q = (
    record { follows = λ f c e. q f c (or_left (all (atom_holds J f) b) (some_holds J f l) e) },
    bodies_follow l (λ f c e. q f c (or_right (all (atom_holds J f) b) (some_holds J f l) e)),
  )

  follow_bodies : (l : Alternatives) → Each (λ b. Follows J (clause b h)) l → (f : ℕ → ℕ) → Choice J f → some_holds J f l ≡ true → any (atom_holds J f) h ≡ true
  follow_bodies l u f c = any_gives (λ b. all (atom_holds J f) b) (any (atom_holds J f) h) l (each_map (λ b. Follows J (clause b h)) (λ b. all (atom_holds J f) b ≡ true → any (atom_holds J f) h ≡ true) (λ b g. g.follows f c) l u)

-- an answer is some where its lengths are
some_shape_lem : (o : Option Alternatives) → is_some o ≡ is_some (lengths_of o)
some_shape_lem none = refl
some_shape_lem (some l) = refl

module _ (I : Interpretation) (B : Bounds) (env : Env) (base : ℕ) (S : Setting I B env base) (p : Pool) (w : Wf B p) where
  abbrev Step : Out → (H C : Valuation → Type 0) → Out → Type 0
  Step s H C t = Added I B env base S p w s H (Nothing I B env base S p w) C t

  abbrev meant : Valuation → ℕ → ℕ → Bool
  meant k = means (with_classes I k) p

  -- loops that need nothing else of the state
  loop : {A : Type 0} (P : A → Type 0) (H C : A → Valuation → Type 0) (f : A → E (Unit {0})) → ((a : A) → P a → Stable base (H a))
      → ((a : A) → P a → (s : Out) → base ≤ s.next_fresh → Post (λ _ t. Step s (H a) (C a) t) (f a s))
      → (l : List A) → Each P l → (s : Out) → base ≤ s.next_fresh → Post (λ _ t. Step s (λ k. Each (λ a. H a k) l) (λ k. Each (λ a. C a k) l) t) (for_each f l s)
  loop P H C f st one l u s b = post_map
      (each_does I B env base S p w (λ t. t) (λ s t. Unit {0}) s (λ t _. tt) (λ s t u g h. tt) P H C f st
      (λ a x t _ c. post_map (one a x t c) (λ _ t₁ A. record { moved = tt; added = A })) l u s tt b) (λ _ t A. A.added)

  -- ---- pairs
  abbrev pub Apart : ℕ × ℕ → Valuation → Type 0
  Apart q k = (x : ℕ) → x < I.size → not (means (with_classes I k) p q.0 x && means (with_classes I k) p q.1 x) ≡ true

  apart_stable : (q : ℕ × ℕ) → Stable base (Apart q)
  apart_stable q k l a h x u = subst (λ m. not (m q.0 x && m q.1 x) ≡ true) (means_agree I B env base S (le_refl base) a p w) (h x u)

  abbrev Empty : List Atom → Valuation → Type 0
  Empty b k = Follows (with_classes I k) (clause b [])

  empty_added : (b : List Atom) (s : Out) → base ≤ s.next_fresh → Each (AtomUnder base) b → (d : Bool) → Post (λ _ t. Step s (Empty b) (Empty b) t) (push_pair env b d s)
  empty_added b s h u true = push_added I B env base S p w b [] s h u tt
  empty_added b s h u false = refuses

  pairs_added : (l k : Alternatives) → Each (Each (AtomUnder base)) l → Each (Each (AtomUnder base)) k → (s : Out) → base ≤ s.next_fresh
      → Post (λ _ t. Step s (λ v. Each (λ a. Each (λ b. Empty (a ++ b) v) k) l) (λ v. Each (λ a. Each (λ b. Empty (a ++ b) v) k) l) t) (push_pairs env l k s)
  unfolding push_pairs
  pairs_added l k ul uk s h = loop (Each (AtomUnder base)) (λ a v. Each (λ b. Empty (a ++ b) v) k) (λ a v. Each (λ b. Empty (a ++ b) v) k) (λ a. for_each (λ b. push_pair env (a ++ b) (in_hand (a ++ b))) k)
      (λ a x. each_stable base (Each (AtomUnder base)) (λ b. Empty (a ++ b)) (λ b y. follows_stable I B env base S p w (a ++ b) [] (each_append (AtomUnder base) a b x y) tt) k uk)
      (λ a x t c. loop (Each (AtomUnder base)) (λ b. Empty (a ++ b)) (λ b. Empty (a ++ b)) (λ b. push_pair env (a ++ b) (in_hand (a ++ b)))
      (λ b y. follows_stable I B env base S p w (a ++ b) [] (each_append (AtomUnder base) a b x y) tt)
      (λ b y t c. empty_added (a ++ b) t c (each_append (AtomUnder base) a b x y) (in_hand (a ++ b))) k uk t c)
      l ul s h

  both_added : (q : ℕ × ℕ) (s s₁ s₂ : Out) (l k : Alternatives) → base ≤ s.next_fresh → Encoded I B env base S (restarted s) (λ v. meant v q.0) 0 l s₁ → Encoded I B env base S s₁ (λ v. meant v q.1) 0 k s₂
      → Post (λ _ t. Step s (Apart q) (Apart q) t) (push_pairs env l k s₂)
  both_added q s s₁ s₂ l k b A D =
      let N = cross_coded I B env base S (λ v. meant v q.0) (λ v. meant v q.1) 0 l k (le_refl 1) A D in
      let Q : Quiet s s₂ = quiet_trans (restart_quiet s) N.reads.quiet in
      post_map (pairs_added l k A.under D.under s₂ (omega (arith, Q.fresh))) (λ _ t Z. quiet_added I B env base S p w Q (added_map I B env base S p w
      (λ v m h. of_cross (λ b. Empty b v) l k (bodies_follow (with_classes I v) [] (cross l k) (λ f c e.
      absurd (not_elim (meant v q.0 (f 0) && meant v q.1 (f 0)) (h (f 0) (c 0)) (N.sound v m f c e)))))
      (λ v m h x u. not_intro (meant v q.0 x && meant v q.1 x) (λ e.
      let r = N.full v m (λ _. x) (λ _. u) e in
      follow_bodies (with_classes I v) [] (cross l k) (cross_of (λ b. Empty b v) l k h) r.0 r.1 r.3))
      Z))

  -- can be encoded
  abbrev pub coded : ℕ → Bool
  coded c = is_some (shape p (suc c) c)

  antecedent : (c : ℕ) (s : Out) → c < length p → 0 < s.next_var
      → Post (λ o t. Coded I B env base S s (λ v. meant v c) 0 o t × (is_some o ≡ coded c)) (encode_antecedent env p c 0 s)
  antecedent c s h v = post_both (encode_means I B env base S p w (suc c) c 0 s (le_refl (suc c)) h v) (post_map (shape_of env p (suc c) c 0 s) (λ o t e. some_shape_lem o ∙ ap is_some e))

  -- `other` gives G where one of the two cannot be encoded
  pair_added : (other : E (Unit {0})) (q : ℕ × ℕ) (G : Valuation → Type 0) → ((v : Valuation) → Apart q v → G v)
      → (coded q.0 && coded q.1 ≡ false → (s : Out) → Post (λ _ t. Step s (Apart q) G t) (other s))
      → (s : Out) → base ≤ s.next_fresh → (q.0 < length p) × (q.1 < length p) → Post (λ _ t. Step s (Apart q) G t) (pair_at env other q p s)
  unfolding restart_vars
  pair_added other q G gives otherwise s b h =
      post_then (antecedent q.0 (restarted s) h.0 (le_refl 1)) (λ o s₁ A.
      first o s₁ A.0 A.1)
    where
      -- what was read goes before
      after : (s₂ : Out) → Quiet s s₂ → coded q.0 && coded q.1 ≡ false → Post (λ _ t. Step s (Apart q) G t) (other s₂)
      after s₂ Q e = post_map (otherwise e s₂) (λ _ t A. quiet_added I B env base S p w Q A)

      second : (l : Alternatives) (s₁ : Out) → Encoded I B env base S (restarted s) (λ v. meant v q.0) 0 l s₁ → (o : Option Alternatives) (s₂ : Out)
          → Coded I B env base S s₁ (λ v. meant v q.1) 0 o s₂ → is_some o ≡ coded q.1 → Post (λ _ t. Step s (Apart q) G t) (pair_with env other (some l) o s₂)
      second l s₁ A none s₂ D e = after s₂ (quiet_trans (restart_quiet s) (quiet_trans A.reads.quiet D.quiet)) (ap (λ z. coded q.0 && z) (sym e) ∙ and-false (coded q.0))
      second l s₁ A (some k) s₂ D e = post_map (both_added q s s₁ s₂ l k b A D) (λ _ t Z. added_map I B env base S p w (λ v m i. i) (λ v m i. gives v i) Z)

      first_none : (s₁ : Out) → Quiet s s₁ → is_some {A = Alternatives} none ≡ coded q.0 → (o : Option Alternatives) (s₂ : Out) → Coded I B env base S s₁ (λ v. meant v q.1) 0 o s₂
          → Post (λ _ t. Step s (Apart q) G t) (pair_with env other none o s₂)
      first_none s₁ Q e none s₂ D = after s₂ (quiet_trans Q D.quiet) (ap (λ z. z && coded q.1) (sym e))
      first_none s₁ Q e (some k) s₂ D = after s₂ (quiet_trans Q D.reads.quiet) (ap (λ z. z && coded q.1) (sym e))

      first : (o : Option Alternatives) (s₁ : Out) → Coded I B env base S (restarted s) (λ v. meant v q.0) 0 o s₁ → is_some o ≡ coded q.0
          → Post (λ _ t. Step s (Apart q) G t) (then (encode_antecedent env p q.1 0 s₁) (λ o₂. pair_with env other o o₂))
      first none s₁ A e = post_then (antecedent q.1 s₁ h.1 A.var) (λ o₂ s₂ D. first_none s₁ (quiet_trans (restart_quiet s) A.quiet) e o₂ s₂ D.0)
      first (some l) s₁ A e = post_then (antecedent q.1 s₁ h.1 A.reads.var) (λ o₂ s₂ D. second l s₁ A o₂ s₂ D.0 D.1)

  -- ---- disjoint classes
  pairs_in : (l : List ℕ) → Each (λ c. c < length p) l → Each (λ q. (q.0 < length p) × (q.1 < length p)) (later_pairs l)
  pairs_in l u = later_each (λ c. c < length p) l u

  apart_of : (l : List ℕ) (k : Valuation) → ((x : ℕ) → x < I.size → disjoint_at (meant k) l x ≡ true) → Each (λ q. Apart q k) (later_pairs l)
  apart_of l k h = every_each I.size (λ x q. not (meant k q.0 x && meant k q.1 x) ≡ true) (later_pairs l) (λ x u. all_each (λ q. not (meant k q.0 x && meant k q.1 x)) (later_pairs l) (h x u))

  of_apart : (l : List ℕ) (k : Valuation) → Each (λ q. Apart q k) (later_pairs l) → (x : ℕ) → x < I.size → disjoint_at (meant k) l x ≡ true
  of_apart l k h x u = each_all (λ q. not (meant k q.0 x && meant k q.1 x)) (later_pairs l) (each_every I.size (λ x q. not (meant k q.0 x && meant k q.1 x) ≡ true) (later_pairs l) h x u)

  pub disjoint_means : (l : List ℕ) → Each (λ c. c < length p) l → (s : Out) → base ≤ s.next_fresh
      → Post (λ _ t. Step s (λ k. satisfied (with_classes I k) p (DisjointClasses l) ≡ true) (λ k. satisfied (with_classes I k) p (DisjointClasses l) ≡ true) t)
      (for_each (λ q. pair_at env (defer env DisjointAntecedent) q p) (later_pairs l) s)
  disjoint_means l u s b = post_map
      (loop (λ q. (q.0 < length p) × (q.1 < length p)) Apart Apart (λ q. pair_at env (defer env DisjointAntecedent) q p) (λ q _. apart_stable q)
      (λ q h t c. pair_added (defer env DisjointAntecedent) q (Apart q) (λ v i. i) (λ _ t. defer_added I B env base S p w DisjointAntecedent t) t c h)
      (later_pairs l) (pairs_in l u) s b)
      (λ _ t A. added_map I B env base S p w
      (λ k m h. apart_of l k (elements_all I.size (disjoint_at (meant k) l) h))
      (λ k m h. all_elements I.size (disjoint_at (meant k) l) (of_apart l k h)) A)

  -- ---- disjoint unions: pairs, members, covering
  abbrev pub ApartIf : ℕ × ℕ → Valuation → Type 0
  ApartIf q k = coded q.0 && coded q.1 ≡ true → Apart q k

  pub union_pairs : (l : List ℕ) → Each (λ c. c < length p) l → (s : Out) → base ≤ s.next_fresh
      → Post (λ _ t. Step s (λ k. Each (λ q. Apart q k) (later_pairs l)) (λ k. Each (λ q. ApartIf q k) (later_pairs l)) t) (for_each (λ q. pair_at env (λ s. ok tt s) q p) (later_pairs l) s)
  union_pairs l u s b = loop (λ q. (q.0 < length p) × (q.1 < length p)) Apart ApartIf (λ q. pair_at env (λ s. ok tt s) q p) (λ q _. apart_stable q)
      (λ q h t c. pair_added (λ s. ok tt s) q (ApartIf q) (λ v i _. i) (λ e t. give (added_none I B env base S p w t (λ k m d. absurd (false≢true (sym e ∙ d))))) t c h)
      (later_pairs l) (pairs_in l u) s b

  module _ (a : ℕ) (known : a < B.classes) where
    abbrev pub MemberOf : ℕ → Valuation → Type 0
    MemberOf c k = (x : ℕ) → x < I.size → implies (means (with_classes I k) p c x) (k a x) ≡ true

    member_stable : (c : ℕ) → Stable base (MemberOf c)
    member_stable c k l g h x u = let q = S.classes in
        subst (λ m. implies (m c x) (l a x) ≡ true) (means_agree I B env base S (le_refl base) g p w) (subst (λ f. implies (meant k c x) (f x) ≡ true) (g.same a (omega arith)) (h x u))

    class_under : Each (AtomUnder base) (Class a 0 ∷ [])
    class_under = let q = S.classes in (omega arith, tt)

    member_added : (c : ℕ) → c < length p → (s : Out) → base ≤ s.next_fresh → Post (λ _ t. Step s (MemberOf c) (λ k. (coded c ≡ true) × MemberOf c k) t) (member_at env a c p s)
    unfolding restart_vars
    member_added c h s b = post_then (antecedent c (restarted s) h (le_refl 1)) (λ o s₁ A. go o s₁ A.0 A.1)
      where
        go : (o : Option Alternatives) (s₁ : Out) → Coded I B env base S (restarted s) (λ v. meant v c) 0 o s₁ → is_some o ≡ coded c
            → Post (λ _ t. Step s (MemberOf c) (λ k. (coded c ≡ true) × MemberOf c k) t) (member_with env a o s₁)
        go none s₁ A e = post_map (defer_added I B env base S p w DisjointUnionMember s₁) (λ _ t D. quiet_added I B env base S p w (quiet_trans (restart_quiet s) A.quiet) D)
        go (some l) s₁ A e =
            let Q : Quiet s s₁ = quiet_trans (restart_quiet s) A.reads.quiet in
            post_map (loop (Each (AtomUnder base)) (λ b k. Follows (with_classes I k) (clause b (Class a 0 ∷ []))) (λ b k. Follows (with_classes I k) (clause b (Class a 0 ∷ []))) (λ b. push env b (Class a 0 ∷ []))
            (λ b y. follows_stable I B env base S p w b (Class a 0 ∷ []) y class_under) (λ b y t d. push_added I B env base S p w b (Class a 0 ∷ []) t d y class_under) l A.under s₁ (omega (arith, Q.fresh)))
            (λ _ t D. quiet_added I B env base S p w Q (added_map I B env base S p w
            (λ v m i. bodies_follow (with_classes I v) (Class a 0 ∷ []) l (λ f g d. or_left (v a (f 0)) false (implies_elim (meant v c (f 0)) (v a (f 0)) (i (f 0) (g 0)) (A.sound v m f g d))))
            (λ v m i. (
              sym e,
              λ x u. implies_intro (meant v c x) (v a x) (λ d.
                  let r = A.full v m (λ _. x) (λ _. u) d in
                  ap (v a) (r.2 0 (le_refl 1)) ∙ sym (or_none (v a (r.0 0))) ∙ follow_bodies (with_classes I v) (Class a 0 ∷ []) l i r.0 r.1 r.3),
            ))
            D))

    pub union_members : (l : List ℕ) → Each (λ c. c < length p) l → (s : Out) → base ≤ s.next_fresh
        → Post (λ _ t. Step s (λ k. Each (λ c. MemberOf c k) l) (λ k. Each (λ c. (coded c ≡ true) × MemberOf c k) l) t) (for_each (λ c. member_at env a c p) l s)
    union_members l u s b = loop (λ c. c < length p) MemberOf (λ c k. (coded c ≡ true) × MemberOf c k) (λ c. member_at env a c p) (λ c _. member_stable c) (λ c h t d. member_added c h t d) l u s b

    -- a class id names what its record means
    abbrev NamedBy : Concept → Option ℕ → Type 0
    NamedBy e none = Unit {0}
    NamedBy e (some c) = (c < base) × ((k : Valuation) → Alone I B env k → (x : ℕ) → x < I.size → k c x ≡ concept_means (with_classes I k) (meant k) e x)

    named_by : (n : ℕ) (e : Concept) → Bounded B n e → NamedBy e (class_id_of env e)
    named_by n Top b = tt
    named_by n Bot b = tt
    named_by n (Atomic c) b = let q = S.classes in (omega arith, λ k m x u. refl)
    named_by n (Nominal i) b = (S.individuals i b, λ k m x u. m.alone i x b u)
    named_by n (SelfRestriction _) b = tt
    named_by n (Not _) b = tt
    named_by n (And _) b = tt
    named_by n (Or _) b = tt
    named_by n (Some _ _) b = tt
    named_by n (All _ _) b = tt
    named_by n (Min _ _ _) b = tt
    named_by n (Max _ _ _) b = tt

    -- the class is covered by what f says and the members l
    abbrev CoveredBy : (Valuation → ℕ → Bool) → List ℕ → Valuation → Type 0
    CoveredBy f l k = (x : ℕ) → x < I.size → implies (k a x) (f k x || any (λ c. means (with_classes I k) p c x) l) ≡ true

    -- the head in hand says f of the variable 0
    abbrev HeadSays : List Atom → (Valuation → ℕ → Bool) → Type 0
    HeadSays head f = (k : Valuation) → Alone I B env k → (g : ℕ → ℕ) → Choice I g → any (atom_holds (with_classes I k) g) head ≡ f k (g 0)

    cover_added : (l : List ℕ) → Each (λ c. c < length p) l → (head : List Atom) (f : Valuation → ℕ → Bool) → Each (AtomUnder base) head → HeadSays head f → (s : Out) → base ≤ s.next_fresh
        → Post (λ _ t. Step s (CoveredBy f l) (CoveredBy f l) t) (cover env p a l head s)
    unfolding cover with
    cover_added [] u head f n says s b = post_map (push_added I B env base S p w (Class a 0 ∷ []) head s b class_under n) (λ _ t A. added_map I B env base S p w
        (λ k m h. record { follows = λ g c e. says k m g c ∙ sym (or_none (f k (g 0))) ∙ implies_elim (k a (g 0)) (f k (g 0) || false) (h (g 0) (c 0)) (and_left (k a (g 0)) true e) })
        (λ k m h x v. implies_intro (k a x) (f k x || false) (λ e. or_none (f k x) ∙ sym (says k m (λ _. x) (λ _. v)) ∙ h.follows (λ _. x) (λ _. v) (and_both e refl)))
        A)
    cover_added (c ∷ l) u head f n says s b = go (class_id_of env (at p c)) (named_by c (at p c) (w c u.0)) (λ d is more.
        cover_added l u.1 (head ++ (Class d 0 ∷ [])) (λ k x. f k x || meant k c x) (each_append (AtomUnder base) head (Class d 0 ∷ []) n (is, tt)) more s b)
      where
        same : (k : Valuation) (x : ℕ) → (f k x || meant k c x) || any (λ c. meant k c x) l ≡ f k x || (meant k c x || any (λ c. meant k c x) l)
        same k x = or_assoc (f k x) (meant k c x) (any (λ c. meant k c x) l)

        go : (o : Option ℕ) → NamedBy (at p c) o
            → ((d : ℕ) → d < base → HeadSays (head ++ (Class d 0 ∷ [])) (λ k x. f k x || meant k c x)
            → Post (λ _ t. Step s (CoveredBy (λ k x. f k x || meant k c x) l) (CoveredBy (λ k x. f k x || meant k c x) l) t) (cover env p a l (head ++ (Class d 0 ∷ [])) s))
            → Post (λ _ t. Step s (CoveredBy f (c ∷ l)) (CoveredBy f (c ∷ l)) t) (cover_with env (λ more. cover env p a l more) head o s)
        go none is rest = defer_added I B env base S p w DisjointUnionCovering s
        go (some d) is rest = room (ltb (length head) most_in_hand)
          where
            says' : HeadSays (head ++ (Class d 0 ∷ [])) (λ k x. f k x || meant k c x)
            says' k m g i = any_append (atom_holds (with_classes I k) g) head (Class d 0 ∷ [])
                ∙ ap₂ ◌||◌ (says k m g i) (or_none (k d (g 0)) ∙ is.1 k m (g 0) (i 0) ∙ ap (λ z. z (g 0)) (sym (means_at (with_classes I k) B p w c u.0)))

            room : (r : Bool) → Post (λ _ t. Step s (CoveredBy f (c ∷ l)) (CoveredBy f (c ∷ l)) t) (then (longer head (Class d 0) r s) (λ more. cover env p a l more))
            room true = post_map (rest d is.0 says') (λ _ t A. added_map I B env base S p w
                (λ k m h x v. ap (implies (k a x)) (same k x) ∙ h x v)
                (λ k m h x v. ap (implies (k a x)) (sym (same k x)) ∙ h x v) A)
            room false = refuses

    abbrev pub Covered : List ℕ → Valuation → Type 0
    Covered l k = (x : ℕ) → x < I.size → implies (k a x) (any (λ c. means (with_classes I k) p c x) l) ≡ true

    pub union_cover : (l : List ℕ) → Each (λ c. c < length p) l → (s : Out) → base ≤ s.next_fresh → Post (λ _ t. Step s (Covered l) (Covered l) t) (cover env p a l [] (restarted s))
    union_cover l u s b = post_map (cover_added l u [] (λ k x. false) tt (λ k m g c. refl) (restarted s) b) (λ _ t A. quiet_added I B env base S p w (restart_quiet s) A)

    covered_stable : (l : List ℕ) → Stable base (Covered l)
    covered_stable l k i g h x u = let q = S.classes in
        subst (λ m. implies (i a x) (any (λ c. m c x) l) ≡ true) (means_agree I B env base S (le_refl base) g p w) (subst (λ f. implies (f x) (any (λ c. meant k c x) l) ≡ true) (g.same a (omega arith)) (h x u))

    -- all three
    pub union_means : (l : List ℕ) (s s₁ s₂ s₃ : Out) → base ≤ s.next_fresh → Each (λ c. c < length p) l
        → Step s (λ k. Each (λ q. Apart q k) (later_pairs l)) (λ k. Each (λ q. ApartIf q k) (later_pairs l)) s₁
        → Step s₁ (λ k. Each (λ c. MemberOf c k) l) (λ k. Each (λ c. (coded c ≡ true) × MemberOf c k) l) s₂
        → Step s₂ (Covered l) (Covered l) s₃
        → Step s (λ k. satisfied (with_classes I k) p (DisjointUnion a l) ≡ true) (λ k. satisfied (with_classes I k) p (DisjointUnion a l) ≡ true) s₃
    union_means l s s₁ s₂ s₃ b u A D N = added_map I B env base S p w to from
        (added_then I B env base S p w b (λ k i g h. (members k i g h.0, covered_stable l k i g h.1)) A (added_then I B env base S p w (omega (arith, A.fresh)) (covered_stable l) D N))
      where
        members : Stable base (λ k. Each (λ c. MemberOf c k) l)
        members = each_stable base (λ c. c < length p) MemberOf (λ c _. member_stable c) l u

        unions : Valuation → ℕ → Bool
        unions k x = any (λ c. meant k c x) l

        test : Valuation → ℕ → Bool
        test k x = same_truth (k a x) (unions k x) && disjoint_at (meant k) l x

        to : (k : Valuation) → Alone I B env k → satisfied (with_classes I k) p (DisjointUnion a l) ≡ true
            → Each (λ q. Apart q k) (later_pairs l) × (Each (λ c. MemberOf c k) l × Covered l k)
        to k m h =
            let at_x : (x : ℕ) → x < I.size → test k x ≡ true = elements_all I.size (test k) h in
            let same : (x : ℕ) → x < I.size → same_truth (k a x) (unions k x) ≡ true = λ x v. and_left (same_truth (k a x) (unions k x)) (disjoint_at (meant k) l x) (at_x x v) in (
              apart_of l k (λ x v. and_right (same_truth (k a x) (unions k x)) (disjoint_at (meant k) l x) (at_x x v)),
              (
                every_each I.size (λ x c. implies (meant k c x) (k a x) ≡ true) l (λ x v. each_below k x l (and_right (implies (k a x) (unions k x)) (implies (unions k x) (k a x)) (same x v))),
                λ x v. and_left (implies (k a x) (unions k x)) (implies (unions k x) (k a x)) (same x v),
              ),
            )
          where
            each_below : (k : Valuation) (x : ℕ) (l : List ℕ) → implies (any (λ c. meant k c x) l) (k a x) ≡ true → Each (λ c. implies (meant k c x) (k a x) ≡ true) l
            each_below k x [] h = tt
            each_below k x (c ∷ l) h = (
              implies_intro (meant k c x) (k a x) (λ e. implies_elim (meant k c x || any (λ c. meant k c x) l) (k a x) h (or_left (meant k c x) (any (λ c. meant k c x) l) e)),
              each_below k x l (implies_intro (any (λ c. meant k c x) l) (k a x) (λ e. implies_elim (meant k c x || any (λ c. meant k c x) l) (k a x) h (or_right (meant k c x) (any (λ c. meant k c x) l) e))),
            )

        from : (k : Valuation) → Alone I B env k → Each (λ q. ApartIf q k) (later_pairs l) × (Each (λ c. (coded c ≡ true) × MemberOf c k) l × Covered l k)
            → satisfied (with_classes I k) p (DisjointUnion a l) ≡ true
        from k m h =
            let can : Each (λ c. coded c ≡ true) l = each_map (λ c. (coded c ≡ true) × MemberOf c k) (λ c. coded c ≡ true) (λ c y. y.0) l h.1.0 in
            let apart : Each (λ q. Apart q k) (later_pairs l) =
            each_both (λ q. (coded q.0 ≡ true) × (coded q.1 ≡ true)) (λ q. ApartIf q k) (λ q. Apart q k) (λ q y z. z (and_both y.0 y.1)) (later_pairs l) (later_each (λ c. coded c ≡ true) l can) h.0 in
            all_elements I.size (test k) (λ x v. and_both (and_both (h.1.1 x v) (implies_intro (unions k x) (k a x) (any_gives (λ c. meant k c x) (k a x) l
            (each_map (λ c. (coded c ≡ true) × MemberOf c k) (λ c. meant k c x ≡ true → k a x ≡ true) (λ c y. implies_elim (meant k c x) (k a x) (y.1 x v)) l h.1.0))))
            (of_apart l k apart x v))
