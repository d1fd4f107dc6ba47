-- The depth of a concept in a pool: one more than its deepest part. It stays as the pool grows, and And and Or are at most
-- one deeper than their deepest operand, since flattening takes members from below.
use Rattle.std.specs.Prelude.{◌≡◌, refl, List, [], ◌∷◌, length}
use Rattle.std.proofs.Common.{ap, ap₂, ◌∙◌, not-suc-le-zero, arith}
use Prim.Native.Nat.{ℕ, zero, suc, ◌<◌, ◌≤◌, max}
use Rattle.ir.specs.declared.role.Role.{Role}
use Rattle.rules.specs.Concept.{Concept}
use Rattle.rules.specs.Concept.{Top, Bot, Atomic, Nominal, SelfRestriction, Not, And, Or, Some, All, Min, Max}
use Rattle.rules.specs.Pool.{Pool, at, intern_raw, mk_min, mk_and, mk_or}
use Rattle.rules.specs.Text.{most_number}
use Rattle.rules.specs.Deck.{parts_of}
use Rattle.rules.specs.Post.{Post, post_map}
use Rattle.rules.specs.Invariants.{Each, Bounds, RoleIn, Bounded, Wf, Grown, TwoRising}
use Rattle.rules.specs.JointLaws.{Joint, conj, disj, list_of, mk_joint, Offers, joint_post}
use Rattle.rules.specs.PoolLaws.{post_both, grown_at, intern_made, intern_at, list_bounded, operand_below}
use Rattle.rules.specs.EachLaws.{each_map, each_both}

-- ---- the greatest of g over a list
abbrev pub deepest_of : (ℕ → ℕ) → List ℕ → ℕ
deepest_of g [] = 0
deepest_of g (c ∷ l) = max (g c) (deepest_of g l)

pub deepest_same : (g h : ℕ → ℕ) (n : ℕ) → ((d : ℕ) → d < n → g d ≡ h d) → (l : List ℕ) → Each (λ d. d < n) l → deepest_of g l ≡ deepest_of h l
deepest_same g h n e [] k = refl
deepest_same g h n e (c ∷ l) k = ap₂ max (e c k.0) (deepest_same g h n e l k.1)

pub deepest_most : (g : ℕ → ℕ) (m : ℕ) (l : List ℕ) → Each (λ d. g d ≤ m) l → deepest_of g l ≤ m
deepest_most g m [] h = omega arith
deepest_most g m (c ∷ l) h = omega (arith, h.0, deepest_most g m l h.1)

pub most_deepest : (g : ℕ → ℕ) (m : ℕ) (l : List ℕ) → deepest_of g l ≤ m → Each (λ d. g d ≤ m) l
most_deepest g m [] h = tt
most_deepest g m (c ∷ l) h = (omega arith, most_deepest g m l (omega arith))

-- ---- the depth, by a bound above the id
abbrev pub depth_in : ℕ → Pool → ℕ → ℕ
depth_in zero p c = 0
depth_in (suc f) p c = suc (deepest_of (λ d. depth_in f p d) (parts_of (at p c)))

abbrev pub depth : Pool → ℕ → ℕ
depth p c = depth_in (suc c) p c

pub parts_below : (B : Bounds) (n : ℕ) (e : Concept) → Bounded B n e → Each (λ d. d < n) (parts_of e)
parts_below B n Top b = tt
parts_below B n Bot b = tt
parts_below B n (Atomic _) b = tt
parts_below B n (Nominal _) b = tt
parts_below B n (SelfRestriction _) b = tt
parts_below B n (Not _) b = (b, tt)
parts_below B n (And _) b = b
parts_below B n (Or _) b = b
parts_below B n (Some _ _) b = (b.1, tt)
parts_below B n (All _ _) b = (b.1, tt)
parts_below B n (Min _ _ _) b = (b.2, tt)
parts_below B n (Max _ _ _) b = (b.2, tt)

list_deepest : (g : ℕ → ℕ) (j : Joint) (l : List ℕ) → deepest_of g (parts_of (list_of j l)) ≡ deepest_of g l
list_deepest g conj l = refl
list_deepest g disj l = refl

pub depth_grown : (B : Bounds) (f : ℕ) (p q : Pool) (c : ℕ) → Wf B p → Grown p q → c < length p → depth_in f q c ≡ depth_in f p c
depth_grown B zero p q c w g h = refl
depth_grown B (suc f) p q c w g h = rw (grown_at g c h)
    (ap suc (deepest_same (depth_in f q) (depth_in f p) c (λ d i. depth_grown B f p q d w g (omega arith)) (parts_of (at p c)) (parts_below B c (at p c) (w c h))))

-- any bound above the id will do
pub depth_fuel : (B : Bounds) (f g : ℕ) (p : Pool) (c : ℕ) → Wf B p → c < length p → c < f → c < g → depth_in f p c ≡ depth_in g p c
depth_fuel B zero g p c w h i j = absurd (not-suc-le-zero i)
depth_fuel B (suc f) zero p c w h i j = absurd (not-suc-le-zero j)
depth_fuel B (suc f) (suc g) p c w h i j =
    ap suc (deepest_same (depth_in f p) (depth_in g p) c (λ d k. depth_fuel B f g p d w (omega arith) (omega arith) (omega arith)) (parts_of (at p c)) (parts_below B c (at p c) (w c h)))

pub depth_record : (B : Bounds) (p : Pool) (c : ℕ) → Wf B p → c < length p → depth p c ≡ suc (deepest_of (depth p) (parts_of (at p c)))
depth_record B p c w h =
    ap suc (deepest_same (depth_in c p) (depth p) c (λ d k. depth_fuel B c (suc d) p d w (omega arith) (omega arith) (omega arith)) (parts_of (at p c)) (parts_below B c (at p c) (w c h)))

pub deepest_grown : (B : Bounds) (p q : Pool) → Wf B p → Grown p q → (l : List ℕ) → Each (λ c. c < length p) l → deepest_of (depth q) l ≡ deepest_of (depth p) l
deepest_grown B p q w g l h = deepest_same (depth q) (depth p) (length p) (λ d k. depth_grown B (suc d) p q d w g k) l h

-- ---- the constructors
module _ (B : Bounds) (p : Pool) (w : Wf B p) where
  pub intern_depth : (e : Concept) → Bounded B (length p) e → Post (λ i q. depth q i ≡ suc (deepest_of (depth p) (parts_of e))) (intern_raw e p)
  intern_depth e b = post_map (post_both (intern_made B e p w b) (intern_at e p)) (λ i q h.
      depth_record B q i h.0.wf h.0.held ∙ rw h.1 (ap suc (deepest_grown B p q w h.0.grows (parts_of e) (parts_below B (length p) e b))))

  pub min_depth : (n : ℕ) (r : Role) (c : ℕ) → n ≤ most_number → RoleIn B r → c < length p → Post (λ i q. depth q i ≤ suc (depth p c)) (mk_min n r c p)
  unfolding mk_min
  min_depth zero r c m k h = post_map (intern_depth Top tt) (λ i q e. omega arith)
  min_depth (suc n) r c m k h = post_map (intern_depth (Min (suc n) r c) (m, k, h)) (λ i q e. omega arith)

  pub joint_depth : (j : Joint) (args : List ℕ) → Each (λ a. a < length p) args → Post (λ i q. depth q i ≤ suc (deepest_of (depth p) args)) (mk_joint j args p)
  joint_depth j args h = joint_post Shallow (λ i q. depth q i ≤ suc m) p j args
      (each_both (λ a. a < length p) (λ a. depth p a ≤ m) (Offers Shallow p j) offers args h (most_deepest (depth p) m args (omega arith)))
      (post_map (intern_depth Top tt) (λ i q e. omega arith)) (post_map (intern_depth Bot tt) (λ i q e. omega arith)) (λ a k. omega arith) many
    where
      m : ℕ
      m = deepest_of (depth p) args

      Shallow : ℕ → Type 0
      Shallow a = (a < length p) × (depth p a ≤ m)

      offers : (a : ℕ) → a < length p → depth p a ≤ m → Offers Shallow p j a
      offers a k i = (
        λ _. (k, i),
        λ l e.
            each_both (λ c. c < a) (λ c. depth p c ≤ m) Shallow (λ c x y. (omega arith, y)) l (operand_below B p j a w k l e)
            (most_deepest (depth p) m l (omega (arith, depth_record B p a w k, ap (λ z. deepest_of (depth p) (parts_of z)) e, list_deepest (depth p) j l))),
      )

      many : (l : List ℕ) → TwoRising l → Each Shallow l → Post (λ i q. depth q i ≤ suc m) (intern_raw (list_of j l) p)
      many l r k = post_map (intern_depth (list_of j l) (list_bounded B (length p) j l (each_map Shallow (λ c. c < length p) (λ c x. x.0) l k)))
          (λ i q e. omega (arith, list_deepest (depth p) j l, deepest_most (depth p) m l (each_map Shallow (λ c. depth p c ≤ m) (λ c x. x.1) l k)))

  pub and_depth : (args : List ℕ) → Each (λ a. a < length p) args → Post (λ i q. depth q i ≤ suc (deepest_of (depth p) args)) (mk_and args p)
  and_depth = joint_depth conj

  pub or_depth : (args : List ℕ) → Each (λ a. a < length p) args → Post (λ i q. depth q i ≤ suc (deepest_of (depth p) args)) (mk_or args p)
  or_depth = joint_depth disj
