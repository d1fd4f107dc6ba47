-- Whether an antecedent can be encoded depends on the pool alone: the lengths of its alternatives are a function of the pool.
use Rattle.std.specs.Prelude.{◌≡◌, Bool, false, leb}
use Rattle.std.proofs.Math.Path.{refl}
use Rattle.std.proofs.Common.{ap, ap₂, ◌∙◌, length-append}
use Rattle.std.proofs.Math.Bool.{true}
use mathlib.Core.List.{List, [], ◌∷◌, ◌++◌, map}
use Rattle.std.proofs.Math.Option.{Option, none, some}
use Prim.Native.Nat.{ℕ, zero, suc, ◌+◌}
use Rattle.std.proofs.Math.ListN.{length}
use Rattle.std.proofs.lemmas.List.{length-map}
use Rattle.ir.specs.declared.atom.Atom.{Atom}
use Rattle.ir.specs.declared.atom.Atom.TheVariants.{Role as RoleAtom}
use Rattle.rules.specs.Base.{ok, all}
use Rattle.rules.specs.Concept.{Concept}
use Rattle.rules.specs.Concept.{Top, Bot, Atomic, Nominal, SelfRestriction, Not, And, Or, Some, All, Min, Max}
use Rattle.rules.specs.Pool.{Pool, at}
use Rattle.rules.specs.State.{Env, Out, E, canon, fresh_var}
use Rattle.rules.specs.Antecedents.{Alternatives, antecedent_dnf_cap, cross, in_hand, within, and_with, encode_and, or_with, encode_or, some_with, encode_step, encode_by}
use Rattle.rules.specs.Post.{Post, give, refuses, post_then}
use Rattle.rules.proofs.EmitLaws.{with_var, visit_then}

abbrev pub lengths : Alternatives → List ℕ
lengths l = map length l

abbrev pub lengths_of : Option Alternatives → Option (List ℕ)
lengths_of none = none
lengths_of (some l) = some (lengths l)

-- ---- the rules, over lengths
abbrev crossed : List ℕ → List ℕ → List ℕ
crossed [] k = []
crossed (a ∷ l) k = map (λ b. a + b) k ++ crossed l k

abbrev capped : (List ℕ → Option (List ℕ)) → List ℕ → Bool → Option (List ℕ)
capped rest l true = rest l
capped rest l false = none

abbrev and_shape : (List ℕ → Option (List ℕ)) → List ℕ → Option (List ℕ) → Option (List ℕ)
and_shape rest acc none = none
and_shape rest acc (some k) = capped rest (crossed acc k) (leb (length (crossed acc k)) antecedent_dnf_cap)

abbrev or_shape : (List ℕ → Option (List ℕ)) → List ℕ → Option (List ℕ) → Option (List ℕ)
or_shape rest acc none = none
or_shape rest acc (some k) = capped rest (acc ++ k) (leb (length (acc ++ k)) antecedent_dnf_cap)

abbrev some_shape : Option (List ℕ) → Option (List ℕ)
some_shape none = none
some_shape (some k) = some (map suc k)

module _ (sh : ℕ → Option (List ℕ)) where
  abbrev all_shapes : List ℕ → List ℕ → Option (List ℕ)
  all_shapes [] acc = some acc
  all_shapes (c ∷ l) acc = and_shape (λ k. all_shapes l k) acc (sh c)

  abbrev any_shapes : List ℕ → List ℕ → Option (List ℕ)
  any_shapes [] acc = some acc
  any_shapes (c ∷ l) acc = or_shape (λ k. any_shapes l k) acc (sh c)

  abbrev shape_step : Concept → Option (List ℕ)
  shape_step Top = some (0 ∷ [])
  shape_step Bot = none
  shape_step (Atomic _) = some (1 ∷ [])
  shape_step (Nominal _) = some (1 ∷ [])
  shape_step (SelfRestriction _) = none
  shape_step (Not _) = none
  shape_step (And l) = all_shapes l (0 ∷ [])
  shape_step (Or l) = any_shapes l []
  shape_step (Some _ d) = some_shape (sh d)
  shape_step (All _ _) = none
  shape_step (Min _ _ _) = none
  shape_step (Max _ _ _) = none

unfoldable pub shape : Pool → ℕ → ℕ → Option (List ℕ)
shape pool zero c = none
shape pool (suc f) c = shape_step (λ d. shape pool f d) (at pool c)

-- ---- lists
map_append : {A B : Type 0} (f : A → B) (k l : List A) → map f (k ++ l) ≡ map f k ++ map f l
map_append f [] l = refl
map_append f (a ∷ k) l = ap (λ z. f a ∷ z) (map_append f k l)

lengths_before : (a : List Atom) (k : Alternatives) → lengths (map (λ b. a ++ b) k) ≡ map (λ n. length a + n) (lengths k)
lengths_before a [] = refl
lengths_before a (b ∷ k) = ap₂ {C = List ℕ} ◌∷◌ (length-append a b) (lengths_before a k)

lengths_cross : (l k : Alternatives) → lengths (cross l k) ≡ crossed (lengths l) (lengths k)
unfolding cross
lengths_cross [] k = refl
lengths_cross (a ∷ l) k = map_append length (map (λ b. a ++ b) k) (cross l k) ∙ ap₂ ◌++◌ (lengths_before a k) (lengths_cross l k)

lengths_one : (a : Atom) (k : Alternatives) → lengths (map (λ b. a ∷ b) k) ≡ map suc (lengths k)
lengths_one a [] = refl
lengths_one a (b ∷ k) = ap (λ z. suc (length b) ∷ z) (lengths_one a k)

module _ (env : Env) (pool : Pool) where
  abbrev Shaped : (ℕ → ℕ → E (Option Alternatives)) → (ℕ → Option (List ℕ)) → Type 0
  Shaped encode sh = (c v : ℕ) (s : Out) → Post (λ o t. lengths_of o ≡ sh c) (encode c v s)

  within_shape : (rest : Alternatives → E (Option Alternatives)) (rest_shape : List ℕ → Option (List ℕ)) (l : Alternatives) (k : List ℕ) (s : Out)
      → lengths l ≡ k → Post (λ o t. lengths_of o ≡ rest_shape (lengths l)) (rest l s)
      → (a : Bool) → Post (λ o t. lengths_of o ≡ capped rest_shape k (leb (length k) antecedent_dnf_cap)) (within a (leb (length l) antecedent_dnf_cap) l rest s)
  within_shape rest rest_shape l k s q p false = refuses
  within_shape rest rest_shape l k s q p true = rw (← q, length-map l length) (go (leb (length l) antecedent_dnf_cap))
    where
      go : (b : Bool) → Post (λ o t. lengths_of o ≡ capped rest_shape (lengths l) b) (within true b l rest s)
      go true = p
      go false = give refl

  module _ (encode : ℕ → ℕ → E (Option Alternatives)) (sh : ℕ → Option (List ℕ)) (W : Shaped encode sh) where
    and_shape_lem : (l : List ℕ) (v : ℕ) (acc : Alternatives) (s : Out) → Post (λ o t. lengths_of o ≡ all_shapes sh l (lengths acc)) (encode_and env pool encode l v acc s)
    unfolding encode_and
    and_shape_lem [] v acc s = give refl
    and_shape_lem (c ∷ l) v acc s = post_then (W c v s) (λ o s₁ q. rw (← q) (go o s₁ (λ k s₁. and_shape_lem l v k s₁)))
      where
        go : (o : Option Alternatives) (s₁ : Out) → ((k : Alternatives) (s₁ : Out) → Post (λ o t. lengths_of o ≡ all_shapes sh l (lengths k)) (encode_and env pool encode l v k s₁))
            → Post (λ o₁ t. lengths_of o₁ ≡ and_shape (λ k. all_shapes sh l k) (lengths acc) (lengths_of o)) (and_with env pool encode (λ k. encode_and env pool encode l v k) acc o s₁)
        go none s₁ r = give refl
        go (some k) s₁ r = within_shape (λ k. encode_and env pool encode l v k) (λ k. all_shapes sh l k) (cross acc k) (crossed (lengths acc) (lengths k)) s₁ (lengths_cross acc k) (r (cross acc k) s₁) (all in_hand (cross acc k))

    or_shape_lem : (l : List ℕ) (v : ℕ) (acc : Alternatives) (s : Out) → Post (λ o t. lengths_of o ≡ any_shapes sh l (lengths acc)) (encode_or env pool encode l v acc s)
    unfolding encode_or
    or_shape_lem [] v acc s = give refl
    or_shape_lem (c ∷ l) v acc s = post_then (W c v s) (λ o s₁ q. rw (← q) (go o s₁ (λ k s₁. or_shape_lem l v k s₁)))
      where
        go : (o : Option Alternatives) (s₁ : Out) → ((k : Alternatives) (s₁ : Out) → Post (λ o t. lengths_of o ≡ any_shapes sh l (lengths k)) (encode_or env pool encode l v k s₁))
            → Post (λ o₁ t. lengths_of o₁ ≡ or_shape (λ k. any_shapes sh l k) (lengths acc) (lengths_of o)) (or_with env pool encode (λ k. encode_or env pool encode l v k) acc o s₁)
        go none s₁ r = give refl
        go (some k) s₁ r = within_shape (λ k. encode_or env pool encode l v k) (λ k. any_shapes sh l k) (acc ++ k) (lengths acc ++ lengths k) s₁ (map_append length acc k) (r (acc ++ k) s₁) true

    some_shape_lem : (a : Atom) (o : Option Alternatives) (s : Out) → Post (λ o₁ t. lengths_of o₁ ≡ some_shape (lengths_of o)) (some_with env pool encode a o s)
    some_shape_lem a none s = give refl
    some_shape_lem a (some k) s = go (all in_hand (map (λ b. a ∷ b) k))
      where
        go : (b : Bool) → Post (λ o₁ t. lengths_of o₁ ≡ some (map suc (lengths k))) (within b true (map (λ b. a ∷ b) k) (λ l s. ok (some l) s) s)
        go true = give (ap some (lengths_one a k))
        go false = refuses

    step_shape : (v : ℕ) (s : Out) (e : Concept) → Post (λ o t. lengths_of o ≡ shape_step sh e) (encode_step env pool encode v e s)
    unfolding encode_step fresh_var
    step_shape v s Top = give refl
    step_shape v s Bot = give refl
    step_shape v s (Atomic a) = give refl
    step_shape v s (Nominal i) = give refl
    step_shape v s (SelfRestriction r) = give refl
    step_shape v s (Not c) = give refl
    step_shape v s (And l) = and_shape_lem l v ([] ∷ []) s
    step_shape v s (Or l) = or_shape_lem l v [] s
    step_shape v s (Some r d) = post_then (W d s.next_var (with_var s)) (λ o s₁ q. rw (← q) (some_shape_lem (RoleAtom (canon env r) v s.next_var) o s₁))
    step_shape v s (All r c) = give refl
    step_shape v s (Min k r c) = give refl
    step_shape v s (Max k r c) = give refl

  pub shape_of : (f c v : ℕ) (s : Out) → Post (λ o t. lengths_of o ≡ shape pool f c) (encode_by env pool f c v s)
  unfolding encode_by shape
  shape_of zero c v s = refuses
  shape_of (suc f) c v s = go (shape_of f)
    where
      go : Shaped (λ d u. encode_by env pool f d u) (λ d. shape pool f d) → Post (λ o t. lengths_of o ≡ shape_step (λ d. shape pool f d) (at pool c)) (encode_by env pool (suc f) c v s)
      go ih = visit_then s (λ _. encode_step env pool (λ d u. encode_by env pool f d u) v (at pool c)) (λ _. step_shape (λ d u. encode_by env pool f d u) (λ d. shape pool f d) ih v _ (at pool c))
