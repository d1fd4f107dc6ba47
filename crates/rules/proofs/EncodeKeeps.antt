-- Whatever relation of states a visit, a visit with a variable, and two of them in a row keep, encodeAntecedent keeps. Assumes
-- nothing.
use Rattle.std.specs.Prelude.{Bool, false, length, leb}
use Rattle.std.proofs.Math.Bool.{true}
use mathlib.Core.List.{List, [], ◌∷◌, ◌++◌, map}
use Rattle.std.proofs.Math.Option.{Option, none, some}
use Prim.Native.Nat.{ℕ, zero, suc, ◌<◌}
use Rattle.ir.specs.declared.atom.Atom.{Atom}
use Rattle.ir.specs.declared.atom.Atom.TheVariants.{Role as RoleAtom}
use Rattle.rules.specs.Base.{ok, all}
use Rattle.rules.specs.Concept.{Concept}
use Rattle.rules.specs.Concept.{Top, Bot, Atomic, Nominal, SelfRestriction, Not, And, Or, Some, All, Min, Max}
use Rattle.rules.specs.Pool.{Pool, at}
use Rattle.rules.specs.State.{Env, Out, E, canon, fresh_var}
use Rattle.rules.specs.Post.{Post, refuses, give, post_then}
use Rattle.rules.proofs.EmitLaws.{visited, with_var, visit_then}
use Rattle.rules.specs.Antecedents.{Alternatives, cross, in_hand, within, and_with, encode_and, or_with, encode_or, some_with, encode_step, encode_by}

within_post : {Q : Option Alternatives → Out → Type 0} (short few : Bool) (l : Alternatives) (rest : Alternatives → E (Option Alternatives)) (s : Out)
    → Q none s → Post Q (rest l s) → Post Q (within short few l rest s)
within_post false few l rest s q h = refuses
within_post true false l rest s q h = give q
within_post true true l rest s q h = h

module _ (R : Out → Out → Type 0) (on : (s t u : Out) → R s t → R t u → R s u) (one : (s : Out) → s.visits < s.limit → R s (visited s)) (two : (s : Out) → s.visits < s.limit → R s (with_var (visited s))) (env : Env) (pool : Pool) where
  module _ (F : ℕ → ℕ → E (Option Alternatives)) (W : (c v : ℕ) (s : Out) → Post (λ _ t. R s t) (F c v s)) where
    and_keeps : (l : List ℕ) (v : ℕ) (acc : Alternatives) (s₀ s : Out) → R s₀ s → Post (λ _ t. R s₀ t) (encode_and env pool F l v acc s)
    unfolding encode_and
    and_keeps [] v acc s₀ s X = give X
    and_keeps (c ∷ l) v acc s₀ s X = post_then (W c v s) (λ o t Y. go t (on s₀ s t X Y) (λ next. and_keeps l v next s₀ t (on s₀ s t X Y)) o)
      where
        go : (t : Out) → R s₀ t → ((next : Alternatives) → Post (λ _ u. R s₀ u) (encode_and env pool F l v next t))
            → (o : Option Alternatives) → Post (λ _ u. R s₀ u) (and_with env pool F (λ next. encode_and env pool F l v next) acc o t)
        go t Y rest none = give Y
        go t Y rest (some k) = within_post (all in_hand (cross acc k)) (leb (length (cross acc k)) 64) (cross acc k) (λ next. encode_and env pool F l v next) t Y (rest (cross acc k))

    or_keeps : (l : List ℕ) (v : ℕ) (acc : Alternatives) (s₀ s : Out) → R s₀ s → Post (λ _ t. R s₀ t) (encode_or env pool F l v acc s)
    unfolding encode_or
    or_keeps [] v acc s₀ s X = give X
    or_keeps (c ∷ l) v acc s₀ s X = post_then (W c v s) (λ o t Y. go t (on s₀ s t X Y) (λ next. or_keeps l v next s₀ t (on s₀ s t X Y)) o)
      where
        go : (t : Out) → R s₀ t → ((next : Alternatives) → Post (λ _ u. R s₀ u) (encode_or env pool F l v next t))
            → (o : Option Alternatives) → Post (λ _ u. R s₀ u) (or_with env pool F (λ next. encode_or env pool F l v next) acc o t)
        go t Y rest none = give Y
        go t Y rest (some k) = within_post true (leb (length (acc ++ k)) 64) (acc ++ k) (λ next. encode_or env pool F l v next) t Y (rest (acc ++ k))

    some_keeps : (a : Atom) (s₀ t : Out) → R s₀ t → (o : Option Alternatives) → Post (λ _ u. R s₀ u) (some_with env pool F a o t)
    some_keeps a s₀ t X none = give X
    some_keeps a s₀ t X (some l) = within_post (all in_hand (map (λ b. a ∷ b) l)) true (map (λ b. a ∷ b) l) (λ k s. ok (some k) s) t X (give X)

    step_keeps : (v : ℕ) (s : Out) → s.visits < s.limit → (e : Concept) → Post (λ _ t. R s t) (encode_step env pool F v e (visited s))
    unfolding encode_step fresh_var
    step_keeps v s h Top = give (one s h)
    step_keeps v s h Bot = give (one s h)
    step_keeps v s h (Atomic _) = give (one s h)
    step_keeps v s h (Nominal _) = give (one s h)
    step_keeps v s h (SelfRestriction _) = give (one s h)
    step_keeps v s h (Not _) = give (one s h)
    step_keeps v s h (And l) = and_keeps l v ([] ∷ []) s (visited s) (one s h)
    step_keeps v s h (Or l) = or_keeps l v [] s (visited s) (one s h)
    step_keeps v s h (Some r d) = post_then (W d s.next_var (with_var (visited s))) (λ o t Y. some_keeps (RoleAtom (canon env r) v s.next_var) s t (on s (with_var (visited s)) t (two s h) Y) o)
    step_keeps v s h (All _ _) = give (one s h)
    step_keeps v s h (Min _ _ _) = give (one s h)
    step_keeps v s h (Max _ _ _) = give (one s h)

  pub encode_keeps : (f c v : ℕ) (s : Out) → Post (λ _ t. R s t) (encode_by env pool f c v s)
  unfolding encode_by
  encode_keeps zero c v s = refuses
  encode_keeps (suc f) c v s = visit_then s (λ _. encode_step env pool (λ d u. encode_by env pool f d u) v (at pool c))
      (λ h. step_keeps (λ d u. encode_by env pool f d u) (λ d u t. encode_keeps f d u t) v s h (at pool c))
