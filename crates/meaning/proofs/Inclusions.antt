-- Inclusions whose antecedent can be encoded: the clauses of its alternatives say the inclusion, both halves. Assumes
-- nothing.
use Rattle.std.specs.Prelude.{◌≡◌, refl, Bool, true, false, ◌||◌, ℕ, suc, ◌≤◌, ◌<◌, length}
use Rattle.std.proofs.Common.{ap, ◌∙◌, subst, arith}
use Rattle.std.proofs.lemmas.Bool.{false≢true, or_left, or_right}
use mathlib.Core.List.{List, [], ◌∷◌}
use Rattle.std.proofs.Math.Option.{Option, none, some}
use Rattle.std.proofs.Math.Nat.{le_refl, le_trans}
use Rattle.ir.specs.declared.atom.Atom.{Atom}
use Rattle.rules.specs.Base.{then, all}
use Rattle.rules.specs.Pool.{Pool}
use Rattle.rules.specs.State.{Env, Out, restarted}
use Rattle.rules.specs.Antecedents.{Alternatives, encode_antecedent}
use Rattle.rules.specs.Heads.{emit_head}
use Rattle.rules.specs.Axioms.{emit_bodies, bodies_or_defer}
use Rattle.ir.specs.declared.deferral.Deferral.TheVariants.{Antecedent}
use Rattle.rules.specs.Post.{Post, post_then, post_map}
use Rattle.rules.specs.Invariants.{Each, Bounds, Wf}
use Rattle.rules.specs.Semantics.{Interpretation, with_classes, means, implies, atom_holds}
use Rattle.meaning.specs.Truth.{implies_elim, implies_intro}
use Rattle.meaning.specs.Choices.{Choice}
use Rattle.meaning.specs.Valuations.{Valuation, AtomUnder, each_of_lem, all_agree, atom_under_more}
use Rattle.meaning.specs.Adds.{VarsUnder, Setting, means_agree, Gives, Nothing}
use Rattle.meaning.proofs.Antecedents.{Quiet, quiet_trans, some_holds, Encoded, Coded, encode_means}
use Rattle.meaning.proofs.Added.{Stable, Added, adds_added, added_map, quiet_added, defer_added, Does, each_does}
use Rattle.meaning.proofs.Heads.{emit_means}
use Rattle.meaning.specs.Steps.{vars_under_more}

-- sub is below sup in the pool's meaning
abbrev pub Included : Interpretation → Pool → ℕ → ℕ → Valuation → Type 0
Included I p sub sup k = (x : ℕ) → x < I.size → implies (means (with_classes I k) p sub x) (means (with_classes I k) p sup x) ≡ true

pub restart_quiet : (s : Out) → Quiet s (restarted s)
restart_quiet s = record { clauses = refl; deferrals = refl; fresh = refl; limits = refl; line = refl }

module _ (I : Interpretation) (B : Bounds) (env : Env) (base : ℕ) (S : Setting I B env base) where
  pub included_stable : (p : Pool) → Wf B p → (sub sup : ℕ) → Stable base (Included I p sub sup)
  included_stable p w sub sup k l a h x u = subst (λ m. implies (m sub x) (m sup x) ≡ true) (means_agree I B env base S (le_refl base) a p w) (h x u)

  pub gives_stable : (p : Pool) (w : Wf B p) (b : List Atom) (c v : ℕ) → Each (AtomUnder base) b → Stable base (Gives I B env base S p w b c v)
  gives_stable p w b c v u k l a h f g e = subst (λ m. m c (f v) ≡ true) (means_agree I B env base S (le_refl base) a p w) (h f g (all_agree I a f b u ∙ e))

  module _ (p : Pool) (w : Wf B p) where
    -- ---- a clause set for each alternative
    abbrev AllGive : ℕ → Alternatives → Valuation → Type 0
    AllGive sup l k = Each (λ b. Gives I B env base S p w b sup 0 k) l

    -- a body with these classes, over these variables
    abbrev Fits : ℕ → List Atom → Type 0
    Fits n x = Each (AtomUnder base) x × Each (VarsUnder n) x

    bodies_added : (sup : ℕ) (l : Alternatives) (s : Out) → sup < length p → base ≤ s.next_fresh → 0 < s.next_var → Each (Each (AtomUnder base)) l → Each (Each (VarsUnder s.next_var)) l
        → Post (λ _ t. Added I B env base S p w s (AllGive sup l) (Nothing I B env base S p w) (AllGive sup l) t) (emit_bodies env p l sup s)
    unfolding emit_bodies
    bodies_added sup l s h b z u v =
        post_map (each_does I B env base S p w (λ t. t) (λ s t. s.next_var ≤ t.next_var) s (λ t _. le_refl t.next_var) (λ s t u g h. le_trans g h)
        (Fits s.next_var) (λ x. Gives I B env base S p w x sup 0) (λ x. Gives I B env base S p w x sup 0) (λ x. emit_head env p x sup 0)
        (λ x f. gives_stable p w x sup 0 f.0) one l (fits l u v) s (le_refl s.next_var) b) (λ _ t A. A.added)
      where
        fits : (l : Alternatives) → Each (Each (AtomUnder base)) l → Each (Each (VarsUnder s.next_var)) l → Each (Fits s.next_var) l
        fits [] u v = tt
        fits (x ∷ l) u v = ((u.0, v.0), fits l u.1 v.1)

        one : (x : List Atom) → Fits s.next_var x → (t : Out) → s.next_var ≤ t.next_var → base ≤ t.next_fresh
            → Post (λ _ t₁. Does I B env base S p w (λ t. t) (λ s t. s.next_var ≤ t.next_var) t (Gives I B env base S p w x sup 0) (Gives I B env base S p w x sup 0) t₁) (emit_head env p x sup 0 t)
        one x f t g b = post_map (emit_means I B env base S p w (suc sup) x sup 0 t h (le_refl (suc sup)) (record {
          above = b;
          root = omega arith;
          var = omega arith;
          under = each_of_lem (atom_under_more b) x f.0;
          vars = each_of_lem (vars_under_more g) x f.1;
        })) (λ _ t₁ A. record { moved = A.var; added = adds_added I B env base S p w A })

    -- the first half: the inclusion gives each alternative's clauses
    to_heads : (sub sup : ℕ) (k : Valuation) → Included I p sub sup k → (l : Alternatives)
        → ((f : ℕ → ℕ) → Choice I f → some_holds (with_classes I k) f l ≡ true → means (with_classes I k) p sub (f 0) ≡ true) → AllGive sup l k
    to_heads sub sup k h [] q = tt
    to_heads sub sup k h (b ∷ l) q = (
      λ f c e. implies_elim (means (with_classes I k) p sub (f 0)) (means (with_classes I k) p sup (f 0)) (h (f 0) (c 0)) (q f c (or_left (all (atom_holds (with_classes I k) f) b) (some_holds (with_classes I k) f l) e)),
      to_heads sub sup k h l (λ f c e. q f c (or_right (all (atom_holds (with_classes I k) f) b) (some_holds (with_classes I k) f l) e)),
    )

    -- the second: where an alternative holds, so does the consequent
    from_heads : (sup : ℕ) (k : Valuation) (l : Alternatives) → AllGive sup l k → (f : ℕ → ℕ) → Choice I f → some_holds (with_classes I k) f l ≡ true → means (with_classes I k) p sup (f 0) ≡ true
    from_heads sup k [] h f c e = absurd (false≢true e)
    from_heads sup k (b ∷ l) h f c e = go (all (atom_holds (with_classes I k) f) b) refl e (from_heads sup k l h.1 f c)
      where
        go : (d : Bool) → all (atom_holds (with_classes I k) f) b ≡ d → d || some_holds (with_classes I k) f l ≡ true → (some_holds (with_classes I k) f l ≡ true → means (with_classes I k) p sup (f 0) ≡ true)
            → means (with_classes I k) p sup (f 0) ≡ true
        go true q e r = h.0 f c q
        go false q e r = r e

    module _ (sub sup : ℕ) (ksub : sub < length p) (ksup : sup < length p) (s : Out) (b : base ≤ s.next_fresh) where
      abbrev Says : Out → Type 0
      Says t = Added I B env base S p w s (Included I p sub sup) (Nothing I B env base S p w) (Included I p sub sup) t

      -- the antecedent, from a restart
      pub antecedent_coded : Post (λ o t. Coded I B env base S (restarted s) (λ k. means (with_classes I k) p sub) 0 o t) (encode_antecedent env p sub 0 (restarted s))
      antecedent_coded = encode_means I B env base S p w (suc sub) sub 0 (restarted s) (le_refl (suc sub)) ksub (le_refl 1)

      -- its alternatives
      pub bodies_mean : (l : Alternatives) (s₁ : Out) → Encoded I B env base S (restarted s) (λ k. means (with_classes I k) p sub) 0 l s₁ → Post (λ _ t. Says t) (emit_bodies env p l sup s₁)
      bodies_mean l s₁ A =
          let Q : Quiet s s₁ = quiet_trans (restart_quiet s) A.reads.quiet in
          post_map (bodies_added sup l s₁ ksup (omega (arith, Q.fresh)) A.reads.var A.under A.vars) (λ _ t D.
          added_map I B env base S p w
          (λ k m h. to_heads sub sup k h l (A.sound k m))
          (λ k m h x u. implies_intro (means (with_classes I k) p sub x) (means (with_classes I k) p sup x) (λ e.
          let q = A.full k m (λ _. x) (λ _. u) e in
          ap (means (with_classes I k) p sup) (q.2 0 (le_refl 1)) ∙ from_heads sup k l h q.0 q.1 q.3))
          (quiet_added I B env base S p w Q D))

      -- an antecedent that may not be encoded: a deferral
      pub soft_means : Post (λ _ t. Says t) (then (encode_antecedent env p sub 0 (restarted s)) (λ o. bodies_or_defer env p sup o))
      soft_means = post_then antecedent_coded go
        where
          go : (o : Option Alternatives) (s₁ : Out) → Coded I B env base S (restarted s) (λ k. means (with_classes I k) p sub) 0 o s₁ → Post (λ _ t. Says t) (bodies_or_defer env p sup o s₁)
          go none s₁ A = post_map (defer_added I B env base S p w Antecedent s₁) (λ _ t D. quiet_added I B env base S p w (quiet_trans (restart_quiet s) A.quiet) D)
          go (some l) s₁ A = bodies_mean l s₁ A
