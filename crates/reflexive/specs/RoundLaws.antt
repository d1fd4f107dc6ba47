-- Rounds until one adds nothing. Assumes nothing.
use Rattle.std.specs.Prelude.{◌≡◌}
use Rattle.std.proofs.Math.Path.{refl, ap, subst}
use Rattle.std.proofs.Common.{sym, ◌∙◌, arith, eq-eqb, ne_eqb}
use mathlib.Core.List.{List, []}
use Prim.Native.Nat.{ℕ, zero, suc}
use Rattle.std.proofs.Math.ListN.{length}
use Rattle.words.specs.Words.{words}
use Rattle.rules.specs.Concept.{Axiom}
use Rattle.rules.specs.State.{Env}
use Rattle.rules.specs.Reflexive.{all_edges, round, closed, reflexive_role_ids}
use Rattle.rules.proofs.ReflexiveLaws.{closed_enough}
use Rattle.ontology.specs.Layout.{axioms_of}
use Rattle.inverse.specs.Layout.{RolesHeld, Building}
use Rattle.reflexive.specs.Flags.{FlagsHeld, MapWithin}
use Rattle.reflexive.specs.Steps.{axioms_edges, declared_ids, Ready, Step, Begun, Left, Closing}
use Rattle.reflexive.specs.FlagLaws.{only_refl, only_trans, only_sym, roles_kept, map_kept}
use Rattle.ontology.specs.KeptAxioms.{axioms_kept}
use Rattle.inverse.specs.AxiomLaws.{building_kept}
use Rattle.reflexive.specs.AxiomLaws.{flags_axioms}

-- the fuel after a round
less : ℕ → ℕ
less zero = zero
less (suc f) = f

-- ---- towards a set that a round does not change
module _ (edges : List (ℕ × ℕ)) (target : List ℕ) (stable : round edges target ≡ target) where
  closed_next : (f : ℕ) (set : List ℕ) → target ≡ closed f edges set → (length (round edges set) ≡ length set → ⊥) → target ≡ closed (less f) edges (round edges set)
  unfolding closed less
  closed_next zero set e d = absurd (d (ap length (ap (round edges) (sym e) ∙ stable ∙ e)))
  closed_next (suc f) set e d = e ∙ rw (ne_eqb (length set) (length (round edges set)) (λ z. d (sym z))) refl

  closed_end : (f : ℕ) (set : List ℕ) → target ≡ closed f edges set → length (round edges set) ≡ length set → round edges set ≡ target
  unfolding closed
  closed_end f set e h = ap (round edges) (sym (at f e)) ∙ stable
    where
      at : (f : ℕ) → target ≡ closed f edges set → target ≡ set
      at zero e = e
      at (suc f) e = e ∙ rw (eq-eqb (length set) (length (round edges set)) (sym h)) refl

-- ---- the loop over rounds
module _ (s₀ s : List ℕ) (n r : ℕ) (A : Building s₀ n) (B : Begun (words s₀) (words s) r (λ env. declared_ids (words s₀) n env [])) (l : length s ≡ length s₀) where
  pub closing_first : Closing s s n r
  unfolding reflexive_role_ids
  closing_first = record {
    left = λ env R.
        let m = B.made env (roles_kept (words s) (words s₀) (only_sym (words s₀) (words s) B.only) env.inverse_canon R) in
        subst (λ (k : List Axiom). Left (words s) r (all_edges env k) (reflexive_role_ids env k)) (sym (axioms_kept (words s₀) (words s) n A.held (flags_axioms (words s₀) (words s) B.only)))
        (record { set = declared_ids (words s₀) n env []; fuel = suc (length (all_edges env (axioms_of (words s₀) n))); held = m.0; count = m.1; same = refl });
    only = only_refl (words s);
    sized = B.sized;
    long = refl;
  }

  -- the axioms and the role map before the flags were written
  pub closing_back : (w' : List ℕ) (t : ℕ)
      → ((env : Env) → RolesHeld (words s) env.inverse_canon → FlagsHeld w' (reflexive_role_ids env (axioms_of (words s) n)) × (t ≡ length (reflexive_role_ids env (axioms_of (words s) n))))
      → (env : Env) → RolesHeld (words s₀) env.inverse_canon → FlagsHeld w' (reflexive_role_ids env (axioms_of (words s₀) n)) × (t ≡ length (reflexive_role_ids env (axioms_of (words s₀) n)))
  closing_back w' t f env R = subst (λ (k : List Axiom). FlagsHeld w' (reflexive_role_ids env k) × (t ≡ length (reflexive_role_ids env k))) (axioms_kept (words s₀) (words s) n A.held (flags_axioms (words s₀) (words s) B.only))
      (f env (roles_kept (words s₀) (words s) B.only env.inverse_canon R))

module _ (s₀ s : List ℕ) (n size : ℕ) (K : Closing s₀ s n size) (A : Building s₀ n) where
  pub closing_building : Building s n
  closing_building = building_kept s₀ s n A (flags_axioms (words s₀) (words s) K.only) K.long

  pub closing_ready : MapWithin (words s₀) → Ready s size
  closing_ready M = record { space = omega (arith, A.space, K.long); map = map_kept (words s₀) (words s) K.only M; sized = K.sized }

  module _ (s' : List ℕ) (r : ℕ) (S : Step (words s) (words s') size r (axioms_edges (words s) n)) (l : length s' ≡ length s) where
    -- the set after a round
    after : (env : Env) → RolesHeld (words s₀) env.inverse_canon → (set : List ℕ) → FlagsHeld (words s) set → size ≡ length set → FlagsHeld (words s') (axioms_edges (words s₀) n env set) × (r ≡ length (axioms_edges (words s₀) n env set))
    after env R set H c = subst (λ (x : List Axiom). FlagsHeld (words s') (round (all_edges env x) set) × (r ≡ length (round (all_edges env x) set))) (axioms_kept (words s₀) (words s) n A.held (flags_axioms (words s₀) (words s) K.only))
        (S.moved env (roles_kept (words s₀) (words s) K.only env.inverse_canon R) set H c)

    pub closing_next : (r ≡ size → ⊥) → Closing s₀ s' n r
    closing_next d = record {
      left = λ env R.
          let L = K.left env R in
          let m = after env R L.set L.held L.count in
          record {
            set = axioms_edges (words s₀) n env L.set;
            fuel = less L.fuel;
            held = m.0;
            count = m.1;
            same = closed_next (all_edges env (axioms_of (words s₀) n)) (reflexive_role_ids env (axioms_of (words s₀) n)) (closed_enough env (axioms_of (words s₀) n)) L.fuel L.set L.same (λ z. d (m.1 ∙ z ∙ sym L.count));
          };
      only = only_trans (words s₀) (words s) (words s') K.only S.only;
      sized = S.sized;
      long = l ∙ K.long;
    }

    pub closing_end : r ≡ size → (env : Env) → RolesHeld (words s₀) env.inverse_canon → FlagsHeld (words s') (reflexive_role_ids env (axioms_of (words s₀) n)) × (size ≡ length (reflexive_role_ids env (axioms_of (words s₀) n)))
    closing_end e env R =
        let L = K.left env R in
        let m = after env R L.set L.held L.count in
        let q = closed_end (all_edges env (axioms_of (words s₀) n)) (reflexive_role_ids env (axioms_of (words s₀) n)) (closed_enough env (axioms_of (words s₀) n)) L.fuel L.set L.same (sym m.1 ∙ e ∙ L.count) in
        (subst (FlagsHeld (words s')) q m.0, sym e ∙ m.1 ∙ ap length q)
