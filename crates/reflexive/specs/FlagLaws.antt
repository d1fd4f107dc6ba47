-- Flags, and the steps that set them. Assumes nothing.
use Rattle.std.specs.Prelude.{◌≡◌, Bool, true, false, not, List, [], ◌∷◌, eqb, length, get_or, replicate}
use Rattle.std.proofs.Math.Path.{refl}
use Rattle.std.proofs.Common.{sym, ap, subst, ◌∙◌, arith, get_or-set_same, get_or-set_other}
use Prim.{tt}
use Prim.Native.Nat.{ℕ, zero, suc, ◌+◌, ◌*◌, ◌/◌, ◌<◌, ◌≤◌}
use borrow.Author.Tests.{eqb-true, eqb-false, ne_eqb}
use Rattle.std.proofs.Math.ListN.{set}
use Rattle.std.proofs.lemmas.List.{length-replicate, get_or-replicate}
use Rattle.std.proofs.lemmas.List.Edits.{sets}
use Rattle.words.specs.Words.{words}
use Rattle.words.specs.Runs.{get_d_sets_after, get_d_sets_before, get_d_sets_in}
use Rattle.ir.specs.Scratch.{roles_at, alternatives_at}
use Rattle.rules.specs.Base.{contains}
use Rattle.rules.specs.Deck.{most_roles}
use Rattle.rules.specs.Inverse.{InverseCanon}
use Rattle.rules.specs.State.{Env}
use Rattle.rules.specs.Stats.{one}
use Rattle.rules.specs.TextLaws.{by_test}
use Rattle.rules.specs.Reflexive.{round}
use Rattle.inverse.specs.Layout.{RolesHeld}
use Rattle.reflexive.specs.Flags.{flags_at, is_flagged, FlagsHeld, MapWithin, OnlyFlags}
use Rattle.reflexive.specs.Steps.{id_at, flagged, insertion, edge, Ready, Codes, Step, Begun, Walk}

-- ---- what is beside the flags
pub only_refl : (w : List ℕ) → OnlyFlags w w
only_refl w = record { before = λ j l. refl; behind = λ j l. refl }

pub only_trans : (w w₁ w₂ : List ℕ) → OnlyFlags w w₁ → OnlyFlags w₁ w₂ → OnlyFlags w w₂
only_trans w w₁ w₂ A B = record { before = λ j l. B.before j l ∙ A.before j l; behind = λ j l. B.behind j l ∙ A.behind j l }

pub only_sym : (w w' : List ℕ) → OnlyFlags w w' → OnlyFlags w' w
only_sym w w' A = record { before = λ j l. sym (A.before j l); behind = λ j l. sym (A.behind j l) }

only_set : (w w' : List ℕ) (a x : ℕ) → a < most_roles → w' ≡ set w (flags_at + a) x → OnlyFlags w w'
only_set w w' a x h e = record {
  before = λ j l. rw e (get_or-set_other w (flags_at + a) j x 0 (λ z. absurd (omega arith)));
  behind = λ j l. rw e (get_or-set_other w (flags_at + a) j x 0 (λ z. absurd (omega arith)));
}

module _ (w w' : List ℕ) (O : OnlyFlags w w') where
  pub roles_kept : (m : InverseCanon) → RolesHeld w m → RolesHeld w' m
  roles_kept m H = record { mapped = λ r l. O.before (roles_at + r) (omega arith) ∙ H.mapped r l }

  pub map_kept : MapWithin w → MapWithin w'
  map_kept M = record { codes = λ r l. rw (O.before (roles_at + r) (omega arith)) (M.codes r l) }

  pub id_kept : (c : ℕ) → c < 2 * most_roles → id_at w' c ≡ id_at w c
  id_kept c h = ap (λ (x : ℕ). x / 2) (O.before (roles_at + c / 2) (omega arith))

  pub codes_kept : (i n : ℕ) → Codes w i n → Codes w' i n
  codes_kept i n C = record { above = C.above; below = C.below; small = λ j l. rw (O.behind (i + j) (omega (arith, C.above))) (C.small j l) }

pub id_small : (w : List ℕ) (c a : ℕ) → MapWithin w → c < 2 * most_roles → a ≡ id_at w c → a < most_roles
id_small w c a M h e = let q = M.codes (c / 2) (omega arith) in omega arith

-- ---- how many flags are set
pub flagged_most : (w : List ℕ) (n : ℕ) → flagged w n ≤ n
unfolding flagged
flagged_most w zero = omega arith
flagged_most w (suc n) = by (is_flagged w n) (flagged_most w n)
  where
    by : (b : Bool) → flagged w n ≤ n → one b + flagged w n ≤ suc n
    by true h = omega arith
    by false h = omega arith

flagged_none : (w : List ℕ) (n : ℕ) → ((b : ℕ) → b < n → is_flagged w b ≡ false) → flagged w n ≡ 0
unfolding flagged
flagged_none w zero h = refl
flagged_none w (suc n) h = rw (h n (omega arith)) (let q = flagged_none w n (λ b l. h b (omega arith)) in omega arith)

module _ (w w' : List ℕ) (a : ℕ) (other : (b : ℕ) → (b ≡ a → ⊥) → is_flagged w' b ≡ is_flagged w b) where
  flagged_same : (n : ℕ) → n ≤ a → flagged w' n ≡ flagged w n
  unfolding flagged
  flagged_same zero h = refl
  flagged_same (suc n) h = rw (other n (λ z. absurd (omega arith)), flagged_same n (omega arith)) refl

  flagged_more : is_flagged w a ≡ false → is_flagged w' a ≡ true → (n : ℕ) → a < n → flagged w' n ≡ flagged w n + 1
  unfolding flagged
  flagged_more f t zero h = absurd (omega arith)
  flagged_more f t (suc n) h =
      by_test (eqb n a)
      (λ e. let z : n ≡ a = eqb-true n a e in rw (z, f, t) (let q = flagged_same a (omega arith) in omega arith))
      (λ e. let d = eqb-false n a e in rw (other n d) (let q = flagged_more f t n (omega (arith, d)) in omega arith))

-- ---- a flag and the set
flag_set_lem : (x : ℕ) → (x ≡ 0 → ⊥) → not (eqb x 0) ≡ true
flag_set_lem x h = rw (ne_eqb x 0 h) refl

module _ (w : List ℕ) (a x : ℕ) (h : a < most_roles) (e : x ≡ get_or w (flags_at + a) 0) where
  in_set : (x ≡ 0 → ⊥) → (set : List ℕ) → FlagsHeld w set → contains set a ≡ true
  in_set d set H = sym (H.marked a h) ∙ rw (← e) (flag_set_lem x d)

  not_in_set : x ≡ 0 → (set : List ℕ) → FlagsHeld w set → contains set a ≡ false
  not_in_set z set H = sym (H.marked a h) ∙ rw (← e, z) refl

-- ---- steps
pub step_none : (w : List ℕ) (size : ℕ) → size ≡ flagged w most_roles → Step w w size size (λ env set. set)
step_none w size e = record { moved = λ env R set H l. (H, l); only = only_refl w; sized = e; grows = omega arith }

pub step_as : (w w' : List ℕ) (size r : ℕ) (f g : Env → List ℕ → List ℕ) → ((env : Env) → RolesHeld w env.inverse_canon → (set : List ℕ) → FlagsHeld w set → f env set ≡ g env set)
    → Step w w' size r f → Step w w' size r g
step_as w w' size r f g q S = record {
  moved = λ env R set H l. subst (λ (k : List ℕ). FlagsHeld w' k × (r ≡ length k)) (q env R set H) (S.moved env R set H l);
  only = S.only;
  sized = S.sized;
  grows = S.grows;
}

step_then : (w w₁ w₂ : List ℕ) (size r t : ℕ) (f g : Env → List ℕ → List ℕ) → Step w w₁ size r f → Step w₁ w₂ r t g → Step w w₂ size t (λ env set. g env (f env set))
step_then w w₁ w₂ size r t f g A B = record {
  moved = λ env R set H l. let m = A.moved env R set H l in B.moved env (roles_kept w w₁ A.only env.inverse_canon R) (f env set) m.0 m.1;
  only = only_trans w w₁ w₂ A.only B.only;
  sized = B.sized;
  grows = omega (arith, A.grows, B.grows);
}

pub begun_then : (w w₁ w₂ : List ℕ) (r t : ℕ) (f : Env → List ℕ) (g : Env → List ℕ → List ℕ) → Begun w w₁ r f → Step w₁ w₂ r t g → Begun w w₂ t (λ env. g env (f env))
begun_then w w₁ w₂ r t f g A B = record {
  made = λ env R. let m = A.made env R in B.moved env (roles_kept w w₁ A.only env.inverse_canon R) (f env) m.0 m.1;
  only = only_trans w w₁ w₂ A.only B.only;
  sized = B.sized;
}

pub begun_as : (w w' : List ℕ) (r : ℕ) (f g : Env → List ℕ) → ((env : Env) → RolesHeld w env.inverse_canon → f env ≡ g env) → Begun w w' r f → Begun w w' r g
begun_as w w' r f g q S = record {
  made = λ env R. subst (λ (k : List ℕ). FlagsHeld w' k × (r ≡ length k)) (q env R) (S.made env R);
  only = S.only;
  sized = S.sized;
}

pub ready_after : (s s' : List ℕ) (size r : ℕ) → Ready s size → OnlyFlags (words s) (words s') → r ≡ flagged (words s') most_roles → length s' ≡ length s → Ready s' r
ready_after s s' size r A O e l = record { space = omega (arith, A.space); map = map_kept (words s) (words s') O A.map; sized = e }

-- ---- no flag is set
module _ (w w' : List ℕ) (e : w' ≡ sets w flags_at (replicate most_roles 0)) (long : alternatives_at ≤ length w) where
  zeros : length (replicate {0} {A = ℕ} most_roles 0) ≡ most_roles
  zeros = length-replicate {0} {A = ℕ} most_roles 0

  cleared : (a : ℕ) → a < most_roles → is_flagged w' a ≡ false
  cleared a h =
      let z : get_or w' (flags_at + a) 0 ≡ 0 = rw e (get_d_sets_in (replicate most_roles 0) w flags_at a 0 (omega (arith, zeros)) (omega (arith, zeros)) ∙ get_or-replicate most_roles a 0 0 h) in
      rw z refl

  pub begun_empty : Begun w w' 0 (λ env. [])
  begun_empty = record {
    made = λ env R. (record { marked = cleared; within = tt }, refl);
    only = record {
      before = λ j l. rw e (get_d_sets_before (replicate most_roles 0) w flags_at j 0 l);
      behind = λ j l. rw e (get_d_sets_after (replicate most_roles 0) w flags_at j 0 (omega (arith, zeros)));
    };
    sized = sym (flagged_none w' most_roles cleared);
  }

-- ---- one id more
module _ (w : List ℕ) (a x size : ℕ) (h : a < most_roles) (e : x ≡ get_or w (flags_at + a) 0) (sized : size ≡ flagged w most_roles) where
  module _ (z : x ≡ 0) (w' : List ℕ) (put : w' ≡ set w (flags_at + a) 1) (long : alternatives_at ≤ length w) where
    new : is_flagged w' a ≡ true
    new = rw (put, get_or-set_same w (flags_at + a) 1 0 (omega arith)) refl

    others : (b : ℕ) → (b ≡ a → ⊥) → is_flagged w' b ≡ is_flagged w b
    others b d = rw (put, get_or-set_other w (flags_at + a) (flags_at + b) 1 0 (λ q. d (omega arith))) refl

    held : (set : List ℕ) → FlagsHeld w set → FlagsHeld w' (a ∷ set)
    held set H = record {
      marked = λ b l. by_test (eqb b a)
          (λ q. let y : b ≡ a = eqb-true b a q in rw (q, y) new)
          (λ q. rw (q, others b (eqb-false b a q)) (H.marked b l));
      within = (h, H.within);
    }

    pub insert_new : Step w w' size (size + 1) (insertion a)
    insert_new = record {
      moved = λ env R set H l. rw (not_in_set w a x h e z set H) (held set H, omega (arith, l));
      only = only_set w w' a 1 h put;
      sized = omega (arith, sized, flagged_more w w' a others (rw (← e, z) refl) new most_roles h);
      grows = omega arith;
    }

-- ---- one edge
module _ (w : List ℕ) (a b x size : ℕ) (h : a < most_roles) (e : x ≡ get_or w (flags_at + a) 0) where
  pub edge_out : x ≡ 0 → size ≡ flagged w most_roles → Step w w size size (edge a b)
  unfolding round
  edge_out z sized = step_as w w size size (λ env set. set) (edge a b) (λ env R set H. rw (not_in_set w a x h e z set H) refl) (step_none w size sized)

  pub edge_in : (x ≡ 0 → ⊥) → (w' : List ℕ) (r : ℕ) → Step w w' size r (insertion b) → Step w w' size r (edge a b)
  unfolding round
  edge_in d w' r S = step_as w w' size r (insertion b) (edge a b) (λ env R set H. rw (in_set w a x h e d set H) refl) S

-- ---- loops
pub walk_next : (s₀ s s' : List ℕ) (size r t i n : ℕ) (f : ℕ → Env → List ℕ → List ℕ) (g : Env → List ℕ → List ℕ) → Walk s₀ s size r i n f → i < n → Step (words s) (words s') r t g
    → ((env : Env) → RolesHeld (words s₀) env.inverse_canon → (set : List ℕ) → g env (f i env set) ≡ f (i + 1) env set) → length s' ≡ length s → Walk s₀ s' size t (i + 1) n f
walk_next s₀ s s' size r t i n f g W h S q l = record {
  within = omega arith;
  step = step_as (words s₀) (words s') size t (λ env set. g env (f i env set)) (f (i + 1)) (λ env R set H. q env R set) (step_then (words s₀) (words s) (words s') size r t (f i) g W.step S);
  long = l ∙ W.long;
}

pub walk_first : (s : List ℕ) (size n : ℕ) (f : ℕ → Env → List ℕ → List ℕ) → size ≡ flagged (words s) most_roles → ((env : Env) (set : List ℕ) → set ≡ f 0 env set) → Walk s s size size 0 n f
walk_first s size n f e q = record { within = omega arith; step = step_as (words s) (words s) size size (λ env set. set) (f 0) (λ env R set H. q env set) (step_none (words s) size e); long = refl }

pub walk_end : (s₀ s : List ℕ) (size r i n : ℕ) (f : ℕ → Env → List ℕ → List ℕ) → Walk s₀ s size r i n f → n ≤ i → Step (words s₀) (words s) size r (f n)
walk_end s₀ s size r i n f W h = let e : i ≡ n = omega (arith, W.within) in subst (λ (k : ℕ). Step (words s₀) (words s) size r (f k)) e W.step

pub walk_at : (s₀ s s' : List ℕ) (size r t i n : ℕ) (f : ℕ → Env → List ℕ → List ℕ) → s' ≡ s → t ≡ r → Walk s₀ s size r i n f → Walk s₀ s' size t i n f
walk_at s₀ s s' size r t i n f e q W = rw (e, q) W
