-- The limits that wait in scratch: rules that let them be, refusals, and what goes on after an answer. Assumes nothing.
use Rattle.std.specs.Prelude.{◌≡◌, refl, List, ◌++◌, ℕ}
use Rattle.std.proofs.Common.{sym, subst, ◌∙◌, arith}
use Rattle.ir.specs.declared.counters.Counters.{Counters}
use Rattle.ir.specs.Answer.{Answer}
use Rattle.ir.specs.Answer.{Done, Refused}
use Rattle.ir.specs.declared.atom.Atom.{Atom}
use Rattle.rules.specs.Base.{Res, ok, refused, then}
use Rattle.rules.specs.State.{Limit, Rooms, Env, Out}
use Rattle.rules.specs.Post.{Post, gives, refuses, post_then, post_map}
use Rattle.tables.specs.Drawn.{Tables, tables, show, shown, after}
use Rattle.waiting.specs.Limits.{Waits, Behind}
use Rattle.waiting.specs.LimitLaws.{waits_kept}
use Rattle.hands.specs.Hands.{Four, Did, Waiting, Queues}

-- ---- rules that let the limits be
abbrev pub Quiet : {A : Type 0} → Out → Res Out A → Type 0
Quiet s X = Post (λ _ t. t.limits ≡ s.limits) X

pub quiet_then : {A B : Type 0} (s : Out) (X : Res Out A) (g : A → Out → Res Out B) → Quiet s X → ((a : A) (t : Out) → Quiet t (g a t)) → Quiet s (then X g)
quiet_then s X g h f = post_then h (λ a t e. post_map (f a t) (λ b u q. q ∙ e))

-- ---- what waits
pub waiting_kept : {A : Type 0} (w w' : List ℕ) (p : List Limit) (s : Out) (X : Res Out A) → Behind w w' → Quiet s X → Waits w (p ++ s.limits) → Waiting w' p X
waiting_kept w w' p s X B h W = post_map h (λ a t e. waits_kept w w' (p ++ t.limits) B (subst (λ (l : List Limit). Waits w (p ++ l)) (sym e) W))

-- a rule that lets it be
pub waiting_then : {A B : Type 0} (w : List ℕ) (p : List Limit) (X : Res Out A) (g : A → Out → Res Out B) → Waiting w p X → ((a : A) (t : Out) → Quiet t (g a t)) → Waiting w p (then X g)
waiting_then w p X g h f = post_then h (λ a t W. post_map (f a t) (λ b u e. subst (λ (l : List Limit). Waits w (p ++ l)) (sym e) W))

module _ {A : Type 0} (value : A → ℕ) (k : Counters) (rooms : Rooms) (c a d : List ℕ) where
  pub waiting_no : (w : List ℕ) (p : List Limit) (r : Answer) (e : ℕ) (X : Res Out A) → r ≡ Refused e → after r c a d ≡ shown value k rooms X → Waiting w p X
  waiting_no w p r e (ok x s) q h =
      let t : ◌≡◌ {A = Res Tables ℕ} (refused e) (ok (value x) (show k rooms s)) = subst (λ (z : Answer). after z c a d ≡ ok (value x) (show k rooms s)) q h in
      absurd (let z : ◌≡◌ {A = ℕ} 0 1 = cc in omega arith)
  waiting_no w p r e (refused n) q h = refuses

  -- after an answer that is one
  pub waiting_done : {B : Type 0} (w w' : List ℕ) (p : List Limit) (r : Answer) (k' : Counters) (q : ℕ) (X : Res Out A) (g : A → Out → Res Out B) → r ≡ Done k' q → after r c a d ≡ shown value k rooms X → Waiting w p X
      → ((x : A) (s : Out) → tables k' c a d ≡ show k rooms s → Waits w (p ++ s.limits) → Waiting w' p (g x s)) → Waiting w' p (then X g)
  waiting_done w w' p r k' q (ok x s) g e h W f =
      let t : ◌≡◌ {A = Res Tables ℕ} (ok q (tables k' c a d)) (ok (value x) (show k rooms s)) = subst (λ (z : Answer). after z c a d ≡ ok (value x) (show k rooms s)) e h in
      f x s (cc) (given W)
    where
      given : Waiting w p (ok x s) → Waits w (p ++ s.limits)
      given (gives h) = h
  waiting_done w w' p r k' q (refused n) g e h W f = refuses

-- ---- of a call
module _ {A : Type 0} (low : ℕ) (rule : Env → ℕ → List Atom → Out → Res Out A) (k : Counters) (base n : ℕ) (x y : Four) where
  pub queues_no : (value : A → ℕ) (e : ℕ) → Did value low rule k base n x y (Refused e) → Queues low rule k base n x y
  queues_no value e D = record {
    waits = λ env f b s p lo E i t W. waiting_no value k env.rooms y.clauses y.atoms y.deferrals y.scratch p (Refused e) e (rule env f b s) refl (D.equal env f b s lo E i t);
  }

  pub both_no : (value : A → ℕ) (e : ℕ) → Did value low rule k base n x y (Refused e) → Did value low rule k base n x y (Refused e) × Queues low rule k base n x y
  both_no value e D = (D, queues_no value e D)

  pub queues_quiet : Behind x.scratch y.scratch → ((env : Env) (f : ℕ) (b : List Atom) (s : Out) → Quiet s (rule env f b s)) → Queues low rule k base n x y
  queues_quiet B h = record { waits = λ env f b s p lo E i t W. waiting_kept x.scratch y.scratch p s (rule env f b s) B (h env f b s) W }
