-- The limits that wait in scratch, over rules of the clausifier. Assumes nothing.
use Rattle.std.specs.Prelude.{◌≡◌, List, [], ◌++◌, ℕ}
use Rattle.std.proofs.Common.{sym, subst, arith}
use Rattle.ir.specs.declared.counters.Counters.{Counters}
use Rattle.ir.specs.Answer.{Done, Refused}
use Rattle.rules.specs.Base.{Res, ok, refused, then}
use Rattle.rules.specs.Pool.{Pool}
use Rattle.rules.specs.State.{Limit, Rooms, Env, Out, E}
use Rattle.rules.specs.Axioms.{Clausifier, C, back_out, in_out}
use Rattle.rules.specs.Post.{Post, gives, refuses, give, post_map}
use Rattle.pool.specs.Layout.{pool_of}
use Rattle.waiting.specs.Limits.{Waits, Behind}
use Rattle.waiting.specs.LimitLaws.{waits_kept}
use Rattle.hands.specs.Hands.{Four, four, EnvHeld, Waiting, Queues}
use Rattle.leaves.specs.StepLaws.{hand_zero}
use Rattle.axioms.specs.RoleAxioms.{hand_at}
use Rattle.axioms.specs.Wholes.{shown_whole, after_whole, standing, Untouched, Onward, Clausified, WaitingWhole, Queued}
use Rattle.axioms.specs.WholeLaws.{Standing, whole_stands}
use Rattle.axioms.specs.OnwardLaws.{env_untouched, stood}

-- a state with the same limits
pub waits_same : (w : List ℕ) (p : List Limit) (s t : Out) → t.limits ≡ s.limits → Waits w (p ++ s.limits) → Waits w (p ++ t.limits)
waits_same w p s t e W = subst (λ (l : List Limit). Waits w (p ++ l)) (sym e) W

-- ---- rules that only read the pool
pub waits_out : {A : Type 0} (w : List ℕ) (p : List Limit) (z : Clausifier) (X : Res Out A) → Waiting w p X → WaitingWhole w p (back_out z X)
waits_out w p z (ok a s) (gives W) = give W
waits_out w p z (refused n) W = refuses

pub queues_queued : (rule : Env → Pool → E (Unit {0})) (k : Counters) (x y : Four) → Queues 0 (λ env f b s. rule env (pool_of x.scratch k.concepts) s) k hand_at 0 x y → Queued (λ env. in_out (rule env)) k x y
queues_queued rule k x y Q = record {
  waits = λ env s p E t W. waits_out y.scratch p (standing k x s) (rule env (pool_of x.scratch k.concepts) s) (Q.waits env 0 [] s p (omega arith) E (hand_zero x.scratch hand_at) t W);
}

-- ---- a rule that lets the limits be: where the words behind are the same, what waits
pub waits_still : {A : Type 0} (w w' : List ℕ) (p : List Limit) (z : Clausifier) (X : Res Clausifier A) → Behind w w' → Post (λ _ u. u.out.limits ≡ z.out.limits) X → Waits w (p ++ z.out.limits) → WaitingWhole w' p X
waits_still w w' p z X B h W = post_map h (λ a u e. waits_kept w w' (p ++ u.out.limits) B (waits_same w p z.out u.out e W))

-- ---- a refusal
pub queued_no : (rule : Env → C (Unit {0})) (k : Counters) (x y : Four) (n : ℕ) → Clausified rule k x y (Refused n) → Queued rule k x y
queued_no rule k x y n K = record { waits = λ env s p E t W. by env p (rule env (standing k x s)) (K.equal env s E t) }
  where
    by : (env : Env) (p : List Limit) (X : Res Clausifier (Unit {0})) → refused n ≡ shown_whole (λ _. 0) k env.rooms X → WaitingWhole y.scratch p X
    by env p (ok a z) e = absurd (let z : ◌≡◌ {A = ℕ} 0 1 = cc in omega arith)
    by env p (refused o) e = refuses

-- ---- one call after another
pub waits_then : {A : Type 0} (value : A → ℕ) (k : Counters) (rooms : Rooms) (y : Four) (m : Res Clausifier A) (k' : Counters) (i : ℕ) (w w' : List ℕ) (p : List Limit) (g : A → Clausifier → Res Clausifier (Unit {0}))
    → after_whole (Done k' i) y ≡ shown_whole value k rooms m → WaitingWhole w p m
    → ((a : A) (z : Clausifier) → i ≡ value a → Standing k' rooms y z → Waits w (p ++ z.out.limits) → WaitingWhole w' p (g a z))
    → WaitingWhole w' p (then m g)
waits_then value k rooms y (ok a z) k' i w w' p g e (gives W) f = let S = whole_stands value k rooms y a z k' i e in f a z S.0 S.1 W
waits_then value k rooms y (refused n) k' i w w' p g e W f = refuses

-- what waits after a call from there, of the state z
pub queued_on : (rule : Env → C (Unit {0})) (k l : Counters) (w w1 c a d : List ℕ) (y : Four) → Untouched w w1 → Onward k l → Queued rule l (four w1 c a d) y
    → (env : Env) (z : Clausifier) (p : List Limit) → EnvHeld env k (four w c a d) → Standing l env.rooms (four w1 c a d) z → Waits w1 (p ++ z.out.limits) → WaitingWhole y.scratch p (rule env z)
queued_on rule k l w w1 c a d y U O K env z p E S W =
    subst (λ (u : Clausifier). WaitingWhole y.scratch p (rule env u)) (stood l (four w1 c a d) z S.pool)
    (K.waits env z.out p (record { read = env_untouched env k l w w1 U O E.read; lent = E.lent }) S.tables W)

-- a rule that answers the same
pub queued_is : (rule rule' : Env → C (Unit {0})) (k : Counters) (x y : Four) → ((env : Env) (z : Clausifier) → rule env z ≡ rule' env z) → Queued rule k x y → Queued rule' k x y
queued_is rule rule' k x y e Q = record { waits = λ env s p E t W. subst (WaitingWhole y.scratch p) (e env (standing k x s)) (Q.waits env s p E t W) }
