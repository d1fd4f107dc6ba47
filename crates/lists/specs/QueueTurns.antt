-- The limits that wait in scratch, over one call after another. Assumes nothing.
use Rattle.std.specs.Prelude.{◌≡◌, refl, List, [], ◌∷◌, ◌++◌, ℕ}
use Rattle.std.proofs.Common.{ap, subst, ◌∙◌}
use Prim.{Unit, tt}
use Rattle.words.specs.Words.{words}
use Rattle.ir.specs.declared.counters.Counters.{Counters}
use Rattle.ir.specs.Answer.{Answer}
use Rattle.ir.specs.Answer.{Done, Refused}
use Rattle.rules.specs.Base.{Res, ok, then}
use Rattle.rules.specs.State.{Env}
use Rattle.rules.specs.Axioms.{Clausifier, C}
use Rattle.rules.specs.Post.{give, post_ok}
use Rattle.waiting.specs.Limits.{Waits}
use Rattle.hands.specs.Hands.{Four, four}
use Rattle.axioms.specs.Wholes.{standing, Clausifying, Clausified, WaitingWhole, Queued}
use Rattle.axioms.specs.QueuedLaws.{queued_no}
use Rattle.lists.specs.Turns.{SameLong, Passed, Queueing, TurnedWaits, DidQueued}
use Rattle.lists.specs.TurnLaws.{own_state, whole_answered, passed_env, called}
use Rattle.lists.specs.ListTurns.{each_append, each_cons, each_nil, each_of, list_same, list_start, list_end, list_skip, list_next, list_stop, part_next, part_stop}

pub queueing_start : {R : Type 0} (begin : Env → Clausifier → R) (k : Counters) (x : Four) → Queueing begin begin k k x x
queueing_start begin k x = record { so = λ env s p E t W. record { reached = record { state = standing k x s; stands = record { pool = refl; tables = t }; same = refl }; waits = W } }

-- the same, said otherwise
pub queueing_skip : {R : Type 0} (begin rest rest' : Env → Clausifier → R) (k m : Counters) (x y : Four) → ((env : Env) (z : Clausifier) → rest env z ≡ rest' env z) → Queueing begin rest k m x y → Queueing begin rest' k m x y
queueing_skip begin rest rest' k m x y f Q = record {
  so = λ env s p E t W.
      let S = Q.so env s p E t W in
      record { reached = record { state = S.reached.state; stands = S.reached.stands; same = S.reached.same ∙ f env S.reached.state }; waits = S.waits };
}

module _ (begin rest : Env → C (Unit {0})) (k m : Counters) (x y : Four) where
  -- then a call
  pub queueing_step : Passed begin rest k m x y → (one rest' : Env → C (Unit {0})) (y' : Four) (m' : Counters) (j : ℕ) → ((env : Env) (z : Clausifier) → rest env z ≡ then (one env z) (λ _. rest' env))
      → Clausified one m y y' (Done m' j) → Queued one m y y' → Queueing begin rest k m x y → Queueing begin rest' k m' x y'
  queueing_step P one rest' y' m' j f D U Q = record {
    so = λ env s p E t W.
        let S = Q.so env s p E t W in
        let z = S.reached.state in
        let A = whole_answered m m' j env.rooms y' (one env z) (called begin rest k m x y P one y' (Done m' j) D env z E S.reached.stands) in
        let K = U.waits env z.out p (passed_env begin rest k m x y P env E) S.reached.stands.tables S.waits in
        record {
          reached = record { state = A.state; stands = A.stands; same = S.reached.same ∙ f env z ∙ ap (λ (r : Res Clausifier (Unit {0})). then r (λ _. rest' env)) A.is };
          waits = post_ok (λ _ u. Waits y'.scratch (p ++ u.out.limits)) tt A.state (subst (WaitingWhole y'.scratch p) (ap (one env) (own_state m env.rooms y z S.reached.stands) ∙ A.is) K);
        };
  }

  -- no rule is left
  pub queueing_end : ((env : Env) (z : Clausifier) → rest env z ≡ ok tt z) → Queueing begin rest k m x y → Queued begin k x y
  queueing_end f Q = record {
    waits = λ env s p E t W.
        let S = Q.so env s p E t W in
        rw (S.reached.same, f env S.reached.state) (give S.waits);
  }

-- ---- a rule for each element of a list: the laws of ListTurns, with what waits
module _ {A : Type 0} (f : Env → A → C (Unit {0})) where
  pub queue_start : (k : Counters) (s c a d : List ℕ) (l r : List A) → Clausifying s k → l ≡ r → TurnedWaits (each_of f l) (each_of f r) k k (four (words s) c a d) s c a d
  queue_start k s c a d l r G q = record {
    turned = list_start f k s c a d l r G q;
    queueing = queueing_skip (each_of f l) (each_of f l) (each_of f r) k k (four (words s) c a d) (four (words s) c a d) (list_same f l r q) (queueing_start (each_of f l) k (four (words s) c a d));
  }

  module _ (begin : Env → C (Unit {0})) (k m : Counters) (x : Four) (s c a d : List ℕ) (l : List A) (T : TurnedWaits begin (each_of f l) k m x s c a d) where
    abbrev y : Four
    y = four (words s) c a d

    pub queue_end : l ≡ [] → (Clausified begin k x y (Done m 0) × Queued begin k x y) × Clausifying s m
    queue_end q =
        let E = list_end f begin k m x s c a d l T.turned q in
        ((E.0, queueing_end begin (each_of f l) k m x y (λ env z. list_same f l [] q env z ∙ each_nil (f env) z) T.queueing), E.1)

    pub queue_skip : (r : List A) → l ≡ r → TurnedWaits begin (each_of f r) k m x s c a d
    queue_skip r q = record { turned = list_skip f begin k m x s c a d l T.turned r q; queueing = queueing_skip begin (each_of f l) (each_of f r) k m x y (list_same f l r q) T.queueing }

    module _ (s' c' a' d' : List ℕ) (z : Answer) where
      abbrev y' : Four
      y' = four (words s') c' a' d'

      stopped : (n : ℕ) → Clausified begin k x y' (Refused n) → Clausified begin k x y' (Refused n) × Queued begin k x y'
      stopped n D = (D, queued_no begin k x y' n D)

      -- a call for the first element
      module _ (e : A) (r : List A) (q : l ≡ e ∷ r) (D : DidQueued (λ env. f env e) m s c a d s' c' a' d' z) where
        pub queue_next : SameLong y y' → (m' : Counters) (j : ℕ) → z ≡ Done m' j → TurnedWaits begin (each_of f r) k m' x s' c' a' d'
        queue_next L m' j h = record {
          turned = list_next f begin k m x s c a d l T.turned s' c' a' d' z e r q (D.0.0, D.1) L m' j h;
          queueing =
              queueing_step begin (each_of f l) k m x y T.turned.passed (λ env. f env e) (each_of f r) y' m' j (λ env u. list_same f l (e ∷ r) q env u ∙ each_cons (f env) e r u)
              (subst (Clausified (λ env. f env e) m y y') h D.0.0) D.0.1 T.queueing;
        }

        pub queue_stop : (n : ℕ) → z ≡ Refused n → Clausified begin k x y' (Refused n) × Queued begin k x y'
        queue_stop n h = stopped n (list_stop f begin k m x s c a d l T.turned s' c' a' d' z e r q (D.0.0, D.1) n h)

      -- for the first ones
      module _ (o r : List A) (q : l ≡ o ++ r) (D : DidQueued (each_of f o) m s c a d s' c' a' d' z) where
        pub queue_part : SameLong y y' → (m' : Counters) (j : ℕ) → z ≡ Done m' j → TurnedWaits begin (each_of f r) k m' x s' c' a' d'
        queue_part L m' j h = record {
          turned = part_next f begin k m x s c a d l T.turned s' c' a' d' z o r q (D.0.0, D.1) L m' j h;
          queueing =
              queueing_step begin (each_of f l) k m x y T.turned.passed (each_of f o) (each_of f r) y' m' j (λ env u. list_same f l (o ++ r) q env u ∙ each_append (f env) o r u)
              (subst (Clausified (each_of f o) m y y') h D.0.0) D.0.1 T.queueing;
        }

        pub queue_part_stop : (n : ℕ) → z ≡ Refused n → Clausified begin k x y' (Refused n) × Queued begin k x y'
        queue_part_stop n h = stopped n (part_stop f begin k m x s c a d l T.turned s' c' a' d' z o r q (D.0.0, D.1) n h)
