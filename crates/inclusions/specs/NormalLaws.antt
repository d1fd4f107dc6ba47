-- A rule of the normal form, and a rule of the clausifier that goes on from its state. Assumes nothing.
use Rattle.std.specs.Prelude.{◌≡◌, refl, List, ℕ}
use Rattle.std.proofs.Common.{ap, subst, ◌∙◌, arith}
use Prim.{Unit, tt}
use Rattle.words.specs.Words.{words}
use Rattle.ir.specs.declared.counters.Counters.{Counters}
use Rattle.ir.specs.Answer.{Answer}
use Rattle.ir.specs.Answer as Answers
use Rattle.rules.specs.Base.{Res, ok, refused, M, then, ◌>>=◌}
use Rattle.rules.specs.Pool.{Pool}
use Rattle.rules.specs.Normalize.{St, N, back_in, in_pool}
use Rattle.rules.specs.State.{Env, Out}
use Rattle.rules.specs.Axioms.{Clausifier, C, back_nnf, in_nnf, visited_to}
use Rattle.pool.specs.Layout.{pool_of}
use Rattle.rebuilding.specs.States.{state_of}
use Rattle.tables.specs.Drawn.{tables, show}
use Rattle.waiting.specs.Limits.{Behind}
use Rattle.waiting.specs.LimitLaws.{behind_then}
use Rattle.hands.specs.Hands.{Four, four}
use Rattle.leaves.specs.StepLaws.{visits_are, limit_is}
use Rattle.axioms.specs.Wholes.{shown_whole, after_whole, standing, Untouched, Clausified, WaitingWhole, Queued}
use Rattle.axioms.specs.WholeLaws.{nnf_whole, whole_then, whole_refused, drawn_same}
use Rattle.inclusions.specs.Parted.{Normalised}
use Rattle.axioms.specs.OnwardLaws.{untouched_then, untouched_kept, onward_answer, stands_on}
use Rattle.rules.proofs.WholeLaws.{leaves_nnf}
use Rattle.axioms.specs.QueuedLaws.{waits_still, waits_then, queued_on}
use Rattle.inclusions.specs.GrowLaws.{grew_normal}

module _ (rule : N ℕ) (k : Counters) (s s1 c a d : List ℕ) where
  -- the state that it begins with
  begins : (env : Env) (o : Out) → tables k c a d ≡ show k env.rooms o → state_of k (words s) ≡ record { pool = pool_of (words s) k.concepts; visits = o.visits; limit = o.limit }
  begins env o t = rw (visits_are k env.rooms o c a d t, limit_is k env.rooms o c a d t) refl

  -- its answer, in scratch
  answers : (r : Answer) → Normalised rule k s s1 r → (env : Env) (o : Out) → tables k c a d ≡ show k env.rooms o
      → after_whole r (four (words s1) c a d) ≡ shown_whole (λ i. i) k env.rooms (in_nnf rule (standing k (four (words s) c a d) o))
  answers r m env o t =
      nnf_whole k env.rooms (four (words s1) c a d) r (rule (state_of k (words s))) (standing k (four (words s) c a d) o) t m.limit m.equal
      ∙ ap (λ (u : St). shown_whole (λ i. i) k env.rooms (back_nnf (standing k (four (words s) c a d) o) (rule u))) (begins env o t)

  -- and a rule that goes on with it, from words that have its pool
  pub nnf_then : (rest : Env → ℕ → C (Unit {0})) (l : Counters) (i : ℕ) (s2 : List ℕ) (y : Four) (r : Answer) → Normalised rule k s s1 (Answers.Done l i)
      → pool_of (words s2) l.concepts ≡ pool_of (words s1) l.concepts → Untouched (words s) (words s2) → Clausified (λ env. rest env i) l (four (words s2) c a d) y r
      → Clausified (λ env. in_nnf rule >>= (λ j. rest env j)) k (four (words s) c a d) y r
  nnf_then rest l i s2 y r m p U K =
      let O = (grew_normal rule k l i s s1 m).onward in
      record {
        equal = λ env o E t.
            whole_then (λ j. j) k env.rooms (four (words s1) c a d) (in_nnf rule (standing k (four (words s) c a d) o)) l i (after_whole r y) (λ j. rest env j) (answers (Answers.Done l i) m env o t)
            (λ j z e S.
            stands_on (λ v. rest v i) k l (words s) (words s2) c a d y r U O K env z E (record { pool = p ∙ S.pool; tables = S.tables })
            ∙ ap (λ (n : ℕ). shown_whole (λ _. 0) l env.rooms (rest env n z)) e)
            (drawn_same k l env.rooms O.nominals O.options);
        untouched = untouched_then (words s) (words s2) y.scratch U K.untouched;
        onward = onward_answer k l r O K.onward;
      }

  -- and what waits after it
  pub nnf_queued : (rest : Env → ℕ → C (Unit {0})) (l : Counters) (i : ℕ) (s2 : List ℕ) (y : Four) → Normalised rule k s s1 (Answers.Done l i)
      → pool_of (words s2) l.concepts ≡ pool_of (words s1) l.concepts → Untouched (words s) (words s2) → Behind (words s1) (words s2) → Queued (λ env. rest env i) l (four (words s2) c a d) y
      → Queued (λ env. in_nnf rule >>= (λ j. rest env j)) k (four (words s) c a d) y
  nnf_queued rest l i s2 y m p U B K =
      let O = (grew_normal rule k l i s s1 m).onward in
      let B1 : Behind (words s) (words s1) = record { same = λ j h. m.behind j (omega arith) } in
      record {
        waits = λ env o q E t W.
            let z : Clausifier = standing k (four (words s) c a d) o in
            waits_then (λ j. j) k env.rooms (four (words s1) c a d) (in_nnf rule z) l i (words s2) y.scratch q (λ j. rest env j) (answers (Answers.Done l i) m env o t)
            (waits_still (words s) (words s2) q z (in_nnf rule z) (behind_then (words s) (words s1) (words s2) B1 B) ((leaves_nnf rule).run z) W)
            (λ j u e S X.
            subst (λ (n : ℕ). WaitingWhole y.scratch q (rest env n u)) e
            (queued_on (λ v. rest v i) k l (words s) (words s2) c a d y U O K env u q E (record { pool = p ∙ S.pool; tables = S.tables }) X));
      }

  -- or its refusal
  pub nnf_stop : (rest : Env → ℕ → C (Unit {0})) (e : ℕ) → Normalised rule k s s1 (Answers.Refused e)
      → Clausified (λ env. in_nnf rule >>= (λ j. rest env j)) k (four (words s) c a d) (four (words s1) c a d) (Answers.Refused e)
  nnf_stop rest e m = record {
    equal = λ env o E t. whole_refused (λ j. j) k env.rooms (four (words s1) c a d) (in_nnf rule (standing k (four (words s) c a d) o)) e (λ j. rest env j) (answers (Answers.Refused e) m env o t);
    untouched = untouched_kept (words s) (words s1) m.before;
    onward = tt;
  }

-- a constructor of the pool after a rule of the normal form, and the rest
pub nnf_pool : {A B : Type 0} (f : N A) (g : A → M Pool B) (rest : B → C (Unit {0})) (z : Clausifier)
    → then (in_nnf (f >>= (λ a. in_pool (g a))) z) rest ≡ then (in_nnf f z) (λ a u. then (in_nnf (in_pool (g a)) u) rest)
nnf_pool {A = A} {B = B} f g rest z = go (f (record { pool = z.pool; visits = z.out.visits; limit = z.out.limit }))
  where
    back : (t : St) (X : Res Pool B)
        → then (back_nnf z (back_in t X)) rest ≡ then (back_nnf (record { pool = t.pool; out = visited_to t.visits z.out }) (back_in (record { pool = t.pool; visits = t.visits; limit = z.out.limit }) X)) rest
    back t (ok b p) = refl
    back t (refused n) = refl

    go : (X : Res St A) → then (back_nnf z (then X (λ a. in_pool (g a)))) rest ≡ then (back_nnf z X) (λ a u. then (in_nnf (in_pool (g a)) u) rest)
    go (ok a t) = back t (g a t.pool)
    go (refused n) = refl
