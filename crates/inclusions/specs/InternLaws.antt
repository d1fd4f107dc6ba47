-- Concepts that are made of a hard antecedent's conjuncts: what each rule's answer is, and where the code writes. Assumes nothing.
use Rattle.std.specs.Prelude.{◌≡◌, refl, true, List, [], ◌∷◌, ◌++◌, ℕ, suc, ◌<◌, ◌≤◌, length, get_or, set}
use Rattle.std.proofs.Common.{sym, ap, subst, ◌∙◌, arith, get_or-set_other}
use Prim.{tt}
use Rattle.words.specs.Words.{words}
use Rattle.ir.specs.Scratch.{marks_at, keys_at, stack_at, hands_at}
use Rattle.ir.specs.declared.counters.Counters.{Counters}
use Rattle.ir.specs.Answer.{Answer}
use Rattle.ir.specs.Answer.{Done, Refused}
use Rattle.rules.specs.Base.{Res, ok, refused, M, then}
use Rattle.rules.specs.Pool.{Pool, mk_and, mk_or}
use Rattle.rules.specs.Normalize.{St, N, back_in, in_pool}
use Rattle.rules.specs.Post.{Post, gives, refuses, give, post_then}
use Rattle.rules.specs.Invariants.{Each, Bounds, Wf, Made}
use Rattle.rules.specs.EachLaws.{each_snoc}
use Rattle.rules.specs.PoolLaws.{grown_refl, grown_trans, grown_length, and_made, or_made}
use Rattle.rules.proofs.NormalizeLaws.{Ran, ran_refl, negation_done}
use Rattle.rules.proofs.AxiomLaws.{PoolRan}
use Rattle.pool.specs.Layout.{pool_of}
use Rattle.pool.specs.HeldLaws.{word_above}
use Rattle.pool.specs.Answers as Pools
use Rattle.pool.specs.Answers.{after, HeldAfter}
use Rattle.pool.specs.Marks.{Beside}
use Rattle.rebuilding.specs.States.{state_of, told, Kept}
use Rattle.normalize.specs.StateLaws.{Stated, stated, stated_post, told_on, shown_told, told_refused, each_by_done}
use Rattle.tables.specs.Good.{Good}
use Rattle.leaves.specs.Reading.{Reading}
use Rattle.inclusions.specs.Parted.{head_alone, head_over, soft_and_of, Interned, InternedAfter, Normalised}

-- ---- what is left alone: the words from the keys to the stack, and those behind it
pub record Aside (w w' : List ℕ) : Type 0 where
  pub before : (j : ℕ) → keys_at ≤ j → j < stack_at → get_or w' j 0 ≡ get_or w j 0
  pub behind : (j : ℕ) → hands_at ≤ j → get_or w' j 0 ≡ get_or w j 0

pub aside_refl : (w : List ℕ) → Aside w w
aside_refl w = record { before = λ j a b. refl; behind = λ j a. refl }

pub aside_then : (w w' w'' : List ℕ) → Aside w w' → Aside w' w'' → Aside w w''
aside_then w w' w'' A B = record { before = λ j a b. B.before j a b ∙ A.before j a b; behind = λ j a. B.behind j a ∙ A.behind j a }

pub aside_kept : (n top : ℕ) (w w' : List ℕ) → Kept stack_at n top w w' → Aside w w'
aside_kept n top w w' K = record { before = K.before; behind = K.behind }

pub aside_set : (w w' : List ℕ) (i a : ℕ) → stack_at ≤ i → i < hands_at → w' ≡ set w i a → Aside w w'
aside_set w w' i a l h e = rw e (record {
  before = λ j x y. get_or-set_other w i j a 0 (λ (e : j ≡ i). absurd (omega arith));
  behind = λ j x. get_or-set_other w i j a 0 (λ (e : j ≡ i). absurd (omega arith));
})

pub aside_beside : (w w' : List ℕ) → Beside marks_at w w' → Aside w w'
aside_beside w w' B = record { before = λ j a b. word_above keys_at w w' B.behind j a; behind = λ j a. word_above keys_at w w' B.behind j (omega arith) }

-- ---- the rules' own laws
module _ (B : Bounds) (s : St) (w : Wf B s.pool) where
  -- a constructor of the pool after a run of the normal form
  made_after : (t : St) → Ran B s t → (m : M Pool ℕ) → Post (Made B t.pool) (m t.pool) → Post (PoolRan B s) (in_pool m t)
  made_after t R m P = go (m t.pool) P
    where
      go : (r : Res Pool ℕ) → Post (Made B t.pool) r → Post (PoolRan B s) (back_in t r)
      go (ok i p) (gives X) = give (record { made = record { grows = grown_trans R.grows X.grows; wf = X.wf; held = X.held }; limit = R.limit; visits = R.visits; within = R.within })
      go (refused e) P = refuses

  pub alone_ran : (sub sup : ℕ) → sub < length s.pool → sup < length s.pool → Post (PoolRan B s) (head_alone sub sup s)
  alone_ran sub sup h l = post_then (negation_done B (suc sub) sub s w h (omega arith)) (λ i t D.
      made_after t D.ran (mk_or (i ∷ sup ∷ [])) (or_made B t.pool D.ran.wf (i ∷ sup ∷ []) (D.held, (omega (arith, l, grown_length D.ran.grows), tt))))

  pub over_ran : (hard : List ℕ) (sup : ℕ) → Each (λ d. d < length s.pool) hard → sup < length s.pool → Post (PoolRan B s) (head_over hard sup s)
  over_ran hard sup h l = post_then (each_by_done B true suc (length s.pool) (λ d j. omega arith) hard h s w h) (λ k t D.
      made_after t D.ran (mk_or (k ++ (sup ∷ []))) (or_made B t.pool D.ran.wf (k ++ (sup ∷ [])) (each_snoc (λ d. d < length t.pool) k sup D.held (omega (arith, l, grown_length D.ran.grows)))))

  pub soft_ran : (soft : List ℕ) → Each (λ d. d < length s.pool) soft → Post (PoolRan B s) (soft_and_of soft s)
  soft_ran [] h = made_after s (ran_refl s w) (mk_and []) (and_made B s.pool w [] tt)
  soft_ran (a ∷ []) h = give (record { made = record { grows = grown_refl s.pool; wf = w; held = h.0 }; limit = refl; visits = omega arith; within = λ x. x })
  soft_ran (a ∷ b ∷ l) h = made_after s (ran_refl s w) (mk_and (a ∷ b ∷ l)) (and_made B s.pool w (a ∷ b ∷ l) h)

-- ---- an answer that equals such a rule's
module _ (rule : N ℕ) (k : Counters) (s s' : List ℕ) (R : Reading s k) (G : Good k) (len : length s' ≡ length s) (P : Post (PoolRan R.bounds (state_of k (words s))) (rule (state_of k (words s)))) where
  interned_done : (k' : Counters) (i : ℕ) → Stated k k' i (words s') (rule (state_of k (words s))) → HeldAfter (Done k' i) (words s') → Interned s s' k k' i
  interned_done k' i S H =
      let X = stated_post (PoolRan R.bounds (state_of k (words s))) k k' i (words s') (rule (state_of k (words s))) S P in
      let q = S.counts in
      let v : k'.next_var ≡ k.next_var = ap (λ (x : Counters). x.next_var) q in
      let c : k'.next_class ≡ k.next_class = ap (λ (x : Counters). x.next_class) q in
      let n : k'.nominal_base ≡ k.nominal_base = ap (λ (x : Counters). x.nominal_base) q in
      let l : k'.limit ≡ k.limit = X.limit in
      let u : k.visits ≤ k'.visits = X.visits in
      record {
        reading = record {
          room = rw len R.room;
          bounds = R.bounds;
          ready = record { room = rw len R.ready.room; held = H.0 };
          wf = X.made.wf;
          classes = R.classes;
          individuals = R.individuals;
          roles = R.roles;
          nominals = rw n R.nominals;
        };
        good = record { most = omega (arith, G.most, l); seen = X.within G.seen; vars = omega (arith, G.vars, v, u); names = omega (arith, G.names, c, u) };
        inside = H.1;
        grown = X.made.grows;
      }

  interned_after : (r : Answer) → after r (words s') ≡ told k (rule (state_of k (words s))) → HeldAfter r (words s') → InternedAfter s s' k r
  interned_after (Done k' i) e H = interned_done k' i (stated k k' i (words s') (rule (state_of k (words s))) e) H
  interned_after (Refused x) e H = tt

  limit_kept : (i : ℕ) (t : St) → rule (state_of k (words s)) ≡ ok i t → t.limit ≡ k.limit
  limit_kept i t e = go (subst (Post (PoolRan R.bounds (state_of k (words s)))) e P)
    where
      go : Post (PoolRan R.bounds (state_of k (words s))) (ok i t) → t.limit ≡ k.limit
      go (gives X) = X.limit

  pub normalised : (r : Answer) → after r (words s') ≡ told k (rule (state_of k (words s))) → HeldAfter r (words s') → Aside (words s) (words s') → Normalised rule k s s' r
  normalised r e H A = record { equal = e; limit = limit_kept; interned = interned_after r e H; before = A.before; behind = A.behind }

-- ---- a constructor of the pool after a rule that gave a, over words whose pool is the same
pub then_made : {A : Type 0} (k l : Counters) (a : A) (w w₁ w' : List ℕ) (X : Res St A) (f : A → M Pool ℕ) (r : Answer) → Stated k l a w X → pool_of w₁ l.concepts ≡ pool_of w l.concepts
    → after r w' ≡ Pools.shown l (f a (pool_of w₁ l.concepts)) → after r w' ≡ told k (then X (λ a. in_pool (f a)))
then_made k l a w w₁ w' X f r S p e =
    e ∙ ap (λ (q : Pool). Pools.shown l (f a q)) p ∙ shown_told l w (f a) ∙ sym (told_on k l a w X (λ a. in_pool (f a)) S)

-- a refusal is handed on
pub then_refused : {A : Type 0} (k : Counters) (e : ℕ) (X : Res St A) (f : A → N ℕ) → refused e ≡ told k X → refused e ≡ told k (then X f)
then_refused k e X f q = sym (ap (λ x. told k (then x f)) (told_refused k e X q))
