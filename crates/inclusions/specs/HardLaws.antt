-- From the parts of a hard antecedent to what is made of them. Assumes nothing.
use Rattle.std.proofs.Math.Path.{◌≡◌, refl, ap, subst}
use Rattle.std.proofs.Common.{sym, ◌∙◌, arith}
use mathlib.Core.List.{List, [], ◌∷◌, ◌++◌}
use Rattle.std.proofs.Math.Option.{Option, none, some}
use Prim.{tt}
use Rattle.std.specs.Prelude.{ℕ, zero, suc, ◌+◌, ◌<◌, ◌≤◌, get_or, take}
use Rattle.words.specs.Words.{words}
use Rattle.ir.specs.Scratch.{stack_at}
use Rattle.ir.specs.declared.counters.Counters.{Counters}
use Rattle.ir.specs.Answer.{Answer}
use Rattle.ir.specs.Answer as Answers
use Rattle.rules.specs.Base.{Res, ok, refused, then}
use Rattle.rules.specs.Pool.{Pool, at}
use Rattle.rules.specs.PoolLaws.{grown_refl}
use Rattle.rules.specs.Post.{Post, gives, refuses, give, post_then}
use Rattle.rules.specs.State.{Limit, Env, Out, restarted, restart_vars}
use Rattle.rules.specs.Antecedents.{Alternatives}
use Rattle.rules.specs.Axioms.{Clausifier, back_out, conjuncts, sorted, partition, absorb_parts, absorb_hard_antecedent}
use Rattle.rules.specs.Axioms as Rules
use Rattle.rules.specs.Invariants.{Grown}
use Rattle.pool.specs.Layout.{tab, run, pool_of}
use Rattle.normalize.specs.StateLaws.{same_pool}
use Rattle.tables.specs.Drawn.{tables, show}
use Rattle.tables.specs.Good.{Alike}
use Rattle.waiting.specs.Limits.{Waits, Behind}
use Rattle.waiting.specs.LimitLaws.{waits_kept}
use Rattle.hands.specs.Hands.{Four, four, EnvHeld}
use Rattle.antecedents.specs.States.{Counted, varied}
use Rattle.axioms.specs.QuietLaws.{Quiet, encode_quiet}
use Rattle.axioms.specs.Wholes.{shown_whole, after_whole, standing, Untouched, Onward, Clausified, WaitingWhole, Queued}
use Rattle.inclusions.specs.Parts.{Parts}
use Rattle.inclusions.specs.Parts.{Found, Refused}
use Rattle.inclusions.specs.Parted.{soft_at, hard_at, parted_after, parted_of, Sorted}
use Rattle.inclusions.specs.Absorbs.{absorb_none, absorb_some, Divided}
use Rattle.axioms.specs.OnwardLaws.{untouched_then, onward_alike, onward_answer, stands_on, shown_same, clausified_is}
use Rattle.axioms.specs.QueuedLaws.{waits_same, queued_on, queued_is}
use Rattle.inclusions.specs.GrowLaws.{untouched_front}
use Rattle.inclusions.specs.EncodeLaws.{counted_drawn, drawn_varied}
use Rattle.inclusions.specs.AbsorbLaws.{none_is, some_is}

-- ---- partition takes visits and variables, and leaves the rest of the state alone
quiet_restart : (s t u : Out) → Quiet s t → Quiet (restarted t) u → Quiet s u
quiet_restart s t u X Y = record { limit = Y.limit ∙ X.limit; fresh = Y.fresh ∙ X.fresh; clauses = Y.clauses ∙ X.clauses; deferrals = Y.deferrals ∙ X.deferrals; line = Y.line ∙ X.line; limits = Y.limits ∙ X.limits }

pub partition_quiet : (env : Env) (pool : Pool) (l soft hard : List ℕ) (s₀ s : Out) → Quiet s₀ s → Post (λ _ t. Quiet s₀ t) (partition env pool l soft hard s)
unfolding partition restart_vars
partition_quiet env pool [] soft hard s₀ s X = give X
partition_quiet env pool (p ∷ l) soft hard s₀ s X =
    post_then (encode_quiet env pool (suc p) p 0 (restarted s)) (λ o t Y. go t (λ a b. partition_quiet env pool l a b s₀ t (quiet_restart s₀ s t X Y)) o)
  where
    go : (t : Out) → ((a b : List ℕ) → Post (λ _ u. Quiet s₀ u) (partition env pool l a b t)) → (o : Option Alternatives) → Post (λ _ u. Quiet s₀ u) (sorted env (λ a b. partition env pool l a b) soft hard p o t)
    go t rest none = rest soft (hard ++ (p ∷ []))
    go t rest (some k) = rest (soft ++ (p ∷ [])) hard

-- ---- the parts
-- nothing is soft, or something is
pub parts_none : (w : List ℕ) (sub sup soft : ℕ) (hard : List ℕ) (k : Counters) (x y : Four) (r : Answer) → soft ≡ 0 → Clausified (λ env. absorb_none env sub sup) k x y r
    → Clausified (λ env. absorb_parts env sub sup (run w soft_at soft) hard) k x y r
unfolding tab
parts_none w sub sup zero hard k x y r e K = clausified_is (λ env. absorb_none env sub sup) (λ env. absorb_parts env sub sup [] hard) k x y r (λ env z. none_is env sub sup hard z) K
parts_none w sub sup (suc n) hard k x y r e K = absurd (omega arith)

pub parts_none_queued : (w : List ℕ) (sub sup soft : ℕ) (hard : List ℕ) (k : Counters) (x y : Four) → soft ≡ 0 → Queued (λ env. absorb_none env sub sup) k x y → Queued (λ env. absorb_parts env sub sup (run w soft_at soft) hard) k x y
unfolding tab
parts_none_queued w sub sup zero hard k x y e U = queued_is (λ env. absorb_none env sub sup) (λ env. absorb_parts env sub sup [] hard) k x y (λ env z. none_is env sub sup hard z) U
parts_none_queued w sub sup (suc n) hard k x y e U = absurd (omega arith)

pub parts_some : (w : List ℕ) (sub sup soft : ℕ) (hard : List ℕ) (k : Counters) (x y : Four) (r : Answer) → 1 ≤ soft → Clausified (λ env. absorb_some env sup (run w soft_at soft) hard) k x y r
    → Clausified (λ env. absorb_parts env sub sup (run w soft_at soft) hard) k x y r
unfolding tab
parts_some w sub sup zero hard k x y r h K = absurd (omega arith)
parts_some w sub sup (suc n) hard k x y r h K =
    clausified_is (λ env. absorb_some env sup (get_or w soft_at 0 ∷ run w (soft_at + 1) n) hard) (λ env. absorb_parts env sub sup (get_or w soft_at 0 ∷ run w (soft_at + 1) n) hard) k x y r
    (λ env z. some_is env sub sup (get_or w soft_at 0) (run w (soft_at + 1) n) hard z) K

pub parts_some_queued : (w : List ℕ) (sub sup soft : ℕ) (hard : List ℕ) (k : Counters) (x y : Four) → 1 ≤ soft → Queued (λ env. absorb_some env sup (run w soft_at soft) hard) k x y
    → Queued (λ env. absorb_parts env sub sup (run w soft_at soft) hard) k x y
unfolding tab
parts_some_queued w sub sup zero hard k x y h U = absurd (omega arith)
parts_some_queued w sub sup (suc n) hard k x y h U =
    queued_is (λ env. absorb_some env sup (get_or w soft_at 0 ∷ run w (soft_at + 1) n) hard) (λ env. absorb_parts env sub sup (get_or w soft_at 0 ∷ run w (soft_at + 1) n) hard) k x y
    (λ env z. some_is env sub sup (get_or w soft_at 0) (run w (soft_at + 1) n) hard z) U

module _ (k : Counters) (sub sup : ℕ) (w w1 c a d : List ℕ) (p : Parts)
    (told : (env : Env) (s : Out) → Counted k s → parted_after p w1 ≡ parted_of k (partition env (pool_of w k.concepts) (conjuncts sub (at (pool_of w k.concepts) sub)) [] [] s)) where
  -- the rule's parts
  abbrev pub parts_at : Env → Out → Res Out Rules.Parts
  parts_at env s = partition env (pool_of w k.concepts) (conjuncts sub (at (pool_of w k.concepts) sub)) [] [] s

  quiet : (env : Env) (s : Out) → Post (λ _ t. Quiet s t) (parts_at env s)
  quiet env s = partition_quiet env (pool_of w k.concepts) (conjuncts sub (at (pool_of w k.concepts) sub)) [] [] s s (record { limit = refl; fresh = refl; clauses = refl; deferrals = refl; line = refl; limits = refl })

  pub parts_then : (l : Counters) (soft hard : ℕ) (y : Four) (r : Answer) → p ≡ Found l soft hard → Alike k l → pool_of w1 k.concepts ≡ pool_of w k.concepts → take stack_at w1 ≡ take stack_at w
      → Clausified (λ env. absorb_parts env sub sup (run w1 soft_at soft) (run w1 hard_at hard)) l (four w1 c a d) y r
      → Clausified (λ env. absorb_hard_antecedent env sub sup) k (four w c a d) y r
  unfolding absorb_hard_antecedent
  parts_then l soft hard y r q A same e K = record {
    equal = λ env s E t. go env s E t (parts_at env s) (quiet env s) (ap (λ (u : Parts). parted_after u w1) (sym q) ∙ told env s (counted_drawn k env s c a d t));
    untouched = untouched_then w w1 y.scratch U K.untouched;
    onward = onward_answer k l r O K.onward;
  }
    where
      U : Untouched w w1
      U = untouched_front w w1 e

      O : Onward k l
      O = onward_alike k l A

      go : (env : Env) (s : Out) → EnvHeld env k (four w c a d) → tables k c a d ≡ show k env.rooms s → (X : Res Out Rules.Parts) → Post (λ _ t. Quiet s t) X → parted_after (Found l soft hard) w1 ≡ parted_of k X
          → after_whole r y ≡ shown_whole (λ _. 0) k env.rooms (then (back_out (standing k (four w c a d) s) X) (λ m. absorb_parts env sub sup m.soft m.hard))
      go env s E t (ok m u) (gives Q) h =
          let ql : l ≡ varied k u = cc in
          let qs : run w1 soft_at soft ≡ m.soft = cc in
          let qh : run w1 hard_at hard ≡ m.hard = cc in
          let z : Clausifier = standing k (four w c a d) u in
          stands_on (λ v. absorb_parts v sub sup (run w1 soft_at soft) (run w1 hard_at hard)) k l w w1 c a d y r U O K env z E
          (record { pool = ap (pool_of w1) A.concepts ∙ same; tables = drawn_varied k l env s u c a d ql Q t })
          ∙ shown_same (λ _. 0) k l env.rooms O (absorb_parts env sub sup (run w1 soft_at soft) (run w1 hard_at hard) z)
          ∙ ap (λ (b : List ℕ). shown_whole (λ _. 0) k env.rooms (absorb_parts env sub sup b (run w1 hard_at hard) z)) qs
          ∙ ap (λ (b : List ℕ). shown_whole (λ _. 0) k env.rooms (absorb_parts env sub sup m.soft b z)) qh
      go env s E t (refused n) Q h = absurd (let z : ◌≡◌ {A = ℕ} 0 1 = cc in omega arith)

  pub parts_queued : (l : Counters) (soft hard : ℕ) (y : Four) → p ≡ Found l soft hard → Alike k l → pool_of w1 k.concepts ≡ pool_of w k.concepts → take stack_at w1 ≡ take stack_at w → Behind w w1
      → Queued (λ env. absorb_parts env sub sup (run w1 soft_at soft) (run w1 hard_at hard)) l (four w1 c a d) y
      → Queued (λ env. absorb_hard_antecedent env sub sup) k (four w c a d) y
  unfolding absorb_hard_antecedent
  parts_queued l soft hard y q A same e B U = record {
    waits = λ env s o E t W. go env s o E t W (parts_at env s) (quiet env s) (ap (λ (u : Parts). parted_after u w1) (sym q) ∙ told env s (counted_drawn k env s c a d t));
  }
    where
      go : (env : Env) (s : Out) (o : List Limit) → EnvHeld env k (four w c a d) → tables k c a d ≡ show k env.rooms s → Waits w (o ++ s.limits)
          → (X : Res Out Rules.Parts) → Post (λ _ t. Quiet s t) X → parted_after (Found l soft hard) w1 ≡ parted_of k X
          → WaitingWhole y.scratch o (then (back_out (standing k (four w c a d) s) X) (λ m. absorb_parts env sub sup m.soft m.hard))
      go env s o E t W (ok m u) (gives Q) h =
          let ql : l ≡ varied k u = cc in
          let qs : run w1 soft_at soft ≡ m.soft = cc in
          let qh : run w1 hard_at hard ≡ m.hard = cc in
          let z : Clausifier = standing k (four w c a d) u in
          subst (λ (b : List ℕ). WaitingWhole y.scratch o (absorb_parts env sub sup m.soft b z)) qh
          (subst (λ (b : List ℕ). WaitingWhole y.scratch o (absorb_parts env sub sup b (run w1 hard_at hard) z)) qs
          (queued_on (λ v. absorb_parts v sub sup (run w1 soft_at soft) (run w1 hard_at hard)) k l w w1 c a d y (untouched_front w w1 e) (onward_alike k l A) U env z o E
          (record { pool = ap (pool_of w1) A.concepts ∙ same; tables = drawn_varied k l env s u c a d ql Q t })
          (waits_kept w w1 (o ++ u.limits) B (waits_same w o s u Q.limits W))))
      go env s o E t W (refused n) Q h = refuses

  pub parts_refused : (n : ℕ) → p ≡ Refused n → take stack_at w1 ≡ take stack_at w → Clausified (λ env. absorb_hard_antecedent env sub sup) k (four w c a d) (four w1 c a d) (Answers.Refused n)
  unfolding absorb_hard_antecedent
  parts_refused n q e = record {
    equal = λ env s E t. go env s (parts_at env s) (ap (λ (u : Parts). parted_after u w1) (sym q) ∙ told env s (counted_drawn k env s c a d t));
    untouched = untouched_front w w1 e;
    onward = tt;
  }
    where
      go : (env : Env) (s : Out) (X : Res Out Rules.Parts) → parted_after (Refused n) w1 ≡ parted_of k X
          → refused n ≡ shown_whole (λ _. 0) k env.rooms (then (back_out (standing k (four w c a d) s) X) (λ m. absorb_parts env sub sup m.soft m.hard))
      go env s (ok m u) h = absurd (let z : ◌≡◌ {A = ℕ} 0 1 = cc in omega arith)
      go env s (refused x) h = let z : n ≡ x = cc in rw z refl

pub positive : (n : ℕ) → (n ≡ 0 → ⊥) → 1 ≤ n
positive zero h = absurd (h refl)
positive (suc n) h = omega arith

-- where one is soft, the others are smaller
pub parts_divided : (s : List ℕ) (w : List ℕ) (k l : Counters) (sub soft hard : ℕ) → sub < k.concepts → pool_of (words s) k.concepts ≡ pool_of w k.concepts → Sorted k sub w (words s) l soft hard → 1 ≤ soft → Divided s l sub soft hard
parts_divided s w k l sub soft hard h same S one =
    let G : Grown (pool_of w k.concepts) (pool_of (words s) k.concepts) = subst (Grown (pool_of w k.concepts)) (sym same) (grown_refl (pool_of w k.concepts)) in
    let p : pool_of (words s) sub ≡ pool_of w sub = same_pool w (words s) k.concepts k.concepts G sub (omega arith) in
    record { soft_in = rw S.alike.concepts S.soft_in; few = S.few; hard_in = S.hard_in one; room = rw p (S.room one) }
