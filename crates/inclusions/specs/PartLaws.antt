-- partition: one conjunct after the other is found soft or hard. Assumes nothing.
use Rattle.std.specs.Prelude.{◌≡◌, ℕ, suc, ◌+◌, ◌-◌, ◌<◌, ◌≤◌, length, get_or, set, take, eqb}
use Rattle.std.proofs.Math.Path.{refl, sym, ap}
use Rattle.std.proofs.Common.{subst, ◌∙◌, zero-add, get_or-set_other, eqb-true}
use mathlib.Core.List.{List, [], ◌∷◌, ◌++◌}
use Rattle.std.proofs.Math.Option.{Option, none, some}
use Prim.{tt}
use native.Mathlib.Omega.{arith}
use Rattle.std.proofs.lemmas.List.{take-set-le}
use Rattle.words.specs.Words.{words}
use Rattle.words.specs.Laws.{words_long, frame_less}
use Rattle.ir.specs.Counts.{vars_restarted}
use Rattle.ir.specs.Scratch.{stack_at, limits_at}
use Rattle.ir.specs.declared.counters.Counters.{Counters}
use Rattle.ir.specs.Encoded.{Encoded}
use Rattle.ir.specs.Encoded as Encodeds
use Rattle.rules.specs.Base.{Res, ok, refused, then}
use Rattle.rules.specs.Pool.{Pool, at}
use Rattle.rules.specs.Post.{Post, gives}
use Rattle.rules.specs.Invariants.{Each}
use Rattle.rules.specs.EachLaws.{each_snoc}
use Rattle.rules.specs.State.{Env, Out, E, restarted, restart_vars}
use Rattle.rules.specs.Antecedents.{Alternatives, encode_by}
use Rattle.rules.specs.Axioms as Rules
use Rattle.rules.specs.Axioms.{conjuncts, sorted, partition}
use Rattle.rules.specs.TextLaws.{by_test}
use Rattle.pool.specs.Layout.{pool_words, tab, run, field, pool_of}
use Rattle.pool.specs.Held.{Held, Ready}
use Rattle.pool.specs.Tabs.{tab_next, tab_end, tab_same}
use Rattle.pool.specs.HeldLaws.{pool_kept, held_kept}
use Rattle.normalize.specs.KeptLaws.{run_next}
use Rattle.tables.specs.Good.{Good, Alike}
use Rattle.waiting.specs.Limits.{Behind}
use Rattle.waiting.specs.LimitLaws.{behind_same, behind_then}
use Rattle.leaves.specs.StepLaws.{alike_same, alike_then}
use Rattle.antecedents.specs.States.{Counted, varied, summary}
use Rattle.antecedents.specs.Counts.{GoodEncoded}
use Rattle.axioms.specs.RoleLaws.{alike_restart}
use Rattle.axioms.specs.QuietLaws.{Quiet, encode_quiet}
use Rattle.axioms.specs.MemberLaws.{AlikeEncoded, encoded_alike}
use Rattle.inclusions.specs.Parts.{Found, Refused}
use Rattle.inclusions.specs.Conjuncts.{count_in, conjunct_in, member_in, conjunct_below, conjunct_inside, and_room, count_few, members_few, conjuncts_are, conjunct_kept}
use Rattle.inclusions.specs.Parted.{soft_at, hard_at, stopped, parted_after, parted_of, Sorted}

-- the pool after writes from the stack on, for counters that are alike
pub ready_low : (s s' : List ℕ) (k l : Counters) → length s' ≡ length s → take stack_at (words s') ≡ take stack_at (words s) → Alike k l → Ready s k → Ready s' l
ready_low s s' k l n e A R = record {
  room = rw n R.room;
  held = rw (A.concepts, A.members) (held_kept (words s) (words s') k.concepts k.members R.held (frame_less pool_words stack_at (words s) (words s') (omega arith) e) (words_long s s' n));
}

-- a run that a write elsewhere leaves alone
run_aside : (w : List ℕ) (i n j a : ℕ) → ((o : ℕ) → o < n → i + o ≡ j → ⊥) → run (set w j a) i n ≡ run w i n
run_aside w i n j a h = tab_same (λ o. get_or (set w j a) o 0) (λ o. get_or w o 0) i i n (λ o l. get_or-set_other w j (i + o) a 0 (h o l))

-- and the limits that wait
set_behind_lem : (w w' : List ℕ) (j a : ℕ) → w' ≡ set w j a → j < limits_at → Behind w w'
set_behind_lem w w' j a e h = record { same = λ i l. ap (λ (v : List ℕ). get_or v i 0) e ∙ get_or-set_other w j i a 0 (λ q. absurd (omega arith)) }

-- the conjuncts of c from the i-th on
abbrev left : List ℕ → ℕ → ℕ → List ℕ
left w c i = tab (conjunct_in w c) (0 + i) (count_in w c - i)

abbrev pub whole : Env → Counters → ℕ → List ℕ → Out → Res Out Rules.Parts
whole env k c w s = partition env (pool_of w k.concepts) (conjuncts c (at (pool_of w k.concepts) c)) [] [] s

-- what is left to do, from a state with the counters l
pub record SortedSo (env : Env) (k l : Counters) (c i : ℕ) (w₀ soft hard : List ℕ) (s : Out) : Type 0 where
  pub state : Out
  pub limit : k.limit ≡ state.limit
  pub counters : l ≡ varied k state
  pub rest : whole env k c w₀ s ≡ partition env (pool_of w₀ k.concepts) (left w₀ c i) soft hard state

pub record SortedAt (k : Counters) (c : ℕ) (w₀ w : List ℕ) (l : Counters) (soft hard : ℕ) : Type 0 where
  pub within : soft + hard ≤ count_in w₀ c
  pub frame : take stack_at w ≡ take stack_at w₀
  pub behind : Behind w₀ w
  pub good : Good l
  pub alike : Alike k l
  pub soft_in : Each (λ d. d < k.concepts) (run w soft_at soft)
  pub hard_in : field w₀ c 0 ≡ 7 → Each (λ d. d < c) (run w hard_at hard)
  pub so : (env : Env) (s : Out) → Counted k s → SortedSo env k l c (soft + hard) w₀ (run w soft_at soft) (run w hard_at hard) s

module _ (k : Counters) (c : ℕ) (w₀ : List ℕ) (H : Held w₀ k.concepts k.members) (h : c < k.concepts) where
  -- no conjunct is sorted
  pub parts_start : Good k → SortedAt k c w₀ w₀ k 0 0
  unfolding tab
  parts_start g = record {
    within = omega arith;
    frame = refl;
    behind = behind_same w₀;
    good = g;
    alike = alike_same k;
    soft_in = tt;
    hard_in = λ _. tt;
    so = λ env s C.
        let e : count_in w₀ c - (0 + 0) ≡ count_in w₀ c = omega arith in
        record {
          state = s;
          limit = C.limit;
          counters = rw (← C.visits, ← C.vars) refl;
          rest = ap (λ (l : List ℕ). partition env (pool_of w₀ k.concepts) l [] [] s) (conjuncts_are w₀ k.concepts k.members H c h ∙ ap (tab (conjunct_in w₀ c) 0) (sym e));
        };
  }

  module _ (w : List ℕ) (l : Counters) (soft hard : ℕ) (A : SortedAt k c w₀ w l soft hard) where
    -- all are
    pub parts_found : count_in w₀ c ≤ soft + hard → (env : Env) (s : Out) → Counted k s → parted_after (Found l soft hard) w ≡ parted_of k (whole env k c w₀ s)
    unfolding partition
    parts_found n env s C =
        let S = A.so env s C in
        let z : left w₀ c (soft + hard) ≡ [] = tab_end (conjunct_in w₀ c) 0 (soft + hard) (count_in w₀ c) n in
        let e : whole env k c w₀ s ≡ ok (record { soft = run w soft_at soft; hard = run w hard_at hard }) S.state =
        S.rest ∙ ap (λ (x : List ℕ). partition env (pool_of w₀ k.concepts) x (run w soft_at soft) (run w hard_at hard) S.state) z in
        ap (λ (x : Counters). parted_after (Found x soft hard) w) S.counters ∙ sym (ap (parted_of k) e)

    pub parts_sorted : Sorted k c w₀ w l soft hard
    unfolding tab
    parts_sorted =
        let n = A.within in
        let f = count_few w₀ k.concepts k.members H c h in
        record {
          good = A.good;
          alike = A.alike;
          soft_in = A.soft_in;
          few = omega arith;
          hard_in = λ one. by_test (eqb (field w₀ c 0) 7)
              (λ a. A.hard_in (eqb-true (field w₀ c 0) 7 a))
              (λ a. let z : count_in w₀ c ≡ 1 = rw a refl in let y : hard ≡ 0 = omega arith in rw y tt);
          room = λ one. by_test (eqb (field w₀ c 0) 7)
              (λ a. omega (arith, and_room w₀ k.concepts k.members H c h (eqb-true (field w₀ c 0) 7 a)))
              (λ a. let z : count_in w₀ c ≡ 1 = rw a refl in let y : hard ≡ 0 = omega arith in rw y (omega (arith, members_few w₀ k.concepts k.members H c h)));
          behind = A.behind;
        }

    -- ---- the next conjunct
    module _ (lt : soft + hard < count_in w₀ c) (p : ℕ) (ep : p ≡ conjunct_in w c (soft + hard)) where
      same : p ≡ conjunct_in w₀ c (soft + hard)
      same = ep ∙ conjunct_kept w₀ w A.frame c (omega (arith, H.few)) (soft + hard) (member_in w₀ k.concepts k.members H c h (soft + hard) lt)

      pub next_inside : p < k.concepts
      next_inside = rw same (conjunct_inside w₀ k.concepts k.members H c h (soft + hard) lt)

      next_below : field w₀ c 0 ≡ 7 → p < c
      next_below a = rw same (conjunct_below w₀ k.concepts k.members H c h a (soft + hard) lt)

      module _ (m : Counters) (em : m ≡ vars_restarted l) (r : Encoded)
          (C : (env : Env) (f v : ℕ) (s : Out) → p < f → Counted m s → r ≡ summary m (encode_by env (pool_of w m.concepts) f p v s)) (G : GoodEncoded r) where
        -- the encoding, from the state of the rule
        abbrev X : (env : Env) → Out → Res Out (Option Alternatives)
        X env t = encode_by env (pool_of w₀ k.concepts) (suc p) p 0 (restarted t)

        A1 : Alike k m
        A1 = alike_then k l m A.alike (alike_restart l m em)

        module _ (env : Env) (s : Out) (K : Counted k s) where
          abbrev S : SortedSo env k l c (soft + hard) w₀ (run w soft_at soft) (run w hard_at hard) s
          S = A.so env s K

          restart_varied : m ≡ vars_restarted (varied k S.state)
          restart_varied = em ∙ ap vars_restarted S.counters

          told : r ≡ summary m (X env S.state)
          told =
              let q = restart_varied in
              let M : Counted m (restarted S.state) = subst (λ (x : Counters). Counted x (restarted S.state)) (sym q) (record { visits = refl; limit = S.limit; vars = refl }) in
              let e : pool_of w m.concepts ≡ pool_of w₀ k.concepts =
              ap (pool_of w) A1.concepts ∙ pool_kept w₀ w k.concepts k.members H (frame_less pool_words stack_at w₀ w (omega arith) A.frame) in
              C env (suc p) 0 (restarted S.state) (omega arith) M ∙ ap (λ (y : Pool). summary m (encode_by env y (suc p) p 0 (restarted S.state))) e

          -- the rule after it
          after : whole env k c w₀ s ≡ then (X env S.state) (λ o. sorted env (λ a b. partition env (pool_of w₀ k.concepts) (left w₀ c (soft + hard + 1)) a b) (run w soft_at soft) (run w hard_at hard) p o)
          unfolding partition restart_vars
          after =
              let z : left w₀ c (soft + hard) ≡ conjunct_in w₀ c (0 + (soft + hard)) ∷ left w₀ c (soft + hard + 1) = tab_next (conjunct_in w₀ c) 0 (soft + hard) (count_in w₀ c) lt in
              let y : conjunct_in w₀ c (0 + (soft + hard)) ≡ p = ap (conjunct_in w₀ c) (zero-add (soft + hard)) ∙ sym same in
              S.rest ∙ ap (λ (x : List ℕ). partition env (pool_of w₀ k.concepts) x (run w soft_at soft) (run w hard_at hard) S.state) (z ∙ ap (λ (x : ℕ). x ∷ left w₀ c (soft + hard + 1)) y)

        -- the state after a conjunct that was put to one of the lists
        next_counters : (t u : Out) (o : Counters) → m ≡ vars_restarted (varied k t) → o ≡ varied m u → o ≡ varied k u
        next_counters t u o q e = e ∙ ap (λ (x : Counters). varied x u) q

        soft_by : (env : Env) (s t : Out) (o : Counters) (count j : ℕ) (soft' hard' : List ℕ) → k.limit ≡ t.limit → m ≡ vars_restarted (varied k t) → soft' ≡ run w soft_at soft ++ (p ∷ []) → hard' ≡ run w hard_at hard
            → (Y : Res Out (Option Alternatives)) → Post (λ _ u. Quiet (restarted t) u) Y → Encodeds.Found o count j ≡ summary m Y
            → whole env k c w₀ s ≡ then Y (λ o. sorted env (λ a b. partition env (pool_of w₀ k.concepts) (left w₀ c (soft + hard + 1)) a b) (run w soft_at soft) (run w hard_at hard) p o)
            → SortedSo env k o c (soft + hard + 1) w₀ soft' hard' s
        soft_by env s t o count j soft' hard' li q es eh (ok (some a) u) (gives Q) e z = record {
          state = u;
          limit = li ∙ sym Q.limit;
          counters = let v : o ≡ varied m u = cc in next_counters t u o q v;
          rest = rw (es, eh) z;
        }
        soft_by env s t o count j soft' hard' li q es eh (ok none u) Q e z = absurd (let z : ◌≡◌ {A = ℕ} 0 1 = cc in omega arith)
        soft_by env s t o count j soft' hard' li q es eh (refused x) Q e z = absurd (let z : ◌≡◌ {A = ℕ} 0 1 = cc in omega arith)

        hard_by : (env : Env) (s t : Out) (o : Counters) (soft' hard' : List ℕ) → k.limit ≡ t.limit → m ≡ vars_restarted (varied k t) → soft' ≡ run w soft_at soft → hard' ≡ run w hard_at hard ++ (p ∷ [])
            → (Y : Res Out (Option Alternatives)) → Post (λ _ u. Quiet (restarted t) u) Y → Encodeds.Unsupported o ≡ summary m Y
            → whole env k c w₀ s ≡ then Y (λ o. sorted env (λ a b. partition env (pool_of w₀ k.concepts) (left w₀ c (soft + hard + 1)) a b) (run w soft_at soft) (run w hard_at hard) p o)
            → SortedSo env k o c (soft + hard + 1) w₀ soft' hard' s
        hard_by env s t o soft' hard' li q es eh (ok (some a) u) Q e z = absurd (let z : ◌≡◌ {A = ℕ} 0 1 = cc in omega arith)
        hard_by env s t o soft' hard' li q es eh (ok none u) (gives Q) e z = record {
          state = u;
          limit = li ∙ sym Q.limit;
          counters = let v : o ≡ varied m u = cc in next_counters t u o q v;
          rest = rw (es, eh) z;
        }
        hard_by env s t o soft' hard' li q es eh (refused x) Q e z = absurd (let z : ◌≡◌ {A = ℕ} 0 1 = cc in omega arith)

        alike_after : AlikeEncoded m r
        alike_after = encoded_alike w m p r C

        -- a soft conjunct
        pub parts_soft : (o : Counters) (count j : ℕ) (w' : List ℕ) → r ≡ Encodeds.Found o count j → w' ≡ set w (soft_at + soft) p → soft_at + soft < length w → SortedAt k c w₀ w' o (soft + 1) hard
        parts_soft o count j w' q ew fit =
            let f = count_few w₀ k.concepts k.members H c h in
            let es : run w' soft_at (soft + 1) ≡ run w soft_at soft ++ (p ∷ []) = rw ew (run_next w w soft_at soft p (λ _ _. refl) fit) in
            let eh : run w' hard_at hard ≡ run w hard_at hard = rw ew (run_aside w hard_at hard (soft_at + soft) p (λ o l e. absurd (omega arith))) in
            let n : soft + hard + 1 ≡ soft + 1 + hard = omega arith in
            record {
              within = omega arith;
              frame = ap (take stack_at) ew ∙ take-set-le stack_at w (soft_at + soft) p (omega arith) ∙ A.frame;
              behind = behind_then w₀ w w' A.behind (set_behind_lem w w' (soft_at + soft) p ew (omega arith));
              good = subst GoodEncoded q G;
              alike = alike_then k m o A1 (subst (AlikeEncoded m) q alike_after);
              soft_in = rw es (each_snoc (λ d. d < k.concepts) (run w soft_at soft) p A.soft_in next_inside);
              hard_in = λ a. rw eh (A.hard_in a);
              so = λ env s K. subst (λ (i : ℕ). SortedSo env k o c i w₀ (run w' soft_at (soft + 1)) (run w' hard_at hard) s) n
                  (soft_by env s (S env s K).state o count j (run w' soft_at (soft + 1)) (run w' hard_at hard) (S env s K).limit (restart_varied env s K) es eh (X env (S env s K).state)
                  (encode_quiet env (pool_of w₀ k.concepts) (suc p) p 0 (restarted (S env s K).state)) (sym q ∙ told env s K) (after env s K));
            }

        -- a hard one
        pub parts_hard : (o : Counters) (w' : List ℕ) → r ≡ Encodeds.Unsupported o → w' ≡ set w (hard_at + hard) p → hard_at + hard < length w → SortedAt k c w₀ w' o soft (hard + 1)
        parts_hard o w' q ew fit =
            let f = count_few w₀ k.concepts k.members H c h in
            let es : run w' soft_at soft ≡ run w soft_at soft = rw ew (run_aside w soft_at soft (hard_at + hard) p (λ o l e. absurd (omega arith))) in
            let eh : run w' hard_at (hard + 1) ≡ run w hard_at hard ++ (p ∷ []) = rw ew (run_next w w hard_at hard p (λ _ _. refl) fit) in
            let n : soft + hard + 1 ≡ soft + (hard + 1) = omega arith in
            record {
              within = omega arith;
              frame = ap (take stack_at) ew ∙ take-set-le stack_at w (hard_at + hard) p (omega arith) ∙ A.frame;
              behind = behind_then w₀ w w' A.behind (set_behind_lem w w' (hard_at + hard) p ew (omega arith));
              good = subst GoodEncoded q G;
              alike = alike_then k m o A1 (subst (AlikeEncoded m) q alike_after);
              soft_in = rw es A.soft_in;
              hard_in = λ a. rw eh (each_snoc (λ d. d < c) (run w hard_at hard) p (A.hard_in a) (next_below a));
              so = λ env s K. subst (λ (i : ℕ). SortedSo env k o c i w₀ (run w' soft_at soft) (run w' hard_at (hard + 1)) s) n
                  (hard_by env s (S env s K).state o (run w' soft_at soft) (run w' hard_at (hard + 1)) (S env s K).limit (restart_varied env s K) es eh (X env (S env s K).state)
                  (encode_quiet env (pool_of w₀ k.concepts) (suc p) p 0 (restarted (S env s K).state)) (sym q ∙ told env s K) (after env s K));
            }

        -- a refusal
        stop_by : (env : Env) (e : ℕ) (Y : Res Out (Option Alternatives)) (f : Option Alternatives → E Rules.Parts) → Encodeds.Refused e ≡ summary m Y → stopped e ≡ parted_of k (then Y f)
        stop_by env e (ok (some a) u) f z = absurd (let z : ◌≡◌ {A = ℕ} 0 1 = cc in omega arith)
        stop_by env e (ok none u) f z = absurd (let z : ◌≡◌ {A = ℕ} 0 1 = cc in omega arith)
        stop_by env e (refused x) f z = let y : e ≡ x = cc in ap stopped y

        pub parts_stop : (e : ℕ) → r ≡ Encodeds.Refused e → (env : Env) (s : Out) → Counted k s → parted_after (Refused e) w ≡ parted_of k (whole env k c w₀ s)
        parts_stop e q env s K =
            stop_by env e (X env (S env s K).state) (λ o. sorted env (λ a b. partition env (pool_of w₀ k.concepts) (left w₀ c (soft + hard + 1)) a b) (run w soft_at soft) (run w hard_at hard) p o) (sym q ∙ told env s K)
            ∙ ap (parted_of k) (sym (after env s K))
