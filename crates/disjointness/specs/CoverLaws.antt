-- The heads that cover a class, one member after the other. Assumes nothing.
use Rattle.std.specs.Prelude.{◌≡◌, Bool, true, false, ltb, length, get_or, take, Result, Ok, Err}
use Rattle.std.specs.Prelude as Code
use Rattle.std.proofs.Math.Path.{refl, sym, ap}
use Rattle.std.proofs.Common.{subst, ◌∙◌, lt-ltb, le-ltb, length-append, take-take}
use mathlib.Core.List.{List, [], ◌∷◌, ◌++◌}
use Rattle.std.proofs.Math.Option.{Option, none, some}
use Prim.{tt}
use Prim.Native.Nat.{ℕ, suc, ◌+◌, ◌*◌, ◌-◌, ◌<◌, ◌≤◌}
use native.Mathlib.Omega.{arith}
use Rattle.std.proofs.lemmas.List.Edits.{sets}
use Rattle.ir.specs.Records.{six}
use Rattle.ir.specs.Scratch.{hands_at}
use Rattle.ir.specs.declared.counters.Counters.{Counters}
use Rattle.ir.specs.declared.refusal.Refusal.{Refusal}
use Rattle.ir.specs.declared.refusal.Refusal.TheVariants.{NoRoom}
use Rattle.ir.specs.Refusals.{refusal_number}
use Rattle.ir.specs.Answer.{Answer}
use Rattle.ir.specs.Answer.{Refused}
use Rattle.ir.specs.declared.atom.Atom.{Atom}
use Rattle.ir.specs.declared.atom.Atom.TheVariants.{Class}
use Rattle.ir.specs.declared.deferral.Deferral.TheVariants.{DisjointUnionCovering}
use Rattle.rules.specs.Base.{refused, then}
use Rattle.rules.specs.Pool.{Pool, at}
use Rattle.rules.specs.State.{Env, Out, class_id_of, longer, with, push, defer}
use Rattle.rules.specs.Axioms.{cover_with, cover}
use Rattle.pool.specs.Layout.{tab, run, pool_of, concept_at}
use Rattle.pool.specs.Held.{Held}
use Rattle.pool.specs.HeldLaws.{pool_at}
use Rattle.pool.specs.Tabs.{tab_same}
use Rattle.tables.specs.Drawn.{tables, show, shown, after, Lent}
use Rattle.tables.specs.Good.{GoodAnswer, KeptAnswer}
use Rattle.hands.specs.Hands.{InHand, four, EnvIn, Did}
use Rattle.hands.specs.HandLaws.{put_frame, hand_more}
use Rattle.antecedents.specs.WriteLaws.{hands_word, hands_pool}
use Rattle.leaves.specs.StepLaws.{env_kept}
use Rattle.leaves.specs.Classes.{option_in}
use Rattle.axioms.specs.RoleLaws.{hand_one}
use Rattle.disjointness.specs.Covers.{Members, Covering, all, missing, long, one_more, with_head, heads_of, cover_by, Outcome, HeadsDid, HeadsSo, HeadsAt}

-- the rule, by its heads
pub cover_by_lem : (env : Env) (pool : Pool) (class : ℕ) (l : List ℕ) (hs : List Atom) (s : Out) → cover env pool class l hs s ≡ cover_by env class (heads_of env pool l hs) s
unfolding cover heads_of with
cover_by_lem env pool class [] hs s = refl
cover_by_lem env pool class (m ∷ l) hs s = go (λ more. cover_by_lem env pool class l more s) (class_id_of env (at pool m))
  where
    more : ((hs : List Atom) → cover env pool class l hs s ≡ cover_by env class (heads_of env pool l hs) s)
        → (c : ℕ) (b : Bool) → then (longer hs (Class c 0) b s) (λ more u. cover env pool class l more u) ≡ cover_by env class (one_more (λ more. heads_of env pool l more) hs c b) s
    more rest c true = rest (hs ++ (Class c 0 ∷ []))
    more rest c false = refl

    go : ((hs : List Atom) → cover env pool class l hs s ≡ cover_by env class (heads_of env pool l hs) s)
        → (o : Option ℕ) → cover_with env (λ more. cover env pool class l more) hs o s ≡ cover_by env class (with_head (λ more. heads_of env pool l more) hs o) s
    go rest none = refl
    go rest (some c) = more rest c (ltb (length hs) 256)

-- ---- scratch, changed above the hands alone
pub low_hands : (w w' : List ℕ) (n : ℕ) → take (6 * (13500 + n)) w' ≡ take (6 * (13500 + n)) w → take hands_at w' ≡ take hands_at w
low_hands w w' n e = sym (take-take hands_at (6 * (13500 + n)) w' (omega arith)) ∙ ap (take hands_at) e ∙ take-take hands_at (6 * (13500 + n)) w (omega arith)

pub members_kept : (w w' : List ℕ) (k : Counters) (i count : ℕ) → take hands_at w' ≡ take hands_at w → Members w k i count → Members w' k i count
members_kept w w' k i count e M = record { below = M.below; ids = λ j h. rw (hands_word w w' e (i + j) (omega (arith, h, M.below))) (M.ids j h) }

-- ---- the loop
pub heads_start : (k : Counters) (i count : ℕ) (w : List ℕ) → HeadsAt k i count w w 0
heads_start k i count w = record {
  within = omega arith;
  few = omega arith;
  frame = refl;
  so = λ env x E h. let e : i + 0 ≡ i = omega arith in let f : count - 0 ≡ count = omega arith in record { heads = []; long = refl; hand = h; rest = rw (e, f) refl };
}

-- the next member's class, as the code read it
module _ (k : Counters) (i count : ℕ) (w₀ w : List ℕ) (j m : ℕ) (H : Held w₀ k.concepts k.members) (M : Members w₀ k i count) (A : HeadsAt k i count w₀ w j) (lt : j < count)
    (em : m ≡ get_or w (i + j) 0) where
  low : take hands_at w ≡ take hands_at w₀
  low = low_hands w₀ w 1 A.frame

  m_is : m ≡ get_or w₀ (i + j) 0
  m_is = em ∙ hands_word w₀ w low (i + j) (omega (arith, M.below))

  pub m_small : m < k.concepts
  m_small = rw m_is (M.ids j lt)

  concept_is : concept_at w m ≡ at (pool_of w₀ k.concepts) m
  concept_is = sym (pool_at w k.concepts m m_small) ∙ ap (λ (p : Pool). at p m) (hands_pool w₀ w low k.concepts k.members H)

  run_next : run w₀ (i + j) (count - j) ≡ m ∷ run w₀ (i + (j + 1)) (count - (j + 1))
  unfolding tab
  run_next =
      let e : count - j ≡ suc (count - (j + 1)) = omega arith in
      let f : i + (j + 1) ≡ i + j + 1 = omega arith in
      rw (e, f, m_is) refl

  module _ (o : Code.Option ℕ) (eo : (env : Env) → EnvIn env k w → option_in o ≡ class_id_of env (concept_at w m)) where
    next_is : (env : Env) (hs : List Atom) → EnvIn env k w₀ → heads_of env (pool_of w₀ k.concepts) (run w₀ (i + j) (count - j)) hs
        ≡ with_head (λ more. heads_of env (pool_of w₀ k.concepts) (run w₀ (i + (j + 1)) (count - (j + 1))) more) hs (option_in o)
    unfolding heads_of
    next_is env hs E =
        ap (λ (l : List ℕ). heads_of env (pool_of w₀ k.concepts) l hs) run_next
        ∙ ap (with_head (λ more. heads_of env (pool_of w₀ k.concepts) (run w₀ (i + (j + 1)) (count - (j + 1))) more) hs)
        (ap (class_id_of env) (sym concept_is) ∙ sym (eo env (env_kept env k w₀ w 13501 (omega arith) A.frame E)))

    pub heads_missing : o ≡ Code.None → HeadsDid k i count w₀ w (Ok false)
    heads_missing q = record {
      equal = λ env x E h. let S = A.so env x E h in
          subst (Outcome 13500 count w x (Ok false)) (sym (S.rest ∙ next_is env S.heads E ∙ ap (λ (z : Code.Option ℕ). with_head (λ more. heads_of env (pool_of w₀ k.concepts) (run w₀ (i + (j + 1)) (count - (j + 1))) more) S.heads (option_in z)) q)) tt;
      frame = A.frame;
      few = λ z. absurd (let y : ◌≡◌ {A = ℕ} 0 1 = cc in omega arith);
    }

    module _ (c : ℕ) (q : o ≡ Code.Some c) where
      found : (env : Env) (x : Atom) (E : EnvIn env k w₀) (S : HeadsSo env (pool_of w₀ k.concepts) i count w₀ x w j) → heads_of env (pool_of w₀ k.concepts) (run w₀ i count) []
          ≡ one_more (λ more. heads_of env (pool_of w₀ k.concepts) (run w₀ (i + (j + 1)) (count - (j + 1))) more) S.heads c (ltb (length S.heads) 256)
      found env x E S = S.rest ∙ next_is env S.heads E ∙ ap (λ (z : Code.Option ℕ). with_head (λ more. heads_of env (pool_of w₀ k.concepts) (run w₀ (i + (j + 1)) (count - (j + 1))) more) S.heads (option_in z)) q

      pub heads_long : 256 ≤ j → HeadsDid k i count w₀ w (Err NoRoom)
      heads_long h = record {
        equal = λ env x E y. let S = A.so env x E y in
            let z : heads_of env (pool_of w₀ k.concepts) (run w₀ i count) [] ≡ long
            = found env x E S ∙ ap (λ (b : Bool). one_more (λ more. heads_of env (pool_of w₀ k.concepts) (run w₀ (i + (j + 1)) (count - (j + 1))) more) S.heads c b) (le-ltb (length S.heads) 256 (omega (arith, h, S.long))) in
            subst (Outcome 13500 count w x (Err NoRoom)) (sym z) refl;
        frame = A.frame;
        few = λ z. absurd (let y : ◌≡◌ {A = ℕ} 0 1 = cc in omega arith);
      }

      pub heads_next : (w' : List ℕ) → j < 256 → w' ≡ sets w (6 * (13500 + 1 + j)) (six (Class c 0)) → 6 * (13500 + 1 + j) + 6 ≤ length w → HeadsAt k i count w₀ w' (j + 1)
      heads_next w' h e fit =
          let p : 13500 + (1 + j) ≡ 13500 + 1 + j = omega arith in
          let e' : w' ≡ sets w (6 * (13500 + (1 + j))) (six (Class c 0)) = rw p e in
          let fr : take (6 * (13500 + (1 + j))) w' ≡ take (6 * (13500 + (1 + j))) w = put_frame 13500 (1 + j) w w' (six (Class c 0)) (6 * (13500 + (1 + j))) e' (omega arith) in
          record {
            within = omega arith;
            few = omega arith;
            frame = sym (take-take (6 * (13500 + 1)) (6 * (13500 + (1 + j))) w' (omega arith)) ∙ ap (take (6 * (13500 + 1))) fr ∙ take-take (6 * (13500 + 1)) (6 * (13500 + (1 + j))) w (omega arith) ∙ A.frame;
            so = λ env x E y. let S = A.so env x E y in
                let la = length-append S.heads (Class c 0 ∷ []) in
                let z : 1 + j + 1 ≡ 1 + (j + 1) = omega arith in
                record {
                  heads = S.heads ++ (Class c 0 ∷ []);
                  long = omega (arith, la, S.long);
                  hand = subst (λ (n : ℕ). InHand w' 13500 n (x ∷ (S.heads ++ (Class c 0 ∷ [])))) z (hand_more 13500 (1 + j) w w' (x ∷ S.heads) (Class c 0) e' (omega arith) S.hand);
                  rest = found env x E S ∙ rw (lt-ltb (length S.heads) 256 (omega (arith, h, S.long))) refl;
                };
          }

pub heads_all : (k : Counters) (i count : ℕ) (w₀ w : List ℕ) (j : ℕ) → HeadsAt k i count w₀ w j → count ≤ j → HeadsDid k i count w₀ w (Ok true)
unfolding heads_of tab
heads_all k i count w₀ w j A h =
    let q : j ≡ count = omega (arith, h, A.within) in
    record {
      equal = λ env x E y. let S = A.so env x E y in
          let e : count - j ≡ 0 = omega arith in
          let z : heads_of env (pool_of w₀ k.concepts) (run w₀ i count) [] ≡ all S.heads = S.rest ∙ rw e refl in
          subst (Outcome 13500 count w x (Ok true)) (sym z) (record { hand = subst (λ (n : ℕ). InHand w 13500 (1 + n) (x ∷ S.heads)) q S.hand; few = omega (arith, A.few) });
      frame = A.frame;
      few = λ z. omega (arith, A.few);
    }

-- ---- the whole
module _ (k : Counters) (class i count : ℕ) (w w1 w2 : List ℕ) (e1 : w1 ≡ sets w (6 * 13500) (six (Class class 0))) (fit : 6 * 13500 + 6 ≤ length w) (H : Held w k.concepts k.members) (M : Members w k i count) where
  first : take (6 * 13500) w1 ≡ take (6 * 13500) w
  first = put_frame 13500 0 w w1 (six (Class class 0)) (6 * 13500) e1 fit

  pub first_hands : take hands_at w1 ≡ take hands_at w
  first_hands = first

  one : InHand w1 13500 1 (Class class 0 ∷ [])
  one = hand_one 13500 w w1 (Class class 0) e1 fit

  module _ (r : Result Bool Refusal) (D : HeadsDid k i count w1 w2 r) where
    pub whole_frame : take (6 * 13500) w2 ≡ take (6 * 13500) w
    whole_frame = sym (take-take (6 * 13500) (6 * (13500 + 1)) w2 (omega arith)) ∙ ap (take (6 * 13500)) D.frame ∙ take-take (6 * 13500) (6 * (13500 + 1)) w1 (omega arith) ∙ first

    same_run : run w1 i count ≡ run w i count
    same_run = tab_same (λ j. get_or w1 j 0) (λ j. get_or w j 0) i i count (λ j h. hands_word w w1 first_hands (i + j) (omega (arith, h, M.below)))

    outcome : (env : Env) → EnvIn env k w → Outcome 13500 count w2 (Class class 0) r (heads_of env (pool_of w k.concepts) (run w i count) [])
    outcome env E = subst (λ (l : List ℕ). Outcome 13500 count w2 (Class class 0) r (heads_of env (pool_of w k.concepts) l [])) same_run
        (subst (λ (p : Pool). Outcome 13500 count w2 (Class class 0) r (heads_of env p (run w1 i count) [])) (hands_pool w w1 first_hands k.concepts k.members H)
        (D.equal env (Class class 0) (env_kept env k w w1 13500 (omega arith) first E) one))

    module _ (c a d c' a' d' : List ℕ) (z : Answer) (g : GoodAnswer z) (q : KeptAnswer k z) where
      all_by : (env : Env) (s : Out) (X : Covering) → Outcome 13500 count w2 (Class class 0) (Ok true) X
          → ((h : List Atom) → InHand w2 13500 (1 + count) (Class class 0 ∷ h) → after z c' a' d ≡ shown (λ _. 0) k env.rooms (push env (Class class 0 ∷ []) h s))
          → after z c' a' d ≡ shown (λ _. 0) k env.rooms (cover_by env class X s)
      all_by env s (all hs) O P = P hs O.hand
      all_by env s missing O P = absurd O
      all_by env s long O P = absurd O

      pub cover_all : r ≡ Ok true
          → ((env : Env) (b h : List Atom) (s : Out) (d : List ℕ) → 1 ≡ length b → InHand w2 13500 (1 + count) (b ++ h) → Lent env.rooms c a d → tables k c a d ≡ show k env.rooms s → after z c' a' d ≡ shown (λ _. 0) k env.rooms (push env b h s))
          → Did (λ _. 0) 0 (λ env f b s. cover env (pool_of w k.concepts) class (run w i count) [] s) k 13500 0 (four w c a d) (four w2 c' a' d) z
      cover_all e P = record {
        equal = λ env f b s lo E y t.
            all_by env s (heads_of env (pool_of w k.concepts) (run w i count) []) (subst (λ (u : Result Bool Refusal). Outcome 13500 count w2 (Class class 0) u (heads_of env (pool_of w k.concepts) (run w i count) [])) e (outcome env E.read))
            (λ h I. P env (Class class 0 ∷ []) h s d refl I E.lent t)
            ∙ ap (shown (λ _. 0) k env.rooms) (sym (cover_by_lem env (pool_of w k.concepts) class (run w i count) [] s));
        frame = whole_frame;
        good = g;
        kept = q;
      }

      missing_by : (env : Env) (s : Out) (X : Covering) → Outcome 13500 count w2 (Class class 0) (Ok false) X
          → after z c a d' ≡ shown (λ _. 0) k env.rooms (defer env DisjointUnionCovering s) → after z c a d' ≡ shown (λ _. 0) k env.rooms (cover_by env class X s)
      missing_by env s (all hs) O P = absurd O
      missing_by env s missing O P = P
      missing_by env s long O P = absurd O

      pub cover_missing : r ≡ Ok false
          → ((env : Env) (s : Out) (c a : List ℕ) → Lent env.rooms c a d → tables k c a d ≡ show k env.rooms s → after z c a d' ≡ shown (λ _. 0) k env.rooms (defer env DisjointUnionCovering s))
          → Did (λ _. 0) 0 (λ env f b s. cover env (pool_of w k.concepts) class (run w i count) [] s) k 13500 0 (four w c a d) (four w2 c a d') z
      cover_missing e P = record {
        equal = λ env f b s lo E y t.
            missing_by env s (heads_of env (pool_of w k.concepts) (run w i count) []) (subst (λ (u : Result Bool Refusal). Outcome 13500 count w2 (Class class 0) u (heads_of env (pool_of w k.concepts) (run w i count) [])) e (outcome env E.read))
            (P env s c a E.lent t)
            ∙ ap (shown (λ _. 0) k env.rooms) (sym (cover_by_lem env (pool_of w k.concepts) class (run w i count) [] s));
        frame = whole_frame;
        good = g;
        kept = q;
      }

    long_by : (env : Env) (s : Out) (o : Refusal) (X : Covering) → Outcome 13500 count w2 (Class class 0) (Err o) X → refused (refusal_number o) ≡ shown (λ _. 0) k env.rooms (cover_by env class X s)
    long_by env s o (all hs) O = absurd O
    long_by env s o missing O = absurd O
    long_by env s o long O = ap refused O

    pub cover_long : (c a d : List ℕ) (o : Refusal) → r ≡ Err o → Did (λ _. 0) 0 (λ env f b s. cover env (pool_of w k.concepts) class (run w i count) [] s) k 13500 0 (four w c a d) (four w2 c a d) (Refused (refusal_number o))
    cover_long c a d o e = record {
      equal = λ env f b s lo E y t.
          long_by env s o (heads_of env (pool_of w k.concepts) (run w i count) []) (subst (λ (u : Result Bool Refusal). Outcome 13500 count w2 (Class class 0) u (heads_of env (pool_of w k.concepts) (run w i count) [])) e (outcome env E.read))
          ∙ ap (shown (λ _. 0) k env.rooms) (sym (cover_by_lem env (pool_of w k.concepts) class (run w i count) [] s));
      frame = whole_frame;
      good = tt;
      kept = tt;
    }
