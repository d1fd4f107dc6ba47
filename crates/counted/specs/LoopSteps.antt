-- What one head atom does to the tables. Assumes nothing.
use Rattle.std.specs.Prelude.{◌≡◌, refl, Bool, true, false, List, ◌++◌, ℕ, ◌+◌, ◌*◌, ◌/◌, ◌<◌, ◌≤◌, length, get_or, take, drop}
use Rattle.std.proofs.Common.{sym, ap, subst, ◌∙◌, arith, get_or-take}
use Prim.{tt}
use Rattle.words.specs.Words.{words}
use Rattle.ir.specs.Roles.{role_of}
use Rattle.ir.specs.Scratch.{roles_at, alternatives_at}
use Rattle.ir.specs.declared.counters.Counters.{Counters}
use Rattle.ir.specs.Answer.{Answer}
use Rattle.ir.specs.Answer.{Done, Refused}
use Rattle.ir.specs.declared.atom.Atom.{Atom}
use Rattle.rules.specs.Base.{ok, refused, contains}
use Rattle.rules.specs.State.{Clause, Env, Out, push}
use Rattle.rules.specs.Added.{push_adds}
use Rattle.rules.specs.Invariants.{ClauseIn}
use Rattle.rules.specs.Reflexive.{contains_clause}
use Rattle.rules.proofs.ReflexiveLaws.{loop_clause}
use Rattle.tables.specs.Drawn.{tables, show, shown, after, Lent}
use Rattle.tables.specs.Good.{Good, GoodAnswer, KeptAnswer}
use Rattle.hands.specs.Hands.{InHand, four}
use Rattle.leaves.specs.StepLaws.{alike_same}
use Rattle.tables.specs.Tabled.{body_count, head_count, Run, ClauseAt, Tabled}
use Rattle.reflexive.specs.Flags.{FlagsHeld}
use Rattle.contraction.specs.InHands.{hand_at, ClauseInHand}
use Rattle.contraction.specs.Passes.{Passed}
use Rattle.tables.specs.ClauseLaws.{show_tabled}
use Rattle.counted.specs.StandingLaws.{nth}
use Rattle.counted.specs.SelfLoops.{push_new, push_over, loop_at, Looping, LoopedAfter}
use Rattle.counted.specs.OneLoop.{head_at, Row, row_at_lem, Made, row_kind, row_atom, loop_held, other_kind, at_most, over_long, over_short, loop_bounded}
use Rattle.counted.specs.LoopingLaws.{looping_within, looped_next}

-- hs: the part that the head of clause i is
module _ (k : Counters) (w c a : List ℕ) (from i j : ℕ) (L : Looping k c a from) (li : i < from) (hs : List ℕ) (H : (x : Clause) → ClauseAt c a i x → Run hs x.head) (lj : j < head_count c i) where
  row_of_lem : (env : Env) (s : Out) (d : List ℕ) → tables k c a d ≡ show k env.rooms s → Row c a hs i j (nth s.clauses i)
  row_of_lem env s d e = row_at_lem c a hs i j H lj k.clauses s.clauses (show_tabled env k c a d s e) (omega (arith, looping_within k c a from L))

  nothing_done : ((env : Env) (set : List ℕ) (s : Out) → FlagsHeld w set → Row c a hs i j (nth s.clauses i) → loop_at from i j env set s ≡ ok tt s) → Good k
      → (d : List ℕ) → Passed (loop_at from i j) k (four w c a d) (four w c a d) (Done k 0)
  nothing_done f g d = record {
    equal = λ env set s F l e. ap (ok 0) e ∙ ap (shown (λ _. 0) k env.rooms) (sym (f env set s F (row_of_lem env s d e)));
    maps = λ n lo hi. refl;
    good = g;
    kept = alike_same k;
  }

  pub loop_other : (get_or (words hs) (6 * j) 0 ≡ 4 → ⊥) → Good k → (d : List ℕ) → Passed (loop_at from i j) k (four w c a d) (four w c a d) (Done k 0)
  loop_other h = nothing_done (λ env set s F R. other_kind env set from (nth s.clauses i) s (head_at (nth s.clauses i) j) (λ e. h (row_kind c a hs i j (nth s.clauses i) R ∙ e)))

  module _ (code : ℕ) (kind : get_or (words hs) (6 * j) 0 ≡ 4) (ec : code ≡ get_or (words hs) (6 * j + 1) 0) (flag : Bool) (ef : (set : List ℕ) → FlagsHeld w set → flag ≡ contains set (code / 2)) where
    over : (v : ℕ) → v ≡ get_or (words hs) (6 * j + 4) 0 → (env : Env) (set : List ℕ) (s : Out) → FlagsHeld w set → Row c a hs i j (nth s.clauses i)
        → loop_at from i j env set s ≡ push_over env set from (nth s.clauses i) (role_of code) v flag s
    over v ev env set s F R =
        let x = nth s.clauses i in
        let q = row_atom c a hs i j x R code v (record { kind_is = kind; code_is = ec; var_is = ev }) in
        at_most env set from x s (head_at x j) q.kind_is ∙ rw (← q.code_is, ← q.var_is, ← (ef set F)) refl

    pub loop_role : flag ≡ false → Good k → (d : List ℕ) → Passed (loop_at from i j) k (four w c a d) (four w c a d) (Done k 0)
    loop_role h = nothing_done (λ env set s F R. over (get_or (words hs) (6 * j + 4) 0) refl env set s F R ∙ rw h refl)

    pub loop_long : (nb : ℕ) → nb ≡ body_count c i → flag ≡ true → 256 ≤ nb → (d : List ℕ) → Passed (loop_at from i j) k (four w c a d) (four w c a d) (Refused 12)
    loop_long nb eb h l d = record {
      equal = λ env set s F le e.
          let R = row_of_lem env s d e in
          let v = get_or (words hs) (6 * j + 4) 0 in
          let z : loop_at from i j env set s ≡ refused 12 = over v refl env set s F R ∙ rw h (over_long env set from (nth s.clauses i) s (role_of code) v (omega (arith, eb, R.placed.body))) in
          ap (shown (λ _. 0) k env.rooms) (sym z);
      maps = λ n lo hi. refl;
      good = tt;
      kept = tt;
    }

    module _ (nb : ℕ) (eb : nb ≡ body_count c i) (yes : flag ≡ true) (short : nb < 256) (v fresh : ℕ) (ev : v ≡ get_or (words hs) (6 * j + 4) 0) (w1 : List ℕ) (M : Made c a w1 i code v fresh) (fr : take (6 * hand_at) w1 ≡ take (6 * hand_at) w)
        (old : Bool) (eo : (l : List Clause) (x : Clause) → Tabled c a k.clauses l → ClauseInHand w1 (nb + 1) 1 x → old ≡ contains_clause (drop from l) x) where
      loop_is : (env : Env) (set : List ℕ) (s : Out) (d : List ℕ) → FlagsHeld w set → tables k c a d ≡ show k env.rooms s
          → loop_at from i j env set s ≡ push_new env set from (loop_clause (nth s.clauses i) (role_of code) v) s old
      loop_is env set s d F e =
          let x = nth s.clauses i in
          let R = row_of_lem env s d e in
          let h = loop_held c a w1 i code v fresh nb x eb R.placed M in
          over v ev env set s F R ∙ rw yes (over_short env set from x s (role_of code) v (omega (arith, eb, R.placed.body)))
          ∙ ap (push_new env set from (loop_clause x (role_of code) v) s) (sym (eo s.clauses (loop_clause x (role_of code) v) (show_tabled env k c a d s e) h))

      maps_kept : (n : ℕ) → roles_at ≤ n → n < alternatives_at → get_or w1 n 0 ≡ get_or w n 0
      maps_kept n lo hi = sym (get_or-take (6 * hand_at) w1 n 0 (omega arith)) ∙ ap (λ (t : List ℕ). get_or t n 0) fr ∙ get_or-take (6 * hand_at) w n 0 (omega arith)

      pub loop_old : old ≡ true → Good k → (d : List ℕ) → Passed (loop_at from i j) k (four w c a d) (four w1 c a d) (Done k 0)
      loop_old h g d = record {
        equal = λ env set s F l e.
            let z : loop_at from i j env set s ≡ ok tt s = loop_is env set s d F e ∙ rw h refl in
            ap (ok 0) e ∙ ap (shown (λ _. 0) k env.rooms) (sym z);
        maps = maps_kept;
        good = g;
        kept = alike_same k;
      }

      module _ (no : old ≡ false) (c' a' : List ℕ) (r : Answer)
          (P : (env : Env) (b h : List Atom) (s : Out) (d : List ℕ) → nb + 1 ≡ length b → InHand w1 hand_at (nb + 1 + 1) (b ++ h) → Lent env.rooms c a d → tables k c a d ≡ show k env.rooms s
          → after r c' a' d ≡ shown (λ _. 0) k env.rooms (push env b h s)) where
        pushed : (env : Env) (s : Out) (d : List ℕ) → Lent env.rooms c a d → tables k c a d ≡ show k env.rooms s
            → after r c' a' d ≡ shown (λ _. 0) k env.rooms (push env (loop_clause (nth s.clauses i) (role_of code) v).body (loop_clause (nth s.clauses i) (role_of code) v).head s)
        pushed env s d l e =
            let x = nth s.clauses i in
            let K = loop_held c a w1 i code v fresh nb x eb (row_of_lem env s d e).placed M in
            P env (loop_clause x (role_of code) v).body (loop_clause x (role_of code) v).head s d K.body K.hand l e

        pub loop_new : GoodAnswer r → KeptAnswer k r → (d : List ℕ) → Passed (loop_at from i j) k (four w c a d) (four w1 c' a' d) r
        loop_new g q d = record {
          equal = λ env set s F l e.
              let x : Clause = loop_clause (nth s.clauses i) (role_of code) v in
              let z : loop_at from i j env set s ≡ push env x.body x.head s = loop_is env set s d F e ∙ rw no refl in
              pushed env s d l e ∙ ap (shown (λ _. 0) k env.rooms) (sym z);
          maps = maps_kept;
          good = g;
          kept = q;
        }

        pub looped_new : length c' ≡ length c → length a' ≡ length a → LoopedAfter from c c' a' r
        looped_new lc la =
            let Q = L.showing in
            let s = Q.from.state in
            let env = Q.from.env in
            let x : Clause = loop_clause (nth s.clauses i) (role_of code) v in
            let b : ClauseIn L.bounds L.fresh (L.vars + 1) x =
            subst (λ (l : List Clause). ClauseIn L.bounds L.fresh (L.vars + 1) (loop_clause (nth l i) (role_of code) v)) (sym Q.clauses)
            (loop_bounded k c a from L i li hs H j lj code v fresh w1 (record { kind_is = kind; code_is = ec; var_is = ev }) nb eb short M) in
            looped_next k c a from L c' a' lc la r (push env x.body x.head s) (push_adds env (ClauseIn L.bounds L.fresh (L.vars + 1)) x.body x.head s b)
            (pushed env s Q.deferrals Q.from.lent Q.from.drawn)
