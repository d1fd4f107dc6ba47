-- The queue at first, and a clause taken off it. Assumes nothing.
use Rattle.std.specs.Prelude.{◌≡◌, Bool, true, false, get_or}
use Rattle.std.proofs.Math.Path.{refl, sym, ap}
use Rattle.std.proofs.Common.{subst, ◌∙◌}
use mathlib.Core.List.{List, [], ◌∷◌}
use Prim.Native.Nat.{ℕ, zero, suc, ◌+◌, ◌*◌, ◌-◌, ◌<◌, ◌≤◌}
use native.Mathlib.Omega.{arith}
use Rattle.std.proofs.Math.ListN.{length}
use Rattle.std.proofs.Math.Seq.{drop-length}
use Rattle.ir.specs.Pick.{pick}
use Rattle.ir.specs.declared.counters.Counters.{Counters}
use Rattle.rules.specs.Base.{then, any}
use Rattle.rules.specs.State.{Env, Out, Clause}
use Rattle.rules.specs.Invariants.{Each, ClauseIn}
use Rattle.rules.specs.Run.{clause_words}
use Rattle.rules.specs.Reflexive.{reflexive_derived_cap, Derived, is_reflexive, queued, unfold_body, finish, popped, unfold_by, stacked, apply_reflexive_roles}
use Rattle.tables.specs.Drawn.{tables, show}
use Rattle.tables.specs.DrawnLaws.{clauses_count, atoms_count}
use Rattle.tables.specs.Good.{Good}
use Rattle.hands.specs.Hands.{Four}
use Rattle.leaves.specs.StepLaws.{alike_same}
use Rattle.contraction.specs.Passes.{Standing, Drawn}
use Rattle.tables.specs.Tabled.{no_clause}
use Rattle.unfolding.specs.Unfolding.{waiting, queue_of, Inside}
use Rattle.unfolding.specs.Passing.{ForDrawn, Enough, Turn, Turning, Poised}
use Rattle.tables.specs.ClauseLaws.{show_tabled, tabled_same, tabled_long}
use Rattle.unfolding.specs.QueueLaws.{queue_first, queue_short, body_none}
use Rattle.unfolding.specs.DeriveLaws.{seen_long}
use Rattle.unfolding.specs.FlagSet.{flag_set, flag_set_lem}

-- ---- for some state
module _ (k : Counters) (x : Four) (W : Drawn k x.clauses x.atoms x.deferrals) where
  pub at_drawn : (P : Env → List ℕ → Out → Type 0) → ForDrawn k x P → P W.env (flag_set x.scratch) W.state
  at_drawn P f = f W.env (flag_set x.scratch) W.state (flag_set_lem x.scratch) W.lent W.drawn

  module _ (S : Standing k x.clauses x.atoms) where
    drawn_in : Each (ClauseIn S.bounds S.fresh S.vars) W.state.clauses
    drawn_in =
        subst (Each (ClauseIn S.bounds S.fresh S.vars))
        (tabled_same x.clauses x.atoms k.clauses S.list W.state.clauses S.tabled (show_tabled W.env k x.clauses x.atoms x.deferrals W.state W.drawn))
        S.inside

    -- the tables of a later state stand
    pub stands_after : (l : Counters) (c a d : List ℕ) (t : Out) → tables l c a d ≡ show l W.env.rooms t → Inside W.state t → Standing l c a
    stands_after l c a d t e I = record {
      list = t.clauses;
      tabled = show_tabled W.env l c a d t e;
      atoms = atoms_count W.env l t c a d e;
      bounds = S.bounds;
      roles = S.roles;
      fresh = S.fresh;
      classes = S.classes;
      vars = S.vars;
      few = S.few;
      inside = I S.bounds S.fresh S.vars drawn_in;
    }

-- ---- at first
pub turn_first : (originals : ℕ) (k : Counters) (x : Four) → originals ≡ k.clauses → Good k → Turning originals originals k x k 0 x
unfolding apply_reflexive_roles
turn_first originals k x e g = record {
  good = g;
  alike = alike_same k;
  between = λ j h l. refl;
  counted = record { first = omega arith; cap = omega arith; within = omega arith };
  low = omega arith;
  so = λ env roles s F L D.
      let n : k.clauses ≡ length s.clauses = clauses_count env k s x.clauses x.atoms x.deferrals D in
      let m : originals ≡ length s.clauses = e ∙ n in
      let q : stacked env roles s.clauses [] ≡ queue_of env roles s.clauses x.scratch 0 originals = queue_first env roles s.clauses x.scratch originals m in
      let h = queue_short env roles s.clauses x.scratch 0 originals in
      record {
        bound = length s.clauses + reflexive_derived_cap + 1;
        derived = record { queue = stacked env roles s.clauses []; seen = [] };
        state = s;
        stands = record { drawn = D; queue = q; seen = sym (rw m (drop-length s.clauses)); below = λ j l. absurd (omega arith); low = omega arith };
        rest = refl;
        enough = omega (arith, h, ap length q, m);
        inside = λ B fresh vars I. I;
      };
}

-- ---- one taken off
module _ (env : Env) (roles : List ℕ) (f : ℕ) (v : Derived) (c : Clause) (q : List Clause) (s : Out) where
  abbrev off : Derived
  off = record { queue = q; seen = v.seen }

  record Pop : Type 0 where
    next : ℕ
    rule : unfold_by env roles f v s ≡ then (unfold_body env roles [] c.body c.head off s) (finish env roles (λ d. unfold_by env roles next d))
    enough : Enough next off

  pop : v.queue ≡ queued env roles c q → Enough f v → length v.seen ≤ reflexive_derived_cap → Pop
  unfolding unfold_by
  pop e h l = go (any (is_reflexive roles) c.body) refl e
    where
      -- a clause to be unfolded takes one of the bound
      down : (g : ℕ) → Enough g v → v.queue ≡ c ∷ q → unfold_by env roles g v s ≡ then (unfold_body env roles [] c.body c.head off s) (finish env roles (λ d. unfold_by env roles (g - 1) d))
      down zero k p = absurd (omega (arith, k, ap length p, l))
      down (suc g) k p = let z : suc g - 1 ≡ g = omega arith in rw z (ap (λ (t : List Clause). popped env roles (λ d. unfold_by env roles g d) t v.seen s) p)

      go : (b : Bool) → any (is_reflexive roles) c.body ≡ b → v.queue ≡ pick b (c ∷ q) q → Pop
      go true u p = record { next = f - 1; rule = down f h p; enough = omega (arith, h, ap length p, l) }
      go false u p =
          let z : v ≡ off = ap (λ (t : List Clause). record { queue = t; seen = v.seen }) p in
          record {
            next = f;
            rule = ap (λ (d : Derived). unfold_by env roles f d s) z ∙ ap (λ r. then r (finish env roles (λ d. unfold_by env roles f d))) (sym (body_none env roles [] c.body c.head off s u));
            enough = omega (arith, h, ap length p);
          }

-- a derived clause, the last word of the queue; or the last of the first clauses that are left
module _ (originals all m : ℕ) (k : Counters) (x : Four) (l : Counters) (y : Four) (T : Turning originals all k x l m y) (left n number : ℕ) where
  pub turn_long : Drawn k x.clauses x.atoms x.deferrals → clause_words * l.clauses ≤ length y.clauses
  turn_long W =
      let t = at_drawn k x W (λ env roles s. Turn env roles originals all l m y s) T.so in
      (tabled_long y.clauses y.atoms l.clauses t.state.clauses (show_tabled W.env l y.clauses y.atoms y.deferrals t.state t.stands.drawn)).0

  -- by what it leaves of the queue
  poise : left ≤ all → n ≤ m → left + n < all + m → number < l.clauses
      → ((env : Env) (roles : List ℕ) (s : Out) → queue_of env roles s.clauses y.scratch m all ≡ queued env roles (get_or s.clauses number no_clause) (queue_of env roles s.clauses y.scratch n left))
      → Poised originals all m k x l left n number y
  poise fl fn less there e = record {
    counted = record { first = T.counted.first; cap = T.counted.cap; within = omega (arith, T.counted.within) };
    low = omega (arith, T.low);
    fewer = less;
    there = there;
    so = λ env roles s F L D.
        let t = T.so env roles s F L D in
        let q : List Clause = queue_of env roles t.state.clauses y.scratch n left in
        let few : length t.derived.seen ≤ reflexive_derived_cap = omega (arith, T.counted.cap, seen_long env roles originals all l m y.scratch y.clauses y.atoms y.deferrals t.derived t.state t.stands T.counted) in
        let P = pop env roles t.bound t.derived (get_or t.state.clauses number no_clause) q t.state (t.stands.queue ∙ e env roles t.state) t.enough few in
        record {
          bound = P.next;
          derived = record { queue = q; seen = t.derived.seen };
          state = t.state;
          stands = record { drawn = t.stands.drawn; queue = refl; seen = t.stands.seen; below = λ i h. t.stands.below i (omega arith); low = omega (arith, T.low) };
          rest = t.rest ∙ P.rule;
          enough = P.enough;
          inside = t.inside;
        };
  }

  pub poise_derived : Drawn k x.clauses x.atoms x.deferrals → 0 < m → left ≡ all → n ≡ m - 1 → (j : ℕ) → j ≡ m - 1 → number ≡ get_or y.scratch j 0 → Poised originals all m k x l left n number y
  unfolding waiting
  poise_derived W some el en j ej ew =
      let z : m ≡ suc n = omega arith in
      let i : j ≡ n = ej ∙ sym en in
      let t = at_drawn k x W (λ env roles s. Turn env roles originals all l m y s) T.so in
      poise (omega arith) (omega arith) (omega arith) (rw ew (t.stands.below j (omega arith))) (λ env roles s. rw (z, ew, i, el) refl)

  pub poise_first : m ≤ 0 → 0 < all + m → left ≡ all - 1 → n ≡ m → number ≡ left → Poised originals all m k x l left n number y
  unfolding waiting
  poise_first none some el en ew =
      let z : all ≡ suc left = omega arith in
      let i : m ≡ 0 = omega arith in
      poise (omega arith) (omega arith) (omega arith) (omega (arith, T.low, T.counted.first)) (λ env roles s. rw (z, en, i, ew) refl)
