-- The pass over the queue: its next turn, and its ends. Assumes nothing.
use Rattle.std.specs.Prelude.{◌≡◌, get_or}
use Rattle.std.proofs.Math.Path.{refl, ap}
use Rattle.std.proofs.Common.{sym, subst, ◌∙◌}
use mathlib.Core.List.{List, [], ◌∷◌, ◌++◌}
use Prim.{Unit, tt}
use Prim.Native.Nat.{ℕ, zero, suc, ◌+◌, ◌<◌, ◌≤◌}
use native.Mathlib.Omega.{arith}
use Rattle.std.proofs.Math.ListN.{length}
use Rattle.ir.specs.declared.counters.Counters.{Counters}
use Rattle.ir.specs.Answer.{Answer}
use Rattle.ir.specs.Answer.{Done, Refused}
use Rattle.ir.specs.declared.atom.Atom.{Atom}
use Rattle.rules.specs.Base.{Res, ok, then}
use Rattle.rules.specs.State.{Env, Out, Clause, clause}
use Rattle.rules.specs.Reflexive.{reflexive_derived_cap, Derived, finish, popped, unfold_by, apply_reflexive_roles}
use Rattle.rules.specs.Reflexive.{Unfolded as Turned}
use Rattle.tables.specs.Drawn.{tables, show, shown, Lent}
use Rattle.tables.specs.Good.{Alike}
use Rattle.hands.specs.Hands.{Four}
use Rattle.leaves.specs.StepLaws.{alike_then, show_alike}
use Rattle.unfolding.specs.Unfolding.{Unfolded}
use Rattle.unfolding.specs.Unfolding.{More, Capped, Refused as Refusal}
use Rattle.reflexive.specs.Flags.{FlagsHeld}
use Rattle.contraction.specs.Passes.{Standing, Drawn, Passed}
use Rattle.tables.specs.Tabled.{body_count, no_clause}
use Rattle.unfolding.specs.Unfolding.{waiting, unfold_one, Stands, Unfolds, GoodUnfolded, KeptUnfolded, Between, Answered}
use Rattle.unfolding.specs.Passing.{Turn, Turning, Popped, Poised, Partway, Unrolling}
use Rattle.unfolding.specs.DeriveLaws.{seen_long}
use Rattle.unfolding.specs.FlagSet.{flag_set, flag_set_lem, flags_kept}
use Rattle.unfolding.specs.PopLaws.{at_drawn, stands_after}
use Rattle.unfolding.specs.UnrollLaws.{SameSizes, lent_same, partway, body_left, body_done, body_refused, body_capped, unroll_next}

abbrev pub Pass : Counters → Four → Four → Answer → Type 0
Pass k x y r = Passed (λ env roles. apply_reflexive_roles env roles) k x y r

-- an end of the pass: the rule's answer is drawn there
drawn_end : (k p : Counters) (y : Four) (env : Env) (X : Res Out (Unit {0})) (t : Out) → Alike k p → X ≡ ok tt t → tables p y.clauses y.atoms y.deferrals ≡ show p env.rooms t
    → ok 0 (tables p y.clauses y.atoms y.deferrals) ≡ shown (λ _. 0) k env.rooms X
drawn_end k p y env X t A e d = ap (ok 0) (d ∙ show_alike k p env.rooms t A) ∙ ap (shown (λ _. 0) k env.rooms) (sym e)

-- x: at entry
module _ (k : Counters) (x : Four) (S : Standing k x.clauses x.atoms) (W : Drawn k x.clauses x.atoms x.deferrals) where
  -- ---- the queue is empty
  module _ (originals left : ℕ) (l : Counters) (n : ℕ) (y : Four) (T : Turning originals left k x l n y) (none : left + n ≤ 0) where
    turn_end : (env : Env) (roles : List ℕ) (s : Out) (t : Turn env roles originals left l n y s) → apply_reflexive_roles env roles s ≡ ok tt t.state
    unfolding unfold_by waiting
    turn_end env roles s t =
        let f : length t.derived.seen ≤ reflexive_derived_cap = omega (arith, T.counted.cap, seen_long env roles originals left l n y.scratch y.clauses y.atoms y.deferrals t.derived t.state t.stands T.counted) in
        let a : left ≡ 0 = omega arith in
        let b : n ≡ 0 = omega arith in
        let q : t.derived.queue ≡ [] = t.stands.queue ∙ rw (a, b) refl in
        t.rest ∙ go t.bound (omega (arith, t.enough, f)) q
      where
        go : (g : ℕ) → 0 < g → t.derived.queue ≡ [] → unfold_by env roles g t.derived t.state ≡ ok tt t.state
        go zero h q = absurd (omega arith)
        go (suc g) h q = ap (λ (z : List Clause). popped env roles (λ v. unfold_by env roles g v) z t.derived.seen t.state) q

    pub pass_end : Pass k x y (Done l 0) × Standing l y.clauses y.atoms
    pass_end =
        let w = at_drawn k x W (λ env roles s. Turn env roles originals left l n y s) T.so in (
          record {
            equal = λ env roles s F L D. let t = T.so env roles s F L D in drawn_end k l y env (apply_reflexive_roles env roles s) t.state T.alike (turn_end env roles s t) t.stands.drawn;
            maps = λ j h g. T.between j (omega arith) (omega arith);
            good = T.good;
            kept = T.alike;
          },
          stands_after k x W S l y.clauses y.atoms y.deferrals w.state w.stands.drawn w.inside,
        )

  -- ---- in the body of clause `number`; z: at the body's first atom, y: now
  module _ (originals all : ℕ) (k₁ : Counters) (m₁ : ℕ) (z : Four) (T : Turning originals all k x k₁ m₁ z) (same₁ : SameSizes x z) (left m number : ℕ) (Z : Poised originals all m₁ k x k₁ left m number z)
      (l : Counters) (n i : ℕ) (y : Four) (U : Unrolling originals left number k₁ m z l n i y) (nb : ℕ) (eb : nb ≡ body_count z.clauses number) where
    module _ (env : Env) (roles : List ℕ) (s : Out) (F : FlagsHeld x.scratch roles) (L : Lent env.rooms x.clauses x.atoms x.deferrals) (D : tables k x.clauses x.atoms x.deferrals ≡ show k env.rooms s) where
      popt : Popped env roles originals left k₁ m number z s
      popt = Z.so env roles s F L D

      flags : FlagsHeld z.scratch roles
      flags = flags_kept x.scratch z.scratch roles T.between F

      lent : Lent env.rooms z.clauses z.atoms z.deferrals
      lent = lent_same x z same₁ env L

      part : Partway env roles originals left number l n i y popt.derived popt.state
      part = partway originals left number k₁ m z l n i y U Z.there nb eb env roles popt.derived popt.state flags lent popt.stands

      ended : nb ≤ i → Turn env roles originals left l n y s
      unfolding part
      ended h =
          let q = body_done originals left number k₁ m z l n i y U Z.there nb eb env roles popt.derived popt.state flags lent popt.stands h in
          record {
            bound = popt.bound;
            derived = part.derived;
            state = part.state;
            stands = part.stands;
            rest = popt.rest ∙ ap (λ (r : Res Out Turned). then r (finish env roles (λ v. unfold_by env roles popt.bound v))) q;
            enough = omega (arith, popt.enough, part.moves.counted);
            inside = λ B fresh vars I. part.moves.inside B fresh vars (popt.inside B fresh vars I);
          }

    -- for some state
    w_flags : FlagsHeld x.scratch (flag_set x.scratch)
    w_flags = flag_set_lem x.scratch

    pub pass_standing : Standing l y.clauses y.atoms
    pass_standing =
        let P = popt W.env (flag_set x.scratch) W.state w_flags W.lent W.drawn in
        let Q = part W.env (flag_set x.scratch) W.state w_flags W.lent W.drawn in
        stands_after k x W S l y.clauses y.atoms y.deferrals Q.state Q.stands.drawn (λ B fresh vars I. Q.moves.inside B fresh vars (P.inside B fresh vars I))

    pub pass_body : i < nb → i < body_count y.clauses number
    pass_body lt =
        let P = popt W.env (flag_set x.scratch) W.state w_flags W.lent W.drawn in
        body_left originals left number k₁ m z l n i y U Z.there nb eb W.env (flag_set x.scratch) P.derived P.state
        (flags W.env (flag_set x.scratch) W.state w_flags W.lent W.drawn) (lent W.env (flag_set x.scratch) W.state w_flags W.lent W.drawn) P.stands lt

    -- at the body's end
    pub pass_turn : nb ≤ i → Turning originals left k x l n y
    pass_turn h = record {
      good = U.good;
      alike = alike_then k k₁ l T.alike U.alike;
      between = λ j g e. U.between j g e ∙ T.between j g e;
      counted = U.counted;
      low = Z.low;
      so = λ env roles s F L D. ended env roles s F L D h;
    }

    -- ---- what unfold_at did
    module _ (lt : i < nb) (same : SameSizes z y) (y' : Four) (r : Unfolded) (A : Answered l y.scratch y'.scratch r)
        (E : (env : Env) (roles : List ℕ) (left : ℕ) (v : Derived) (s : Out) (before after head : List Atom) (a : Atom) → FlagsHeld y.scratch roles → Lent env.rooms y.clauses y.atoms y.deferrals → Stands env roles originals left l y n v s
        → get_or s.clauses number no_clause ≡ clause (before ++ (a ∷ after)) head → i ≡ length before → Unfolds env roles originals left l n y' v s (unfold_one env roles before after head a v s) r) where
      between_all : Between x.scratch y'.scratch
      between_all j h g = A.between j h g ∙ U.between j h g ∙ T.between j h g

      pub pass_next : (p : Counters) (q : ℕ) → r ≡ More p q → Unrolling originals left number k₁ m z p q (i + 1) y'
      pass_next p q e =
          let P = popt W.env (flag_set x.scratch) W.state w_flags W.lent W.drawn in
          unroll_next originals left number k₁ m z l n i y U Z.there nb eb lt same y' r A E W.env (flag_set x.scratch) P.derived P.state
          (flags W.env (flag_set x.scratch) W.state w_flags W.lent W.drawn) (lent W.env (flag_set x.scratch) W.state w_flags W.lent W.drawn) P.stands p q e

      pub pass_refused : (e : ℕ) → r ≡ Refusal e → Pass k x y' (Refused e)
      pass_refused e q = record {
        equal = λ env roles s F L D.
            let P = popt env roles s F L D in
            let b = body_refused originals left number k₁ m z l n i y U Z.there nb eb lt same y' r A E env roles P.derived P.state (flags env roles s F L D) (lent env roles s F L D) P.stands e q in
            ap (shown (λ _. 0) k env.rooms) (sym (P.rest ∙ ap (λ (t : Res Out Turned). then t (finish env roles (λ v. unfold_by env roles P.bound v))) b));
        maps = λ j h g. between_all j (omega arith) (omega arith);
        good = tt;
        kept = tt;
      }

      pub pass_capped : (p : Counters) → r ≡ Capped p → Pass k x y' (Done p 0) × Standing p y'.clauses y'.atoms
      pass_capped p q =
          let a : Alike k p = alike_then k l p (alike_then k k₁ l T.alike U.alike) (subst (KeptUnfolded l) q A.kept) in
          let P = popt W.env (flag_set x.scratch) W.state w_flags W.lent W.drawn in
          let G = body_capped originals left number k₁ m z l n i y U Z.there nb eb lt same y' r A E W.env (flag_set x.scratch) P.derived P.state
          (flags W.env (flag_set x.scratch) W.state w_flags W.lent W.drawn) (lent W.env (flag_set x.scratch) W.state w_flags W.lent W.drawn) P.stands p q in (
            record {
              equal = λ env roles s F L D.
                  let P' = popt env roles s F L D in
                  let G' = body_capped originals left number k₁ m z l n i y U Z.there nb eb lt same y' r A E env roles P'.derived P'.state (flags env roles s F L D) (lent env roles s F L D) P'.stands p q in
                  drawn_end k p y' env (apply_reflexive_roles env roles s) G'.state a
                  (P'.rest ∙ ap (λ (t : Res Out Turned). then t (finish env roles (λ v. unfold_by env roles P'.bound v))) G'.rule) G'.drawn;
              maps = λ j h g. between_all j (omega arith) (omega arith);
              good = subst GoodUnfolded q A.good;
              kept = a;
            },
            stands_after k x W S p y'.clauses y'.atoms y'.deferrals G.state G.drawn (λ B fresh vars I. G.inside B fresh vars (P.inside B fresh vars I)),
          )
