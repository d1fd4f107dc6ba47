use mathlib.Core.Path.{refl, ap, ◌∙◌}
use mathlib.Core.Logic.{inl, inr}
use Prim.Native.Nat.{ℕ, ◌+◌, ◌*◌, ◌<◌}
use native.Mathlib.Omega.{arith}
use lib.ListN.{get_or}
use Rattle.words.specs.Words.{words}
use Rattle.sets.specs.Kept.{set_at}
use Rattle.sets.specs.Places.{vars_at, shown_at}
use Rattle.clausetests.specs.Fitting.{is_head}
use Rattle.clausetests.proofs.FittingLaws.{changed_wide}
use Rattle.clausetests.proofs.PlaceLaws.{pair_in, vars_apart, pair_low, pair_with_lem, meant_atom, narrowed_same, narrowed_pair, narrowed_turned}
use Rattle.clausetests.proofs.fitting.narrow_pair.Goals as goal

pub place-i-requires : goal.place-i-requires
place-i-requires c =
    let T = c.requires.1 in
    (T.vars, T.so.are, T.so.few, (pair_in T.vars c.args.a c.args.x c.args.y T.so.among.0 c.requires.0).0)

pub place-j-requires : goal.place-j-requires
place-j-requires c =
    let T = c.requires.1 in
    (T.vars, T.so.are, T.so.few, (pair_in T.vars c.args.a c.args.x c.args.y T.so.among.0 c.requires.0).1)

pub narrow_one-requires : goal.narrow_one-requires
narrow_one-requires c =
    let A = c.args in
    let T₀ = c.requires.1 in
    let M₀ = T₀.so in
    let cx = pair_in T₀.vars A.a A.x A.y M₀.among.0 c.requires.0 in
    (omega (arith, (c.place-i.ensures T₀.vars M₀.are cx.0).0, M₀.few), meant_atom A.state.now.size A.a A.v A.state.now.text.now A.state.now.store.now A.scratch.now T₀)

pub returns-then-i-j : goal.returns-then-i-j
returns-then-i-j c =
    let A = c.args in
    let T₀ = c.requires.1 in
    let M₀ = T₀.so in
    let i = c.place-i.result in
    let j = c.place-j.result in
    let cx = pair_in T₀.vars A.a A.x A.y M₀.among.0 c.requires.0 in record {
      tables = (λ I roles vs one two M T.
          let d = pair_in vs A.a A.x A.y M.among.0 c.requires.0 in
          let p = c.place-i.ensures vs M.are d.0 in
          let q = c.place-j.ensures vs M.are d.1 in
          narrowed_same I roles vs A.state.now.size A.a A.v A.state.now.text.now (words A.state.now.store.now) (words A.scratch.now) _ (is_head A.side) one two M T i p.0 c.narrow_one.ensures.changed
          (c.narrow_one.ensures.j_after I roles (one i) M.given M.names.0 (T.ones i p.0)) A.x A.y c.requires.0 p.1 (ap (λ (k : ℕ). get_or vs k 0) c.if-i-j.true ∙ q.1));
      changed = changed_wide (2 * (vars_at + i)) (2 * (vars_at + i) + 2) (2 * vars_at) shown_at _ _ (omega arith) (omega (arith, (c.place-i.ensures T₀.vars M₀.are cx.0).0, M₀.few)) c.narrow_one.ensures.changed;
    }

pub pair_at-requires : goal.pair_at-requires
pair_at-requires c =
    let A = c.args in
    let T₀ = c.requires.1 in
    let M₀ = T₀.so in
    let cx = pair_in T₀.vars A.a A.x A.y M₀.among.0 c.requires.0 in
    (c.if-i-j-2.true, omega (arith, (c.place-j.ensures T₀.vars M₀.are cx.1).0, M₀.few))

pub narrow_rows-requires : goal.narrow_rows-requires
narrow_rows-requires c =
    let A = c.args in
    let T₀ = c.requires.1 in
    let M₀ = T₀.so in
    let i = c.place-i.result in
    let j = c.place-j.result in
    let cx = pair_in T₀.vars A.a A.x A.y M₀.among.0 c.requires.0 in
    let P = c.place-i.ensures T₀.vars M₀.are cx.0 in
    let Q = c.place-j.ensures T₀.vars M₀.are cx.1 in (
      (pair_low i j _ c.if-i-j-2.true (omega (arith, Q.0, M₀.few)) c.pair_at.ensures).1,
      pair_with_lem A.a A.x A.y A.y c.requires.0 (vars_apart T₀.vars A.v i j A.x A.y M₀.distinct M₀.are M₀.few P.0 Q.0 c.if-i-j.false P.1 Q.1) (inr refl),
      (A.state.now.text.now, A.state.now.store.now, meant_atom A.state.now.size A.a A.v A.state.now.text.now A.state.now.store.now A.scratch.now T₀),
    )

pub returns-then-i-j-2 : goal.returns-then-i-j-2
returns-then-i-j-2 c =
    let A = c.args in
    let T₀ = c.requires.1 in
    let M₀ = T₀.so in
    let i = c.place-i.result in
    let j = c.place-j.result in
    let cx = pair_in T₀.vars A.a A.x A.y M₀.among.0 c.requires.0 in
    let v = words A.scratch.now in record {
      tables = (λ I roles vs one two M T.
          let d = pair_in vs A.a A.x A.y M.among.0 c.requires.0 in
          let p = c.place-i.ensures vs M.are d.0 in
          let q = c.place-j.ensures vs M.are d.1 in
          narrowed_pair I roles vs A.state.now.size A.a A.v A.state.now.text.now (words A.state.now.store.now) v _ (is_head A.side) one two M T i j c.pair_at.result A.y c.if-i-j-2.true q.0 c.pair_at.ensures q.1 c.narrow_rows.ensures.changed
          (c.narrow_rows.ensures.e_after I roles A.state.now.text.now (words A.state.now.store.now) (two i j) M.given M.names.0 (λ e h. ap (λ (k : ℕ). set_at v (k + e)) c.pair_at.ensures ∙ T.twos i j e c.if-i-j-2.true q.0 h))
          A.x A.y c.requires.0 p.1 q.1);
      changed = let l = pair_low i j c.pair_at.result c.if-i-j-2.true (omega (arith, (c.place-j.ensures T₀.vars M₀.are cx.1).0, M₀.few)) c.pair_at.ensures in
          changed_wide (2 * c.pair_at.result) (2 * (c.pair_at.result + 64)) (2 * vars_at) shown_at _ _ (omega (arith, l.0)) (omega (arith, l.1)) c.narrow_rows.ensures.changed;
    }

pub pair_at-requires-2 : goal.pair_at-requires-2
pair_at-requires-2 c =
    let A = c.args in
    let T₀ = c.requires.1 in
    let M₀ = T₀.so in
    let cx = pair_in T₀.vars A.a A.x A.y M₀.among.0 c.requires.0 in
    (omega (arith, c.if-i-j-2.false, c.if-i-j.false), omega (arith, (c.place-i.ensures T₀.vars M₀.are cx.0).0, M₀.few))

pub narrow_rows-requires-2 : goal.narrow_rows-requires-2
narrow_rows-requires-2 c =
    let A = c.args in
    let T₀ = c.requires.1 in
    let M₀ = T₀.so in
    let i = c.place-i.result in
    let j = c.place-j.result in
    let cx = pair_in T₀.vars A.a A.x A.y M₀.among.0 c.requires.0 in
    let P = c.place-i.ensures T₀.vars M₀.are cx.0 in
    let Q = c.place-j.ensures T₀.vars M₀.are cx.1 in (
      (pair_low j i _ (omega (arith, c.if-i-j-2.false, c.if-i-j.false)) (omega (arith, P.0, M₀.few)) c.pair_at-2.ensures).1,
      pair_with_lem A.a A.x A.y A.x c.requires.0 (vars_apart T₀.vars A.v i j A.x A.y M₀.distinct M₀.are M₀.few P.0 Q.0 c.if-i-j.false P.1 Q.1) (inl refl),
      (A.state.now.text.now, A.state.now.store.now, meant_atom A.state.now.size A.a A.v A.state.now.text.now A.state.now.store.now A.scratch.now T₀),
    )

pub returns : goal.returns
returns c =
    let A = c.args in
    let T₀ = c.requires.1 in
    let M₀ = T₀.so in
    let i = c.place-i.result in
    let j = c.place-j.result in
    let cx = pair_in T₀.vars A.a A.x A.y M₀.among.0 c.requires.0 in
    let v = words A.scratch.now in
    let lt : j < i = omega (arith, c.if-i-j-2.false, c.if-i-j.false) in record {
      tables = (λ I roles vs one two M T.
          let d = pair_in vs A.a A.x A.y M.among.0 c.requires.0 in
          let p = c.place-i.ensures vs M.are d.0 in
          let q = c.place-j.ensures vs M.are d.1 in
          narrowed_turned I roles vs A.state.now.size A.a A.v A.state.now.text.now (words A.state.now.store.now) v _ (is_head A.side) one two M T j i c.pair_at-2.result A.x lt p.0 c.pair_at-2.ensures p.1 c.narrow_rows-2.ensures.changed
          (c.narrow_rows-2.ensures.e_after I roles A.state.now.text.now (words A.state.now.store.now) (two j i) M.given M.names.0 (λ e h. ap (λ (k : ℕ). set_at v (k + e)) c.pair_at-2.ensures ∙ T.twos j i e lt p.0 h))
          A.x A.y c.requires.0 p.1 q.1);
      changed = let l = pair_low j i c.pair_at-2.result lt (omega (arith, (c.place-i.ensures T₀.vars M₀.are cx.0).0, M₀.few)) c.pair_at-2.ensures in
          changed_wide (2 * c.pair_at-2.result) (2 * (c.pair_at-2.result + 64)) (2 * vars_at) shown_at _ _ (omega (arith, l.0)) (omega (arith, l.1)) c.narrow_rows-2.ensures.changed;
    }
