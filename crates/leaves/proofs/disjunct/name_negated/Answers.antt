use mathlib.Core.Path.{refl}
use Prim.Native.Nat.{◌+◌, ◌*◌}
use native.Mathlib.Omega.{arith}
use Rattle.words.specs.Words.{words}
use Rattle.words.specs.Laws.{length_words}
use Rattle.std.proofs.lemmas.Result.{err_from_is_err_and}
use Rattle.ir.specs.Records.{six}
use Rattle.ir.specs.declared.atom.Atom.TheVariants as AtomIs
use Rattle.waiting.specs.LimitLaws.{behind_then}
use Rattle.hands.specs.HandLaws.{put_behind}
use Rattle.leaves.specs.StepLaws.{negated_made, negated_refused, good_class}
use Rattle.leaves.proofs.disjunct.name_negated.Goals as goal

pub push_none-requires : goal.push_none-requires
push_none-requires c = let A = c.args in let h = c.requires.1 in let k1 = c.put_atom.auto.t in let k2 = c.put_atom-2.auto.t in
    (omega arith, omega (arith, h, k1, k2), good_class A.k.now _ c.fresh_class-q.ensures.self_after c.requires.2 c.requires.3, c.requires.6)

pub returns : goal.returns
returns c = let A = c.args in let k = A.k.now in let f = c.fresh_class-q in let p1 = c.put_atom in let p2 = c.put_atom-2 in let w = words A.scratch.now in let lw = length_words A.scratch.now in let lw1 = length_words p1.new.t in let h = c.requires.1 in let k1 = p1.auto.t in (
  λ d. negated_made k _ A.base A.v f.result A.a w (words p1.new.t) _ _ _ d _ _ _ f.ensures.result_value f.ensures.self_after c.requires.0 p1.ensures p2.ensures (omega (arith, lw, h)) (omega (arith, lw1, h, k1)) (c.in_ok-push_none.ensures d) _ 0 refl (let g = c.requires.2 in omega (arith, f.ensures.result_value, g.most, g.seen, g.names)),
  behind_then w (words p1.new.t) (words p2.new.t) (put_behind w _ (six (AtomIs.Class f.result 0)) (6 * A.base) p1.ensures (omega (arith, c.requires.5))) (put_behind (words p1.new.t) _ (six A.a) (6 * (A.base + 1)) p2.ensures (omega (arith, c.requires.5))),
)

pub returns-in_err-push_none : goal.returns-in_err-push_none
returns-in_err-push_none c = let p = err_from_is_err_and c.from_residual.result c.from_residual.ensures.1 in let A = c.args in let k = A.k.now in let f = c.fresh_class-q in let p1 = c.put_atom in let p2 = c.put_atom-2 in let w = words A.scratch.now in let lw = length_words A.scratch.now in let lw1 = length_words p1.new.t in let h = c.requires.1 in let k1 = p1.auto.t in rw (p.1, p.2) (
  λ d. negated_refused k _ A.base A.v f.result A.a w (words p1.new.t) _ _ _ d _ _ _ f.ensures.result_value f.ensures.self_after c.requires.0 p1.ensures p2.ensures (omega (arith, lw, h)) (omega (arith, lw1, h, k1)) (c.in_err-push_none.ensures d) _ refl,
  behind_then w (words p1.new.t) (words p2.new.t) (put_behind w _ (six (AtomIs.Class f.result 0)) (6 * A.base) p1.ensures (omega (arith, c.requires.5))) (put_behind (words p1.new.t) _ (six A.a) (6 * (A.base + 1)) p2.ensures (omega (arith, c.requires.5))),
)
