use mathlib.Core.Path.{subst}
use Prim.Native.Nat.{◌+◌, ◌*◌, ◌≤◌}
use native.Mathlib.Omega.{arith}
use lib.ListN.{length}
use Rattle.words.specs.Words.{words}
use Rattle.words.specs.Laws.{length_words}
use Rattle.ir.specs.Records.{six}
use Rattle.leaves.specs.declared.leaf.Leaf.TheVariants as LeafIs
use Rattle.waiting.specs.LimitLaws.{behind_same}
use Rattle.hands.specs.HandLaws.{put_behind, sized_two}
use Rattle.leaves.specs.Reading.{LeafFits}
use Rattle.leaves.specs.StepLaws.{leaf_is, leaf_nothing, leaf_full, leaf_body, leaf_deferred}
use Rattle.leaves.proofs.leaf.emit_leaf.Goals as goal

pub push_one-requires : goal.push_one-requires
push_one-requires c = (c.requires.0, c.requires.2, c.requires.3, subst LeafFits c.in-Head.is c.requires.4, sized_two c.args.lent.now.sized)

pub returns-then-n-ge256-clause-did : goal.returns-then-n-ge256-clause-did
returns-then-n-ge256-clause-did c = let A = c.args in let k = A.lent.now.counters in (leaf_is k A.base A.n _ _ _ A.leaf (LeafIs.Body c.in-Body.a) c.in-Body.is (leaf_full k A.base A.n _ c.in-Body.a c.if-n-ge256.true), behind_same _)

pub put_atom-requires : goal.put_atom-requires
put_atom-requires c = (let h = c.requires.2 in omega (arith, h), subst LeafFits c.in-Body.is c.requires.4)

pub returns-in-Nothing-clause-did : goal.returns-in-Nothing-clause-did
returns-in-Nothing-clause-did c = let A = c.args in let k = A.lent.now.counters in (leaf_is k A.base A.n _ _ _ A.leaf LeafIs.Nothing c.in-Nothing.is (leaf_nothing k A.base A.n _ c.requires.3), behind_same _)

pub returns-in-Empty-clause-did : goal.returns-in-Empty-clause-did
returns-in-Empty-clause-did c = let A = c.args in let k = A.lent.now.counters in (leaf_is k A.base A.n _ _ _ A.leaf LeafIs.Empty c.in-Empty.is (c.push_none.ensures _), behind_same _)

pub returns-in-Head-clause-did : goal.returns-in-Head-clause-did
returns-in-Head-clause-did c = let A = c.args in let k = A.lent.now.counters in (leaf_is k A.base A.n _ _ _ A.leaf (LeafIs.Head c.in-Head.a) c.in-Head.is (c.push_one.ensures _), behind_same _)

pub returns-else-n-ge256-clause-did : goal.returns-else-n-ge256-clause-did
returns-else-n-ge256-clause-did c = let A = c.args in let k = A.lent.now.counters in let e = c.put_atom.ensures in let fit : 6 * (A.base + A.n) + 6 ≤ length (words A.scratch.now) = omega (arith, length_words A.scratch.now, c.requires.2) in (
  leaf_is k A.base A.n _ _ _ A.leaf (LeafIs.Body c.in-Body.a) c.in-Body.is
      (leaf_body k A.base A.n (words A.scratch.now) _ _ _ _ _ _ _ c.in-Body.a c.if-n-ge256.false c.requires.1 e fit (c.push_none-in-Body.ensures _)),
  put_behind (words A.scratch.now) _ (six c.in-Body.a) (6 * (A.base + A.n)) e (omega (arith, c.requires.5)),
)

pub returns-in-Deferred-clause-did : goal.returns-in-Deferred-clause-did
returns-in-Deferred-clause-did c = let A = c.args in let k = A.lent.now.counters in let q = c.defer.ensures in
    (leaf_is k A.base A.n _ _ _ A.leaf LeafIs.Deferred c.in-Deferred.is (leaf_deferred k A.base A.n _ _ _ _ _ _ (q.good_answer c.requires.3) q.kept_answer q.deferrals_after), behind_same _)
