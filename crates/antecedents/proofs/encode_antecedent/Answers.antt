use mathlib.Core.Path.{refl, sym, subst, ◌∙◌}
use Prim.{tt}
use Prim.Native.Nat.{suc}
use native.Mathlib.Omega.{arith}
use Rattle.std.proofs.lemmas.Result.{err_from_is_err_and}
use Rattle.words.specs.Words.{words}
use Rattle.pool.specs.Layout.{pool_of}
use Rattle.antecedents.specs.Counts.{GoodEncoded}
use Rattle.antecedents.specs.CountLaws.{count_sum, count_good}
use Rattle.antecedents.proofs.encode_antecedent.Goals as goal

pub returns-in_err-found : goal.returns-in_err-found
returns-in_err-found c =
    let k = c.args.k.now in
    let p = pool_of (words c.args.scratch.now) k.concepts in
    let q = err_from_is_err_and c.from_residual.result c.from_residual.ensures.1 in
    let r = c.in_err-found.ensures in
    rw (q.1, q.2) (
      λ env f v z l C. r k.concepts f c.requires.1 l ∙ count_sum env p f k c.args.c v z C,
      subst GoodEncoded (sym (r k.concepts (suc c.args.c) c.requires.1 (omega arith))) (count_good p (suc c.args.c) k c.args.c c.requires.2),
      refl,
    )

pub returns : goal.returns
returns c =
    let k = c.args.k.now in
    let p = pool_of (words c.args.scratch.now) k.concepts in
    let r = c.in_ok-found.ensures in (
      λ env f v z l C. r k.concepts f c.requires.1 l ∙ count_sum env p f k c.args.c v z C,
      subst GoodEncoded (sym (r k.concepts (suc c.args.c) c.requires.1 (omega arith))) (count_good p (suc c.args.c) k c.args.c c.requires.2),
      tt,
    )
