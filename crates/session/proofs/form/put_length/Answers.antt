use Rattle.std.proofs.Common.{arith}
use Rattle.session.specs.FormLaws.{length_put}
use Rattle.session.proofs.form.put_length.Goals as goal

pub returns : goal.returns
returns c =
    length_put c.args.session.now c.put_word.new.s c.args.n c.requires.0 c.put_word.auto.s (λ k. omega (arith, (c.slice_known-1.given k).fits)) (λ k. omega (arith, (c.type_inv.session k).fits)) c.put_word.ensures
