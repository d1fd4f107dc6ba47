use Rattle.std.proofs.Common.{arith, length, ◌+◌, ◌-◌}
use Rattle.session.specs.FormLaws.{stored_put}
use Rattle.session.proofs.form.store.Goals as goal

pub returns : goal.returns
returns c =
    stored_put c.args.session.now c.clear.new.s c.put_length.new.session c.copy.new.s c.args.deck.now (4 + length c.args.deck.now - 4) c.clear.ensures c.requires.0 c.requires.1 c.put_length.ensures c.copy.ensures (omega arith)
