-- What is read into the part stands in the whole.
use Rattle.std.proofs.Common.{arith, length-take-le}
use borrow.Rule.Slice.PartMut.{take_put}
use Rattle.streams.proofs.ReadLaws.{read_in_place}
use Rattle.streams.proofs.read_behind.Goals as goal

pub returns-clause-front : goal.returns-clause-front
returns-clause-front g c = take_put _ _ c.args.space.now _ (omega (arith, c.requires))

pub returns-clause-bytes : goal.returns-clause-bytes
returns-clause-bytes g c =
    read_in_place _ _ c.read_some.result _ c.read_some.new.space _ c.args.at (length-take-le _ c.args.space.now (omega (arith, c.requires)))
    c.read_some.ensures.bound c.read_some.ensures.bytes
