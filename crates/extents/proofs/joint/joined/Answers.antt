use Rattle.extents.proofs.joint.joined.Goals as goal

pub returns-in-And : goal.returns-in-And
returns-in-And c = λ n f g e h. rw c.in-And.is (c.both.ensures n f g e h)

pub returns-in-Or : goal.returns-in-Or
returns-in-Or c = λ n f g e h. rw c.in-Or.is (c.either.ensures n f g e h)
