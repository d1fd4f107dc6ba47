use Rattle.std.proofs.Common.{◌≡◌, List, ◌≤◌, length, take}
use Rattle.rules.specs.Invariants.{Each}
use Rattle.spelling.specs.Lines.{Line, IsRow, text_of}
use Rattle.session.proofs.removal.place.Given as goal

abbrev pub invariant-loop : goal.invariant-loop
invariant-loop l = (q : List Line) → Each IsRow q → l.text ≡ text_of q → l.k ≤ length q → l.at ≡ length (text_of (take l.counter q))
