-- A read adds what it gave.
use Rattle.std.proofs.Common.{rules}
use Rattle.streams.proofs.ReadLaws.{read_more}
use Rattle.streams.proofs.fill.Goals as goal

pub loop-done-preserved : goal.loop-done-preserved
loop-done-preserved g c = record {
  long = search rules;
  within = c.in-Ok.ensures.bound;
  read = read_more _ _ _ c.loop-done.space c.read_behind.new.space c.loop-done.done c.in-Ok.n c.in-Ok.ensures.front c.loop-done.invariant.read c.in-Ok.ensures.bytes;
}
