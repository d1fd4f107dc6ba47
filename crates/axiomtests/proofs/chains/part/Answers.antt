use native.Mathlib.Omega.{arith}
use Rattle.axiomtests.proofs.chains.part.Goals as goal

pub overflow_mul-c : goal.overflow_mul-c
overflow_mul-c c = record { fits = omega (arith, c.requires.0.among c.args.j c.requires.1) }

pub overflow_add-c : goal.overflow_add-c
overflow_add-c c = record { fits = omega (arith, c.requires.0.among c.args.j c.requires.1) }

pub get_word-requires : goal.get_word-requires
get_word-requires c = omega (arith, c.requires.0.among c.args.j c.requires.1, c.requires.0.space)
