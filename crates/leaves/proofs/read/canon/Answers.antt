use mathlib.Core.Path.{◌∙◌, ap}
use Prim.Native.Nat.{ℕ}
use native.Mathlib.Omega.{arith}
use Rattle.ir.specs.Roles.{role_of}
use Rattle.rules.specs.State.{canon}
use Rattle.leaves.specs.ReadLaws.{role_small}
use Rattle.leaves.proofs.read.canon.Goals as goal

pub canon_role-requires : goal.canon_role-requires
canon_role-requires c = let h = role_small c.args.scratch.now c.args.k c.requires.0 c.args.c c.requires.1 c.requires.2 in let r = c.requires.0.room in (omega (arith, h, c.role.ensures), omega (arith, r))

pub returns-clause-value : goal.returns-clause-value
returns-clause-value c = λ env E. c.canon_role.ensures.value env.inverse_canon E.roles ∙ ap (λ (x : ℕ). canon env (role_of x)) c.role.ensures
