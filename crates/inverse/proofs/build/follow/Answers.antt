use native.Mathlib.Omega.{arith}
use mathlib.Core.Path.{subst, ap, ◌∙◌}
use Prim.Native.Nat.{ℕ, ◌+◌}
use lib.ListN.{set}
use Rattle.words.specs.Words.{words}
use Rattle.ir.specs.Scratch.{roles_at}
use Rattle.inverse.specs.Following.{Halfway}
use Rattle.inverse.specs.FollowingLaws.{halfway_next}
use Rattle.inverse.proofs.build.follow.Goals as goal

pub get_word-key-requires : goal.get_word-key-requires
get_word-key-requires c = omega (arith, c.requires.halfway.space, c.requires.halfway.few)

pub returns-clause-followed : goal.returns-clause-followed
returns-clause-followed c = λ l H.
    halfway_next l c.args.scratch.now c.put_word.new.s c.args.i c.get_word-key.result c.get_word-once.result c.canon_role-end.result (subst (λ (n : ℕ). Halfway l c.args.scratch.now n) (omega arith) H) c.get_word-key.ensures c.get_word-once.ensures
    c.canon_role-end.ensures.value (c.put_word.ensures ∙ ap (set (words c.args.scratch.now) (roles_at + c.get_word-key.result)) c.code.ensures) c.put_word.auto.s
