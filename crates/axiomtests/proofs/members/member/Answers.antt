use mathlib.Core.Path.{◌≡◌, ap, ◌∙◌}
use mathlib.Core.List.{List}
use Prim.Native.Nat.{ℕ, ◌+◌, ◌*◌, ◌<◌, ◌≤◌}
use native.Mathlib.Omega.{arith}
use Rattle.words.specs.Words.{words}
use Rattle.rules.specs.Run.{scratch_bytes}
use Rattle.sets.specs.Kept.{set_at}
use Rattle.axiomtests.specs.declared.members.Sets.{Sets}
use Rattle.axiomtests.specs.Lists.{number_of, SetsIn}
use Rattle.axiomtests.proofs.members.member.Goals as goal

room : (s : List ℕ) (l : Sets) (j m : ℕ) → SetsIn s l → j < l.count → m ≡ number_of (words s) l j → 8 * (l.first + l.step * m) + 8 ≤ scratch_bytes
room s l j m S h e = rw e (S.room j h)

pub overflow_mul-l : goal.overflow_mul-l
overflow_mul-l c = record { fits = omega (arith, room _ _ _ _ c.requires.0 c.requires.1 c.get_word-m.ensures) }

pub overflow_add-l-2 : goal.overflow_add-l-2
overflow_add-l-2 c = record { fits = omega (arith, room _ _ _ _ c.requires.0 c.requires.1 c.get_word-m.ensures) }

pub get_set-requires : goal.get_set-requires
get_set-requires c = omega (arith, room _ _ _ _ c.requires.0 c.requires.1 c.get_word-m.ensures, c.requires.0.space)

pub returns : goal.returns
returns c =
    c.get_set.ensures ∙ ap (λ (m : ℕ). set_at (words c.args.scratch.now) (c.args.l.first + c.args.l.step * m)) c.get_word-m.ensures
