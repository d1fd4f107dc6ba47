use mathlib.Core.Path.{◌≡◌, sym, ap, ◌∙◌}
use native.Mathlib.Omega.{arith}
use Prim.Native.Nat.{ℕ, ◌+◌}
use lib.ListN.{set}
use Rattle.words.specs.Words.{words}
use Rattle.words.specs.Laws.{length_words}
use Rattle.ir.specs.Scratch.{roles_at}
use Rattle.ir.specs.Roles.{role_id, role_code, flipped}
use Rattle.inverse.specs.Layout.{entries_at}
use Rattle.inverse.specs.BuildLaws.{entries_same, entries_more}
use Rattle.inverse.proofs.build.declare.Goals as goal

pub returns-then-skip-clause-made : goal.returns-then-skip-clause-made
returns-then-skip-clause-made c = λ m E. entries_same _ m c.args.r c.args.s c.args.entries E (sym (c.skip.ensures m E.mapped) ∙ c.if-skip.true)

pub returns-clause-made : goal.returns-clause-made
returns-clause-made c = λ m E.
    let a = c.args in
    let w = words a.scratch.now in
    let put : words c.put_word.new.s ≡ set w (roles_at + role_id a.s) (role_code (flipped a.r)) =
    c.put_word.ensures ∙ ap (λ (i : ℕ). set w (roles_at + i) c.code.result) c.role_id.ensures ∙ ap (set w (roles_at + role_id a.s)) (c.code.ensures ∙ ap role_code c.flip.ensures) in
    entries_more w (words c.put_word.new.s) _ m a.r a.s a.entries E (sym (c.skip.ensures m E.mapped) ∙ c.if-skip.false) c.requires.2
    (omega (arith, length_words a.scratch.now, c.requires.3)) put
    (c.put_word-2.ensures ∙ ap (set (words c.put_word.new.s) (entries_at + a.entries)) c.role_id-2.ensures) c.requires.1 c.requires.0
