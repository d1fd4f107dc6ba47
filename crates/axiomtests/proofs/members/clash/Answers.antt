use mathlib.Core.Path.{sym, ap, ◌∙◌}
use mathlib.Core.Bool.{not, ◌||◌}
use Prim.Native.Nat.{ℕ}
use lib.Dec.{eqb}
use Rattle.words.specs.Words.{words}
use Rattle.axiomtests.specs.Lists.{number_of}
use Rattle.axiomtests.proofs.ListLaws.{clash_both, clash_none}
use Rattle.axiomtests.proofs.members.clash.Goals as goal

pub returns-then-clashing : goal.returns-then-clashing
returns-then-clashing g c =
    let a = c.args.a in
    let b = number_of (words c.args.scratch.now) c.args.l c.args.k in
    λ always H n f M e. c.both.ensures n (f a) (f b) e (c.member.ensures ∙ M c.args.k c.requires.there.1)
    ∙ clash_both n f always a b (ap (λ (i : ℕ). always || not (eqb a i)) (sym c.get_word-b.ensures) ∙ sym (H _ _ _ c.clashing.ensures) ∙ c.if-clashing.true)

pub returns : goal.returns
returns g c =
    let a = c.args.a in
    let b = number_of (words c.args.scratch.now) c.args.l c.args.k in
    λ always H n f M e. clash_none n f always a b (ap (λ (i : ℕ). always || not (eqb a i)) (sym c.get_word-b.ensures) ∙ sym (H _ _ _ c.clashing.ensures) ∙ c.if-clashing.false)
