use mathlib.Core.List.{List}
use mathlib.Core.Path.{◌≡◌, ap, ◌∙◌}
use Prim.Native.Nat.{ℕ}
use native.Mathlib.Omega.{arith}
use lib.ListN.{set}
use Rattle.words.specs.Words.{words}
use Rattle.words.specs.Laws.{length_words}
use Rattle.branches.specs.Layout.{tops_at}
use Rattle.trees.specs.FlagLaws.{none_set}
use Rattle.trees.specs.TreeLaws.{rooted, tree_kept, tree_none, tree_some}
use Rattle.trees.proofs.tree.tree.Goals as goal

pub grow-n-requires : goal.grow-n-requires
grow-n-requires c = (c.requires.2, none_set c.args.atoms.count 256 c.requires.1, c.requires.1, c.requires.1, omega (arith, c.requires.3, c.put_word-2.auto.s, c.put_word.auto.s))

pub returns-then-any_disconnected : goal.returns-then-any_disconnected
returns-then-any_disconnected c =
    let w = words c.args.scratch.now in
    let p = c.put_word in
    let q = c.put_word-2 in
    let r = c.grow-n in
    let d = c.any_disconnected in
    let k : words q.new.s ≡ rooted w c.args.root = q.ensures ∙ ap (λ (l : List ℕ). set l tops_at c.args.root) p.ensures in record {
      tree_is = λ l A. tree_none w (words q.new.s) (words r.new.scratch) r.new.placed c.args.atoms.base c.args.atoms.count c.args.root r.result (omega (arith, length_words c.args.scratch.now, c.requires.3)) c.requires.2 k r.ensures d.result d.ensures l A c.if-any_disconnected.true;
      only_tree = tree_kept w (words q.new.s) (words r.new.scratch) r.new.placed c.args.atoms.base c.args.atoms.count c.args.root r.result (omega (arith, length_words c.args.scratch.now, c.requires.3)) c.requires.2 k r.ensures;
    }

pub returns : goal.returns
returns c =
    let w = words c.args.scratch.now in
    let p = c.put_word in
    let q = c.put_word-2 in
    let r = c.grow-n in
    let d = c.any_disconnected in
    let k : words q.new.s ≡ rooted w c.args.root = q.ensures ∙ ap (λ (l : List ℕ). set l tops_at c.args.root) p.ensures in record {
      tree_is = λ l A. tree_some w (words q.new.s) (words r.new.scratch) r.new.placed c.args.atoms.base c.args.atoms.count c.args.root r.result (omega (arith, length_words c.args.scratch.now, c.requires.3)) c.requires.2 k r.ensures d.result d.ensures l A c.if-any_disconnected.false;
      only_tree = tree_kept w (words q.new.s) (words r.new.scratch) r.new.placed c.args.atoms.base c.args.atoms.count c.args.root r.result (omega (arith, length_words c.args.scratch.now, c.requires.3)) c.requires.2 k r.ensures;
    }
