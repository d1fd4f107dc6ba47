use mathlib.Core.Path.{refl}
use native.Mathlib.Omega.{arith}
use Rattle.words.specs.Words.{words}
use Rattle.rules.specs.Branches.{renumber, memo_of}
use Rattle.branches.specs.Layout.{met_at, renumbered_at}
use Rattle.branches.specs.NameLaws.{body_held, named_kept, there_kept, named_old, found_below, found_none, only_memo}
use Rattle.branches.proofs.memo.name_of.Goals as goal

pub memo-requires : goal.memo-requires
memo-requires c = let u = c.renumber in let O = u.ensures.only_renumbered in let h = c.hash-h.ensures in (there_kept met_at (words c.args.scratch.now) (words u.new.scratch) c.args.s O.before (omega arith) c.requires.4, c.requires.1, omega (arith, u.auto.scratch, c.requires.6), h.0, h.1)

pub overflow_add-result : goal.overflow_add-result
overflow_add-result c =
    let u = c.renumber in
    let K = c.requires.4 in
    let b = found_below c.args.s c.in-Some.i _ (c.in-Some.ensures (renumber c.requires.0.list c.args.root) K.state (body_held renumbered_at (words c.args.scratch.now) (words u.new.scratch) c.args.atoms.base c.args.atoms.count c.args.root c.requires.0.list c.requires.0 c.requires.1 c.requires.0.are (u.ensures.at c.requires.0.list c.requires.0.are)) (named_kept met_at (words c.args.scratch.now) (words u.new.scratch) c.args.s K.state u.ensures.only_renumbered.before (omega arith) K.held)) in
    omega (arith, b, c.requires.5)

pub returns-in-Some : goal.returns-in-Some
returns-in-Some c = let u = c.renumber in let O = u.ensures.only_renumbered in record {
  named_by = λ l z A H. let D = body_held renumbered_at (words c.args.scratch.now) (words u.new.scratch) c.args.atoms.base c.args.atoms.count c.args.root l c.requires.0 c.requires.1 A (u.ensures.at l A) in let K = named_kept met_at (words c.args.scratch.now) (words u.new.scratch) c.args.s z O.before (omega arith) H in named_old (words u.new.scratch) c.args.s c.in-Some.i (renumber l c.args.root) z (c.in-Some.ensures (renumber l c.args.root) z D K) K;
  only_memo = only_memo (words c.args.scratch.now) (words u.new.scratch) (words u.new.scratch) O (λ j h. refl);
}

pub name_new-requires : goal.name_new-requires
name_new-requires c = let u = c.renumber in let O = u.ensures.only_renumbered in let h = c.hash-h.ensures in (there_kept met_at (words c.args.scratch.now) (words u.new.scratch) c.args.s O.before (omega arith) c.requires.4, c.requires.1, c.requires.5, omega (arith, u.auto.scratch, c.requires.6), h.0, h.1)

pub returns-in-None : goal.returns-in-None
returns-in-None c = let u = c.renumber in let O = u.ensures.only_renumbered in let v = c.name_new in record {
  named_by = λ l z A H. let D = body_held renumbered_at (words c.args.scratch.now) (words u.new.scratch) c.args.atoms.base c.args.atoms.count c.args.root l c.requires.0 c.requires.1 A (u.ensures.at l A) in let K = named_kept met_at (words c.args.scratch.now) (words u.new.scratch) c.args.s z O.before (omega arith) H in v.ensures.named_by (renumber l c.args.root) z D K (found_none c.args.s (memo_of z.named (renumber l c.args.root)) (c.in-None.ensures (renumber l c.args.root) z D K));
  only_memo = only_memo (words c.args.scratch.now) (words u.new.scratch) (words v.new.scratch) O v.ensures.by_index;
}
