use Rattle.std.proofs.lemmas.Result.{err_from_is_err_and}
use mathlib.Core.Path.{◌≡◌, refl, sym, ap, ◌∙◌}
use mathlib.Core.List.{[]}
use Prim.Native.Nat.{◌+◌, ◌*◌, ◌-◌, ◌≤◌, ◌<◌}
use native.Mathlib.Omega.{arith}
use lib.ListN.{length, take}
use Rattle.words.specs.Words.{words}
use Rattle.words.specs.Laws.{length_words, words_long}
use Rattle.naming.specs.Splits.{split_rule, group_rule}
use Rattle.naming.specs.SplitLaws.{keep_none, tame_of, part_of, split_narrow, split_none, inner_at, named_front, there_front, inner_are, inner_there, fronted_again, split_to, split_full, split_back, reduced_short}
use Rattle.naming.specs.CallLaws.{call_name, call_full, split_there}
use Rattle.branches.specs.Edges.{fronted}
use Rattle.naming.specs.TurnLaws.{child_are, child_high, stay_only, stay_turned, call_turned, called_small}
use Rattle.branches.specs.Sorting.{sum}
use Rattle.naming.specs.GroupTurns.{walk_start, sum_fits, walk_low, walk_high, walk_standing, walk_child, child_most, walk_only, walk_next, walk_stop, left_some, left_none}
use Rattle.rules.specs.Branches.{tree_of, grouped, name_by}
use Rattle.branches.specs.Grouped.{nothing}
use Rattle.naming.specs.NameSteps.{tree_atoms, tree_none, connected, homeless_none, groups_for, laid_by, laid_few, step_answer, laid_held, laid_named, laid_keep}
use Rattle.branches.specs.Layout.{work_words}
use Prim.Native.Nat.{ℕ}
use Rattle.trees.specs.Grouping.{tops as heads, counts as sizes}
use Rattle.trees.specs.ChildLaws.{top_read, count_read, counts_long}
use Rattle.std.proofs.Common.{length-take-le}
use Rattle.naming.proofs.name.+name_branches_name_group_name_groups_split_group_turn.Goals as goal

pub name_branches-returns-in_default-clause-reduced_by : goal.name_branches-returns-in_default-clause-reduced_by
name_branches-returns-in_default-clause-reduced_by t c =
    let the-tree = c.tree in
    let w0 = words c.args.scratch.now in
    let w1 = words the-tree.new.scratch in
    let base = c.args.atoms.base in
    let count = c.args.atoms.count in
    let root = c.args.root in
    let s = c.args.s in
    let long1 = words_long c.args.scratch.now the-tree.new.scratch the-tree.auto.scratch in
    λ l z kept f A H K k. tree_none w0 w1 base count root s long1 c.requires.2 c.requires.3 the-tree.ensures.only_tree l z kept f A H k (rw c.in_default.is at (the-tree.ensures.tree_is l A))

pub name_branches-arrange-requires : goal.name_branches-arrange-requires
name_branches-arrange-requires t c =
    let the-tree = c.tree in
    let list = c.requires.0.list in
    let w0 = words c.args.scratch.now in
    let w1 = words the-tree.new.scratch in
    let base = c.args.atoms.base in
    let count = c.args.atoms.count in
    let root = c.args.root in
    let s = c.args.s in
    let long1 = words_long c.args.scratch.now the-tree.new.scratch the-tree.auto.scratch in
    let joined = connected w1 root list c.in-Some.n (rw c.in-Some.is at (the-tree.ensures.tree_is list c.requires.0.are)) in
    (record { list = list; are = tree_atoms w0 w1 base count root s long1 c.requires.2 c.requires.3 the-tree.ensures.only_tree list c.requires.0.are }, record { root = root; tree = tree_of list root; treed = joined.1 }, c.requires.1, c.requires.3, omega (arith, the-tree.auto.scratch, c.requires.7))

pub name_branches-returns-clause-reduced_by : goal.name_branches-returns-clause-reduced_by
name_branches-returns-clause-reduced_by t c =
    let the-tree = c.tree in
    let the-arrange = c.arrange in
    let base = c.args.atoms.base in
    let count = c.args.atoms.count in
    let root = c.args.root in
    let s = c.args.s in
    let w0 = words c.args.scratch.now in
    let w1 = words the-tree.new.scratch in
    let w2 = words the-arrange.new.scratch in
    let long1 = words_long c.args.scratch.now the-tree.new.scratch the-tree.auto.scratch in
    let long2 = words_long the-tree.new.scratch the-arrange.new.scratch the-arrange.auto.scratch in
    λ l z kept f A H K k. let joined = connected w1 root l c.in-Some.n (rw c.in-Some.is at (the-tree.ensures.tree_is l A)) in homeless_none w2 [] [] base count root s l kept f z joined.0 k (rw c.if-arrange.false at (the-arrange.ensures.arranged_by l root (tree_of l root) (tree_atoms w0 w1 base count root s long1 c.requires.2 c.requires.3 the-tree.ensures.only_tree l A) joined.1)) (laid_held w0 w1 w2 base count s long1 long2 c.requires.2 c.requires.3 the-tree.ensures.only_tree the-arrange.ensures.only_records z H)

pub name_branches-name_groups-requires : goal.name_branches-name_groups-requires
name_branches-name_groups-requires t c =
    let the-tree = c.tree in
    let the-arrange = c.arrange in
    let count = c.args.atoms.count in
    let list = c.requires.0.list in
    let root = c.args.root in
    let made = groups_for list (grouped (tree_of list root).parents root nothing list) in
    let w2 = words the-arrange.new.scratch in
    let tops = heads the-arrange.new.children.each in
    let counts = sizes the-arrange.new.children.each in
    let base = c.args.atoms.base in
    let groups = the-arrange.new.children.len in
    let w0 = words c.args.scratch.now in
    let w1 = words the-tree.new.scratch in
    let s = c.args.s in
    let long1 = words_long c.args.scratch.now the-tree.new.scratch the-tree.auto.scratch in
    let joined = connected w1 root list c.in-Some.n (rw c.in-Some.is at (the-tree.ensures.tree_is list c.requires.0.are)) in
    let laid = laid_by w2 tops counts base count groups list c.requires.0.tame root (tree_of list root).parents (rw c.if-arrange.true at (the-arrange.ensures.arranged_by list root (tree_of list root) (tree_atoms w0 w1 base count root s long1 c.requires.2 c.requires.3 the-tree.ensures.only_tree list c.requires.0.are) joined.1)) in
    let few = laid_few w2 tops counts base count groups made laid in
    let long2 = words_long the-tree.new.scratch the-arrange.new.scratch the-arrange.auto.scratch in
    let mt : 5 * count + 4 ≡ t = c.decreases in
    (omega (arith, mt), (record { groups = made; laid = laid }, c.requires.1, c.requires.2, c.requires.3, laid_named w0 w1 w2 base count s long1 long2 c.requires.2 c.requires.3 the-tree.ensures.only_tree the-arrange.ensures.only_records c.requires.4, c.requires.5, c.requires.6, omega (arith, the-arrange.auto.scratch, the-tree.auto.scratch, c.requires.7)))

pub name_branches-returns-then-arrange-clause-reduced_by : goal.name_branches-returns-then-arrange-clause-reduced_by
name_branches-returns-then-arrange-clause-reduced_by t c =
    let the-tree = c.tree in
    let the-arrange = c.arrange in
    let the-name-groups = c.name_groups in
    let w3 = words the-name-groups.new.scratch in
    let base = c.args.atoms.base in
    let count = c.args.atoms.count in
    let root = c.args.root in
    let s = c.args.s in
    let w1 = words the-tree.new.scratch in
    let w2 = words the-arrange.new.scratch in
    let tops = heads the-arrange.new.children.each in
    let counts = sizes the-arrange.new.children.each in
    let groups = the-arrange.new.children.len in
    let w0 = words c.args.scratch.now in
    let long1 = words_long c.args.scratch.now the-tree.new.scratch the-tree.auto.scratch in
    let long2 = words_long the-tree.new.scratch the-arrange.new.scratch the-arrange.auto.scratch in
    let keep = c.args.keep in
    λ l z kept f A H K k. step_answer w3 base count root s l kept f z the-name-groups.result (connected w1 root l c.in-Some.n (rw c.in-Some.is at (the-tree.ensures.tree_is l A))).0 k (λ g h. the-name-groups.ensures.reduced_by (groups_for l (grouped (tree_of l root).parents root nothing l)) z kept g (laid_by w2 tops counts base count groups l (tame_of w0 base count l c.requires.0 A) root (tree_of l root).parents (rw c.if-arrange.true at (the-arrange.ensures.arranged_by l root (tree_of l root) (tree_atoms w0 w1 base count root s long1 c.requires.2 c.requires.3 the-tree.ensures.only_tree l A) (connected w1 root l c.in-Some.n (rw c.in-Some.is at (the-tree.ensures.tree_is l A))).1))) (laid_held w0 w1 w2 base count s long1 long2 c.requires.2 c.requires.3 the-tree.ensures.only_tree the-arrange.ensures.only_records z H) (laid_keep w0 w1 w2 base count s long1 long2 c.requires.2 c.requires.3 the-tree.ensures.only_tree the-arrange.ensures.only_records keep kept K) h)

pub name_group-name_of-requires : goal.name_group-name_of-requires
name_group-name_of-requires t c =
    let the-split-group = c.split_group in
    let w1 = words the-split-group.new.scratch in
    let base = c.args.atoms.base in
    let count = c.args.atoms.count in
    let s = c.args.s in
    let list = c.requires.0.list in
    let root = c.args.root in
    let top = c.args.t in
    let state = c.requires.4.state in
    let D = (split_there w1 base count s _ _ (split_rule count list root top state) (c.in_ok-m.ensures.split_by list state count c.requires.0.are c.requires.4.held (omega arith))) in
    (D.tame, omega (arith, D.shorter, c.requires.1), omega (arith, c.requires.2), omega (arith, D.shorter, c.requires.3), D.named, omega (arith, D.first, D.few, c.requires.5), omega (arith, the-split-group.auto.scratch, c.requires.6))

pub name_group-returns-clause-called_by : goal.name_group-returns-clause-called_by
name_group-returns-clause-called_by t c =
    let the-split-group = c.split_group in
    let the-name-of = c.name_of in
    let w1 = words the-split-group.new.scratch in
    let w2 = words the-name-of.new.scratch in
    let base = c.args.atoms.base in
    let count = c.args.atoms.count in
    let root = c.args.root in
    let s = c.args.s in
    let top = c.args.t in
    λ l z f A H k. call_name w1 w2 base count root s _ _ _ c.requires.5 the-name-of.ensures.named_by f l top z (c.in_ok-m.ensures.split_by l z f A H k)

pub name_group-returns-in_err-m-clause-called_by : goal.name_group-returns-in_err-m-clause-called_by
name_group-returns-in_err-m-clause-called_by t c =
    let the-split-group = c.split_group in
    let w1 = words the-split-group.new.scratch in
    let base = c.args.atoms.base in
    let count = c.args.atoms.count in
    let root = c.args.root in
    let s = c.args.s in
    let top = c.args.t in
    let back = err_from_is_err_and c.from_residual.result c.from_residual.ensures.1 in
    rw (back.1, back.2) (λ l z f A H k. call_full w1 w1 base count root s f l top z _ (c.in_err-m.ensures.split_by l z f A H k))

pub name_groups-behind-requires : goal.name_groups-behind-requires
name_groups-behind-requires t c =
    let w0 = words c.args.scratch.now in
    let tops = heads c.args.children.now.each in
    let counts = sizes c.args.children.now.each in
    let base = c.args.atoms.base in
    let count = c.args.atoms.count in
    let groups = c.args.children.now.len in
    let root = c.args.root in
    let keep = c.args.keep in
    let s = c.args.s in
    let q : groups ≤ length counts = omega (arith, c.args.children.now.within, counts_long c.args.children.now.each) in
    omega (arith, sum_fits w0 tops counts base count groups root keep s c.requires.0.groups c.requires.0.laid q, c.requires.1)

pub name_groups-overflow_sub-p : goal.name_groups-overflow_sub-p
name_groups-overflow_sub-p t c =
    let the-behind = c.behind in
    let groups = c.args.children.now.len in
    let counts = sizes c.args.children.now.each in
    let w0 = words c.args.scratch.now in
    let tops = heads c.args.children.now.each in
    let base = c.args.atoms.base in
    let count = c.args.atoms.count in
    let root = c.args.root in
    let keep = c.args.keep in
    let s = c.args.s in
    let q : groups ≤ length counts = omega (arith, c.args.children.now.within, counts_long c.args.children.now.each) in
    let e : the-behind.result ≡ sum (take groups counts) = the-behind.ensures in omega (arith, e, sum_fits w0 tops counts base count groups root keep s c.requires.0.groups c.requires.0.laid q)

pub name_groups-loop-child-init : goal.name_groups-loop-child-init
name_groups-loop-child-init t c =
    let the-behind = c.behind in
    let w0 = words c.args.scratch.now in
    let tops = heads c.args.children.now.each in
    let counts = sizes c.args.children.now.each in
    let base = c.args.atoms.base in
    let count = c.args.atoms.count in
    let groups = c.args.children.now.len in
    let root = c.args.root in
    let keep = c.args.keep in
    let s = c.args.s in
    let q : groups ≤ length counts = omega (arith, c.args.children.now.within, counts_long c.args.children.now.each) in
    (refl, walk_start w0 tops counts base count groups root keep s _ q (ap (λ (x : ℕ). base + (count - x)) the-behind.ensures))

pub name_groups-turn-requires : goal.name_groups-turn-requires
name_groups-turn-requires t c =
    let the-loop = c.loop-child in
    let h : c.loop-child.child-index < c.args.children.now.len = omega (arith, c.loop-child-test.true, length-take-le c.args.children.now.len c.args.children.now.each c.args.children.now.within) in
    let count = c.args.atoms.count in
    let w0 = words c.args.scratch.now in
    let tops = heads c.args.children.now.each in
    let counts = sizes c.args.children.now.each in
    let base = c.args.atoms.base in
    let groups = c.args.children.now.len in
    let root = c.args.root in
    let keep = c.args.keep in
    let s = c.args.s in
    let room : work_words ≤ length w0 = omega (arith, c.requires.7, length_words c.args.scratch.now) in
    let w1 = words the-loop.scratch in
    let mt : 5 * count + 3 ≡ t = c.decreases in
    (omega (arith, mt, child_most w0 tops counts base count groups root keep s c.requires.2 c.requires.3 c.requires.1 c.requires.5 c.requires.0 c.requires.4 c.requires.6 room w1 the-loop.reached.naming the-loop.reached.any the-loop.p the-loop.reached.end the-loop.child-index the-loop.invariant.1 h _ _ (count_read c.args.children.now.each c.args.children.now.len the-loop.child-index h) (top_read c.args.children.now.each c.args.children.now.len the-loop.child-index h)), (walk_standing w0 tops counts base count groups root keep s c.requires.2 c.requires.3 c.requires.1 c.requires.5 c.requires.0 c.requires.4 c.requires.6 room w1 the-loop.reached.naming the-loop.reached.any the-loop.p the-loop.reached.end the-loop.child-index the-loop.invariant.1 h _ _ (count_read c.args.children.now.each c.args.children.now.len the-loop.child-index h) (top_read c.args.children.now.each c.args.children.now.len the-loop.child-index h), c.requires.6, omega (arith, the-loop.invariant.0, c.requires.7)))

pub name_groups-returns-in_err-reached-clause-reduced_by : goal.name_groups-returns-in_err-reached-clause-reduced_by
name_groups-returns-in_err-reached-clause-reduced_by t c =
    let the-loop = c.loop-child in
    let h : c.loop-child.child-index < c.args.children.now.len = omega (arith, c.loop-child-test.true, length-take-le c.args.children.now.len c.args.children.now.each c.args.children.now.within) in
    let the-turn = c.turn in
    let w0 = words c.args.scratch.now in
    let tops = heads c.args.children.now.each in
    let counts = sizes c.args.children.now.each in
    let base = c.args.atoms.base in
    let count = c.args.atoms.count in
    let groups = c.args.children.now.len in
    let root = c.args.root in
    let keep = c.args.keep in
    let s = c.args.s in
    let room : work_words ≤ length w0 = omega (arith, c.requires.7, length_words c.args.scratch.now) in
    let w1 = words the-loop.scratch in
    let w2 = words the-turn.new.scratch in
    let back = err_from_is_err_and c.from_residual.result c.from_residual.ensures.1 in
    rw (back.1, back.2) (walk_stop w0 tops counts base count groups root keep s c.requires.2 c.requires.3 c.requires.1 c.requires.5 c.requires.0 c.requires.4 c.requires.6 room w1 the-loop.reached.naming the-loop.reached.any the-loop.p the-loop.reached.end the-loop.child-index the-loop.invariant.1 h _ _ (count_read c.args.children.now.each c.args.children.now.len the-loop.child-index h) (top_read c.args.children.now.each c.args.children.now.len the-loop.child-index h) w2 (words_long c.args.scratch.now the-loop.scratch the-loop.invariant.0) the-turn.result the-turn.ensures.fact the-turn.ensures.fact_2 _ c.in_err-reached.was)

pub name_groups-returns-in_err-reached-clause-only_names : goal.name_groups-returns-in_err-reached-clause-only_names
name_groups-returns-in_err-reached-clause-only_names t c =
    let the-loop = c.loop-child in
    let h : c.loop-child.child-index < c.args.children.now.len = omega (arith, c.loop-child-test.true, length-take-le c.args.children.now.len c.args.children.now.each c.args.children.now.within) in
    let the-turn = c.turn in
    let w0 = words c.args.scratch.now in
    let tops = heads c.args.children.now.each in
    let counts = sizes c.args.children.now.each in
    let base = c.args.atoms.base in
    let count = c.args.atoms.count in
    let groups = c.args.children.now.len in
    let root = c.args.root in
    let keep = c.args.keep in
    let s = c.args.s in
    let room : work_words ≤ length w0 = omega (arith, c.requires.7, length_words c.args.scratch.now) in
    let w1 = words the-loop.scratch in
    let w2 = words the-turn.new.scratch in
    walk_only w0 tops counts base count groups root keep s c.requires.2 c.requires.3 c.requires.1 c.requires.5 c.requires.0 c.requires.4 c.requires.6 room w1 the-loop.reached.naming the-loop.reached.any the-loop.p the-loop.reached.end the-loop.child-index the-loop.invariant.1 h _ _ (count_read c.args.children.now.each c.args.children.now.len the-loop.child-index h) (top_read c.args.children.now.each c.args.children.now.len the-loop.child-index h) w2 (words_long c.args.scratch.now the-loop.scratch the-loop.invariant.0) the-turn.result the-turn.ensures.fact the-turn.ensures.fact_2

pub name_groups-overflow_add-p-in-loop-child : goal.name_groups-overflow_add-p-in-loop-child
name_groups-overflow_add-p-in-loop-child t c =
    let the-loop = c.loop-child in
    let h : c.loop-child.child-index < c.args.children.now.len = omega (arith, c.loop-child-test.true, length-take-le c.args.children.now.len c.args.children.now.each c.args.children.now.within) in
    let w0 = words c.args.scratch.now in
    let tops = heads c.args.children.now.each in
    let counts = sizes c.args.children.now.each in
    let base = c.args.atoms.base in
    let count = c.args.atoms.count in
    let groups = c.args.children.now.len in
    let root = c.args.root in
    let keep = c.args.keep in
    let s = c.args.s in
    let room : work_words ≤ length w0 = omega (arith, c.requires.7, length_words c.args.scratch.now) in
    let w1 = words the-loop.scratch in
    omega (arith, walk_child w0 tops counts base count groups root keep s c.requires.2 c.requires.3 c.requires.1 c.requires.5 c.requires.0 c.requires.4 c.requires.6 room w1 the-loop.reached.naming the-loop.reached.any the-loop.p the-loop.reached.end the-loop.child-index the-loop.invariant.1 h _ _ (count_read c.args.children.now.each c.args.children.now.len the-loop.child-index h) (top_read c.args.children.now.each c.args.children.now.len the-loop.child-index h), c.requires.3)

pub name_groups-loop-child-preserved : goal.name_groups-loop-child-preserved
name_groups-loop-child-preserved t c =
    let the-loop = c.loop-child in
    let h : c.loop-child.child-index < c.args.children.now.len = omega (arith, c.loop-child-test.true, length-take-le c.args.children.now.len c.args.children.now.each c.args.children.now.within) in
    let the-turn = c.turn in
    let w0 = words c.args.scratch.now in
    let tops = heads c.args.children.now.each in
    let counts = sizes c.args.children.now.each in
    let base = c.args.atoms.base in
    let count = c.args.atoms.count in
    let groups = c.args.children.now.len in
    let root = c.args.root in
    let keep = c.args.keep in
    let s = c.args.s in
    let room : work_words ≤ length w0 = omega (arith, c.requires.7, length_words c.args.scratch.now) in
    let w1 = words the-loop.scratch in
    let w2 = words the-turn.new.scratch in
    (the-turn.auto.scratch ∙ the-loop.invariant.0, walk_next w0 tops counts base count groups root keep s c.requires.2 c.requires.3 c.requires.1 c.requires.5 c.requires.0 c.requires.4 c.requires.6 room w1 the-loop.reached.naming the-loop.reached.any the-loop.p the-loop.reached.end the-loop.child-index the-loop.invariant.1 h _ _ (count_read c.args.children.now.each c.args.children.now.len the-loop.child-index h) (top_read c.args.children.now.each c.args.children.now.len the-loop.child-index h) w2 (words_long c.args.scratch.now the-loop.scratch the-loop.invariant.0) the-turn.result the-turn.ensures.fact the-turn.ensures.fact_2 _ c.in_ok-reached.was)

pub name_groups-overflow_sub-result : goal.name_groups-overflow_sub-result
name_groups-overflow_sub-result t c =
    let the-loop = c.loop-child in
    let w0 = words c.args.scratch.now in
    let tops = heads c.args.children.now.each in
    let counts = sizes c.args.children.now.each in
    let base = c.args.atoms.base in
    let count = c.args.atoms.count in
    let groups = c.args.children.now.len in
    let root = c.args.root in
    let keep = c.args.keep in
    let s = c.args.s in
    let room : work_words ≤ length w0 = omega (arith, c.requires.7, length_words c.args.scratch.now) in
    let w1 = words the-loop.scratch in
    omega (arith, walk_low w0 tops counts base count groups root keep s c.requires.2 c.requires.3 c.requires.1 c.requires.5 c.requires.0 c.requires.4 c.requires.6 room w1 the-loop.reached.naming the-loop.reached.any the-loop.p the-loop.reached.end the-loop.child-index the-loop.invariant.1)

pub name_groups-overflow_cast-result : goal.name_groups-overflow_cast-result
name_groups-overflow_cast-result t c =
    let the-loop = c.loop-child in
    let w0 = words c.args.scratch.now in
    let tops = heads c.args.children.now.each in
    let counts = sizes c.args.children.now.each in
    let base = c.args.atoms.base in
    let count = c.args.atoms.count in
    let groups = c.args.children.now.len in
    let root = c.args.root in
    let keep = c.args.keep in
    let s = c.args.s in
    let room : work_words ≤ length w0 = omega (arith, c.requires.7, length_words c.args.scratch.now) in
    let w1 = words the-loop.scratch in
    omega (arith, walk_low w0 tops counts base count groups root keep s c.requires.2 c.requires.3 c.requires.1 c.requires.5 c.requires.0 c.requires.4 c.requires.6 room w1 the-loop.reached.naming the-loop.reached.any the-loop.p the-loop.reached.end the-loop.child-index the-loop.invariant.1, walk_high w0 tops counts base count groups root keep s c.requires.2 c.requires.3 c.requires.1 c.requires.5 c.requires.0 c.requires.4 c.requires.6 room w1 the-loop.reached.naming the-loop.reached.any the-loop.p the-loop.reached.end the-loop.child-index the-loop.invariant.1, the-loop.invariant.1.below, c.requires.1)

pub name_groups-returns-clause-reduced_by : goal.name_groups-returns-clause-reduced_by
name_groups-returns-clause-reduced_by t c =
    let the-loop = c.loop-child in
    let over : c.args.children.now.len ≤ c.loop-child.child-index = omega (arith, c.loop-child-test.false, length-take-le c.args.children.now.len c.args.children.now.each c.args.children.now.within) in
    let the-if1 = c.if-reached in
    let w0 = words c.args.scratch.now in
    let tops = heads c.args.children.now.each in
    let counts = sizes c.args.children.now.each in
    let base = c.args.atoms.base in
    let count = c.args.atoms.count in
    let groups = c.args.children.now.len in
    let root = c.args.root in
    let keep = c.args.keep in
    let s = c.args.s in
    let w1 = words the-loop.scratch in
    λ g z kept f L H K k. left_none w0 tops counts base count groups root keep s w1 the-loop.reached.naming the-loop.reached.any the-loop.p the-loop.reached.end the-loop.child-index the-loop.invariant.1 g L over z kept f (the-loop.invariant.1.left g z kept f L H K k) the-if1.false

pub name_groups-returns-then-reached-clause-reduced_by : goal.name_groups-returns-then-reached-clause-reduced_by
name_groups-returns-then-reached-clause-reduced_by t c =
    let the-loop = c.loop-child in
    let over : c.args.children.now.len ≤ c.loop-child.child-index = omega (arith, c.loop-child-test.false, length-take-le c.args.children.now.len c.args.children.now.each c.args.children.now.within) in
    let the-if1 = c.if-reached in
    let w0 = words c.args.scratch.now in
    let tops = heads c.args.children.now.each in
    let counts = sizes c.args.children.now.each in
    let base = c.args.atoms.base in
    let count = c.args.atoms.count in
    let groups = c.args.children.now.len in
    let root = c.args.root in
    let keep = c.args.keep in
    let s = c.args.s in
    let w1 = words the-loop.scratch in
    λ g z kept f L H K k. left_some w0 tops counts base count groups root keep s w1 the-loop.reached.naming the-loop.reached.any the-loop.p the-loop.reached.end the-loop.child-index the-loop.invariant.1 g L over z kept f (the-loop.invariant.1.left g z kept f L H K k) the-if1.true

pub split_group-returns-then-not-is_wide-clause-split_by : goal.split_group-returns-then-not-is_wide-clause-split_by
split_group-returns-then-not-is_wide-clause-split_by t c =
    let the-is-wide = c.is_wide in
    let the-if1 = c.if-not-is_wide in
    let w0 = words c.args.scratch.now in
    let base = c.args.atoms.base in
    let count = c.args.atoms.count in
    let s = c.args.s in
    let root = c.args.root in
    let top = c.args.t in
    λ l z f A H k. split_narrow w0 base count s l root top z f A (tame_of w0 base count l c.requires.0 A) H (sym (the-is-wide.ensures l (part_of c.args.scratch.now base count l c.requires.3 c.requires.6 A)) ∙ the-if1.true)

pub split_group-returns-in_default-clause-split_by : goal.split_group-returns-in_default-clause-split_by
split_group-returns-in_default-clause-split_by t c =
    let the-is-wide = c.is_wide in
    let the-if1 = c.if-not-is_wide in
    let the-only-edge = c.only_edge in
    let w0 = words c.args.scratch.now in
    let base = c.args.atoms.base in
    let count = c.args.atoms.count in
    let s = c.args.s in
    let root = c.args.root in
    let top = c.args.t in
    λ l z f A H k. split_none w0 base count s l root top z f A (tame_of w0 base count l c.requires.0 A) H (sym (the-is-wide.ensures l (part_of c.args.scratch.now base count l c.requires.3 c.requires.6 A)) ∙ the-if1.false) (rw c.in_default.is at (the-only-edge.ensures l A))

pub split_group-name_branches-requires : goal.split_group-name_branches-requires
split_group-name_branches-requires t c =
    let the-only-edge = c.only_edge in
    let the-to-front = c.to_front in
    let count = c.args.atoms.count in
    let e = c.in-Some.e in
    let h : e < count = omega (arith, (c.in-Some.ensures c.requires.0.list c.requires.0.are).within, c.requires.0.are.long) in
    let w0 = words c.args.scratch.now in
    let w1 = words the-to-front.new.scratch in
    let base = c.args.atoms.base in
    let root = c.args.root in
    let top = c.args.t in
    let s = c.args.s in
    let long1 = words_long c.args.scratch.now the-to-front.new.scratch the-to-front.auto.scratch in
    let list = c.requires.0.list in
    let mt : 5 * count ≡ t = c.decreases in
    (omega (arith, mt, h), (inner_there w0 w1 w1 base count e root top s long1 refl c.requires.2 h the-to-front.ensures.only_records list c.requires.0.are c.requires.0.tame (the-to-front.ensures.atoms_are list c.requires.0.are), omega (arith, c.requires.1), omega (arith, c.requires.2), omega (arith, h, c.requires.3), there_front w0 w1 w1 base count e root top s long1 refl c.requires.2 h the-to-front.ensures.only_records c.requires.4, c.requires.5, omega arith, omega (arith, the-to-front.auto.scratch, c.requires.6)))

pub split_group-overflow_add-result : goal.split_group-overflow_add-result
split_group-overflow_add-result t c =
    let the-only-edge = c.only_edge in
    let the-to-front = c.to_front in
    let the-name-branches = c.name_branches in
    let w2 = words the-name-branches.new.scratch in
    let base = c.args.atoms.base in
    let count = c.args.atoms.count in
    let list = c.requires.0.list in
    let e = c.in-Some.e in
    let s = c.args.s in
    let top = c.args.t in
    let w0 = words c.args.scratch.now in
    let w1 = words the-to-front.new.scratch in
    let root = c.args.root in
    let long1 = words_long c.args.scratch.now the-to-front.new.scratch the-to-front.auto.scratch in
    let long2 = words_long the-to-front.new.scratch the-name-branches.new.scratch the-name-branches.auto.scratch in
    let h : e < count = omega (arith, (c.in-Some.ensures c.requires.0.list c.requires.0.are).within, c.requires.0.are.long) in
    omega (arith, reduced_short w2 (base + 1) (count - 1) (inner_at list e) [] s (name_by count (inner_at list e) top [] c.requires.4.state) _ _ (rw c.in-Some-2.is at (c.in_ok-m.ensures.reduced_by (inner_at list e) c.requires.4.state [] count (inner_are w0 w1 w2 base count e root top s long1 long2 c.requires.2 h the-to-front.ensures.only_records list c.requires.0.are c.requires.0.tame (the-to-front.ensures.atoms_are list c.requires.0.are)) (named_front w0 w1 w2 base count e root top s long1 long2 c.requires.2 h the-to-front.ensures.only_records c.requires.4.state c.requires.4.held) (keep_none w1) (omega (arith, h)))), c.requires.1)

pub split_group-from_front-requires : goal.split_group-from_front-requires
split_group-from_front-requires t c =
    let the-only-edge = c.only_edge in
    let the-to-front = c.to_front in
    let the-name-branches = c.name_branches in
    let list = c.requires.0.list in
    let e = c.in-Some.e in
    let w0 = words c.args.scratch.now in
    let w1 = words the-to-front.new.scratch in
    let w2 = words the-name-branches.new.scratch in
    let base = c.args.atoms.base in
    let count = c.args.atoms.count in
    let root = c.args.root in
    let top = c.args.t in
    let s = c.args.s in
    let long1 = words_long c.args.scratch.now the-to-front.new.scratch the-to-front.auto.scratch in
    let long2 = words_long the-to-front.new.scratch the-name-branches.new.scratch the-name-branches.auto.scratch in
    let h : e < count = omega (arith, (c.in-Some.ensures c.requires.0.list c.requires.0.are).within, c.requires.0.are.long) in
    (record { list = fronted list e; are = fronted_again w0 w1 w2 base count e root top s long1 long2 c.requires.2 h the-to-front.ensures.only_records list c.requires.0.are c.requires.0.tame (the-to-front.ensures.atoms_are list c.requires.0.are) the-name-branches.ensures.only_names count c.requires.4.state (rw c.in-None.is at (c.in_ok-m.ensures.reduced_by (inner_at list e) c.requires.4.state [] count (inner_are w0 w1 w2 base count e root top s long1 long2 c.requires.2 h the-to-front.ensures.only_records list c.requires.0.are c.requires.0.tame (the-to-front.ensures.atoms_are list c.requires.0.are)) (named_front w0 w1 w2 base count e root top s long1 long2 c.requires.2 h the-to-front.ensures.only_records c.requires.4.state c.requires.4.held) (keep_none w1) (omega (arith, h)))) }, h, c.requires.3, omega (arith, the-name-branches.auto.scratch, the-to-front.auto.scratch, c.requires.6))

pub split_group-returns-in-Some-2-clause-split_by : goal.split_group-returns-in-Some-2-clause-split_by
split_group-returns-in-Some-2-clause-split_by t c =
    let the-is-wide = c.is_wide in
    let the-if1 = c.if-not-is_wide in
    let the-to-front = c.to_front in
    let the-name-branches = c.name_branches in
    let w0 = words c.args.scratch.now in
    let w1 = words the-to-front.new.scratch in
    let w2 = words the-name-branches.new.scratch in
    let base = c.args.atoms.base in
    let count = c.args.atoms.count in
    let e = c.in-Some.e in
    let root = c.args.root in
    let top = c.args.t in
    let s = c.args.s in
    let long1 = words_long c.args.scratch.now the-to-front.new.scratch the-to-front.auto.scratch in
    let long2 = words_long the-to-front.new.scratch the-name-branches.new.scratch the-name-branches.auto.scratch in
    let h : e < count = omega (arith, (c.in-Some.ensures c.requires.0.list c.requires.0.are).within, c.requires.0.are.long) in
    λ l z f A H k. split_to w0 w1 w2 base count e root top s long1 long2 c.requires.2 h the-to-front.ensures.only_records l A (tame_of w0 base count l c.requires.0 A) (the-to-front.ensures.atoms_are l A) the-name-branches.ensures.only_names f z (sym (the-is-wide.ensures l (part_of c.args.scratch.now base count l c.requires.3 c.requires.6 A)) ∙ the-if1.false) (c.in-Some.ensures l A) _ _ (rw c.in-Some-2.is at (c.in_ok-m.ensures.reduced_by (inner_at l e) z [] f (inner_are w0 w1 w2 base count e root top s long1 long2 c.requires.2 h the-to-front.ensures.only_records l A (tame_of w0 base count l c.requires.0 A) (the-to-front.ensures.atoms_are l A)) (named_front w0 w1 w2 base count e root top s long1 long2 c.requires.2 h the-to-front.ensures.only_records z H) (keep_none w1) (omega (arith, h, k))))

pub split_group-returns-in-None-clause-split_by : goal.split_group-returns-in-None-clause-split_by
split_group-returns-in-None-clause-split_by t c =
    let the-is-wide = c.is_wide in
    let the-if1 = c.if-not-is_wide in
    let the-to-front = c.to_front in
    let the-name-branches = c.name_branches in
    let the-from-front = c.from_front in
    let e = c.in-Some.e in
    let w0 = words c.args.scratch.now in
    let w1 = words the-to-front.new.scratch in
    let w2 = words the-name-branches.new.scratch in
    let base = c.args.atoms.base in
    let count = c.args.atoms.count in
    let root = c.args.root in
    let top = c.args.t in
    let s = c.args.s in
    let long1 = words_long c.args.scratch.now the-to-front.new.scratch the-to-front.auto.scratch in
    let long2 = words_long the-to-front.new.scratch the-name-branches.new.scratch the-name-branches.auto.scratch in
    let h : e < count = omega (arith, (c.in-Some.ensures c.requires.0.list c.requires.0.are).within, c.requires.0.are.long) in
    let w3 = words the-from-front.new.scratch in
    let long3 = words_long the-name-branches.new.scratch the-from-front.new.scratch the-from-front.auto.scratch in
    λ l z f A H k. let N = rw c.in-None.is at (c.in_ok-m.ensures.reduced_by (inner_at l e) z [] f (inner_are w0 w1 w2 base count e root top s long1 long2 c.requires.2 h the-to-front.ensures.only_records l A (tame_of w0 base count l c.requires.0 A) (the-to-front.ensures.atoms_are l A)) (named_front w0 w1 w2 base count e root top s long1 long2 c.requires.2 h the-to-front.ensures.only_records z H) (keep_none w1) (omega (arith, h, k))) in split_back w0 w1 w2 base count e root top s long1 long2 c.requires.2 h the-to-front.ensures.only_records l A (tame_of w0 base count l c.requires.0 A) (the-to-front.ensures.atoms_are l A) the-name-branches.ensures.only_names f z (sym (the-is-wide.ensures l (part_of c.args.scratch.now base count l c.requires.3 c.requires.6 A)) ∙ the-if1.false) (c.in-Some.ensures l A) w3 long3 the-from-front.ensures.only_records (the-from-front.ensures.atoms_are l (sym A.long) (fronted_again w0 w1 w2 base count e root top s long1 long2 c.requires.2 h the-to-front.ensures.only_records l A (tame_of w0 base count l c.requires.0 A) (the-to-front.ensures.atoms_are l A) the-name-branches.ensures.only_names f z N)) N

pub split_group-returns-in_err-m-clause-split_by : goal.split_group-returns-in_err-m-clause-split_by
split_group-returns-in_err-m-clause-split_by t c =
    let the-is-wide = c.is_wide in
    let the-if1 = c.if-not-is_wide in
    let the-to-front = c.to_front in
    let the-name-branches = c.name_branches in
    let w0 = words c.args.scratch.now in
    let w1 = words the-to-front.new.scratch in
    let w2 = words the-name-branches.new.scratch in
    let base = c.args.atoms.base in
    let count = c.args.atoms.count in
    let e = c.in-Some.e in
    let root = c.args.root in
    let top = c.args.t in
    let s = c.args.s in
    let long1 = words_long c.args.scratch.now the-to-front.new.scratch the-to-front.auto.scratch in
    let long2 = words_long the-to-front.new.scratch the-name-branches.new.scratch the-name-branches.auto.scratch in
    let h : e < count = omega (arith, (c.in-Some.ensures c.requires.0.list c.requires.0.are).within, c.requires.0.are.long) in
    let back = err_from_is_err_and c.from_residual.result c.from_residual.ensures.1 in
    rw (back.1, back.2) (λ l z f A H k. split_full w0 w1 w2 base count e root top s long1 long2 c.requires.2 h the-to-front.ensures.only_records l A (tame_of w0 base count l c.requires.0 A) (the-to-front.ensures.atoms_are l A) the-name-branches.ensures.only_names f z (sym (the-is-wide.ensures l (part_of c.args.scratch.now base count l c.requires.3 c.requires.6 A)) ∙ the-if1.false) (c.in-Some.ensures l A) _ (c.in_err-m.ensures.reduced_by (inner_at l e) z [] f (inner_are w0 w1 w2 base count e root top s long1 long2 c.requires.2 h the-to-front.ensures.only_records l A (tame_of w0 base count l c.requires.0 A) (the-to-front.ensures.atoms_are l A)) (named_front w0 w1 w2 base count e root top s long1 long2 c.requires.2 h the-to-front.ensures.only_records z H) (keep_none w1) (omega (arith, h, k))))

pub turn-returns-then-mentions_kept-clause-fact : goal.turn-returns-then-mentions_kept-clause-fact
turn-returns-then-mentions_kept-clause-fact t c =
    let the-mentions-kept = c.mentions_kept in
    let the-if1 = c.if-mentions_kept in
    let the-move-words = c.move_words in
    let w0 = words c.args.scratch.now in
    let w1 = words the-move-words.new.s in
    let q = c.args.reached.end in
    let p = c.args.child.base in
    let size = c.args.child.count in
    let s = c.args.reached.naming in
    let room : work_words ≤ length w0 = omega (arith, c.requires.2, length_words c.args.scratch.now) in
    let root = c.args.root in
    let top = c.args.t in
    let any = c.args.reached.any in
    λ base count result group rest z kept f D K k. stay_turned w0 w1 base count q p size result group rest s z D room the-move-words.ensures f root top any kept (sym (the-mentions-kept.ensures group kept (child_are w0 base count q p size result group rest s z D) K) ∙ the-if1.true)

pub turn-returns-then-mentions_kept-clause-fact_2 : goal.turn-returns-then-mentions_kept-clause-fact_2
turn-returns-then-mentions_kept-clause-fact_2 t c =
    let the-move-words = c.move_words in
    let w0 = words c.args.scratch.now in
    let w1 = words the-move-words.new.s in
    let q = c.args.reached.end in
    let p = c.args.child.base in
    let size = c.args.child.count in
    let s = c.args.reached.naming in
    let room : work_words ≤ length w0 = omega (arith, c.requires.2, length_words c.args.scratch.now) in
    λ base count result group rest z D. stay_only w0 w1 base count q p size result group rest s z D room the-move-words.ensures

pub turn-put_atom-requires : goal.turn-put_atom-requires
turn-put_atom-requires t c =
    let the-name-group = c.name_group in
    let w0 = words c.args.scratch.now in
    let there = c.requires.0 in
    let q = c.args.reached.end in
    let p = c.args.child.base in
    let size = c.args.child.count in
    let s = c.args.reached.naming in
    let stands = c.requires.0.standing in
    let w1 = words the-name-group.new.scratch in
    let root = c.args.root in
    let top = c.args.t in
    (omega (arith, child_high w0 there.base there.count q p size there.result there.group there.rest s there.state stands, stands.below, stands.filled, the-name-group.auto.scratch, c.requires.2), omega (arith, called_small w1 root s (group_rule size there.group root top there.state) _ _ (c.in_ok-naming.ensures.called_by there.group there.state size (child_are w0 there.base there.count q p size there.result there.group there.rest s there.state stands) stands.held (omega arith))))

pub turn-returns-clause-fact : goal.turn-returns-clause-fact
turn-returns-clause-fact t c =
    let the-mentions-kept = c.mentions_kept in
    let the-if1 = c.if-mentions_kept in
    let the-name-group = c.name_group in
    let the-put-atom = c.put_atom in
    let w0 = words c.args.scratch.now in
    let w1 = words the-name-group.new.scratch in
    let q = c.args.reached.end in
    let p = c.args.child.base in
    let size = c.args.child.count in
    let s = c.args.reached.naming in
    let long1 = words_long c.args.scratch.now the-name-group.new.scratch the-name-group.auto.scratch in
    let w2 = words the-put-atom.new.t in
    let room : work_words ≤ length w0 = omega (arith, c.requires.2, length_words c.args.scratch.now) in
    let root = c.args.root in
    let top = c.args.t in
    let any = c.args.reached.any in
    λ base count result group rest z kept f D K k. call_turned w0 w1 base count q p size result group rest s z D long1 the-name-group.ensures.only_names w2 room _ _ root the-put-atom.ensures f top any kept (sym (the-mentions-kept.ensures group kept (child_are w0 base count q p size result group rest s z D) K) ∙ the-if1.false) (c.in_ok-naming.ensures.called_by group z f (child_are w0 base count q p size result group rest s z D) D.held k)

pub name_groups-shared_ref_as_front-child-items : goal.name_groups-shared_ref_as_front-child-items
name_groups-shared_ref_as_front-child-items t c =
    let l = c.args.children.now in
    omega (arith, laid_few (words c.args.scratch.now) (heads l.each) (sizes l.each) c.args.atoms.base c.args.atoms.count l.len c.requires.0.groups c.requires.0.laid, c.requires.1)

pub name_groups-offset_bounds-child-items-child-index : goal.name_groups-offset_bounds-child-items-child-index
name_groups-offset_bounds-child-items-child-index t c =
    let l = c.args.children.now in
    omega (arith, laid_few (words c.args.scratch.now) (heads l.each) (sizes l.each) c.args.atoms.base c.args.atoms.count l.len c.requires.0.groups c.requires.0.laid, c.requires.1, c.loop-child-test.true, length-take-le l.len l.each c.args.children.now.within)
