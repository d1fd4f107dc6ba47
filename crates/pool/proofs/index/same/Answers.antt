use borrow.Author.Tests.{eq-eqb, ne_eqb}
use native.Mathlib.Omega.{arith}
use mathlib.Core.Path.{◌≡◌, refl, ◌∙◌}
use mathlib.Core.Bool.{true, false}
use Rattle.words.specs.Words.{words}
use Prim.Native.Nat.{◌+◌}
use lib.ListN.{take, drop}
use Rattle.words.specs.Laws.{length_words}
use Rattle.ir.specs.Records.{same_words}
use Rattle.pool.specs.Layout.{field, is_list, pool_of, run}
use Rattle.pool.specs.Tabs.{run_part}
use Rattle.rules.specs.Pool.{members}
use Rattle.pool.specs.HeldLaws.{list_within}
use Rattle.pool.proofs.Equal.{same_as, same_as_lem}
use Rattle.pool.proofs.index.same.Goals as goal

pub returns-then-number-x : goal.returns-then-number-x
returns-then-number-x c = let q : false ≡ same_as (words c.args.scratch.now) c.args.c c.args.at c.args.x = rw (← c.kind.ensures, eq-eqb _ _ c.if-kind-x.false, ← c.role.ensures, eq-eqb _ _ c.if-role-x.false, ← c.number.ensures, ne_eqb _ _ c.if-number-x.true) refl in q ∙ same_as_lem (words c.args.scratch.now) c.args.c c.args.at c.args.x (members (pool_of (words c.args.scratch.now) c.args.c)) c.requires.1.plain (c.requires.0.held.records c.args.c c.requires.2).words

pub same_words-requires : goal.same_words-requires
same_words-requires c = let b : is_list (field (words c.args.scratch.now) c.args.c 0) ≡ true = rw (← c.kind.ensures, c.if-kind-x.false, ← c.is_list.ensures) c.if-is_list.true in let h = list_within (words c.args.scratch.now) c.args.k.concepts c.args.k.members c.requires.0.held c.args.c c.requires.2 b in (omega (arith, c.requires.1.within, rw (← c.is_list.ensures, c.if-is_list.true) at c.requires.1.within), omega (arith, c.child-d.ensures, c.number.ensures, c.if-number-x.false, c.requires.0.room, c.requires.0.held.space))

pub returns-then-is_list : goal.returns-then-is_list
returns-then-is_list c =
    let w = words c.args.scratch.now in
    let a = c.args in
    let b : is_list (field w a.c 0) ≡ true = rw (← c.kind.ensures, c.if-kind-x.false, ← c.is_list.ensures) c.if-is_list.true in
    let h = list_within w a.k.concepts a.k.members c.requires.0.held a.c c.requires.2 b in
    let l = length_words a.scratch.now in
    let x : run w a.at a.x.number ≡ take a.x.number (drop a.at w) = run_part w a.at a.x.number (omega (arith, l, c.requires.1.within, rw (← c.is_list.ensures, c.if-is_list.true) at c.requires.1.within)) in
    let y : run w (12288 + c.child-d.result) a.x.number ≡ take a.x.number (drop (12288 + c.child-d.result) w) = run_part w (12288 + c.child-d.result) a.x.number (omega (arith, l, h, c.child-d.ensures, c.number.ensures, c.if-number-x.false, c.requires.0.room, c.requires.0.held.space)) in
    let s : c.same_words.result ≡ same_words (run w a.at a.x.number) (run w (12288 + c.child-d.result) a.x.number) = rw (x, y) c.same_words.ensures in
    let q : c.same_words.result ≡ same_as w a.c a.at a.x = rw (← c.kind.ensures, eq-eqb _ _ c.if-kind-x.false, ← c.role.ensures, eq-eqb _ _ c.if-role-x.false, ← c.number.ensures, eq-eqb _ _ c.if-number-x.false, ← c.is_list.ensures, c.if-is_list.true, ← c.child-d.ensures, ← s) refl in
    q ∙ same_as_lem w a.c a.at a.x (members (pool_of w a.c)) c.requires.1.plain (c.requires.0.held.records a.c c.requires.2).words
