use mathlib.Core.Path.{sym, subst}
use Prim.Native.Nat.{ℕ, ◌<◌}
use native.Mathlib.Omega.{arith}
use lib.Dec.{eqb}
use Rattle.words.specs.Words.{words}
use Rattle.clausetests.specs.Given.{NamesRoles, PairWith}
use Rattle.clausetests.specs.SetLaws.{turned_id, row_is, one_is, there_size, there_role, there_rows}
use Rattle.clausetests.proofs.atom.atom_row.Goals as goal

pub code-requires : goal.code-requires
code-requires c =
    let a = c.args in
    let t = c.turned in
    let h = there_role a.size a.a c.requires.2.0 c.requires.2.1 a.scratch.now c.requires.2.2 t.result (λ roles N. subst (λ (i : ℕ). i < roles) (sym (turned_id c.in-Role.r t.result (eqb c.in-Role.u a.«free») t.ensures)) (subst (NamesRoles roles) c.in-Role.is N)) in
    omega (arith, h)

pub row-requires : goal.row-requires
row-requires c =
    let a = c.args in
    let t = c.turned in
    let h = there_rows a.size a.a c.requires.2.0 c.requires.2.1 a.scratch.now c.requires.2.2 t.result (λ roles N. subst (λ (i : ℕ). i < roles) (sym (turned_id c.in-Role.r t.result (eqb c.in-Role.u a.«free») t.ensures)) (subst (NamesRoles roles) c.in-Role.is N)) c.code.result c.code.ensures in
    (h.0, omega (arith, h.1, c.requires.0), h.2)

pub with-requires : goal.with-requires
with-requires c = let a = c.args in let h = there_size a.size a.a c.requires.2.0 c.requires.2.1 a.scratch.now c.requires.2.2 in omega (arith, h, c.requires.0)

pub returns-in-Role : goal.returns-in-Role
returns-in-Role c =
    let a = c.args in
    let t = c.turned in
    λ I roles text w G N. row_is I roles a.size text w (words a.scratch.now) G a.«free» a.x c.row.result a.a c.requires.0 c.requires.1 c.in-Role.r t.result c.in-Role.u c.in-Role.field-2 c.code.result c.in-Role.is N t.ensures c.code.ensures c.row.ensures

pub returns-in-Equal : goal.returns-in-Equal
returns-in-Equal c =
    let a = c.args in
    λ I roles text w G N. one_is I roles a.size text w (words a.scratch.now) G a.«free» a.x c.with.result a.a c.requires.0 c.requires.1 c.in-Equal.field-0 c.in-Equal.field-1 c.in-Equal.is c.with.ensures

pub unreachable-requires : goal.unreachable-requires
unreachable-requires c = subst (PairWith c.args.«free») c.in-Class.is c.requires.1

pub unreachable-requires-in-Exists : goal.unreachable-requires-in-Exists
unreachable-requires-in-Exists c = subst (PairWith c.args.«free») c.in-Exists.is c.requires.1

pub unreachable-requires-in-AtMost : goal.unreachable-requires-in-AtMost
unreachable-requires-in-AtMost c = subst (PairWith c.args.«free») c.in-AtMost.is c.requires.1

pub unreachable-requires-in-AtLeast : goal.unreachable-requires-in-AtLeast
unreachable-requires-in-AtLeast c = subst (PairWith c.args.«free») c.in-AtLeast.is c.requires.1
