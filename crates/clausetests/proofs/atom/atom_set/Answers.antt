use mathlib.Core.Path.{subst}
use native.Mathlib.Omega.{arith}
use Rattle.words.specs.Words.{words}
use Rattle.clausetests.specs.Given.{NamesRoles}
use Rattle.clausetests.specs.SetLaws.{class_is, loops_is, some_is, most_is, least_is, equal_is, there_role, there_rows}
use Rattle.clausetests.proofs.atom.atom_set.Goals as goal

pub code-requires : goal.code-requires
code-requires c =
    let a = c.args in
    let h = there_role a.state.now.size a.a a.state.now.text.now a.state.now.store.now a.scratch.now c.requires c.in-Role.r (λ roles N. subst (NamesRoles roles) c.in-Role.is N) in
    omega (arith, h)

pub loops-requires : goal.loops-requires
loops-requires c =
    let a = c.args in
    there_rows a.state.now.size a.a a.state.now.text.now a.state.now.store.now a.scratch.now c.requires c.in-Role.r (λ roles N. subst (NamesRoles roles) c.in-Role.is N) c.code.result c.code.ensures

pub code-requires-in-Exists : goal.code-requires-in-Exists
code-requires-in-Exists c =
    let a = c.args in
    let h = there_role a.state.now.size a.a a.state.now.text.now a.state.now.store.now a.scratch.now c.requires c.in-Exists.r (λ roles N. subst (NamesRoles roles) c.in-Exists.is N) in
    omega (arith, h)

pub at_least-requires : goal.at_least-requires
at_least-requires c =
    let a = c.args in
    there_rows a.state.now.size a.a a.state.now.text.now a.state.now.store.now a.scratch.now c.requires c.in-Exists.r (λ roles N. subst (NamesRoles roles) c.in-Exists.is N) c.code-in-Exists.result c.code-in-Exists.ensures

pub code-requires-in-AtMost : goal.code-requires-in-AtMost
code-requires-in-AtMost c =
    let a = c.args in
    let h = there_role a.state.now.size a.a a.state.now.text.now a.state.now.store.now a.scratch.now c.requires c.in-AtMost.r (λ roles N. subst (NamesRoles roles) c.in-AtMost.is N) in
    omega (arith, h)

pub at_most-requires : goal.at_most-requires
at_most-requires c =
    let a = c.args in
    there_rows a.state.now.size a.a a.state.now.text.now a.state.now.store.now a.scratch.now c.requires c.in-AtMost.r (λ roles N. subst (NamesRoles roles) c.in-AtMost.is N) c.code-in-AtMost.result c.code-in-AtMost.ensures

pub code-requires-in-AtLeast : goal.code-requires-in-AtLeast
code-requires-in-AtLeast c =
    let a = c.args in
    let h = there_role a.state.now.size a.a a.state.now.text.now a.state.now.store.now a.scratch.now c.requires c.in-AtLeast.r (λ roles N. subst (NamesRoles roles) c.in-AtLeast.is N) in
    omega (arith, h)

pub at_least-requires-in-AtLeast : goal.at_least-requires-in-AtLeast
at_least-requires-in-AtLeast c =
    let a = c.args in
    there_rows a.state.now.size a.a a.state.now.text.now a.state.now.store.now a.scratch.now c.requires c.in-AtLeast.r (λ roles N. subst (NamesRoles roles) c.in-AtLeast.is N) c.code-in-AtLeast.result c.code-in-AtLeast.ensures

pub returns-in-Class : goal.returns-in-Class
returns-in-Class c =
    let a = c.args in
    λ I roles G N. class_is I roles a.state.now.size a.state.now.text.now (words a.state.now.store.now) (words a.scratch.now) G a.a c.in-Class.c c.in-Class.field-1 c.class_set.result c.in-Class.is (c.class_set.ensures I roles (words a.scratch.now) G)

pub returns-in-Role : goal.returns-in-Role
returns-in-Role c =
    let a = c.args in
    λ I roles G N. loops_is I roles a.state.now.size a.state.now.text.now (words a.state.now.store.now) (words a.scratch.now) G a.a c.in-Role.r c.code.result c.loops.result c.code.ensures N c.in-Role.field-1 c.in-Role.field-2 c.in-Role.is c.loops.ensures

pub returns-in-Exists : goal.returns-in-Exists
returns-in-Exists c =
    let a = c.args in
    let C = c.code-in-Exists in
    let F = c.class_set-in-Exists in
    λ I roles G N. some_is I roles a.state.now.size a.state.now.text.now (words a.state.now.store.now) (words a.scratch.now) G a.a c.in-Exists.r C.result c.at_least.result C.ensures N F.result c.in-Exists.c c.in-Exists.field-2 c.in-Exists.is (F.ensures I roles (words a.scratch.now) G) c.at_least.ensures

pub returns-in-AtMost : goal.returns-in-AtMost
returns-in-AtMost c =
    let a = c.args in
    let C = c.code-in-AtMost in
    let F = c.filler in
    λ I roles G N. most_is I roles a.state.now.size a.state.now.text.now (words a.state.now.store.now) (words a.scratch.now) G a.a c.in-AtMost.r C.result c.at_most.result C.ensures N F.result c.in-AtMost.q c.in-AtMost.n c.in-AtMost.field-3 c.in-AtMost.is (F.ensures I roles (words a.scratch.now) G) c.at_most.ensures

pub returns-in-AtLeast : goal.returns-in-AtLeast
returns-in-AtLeast c =
    let a = c.args in
    let C = c.code-in-AtLeast in
    let F = c.filler-in-AtLeast in
    λ I roles G N. least_is I roles a.state.now.size a.state.now.text.now (words a.state.now.store.now) (words a.scratch.now) G a.a c.in-AtLeast.r C.result c.at_least-in-AtLeast.result C.ensures N F.result c.in-AtLeast.q c.in-AtLeast.n c.in-AtLeast.field-3 c.in-AtLeast.is (F.ensures I roles (words a.scratch.now) G) c.at_least-in-AtLeast.ensures

pub returns-in-Equal : goal.returns-in-Equal
returns-in-Equal c =
    let a = c.args in
    λ I roles G N. equal_is I roles a.state.now.size a.state.now.text.now (words a.state.now.store.now) (words a.scratch.now) G a.a c.in-Equal.field-0 c.in-Equal.field-1 c.whole.result c.in-Equal.is c.whole.ensures
