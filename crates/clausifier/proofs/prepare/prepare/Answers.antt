use native.Mathlib.Omega.{arith}
use mathlib.Core.Path.{refl, subst}
use mathlib.Core.Bool.{Bool}
use Rattle.words.specs.Words.{words}
use Rattle.rules.specs.Inverse.{inverse_canon_of}
use Rattle.ontology.specs.Layout.{axioms_of}
use Rattle.inverse.specs.Layout.{RolesHeld}
use Rattle.ir.specs.Lined.{Finished, Stopped}
use Rattle.std.proofs.lemmas.Result.{err_from_is_err_and}
use Rattle.clausifier.specs.PrepareLaws.{preparing_ready, preparing_line, preparing_normal, preparing_stops, normal_building, normal_ready, normal_prepared}
use Rattle.clausifier.proofs.prepare.prepare.Goals as goal

pub nnf_axioms-requires : goal.nnf_axioms-requires
nnf_axioms-requires c =
    let a = c.args in
    (preparing_ready a.scratch.now a.k.now a.n c.requires, preparing_line a.scratch.now a.k.now a.n c.requires)

pub build_inverse_canon-requires : goal.build_inverse_canon-requires
build_inverse_canon-requires c =
    let a = c.args in
    let P = c.requires in
    let m = c.nnf_axioms in
    let E = c.in_ok-nnf_axioms.ensures in
    let N = preparing_normal a.scratch.now a.k.now a.n P m.new.scratch (Finished m.new.k) E.scratch_after m.new.k refl E.held_lined E.kept m.auto.scratch in
    normal_building P.known P.limit m.new.scratch m.new.k a.n N

pub number_alternatives-requires : goal.number_alternatives-requires
number_alternatives-requires c =
    let a = c.args in
    let P = c.requires in
    let m = c.nnf_axioms in
    let b = c.build_inverse_canon in
    let E = c.in_ok-nnf_axioms.ensures in
    let N = preparing_normal a.scratch.now a.k.now a.n P m.new.scratch (Finished m.new.k) E.scratch_after m.new.k refl E.held_lined E.kept m.auto.scratch in (
      normal_ready P.known P.limit m.new.scratch m.new.k a.n N b.new.scratch b.ensures.beside b.auto.scratch,
      omega (arith, P.space, m.auto.scratch, b.auto.scratch),
      omega arith,
      record { size = λ j h. absurd (omega arith); vars = λ j h. absurd (omega arith) },
    )

pub returns : goal.returns
returns c = λ P.
    let a = c.args in
    let m = c.nnf_axioms in
    let b = c.build_inverse_canon in
    let g = c.number_alternatives in
    let E = c.in_ok-nnf_axioms.ensures in
    let N = preparing_normal a.scratch.now a.k.now a.n P m.new.scratch (Finished m.new.k) E.scratch_after m.new.k refl E.held_lined E.kept m.auto.scratch in
    normal_prepared P.known P.limit m.new.scratch m.new.k a.n N b.new.scratch b.ensures.beside b.auto.scratch g.new.scratch g.ensures.1 g.auto.scratch (subst (λ (f : Bool). RolesHeld (words b.new.scratch) (inverse_canon_of f (axioms_of (words m.new.scratch) a.n))) c.follow_roles.ensures b.ensures.roles_held) g.ensures.0 c.at_line.new.self c.at_line.ensures

pub returns-in_err-nnf_axioms : goal.returns-in_err-nnf_axioms
returns-in_err-nnf_axioms c =
    let p = err_from_is_err_and c.from_residual.result c.from_residual.ensures.1 in
    let a = c.args in
    let m = c.nnf_axioms in
    let E = c.in_err-nnf_axioms.ensures in
    rw (p.1, p.2) (λ P. preparing_stops a.scratch.now a.k.now a.n P m.new.scratch (Stopped _ _) E.scratch_after _ _ refl)
