use mathlib.Core.Path.{◌≡◌, ◌∙◌, refl, sym}
use native.Mathlib.Omega.{arith}
use Rattle.words.specs.Words.{words}
use Rattle.pool.specs.Layout.{field, concept_at}
use Rattle.leaves.specs.ReadLaws.{kind_of, most_kind, concept_9, concept_11, concept_12, restricts_role, restricts_kind, twelve}
use Rattle.leaves.proofs.disjunct.filler_atom.Goals as goal

pub canon-role-requires : goal.canon-role-requires
canon-role-requires c = (c.requires.0, c.requires.1, restricts_role (concept_at (words c.args.scratch.now) c.args.c) c.requires.2)

pub returns-then-kind-eq-SOME : goal.returns-then-kind-eq-SOME
returns-then-kind-eq-SOME c = let e = sym c.kind-kind.ensures ∙ c.if-kind-eq-SOME.true in
    record {
      value = λ env E. rw (concept_9 (words c.args.scratch.now) c.args.c e, c.canon-role.ensures.value env E) refl;
      fits = (c.canon-role.ensures.result_bound, c.requires.3);
    }

pub returns-then-kind-eq-MIN : goal.returns-then-kind-eq-MIN
returns-then-kind-eq-MIN c = let e = sym c.kind-kind.ensures ∙ c.if-kind-eq-MIN.true in
    record {
      value = λ env E. rw (concept_11 (words c.args.scratch.now) c.args.c e, c.canon-role.ensures.value env E, c.number-n.ensures) refl;
      fits = (c.canon-role.ensures.result_bound, c.requires.3);
    }

pub returns : goal.returns
returns c = let ek = kind_of c.args.scratch.now c.args.k c.requires.0 c.args.c c.requires.1 in let f = c.kind-kind.ensures in let l = restricts_kind (concept_at (words c.args.scratch.now) c.args.c) c.requires.2 (λ z. c.if-kind-eq-SOME.false (f ∙ ek ∙ z)) in let e : field (words c.args.scratch.now) c.args.c 0 ≡ 12 = twelve (field (words c.args.scratch.now) c.args.c 0) (omega (arith, ek, l)) (most_kind c.args.scratch.now c.args.k c.requires.0 c.args.c c.requires.1) (λ z. c.if-kind-eq-MIN.false (f ∙ z)) in
    record {
      value = λ env E. rw (concept_12 (words c.args.scratch.now) c.args.c e, c.canon-role.ensures.value env E, c.number-n.ensures) refl;
      fits = (c.canon-role.ensures.result_bound, c.requires.3);
    }
