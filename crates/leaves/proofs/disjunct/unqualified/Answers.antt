use mathlib.Core.Path.{◌≡◌, ◌∙◌, refl, sym}
use native.Mathlib.Omega.{arith}
use Rattle.words.specs.Words.{words}
use Rattle.pool.specs.Layout.{field, concept_at}
use Rattle.leaves.specs.ReadLaws.{kind_of, most_kind, concept_11, concept_12, has_role, twelve}
use Rattle.leaves.proofs.disjunct.unqualified.Goals as goal

pub canon-role-requires : goal.canon-role-requires
canon-role-requires c = (c.requires.0, c.requires.1, has_role (concept_at (words c.args.scratch.now) c.args.c) (let e = kind_of c.args.scratch.now c.args.k c.requires.0 c.args.c c.requires.1 in let l = c.requires.2 in omega (arith, e, l)))

pub returns-then-kind-eq-MIN : goal.returns-then-kind-eq-MIN
returns-then-kind-eq-MIN c = let e = sym c.kind.ensures ∙ c.if-kind-eq-MIN.true in
    record {
      value = λ env E. rw (concept_11 (words c.args.scratch.now) c.args.c e, c.canon-role.ensures.value env E, c.number-n.ensures) refl;
      fits = (c.canon-role.ensures.result_bound, omega arith);
    }

pub returns : goal.returns
returns c = let e : field (words c.args.scratch.now) c.args.c 0 ≡ 12 = twelve (field (words c.args.scratch.now) c.args.c 0) c.requires.2 (most_kind c.args.scratch.now c.args.k c.requires.0 c.args.c c.requires.1) (λ z. c.if-kind-eq-MIN.false (c.kind.ensures ∙ z)) in
    record {
      value = λ env E. rw (concept_12 (words c.args.scratch.now) c.args.c e, c.canon-role.ensures.value env E, c.number-n.ensures) refl;
      fits = (c.canon-role.ensures.result_bound, omega arith);
    }
