use mathlib.Core.Path.{◌≡◌, ◌∙◌, refl, sym}
use Prim.{tt}
use native.Mathlib.Omega.{arith}
use Rattle.words.specs.Words.{words}
use Rattle.pool.specs.Layout.{concept_at, pool_of}
use Rattle.ir.specs.Roles.{role_of}
use Rattle.pool.specs.Layout.{field, concept_at, pool_of}
use Rattle.leaves.specs.ReadLaws.{kind_of, most_kind, concept_11, concept_12, has_role, leaf_min, leaf_min_none, eleven}
use Rattle.leaves.proofs.leaf.counted.Goals as goal

pub canon-role-requires : goal.canon-role-requires
canon-role-requires c = (c.requires.0, c.requires.1, has_role (concept_at (words c.args.scratch.now) c.args.c) (let e = kind_of c.args.scratch.now c.args.k c.requires.0 c.args.c c.requires.1 in let l = c.requires.2 in omega (arith, e, l)))

pub returns-then-kind-eq-MAX : goal.returns-then-kind-eq-MAX
returns-then-kind-eq-MAX c = let e = sym c.kind.ensures ∙ c.if-kind-eq-MAX.true in
    record {
      value = λ env E. rw (concept_12 (words c.args.scratch.now) c.args.c e, c.canon-role.ensures.value env E, c.number-n.ensures) refl;
      leaf_fits = (c.canon-role.ensures.result_bound, omega arith);
    }

pub returns-then-n-eq0 : goal.returns-then-n-eq0
returns-then-n-eq0 c = let f = c.kind.ensures in let e : field (words c.args.scratch.now) c.args.c 0 ≡ 11 = (let m = most_kind c.args.scratch.now c.args.k c.requires.0 c.args.c c.requires.1 in let l = c.requires.2 in eleven (field (words c.args.scratch.now) c.args.c 0) l m (λ z. c.if-kind-eq-MAX.false (f ∙ z))) in
    record {
      value = λ env E. rw (concept_11 (words c.args.scratch.now) c.args.c e) (leaf_min_none env (pool_of (words c.args.scratch.now) c.args.k.concepts) c.args.v (field (words c.args.scratch.now) c.args.c 2) (role_of (field (words c.args.scratch.now) c.args.c 1)) (field (words c.args.scratch.now) c.args.c 3) (sym c.number-n.ensures ∙ c.if-n-eq0.true));
      leaf_fits = tt;
    }

pub returns : goal.returns
returns c = let f = c.kind.ensures in let e : field (words c.args.scratch.now) c.args.c 0 ≡ 11 = (let m = most_kind c.args.scratch.now c.args.k c.requires.0 c.args.c c.requires.1 in let l = c.requires.2 in eleven (field (words c.args.scratch.now) c.args.c 0) l m (λ z. c.if-kind-eq-MAX.false (f ∙ z))) in
    record {
      value = λ env E. rw (concept_11 (words c.args.scratch.now) c.args.c e, c.canon-role.ensures.value env E, c.number-n.ensures) (leaf_min env (pool_of (words c.args.scratch.now) c.args.k.concepts) c.args.v (field (words c.args.scratch.now) c.args.c 2) (role_of (field (words c.args.scratch.now) c.args.c 1)) (field (words c.args.scratch.now) c.args.c 3) (λ z. c.if-n-eq0.false (c.number-n.ensures ∙ z)));
      leaf_fits = (c.canon-role.ensures.result_bound, omega arith);
    }
