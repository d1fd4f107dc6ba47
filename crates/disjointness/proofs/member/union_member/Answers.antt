use mathlib.Core.Path.{refl, subst, ap, ◌∙◌}
use native.Mathlib.Omega.{arith}
use Rattle.std.specs.Prelude.{Ok}
use Rattle.std.proofs.lemmas.Result.{err_from_is_err_and}
use Rattle.words.specs.Words.{words}
use Rattle.ir.specs.Encoded.{encoded}
use Rattle.rules.specs.Axioms.{member_with}
use Rattle.antecedents.specs.Counts.{GoodEncoded}
use Rattle.hands.specs.HandLaws.{sized_two}
use Rattle.axioms.specs.RoleLaws.{good_restart}
use Rattle.axioms.specs.Bodies.{gives_class}
use Rattle.axioms.specs.BodyLaws.{encoding_kept}
use Rattle.disjointness.specs.EncodeLaws.{found_alike, found_sourced, encoded_found, encoded_none, encoded_refused}
use Rattle.disjointness.proofs.member.union_member.Goals as goal

pub push_bodies-requires : goal.push_bodies-requires
push_bodies-requires c = let v = c.restart_vars in let r = c.encode_antecedent in let k = c.args.lent.now.counters in let x = c.in-Some.alternatives in
    let w = words c.args.scratch.now in
    let is = ap (encoded r.new.k) (c.in_ok-alternatives.was ∙ ap Ok c.in-Some.is) in
    let A = found_alike k v.new.self c.args.m w (encoded r.new.k r.result) v.ensures r.ensures.0 r.new.k x.count x.longest is in
    let e = A.concepts in (
      encoding_kept c.args.scratch.now c.args.scratch.now k r.new.k refl refl A c.requires.0,
      omega (arith, e, c.requires.1),
      c.requires.2,
      c.requires.3,
      subst GoodEncoded is r.ensures.1,
      found_sourced k v.new.self c.args.m w (encoded r.new.k r.result) v.ensures r.ensures.0 c.requires.0.canon c.requires.0.roles (good_restart k v.new.self v.ensures c.requires.4) r.new.k x.count x.longest is,
      sized_two c.args.lent.now.sized,
    )

pub returns-in-Some-clause-did : goal.returns-in-Some-clause-did
returns-in-Some-clause-did c = let v = c.restart_vars in let r = c.encode_antecedent in let t = c.args.lent.now in let x = c.in-Some.alternatives in
    let is = ap (encoded r.new.k) (c.in_ok-alternatives.was ∙ ap Ok c.in-Some.is) in
    (encoded_found t.counters v.new.self c.args.m (words c.args.scratch.now) (encoded r.new.k r.result) v.ensures r.ensures.0 (words t.clauses.now) (words t.atoms.now) (words t.deferrals.now) (λ env. member_with env c.args.class)
    (gives_class c.args.class) (λ env l s. refl) r.new.k x.count x.longest _ _ is (good_restart t.counters v.new.self v.ensures c.requires.4) (c.push_bodies.ensures (words t.deferrals.now)))

pub returns-in-None-clause-did : goal.returns-in-None-clause-did
returns-in-None-clause-did c = let v = c.restart_vars in let r = c.encode_antecedent in let p = c.defer.ensures in let t = c.args.lent.now in
    let is = ap (encoded r.new.k) (c.in_ok-alternatives.was ∙ ap Ok c.in-None.is) in
    encoded_none t.counters v.new.self c.args.m (words c.args.scratch.now) (encoded r.new.k r.result) v.ensures r.ensures.0 (words t.clauses.now) (words t.atoms.now) (words t.deferrals.now) (λ env. member_with env c.args.class)
    r.new.k _ _ is (p.good_answer (subst GoodEncoded is r.ensures.1)) p.kept_answer p.deferrals_after

pub returns-in_err-alternatives-clause-did : goal.returns-in_err-alternatives-clause-did
returns-in_err-alternatives-clause-did c = let q = err_from_is_err_and c.from_residual.result c.from_residual.ensures.1 in let v = c.restart_vars in let r = c.encode_antecedent in let t = c.args.lent.now in
    rw (q.1, q.2) (encoded_refused t.counters v.new.self c.args.m (words c.args.scratch.now) (encoded r.new.k r.result) v.ensures r.ensures.0 (words t.clauses.now) (words t.atoms.now) (words t.deferrals.now) (λ env. member_with env c.args.class)
    _ (ap (encoded r.new.k) c.in_err-alternatives.was))
