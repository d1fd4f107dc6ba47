use mathlib.Core.Path.{◌≡◌, ap}
use native.Mathlib.Omega.{arith}
use Rattle.std.specs.Prelude.{Option, Some, Ok}
use Rattle.std.proofs.lemmas.Result.{err_from_is_err_and}
use Rattle.words.specs.Words.{words}
use Rattle.ir.specs.Encoded.{Found, encoded}
use Rattle.ir.specs.declared.answer.Alternatives.{Alternatives}
use Rattle.hands.specs.Hands.{four}
use Rattle.hands.specs.HandLaws.{sized_two}
use Rattle.leaves.specs.StepLaws.{alike_then}
use Rattle.axioms.specs.MemberLaws.{encoded_alike, found_source}
use Rattle.disjointness.specs.EncodedLaws.{ended_ok, alike_ok, good_ok}
use Rattle.disjointness.specs.SecondLaws.{first_alike, encoding_at, first_source, first_refused, second_refused, second_pairs, unpaired, first_restarted, pair_restarted}
use Rattle.disjointness.proofs.pairs.disjoint_pair.Goals as goal
use Rattle.disjointness.proofs.pairs.disjoint_pair.Goals.{in_default-via-in-Some+in_default, in_default-via-in_default}

pub encode_antecedent-requires-2 : goal.encode_antecedent-requires-2
encode_antecedent-requires-2 c =
    let t = c.args.lent.now in let w = c.args.scratch.now in let v = c.restart_vars in let r = c.encode_antecedent in
    let F = first_restarted w t.counters v.new.self c.args.a c.args.b (encoded r.new.k (Ok c.in_ok-first.first)) v.ensures c.requires.0 c.requires.4 c.requires.1 c.requires.2 c.in_ok-first.ensures.0 c.in_ok-first.ensures.1 in
    let A = alike_ok v.new.self r.new.k c.in_ok-first.first (first_alike w c.args.a c.args.b (encoded r.new.k (Ok c.in_ok-first.first)) F) in
    let e = A.concepts in
    ((encoding_at w c.args.a c.args.b (encoded r.new.k (Ok c.in_ok-first.first)) F r.new.k A).reading.ready, omega (arith, e, F.other), good_ok r.new.k c.in_ok-first.first c.in_ok-first.ensures.1)

pub push_pairs-requires : goal.push_pairs-requires
push_pairs-requires c =
    let t = c.args.lent.now in let w = c.args.scratch.now in let v = c.restart_vars in let r = c.encode_antecedent in
    let F = first_restarted w t.counters v.new.self c.args.a c.args.b (encoded r.new.k (Ok c.in_ok-first.first)) v.ensures c.requires.0 c.requires.4 c.requires.1 c.requires.2 c.in_ok-first.ensures.0 c.in_ok-first.ensures.1 in
    let A = alike_ok v.new.self r.new.k c.in_ok-first.first (first_alike w c.args.a c.args.b (encoded r.new.k (Ok c.in_ok-first.first)) F) in
    let q = c.encode_antecedent-2 in
    let B = alike_ok r.new.k q.new.k c.in_ok-second.second (encoded_alike (words w) r.new.k c.args.b (encoded q.new.k (Ok c.in_ok-second.second)) c.in_ok-second.ensures.0) in
    let x = c.in-Some-Some.alts_a in let y = c.in-Some-Some.alts_b in
    let is : encoded r.new.k (Ok c.in_ok-first.first) ≡ Found r.new.k x.count x.longest = ap (λ (o : Option Alternatives). encoded r.new.k (Ok o)) c.in-Some-Some.is-0 in
    let and : encoded q.new.k (Ok c.in_ok-second.second) ≡ Found q.new.k y.count y.longest = ap (λ (o : Option Alternatives). encoded q.new.k (Ok o)) c.in-Some-Some.is-1 in
    let AB = alike_then v.new.self r.new.k q.new.k A B in
    let e = AB.concepts in (
      encoding_at w c.args.a c.args.b (encoded r.new.k (Ok c.in_ok-first.first)) F q.new.k AB,
      omega (arith, e, F.one),
      omega (arith, e, F.other),
      c.requires.3,
      good_ok q.new.k c.in_ok-second.second c.in_ok-second.ensures.1,
      first_source w c.args.a c.args.b (encoded r.new.k (Ok c.in_ok-first.first)) F r.new.k q.new.k x.count x.longest is B,
      found_source (words w) r.new.k q.new.k c.args.b y.count y.longest F.encoding.canon (encoded q.new.k (Ok c.in_ok-second.second)) F.encoding.roles (good_ok r.new.k c.in_ok-first.first c.in_ok-first.ensures.1) c.in_ok-second.ensures.0 and,
      sized_two t.sized,
    )

pub returns-clause-did : goal.returns-clause-did
returns-clause-did c =
    let t = c.args.lent.now in let w = c.args.scratch.now in let v = c.restart_vars in let r = c.encode_antecedent in
    let F = first_restarted w t.counters v.new.self c.args.a c.args.b (encoded r.new.k (Ok c.in_ok-first.first)) v.ensures c.requires.0 c.requires.4 c.requires.1 c.requires.2 c.in_ok-first.ensures.0 c.in_ok-first.ensures.1 in
    let A = alike_ok v.new.self r.new.k c.in_ok-first.first (first_alike w c.args.a c.args.b (encoded r.new.k (Ok c.in_ok-first.first)) F) in
    let q = c.encode_antecedent-2 in
    let B = alike_ok r.new.k q.new.k c.in_ok-second.second (encoded_alike (words w) r.new.k c.args.b (encoded q.new.k (Ok c.in_ok-second.second)) c.in_ok-second.ensures.0) in
    let x = c.in-Some-Some.alts_a in let y = c.in-Some-Some.alts_b in
    let is : encoded r.new.k (Ok c.in_ok-first.first) ≡ Found r.new.k x.count x.longest = ap (λ (o : Option Alternatives). encoded r.new.k (Ok o)) c.in-Some-Some.is-0 in
    let and : encoded q.new.k (Ok c.in_ok-second.second) ≡ Found q.new.k y.count y.longest = ap (λ (o : Option Alternatives). encoded q.new.k (Ok o)) c.in-Some-Some.is-1 in
    (pair_restarted t.counters v.new.self c.args.a c.args.b c.args.deferred (words w) (words t.clauses.now) (words t.atoms.now) (words t.deferrals.now) (four _ _ _ _) _ v.ensures
    (second_pairs w c.args.a c.args.b (encoded r.new.k (Ok c.in_ok-first.first)) F c.args.deferred (words t.clauses.now) (words t.atoms.now) (words t.deferrals.now) r.new.k x.count x.longest is A
    (encoded q.new.k (Ok c.in_ok-second.second)) c.in_ok-second.ensures.0 q.new.k y.count y.longest and B (good_ok r.new.k c.in_ok-first.first c.in_ok-first.ensures.1) _ _ _ _ (c.push_pairs.ensures (words t.deferrals.now))))

pub returns-in_default-clause-did : goal.returns-in_default-clause-did
returns-in_default-clause-did c =
    let t = c.args.lent.now in let w = c.args.scratch.now in let v = c.restart_vars in let r = c.encode_antecedent in
    let F = first_restarted w t.counters v.new.self c.args.a c.args.b (encoded r.new.k (Ok c.in_ok-first.first)) v.ensures c.requires.0 c.requires.4 c.requires.1 c.requires.2 c.in_ok-first.ensures.0 c.in_ok-first.ensures.1 in
    let A = alike_ok v.new.self r.new.k c.in_ok-first.first (first_alike w c.args.a c.args.b (encoded r.new.k (Ok c.in_ok-first.first)) F) in
    let q = c.encode_antecedent-2 in
    let not : (x y : Alternatives) → c.in_ok-first.first ≡ Some x → c.in_ok-second.second ≡ Some y → ⊥ = λ x y e f.
    elim c.in_default.branch [
      | in_default-via-in-Some+in_default u ↦ cc (u.in_default.is-1, f)
      | in_default-via-in_default u ↦ cc (u.in_default.is-0, e)
    ] in
    pair_restarted t.counters v.new.self c.args.a c.args.b c.args.deferred (words w) (words t.clauses.now) (words t.atoms.now) (words t.deferrals.now) (four _ _ _ _) _ v.ensures
    (unpaired w c.args.a c.args.b r.new.k q.new.k c.args.deferred (words t.clauses.now) (words t.atoms.now) (words t.deferrals.now) _ _ c.in_ok-first.first c.in_ok-second.second F c.in_ok-second.ensures.0 (good_ok q.new.k c.in_ok-second.second c.in_ok-second.ensures.1) not c.give_up.ensures)

pub returns-in_err-first-clause-did : goal.returns-in_err-first-clause-did
returns-in_err-first-clause-did c =
    let t = c.args.lent.now in let w = c.args.scratch.now in let v = c.restart_vars in let r = c.encode_antecedent in
    let p = err_from_is_err_and c.from_residual.result c.from_residual.ensures.1 in
    let F = first_restarted w t.counters v.new.self c.args.a c.args.b (encoded r.new.k r.result) v.ensures c.requires.0 c.requires.4 c.requires.1 c.requires.2 r.ensures.0 r.ensures.1 in
    rw (p.1, p.2) (pair_restarted t.counters v.new.self c.args.a c.args.b c.args.deferred (words w) (words t.clauses.now) (words t.atoms.now) (words t.deferrals.now) (four _ _ _ _) _ v.ensures
    (first_refused w c.args.a c.args.b (encoded r.new.k r.result) F c.args.deferred (words t.clauses.now) (words t.atoms.now) (words t.deferrals.now) _ (ap (encoded r.new.k) c.in_err-first.was)))

pub returns-in_err-second-clause-did : goal.returns-in_err-second-clause-did
returns-in_err-second-clause-did c =
    let t = c.args.lent.now in let w = c.args.scratch.now in let v = c.restart_vars in let r = c.encode_antecedent in
    let F = first_restarted w t.counters v.new.self c.args.a c.args.b (encoded r.new.k (Ok c.in_ok-first.first)) v.ensures c.requires.0 c.requires.4 c.requires.1 c.requires.2 c.in_ok-first.ensures.0 c.in_ok-first.ensures.1 in
    let A = alike_ok v.new.self r.new.k c.in_ok-first.first (first_alike w c.args.a c.args.b (encoded r.new.k (Ok c.in_ok-first.first)) F) in
    let q = c.encode_antecedent-2 in
    let p = err_from_is_err_and c.from_residual-in_err-second.result c.from_residual-in_err-second.ensures.1 in
    rw (p.1, p.2) (pair_restarted t.counters v.new.self c.args.a c.args.b c.args.deferred (words w) (words t.clauses.now) (words t.atoms.now) (words t.deferrals.now) (four _ _ _ _) _ v.ensures
    (second_refused w c.args.a c.args.b (encoded r.new.k (Ok c.in_ok-first.first)) F c.args.deferred (words t.clauses.now) (words t.atoms.now) (words t.deferrals.now) r.new.k (ended_ok v.new.self r.new.k c.in_ok-first.first) A (encoded q.new.k q.result) q.ensures.0 _ (ap (encoded q.new.k) c.in_err-second.was)))
