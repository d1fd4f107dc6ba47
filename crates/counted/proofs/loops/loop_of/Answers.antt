use mathlib.Core.Path.{sym, ap, ◌∙◌}
use mathlib.Core.List.{◌++◌}
use native.Mathlib.Omega.{arith}
use Rattle.words.specs.Words.{words}
use Rattle.words.specs.Laws.{length_words, words_long}
use Rattle.ir.specs.Roles.{role_code, role_code_lem}
use Rattle.rules.specs.Base.{contains}
use Rattle.counted.specs.LoopingLaws.{looping_tabled, looping_within, looped_same}
use Rattle.counted.specs.OneLoop.{Made, looping_there, vars_there, atom_room, read_no, read_other, read_at_most, role_small, loop_there}
use Rattle.counted.specs.LoopSteps.{loop_other, loop_role, loop_long, loop_old, loop_new, looped_new}
use Rattle.counted.proofs.loops.loop_of.Goals as goal
use Rattle.reflexive.specs.IdLaws.{code_id}

pub head_of-requires : goal.head_of-requires
head_of-requires c =
    let k = c.args.k.now in
    let C = words c.args.clauses.now in
    let A = words c.args.atoms.now in
    looping_there k C A c.args.from c.requires.0 c.args.c c.requires.1

pub get_atom-requires : goal.get_atom-requires
get_atom-requires c =
    let k = c.args.k.now in
    let C = words c.args.clauses.now in
    let A = words c.args.atoms.now in
    omega (arith, atom_room k C A c.args.from c.requires.0 c.args.c c.requires.1 _ c.head_of.ensures c.args.j c.requires.2)

pub returns-in_default-clause-fact : goal.returns-in_default-clause-fact
returns-in_default-clause-fact c =
    let k = c.args.k.now in
    let C = words c.args.clauses.now in
    let A = words c.args.atoms.now in
    λ d. absurd (read_no k C A c.args.from c.requires.0 c.args.c c.requires.1 _ c.head_of.ensures c.args.j c.requires.2 c.get_atom.result c.get_atom.ensures c.in_default.is)

pub returns-in_default-a : goal.returns-in_default-a
returns-in_default-a c =
    let k = c.args.k.now in
    let C = words c.args.clauses.now in
    let A = words c.args.atoms.now in
    record {
      fact = loop_other k (words c.args.scratch.now) C A c.args.from c.args.c c.args.j c.requires.0 c.requires.1 _ c.head_of.ensures c.requires.2 (read_other k C A c.args.from c.requires.0 c.args.c c.requires.1 _ c.head_of.ensures c.args.j c.requires.2 c.get_atom.result c.get_atom.ensures c.in-Some.a c.in-Some.is (λ q u n v e. c.in_default-a.not-AtMost q u n v e)) c.requires.3;
      looped_after = looped_same k C A c.args.from c.requires.0;
    }

pub is_flagged-requires : goal.is_flagged-requires
is_flagged-requires c =
    let k = c.args.k.now in
    let C = words c.args.clauses.now in
    let A = words c.args.atoms.now in
    (role_small k C A c.args.from c.requires.0 c.args.c c.requires.1 _ c.head_of.ensures c.args.j c.requires.2 c.get_atom.result c.get_atom.ensures c.in-Some.a c.in-Some.is c.in-AtMost.role c.in-AtMost.field-1 c.in-AtMost.field-2 c.in-AtMost.v c.in-AtMost.is, omega (arith, c.requires.4))

pub returns-then-not-is_flagged-clause-fact : goal.returns-then-not-is_flagged-clause-fact
returns-then-not-is_flagged-clause-fact c =
    let k = c.args.k.now in
    let C = words c.args.clauses.now in
    let A = words c.args.atoms.now in
    let K = read_at_most k C A c.args.from c.requires.0 c.args.c c.requires.1 _ c.head_of.ensures c.args.j c.requires.2 c.get_atom.result c.get_atom.ensures c.in-Some.a c.in-Some.is c.in-AtMost.role c.in-AtMost.field-1 c.in-AtMost.field-2 c.in-AtMost.v c.in-AtMost.is in
    let f = c.is_flagged in
    loop_role k (words c.args.scratch.now) C A c.args.from c.args.c c.args.j c.requires.0 c.requires.1 _ c.head_of.ensures c.requires.2 (role_code c.in-AtMost.role) K.kind_is K.code_is f.result (λ set F. f.ensures set F ∙ sym (ap (contains set) (code_id c.in-AtMost.role))) c.if-not-is_flagged.true c.requires.3

pub body_count-nb-requires : goal.body_count-nb-requires
body_count-nb-requires c =
    let k = c.args.k.now in
    let C = words c.args.clauses.now in
    let A = words c.args.atoms.now in
    omega (arith, (looping_there k C A c.args.from c.requires.0 c.args.c c.requires.1).is.row, length_words c.args.clauses.now)

pub returns-then-nb-ge256-clause-fact : goal.returns-then-nb-ge256-clause-fact
returns-then-nb-ge256-clause-fact c =
    let k = c.args.k.now in
    let C = words c.args.clauses.now in
    let A = words c.args.atoms.now in
    let K = read_at_most k C A c.args.from c.requires.0 c.args.c c.requires.1 _ c.head_of.ensures c.args.j c.requires.2 c.get_atom.result c.get_atom.ensures c.in-Some.a c.in-Some.is c.in-AtMost.role c.in-AtMost.field-1 c.in-AtMost.field-2 c.in-AtMost.v c.in-AtMost.is in
    let f = c.is_flagged in
    let b = c.body_count-nb in
    loop_long k (words c.args.scratch.now) C A c.args.from c.args.c c.args.j c.requires.0 c.requires.1 _ c.head_of.ensures c.requires.2 (role_code c.in-AtMost.role) K.kind_is K.code_is f.result (λ set F. f.ensures set F ∙ sym (ap (contains set) (code_id c.in-AtMost.role))) b.result b.ensures c.if-not-is_flagged.false c.if-nb-ge256.true

pub atoms_of-requires : goal.atoms_of-requires
atoms_of-requires c =
    let k = c.args.k.now in
    let C = words c.args.clauses.now in
    let A = words c.args.atoms.now in
    looping_there k C A c.args.from c.requires.0 c.args.c c.requires.1

pub next_var_of-fresh-requires : goal.next_var_of-fresh-requires
next_var_of-fresh-requires c =
    let k = c.args.k.now in
    let C = words c.args.clauses.now in
    let A = words c.args.atoms.now in
    let T = looping_there k C A c.args.from c.requires.0 c.args.c c.requires.1 in
    vars_there k C A c.args.from c.requires.0 c.args.c c.requires.1 _ (c.atoms_of.ensures T.clause T.is)

pub body_of-requires : goal.body_of-requires
body_of-requires c =
    let k = c.args.k.now in
    let C = words c.args.clauses.now in
    let A = words c.args.atoms.now in
    looping_there k C A c.args.from c.requires.0 c.args.c c.requires.1

pub put_loop-requires : goal.put_loop-requires
put_loop-requires c =
    let k = c.args.k.now in
    let C = words c.args.clauses.now in
    let A = words c.args.atoms.now in
    let T = looping_there k C A c.args.from c.requires.0 c.args.c c.requires.1 in
    let R = c.body_of.ensures T.clause T.is in
    (record { list = T.clause.body; run = R }, omega (arith, R.long, T.is.body, c.body_count-nb.ensures, c.if-nb-ge256.false), role_small k C A c.args.from c.requires.0 c.args.c c.requires.1 _ c.head_of.ensures c.args.j c.requires.2 c.get_atom.result c.get_atom.ensures c.in-Some.a c.in-Some.is c.in-AtMost.role c.in-AtMost.field-1 c.in-AtMost.field-2 c.in-AtMost.v c.in-AtMost.is, c.requires.4)

pub is_among-requires : goal.is_among-requires
is_among-requires c =
    let k = c.args.k.now in
    let C = words c.args.clauses.now in
    let A = words c.args.atoms.now in
    let K = read_at_most k C A c.args.from c.requires.0 c.args.c c.requires.1 _ c.head_of.ensures c.args.j c.requires.2 c.get_atom.result c.get_atom.ensures c.in-Some.a c.in-Some.is c.in-AtMost.role c.in-AtMost.field-1 c.in-AtMost.field-2 c.in-AtMost.v c.in-AtMost.is in
    let f = c.is_flagged in
    let b = c.body_count-nb in
    let n = c.next_var_of-fresh in
    let p = c.put_loop in
    let w1 = words p.new.scratch in
    let M : Made C A w1 c.args.c (role_code c.in-AtMost.role) c.in-AtMost.v n.result = record {
      var = λ x X. n.ensures (x.body ++ x.head) (c.atoms_of.ensures x X);
      hand = λ x X. rw (role_code_lem c.in-AtMost.role) (p.ensures.in_hand x.body (c.body_of.ensures x X));
    } in (
      loop_there k C A c.args.from c.requires.0 c.args.c c.requires.1 _ c.head_of.ensures c.args.j c.requires.2 (role_code c.in-AtMost.role) c.in-AtMost.v n.result w1 K b.result b.ensures c.if-nb-ge256.false M,
      record { list = c.requires.0.list; tabled = looping_tabled k C A c.args.from c.requires.0 },
      looping_within k C A c.args.from c.requires.0,
      omega (arith, p.auto.scratch, c.requires.4),
    )

pub returns-then-is_among-clause-fact : goal.returns-then-is_among-clause-fact
returns-then-is_among-clause-fact c =
    let k = c.args.k.now in
    let C = words c.args.clauses.now in
    let A = words c.args.atoms.now in
    let K = read_at_most k C A c.args.from c.requires.0 c.args.c c.requires.1 _ c.head_of.ensures c.args.j c.requires.2 c.get_atom.result c.get_atom.ensures c.in-Some.a c.in-Some.is c.in-AtMost.role c.in-AtMost.field-1 c.in-AtMost.field-2 c.in-AtMost.v c.in-AtMost.is in
    let f = c.is_flagged in
    let b = c.body_count-nb in
    let n = c.next_var_of-fresh in
    let p = c.put_loop in
    let w1 = words p.new.scratch in
    let M : Made C A w1 c.args.c (role_code c.in-AtMost.role) c.in-AtMost.v n.result = record {
      var = λ x X. n.ensures (x.body ++ x.head) (c.atoms_of.ensures x X);
      hand = λ x X. rw (role_code_lem c.in-AtMost.role) (p.ensures.in_hand x.body (c.body_of.ensures x X));
    } in
    loop_old k (words c.args.scratch.now) C A c.args.from c.args.c c.args.j c.requires.0 c.requires.1 _ c.head_of.ensures c.requires.2 (role_code c.in-AtMost.role) K.kind_is K.code_is f.result (λ set F. f.ensures set F ∙ sym (ap (contains set) (code_id c.in-AtMost.role))) b.result b.ensures c.if-not-is_flagged.false c.if-nb-ge256.false c.in-AtMost.v n.result K.var_is w1 M p.ensures.scratch_unchanged c.is_among.result c.is_among.ensures c.if-is_among.true c.requires.3

pub push_run-requires : goal.push_run-requires
push_run-requires c =
    let l = c.put_loop.auto.scratch in
    let h = c.if-nb-ge256.false in
    (omega (arith, h), omega arith, omega (arith, l, c.requires.4, h), c.requires.3, c.requires.5)

pub returns-clause-fact : goal.returns-clause-fact
returns-clause-fact c =
    let k = c.args.k.now in
    let C = words c.args.clauses.now in
    let A = words c.args.atoms.now in
    let K = read_at_most k C A c.args.from c.requires.0 c.args.c c.requires.1 _ c.head_of.ensures c.args.j c.requires.2 c.get_atom.result c.get_atom.ensures c.in-Some.a c.in-Some.is c.in-AtMost.role c.in-AtMost.field-1 c.in-AtMost.field-2 c.in-AtMost.v c.in-AtMost.is in
    let f = c.is_flagged in
    let b = c.body_count-nb in
    let n = c.next_var_of-fresh in
    let p = c.put_loop in
    let w1 = words p.new.scratch in
    let M : Made C A w1 c.args.c (role_code c.in-AtMost.role) c.in-AtMost.v n.result = record {
      var = λ x X. n.ensures (x.body ++ x.head) (c.atoms_of.ensures x X);
      hand = λ x X. rw (role_code_lem c.in-AtMost.role) (p.ensures.in_hand x.body (c.body_of.ensures x X));
    } in
    let r = c.push_run in
    loop_new k (words c.args.scratch.now) C A c.args.from c.args.c c.args.j c.requires.0 c.requires.1 _ c.head_of.ensures c.requires.2 (role_code c.in-AtMost.role) K.kind_is K.code_is f.result (λ set F. f.ensures set F ∙ sym (ap (contains set) (code_id c.in-AtMost.role))) b.result b.ensures c.if-not-is_flagged.false c.if-nb-ge256.false c.in-AtMost.v n.result K.var_is w1 M p.ensures.scratch_unchanged c.is_among.result c.is_among.ensures c.if-is_among.false (words r.new.clauses) (words r.new.atoms) _ r.ensures.d_after r.ensures.good_answer r.ensures.kept_answer

pub returns-clause-looped_after : goal.returns-clause-looped_after
returns-clause-looped_after c =
    let k = c.args.k.now in
    let C = words c.args.clauses.now in
    let A = words c.args.atoms.now in
    let K = read_at_most k C A c.args.from c.requires.0 c.args.c c.requires.1 _ c.head_of.ensures c.args.j c.requires.2 c.get_atom.result c.get_atom.ensures c.in-Some.a c.in-Some.is c.in-AtMost.role c.in-AtMost.field-1 c.in-AtMost.field-2 c.in-AtMost.v c.in-AtMost.is in
    let f = c.is_flagged in
    let b = c.body_count-nb in
    let n = c.next_var_of-fresh in
    let p = c.put_loop in
    let w1 = words p.new.scratch in
    let M : Made C A w1 c.args.c (role_code c.in-AtMost.role) c.in-AtMost.v n.result = record {
      var = λ x X. n.ensures (x.body ++ x.head) (c.atoms_of.ensures x X);
      hand = λ x X. rw (role_code_lem c.in-AtMost.role) (p.ensures.in_hand x.body (c.body_of.ensures x X));
    } in
    let r = c.push_run in
    looped_new k (words c.args.scratch.now) C A c.args.from c.args.c c.args.j c.requires.0 c.requires.1 _ c.head_of.ensures c.requires.2 (role_code c.in-AtMost.role) K.kind_is K.code_is f.result (λ set F. f.ensures set F ∙ sym (ap (contains set) (code_id c.in-AtMost.role))) b.result b.ensures c.if-not-is_flagged.false c.if-nb-ge256.false c.in-AtMost.v n.result K.var_is w1 M p.ensures.scratch_unchanged c.is_among.result c.is_among.ensures c.if-is_among.false (words r.new.clauses) (words r.new.atoms) _ r.ensures.d_after (words_long c.args.clauses.now r.new.clauses r.auto.clauses) (words_long c.args.atoms.now r.new.atoms r.auto.atoms)
