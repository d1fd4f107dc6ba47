use mathlib.Core.Path.{refl, ◌∙◌}
use mathlib.Core.List.{List, []}
use Prim.{Unit}
use Prim.Native.Nat.{ℕ}
use native.Mathlib.Omega.{arith}
use Rattle.std.proofs.lemmas.Result.{err_from_is_err_and}
use Rattle.words.specs.Words.{words}
use Rattle.rules.specs.State.{Env}
use Rattle.rules.specs.Axioms.{C, cover}
use Rattle.tables.specs.declared.lent.Tables.{Tables}
use Rattle.pool.specs.Layout.{run}
use Rattle.hands.specs.Hands.{four_of}
use Rattle.axioms.specs.RoleLaws.{alike_restart}
use Rattle.lists.specs.Turns.{Turned}
use Rattle.lists.specs.TurnLaws.{long_words, turned_did}
use Rattle.lists.specs.WordLaws.{run_kept, listed_kept, listed_members}
use Rattle.lists.specs.UnionTurns.{union_rule, members_rule, cover_rule, clausifying_restart, pairs_done, pairs_refused, members_done, members_refused, restart_done}
use Rattle.lists.proofs.unions.union.Goals as goal
use Rattle.lists.proofs.unions.union.Goals.{In_ok-disjoint, In_ok-union_members}

-- on the way from the tables t to the tables n, with scratch's words w and bytes s
abbrev Way : (ℕ → List ℕ → Env → C (Unit {0})) → (class at count : ℕ) (w : List ℕ) (t n : Tables) (s : List ℕ) → Type 0
Way rest class at count w t n s = Turned (union_rule class (run w at count)) (rest class (run w at count)) t.counters n.counters (four_of w t) s (words n.clauses.now) (words n.atoms.now) (words n.deferrals.now)

-- the pairs are done
after_pairs : (c : In_ok-disjoint) → Way members_rule c.args.class c.args.at c.args.count (words c.args.scratch.now) c.args.lent.now c.disjoint.new.lent c.disjoint.new.scratch
after_pairs c =
    let p = c.disjoint in
    let t = c.args.lent.now in
    let n = p.new.lent in
    let R = p.ensures.references in
    pairs_done c.args.class _ t.counters c.args.scratch.now (words t.clauses.now) (words t.atoms.now) (words t.deferrals.now) c.requires.0 p.new.scratch (words n.clauses.now) (words n.atoms.now) (words n.deferrals.now) _ (c.in_ok-disjoint.ensures.fact, c.in_ok-disjoint.ensures.clausifying_after)
    (long_words _ _ t.clauses.now t.atoms.now t.deferrals.now _ _ _ R.3 R.4 R.5) _ 0 refl

-- and the members
after_members : (c : In_ok-union_members) → Way members_rule c.args.class c.args.at c.args.count (words c.args.scratch.now) c.args.lent.now c.disjoint.new.lent c.disjoint.new.scratch
    → Way cover_rule c.args.class c.args.at c.args.count (words c.args.scratch.now) c.args.lent.now c.union_members.new.lent c.union_members.new.scratch
after_members c T =
    let p = c.disjoint in
    let u = c.union_members in
    let n = p.new.lent in
    let m = u.new.lent in
    let R = u.ensures.references in
    let w = words c.args.scratch.now in
    members_done c.args.class (run w c.args.at c.args.count) c.args.lent.now.counters n.counters (four_of w c.args.lent.now) p.new.scratch (words n.clauses.now) (words n.atoms.now) (words n.deferrals.now) T
    (run (words p.new.scratch) c.args.at c.args.count) (run_kept w (words p.new.scratch) T.passed.untouched c.args.at c.args.count c.requires.1.above c.requires.1.below)
    u.new.scratch (words m.clauses.now) (words m.atoms.now) (words m.deferrals.now) _ (c.in_ok-union_members.ensures.fact, c.in_ok-union_members.ensures.clausifying_after)
    (long_words _ _ n.clauses.now n.atoms.now n.deferrals.now _ _ _ R.3 R.4 R.5) _ 0 refl

pub union_members-requires : goal.union_members-requires
union_members-requires c =
    let p = c.disjoint in
    let T = after_pairs (goal.at.union_members-requires c).In_ok-disjoint in
    (T.clausifying, listed_kept (words c.args.scratch.now) (words p.new.scratch) T.passed.untouched c.args.lent.now.counters p.new.lent.counters c.args.at c.args.count T.passed.onward c.requires.1, c.requires.2)

pub cover-requires : goal.cover-requires
cover-requires c =
    let u = c.union_members in
    let v = c.restart_vars in
    let w = words c.args.scratch.now in
    let T = after_members (goal.at.cover-requires c).In_ok-union_members (after_pairs (goal.at.cover-requires c).In_ok-disjoint) in
    let G = clausifying_restart u.new.scratch u.new.lent.counters v.new.self v.ensures T.clausifying in
    let A = alike_restart u.new.lent.counters v.new.self v.ensures in
    let M = listed_members (words u.new.scratch) u.new.lent.counters c.args.at c.args.count (listed_kept w (words u.new.scratch) T.passed.untouched c.args.lent.now.counters u.new.lent.counters c.args.at c.args.count T.passed.onward c.requires.1) in
    (G.encoding.reading, record { below = M.below; ids = λ j h. omega (arith, A.concepts, M.ids j h) }, omega (arith, T.clausifying.space), c.requires.2, G.good)

pub returns : goal.returns
returns c =
    let u = c.union_members in
    let m = u.new.lent in
    let v = c.restart_vars in
    let w = words c.args.scratch.now in
    let l = run w c.args.at c.args.count in
    let T = after_members (goal.at.returns c).In_ok-union_members (after_pairs (goal.at.returns c).In_ok-disjoint) in
    let S = restart_done c.args.class l c.args.lent.now.counters m.counters v.new.self (four_of w c.args.lent.now) u.new.scratch (words m.clauses.now) (words m.atoms.now) (words m.deferrals.now) T v.ensures
    (run (words u.new.scratch) c.args.at c.args.count) (run_kept w (words u.new.scratch) T.passed.untouched c.args.at c.args.count c.requires.1.above c.requires.1.below) in
    let r = c.cover in
    let both = turned_did _ (λ env pool. cover env pool c.args.class (run (words u.new.scratch) c.args.at c.args.count) []) c.args.lent.now.counters v.new.self (four_of w c.args.lent.now) u.new.scratch (words m.clauses.now) (words m.atoms.now) (words m.deferrals.now) S _ _ _ _ _ r.auto.scratch r.ensures.did in
    let P = c.disjoint.ensures.references in
    let Q = u.ensures.references in
    let R = r.ensures.references in
    record {
      references = (R.0 ∙ Q.0 ∙ P.0, R.1 ∙ Q.1 ∙ P.1, R.2 ∙ Q.2 ∙ P.2, R.3 ∙ Q.3 ∙ P.3, R.4 ∙ Q.4 ∙ P.4, R.5 ∙ Q.5 ∙ P.5);
      fact = both.0;
      clausifying_after = both.1;
    }

pub returns-in_err-disjoint-clause-fact : goal.returns-in_err-disjoint-clause-fact
returns-in_err-disjoint-clause-fact c =
    let q = err_from_is_err_and c.from_residual.result c.from_residual.ensures.1 in
    let p = c.disjoint in
    let t = c.args.lent.now in
    let n = p.new.lent in
    rw (q.1, q.2) (pairs_refused c.args.class (run (words c.args.scratch.now) c.args.at c.args.count) t.counters c.args.scratch.now (words t.clauses.now) (words t.atoms.now) (words t.deferrals.now) c.requires.0
    p.new.scratch (words n.clauses.now) (words n.atoms.now) (words n.deferrals.now) _ (c.in_err-disjoint.ensures.fact, c.in_err-disjoint.ensures.clausifying_after) _ refl)

pub returns-in_err-union_members-clause-fact : goal.returns-in_err-union_members-clause-fact
returns-in_err-union_members-clause-fact c =
    let q = err_from_is_err_and c.from_residual-in_err-union_members.result c.from_residual-in_err-union_members.ensures.1 in
    let p = c.disjoint in
    let u = c.union_members in
    let n = p.new.lent in
    let m = u.new.lent in
    let w = words c.args.scratch.now in
    let T = after_pairs (goal.at.returns-in_err-union_members-clause-fact c).In_ok-disjoint in
    rw (q.1, q.2) (members_refused c.args.class (run w c.args.at c.args.count) c.args.lent.now.counters n.counters (four_of w c.args.lent.now) p.new.scratch (words n.clauses.now) (words n.atoms.now) (words n.deferrals.now) T
    (run (words p.new.scratch) c.args.at c.args.count) (run_kept w (words p.new.scratch) T.passed.untouched c.args.at c.args.count c.requires.1.above c.requires.1.below)
    u.new.scratch (words m.clauses.now) (words m.atoms.now) (words m.deferrals.now) _ (c.in_err-union_members.ensures.fact, c.in_err-union_members.ensures.clausifying_after) _ refl)
