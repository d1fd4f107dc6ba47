-- The numbers at the end of the pass are small. Assumes nothing.
use Rattle.std.proofs.Common.{ap, arith, take_all}
use Rattle.std.specs.Prelude.{List, ℕ, ◌*◌, ◌≤◌, length}
use Rattle.ir.specs.declared.counters.Counters.{Counters}
use Rattle.rules.specs.State.{Clause, total}
use Rattle.rules.specs.Run.{clause_words}
use Rattle.branches.specs.declared.memo.Naming.{Naming}
use Rattle.decomposition.specs.Turning.{EndThere}
use Rattle.decomposition.specs.StartLaws.{clauses_many, atoms_many, clauses_fit, atoms_fit}
use Rattle.naming.specs.CallLaws.{named_least}

module _ (k : Counters) (w c' a' : List ℕ) (s : Naming) (to n : ℕ) (E : EndThere k w c' a' s to n) where
  pub end_named : s.named ≤ 262144
  end_named = omega (arith, named_least E.passed.state.named, E.passed.held.many, E.passed.held.used, E.passed.held.few)

  pub end_used : s.used ≤ 262144
  end_used = E.passed.held.few

  pub end_clauses : clause_words * k.clauses ≤ length c'
  end_clauses = omega (arith, clauses_fit k E.c E.a E.before, E.passed.half.same_clauses, E.before.lent.clauses)

  pub end_atoms : 6 * k.atoms ≤ length a'
  end_atoms = omega (arith, atoms_fit k E.c E.a E.before, E.passed.half.same_atoms, E.before.lent.atoms)

  pub end_to : to ≤ k.atoms
  end_to =
      let l : List Clause = E.before.state.clauses in
      omega (arith, E.passed.half.low, ap total (take_all k.clauses l (omega (arith, clauses_many k E.c E.a E.before))), atoms_many k E.c E.a E.before)
