-- The clauses of a drawn state as the pass finds them. Assumes nothing.
use Rattle.std.specs.Prelude.{◌≡◌, refl, List, ℕ, ◌*◌, ◌-◌, ◌≤◌, length, drop, replicate}
use Rattle.std.proofs.Common.{sym, ap, ◌∙◌, arith}
use Rattle.ir.specs.declared.counters.Counters.{Counters}
use Rattle.rules.specs.State.{total}
use Rattle.rules.specs.Run.{clause_words, clause_records, atom_records}
use Rattle.rules.specs.DecodeLaws.{clause_records_long, atom_records_long}
use Rattle.tables.specs.DrawnLaws.{counters_is, clauses_is, atoms_is, clauses_count, atoms_count}
use Rattle.tables.specs.ClauseLaws.{tabled_long, show_tabled}
use Rattle.branches.specs.Memo.{named_words}
use Rattle.decomposition.specs.Decomposing.{Decomposing}
use Rattle.decomposition.specs.Turning.{no_clause, no_name, Listed, Passed}
use Rattle.decomposition.specs.HalfLaws.{half_start}
use Rattle.decomposition.specs.PadLaws.{padded_rest}

module _ (k : Counters) (c a : List ℕ) (D : Decomposing k c a) where
  pub clauses_many : k.clauses ≡ length D.state.clauses
  clauses_many = clauses_count D.env k D.state c a D.deferrals D.drawn

  pub atoms_many : k.atoms ≡ total D.state.clauses
  atoms_many = atoms_count D.env k D.state c a D.deferrals D.drawn

  pub class_next : k.next_class ≡ D.state.next_fresh
  class_next = ap (λ (x : Counters). x.next_class) (counters_is D.env k D.state c a D.deferrals D.drawn)

  -- zeros behind the records
  pub clauses_zeros : drop (clause_words * k.clauses) c ≡ replicate (clause_words * D.env.rooms.clauses - clause_words * k.clauses) 0
  clauses_zeros =
      ap (drop (clause_words * k.clauses)) (clauses_is D.env k D.state c a D.deferrals D.drawn)
      ∙ padded_rest (clause_words * D.env.rooms.clauses) (clause_words * k.clauses) (clause_records 0 D.state.clauses) (clause_records_long 0 D.state.clauses ∙ ap (λ (j : ℕ). clause_words * j) (sym clauses_many))

  pub atoms_zeros : drop (6 * k.atoms) a ≡ replicate (6 * D.env.rooms.atoms - 6 * k.atoms) 0
  atoms_zeros =
      ap (drop (6 * k.atoms)) (atoms_is D.env k D.state c a D.deferrals D.drawn)
      ∙ padded_rest (6 * D.env.rooms.atoms) (6 * k.atoms) (atom_records D.state.clauses) (atom_records_long D.state.clauses ∙ ap (λ (j : ℕ). 6 * j) (sym atoms_many))

  pub listed : Listed D.state.clauses D.state.next_fresh c a
  listed = record {
    tabled = rw clauses_many at (show_tabled D.env k c a D.deferrals D.state D.drawn);
    bounds = D.bounds;
    roles = D.roles;
    vars = D.vars;
    inside = D.inside;
    classes = D.classes;
  }

  pub atoms_fit : k.atoms ≤ D.env.rooms.atoms
  atoms_fit = omega (arith, (tabled_long c a (length D.state.clauses) D.state.clauses listed.tabled).1, D.lent.atoms, atoms_many)

  pub clauses_fit : k.clauses ≤ D.env.rooms.clauses
  clauses_fit = omega (arith, (tabled_long c a (length D.state.clauses) D.state.clauses listed.tabled).0, D.lent.clauses, clauses_many)

  -- before the first clause
  pub passed_start : (w : List ℕ) → Passed D.state.clauses D.state.next_fresh c a w c a (record { first = k.next_class; named = 0; used = 0 }) 0 0 0
  unfolding named_words
  passed_start w = record {
    done = no_clause;
    state = no_name D.state.next_fresh;
    same = refl;
    counted = refl;
    fewer = omega arith;
    first = class_next;
    held = record {
      many = refl;
      names = λ i h. absurd (omega arith);
      next = omega (arith, class_next);
      used = refl;
      few = omega arith;
      words = refl;
      bodies = tt;
      marks = tt;
    };
    half = half_start D.state.clauses c a;
  }
