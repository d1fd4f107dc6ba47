-- An accepted run: its deck was read, it is within its bounds, and its clauses stand in its tables. Assumes nothing.
use Rattle.std.specs.Prelude.{◌≡◌, List, ℕ, ◌+◌, ◌*◌, ◌-◌, length, take, replicate}
use Rattle.std.proofs.Common.{ap, ◌∙◌, arith, take_at}
use Rattle.words.specs.Words.{words}
use Rattle.words.specs.Bytes.{Words}
use Rattle.rules.specs.State.{total}
use Rattle.rules.specs.Deck.{Known, fine, read_deck}
use Rattle.rules.specs.DeckLaws.{bounds_of, read_in}
use Rattle.rules.specs.Run.{Lengths, Accepted, accepted, refused, Run, visit_limit, first_fresh, rooms_of, clause_words, atom_words, clause_records, atom_records, clause_table, atom_table}
use Rattle.rules.proofs.RunLaws.{Sized, AcceptedIn, run_outcome, run_accepted}
use Rattle.rules.specs.DecodeLaws.{clause_records_long, atom_records_long, words_table, fits_words}
use Rattle.tables.specs.Tabled.{Tabled}

module _ (deck : List ℕ) (t : Lengths) (x : Accepted) (q : Run deck t ≡ accepted x) where
  pub run_read_lem : (d : Known) × (read_deck deck ≡ fine d)
  run_read_lem = run_outcome visit_limit deck t (λ o. o ≡ accepted x → (d : Known) × (read_deck deck ≡ fine d)) (none 1 0) (λ k line _. none k line) (λ d e _ _. (d, e)) q
    where
      none : (k line : ℕ) → refused k line ≡ accepted x → (d : Known) × (read_deck deck ≡ fine d)
      none k line e = let z : ◌≡◌ {A = ℕ} 0 1 = cc in absurd (omega arith)

  pub run_within : Sized t × AcceptedIn run_read_lem.0 visit_limit (rooms_of t) x
  run_within = run_accepted visit_limit deck t run_read_lem.0 x run_read_lem.1 q

  run_words : Words (clause_records 0 x.clauses) × Words (atom_records x.clauses)
  run_words =
      let d = run_read_lem.0 in
      let D = read_in deck d run_read_lem.1 in
      let S = run_within.0 in
      let I = run_within.1 in
      fits_words (bounds_of d) (first_fresh d + x.fresh_ids) (visit_limit + 513)
      (omega (arith, D.roles)) (omega (arith, D.classes, D.individuals, I.fresh, I.clauses, S.clauses)) (omega arith)
      x.clauses I.all_in (omega (arith, I.atoms, S.atoms))

  -- its clauses stand in its tables
  pub run_tabled : Tabled (words (clause_table t (accepted x))) (words (atom_table t (accepted x))) x.stats.total x.clauses
  run_tabled =
      let c = clause_records 0 x.clauses in
      let a = atom_records x.clauses in
      let n : x.stats.total ≡ length x.clauses = run_within.1.counted in
      record {
        count = n;
        clauses = ap (λ (w : List ℕ). take (clause_words * x.stats.total) w) (words_table t.clauses c run_words.0) ∙ take_at c (words (replicate (t.clauses - 4 * length c) 0)) (clause_words * x.stats.total) (omega (arith, n, clause_records_long 0 x.clauses));
        atoms = ap (λ (w : List ℕ). take (atom_words * total x.clauses) w) (words_table t.atoms a run_words.1) ∙ take_at a (words (replicate (t.atoms - 4 * length a) 0)) (atom_words * total x.clauses) (atom_records_long x.clauses);
      }
