-- The end of the pass: the branches behind the clauses, or no room. Assumes nothing.
use Rattle.std.specs.Prelude.{Bool, true, false, ◌≡◌, ℕ, suc, ◌+◌, ◌*◌, ◌-◌, ◌≤◌, ◌<◌, length, take, drop, replicate, leb}
use Rattle.std.proofs.Math.Path.{refl, ap}
use Rattle.std.proofs.Common.{sym, ap₂, ◌∙◌, arith, length-append, drop_of_length-le, take_all}
use mathlib.Core.List.{List, [], ◌∷◌, ◌++◌, map}
use borrow.Author.Tests.{le-leb, lt-leb, leb-true, leb-false}
use Rattle.std.proofs.lemmas.List.{length-map}
use Rattle.std.proofs.lemmas.List.Edits.{sets}
use Rattle.std.proofs.Math.Bool.{and-false}
use Rattle.ir.specs.Counts.{counters}
use Rattle.ir.specs.declared.counters.Counters.{Counters}
use Rattle.rules.specs.Base.{Res, ok, refused}
use Rattle.rules.specs.State.{Clause, out, total}
use Rattle.rules.specs.Run.{clause_words, clause_records, atom_records}
use Rattle.rules.specs.DecodeLaws.{clause_records_long, atom_records_long}
use Rattle.rules.specs.Added.{total_append}
use Rattle.rules.specs.Branches.{Branch, Rewritten, branch_clause, decompose_from, finished, decomposed_in, decompose_wide_bodies}
use Rattle.rules.specs.Branches as Rules
use Rattle.tables.specs.Drawn.{padded, tables, counters_of, show, shown}
use Rattle.tables.specs.DrawnLaws.{counters_is, deferrals_is, padded_put}
use Rattle.branches.specs.Layout.{most_named}
use Rattle.branches.specs.Memo.{packed, named_words}
use Rattle.naming.specs.GoesLaws.{Goes}
use Rattle.branches.specs.declared.memo.Naming.{Naming}
use Rattle.decomposition.specs.Decomposing.{Decomposing}
use Rattle.decomposition.specs.Placing.{branches_at, branch_atoms_at}
use Rattle.decomposition.specs.Turning.{no_clause, no_name, AllPassed}
use Rattle.tables.specs.ClauseLaws.{clauses_append, atoms_append}
use Rattle.decomposition.specs.PadLaws.{padded_is, padded_over, padded_cleared}
use Rattle.decomposition.specs.StartLaws.{clauses_many, atoms_many, clauses_zeros, atoms_zeros, atoms_fit}

-- a word of a branch for each atom of its clause
pub branches_total : (l : List Branch) → total (map branch_clause l) ≡ length (named_words l)
unfolding total named_words
branches_total [] = refl
branches_total (b ∷ l) =
    omega (
      arith,
      branches_total l,
      length-append b.body (branch_clause b).head,
      length-append (map packed b.body) (named_words l),
      length-map b.body packed,
    )

-- so many clauses and atoms, and this class next
abbrev pub end_counters : Counters → (clauses atoms class : ℕ) → Counters
end_counters k c a q = counters k.visits k.limit k.concepts k.members k.next_var q c a k.deferrals k.line k.nominal_base k.options

module _ (k : Counters) (c a : List ℕ) (D : Decomposing k c a) where
  -- ---- more is named than there is room for
  pub full_shown : D.env.rooms.atoms ≤ most_named → Goes (suc most_named) (decompose_from no_clause D.state.clauses (no_name D.state.next_fresh))
      → refused 12 ≡ shown (λ n. n) k D.env.rooms (decompose_wide_bodies D.env D.state)
  unfolding decompose_wide_bodies
  full_shown h g = go (decompose_from no_clause D.state.clauses (no_name D.state.next_fresh)) g
    where
      go : (r : Res Rules.Naming Rewritten) → Goes (suc most_named) r → refused 12 ≡ shown (λ n. n) k D.env.rooms (decomposed_in D.env D.state r)
      go (ok R z) f =
          let l : List Clause = R.clauses ++ map branch_clause z.named in
          let n : D.env.rooms.atoms < total l = omega (arith, total_append R.clauses (map branch_clause z.named), branches_total z.named) in
          rw (lt-leb (total l) D.env.rooms.atoms n, and-false (leb (length l) D.env.rooms.clauses)) refl
      go (refused e) f = absurd f

  module _ (w c' a' : List ℕ) (s : Naming) (to n : ℕ) (P : AllPassed k c a D w c' a' s to n) where
    -- ---- all clauses
    abbrev branches : List Clause
    branches = map branch_clause P.state.named

    abbrev ended : List Clause
    ended = P.done.clauses ++ branches

    all_passed : decompose_from no_clause D.state.clauses (no_name D.state.next_fresh) ≡ ok P.done P.state
    unfolding decompose_from
    all_passed =
        P.same ∙ ap (λ (t : List Clause). decompose_from P.done t P.state) (drop_of_length-le D.state.clauses {i = k.clauses} (omega (arith, clauses_many k c a D)))

    pub rule_ends : decompose_wide_bodies D.env D.state ≡ finished D.env D.state P.state.next_fresh ended P.done.count
    unfolding decompose_wide_bodies
    rule_ends = ap (decomposed_in D.env D.state) all_passed

    many : length ended ≡ k.clauses + s.named
    many = omega (arith, length-append P.done.clauses branches, length-map P.state.named branch_clause, P.half.many, P.held.many)

    sum : total ended ≡ to + s.used
    sum = omega (arith, total_append P.done.clauses branches, branches_total P.state.named, P.half.sum, P.held.used)

    pub no_clauses : D.env.rooms.clauses < k.clauses + s.named → refused 12 ≡ shown (λ j. j) k D.env.rooms (decompose_wide_bodies D.env D.state)
    no_clauses h = rw (rule_ends, lt-leb (length ended) D.env.rooms.clauses (omega (arith, many))) refl

    pub no_atoms : D.env.rooms.atoms < to + s.used → refused 12 ≡ shown (λ j. j) k D.env.rooms (decompose_wide_bodies D.env D.state)
    no_atoms h = rw (rule_ends, lt-leb (total ended) D.env.rooms.atoms (omega (arith, sum)), and-false (leb (length ended) D.env.rooms.clauses)) refl

    module _ (in_clauses : k.clauses + s.named ≤ D.env.rooms.clauses) (in_atoms : to + s.used ≤ D.env.rooms.atoms) where
      -- ---- the tables
      pub clauses_end : branches_at k.clauses to P.state.named c' ≡ padded (clause_words * D.env.rooms.clauses) (clause_records 0 ended)
      clauses_end =
          let r : ℕ = clause_words * D.env.rooms.clauses in
          let x : List ℕ = clause_records 0 P.done.clauses in
          let y : List ℕ = clause_records to branches in
          let lx : length x ≡ clause_words * k.clauses = clause_records_long 0 P.done.clauses ∙ ap (λ (j : ℕ). clause_words * j) P.half.many in
          let z : c' ≡ padded r x = padded_is c' x r (clause_words * k.clauses) lx P.half.clauses (P.half.clauses_rest ∙ clauses_zeros k c a D) in
          let e : 0 + total P.done.clauses ≡ to = omega (arith, P.half.sum) in
          ap₂ (λ (t : List ℕ) (j : ℕ). sets t j y) z (sym lx)
          ∙ padded_put r x y (omega (arith, lx, clause_records_long to branches, length-map P.state.named branch_clause, P.held.many))
          ∙ ap (padded r) (sym (clauses_append 0 P.done.clauses branches ∙ ap (λ (j : ℕ). x ++ clause_records j branches) e))

      lx : length (atom_records P.done.clauses) ≡ 6 * to
      lx = atom_records_long P.done.clauses ∙ ap (λ (j : ℕ). 6 * j) (sym P.half.sum)

      ly : length (atom_records branches) ≡ 6 * s.used
      ly = atom_records_long branches ∙ ap (λ (j : ℕ). 6 * j) (branches_total P.state.named ∙ sym P.held.used)

      long : length a' ≡ 6 * D.env.rooms.atoms
      long = P.half.same_atoms ∙ D.lent.atoms

      rest : drop (6 * k.atoms) a' ≡ replicate (6 * D.env.rooms.atoms - 6 * k.atoms) 0
      rest =
          let e : total (take k.clauses D.state.clauses) ≡ k.atoms = ap total (take_all k.clauses D.state.clauses (omega (arith, clauses_many k c a D))) ∙ sym (atoms_many k c a D) in
          rw e at P.half.atoms_rest ∙ atoms_zeros k c a D

      atoms_over : k.atoms ≤ to + s.used → branch_atoms_at to P.state.named a' ≡ padded (6 * D.env.rooms.atoms) (atom_records ended)
      atoms_over h =
          padded_over a' (atom_records P.done.clauses) (6 * D.env.rooms.atoms) (6 * to) (6 * k.atoms) long lx P.half.atoms rest (atom_records branches) (omega (arith, ly)) (omega (arith, ly))
          ∙ ap (padded (6 * D.env.rooms.atoms)) (sym (atoms_append P.done.clauses branches))

      atoms_cleared : (m : ℕ) → m + (to + s.used) ≡ k.atoms → sets (branch_atoms_at to P.state.named a') (6 * (to + s.used)) (replicate (6 * m) 0) ≡ padded (6 * D.env.rooms.atoms) (atom_records ended)
      atoms_cleared m h =
          padded_cleared a' (atom_records P.done.clauses) (6 * D.env.rooms.atoms) (6 * to) (6 * k.atoms) long lx P.half.atoms rest (atom_records branches) (6 * (to + s.used)) (6 * m) (omega (arith, ly)) (omega (arith, h)) (omega (arith, atoms_fit k c a D))
          ∙ ap (padded (6 * D.env.rooms.atoms)) (sym (atoms_append P.done.clauses branches))

      pub atoms_end : sets (branch_atoms_at to P.state.named a') (6 * (to + s.used)) (replicate (6 * (k.atoms - (to + s.used))) 0) ≡ padded (6 * D.env.rooms.atoms) (atom_records ended)
      atoms_end = go (leb k.atoms (to + s.used)) refl
        where
          go : (b : Bool) → leb k.atoms (to + s.used) ≡ b → sets (branch_atoms_at to P.state.named a') (6 * (to + s.used)) (replicate (6 * (k.atoms - (to + s.used))) 0) ≡ padded (6 * D.env.rooms.atoms) (atom_records ended)
          go true e =
              let h : k.atoms ≤ to + s.used = leb-true k.atoms (to + s.used) e in
              let z : 6 * (k.atoms - (to + s.used)) ≡ 0 = omega arith in
              rw z (atoms_over h)
          go false e = atoms_cleared (k.atoms - (to + s.used)) (omega (arith, leb-false k.atoms (to + s.used) e))

      -- ---- the answer
      counters_end : end_counters k (k.clauses + s.named) (to + s.used) (s.first + s.named) ≡ counters_of k (out D.state.visits D.state.limit D.state.next_var P.state.next_fresh ended D.state.deferrals D.state.line D.state.limits)
      counters_end =
          rw (many, sum, P.held.next)
          (ap (λ (j : Counters). end_counters j (k.clauses + s.named) (to + s.used) (s.first + s.named)) (counters_is D.env k D.state c a D.deferrals D.drawn))

      pub ends_shown : (k' : Counters) (c'' a'' : List ℕ) → k' ≡ end_counters k (k.clauses + s.named) (to + s.used) (s.first + s.named) → c'' ≡ branches_at k.clauses to P.state.named c'
          → a'' ≡ sets (branch_atoms_at to P.state.named a') (6 * (to + s.used)) (replicate (6 * (k.atoms - (to + s.used))) 0) → ok n (tables k' c'' a'' D.deferrals) ≡ shown (λ j. j) k D.env.rooms (decompose_wide_bodies D.env D.state)
      unfolding show
      ends_shown k' c'' a'' ek ec ea =
          rw (rule_ends, le-leb (length ended) D.env.rooms.clauses (omega (arith, many)), le-leb (total ended) D.env.rooms.atoms (omega (arith, sum)), ek, counters_end, ec, clauses_end, ea, atoms_end, P.counted, deferrals_is D.env k D.state c a D.deferrals D.drawn) refl
