-- From the reply and the tables to the listing; and its length. Assumes nothing.
use Rattle.std.specs.Prelude.{◌≡◌, List, [], ◌∷◌, ◌++◌, ℕ, ◌+◌, ◌*◌, ◌≤◌, length, take}
use Rattle.std.proofs.Math.Path.{refl, ap}
use Rattle.std.proofs.Common.{sym, ap₂, ◌∙◌, arith, length-append}
use Rattle.words.specs.Words.{words}
use Rattle.rules.specs.State.{total}
use Rattle.rules.specs.Run.{Lengths, Accepted, Outcome, accepted, refused, Run, scratch_bytes, rooms_of, ten_numbers, clause_words, atom_words, clause_table, atom_table}
use Rattle.rules.specs.Lister.{fields_text, clauses_text, outcome_text, lister_lengths, listing}
use Rattle.clausify.specs.RunTabled.{run_within, run_tabled}
use Rattle.rows.specs.Rows.{Put}
use Rattle.rows.specs.RowLaws.{length_line}
use Rattle.listing.specs.Listing.{Listable}
use Rattle.listing.specs.ListingLaws.{clauses_long}
use Rattle.statistics.specs.declared.ClauseStats.{ClauseStats}
use Rattle.clausify.specs.Reply.{Reply}
use Rattle.clausify.specs.Reply as Replies
use Rattle.clausify.specs.Entry.{lent, coded, reply_of}
use Rattle.lister.specs.Text.{numbers_line, most_rows, most_text}

-- ---- the outcome behind a reply
record Replied (o : Outcome) (s : ClauseStats) (fresh_ids visits : ℕ) : Type 0 where
  pub run : Accepted
  pub is : o ≡ accepted run
  pub line : numbers_line s fresh_ids visits ≡ 43 ∷ ten_numbers run
  pub count : s.total ≡ run.stats.total

reply_accepted : (o : Outcome) (s : ClauseStats) (fresh_ids visits : ℕ) → Replies.Accepted s fresh_ids visits ≡ reply_of o → Replied o s fresh_ids visits
reply_accepted (accepted x) s f v e =
    let a : s ≡ coded x.stats = cc in
    let b : f ≡ x.fresh_ids = cc in
    let c : v ≡ x.visits = cc in
    record { run = x; is = refl; line = rw (a, b, c) refl; count = ap (λ (z : ClauseStats). z.total) a }
reply_accepted (refused n line) s f v e = let z : ◌≡◌ {A = ℕ} 0 1 = cc in absurd (omega arith)

reply_refused : (o : Outcome) (n line : ℕ) → Replies.Refused n line ≡ reply_of o → o ≡ refused n line
reply_refused (accepted x) n line e = let z : ◌≡◌ {A = ℕ} 0 1 = cc in absurd (omega arith)
reply_refused (refused k l) n line e = let a : k ≡ n = cc in let b : l ≡ line = cc in ap₂ (λ (i j : ℕ). refused i j) a b

-- ---- an accepted run
module _ (deck : List ℕ) (t : Lengths) (x : Accepted) (q : Run deck t ≡ accepted x) where
  run_fits : t ≡ lister_lengths → 45 * length x.clauses + 78 * total x.clauses ≤ most_rows
  run_fits e =
      let c : (rooms_of t).clauses ≡ 1024 = ap (λ (u : Lengths). (rooms_of u).clauses) e in
      let a : (rooms_of t).atoms ≡ 2048 = ap (λ (u : Lengths). (rooms_of u).atoms) e in
      omega (arith, c, a, (run_within deck t x q).1.clauses, (run_within deck t x q).1.atoms)

-- ---- the lister's tables
pub lent_lengths : (c a d s : List ℕ) → 12288 ≡ length c → 49152 ≡ length a → 2048 ≡ length d → scratch_bytes ≡ length s → lent c a d s ≡ lister_lengths
lent_lengths c a d s x y z w = rw (← x, ← y, ← z, ← w) refl

-- ---- the listing
-- an accepted deck's, from the bytes c and a of the tables and the reply's numbers
pub record Listed (deck c a : List ℕ) (s : ClauseStats) (fresh_ids visits : ℕ) : Type 0 where
  pub rows : Listable (words c) (words a) s.total 0 most_rows
  pub text : clauses_text 0 rows.list ++ fields_text (numbers_line s fresh_ids visits) ≡ listing deck

module _ (deck : List ℕ) where
  listing_by : (t : Lengths) (o : Outcome) → t ≡ lister_lengths → Run deck t ≡ o → outcome_text o ≡ listing deck
  unfolding listing
  listing_by t o e q = ap outcome_text (sym q) ∙ ap (λ (u : Lengths). outcome_text (Run deck u)) e

  short : (o : Outcome) → Run deck lister_lengths ≡ o → length (outcome_text o) ≤ most_text
  short (accepted x) q = omega (arith, length-append (clauses_text 0 x.clauses) (fields_text (43 ∷ ten_numbers x)), clauses_long 0 x.clauses, length_line (43 ∷ ten_numbers x), run_fits deck lister_lengths x q refl)
  short (refused k line) q = omega (arith, length_line (49 ∷ k ∷ line ∷ []))

  listing_short : length (listing deck) ≤ most_text
  unfolding listing
  listing_short = short (Run deck lister_lengths) refl

  pub listing_end : {s s' : List ℕ} {r : ℕ} → Put s 0 (listing deck) s' r → r ≤ most_text
  listing_end h = omega (arith, h.end, listing_short)

  -- from the reply r
  module _ (t : Lengths) (same : t ≡ lister_lengths) (r : Reply) (reply : r ≡ reply_of (Run deck t)) where
    pub refused_text : (n line : ℕ) → r ≡ Replies.Refused n line → fields_text (49 ∷ n ∷ line ∷ []) ≡ listing deck
    refused_text n line e = listing_by t (refused n line) same (reply_refused (Run deck t) n line (sym e ∙ reply))

    pub accepted_listed : (c a : List ℕ) → c ≡ clause_table t (Run deck t) → a ≡ atom_table t (Run deck t) → (s : ClauseStats) (fresh_ids visits : ℕ) → r ≡ Replies.Accepted s fresh_ids visits → Listed deck c a s fresh_ids visits
    accepted_listed c a clauses atoms s f v e =
        let R = reply_accepted (Run deck t) s f v (sym e ∙ reply) in
        let x = R.run in
        let T = run_tabled deck t x R.is in
        let c' : c ≡ clause_table t (accepted x) = clauses ∙ ap (λ (o : Outcome). clause_table t o) R.is in
        let a' : a ≡ atom_table t (accepted x) = atoms ∙ ap (λ (o : Outcome). atom_table t o) R.is in
        record {
          rows = record {
            list = x.clauses;
            tabled = record {
              count = R.count ∙ T.count;
              clauses = ap₂ (λ (n : ℕ) (w : List ℕ). take (clause_words * n) (words w)) R.count c' ∙ T.clauses;
              atoms = ap (λ (w : List ℕ). take (atom_words * total x.clauses) (words w)) a' ∙ T.atoms;
            };
            fits = omega (arith, R.count, T.count, run_fits deck t x R.is same);
          };
          text = ap (λ (l : List ℕ). clauses_text 0 x.clauses ++ fields_text l) R.line ∙ listing_by t (accepted x) same R.is;
        }
