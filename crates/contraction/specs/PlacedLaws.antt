-- A clause in hand beside one of the tables. Assumes nothing.
use Rattle.std.specs.Prelude.{◌≡◌, Bool, false, List, ◌++◌, ℕ, ◌+◌, ◌*◌, ◌≤◌, length, take, drop}
use Rattle.std.proofs.Common.{sym, ◌∙◌, arith, length-append}
use Rattle.words.specs.Words.{words}
use Rattle.words.specs.Laws.{length_words}
use Rattle.ir.specs.Records.{six}
use Rattle.ir.specs.declared.atom.Atom.{Atom}
use Rattle.rules.specs.Run.{flat}
use Rattle.rules.specs.State.{Clause}
use Rattle.rules.specs.DecodeLaws.{flat_long}
use Rattle.rules.specs.Reflexive.{same_clause}
use Rattle.tables.specs.Tabled.{body_count, head_count, ClauseAt, Run}
use Rattle.tables.specs.TabledLaws.{at_long}
use Rattle.tables.specs.AtomLaws.{run_at}
use Rattle.hands.specs.HandLaws.{hand_at_lem}
use Rattle.contraction.specs.InHands.{hand_at, ClauseInHand, AtomThere}
use Rattle.contraction.specs.SameLaws.{same_runs, clause_flat, bodies_apart, heads_apart}

-- the bytes that an atom takes
pub atom_room : (s : List ℕ) (i : ℕ) → AtomThere (words s) i → 24 * i + 24 ≤ length s
atom_room s i A = omega (arith, at_long (words s) (6 * i) (six A.atom) A.there, length_words s)

module _ (c a : List ℕ) (i : ℕ) (y : Clause) (Y : ClauseAt c a i y) (w : List ℕ) (nb nh : ℕ) (x : Clause) (X : ClauseInHand w nb nh x) where
  pub body_apart : (body_count c i ≡ nb → ⊥) → same_clause x y ≡ false
  body_apart h = bodies_apart x y (λ e. h (Y.body ∙ sym e ∙ sym X.body))

  pub head_apart : (head_count c i ≡ nh → ⊥) → same_clause x y ≡ false
  head_apart h = heads_apart x y (λ e. h (Y.head ∙ sym e ∙ sym X.head))

  pub run_same : (r : Bool) (s : List ℕ) → Run s (y.body ++ y.head) → r ≡ same_runs w (6 * hand_at) (words s) 0 (6 * (nb + nh)) → 6 * hand_at ≤ length w → body_count c i ≡ nb → head_count c i ≡ nh → r ≡ same_clause x y
  run_same r s R er fit eb eh =
      let xs : List Atom = x.body ++ x.head in
      let ys : List Atom = y.body ++ y.head in
      let lb : length x.body ≡ length y.body = sym X.body ∙ sym eb ∙ Y.body in
      let lh : length x.head ≡ length y.head = sym X.head ∙ sym eh ∙ Y.head in
      let nx : length (flat xs) ≡ 6 * (nb + nh) = flat_long xs ∙ omega (arith, length-append x.body x.head, X.body, X.head) in
      let ny : length (flat ys) ≡ 6 * (nb + nh) = flat_long ys ∙ omega (arith, length-append y.body y.head, length-append x.body x.head, X.body, X.head) in
      let ex : take (6 * (nb + nh)) (drop (6 * hand_at) w) ≡ flat xs = rw nx at (hand_at_lem hand_at (nb + nh) w xs X.hand fit) in
      let ey : take (6 * (nb + nh)) (drop 0 (words s)) ≡ flat ys = rw ny at (run_at s ys R) in
      er ∙ rw (ex, ey) (clause_flat x y lb lh)
