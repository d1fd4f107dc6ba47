-- One clause more of the pass. Assumes nothing.
use Rattle.std.specs.Prelude.{◌≡◌, refl, Some, None, Ok, Err, List, ◌++◌, ℕ, suc, ◌+◌, ◌*◌, ◌≤◌, length, take, drop}
use Rattle.std.proofs.Common.{ap, ◌∙◌, arith, length-append}
use Rattle.std.proofs.Math.Option.{Option, none, some}
use Rattle.std.proofs.lemmas.List.Edits.{sets}
use Rattle.ir.specs.declared.atom.Atom.{Atom}
use Rattle.rules.specs.Base.{Res, ok, refused}
use Rattle.rules.specs.State.{Clause, clause}
use Rattle.rules.specs.Branches.{rewrite, decompose_from}
use Rattle.rules.specs.Branches as Rules
use Rattle.rules.specs.Run.{clause_words}
use Rattle.tables.specs.Tabled.{first_atom, body_count, head_count, first_put, body_put, Run, ClauseAt}
use Rattle.tables.specs.ClauseLaws.{first_put_lem, body_put_lem}
use Rattle.branches.specs.Layout.{most_named, body_at}
use Rattle.naming.specs.GoesLaws.{Goes}
use Rattle.branches.specs.declared.memo.Naming.{Naming}
use Rattle.ir.specs.declared.refusal.Refusal.{Refusal}
use Rattle.ir.specs.declared.refusal.Refusal.TheVariants.{NoRoom}
use Rattle.decomposition.specs.Bodies.{reduced, PartsThere, OneBy}
use Rattle.decomposition.specs.Placing.{moved}
use Rattle.decomposition.specs.Turning.{no_clause, no_name, Passed, TurnThere}
use Rattle.decomposition.specs.HereLaws.{Here, clause_here, parts_there, body_short_lem, run_long, run_in, head_at_lem}
use Rattle.decomposition.specs.HalfLaws.{half_next}
use Rattle.decomposition.specs.RestLaws.{from_next, from_goes}
use Rattle.decomposition.specs.RowLaws.{run_moved, run_new, atoms_words}

-- a new body is no longer than the old
to_short : (w : List ℕ) (s m : Naming) (x : Clause) (k : ℕ) (r : Res Rules.Naming (Option (List Atom))) → OneBy w s x r (Ok (Some (m, k))) → k ≤ length x.body
to_short w s m x k (ok (some b) z) T = T.shorter
to_short w s m x k (ok none z) T = absurd T
to_short w s m x k (refused e) T = absurd T

module _ (l : List Clause) (fresh : ℕ) (c a w c' a' : List ℕ) (s : Naming) (i to n : ℕ) (P : Passed l fresh c a w c' a' s i to n) (K : Here l c' a' i) where
  next_same : (o : Option (List Atom)) (y : Rules.Naming) → reduced K.clause P.state ≡ ok o y
      → decompose_from no_clause l (no_name fresh) ≡ decompose_from (rewrite P.done K.clause o) (drop (i + 1) l) y
  next_same o y e =
      P.same ∙ ap (λ (t : List Clause). decompose_from P.done t P.state) K.split ∙ from_next P.done K.clause (drop (i + 1) l) P.state o y e

  -- its branches have no room
  pub turn_full : (w' : List ℕ) (e : Refusal) → OneBy w' s K.clause (reduced K.clause P.state) (Err e) → (e ≡ NoRoom) × Goes (suc most_named) (decompose_from no_clause l (no_name fresh))
  turn_full w' e o = go (reduced K.clause P.state) refl o
    where
      go : (r : Res Rules.Naming (Option (List Atom))) → reduced K.clause P.state ≡ r → OneBy w' s K.clause r (Err e) → (e ≡ NoRoom) × Goes (suc most_named) (decompose_from no_clause l (no_name fresh))
      go (ok none y) q f = (f.0, rw (next_same none y q) (from_goes (rewrite P.done K.clause none) (drop (i + 1) l) y (suc most_named) f.1))
      go (ok (some b) y) q f = (f.0, rw (next_same (some b) y q) (from_goes (rewrite P.done K.clause (some b)) (drop (i + 1) l) y (suc most_named) f.1))
      go (refused k) q f = absurd f

  module _ (first nb nh : ℕ) (ef : first ≡ first_atom c' i) (eb : nb ≡ body_count c' i) (eh : nh ≡ head_count c' i) where
    long : nb + nh ≡ length (K.clause.body ++ K.clause.head)
    long = run_long l c' a' i K first nb nh ef eb eh

    -- it stays whole
    pub turn_whole : (w' c'' a'' : List ℕ) (t : ℕ) → OneBy w' s K.clause (reduced K.clause P.state) (Ok None) → c'' ≡ first_put c' i to → a'' ≡ moved a' (6 * first) (6 * to) (6 * (nb + nh)) → t ≡ to + (nb + nh)
        → Passed l fresh c a w' c'' a'' s (i + 1) t n
    turn_whole w' c'' a'' t o ec ea et = go (reduced K.clause P.state) refl o
      where
        go : (r : Res Rules.Naming (Option (List Atom))) → reduced K.clause P.state ≡ r → OneBy w' s K.clause r (Ok None) → Passed l fresh c a w' c'' a'' s (i + 1) t n
        go (ok none y) q f = record {
          done = rewrite P.done K.clause none;
          state = y;
          same = next_same none y q;
          counted = P.counted;
          fewer = omega (arith, P.fewer);
          first = P.first;
          held = f;
          half = half_next l c a c' a' i to P.done.clauses P.half K.clause K.clause (drop (i + 1) l) K.split (omega arith) K.is.row K.room c'' a'' t
              (ec ∙ first_put_lem c' i to K.clause K.is.body K.is.head)
              (ea ∙ run_moved a' first to (nb + nh) (K.clause.body ++ K.clause.head) long (rw ef K.is.atoms))
              (omega (arith, long, et));
        }
        go (ok (some b) y) q f = absurd f
        go (refused k) q f = absurd f

    -- it has a new body
    pub turn_rewritten : (w' c'' a'' : List ℕ) (m : Naming) (k t : ℕ) → OneBy w' s K.clause (reduced K.clause P.state) (Ok (Some (m, k))) → to ≤ first → c'' ≡ body_put (first_put c' i to) i k
        → a'' ≡ moved (sets a' (6 * to) (take (6 * k) (drop (6 * body_at) w'))) (6 * (first + nb)) (6 * (to + k)) (6 * nh) → t ≡ to + k + nh → Passed l fresh c a w' c'' a'' m (i + 1) t (n + 1)
    turn_rewritten w' c'' a'' m k t o low ec ea et = go (reduced K.clause P.state) refl o
      where
        go : (r : Res Rules.Naming (Option (List Atom))) → reduced K.clause P.state ≡ r → OneBy w' s K.clause r (Ok (Some (m, k))) → Passed l fresh c a w' c'' a'' m (i + 1) t (n + 1)
        go (ok (some b) y) q f =
            let head : List Atom = K.clause.head in
            let nh_is : nh ≡ length head = eh ∙ K.is.head in
            let lb = length-append b head in
            let lx = length-append K.clause.body head in
            record {
              done = rewrite P.done K.clause (some b);
              state = y;
              same = next_same (some b) y q;
              counted = ap (λ (j : ℕ). j + 1) P.counted;
              fewer = omega (arith, P.fewer);
              first = f.first ∙ P.first;
              held = f.held;
              half = half_next l c a c' a' i to P.done.clauses P.half K.clause (clause b head) (drop (i + 1) l) K.split (omega (arith, f.atoms.long, f.shorter)) K.is.row K.room c'' a'' t
                  (ec ∙ body_put_lem c' i to k (clause b head) f.atoms.long K.is.head)
                  (ea ∙ run_new a' (take (6 * k) (drop (6 * body_at) w')) (first + nb) to k nh b head (atoms_words w' (6 * body_at) k b f.atoms.long f.atoms.there) f.atoms.long nh_is (omega (arith, low, f.shorter, eb, K.is.body)) (head_at_lem l c' a' i K first nb nh ef eb eh))
                  (omega (arith, f.atoms.long, nh_is, et));
            }
        go (ok none y) q f = absurd f
        go (refused e) q f = absurd f

-- ---- what the code asks of some list
pub there : {w c' a' : List ℕ} {s : Naming} {i to n : ℕ} (T : TurnThere w c' a' s i to n) → Here T.list c' a' i
there {w} {c'} {a'} {s} {i} {to} {n} T =
    clause_here T.list T.c T.a c' a' i to T.passed.done.clauses T.listed.tabled T.passed.half T.more

pub there_parts : {w c' a' : List ℕ} {s : Naming} {i to n : ℕ} (T : TurnThere w c' a' s i to n) (body head : List ℕ) → ((x : Clause) → ClauseAt c' a' i x → Run body x.body) → ((x : Clause) → ClauseAt c' a' i x → Run head x.head) → PartsThere body head
there_parts {w} {c'} {a'} {s} {i} {to} {n} T body head B H =
    parts_there T.list c' a' i (there T) T.fresh T.c T.a T.listed body head (B (there T).clause (there T).is) (H (there T).clause (there T).is)

pub record Fits (c' a' : List ℕ) (i to n first nb nh : ℕ) : Type 0 where
  pub row : clause_words * i + clause_words ≤ length c'
  pub room : 6 * (first + (nb + nh)) ≤ length a'
  pub low : to ≤ first
  pub short : nb ≤ 256
  pub fewer : n ≤ i

module _ {w c' a' : List ℕ} {s : Naming} {i to n : ℕ} (T : TurnThere w c' a' s i to n) {first nb nh : ℕ}
    (ef : first ≡ first_atom c' i) (eb : nb ≡ body_count c' i) (eh : nh ≡ head_count c' i) where
  pub fits : Fits c' a' i to n first nb nh
  fits = record {
    row = (there T).is.row;
    room = run_in T.list c' a' i (there T) first nb nh ef eb eh;
    low = omega (arith, T.passed.half.low, (there T).first, ef);
    short = body_short_lem T.list c' a' i (there T) first nb nh ef eb eh T.fresh T.c T.a T.listed;
    fewer = T.passed.fewer;
  }

  -- a new body of k atoms is no longer than the old
  pub there_shorter : (w' : List ℕ) (m : Naming) (k : ℕ) → OneBy w' s (there T).clause (reduced (there T).clause T.passed.state) (Ok (Some (m, k))) → k ≤ nb
  there_shorter w' m k o = omega (arith, to_short w' s m (there T).clause k (reduced (there T).clause T.passed.state) o, eb, (there T).is.body)
