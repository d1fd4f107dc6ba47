-- The state after the last axiom, as the later passes ask for it. Assumes nothing.
use Rattle.std.specs.Prelude.{◌≡◌, refl, List, ℕ, ◌+◌, ◌≤◌, length}
use Rattle.std.proofs.Math.Path.{sym, ap}
use Rattle.std.proofs.Common.{subst, ◌∙◌, arith}
use Rattle.ir.specs.Counts.{at_line}
use Rattle.ir.specs.declared.counters.Counters.{Counters}
use Rattle.rules.specs.State.{Rooms, Out}
use Rattle.rules.specs.DeckLaws.{bounds_of}
use Rattle.rules.specs.Run.{at_line as line_at, env_of, scratch_bytes}
use Rattle.tables.specs.Drawn.{Tables, tables, show, counters_in, clauses_in, atoms_in, deferrals_in}
use Rattle.tables.specs.Good.{Alike, good_same}
use Rattle.leaves.specs.StepLaws.{show_alike}
use Rattle.clausifier.specs.Prepare.{Preparing}
use Rattle.staging.specs.Stage.{Staged}
use Rattle.run.specs.Before.{Before}
use Rattle.late.specs.Later.{Later}

-- ---- a state that is drawn by other counters, at another line
module _ (b k : Counters) (rooms : Rooms) (s : Out) (c a d : List ℕ) (e : tables k c a d ≡ show b rooms s) where
  shown_alike : (line : ℕ) → Alike b (at_line line k)
  unfolding show
  shown_alike line = record {
    concepts = ap (λ (t : Tables). (counters_in t).concepts) e;
    members = ap (λ (t : Tables). (counters_in t).members) e;
    nominals = ap (λ (t : Tables). (counters_in t).nominal_base) e;
    options = ap (λ (t : Tables). (counters_in t).options) e;
  }

  pub shown_line : (line : ℕ) → tables (at_line line k) c a d ≡ show (at_line line k) rooms (line_at line s)
  unfolding show
  shown_line line =
      let f : tables (at_line line k) c a d ≡ show b rooms (line_at line s) = ap (λ (t : Tables). tables (at_line line (counters_in t)) (clauses_in t) (atoms_in t) (deferrals_in t)) e in
      f ∙ sym (show_alike b (at_line line k) rooms (line_at line s) (shown_alike line))

  pub shown_visits : k.visits ≡ s.visits
  unfolding show
  shown_visits = ap (λ (t : Tables). (counters_in t).visits) e

-- ---- what the later passes ask
module _ (s : List ℕ) (k : Counters) (n first : ℕ) (c a d : List ℕ) (B : Before s k n first c a d) where
  abbrev pub later : Later s (at_line 0 k) n c a d
  later =
      let S = B.staged in
      let z = S.state.out in
      record {
        env = env_of B.known B.rooms S.normal;
        state = line_at 0 z;
        axioms = S.normal;
        lent = S.shows.sizes;
        drawn = shown_line _ k B.rooms z c a d S.shows.shown 0;
        listed = S.listed;
        map = S.map;
        within = record { codes = S.within };
        building = S.building;
        bounds = bounds_of B.known;
        roles = B.inside.roles;
        vars = z.visits + 3;
        few = omega (arith, S.good.seen, S.good.most, shown_visits _ k B.rooms z c a d S.shows.shown);
        inside = S.inside;
        good = good_same k (at_line 0 k) refl refl refl refl S.good;
        space = omega (arith, B.space);
      }

  pub later_at : (k' : Counters) → k' ≡ at_line 0 k → Later s k' n c a d
  later_at k' e = subst (λ (j : Counters). Later s j n c a d) (sym e) later

-- ---- clausify_deck's answer
abbrev pub before_of : (s : List ℕ) (k : Counters) (n : ℕ) (P : Preparing s k n) (rooms : Rooms) (s' : List ℕ) (v : Counters) (c a d : List ℕ) → Staged P.limit rooms P.known s' n v c a d → scratch_bytes ≤ length s' → Before s' v n k.next_class c a d
before_of s k n P rooms s' v c a d S h = record {
  limit = P.limit;
  rooms = rooms;
  known = P.known;
  inside = P.inside;
  staged = S;
  fresh = ap (λ (j : Counters). j.next_class) P.holds.counters;
  space = h;
}
