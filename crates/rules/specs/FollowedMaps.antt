-- Maps of inverses, with rings and without, and what each role code is followed to: written by tests/decided/make. Assumes nothing.
use Rattle.std.specs.Prelude.{List, [], ◌∷◌, ℕ}

pub record Followed : Type 0 where
  pub map : List (ℕ × ℕ)
  pub ends : List ℕ

abbrev pub followed_maps : List Followed
followed_maps =
    -- no entry
    record { map = []; ends = 0 ∷ 1 ∷ [] }
    -- r0 inverse to r1, then r2 inverse to r0: r1 becomes r2 itself
    ∷ record { map = (0, 5) ∷ (1, 1) ∷ []; ends = 5 ∷ 4 ∷ 4 ∷ 5 ∷ 4 ∷ 5 ∷ [] }
    -- a ring of 1 from r0 on, up to 0 steps
    ∷ record { map = (0, 0) ∷ []; ends = 0 ∷ 1 ∷ [] }
    -- a ring of 1 from r0 on, up to 0 steps
    ∷ record { map = (0, 1) ∷ []; ends = 0 ∷ 1 ∷ [] }
    -- a ring of 2 from r0 on, up to 1 step
    ∷ record { map = (0, 2) ∷ (1, 0) ∷ []; ends = 0 ∷ 1 ∷ 0 ∷ 1 ∷ [] }
    -- a ring of 2 from r0 on, up to 1 step
    ∷ record { map = (0, 3) ∷ (1, 0) ∷ []; ends = 0 ∷ 1 ∷ 0 ∷ 1 ∷ [] }
    -- a ring of 2 from r0 on, up to 1 step
    ∷ record { map = (0, 2) ∷ (1, 1) ∷ []; ends = 0 ∷ 1 ∷ 1 ∷ 0 ∷ [] }
    -- a ring of 2 from r0 on, up to 1 step
    ∷ record { map = (0, 3) ∷ (1, 1) ∷ []; ends = 0 ∷ 1 ∷ 1 ∷ 0 ∷ [] }
    -- a ring of 2 from r1 on, up to 1 step
    ∷ record { map = (2, 2) ∷ (1, 4) ∷ []; ends = 0 ∷ 1 ∷ 2 ∷ 3 ∷ 2 ∷ 3 ∷ [] }
    -- a ring of 2 from r1 on, up to 1 step
    ∷ record { map = (2, 3) ∷ (1, 4) ∷ []; ends = 0 ∷ 1 ∷ 2 ∷ 3 ∷ 3 ∷ 2 ∷ [] }
    -- a ring of 2 from r1 on, up to 1 step
    ∷ record { map = (2, 2) ∷ (1, 5) ∷ []; ends = 0 ∷ 1 ∷ 2 ∷ 3 ∷ 2 ∷ 3 ∷ [] }
    -- a ring of 2 from r1 on, up to 1 step
    ∷ record { map = (2, 3) ∷ (1, 5) ∷ []; ends = 0 ∷ 1 ∷ 2 ∷ 3 ∷ 3 ∷ 2 ∷ [] }
    -- a ring of 3 from r0 on, up to 2 steps
    ∷ record { map = (0, 2) ∷ (1, 4) ∷ (2, 0) ∷ []; ends = 0 ∷ 1 ∷ 0 ∷ 1 ∷ 0 ∷ 1 ∷ [] }
    -- a ring of 3 from r0 on, up to 2 steps
    ∷ record { map = (0, 3) ∷ (1, 4) ∷ (2, 0) ∷ []; ends = 0 ∷ 1 ∷ 0 ∷ 1 ∷ 0 ∷ 1 ∷ [] }
    -- a ring of 3 from r0 on, up to 2 steps
    ∷ record { map = (0, 2) ∷ (1, 5) ∷ (2, 0) ∷ []; ends = 0 ∷ 1 ∷ 1 ∷ 0 ∷ 0 ∷ 1 ∷ [] }
    -- a ring of 3 from r0 on, up to 2 steps
    ∷ record { map = (0, 3) ∷ (1, 5) ∷ (2, 0) ∷ []; ends = 0 ∷ 1 ∷ 1 ∷ 0 ∷ 0 ∷ 1 ∷ [] }
    -- a ring of 3 from r0 on, up to 2 steps
    ∷ record { map = (0, 2) ∷ (1, 4) ∷ (2, 1) ∷ []; ends = 0 ∷ 1 ∷ 1 ∷ 0 ∷ 1 ∷ 0 ∷ [] }
    -- a ring of 3 from r0 on, up to 2 steps
    ∷ record { map = (0, 3) ∷ (1, 4) ∷ (2, 1) ∷ []; ends = 0 ∷ 1 ∷ 1 ∷ 0 ∷ 1 ∷ 0 ∷ [] }
    -- a ring of 3 from r0 on, up to 2 steps
    ∷ record { map = (0, 2) ∷ (1, 5) ∷ (2, 1) ∷ []; ends = 0 ∷ 1 ∷ 0 ∷ 1 ∷ 1 ∷ 0 ∷ [] }
    -- a ring of 3 from r0 on, up to 2 steps
    ∷ record { map = (0, 3) ∷ (1, 5) ∷ (2, 1) ∷ []; ends = 0 ∷ 1 ∷ 0 ∷ 1 ∷ 1 ∷ 0 ∷ [] }
    -- a ring of 3 from r0 on, up to 2 steps
    ∷ record { map = (2, 2) ∷ (1, 0) ∷ (0, 4) ∷ []; ends = 0 ∷ 1 ∷ 0 ∷ 1 ∷ 0 ∷ 1 ∷ [] }
    -- a ring of 3 from r0 on, up to 2 steps
    ∷ record { map = (2, 3) ∷ (1, 0) ∷ (0, 4) ∷ []; ends = 0 ∷ 1 ∷ 0 ∷ 1 ∷ 1 ∷ 0 ∷ [] }
    -- a ring of 3 from r0 on, up to 2 steps
    ∷ record { map = (2, 2) ∷ (1, 1) ∷ (0, 4) ∷ []; ends = 0 ∷ 1 ∷ 1 ∷ 0 ∷ 1 ∷ 0 ∷ [] }
    -- a ring of 3 from r0 on, up to 2 steps
    ∷ record { map = (2, 3) ∷ (1, 1) ∷ (0, 4) ∷ []; ends = 0 ∷ 1 ∷ 1 ∷ 0 ∷ 0 ∷ 1 ∷ [] }
    -- a ring of 3 from r0 on, up to 2 steps
    ∷ record { map = (2, 2) ∷ (1, 0) ∷ (0, 5) ∷ []; ends = 0 ∷ 1 ∷ 0 ∷ 1 ∷ 0 ∷ 1 ∷ [] }
    -- a ring of 3 from r0 on, up to 2 steps
    ∷ record { map = (2, 3) ∷ (1, 0) ∷ (0, 5) ∷ []; ends = 0 ∷ 1 ∷ 0 ∷ 1 ∷ 1 ∷ 0 ∷ [] }
    -- a ring of 3 from r0 on, up to 2 steps
    ∷ record { map = (2, 2) ∷ (1, 1) ∷ (0, 5) ∷ []; ends = 0 ∷ 1 ∷ 1 ∷ 0 ∷ 1 ∷ 0 ∷ [] }
    -- a ring of 3 from r0 on, up to 2 steps
    ∷ record { map = (2, 3) ∷ (1, 1) ∷ (0, 5) ∷ []; ends = 0 ∷ 1 ∷ 1 ∷ 0 ∷ 0 ∷ 1 ∷ [] }
    -- no ring, up to 1 step
    ∷ record { map = (0, 3) ∷ []; ends = 3 ∷ 2 ∷ 2 ∷ 3 ∷ [] }
    -- no ring, up to 1 step
    ∷ record { map = (1, 1) ∷ []; ends = 0 ∷ 1 ∷ 1 ∷ 0 ∷ [] }
    -- no ring, up to 2 steps
    ∷ record { map = (0, 3) ∷ (1, 5) ∷ []; ends = 4 ∷ 5 ∷ 5 ∷ 4 ∷ 4 ∷ 5 ∷ [] }
    -- no ring, up to 2 steps
    ∷ record { map = (1, 1) ∷ (2, 3) ∷ []; ends = 0 ∷ 1 ∷ 1 ∷ 0 ∷ 0 ∷ 1 ∷ [] }
    -- no ring, up to 3 steps
    ∷ record { map = (0, 3) ∷ (1, 5) ∷ (2, 7) ∷ []; ends = 7 ∷ 6 ∷ 6 ∷ 7 ∷ 7 ∷ 6 ∷ 6 ∷ 7 ∷ [] }
    -- no ring, up to 3 steps
    ∷ record { map = (1, 1) ∷ (2, 3) ∷ (3, 5) ∷ []; ends = 0 ∷ 1 ∷ 1 ∷ 0 ∷ 0 ∷ 1 ∷ 1 ∷ 0 ∷ [] }
    -- no ring, up to 4 steps
    ∷ record { map = (0, 3) ∷ (1, 5) ∷ (2, 7) ∷ (3, 9) ∷ []; ends = 8 ∷ 9 ∷ 9 ∷ 8 ∷ 8 ∷ 9 ∷ 9 ∷ 8 ∷ 8 ∷ 9 ∷ [] }
    -- no ring, up to 4 steps
    ∷ record { map = (1, 1) ∷ (2, 3) ∷ (3, 5) ∷ (4, 7) ∷ []; ends = 0 ∷ 1 ∷ 1 ∷ 0 ∷ 0 ∷ 1 ∷ 1 ∷ 0 ∷ 0 ∷ 1 ∷ [] }
    -- no ring, up to 5 steps
    ∷ record { map = (0, 3) ∷ (1, 5) ∷ (2, 7) ∷ (3, 9) ∷ (4, 11) ∷ []; ends = 11 ∷ 10 ∷ 10 ∷ 11 ∷ 11 ∷ 10 ∷ 10 ∷ 11 ∷ 11 ∷ 10 ∷ 10 ∷ 11 ∷ [] }
    -- no ring, up to 5 steps
    ∷ record { map = (1, 1) ∷ (2, 3) ∷ (3, 5) ∷ (4, 7) ∷ (5, 9) ∷ []; ends = 0 ∷ 1 ∷ 1 ∷ 0 ∷ 0 ∷ 1 ∷ 1 ∷ 0 ∷ 0 ∷ 1 ∷ 1 ∷ 0 ∷ [] }
    -- a ring of 2 from r1 on, up to 2 steps
    ∷ record { map = (5, 2) ∷ (1, 7) ∷ (3, 2) ∷ (0, 11) ∷ []; ends = 3 ∷ 2 ∷ 2 ∷ 3 ∷ 4 ∷ 5 ∷ 2 ∷ 3 ∷ 8 ∷ 9 ∷ 2 ∷ 3 ∷ [] }
    -- a ring of 2 from r1 on, up to 2 steps
    ∷ record { map = (5, 3) ∷ (1, 7) ∷ (3, 2) ∷ (0, 11) ∷ []; ends = 2 ∷ 3 ∷ 2 ∷ 3 ∷ 4 ∷ 5 ∷ 2 ∷ 3 ∷ 8 ∷ 9 ∷ 3 ∷ 2 ∷ [] }
    -- a ring of 2 from r1 on, up to 3 steps
    ∷ record { map = (5, 6) ∷ (1, 7) ∷ (3, 2) ∷ (0, 11) ∷ []; ends = 3 ∷ 2 ∷ 2 ∷ 3 ∷ 4 ∷ 5 ∷ 2 ∷ 3 ∷ 8 ∷ 9 ∷ 2 ∷ 3 ∷ [] }
    -- a ring of 2 from r1 on, up to 3 steps
    ∷ record { map = (5, 7) ∷ (1, 7) ∷ (3, 2) ∷ (0, 11) ∷ []; ends = 2 ∷ 3 ∷ 2 ∷ 3 ∷ 4 ∷ 5 ∷ 2 ∷ 3 ∷ 8 ∷ 9 ∷ 3 ∷ 2 ∷ [] }
    -- a ring of 3 from r1 on, up to 3 steps
    ∷ record { map = (5, 6) ∷ (3, 3) ∷ (1, 4) ∷ (2, 6) ∷ (0, 11) ∷ []; ends = 2 ∷ 3 ∷ 2 ∷ 3 ∷ 3 ∷ 2 ∷ 3 ∷ 2 ∷ 8 ∷ 9 ∷ 3 ∷ 2 ∷ [] }
    -- a ring of 3 from r1 on, up to 3 steps
    ∷ record { map = (5, 7) ∷ (3, 3) ∷ (1, 4) ∷ (2, 7) ∷ (0, 11) ∷ []; ends = 3 ∷ 2 ∷ 2 ∷ 3 ∷ 2 ∷ 3 ∷ 3 ∷ 2 ∷ 8 ∷ 9 ∷ 2 ∷ 3 ∷ [] }
    -- a ring of 3 from r1 on, up to 2 steps
    ∷ record { map = (5, 2) ∷ (3, 3) ∷ (1, 4) ∷ (2, 6) ∷ (0, 11) ∷ []; ends = 3 ∷ 2 ∷ 2 ∷ 3 ∷ 3 ∷ 2 ∷ 3 ∷ 2 ∷ 8 ∷ 9 ∷ 2 ∷ 3 ∷ [] }
    -- a ring of 3 from r1 on, up to 2 steps
    ∷ record { map = (5, 3) ∷ (3, 3) ∷ (1, 4) ∷ (2, 7) ∷ (0, 11) ∷ []; ends = 2 ∷ 3 ∷ 2 ∷ 3 ∷ 2 ∷ 3 ∷ 3 ∷ 2 ∷ 8 ∷ 9 ∷ 3 ∷ 2 ∷ [] }
    -- a ring of 3 from r1 on, up to 4 steps
    ∷ record { map = (5, 4) ∷ (3, 3) ∷ (1, 4) ∷ (2, 6) ∷ (0, 11) ∷ []; ends = 2 ∷ 3 ∷ 2 ∷ 3 ∷ 3 ∷ 2 ∷ 3 ∷ 2 ∷ 8 ∷ 9 ∷ 3 ∷ 2 ∷ [] }
    -- a ring of 3 from r1 on, up to 4 steps
    ∷ record { map = (5, 5) ∷ (3, 3) ∷ (1, 4) ∷ (2, 7) ∷ (0, 11) ∷ []; ends = 2 ∷ 3 ∷ 2 ∷ 3 ∷ 2 ∷ 3 ∷ 3 ∷ 2 ∷ 8 ∷ 9 ∷ 3 ∷ 2 ∷ [] }
    -- a ring of 3 from r1 on, up to 3 steps
    ∷ record { map = (5, 4) ∷ (2, 3) ∷ (1, 8) ∷ (4, 4) ∷ (0, 11) ∷ []; ends = 2 ∷ 3 ∷ 2 ∷ 3 ∷ 3 ∷ 2 ∷ 6 ∷ 7 ∷ 3 ∷ 2 ∷ 3 ∷ 2 ∷ [] }
    -- a ring of 3 from r1 on, up to 3 steps
    ∷ record { map = (5, 5) ∷ (2, 3) ∷ (1, 8) ∷ (4, 5) ∷ (0, 11) ∷ []; ends = 3 ∷ 2 ∷ 2 ∷ 3 ∷ 3 ∷ 2 ∷ 6 ∷ 7 ∷ 2 ∷ 3 ∷ 2 ∷ 3 ∷ [] }
    -- a ring of 3 from r1 on, up to 2 steps
    ∷ record { map = (5, 2) ∷ (2, 3) ∷ (1, 8) ∷ (4, 4) ∷ (0, 11) ∷ []; ends = 3 ∷ 2 ∷ 2 ∷ 3 ∷ 3 ∷ 2 ∷ 6 ∷ 7 ∷ 3 ∷ 2 ∷ 2 ∷ 3 ∷ [] }
    -- a ring of 3 from r1 on, up to 2 steps
    ∷ record { map = (5, 3) ∷ (2, 3) ∷ (1, 8) ∷ (4, 5) ∷ (0, 11) ∷ []; ends = 2 ∷ 3 ∷ 2 ∷ 3 ∷ 3 ∷ 2 ∷ 6 ∷ 7 ∷ 2 ∷ 3 ∷ 3 ∷ 2 ∷ [] }
    -- a ring of 3 from r1 on, up to 4 steps
    ∷ record { map = (5, 8) ∷ (2, 3) ∷ (1, 8) ∷ (4, 4) ∷ (0, 11) ∷ []; ends = 2 ∷ 3 ∷ 2 ∷ 3 ∷ 3 ∷ 2 ∷ 6 ∷ 7 ∷ 3 ∷ 2 ∷ 3 ∷ 2 ∷ [] }
    -- a ring of 3 from r1 on, up to 4 steps
    ∷ record { map = (5, 9) ∷ (2, 3) ∷ (1, 8) ∷ (4, 5) ∷ (0, 11) ∷ []; ends = 2 ∷ 3 ∷ 2 ∷ 3 ∷ 3 ∷ 2 ∷ 6 ∷ 7 ∷ 2 ∷ 3 ∷ 3 ∷ 2 ∷ [] }
    -- a ring of 2 from r2 on, up to 3 steps
    ∷ record { map = (1, 4) ∷ (4, 0) ∷ (0, 5) ∷ (2, 7) ∷ (5, 8) ∷ (3, 5) ∷ []; ends = 5 ∷ 4 ∷ 4 ∷ 5 ∷ 4 ∷ 5 ∷ 5 ∷ 4 ∷ 5 ∷ 4 ∷ 5 ∷ 4 ∷ [] }
    -- no ring, up to 1 step
    ∷ record { map = (7, 3) ∷ []; ends = 0 ∷ 1 ∷ 2 ∷ 3 ∷ 4 ∷ 5 ∷ 6 ∷ 7 ∷ 8 ∷ 9 ∷ 10 ∷ 11 ∷ 12 ∷ 13 ∷ 3 ∷ 2 ∷ [] }
    -- no ring, up to 1 step
    ∷ record { map = (3, 1) ∷ (1, 9) ∷ (5, 1) ∷ (6, 8) ∷ []; ends = 0 ∷ 1 ∷ 9 ∷ 8 ∷ 4 ∷ 5 ∷ 1 ∷ 0 ∷ 8 ∷ 9 ∷ 1 ∷ 0 ∷ 8 ∷ 9 ∷ [] }
    -- no ring, up to 1 step
    ∷ record { map = (6, 4) ∷ (7, 3) ∷ []; ends = 0 ∷ 1 ∷ 2 ∷ 3 ∷ 4 ∷ 5 ∷ 6 ∷ 7 ∷ 8 ∷ 9 ∷ 10 ∷ 11 ∷ 4 ∷ 5 ∷ 3 ∷ 2 ∷ [] }
    -- no ring, up to 3 steps
    ∷ record { map = (5, 5) ∷ (3, 0) ∷ (4, 10) ∷ (0, 11) ∷ []; ends = 4 ∷ 5 ∷ 2 ∷ 3 ∷ 4 ∷ 5 ∷ 4 ∷ 5 ∷ 5 ∷ 4 ∷ 5 ∷ 4 ∷ [] }
    -- a ring of 1 from r3 on, a ring of 1 from r4 on, a ring of 1 from r5 on, up to 2 steps
    ∷ record { map = (1, 11) ∷ (5, 10) ∷ (3, 7) ∷ (2, 3) ∷ (4, 8) ∷ (0, 11) ∷ []; ends = 11 ∷ 10 ∷ 11 ∷ 10 ∷ 10 ∷ 11 ∷ 6 ∷ 7 ∷ 8 ∷ 9 ∷ 10 ∷ 11 ∷ [] }
    -- a ring of 1 from r0 on, up to 1 step
    ∷ record { map = (0, 0) ∷ (1, 7) ∷ []; ends = 0 ∷ 1 ∷ 7 ∷ 6 ∷ 4 ∷ 5 ∷ 6 ∷ 7 ∷ [] }
    -- a ring of 4 from r1 on, up to 3 steps
    ∷ record { map = (5, 7) ∷ (3, 2) ∷ (1, 4) ∷ (2, 11) ∷ []; ends = 0 ∷ 1 ∷ 2 ∷ 3 ∷ 2 ∷ 3 ∷ 2 ∷ 3 ∷ 8 ∷ 9 ∷ 3 ∷ 2 ∷ [] }
    -- a ring of 3 from r3 on, a ring of 1 from r4 on, up to 2 steps
    ∷ record { map = (6, 7) ∷ (3, 10) ∷ (0, 8) ∷ (1, 8) ∷ (2, 1) ∷ (5, 12) ∷ (4, 8) ∷ []; ends = 8 ∷ 9 ∷ 8 ∷ 9 ∷ 9 ∷ 8 ∷ 6 ∷ 7 ∷ 8 ∷ 9 ∷ 7 ∷ 6 ∷ 7 ∷ 6 ∷ [] }
    -- no ring, up to 1 step
    ∷ record { map = (3, 2) ∷ (2, 12) ∷ []; ends = 0 ∷ 1 ∷ 2 ∷ 3 ∷ 12 ∷ 13 ∷ 2 ∷ 3 ∷ 8 ∷ 9 ∷ 10 ∷ 11 ∷ 12 ∷ 13 ∷ [] }
    -- no ring, up to 1 step
    ∷ record { map = (4, 3) ∷ (7, 5) ∷ (6, 10) ∷ []; ends = 0 ∷ 1 ∷ 2 ∷ 3 ∷ 4 ∷ 5 ∷ 6 ∷ 7 ∷ 3 ∷ 2 ∷ 10 ∷ 11 ∷ 10 ∷ 11 ∷ 5 ∷ 4 ∷ [] }
    -- no ring, up to 1 step
    ∷ record { map = (2, 14) ∷ (5, 7) ∷ []; ends = 0 ∷ 1 ∷ 2 ∷ 3 ∷ 14 ∷ 15 ∷ 6 ∷ 7 ∷ 8 ∷ 9 ∷ 7 ∷ 6 ∷ 12 ∷ 13 ∷ 14 ∷ 15 ∷ [] }
    -- a ring of 1 from r0 on, a ring of 1 from r1 on, a ring of 1 from r5 on, up to 2 steps
    ∷ record { map = (3, 1) ∷ (0, 0) ∷ (6, 2) ∷ (4, 12) ∷ (1, 3) ∷ (5, 10) ∷ (2, 2) ∷ []; ends = 0 ∷ 1 ∷ 2 ∷ 3 ∷ 2 ∷ 3 ∷ 1 ∷ 0 ∷ 2 ∷ 3 ∷ 10 ∷ 11 ∷ 2 ∷ 3 ∷ [] }
    -- a ring of 1 from r3 on, up to 2 steps
    ∷ record { map = (3, 6) ∷ (1, 1) ∷ (0, 7) ∷ []; ends = 7 ∷ 6 ∷ 6 ∷ 7 ∷ 4 ∷ 5 ∷ 6 ∷ 7 ∷ [] }
    -- a ring of 1 from r5 on, up to 2 steps
    ∷ record { map = (4, 15) ∷ (7, 5) ∷ (5, 10) ∷ (0, 3) ∷ []; ends = 3 ∷ 2 ∷ 2 ∷ 3 ∷ 4 ∷ 5 ∷ 6 ∷ 7 ∷ 4 ∷ 5 ∷ 10 ∷ 11 ∷ 12 ∷ 13 ∷ 5 ∷ 4 ∷ [] }
    -- a ring of 2 from r0 on, up to 1 step
    ∷ record { map = (1, 0) ∷ (0, 2) ∷ []; ends = 0 ∷ 1 ∷ 0 ∷ 1 ∷ [] }
    -- no ring, up to 2 steps
    ∷ record { map = (2, 7) ∷ (0, 4) ∷ []; ends = 7 ∷ 6 ∷ 2 ∷ 3 ∷ 7 ∷ 6 ∷ 6 ∷ 7 ∷ [] }
    -- a ring of 1 from r1 on, up to 0 steps
    ∷ record { map = (1, 3) ∷ []; ends = 0 ∷ 1 ∷ 2 ∷ 3 ∷ [] }
    -- a ring of 1 from r3 on, a ring of 1 from r5 on, up to 2 steps
    ∷ record { map = (0, 8) ∷ (3, 7) ∷ (4, 10) ∷ (5, 11) ∷ []; ends = 10 ∷ 11 ∷ 2 ∷ 3 ∷ 4 ∷ 5 ∷ 6 ∷ 7 ∷ 10 ∷ 11 ∷ 10 ∷ 11 ∷ [] }
    -- a ring of 1 from r1 on, up to 0 steps
    ∷ record { map = (1, 2) ∷ []; ends = 0 ∷ 1 ∷ 2 ∷ 3 ∷ [] }
    -- no ring, up to 2 steps
    ∷ record { map = (0, 13) ∷ (1, 1) ∷ (5, 12) ∷ (2, 13) ∷ []; ends = 13 ∷ 12 ∷ 12 ∷ 13 ∷ 13 ∷ 12 ∷ 6 ∷ 7 ∷ 8 ∷ 9 ∷ 12 ∷ 13 ∷ 12 ∷ 13 ∷ [] }
    -- no ring, up to 1 step
    ∷ record { map = (0, 9) ∷ []; ends = 9 ∷ 8 ∷ 2 ∷ 3 ∷ 4 ∷ 5 ∷ 6 ∷ 7 ∷ 8 ∷ 9 ∷ [] }
    -- no ring, up to 2 steps
    ∷ record { map = (4, 1) ∷ (0, 4) ∷ (3, 2) ∷ []; ends = 4 ∷ 5 ∷ 2 ∷ 3 ∷ 4 ∷ 5 ∷ 2 ∷ 3 ∷ 5 ∷ 4 ∷ [] }
    -- no ring, up to 1 step
    ∷ record { map = (4, 4) ∷ (0, 5) ∷ (1, 5) ∷ []; ends = 5 ∷ 4 ∷ 5 ∷ 4 ∷ 4 ∷ 5 ∷ 6 ∷ 7 ∷ 4 ∷ 5 ∷ [] }
    -- a ring of 1 from r3 on, up to 3 steps
    ∷ record { map = (1, 5) ∷ (2, 0) ∷ (3, 6) ∷ (0, 7) ∷ (4, 5) ∷ []; ends = 7 ∷ 6 ∷ 6 ∷ 7 ∷ 7 ∷ 6 ∷ 6 ∷ 7 ∷ 6 ∷ 7 ∷ [] }
    -- a ring of 1 from r0 on, up to 1 step
    ∷ record { map = (1, 0) ∷ (0, 1) ∷ []; ends = 0 ∷ 1 ∷ 0 ∷ 1 ∷ [] }
    -- a ring of 2 from r5 on, up to 2 steps
    ∷ record { map = (5, 13) ∷ (2, 8) ∷ (1, 8) ∷ (6, 10) ∷ (3, 12) ∷ []; ends = 0 ∷ 1 ∷ 8 ∷ 9 ∷ 8 ∷ 9 ∷ 10 ∷ 11 ∷ 8 ∷ 9 ∷ 10 ∷ 11 ∷ 10 ∷ 11 ∷ [] }
    -- no ring, up to 1 step
    ∷ record { map = (2, 3) ∷ (0, 2) ∷ []; ends = 2 ∷ 3 ∷ 2 ∷ 3 ∷ 3 ∷ 2 ∷ [] }
    -- a ring of 2 from r0 on, a ring of 1 from r2 on, a ring of 2 from r3 on, up to 1 step
    ∷ record { map = (6, 5) ∷ (7, 6) ∷ (3, 14) ∷ (1, 1) ∷ (4, 7) ∷ (2, 5) ∷ (0, 2) ∷ (5, 7) ∷ []; ends = 0 ∷ 1 ∷ 1 ∷ 0 ∷ 4 ∷ 5 ∷ 6 ∷ 7 ∷ 7 ∷ 6 ∷ 7 ∷ 6 ∷ 5 ∷ 4 ∷ 6 ∷ 7 ∷ [] }
    -- a ring of 2 from r1 on, up to 3 steps
    ∷ record { map = (5, 8) ∷ (2, 0) ∷ (0, 2) ∷ (6, 2) ∷ (1, 12) ∷ (4, 0) ∷ (3, 1) ∷ []; ends = 2 ∷ 3 ∷ 2 ∷ 3 ∷ 2 ∷ 3 ∷ 3 ∷ 2 ∷ 2 ∷ 3 ∷ 2 ∷ 3 ∷ 2 ∷ 3 ∷ [] }
    -- a ring of 1 from r0 on, up to 1 step
    ∷ record { map = (0, 0) ∷ (1, 1) ∷ []; ends = 0 ∷ 1 ∷ 1 ∷ 0 ∷ [] }
    -- a ring of 2 from r1 on, up to 1 step
    ∷ record { map = (0, 2) ∷ (2, 3) ∷ (1, 5) ∷ []; ends = 2 ∷ 3 ∷ 2 ∷ 3 ∷ 3 ∷ 2 ∷ [] }
    -- a ring of 1 from r1 on, a ring of 1 from r2 on, a ring of 1 from r3 on, up to 2 steps
    ∷ record { map = (3, 6) ∷ (2, 5) ∷ (1, 2) ∷ (4, 4) ∷ (0, 9) ∷ []; ends = 5 ∷ 4 ∷ 2 ∷ 3 ∷ 4 ∷ 5 ∷ 6 ∷ 7 ∷ 4 ∷ 5 ∷ [] }
    -- a ring of 1 from r2 on, up to 0 steps
    ∷ record { map = (2, 5) ∷ []; ends = 0 ∷ 1 ∷ 2 ∷ 3 ∷ 4 ∷ 5 ∷ [] }
    -- a ring of 1 from r0 on, a ring of 2 from r3 on, up to 1 step
    ∷ record { map = (2, 1) ∷ (4, 6) ∷ (3, 9) ∷ (0, 0) ∷ (1, 0) ∷ []; ends = 0 ∷ 1 ∷ 0 ∷ 1 ∷ 1 ∷ 0 ∷ 6 ∷ 7 ∷ 6 ∷ 7 ∷ [] }
    -- no ring, up to 1 step
    ∷ record { map = (4, 15) ∷ (1, 11) ∷ []; ends = 0 ∷ 1 ∷ 11 ∷ 10 ∷ 4 ∷ 5 ∷ 6 ∷ 7 ∷ 15 ∷ 14 ∷ 10 ∷ 11 ∷ 12 ∷ 13 ∷ 14 ∷ 15 ∷ [] }
    -- a ring of 2 from r4 on, up to 2 steps
    ∷ record { map = (0, 13) ∷ (4, 12) ∷ (2, 13) ∷ (6, 9) ∷ []; ends = 8 ∷ 9 ∷ 2 ∷ 3 ∷ 8 ∷ 9 ∷ 6 ∷ 7 ∷ 8 ∷ 9 ∷ 10 ∷ 11 ∷ 9 ∷ 8 ∷ [] }
    -- a ring of 1 from r0 on, a ring of 1 from r4 on, up to 1 step
    ∷ record { map = (7, 12) ∷ (2, 6) ∷ (4, 9) ∷ (0, 0) ∷ []; ends = 0 ∷ 1 ∷ 2 ∷ 3 ∷ 6 ∷ 7 ∷ 6 ∷ 7 ∷ 8 ∷ 9 ∷ 10 ∷ 11 ∷ 12 ∷ 13 ∷ 12 ∷ 13 ∷ [] }
    -- a ring of 2 from r0 on, up to 1 step
    ∷ record { map = (6, 0) ∷ (3, 1) ∷ (0, 7) ∷ (4, 2) ∷ []; ends = 0 ∷ 1 ∷ 2 ∷ 3 ∷ 4 ∷ 5 ∷ 1 ∷ 0 ∷ 2 ∷ 3 ∷ 10 ∷ 11 ∷ 0 ∷ 1 ∷ [] }
    -- a ring of 2 from r1 on, up to 1 step
    ∷ record { map = (6, 2) ∷ (1, 12) ∷ (3, 10) ∷ []; ends = 0 ∷ 1 ∷ 2 ∷ 3 ∷ 4 ∷ 5 ∷ 10 ∷ 11 ∷ 8 ∷ 9 ∷ 10 ∷ 11 ∷ 2 ∷ 3 ∷ [] }
    -- a ring of 2 from r0 on, up to 1 step
    ∷ record { map = (0, 4) ∷ (1, 1) ∷ (2, 0) ∷ []; ends = 0 ∷ 1 ∷ 1 ∷ 0 ∷ 0 ∷ 1 ∷ [] }
    -- a ring of 1 from r2 on, up to 1 step
    ∷ record { map = (2, 4) ∷ (3, 2) ∷ (0, 5) ∷ []; ends = 5 ∷ 4 ∷ 2 ∷ 3 ∷ 4 ∷ 5 ∷ 2 ∷ 3 ∷ [] }
    -- no ring, up to 3 steps
    ∷ record { map = (7, 2) ∷ (4, 4) ∷ (0, 15) ∷ (1, 5) ∷ (3, 12) ∷ []; ends = 4 ∷ 5 ∷ 5 ∷ 4 ∷ 4 ∷ 5 ∷ 12 ∷ 13 ∷ 4 ∷ 5 ∷ 10 ∷ 11 ∷ 12 ∷ 13 ∷ 5 ∷ 4 ∷ [] }
    -- no ring, up to 1 step
    ∷ record { map = (2, 7) ∷ []; ends = 0 ∷ 1 ∷ 2 ∷ 3 ∷ 7 ∷ 6 ∷ 6 ∷ 7 ∷ [] }
    -- a ring of 1 from r4 on, up to 1 step
    ∷ record { map = (4, 9) ∷ (2, 1) ∷ (3, 9) ∷ (1, 1) ∷ []; ends = 0 ∷ 1 ∷ 1 ∷ 0 ∷ 1 ∷ 0 ∷ 9 ∷ 8 ∷ 8 ∷ 9 ∷ [] }
    -- a ring of 2 from r0 on, up to 1 step
    ∷ record { map = (1, 0) ∷ (0, 3) ∷ []; ends = 0 ∷ 1 ∷ 0 ∷ 1 ∷ [] }
    -- a ring of 1 from r4 on, up to 2 steps
    ∷ record { map = (3, 1) ∷ (5, 6) ∷ (4, 9) ∷ (6, 0) ∷ []; ends = 0 ∷ 1 ∷ 2 ∷ 3 ∷ 4 ∷ 5 ∷ 1 ∷ 0 ∷ 8 ∷ 9 ∷ 1 ∷ 0 ∷ 0 ∷ 1 ∷ [] }
    -- a ring of 1 from r0 on, a ring of 2 from r3 on, a ring of 1 from r7 on, up to 3 steps
    ∷ record { map = (7, 14) ∷ (3, 8) ∷ (6, 8) ∷ (2, 12) ∷ (5, 2) ∷ (4, 6) ∷ (0, 1) ∷ []; ends = 0 ∷ 1 ∷ 2 ∷ 3 ∷ 6 ∷ 7 ∷ 6 ∷ 7 ∷ 6 ∷ 7 ∷ 2 ∷ 3 ∷ 6 ∷ 7 ∷ 14 ∷ 15 ∷ [] }
    -- a ring of 1 from r0 on, up to 1 step
    ∷ record { map = (1, 1) ∷ (0, 1) ∷ []; ends = 0 ∷ 1 ∷ 1 ∷ 0 ∷ [] }
    -- a ring of 1 from r1 on, up to 1 step
    ∷ record { map = (3, 10) ∷ (1, 3) ∷ []; ends = 0 ∷ 1 ∷ 2 ∷ 3 ∷ 4 ∷ 5 ∷ 10 ∷ 11 ∷ 8 ∷ 9 ∷ 10 ∷ 11 ∷ [] }
    -- no ring, up to 1 step
    ∷ record { map = (5, 2) ∷ []; ends = 0 ∷ 1 ∷ 2 ∷ 3 ∷ 4 ∷ 5 ∷ 6 ∷ 7 ∷ 8 ∷ 9 ∷ 2 ∷ 3 ∷ [] }
    -- a ring of 1 from r3 on, up to 1 step
    ∷ record { map = (3, 7) ∷ (1, 6) ∷ (2, 0) ∷ []; ends = 0 ∷ 1 ∷ 6 ∷ 7 ∷ 0 ∷ 1 ∷ 6 ∷ 7 ∷ [] }
    -- no ring, up to 1 step
    ∷ record { map = (0, 4) ∷ (1, 7) ∷ []; ends = 4 ∷ 5 ∷ 7 ∷ 6 ∷ 4 ∷ 5 ∷ 6 ∷ 7 ∷ [] }
    -- no ring, up to 1 step
    ∷ record { map = (0, 5) ∷ []; ends = 5 ∷ 4 ∷ 2 ∷ 3 ∷ 4 ∷ 5 ∷ [] }
    -- a ring of 1 from r1 on, a ring of 1 from r2 on, up to 1 step
    ∷ record { map = (1, 2) ∷ (2, 4) ∷ (0, 2) ∷ []; ends = 2 ∷ 3 ∷ 2 ∷ 3 ∷ 4 ∷ 5 ∷ [] }
    -- no ring, up to 2 steps
    ∷ record { map = (4, 0) ∷ (1, 8) ∷ []; ends = 0 ∷ 1 ∷ 0 ∷ 1 ∷ 4 ∷ 5 ∷ 6 ∷ 7 ∷ 0 ∷ 1 ∷ [] }
    -- a ring of 1 from r1 on, up to 4 steps
    ∷ record { map = (3, 3) ∷ (6, 11) ∷ (2, 3) ∷ (1, 2) ∷ (5, 7) ∷ (4, 13) ∷ []; ends = 0 ∷ 1 ∷ 2 ∷ 3 ∷ 3 ∷ 2 ∷ 3 ∷ 2 ∷ 2 ∷ 3 ∷ 2 ∷ 3 ∷ 3 ∷ 2 ∷ [] }
    -- no ring, up to 2 steps
    ∷ record { map = (1, 5) ∷ (2, 1) ∷ []; ends = 0 ∷ 1 ∷ 0 ∷ 1 ∷ 1 ∷ 0 ∷ [] }
    -- no ring, up to 2 steps
    ∷ record { map = (4, 11) ∷ (2, 10) ∷ (0, 7) ∷ (1, 1) ∷ []; ends = 7 ∷ 6 ∷ 6 ∷ 7 ∷ 10 ∷ 11 ∷ 6 ∷ 7 ∷ 11 ∷ 10 ∷ 10 ∷ 11 ∷ [] }
    -- no ring, up to 1 step
    ∷ record { map = (0, 2) ∷ []; ends = 2 ∷ 3 ∷ 2 ∷ 3 ∷ [] }
    -- a ring of 1 from r1 on, a ring of 1 from r2 on, up to 1 step
    ∷ record { map = (1, 2) ∷ (2, 5) ∷ (0, 2) ∷ []; ends = 2 ∷ 3 ∷ 2 ∷ 3 ∷ 4 ∷ 5 ∷ [] }
    -- no ring, up to 1 step
    ∷ record { map = (3, 9) ∷ []; ends = 0 ∷ 1 ∷ 2 ∷ 3 ∷ 4 ∷ 5 ∷ 9 ∷ 8 ∷ 8 ∷ 9 ∷ [] }
    -- no ring, up to 2 steps
    ∷ record { map = (2, 3) ∷ (1, 0) ∷ []; ends = 0 ∷ 1 ∷ 0 ∷ 1 ∷ 1 ∷ 0 ∷ [] }
    -- no ring, up to 1 step
    ∷ record { map = (2, 0) ∷ []; ends = 0 ∷ 1 ∷ 2 ∷ 3 ∷ 0 ∷ 1 ∷ [] }
    -- a ring of 1 from r0 on, up to 1 step
    ∷ record { map = (0, 0) ∷ (1, 4) ∷ []; ends = 0 ∷ 1 ∷ 4 ∷ 5 ∷ 4 ∷ 5 ∷ [] }
    -- no ring, up to 1 step
    ∷ record { map = (1, 7) ∷ []; ends = 0 ∷ 1 ∷ 7 ∷ 6 ∷ 4 ∷ 5 ∷ 6 ∷ 7 ∷ [] }
    -- no ring, up to 2 steps
    ∷ record { map = (1, 4) ∷ (2, 1) ∷ []; ends = 0 ∷ 1 ∷ 1 ∷ 0 ∷ 1 ∷ 0 ∷ [] }
    -- no ring, up to 3 steps
    ∷ record { map = (4, 7) ∷ (0, 13) ∷ (5, 2) ∷ (6, 11) ∷ []; ends = 2 ∷ 3 ∷ 2 ∷ 3 ∷ 4 ∷ 5 ∷ 6 ∷ 7 ∷ 7 ∷ 6 ∷ 2 ∷ 3 ∷ 3 ∷ 2 ∷ [] }
    -- a ring of 1 from r1 on, a ring of 1 from r2 on, a ring of 1 from r3 on, up to 1 step
    ∷ record { map = (1, 3) ∷ (2, 5) ∷ (3, 7) ∷ (0, 6) ∷ []; ends = 6 ∷ 7 ∷ 2 ∷ 3 ∷ 4 ∷ 5 ∷ 6 ∷ 7 ∷ [] }
    -- a ring of 1 from r1 on, a ring of 1 from r3 on, up to 2 steps
    ∷ record { map = (3, 6) ∷ (7, 0) ∷ (1, 3) ∷ (0, 13) ∷ (2, 3) ∷ []; ends = 13 ∷ 12 ∷ 2 ∷ 3 ∷ 3 ∷ 2 ∷ 6 ∷ 7 ∷ 8 ∷ 9 ∷ 10 ∷ 11 ∷ 12 ∷ 13 ∷ 13 ∷ 12 ∷ [] }
    -- a ring of 1 from r2 on, up to 3 steps
    ∷ record { map = (2, 4) ∷ (5, 5) ∷ (0, 13) ∷ (6, 11) ∷ (1, 11) ∷ []; ends = 5 ∷ 4 ∷ 4 ∷ 5 ∷ 4 ∷ 5 ∷ 6 ∷ 7 ∷ 8 ∷ 9 ∷ 5 ∷ 4 ∷ 4 ∷ 5 ∷ [] }
    -- a ring of 1 from r1 on, up to 4 steps
    ∷ record { map = (2, 1) ∷ (0, 7) ∷ (3, 9) ∷ (1, 2) ∷ (4, 2) ∷ []; ends = 2 ∷ 3 ∷ 2 ∷ 3 ∷ 3 ∷ 2 ∷ 3 ∷ 2 ∷ 2 ∷ 3 ∷ [] }
    -- a ring of 3 from r2 on, up to 2 steps
    ∷ record { map = (2, 7) ∷ (3, 13) ∷ (1, 11) ∷ (4, 5) ∷ (6, 4) ∷ []; ends = 0 ∷ 1 ∷ 11 ∷ 10 ∷ 4 ∷ 5 ∷ 5 ∷ 4 ∷ 5 ∷ 4 ∷ 10 ∷ 11 ∷ 4 ∷ 5 ∷ [] }
    -- no ring, up to 1 step
    ∷ record { map = (4, 5) ∷ []; ends = 0 ∷ 1 ∷ 2 ∷ 3 ∷ 4 ∷ 5 ∷ 6 ∷ 7 ∷ 5 ∷ 4 ∷ [] }
    -- a ring of 1 from r1 on, a ring of 1 from r2 on, up to 1 step
    ∷ record { map = (0, 8) ∷ (2, 5) ∷ (1, 2) ∷ []; ends = 8 ∷ 9 ∷ 2 ∷ 3 ∷ 4 ∷ 5 ∷ 6 ∷ 7 ∷ 8 ∷ 9 ∷ [] }
    -- no ring, up to 1 step
    ∷ record { map = (2, 1) ∷ []; ends = 0 ∷ 1 ∷ 2 ∷ 3 ∷ 1 ∷ 0 ∷ [] }
    -- no ring, up to 1 step
    ∷ record { map = (5, 3) ∷ []; ends = 0 ∷ 1 ∷ 2 ∷ 3 ∷ 4 ∷ 5 ∷ 6 ∷ 7 ∷ 8 ∷ 9 ∷ 3 ∷ 2 ∷ [] }
    -- a ring of 1 from r0 on, a ring of 1 from r2 on, up to 1 step
    ∷ record { map = (0, 1) ∷ (1, 1) ∷ (2, 4) ∷ []; ends = 0 ∷ 1 ∷ 1 ∷ 0 ∷ 4 ∷ 5 ∷ [] }
    -- no ring, up to 2 steps
    ∷ record { map = (2, 2) ∷ (1, 7) ∷ []; ends = 0 ∷ 1 ∷ 7 ∷ 6 ∷ 7 ∷ 6 ∷ 6 ∷ 7 ∷ [] }
    -- a ring of 1 from r3 on, a ring of 1 from r6 on, up to 1 step
    ∷ record { map = (6, 12) ∷ (1, 7) ∷ (3, 7) ∷ []; ends = 0 ∷ 1 ∷ 7 ∷ 6 ∷ 4 ∷ 5 ∷ 6 ∷ 7 ∷ 8 ∷ 9 ∷ 10 ∷ 11 ∷ 12 ∷ 13 ∷ [] }
    -- no ring, up to 2 steps
    ∷ record { map = (5, 0) ∷ (4, 0) ∷ (0, 3) ∷ (3, 5) ∷ []; ends = 3 ∷ 2 ∷ 2 ∷ 3 ∷ 4 ∷ 5 ∷ 5 ∷ 4 ∷ 3 ∷ 2 ∷ 3 ∷ 2 ∷ [] }
    -- a ring of 1 from r0 on, up to 2 steps
    ∷ record { map = (2, 0) ∷ (1, 9) ∷ (4, 6) ∷ (0, 1) ∷ []; ends = 0 ∷ 1 ∷ 7 ∷ 6 ∷ 0 ∷ 1 ∷ 6 ∷ 7 ∷ 6 ∷ 7 ∷ [] }
    -- no ring, up to 2 steps
    ∷ record { map = (0, 6) ∷ (3, 3) ∷ (5, 5) ∷ []; ends = 3 ∷ 2 ∷ 2 ∷ 3 ∷ 4 ∷ 5 ∷ 3 ∷ 2 ∷ 8 ∷ 9 ∷ 5 ∷ 4 ∷ [] }
    -- a ring of 1 from r4 on, up to 1 step
    ∷ record { map = (4, 9) ∷ (2, 1) ∷ []; ends = 0 ∷ 1 ∷ 2 ∷ 3 ∷ 1 ∷ 0 ∷ 6 ∷ 7 ∷ 8 ∷ 9 ∷ [] }
    -- no ring, up to 1 step
    ∷ record { map = (3, 5) ∷ (4, 1) ∷ []; ends = 0 ∷ 1 ∷ 2 ∷ 3 ∷ 4 ∷ 5 ∷ 5 ∷ 4 ∷ 1 ∷ 0 ∷ [] }
    -- no ring, up to 2 steps
    ∷ record { map = (2, 6) ∷ (1, 4) ∷ []; ends = 0 ∷ 1 ∷ 6 ∷ 7 ∷ 6 ∷ 7 ∷ 6 ∷ 7 ∷ [] }
    -- a ring of 2 from r5 on, up to 2 steps
    ∷ record { map = (0, 4) ∷ (4, 12) ∷ (6, 10) ∷ (5, 12) ∷ (3, 0) ∷ []; ends = 4 ∷ 5 ∷ 2 ∷ 3 ∷ 4 ∷ 5 ∷ 4 ∷ 5 ∷ 10 ∷ 11 ∷ 10 ∷ 11 ∷ 10 ∷ 11 ∷ [] }
    -- a ring of 1 from r2 on, up to 1 step
    ∷ record { map = (3, 3) ∷ (2, 4) ∷ []; ends = 0 ∷ 1 ∷ 2 ∷ 3 ∷ 4 ∷ 5 ∷ 3 ∷ 2 ∷ [] }
    -- a ring of 1 from r2 on, up to 2 steps
    ∷ record { map = (4, 3) ∷ (2, 4) ∷ (1, 4) ∷ []; ends = 0 ∷ 1 ∷ 4 ∷ 5 ∷ 4 ∷ 5 ∷ 6 ∷ 7 ∷ 5 ∷ 4 ∷ [] }
    -- no ring, up to 1 step
    ∷ record { map = (1, 9) ∷ (0, 10) ∷ (3, 10) ∷ []; ends = 10 ∷ 11 ∷ 9 ∷ 8 ∷ 4 ∷ 5 ∷ 10 ∷ 11 ∷ 8 ∷ 9 ∷ 10 ∷ 11 ∷ [] }
    -- a ring of 1 from r2 on, up to 1 step
    ∷ record { map = (3, 4) ∷ (2, 5) ∷ []; ends = 0 ∷ 1 ∷ 2 ∷ 3 ∷ 4 ∷ 5 ∷ 4 ∷ 5 ∷ [] }
    -- a ring of 1 from r0 on, a ring of 1 from r4 on, up to 1 step
    ∷ record { map = (0, 1) ∷ (4, 9) ∷ (1, 9) ∷ []; ends = 0 ∷ 1 ∷ 9 ∷ 8 ∷ 4 ∷ 5 ∷ 6 ∷ 7 ∷ 8 ∷ 9 ∷ [] }
    -- a ring of 3 from r1 on, up to 2 steps
    ∷ record { map = (0, 7) ∷ (2, 9) ∷ (3, 3) ∷ (4, 2) ∷ (1, 4) ∷ []; ends = 2 ∷ 3 ∷ 2 ∷ 3 ∷ 3 ∷ 2 ∷ 3 ∷ 2 ∷ 2 ∷ 3 ∷ [] }
    -- a ring of 1 from r0 on, up to 1 step
    ∷ record { map = (1, 5) ∷ (0, 1) ∷ []; ends = 0 ∷ 1 ∷ 5 ∷ 4 ∷ 4 ∷ 5 ∷ [] }
    ∷ []
