-- Normal forms that are made already: made again, in a pool that has only grown, a concept's normal form is the same, takes as many
-- visits, and makes nothing.
use Rattle.std.specs.Prelude.{◌≡◌, Bool, true, false, ℕ, ◌+◌, ◌<◌, leb}
use Rattle.rules.specs.Base.{Res, ok, refused}
use Rattle.rules.specs.Pool.{Pool}
use Rattle.rules.specs.Normalize.{St, N, nnf_by}
use Rattle.rules.specs.Invariants.{Grown}

-- a state after v visits more
abbrev pub later : St → ℕ → St
later u v = record { pool = u.pool; visits = u.visits + v; limit = u.limit }

-- an answer after v visits that make nothing; refusal 10 where one of them does not begin
abbrev pub paid_if : {A : Type 0} → A → ℕ → St → Bool → Res St A
paid_if a v u true = ok a (later u v)
paid_if a v u false = refused 10

abbrev pub paid : {A : Type 0} → A → ℕ → N A
paid a v u = paid_if a v u (leb (u.visits + v) u.limit)

-- in pool p, and in all that it grows to, i is the normal form of concept c, or of its negation, in v visits
abbrev pub Settled : Pool → Bool → ℕ → ℕ → ℕ → Type 0
Settled p b c i v = (u : St) → Grown p u.pool → (f : ℕ) → c < f → nnf_by b f c u ≡ paid i v u
