-- The rules of a hard antecedent, as the code parts them.
use Rattle.std.specs.Prelude.{List, [], ℕ, ◌+◌, ◌<◌, ◌≤◌}
use Prim.{Unit}
use Rattle.words.specs.Words.{words}
use Rattle.ir.specs.declared.counters.Counters.{Counters}
use Rattle.rules.specs.Base.{◌>>=◌, ◌>>◌}
use Rattle.rules.specs.Pool.{Pool, members, most_members}
use Rattle.rules.specs.State.{Env, E, restart_vars}
use Rattle.rules.specs.Antecedents.{encode_antecedent}
use Rattle.rules.specs.Heads.{emit_head}
use Rattle.rules.specs.Axioms.{C, in_nnf, in_out, bodies_or_defer}
use Rattle.rules.specs.Invariants.{Each}
use Rattle.pool.specs.Layout.{run, pool_of}
use Rattle.inclusions.specs.Parted.{soft_at, hard_at, head_alone, head_over, soft_and_of}

-- the head holds of everything
abbrev pub always_head : Env → ℕ → Pool → E (Unit {0})
always_head env head pool = restart_vars >> emit_head env pool [] head 0

-- concept g gives the head
abbrev pub gives_head : Env → ℕ → ℕ → Pool → E (Unit {0})
gives_head env g head pool = restart_vars >> (encode_antecedent env pool g 0 >>= (λ o. bodies_or_defer env pool head o))

-- no conjunct is soft
abbrev pub absorb_none : Env → ℕ → ℕ → C (Unit {0})
absorb_none env sub sup = in_nnf (head_alone sub sup) >>= (λ head. in_out (always_head env head))

-- some are
abbrev pub absorb_some : Env → ℕ → List ℕ → List ℕ → C (Unit {0})
absorb_some env sup soft hard = in_nnf (head_over hard sup) >>= (λ head. in_nnf (soft_and_of soft) >>= (λ g. in_out (gives_head env g head)))

-- the conjuncts of sub, soft and hard, in scratch's bytes s
pub record Divided (s : List ℕ) (k : Counters) (sub soft hard : ℕ) : Type 0 where
  pub soft_in : Each (λ d. d < k.concepts) (run (words s) soft_at soft)
  pub few : soft ≤ most_members
  pub hard_in : Each (λ d. d < sub) (run (words s) hard_at hard)
  pub room : hard + members (pool_of (words s) sub) ≤ most_members
