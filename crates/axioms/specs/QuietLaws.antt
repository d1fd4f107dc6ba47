-- encode_antecedent takes visits and variables, and leaves the rest of the state alone. Assumes nothing.
use Rattle.std.specs.Prelude.{◌≡◌, refl, List, ℕ}
use Rattle.std.proofs.Common.{ap, ◌∙◌}
use Rattle.ir.specs.declared.counters.Counters.{Counters}
use Rattle.rules.specs.Pool.{Pool}
use Rattle.rules.specs.State.{Env, Out, Rooms}
use Rattle.rules.specs.Post.{Post}
use Rattle.rules.proofs.EncodeKeeps.{encode_keeps}
use Rattle.rules.specs.Antecedents.{encode_by}
use Rattle.tables.specs.Drawn.{Tables, tables, show, counters_in, clauses_in, atoms_in, deferrals_in}
use Rattle.antecedents.specs.States.{varied}

pub record Quiet (s t : Out) : Type 0 where
  pub limit : t.limit ≡ s.limit
  pub fresh : t.next_fresh ≡ s.next_fresh
  pub clauses : t.clauses ≡ s.clauses
  pub deferrals : t.deferrals ≡ s.deferrals
  pub line : t.line ≡ s.line
  pub limits : t.limits ≡ s.limits

pub encode_quiet : (env : Env) (pool : Pool) (f c v : ℕ) (s : Out) → Post (λ _ t. Quiet s t) (encode_by env pool f c v s)
encode_quiet env pool = encode_keeps Quiet
    (λ s t u X Y. record { limit = Y.limit ∙ X.limit; fresh = Y.fresh ∙ X.fresh; clauses = Y.clauses ∙ X.clauses; deferrals = Y.deferrals ∙ X.deferrals; line = Y.line ∙ X.line; limits = Y.limits ∙ X.limits })
    (λ s h. record { limit = refl; fresh = refl; clauses = refl; deferrals = refl; line = refl; limits = refl })
    (λ s h. record { limit = refl; fresh = refl; clauses = refl; deferrals = refl; line = refl; limits = refl }) env pool

-- ---- the tables after it
pub drawn_quiet : (k : Counters) (rooms : Rooms) (s t : Out) (c a d : List ℕ) → Quiet s t → tables k c a d ≡ show k rooms s → tables (varied k t) c a d ≡ show k rooms t
unfolding show
drawn_quiet k rooms s t c a d Q e =
    rw (Q.limit, Q.fresh, Q.clauses, Q.deferrals, Q.line) (ap (λ (h : Tables). tables (varied (counters_in h) t) (clauses_in h) (atoms_in h) (deferrals_in h)) e)
