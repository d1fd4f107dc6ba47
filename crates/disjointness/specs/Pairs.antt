-- A disjoint pair, as the code parts it.
use Rattle.std.specs.Prelude.{Bool, true, false, ℕ}
use Prim.{Unit, tt}
use Rattle.ir.specs.declared.deferral.Deferral.TheVariants.{DisjointAntecedent}
use Rattle.rules.specs.Base.{◌>>=◌, ◌>>◌, return}
use Rattle.rules.specs.Pool.{Pool}
use Rattle.rules.specs.State.{Env, E, restart_vars, defer}
use Rattle.rules.specs.Antecedents.{encode_antecedent}
use Rattle.rules.specs.Axioms.{pair_with}

-- a pair that cannot be encoded: deferred, or nothing in a disjoint union
abbrev pub unencoded : Env → Bool → E (Unit {0})
unencoded env true = defer env DisjointAntecedent
unencoded env false = return tt

-- disjointPair, over the pool
abbrev pub pair_rule : Env → E (Unit {0}) → ℕ → ℕ → Pool → E (Unit {0})
pair_rule env other a b pool = restart_vars >> (encode_antecedent env pool a 0 >>= (λ x. encode_antecedent env pool b 0 >>= (λ y. pair_with env other x y)))
