-- clause.rs: encode_antecedent, the disjunction of conjunctions of an antecedent. None of the Rust is `none`: the shape is
-- not supported, or there would be more than 64 alternatives.
use Rattle.std.specs.Prelude.{Bool, true, false, List, [], ◌∷◌, ◌++◌, map, ℕ, zero, suc, ◌+◌, length, leb}
use Rattle.std.proofs.Math.Option.{Option, none, some}
use Rattle.ir.specs.declared.atom.Atom.{Atom}
use Rattle.ir.specs.declared.atom.Atom.TheVariants.{Class, Role as RoleAtom}
use Rattle.rules.specs.Base.{return, refuse, all, ◌>>=◌, ◌>>◌}
use Rattle.rules.specs.Concept.{Concept}
use Rattle.rules.specs.Concept.{Top, Bot, Atomic, Nominal, SelfRestriction, Not, And, Or, Some, All, Min, Max}
use Rattle.rules.specs.Pool.{Pool, at}
use Rattle.rules.specs.State.{Env, E, canon, visit, fresh_var, most_in_hand}

-- the alternative bodies
abbrev pub Alternatives : Type 0
Alternatives = List (List Atom)

-- ANTECEDENT_DNF_CAP
abbrev pub antecedent_dnf_cap : ℕ
antecedent_dnf_cap = 64

-- every combination of an alternative of each, the first's order first
unfoldable pub cross : Alternatives → Alternatives → Alternatives
cross [] k = []
cross (a ∷ l) k = map (λ b. a ++ b) k ++ cross l k

abbrev pub in_hand : List Atom → Bool
in_hand b = leb (length b) most_in_hand

-- goes on with the alternatives, if no body in hand is too long (12, which falls first) and they are not too many
abbrev pub within : Bool → Bool → Alternatives → (Alternatives → E (Option Alternatives)) → E (Option Alternatives)
within false few l rest = refuse 12
within true false l rest = return none
within true true l rest = rest l

module _ (env : Env) (pool : Pool) where
  module _ (encode : ℕ → ℕ → E (Option Alternatives)) where
    abbrev pub and_with : (Alternatives → E (Option Alternatives)) → Alternatives → Option Alternatives → E (Option Alternatives)
    and_with rest acc none = return none
    and_with rest acc (some child) = within (all in_hand (cross acc child)) (leb (length (cross acc child)) antecedent_dnf_cap) (cross acc child) rest

    unfoldable pub encode_and : List ℕ → ℕ → Alternatives → E (Option Alternatives)
    encode_and [] v acc = return (some acc)
    encode_and (p ∷ l) v acc = do
      child ← encode p v
      and_with (λ next. encode_and l v next) acc child

    abbrev pub or_with : (Alternatives → E (Option Alternatives)) → Alternatives → Option Alternatives → E (Option Alternatives)
    or_with rest acc none = return none
    or_with rest acc (some child) = within true (leb (length (acc ++ child)) antecedent_dnf_cap) (acc ++ child) rest

    unfoldable pub encode_or : List ℕ → ℕ → Alternatives → E (Option Alternatives)
    encode_or [] v acc = return (some acc)
    encode_or (p ∷ l) v acc = do
      child ← encode p v
      or_with (λ next. encode_or l v next) acc child

    abbrev pub some_with : Atom → Option Alternatives → E (Option Alternatives)
    some_with a none = return none
    some_with a (some inner) = within (all in_hand (map (λ b. a ∷ b) inner)) true (map (λ b. a ∷ b) inner) (λ l. return (some l))

    unfoldable pub encode_step : ℕ → Concept → E (Option Alternatives)
    encode_step v Top = return (some ([] ∷ []))
    encode_step v Bot = return none
    encode_step v (Atomic a) = return (some ((Class a v ∷ []) ∷ []))
    encode_step v (Nominal i) = return (some ((Class (env.nominal_base + i) v ∷ []) ∷ []))
    encode_step v (SelfRestriction _) = return none
    encode_step v (Not _) = return none
    encode_step v (And l) = encode_and l v ([] ∷ [])
    encode_step v (Or l) = encode_or l v []
    encode_step v (Some r d) = do
      y ← fresh_var
      inner ← encode d y
      some_with (RoleAtom (canon env r) v y) inner
    encode_step v (All _ _) = return none
    encode_step v (Min _ _ _) = return none
    encode_step v (Max _ _ _) = return none

  -- by a bound above the id
  unfoldable pub encode_by : ℕ → ℕ → ℕ → E (Option Alternatives)
  encode_by zero c v = refuse 0
  encode_by (suc f) c v = do
    visit
    encode_step (λ d u. encode_by f d u) v (at pool c)

  abbrev pub encode_antecedent : ℕ → ℕ → E (Option Alternatives)
  encode_antecedent c v = encode_by (suc c) c v
