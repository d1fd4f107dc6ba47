-- The calls for one element: their contracts as rules of the clausifier. Assumes nothing.
use Rattle.std.specs.Prelude.{◌≡◌, refl, Bool, true, false, List, ℕ, eqb, length}
use Prim.{Unit, tt}
use Rattle.std.proofs.Common.{eq-eqb, ne_eqb}
use Rattle.words.specs.Words.{words}
use Rattle.ir.specs.Roles.{role_code, role_of, code_role}
use Rattle.ir.specs.declared.counters.Counters.{Counters}
use Rattle.ir.specs.Answer.{Answer}
use Rattle.rules.specs.Base.{ok}
use Rattle.rules.specs.State.{Env}
use Rattle.rules.specs.Axioms.{Clausifier, C, clausify_gci, disjoint_pair, union_member, disjoint_roles}
use Rattle.pool.specs.Layout.{pool_of}
use Rattle.hands.specs.Hands.{four, Did}
use Rattle.axioms.specs.RoleAxioms.{hand_at, not_both}
use Rattle.disjointness.specs.Pairs.{unencoded, pair_rule}
use Rattle.axioms.specs.Bodies.{member_rule}
use Rattle.axioms.specs.Wholes.{Clausifying}
use Rattle.lists.specs.Listed.{pair_disjoint}
use Rattle.lists.specs.Turns.{DidTurn}
use Rattle.lists.specs.TurnLaws.{did_turn}

abbrev pub pair_of : Bool → Env → ℕ × ℕ → C (Unit {0})
pair_of deferred env = disjoint_pair env (unencoded env deferred)

abbrev pub gci_of : Env → ℕ × ℕ → C (Unit {0})
gci_of env p = clausify_gci env p.0 p.1

abbrev pub member_of : ℕ → Env → ℕ → C (Unit {0})
member_of class env = union_member env class

module _ (k : Counters) (s c a d s' c' a' d' : List ℕ) (r : Answer) (G : Clausifying s k) (l : length s' ≡ length s) where
  pub pair_turn : (deferred : Bool) (m n : ℕ)
      → Did (λ _. 0) 0 (λ env f b u. pair_rule env (unencoded env deferred) m n (pool_of (words s) k.concepts) u) k hand_at 0 (four (words s) c a d) (four (words s') c' a' d') r
      → DidTurn (λ env. disjoint_pair env (unencoded env deferred) (m, n)) k s c a d s' c' a' d' r
  unfolding disjoint_pair
  pair_turn deferred m n D = did_turn (λ env pool. pair_rule env (unencoded env deferred) m n pool) k s c a d s' c' a' d' r G l D

  pub member_turn : (class m : ℕ)
      → Did (λ _. 0) 0 (λ env f b u. member_rule env (pool_of (words s) k.concepts) class m u) k hand_at 0 (four (words s) c a d) (four (words s') c' a' d') r
      → DidTurn (λ env. union_member env class m) k s c a d s' c' a' d' r
  unfolding union_member
  member_turn class m D = did_turn (λ env pool. member_rule env pool class m) k s c a d s' c' a' d' r G l D

  -- two roles that differ
  pub roles_turn : (m n : ℕ) → (m ≡ n → ⊥)
      → Did (λ _. 0) 0 (λ env f b u. not_both env (role_of m) (role_of n) false u) k hand_at 0 (four (words s) c a d) (four (words s') c' a' d') r
      → DidTurn (λ env. pair_disjoint env (role_of m, role_of n)) k s c a d s' c' a' d' r
  roles_turn m n h D =
      let e : eqb (role_code (role_of m)) (role_code (role_of n)) ≡ false = rw (code_role m, code_role n) (ne_eqb m n h) in
      rw e (did_turn (λ env pool. disjoint_roles env (role_of m, role_of n) pool false) k s c a d s' c' a' d' r G l D)

-- a role with itself
pub roles_nothing : (m n : ℕ) → m ≡ n → (env : Env) (z : Clausifier) → pair_disjoint env (role_of m, role_of n) z ≡ ok tt z
roles_nothing m n h env z =
    let e : eqb (role_code (role_of m)) (role_code (role_of n)) ≡ true = rw (code_role m, code_role n) (eq-eqb m n h) in
    rw e refl
