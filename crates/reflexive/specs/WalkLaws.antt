-- The loops over role codes and over axioms. Assumes nothing.
use Rattle.std.specs.Prelude.{◌≡◌, refl, ℕ, ◌+◌, ◌-◌, ◌<◌, length, get_or}
use Rattle.std.proofs.Common.{sym, ◌∙◌, arith}
use Rattle.std.proofs.Math.Path.{ap}
use mathlib.Core.List.{List, [], ◌∷◌}
use Rattle.words.specs.Words.{words}
use Rattle.ir.specs.Scratch.{numbers_at}
use Rattle.ir.specs.Roles.{role_of}
use Rattle.rules.specs.Concept.{Axiom}
use Rattle.rules.specs.Deck.{most_roles}
use Rattle.rules.specs.State.{Env}
use Rattle.rules.specs.Reflexive.{inserted, canon_id, declared_reflexive, reflexive_from, edges_from, edges_among, role_edges, all_edges, round}
use Rattle.pool.specs.Layout.{tab}
use Rattle.pool.specs.Tabs.{tab_same}
use Rattle.ontology.specs.Layout.{axiom_start, axiom_count, axiom_number, axiom_row, axiom_at}
use Rattle.inverse.specs.Layout.{Building}
use Rattle.reflexive.specs.Flags.{MapWithin, OnlyFlags}
use Rattle.reflexive.specs.Steps.{id_at, ids_at, flagged, insertion, edge, edges_to, edges_across, axiom_edges, axioms_edges, declared_ids, Ready, Codes, HasAxiom, Step, Begun, Walk}
use Rattle.reflexive.specs.FlagLaws.{roles_kept, map_kept, id_kept, ready_after, step_none, step_as, begun_then, begun_as, walk_first, walk_next}
use Rattle.reflexive.specs.IdLaws.{mapped_id}
use Rattle.reflexive.specs.EdgeLaws.{from_next, from_same, among_next, all_next, declared_next}
use Rattle.ontology.specs.KeptAxioms.{axiom_kept, axioms_kept}
use Rattle.inverse.specs.AxiomLaws.{building_kept}
use Rattle.reflexive.specs.AxiomLaws.{no_edges, undeclared, sub_edges, reflexive_small, reflexive_id, equal_edges, flags_axioms}

pub walk_ready : (s₀ s : List ℕ) (size r i n : ℕ) (f : ℕ → Env → List ℕ → List ℕ) → Ready s₀ size → Walk s₀ s size r i n f → Ready s r
walk_ready s₀ s size r i n f A W = ready_after s₀ s size r A W.step.only W.step.sized W.long

pub walk_building : (s₀ s : List ℕ) (size r i n : ℕ) (f : ℕ → Env → List ℕ → List ℕ) → Building s₀ n → Walk s₀ s size r i n f → Building s n
walk_building s₀ s size r i n f A W = building_kept s₀ s n A (flags_axioms (words s₀) (words s) W.step.only) W.long

-- ---- codes
module _ (w w' : List ℕ) (at n : ℕ) (C : Codes w at n) (O : OnlyFlags w w') where
  ids_kept_at : (j : ℕ) → j < n → id_at w' (get_or w' (at + j) 0) ≡ id_at w (get_or w (at + j) 0)
  ids_kept_at j h = ap (id_at w') (O.behind (at + j) (omega (arith, C.above))) ∙ id_kept w w' O (get_or w (at + j) 0) (C.small j h)

  ids_kept : ids_at w' at n ≡ ids_at w at n
  ids_kept = tab_same (λ j. id_at w' (get_or w' j 0)) (λ j. id_at w (get_or w j 0)) at at n ids_kept_at

-- ---- edges from one role
pub from_first : (s : List ℕ) (a at n size : ℕ) → Ready s size → Walk s s size size 0 n (edges_to (words s) a at)
unfolding tab edges_from round
from_first s a at n size A = walk_first s size n (edges_to (words s) a at) A.sized (λ env set. refl)

module _ (s₀ s : List ℕ) (a b at size r j n : ℕ) (W : Walk s₀ s size r j n (edges_to (words s₀) a at)) (C : Codes (words s₀) at n) (h : j < n) (e : b ≡ id_at (words s) (get_or (words s) (at + j) 0)) where
  b_is : b ≡ id_at (words s₀) (get_or (words s₀) (at + j) 0)
  b_is = e ∙ ids_kept_at (words s₀) (words s) at n C W.step.only j h

  pub from_turn : (a ≡ b → ⊥) → (s' : List ℕ) (t : ℕ) → Step (words s) (words s') r t (edge a b) → length s' ≡ length s → Walk s₀ s' size t (j + 1) n (edges_to (words s₀) a at)
  from_turn d s' t S l = walk_next s₀ s s' size r t j n (edges_to (words s₀) a at) (edge a b) W h S (λ env R set. from_next env (λ x. id_at (words s₀) (get_or (words s₀) x 0)) at j set a b b_is d) l

  pub from_skip : a ≡ b → Walk s₀ s size r (j + 1) n (edges_to (words s₀) a at)
  from_skip d = walk_next s₀ s s size r r j n (edges_to (words s₀) a at) (λ env set. set) W h (step_none (words s) r W.step.sized) (λ env R set. from_same env (λ x. id_at (words s₀) (get_or (words s₀) x 0)) at j set a b b_is d) refl

-- ---- edges of an equivalence
pub among_first : (s : List ℕ) (at n size : ℕ) → Ready s size → Walk s s size size 0 n (edges_across (words s) at n)
unfolding tab edges_among round
among_first s at n size A = walk_first s size n (edges_across (words s) at n) A.sized (λ env set. refl)

pub among_turn : (s₀ s s' : List ℕ) (a at size r t i n : ℕ) → Walk s₀ s size r i n (edges_across (words s₀) at n) → Codes (words s₀) at n → i < n → a ≡ id_at (words s) (get_or (words s) (at + i) 0)
    → Step (words s) (words s') r t (edges_to (words s) a at n) → length s' ≡ length s → Walk s₀ s' size t (i + 1) n (edges_across (words s₀) at n)
among_turn s₀ s s' a at size r t i n W C h e S l =
    let q : a ≡ id_at (words s₀) (get_or (words s₀) (at + i) 0) = e ∙ ids_kept_at (words s₀) (words s) at n C W.step.only i h in
    let k : ids_at (words s) at n ≡ ids_at (words s₀) at n = ids_kept (words s₀) (words s) at n C W.step.only in
    walk_next s₀ s s' size r t i n (edges_across (words s₀) at n) (edges_to (words s) a at n) W h S (λ env R set.
    ap (λ (x : ℕ). round (edges_from env x (ids_at (words s) at n)) (edges_across (words s₀) at n i env set)) q
    ∙ ap (λ (x : List ℕ). round (edges_from env (id_at (words s₀) (get_or (words s₀) (at + i) 0)) x) (edges_across (words s₀) at n i env set)) k
    ∙ among_next env (λ x. id_at (words s₀) (get_or (words s₀) x 0)) at i set (ids_at (words s₀) at n)) l

-- ---- edges of an axiom
module _ (s : List ℕ) (i size : ℕ) (A : HasAxiom s i) where
  pub edges_none : (k : ℕ) → k ≡ axiom_number (words s) i 0 → (k ≡ 33 → ⊥) → (k ≡ 34 → ⊥) → size ≡ flagged (words s) most_roles → Step (words s) (words s) size size (axiom_edges (words s) i)
  unfolding round
  edges_none k e d₁ d₂ z = step_as (words s) (words s) size size (λ env set. set) (axiom_edges (words s) i)
      (λ env R set H. ap (λ (l : List (ℕ × ℕ)). round l set) (sym (no_edges env (axiom_row (words s) i) (axiom_number (words s) i 0) (A.building.held.kinds i A.below) (λ q. d₁ (e ∙ q)) (λ q. d₂ (e ∙ q)))))
      (step_none (words s) size z)

  pub edges_sub : axiom_number (words s) i 0 ≡ 33 → (x y a b : ℕ) → x ≡ axiom_number (words s) i 1 → y ≡ axiom_number (words s) i 2 → a ≡ id_at (words s) x → b ≡ id_at (words s) y
      → (w' : List ℕ) (r : ℕ) → Step (words s) w' size r (edge a b) → Step (words s) w' size r (axiom_edges (words s) i)
  edges_sub k x y a b ex ey ea eb w' r S =
      let p : a ≡ id_at (words s) (axiom_number (words s) i 1) = ea ∙ ap (id_at (words s)) ex in
      let q : b ≡ id_at (words s) (axiom_number (words s) i 2) = eb ∙ ap (id_at (words s)) ey in
      step_as (words s) w' size r (edge a b) (axiom_edges (words s) i)
      (λ env R set H. ap (λ (z : ℕ). round ((z, b) ∷ []) set) p ∙ ap (λ (z : ℕ). round ((id_at (words s) (axiom_number (words s) i 1), z) ∷ []) set) q
      ∙ ap (λ (l : List (ℕ × ℕ)). round l set) (sub_edges s A.count i A.building A.below k env R)) S

  pub edges_equal : axiom_number (words s) i 0 ≡ 34 → (at n : ℕ) → at ≡ numbers_at + axiom_start (words s) i + 1 → n ≡ axiom_count (words s) i - 1
      → (w' : List ℕ) (r : ℕ) → Step (words s) w' size r (edges_across (words s) at n n) → Step (words s) w' size r (axiom_edges (words s) i)
  edges_equal k at n ea en w' r S = step_as (words s) w' size r (edges_across (words s) at n n) (axiom_edges (words s) i)
      (λ env R set H. ap (λ (l : List (ℕ × ℕ)). round l set) (equal_edges s A.count i A.building A.below k at n ea en env R)) S

-- ---- one round
pub round_first : (s : List ℕ) (n size : ℕ) → Ready s size → Walk s s size size 0 n (axioms_edges (words s))
unfolding tab all_edges round
round_first s n size A = walk_first s size n (axioms_edges (words s)) A.sized (λ env set. refl)

pub round_turn : (s₀ s s' : List ℕ) (size r t i n : ℕ) → Walk s₀ s size r i n (axioms_edges (words s₀)) → Building s₀ n → i < n → Step (words s) (words s') r t (axiom_edges (words s) i) → length s' ≡ length s
    → Walk s₀ s' size t (i + 1) n (axioms_edges (words s₀))
round_turn s₀ s s' size r t i n W A h S l = walk_next s₀ s s' size r t i n (axioms_edges (words s₀)) (axiom_edges (words s) i) W h S
    (λ env R set. ap (λ (a : Axiom). round (role_edges env a) (axioms_edges (words s₀) i env set)) (axiom_kept (words s₀) (words s) n A.held (flags_axioms (words s₀) (words s) W.step.only) i h) ∙ all_next env (axiom_at (words s₀)) i set) l

-- ---- the roles declared reflexive
pub declared_first : (s : List ℕ) (n size : ℕ) → Ready s size → Walk s s size size 0 n (declared_ids (words s))
unfolding tab reflexive_from
declared_first s n size A = walk_first s size n (declared_ids (words s)) A.sized (λ env set. refl)

module _ (s₀ s : List ℕ) (size r i n : ℕ) (W : Walk s₀ s size r i n (declared_ids (words s₀))) (A : Building s₀ n) (h : i < n) where
  building : Building s n
  building = walk_building s₀ s size r i n (declared_ids (words s₀)) A W

  declared_kept : (env : Env) (set : List ℕ) → declared_reflexive env (declared_ids (words s₀) i env set) (axiom_at (words s) i) ≡ declared_ids (words s₀) (i + 1) env set
  declared_kept env set = ap (declared_reflexive env (declared_ids (words s₀) i env set)) (axiom_kept (words s₀) (words s) n A.held (flags_axioms (words s₀) (words s) W.step.only) i h) ∙ declared_next env (axiom_at (words s₀)) i set

  pub declared_skip : (k : ℕ) → k ≡ axiom_number (words s) i 0 → (k ≡ 35 → ⊥) → Walk s₀ s size r (i + 1) n (declared_ids (words s₀))
  declared_skip k e d = walk_next s₀ s s size r r i n (declared_ids (words s₀)) (λ env set. set) W h (step_none (words s) r W.step.sized)
      (λ env R set. sym (undeclared env (declared_ids (words s₀) i env set) (axiom_row (words s) i) (axiom_number (words s) i 0) (building.held.kinds i h) (λ q. d (e ∙ q))) ∙ declared_kept env set) refl

  pub declared_turn : axiom_number (words s) i 0 ≡ 35 → (x a : ℕ) → x ≡ axiom_number (words s) i 1 → a ≡ id_at (words s) x
      → (s' : List ℕ) (t : ℕ) → Step (words s) (words s') r t (insertion a) → length s' ≡ length s → Walk s₀ s' size t (i + 1) n (declared_ids (words s₀))
  declared_turn k x a ex ea s' t S l = walk_next s₀ s s' size r t i n (declared_ids (words s₀)) (insertion a) W h S
      (λ env R set.
      let p = mapped_id (words s) env.inverse_canon x (roles_kept (words s₀) (words s) W.step.only env.inverse_canon R) (reflexive_small s n i building h k x ex) in
      ap (inserted (declared_ids (words s₀) i env set)) (ea ∙ sym p ∙ ap (λ (c : ℕ). canon_id env (role_of c)) ex) ∙ reflexive_id s n i building h k env (declared_ids (words s₀) i env set) ∙ declared_kept env set) l

-- from cleared flags on
module _ (s₀ s : List ℕ) (n : ℕ) (A : Building s₀ n) (M : MapWithin (words s₀)) (B : Begun (words s₀) (words s) 0 (λ env. [])) (l : length s ≡ length s₀) where
  pub cleared_building : Building s n
  cleared_building = building_kept s₀ s n A (flags_axioms (words s₀) (words s) B.only) l

  pub cleared_ready : Ready s 0
  cleared_ready = record { space = omega (arith, A.space, l); map = map_kept (words s₀) (words s) B.only M; sized = B.sized }

  pub declared_end : (w' : List ℕ) (r : ℕ) → Step (words s) w' 0 r (declared_ids (words s) n) → Begun (words s₀) w' r (λ env. declared_ids (words s₀) n env [])
  declared_end w' r S = begun_as (words s₀) w' r (λ env. declared_ids (words s) n env []) (λ env. declared_ids (words s₀) n env [])
      (λ env R. ap (reflexive_from env []) (axioms_kept (words s₀) (words s) n A.held (flags_axioms (words s₀) (words s) B.only))) (begun_then (words s₀) (words s) w' 0 r (λ env. []) (declared_ids (words s) n) B S)
