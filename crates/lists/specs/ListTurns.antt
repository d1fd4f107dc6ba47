-- A rule for each element of a list, by one call for an element or for some of them. Assumes nothing.
use Rattle.std.specs.Prelude.{◌≡◌, ℕ}
use Rattle.std.proofs.Math.Path.{refl}
use Rattle.std.proofs.Common.{ap, ◌∙◌}
use mathlib.Core.List.{List, [], ◌∷◌, ◌++◌}
use Prim.{Unit, tt}
use Rattle.words.specs.Words.{words}
use Rattle.ir.specs.declared.counters.Counters.{Counters}
use Rattle.ir.specs.Answer.{Answer}
use Rattle.ir.specs.Answer.{Done, Refused}
use Rattle.rules.specs.Base.{Res, ok, refused, then, M, for_each}
use Rattle.rules.specs.State.{Env}
use Rattle.rules.specs.Axioms.{Clausifier, C}
use Rattle.hands.specs.Hands.{Four, four}
use Rattle.axioms.specs.Wholes.{Clausifying, Clausified}
use Rattle.lists.specs.Turns.{SameLong, DidTurn, Turned}
use Rattle.lists.specs.TurnLaws.{turned_start, turned_skip, turned_finish, turned_step, turned_halt}

module _ {S A : Type 0} (f : A → M S (Unit {0})) where
  pub each_append : (l r : List A) (z : S) → for_each f (l ++ r) z ≡ then (for_each f l z) (λ _. for_each f r)
  unfolding for_each
  each_append [] r z = refl
  each_append (a ∷ l) r z = go (each_append l r) (f a z)
    where
      go : ((z : S) → for_each f (l ++ r) z ≡ then (for_each f l z) (λ _. for_each f r)) → (u : Res S (Unit {0})) → then u (λ _. for_each f (l ++ r)) ≡ then (then u (λ _. for_each f l)) (λ _. for_each f r)
      go rest (ok b z) = rest z
      go rest (refused e) = refl

  pub each_cons : (a : A) (l : List A) (z : S) → for_each f (a ∷ l) z ≡ then (f a z) (λ _. for_each f l)
  unfolding for_each
  each_cons a l z = refl

  pub each_nil : (z : S) → for_each f [] z ≡ ok tt z
  unfolding for_each
  each_nil z = refl

-- l is to do
abbrev pub each_of : {A : Type 0} → (Env → A → C (Unit {0})) → List A → Env → C (Unit {0})
each_of f l env = for_each (f env) l

module _ {A : Type 0} (f : Env → A → C (Unit {0})) where
  pub list_same : (l r : List A) → l ≡ r → (env : Env) (z : Clausifier) → for_each (f env) l z ≡ for_each (f env) r z
  list_same l r q env z = ap (λ (t : List A). for_each (f env) t z) q

  pub list_start : (k : Counters) (s c a d : List ℕ) (l r : List A) → Clausifying s k → l ≡ r → Turned (each_of f l) (each_of f r) k k (four (words s) c a d) s c a d
  list_start k s c a d l r G q = turned_skip (each_of f l) (each_of f l) k k (four (words s) c a d) s c a d (turned_start (each_of f l) k s c a d G) (each_of f r) (list_same l r q)

  module _ (begin : Env → C (Unit {0})) (k m : Counters) (x : Four) (s c a d : List ℕ) (l : List A) (T : Turned begin (each_of f l) k m x s c a d) where
    pub list_end : l ≡ [] → Clausified begin k x (four (words s) c a d) (Done m 0) × Clausifying s m
    list_end q = turned_finish begin (each_of f l) k m x s c a d T (λ env z. list_same l [] q env z ∙ each_nil (f env) z)

    pub list_skip : (r : List A) → l ≡ r → Turned begin (each_of f r) k m x s c a d
    list_skip r q = turned_skip begin (each_of f l) k m x s c a d T (each_of f r) (list_same l r q)

    -- an element for which nothing is to do
    pub list_pass : (e : A) (r : List A) → l ≡ e ∷ r → ((env : Env) (z : Clausifier) → f env e z ≡ ok tt z) → Turned begin (each_of f r) k m x s c a d
    list_pass e r q h = turned_skip begin (each_of f l) k m x s c a d T (each_of f r)
        (λ env z. list_same l (e ∷ r) q env z ∙ each_cons (f env) e r z ∙ ap (λ (u : Res Clausifier (Unit {0})). then u (λ _. for_each (f env) r)) (h env z))

    module _ (s' c' a' d' : List ℕ) (z : Answer) where
      -- a call for the first element
      module _ (e : A) (r : List A) (q : l ≡ e ∷ r) (D : DidTurn (λ env. f env e) m s c a d s' c' a' d' z) where
        first : (env : Env) (z : Clausifier) → for_each (f env) l z ≡ then (f env e z) (λ _. for_each (f env) r)
        first env z = list_same l (e ∷ r) q env z ∙ each_cons (f env) e r z

        pub list_next : SameLong (four (words s) c a d) (four (words s') c' a' d') → (m' : Counters) (j : ℕ) → z ≡ Done m' j → Turned begin (each_of f r) k m' x s' c' a' d'
        list_next L m' j h = turned_step begin (each_of f l) k m x s c a d T s' c' a' d' z (λ env. f env e) (each_of f r) first D L m' j h

        pub list_stop : (n : ℕ) → z ≡ Refused n → Clausified begin k x (four (words s') c' a' d') (Refused n)
        list_stop n h = turned_halt begin (each_of f l) k m x s c a d T s' c' a' d' z (λ env. f env e) (each_of f r) first D n h

      -- for the first ones
      module _ (p r : List A) (q : l ≡ p ++ r) (D : DidTurn (each_of f p) m s c a d s' c' a' d' z) where
        firsts : (env : Env) (z : Clausifier) → for_each (f env) l z ≡ then (for_each (f env) p z) (λ _. for_each (f env) r)
        firsts env z = list_same l (p ++ r) q env z ∙ each_append (f env) p r z

        pub part_next : SameLong (four (words s) c a d) (four (words s') c' a' d') → (m' : Counters) (j : ℕ) → z ≡ Done m' j → Turned begin (each_of f r) k m' x s' c' a' d'
        part_next L m' j h = turned_step begin (each_of f l) k m x s c a d T s' c' a' d' z (each_of f p) (each_of f r) firsts D L m' j h

        pub part_stop : (n : ℕ) → z ≡ Refused n → Clausified begin k x (four (words s') c' a' d') (Refused n)
        part_stop n h = turned_halt begin (each_of f l) k m x s c a d T s' c' a' d' z (each_of f p) (each_of f r) firsts D n h
