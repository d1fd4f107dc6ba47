-- The records of the constructors: without a list, and lists. Assumes nothing.
use mathlib.Core.Path.{◌≡◌, refl, ap, ◌∙◌}
use mathlib.Core.Bool.{false}
use mathlib.Core.List.{List, []}
use Prim.{tt}
use Prim.Native.Nat.{ℕ, zero, suc, ◌+◌, ◌*◌, ◌<◌, ◌≤◌}
use native.Mathlib.Omega.{arith}
use lib.ListN.{length, get_or}
use Rattle.words.specs.Words.{words}
use Rattle.ir.specs.declared.role.Role.{Role}
use Rattle.rules.specs.Concept.{Min}
use Rattle.rules.specs.Pool.{intern_raw, mk_min}
use Rattle.rules.specs.Deck.{parts_of}
use Rattle.rules.specs.Invariants.{Each}
use Rattle.rules.specs.JointLaws.{Joint, conj, disj, list_of}
use Rattle.pool.specs.declared.record.Record.{Record}
use Rattle.pool.specs.Layout.{tab, run, record_words, is_list, count_of, concept_from, concept_over, plain}
use Rattle.pool.specs.Held.{Asked}
use Rattle.pool.specs.Joints.{list_kind}
use Rattle.pool.specs.Tabs.{length_tab}

pub raw_over : (w : List ℕ) (x : Record) → is_list x.kind ≡ false → concept_over w 0 x ≡ concept_from x []
unfolding tab
raw_over w x a = rw a refl

pub raw_asked : (s : List ℕ) (x : Record) → is_list x.kind ≡ false → plain (concept_from x []) ≡ x → Asked s x 0
raw_asked s x a p = record {
  plain = ap plain (raw_over (words s) x a) ∙ p;
  within = let z : count_of x ≡ 0 = rw a refl in omega arith;
}

module _ (j : Joint) (w : List ℕ) (i n k : ℕ) (e : k ≡ list_kind j) where
  pub list_over : concept_over w i (record_words k 0 n 0) ≡ list_of j (run w i n)
  unfolding concept_from
  list_over = rw e (go j)
    where
      go : (j : Joint) → concept_over w i (record_words (list_kind j) 0 n 0) ≡ list_of j (run w i n)
      go conj = refl
      go disj = refl

  list_plain : plain (list_of j (run w i n)) ≡ record_words k 0 n 0
  list_plain = rw e (go j)
    where
      go : (j : Joint) → plain (list_of j (run w i n)) ≡ record_words (list_kind j) 0 n 0
      go conj = ap (λ (m : ℕ). record_words 7 0 m 0) (length_tab (λ j. get_or w j 0) i n)
      go disj = ap (λ (m : ℕ). record_words 8 0 m 0) (length_tab (λ j. get_or w j 0) i n)

  list_count : count_of (record_words k 0 n 0) ≡ n
  list_count = rw e (go j)
    where
      go : (j : Joint) → count_of (record_words (list_kind j) 0 n 0) ≡ n
      go conj = refl
      go disj = refl

pub list_asked : (j : Joint) (s : List ℕ) (i n k : ℕ) → k ≡ list_kind j → 4 * (i + n) ≤ length s → Asked s (record_words k 0 n 0) i
list_asked j s i n k e l = record {
  plain = ap plain (list_over j (words s) i n k e) ∙ list_plain j (words s) i n k e;
  within = rw (list_count j (words s) i n k e) l;
}

pub list_parts : (j : Joint) (l : List ℕ) → parts_of (list_of j l) ≡ l
list_parts conj l = refl
list_parts disj l = refl

-- Top or Bot
pub record Bare (k : ℕ) : Type 0 where
  pub flat : is_list k ≡ false
  pub plain : plain (concept_from (record_words k 0 0 0) []) ≡ record_words k 0 0 0
  pub parts : (n : ℕ) → Each (λ d. d < n) (parts_of (concept_from (record_words k 0 0 0) []))

pub bare : (k : ℕ) → 1 ≤ k → k < 3 → Bare k
unfolding concept_from
bare zero a b = absurd (omega arith)
bare (suc zero) a b = record { flat = refl; plain = refl; parts = λ n. tt }
bare (suc (suc zero)) a b = record { flat = refl; plain = refl; parts = λ n. tt }
bare (suc (suc (suc k))) a b = absurd (omega arith)

-- Min 0 is Top; no other folds
pub min_is : (n : ℕ) (r : Role) (c : ℕ) → (n ≡ 0 → ⊥) → mk_min n r c ≡ intern_raw (Min n r c)
unfolding mk_min
min_is zero r c h = absurd (h refl)
min_is (suc n) r c h = refl
