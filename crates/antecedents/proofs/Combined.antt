-- The numbers of combined alternatives, one law for each way through the code.
use mathlib.Core.Path.{◌≡◌, refl}
use mathlib.Core.Bool.{Bool, true, false}
use Prim.Native.Nat.{ℕ, ◌+◌, ◌*◌, ◌<◌, ◌≤◌, min, max}
use native.Mathlib.Omega.{arith}
use borrow.Author.Tests.{le-leb, lt-leb, eq-eqb, ne_eqb}
use Rattle.ir.specs.declared.counters.Counters.{Counters}
use Rattle.ir.specs.Encoded.{Found, Unsupported, Refused}
use Rattle.antecedents.specs.Counts.{crossed, listed, joined, under}

-- ---- a: the number p, or the largest
module _ (p a : ℕ) (e : a ≡ min p 4294967295) where
  capped_none : a ≡ 0 → p ≡ 0
  capped_none h = omega arith

  capped_some : (a ≡ 0 → ⊥) → p ≡ 0 → ⊥
  capped_some h d = h (omega arith)

  capped_over : (m : ℕ) → m < a → m < p
  capped_over m h = omega arith

  capped_is : a ≤ 256 → a ≡ p
  capped_is h = omega arith

  pub sized : (y : ℕ) → y ≡ min a 65 → y ≡ min p 65
  sized y h = omega arith

module _ (k : Counters) (n l m j a : ℕ) (ea : a ≡ min (n * m) 4294967295) where
  pub crossed_none : a ≡ 0 → Found k 0 0 ≡ crossed k n l m j
  crossed_none h = rw (eq-eqb (n * m) 0 (capped_none (n * m) a ea h)) refl

  module _ (c : ℕ) (ec : c ≡ min (l + j) 4294967295) (z : a ≡ 0 → ⊥) where
    pub crossed_long : 256 < c → Refused 12 ≡ crossed k n l m j
    crossed_long h = rw (ne_eqb (n * m) 0 (capped_some (n * m) a ea z), lt-leb (l + j) 256 (capped_over (l + j) c ec 256 h)) refl

    pub crossed_many : c ≤ 256 → 64 < a → Unsupported k ≡ crossed k n l m j
    crossed_many h g = rw (ne_eqb (n * m) 0 (capped_some (n * m) a ea z), le-leb (l + j) 256 (rw (← capped_is (l + j) c ec h) h), lt-leb (n * m) 64 (capped_over (n * m) a ea 64 g)) refl

    pub crossed_found : c ≤ 256 → a ≤ 64 → Found k a c ≡ crossed k n l m j
    crossed_found h g =
        let ep = capped_is (n * m) a ea (omega arith) in
        let es = capped_is (l + j) c ec h in
        rw (ne_eqb (n * m) 0 (capped_some (n * m) a ea z), ← es, ← ep, le-leb c 256 h, le-leb a 64 g) refl

module _ (k : Counters) (n l m j a : ℕ) (ea : a ≡ min (n + m) 4294967295) where
  pub listed_many : 64 < a → Unsupported k ≡ listed k n l m j
  listed_many h = rw (lt-leb (n + m) 64 (capped_over (n + m) a ea 64 h)) refl

  pub listed_found : a ≤ 64 → (x : ℕ) → x ≡ max l j → Found k a x ≡ listed k n l m j
  listed_found h x ex = let e = capped_is (n + m) a ea (omega arith) in rw (ex, ← e, le-leb a 64 h) refl

module _ (k : Counters) (n l : ℕ) where
  pub under_none : n ≡ 0 → Found k 0 0 ≡ under (Found k n l)
  under_none h = rw (eq-eqb n 0 h) refl

  module _ (z : n ≡ 0 → ⊥) where
    pub under_long : 256 ≤ l → Refused 12 ≡ under (Found k n l)
    under_long h = rw (ne_eqb n 0 z, lt-leb (l + 1) 256 (omega arith)) refl

    pub under_found : l < 256 → Found k n (l + 1) ≡ under (Found k n l)
    under_found h = rw (ne_eqb n 0 z, le-leb (l + 1) 256 (omega arith)) refl

pub joined_unsupported : (b : Bool) (n l : ℕ) (k : Counters) → Unsupported k ≡ joined b n l (Unsupported k)
joined_unsupported true n l k = refl
joined_unsupported false n l k = refl

pub joined_refused : (b : Bool) (n l e : ℕ) → Refused e ≡ joined b n l (Refused e)
joined_refused true n l e = refl
joined_refused false n l e = refl
