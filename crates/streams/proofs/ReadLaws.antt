-- Two reads, one behind the other.
use Rattle.std.proofs.Common.{◌≡◌, ℕ, ◌+◌, List, ◌++◌, IfOk, length, take, drop, Result, Ok, Err, sym, ap, subst, ◌∙◌, drop_at}
use lib.Seq.{take-add, take-append-le}
use Rattle.std.specs.declared.option.Option.{Option}
use Rattle.std.specs.Io.{ReadsAtMost}
use Rattle.std.specs.Io.KnownBytes.{Consumes}
use Rattle.std.proofs.KnownBytes.{Consumes-trans}

-- what was read into a part stands behind the front
pub read_in_place : {E : Type 0} (a b : Option (List ℕ)) (r : Result ℕ E) (front part rest : List ℕ) (at : ℕ) → length front ≡ at → ReadsAtMost r part
    → IfOk r (λ n. Consumes a b (take n part)) → IfOk r (λ n. Consumes a b (take n (drop at (front ++ (part ++ rest)))))
read_in_place a b (Ok n) front part rest at long fits read =
    subst (Consumes a b) (sym (ap (take n) (drop_at front (part ++ rest) at long) ∙ take-append-le n part rest fits.0)) read
read_in_place a b (Err e) front part rest at long fits read = tt

-- what the first read gave stayed, and the second gave n bytes more
pub read_more : (a b c : Option (List ℕ)) (xs ys : List ℕ) (at n : ℕ) → take at ys ≡ take at xs → Consumes a b (take at xs)
    → Consumes b c (take n (drop at ys)) → Consumes a c (take (at + n) ys)
read_more a b c xs ys at n front first second =
    subst (Consumes a c) (sym (take-add at n ys)) (Consumes-trans a b c _ _ (subst (Consumes a b) (sym front) first) second)
