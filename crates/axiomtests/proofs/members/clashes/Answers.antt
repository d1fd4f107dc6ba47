use Rattle.std.proofs.Common.{◌≡◌, ℕ, Bool, [], ◌+◌, ◌-◌, sym, ◌∙◌, arith}
use Rattle.words.specs.Words.{words}
use Rattle.rules.specs.Axioms.{later_pairs}
use Rattle.states.specs.Masks.{mask_of}
use Rattle.states.specs.MaskLaws.{mask_empty}
use Rattle.axiomtests.specs.Lists.{clashes_at}
use Rattle.axiomtests.proofs.ListLaws.{found_none, found_all, found_at, pairs_next}
use Rattle.axiomtests.proofs.members.clashes.Goals as goal

none : (n : ℕ) (f : ℕ → ℕ → Bool) (always : Bool) → mask_of n (clashes_at always f []) ≡ 0
unfolding later_pairs
none n f always = mask_empty n

pub loop-j-init : goal.loop-j-init
loop-j-init g c = λ t H n f M. sym (found_none (clashes_at t) f n (words c.args.scratch.now) c.args.l ∙ none n f t)

pub loop-j-preserved : goal.loop-j-preserved
loop-j-preserved g c =
    let L = c.loop-j in
    let v = words c.args.scratch.now in
    let l = c.args.l in
    let q : L.j ≡ L.j - 1 + 1 = omega arith in
    λ t H n f M.
    pairs_next f n v l M (L.j - 1) (omega arith) t c.clash_behind.result L.found c.either-found.result c.either-found.ensures (c.clash_behind.ensures t H n f M) (found_at (clashes_at t) f n v l L.found L.j (L.j - 1 + 1) (L.invariant t H n f M) q)

pub returns : goal.returns
returns g c =
    let L = c.loop-j in
    let v = words c.args.scratch.now in
    let l = c.args.l in
    let e : L.j ≡ 0 = omega arith in
    λ t H n f M. found_at (clashes_at t) f n v l L.found L.j 0 (L.invariant t H n f M) e ∙ found_all (clashes_at t) f n v l
