use Rattle.std.proofs.Common.{◌≡◌, ℕ, Bool, List, ◌+◌, ◌-◌, ◌<◌, ap, sym, ◌∙◌, arith}
use Rattle.words.specs.Words.{words}
use Rattle.states.specs.Masks.{mask_of}
use Rattle.states.specs.MaskLaws.{mask_empty}
use Rattle.axiomtests.specs.declared.members.Sets.{Sets}
use Rattle.axiomtests.specs.Lists.{number_of, member_set, Members}
use Rattle.axiomtests.proofs.ListLaws.{clash_by, found_from, found_none, found_at, clash_next}
use Rattle.axiomtests.proofs.members.clash_behind.Goals as goal

-- the set of number j, by its number a
member_of : (n : ℕ) (f : ℕ → ℕ → Bool) (v : List ℕ) (l : Sets) → Members n f v l → (j : ℕ) → j < l.count → (a m : ℕ) → m ≡ member_set v l j → a ≡ number_of v l j → m ≡ mask_of n (f a)
member_of n f v l M j h a m e q = e ∙ M j h ∙ ap (λ (b : ℕ). mask_of n (f b)) (sym q)

pub loop-k-init : goal.loop-k-init
loop-k-init g c = (omega (arith, c.requires.there.1), λ t H n f M. sym (found_none (clash_by t c.get_word-a.result) f n (words c.args.scratch.now) c.args.l ∙ mask_empty n))

pub loop-k-preserved : goal.loop-k-preserved
loop-k-preserved g c =
    let L = c.loop-k in
    let v = words c.args.scratch.now in
    let l = c.args.l in
    let a = c.get_word-a.result in
    let q : L.k ≡ L.k - 1 + 1 = omega arith in (
      omega arith,
      λ t H n f M.
          let m = member_of n f v l M c.args.j c.requires.there.1 a c.member-m.result c.member-m.ensures c.get_word-a.ensures in
          clash_next f n v l M (L.k - 1) (omega arith) t c.clash.result L.found c.either-found.result c.either-found.ensures a (c.clash.ensures t H n f M m) (found_at (clash_by t a) f n v l L.found L.k (L.k - 1 + 1) (L.invariant.1 t H n f M) q),
    )

pub returns : goal.returns
returns g c =
    let L = c.loop-k in
    let v = words c.args.scratch.now in
    let l = c.args.l in
    let e : L.k ≡ c.args.j + 1 = omega (arith, L.invariant.0) in
    λ t H n f M. found_at (clash_by t c.get_word-a.result) f n v l L.found L.k (c.args.j + 1) (L.invariant.1 t H n f M) e ∙ ap (λ (b : ℕ). found_from (clash_by t b) f n v l (c.args.j + 1)) c.get_word-a.ensures
