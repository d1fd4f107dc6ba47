use mathlib.Core.Path.{◌≡◌, ap, subst, ◌∙◌}
use mathlib.Core.List.{List, ◌∷◌}
use Prim.Native.Nat.{ℕ, suc, ◌+◌, ◌-◌, ◌<◌}
use native.Mathlib.Omega.{arith}
use lib.ListN.{length}
use Rattle.words.specs.Words.{words}
use Rattle.words.specs.Laws.{length_words}
use Rattle.ir.specs.Roles.{role_of}
use Rattle.ir.specs.declared.role.Role.{Role}
use Rattle.rules.specs.Semantics.{Interpretation}
use Rattle.states.specs.ChainLaws.{walk as walk_of}
use Rattle.sets.specs.Places.{shown_at}
use Rattle.axiomtests.specs.declared.chains.Chain.{Chain}
use Rattle.axiomtests.specs.Chains.{Chained, AllLeft, next_of, WalkIn}
use Rattle.axiomtests.proofs.AsideLaws.{aside_trans, aside_shown}
use Rattle.axiomtests.proofs.PathLaws.{chained_kept, parts_kept, left_kept, shown_left, walk_kept, Walked, walked_first, walked_in, walked_next, walked_end}
use Rattle.axiomtests.proofs.chains.walk.Goals as goal

-- the number of parts left, before the next one
same : (k : ℕ) → 0 < k → k ≡ suc (k - 1)
same k h = omega arith

next_small : (s : List ℕ) (size : ℕ) (a : Chain) (x k y r : ℕ) → WalkIn s size a x (suc k) y → ((I : Interpretation) → Chained I (words s) size a → AllLeft I (words s) a x → (r ≡ next_of I (words s) a x k y) × (r < I.size)) → r < size
next_small s size a x k y r W N = let C = W.chain.chained in omega (arith, (N W.chain.meant C W.left).1, C.sized)

pub overflow_cast-x : goal.overflow_cast-x
overflow_cast-x c = let P = c.requires in record { fits = omega (arith, P.element, P.chain.few) }

pub put_word-requires : goal.put_word-requires
put_word-requires c = let P = c.requires in omega (arith, P.chain.space)

pub loop-k-init : goal.loop-k-init
loop-k-init c =
    let u = words c.args.scratch.now in
    let long : shown_at < length u = omega (arith, length_words c.args.scratch.now, c.requires.chain.space) in
    walked_first u _ c.args.c.size c.args.c c.args.x c.requires.element long c.put_word.ensures

pub next-y-requires : goal.next-y-requires
next-y-requires c =
    let u = words c.args.scratch.now in
    let X = c.loop-k in
    let W : WalkIn X.scratch c.args.c.size c.args.c c.args.x X.k X.y =
    walked_in _ X.scratch c.args.c.size c.args.c c.args.x X.k X.y X.invariant
    (walk_kept c.args.scratch.now _ c.args.c.size c.args.c c.args.x c.args.c.parts c.args.x c.requires (aside_shown u _ 0 _ (omega arith) c.put_word.ensures) (λ j _. shown_left u _ _ c.put_word.ensures j) c.put_word.auto.s) X.auto.scratch in
    subst (λ (k : ℕ). WalkIn X.scratch c.args.c.size c.args.c c.args.x k X.y) (same X.k c.loop-k-test.true) W

pub overflow_cast-y : goal.overflow_cast-y
overflow_cast-y c =
    let u = words c.args.scratch.now in
    let X = c.loop-k in
    let W : WalkIn X.scratch c.args.c.size c.args.c c.args.x X.k X.y =
    walked_in _ X.scratch c.args.c.size c.args.c c.args.x X.k X.y X.invariant
    (walk_kept c.args.scratch.now _ c.args.c.size c.args.c c.args.x c.args.c.parts c.args.x c.requires (aside_shown u _ 0 _ (omega arith) c.put_word.ensures) (λ j _. shown_left u _ _ c.put_word.ensures j) c.put_word.auto.s) X.auto.scratch in
    record { fits = omega (arith, next_small X.scratch c.args.c.size c.args.c c.args.x (X.k - 1) X.y _ (subst (λ (k : ℕ). WalkIn X.scratch c.args.c.size c.args.c c.args.x k X.y) (same X.k c.loop-k-test.true) W) c.next-y.ensures, c.requires.chain.few) }

pub put_word-requires-in-loop-k : goal.put_word-requires-in-loop-k
put_word-requires-in-loop-k c =
    let u = words c.args.scratch.now in
    let X = c.loop-k in
    let W : WalkIn X.scratch c.args.c.size c.args.c c.args.x X.k X.y =
    walked_in _ X.scratch c.args.c.size c.args.c c.args.x X.k X.y X.invariant
    (walk_kept c.args.scratch.now _ c.args.c.size c.args.c c.args.x c.args.c.parts c.args.x c.requires (aside_shown u _ 0 _ (omega arith) c.put_word.ensures) (λ j _. shown_left u _ _ c.put_word.ensures j) c.put_word.auto.s) X.auto.scratch in
    omega (arith, c.requires.chain.short, W.chain.space)

pub loop-k-preserved : goal.loop-k-preserved
loop-k-preserved c =
    let u = words c.args.scratch.now in
    let X = c.loop-k in
    let W : WalkIn X.scratch c.args.c.size c.args.c c.args.x X.k X.y =
    walked_in _ X.scratch c.args.c.size c.args.c c.args.x X.k X.y X.invariant
    (walk_kept c.args.scratch.now _ c.args.c.size c.args.c c.args.x c.args.c.parts c.args.x c.requires (aside_shown u _ 0 _ (omega arith) c.put_word.ensures) (λ j _. shown_left u _ _ c.put_word.ensures j) c.put_word.auto.s) X.auto.scratch in
    let v = words X.scratch in
    let w = words c.put_word.new.s in
    let few = c.requires.chain.short in
    let small = next_small X.scratch c.args.c.size c.args.c c.args.x (X.k - 1) X.y _ (subst (λ (k : ℕ). WalkIn X.scratch c.args.c.size c.args.c c.args.x k X.y) (same X.k c.loop-k-test.true) W) c.next-y.ensures in
    let long : shown_at + (c.args.c.parts - (X.k - 1)) < length v = omega (arith, length_words X.scratch, W.chain.space) in
    walked_next w v _ c.args.c.size c.args.c c.args.x (X.k - 1) X.y _ c.requires.chain.among (omega arith) (subst (λ (k : ℕ). Walked w v c.args.c.size c.args.c c.args.x k X.y) (same X.k c.loop-k-test.true) X.invariant) c.next-y.ensures small long c.put_word-in-loop-k.ensures
    (aside_shown v _ (c.args.c.parts - (X.k - 1)) _ (omega arith) c.put_word-in-loop-k.ensures)

pub returns : goal.returns
returns c =
    let X = c.loop-k in
    let u = words c.args.scratch.now in
    let a = c.args.c in
    let W = c.requires.chain.among in
    let K = X.invariant in
    let A = aside_shown u _ 0 _ (omega arith) c.put_word.ensures in record {
      aside = aside_trans u _ (words X.scratch) A K.aside;
      parts_after = λ I C L.
          walked_end _ (words X.scratch) c.args.c.size a c.args.x X.k X.y K (omega (arith, c.loop-k-test.false)) I (chained_kept u _ a A W I c.args.c.size C) (left_kept u _ a c.args.x A W (λ j _. shown_left u _ _ c.put_word.ensures j) I L)
          ∙ ap (λ (l : List Role). c.args.x ∷ walk_of I (role_of a.sup) c.args.x l c.args.x) (parts_kept u _ a A W);
    }
