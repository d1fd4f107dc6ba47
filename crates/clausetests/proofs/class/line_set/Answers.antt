use mathlib.Core.Path.{refl, ap, ◌∙◌, ◌≡◌}
use Prim.Native.Nat.{ℕ, ◌+◌}
use mathlib.Core.List.{List, ◌++◌, ◌∷◌, []}
use native.Mathlib.Omega.{arith}
use lib.ListN.{get_or, take, drop}
use borrow.Author.Tests.{tests}
use Rattle.std.proofs.Common.{rules}
use Rattle.text.specs.RowLaws.{length_row}
use Rattle.text.specs.Rows.{row_at}
use Rattle.sets.specs.FoldLaws.{fold_from}
use Rattle.clausetests.specs.ScanCode.{set_of, numbers_none, numbers_more, numbers_all}
use Rattle.clausetests.proofs.class.line_set.Goals as goal

pub returns : goal.returns
returns c =
    let a = c.args in
    let r = row_at a.state.now.text.now a.p a.n in
    let long = length_row a.state.now.text.now a.p a.n in
    let K = fold_from _ _ (λ k m. m ≡ set_of a.state.now.size (drop 2 (take k r))) 2 a.n
    (λ k m b f' lo hi e q. (
      (let given : (x : ℕ) → x ≡ get_or r k 0 → ((l : List ℕ) → m ≡ set_of a.state.now.size l → b ≡ set_of a.state.now.size (l ++ (x ∷ []))) → b ≡ set_of a.state.now.size (drop 2 (take (k + 1) r)) =
          λ x d g. g (drop 2 (take k r)) e ∙ ap (set_of a.state.now.size) (numbers_more a.state.now.size r k x lo (omega (arith, hi, long)) d) in
          search (rules, tests, given)),
      search (rules, tests),
    ))
    _ _ c.fold.result refl (numbers_none a.state.now.size r) c.fold.ensures.ran in
    numbers_all a.state.now.size r K.0 c.fold.result (omega (arith, K.1, long)) K.3
