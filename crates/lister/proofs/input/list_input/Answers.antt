use mathlib.Core.Path.{subst}
use mathlib.Core.List.{List}
use Prim.Native.Nat.{ℕ}
use Rattle.rows.specs.Rows.{Put}
use Rattle.lister.specs.Cut.{read_listing}
use Rattle.lister.proofs.input.list_input.Goals as goal

pub returns : goal.returns
returns c =
    let p = c.put_listing in
    let a = c.args in
    λ input e. subst (λ (x : List ℕ). Put a.out.now 0 x p.new.out p.result) (read_listing a.space.now a.n input c.requires.most_bytes_in_bounds.0 e) p.ensures
