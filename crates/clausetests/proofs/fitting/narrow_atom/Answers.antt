use mathlib.Core.Path.{sym, ap, ◌∙◌}
use Prim.Native.Nat.{◌+◌, ◌*◌}
use native.Mathlib.Omega.{arith}
use Rattle.words.specs.Words.{words}
use Rattle.ir.specs.Atoms.{vars_of}
use Rattle.sets.specs.Places.{vars_at, shown_at}
use Rattle.clausetests.specs.Fitting.{is_head}
use Rattle.clausetests.proofs.FittingLaws.{changed_wide}
use Rattle.clausetests.proofs.PlaceLaws.{single_in, meant_atom, narrowed_single}
use Rattle.clausetests.proofs.fitting.narrow_atom.Goals as goal

pub place-j-requires : goal.place-j-requires
place-j-requires c =
    let A = c.args in
    let e = sym c.atom_vars.ensures ∙ ap vars_of c.in-One.is in
    let T = c.requires in
    (T.vars, T.so.are, T.so.few, single_in T.vars A.a _ T.so.among.0 e)

pub narrow_one-requires : goal.narrow_one-requires
narrow_one-requires c =
    let A = c.args in
    let e = sym c.atom_vars.ensures ∙ ap vars_of c.in-One.is in
    let T = c.requires in
    (omega (arith, (c.place-j.ensures T.vars T.so.are (single_in T.vars A.a _ T.so.among.0 e)).0, T.so.few), meant_atom A.state.now.size A.a A.v A.state.now.text.now A.state.now.store.now A.scratch.now T)

pub narrow_pair-requires : goal.narrow_pair-requires
narrow_pair-requires c =
    let A = c.args in
    (sym c.atom_vars.ensures ∙ ap vars_of c.in-Two.is, c.requires)

pub returns-in-One : goal.returns-in-One
returns-in-One c =
    let A = c.args in
    let e = sym c.atom_vars.ensures ∙ ap vars_of c.in-One.is in
    let T₀ = c.requires in
    let j = c.place-j.result in record {
      tables = (λ I roles vs one two M T.
          let q = c.place-j.ensures vs M.are (single_in vs A.a _ M.among.0 e) in
          narrowed_single I roles vs A.state.now.size A.a A.v A.state.now.text.now (words A.state.now.store.now) (words A.scratch.now) _ (is_head A.side) one two M T j q.0 c.narrow_one.ensures.changed
          (c.narrow_one.ensures.j_after I roles (one j) M.given M.names.0 (T.ones j q.0)) _ e q.1);
      changed = changed_wide (2 * (vars_at + j)) (2 * (vars_at + j) + 2) (2 * vars_at) shown_at _ _ (omega arith) (omega (arith, (c.place-j.ensures T₀.vars T₀.so.are (single_in T₀.vars A.a _ T₀.so.among.0 e)).0, T₀.so.few)) c.narrow_one.ensures.changed;
    }
