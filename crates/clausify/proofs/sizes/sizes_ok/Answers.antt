use mathlib.Core.Path.{◌≡◌, refl, ◌∙◌}
use mathlib.Core.Bool.{◌&&◌}
use lib.Dec.{leb}
use Rattle.rules.specs.Run.{table_ok, clause_words, atom_words, deferral_words, most_clauses, most_atoms, most_deferrals, scratch_bytes}
use Rattle.clausify.specs.TableLaws.{and_then, and_stop}
use Rattle.clausify.proofs.sizes.sizes_ok.Goals as goal
use Rattle.clausify.proofs.sizes.sizes_ok.Goals.{then-table_ok, else-table_ok, then-table_ok-2, else-table_ok-2}

pub returns-then-table_ok-3 : goal.returns-then-table_ok-3
returns-then-table_ok-3 c =
    let a = c.args in
    let x = table_ok clause_words most_clauses a.clauses in
    let y = table_ok atom_words most_atoms a.atoms in
    let z = table_ok deferral_words most_deferrals a.deferrals in
    let f = c.table_ok in
    let two : c.if-table_ok.value ≡ (x && y)
    = elim c.if-table_ok.branch [
      | then-table_ok w ↦ and_then _ _ x y w.if-table_ok.true f.ensures (w.value-is ∙ w.table_ok-then-table_ok.ensures)
      | else-table_ok w ↦ and_stop _ _ x y w.if-table_ok.false f.ensures w.value-is
    ] in
    let three : c.if-table_ok-2.value ≡ (x && y && z)
    = elim c.if-table_ok-2.branch [
      | then-table_ok-2 w ↦ and_then _ _ (x && y) z w.if-table_ok-2.true two (w.value-is ∙ w.table_ok-then-table_ok-2.ensures)
      | else-table_ok-2 w ↦ and_stop _ _ (x && y) z w.if-table_ok-2.false two w.value-is
    ] in
    and_then _ _ (x && y && z) (leb scratch_bytes a.scratch) c.if-table_ok-3.true three refl

pub returns-else-table_ok-3 : goal.returns-else-table_ok-3
returns-else-table_ok-3 c =
    let a = c.args in
    let x = table_ok clause_words most_clauses a.clauses in
    let y = table_ok atom_words most_atoms a.atoms in
    let z = table_ok deferral_words most_deferrals a.deferrals in
    let f = c.table_ok in
    let two : c.if-table_ok.value ≡ (x && y)
    = elim c.if-table_ok.branch [
      | then-table_ok w ↦ and_then _ _ x y w.if-table_ok.true f.ensures (w.value-is ∙ w.table_ok-then-table_ok.ensures)
      | else-table_ok w ↦ and_stop _ _ x y w.if-table_ok.false f.ensures w.value-is
    ] in
    let three : c.if-table_ok-2.value ≡ (x && y && z)
    = elim c.if-table_ok-2.branch [
      | then-table_ok-2 w ↦ and_then _ _ (x && y) z w.if-table_ok-2.true two (w.value-is ∙ w.table_ok-then-table_ok-2.ensures)
      | else-table_ok-2 w ↦ and_stop _ _ (x && y) z w.if-table_ok-2.false two w.value-is
    ] in
    and_stop _ _ (x && y && z) (leb scratch_bytes a.scratch) c.if-table_ok-3.false three refl
