use native.Mathlib.Omega.{arith}
use mathlib.Core.Path.{◌≡◌, ap}
use Prim.Native.Nat.{◌+◌}
use Rattle.words.specs.Words.{words}
use Rattle.deck.specs.Records as reader
use Rattle.deck.specs.declared.row.Line.{Line}
use Rattle.ontology.specs.Lines.{table_of}
use Rattle.ontology.proofs.AxiomLaws.{axiom_stores}
use Rattle.ontology.proofs.axiom_lines.load_axiom.Goals as goal

pub overflow_cast-n : goal.overflow_cast-n
overflow_cast-n c =
    let v = table_of (words c.args.scratch.now) in
    let n : c.axiom_line-line.result.fields ≡ reader.axiom_fields v c.args.i = ap (λ (l : Line). l.fields) c.axiom_line-line.ensures in
    omega (arith, n, c.requires.2)

pub put_row-requires : goal.put_row-requires
put_row-requires c =
    let v = table_of (words c.args.scratch.now) in
    let n : c.axiom_line-line.result.fields ≡ reader.axiom_fields v c.args.i = ap (λ (l : Line). l.fields) c.axiom_line-line.ensures in
    let e = c.axiom_line-line.ensures in
    (rw e c.requires.1.line.within, omega (arith, n, c.requires.2, c.put_word-2.auto.s, c.put_word.auto.s, c.requires.0), rw e c.requires.1.line.numbers)

pub overflow_add-result : goal.overflow_add-result
overflow_add-result c =
    let v = table_of (words c.args.scratch.now) in
    let n : c.axiom_line-line.result.fields ≡ reader.axiom_fields v c.args.i = ap (λ (l : Line). l.fields) c.axiom_line-line.ensures in
    omega (arith, n, c.requires.2)

pub returns : goal.returns
returns c =
    let v = table_of (words c.args.scratch.now) in
    let l = c.axiom_line-line in
    let x = c.put_word in
    let y = c.put_word-2 in
    let z = c.put_row in record {
      value = ap (λ (u : Line). c.args.at + u.fields) l.ensures;
      scratch_after = axiom_stores c.args.deck.now v c.args.i c.args.at l.result l.ensures (words c.args.scratch.now) (words x.new.s) (words y.new.s) (words z.new.scratch) x.ensures y.ensures z.ensures;
    }
