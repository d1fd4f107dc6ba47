use native.Mathlib.Omega.{arith}
use mathlib.Core.Path.{◌≡◌, ap, ◌∙◌}
use Prim.Native.Nat.{ℕ, ◌+◌, ◌*◌}
use lib.ListN.{get_or}
use Rattle.words.specs.Words.{words}
use Rattle.ir.specs.Counts.{interned}
use Rattle.deck.specs.declared.row.Line.{Line}
use Rattle.ontology.specs.Lines.{table_of}
use Rattle.ontology.proofs.PoolLaws.{OnStack, line_few, line_some, line_ready, line_asked, line_space, line_below, line_fresh, line_pooled}
use Rattle.ontology.proofs.concepts.load_concept.Goals as goal

pub put_row-requires : goal.put_row-requires
put_row-requires c =
    let v = table_of (words c.args.scratch.now) in
    let e = c.concept_line-line.ensures in
    let n : c.concept_line-line.result.fields ≡ get_or v (3 * c.args.i + 1) 0 = ap (λ (l : Line). l.fields) e in
    (rw e c.requires.1.line.within, omega (arith, n, line_few c.args.deck.now v c.args.i c.requires.1, c.requires.0), rw e c.requires.1.line.numbers)

pub overflow_cast-n : goal.overflow_cast-n
overflow_cast-n c =
    let v = table_of (words c.args.scratch.now) in
    let n : c.concept_line-line.result.fields ≡ get_or v (3 * c.args.i + 1) 0 = ap (λ (l : Line). l.fields) c.concept_line-line.ensures in
    omega (arith, n, line_few c.args.deck.now v c.args.i c.requires.1)

pub record_of-x-requires : goal.record_of-x-requires
record_of-x-requires c =
    let v = table_of (words c.args.scratch.now) in
    let n : c.concept_line-line.result.fields ≡ get_or v (3 * c.args.i + 1) 0 = ap (λ (l : Line). l.fields) c.concept_line-line.ensures in
    (omega (arith, n, line_some c.args.deck.now v c.args.i c.requires.1), omega (arith, c.put_row.auto.scratch, c.requires.0))

pub add-requires : goal.add-requires
add-requires c =
    let l = c.concept_line-line in
    let p = c.put_row in
    let x = c.record_of-x in
    let o : OnStack c.args.deck.now c.args.scratch.now c.args.k.now c.args.i l.result p.new.scratch =
    record { room = c.requires.0; read = c.requires.1; pooled = c.requires.2; line = l.ensures; size = p.auto.scratch; put = p.ensures } in record {
      ready = (
        line_ready c.args.deck.now c.args.scratch.now c.args.k.now c.args.i l.result p.new.scratch o,
        line_asked c.args.deck.now c.args.scratch.now c.args.k.now c.args.i l.result p.new.scratch o x.result x.ensures,
      );
      concepts_lt_most_concepts = line_space c.args.deck.now c.args.scratch.now c.args.k.now c.args.i l.result p.new.scratch o x.result x.ensures;
      each = line_below c.args.deck.now c.args.scratch.now c.args.k.now c.args.i l.result p.new.scratch o x.result x.ensures;
      concepts_value = line_fresh c.args.deck.now c.args.scratch.now c.args.k.now c.args.i l.result p.new.scratch o x.result x.ensures;
    }

pub returns : goal.returns
returns c =
    let l = c.concept_line-line in
    let p = c.put_row in
    let x = c.record_of-x in
    let a = c.add in
    let o : OnStack c.args.deck.now c.args.scratch.now c.args.k.now c.args.i l.result p.new.scratch =
    record { room = c.requires.0; read = c.requires.1; pooled = c.requires.2; line = l.ensures; size = p.auto.scratch; put = p.ensures } in
    line_pooled c.args.deck.now c.args.scratch.now c.args.k.now c.args.i l.result p.new.scratch o x.result x.ensures
    (words a.new.scratch) a.ensures c.intern.new.self (c.intern.ensures ∙ ap (λ (m : ℕ). interned m c.args.k.now) c.count.ensures)
