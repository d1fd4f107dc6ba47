use native.Mathlib.Omega.{arith}
use mathlib.Core.Path.{◌≡◌, refl}
use lib.ListN.{length}
use Rattle.words.specs.Words.{words}
use Rattle.words.specs.Laws.{length_words}
use Rattle.deck.specs.Records.{known_in}
use Rattle.ontology.specs.Lines.{table_in}
use Rattle.ontology.specs.Loads.{loaded}
use Rattle.ontology.proofs.ReadLaws.{declared, keys_few}
use Rattle.ontology.proofs.LoadLaws.{load_read, load_none, load_axiom_read, load_axioms_fit, load_holds}
use Rattle.ontology.proofs.load.load_lines.Goals as goal

pub begin-k-requires : goal.begin-k-requires
begin-k-requires c = declared c.args.deck.now (table_in c.args.scratch.now) c.args.st c.requires.1

pub load_concepts-requires : goal.load_concepts-requires
load_concepts-requires c =
    let w = c.clear_words in
    (omega (arith, c.requires.0, w.auto.s), load_read c.args.deck.now c.args.scratch.now c.args.st c.args.limit c.requires.0 c.requires.1 w.new.s w.ensures, load_none c.args.deck.now c.args.scratch.now c.args.st c.args.limit c.requires.0 c.requires.1 w.new.s w.ensures c.begin-k.result c.begin-k.ensures)

pub load_keys-requires : goal.load_keys-requires
load_keys-requires c =
    (omega (arith, c.requires.0, c.clear_words.auto.s, c.load_concepts.auto.scratch), c.requires.1.held.keys, keys_few c.args.deck.now (table_in c.args.scratch.now) c.args.st c.requires.1)

pub load_axioms-requires : goal.load_axioms-requires
load_axioms-requires c =
    let w = c.clear_words in
    let p = c.load_concepts in
    let q = c.load_keys in (
      omega (arith, c.requires.0, w.auto.s, p.auto.scratch, q.auto.scratch),
      load_axiom_read c.args.deck.now c.args.scratch.now c.args.st c.args.limit c.requires.0 c.requires.1 w.new.s w.ensures (words p.new.scratch) c.begin-k.result p.new.k c.begin-k.ensures p.ensures (words q.new.scratch) q.ensures.kept q.ensures.kept_2,
      load_axioms_fit c.args.deck.now c.args.scratch.now c.args.st c.args.limit c.requires.0 c.requires.1 w.new.s w.ensures (words p.new.scratch) c.begin-k.result p.new.k c.begin-k.ensures p.ensures (words q.new.scratch) q.ensures.kept q.ensures.kept_2,
    )

pub returns : goal.returns
returns c =
    let k = c.begin-k in
    let w = c.clear_words in
    let p = c.load_concepts in
    let q = c.load_keys in
    let a = c.load_axioms in
    let size : length (words a.new.scratch) ≡ length (words p.new.scratch) = rw (length_words a.new.scratch, length_words p.new.scratch, a.auto.scratch, q.auto.scratch) refl in
    loaded (known_in c.args.deck.now (table_in c.args.scratch.now) c.args.st) p.new.k c.args.st.axioms c.requires.1.read
    (load_holds c.args.deck.now c.args.scratch.now c.args.st c.args.limit c.requires.0 c.requires.1 w.new.s w.ensures (words p.new.scratch) k.result p.new.k k.ensures p.ensures (words q.new.scratch) q.ensures.kept q.ensures.kept_2 (words a.new.scratch) q.ensures.keys_held a.ensures.axioms_held a.ensures.axioms_after a.ensures.kept size)
