use Rattle.std.proofs.Common.{arith}
use Rattle.deck.specs.Records.{key_in}
use Rattle.deck.specs.TabLaws.{length_tab}
use Rattle.deck.proofs.ConceptLaws.{counted_known}
use Rattle.session.proofs.form.axiom_line.Goals as goal

pub returns : goal.returns
returns c = λ s t. omega (arith, (counted_known s t c.args.st).concepts, length_tab (key_in s c.args.st.marks) c.args.st.keys)
