use mathlib.Core.Path.{sym, ◌∙◌}
use Rattle.deck.specs.Records.{key_in}
use Rattle.deck.specs.TabLaws.{get_d_tab}
use Rattle.deck.proofs.key.Goals as goal

pub returns : goal.returns
returns c = c.field.ensures ∙ sym (get_d_tab (key_in c.args.deck.now c.args.st.marks) 0 c.args.st.keys c.args.i c.requires.1)
