use mathlib.Core.Path.{◌∙◌}
use Rattle.words.specs.Words.{words}
use Rattle.layouts.proofs.Links.{link_pair}
use Rattle.layouts.proofs.enter.link_pair.Goals as goal

pub returns : goal.returns
returns c =
    let v = words c.args.scratch.now in
    let v₁ = words c.link.new.scratch in
    let v₂ = words c.link-2.new.scratch in record {
      by_index = λ n roles f few ha hb R. link_pair n roles v v₁ v₂ f c.args.role c.args.a c.args.b few ha hb c.link.ensures c.link-2.ensures R;
      kept_to = λ i h. c.link-2.ensures.kept i h ∙ c.link.ensures.kept i h;
    }
