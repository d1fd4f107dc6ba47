use Rattle.std.proofs.Common.{◌≡◌, List, ℕ, ◌≤◌, ◌+◌, length, ap, ◌∙◌, arith}
use Rattle.std.proofs.lemmas.List.Edits.{sets}
use Rattle.words.proofs.Parts.{back_part}
use Rattle.session.specs.Session.{stored, deck_in}
use Rattle.session.specs.OptionedLaws.{stored_room, stored_part}
use Rattle.session.proofs.header.put_header.Goals as goal

room : (s h : List ℕ) → s ≡ stored (deck_in s) → length h ≤ length (deck_in s) → 4 + length h ≤ length s
room s h e l = let r = stored_room (deck_in s) in omega (arith, ap length e)

pub slice_bounds-copy-end : goal.slice_bounds-copy-end
slice_bounds-copy-end c = room c.args.session.now c.args.header.now c.requires.0 c.requires.1

pub returns : goal.returns
returns c =
    let s = c.args.session.now in
    let h = c.args.header.now in
    let r = room s h c.requires.0 c.requires.1 in
    rw c.copy.ensures
    (back_part 4 (4 + length h) s h (omega arith) r (omega arith) ∙ ap (λ (t : List ℕ). sets t 4 h) c.requires.0 ∙ stored_part h (deck_in s) c.requires.1)
