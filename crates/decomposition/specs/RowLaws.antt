-- The atoms of one clause at their new place. Assumes nothing.
use Rattle.std.specs.Prelude.{◌≡◌, List, ◌++◌, ℕ, ◌+◌, ◌*◌, ◌≤◌, length, take, drop}
use Rattle.std.proofs.Common.{sym, ap, ◌∙◌, arith}
use Rattle.std.proofs.lemmas.List.Edits.{sets}
use Rattle.words.specs.Runs.{sets_append, drop_sets}
use Rattle.ir.specs.declared.atom.Atom.{Atom}
use Rattle.rules.specs.Run.{flat}
use Rattle.rules.specs.DecodeLaws.{flat_long, flat_append}
use Rattle.tables.specs.Tabled.{At}
use Rattle.decomposition.specs.Placing.{moved}

pub atoms_words : (w : List ℕ) (p n : ℕ) (l : List Atom) → n ≡ length l → At w p (flat l) → take (6 * n) (drop p w) ≡ flat l
atoms_words w p n l e h = let f : 6 * n ≡ length (flat l) = omega (arith, flat_long l) in rw f h

pub run_moved : (a : List ℕ) (from to n : ℕ) (l : List Atom) → n ≡ length l → At a (6 * from) (flat l) → moved a (6 * from) (6 * to) (6 * n) ≡ sets a (6 * to) (flat l)
run_moved a from to n l e h = ap (sets a (6 * to)) (atoms_words a (6 * from) n l e h)

-- a new body, and the head behind it
pub run_new : (a body : List ℕ) (from to k nh : ℕ) (b h : List Atom) → body ≡ flat b → k ≡ length b → nh ≡ length h → to + k ≤ from → At a (6 * from) (flat h)
    → moved (sets a (6 * to) body) (6 * from) (6 * (to + k)) (6 * nh) ≡ sets a (6 * to) (flat (b ++ h))
run_new a body from to k nh b h eb ek eh l A =
    let n = flat_long b in
    let q : 6 * (to + k) ≡ 6 * to + length (flat b) = omega arith in
    let d : drop (6 * from) (sets a (6 * to) (flat b)) ≡ drop (6 * from) a = drop_sets (flat b) a (6 * to) (6 * from) (omega arith) in
    let r : take (6 * nh) (drop (6 * from) (sets a (6 * to) (flat b))) ≡ flat h = ap (take (6 * nh)) d ∙ atoms_words a (6 * from) nh h eh A in
    ap (λ (t : List ℕ). moved (sets a (6 * to) t) (6 * from) (6 * (to + k)) (6 * nh)) eb
    ∙ ap (sets (sets a (6 * to) (flat b)) (6 * (to + k))) r
    ∙ ap (λ (j : ℕ). sets (sets a (6 * to) (flat b)) j (flat h)) q ∙ sets_append (flat b) (flat h) a (6 * to)
    ∙ ap (sets a (6 * to)) (sym (flat_append b h))
