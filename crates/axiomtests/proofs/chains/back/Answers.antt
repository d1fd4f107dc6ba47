use Rattle.std.proofs.Common.{◌≡◌, ℕ, Bool, not, ◌&&◌, List, ◌<◌, eqb, ap, ◌∙◌, arith, rules}
use Rattle.words.specs.Words.{words}
use Rattle.ir.specs.Roles.{role_of}
use Rattle.rules.specs.Base.{all}
use Rattle.rules.specs.Semantics.{Interpretation, related}
use Rattle.states.specs.Conditions.{rises}
use Rattle.states.specs.Masks.{mask_of, mask_none}
use Rattle.sets.specs.Laid.{row_of}
use Rattle.axiomtests.specs.Chains.{RowsOf}
use Rattle.axiomtests.proofs.ListLaws.{Both}
use Rattle.axiomtests.proofs.chains.back.Goals as goal

-- m is what y is related to in the set
met : (I : Interpretation) (v : List ℕ) (code set : ℕ) (f : ℕ → Bool) → RowsOf I v code → set ≡ mask_of I.size f → (y : ℕ) → y < I.size
    → (b : Bool) (m r : ℕ) → b ≡ not (eqb m 0) → r ≡ row_of v code y → Both r set m → b ≡ not (all (λ w. not (related I (role_of code) y w && f w)) (rises 0 I.size))
met I v code set f R e y h b m r q d E =
    q ∙ ap (λ (k : ℕ). not (eqb k 0)) (E I.size (related I (role_of code) y) f (d ∙ R y h) e) ∙ ap not (mask_none I.size (λ w. related I (role_of code) y w && f w))

pub returns : goal.returns
returns c = λ I f e R s.
    let breaks : ℕ → Bool = λ y. not (all (λ w. not (related I (role_of c.args.code) y w && f w)) (rises 0 I.size)) in
    c.filtered.ensures breaks (λ y b h p. let l : y < I.size = omega arith in search (rules, met I (words c.args.scratch.now) c.args.code c.args.set f R s y l)) ∙ ap (λ (n : ℕ). mask_of n breaks) e
