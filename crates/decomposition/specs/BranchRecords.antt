-- The named branches as clauses from clause c on, put one after the other, with their atoms from atom `to` on. Assumes nothing.
use Rattle.std.specs.Prelude.{◌≡◌, refl, ℕ, suc, ◌+◌, ◌*◌, ◌<◌, ◌≤◌, length, get_or, drop}
use Rattle.std.proofs.Math.Path.{sym, ap}
use Rattle.std.proofs.Common.{subst, ◌∙◌, arith, length-append, drop_of_length-le}
use mathlib.Core.List.{List, [], ◌∷◌, ◌++◌, map}
use Rattle.std.proofs.lemmas.List.{length-map}
use Rattle.std.proofs.lemmas.List.Edits.{sets}
use Rattle.ir.specs.declared.atom.Atom.{Atom}
use Rattle.ir.specs.declared.atom.Atom.TheVariants.{Class}
use Rattle.rules.specs.Run.{flat, clause_records, atom_records}
use Rattle.rules.specs.DecodeLaws.{flat_long}
use Rattle.rules.specs.Invariants.{Each}
use Rattle.rules.specs.Branches.{Branch, branch_clause}
use Rattle.rules.specs.Branches as Rules
use Rattle.tables.specs.Tabled.{clause_put}
use Rattle.tables.specs.TabledLaws.{At, at_long}
use Rattle.tables.specs.ClauseLaws.{records_put}
use Rattle.branches.specs.Layout.{most_named}
use Rattle.branches.specs.Memo.{packed, Packable, named_words, NamedHeld, NamedThere}
use Rattle.branches.specs.Found.{Searching}
use Rattle.branches.specs.FoundLaws.{BranchAt, branch_at}
use Rattle.branches.specs.declared.memo.Naming.{Naming}
use Rattle.decomposition.specs.Placing.{branches_at, branch_atoms_at}
use Rattle.words.specs.Runs.{sets_append}

-- the clauses' words k and the atoms' t, and k₀ and t₀ before the first: branch i is next, from word p and atom a on, and the rest gives what all give
pub record BranchesLeft (w : List ℕ) (s : Naming) (c to : ℕ) (k₀ t₀ k t : List ℕ) (p a i : ℕ) : Type 0 where
  pub here : i ≤ s.named
  pub sum : a ≡ to + p
  pub words : (z : Rules.Naming) → NamedHeld w s z → At w p (named_words (drop i z.named))
  pub room : (z : Rules.Naming) → NamedHeld w s z → p + length (named_words (drop i z.named)) ≡ s.used
  pub clauses : (z : Rules.Naming) → NamedHeld w s z → branches_at c to z.named k₀ ≡ branches_at (c + i) a (drop i z.named) k
  pub atoms : (z : Rules.Naming) → NamedHeld w s z → branch_atoms_at to z.named t₀ ≡ branch_atoms_at a (drop i z.named) t

-- a branch, and then the others
row_put_lem : (b : Branch) (m : List Branch) (k : List ℕ) (i a n : ℕ) → n ≡ length b.body → branches_at i a (b ∷ m) k ≡ branches_at (i + 1) (a + (n + 1)) m (clause_put k i a n 1)
row_put_lem b m k i a n e =
    let h : List Atom = Class b.name 0 ∷ [] in
    let g : a + length (b.body ++ h) ≡ a + (n + 1) = omega (arith, e, length-append b.body h) in
    records_put k i a (branch_clause b) (map branch_clause m) ∙ rw (g, e) refl

run_put : (b : Branch) (m : List Branch) (t : List ℕ) (a n : ℕ) → n ≡ length b.body → branch_atoms_at a (b ∷ m) t ≡ branch_atoms_at (a + (n + 1)) m (sets t (6 * a) (flat (b.body ++ (Class b.name 0 ∷ []))))
unfolding atom_records
run_put b m t a n e =
    let h : List Atom = Class b.name 0 ∷ [] in
    let r : List ℕ = flat (b.body ++ h) in
    let g : 6 * a + length r ≡ 6 * (a + (n + 1)) = omega (arith, e, flat_long (b.body ++ h), length-append b.body h) in
    sym (sets_append r (atom_records (map branch_clause m)) t (6 * a)) ∙ ap (λ (i : ℕ). sets (sets t (6 * a) r) i (atom_records (map branch_clause m))) g

module _ (w : List ℕ) (s : Naming) (c to : ℕ) (k₀ t₀ k t : List ℕ) (p a i : ℕ) (B : BranchesLeft w s c to k₀ t₀ k t p a i) where
  -- as the search for a body that is longer than the words
  search_for : Searching 0 w s (suc (length w)) p i
  search_for = record {
    here = B.here;
    words = B.words;
    room = B.room;
    left = λ body z D H. absurd (omega (arith, D.long, length-map body packed, at_long w 0 (map packed body) D.words));
  }

  branch_here : (z : Rules.Naming) → NamedHeld w s z → i < s.named → BranchAt w s z p i
  branch_here = branch_at 0 w s (suc (length w)) p i search_for

  -- room for the branch, whose n atoms are packed
  module _ (T : NamedThere w s) (h : i < s.named) (n : ℕ) (en : n ≡ get_or w p 0) where
    here : BranchAt w s T.state p i
    here = branch_here T.state T.held h

    pub branch_room : (p + (n + 1) ≤ s.used) × (s.used ≤ most_named) × (a + (n + 1) ≤ to + s.used)
    branch_room = (omega (arith, en, here.size, here.room), T.held.few, omega (arith, en, here.size, here.room, B.sum))

    pub branch_there : (l : List Atom) × Each Packable l × (n ≡ length l) × At w (p + 1) (map packed l)
    branch_there = (here.branch.body, here.packable, en ∙ here.size, here.words)

  pub branches_next : i < s.named → (n : ℕ) → n ≡ get_or w p 0 → (k' t' : List ℕ) → k' ≡ clause_put k (c + i) a n 1
      → ((l : List Atom) → Each Packable l → n ≡ length l → At w (p + 1) (map packed l) → t' ≡ sets t (6 * a) (flat (l ++ (Class (s.first + i) 0 ∷ []))))
      → BranchesLeft w s c to k₀ t₀ k' t' (p + (n + 1)) (a + (n + 1)) (i + 1)
  branches_next h n en k' t' row put = record {
    here = omega arith;
    sum = omega (arith, B.sum);
    words = λ z H. let b = branch_here z H h in let e : p + (1 + length b.branch.body) ≡ p + (n + 1) = omega (arith, en, b.size) in subst (λ (j : ℕ). At w j (named_words (drop (i + 1) z.named))) e b.rest;
    room = λ z H. let b = branch_here z H h in omega (arith, en, b.room, b.size);
    clauses = λ z H.
        let b = branch_here z H h in
        let m = drop (i + 1) z.named in
        let e : c + i + 1 ≡ c + (i + 1) = omega arith in
        B.clauses z H ∙ ap (λ (l : List Branch). branches_at (c + i) a l k) b.split ∙ row_put_lem b.branch m k (c + i) a n (en ∙ b.size)
        ∙ ap (λ (j : ℕ). branches_at j (a + (n + 1)) m (clause_put k (c + i) a n 1)) e ∙ ap (branches_at (c + (i + 1)) (a + (n + 1)) m) (sym row);
    atoms = λ z H.
        let b = branch_here z H h in
        let m = drop (i + 1) z.named in
        let q : t' ≡ sets t (6 * a) (flat (b.branch.body ++ (Class b.branch.name 0 ∷ []))) =
        put b.branch.body b.packable (en ∙ b.size) b.words ∙ ap (λ (x : ℕ). sets t (6 * a) (flat (b.branch.body ++ (Class x 0 ∷ [])))) (sym b.name) in
        B.atoms z H ∙ ap (λ (l : List Branch). branch_atoms_at a l t) b.split ∙ run_put b.branch m t a n (en ∙ b.size) ∙ ap (branch_atoms_at (a + (n + 1)) m) (sym q);
  }

  nothing_left : s.named ≤ i → (z : Rules.Naming) → NamedHeld w s z → drop i z.named ≡ []
  nothing_left h z H = drop_of_length-le z.named {i = i} (omega (arith, H.many))

  pub clauses_are : s.named ≤ i → (z : Rules.Naming) → NamedHeld w s z → k ≡ branches_at c to z.named k₀
  unfolding clause_records
  clauses_are h z H = sym (B.clauses z H ∙ ap (λ (l : List Branch). branches_at (c + i) a l k) (nothing_left h z H))

  pub atoms_are : s.named ≤ i → (z : Rules.Naming) → NamedHeld w s z → t ≡ branch_atoms_at to z.named t₀
  unfolding atom_records
  atoms_are h z H = sym (B.atoms z H ∙ ap (λ (l : List Branch). branch_atoms_at a l t) (nothing_left h z H))
