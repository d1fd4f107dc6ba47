-- The filter before the search: where its word is not set no named branch is equal. Assumes nothing.
use Rattle.std.specs.Prelude.{Bool, true, false, ◌≡◌, None, List, [], ◌∷◌, map, ℕ, ◌+◌, ◌*◌, ◌%◌, ◌≤◌, ◌<◌, eqb, length, get_or, set, drop}
use Rattle.std.proofs.Math.Path.{refl}
use Rattle.std.proofs.Common.{sym, ap, subst, ◌∙◌, arith, eqb-true, get_or-set_same, get_or-set_other}
use Rattle.std.proofs.Math.Option.{Option as RuleOption, none}
use Rattle.std.proofs.lemmas.Bool.{eqb-false}
use Rattle.std.proofs.lemmas.List.{length-map}
use Rattle.ir.specs.declared.atom.Atom.{Atom}
use Rattle.rules.specs.Invariants.{Each}
use Rattle.rules.specs.EachLaws.{each_map}
use Rattle.rules.specs.Branches.{Branch, branch_name, memo_of}
use Rattle.rules.specs.Branches as Rules
use Rattle.branches.specs.Layout.{filter_at, named_end}
use Rattle.branches.specs.Hash.{hash_by, hash_of}
use Rattle.branches.specs.Memo.{packed, Marked, NamedHeld}
use Rattle.branches.specs.Renumbered.{run}
use Rattle.branches.specs.Found.{BodyHeld, Found}
use Rattle.branches.specs.PackLaws.{other_packed}
use Rattle.branches.specs.MetLaws.{run_from, run_out}
use Rattle.branches.specs.declared.memo.Naming.{Naming}

-- ---- the hash
hash_below : (h : ℕ) (l : List ℕ) → h < 4294967291 → hash_by h l < 4294967291
unfolding hash_by
hash_below h [] k = k
hash_below h (x ∷ l) k = hash_below (1937098319 * (h + x) % 4294967291) l (omega arith)

pub hash_small : (l : List ℕ) → hash_of l < 32768
hash_small l = let k = hash_below 0 l (omega arith) in omega arith

-- of n words from r on, before word i
module _ (w : List ℕ) (r n i : ℕ) (long : r + n ≤ length w) where
  pub hash_next : (g x : ℕ) → i < n → x ≡ get_or w (r + i) 0 → hash_by (1937098319 * (g + x) % 4294967291) (drop (i + 1) (run w r n)) ≡ hash_by g (drop i (run w r n))
  unfolding hash_by
  hash_next g x h e = rw (run_from w r n i long h, e) refl

  pub hash_end : (g : ℕ) → n ≤ i → g ≡ hash_by g (drop i (run w r n))
  unfolding hash_by
  hash_end g h = rw (run_out w r n i long h) refl

-- ---- the marks
pub marks_kept : (w w' : List ℕ) (l : List Branch) → ((j : ℕ) → j < named_end → get_or w' j 0 ≡ get_or w j 0) → Each (Marked w) l → Each (Marked w') l
marks_kept w w' l f = each_map (Marked w) (Marked w') (λ b m. f (filter_at + hash_of (map packed b.body)) (omega (arith, hash_small (map packed b.body))) ∙ m) l

one_stays : (w : List ℕ) (i j : ℕ) → i < length w → get_or w j 0 ≡ 1 → get_or (set w i 1) j 0 ≡ 1
one_stays w i j h m = go (eqb j i) refl
  where
    go : (b : Bool) → eqb j i ≡ b → get_or (set w i 1) j 0 ≡ 1
    go true e = ap (λ (k : ℕ). get_or (set w i 1) k 0) (eqb-true j i e) ∙ get_or-set_same w i 1 0 h
    go false e = get_or-set_other w i j 1 0 (eqb-false j i e) ∙ m

-- the hash's word is set; what stands in the filter is as it was in w
pub marks_set : (w w2 w' : List ℕ) (i : ℕ) (l : List Branch) → w' ≡ set w2 i 1 → i < length w2 → ((j : ℕ) → filter_at ≤ j → get_or w2 j 0 ≡ get_or w j 0) → Each (Marked w) l → Each (Marked w') l
marks_set w w2 w' i l e h f =
    each_map (Marked w) (Marked w')
    (λ b m. let j : ℕ = filter_at + hash_of (map packed b.body) in ap (λ (t : List ℕ). get_or t j 0) e ∙ one_stays w2 i j h (f j (omega arith) ∙ m)) l

pub mark_here : (w2 w' : List ℕ) (b : Branch) (i : ℕ) → w' ≡ set w2 i 1 → i < length w2 → i ≡ filter_at + hash_of (map packed b.body) → Marked w' b
mark_here w2 w' b i e h q = subst (λ (j : ℕ). get_or w' j 0 ≡ 1) q (ap (λ (t : List ℕ). get_or t i 0) e ∙ get_or-set_same w2 i 1 0 h)

-- ---- no mark, no branch
unmarked : (w : List ℕ) (l : List Branch) (body : List Atom) → Each (Marked w) l → get_or w (filter_at + hash_of (map packed body)) 0 ≡ 0 → memo_of l body ≡ none
unfolding memo_of
unmarked w [] body M e = refl
unmarked w (b ∷ l) body M e =
    ap (branch_name b (memo_of l body))
    (other_packed b.body body (λ q. let z : get_or w (filter_at + hash_of (map packed body)) 0 ≡ 1 = ap (λ (t : List ℕ). get_or w (filter_at + hash_of t) 0) (sym q) ∙ M.0 in omega arith))
    ∙ unmarked w l body M.1 e

pub hash_held : (r : ℕ) (w : List ℕ) (count h : ℕ) (body : List Atom) → BodyHeld r w count body → h ≡ hash_of (run w r count) → h ≡ hash_of (map packed body)
hash_held r w count h body D e =
    let n : count ≡ length (map packed body) = omega (arith, D.long, length-map body packed) in
    e ∙ ap hash_of (ap (λ (j : ℕ). run w r j) n ∙ D.words)

pub found_unmarked : (r : ℕ) (w : List ℕ) (s : Naming) (count h x : ℕ) → h ≡ hash_of (run w r count) → x ≡ get_or w (filter_at + h) 0 → x ≡ 0 → (body : List Atom) (z : Rules.Naming) → BodyHeld r w count body → NamedHeld w s z → Found s (memo_of z.named body) None
found_unmarked r w s count h x eh ex e body z D H =
    let g : get_or w (filter_at + hash_of (map packed body)) 0 ≡ 0 = ap (λ (i : ℕ). get_or w (filter_at + i) 0) (sym (hash_held r w count h body D eh)) ∙ sym ex ∙ e in
    subst (λ (o : RuleOption ℕ). Found s o None) (sym (unmarked w z.named body H.marks g)) tt
