-- One branch more. Assumes nothing.
use Rattle.std.specs.Prelude.{Bool, true, false, ◌≡◌, refl, List, [], ◌∷◌, ◌++◌, map, ℕ, ◌+◌, ◌≤◌, ◌<◌, length, get_or, take, drop, set, ltb}
use Rattle.std.proofs.Common.{sym, subst, ◌∙◌, append-nil, append_assoc, arith, add-one, ltb-true, ltb-false, length-set, length-append, take_at, drop-set-lt, get_or-set_other}
use Rattle.std.proofs.Math.Path.{ap}
use Rattle.std.proofs.Math.Option.{none}
use Rattle.std.proofs.lemmas.List.{length-map, take-set-le}
use Rattle.std.proofs.Math.ListN.{get_or-append}
use Rattle.std.proofs.lemmas.List.Edits.{sets, sets-eq}
use Rattle.std.proofs.Math.Seq.{length-sets, get_or-append_seam}
use Rattle.words.specs.Runs.{get_d_sets_after}
use Rattle.ir.specs.declared.atom.Atom.{Atom}
use Rattle.rules.specs.Base.{ok}
use Rattle.rules.specs.Invariants.{Each}
use Rattle.rules.specs.EachLaws.{each_snoc}
use Rattle.rules.specs.Branches.{Branch, memo_of, name_of, name_or_new}
use Rattle.rules.specs.Branches as Rules
use Rattle.branches.specs.Layout.{most_named, filter_at, named_end}
use Rattle.tables.specs.TabledLaws.{At}
use Rattle.branches.specs.Memo.{packed, Packable, named_words, no_branch, Marked, NamedHeld, Named}
use Rattle.branches.specs.Renumbered.{run}
use Rattle.branches.specs.Found.{BodyHeld}
use Rattle.branches.specs.MetLaws.{run_long}
use Rattle.branches.specs.Hash.{hash_of}
use Rattle.branches.specs.FilterLaws.{marks_set, mark_here, hash_held}
use Rattle.branches.specs.declared.memo.Naming.{Naming}

named_snoc : (l : List Branch) (b : Branch) → named_words (l ++ (b ∷ [])) ≡ named_words l ++ (length b.body ∷ map packed b.body)
unfolding named_words
named_snoc [] b = ap (λ (t : List ℕ). length b.body ∷ t) (append-nil (map packed b.body))
named_snoc (a ∷ l) b =
    ap (λ (t : List ℕ). length a.body ∷ (map packed a.body ++ t)) (named_snoc l b)
    ∙ ap (λ (t : List ℕ). length a.body ∷ t) (sym (append_assoc (map packed a.body) (named_words l) (length b.body ∷ map packed b.body)))

-- ---- the words of the new branch
-- a word, and behind it words from r on
module _ (w w1 w2 : List ℕ) (at r count : ℕ) (e1 : w1 ≡ set w at count) (e2 : w2 ≡ sets w1 (at + 1) (run w1 r count)) (low : at < r) where
  one_run : w2 ≡ sets w at (count ∷ run w r count)
  one_run =
      let d : run w1 r count ≡ run w r count = ap (λ (l : List ℕ). run l r count) e1 ∙ ap (take count) (drop-set-lt r w at count low) in
      e2 ∙ ap (λ (l : List ℕ). sets w1 (at + 1) l) d ∙ ap (λ (l : List ℕ). sets l (at + 1) (run w r count)) e1 ∙ ap (λ (j : ℕ). sets (set w at count) j (run w r count)) (add-one at)

  stands : (xs ms : List ℕ) → At w 0 xs → at ≡ length xs → run w r count ≡ ms → at + (1 + length ms) ≤ length w → At w2 0 (xs ++ (count ∷ ms))
  stands xs ms a n d h =
      let vs = count ∷ ms in
      let t : take at w ≡ xs = ap (λ (j : ℕ). take j w) n ∙ a in
      let q : w2 ≡ (xs ++ vs) ++ drop (at + length vs) w =
      one_run ∙ ap (λ (l : List ℕ). sets w at (count ∷ l)) d ∙ sets-eq vs w at (omega arith) ∙ ap (λ (l : List ℕ). (l ++ vs) ++ drop (at + length vs) w) t in
      ap (take (length (xs ++ vs))) q ∙ take_at (xs ++ vs) (drop (at + length vs) w) (length (xs ++ vs)) refl

  pub stays : (j : ℕ) → at + 1 + count ≤ j → length (run w1 r count) ≡ count → get_or w2 j 0 ≡ get_or w j 0
  stays j h n =
      ap (λ (l : List ℕ). get_or l j 0) e2 ∙ get_d_sets_after (run w1 r count) w1 (at + 1) j 0 (omega arith)
      ∙ ap (λ (l : List ℕ). get_or l j 0) e1 ∙ get_or-set_other w at j count 0 (λ (e : j ≡ at). absurd (omega arith))

-- nothing behind the filter is written
pub new_stays : (w w1 w2 w3 : List ℕ) (at r count h : ℕ) → w1 ≡ set w at count → w2 ≡ sets w1 (at + 1) (run w1 r count) → w3 ≡ set w2 (filter_at + h) 1 → h < 32768 → at < r → r + count ≤ length w
    → at + 1 + count ≤ most_named → (j : ℕ) → named_end ≤ j → get_or w3 j 0 ≡ get_or w j 0
new_stays w w1 w2 w3 at r count h e1 e2 e3 few low long room j b =
    ap (λ (l : List ℕ). get_or l j 0) e3 ∙ get_or-set_other w2 (filter_at + h) j 1 0 (λ (e : j ≡ filter_at + h). absurd (omega arith))
    ∙ stays w w1 w2 at r count e1 e2 low j (omega arith) (run_long w1 r count 0 (omega (arith, ap length e1, length-set w at count)))

-- ---- the state
module _ (r : ℕ) (w w' : List ℕ) (s : Naming) (count : ℕ) (body : List Atom) (z : Rules.Naming) (D : BodyHeld r w count body) (H : NamedHeld w s z) where
  abbrev new_branch : Branch
  new_branch = record { body = body; name = z.next_fresh }

  abbrev new_state : Rules.Naming
  new_state = record { next_fresh = z.next_fresh + 1; named = z.named ++ (new_branch ∷ []) }

  abbrev more : Naming
  more = record { first = s.first; named = s.named + 1; used = s.used + 1 + count }

  new_words : named_words (z.named ++ (new_branch ∷ [])) ≡ named_words z.named ++ (count ∷ map packed body)
  new_words = named_snoc z.named new_branch ∙ ap (λ (n : ℕ). named_words z.named ++ (n ∷ map packed body)) (sym D.long)

  new_names : (i : ℕ) → i < s.named + 1 → (get_or (z.named ++ (new_branch ∷ [])) i no_branch).name ≡ s.first + i
  new_names i h = go (ltb i s.named) refl
    where
      go : (b : Bool) → ltb i s.named ≡ b → (get_or (z.named ++ (new_branch ∷ [])) i no_branch).name ≡ s.first + i
      go true e =
          let k = ltb-true i s.named e in
          ap (λ (b : Branch). b.name) (get_or-append z.named (new_branch ∷ []) no_branch i (omega (arith, H.many))) ∙ H.names i k
      go false e =
          let k = ltb-false i s.named e in
          let n : i ≡ length z.named = omega (arith, H.many) in
          ap (λ (j : ℕ). (get_or (z.named ++ (new_branch ∷ [])) j no_branch).name) n ∙ ap (λ (b : Branch). b.name) (get_or-append_seam z.named new_branch [] no_branch) ∙ omega (arith, H.next, H.many)

  new_is : memo_of z.named body ≡ none → name_of body z ≡ ok (s.first + s.named) new_state
  unfolding name_of
  new_is e = ap (name_or_new body z) e ∙ ap (λ (x : ℕ). ok x new_state) H.next

  named_new : memo_of z.named body ≡ none → length body ≤ 256 → s.used + 1 + count ≤ most_named → At w' 0 (named_words z.named ++ (count ∷ map packed body)) → Each (Marked w') z.named → Marked w' new_branch → Named w' body z more (s.first + s.named)
  named_new e short few a old new = record {
    state = new_state;
    is = new_is e;
    held = record {
      many = omega (arith, H.many, length-append z.named (new_branch ∷ []));
      names = new_names;
      next = omega (arith, H.next);
      used = omega (arith, H.used, ap length new_words, length-append (named_words z.named) (count ∷ map packed body), length-map body packed, D.long);
      few = few;
      words = subst (At w' 0) (sym new_words) a;
      bodies = each_snoc (λ b. Each Packable b.body × (length b.body ≤ 256)) z.named new_branch H.bodies (D.packable, short);
      marks = each_snoc (Marked w') z.named new_branch old new;
    };
  }

  -- written behind the others, and its hash's word set
  pub new_named : (w1 w2 : List ℕ) (at h : ℕ) → at ≡ s.used → w1 ≡ set w at count → w2 ≡ sets w1 (at + 1) (run w1 r count) → w' ≡ set w2 (filter_at + h) 1 → h ≡ hash_of (run w r count) → filter_at + h < r
      → r + count ≤ length w → count ≤ 256 → s.used + 1 + count ≤ most_named → memo_of z.named body ≡ none → Named w' body z more (s.first + s.named)
  new_named w1 w2 at h ea e1 e2 e3 eh low long short few e =
      let n : count ≡ length (map packed body) = omega (arith, D.long, length-map body packed) in
      let d : run w r count ≡ map packed body = ap (λ (j : ℕ). run w r j) n ∙ D.words in
      let l1 : length w1 ≡ length w = ap length e1 ∙ length-set w at count in
      let l2 : length w2 ≡ length w1 = ap length e2 ∙ length-sets w1 (at + 1) (run w1 r count) in
      let a : At w2 0 (named_words z.named ++ (count ∷ map packed body)) =
      stands w w1 w2 at r count e1 e2 (omega arith) (named_words z.named) (map packed body) H.words (omega (arith, H.used)) d (omega arith) in
      let xs : List ℕ = named_words z.named ++ (count ∷ map packed body) in
      let m : length xs ≤ filter_at + h = omega (arith, length-append (named_words z.named) (count ∷ map packed body), H.used) in
      named_new e (omega (arith, D.long)) few (ap (take (length xs)) e3 ∙ take-set-le (length xs) w2 (filter_at + h) 1 m ∙ a)
      (marks_set w w2 w' (filter_at + h) z.named e3 (omega arith) (λ j g. stays w w1 w2 at r count e1 e2 (omega arith) j (omega arith) (run_long w1 r count 0 (omega arith))) H.marks)
      (mark_here w2 w' new_branch (filter_at + h) e3 (omega arith) (ap (λ (j : ℕ). filter_at + j) (hash_held r w count h body D eh)))
