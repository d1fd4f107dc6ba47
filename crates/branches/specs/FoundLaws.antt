-- The search for a body among the named branches. Assumes nothing.
use Rattle.std.specs.Prelude.{Bool, true, false, ◌≡◌, Some, None, List, [], ◌∷◌, ◌++◌, map, ℕ, ◌+◌, ◌≤◌, ◌<◌, length, get_or, drop}
use Rattle.std.proofs.Math.Path.{refl, ap}
use Rattle.std.proofs.Common.{sym, subst, ◌∙◌, arith, add-one, length-append, drop_of_length-le, drop-cons}
use Rattle.std.proofs.Math.Option.{Option as RuleOption, none, some}
use Rattle.std.proofs.lemmas.List.{length-map}
use Rattle.ir.specs.Pick.{pick}
use Rattle.ir.specs.Records.{same_words}
use Rattle.ir.specs.RecordLaws.{same_words_lem, same_words_refl}
use Rattle.ir.specs.declared.atom.Atom.{Atom}
use Rattle.rules.specs.Invariants.{Each}
use Rattle.rules.specs.EachLaws.{each_nth}
use Rattle.rules.specs.Reflexive.{same_atoms}
use Rattle.rules.specs.Branches.{Branch, branch_name, memo_of}
use Rattle.rules.specs.Branches as Rules
use Rattle.tables.specs.TabledLaws.{At, at_front, at_back, at_get}
use Rattle.branches.specs.Memo.{packed, Packable, named_words, no_branch, NamedHeld}
use Rattle.branches.specs.Found.{BodyHeld, Found, Searching}
use Rattle.branches.specs.PackLaws.{same_packed, other_packed}
use Rattle.branches.specs.declared.memo.Naming.{Naming}

-- ---- branch i, at word p
pub record BranchAt (w : List ℕ) (s : Naming) (z : Rules.Naming) (p i : ℕ) : Type 0 where
  pub branch : Branch
  pub split : drop i z.named ≡ branch ∷ drop (i + 1) z.named
  pub size : get_or w p 0 ≡ length branch.body
  pub words : At w (p + 1) (map packed branch.body)
  pub rest : At w (p + (1 + length branch.body)) (named_words (drop (i + 1) z.named))
  pub room : p + (1 + length branch.body) + length (named_words (drop (i + 1) z.named)) ≡ s.used
  pub packable : Each Packable branch.body
  pub name : branch.name ≡ s.first + i

parts : (w : List ℕ) (p used : ℕ) (b : Branch) (l : List Branch) → At w p (named_words (b ∷ l)) → p + length (named_words (b ∷ l)) ≡ used
    → (get_or w p 0 ≡ length b.body) × At w (p + 1) (map packed b.body) × At w (p + (1 + length b.body)) (named_words l) × (p + (1 + length b.body) + length (named_words l) ≡ used)
unfolding named_words
parts w p used b l e f =
    let ms = map packed b.body in
    let k = length-map b.body packed in
    let t = at_back w p (length b.body ∷ []) (ms ++ named_words l) e (p + 1) refl in (
      at_get w p (length b.body) (ms ++ named_words l) e,
      at_front w (p + 1) ms (named_words l) t,
      at_back w (p + 1) ms (named_words l) t (p + (1 + length b.body)) (omega arith),
      omega (arith, length-append ms (named_words l)),
    )

module _ (r : ℕ) (w : List ℕ) (s : Naming) (count p i : ℕ) (S : Searching r w s count p i) where
  pub branch_at : (z : Rules.Naming) → NamedHeld w s z → i < s.named → BranchAt w s z p i
  branch_at z H h =
      let b = get_or z.named i no_branch in
      let n : i < length z.named = omega (arith, H.many) in
      let e : drop i z.named ≡ b ∷ drop (i + 1) z.named = drop-cons z.named i no_branch n ∙ ap (λ (j : ℕ). b ∷ drop j z.named) (sym (add-one i)) in
      let q = parts w p s.used b (drop (i + 1) z.named) (subst (λ (l : List Branch). At w p (named_words l)) e (S.words z H)) (subst (λ (l : List Branch). p + length (named_words l) ≡ s.used) e (S.room z H)) in
      record {
        branch = b;
        split = e;
        size = q.0;
        words = q.1;
        rest = q.2;
        room = q.3;
        packable = (each_nth (λ (x : Branch). Each Packable x.body × (length x.body ≤ 256)) z.named i no_branch H.bodies n).0;
        name = H.names i h;
      }

  memo_cons : (b : Branch) (l : List Branch) (body : List Atom) (t : Bool) → same_atoms b.body body ≡ t → memo_of (b ∷ l) body ≡ branch_name b (memo_of l body) t
  unfolding memo_of
  memo_cons b l body t e = ap (branch_name b (memo_of l body)) e

  memo_nil : (l : List Branch) (body : List Atom) → l ≡ [] → memo_of l body ≡ none
  unfolding memo_of
  memo_nil l body e = rw e refl

  -- n words of the branch's body compared with the body's
  module _ (n : ℕ) (t : Bool) (en : n ≡ get_or w p 0) (C : (l m : List ℕ) → n ≡ length l → count ≡ length m → At w (p + 1) l → At w r m → t ≡ same_words l m) (h : i < s.named) where
    compared : (body : List Atom) (z : Rules.Naming) → BodyHeld r w count body → (H : NamedHeld w s z) → t ≡ same_words (map packed (branch_at z H h).branch.body) (map packed body)
    compared body z D H =
        let b = branch_at z H h in
        C (map packed b.branch.body) (map packed body) (omega (arith, b.size, length-map b.branch.body packed)) (omega (arith, D.long, length-map body packed)) b.words D.words

    pub searching_found : t ≡ true → (body : List Atom) (z : Rules.Naming) → BodyHeld r w count body → NamedHeld w s z → Found s (memo_of z.named body) (Some i)
    searching_found e body z D H =
        let b = branch_at z H h in
        let k = b.branch in
        let g : map packed k.body ≡ map packed body = same_words_lem (map packed k.body) (map packed body) (sym (compared body z D H) ∙ e) in
        let q : memo_of z.named body ≡ some k.name =
        S.left body z D H ∙ ap (λ (l : List Branch). memo_of l body) b.split ∙ memo_cons k (drop (i + 1) z.named) body true (same_packed k.body body b.packable D.packable g) in
        subst (λ (o : RuleOption ℕ). Found s o (Some i)) (sym q) (h, b.name)

    pub searching_on : t ≡ false → Searching r w s count (p + (1 + n)) (i + 1)
    searching_on e = record {
      here = omega arith;
      words = λ z H. let b = branch_at z H h in subst (λ (k : ℕ). At w (p + (1 + k)) (named_words (drop (i + 1) z.named))) (sym (en ∙ b.size)) b.rest;
      room = λ z H. let b = branch_at z H h in omega (arith, b.room, b.size);
      left = λ body z D H. let b = branch_at z H h in
          S.left body z D H ∙ ap (λ (l : List Branch). memo_of l body) b.split
          ∙ memo_cons b.branch (drop (i + 1) z.named) body false (other_packed b.branch.body body (λ q. clash b.branch.body body (sym (compared body z D H) ∙ e) q));
    }
      where
        clash : (l m : List Atom) → same_words (map packed l) (map packed m) ≡ false → map packed l ≡ map packed m → ⊥
        clash l m f q =
            let g : same_words (map packed m) (map packed m) ≡ false = subst (λ (x : List ℕ). same_words x (map packed m) ≡ false) q f in
            let z : ◌≡◌ {A = ℕ} 1 0 = ap (λ (x : Bool). pick x 1 0) (sym (same_words_refl (map packed m)) ∙ g) in
            omega arith

  pub searching_end : s.named ≤ i → (body : List Atom) (z : Rules.Naming) → BodyHeld r w count body → NamedHeld w s z → Found s (memo_of z.named body) None
  searching_end h body z D H =
      let e : drop i z.named ≡ [] = drop_of_length-le z.named {i = i} (omega (arith, H.many)) in
      subst (λ (o : RuleOption ℕ). Found s o None) (sym (S.left body z D H ∙ memo_nil (drop i z.named) body e)) tt
