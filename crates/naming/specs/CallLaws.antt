-- The name of a child: the rule's, below 2^21, and the first name stays. Assumes nothing.
use Rattle.std.specs.Prelude.{Bool, true, false, Result, Ok, Err, ◌≡◌, refl, List, [], ◌∷◌, ◌++◌, map, ℕ, suc, ◌+◌, ◌≤◌, ◌<◌, length, get_or}
use Rattle.std.proofs.Common.{subst, ◌∙◌, arith, length-append}
use Rattle.std.proofs.Math.Option.{Option, none, some}
use Rattle.std.proofs.lemmas.List.{length-map}
use Rattle.ir.specs.declared.atom.Atom.{Atom}
use Rattle.ir.specs.declared.refusal.Refusal.{Refusal}
use Rattle.ir.specs.declared.atom.Atom.TheVariants.{Class}
use Rattle.rules.specs.Base.{Res, ok, refused, then}
use Rattle.rules.specs.Reflexive.{same_atoms}
use Rattle.rules.specs.Branches.{Branch, branch_name, memo_of, name_or_new, name_of, renumber}
use Rattle.rules.specs.Branches as Rules
use Rattle.branches.specs.Layout.{most_named}
use Rattle.branches.specs.Wide.{AtomsAre}
use Rattle.branches.specs.Memo.{packed, TameThere, named_words, no_branch, NamedHeld, NamedThere, NamedBy}
use Rattle.naming.specs.Names.{To}
use Rattle.naming.specs.Splits.{split_rule, group_rule, SplitBy, CalledBy}
use Rattle.naming.specs.GoesLaws.{Goes, name_goes}
use Rattle.branches.specs.declared.memo.Naming.{Naming}

-- ---- how much is named
pub named_least : (l : List Branch) → length l ≤ length (named_words l)
unfolding named_words
named_least [] = omega arith
named_least (b ∷ l) = omega (arith, length-append (map packed b.body) (named_words l), named_least l)

pub named_few : (w : List ℕ) (s : Naming) (z : Rules.Naming) → NamedHeld w s z → s.named ≤ most_named
named_few w s z H = omega (arith, H.many, H.used, H.few, named_least z.named)

named_one : (l : List Branch) (b : Branch) → length (named_words (l ++ (b ∷ []))) ≡ length (named_words l) + 1 + length b.body
unfolding named_words
named_one [] b = omega (arith, length-append (map packed b.body) [], length-map b.body packed)
named_one (a ∷ l) b = omega (arith, length-append (map packed a.body) (named_words l), length-append (map packed a.body) (named_words (l ++ (b ∷ []))), named_one l b)

memo_below : (l : List Branch) (body : List Atom) (k e : ℕ) → ((i : ℕ) → i < length l → (get_or l i no_branch).name < k) → memo_of l body ≡ some e → e < k
unfolding memo_of
memo_below [] body k e f h = absurd (let z : ◌≡◌ {A = ℕ} 0 1 = cc in omega arith)
memo_below (b ∷ l) body k e f h = go (same_atoms b.body body) h (λ q. memo_below l body k e (λ i g. f (suc i) (omega arith)) q)
  where
    go : (c : Bool) → branch_name b (memo_of l body) c ≡ some e → (memo_of l body ≡ some e → e < k) → e < k
    go true q r = let r : b.name ≡ e = cc in omega (arith, f 0 (omega arith))
    go false q r = r q

-- the state after a name
record Next (y st : Rules.Naming) (e : ℕ) : Type 0 where
  fresh : st.next_fresh + length y.named ≡ y.next_fresh + length st.named
  small : e < st.next_fresh

name_next : (body : List Atom) (y st : Rules.Naming) (e : ℕ) → ((i : ℕ) → i < length y.named → (get_or y.named i no_branch).name < y.next_fresh) → name_of body y ≡ ok e st → Next y st e
unfolding name_of
name_next body y st e f h = go (memo_of y.named body) refl h
  where
    go : (o : Option ℕ) → memo_of y.named body ≡ o → name_or_new body y o ≡ ok e st → Next y st e
    go (some x) m q =
        let a : x ≡ e = cc in
        let b : y ≡ st = cc in
        subst (λ (v : Rules.Naming). Next y v e) b (record { fresh = refl; small = omega (arith, memo_below y.named body y.next_fresh x f m) })
    go none m q =
        let new : Branch = record { body = body; name = y.next_fresh } in
        let after : Rules.Naming = record { next_fresh = y.next_fresh + 1; named = y.named ++ (new ∷ []) } in
        let a : y.next_fresh ≡ e = cc in
        let b : after ≡ st = cc in
        subst (λ (v : Rules.Naming). Next y v e) b (record { fresh = omega (arith, length-append y.named (new ∷ [])); small = omega arith })

-- ---- the answer
module _ (w1 w2 : List ℕ) (base count root : ℕ) (s m : Naming) (n : ℕ) (r : Result (Naming × ℕ) Refusal) (first : s.first ≤ 1100000)
    (N : (l : List Atom) (z : Rules.Naming) → AtomsAre w1 base n l → NamedHeld w1 m z → NamedBy w2 (renumber l root) z r) where
  called_go : (b : List Atom) (y : Rules.Naming) → To w1 base count b y s m n → (q : Result (Naming × ℕ) Refusal) → NamedBy w2 (renumber b root) y q
      → CalledBy w2 root s (then (name_of (renumber b root) y) (λ e x. ok (Class e root) x)) q
  unfolding name_of
  called_go b y T (Ok q) D =
      let t = q.0 in
      let e = q.1 in
      let H = T.held in
      let K = D.held in
      let X = name_next (renumber b root) y D.state e (λ i h. omega (arith, H.names i (omega (arith, H.many)), H.next, H.many)) D.is in
      let fi : t.first ≡ m.first = omega (arith, H.next, H.many, K.next, K.many, X.fresh) in
      rw D.is (record {
        is = refl;
        held = K;
        first = fi ∙ T.first;
        small = omega (arith, X.small, K.next, fi, T.first, named_few w2 t D.state K);
      })
  called_go b y T (Err x) D =
      rw D.1 (D.0, omega (arith, D.2, named_one y.named (record { body = renumber b root; name = y.next_fresh })))

  called_by : (o : Res Rules.Naming (List Atom)) → SplitBy w1 base count s o (Ok (m, n))
      → CalledBy w2 root s (then o (λ sub y. then (name_of (renumber sub root) y) (λ e x. ok (Class e root) x))) r
  called_by (ok b y) T = called_go b y T r (N b y T.atoms T.held)
  called_by (refused k) T = absurd T

  pub call_name : (f : ℕ) (l : List Atom) (t : ℕ) (z : Rules.Naming) → SplitBy w1 base count s (split_rule f l root t z) (Ok (m, n)) → CalledBy w2 root s (group_rule f l root t z) r
  unfolding group_rule split_rule
  call_name f l t z T = called_by (split_rule f l root t z) T

full_then : (w1 w2 : List ℕ) (base count root : ℕ) (s : Naming) (x : Refusal) (o : Res Rules.Naming (List Atom)) → SplitBy w1 base count s o (Err x)
    → CalledBy w2 root s (then o (λ sub y. then (name_of (renumber sub root) y) (λ e z. ok (Class e root) z))) (Err x)
full_then w1 w2 base count root s x (ok b y) D = go (name_of (renumber b root) y) (name_goes (renumber b root) y (length (named_words y.named)) (omega arith))
  where
    go : (o : Res Rules.Naming ℕ) → Goes (length (named_words y.named)) o → CalledBy w2 root s (then o (λ e z. ok (Class e root) z)) (Err x)
    go (ok e z) g = (D.0, omega (arith, D.1, g))
    go (refused k) g = absurd g
full_then w1 w2 base count root s x (refused k) D = absurd D

pub call_full : (w1 w2 : List ℕ) (base count root : ℕ) (s : Naming) (f : ℕ) (l : List Atom) (t : ℕ) (z : Rules.Naming) (x : Refusal) → SplitBy w1 base count s (split_rule f l root t z) (Err x) → CalledBy w2 root s (group_rule f l root t z) (Err x)
unfolding group_rule split_rule
call_full w1 w2 base count root s f l t z x T = full_then w1 w2 base count root s x (split_rule f l root t z) T

-- ---- what the name is asked of
pub record SplitThere (w : List ℕ) (base count : ℕ) (s m : Naming) (n : ℕ) : Type 0 where
  pub tame : TameThere w base n
  pub named : NamedThere w m
  pub shorter : n ≤ count
  pub first : m.first ≡ s.first
  pub few : m.named ≤ most_named

pub split_there : (w : List ℕ) (base count : ℕ) (s m : Naming) (n : ℕ) (o : Res Rules.Naming (List Atom)) → SplitBy w base count s o (Ok (m, n)) → SplitThere w base count s m n
split_there w base count s m n (ok b y) T = record {
  tame = record { list = b; are = T.atoms; tame = T.tame };
  named = record { state = y; held = T.held };
  shorter = T.shorter;
  first = T.first;
  few = named_few w m y T.held;
}
split_there w base count s m n (refused k) T = absurd T
