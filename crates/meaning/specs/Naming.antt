-- Names for branches: the list of named bodies is a memo, names rise and a body's classes are below its name. So every valuation
-- below the first name has one extension in which each name's set is the set at which its body can be matched. Assumes nothing.
use Rattle.std.specs.Prelude.{◌≡◌, refl, Bool, true, false, ◌⊎◌, ℕ, suc, ◌+◌, ◌≤◌, ◌<◌, eqb}
use Rattle.std.proofs.Math.Path.{sym}
use Rattle.std.proofs.Common.{ap, ◌∙◌, subst, inl, inr, le_refl, arith, eq-eqb, ne_eqb}
use mathlib.Core.List.{List, [], ◌∷◌, ◌++◌, append-nil, append_assoc}
use Rattle.std.proofs.Math.Option.{Option, none, some}
use Rattle.ir.specs.Pick.{pick}
use Rattle.ir.specs.declared.atom.Atom.{Atom}
use Rattle.rules.specs.Reflexive.{same_atoms}
use Rattle.rules.specs.Branches.{Branch, Naming, branch_name, memo_of, name_or_new, name_of, branch_clause}
use Rattle.rules.specs.Post.{Post, give}
use Rattle.rules.specs.Invariants.{Each}
use Rattle.rules.specs.Semantics.{Interpretation, with_classes}
use Rattle.rules.specs.EachLaws.{each_left}
use Rattle.rules.proofs.ReflexiveLaws.{same_atoms_lem}
use Rattle.meaning.specs.Truth.{or_none}
use Rattle.meaning.specs.Choices.{Follows}
use Rattle.meaning.specs.Valuations.{Valuation, Agree, agree_refl, agree_trans, AtomUnder}
use Rattle.meaning.specs.Matching.{matches, matches_has, matches_agree}
use Rattle.meaning.specs.Grouping.{Given, nothing, given, given_map}

abbrev pub branch_of : List Atom → ℕ → Branch
branch_of b e = record { body = b; name = e }

-- ---- the names of a list rise from n and stay below m, and each body's classes are below its name
abbrev pub Chain : ℕ → List Branch → ℕ → Type 0
Chain n [] m = n ≤ m
Chain n (b ∷ l) m = (n ≤ b.name) × Each (AtomUnder b.name) b.body × Chain (suc b.name) l m

chain_last : (n m : ℕ) (l : List Branch) (b : List Atom) → Chain n l m → Each (AtomUnder m) b → Chain n (l ++ (branch_of b m ∷ [])) (m + 1)
chain_last n m [] b c u = (c, u, omega arith)
chain_last n m (a ∷ l) b c u = (c.0, c.1, chain_last (suc a.name) m l b c.2 u)

chain_below : (n m : ℕ) (l : List Branch) → Chain n l m → n ≤ m
chain_below n m [] c = c
chain_below n m (a ∷ l) c = let h = chain_below (suc a.name) m l c.2 in let d = c.0 in omega arith

pub chain_names : (n m : ℕ) (l : List Branch) → Chain n l m → Each (λ b. b.name < m) l
chain_names n m [] c = tt
chain_names n m (a ∷ l) c = (chain_below (suc a.name) m l c.2, chain_names (suc a.name) m l c.2)

pub chain_bodies : (n m : ℕ) (l : List Branch) → Chain n l m → Each (λ b. Each (AtomUnder b.name) b.body) l
chain_bodies n m [] c = tt
chain_bodies n m (a ∷ l) c = (c.1, chain_bodies (suc a.name) m l c.2)

-- ---- a branch among others
abbrev pub Among : Branch → List Branch → Type 0
Among b [] = ⊥
Among b (c ∷ l) = (c ≡ b) ⊎ Among b l

pub among_each : (P : Branch → Type 0) (b : Branch) (l : List Branch) → Each P l → Among b l → P b
among_each P b [] e i = absurd i
among_each P b (c ∷ l) e (inl q) = subst P q e.0
among_each P b (c ∷ l) e (inr i) = among_each P b l e.1 i

among_last : (b : Branch) (l : List Branch) → Among b (l ++ (b ∷ []))
among_last b [] = inl refl
among_last b (c ∷ l) = inr (among_last b l)

-- ---- from one state to a later one: names are only added
pub record Step (base : ℕ) (w u : Naming) : Type 0 where
  pub new : List Branch
  pub grown : u.named ≡ w.named ++ new
  pub fresh : w.next_fresh ≤ u.next_fresh
  pub chain : Chain base u.named u.next_fresh

pub step_refl : {base : ℕ} (w : Naming) → Chain base w.named w.next_fresh → Step base w w
step_refl w c = record { new = []; grown = sym (append-nil w.named); fresh = le_refl w.next_fresh; chain = c }

pub step_trans : {base : ℕ} {w u z : Naming} → Step base w u → Step base u z → Step base w z
step_trans {w = w} s t = record {
  new = s.new ++ t.new;
  grown = t.grown ∙ ap (λ l. l ++ t.new) s.grown ∙ append_assoc w.named s.new t.new;
  fresh = omega (arith, s.fresh, t.fresh);
  chain = t.chain;
}

pub step_each : {base : ℕ} {w u : Naming} (P : Branch → Type 0) → Step base w u → Each P u.named → Each P w.named
step_each {w = w} P s e = each_left P w.named s.new (subst (Each P) s.grown e)

-- ---- the name of a body
memo_among : (l : List Branch) (b : List Atom) → Given (λ e. Among (branch_of b e) l) (memo_of l b)
unfolding memo_of
memo_among [] b = nothing
memo_among (c ∷ l) b = go (same_atoms c.body b) (same_atoms_lem c.body b) (memo_among l b)
  where
    go : (t : Bool) → (t ≡ true → c.body ≡ b) → Given (λ e. Among (branch_of b e) l) (memo_of l b) → Given (λ e. Among (branch_of b e) (c ∷ l)) (branch_name c (memo_of l b) t)
    go true q r = given (inl (ap (λ z. branch_of z c.name) (q refl)))
    go false q r = given_map (λ e i. inr i) r

pub record IsName (base : ℕ) (w : Naming) (b : List Atom) (e : ℕ) (u : Naming) : Type 0 where
  pub step : Step base w u
  pub among : Among (branch_of b e) u.named

pub name_below : {base : ℕ} {w u : Naming} {b : List Atom} {e : ℕ} → IsName base w b e u → e < u.next_fresh
name_below {base} {u = u} {b = b} {e = e} h = among_each (λ z. z.name < u.next_fresh) (branch_of b e) u.named (chain_names base u.next_fresh u.named h.step.chain) h.among

pub name_of_lem : (base : ℕ) (w : Naming) (b : List Atom) → Chain base w.named w.next_fresh → Each (AtomUnder w.next_fresh) b → Post (IsName base w b) (name_of b w)
unfolding name_of
name_of_lem base w b c u = go (memo_of w.named b) (memo_among w.named b)
  where
    go : (o : Option ℕ) → Given (λ e. Among (branch_of b e) w.named) o → Post (IsName base w b) (name_or_new b w o)
    go (some e) (given i) = give (record { step = step_refl w c; among = i })
    go none nothing = give (record {
      step = record { new = branch_of b w.next_fresh ∷ []; grown = refl; fresh = omega arith; chain = chain_last base w.next_fresh w.named b c u };
      among = among_last (branch_of b w.next_fresh) w.named;
    })

-- ---- the sets of the names
module _ (I : Interpretation) where
  abbrev pub Right : Valuation → Branch → Type 0
  Right k b = k b.name ≡ matches I k b.body

  pub right_follows : (k : Valuation) (b : Branch) → Right k b → Follows (with_classes I k) (branch_clause b)
  right_follows k b r = record { follows = λ f c h. or_none (k b.name (f 0)) ∙ ap (λ s. s (f 0)) r ∙ matches_has I k b.body f c h }

  -- a set for one class
  abbrev put : Valuation → ℕ → (ℕ → Bool) → Valuation
  put k n s c = pick (eqb c n) s (k c)

  put_at_lem : (k : Valuation) (n : ℕ) (s : ℕ → Bool) → put k n s n ≡ s
  put_at_lem k n s = rw (eq-eqb n n refl)

  put_below : (k : Valuation) (n : ℕ) (s : ℕ → Bool) → Agree n k (put k n s)
  put_below k n s = record { same = λ c h. rw (ne_eqb c n (λ q. absurd (omega arith))) }

  -- each name in turn
  unfoldable pub filled : Valuation → List Branch → Valuation
  filled k [] = k
  filled k (b ∷ l) = filled (put k b.name (matches I k b.body)) l

  pub filled_agrees : (n m : ℕ) (l : List Branch) → Chain n l m → (k : Valuation) → Agree n k (filled k l)
  unfolding filled
  filled_agrees n m [] c k = agree_refl n k
  filled_agrees n m (b ∷ l) c k =
      let s = matches I k b.body in
      let a = filled_agrees (suc b.name) m l c.2 (put k b.name s) in
      record { same = λ v h. let d = c.0 in (put_below k b.name s).same v (omega arith) ∙ a.same v (omega arith) }

  pub filled_right : (n m : ℕ) (l : List Branch) → Chain n l m → (k : Valuation) → Each (Right (filled k l)) l
  unfolding filled
  filled_right n m [] c k = tt
  filled_right n m (b ∷ l) c k =
      let s = matches I k b.body in
      let a : Agree (suc b.name) (put k b.name s) (filled (put k b.name s) l) = filled_agrees (suc b.name) m l c.2 (put k b.name s) in (
        sym (a.same b.name (le_refl (suc b.name))) ∙ put_at_lem k b.name s
            ∙ matches_agree I (agree_trans (omega arith) (put_below k b.name s) a) b.body c.1,
        filled_right (suc b.name) m l c.2 (put k b.name s),
      )
