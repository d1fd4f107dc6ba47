-- decompose_wide_bodies keeps the meaning: where the clauses follow, sets for the fresh classes make the rewritten and the named
-- clauses follow; where those follow, the first clauses do. The heads stay. Assumes nothing.
use Rattle.std.specs.Prelude.{◌≡◌, refl, Bool, true, false, ◌&&◌, ◌||◌, ◌⊎◌, ℕ, suc, ◌≤◌, ◌<◌, length, eqb, leb}
use Rattle.std.proofs.Math.Path.{sym, ap, ap₂}
use Rattle.std.proofs.Common.{◌∙◌, subst, inl, inr, le_refl, arith, eqb-true}
use Rattle.std.proofs.lemmas.Bool.{false≢true}
use mathlib.Core.List.{List, [], ◌∷◌, ◌++◌, map, map-append, append-nil, append_assoc}
use Rattle.std.proofs.Math.Option.{Option, none, some}
use Rattle.ir.specs.Pick.{pick}
use Rattle.ir.specs.Atoms.{atom_vars}
use Rattle.ir.specs.declared.atom.Atom.{Atom}
use Rattle.ir.specs.declared.atom.Atom.TheVariants.{Class}
use Rattle.rules.specs.Base.{Res, contains}
use Rattle.rules.specs.State.{Env, Out, out, Clause, clause, total}
use Rattle.rules.specs.Reflexive.{atoms_vars}
use Rattle.rules.specs.Branches.{add_var, add_vars, head_vars_from, head_vars, Branch, Naming, stays_whole, Rewritten, rewrite, decompose_one, decompose_from, branch_clause, finished_in, decomposed_in, decompose_wide_bodies}
use Rattle.rules.specs.Post.{Post, gives, give, refuses, post_then, post_map}
use Rattle.rules.specs.Invariants.{Each}
use Rattle.rules.specs.Semantics.{Interpretation, with_classes}
use Rattle.rules.specs.EachLaws.{each_append, each_left, each_right, each_mapped, each_unmapped}
use Rattle.meaning.specs.Truth.{by_truth}
use Rattle.meaning.specs.Choices.{Follows}
use Rattle.meaning.specs.Valuations.{Valuation, Agree, AtomUnder, ClauseUnder, atom_under_more, clause_under_more, follow_agree, each_of_lem}
use Rattle.meaning.specs.Matching.{contains_here, contains_left, contains_right, contains_both, any_alike}
use Rattle.meaning.specs.Grouping.{Given, nothing, given}
use Rattle.meaning.specs.Naming.{Chain, chain_names, chain_bodies, Step, step_refl, step_trans, step_each, Right, right_follows, filled, filled_agrees, filled_right}
use Rattle.meaning.specs.Branches.{Choosing, AllFollow, AllRight, Split, names_by}

-- ---- the head's variables are X or kept
add_more : (vars : List ℕ) (v u : ℕ) → contains vars u ≡ true → contains (add_var vars v) u ≡ true
add_more vars v u h = go (eqb v 0 || contains vars v)
  where
    go : (b : Bool) → contains (pick b vars (vars ++ (v ∷ []))) u ≡ true
    go true = h
    go false = contains_left u vars (v ∷ []) h

adds_more : (vars l : List ℕ) (u : ℕ) → contains vars u ≡ true → contains (add_vars vars l) u ≡ true
unfolding add_vars
adds_more vars [] u h = h
adds_more vars (v ∷ l) u h = adds_more (add_var vars v) l u (add_more vars v u h)

heads_more : (vars : List ℕ) (l : List Atom) (u : ℕ) → contains vars u ≡ true → contains (head_vars_from vars l) u ≡ true
unfolding head_vars_from
heads_more vars [] u h = h
heads_more vars (a ∷ l) u h = heads_more (add_vars vars (atom_vars a)) l u (adds_more vars (atom_vars a) u h)

-- X, or a member
abbrev Known : List ℕ → ℕ → Type 0
Known vars v = (v ≡ 0) ⊎ (contains vars v ≡ true)

known_of_lem : (vars late : List ℕ) (v : ℕ) → (contains vars v ≡ true → contains late v ≡ true) → Known vars v → Known late v
known_of_lem vars late v h (inl e) = inl e
known_of_lem vars late v h (inr c) = inr (h c)

add_has : (vars : List ℕ) (v : ℕ) → Known (add_var vars v) v
add_has vars v = go (eqb v 0) (contains vars v) refl refl
  where
    go : (a b : Bool) → eqb v 0 ≡ a → contains vars v ≡ b → Known (pick (a || b) vars (vars ++ (v ∷ []))) v
    go true b e f = inl (eqb-true v 0 e)
    go false true e f = inr f
    go false false e f = inr (contains_right v vars (v ∷ []) (contains_here v []))

adds_has : (vars l : List ℕ) (u : ℕ) → contains l u ≡ true → Known (add_vars vars l) u
unfolding add_vars
adds_has vars [] u h = absurd (false≢true h)
adds_has vars (v ∷ l) u h =
    by_truth (eqb u v) (λ e. rw (eqb-true u v e) (known_of_lem (add_var vars v) (add_vars (add_var vars v) l) v (adds_more (add_var vars v) l v) (add_has vars v)))
    (λ e. adds_has (add_var vars v) l u (rw e at h))

heads_has : (vars : List ℕ) (l : List Atom) (u : ℕ) → contains (atoms_vars l) u ≡ true → Known (head_vars_from vars l) u
unfolding head_vars_from atoms_vars
heads_has vars [] u h = absurd (false≢true h)
heads_has vars (a ∷ l) u h =
    contains_both u (atom_vars a) (atoms_vars l)
    (λ c. known_of_lem (add_vars vars (atom_vars a)) (head_vars_from (add_vars vars (atom_vars a)) l) u (heads_more (add_vars vars (atom_vars a)) l u) (adds_has vars (atom_vars a) u c))
    (λ c. heads_has (add_vars vars (atom_vars a)) l u c) h

known_same : {I : Interpretation} {f : ℕ → ℕ} {t : (ℕ → ℕ) → Bool} {vars keep : List ℕ} (z : Choosing I f t vars 0 keep) (v : ℕ) → Known keep v → z.to v ≡ f v
known_same {f = f} z v (inl q) = ap z.to q ∙ z.fixed ∙ sym (ap f q)
known_same z v (inr q) = z.keeps v q

-- ---- lists of clauses
abbrev pub head_of : Clause → List Atom
head_of c = c.head

-- what the pass did. `names`: the named branches, whose clauses stand last
pub record Decomposed (I : Interpretation) (s t : Out) : Type 0 where
  pub names : List Branch
  pub fresh : s.next_fresh ≤ t.next_fresh
  pub visits : t.visits ≡ s.visits
  pub deferrals : t.deferrals ≡ s.deferrals
  pub under : Each (ClauseUnder t.next_fresh) t.clauses
  pub heads : map head_of t.clauses ≡ map head_of s.clauses ++ map (λ b. Class b.name 0 ∷ []) names
  pub gets : (k : Valuation) → Each (Follows (with_classes I k)) s.clauses → (l : Valuation) × Agree s.next_fresh k l × Each (Follows (with_classes I l)) t.clauses
  pub says : (k : Valuation) → Each (Follows (with_classes I k)) t.clauses → Each (Follows (with_classes I k)) s.clauses

-- what holds of every head atom after the pass held before
pub decomposed_heads : (I : Interpretation) (s t : Out) (P : Atom → Type 0) → Decomposed I s t → Each (λ c. Each P c.head) t.clauses → Each (λ c. Each P c.head) s.clauses
decomposed_heads I s t P D e =
    each_unmapped (Each P) head_of s.clauses (each_left (Each P) (map head_of s.clauses) (map (λ b. Class b.name 0 ∷ []) D.names) (subst (Each (Each P)) D.heads (each_mapped (λ c. Each P (head_of c)) (Each P) head_of (λ _ h. h) t.clauses e)))

-- ---- the clauses of the names
named_under : (n m : ℕ) (l : List Branch) → Chain n l m → Each (ClauseUnder m) (map branch_clause l)
named_under n m l c = each_mapped (λ b. ClauseUnder m (branch_clause b)) (ClauseUnder m) branch_clause (λ _ h. h) l (go l (chain_names n m l c) (chain_bodies n m l c))
  where
    go : (l : List Branch) → Each (λ b. b.name < m) l → Each (λ b. Each (AtomUnder b.name) b.body) l → Each (λ b. ClauseUnder m (branch_clause b)) l
    go [] x y = tt
    go (b ∷ l) x y = let h = x.0 in (record { body = each_of_lem (atom_under_more (omega arith)) b.body y.0; head = (h, tt) }, go l x.1 y.1)

named_heads : (l : List Branch) → map head_of (map branch_clause l) ≡ map (λ b. Class b.name 0 ∷ []) l
named_heads [] = refl
named_heads (b ∷ l) = ap (λ z. (Class b.name 0 ∷ []) ∷ z) (named_heads l)

module _ (I : Interpretation) (base : ℕ) where
  -- ---- one clause, and d for it
  record Rewrites (w : Naming) (c d : Clause) : Type 0 where
    under : ClauseUnder w.next_fresh d
    heads : d.head ≡ c.head
    gets : (k : Valuation) → AllRight I k w → Follows (with_classes I k) c → Follows (with_classes I k) d
    says : (k : Valuation) → AllFollow I k w → Follows (with_classes I k) d → Follows (with_classes I k) c

  stays : (w : Naming) (c : Clause) → ClauseUnder w.next_fresh c → Rewrites w c c
  stays w c u = record { under = u; heads = refl; gets = λ k _ h. h; says = λ k _ h. h }

  reduced : (w : Naming) (c : Clause) (b : List Atom) → ClauseUnder w.next_fresh c → Split I c.body 0 (head_vars c.head) w b → Rewrites w c (clause b c.head)
  reduced w c b u S = record {
    under = record { body = each_of_lem (λ a g. g.0) b S.good; head = u.head };
    heads = refl;
    gets = λ k n h. record {
      follows = λ f d e.
          let z = S.gets k n f d e in
          sym (any_alike (with_classes I k) z.to f c.head (λ v q. known_same z v (heads_has [] c.head v q))) ∙ h.follows z.to z.choice z.holds;
    };
    says = λ k n h. record { follows = λ f d e. h.follows f d (S.says k n f d e) };
  }

  record RewroteOne (w : Naming) (r : Rewritten) (c : Clause) (q : Rewritten) (u : Naming) : Type 0 where
    step : Step base w u
    to : Clause
    grown : q.clauses ≡ r.clauses ++ (to ∷ [])
    is : Rewrites u c to

  rewrite_one : (w : Naming) (r : Rewritten) (c : Clause) (b : Bool) → Chain base w.named w.next_fresh → ClauseUnder w.next_fresh c → Post (RewroteOne w r c) (decompose_one r c b w)
  rewrite_one w r c true h u = give (record { step = step_refl w h; to = c; grown = refl; is = stays w c u })
  rewrite_one w r c false h u =
      post_then (names_by I base (suc (length c.body)) c.body 0 (head_vars c.head) w h u.body) (λ o z A. give (of o z A.step A.split))
    where
      of : (o : Option (List Atom)) (z : Naming) → Step base w z → Given (Split I c.body 0 (head_vars c.head) z) o → RewroteOne w r c (rewrite r c o) z
      of none z s nothing = record { step = s; to = c; grown = refl; is = stays z c (clause_under_more s.fresh c u) }
      of (some b) z s (given S) = record { step = s; to = clause b c.head; grown = refl; is = reduced z c b (clause_under_more s.fresh c u) S }

  -- ---- all clauses
  record RewroteAll (w : Naming) (r : Rewritten) (l : List Clause) (q : Rewritten) (u : Naming) : Type 0 where
    step : Step base w u
    to : List Clause
    grown : q.clauses ≡ r.clauses ++ to
    under : Each (ClauseUnder u.next_fresh) to
    heads : map head_of to ≡ map head_of l
    gets : (k : Valuation) → AllRight I k u → Each (Follows (with_classes I k)) l → Each (Follows (with_classes I k)) to
    says : (k : Valuation) → AllFollow I k u → Each (Follows (with_classes I k)) to → Each (Follows (with_classes I k)) l

  rewrite_all : (w : Naming) (r : Rewritten) (l : List Clause) → Chain base w.named w.next_fresh → Each (ClauseUnder w.next_fresh) l → Post (RewroteAll w r l) (decompose_from r l w)
  unfolding decompose_from
  rewrite_all w r [] h e = give (record { step = step_refl w h; to = []; grown = sym (append-nil r.clauses); under = tt; heads = refl; gets = λ k _ _. tt; says = λ k _ _. tt })
  rewrite_all w r (c ∷ l) h e =
      post_then (rewrite_one w r c (stays_whole c.body) h e.0) (λ q u A.
      post_map (rewrite_all u q l A.step.chain (each_of_lem (clause_under_more A.step.fresh) l e.1)) (λ p z B. record {
        step = step_trans A.step B.step;
        to = A.to ∷ B.to;
        grown = B.grown ∙ ap (λ y. y ++ B.to) A.grown ∙ append_assoc r.clauses (A.to ∷ []) B.to;
        under = (clause_under_more B.step.fresh A.to A.is.under, B.under);
        heads = ap₂ ◌∷◌ A.is.heads B.heads;
        gets = λ k n f. (A.is.gets k (step_each (Right I k) B.step n) f.0, B.gets k n f.1);
        says = λ k n f. (A.is.says k (step_each (λ b. Follows (with_classes I k) (branch_clause b)) B.step n) f.0, B.says k n f.1);
      }))

-- ---- decompose_wide_bodies
abbrev unnamed : Out → Naming
unnamed s = record { next_fresh = s.next_fresh; named = [] }

abbrev unwritten : Rewritten
unwritten = record { clauses = []; count = 0 }

decomposed : (I : Interpretation) (s : Out) (fresh : ℕ) (l : List Branch) → Each (ClauseUnder s.next_fresh) s.clauses
    → (q : Rewritten) → RewroteAll I s.next_fresh (unnamed s) unwritten s.clauses q (record { next_fresh = fresh; named = l })
    → Decomposed I s (out s.visits s.limit s.next_var fresh (q.clauses ++ map branch_clause l) s.deferrals s.line s.limits)
decomposed I s fresh l u q A = record {
  names = l;
  fresh = A.step.fresh;
  visits = refl;
  deferrals = refl;
  under = subst (λ c. Each (ClauseUnder fresh) (c ++ map branch_clause l)) (sym A.grown)
      (each_append (ClauseUnder fresh) A.to (map branch_clause l) A.under (named_under s.next_fresh fresh l A.step.chain));
  heads = ap (λ c. map head_of (c ++ map branch_clause l)) A.grown ∙ map-append head_of A.to (map branch_clause l) ∙ ap₂ ◌++◌ A.heads (named_heads l);
  gets = λ k f.
      let k' = filled I k l in
      let a : Agree s.next_fresh k k' = filled_agrees I s.next_fresh fresh l A.step.chain k in
      let n : Each (Right I k') l = filled_right I s.next_fresh fresh l A.step.chain k in (
        k',
        a,
        subst (λ c. Each (Follows (with_classes I k')) (c ++ map branch_clause l)) (sym A.grown)
            (each_append (Follows (with_classes I k')) A.to (map branch_clause l) (A.gets k' n (follow_agree I a s.clauses u f))
            (each_mapped (Right I k') (Follows (with_classes I k')) branch_clause (right_follows I k') l n)),
      );
  says = λ k f.
      let g : Each (Follows (with_classes I k)) (A.to ++ map branch_clause l) = subst (λ c. Each (Follows (with_classes I k)) (c ++ map branch_clause l)) A.grown f in
      A.says k (each_unmapped (Follows (with_classes I k)) branch_clause l (each_right (Follows (with_classes I k)) A.to (map branch_clause l) g))
      (each_left (Follows (with_classes I k)) A.to (map branch_clause l) g);
}

pub decompose_means : (I : Interpretation) (env : Env) (s : Out) → Each (ClauseUnder s.next_fresh) s.clauses → Post (λ n t. Decomposed I s t) (decompose_wide_bodies env s)
unfolding decompose_wide_bodies
decompose_means I env s u =
    go (rewrite_all I s.next_fresh (unnamed s) unwritten s.clauses (le_refl s.next_fresh) u)
  where
    fits : (q : Rewritten) (w : Naming) (b : Bool)
        → RewroteAll I s.next_fresh (unnamed s) unwritten s.clauses q w
        → Post (λ n t. Decomposed I s t) (finished_in s w.next_fresh (q.clauses ++ map branch_clause w.named) q.count b)
    fits q w true A = give (decomposed I s w.next_fresh w.named u q A)
    fits q w false A = refuses

    go : {r : Res Naming Rewritten} → Post (RewroteAll I s.next_fresh (unnamed s) unwritten s.clauses) r
        → Post (λ n t. Decomposed I s t) (decomposed_in env s r)
    go (gives {a = q} {s = w} A) =
        fits q w (leb (length (q.clauses ++ map branch_clause w.named)) env.rooms.clauses && leb (total (q.clauses ++ map branch_clause w.named)) env.rooms.atoms) A
    go refuses = refuses
