-- One head atom: what is read of it, the loop that it gives, and what stands in the tables after it. Assumes nothing.
use Rattle.std.specs.Prelude.{◌≡◌, true, None, Some, List, [], ◌∷◌, ◌++◌, ℕ, suc, ◌+◌, ◌*◌, ◌/◌, ◌<◌, ◌≤◌, length, get_or, take, drop}
use Rattle.std.proofs.Math.Path.{refl}
use Rattle.std.proofs.Common.{sym, subst, ◌∙◌, arith, lt-ltb, le-ltb, length-append, get_or-take, length-take-le}
use Prim.{tt}
use Rattle.std.proofs.Math.Seq.{split_at}
use Rattle.words.specs.Words.{words}
use Rattle.ir.specs.Qualifiers.{Qualifier}
use Rattle.ir.specs.Roles.{role_id, role_code, role_of, role_code_lem}
use Rattle.ir.specs.Records.{six, words_of, atom_at, Read}
use Rattle.ir.specs.declared.role.Role.{Role}
use Rattle.ir.specs.declared.counters.Counters.{Counters}
use Rattle.ir.specs.declared.atom.Atom.{Atom}
use Rattle.ir.specs.declared.atom.Atom.TheVariants.{Class, Exists, AtMost, AtLeast, Equal, Role as RoleAtom}
use Rattle.rules.specs.Base.{ok, refused, contains}
use Rattle.rules.specs.State.{Clause, Env, Out, with}
use Rattle.rules.specs.Invariants.{Bounds, AtomIn, ClauseIn}
use Rattle.rules.specs.Deck.{most_roles}
use Rattle.rules.proofs.BoundLaws.{clauses_grow}
use Rattle.rules.specs.Reflexive.{contains_clause, next_var_of}
use Rattle.rules.proofs.ReflexiveLaws.{loop_clause, loop_in, next_var_below}
use Rattle.rules.specs.EachLaws.{each_nth}
use Rattle.tables.specs.Tabled.{body_count, head_count, At, Run, no_clause, ClauseAt, Tabled, ClauseThere}
use Rattle.tables.specs.ClauseLaws.{clause_at}
use Rattle.tables.specs.AtomLaws.{kind_is, role_is, source_is, read_is, run_nth}
use Rattle.hands.specs.Hands.{InHand}
use Rattle.contraction.specs.InHands.{hand_at, ClauseInHand, HandThere}
use Rattle.contraction.specs.PlainLaws.{plain_in, plain_clause}
use Rattle.contraction.specs.FlagWords.{code_small}
use Rattle.counted.specs.StandingLaws.{nth}
use Rattle.counted.specs.SelfLoops.{push_new, push_over, push_of, Looping}
use Rattle.counted.specs.LoopingLaws.{looping_tabled, looping_within}
use Rattle.counted.specs.VarLaws.{VarsThere}
use Rattle.reflexive.specs.IdLaws.{code_id}

abbrev pub head_at : Clause → ℕ → Atom
head_at x j = get_or x.head j (Equal 0 0)

-- clause i is x, and its head atom j stands in the part hs
pub record Row (c a hs : List ℕ) (i j : ℕ) (x : Clause) : Type 0 where
  pub placed : ClauseAt c a i x
  pub below : j < length x.head
  pub atom : At (words hs) (6 * j) (six (head_at x j))

pub row_at_lem : (c a hs : List ℕ) (i j : ℕ) → ((x : Clause) → ClauseAt c a i x → Run hs x.head) → j < head_count c i → (n : ℕ) (l : List Clause) → Tabled c a n l → i < n → Row c a hs i j (nth l i)
row_at_lem c a hs i j H lj n l T li =
    let C = clause_at c a n l T i li in
    let h : j < length (nth l i).head = omega (arith, C.head) in
    record { placed = C; below = h; atom = run_nth hs (nth l i).head j (H (nth l i) C) h }

-- an at-most atom, its role's code and its variable, as read
pub record Atom4 (hs : List ℕ) (j code v : ℕ) : Type 0 where
  pub kind_is : get_or (words hs) (6 * j) 0 ≡ 4
  pub code_is : code ≡ get_or (words hs) (6 * j + 1) 0
  pub var_is : v ≡ get_or (words hs) (6 * j + 4) 0

pub record AtomIs (x : Atom) (code v : ℕ) : Type 0 where
  pub kind_is : (words_of x).0 ≡ 4
  pub code_is : code ≡ (words_of x).1
  pub var_is : v ≡ (words_of x).4

-- any other
not_four : (x : Atom) → ((q : Role) (u : Qualifier) (n v : ℕ) → x ≡ AtMost q u n v → ⊥) → get_or (six x) 0 0 ≡ 4 → ⊥
not_four (Class _ _) f h = omega arith
not_four (RoleAtom _ _ _) f h = omega arith
not_four (Exists _ _ _) f h = omega arith
not_four (AtMost q u n v) f h = f q u n v refl
not_four (AtLeast _ _ _ _) f h = omega arith
not_four (Equal _ _) f h = omega arith

-- the loop in hand, as it was made of clause i
pub record Made (c a w : List ℕ) (i code v fresh : ℕ) : Type 0 where
  pub var : (x : Clause) → ClauseAt c a i x → fresh ≡ next_var_of x
  pub hand : (x : Clause) → ClauseAt c a i x → InHand w hand_at (length x.body + 1 + 1) ((x.body ++ (RoleAtom (role_of code) v fresh ∷ [])) ++ (RoleAtom (role_of code) v v ∷ []))

module _ (c a hs : List ℕ) (i j : ℕ) (x : Clause) (R : Row c a hs i j x) where
  pub row_kind : get_or (words hs) (6 * j) 0 ≡ (words_of (head_at x j)).0
  row_kind = kind_is (words hs) j (head_at x j) R.atom

  pub row_atom : (code v : ℕ) → Atom4 hs j code v → AtomIs (head_at x j) code v
  row_atom code v A = record {
    kind_is = sym row_kind ∙ A.kind_is;
    code_is = A.code_is ∙ role_is (words hs) j (head_at x j) R.atom;
    var_is = A.var_is ∙ source_is (words hs) j (head_at x j) R.atom;
  }

pub loop_held : (c a w : List ℕ) (i code v fresh nb : ℕ) (x : Clause) → nb ≡ body_count c i → ClauseAt c a i x → Made c a w i code v fresh → ClauseInHand w (nb + 1) 1 (loop_clause x (role_of code) v)
loop_held c a w i code v fresh nb x eb C M =
    let n : nb ≡ length x.body = eb ∙ C.body in
    record {
      body = omega (arith, n, length-append x.body (RoleAtom (role_of code) v (next_var_of x) ∷ []));
      head = refl;
      hand = rw n (subst (λ (f : ℕ). InHand w hand_at (length x.body + 1 + 1) ((x.body ++ (RoleAtom (role_of code) v f ∷ [])) ++ (RoleAtom (role_of code) v v ∷ []))) (M.var x C) (M.hand x C));
    }

-- ---- by the atom's kind
module _ (env : Env) (set : List ℕ) (from : ℕ) (c : Clause) (s : Out) where
  pub other_kind : (x : Atom) → ((words_of x).0 ≡ 4 → ⊥) → push_of env set from c x s ≡ ok tt s
  other_kind (Class _ _) h = refl
  other_kind (RoleAtom _ _ _) h = refl
  other_kind (Exists _ _ _) h = refl
  other_kind (AtMost _ _ _ _) h = absurd (h refl)
  other_kind (AtLeast _ _ _ _) h = refl
  other_kind (Equal _ _) h = refl

  pub at_most : (x : Atom) → (words_of x).0 ≡ 4 → push_of env set from c x s ≡ push_over env set from c (role_of (words_of x).1) (words_of x).4 (contains set ((words_of x).1 / 2)) s
  at_most (Class _ _) h = absurd (omega arith)
  at_most (RoleAtom _ _ _) h = absurd (omega arith)
  at_most (Exists _ _ _) h = absurd (omega arith)
  at_most (AtMost r q n v) h = rw (role_code_lem r, code_id r) refl
  at_most (AtLeast _ _ _ _) h = absurd (omega arith)
  at_most (Equal _ _) h = absurd (omega arith)

  module _ (r : Role) (v : ℕ) where
    pub over_long : 256 ≤ length c.body → push_over env set from c r v true s ≡ refused 12
    unfolding with
    over_long h = rw (le-ltb (length c.body) 256 h) refl

    pub over_short : length c.body < 256 → push_over env set from c r v true s ≡ push_new env set from (loop_clause c r v) s (contains_clause (drop from s.clauses) (loop_clause c r v))
    unfolding with
    over_short h = rw (lt-ltb (length c.body) 256 h) refl

-- the loop is within the bounds
pub loop_within : (B : Bounds) (fresh vars : ℕ) (c : Clause) (before after : List Atom) (x : Atom) → c.head ≡ before ++ (x ∷ after) → (words_of x).0 ≡ 4 → length c.body < 256
    → ClauseIn B fresh vars c → ClauseIn B fresh (vars + 1) (loop_clause c (role_of (words_of x).1) (words_of x).4)
loop_within B fresh vars c before after (Class _ _) e h l p = absurd (omega arith)
loop_within B fresh vars c before after (RoleAtom _ _ _) e h l p = absurd (omega arith)
loop_within B fresh vars c before after (Exists _ _ _) e h l p = absurd (omega arith)
loop_within B fresh vars c before after (AtMost r q n v) e h l p = subst (λ (z : Role). ClauseIn B fresh (vars + 1) (loop_clause c z v)) (sym (role_code_lem r)) (loop_in B fresh vars c before after r q n v e l p)
loop_within B fresh vars c before after (AtLeast _ _ _ _) e h l p = absurd (omega arith)
loop_within B fresh vars c before after (Equal _ _) e h l p = absurd (omega arith)

-- ---- the tables while loops are pushed
module _ (k : Counters) (c a : List ℕ) (from : ℕ) (L : Looping k c a from) (i : ℕ) (li : i < from) where
  abbrev here : Clause
  here = nth L.list i

  inside : ClauseIn L.bounds L.fresh L.vars (nth L.list i)
  inside = subst (ClauseIn L.bounds L.fresh L.vars) (get_or-take from L.list i no_clause li)
      (each_nth (ClauseIn L.bounds L.fresh L.vars) (take from L.list) i no_clause L.old (omega (arith, length-take-le from L.list L.within)))

  pub looping_there : ClauseThere c a i
  looping_there = record { clause = here; is = clause_at c a k.clauses L.list (looping_tabled k c a from L) i (omega (arith, looping_within k c a from L)) }

  -- all its atoms
  pub vars_there : (s : List ℕ) → Run s (looping_there.clause.body ++ looping_there.clause.head) → VarsThere s
  unfolding looping_there
  vars_there s R =
      let g : ClauseIn L.bounds L.fresh (L.vars + 1) here = (clauses_grow L.bounds {fresh = L.fresh} {fresh' = L.fresh} {vars = L.vars} {vars' = L.vars + 1} (omega arith) (omega arith) (here ∷ []) (inside, tt)).0 in
      let m : next_var_of here < L.vars + 1 + 1 = next_var_below L.bounds L.fresh (L.vars + 1) here (omega arith) g in
      record { atoms = here.body ++ here.head; run = R; small = omega (arith, m, L.few) }

  -- head atom j
  module _ (hs : List ℕ) (H : (x : Clause) → ClauseAt c a i x → Run hs x.head) (j : ℕ) (lj : j < head_count c i) where
    row : Row c a hs i j here
    row = row_at_lem c a hs i j H lj k.clauses L.list (looping_tabled k c a from L) (omega (arith, looping_within k c a from L))

    pub atom_room : 24 * j + 24 ≤ length hs
    atom_room = omega (arith, row.below, (H here row.placed).long)

    -- as it was read
    module _ (r : Read) (er : r ≡ atom_at (words hs) j) where
      pub read_no : r ≡ None → ⊥
      read_no e =
          let z : Some (head_at here j) ≡ None = sym (read_is (words hs) j (head_at here j) row.atom) ∙ sym er ∙ e in
          let y : ◌≡◌ {A = ℕ} 0 1 = cc in
          omega arith

      module _ (x : Atom) (e : r ≡ Some x) where
        read_head : head_at here j ≡ x
        read_head = let z : Some (head_at here j) ≡ Some x = sym (read_is (words hs) j (head_at here j) row.atom) ∙ sym er ∙ e in cc

        stands : At (words hs) (6 * j) (six x)
        stands = subst (λ (y : Atom). At (words hs) (6 * j) (six y)) read_head row.atom

        pub read_other : ((q : Role) (u : Qualifier) (n v : ℕ) → x ≡ AtMost q u n v → ⊥) → get_or (words hs) (6 * j) 0 ≡ 4 → ⊥
        read_other f h = not_four x f (sym (kind_is (words hs) j x stands) ∙ h)

        module _ (q : Role) (u : Qualifier) (n v : ℕ) (f : x ≡ AtMost q u n v) where
          pub read_at_most : Atom4 hs j (role_code q) v
          read_at_most =
              let K : At (words hs) (6 * j) (six (AtMost q u n v)) = subst (λ (y : Atom). At (words hs) (6 * j) (six y)) f stands in
              record {
                kind_is = kind_is (words hs) j (AtMost q u n v) K;
                code_is = sym (role_is (words hs) j (AtMost q u n v) K);
                var_is = sym (source_is (words hs) j (AtMost q u n v) K);
              }

          pub role_small : role_id q < most_roles
          role_small =
              let P = plain_in L.bounds L.fresh L.vars L.roles L.classes (head_at here j) (each_nth (AtomIn L.bounds L.fresh L.vars) here.head j (Equal 0 0) inside.head_in row.below) in
              code_small q (subst (λ (y : Atom). get_or (six y) 1 0 < 2 * most_roles) (read_head ∙ f) P.role)

    -- the loop of an at-most atom, where the body is short enough, in hand
    module _ (code v fresh : ℕ) (w : List ℕ) (A : Atom4 hs j code v) (nb : ℕ) (eb : nb ≡ body_count c i) (short : nb < 256) (M : Made c a w i code v fresh) where
      pub loop_bounded : ClauseIn L.bounds L.fresh (L.vars + 1) (loop_clause (nth L.list i) (role_of code) v)
      loop_bounded =
          let q = row_atom c a hs i j here row code v A in
          subst (λ (z : ℕ). ClauseIn L.bounds L.fresh (L.vars + 1) (loop_clause here (role_of z) v)) (sym q.code_is)
          (subst (λ (z : ℕ). ClauseIn L.bounds L.fresh (L.vars + 1) (loop_clause here (role_of (words_of (head_at here j)).1) z)) (sym q.var_is)
          (loop_within L.bounds L.fresh L.vars here (take j here.head) (drop (suc j) here.head) (head_at here j) (split_at here.head j (Equal 0 0) row.below) q.kind_is (omega (arith, eb, row.placed.body)) inside))

      pub loop_there : HandThere w (nb + 1) 1
      loop_there = record {
        clause = loop_clause here (role_of code) v;
        there = loop_held c a w i code v fresh nb here eb row.placed M;
        short = (omega arith, omega arith);
        plain = plain_clause L.bounds L.fresh (L.vars + 1) L.roles L.classes (loop_clause here (role_of code) v) loop_bounded;
      }
