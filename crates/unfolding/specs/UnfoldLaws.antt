-- One body atom of a clause of the tables: contracted along it, if that is new. Assumes nothing.
use Rattle.std.specs.Prelude.{◌≡◌, Bool, ◌||◌, ℕ, suc, ◌+◌, ◌*◌, ◌-◌, ◌<◌, ◌≤◌, eqb, get_or, take, drop}
use Rattle.std.proofs.Math.Path.{refl, sym, ap, subst}
use Rattle.std.proofs.Common.{◌∙◌, arith, length-append, length-take-le}
use Rattle.std.proofs.Math.Bool.{true, false}
use mathlib.Core.List.{List, ◌∷◌, ◌++◌}
use Rattle.std.proofs.Math.ListN.{length}
use Rattle.std.proofs.Math.Seq.{split_at}
use Rattle.ir.specs.Roles.{role_id}
use Rattle.ir.specs.Scratch.{hands_at}
use Rattle.ir.specs.declared.counters.Counters.{Counters}
use Rattle.ir.specs.declared.role.Role.{Role}
use Rattle.ir.specs.declared.atom.Atom.{Atom}
use Rattle.ir.specs.declared.atom.Atom.TheVariants.{Class, Exists, AtMost, AtLeast, Equal, Role as RoleAtom}
use Rattle.rules.specs.Base.{Res, contains}
use Rattle.rules.specs.State.{Env, Out, Clause, clause}
use Rattle.rules.specs.Invariants.{Bounds, ClauseIn}
use Rattle.rules.specs.Reflexive.{reflexive_derived_cap, Derived, is_reflexive, contracted, is_trivial, contains_clause, derive, derive_new, contract}
use Rattle.rules.specs.Reflexive.{Unfolded as Turned}
use Rattle.rules.proofs.ReflexiveLaws.{contracted_in}
use Rattle.rules.specs.EachLaws.{each_nth}
use Rattle.tables.specs.Good.{Good}
use Rattle.tables.specs.Tabled.{body_count, head_count, Run, no_clause, Tabled}
use Rattle.tables.specs.AtomLaws.{no_atom}
use Rattle.tables.specs.ClauseLaws.{show_tabled, tabled_same}
use Rattle.reflexive.specs.Flags.{FlagsHeld}
use Rattle.hands.specs.Hands.{Four, four}
use Rattle.leaves.specs.StepLaws.{alike_same}
use Rattle.contraction.specs.InHands.{ClauseInHand, HandThere}
use Rattle.contraction.specs.Passes.{Standing}
use Rattle.contraction.specs.PlainLaws.{plain_clause}
use Rattle.unfolding.specs.Unfolding.{Unfolded}
use Rattle.unfolding.specs.Unfolding.{More}
use Rattle.unfolding.specs.Unfolding.{unfold_one, Counted, Stands, Follows, Moved, Unfolds, Between, Answered}
use Rattle.unfolding.specs.ClauseLaws.{standing_at, standing_in, standing_placed}
use Rattle.unfolding.specs.QueueLaws.{one_other}
use Rattle.unfolding.specs.DeriveLaws.{below_hand, stands_kept, stays}
use Rattle.unfolding.specs.FlagSet.{flag_set, flag_set_lem, flags_kept}

-- a role atom over a reflexive role
record Roled (roles : List ℕ) (x : Atom) : Type 0 where
  role : Role
  src : ℕ
  tgt : ℕ
  is : x ≡ RoleAtom role src tgt
  has : contains roles (role_id role) ≡ true

roled : (roles : List ℕ) (x : Atom) → is_reflexive roles x ≡ true → Roled roles x
roled roles (Class k v) e = absurd (let z : ◌≡◌ {A = ℕ} 0 1 = cc in omega arith)
roled roles (RoleAtom r u v) e = record { role = r; src = u; tgt = v; is = refl; has = e }
roled roles (Exists r k v) e = absurd (let z : ◌≡◌ {A = ℕ} 0 1 = cc in omega arith)
roled roles (AtMost r q n v) e = absurd (let z : ◌≡◌ {A = ℕ} 0 1 = cc in omega arith)
roled roles (AtLeast r q n v) e = absurd (let z : ◌≡◌ {A = ℕ} 0 1 = cc in omega arith)
roled roles (Equal u v) e = absurd (let z : ◌≡◌ {A = ℕ} 0 1 = cc in omega arith)

between_hand : (w w' : List ℕ) → take hands_at w' ≡ take hands_at w → Between w w'
between_hand w w' e j h l = below_hand w w' e j l

-- ---- clause `number` of the tables, the part bs that its body is, and body atom i
module _ (k : Counters) (c a : List ℕ) (S : Standing k c a) (number : ℕ) (h : number < k.clauses) (bs : List ℕ) (B : Run bs (standing_at k c a S number h).body) (i : ℕ) (lt : i < body_count c number) where
  abbrev here : Clause
  here = standing_at k c a S number h

  body_long : body_count c number ≡ length here.body
  body_long = (standing_placed k c a S number h).body

  head_long : head_count c number ≡ length here.head
  head_long = (standing_placed k c a S number h).head

  pub atom_in_lem : 24 * i < length bs
  atom_in_lem = omega (arith, body_long, lt, B.long)

  pub record Split (before after head : List Atom) (x : Atom) : Type 0 where
    pub is : here ≡ clause (before ++ (x ∷ after)) head
    pub at : i ≡ length before

  -- there is one
  split : Split (take i here.body) (drop (suc i) here.body) here.head (get_or here.body i no_atom)
  split =
      let l : i < length here.body = omega (arith, body_long) in
      record { is = ap (λ (b : List Atom). clause b here.head) (split_at here.body i no_atom l); at = sym (length-take-le i here.body (omega arith)) }

  split_run : (before after head : List Atom) (x : Atom) → Split before after head x → Run bs (before ++ (x ∷ after))
  split_run before after head x P = subst (λ (z : Clause). Run bs z.body) P.is B

  -- a split of a drawn state's clause
  module _ (env : Env) (roles : List ℕ) (originals left n : ℕ) (w d : List ℕ) (v : Derived) (s : Out) (T : Stands env roles originals left k (four w c a d) n v s) (C : Counted originals k n)
      (before after head : List Atom) (x : Atom) (es : get_or s.clauses number no_clause ≡ clause (before ++ (x ∷ after)) head) (ei : i ≡ length before) where
    same_list : s.clauses ≡ S.list
    same_list = tabled_same c a k.clauses s.clauses S.list (show_tabled env k c a d s T.drawn) S.tabled

    drawn_split : Split before after head x
    drawn_split = record { is = ap (λ (l : List Clause). get_or l number no_clause) (sym same_list) ∙ es; at = ei }

    -- an atom along which nothing is contracted
    pub unfold_other : (b : Bool) → ((set : List ℕ) (f l : List Atom) (y : Atom) → FlagsHeld w set → Run bs (f ++ (y ∷ l)) → i ≡ length f → b ≡ is_reflexive set y) → b ≡ false → FlagsHeld w roles
        → Moved env roles originals left k n (four w c a d) v s (unfold_one env roles before after head x v s) k n
    unfold_other b R e F =
        let q : is_reflexive roles x ≡ false = sym (R roles before after x F (split_run before after head x drawn_split) ei) ∙ e in
        stays env roles originals left k n w c a d v s T C w (λ j l. refl) (unfold_one env roles before after head x v s) (one_other env roles before after head x v s q)

  -- ---- contracted along it; hs: the part that its head is
  module _ (w : List ℕ) (b : Bool) (R : (set : List ℕ) (f l : List Atom) (y : Atom) → FlagsHeld w set → Run bs (f ++ (y ∷ l)) → i ≡ length f → b ≡ is_reflexive set y) (yes : b ≡ true) (hs : List ℕ) (H : Run hs here.head) (w1 : List ℕ)
      (P : (f l m : List Atom) (r : Role) (src tgt : ℕ) → Run bs (f ++ (RoleAtom r src tgt ∷ l)) → Run hs m → i ≡ length f → ClauseInHand w1 (length f + length l) (length m) (contracted f l m src tgt))
      (fr : take hands_at w1 ≡ take hands_at w) (nb nh : ℕ) (eb : nb ≡ body_count c number) (eh : nh ≡ head_count c number) where
    record Made (roles : List ℕ) (before after head : List Atom) (x : Atom) : Type 0 where
      roled : Roled roles x
      hand : ClauseInHand w1 (nb - 1) nh (contracted before after head roled.src roled.tgt)

    made : (roles : List ℕ) (before after head : List Atom) (x : Atom) → FlagsHeld w roles → Split before after head x → Made roles before after head x
    made roles before after head x F Q =
        let q : is_reflexive roles x ≡ true = sym (R roles before after x F (split_run before after head x Q) Q.at) ∙ yes in
        let r = roled roles x q in
        let e : here ≡ clause (before ++ (RoleAtom r.role r.src r.tgt ∷ after)) head = Q.is ∙ ap (λ (y : Atom). clause (before ++ (y ∷ after)) head) r.is in
        let m = ap (λ (z : Clause). length z.body) e in
        let g = length-append before (RoleAtom r.role r.src r.tgt ∷ after) in
        let n : nb - 1 ≡ length before + length after = omega (arith, eb, body_long, m, g) in
        let o : nh ≡ length head = eh ∙ head_long ∙ ap (λ (z : Clause). length z.head) e in
        record {
          roled = r;
          hand = rw (n, o) (P before after head r.role r.src r.tgt (subst (λ (z : Clause). Run bs z.body) e B) (subst (λ (z : Clause). Run hs z.head) e H) Q.at);
        }

    contracted_of : (X : Bounds) (fresh vars : ℕ) (roles : List ℕ) (before after head : List Atom) (x : Atom) (r : Roled roles x) → ClauseIn X fresh vars (clause (before ++ (x ∷ after)) head) → ClauseIn X fresh vars (contracted before after head r.src r.tgt)
    contracted_of X fresh vars roles before after head x r I = contracted_in X fresh vars r.role before after head r.src r.tgt (subst (λ (y : Atom). ClauseIn X fresh vars (clause (before ++ (y ∷ after)) head)) r.is I)

    pub hand_short : (nb - 1 ≤ 256) × (nh ≤ 256)
    hand_short = let I = standing_in k c a S number h in (omega (arith, eb, body_long, I.body_short), omega (arith, eh, head_long, I.head_short))

    -- a clause is in hand, whatever the flags
    pub hand_there : HandThere w1 (nb - 1) nh
    hand_there =
        let x : Atom = get_or here.body i no_atom in
        let M = made (flag_set w) (take i here.body) (drop (suc i) here.body) here.head x (flag_set_lem w) split in
        let I = standing_in k c a S number h in
        let J = contracted_of S.bounds S.fresh S.vars (flag_set w) (take i here.body) (drop (suc i) here.body) here.head x M.roled (subst (ClauseIn S.bounds S.fresh S.vars) split.is I) in
        record {
          clause = contracted (take i here.body) (drop (suc i) here.body) here.head M.roled.src M.roled.tgt;
          there = M.hand;
          short = hand_short;
          plain = plain_clause S.bounds S.fresh S.vars S.roles S.classes (contracted (take i here.body) (drop (suc i) here.body) here.head M.roled.src M.roled.tgt) J;
        }

    module _ (env : Env) (roles : List ℕ) (originals left n : ℕ) (d : List ℕ) (v : Derived) (s : Out) (T : Stands env roles originals left k (four w c a d) n v s) (C : Counted originals k n)
        (before after head : List Atom) (x : Atom) (es : get_or s.clauses number no_clause ≡ clause (before ++ (x ∷ after)) head) (ei : i ≡ length before) (F : FlagsHeld w roles) where
      M : Made roles before after head x
      M = made roles before after head x F (drawn_split env roles originals left n w d v s T C before after head x es ei)

      abbrev z : Clause
      z = contracted before after head M.roled.src M.roled.tgt

      flags : FlagsHeld w1 roles
      flags = flags_kept w w1 roles (between_hand w w1 fr) F

      kept : (j : ℕ) → j < n → get_or w1 j 0 ≡ get_or w j 0
      kept j l = below_hand w w1 fr j (omega (arith, C.first, C.cap, C.within))

      stands : Stands env roles originals left k (four w1 c a d) n v s
      stands = stands_kept env roles originals left k n w c a d v s T C w1 kept

      seen_is : v.seen ≡ drop originals s.clauses
      seen_is = T.seen

      rule : (p q : Bool) → is_trivial roles z ≡ p → contains_clause v.seen z ≡ q → unfold_one env roles before after head x v s ≡ derive_new env roles z v (p || q) s
      unfolding contract
      rule p q ep eq =
          ap (λ (y : Atom). unfold_one env roles before after head y v s) M.roled.is ∙ rw (M.roled.has, ep, eq) refl

      module _ (p : Bool) (triv : (set : List ℕ) (y : Clause) → FlagsHeld w1 set → ClauseInHand w1 (nb - 1) nh y → p ≡ is_trivial set y) where
        trivial_is : is_trivial roles z ≡ p
        trivial_is = sym (triv roles z flags M.hand)

        -- it always holds
        pub unfold_trivial : p ≡ true → Moved env roles originals left k n (four w1 c a d) v s (unfold_one env roles before after head x v s) k n
        unfold_trivial e = stays env roles originals left k n w c a d v s T C w1 kept (unfold_one env roles before after head x v s) (rule true (contains_clause v.seen z) (trivial_is ∙ e) refl)

        module _ (no : p ≡ false) (q : Bool) (G : (l : List Clause) (y : Clause) → Tabled c a k.clauses l → ClauseInHand w1 (nb - 1) nh y → q ≡ contains_clause (drop originals l) y) where
          among_is : contains_clause v.seen z ≡ q
          among_is = ap (λ (l : List Clause). contains_clause l z) seen_is ∙ sym (G s.clauses z (show_tabled env k c a d s T.drawn) M.hand)

          -- it was derived before
          pub unfold_among : q ≡ true → Moved env roles originals left k n (four w1 c a d) v s (unfold_one env roles before after head x v s) k n
          unfold_among e = stays env roles originals left k n w c a d v s T C w1 kept (unfold_one env roles before after head x v s) (rule false true (trivial_is ∙ no) (among_is ∙ e))

          -- it is new
          pub unfold_new : q ≡ false → (y : Four) (r : Unfolded)
              → ((x' : Clause) → Stands env roles originals left k (four w1 c a d) n v s → ClauseInHand w1 (nb - 1) nh x' → Follows s x' → Unfolds env roles originals left k n y v s (derive env roles x' v (eqb (length v.seen) reflexive_derived_cap) s) r)
              → Unfolds env roles originals left k n y v s (unfold_one env roles before after head x v s) r
          unfold_new e y r D =
              subst (λ (u : Res Out Turned). Unfolds env roles originals left k n y v s u r) (sym (rule false false (trivial_is ∙ no) (among_is ∙ e)))
              (D z stands M.hand (λ X fresh vars I. contracted_of X fresh vars roles before after head x M.roled (subst (ClauseIn X fresh vars) es (each_nth (ClauseIn X fresh vars) s.clauses number no_clause I (omega (arith, h, (show_tabled env k c a d s T.drawn).count))))))

-- ---- the answer, where only what is in hand was written
pub answered_same : (k : Counters) (w w' : List ℕ) (n : ℕ) → Good k → take hands_at w' ≡ take hands_at w → Answered k w w' (More k n)
answered_same k w w' n g e = record { good = g; kept = alike_same k; between = between_hand w w' e }

pub answered_then : (k : Counters) (w w1 w2 : List ℕ) (r : Unfolded) → take hands_at w1 ≡ take hands_at w → Answered k w1 w2 r → Answered k w w2 r
answered_then k w w1 w2 r e A = record { good = A.good; kept = A.kept; between = λ j h l. A.between j h l ∙ below_hand w w1 e j l }
