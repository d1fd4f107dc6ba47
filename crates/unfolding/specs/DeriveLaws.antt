-- One derived clause: put into the tables and on the queue, or the cap. Assumes nothing.
use Rattle.std.specs.Prelude.{◌≡◌, refl, Bool, true, false, ◌&&◌, List, [], ◌∷◌, ◌++◌, ℕ, ◌+◌, ◌-◌, ◌<◌, ◌≤◌, eqb, ltb, leb, length, get_or, set, take, drop}
use Rattle.std.proofs.Common.{sym, ap, subst, ◌∙◌, append-nil, arith, eq-eqb, ne_eqb, eqb-true, length-append, length-drop, get_or-set_same, get_or-set_other, get_or-take}
use Prim.{Unit}
use Rattle.std.proofs.lemmas.Bool.{eqb-false}
use Rattle.std.proofs.lemmas.List.{drop-append-le}
use Rattle.ir.specs.Scratch.{hands_at}
use Rattle.ir.specs.declared.counters.Counters.{Counters}
use Rattle.ir.specs.Answer.{Answer}
use Rattle.ir.specs.Answer.{Done, Refused}
use Rattle.ir.specs.declared.atom.Atom.{Atom}
use Rattle.ir.specs.declared.deferral.Deferral.{Deferral}
use Rattle.ir.specs.declared.deferral.Deferral.TheVariants.{ReflexiveDerivedCap}
use Rattle.rules.specs.Base.{Res, ok, refused, then}
use Rattle.rules.specs.State.{Env, Out, Clause, clause, total, push_in, push, defer_in, defer}
use Rattle.rules.specs.Invariants.{Each, ClauseIn}
use Rattle.rules.specs.EachLaws.{each_snoc}
use Rattle.rules.specs.Reflexive.{reflexive_derived_cap, Derived, more, capped, queued, derive}
use Rattle.rules.specs.Reflexive.{Unfolded as Turned}
use Rattle.tables.specs.Drawn.{Tables, tables, show, shown, after}
use Rattle.tables.specs.DrawnLaws.{clauses_count}
use Rattle.tables.specs.Good.{Alike, KeptAnswer}
use Rattle.hands.specs.Hands.{Four, four}
use Rattle.leaves.specs.StepLaws.{show_alike}
use Rattle.unfolding.specs.Unfolding.{queue_of, Counted, Stands, Follows, Moves, Moved, Stopped, Between}
use Rattle.unfolding.specs.QueueLaws.{one_more_lem, queue_grown, queue_pushed}

-- ---- what the rule's small steps add
pub push_grown : (env : Env) (b h : List Atom) (s t : Out) (u : Unit {0}) → push env b h s ≡ ok u t → t.clauses ≡ s.clauses ++ (clause b h ∷ [])
unfolding push
push_grown env b h s t u e = go (ltb (length s.clauses) env.rooms.clauses && leb (total s.clauses + length (b ++ h)) env.rooms.atoms) e
  where
    go : (k : Bool) → push_in (clause b h) s k ≡ ok u t → t.clauses ≡ s.clauses ++ (clause b h ∷ [])
    go true f = cc
    go false f = absurd (let z : ◌≡◌ {A = ℕ} 0 1 = cc in omega arith)

pub defer_same : (env : Env) (kind : Deferral) (s t : Out) (u : Unit {0}) → defer env kind s ≡ ok u t → t.clauses ≡ s.clauses
unfolding defer
defer_same env kind s t u e = go (ltb (length s.deferrals) env.rooms.deferrals) e
  where
    go : (k : Bool) → defer_in kind s k ≡ ok u t → t.clauses ≡ s.clauses
    go true f = cc
    go false f = absurd (let z : ◌≡◌ {A = ℕ} 0 1 = cc in omega arith)

-- ---- nothing moved
pub moves_none : (v : Derived) (s : Out) → Moves v s v s
moves_none v s = record { new = []; grown = sym (append-nil s.clauses); counted = omega arith; inside = λ B fresh vars I. I }

-- ---- words below the hand
pub below_hand : (w w' : List ℕ) → take hands_at w' ≡ take hands_at w → (j : ℕ) → j < hands_at → get_or w' j 0 ≡ get_or w j 0
below_hand w w' e j h = sym (get_or-take hands_at w' j 0 h) ∙ ap (λ (t : List ℕ). get_or t j 0) e ∙ get_or-take hands_at w j 0 h

module _ (env : Env) (roles : List ℕ) (originals left : ℕ) (k : Counters) (n : ℕ) (w c a d : List ℕ) (v : Derived) (s : Out) (T : Stands env roles originals left k (four w c a d) n v s) (C : Counted originals k n) where
  count : k.clauses ≡ length s.clauses
  count = clauses_count env k s c a d T.drawn

  pub seen_long : length v.seen ≡ k.clauses - originals
  seen_long = ap length T.seen ∙ length-drop originals s.clauses ∙ ap (λ (j : ℕ). j - originals) (sym count)

  below_all : (j : ℕ) → j < n → get_or w j 0 < length s.clauses
  below_all j h = omega (arith, T.below j h, count)

  -- only words behind the queue's were written
  pub stands_kept : (w' : List ℕ) → ((j : ℕ) → j < n → get_or w' j 0 ≡ get_or w j 0) → Stands env roles originals left k (four w' c a d) n v s
  stands_kept w' same = record {
    drawn = T.drawn;
    queue = T.queue ∙ sym (queue_grown env roles s.clauses [] w w' n left same below_all (omega (arith, T.low, C.first, count))) ∙ ap (λ (l : List Clause). queue_of env roles l w' n left) (append-nil s.clauses);
    seen = T.seen;
    below = λ j h. rw (same j h) (T.below j h);
    low = T.low;
  }

  -- nothing was derived
  pub stays : (w' : List ℕ) → ((j : ℕ) → j < n → get_or w' j 0 ≡ get_or w j 0) → (r : Res Out Turned) → r ≡ ok (more v) s → Moved env roles originals left k n (four w' c a d) v s r k n
  stays w' same r e = record { derived = v; state = s; rule = e; stands = stands_kept w' same; moves = moves_none v s; counted = C; grows = omega arith; falls = omega arith }

  module _ (x : Clause) where
    abbrev next : Derived
    next = record { queue = queued env roles x v.queue; seen = v.seen ++ (x ∷ []) }

    rule_cap : k.clauses - originals ≡ reflexive_derived_cap → derive env roles x v (eqb (length v.seen) reflexive_derived_cap) s ≡ then (defer env ReflexiveDerivedCap s) (λ _ t. ok capped t)
    rule_cap e = rw (eq-eqb (length v.seen) reflexive_derived_cap (seen_long ∙ e)) refl

    rule_push : (k.clauses - originals ≡ reflexive_derived_cap → ⊥) → derive env roles x v (eqb (length v.seen) reflexive_derived_cap) s ≡ then (push env x.body x.head s) (λ _ t. ok (more next) t)
    rule_push h = rw (ne_eqb (length v.seen) reflexive_derived_cap (λ e. h (sym seen_long ∙ e))) refl

    -- the cap
    stopped_from : (X : Res Out (Unit {0})) (y : Four) (m : Counters) (j : ℕ) → defer env ReflexiveDerivedCap s ≡ X → Alike k m → ◌≡◌ {A = Res Tables ℕ} (ok j (tables m y.clauses y.atoms y.deferrals)) (shown (λ _. 0) k env.rooms X)
        → Stopped env y s (then X (λ _ t. ok capped t)) m
    stopped_from (ok u t) y m j e A q =
        let f : tables m y.clauses y.atoms y.deferrals ≡ show k env.rooms t = cc in
        record { state = t; rule = refl; drawn = f ∙ sym (show_alike k m env.rooms t A); same = defer_same env ReflexiveDerivedCap s t u e }
    stopped_from (refused z) y m j e A q = absurd (let z : ◌≡◌ {A = ℕ} 0 1 = cc in omega arith)

    no_answer : (X : Res Out (Unit {0})) (g : Unit {0} → Out → Res Out Turned) (e : ℕ) → ◌≡◌ {A = Res Tables ℕ} (refused e) (shown (λ _. 0) k env.rooms X) → then X g ≡ refused e
    no_answer (ok u t) g e q = absurd (let z : ◌≡◌ {A = ℕ} 0 1 = cc in omega arith)
    no_answer (refused z) g e q = cc

    module _ (y : Four) (r : Answer) (at : k.clauses - originals ≡ reflexive_derived_cap) (D : after r y.clauses y.atoms y.deferrals ≡ shown (λ _. 0) k env.rooms (defer env ReflexiveDerivedCap s)) where
      pub derive_capped : (m : Counters) (j : ℕ) → r ≡ Done m j → KeptAnswer k r → Stopped env y s (derive env roles x v (eqb (length v.seen) reflexive_derived_cap) s) m
      derive_capped m j e A =
          subst (λ (z : Res Out Turned). Stopped env y s z m) (sym (rule_cap at))
          (stopped_from (defer env ReflexiveDerivedCap s) y m j refl (subst (KeptAnswer k) e A) (subst (λ (z : Answer). after z y.clauses y.atoms y.deferrals ≡ shown (λ _. 0) k env.rooms (defer env ReflexiveDerivedCap s)) e D))

      pub derive_full : (z : ℕ) → r ≡ Refused z → derive env roles x v (eqb (length v.seen) reflexive_derived_cap) s ≡ refused z
      derive_full z e =
          rule_cap at ∙ no_answer (defer env ReflexiveDerivedCap s) (λ _ t. ok capped t) z (subst (λ (q : Answer). after q y.clauses y.atoms y.deferrals ≡ shown (λ _. 0) k env.rooms (defer env ReflexiveDerivedCap s)) e D)

    -- a new clause
    module _ (room : n < length w) (F : Follows s x) where
      more_from : (X : Res Out (Unit {0})) (c' a' : List ℕ) (m : Counters) (j : ℕ) → push env x.body x.head s ≡ X → Alike k m → k.clauses < originals + reflexive_derived_cap → ◌≡◌ {A = Res Tables ℕ} (ok j (tables m c' a' d)) (shown (λ _. 0) k env.rooms X)
          → Moved env roles originals left k n (four (set w n k.clauses) c' a' d) v s (then X (λ _ t. ok (more next) t)) m (n + 1)
      more_from (ok u t) c' a' m j e A lt q =
          let w' : List ℕ = set w n k.clauses in
          let f : tables m c' a' d ≡ show k env.rooms t = cc in
          let g : tables m c' a' d ≡ show m env.rooms t = f ∙ sym (show_alike k m env.rooms t A) in
          let grown : t.clauses ≡ s.clauses ++ (x ∷ []) = push_grown env x.body x.head s t u e in
          let one : m.clauses ≡ k.clauses + 1 = clauses_count env m t c' a' d g ∙ ap length grown ∙ length-append s.clauses (x ∷ []) ∙ omega (arith, count) in
          let same : (i : ℕ) → i < n → get_or w' i 0 ≡ get_or w i 0 = λ i h. get_or-set_other w n i k.clauses 0 (λ z. omega arith) in
          let top : get_or w' n 0 ≡ k.clauses = get_or-set_same w n k.clauses 0 room in
          let few : left ≤ length s.clauses = omega (arith, T.low, C.first, count) in
          let inner : (i : ℕ) → i < n + 1 → get_or w' i 0 < m.clauses = below_next w' m one same top in
          record {
            derived = next;
            state = t;
            rule = refl;
            stands = record {
              drawn = g;
              queue = ap (queued env roles x) T.queue ∙ sym (queue_pushed env roles s.clauses x w w' n left same below_all few (top ∙ count)) ∙ ap (λ (l : List Clause). queue_of env roles l w' (n + 1) left) (sym grown);
              seen = ap (λ (l : List Clause). l ++ (x ∷ [])) T.seen ∙ sym (drop-append-le originals s.clauses (x ∷ []) (omega (arith, C.first, count))) ∙ ap (drop originals) (sym grown);
              below = inner;
              low = T.low;
            };
            moves = record {
              new = x ∷ [];
              grown = grown;
              counted = omega (arith, one_more_lem env roles x v.queue, length-append v.seen (x ∷ []));
              inside = λ B fresh vars I. subst (Each (ClauseIn B fresh vars)) (sym grown) (each_snoc (ClauseIn B fresh vars) s.clauses x I (F B fresh vars I));
            };
            counted = record { first = omega (arith, one, C.first); cap = omega (arith, one, lt); within = omega (arith, one, C.within) };
            grows = omega (arith, one);
            falls = omega (arith, one);
          }
        where
          below_next : (w' : List ℕ) (m : Counters) → m.clauses ≡ k.clauses + 1 → ((i : ℕ) → i < n → get_or w' i 0 ≡ get_or w i 0) → get_or w' n 0 ≡ k.clauses → (i : ℕ) → i < n + 1 → get_or w' i 0 < m.clauses
          below_next w' m one same top i h = go (eqb i n) refl
            where
              go : (b : Bool) → eqb i n ≡ b → get_or w' i 0 < m.clauses
              go true e = rw (eqb-true i n e, top, one) (omega arith)
              go false e = let z = eqb-false i n e in let l : i < n = omega arith in rw (same i l, one) (omega (arith, T.below i l))
      more_from (refused z) c' a' m j e A lt q = absurd (let z : ◌≡◌ {A = ℕ} 0 1 = cc in omega arith)

      module _ (c' a' : List ℕ) (r : Answer) (off : k.clauses - originals ≡ reflexive_derived_cap → ⊥) (D : after r c' a' d ≡ shown (λ _. 0) k env.rooms (push env x.body x.head s)) where
        pub derive_more : (m : Counters) (j : ℕ) (w' : List ℕ) (i : ℕ) → r ≡ Done m j → KeptAnswer k r → i ≡ n → w' ≡ set w i k.clauses
            → Moved env roles originals left k n (four w' c' a' d) v s (derive env roles x v (eqb (length v.seen) reflexive_derived_cap) s) m (n + 1)
        derive_more m j w' i e A ei ew =
            rw (ew, ei) (subst (λ (z : Res Out Turned). Moved env roles originals left k n (four (set w n k.clauses) c' a' d) v s z m (n + 1)) (sym (rule_push off))
            (more_from (push env x.body x.head s) c' a' m j refl (subst (KeptAnswer k) e A) (omega (arith, C.first, C.cap)) (subst (λ (z : Answer). after z c' a' d ≡ shown (λ _. 0) k env.rooms (push env x.body x.head s)) e D)))

        pub derive_long : (z : ℕ) → r ≡ Refused z → derive env roles x v (eqb (length v.seen) reflexive_derived_cap) s ≡ refused z
        derive_long z e =
            rule_push off ∙ no_answer (push env x.body x.head s) (λ _ t. ok (more next) t) z (subst (λ (q : Answer). after q c' a' d ≡ shown (λ _. 0) k env.rooms (push env x.body x.head s)) e D)

pub between_put : (w w' : List ℕ) (n x : ℕ) → w' ≡ set w n x → n < reflexive_derived_cap → Between w w'
between_put w w' n x e h j l m = ap (λ (t : List ℕ). get_or t j 0) e ∙ get_or-set_other w n j x 0 (λ z. omega arith)
