-- The root's children one after the other. Assumes nothing.
use Rattle.std.specs.Prelude.{Bool, false, Some, None, Ok, Err, ◌≡◌, ℕ, zero, suc, ◌+◌, ◌*◌, ◌-◌, ◌≤◌, ◌<◌, get_or, take, drop}
use Rattle.std.proofs.Math.Bool.{true}
use Rattle.std.proofs.Math.Path.{refl, sym, ap, subst}
use Rattle.std.proofs.Common.{◌∙◌, arith, length-drop, drop_of_length-le, length-take-le}
use mathlib.Core.List.{List, [], ◌∷◌, ◌++◌, append-nil, append_assoc}
use Rattle.std.proofs.Math.Option.{Option, none, some}
use Rattle.std.proofs.Math.ListN.{length, length-append}
use Rattle.ir.specs.declared.atom.Atom.{Atom}
use Rattle.ir.specs.declared.refusal.Refusal.{Refusal}
use Rattle.rules.specs.Base.{Res, ok, refused, then}
use Rattle.rules.specs.Run.{flat}
use Rattle.rules.specs.DecodeLaws.{flat_long, flat_append}
use Rattle.rules.specs.Invariants.{Each}
use Rattle.rules.specs.EachLaws.{each_left, each_right}
use Rattle.rules.specs.Branches.{Groups, W, mentions, name_group, group_with, then_some, name_groups, name_by}
use Rattle.rules.specs.Branches as Rules
use Rattle.tables.specs.TabledLaws.{At, at_front, at_back}
use Rattle.branches.specs.Layout.{body_at, copy_at, keep_at, work_words}
use Rattle.branches.specs.Memo.{Tame, named_words, NamedHeld, NamedThere}
use Rattle.branches.specs.Edges.{KeepIs}
use Rattle.branches.specs.Grouped.{no_group, all_of}
use Rattle.branches.specs.Sorting.{sum}
use Rattle.naming.specs.Names.{Full, ReducedBy, OnlyNames}
use Rattle.naming.specs.Splits.{Turned, group_rule, child_of, groups_rule, Standing, StandingThere, TurnedBy, Filled, Laid, LaidThere}
use Rattle.naming.specs.GoesLaws.{Goes, rest_goes}
use Rattle.naming.specs.AgreeLaws.{keep_stay}
use Rattle.branches.specs.declared.memo.Naming.{Naming}
use Rattle.naming.specs.declared.name.Reached.{Reached}

-- ---- the sizes
pub sum_all : (l : List (ℕ × List Atom)) (cs : List ℕ) (r : ℕ) → r ≡ length l → r ≤ length cs → ((i : ℕ) → i < r → get_or cs i 0 ≡ length (get_or l i no_group).1) → sum (take r cs) ≡ length (all_of l)
unfolding all_of
sum_all [] cs zero e h f = refl
sum_all [] cs (suc r) e h f = absurd (omega arith)
sum_all (g ∷ l) cs zero e h f = absurd (omega arith)
sum_all (g ∷ l) [] (suc r) e h f = absurd (omega arith)
sum_all (g ∷ l) (x ∷ cs) (suc r) e h f =
    let n : x ≡ length g.1 = f 0 (omega arith) in
    omega (arith, n, length-append g.1 (all_of l), sum_all l cs r (omega arith) (omega arith) (λ i k. f (suc i) (omega arith)))

pub drop_group : (l : List (ℕ × List Atom)) (i : ℕ) → i < length l → drop i l ≡ get_or l i no_group ∷ drop (i + 1) l
drop_group [] i h = absurd (omega arith)
drop_group (g ∷ l) zero h = refl
drop_group (g ∷ l) (suc i) h = let z : suc i + 1 ≡ suc (i + 1) = omega arith in rw z (drop_group l i (omega arith))

-- ---- the rule, child by child
module _ (f root : ℕ) (kept : List ℕ) where
  abbrev rest : List (ℕ × List Atom) → List Atom → Bool → W (Option (List Atom))
  rest l result any = name_groups (λ a b c. name_by f a b c) root kept l result any

  rest_cons : (g : ℕ × List Atom) (l : List (ℕ × List Atom)) (result : List Atom) (any : Bool) (z : Rules.Naming)
      → rest (g ∷ l) result any z ≡ then (child_of f root g.0 g.1 any (mentions kept g.1) z) (λ o y. rest l (result ++ o.0) o.1 y)
  unfolding name_groups group_rule
  rest_cons g l result any z = go (mentions kept g.1)
    where
      named : (o : Res Rules.Naming Atom) → then o (λ a y. rest l (result ++ (a ∷ [])) true y) ≡ then {A = List Atom × Bool} (then o (λ a y. ok (a ∷ [], true) y)) (λ o y. rest l (result ++ o.0) o.1 y)
      named (ok a y) = refl
      named (refused k) = refl

      go : (b : Bool) → group_with (λ a b c. name_by f a b c) (λ r n. rest l r n) root g result any b z ≡ then (child_of f root g.0 g.1 any b z) (λ o y. rest l (result ++ o.0) o.1 y)
      go true = refl
      go false = named (name_group (λ a b c. name_by f a b c) root g.0 g.1 z)

-- nothing is named, and the atoms stay
child_same : (f root t : ℕ) (group : List Atom) (any b : Bool) (z : Rules.Naming) (o : List Atom × Bool) (y : Rules.Naming) → child_of f root t group any b z ≡ ok o y → o.1 ≡ false → (any ≡ false) × (o.0 ≡ group)
child_same f root t group any true z o y e h =
    let k : (group, any) ≡ o = cc in
    (ap (λ (x : List Atom × Bool). x.1) k ∙ h, sym (ap (λ (x : List Atom × Bool). x.0) k))
child_same f root t group any false z o y e h = go (group_rule f group root t z) e
  where
    go : (r : Res Rules.Naming Atom) → then r (λ a x. ok (a ∷ [], true) x) ≡ ok o y → (any ≡ false) × (o.0 ≡ group)
    go (ok a x) q =
        let k : (a ∷ [], true) ≡ o = cc in
        let c : true ≡ false = ap (λ (x : List Atom × Bool). x.1) k ∙ h in
        absurd (let n : ◌≡◌ {A = ℕ} 0 1 = cc in omega arith)
    go (refused k) q = absurd (let n : ◌≡◌ {A = ℕ} 0 1 = cc in omega arith)

-- ---- before child i
pub record Left (base count root f i : ℕ) (kept : List ℕ) (g : Groups) (z : Rules.Naming) (s : Naming) (w : List ℕ) (m : Naming) (any : Bool) (p q : ℕ) : Type 0 where
  pub result : List Atom
  pub state : Rules.Naming
  pub rule : groups_rule f root kept g z ≡ name_groups (λ a b c. name_by f a b c) root kept (drop i g.groups) result any state
  pub place : q ≡ base + length result
  pub all : p + length (all_of (drop i g.groups)) ≡ base + count
  pub done : At w (6 * base) (flat result)
  pub others : At w (6 * p) (flat (all_of (drop i g.groups)))
  pub tame : Each Tame result
  pub tame_left : Each Tame (all_of (drop i g.groups))
  pub filled : Filled (drop i g.groups)
  pub held : NamedHeld w m state
  pub first : m.first ≡ s.first
  pub quiet : any ≡ false → m ≡ s
  pub same : any ≡ false → result ++ all_of (drop i g.groups) ≡ g.root_atoms ++ all_of g.groups

pub record Walk (w₀ tops counts : List ℕ) (base count r root keep : ℕ) (s : Naming) (w : List ℕ) (m : Naming) (any : Bool) (p q i : ℕ) : Type 0 where
  pub here : i ≤ r
  pub below : q ≤ p
  pub only : OnlyNames base count w₀ w
  pub left : (g : Groups) (z : Rules.Naming) (kept : List ℕ) (f : ℕ) → Laid w₀ tops counts base count g r → NamedHeld w₀ s z → KeepIs w₀ keep kept → count ≤ f → Left base count root f i kept g z s w m any p q

module _ (w₀ tops counts : List ℕ) (base count r root keep : ℕ) (s : Naming) where
  -- the root's own atoms end at p
  pub own_long : (g : Groups) (p : ℕ) → Laid w₀ tops counts base count g r → r ≤ length counts → p ≡ base + (count - sum (take r counts)) → p ≡ base + length g.root_atoms
  own_long g p L h e =
      let A = L.arranged in
      omega (arith, e, A.atoms.long, length-append g.root_atoms (all_of g.groups), sum_all g.groups counts r A.many h A.sizes)

  pub sum_fits : (g : Groups) → Laid w₀ tops counts base count g r → r ≤ length counts → sum (take r counts) ≤ count
  sum_fits g L h =
      let A = L.arranged in
      omega (arith, A.atoms.long, length-append g.root_atoms (all_of g.groups), sum_all g.groups counts r A.many h A.sizes)

  pub walk_start : (p : ℕ) → r ≤ length counts → p ≡ base + (count - sum (take r counts)) → Walk w₀ tops counts base count r root keep s w₀ s false p p 0
  unfolding groups_rule
  walk_start p h e = record {
    here = omega arith;
    below = omega arith;
    only = record { before = λ j a b. refl; between = λ j a b. refl; keep = λ j a b. refl };
    left = λ g z kept f L H K k.
        let n = own_long g p L h e in
        let A = L.arranged.atoms in
        let B : At w₀ (6 * base) (flat g.root_atoms ++ flat (all_of g.groups)) = subst (At w₀ (6 * base)) (flat_append g.root_atoms (all_of g.groups)) A.there in
        record {
          result = g.root_atoms;
          state = z;
          rule = refl;
          place = n;
          all = omega (arith, n, A.long, length-append g.root_atoms (all_of g.groups));
          done = at_front w₀ (6 * base) (flat g.root_atoms) (flat (all_of g.groups)) B;
          others = at_back w₀ (6 * base) (flat g.root_atoms) (flat (all_of g.groups)) B (6 * p) (omega (arith, n, flat_long g.root_atoms));
          tame = each_left Tame g.root_atoms (all_of g.groups) L.tame;
          tame_left = each_right Tame g.root_atoms (all_of g.groups) L.tame;
          filled = L.filled;
          held = H;
          first = refl;
          quiet = λ b. refl;
          same = λ b. refl;
        };
  }

  module _ (w : List ℕ) (m : Naming) (any : Bool) (p q i : ℕ) (Y : Walk w₀ tops counts base count r root keep s w m any p q i) where
    module _ (g : Groups) (L : Laid w₀ tops counts base count g r) (low : body_at ≤ base) (high : base + count ≤ copy_at) (few : count ≤ 256) (fi : s.first ≤ 1100000) where
      abbrev child : ℕ × List Atom
      child = get_or g.groups i no_group

      abbrev after : List (ℕ × List Atom)
      after = drop (i + 1) g.groups

      module _ (h : i < r) (c t : ℕ) (ec : c ≡ get_or counts i 0) (et : t ≡ get_or tops i 0) where
        cut : drop i g.groups ≡ child ∷ after
        cut = drop_group g.groups i (omega (arith, h, L.arranged.many))

        cut_all : all_of (drop i g.groups) ≡ child.1 ++ all_of after
        unfolding all_of
        cut_all = ap all_of cut

        size : c ≡ length child.1
        size = ec ∙ L.arranged.sizes i h

        top : t ≡ child.0
        top = et ∙ L.arranged.children i h

        module _ (z : Rules.Naming) (kept : List ℕ) (f : ℕ) (D : Left base count root f i kept g z s w m any p q) where
          long_left : length (all_of (drop i g.groups)) ≡ length child.1 + length (all_of after)
          long_left = ap length cut_all ∙ length-append child.1 (all_of after)

          there : At w (6 * p) (flat child.1 ++ flat (all_of after))
          there = subst (At w (6 * p)) (ap flat cut_all ∙ flat_append child.1 (all_of after)) D.others

          tames : Each Tame (child.1 ++ all_of after)
          tames = subst (Each Tame) cut_all D.tame_left

          full : Filled (child ∷ after)
          full = subst Filled cut D.filled

          pub standing : Standing w base count q p c D.result child.1 (all_of after) m D.state
          standing = record {
            here = D.place;
            many = size;
            filled = omega (arith, size, full.0);
            below = Y.below;
            all = omega (arith, D.all, long_left, size);
            low = low;
            high = high;
            few = few;
            done = D.done;
            child = at_front w (6 * p) (flat child.1) (flat (all_of after)) there;
            left = at_back w (6 * p) (flat child.1) (flat (all_of after)) there (6 * (p + c)) (omega (arith, size, flat_long child.1));
            tame_done = D.tame;
            tame_child = each_left Tame child.1 (all_of after) tames;
            tame_left = each_right Tame child.1 (all_of after) tames;
            held = D.held;
            first = omega (arith, D.first, fi);
          }

          rule_on : groups_rule f root kept g z ≡ then (child_of f root t child.1 any (mentions kept child.1) D.state) (λ o y. rest f root kept after (D.result ++ o.0) o.1 y)
          rule_on =
              D.rule ∙ ap (λ (x : List (ℕ × List Atom)). rest f root kept x D.result any D.state) cut ∙ rest_cons f root kept child after D.result any D.state
              ∙ ap (λ (x : ℕ). then (child_of f root x child.1 any (mentions kept child.1) D.state) (λ o y. rest f root kept after (D.result ++ o.0) o.1 y)) (sym top)

          -- after it
          module _ (w' : List ℕ) where
            next_go : (v : Reached) (o : Res Rules.Naming (List Atom × Bool)) → child_of f root t child.1 any (mentions kept child.1) D.state ≡ o
                → TurnedBy w' base q (p + c) D.result (all_of after) m o (Ok v) → Left base count root f (i + 1) kept g z s w' v.naming v.any (p + c) v.end
            next_go v (ok o y) e T = record {
              result = D.result ++ o.0;
              state = y;
              rule = rule_on ∙ ap (λ x. then x (λ o y. rest f root kept after (D.result ++ o.0) o.1 y)) e ∙ ap (λ (x : Bool). rest f root kept after (D.result ++ o.0) x y) (sym T.named);
              place = omega (arith, T.here, D.place, length-append D.result o.0);
              all = standing.all;
              done = T.done;
              others = T.left;
              tame = T.tame;
              tame_left = standing.tame_left;
              filled = full.1;
              held = T.held;
              first = T.first ∙ D.first;
              quiet = λ k. let x = child_same f root t child.1 any (mentions kept child.1) D.state o y e (sym T.named ∙ k) in T.quiet k ∙ D.quiet x.0;
              same = λ k.
                  let x = child_same f root t child.1 any (mentions kept child.1) D.state o y e (sym T.named ∙ k) in
                  ap (λ (v : List Atom). (D.result ++ v) ++ all_of after) x.1 ∙ append_assoc D.result child.1 (all_of after) ∙ ap (λ (v : List Atom). D.result ++ v) (sym cut_all) ∙ D.same x.0;
            }
            next_go v (refused k) e T = absurd T

            pub left_next : (v : Reached) → TurnedBy w' base q (p + c) D.result (all_of after) m (child_of f root t child.1 any (mentions kept child.1) D.state) (Ok v)
                → Left base count root f (i + 1) kept g z s w' v.naming v.any (p + c) v.end
            left_next v T = next_go v (child_of f root t child.1 any (mentions kept child.1) D.state) refl T

            -- no room: the rule goes on, and takes nothing back
            stop_goes : (x : Refusal) (y : Rules.Naming) (o : Res Rules.Naming (Option (List Atom))) → Full x y → Goes (length (named_words y.named)) o → (l : List Atom) → ReducedBy w' base count l kept s o (Err x)
            stop_goes x y (ok (some b) v) F G l = (F.0, omega (arith, F.1, G))
            stop_goes x y (ok none v) F G l = (F.0, omega (arith, F.1, G))
            stop_goes x y (refused k) F G l = absurd G

            stop_go : (x : Refusal) (o : Res Rules.Naming (List Atom × Bool)) → count ≤ f → TurnedBy w' base q (p + c) D.result (all_of after) m o (Err x)
                → (l : List Atom) → ReducedBy w' base count l kept s (then o (λ o y. rest f root kept after (D.result ++ o.0) o.1 y)) (Err x)
            stop_go x (ok o y) k F l =
                stop_goes x y (rest f root kept after (D.result ++ o.0) o.1 y) F
                (rest_goes f root kept after (D.result ++ o.0) o.1 y (length (named_words y.named)) (omega (arith, standing.all, standing.below, standing.here)) (omega arith)) l
            stop_go x (refused j) k F l = absurd F

            pub left_stop : (x : Refusal) → count ≤ f → TurnedBy w' base q (p + c) D.result (all_of after) m (child_of f root t child.1 any (mentions kept child.1) D.state) (Err x)
                → (l : List Atom) → ReducedBy w' base count l kept s (groups_rule f root kept g z) (Err x)
            left_stop x k F l = rw rule_on (stop_go x (child_of f root t child.1 any (mentions kept child.1) D.state) k F l)

    -- the end
    module _ (g : Groups) (L : Laid w₀ tops counts base count g r) (h : r ≤ i) (z : Rules.Naming) (kept : List ℕ) (f : ℕ) (D : Left base count root f i kept g z s w m any p q) where
      out : drop i g.groups ≡ []
      out = drop_of_length-le g.groups {i = i} (omega (arith, h, L.arranged.many))

      rule_end : groups_rule f root kept g z ≡ ok (then_some (λ a b c. name_by f a b c) D.result any) D.state
      unfolding name_groups
      rule_end = D.rule ∙ ap (λ (x : List (ℕ × List Atom)). rest f root kept x D.result any D.state) out

      all_end : p ≡ base + count
      unfolding all_of
      all_end = let n : length (all_of (drop i g.groups)) ≡ 0 = ap (λ (x : List (ℕ × List Atom)). length (all_of x)) out in omega (arith, n, D.all)

      pub left_some : any ≡ true → ReducedBy w base count (g.root_atoms ++ all_of g.groups) kept s (groups_rule f root kept g z) (Ok (Some (m, q - base)))
      left_some e = rw (rule_end, e) (record {
        atoms = record { long = omega (arith, D.place); there = D.done };
        tame = D.tame;
        shorter = omega (arith, Y.below, all_end);
        held = D.held;
        first = D.first;
      })

      result_is : any ≡ false → D.result ≡ g.root_atoms ++ all_of g.groups
      unfolding all_of
      result_is e = sym (append-nil D.result) ∙ ap (λ (x : List (ℕ × List Atom)). D.result ++ all_of x) (sym out) ∙ D.same e

      pub left_none : any ≡ false → ReducedBy w base count (g.root_atoms ++ all_of g.groups) kept s (groups_rule f root kept g z) (Ok None)
      left_none e = rw (rule_end, e) (record {
        atoms = λ k. record { long = L.arranged.atoms.long; there = subst (λ (x : List Atom). At w (6 * base) (flat x)) (result_is e) D.done };
        held = subst (λ (x : Naming). NamedHeld w x D.state) (D.quiet e) D.held;
      })

-- ---- the variables to keep
keep_run : (w : List ℕ) (k n : ℕ) → k + n ≤ length w → n ≡ length (take n (drop k w))
keep_run w k n h = sym (length-take-le n (drop k w) (omega (arith, length-drop k w)))

pub keep_there : (w : List ℕ) (n : ℕ) → n ≤ 512 → work_words ≤ length w → KeepIs w n (take n (drop keep_at w))
keep_there w n h l = record { long = keep_run w keep_at n (omega arith); few = h; are = refl }

-- ---- the next child
module _ (w₀ tops counts : List ℕ) (base count r root keep : ℕ) (s : Naming) (low : body_at ≤ base) (high : base + count ≤ copy_at) (few : count ≤ 256) (fi : s.first ≤ 1100000)
    (G : LaidThere w₀ tops counts base count r) (N : NamedThere w₀ s) (kf : keep ≤ 512) (long : work_words ≤ length w₀)
    (w : List ℕ) (m : Naming) (any : Bool) (p q i : ℕ) (Y : Walk w₀ tops counts base count r root keep s w m any p q i) where
  abbrev some_kept : List ℕ
  some_kept = take keep (drop keep_at w₀)

  some_left : Left base count root count i some_kept G.groups N.state s w m any p q
  some_left = Y.left G.groups N.state some_kept count G.laid N.held (keep_there w₀ keep kf long) (omega arith)

  pub walk_low : base ≤ q
  walk_low = omega (arith, some_left.place)

  pub walk_high : p ≤ base + count
  walk_high = omega (arith, some_left.all)

  module _ (h : i < r) (c t : ℕ) (ec : c ≡ get_or counts i 0) (et : t ≡ get_or tops i 0) where
    some_standing : Standing w base count q p c some_left.result (get_or G.groups.groups i no_group).1 (all_of (drop (i + 1) G.groups.groups)) m some_left.state
    some_standing = standing w₀ tops counts base count r root keep s w m any p q i Y G.groups G.laid low high few fi h c t ec et N.state some_kept count some_left

    pub walk_standing : StandingThere w q p c m
    walk_standing = record {
      base = base;
      count = count;
      result = some_left.result;
      group = (get_or G.groups.groups i no_group).1;
      rest = all_of (drop (i + 1) G.groups.groups);
      state = some_left.state;
      standing = some_standing;
    }

    pub walk_child : p + c ≤ base + count
    walk_child = omega (arith, some_standing.all)

    pub child_most : c ≤ count
    child_most = omega (arith, some_standing.all, some_standing.below, some_standing.here)

    module _ (w' : List ℕ) (same : length w ≡ length w₀) (z : Turned)
        (T : (base count : ℕ) (result group rest : List Atom) (z' : Rules.Naming) (kept : List ℕ) (f : ℕ) → Standing w base count q p c result group rest m z' → KeepIs w keep kept → c ≤ f
        → TurnedBy w' base q (p + c) result rest m (child_of f root t group any (mentions kept group) z') z)
        (O : (base count : ℕ) (result group rest : List Atom) (z' : Rules.Naming) → Standing w base count q p c result group rest m z' → OnlyNames base count w w') where
      pub walk_only : OnlyNames base count w₀ w'
      walk_only =
          let A = O base count some_left.result (get_or G.groups.groups i no_group).1 (all_of (drop (i + 1) G.groups.groups)) some_left.state some_standing in
          record {
            before = λ j a b. A.before j a b ∙ Y.only.before j a b;
            between = λ j a b. A.between j a b ∙ Y.only.between j a b;
            keep = λ j a b. A.keep j a b ∙ Y.only.keep j a b;
          }

      -- of any groups that stand there
      turned : (g : Groups) (L : Laid w₀ tops counts base count g r) (x : Rules.Naming) (kept : List ℕ) (f : ℕ) → KeepIs w₀ keep kept → count ≤ f → (D : Left base count root f i kept g x s w m any p q)
          → TurnedBy w' base q (p + c) D.result (all_of (drop (i + 1) g.groups)) m (child_of f root t (get_or g.groups i no_group).1 any (mentions kept (get_or g.groups i no_group).1) D.state) z
      turned g L x kept f K k D =
          T base count D.result (get_or g.groups i no_group).1 (all_of (drop (i + 1) g.groups)) D.state kept f
          (standing w₀ tops counts base count r root keep s w m any p q i Y g L low high few fi h c t ec et x kept f D)
          (keep_stay w₀ w same keep kept Y.only.keep K)
          (omega (arith, k, child_most))

      most_go : (v : Reached) (result rest : List Atom) (o : Res Rules.Naming (List Atom × Bool)) → TurnedBy w' base q (p + c) result rest m o (Ok v) → v.end ≤ p + c
      most_go v result rest (ok o y) D = D.below
      most_go v result rest (refused k) D = absurd D

      pub walk_next : (v : Reached) → z ≡ Ok v → Walk w₀ tops counts base count r root keep s w' v.naming v.any (p + c) v.end (i + 1)
      walk_next v e = record {
        here = omega (arith, h);
        below = most_go v some_left.result (all_of (drop (i + 1) G.groups.groups)) (child_of count root t (get_or G.groups.groups i no_group).1 any (mentions some_kept (get_or G.groups.groups i no_group).1) some_left.state)
            (rw e at (turned G.groups G.laid N.state some_kept count (keep_there w₀ keep kf long) (omega arith) some_left));
        only = walk_only;
        left = λ g x kept f L H K k.
            let D = Y.left g x kept f L H K k in
            left_next w₀ tops counts base count r root keep s w m any p q i Y g L low high few fi h c t ec et x kept f D w' v (rw e at (turned g L x kept f K k D));
      }

      pub walk_stop : (x : Refusal) → z ≡ Err x → (g : Groups) (y : Rules.Naming) (kept : List ℕ) (f : ℕ) → Laid w₀ tops counts base count g r → NamedHeld w₀ s y → KeepIs w₀ keep kept → count ≤ f
          → ReducedBy w' base count (g.root_atoms ++ all_of g.groups) kept s (groups_rule f root kept g y) (Err x)
      walk_stop x e g y kept f L H K k =
          let D = Y.left g y kept f L H K k in
          left_stop w₀ tops counts base count r root keep s w m any p q i Y g L low high few fi h c t ec et y kept f D w' x k (rw e at (turned g L y kept f K k D)) (g.root_atoms ++ all_of g.groups)
