-- The loops pushed at once are those of the rule. Assumes nothing.
use Rattle.std.specs.Prelude.{◌≡◌, Bool, ◌&&◌, ℕ, ◌+◌, ltb, drop}
use Rattle.std.proofs.Math.Path.{refl}
use Rattle.std.proofs.Common.{sym, ap, ◌∙◌, drop_at}
use Rattle.std.proofs.Math.Bool.{true, false}
use mathlib.Core.List.{List, [], ◌∷◌, ◌++◌, append-nil, append_assoc}
use Prim.{Unit, tt}
use Rattle.std.proofs.Math.Dec.{leb}
use Rattle.std.proofs.Math.ListN.{length}
use Rattle.ir.specs.Roles.{role_id}
use Rattle.ir.specs.declared.role.Role.{Role}
use Rattle.ir.specs.declared.atom.Atom.{Atom}
use Rattle.ir.specs.declared.atom.Atom.TheVariants.{Class, Exists, AtMost, AtLeast, Equal, Role as RoleAtom}
use Rattle.rules.specs.Base.{Res, ok, refused, then, ◌>>=◌, ◌>>◌, return, for_each, contains}
use Rattle.rules.specs.State.{Clause, clause, Env, Out, E, with, longer, push, push_in, most_in_hand, total}
use Rattle.rules.specs.Reflexive.{contains_clause, next_var_of, loop_kept, loop_over, loop_of, loops_of_head, self_loops, add_counted_self_loops}
use Rattle.counted.specs.SelfLoops.{push_new, push_over, push_of, push_head, push_all}

-- ---- answers in a row
then_then : {A B C : Type 0} (X : Res Out A) (f : A → E B) (g : B → E C) → then (then X f) g ≡ then X (λ a s. then (f a s) g)
then_then (ok a s) f g = refl
then_then (refused e) f g = refl

then_tt : (X : Res Out (Unit {0})) → then X (λ _. return tt) ≡ X
then_tt (ok u s) = refl
then_tt (refused e) = refl

-- ---- one clause more, after the others
module _ (env : Env) where
  abbrev push_one : Clause → E (Unit {0})
  push_one c = push env c.body c.head

  pushes_append : (l m : List Clause) (s : Out) → for_each push_one (l ++ m) s ≡ then (for_each push_one l s) (λ _. for_each push_one m)
  unfolding for_each
  pushes_append [] m s = refl
  pushes_append (c ∷ l) m s = by (push_one c s) (λ t. pushes_append l m t)
    where
      by : (X : Res Out (Unit {0})) → ((t : Out) → for_each push_one (l ++ m) t ≡ then (for_each push_one l t) (λ _. for_each push_one m))
          → then X (λ _. for_each push_one (l ++ m)) ≡ then (then X (λ _. for_each push_one l)) (λ _. for_each push_one m)
      by (ok u t) h = h t
      by (refused e) h = refl

  one_more_lem : (x : Clause) (t : Out) → for_each push_one (x ∷ []) t ≡ push_one x t
  unfolding for_each
  one_more_lem x t = then_tt (push_one x t)

  -- it is refused by 12 alone, and else is behind the others
  push_by : (x : Clause) (t : Out) (P : Res Out (Unit {0}) → Type 0) → ((u : Out) → push_one x t ≡ ok tt u → u.clauses ≡ t.clauses ++ (x ∷ []) → P (ok tt u)) → (push_one x t ≡ refused 12 → P (refused 12)) → P (push_one x t)
  unfolding push
  push_by x t P f g = by (ltb (length t.clauses) env.rooms.clauses && leb (total t.clauses + length (x.body ++ x.head)) env.rooms.atoms) refl
    where
      by : (b : Bool) → (ltb (length t.clauses) env.rooms.clauses && leb (total t.clauses + length (x.body ++ x.head)) env.rooms.atoms) ≡ b → P (push_in x t b)
      by true e = f _ (ap (push_in x t) e) refl
      by false e = g (ap (push_in x t) e)

-- ---- what is done with the loops found so far, K, and once they are pushed, J
pub record Follows (env : Env) (s : Out) (K : List Clause → E (Unit {0})) (J : E (Unit {0})) : Type 0 where
  pub goes : (new : List Clause) (t : Out) → for_each (push_one env) new s ≡ ok tt t → t.clauses ≡ s.clauses ++ new → K new s ≡ J t
  pub stops : (new : List Clause) → for_each (push_one env) new s ≡ refused 12 → K new s ≡ refused 12

follows_both : (env : Env) (s : Out) (A B : List Clause → E (List Clause)) (K : List Clause → E (Unit {0})) (P Q J : E (Unit {0}))
    → Follows env s (λ new. A new >>= (λ k. B k >>= K)) (P >> (Q >> J)) → Follows env s (λ new. A new >>= B >>= K) (P >> Q >> J)
follows_both env s A B K P Q J F = record {
  goes = λ new t e q. then_then (A new s) B K ∙ F.goes new t e q ∙ sym (then_then (P t) (λ _. Q) (λ _. J));
  stops = λ new e. then_then (A new s) B K ∙ F.stops new e;
}

module _ (env : Env) (set : List ℕ) (s : Out) (from : ℕ) (count : from ≡ length s.clauses) where
  new_is : (t : Out) (new : List Clause) → t.clauses ≡ s.clauses ++ new → drop from t.clauses ≡ new
  new_is t new e = ap (drop from) e ∙ drop_at s.clauses new from (sym count)

  module _ (K : List Clause → E (Unit {0})) (J : E (Unit {0})) (F : Follows env s K J) where
    -- the list with one loop more
    after_one : (new : List Clause) (x : Clause) → for_each (push_one env) (new ++ (x ∷ [])) s ≡ then (for_each (push_one env) new s) (λ _. push_one env x)
    after_one new x = pushes_append env new (x ∷ []) s ∙ by (for_each (push_one env) new s)
      where
        by : (X : Res Out (Unit {0})) → then X (λ _. for_each (push_one env) (x ∷ [])) ≡ then X (λ _. push_one env x)
        by (ok u t) = one_more_lem env x t
        by (refused e) = refl

    kept_goes : (x : Clause) (new : List Clause) (t : Out) → for_each (push_one env) new s ≡ ok tt t → t.clauses ≡ s.clauses ++ new
        → (b : Bool) → K (loop_kept new x b) s ≡ then (push_new env set from x t b) (λ _. J)
    kept_goes x new t e q true = F.goes new t e q
    kept_goes x new t e q false =
        let m : for_each (push_one env) (new ++ (x ∷ [])) s ≡ push_one env x t = after_one new x ∙ ap (λ (X : Res Out (Unit {0})). then X (λ _. push_one env x)) e in
        push_by env x t (λ X. K (new ++ (x ∷ [])) s ≡ then X (λ _. J))
        (λ u p z. F.goes (new ++ (x ∷ [])) u (m ∙ p) (z ∙ ap (λ (l : List Clause). l ++ (x ∷ [])) q ∙ append_assoc s.clauses new (x ∷ [])))
        (λ p. F.stops (new ++ (x ∷ [])) (m ∙ p))

    kept_stops : (x : Clause) (new : List Clause) → for_each (push_one env) new s ≡ refused 12 → (b : Bool) → K (loop_kept new x b) s ≡ refused 12
    kept_stops x new e true = F.stops new e
    kept_stops x new e false = F.stops (new ++ (x ∷ [])) (after_one new x ∙ ap (λ (X : Res Out (Unit {0})). then X (λ _. push_one env x)) e)

    over_follows : (c : Clause) (r : Role) (v : ℕ) (b : Bool) → Follows env s (λ new. loop_over env set c r v new b >>= K) (push_over env set from c r v b >> J)
    unfolding with
    over_follows c r v false = record { goes = F.goes; stops = F.stops }
    over_follows c r v true = record { goes = λ new t e q. go new t e q (ltb (length c.body) most_in_hand); stops = λ new e. no new e (ltb (length c.body) most_in_hand) }
      where
        f : Atom
        f = RoleAtom r v (next_var_of c)

        loop : List Atom → Clause
        loop body = clause body (RoleAtom r v v ∷ [])

        go : (new : List Clause) (t : Out) → for_each (push_one env) new s ≡ ok tt t → t.clauses ≡ s.clauses ++ new
            → (b : Bool) → then (then (longer c.body f b s) (λ body. ok (loop_kept new (loop body) (contains_clause new (loop body))))) K
            ≡ then (then (longer c.body f b t) (λ body u. push_new env set from (loop body) u (contains_clause (drop from u.clauses) (loop body)))) (λ _. J)
        go new t e q true = rw (new_is t new q) (kept_goes (loop (c.body ++ (f ∷ []))) new t e q (contains_clause new (loop (c.body ++ (f ∷ [])))))
        go new t e q false = refl

        no : (new : List Clause) → for_each (push_one env) new s ≡ refused 12 → (b : Bool) → then (then (longer c.body f b s) (λ body. ok (loop_kept new (loop body) (contains_clause new (loop body))))) K ≡ refused 12
        no new e true = kept_stops (loop (c.body ++ (f ∷ []))) new e (contains_clause new (loop (c.body ++ (f ∷ []))))
        no new e false = refl

    of_follows : (c : Clause) (a : Atom) → Follows env s (λ new. loop_of env set c new a >>= K) (push_of env set from c a >> J)
    of_follows c (Class _ _) = record { goes = F.goes; stops = F.stops }
    of_follows c (RoleAtom _ _ _) = record { goes = F.goes; stops = F.stops }
    of_follows c (Exists _ _ _) = record { goes = F.goes; stops = F.stops }
    of_follows c (AtMost r q n v) = over_follows c r v (contains set (role_id r))
    of_follows c (AtLeast _ _ _ _) = record { goes = F.goes; stops = F.stops }
    of_follows c (Equal _ _) = record { goes = F.goes; stops = F.stops }

  head_follows : (c : Clause) (l : List Atom) (K : List Clause → E (Unit {0})) (J : E (Unit {0})) → Follows env s K J → Follows env s (λ new. loops_of_head env set c l new >>= K) (push_head env set from c l >> J)
  unfolding loops_of_head push_head
  head_follows c [] K J F = record { goes = F.goes; stops = F.stops }
  head_follows c (a ∷ l) K J F =
      follows_both env s (λ new. loop_of env set c new a) (λ new. loops_of_head env set c l new) K (push_of env set from c a) (push_head env set from c l) J
      (of_follows (λ new. loops_of_head env set c l new >>= K) (push_head env set from c l >> J) (head_follows c l K J F) c a)

  all_follows : (l : List Clause) (K : List Clause → E (Unit {0})) (J : E (Unit {0})) → Follows env s K J → Follows env s (λ new. self_loops env set l new >>= K) (push_all env set from l >> J)
  unfolding self_loops push_all
  all_follows [] K J F = record { goes = F.goes; stops = F.stops }
  all_follows (c ∷ l) K J F =
      follows_both env s (λ new. loops_of_head env set c c.head new) (λ new. self_loops env set l new) K (push_head env set from c c.head) (push_all env set from l) J
      (head_follows c c.head (λ new. self_loops env set l new >>= K) (push_all env set from l >> J) (all_follows l K J F))

  -- the whole
  pub pushed_loops : add_counted_self_loops env set s ≡ push_all env set from s.clauses s
  unfolding add_counted_self_loops for_each
  pushed_loops =
      let F : Follows env s (λ new. for_each (push_one env) new) (return tt) = record { goes = λ new t e q. e; stops = λ new e. e } in
      let G = all_follows s.clauses (λ new. for_each (push_one env) new) (return tt) F in
      G.goes [] s refl (sym (append-nil s.clauses)) ∙ then_tt (push_all env set from s.clauses s)
