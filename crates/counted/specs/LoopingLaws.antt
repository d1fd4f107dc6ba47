-- The tables while loops are pushed: at first, after a rule that appends, and in the end. Assumes nothing.
use Rattle.std.specs.Prelude.{◌≡◌, refl, List, ◌++◌, ℕ, ◌+◌, ◌*◌, ◌≤◌, ◌^◌, length, take, drop}
use Rattle.std.proofs.Common.{sym, ap, subst, ◌∙◌, arith, length-append, take-append-drop, drop_of_length-le, take-take, take_all}
use Prim.{Unit, tt}
use Rattle.std.proofs.lemmas.List.{take-append-le, drop-append-le}
use Rattle.ir.specs.declared.counters.Counters.{Counters}
use Rattle.ir.specs.Answer.{Answer}
use Rattle.ir.specs.Answer.{Done, Refused}
use Rattle.rules.specs.Base.{Res}
use Rattle.rules.specs.State.{Clause, Env, Out, total}
use Rattle.rules.specs.Run.{clause_words, clause_records}
use Rattle.rules.specs.DecodeLaws.{clause_records_long}
use Rattle.rules.specs.Added.{Added}
use Rattle.rules.proofs.BoundLaws.{clauses_grow}
use Rattle.rules.specs.Ends.{Ends, ends, stops}
use Rattle.rules.specs.EachLaws.{each_append}
use Rattle.rules.specs.Invariants.{Each, ClauseIn}
use Rattle.tables.specs.Drawn.{tables, show, shown, after}
use Rattle.tables.specs.DrawnLaws.{atoms_count, show_same}
use Rattle.leaves.specs.StepLaws.{lent_kept}
use Rattle.tables.specs.Tabled.{Tabled}
use Rattle.contraction.specs.Passes.{StandingBelow, Standing, Drawn}
use Rattle.tables.specs.ClauseLaws.{clauses_append, show_tabled, tabled_same}
use Rattle.counted.specs.SelfLoops.{Showing, Looping, Looped, LoopedAfter}

showing_tabled : (k : Counters) (c a : List ℕ) (l : List Clause) → Showing k c a l → Tabled c a k.clauses l
showing_tabled k c a l S = subst (λ (m : List Clause). Tabled c a k.clauses m) S.clauses (show_tabled S.from.env k c a S.deferrals S.from.state S.from.drawn)

pub looping_tabled : (k : Counters) (c a : List ℕ) (from : ℕ) (L : Looping k c a from) → Tabled c a k.clauses L.list
looping_tabled k c a from L = showing_tabled k c a L.list L.showing

pub looping_within : (k : Counters) (c a : List ℕ) (from : ℕ) → Looping k c a from → from ≤ k.clauses
looping_within k c a from L = omega (arith, L.within, (looping_tabled k c a from L).count)

pub looping_start : (k : Counters) (c a d : List ℕ) → Standing k c a → Drawn k c a d → Looping k c a k.clauses
looping_start k c a d S D =
    let n = S.tabled.count in
    let e : D.state.clauses ≡ S.list = tabled_same c a k.clauses D.state.clauses S.list (show_tabled D.env k c a d D.state D.drawn) S.tabled in
    record {
      list = S.list;
      showing = record { deferrals = d; from = D; clauses = e };
      bounds = S.bounds;
      roles = S.roles;
      fresh = S.fresh;
      classes = S.classes;
      vars = S.vars;
      few = S.few;
      within = omega arith;
      old = rw (take_all k.clauses S.list (omega arith)) S.inside;
      new = rw (drop_of_length-le S.list {i = k.clauses} (omega arith)) tt;
    }

pub looping_end : (k : Counters) (c a : List ℕ) (from : ℕ) → Looping k c a from → StandingBelow (2 ^ 31 + 1) k c a
looping_end k c a from L =
    let Q = L.showing in
    record {
      list = L.list;
      tabled = looping_tabled k c a from L;
      atoms = atoms_count Q.from.env k Q.from.state c a Q.deferrals Q.from.drawn ∙ ap total Q.clauses;
      bounds = L.bounds;
      roles = L.roles;
      fresh = L.fresh;
      classes = L.classes;
      vars = L.vars + 1;
      few = omega (arith, L.few);
      inside = subst (Each (ClauseIn L.bounds L.fresh (L.vars + 1))) (take-append-drop from L.list)
          (each_append (ClauseIn L.bounds L.fresh (L.vars + 1)) (take from L.list) (drop from L.list)
          (clauses_grow L.bounds {fresh = L.fresh} {fresh' = L.fresh} {vars = L.vars} {vars' = L.vars + 1} (omega arith) (omega arith) (take from L.list) L.old) L.new);
    }

-- the first rows, of a longer list
rows_same : (c a c' a' : List ℕ) (n n' from : ℕ) (l m : List Clause) → Tabled c a n l → Tabled c' a' n' (l ++ m) → from ≤ length l → take (clause_words * from) c' ≡ take (clause_words * from) c
rows_same c a c' a' n n' from l m T U h =
    let p = length-append l m in
    let q : length (clause_records 0 l) ≡ clause_words * length l = clause_records_long 0 l in
    sym (take-take (clause_words * from) (clause_words * n') c' (omega (arith, U.count)))
    ∙ ap (take (clause_words * from)) (U.clauses ∙ clauses_append 0 l m)
    ∙ take-append-le (clause_words * from) (clause_records 0 l) (clause_records (0 + total l) m) (omega arith)
    ∙ ap (take (clause_words * from)) (sym T.clauses)
    ∙ take-take (clause_words * from) (clause_words * n) c (omega (arith, T.count))

pub looped_same : (k : Counters) (c a : List ℕ) (from : ℕ) → Looping k c a from → Looped k c c a from
looped_same k c a from L = record { looping = L; rows = refl }

module _ (k : Counters) (c a : List ℕ) (from : ℕ) (L : Looping k c a from) (c' a' : List ℕ) (lc : length c' ≡ length c) (la : length a' ≡ length a) where
  abbrev s : Out
  s = L.showing.from.state

  abbrev env : Env
  env = L.showing.from.env

  abbrev d : List ℕ
  d = L.showing.deferrals

  appended : (k' : Counters) (t : Out) → tables k' c' a' d ≡ show k env.rooms t → Added env (ClauseIn L.bounds L.fresh (L.vars + 1)) s t → Looped k' c c' a' from
  appended k' t e A =
      let z : t.clauses ≡ L.list ++ A.new = A.clauses ∙ ap (λ (l : List Clause). l ++ A.new) L.showing.clauses in
      let p = length-append L.list A.new in
      let Q : Showing k' c' a' (L.list ++ A.new) = record {
        deferrals = d;
        from = record { env = env; state = t; lent = lent_kept env.rooms c a d c' a' d lc la refl L.showing.from.lent; drawn = show_same k k' env.rooms t c' a' d e };
        clauses = z;
      } in
      record {
        looping = record {
          list = L.list ++ A.new;
          showing = Q;
          bounds = L.bounds;
          roles = L.roles;
          fresh = L.fresh;
          classes = L.classes;
          vars = L.vars;
          few = L.few;
          within = omega (arith, L.within);
          old = rw (take-append-le from L.list A.new L.within) L.old;
          new = rw (drop-append-le from L.list A.new L.within) (each_append (ClauseIn L.bounds L.fresh (L.vars + 1)) (drop from L.list) A.new L.new A.new_all);
        };
        rows = rows_same c a c' a' k.clauses k'.clauses from L.list A.new (looping_tabled k c a from L) (showing_tabled k' c' a' (L.list ++ A.new) Q) L.within;
      }

  -- a rule that appends clauses within the bounds
  pub looped_next : (r : Answer) (X : Res Out (Unit {0})) → Ends (λ _ t. Added env (ClauseIn L.bounds L.fresh (L.vars + 1)) s t) X → after r c' a' d ≡ shown (λ _. 0) k env.rooms X → LoopedAfter from c c' a' r
  looped_next (Refused n) X A e = tt
  looped_next (Done k' n) X (ends {a = u} {s = t} A) e = appended k' t (cc) A
  looped_next (Done k' n) X (stops {k = q} h) e = absurd (let z : ◌≡◌ {A = ℕ} 0 1 = cc in omega arith)
