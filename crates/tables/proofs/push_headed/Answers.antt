use native.Mathlib.Omega.{arith}
use mathlib.Core.Path.{refl, ap}
use mathlib.Core.List.{[], ◌∷◌}
use Prim.{tt}
use lib.ListN.{length, length-append}
use Rattle.ir.specs.declared.counters.Counters.{Counters}
use Rattle.ir.specs.Counts.{pushed}
use Rattle.tables.specs.Good.{good_same, alike_step}
use Rattle.words.specs.Words.{words}
use Rattle.words.specs.Laws.{length_words}
use Rattle.tables.specs.DrawnLaws.{push_no_room, push_after, headed_stores}
use Rattle.std.proofs.lemmas.Result.{err_from_is_err_and}
use Rattle.tables.proofs.push_headed.Goals as goal

pub returns-in_err-room : goal.returns-in_err-room
returns-in_err-room c =
    let a = c.args in
    let p = err_from_is_err_and c.from_residual.result c.from_residual.ensures.1 in
    let q = c.in_err-room.ensures in rw (p.1, p.2, q.0) (record {
      d_after = λ env b s d l X e.
          push_no_room env _ s _ _ d e b (a.head ∷ []) (length a.clauses.now) (length a.atoms.now) _ (omega (arith, l.clauses, length_words a.clauses.now)) (omega (arith, l.atoms, length_words a.atoms.now)) (omega (arith, c.atom_room-m.ensures, X.long, length-append b (a.head ∷ []))) q.1;
      good_answer = λ g. tt;
      kept_answer = tt;
    })

pub returns : goal.returns
returns c =
    let a = c.args in record {
      d_after = λ env b s d l X e.
          let j = length-append b (a.head ∷ []) in
          push_after env _ s _ _ d e b (a.head ∷ []) _ _ _ _ _ _ _ (omega (arith, l.clauses, c.in_ok-room.ensures.0, length_words a.clauses.now)) (omega (arith, l.atoms, c.in_ok-room.ensures.1, length_words a.atoms.now)) (omega (arith, X.long)) (omega (arith, X.long)) (omega arith) refl c.push.ensures c.put_clause.ensures
          (headed_stores (words a.atoms.now) (words c.copy_words.new.s) (words c.put_atom.new.t) (words a.run.now) a.k.now.atoms _ b a.head X.are (omega (arith, X.long)) c.copy_words.ensures c.put_atom.ensures);
      good_answer = λ g. good_same _ _ (ap (λ (x : Counters). x.limit) c.push.ensures) (ap (λ (x : Counters). x.visits) c.push.ensures) (ap (λ (x : Counters). x.next_var) c.push.ensures) (ap (λ (x : Counters). x.next_class) c.push.ensures) g;
      kept_answer = alike_step _ _ (pushed _) c.push.ensures refl refl refl refl;
    }
