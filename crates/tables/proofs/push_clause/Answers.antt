use native.Mathlib.Omega.{arith}
use mathlib.Core.Path.{refl, ap}
use Prim.{tt}
use lib.ListN.{length, length-append}
use Rattle.ir.specs.declared.counters.Counters.{Counters}
use Rattle.ir.specs.Counts.{pushed}
use Rattle.tables.specs.Good.{good_same, alike_step}
use Rattle.words.specs.Laws.{length_words}
use Rattle.tables.specs.DrawnLaws.{push_no_room, push_runs}
use Rattle.std.proofs.lemmas.Result.{err_from_is_err_and}
use Rattle.tables.proofs.push_clause.Goals as goal

pub returns-in_err-room : goal.returns-in_err-room
returns-in_err-room c =
    let a = c.args in
    let p = err_from_is_err_and c.from_residual.result c.from_residual.ensures.1 in
    let q = c.in_err-room.ensures in rw (p.1, p.2, q.0) (record {
      d_after = λ env b h s d l X Y e.
          push_no_room env _ s _ _ d e b h (length a.clauses.now) (length a.atoms.now) _ (omega (arith, l.clauses, length_words a.clauses.now)) (omega (arith, l.atoms, length_words a.atoms.now)) (omega (arith, c.atom_room-n.ensures, c.atom_room-m.ensures, X.long, Y.long, length-append b h)) q.1;
      good_answer = λ g. tt;
      kept_answer = tt;
    })

pub returns : goal.returns
returns c =
    let a = c.args in
    let p = c.push.ensures in record {
      d_after = λ env b h s d l X Y e.
          push_runs env _ s _ _ d e b h a.body.now a.head.now _ _ _ _ _ _ X Y c.atom_room-n.ensures c.atom_room-m.ensures (omega (arith, l.clauses, c.in_ok-room.ensures.0, length_words a.clauses.now))
          (omega (arith, l.atoms, c.in_ok-room.ensures.1, length_words a.atoms.now)) p c.put_clause.ensures c.copy_words.ensures c.copy_words-2.ensures;
      good_answer = λ g. good_same _ _ (ap (λ (x : Counters). x.limit) p) (ap (λ (x : Counters). x.visits) p) (ap (λ (x : Counters). x.next_var) p) (ap (λ (x : Counters). x.next_class) p) g;
      kept_answer = alike_step _ _ (pushed _) p refl refl refl refl;
    }
