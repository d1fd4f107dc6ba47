use native.Mathlib.Omega.{arith}
use mathlib.Core.Path.{refl, ap}
use Prim.{tt}
use Rattle.ir.specs.declared.counters.Counters.{Counters}
use Rattle.ir.specs.Counts.{deferred_once}
use Rattle.tables.specs.Good.{good_same, alike_step}
use Rattle.words.specs.Laws.{length_words}
use Rattle.tables.specs.DrawnLaws.{defer_none, defer_after}
use Rattle.tables.proofs.defer.Goals as goal

pub returns-then-deferral_room-i : goal.returns-then-deferral_room-i
returns-then-deferral_room-i c = record {
  deferrals_after = λ env s x y l e. defer_none env _ s x y _ e _ (omega (arith, l.deferrals, c.deferral_room.ensures, length_words c.args.deferrals.now));
  good_answer = λ g. tt;
  kept_answer = tt;
}

pub returns : goal.returns
returns c = record {
  deferrals_after = λ env s x y l e. defer_after env _ s x y _ e _ _ _ _ (omega (arith, l.deferrals, c.deferral_room.ensures, length_words c.args.deferrals.now)) c.kind.ensures c.defer.ensures c.put_deferral.ensures;
  good_answer = λ g. good_same _ _ (ap (λ (x : Counters). x.limit) c.defer.ensures) (ap (λ (x : Counters). x.visits) c.defer.ensures) (ap (λ (x : Counters). x.next_var) c.defer.ensures) (ap (λ (x : Counters). x.next_class) c.defer.ensures) g;
  kept_answer = alike_step _ _ (deferred_once) c.defer.ensures refl refl refl refl;
}
