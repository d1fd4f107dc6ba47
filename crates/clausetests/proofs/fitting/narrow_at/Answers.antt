use lib.ListN.{get_or}
use Rattle.words.specs.Words.{words}
use Rattle.tables.specs.AtomLaws.{no_atom}
use Rattle.clausetests.specs.Fitting.{is_head}
use Rattle.clausetests.proofs.RunLaws.{read_some, read_nth, run_within, there_nth, meant_nth, tables_nth}
use Rattle.clausetests.proofs.fitting.narrow_at.Goals as goal

pub unreachable-requires : goal.unreachable-requires
unreachable-requires c =
    let A = c.args in
    let R = c.requires.1 in
    read_some A.run.now A.i R.list R.are c.requires.0 c.get_atom.result c.get_atom.ensures c.in_default.is

pub narrow_atom-requires : goal.narrow_atom-requires
narrow_atom-requires c =
    let A = c.args in
    let R = c.requires.1 in
    there_nth A.state.now.size A.v A.state.now.text.now A.state.now.store.now A.scratch.now R.list A.i _ (run_within A.run.now A.i R.list R.are c.requires.0)
    (read_nth A.run.now A.i R.list R.are c.requires.0 c.get_atom.result c.get_atom.ensures _ c.in-Some.is) R.there

pub returns : goal.returns
returns c =
    let A = c.args in record {
      tables = (λ I roles vs l one two R M T.
          let e = read_nth A.run.now A.i l R c.requires.0 c.get_atom.result c.get_atom.ensures _ c.in-Some.is in
          let h = run_within A.run.now A.i l R c.requires.0 in
          tables_nth I vs (is_head A.side) A.state.now.size A.v.n _ (get_or l A.i no_atom) one two _ e
          (c.narrow_atom.ensures.tables I roles vs one two
          (rw e (meant_nth I roles vs A.state.now.size l A.v A.state.now.text.now (words A.state.now.store.now) (words A.scratch.now) M A.i h)) T));
      changed = c.narrow_atom.ensures.changed;
    }
