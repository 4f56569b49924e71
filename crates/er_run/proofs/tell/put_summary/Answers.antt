use Rattle.er_io.specs.Ends.{Puts}
use Rattle.er_run.proofs.JudgedLemmas.{found_by_clocks, groups_by_clocks, summary_due}
use Rattle.er_run.proofs.tell.put_summary.Goals as goal

pub write_summary-requires : goal.write_summary-requires
write_summary-requires g c =
    let s = c.args.session.now in
    let links = c.clocks.result.now in
    let r = c.requires in
    let listing = c.args.listing.now in
    record {
      races = rw c.deref.ensures.value (found_by_clocks s links r.list listing.races.items c.clocks.ensures r.stands r.is.listed);
      groups = groups_by_clocks s links r.list listing.groups c.clocks.ensures r.stands r.is.grouped;
    }

pub returns : goal.returns
returns g c = λ h stands.
    summary_due c.args.number c.args.session.now c.clocks.result.now h (λ text. Puts g.K.Sink.got g.K.Sink.faults c.args.sink.now text c.write_summary.new.sink c.write_summary.result) c.clocks.ensures stands c.write_summary.ensures
