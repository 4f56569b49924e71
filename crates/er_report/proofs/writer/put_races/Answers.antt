use Rattle.std.proofs.Common.{refl, rules, ◌∙◌}
use Rattle.er_races.specs.declared.race.Race.{Race}
use Rattle.er_report.specs.Fragments.{placed}
use Rattle.er_report.specs.Report.{race_line}
use Rattle.er_syntax.proofs.BufferedLemmas.{holds_start}
use Rattle.er_syntax.proofs.SequenceLemmas.{line_held, line_part}
use Rattle.er_report.proofs.ReportLemmas.{reads_pair}
use Rattle.er_report.proofs.writer.put_races.Goals as goal

pub loop-place-init : goal.loop-place-init
loop-place-init g c = record { came = λ pairs are. holds_start _ _; stands = refl }

pub returns-in_err-put_text-clause-part : goal.returns-in_err-put_text-clause-part
returns-in_err-put_text-clause-part g c = λ pairs are.
    let d : Race = record { first = 0; second = 0 } in
    let x = c.access-first.result in
    let y = c.access-second.result in
    let l = c.location-loc.result.now in
    let at = reads_pair c.args.table.now c.args.races.now pairs c.loop-place.place d x y l are c.loop-place-test.true c.location-loc.ensures c.access-second.ensures.known c.access-first.ensures.kept c.access-second.ensures.kept in
    let part = line_part race_line pairs c.loop-place.place (placed x l, placed y at.other) _ _ _ _ _ at.here (c.loop-place.invariant.came pairs are) c.in_err-put_text.ensures.part in
    search rules

pub loop-place-preserved : goal.loop-place-preserved
loop-place-preserved g c = record {
  came = λ pairs are.
      let d : Race = record { first = 0; second = 0 } in
      let x = c.access-first.result in
      let y = c.access-second.result in
      let l = c.location-loc.result.now in
      let at = reads_pair c.args.table.now c.args.races.now pairs c.loop-place.place d x y l are c.loop-place-test.true c.location-loc.ensures c.access-second.ensures.known c.access-first.ensures.kept c.access-second.ensures.kept in
      line_held race_line pairs c.loop-place.place (placed x l, placed y at.other) _ _ _ _ _ _ at.here (c.loop-place.invariant.came pairs are) c.in_ok-put_text.ensures.whole;
  stands = c.in_ok-put_text.ensures.counts.stands ∙ c.loop-place.invariant.stands;
}
