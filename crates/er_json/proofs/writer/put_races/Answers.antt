use Rattle.std.proofs.Common.{◌<◌, ◌≤◌, length, arith, refl, rules, ◌∙◌}
use Rattle.std.specs.List.{zip}
use Rattle.er_races.specs.declared.race.Race.{Race}
use Rattle.er_report.specs.Fragments.{placed}
use Rattle.er_report.proofs.ReportLemmas.{name_at, reads_pair}
use Rattle.er_syntax.proofs.BufferedLemmas.{holds_start}
use Rattle.er_syntax.proofs.SequenceLemmas.{all_lines, line_held, line_part}
use Rattle.er_json.specs.Fragments.{race_item}
use Rattle.er_json.proofs.LineLemmas.{no_longer, zip_at}
use Rattle.er_json.proofs.writer.put_races.Goals as goal

pub loop-place-init : goal.loop-place-init
loop-place-init g c = record { came = λ pairs are. holds_start _ _; stands = refl }

pub returns-in_err-put_fragment-clause-part : goal.returns-in_err-put_fragment-clause-part
unfolding race_item
returns-in_err-put_fragment-clause-part g c = λ pairs are.
    let d : Race = record { first = 0; second = 0 } in
    let x = c.access-first.result in
    let y = c.access-second.result in
    let l = c.location-loc.result.now in
    let names = c.args.groups.now.names in
    let k = c.loop-place.place in
    let n = c.names-group.result in
    let at = reads_pair c.args.table.now c.args.races.now pairs k d x y l are c.loop-place-test.true c.location-loc.ensures c.access-second.ensures.known c.access-first.ensures.kept c.access-second.ensures.kept in
    let within : k < length names = rw c.requires.names c.loop-place-test.true in
    let here = zip_at pairs names k (placed x l, placed y at.other) n at.here (name_at names k n within c.names-group.ensures) in
    let part = line_part race_item (zip pairs names) k ((placed x l, placed y at.other), n) _ _ _ _ _ here (c.loop-place.invariant.came pairs are) (rw c.parts_of_race-parts.ensures at c.in_err-put_fragment.ensures.part) in
    search rules

pub loop-place-preserved : goal.loop-place-preserved
unfolding race_item
loop-place-preserved g c = record {
  came = λ pairs are.
      let d : Race = record { first = 0; second = 0 } in
      let x = c.access-first.result in
      let y = c.access-second.result in
      let l = c.location-loc.result.now in
      let names = c.args.groups.now.names in
      let k = c.loop-place.place in
      let n = c.names-group.result in
      let at = reads_pair c.args.table.now c.args.races.now pairs k d x y l are c.loop-place-test.true c.location-loc.ensures c.access-second.ensures.known c.access-first.ensures.kept c.access-second.ensures.kept in
      let within : k < length names = rw c.requires.names c.loop-place-test.true in
      let here = zip_at pairs names k (placed x l, placed y at.other) n at.here (name_at names k n within c.names-group.ensures) in
      line_held race_item (zip pairs names) k ((placed x l, placed y at.other), n) _ _ _ _ _ _ here (c.loop-place.invariant.came pairs are) (rw c.parts_of_race-parts.ensures at c.in_ok-put_fragment.ensures.whole);
  stands = c.in_ok-put_fragment.ensures.counts.stands ∙ c.loop-place.invariant.stands;
}

pub returns-clause-whole : goal.returns-clause-whole
returns-clause-whole g c = λ pairs are.
    let names = c.args.groups.now.names in
    let past : length (zip pairs names) ≤ c.loop-place.place = omega (arith, no_longer pairs names, c.requires.names, c.loop-place-test.false) in
    rw (all_lines race_item (zip pairs names) c.loop-place.place past) at (c.loop-place.invariant.came pairs are)
