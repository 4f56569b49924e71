use Rattle.std.proofs.Common.{◌≡◌, ◌<◌, ◌≤◌, length, arith, refl, rules, sym, ◌∙◌}
use Rattle.std.specs.List.{zip}
use Rattle.er_json.specs.Fragments.{group_item}
use Rattle.er_syntax.proofs.BufferedLemmas.{holds_start}
use Rattle.er_syntax.proofs.SequenceLemmas.{all_lines, line_held, line_part}
use Rattle.er_report.proofs.ReportLemmas.{group_at, groups_long}
use Rattle.er_json.proofs.writer.put_groups.Goals as goal

pub loop-g-init : goal.loop-g-init
loop-g-init g c = record { came = holds_start _ _; stands = refl }

pub returns-in_err-put_fragment-clause-part : goal.returns-in_err-put_fragment-clause-part
returns-in_err-put_fragment-clause-part g c =
    let representatives = c.args.groups.now.representatives in
    let sizes = c.args.groups.now.sizes in
    let within : c.loop-g.g < length representatives = rw c.count-g-end.ensures.count at c.loop-g-test.true in
    let here = group_at representatives sizes c.loop-g.g c.representative.result c.size.result c.requires within c.representative.ensures c.size.ensures in
    let part = line_part group_item (zip representatives sizes) c.loop-g.g (c.representative.result, c.size.result) _ _ _ _ _ here c.loop-g.invariant.came (rw c.parts_of_group-parts.ensures at c.in_err-put_fragment.ensures.part) in
    search rules

pub loop-g-preserved : goal.loop-g-preserved
loop-g-preserved g c =
    let representatives = c.args.groups.now.representatives in
    let sizes = c.args.groups.now.sizes in
    let within : c.loop-g.g < length representatives = rw c.count-g-end.ensures.count at c.loop-g-test.true in
    let here = group_at representatives sizes c.loop-g.g c.representative.result c.size.result c.requires within c.representative.ensures c.size.ensures in
    record {
      came = line_held group_item (zip representatives sizes) c.loop-g.g (c.representative.result, c.size.result) _ _ _ _ _ _ here c.loop-g.invariant.came (rw c.parts_of_group-parts.ensures at c.in_ok-put_fragment.ensures.whole);
      stands = c.in_ok-put_fragment.ensures.counts.stands ∙ c.loop-g.invariant.stands;
    }

pub returns-clause-whole : goal.returns-clause-whole
returns-clause-whole g c =
    let groups = zip c.args.groups.now.representatives c.args.groups.now.sizes in
    let long : length groups ≡ c.count-g-end.result = groups_long _ _ c.requires ∙ sym c.count-g-end.ensures.count in
    let past : length groups ≤ c.loop-g.g = omega (arith, long, c.loop-g-test.false) in
    rw (all_lines group_item groups c.loop-g.g past) at c.loop-g.invariant.came
