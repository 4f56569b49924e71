use Rattle.std.proofs.Common.{length, ap, ◌∙◌, arith}
use Rattle.er_paths.specs.Paths.{joins}
use Rattle.er_cover.specs.Groups.{grouping_by}
use Rattle.er_cover.specs.Parts.{Classing}
use Rattle.er_cover.proofs.ClockLemmas.{orders, selves}
use Rattle.er_cover.proofs.PartLemmas.{all_listed, all_tested, as_many_names, class_names_below, over_classing}
use Rattle.er_cover.proofs.grouping.group.Goals as goal

pub returns-in-Err-clause-many : goal.returns-in-Err-clause-many
returns-in-Err-clause-many c = λ is.
    (c.make_classes.ensures.many (cc))

pub returns-in-Err-clause-bound : goal.returns-in-Err-clause-bound
returns-in-Err-clause-bound c =
    (let h = c.make_classes.ensures.bound in omega (arith, h))

pub returns-in_err-names-clause-bound : goal.returns-in_err-names-clause-bound
returns-in_err-names-clause-bound c =
    let joined = joins c.args.clocks.now in
    let made = all_tested joined c.args.table.now c.in-Ok.classes c.count.result c.new-naming.result c.name_part-names.new.tests c.in-Ok.ensures.classes c.count.ensures.count c.new-naming.ensures c.name_part-names.ensures.bound in
    (omega (arith, made, c.make_classes.ensures.bound, c.absorb.ensures))

pub gather-requires-clause-below : goal.gather-requires-clause-below
gather-requires-clause-below c =
    let joined = joins c.args.clocks.now in
    class_names_below (length c.args.clocks.now) joined c.in-Ok.classes c.as_slice.result.now (orders c.args.clocks.now) (selves c.args.clocks.now) c.in-Ok.ensures.known (over_classing joined c.args.table.now c.in-Ok.classes c.in-Ok.ensures.classes)
    (all_listed joined c.in-Ok.classes c.count.result c.as_slice.result.now c.count.ensures.count (c.as_slice.ensures.value ∙ c.in_ok-names.ensures.names))

pub returns-in_err-groups-clause-bound : goal.returns-in_err-groups-clause-bound
returns-in_err-groups-clause-bound c =
    let joined = joins c.args.clocks.now in
    let made = all_tested joined c.args.table.now c.in-Ok.classes c.count.result c.new-naming.result c.name_part-names.new.tests c.in-Ok.ensures.classes c.count.ensures.count c.new-naming.ensures c.name_part-names.ensures.bound in
    (omega (arith, made, c.make_classes.ensures.bound, c.absorb.ensures))

pub returns-clause-groups : goal.returns-clause-groups
returns-clause-groups c =
    let joined = joins c.args.clocks.now in
    let named = all_listed joined c.in-Ok.classes c.count.result c.as_slice.result.now c.count.ensures.count (c.as_slice.ensures.value ∙ c.in_ok-names.ensures.names) in
    (c.in_ok-groups.ensures joined (over_classing joined c.args.table.now c.in-Ok.classes c.in-Ok.ensures.classes) named ∙ ap (λ (s : Classing). grouping_by joined s.by_race) c.in-Ok.ensures.classes)

pub returns-clause-each : goal.returns-clause-each
returns-clause-each c =
    let joined = joins c.args.clocks.now in
    let named = all_listed joined c.in-Ok.classes c.count.result c.as_slice.result.now c.count.ensures.count (c.as_slice.ensures.value ∙ c.in_ok-names.ensures.names) in
    as_many_names joined c.args.table.now c.args.races.now c.in_ok-groups.groups c.requires.races
    (c.in_ok-groups.ensures joined (over_classing joined c.args.table.now c.in-Ok.classes c.in-Ok.ensures.classes) named ∙ ap (λ (s : Classing). grouping_by joined s.by_race) c.in-Ok.ensures.classes)

pub returns-clause-few : goal.returns-clause-few
returns-clause-few c = c.in-Ok.ensures.few

pub returns-clause-bound : goal.returns-clause-bound
returns-clause-bound c =
    let joined = joins c.args.clocks.now in
    let made = all_tested joined c.args.table.now c.in-Ok.classes c.count.result c.new-naming.result c.name_part-names.new.tests c.in-Ok.ensures.classes c.count.ensures.count c.new-naming.ensures c.name_part-names.ensures.bound in
    (omega (arith, made, c.make_classes.ensures.bound, c.absorb.ensures))
