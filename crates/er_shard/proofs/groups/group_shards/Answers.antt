use Rattle.std.proofs.Common.{◌≡◌, ◌+◌, ◌*◌, ◌≤◌, ◌<◌, All, ℕ, List, length, ap, sym, subst, ◌∙◌, arith}
use Rattle.er_paths.specs.Paths.{joins}
use Rattle.er_cover.specs.declared.fault.CoverFault.TheVariants.{TooManyClasses}
use Rattle.er_cover.specs.Classes.{classes_of}
use Rattle.er_cover.specs.Groups.{Grouping, grouping_by, grouping_of, groups_of, most_classes, most_tests}
use Rattle.er_cover.specs.Parts.{Classing, class_names}
use Rattle.er_cover.proofs.ClockLemmas.{orders, selves}
use Rattle.er_cover.proofs.PartLemmas.{as_many_names, class_names_below, few_tests, over_classing}
use Rattle.er_shard.proofs.NamedLemmas.{all_bounded, named_all}
use Rattle.er_shard.proofs.groups.group_shards.Goals as goal

pub returns-in-Err-clause-many : goal.returns-in-Err-clause-many
returns-in-Err-clause-many g c = λ is.
    let same : c.in-Err.fault ≡ TooManyClasses = cc in
    (c.make_classes.ensures.many (cc))

pub returns-in-Err-clause-bound : goal.returns-in-Err-clause-bound
returns-in-Err-clause-bound g c =
    (let h = c.make_classes.ensures.bound in omega (arith, h))

pub absorb-requires : goal.absorb-requires
absorb-requires g c =
    let joined = joins c.args.clocks.now in
    let kept = c.args.table.now in
    let made = all_bounded c.args.work.now.shards joined c.in-Ok.classes kept c.name_between-all.result.names c.name_between-all.result.meter c.requires.some c.in-Ok.ensures.classes c.name_between-all.ensures in
    omega (arith, made, c.in-Ok.ensures.bound, few_tests joined kept c.in-Ok.ensures.few, c.requires.room)

pub gather-requires-clause-below : goal.gather-requires-clause-below
gather-requires-clause-below g c =
    let joined = joins c.args.clocks.now in
    class_names_below (length c.args.clocks.now) joined c.in-Ok.classes c.deref.result.now (orders c.args.clocks.now) (selves c.args.clocks.now) c.in-Ok.ensures.known (over_classing joined c.args.table.now c.in-Ok.classes c.in-Ok.ensures.classes)
    (c.deref.ensures.value ∙ named_all c.args.work.now.shards joined c.in-Ok.classes c.name_between-all.result.names c.in-Ok-names.names c.name_between-all.result.meter c.requires.some c.in-Ok-names.is c.name_between-all.ensures)

pub returns-in-Ok-gather-clause-groups : goal.returns-in-Ok-gather-clause-groups
returns-in-Ok-gather-clause-groups g c =
    let joined = joins c.args.clocks.now in
    let named : c.deref.result.now ≡ class_names joined c.in-Ok.classes = c.deref.ensures.value ∙ named_all c.args.work.now.shards joined c.in-Ok.classes c.name_between-all.result.names c.in-Ok-names.names c.name_between-all.result.meter c.requires.some c.in-Ok-names.is c.name_between-all.ensures in
    (c.in-Ok-gather.ensures joined (over_classing joined c.args.table.now c.in-Ok.classes c.in-Ok.ensures.classes) named ∙ ap (λ (s : Classing). grouping_by joined s.by_race) c.in-Ok.ensures.classes)

pub returns-in-Ok-gather-clause-each : goal.returns-in-Ok-gather-clause-each
returns-in-Ok-gather-clause-each g c =
    let joined = joins c.args.clocks.now in
    let named : c.deref.result.now ≡ class_names joined c.in-Ok.classes = c.deref.ensures.value ∙ named_all c.args.work.now.shards joined c.in-Ok.classes c.name_between-all.result.names c.in-Ok-names.names c.name_between-all.result.meter c.requires.some c.in-Ok-names.is c.name_between-all.ensures in
    as_many_names joined c.args.table.now c.args.races.now c.in-Ok-gather.groups c.requires.races
    (c.in-Ok-gather.ensures joined (over_classing joined c.args.table.now c.in-Ok.classes c.in-Ok.ensures.classes) named ∙ ap (λ (s : Classing). grouping_by joined s.by_race) c.in-Ok.ensures.classes)

pub returns-in-Ok-gather-clause-few : goal.returns-in-Ok-gather-clause-few
returns-in-Ok-gather-clause-few g c = c.in-Ok.ensures.few

pub returns-in-Ok-gather-clause-bound : goal.returns-in-Ok-gather-clause-bound
returns-in-Ok-gather-clause-bound g c =
    let joined = joins c.args.clocks.now in
    let kept = c.args.table.now in
    let made = all_bounded c.args.work.now.shards joined c.in-Ok.classes kept c.name_between-all.result.names c.name_between-all.result.meter c.requires.some c.in-Ok.ensures.classes c.name_between-all.ensures in
    (omega (arith, made, c.in-Ok.ensures.bound, c.absorb.ensures))

pub returns-in-Ok-names-clause-bound : goal.returns-in-Ok-names-clause-bound
returns-in-Ok-names-clause-bound g c =
    let joined = joins c.args.clocks.now in
    let kept = c.args.table.now in
    let made = all_bounded c.args.work.now.shards joined c.in-Ok.classes kept c.name_between-all.result.names c.name_between-all.result.meter c.requires.some c.in-Ok.ensures.classes c.name_between-all.ensures in
    (omega (arith, made, c.in-Ok.ensures.bound, c.absorb.ensures))

pub returns-clause-bound : goal.returns-clause-bound
returns-clause-bound g c =
    let joined = joins c.args.clocks.now in
    let kept = c.args.table.now in
    let made = all_bounded c.args.work.now.shards joined c.in-Ok.classes kept c.name_between-all.result.names c.name_between-all.result.meter c.requires.some c.in-Ok.ensures.classes c.name_between-all.ensures in
    (omega (arith, made, c.in-Ok.ensures.bound, c.absorb.ensures))
