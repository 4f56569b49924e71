use Rattle.std.proofs.Common.{◌≡◌, ◌-◌, length, ap, refl, ◌∙◌}
use Rattle.er_paths.specs.Paths.{joins}
use Rattle.er_cover.specs.Groups.{groups_by}
use Rattle.er_cover.specs.Parts.{Classing, once_of}
use Rattle.er_cover.proofs.ClockLemmas.{selves}
use Rattle.er_cover.proofs.GroupLemmas.{groups_known, groups_maximal, once_known}
use Rattle.er_cover.proofs.PartLemmas.{part_known}
use Rattle.er_cover.proofs.parts.name_part.Goals as goal

pub name_all-requires-clause-groups : goal.name_all-requires-clause-groups
name_all-requires-clause-groups c =
    let are : c.classes.inside.groups.keys ≡ groups_by (joins c.args.clocks.now) c.args.classes.now.by_race = ap (λ (s : Classing). s.groups) c.classes.view_is ∙ c.requires.over in
    groups_known (length c.args.clocks.now) (joins c.args.clocks.now) c.args.classes.now.by_race c.classes.inside.groups.keys are c.requires.known

pub name_all-requires-clause-maximal : goal.name_all-requires-clause-maximal
name_all-requires-clause-maximal c =
    let are : c.classes.inside.groups.keys ≡ groups_by (joins c.args.clocks.now) c.args.classes.now.by_race = ap (λ (s : Classing). s.groups) c.classes.view_is ∙ c.requires.over in
    groups_maximal (length c.args.clocks.now) (joins c.args.clocks.now) c.args.classes.now.by_race c.classes.inside.groups.keys (selves c.args.clocks.now) c.requires.known are

pub name_all-requires-clause-classes : goal.name_all-requires-clause-classes
name_all-requires-clause-classes c =
    part_known (length c.args.clocks.now) (c.args.to - c.args.from) c.args.from (once_of c.args.classes.now) c.between-part.result.now c.between-part.ensures
    (once_known (length c.args.clocks.now) c.args.classes.now.by_race (once_of c.args.classes.now) refl c.requires.known)
