use Rattle.std.proofs.Common.{◌≡◌, ◌+◌, ◌*◌, ◌<◌, ◌≤◌, All, List, length, ap, sym, subst, ◌∙◌}
use Rattle.std.proofs.lemmas.Result.{IfOk-weaker, on_ok_weaker}
use Rattle.er_paths.specs.Paths.{joins}
use Rattle.er_cover.specs.declared.class.Class.{Class}
use Rattle.er_cover.specs.Classes.{each_once}
use Rattle.er_cover.specs.Groups.{groups_by, most_classes}
use Rattle.er_cover.specs.Parts.{Classing, classing_by, classing_of}
use Rattle.er_cover.specs.Passes.{IsKnown}
use Rattle.er_cover.proofs.RaceLemmas.{races_within, classes_numbered, classes_known}
use Rattle.er_cover.proofs.parts.make_classes.Goals as goal

pub classes_by_race-requires : goal.classes_by_race-requires
classes_by_race-requires c = races_within (joins c.args.clocks.now) c.args.table.now c.args.races.now c.requires.races

pub with_groups-requires-clause-known : goal.with_groups-requires-clause-known
with_groups-requires-clause-known c =
    let found = classes_numbered (joins c.args.clocks.now) c.args.table.now c.args.races.now c.in_ok-by_race.by_race.items c.requires.races c.in_ok-by_race.ensures in
    classes_known (length c.args.clocks.now) (joins c.args.clocks.now) c.args.table.now c.in_ok-by_race.by_race.items c.requires.known found

pub returns-clause-classes : goal.returns-clause-classes
returns-clause-classes c =
    let found = classes_numbered (joins c.args.clocks.now) c.args.table.now c.args.races.now c.in_ok-by_race.by_race.items c.requires.races c.in_ok-by_race.ensures in
    IfOk-weaker c.with_groups.result (λ v. v ≡ classing_by (joins c.args.clocks.now) c.in_ok-by_race.by_race.items) (λ v. v ≡ classing_of (joins c.args.clocks.now) c.args.table.now) (λ v h. h ∙ ap (classing_by (joins c.args.clocks.now)) found) c.with_groups.ensures.classes

pub returns-clause-known : goal.returns-clause-known
returns-clause-known c =
    let found = classes_numbered (joins c.args.clocks.now) c.args.table.now c.args.races.now c.in_ok-by_race.by_race.items c.requires.races c.in_ok-by_race.ensures in
    let known = classes_known (length c.args.clocks.now) (joins c.args.clocks.now) c.args.table.now c.in_ok-by_race.by_race.items c.requires.known found in
    let at : Classing → Type 0 = λ s. All (IsKnown (length c.args.clocks.now)) s.by_race in
    IfOk-weaker c.with_groups.result (λ v. v ≡ classing_by (joins c.args.clocks.now) c.in_ok-by_race.by_race.items) (λ v. at v) (λ v h. subst at (sym h) known) c.with_groups.ensures.classes

pub returns-clause-few : goal.returns-clause-few
returns-clause-few c =
    let found = classes_numbered (joins c.args.clocks.now) c.args.table.now c.args.races.now c.in_ok-by_race.by_race.items c.requires.races c.in_ok-by_race.ensures in
    let at : List Class → Type 0 = λ xs. length (each_once xs) ≤ most_classes in
    on_ok_weaker c.with_groups.result (λ h. subst at found h) c.with_groups.ensures.few

pub returns-clause-many : goal.returns-clause-many
returns-clause-many c = λ is.
    let found = classes_numbered (joins c.args.clocks.now) c.args.table.now c.args.races.now c.in_ok-by_race.by_race.items c.requires.races c.in_ok-by_race.ensures in
    let at : List Class → Type 0 = λ xs. most_classes < length (each_once xs) in
    subst at found (c.with_groups.ensures.many is)

pub returns-clause-bound : goal.returns-clause-bound
returns-clause-bound c =
    let found = classes_numbered (joins c.args.clocks.now) c.args.table.now c.args.races.now c.in_ok-by_race.by_race.items c.requires.races c.in_ok-by_race.ensures in
    let at : List Class → Type 0 = λ xs. c.with_groups.new.tests ≤ c.args.tests.now + 2 * (length (each_once xs) * length (groups_by (joins c.args.clocks.now) xs)) in
    subst at found c.with_groups.ensures.bound
