use Rattle.std.proofs.Common.{◌≡◌, ◌<◌, ℕ, All, List, length, refl, sym, ap, subst, ◌∙◌}
use Rattle.std.specs.List.{AllByRecursion}
use Rattle.std.specs.Prelude.{map, true}
use Rattle.er_cover.specs.declared.class.Class.{Class}
use Rattle.er_cover.specs.Classes.{is_among, each_once}
use Rattle.er_cover.specs.Groups.{groups_by, names_by}
use Rattle.er_cover.specs.Parts.{Classing}
use Rattle.er_cover.specs.Passes.{first_races, value_of, representatives_by}
use Rattle.er_cover.proofs.GroupLemmas.{races_there, all_there, names_are, representatives_are, sizes_are, grouping_is}
use Rattle.er_cover.proofs.PartLemmas.{looked_below}
use Rattle.er_cover.proofs.parts.gather.Goals as goal

pub look_up-requires-clause-there : goal.look_up-requires-clause-there
look_up-requires-clause-there c =
    let keys = c.classes.inside.distinct.set.keys in
    let at : List Class → Type 0 = λ ws. AllByRecursion (λ x. is_among x keys ≡ true) ws in
    all_there keys c.as_slice.result.now (subst at (sym c.as_slice.ensures.value) (races_there c.classes.inside.by_race.items keys c.classes.invariant.classes))

pub sizes_of-requires-clause-known : goal.sizes_of-requires-clause-known
sizes_of-requires-clause-known c =
    let keys = c.classes.inside.distinct.set.keys in
    let at : List Class → Type 0 = λ ws. AllByRecursion (λ x. is_among x keys ≡ true) ws in
    let there = subst at (sym c.as_slice.ensures.value) (races_there c.classes.inside.by_race.items keys c.classes.invariant.classes) in
    let seen : c.classes.inside.by_race.items ≡ c.args.classes.by_race = ap (λ (s : Classing). s.by_race) c.classes.view_is in
    let count : c.len.result ≡ length c.args.classes.groups = c.len.ensures.len ∙ ap (λ (s : Classing). length s.groups) c.classes.view_is in
    let long : length c.args.names.now ≡ length keys = c.requires.long ∙ sym (ap (λ (ws : List Class). length ws) (c.classes.invariant.classes ∙ ap (λ (ws : List Class). each_once ws) seen)) in
    let below : ℕ → Type 0 = λ n. All (λ g. g < n) c.as_slice-4.result.now in
    subst below (sym count) (looked_below keys c.as_slice.result.now c.args.names.now c.as_slice-4.result.now (length c.args.classes.groups) long c.requires.below there (c.as_slice-4.ensures.value ∙ c.in_ok-race_names.ensures))

pub returns : goal.returns
returns c = λ joined over named.
    let keys = c.classes.inside.distinct.set.keys in
    let pairs = c.args.classes.by_race in
    let seen : c.classes.inside.by_race.items ≡ pairs = ap (λ (s : Classing). s.by_race) c.classes.view_is in
    let groups : c.classes.inside.groups.keys ≡ c.args.classes.groups = ap (λ (s : Classing). s.groups) c.classes.view_is in
    let are : keys ≡ each_once pairs = c.classes.invariant.classes ∙ ap (λ (ws : List Class). each_once ws) seen in
    let listed : c.in_ok-race_names.race_names.items ≡ map (value_of keys c.args.names.now) pairs = c.in_ok-race_names.ensures ∙ ap (λ (ws : List Class). map (value_of keys c.args.names.now) ws) (c.as_slice.ensures.value ∙ seen) in
    let names : c.in_ok-race_names.race_names.items ≡ names_by joined pairs = names_are joined pairs keys (each_once pairs) c.args.classes.groups c.args.names.now c.args.names.now c.in_ok-race_names.race_names.items are refl over named refl listed in
    let firsts : c.classes.inside.distinct.firsts.items ≡ first_races pairs = c.classes.invariant.firsts_are ∙ ap (λ (ws : List Class). first_races ws) seen in
    let found : c.in_ok-representatives.representatives.items ≡ map (value_of keys c.as_slice-2.result.now) c.args.classes.groups = c.in_ok-representatives.ensures ∙ ap (λ (ws : List Class). map (value_of keys c.as_slice-2.result.now) ws) (c.as_slice-3.ensures.keys ∙ groups) in
    let reps : c.in_ok-representatives.representatives.items ≡ representatives_by joined pairs = representatives_are joined pairs keys c.args.classes.groups c.classes.inside.distinct.firsts.items c.as_slice-2.result.now c.in_ok-representatives.representatives.items are over firsts c.as_slice-2.ensures.value found in
    let count : c.len.result ≡ length (groups_by joined pairs) = c.len.ensures.len ∙ ap (λ (ws : List Class). length ws) (groups ∙ over) in
    grouping_is joined pairs c.in_ok-race_names.race_names.items c.in_ok-representatives.representatives.items c.in_ok-sizes.sizes.items names reps (sizes_are joined pairs c.as_slice-4.result.now c.in_ok-sizes.sizes.items c.len.result (c.as_slice-4.ensures.value ∙ names) count c.in_ok-sizes.ensures.sizes.long c.in_ok-sizes.ensures.sizes.each)
