use Rattle.std.proofs.Common.{◌≡◌, List, length, ap, refl, ◌∙◌, arith}
use Rattle.er_paths.specs.Paths.{joins}
use Rattle.er_cover.specs.declared.class.Class.{Class}
use Rattle.er_cover.specs.Classes.{each_once}
use Rattle.er_cover.specs.Groups.{groups_by, is_maximal}
use Rattle.er_cover.specs.Passes.{first_races}
use Rattle.er_cover.proofs.GroupLemmas.{once_known, once_distinct_classes, groups_are, groups_there}
use Rattle.er_cover.proofs.PassLemmas.{filter_le}
use Rattle.er_cover.proofs.parts.with_groups.Goals as goal

pub maximal_of-requires-clause-known : goal.maximal_of-requires-clause-known
maximal_of-requires-clause-known c =
    once_known (length c.args.clocks.now) c.args.by_race.items c.as_slice-2.result.now (c.as_slice-2.ensures.keys ∙ (c.in_ok-distinct.ensures.classes ∙ ap (λ (ws : List Class). each_once ws) c.as_slice.ensures.value)) c.requires.known

pub maximal_of-requires-clause-distinct : goal.maximal_of-requires-clause-distinct
maximal_of-requires-clause-distinct c =
    once_distinct_classes c.args.by_race.items c.as_slice-2.result.now (c.as_slice-2.ensures.keys ∙ (c.in_ok-distinct.ensures.classes ∙ ap (λ (ws : List Class). each_once ws) c.as_slice.ensures.value))

pub invariant_of-result : goal.invariant_of-result
invariant_of-result c =
    let joined = joins c.args.clocks.now in
    let pairs = c.args.by_race.items in
    let keys : c.in_ok-distinct.distinct.set.keys ≡ each_once pairs = c.in_ok-distinct.ensures.classes ∙ ap (λ (ws : List Class). each_once ws) c.as_slice.ensures.value in
    let count = ap (λ (ws : List Class). length ws) keys in
    let are : c.in_ok-groups.groups.keys ≡ groups_by joined pairs = groups_are joined pairs c.as_slice-2.result.now c.in_ok-groups.groups.keys c.in_ok-groups.groups.keys (c.as_slice-2.ensures.keys ∙ keys) c.in_ok-groups.ensures.maximal refl in
    let few = ap (λ (ws : List Class). length ws) are in
    record {
      few = c.requires.few;
      few_classes = omega (arith, count, c.len.ensures.len, c.if-len-gt-MOST_CLASSES.false);
      few_groups = omega (arith, few, filter_le (λ x. is_maximal joined (each_once pairs) x) (each_once pairs));
      classes = keys;
      firsts_are = c.in_ok-distinct.ensures.firsts ∙ ap (λ (ws : List Class). first_races ws) c.as_slice.ensures.value;
      there = groups_there joined pairs c.in_ok-distinct.distinct.set.keys c.in_ok-groups.groups.keys keys are;
    }
