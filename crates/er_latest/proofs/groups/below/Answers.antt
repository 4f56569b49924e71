use Rattle.std.proofs.Common.{◌∙◌, sym}
use Rattle.er_latest.proofs.GroupsLemmas.{greatest_below}
use Rattle.er_latest.proofs.groups.below.Goals as goal

pub returns : goal.returns
returns c = λ rising. c.before-2.ensures ∙ sym (greatest_below c.args.group c.args.groups.now c.place_of.result rising c.place_of.ensures)
