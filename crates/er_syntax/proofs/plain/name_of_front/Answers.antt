use Rattle.std.proofs.Common.{subst, sym, ◌∙◌}
use Rattle.er_text.specs.Name.{IsName}
use Rattle.er_syntax.proofs.PlainLaws.{same_front}
use Rattle.er_syntax.proofs.plain.name_of_front.Goals as goal

pub in_place-requires-clause-name : goal.in_place-requires-clause-name
in_place-requires-clause-name c =
    subst IsName (sym (same_front c.args.end 30 c.args.bytes.now c.in_ok-place.place.now c.if-end-gt-MOST_IN_PLACE.false c.in_ok-place.ensures.cases.same)) c.requires.name

pub returns : goal.returns
returns c = c.in_place.ensures ∙ same_front c.args.end 30 c.args.bytes.now c.in_ok-place.place.now c.if-end-gt-MOST_IN_PLACE.false c.in_ok-place.ensures.cases.same
