use Rattle.std.proofs.Common.{refl}
use Rattle.er_syntax.proofs.PlainLaws.{parse_at}
use Rattle.er_syntax.proofs.plain.parse_line.Goals as goal

pub returns : goal.returns
returns c =
    let spelled = parse_at c.args.bytes.now c.in_ok-elements.elements.now c.in_ok-doc.later.now c.in_ok-element.left.now c.in_ok-doc.doc c.in_ok-element.element c.in_ok-elements.ensures c.in_ok-doc.ensures.1 c.in_ok-element.ensures.1 in
    (λ v. ((tt, (c.in_ok-doc.ensures.0, (c.in_ok-element.ensures.0, (tt, tt)))), refl), spelled)
