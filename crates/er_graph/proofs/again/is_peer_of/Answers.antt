use Rattle.std.proofs.Common.{◌∙◌, ap, ℕ, Bool, Option, nat_eq}
use Rattle.std.specs.Prelude.{◌&&◌}
use Rattle.er_history.specs.LookUps.{maker_of_handler}
use Rattle.er_graph.specs.Again.{is_same_maker}
use Rattle.er_graph.proofs.again.is_peer_of.Goals as goal

pub returns-in-Run : goal.returns-in-Run
returns-in-Run c = λ h page. rw c.in-Run.is
    (ap (λ (b : Bool). (nat_eq c.args.dispatch c.in-Run.other && nat_eq c.args.group c.in-Run.level) && b)
    (c.have_same_maker.ensures
    ∙ ap (λ (m : Option ℕ). is_same_maker m c.maker_of_handler-maker_of_next.result) (c.maker_of_handler-maker.ensures h page)
    ∙ ap (λ (m : Option ℕ). is_same_maker (maker_of_handler h c.args.handler) m) (c.maker_of_handler-maker_of_next.ensures h page)))
