use Rattle.std.proofs.Common.{ℕ, List, ◌++◌, Some, sym, ◌∙◌, subst}
use Rattle.er_history.specs.History.{told}
use Rattle.er_history.specs.Latest.{latest_of_event}
use Rattle.er_history.specs.Rules.{rules}
use Rattle.er_history.specs.Edges.{path}
use Rattle.er_path_rules.specs.timer.Grown.{GrewEnough}
use Rattle.er_path_rules.proofs.timer.GrownLemmas.{grew_none, enough_as, some_as}
use Rattle.er_path_rules.specs.timer.Fired.{fired_handed, callback_handed}
use Rattle.er_path_rules.proofs.timer.SetLemmas.{is_set, maker_told, due_by, none_due}
use Rattle.er_path_rules.proofs.timer.TimersLemmas.{setter_events}
use Rattle.er_path_rules.proofs.timer.predecessors.hand_for_timer.Goals as goal

pub hand_set_by-requires : goal.hand_set_by-requires
hand_set_by-requires c =
    let found = sym c.timeout.ensures ∙ c.in-Some.is in
    let set = is_set c.args.page.now.claimed c.args.timeout c.in-Some.next found in
    record {
      some = c.requires.some;
      next = set;
      events = setter_events c.args.page.now c.in-Some.next.timeout (Some c.in-Some.next.maker) c.requires.some (λ h is. sym (maker_told c.args.page.now.claimed h c.in-Some.next is.claimed set));
    }

pub returns-in-Some-clause-whole : goal.returns-in-Some-clause-whole
returns-in-Some-clause-whole c = enough_as c.args.version c.args.page.now c.args.clocks.now (λ h. latest_of_event c.in-Some.next.maker (told h).actions ++ fired_handed c.args.version h c.in-Some.next.timeout c.in-Some.next.maker) (λ h. callback_handed c.args.version h c.args.timeout)
    c.hand_set_by.result c.args.out.now.items c.hand_set_by.new.out.items (λ h is. due_by c.args.page.now.claimed c.args.version h c.args.timeout c.in-Some.next is.page.claimed (sym c.timeout.ensures ∙ c.in-Some.is)) c.hand_set_by.ensures.whole

pub returns-in-Some-clause-part : goal.returns-in-Some-clause-part
returns-in-Some-clause-part c = some_as c.args.version c.args.page.now c.args.clocks.now (λ h. latest_of_event c.in-Some.next.maker (told h).actions ++ fired_handed c.args.version h c.in-Some.next.timeout c.in-Some.next.maker) (λ h. callback_handed c.args.version h c.args.timeout)
    c.hand_set_by.result c.args.out.now.items c.hand_set_by.new.out.items (λ h is. due_by c.args.page.now.claimed c.args.version h c.args.timeout c.in-Some.next is.page.claimed (sym c.timeout.ensures ∙ c.in-Some.is)) c.hand_set_by.ensures.part

pub returns-in-None-clause-whole : goal.returns-in-None-clause-whole
returns-in-None-clause-whole c = λ h is. subst (λ (l : List ℕ). GrewEnough (path (rules c.args.version) h) l c.args.out.now.items c.args.out.now.items) (none_due c.args.page.now.claimed c.args.version h c.args.timeout is.page.claimed (sym c.timeout.ensures ∙ c.in-None.is))
    (grew_none (path (rules c.args.version) h) c.args.out.now.items)
