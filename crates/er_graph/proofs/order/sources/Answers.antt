use Rattle.std.proofs.Common.{subst, List, ℕ}
use Rattle.er_history.specs.History.{told}
use Rattle.er_history.specs.Rules.{rules}
use Rattle.er_history.specs.Edges.{path}
use Rattle.er_pieces.specs.Contract.{ComesNext}
use Rattle.er_pieces.specs.PiecesHanded.{HasHandedPieces}
use Rattle.er_pieces.proofs.SteadyLemmas.{all_rules_are_steady}
use Rattle.er_pieces.proofs.TogetherLemmas.{all_hand, sound_lists_are_steady}
use Rattle.er_graph.proofs.PartLemmas.{from_nothing}
use Rattle.er_graph.proofs.order.sources.Goals as goal

pub returns : goal.returns
returns c = λ h timed of_version sound named order.
    let v = c.args.version in
    let page = timed.page in
    let next : ComesNext (rules v) h c.args.rec.now = record { has = all_rules_are_steady v; sound = sound; named = named; ordered = order } in
    let handed = all_hand v h c.args.rec.now c.new-found.result.items c.task_sources.new.out.items (sound_lists_are_steady v h sound) named (record {
      steps = c.predecessors.new.out.items;
      runs = c.predecessors-2.new.out.items;
      loads = c.predecessors-3.new.out.items;
      dispatches = c.predecessors-4.new.out.items;
      timers = c.predecessors-5.new.out.items;
      requests = c.predecessors-6.new.out.items;
      parse = c.in_ok-predecessors.ensures.enough (rules v) h page next;
      script = c.in_ok-predecessors-2.ensures.enough (rules v) h page next;
      load = c.in_ok-predecessors-3.ensures.enough (rules v) h page next;
      dispatch = c.in_ok-predecessors-4.ensures.enough (rules v) h page next;
      timer = c.in_ok-predecessors-5.ensures.enough h timed next;
      request = c.in_ok-predecessors-6.ensures.enough (rules v) h page next;
      task = c.in_ok-task_sources.ensures h timed of_version next;
    }) in
    from_nothing (rules v) (path (rules v) h) (told h) c.args.rec.now c.task_sources.new.out.items (subst (λ (old : List ℕ). HasHandedPieces (rules v) (path (rules v) h) (told h) c.args.rec.now old c.task_sources.new.out.items) c.new-found.ensures.items handed)
