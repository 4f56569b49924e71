use Rattle.std.proofs.Common.{[], ◌∷◌, ◌∙◌}
use Rattle.er_history.specs.Rules.{rules}
use Rattle.er_history.specs.Edges.{path}
use Rattle.er_history.proofs.NamedLemmas.{sound_lists_are_named}
use Rattle.er_pieces.proofs.SteadyLemmas.{all_rules_are_steady}
use Rattle.er_graph.proofs.FamilyLemmas.{late}
use Rattle.er_graph.proofs.order.is_late.Goals as goal

pub returns : goal.returns
returns c = λ v h page sound named.
    let has = all_rules_are_steady v in
    c.is_any.ensures ∙ late v (c.against.result ∷ c.against-2.result ∷ c.against-3.result ∷ c.against-4.result ∷ c.against-5.result ∷ c.against-6.result ∷ c.against-7.result ∷ []) h c.args.rec.now (
      c.against.ensures (path (rules v) h) h,
      (
        c.against-2.ensures (rules v) h page has.script sound named,
        (
          c.against-3.ensures (rules v) h page has.load sound named,
          (
            c.against-4.ensures (rules v) h page (sound_lists_are_named (rules v) h sound) named,
            (
              c.against-5.ensures v (path (rules v) h) h,
              (c.against-6.ensures (path (rules v) h) h, (c.against-7.ensures (path (rules v) h) h, tt)),
            ),
          ),
        ),
      ),
    )
