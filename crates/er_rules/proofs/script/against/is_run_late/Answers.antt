use Rattle.std.proofs.Common.{sym, ◌∙◌}
use Rattle.er_history.specs.LookUps.{element_made}
use Rattle.er_rules.proofs.script.LateLemmas.{told_of_run}
use Rattle.er_rules.proofs.script.against.is_run_late.Goals as goal

pub returns-else-is_blocking_late : goal.returns-else-is_blocking_late
returns-else-is_blocking_late c = λ h page. told_of_run h (element_made h c.args.element) c.in-Some.doc c.is_blocking_late.result c.is_deferred_late.result (sym (c.document_of.ensures h page) ∙ c.in-Some.is)
    (c.is_blocking_late.ensures h page) c.if-is_blocking_late.false (c.is_deferred_late.ensures h page)
