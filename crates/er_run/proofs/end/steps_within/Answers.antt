use Rattle.std.proofs.Common.{◌≡◌, ◌≤◌, ◌⊎◌, inl, inr, length, arith}
use Rattle.er_history.specs.History.{told}
use Rattle.er_run.proofs.JudgedLemmas.{actions_told, judged_steps, no_action}
use Rattle.er_run.proofs.end.steps_within.Goals as goal

pub returns-then-from-actions-clause-refused : goal.returns-then-from-actions-clause-refused
returns-then-from-actions-clause-refused c = λ h stands.
    let count = stands.count in
    let all : c.actions-actions.result ≡ length (told h).actions = actions_told c.page.result.now c.args.session.now.graph h c.actions-actions.result c.page.ensures stands.graph c.actions-actions.ensures in
    let past : (length (told h).actions ≤ c.args.from) ⊎ (length (told h).actions ≤ c.args.to) = elim c.then-from-actions.either [ inl first ↦ inl (omega (arith, all, first)) | inr second ↦ inr (omega (arith, all, second.1)) ] in
    (omega (arith, count, c.next_line.ensures), no_action h c.args.from c.args.to past)

pub returns-in-Ok-clause-found : goal.returns-in-Ok-clause-found
returns-in-Ok-clause-found c = λ h stands.
    let all : c.actions-actions.result ≡ length (told h).actions = actions_told c.page.result.now c.args.session.now.graph h c.actions-actions.result c.page.ensures stands.graph c.actions-actions.ensures in
    judged_steps c.args.session.now c.args.from c.args.to h c.in-Ok.steps stands (omega (arith, all, c.if-from-actions.false)) (omega (arith, all, c.if-to-actions.false)) c.in-Ok.ensures
