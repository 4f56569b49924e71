use Rattle.std.proofs.Common.{subst, sym}
use Rattle.serde_json.specs.View.{view}
use Rattle.serde_json.specs.declared.value.Value.{Value}
use Rattle.er_lines.specs.json_line.Texts.{HasWord}
use Rattle.er_lines.proofs.json_line.WordLemmas.{word_at}
use Rattle.er_lines.proofs.json_line.members.put_members.Goals as goal

pub returns-in-Err-clause-exact : goal.returns-in-Err-clause-exact
returns-in-Err-clause-exact c = λ have.
    let here : HasWord (view c.member-item.result) = subst (λ (v : Value). HasWord (view v)) (sym c.member-item.is) (word_at c.args.members.now c.loop-member.member-index c.member-item.result c.loop-member-test.true have) in
    let is = c.put_next.ensures.exact here in
    rw (sym c.in-Err.is) is
