use Rattle.std.proofs.Common.{◌∙◌}
use Rattle.std.proofs.lemmas.List.{take_rest}
use Rattle.er_lines.proofs.json_line.members.parse_text.Goals as goal

pub returns-clause-exact : goal.returns-clause-exact
returns-clause-exact c = λ x is some e. c.parse_record.ensures.exact x is (take_rest c.args.text.now 1 ∙ e)
