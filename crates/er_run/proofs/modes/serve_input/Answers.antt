use Rattle.std.proofs.Common.{◌≡◌, ◌∙◌, sym}
use Rattle.er_words.specs.declared.commands.Input.TheVariants.{Text, Json}
use Rattle.er_run.specs.Answer.{lines_asked}
use Rattle.er_run.proofs.modes.serve_input.Goals as goal

pub returns-in-Text-clause-served : goal.returns-in-Text-clause-served
returns-in-Text-clause-served g c =
    let is : lines_asked c.args.command ≡ Text = sym c.input_of.ensures ∙ c.in-Text.is in
    rw is c.serve_lines.ensures.served

pub returns-in-Json-clause-served : goal.returns-in-Json-clause-served
returns-in-Json-clause-served g c =
    let is : lines_asked c.args.command ≡ Json = sym c.input_of.ensures ∙ c.in-Json.is in
    rw is c.serve_lines-in-Json.ensures.served
