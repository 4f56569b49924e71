-- How the lines of a command's input are read.
use Rattle.er_lines.specs.Format.{IsFormat}
use Rattle.er_lines.specs.Text.{text_is_format}
use Rattle.er_jsonl.specs.Lawful.{json_is_format}
use Rattle.er_words.specs.declared.commands.Input.{Input}
use Rattle.er_words.specs.declared.commands.Input.TheVariants as inputs
use Rattle.er_words.specs.declared.commands.Command.{Command}
use Rattle.er_run.specs.Answer.{lines_of, lines_asked, format_of}

good_lines : (input : Input) → IsFormat (lines_of input)
good_lines inputs.Text = text_is_format
good_lines inputs.Json = json_is_format

-- it is a format
pub good_format : (asked : Command) → IsFormat (format_of asked)
good_format asked = good_lines (lines_asked asked)
