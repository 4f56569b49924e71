use Rattle.std.proofs.Common.{◌∙◌}
use Rattle.clap.specs.Words.{found_of}
use Rattle.er_words.proofs.FoundLemmas.{json_read}
use Rattle.er_words.proofs.words.json_given.Goals as goal

pub returns : goal.returns
returns c = c.unwrap_or.ensures ∙ json_read _ (found_of c.args.matches.now) _ c.get_one.ensures.none c.get_one.ensures.value
