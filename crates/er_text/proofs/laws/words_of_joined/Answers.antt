use Rattle.er_text.proofs.WordLaws.{words-joined}
use Rattle.er_text.proofs.laws.words_of_joined.Goals as goal

pub returns : goal.returns
returns c = words-joined
