use Rattle.er_text.proofs.WordLaws.{joined-words}
use Rattle.er_text.proofs.laws.joined_words.Goals as goal

pub returns : goal.returns
returns c = joined-words
