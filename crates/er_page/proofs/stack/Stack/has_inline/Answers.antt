use Rattle.er_history.specs.History.{told}
use Rattle.er_page.proofs.LevelLemmas.{any_inline}
use Rattle.er_page.proofs.stack.Stack.has_inline.Goals as goal

pub returns : goal.returns
returns c = λ h is. any_inline (told h).stack c.depth.result (c.depth.ensures.says h is)
