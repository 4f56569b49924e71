use Rattle.er_page.proofs.LevelLemmas.{depth_on_top, depth_of_none}
use Rattle.er_page.proofs.stack.Stack.depth.Goals as goal

pub returns-in-Some-clause-says : goal.returns-in-Some-clause-says
returns-in-Some-clause-says c = λ h is. depth_on_top c.args.self.now h c.top_level.result c.in-Some.level c.top_level.ensures c.in-Some.is is

pub returns-in-None-clause-says : goal.returns-in-None-clause-says
returns-in-None-clause-says c = λ h is. depth_of_none c.args.self.now h c.top_level.result c.top_level.ensures c.in-None.is is
