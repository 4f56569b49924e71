use Rattle.std.proofs.Common.{◌∙◌, ℕ, ap, length}
use Rattle.std.specs.Prelude.{nat_lt}
use Rattle.er_paths.specs.Paths.{joins}
use Rattle.er_cover.proofs.HeadLemmas.{any_first}
use Rattle.er_cover.proofs.maximal.any_joins.Goals as goal

pub returns-clause-any : goal.returns-clause-any
returns-clause-any c = ap (λ (n : ℕ). nat_lt n (length c.args.firsts.now)) c.first_joining.ensures.answer ∙ any_first (λ i. joins c.args.clocks.now i c.args.j) c.args.firsts.now
