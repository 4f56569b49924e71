use Rattle.std.proofs.Common.{◌≡◌, drop}
use Rattle.std.specs.List.{filter}
use Rattle.er_paths.specs.Paths.{joins}
use Rattle.er_clocks.specs.Clock.{Tells}
use Rattle.er_pieces.specs.steps.Steps.{first_of, least_source}
use Rattle.er_explain.proofs.source.source_of.Given as goal

-- those that are left decide
abbrev pub invariant-loop-n : goal.invariant-loop-n
invariant-loop-n l = Tells l.clocks (λ lists. first_of (filter (λ k. joins lists l.from k) (drop l.n l.links)) ≡ least_source lists l.from l.at)
