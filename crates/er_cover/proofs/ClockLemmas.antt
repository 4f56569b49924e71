-- The paths of clocks, and those of the lists for which they stand.
use Rattle.std.proofs.Common.{◌≡◌, ℕ, ◌<◌, Bool, true, List, length, subst}
use Rattle.std.proofs.Math.Path.{fun_ext}
use Rattle.er_paths.specs.Paths.{joins}
use Rattle.er_paths.proofs.Paths.{paths_compose, paths_go_forward, paths_stand}
use Rattle.er_clocks.specs.Clock.{StandsFor}
use Rattle.er_clocks.proofs.Pushes.{clocks_tell_paths}
use Rattle.er_cover.proofs.CoverLemmas.{AreOrders}

pub orders : (lists : List (List ℕ)) → AreOrders (joins lists)
orders lists = record { up = λ i j h. (paths_go_forward lists i j h).0; through = λ i k j a b. paths_compose lists i k j a b }

pub selves : (lists : List (List ℕ)) (i : ℕ) → i < length lists → joins lists i i ≡ true
selves lists i h = paths_stand lists i h

-- what is said of the paths over the kept links is said of those over the lists
pub over_lists : (Q : (ℕ → ℕ → Bool) → Type 0) (kept lists : List (List ℕ)) → StandsFor kept lists → Q (joins kept) → Q (joins lists)
over_lists Q kept lists stands = subst Q (fun_ext (λ i. fun_ext (λ j. (clocks_tell_paths kept lists stands).1 i j)))
