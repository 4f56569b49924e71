-- The condition on the counters of a run, and that they never fall.
use Rattle.std.specs.Prelude.{◌<◌, ◌≤◌, ◌^◌}
use Rattle.er_run.specs.declared.meters.Meters.{Meters}

-- each is below 2 ^ 60, so all comparisons of one trace can be counted
abbrev pub HaveRoom : Meters → Type 0
HaveRoom meters = (meters.compares < 2 ^ 60) × (meters.tests < 2 ^ 60)

-- neither count fell
abbrev pub Rise : Meters → Meters → Type 0
Rise old new = (old.compares ≤ new.compares) × (old.tests ≤ new.tests)
