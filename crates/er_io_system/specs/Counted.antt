-- How often a writer is asked to flush.
use Rattle.std.specs.Prelude.{◌≡◌, ◌⊎◌, ℕ, Bool, true}
use Rattle.er_io.specs.Ends.{one_more}

-- In a call that failed it was asked for no flush, or for one behind a write that it took: that is
-- still to be flushed.
abbrev pub FlushedOnce : ℕ → ℕ → Bool → Type 0
FlushedOnce old new pending = (new ≡ old) ⊎ ((new ≡ one_more old) × (pending ≡ true))
