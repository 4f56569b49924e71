-- What a buffer in front of a sink does.
use Rattle.std.specs.Prelude.{◌≡◌, ℕ, ◌≤◌, List, ◌++◌, Option, Result, OnOk, OnErr}
use Rattle.er_io.specs.Ends.{Gets, Rose, one_more}
use Rattle.er_io.specs.declared.ends.Failed.{Failed}

-- a front of the bytes that are due came, and the rest is held
unfoldable pub HoldsRest : Option (List ℕ) → List ℕ → Option (List ℕ) → List ℕ → Type 0
HoldsRest old due new held = (sent : List ℕ) × Gets old sent new × (due ≡ sent ++ held)

-- the count of faults, from before to after: one more where the call failed, and as it was where it
-- did not
pub record CountsFaults {S : Type 0} (faults : S → ℕ) (old new : S)
    (result : Result Unit Failed) : Type 0 where
  pub stands : OnOk result (faults new ≡ faults old)
  pub cause : OnErr result (Rose (faults old) (faults new))
  pub raised : OnErr result (faults new ≡ one_more (faults old))
  pub count : faults old ≤ faults new
