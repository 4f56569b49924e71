-- Which numbers a record claims, by its signature. Each test of what a record declares or starts
-- goes by this one table.
use Rattle.std.specs.Prelude.{ℕ, Bool, Option, Some, None}
use Rattle.er_trace.specs.declared.record.Record.{Record}
use Rattle.er_trace.specs.Signature.{Claims, MakesElement, MakesFrame, MakesHandler, MakesTimeout, MakesInterval, MakesRequest, MakesMessage, MakesAnim, MakesJob, StartsScript, StartsTimeout, StartsMessage, StartsAnim, StartsJob, StartsDispatch, StartsDcl, StartsLoad, StartsEload, claims}
use Rattle.er_history.specs.Noted.{is_number}

-- What a record claims a number as. A run has the number of the script's element, or that of the
-- timeout, message, animation callback or job. DOMContentLoaded and load have the number of their
-- document, and a first load event has that of its element.
pub data ClaimedAs : Type 0 where
  AsDocument : ClaimedAs
  AsElement : ClaimedAs
  AsHandler : ClaimedAs
  AsTimeout : ClaimedAs
  AsInterval : ClaimedAs
  AsRequest : ClaimedAs
  AsMessage : ClaimedAs
  AsAnim : ClaimedAs
  AsJob : ClaimedAs
  AsScriptRun : ClaimedAs
  AsTimeoutRun : ClaimedAs
  AsMessageRun : ClaimedAs
  AsAnimRun : ClaimedAs
  AsJobRun : ClaimedAs
  AsDispatch : ClaimedAs
  AsDcl : ClaimedAs
  AsLoad : ClaimedAs
  AsEload : ClaimedAs

-- the number that a record claims as this
abbrev pub claimed : ClaimedAs → Record → Option ℕ
claimed this x = by this (claims x)
  where
    by : ClaimedAs → Claims → Option ℕ
    by AsDocument (MakesFrame e f) = Some f
    by AsElement (MakesElement e) = Some e
    by AsElement (MakesFrame e f) = Some e
    by AsHandler (MakesHandler y) = Some y
    by AsTimeout (MakesTimeout t) = Some t
    by AsInterval (MakesInterval i) = Some i
    by AsRequest (MakesRequest r) = Some r
    by AsMessage (MakesMessage m) = Some m
    by AsAnim (MakesAnim a) = Some a
    by AsJob (MakesJob j) = Some j
    by AsScriptRun (StartsScript e) = Some e
    by AsTimeoutRun (StartsTimeout t) = Some t
    by AsMessageRun (StartsMessage m) = Some m
    by AsAnimRun (StartsAnim a) = Some a
    by AsJobRun (StartsJob j) = Some j
    by AsDispatch (StartsDispatch p) = Some p
    by AsDispatch (StartsDcl p d) = Some p
    by AsDispatch (StartsLoad p d) = Some p
    by AsDispatch (StartsEload p e) = Some p
    by AsDcl (StartsDcl p d) = Some d
    by AsLoad (StartsLoad p d) = Some d
    by AsEload (StartsEload p e) = Some e
    by _ _ = None

-- the record claims the number as this
abbrev pub claims_as : ClaimedAs → ℕ → Record → Bool
claims_as this number x = is_number number (claimed this x)
