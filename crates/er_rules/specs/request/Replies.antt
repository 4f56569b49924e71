-- What comes before the begin of a reply. Lists of records stand newest first.
use Rattle.std.specs.Prelude.{ℕ, List, ◌++◌}
use Rattle.er_history.specs.History.{History, maker_by, declares_request}
use Rattle.er_history.specs.Latest.{newest, latest_of}
use Rattle.er_history.specs.Kinds.{closes, is_reply_of}

-- the event that sent the request, and its latest closed reply
abbrev pub reply_handed : History → ℕ → List ℕ
reply_handed h r = latest_of (maker_by (declares_request r) h.entries) h.actions
    ++ newest (closes (is_reply_of r)) h.actions
