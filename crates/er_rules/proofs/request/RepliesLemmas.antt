-- What the look-ups of a request give is what comes before a reply of it. Lists of records stand
-- newest first.
use Rattle.std.proofs.Common.{◌≡◌, ℕ, List, ◌++◌, Option}
use Rattle.er_trace.specs.declared.record.Record.{Record}
use Rattle.er_history.specs.History.{told}
use Rattle.er_history.specs.Latest.{latest_of}
use Rattle.er_history.specs.Kinds.{closes, is_reply_of}
use Rattle.er_history.specs.LookUps.{maker_of_request, last_reply_close}
use Rattle.er_pieces.proofs.LookUpLemmas.{newest_found}
use Rattle.er_rules.specs.request.Replies.{reply_handed}

pub both_are_due : (h : List Record) (r : ℕ) (maker close : Option ℕ) → maker ≡ maker_of_request h r → close ≡ last_reply_close h r
    → latest_of maker (told h).actions ++ latest_of close (told h).actions ≡ reply_handed (told h) r
both_are_due h r maker close is also = λ i. latest_of (is i) (told h).actions ++ newest_found h (closes (is_reply_of r)) close also i
