-- Proof of what `back` goes on with. Lists of records stand newest first.
use Rattle.std.proofs.Common.{◌≡◌, true, sym, ap, subst, ◌∙◌}
use Rattle.er_trace.specs.declared.record.Record.{Record}
use Rattle.er_trace.specs.declared.record.Record.TheVariants.{Inline, Back}
use Rattle.er_history.specs.History.{Dispatch, Delivery, InlineAt, is_inline, What}
use Rattle.er_history.specs.Naming.{begins_dispatch}
use Rattle.er_history.specs.Unfinished.{begins_inline}
use Rattle.er_history.proofs.NamedLemmas.{none_holds}
use Rattle.er_pieces.proofs.StackLemmas.{top_on}
use Rattle.er_pieces.proofs.CallerLemmas.{resumed}
use Rattle.er_pieces.proofs.OnceLemmas.{calls, DeliveredBy, BegunBy, begun_by}
use Rattle.er_pieces.proofs.DispatchLemmas.{open_begun}
use Rattle.er_pieces.proofs.LevelLemmas.{what_of, close_runs}
use Rattle.er_pieces.specs.Stack.{BackGoesOn, IsCloseOf, BackEndsClose}

-- the begin of an inline dispatch is read as one
inline_read : (d : Dispatch) (x : Record) → is_inline d ≡ true → begins_dispatch d.number x ≡ true → DeliveredBy d.delivers x → begins_inline d.number x ≡ true
inline_read d x inline begins delivered = of_record x (of_delivery d.delivers inline delivered) begins
  where
    by : Delivery → Dispatch
    by w = record { number = d.number; begin = d.begin; delivers = w }

    of_delivery : (w : Delivery) → is_inline (by w) ≡ true → DeliveredBy w x → calls x ≡ true
    of_delivery (InlineAt e n m) inline delivered = delivered
    of_delivery _ inline delivered = absurd (cc)

    of_record : (x : Record) → calls x ≡ true → begins_dispatch d.number x ≡ true → begins_inline d.number x ≡ true
    of_record (Inline p e n) calls begins = begins
    of_record _ calls begins = absurd (cc)

pub back_goes_on : BackGoesOn
back_goes_on h p named accepts =
    let back = resumed h p named (none_holds h (Back p) accepts).placed in
    let d : Dispatch = back.on_top.top.dispatch in
    let is = open_begun h back.on_top.top (top_on back.on_top) in
    let begun = subst (λ (w : What). BegunBy w is.begin.begin) is.is (begun_by h named is.begin is.among (is.own ∙ sym is.number)) in
    record {
      begin = is.begin;
      begun = is.among;
      read = subst (λ n. begins_inline n is.begin.begin ≡ true) back.on_top.number (inline_read d is.begin.begin back.inline begun.0 begun.1);
      caller = back.caller.piece;
      called = back.caller.among;
      before = back.caller.before ∙ sym is.number;
      event = back.event;
    }

pub back_ends_close : BackEndsClose
back_ends_close h p c named accepts runs =
    let back = resumed h p named (none_holds h (Back p) accepts).placed in
    let closes = ap what_of (sym runs) ∙ close_runs h named p back.on_top in
    subst (IsCloseOf p) (sym closes) back.on_top.number

pub ruleset goes_back = (back_goes_on, back_ends_close)
