-- Proof that an event keeps a dispatch of the number in its record. Lists of records
-- stand newest first.
use Rattle.std.proofs.Common.{◌≡◌, ℕ, false, List, [], ◌∷◌, length, option_map, Option, Some, None, refl, sym, ap, subst, ◌∙◌, arith, inl, inr}
use Rattle.er_trace.specs.declared.record.Record.{Record}
use Rattle.er_trace.specs.declared.record.Record.TheVariants.{Run, Close, Back}
use Rattle.er_history.specs.History.{Dispatch, What, HandlerOf, CloseOf, Unnamed, Event, Action, told, maker_by, declares_handler, event_begun}
use Rattle.er_history.specs.Naming.{IsNamed, misplaced}
use Rattle.er_history.proofs.HistoryLemmas.{told_before, event_before}
use Rattle.er_history.proofs.NamedLemmas.{none_holds}
use Rattle.er_pieces.proofs.StackLemmas.{top_is}
use Rattle.er_pieces.proofs.CallerLemmas.{among_cases, resumed}
use Rattle.er_pieces.specs.Stack.{dispatch_of, dispatch_named, KeptAsRead}
use Rattle.er_pieces.proofs.KeptLemmas.{one_dispatch}

abbrev number_in : What → Option ℕ
number_in w = option_map (λ (d : Dispatch). d.number) (dispatch_of w)

named_now : (h : List Record) (x : Record) → IsNamed h → misplaced (told h) x ≡ false → (event_begun (told h) x).number ≡ length (told h).actions
    → number_in (event_begun (told h) x).what ≡ dispatch_named x
named_now h (Run p g x) named placed new =
    let top = top_is false p (told h).stack placed in
    ap (λ o. number_in (handler g x o (maker_by (declares_handler x) (told h).entries))) top.found ∙ ap (λ n. Some n) top.number
  where
    handler : ℕ → ℕ → Option Dispatch → Option ℕ → What
    handler g x (Some d) m = HandlerOf d g x m
    handler g x None m = Unnamed
named_now h (Close p) named placed new =
    let top = top_is false p (told h).stack placed in
    ap (λ o. number_in (close o)) top.found ∙ ap (λ n. Some n) top.number
  where
    close : Option Dispatch → What
    close None = Unnamed
    close (Some d) = CloseOf d
named_now h (Back p) named placed new =
    let back = resumed h p named placed in
    let older = event_before (told h).actions back.caller.piece (told_before h) back.caller.among in
    absurd (omega (arith, new, ap (λ (e : Event). e.number) back.event, older.0, older.1))
named_now h _ named placed new = refl

pub kept_as_read : KeptAsRead
kept_as_read [] a named among own = absurd among
kept_as_read (x ∷ h) a named among own =
    elim (among_cases h x a among) [
      | inl now ↦ subst (λ (c : Action). number_in c.event.what ≡ dispatch_named c.begin) (sym now.1)
          (named_now h x named.1 (none_holds h x named.0).placed (subst (λ (c : Action). c.event.number ≡ c.number) now.1 own))
      | inr older ↦ kept_as_read h a named.1 older own
    ]

pub ruleset dispatch_kept = (one_dispatch, kept_as_read)
