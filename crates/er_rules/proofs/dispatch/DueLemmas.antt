-- What the look-ups of a dispatch give is what comes before a record of it. Lists of records stand
-- newest first.
use Rattle.std.proofs.Common.{◌≡◌, ℕ, List, ◌++◌, Option, Some, None, sym, ap, ◌∙◌}
use Rattle.std.specs.Prelude.{◌==◌, reverse, Result, Ok, Err, OnOk, OnErr}
use Rattle.er_trace.specs.declared.record.Record.{Record}
use Rattle.er_history.specs.History.{FireAt, WindowFire, told, running}
use Rattle.er_history.specs.Latest.{newest_by, number_of, latest_of}
use Rattle.er_history.specs.Kinds.{is_close_at, is_handler_of}
use Rattle.er_history.specs.LookUps.{running_action, maker_of_element, maker_of_document, maker_of_handler, begin_event, last_element_close, last_window_close, group_below, runs_in}
use Rattle.er_history.specs.Naming.{IsNamed}
use Rattle.er_pieces.specs.Contract.{GrewBy, GrewInPart, GrewForEach, GrewInPartForEach, listed, latest_of_all}
use Rattle.er_pieces.specs.HandedPieces.{runs_or_begin}
use Rattle.er_pieces.proofs.BegunLemmas.{newest_begin}
use Rattle.er_pieces.proofs.LookUpLemmas.{piece_listed, slice_handed}
use Rattle.er_rules.specs.dispatch.Due.{at_element, at_window, in_piece, before_run}

pub element_is_due : (h : List Record) (e : ℕ) (n : List ℕ) (maker close : Option ℕ) → maker ≡ maker_of_element h e → close ≡ last_element_close h e n → latest_of maker (told h).actions ++ listed close ≡ at_element h e n
element_is_due h e n maker close is also =
    let found = newest_by (is_close_at (FireAt e n None)) (told h).actions in
    λ i. latest_of (is i) (told h).actions ++ (ap listed also ∙ sym (piece_listed found)) i

pub window_is_due : (h : List Record) (d : ℕ) (n : List ℕ) (close : Option ℕ) → close ≡ last_window_close h d n → latest_of (maker_of_document h d) (told h).actions ++ listed close ≡ at_window h d n
window_is_due h d n close also =
    let found = newest_by (is_close_at (WindowFire d n None)) (told h).actions in
    λ i. latest_of (maker_of_document h d) (told h).actions ++ (ap listed also ∙ sym (piece_listed found)) i

pub running_is_due : (h : List Record) (now : Option ℕ) → now ≡ running_action h → listed now ≡ number_of (running (told h).actions)
running_is_due h now is = ap listed is ∙ sym (piece_listed (running (told h).actions))

pub piece_is_due : (h : List Record) (e : ℕ) (n : List ℕ) (now : Option ℕ) → now ≡ running_action h → at_element h e n ++ listed now ≡ in_piece h e n
piece_is_due h e n now is = ap (λ l. at_element h e n ++ l) (running_is_due h now is)

pub group_is_due : (h : List Record) (p g : ℕ) (runs : List ℕ) (group : Option ℕ) → group ≡ Some g → runs ≡ runs_in h p g → latest_of_all (reverse runs) (told h).actions ≡ runs_or_begin p (told h).actions group
group_is_due h p g runs group some is = slice_handed h (is_handler_of p (λ k. k == g)) runs is ∙ ap (runs_or_begin p (told h).actions) (sym some)

pub begin_is_due : (h : List Record) (p : ℕ) (begin group : Option ℕ) → IsNamed h → group ≡ None → begin ≡ begin_event h p → latest_of begin (told h).actions ≡ runs_or_begin p (told h).actions group
begin_is_due h p begin group named none is = ap (λ o. latest_of o (told h).actions) is ∙ (newest_begin h named p ∙ ap (runs_or_begin p (told h).actions) (sym none))

pub run_is_due : (h : List Record) (p g x : ℕ) (maker group : Option ℕ) → maker ≡ maker_of_handler h x → group ≡ group_below h p g
    → latest_of maker (told h).actions ++ runs_or_begin p (told h).actions group ≡ before_run h p g x
run_is_due h p g x maker group is also = λ i. latest_of (is i) (told h).actions ++ runs_or_begin p (told h).actions (also i)

-- a number that a look-up answered, for each list

pub each_whole : {E : Type 0} → (stands : List Record → Type 0) (due old new : List ℕ) (r : Result (Unit {0}) E) → OnOk r (GrewBy old due new) → OnOk r (GrewForEach stands (λ h. due) old new)
each_whole stands due old new (Ok u) grew = λ h is. grew
each_whole stands due old new (Err e) grew = tt

pub each_part : {E : Type 0} → (stands : List Record → Type 0) (due old new : List ℕ) (r : Result (Unit {0}) E) → OnErr r (GrewInPart old due new) → OnErr r (GrewInPartForEach stands (λ h. due) old new)
each_part stands due old new (Ok u) grew = tt
each_part stands due old new (Err e) grew = λ h is. grew
