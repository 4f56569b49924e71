-- Which event a record begins or goes on with, by the stack and the pieces that are kept.
use Rattle.std.proofs.Common.{◌≡◌, ℕ, ◌+◌, List, ◌∷◌, reverse, option_map, Option, Some, sym, ap, ◌∙◌}
use Rattle.std.specs.Prelude.{slice_get}
use Rattle.er_trace.specs.declared.record.Record.{Record}
use Rattle.er_trace.specs.declared.record.Record.TheVariants.{Back}
use Rattle.er_history.specs.History.{told, event_resumed}
use Rattle.er_history.specs.Naming.{misplaced, IsNamed}
use Rattle.er_history.proofs.NamedLemmas.{none_holds}
use Rattle.er_pieces.proofs.CallerLemmas.{Resumed, resumed}
use Rattle.er_page.specs.declared.piece.Pieces.{Pieces}
use Rattle.er_page.specs.declared.piece.Start.{Start}
use Rattle.er_page.specs.declared.stack.Level.{Level}
use Rattle.er_page.specs.declared.stack.Stack.{Stack}
use Rattle.er_page.specs.Pieces.{PiecesAre, Seen, about, about_start, about_begun, start_in}
use Rattle.er_page.specs.Stack.{StackIs, levels_of}
use Rattle.er_page.proofs.PiecesLemmas.{kept_there}

-- `back` goes on with the event of the piece just before the begin of the dispatch on top

pub back_start : (stack : Stack) (pieces : Pieces) (h : List Record) (x : Record) (p : ℕ) (o : Option Start) → x ≡ Back p → StackIs stack h → PiecesAre pieces h → IsNamed (x ∷ h)
    → ((n : ℕ) (l : Level) (below : List Level) → reverse stack.levels.items ≡ l ∷ below → l.begin ≡ n + 1 → o ≡ option_map start_in (slice_get pieces.list.items n))
    → option_map about_start o ≡ about_begun h x
back_start stack pieces h x p o same is are named finds = rw same (of (resumed h p named.1 (ap (misplaced (told h)) (sym same) ∙ (none_holds h x named.0).placed)))
  where
    of : Resumed h p → option_map about_start o ≡ Some (about (event_resumed (told h) p))
    of back =
        let piece = kept_there pieces h back.caller.piece are back.caller.among in
        let found = finds back.caller.piece.number _ _ (is.levels ∙ ap levels_of back.on_top.is) (sym back.caller.before) in
        let about_is : about_start piece.0.start ≡ about back.caller.piece.event = ap (λ (s : Seen). s.about) piece.2 in
        ap (option_map about_start) (found ∙ ap (option_map start_in) piece.1) ∙ ap Some (about_is ∙ ap about (sym back.event))
