-- What comes before a record of a dispatch, by the look-ups. Lists of records stand newest first.
use Rattle.std.specs.Prelude.{ℕ, nat_lt, List, ◌++◌, None}
use Rattle.er_trace.specs.declared.record.Record.{Record}
use Rattle.er_history.specs.History.{FireAt, WindowFire, told, running}
use Rattle.er_history.specs.Latest.{newest, number_of, latest_of}
use Rattle.er_history.specs.Kinds.{is_close_at}
use Rattle.er_history.specs.LookUps.{maker_of_element, maker_of_document, maker_of_handler}
use Rattle.er_pieces.specs.HandedPieces.{group_handed}

-- the latest close piece of the type at the element, and at the window of the document

abbrev pub closed_at : List Record → ℕ → List ℕ → List ℕ
closed_at h e n = newest (is_close_at (FireAt e n None)) (told h).actions

abbrev pub closed_in : List Record → ℕ → List ℕ → List ℕ
closed_in h d n = newest (is_close_at (WindowFire d n None)) (told h).actions

-- before the begin of a dispatch at the element, and at the window

abbrev pub at_element : List Record → ℕ → List ℕ → List ℕ
at_element h e n = latest_of (maker_of_element h e) (told h).actions ++ closed_at h e n

abbrev pub at_window : List Record → ℕ → List ℕ → List ℕ
at_window h d n = latest_of (maker_of_document h d) (told h).actions ++ closed_in h d n

-- before that of an inline dispatch the running piece besides
abbrev pub in_piece : List Record → ℕ → List ℕ → List ℕ
in_piece h e n = at_element h e n ++ number_of (running (told h).actions)

-- before the run of a handler
abbrev pub before_run : List Record → ℕ → ℕ → ℕ → List ℕ
before_run h p g x = latest_of (maker_of_handler h x) (told h).actions
    ++ group_handed p (λ k. nat_lt k g) (told h).actions
