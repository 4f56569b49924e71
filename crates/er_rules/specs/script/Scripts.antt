-- What the rules of scripts ask of elements.
use Rattle.std.specs.Prelude.{ℕ, Bool, ◌&&◌, nat_lt, if◌then◌else◌, List, [], Option, Some, None}
use Rattle.er_history.specs.History.{Element, History}
use Rattle.er_history.specs.Rules.{is_some_and, both_some_and, is_blocking, is_deferred}
use Rattle.er_pieces.specs.HandedPieces.{dcl_handed}

-- it was made, and is a blocking or a deferred script

abbrev pub blocks : Option Element → Bool
blocks = is_some_and is_blocking

abbrev pub defers : Option Element → Bool
defers = is_some_and is_deferred

-- parse steps made both, the first before the second
abbrev pub is_parsed_before : Option Element → Option Element → Bool
is_parsed_before =
    both_some_and (λ (x : Element) (y : Element).
    x.is_static && (y.is_static && nat_lt x.piece y.piece))

-- the document of a deferred script
abbrev pub deferred_document : Option Element → Option ℕ
deferred_document None = None
deferred_document (Some x) = if is_deferred x then Some x.doc else None

-- what is handed before the run of a deferred script beside its maker
abbrev pub before_deferred : History → Option Element → List ℕ
before_deferred t made = by (deferred_document made)
  where
    by : Option ℕ → List ℕ
    by None = []
    by (Some d) = dcl_handed t d
