-- A handler behind a peer, which is one of its group that the same event registered: the same
-- actions come before both. Lists stand newest first.
use Rattle.std.specs.Prelude.{ℕ, Bool, false, ◌==◌, ◌&&◌, List, Option}
use Rattle.er_trace.specs.declared.record.Record.{Record}
use Rattle.er_trace.specs.declared.record.Record.TheVariants.{Run}
use Rattle.er_history.specs.History.{Action, told, running}
use Rattle.er_history.specs.LookUps.{maker_of_handler}
use Rattle.er_history.specs.Rules.{is_some_and, both_some_and}

-- both have a maker, and it is one event
abbrev pub is_same_maker : Option ℕ → Option ℕ → Bool
is_same_maker first second = both_some_and (λ (m k : ℕ). m == k) first second

-- both run a handler of one group of one dispatch, and have one maker
abbrev pub are_peers : List Record → Record → Record → Bool
are_peers h (Run p g x) (Run q k y) =
    ((p == q) && (g == k)) && is_same_maker (maker_of_handler h x) (maker_of_handler h y)
are_peers h _ _ = false

-- the record runs a peer of the handler with which the newest action began
abbrev pub is_peer_of_newest : List Record → Record → Bool
is_peer_of_newest h x =
    is_some_and (λ (a : Action). are_peers h a.begin x) (running (told h).actions)
