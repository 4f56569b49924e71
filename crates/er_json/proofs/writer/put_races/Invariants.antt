use Rattle.std.proofs.Common.{◌≡◌, List, ◌++◌, take}
use Rattle.std.specs.List.{zip}
use Rattle.er_access.specs.Kept.{Kept}
use Rattle.er_races.specs.Races.{ArePairs}
use Rattle.er_syntax.specs.Buffered.{HoldsRest}
use Rattle.er_syntax.specs.Lines.{lines_from}
use Rattle.er_json.specs.Fragments.{race_item}
use Rattle.er_json.proofs.writer.put_races.Given as goal

-- the races so far came, or are held
abbrev pub invariant-loop-place : goal.invariant-loop-place
invariant-loop-place g l = record {
  came : (pairs : List (Kept × Kept)) → ArePairs l.table l.races pairs → HoldsRest (g.K.Sink.got l.fn.sink) (l.fn.buffer ++ lines_from race_item 1 (take l.place (zip pairs l.groups.names))) (g.K.Sink.got l.sink) l.buffer;
  stands : g.K.Sink.faults l.sink ≡ g.K.Sink.faults l.fn.sink;
}
