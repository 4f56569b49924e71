use Rattle.std.proofs.Common.{◌≡◌, ◌++◌, take}
use Rattle.std.specs.List.{zip}
use Rattle.er_syntax.specs.Buffered.{HoldsRest}
use Rattle.er_syntax.specs.Lines.{lines_from}
use Rattle.er_json.specs.Fragments.{group_item}
use Rattle.er_json.proofs.writer.put_groups.Given as goal

-- the groups so far came, or are held
abbrev pub invariant-loop-g : goal.invariant-loop-g
invariant-loop-g g l = record {
  came : HoldsRest (g.K.Sink.got l.fn.sink) (l.fn.buffer ++ lines_from group_item 1 (take l.g (zip l.groups.representatives l.groups.sizes))) (g.K.Sink.got l.sink) l.buffer;
  stands : g.K.Sink.faults l.sink ≡ g.K.Sink.faults l.fn.sink;
}
