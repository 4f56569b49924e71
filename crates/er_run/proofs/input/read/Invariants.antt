use Rattle.std.proofs.Common.{◌≡◌, ◌≤◌, length, None}
use Rattle.er_io.specs.Ends.{Gives}
use Rattle.er_run.specs.Reading.{IsSomewhere, IsOpen}
use Rattle.er_run.proofs.input.read.Given as goal

abbrev pub invariant-loop-turn : goal.invariant-loop-turn
invariant-loop-turn g l = record {
  here : IsSomewhere g.L.Lines.format l.feed.mark l.feed.line.items l.feed.fault l.session;
  ahead : IsOpen g.L.Lines.format here.bytes here.records;
  gave : Gives (g.S.Source.left l.fn.source) here.bytes (g.S.Source.left l.source);
  going : l.feed.fault ≡ None;
  long : l.turn ≤ length here.bytes;
  stands : g.S.Source.faults l.source ≡ g.S.Source.faults l.fn.source;
}
