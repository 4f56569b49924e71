use Rattle.std.proofs.Common.{◌≡◌, ◌+◌, ◌++◌, List, take, reverse}
use Rattle.er_trace.specs.declared.record.Record.{Record}
use Rattle.er_run.specs.Session.{IsSessionOf, IsSession}
use Rattle.er_run.proofs.session.Session.take_all.Given as goal

abbrev pub invariant-loop-at : goal.invariant-loop-at
invariant-loop-at l = record {
  stands : (earlier : List Record) → IsSessionOf l.fn.self (reverse earlier) → IsSessionOf l.self (reverse (earlier ++ take l.at l.records));
  version : l.self.graph.version ≡ l.fn.self.graph.version;
  some : IsSession l.self;
  count : l.self.records ≡ l.fn.self.records + l.at;
}
