use Rattle.std.proofs.Common.{List, reverse, take}
use Rattle.er_trace.specs.declared.record.Record.{Record}
use Rattle.er_history.specs.History.{told}
use Rattle.er_page.specs.Page.{IsPage}
use Rattle.er_pieces.specs.Contract.{GrewBy, latest_of_all}
use Rattle.er_page.proofs.handing.hand_each.Given as goal

abbrev pub invariant-loop-back : goal.invariant-loop-back
invariant-loop-back l = record {
  handed : (h : List Record) → IsPage l.fn.page h → GrewBy l.fn.out.items (latest_of_all (take l.back (reverse l.fn.events)) (told h).actions) l.out.items;
}
