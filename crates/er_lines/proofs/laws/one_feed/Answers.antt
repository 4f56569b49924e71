use Rattle.er_lines.proofs.StopLaws.{one_feed}
use Rattle.er_lines.proofs.laws.one_feed.Goals as goal

pub returns : goal.returns
returns g c = record {
  records = λ m n k l bytes p q a b first second. (one_feed g.L.Lines.format g.met.L.Lines.is_format m n k l bytes p q a b first second).records;
  mark = λ m n k l bytes p q a b first second. (one_feed g.L.Lines.format g.met.L.Lines.is_format m n k l bytes p q a b first second).mark;
  fault = λ m n k l bytes p q a b first second. (one_feed g.L.Lines.format g.met.L.Lines.is_format m n k l bytes p q a b first second).fault;
  line = λ m n k l bytes p q a b first second. (one_feed g.L.Lines.format g.met.L.Lines.is_format m n k l bytes p q a b first second).line;
}
