use Rattle.std.proofs.Common.{◌≡◌, map, take}
use Rattle.serde_json.specs.View.{view}
use Rattle.er_lines.specs.json_line.Texts.{is_count}
use Rattle.er_lines.proofs.json_line.kinds.are_kinds.Given as goal

abbrev pub invariant-loop-i : goal.invariant-loop-i
invariant-loop-i l = map (λ m. is_count (view m)) (take l.i l.members) ≡ take l.i l.kinds
