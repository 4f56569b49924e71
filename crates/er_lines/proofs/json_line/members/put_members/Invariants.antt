use Rattle.std.proofs.Common.{◌≡◌, ◌++◌, map, take}
use Rattle.serde_json.specs.View.{view}
use Rattle.er_lines.specs.json_line.Texts.{text_of, HaveWords, AreTexts}
use Rattle.er_lines.proofs.json_line.members.put_members.Given as goal

abbrev pub invariant-loop-member : goal.invariant-loop-member
invariant-loop-member l = record {
  words : HaveWords (map view (take l.member-index l.members));
  texts : AreTexts (map view (take l.member-index l.members));
  text : l.letters.bytes.items ≡ l.fn.letters.bytes.items ++ text_of (map view (take l.member-index l.members));
}
