-- The format of er_trace: its own lines.
use Rattle.std.specs.Prelude.{◌≡◌, ℕ, List}
use Rattle.er_trace.specs.declared.record.Record.{Record}
use Rattle.er_trace.specs.declared.version.Version.{Version}
use Rattle.er_trace.specs.Spelling.{spelling}
use Rattle.er_trace.specs.Versions.{IsRecordOf}
use Rattle.er_trace.specs.Trace.{header, end_word, most_line_bytes}
use Rattle.er_syntax.proofs.OneTrace.{same_header}
use Rattle.er_syntax.proofs.OneRecord.{one_record}
use Rattle.er_syntax.proofs.RecordLaws.{spelling_is_no_end}
use Rattle.std.proofs.Common.{sym, ◌∙◌}
use Rattle.er_lines.specs.Format.{Format, IsFormat}

abbrev pub IsSpelled : Version → List ℕ → Record → Type 0
IsSpelled v l x = IsRecordOf v x × (l ≡ spelling x)

abbrev pub text : Format
text = record {
  most = most_line_bytes;
  IsHeader = λ v l. l ≡ header v;
  IsEnd = λ l. l ≡ end_word;
  Spells = IsSpelled;
}

pub text_is_format : IsFormat text
text_is_format = record {
  one_version = λ l v w first second. same_header v w (sym first ∙ second);
  one_record = λ v l x y first second. one_record x y first.0.0 second.0.0 (sym first.1 ∙ second.1);
  of_version = λ v l x spells. spells.0.1;
  not_end = λ v l x spells end. spelling_is_no_end x spells.0.0 (sym spells.1 ∙ end);
}
