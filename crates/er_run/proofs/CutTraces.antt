-- What a legal trace answers that was cut.
use Rattle.std.proofs.Common.{◌≡◌, ℕ, ◌+◌, ◌<◌, List, ◌++◌, length, reverse, ap, sym, ◌∙◌, subst}
use Rattle.std.proofs.lemmas.List.{reverse-append}
use Rattle.er_text.specs.Bytes.{count_of_lf}
use Rattle.er_text.specs.declared.causes.Cause.TheVariants.{NoEnd}
use Rattle.er_trace.specs.declared.record.Record.{Record}
use Rattle.er_trace.specs.declared.version.Version.{Version}
use Rattle.er_lines.specs.Format.{Format}
use Rattle.er_lines.specs.Lines.{Place, Start, After, Ended, IsTrace, IsWithin}
use Rattle.er_lines.proofs.CutTraces.{cut_trace as place_of_cut}
use Rattle.er_lines.proofs.LinesBefore.{line_of_no_end}
use Rattle.er_history.specs.Rules.{rules}
use Rattle.er_words.specs.declared.commands.Command.{Command}
use Rattle.er_run.specs.Legal.{IsLegal}
use Rattle.er_run.specs.Answer.{IsLegalBefore, FirstIllegal}
use Rattle.er_run.proofs.IllegalLines.{of_line}
use Rattle.er_run.proofs.OneAnswer.{legal_older}

-- the lines before a place within legal records are legal
legal_within : (asked : Command) (v : Version) (records : List Record) (place : Place) → IsWithin v records place → IsLegal (rules v) (reverse records) → IsLegalBefore asked place
legal_within asked v records Start within legal = tt
legal_within asked v records (After w front) within legal =
    let back : reverse records ≡ reverse within.1.0 ++ reverse front = ap reverse within.1.1 ∙ reverse-append front within.1.0 in
    let older : IsLegal (rules v) (reverse front) = legal_older (rules v) (reverse within.1.0) (reverse front) (subst (IsLegal (rules v)) back legal) in
    subst (λ u. IsLegal (rules u) (reverse front)) (sym within.0) older
legal_within asked v records (Ended w front) within legal = absurd within

pub cut_trace : (f : Format) (asked : Command) (v : Version) (records : List Record) (bytes more : List ℕ) → IsTrace f v (bytes ++ more) records → IsLegal (rules v) (reverse records) → 0 < length more → FirstIllegal f asked bytes (count_of_lf bytes + 1) NoEnd
cut_trace f asked v records bytes more is legal some =
    let cut = place_of_cut f v records bytes more is some in
    of_line f asked bytes (count_of_lf bytes + 1) NoEnd cut.0 (sym (line_of_no_end f bytes cut.0 cut.1)) (legal_within asked v records cut.0 cut.2 legal) cut.1
