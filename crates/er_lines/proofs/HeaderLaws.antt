-- The version that the first line gives.
use Rattle.std.proofs.Common.{◌≡◌, ℕ, List, ◌++◌, Option, Some, None, sym, ap, ◌∙◌, subst, append_assoc}
use Rattle.std.specs.Prelude.{MatchOption}
use Rattle.er_text.specs.declared.causes.Cause.{Cause}
use Rattle.er_text.specs.declared.causes.Cause.TheVariants.{NoEnd}
use Rattle.er_trace.specs.declared.record.Record.{Record}
use Rattle.er_trace.specs.declared.version.Version.{Version}
use Rattle.er_trace.specs.declared.fault.FeedFault.{FeedFault}
use Rattle.er_trace.specs.declared.fault.FeedFault.TheVariants.{Refused, NoMemory}
use Rattle.er_trace.specs.Trace.{line as with_end}
use Rattle.er_lines.specs.declared.mark.Mark.{Mark}
use Rattle.er_lines.specs.Format.{Format}
use Rattle.er_lines.specs.Lines.{Place, Start, After, Ended, AreBehind, AreWhole, AreBefore, LineCause, BeginsWith}
use Rattle.er_lines.specs.Marks.{mark_of, version_at}
use Rattle.er_lines.specs.Feed.{IsUnfinished, IsRefusedAt, Stands}
use Rattle.er_lines.proofs.LineLaws.{whole_line}
use Rattle.er_lines.proofs.CauseLaws.{cause_at, front_of}
use Rattle.er_lines.proofs.OneReading.{no_header_by}

pub header_of : (f : Format) (v : Version) (bytes before rest : List ℕ) (records : List Record) → bytes ≡ before ++ rest → AreBehind f v before records → BeginsWith f v bytes
header_of f v bytes before rest records begins are = record {
  first = are.first;
  short = are.short;
  header = are.header;
  rest = are.later ++ rest;
  begins = (begins ∙ ap (λ b. b ++ rest) are.begins) ∙ append_assoc (with_end are.first) are.later rest;
}

pub header_of_whole : (f : Format) (v : Version) (bytes before rest : List ℕ) (records : List Record) → bytes ≡ before ++ rest → AreWhole f v before records → BeginsWith f v bytes
header_of_whole f v bytes before rest records begins are =
    header_of f v bytes are.front (with_end are.last ++ rest) records ((begins ∙ ap (λ b. b ++ rest) are.begins) ∙ append_assoc are.front (with_end are.last) rest) are.behind

header_by : (f : Format) (place : Place) (v : Version) (bytes before rest : List ℕ) → AreBefore f place before → bytes ≡ before ++ rest → version_at (mark_of place) ≡ Some v → BeginsWith f v bytes
header_by f Start v bytes before rest are begins given = absurd (cc)
header_by f (After w records) v bytes before rest are begins given =
    let same : w ≡ v = cc in
    header_of f v bytes before rest records begins (subst (λ (u : Version). AreBehind f u before records) same are)
header_by f (Ended w records) v bytes before rest are begins given =
    let same : w ≡ v = cc in
    header_of_whole f v bytes before rest records begins (subst (λ (u : Version). AreWhole f u before records) same are)

-- what is kept tells the version that the first line gave
pub header_given : (f : Format) (mark : Mark) (line bytes : List ℕ) (fault : Option FeedFault) (records : List Record) (v : Version) → Stands f mark line fault bytes records → version_at mark ≡ Some v → BeginsWith f v bytes
header_given f mark line bytes fault records v h given = header_by f h.place v bytes h.before h.rest h.are h.begins (ap version_at (sym h.marked) ∙ given)

-- the line at the start has a cause
kept_at_start : (f : Format) (line rest : List ℕ) (fault : Option FeedFault) → MatchOption fault (IsUnfinished f Start rest × (line ≡ rest)) (IsRefusedAt f Start rest) → (c : Cause) × LineCause f Start rest c
kept_at_start f line rest None kept = (NoEnd, kept.0)
kept_at_start f line rest (Some (Refused n c)) kept = (c, kept.1)
kept_at_start f line rest (Some NoMemory) kept = elim kept [ ]

no_header_at : (f : Format) (place : Place) (mark : Mark) (line bytes before rest : List ℕ) (fault : Option FeedFault) (v : Version) → AreBefore f place before → bytes ≡ before ++ rest → version_at (mark_of place) ≡ None
    → MatchOption fault (IsUnfinished f place rest × (line ≡ rest)) (IsRefusedAt f place rest) → BeginsWith f v bytes → ⊥
no_header_at f (After w records) mark line bytes before rest fault v are begins none kept header = absurd (cc)
no_header_at f (Ended w records) mark line bytes before rest fault v are begins none kept header = absurd (cc)
no_header_at f Start mark line bytes before rest fault v are begins none kept header =
    let all : rest ≡ bytes = sym (begins ∙ ap (λ b. b ++ rest) are) in
    let why : (c : Cause) × LineCause f Start rest c = kept_at_start f line rest fault kept in
    no_header_by f (whole_line f.most rest) why.0 v header.first header.rest (cause_at f Start rest why.0 why.1)
    (front_of f.most rest header.first header.rest header.short (all ∙ header.begins)) header.header

-- and where it tells none, none was given
pub header_missing : (f : Format) (mark : Mark) (line bytes : List ℕ) (fault : Option FeedFault) (records : List Record) (v : Version) → Stands f mark line fault bytes records → version_at mark ≡ None → BeginsWith f v bytes → ⊥
header_missing f mark line bytes fault records v h none = no_header_at f h.place mark line bytes h.before h.rest fault v h.are h.begins (ap version_at (sym h.marked) ∙ none) h.kept
