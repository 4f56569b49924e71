-- The first illegal line by its three kinds, each with all that is known of it.
use Rattle.std.proofs.Common.{◌≡◌, ℕ, ◌+◌, ◌≤◌, List, ◌++◌, length, reverse, Some, refl, ap, ◌∙◌, subst, arith}
use Rattle.er_text.specs.declared.causes.Cause.{Cause}
use Rattle.er_trace.specs.declared.record.Record.{Record}
use Rattle.er_trace.specs.declared.version.Version.{Version}
use Rattle.er_trace.specs.Trace.{most_lines, line}
use Rattle.er_lines.specs.Format.{Format}
use Rattle.er_lines.specs.Lines.{Place, After, line_number, IsShort, AreBehind, AreBefore, Refuses}
use Rattle.er_history.specs.Rules.{rules}
use Rattle.er_run.specs.Legal.{end_cause_for}
use Rattle.er_run.specs.Legal as legality
use Rattle.er_words.specs.declared.commands.Command.{Command}
use Rattle.er_run.specs.Answer.{IsLegalBefore, Illegal, NoLine, OfRecord, OfEnd, FirstIllegal}

-- behind the lines of these records is the line of a record that has the cause after them
pub record RefusesRecord (f : Format) (v : Version) (bytes : List ℕ) (earlier : List Record) (c : Cause) : Type 0 where
  pub before : List ℕ
  pub are : AreBehind f v before earlier
  pub few : length earlier + 2 ≤ most_lines
  pub read : Record
  pub l : List ℕ
  pub short : IsShort f.most l
  pub spells : f.Spells v l read
  pub rest : List ℕ
  pub begins : bytes ≡ before ++ (line l ++ rest)
  pub cause : legality.cause (rules v) (reverse earlier) read ≡ Some c

-- behind the lines of these records is a last line, and it has the cause after them
pub record RefusesEnd (f : Format) (asked : Command) (v : Version) (bytes : List ℕ) (earlier : List Record) (c : Cause) : Type 0 where
  pub before : List ℕ
  pub are : AreBehind f v before earlier
  pub few : length earlier + 2 ≤ most_lines
  pub l : List ℕ
  pub short : IsShort f.most l
  pub end : f.IsEnd l
  pub rest : List ℕ
  pub begins : bytes ≡ before ++ (line l ++ rest)
  pub cause : end_cause_for asked v (reverse earlier) ≡ Some c

pub of_line : (f : Format) (asked : Command) (bytes : List ℕ) (n : ℕ) (c : Cause) (place : Place) → n ≡ line_number place → IsLegalBefore asked place → Refuses f bytes place c → FirstIllegal f asked bytes n c
of_line f asked bytes n c place number legal h = record {
  place = place;
  number = number;
  few = h.few;
  before = h.before;
  are = h.are;
  legal = legal;
  rest = h.rest;
  begins = h.begins;
  illegal = NoLine h.cause;
}

pub of_record : (f : Format) (asked : Command) (bytes : List ℕ) (n : ℕ) (c : Cause) (v : Version) (earlier : List Record) → n ≡ line_number (After v earlier) → IsLegalBefore asked (After v earlier) → RefusesRecord f v bytes earlier c → FirstIllegal f asked bytes n c
of_record f asked bytes n c v earlier number legal h = record {
  place = After v earlier;
  number = number;
  few = omega (arith, h.few);
  before = h.before;
  are = h.are;
  legal = legal;
  rest = line h.l ++ h.rest;
  begins = h.begins;
  illegal = OfRecord v earlier refl (record { few = h.few; read = h.read; l = h.l; short = h.short; spells = h.spells; rest = h.rest; begins = refl; cause = h.cause });
}

pub of_end : (f : Format) (asked : Command) (bytes : List ℕ) (n : ℕ) (c : Cause) (v : Version) (earlier : List Record) → n ≡ line_number (After v earlier) → IsLegalBefore asked (After v earlier) → RefusesEnd f asked v bytes earlier c → FirstIllegal f asked bytes n c
of_end f asked bytes n c v earlier number legal h = record {
  place = After v earlier;
  number = number;
  few = omega (arith, h.few);
  before = h.before;
  are = h.are;
  legal = legal;
  rest = line h.l ++ h.rest;
  begins = h.begins;
  illegal = OfEnd v earlier refl (record { few = h.few; l = h.l; short = h.short; end = h.end; rest = h.rest; begins = refl; cause = h.cause });
}

pub data Kinds (f : Format) (asked : Command) (bytes : List ℕ) (n : ℕ) (c : Cause) : Type 0 where
  ByLine : (place : Place) → n ≡ line_number place → IsLegalBefore asked place → Refuses f bytes place c → Kinds f asked bytes n c
  ByRecord : (v : Version) (earlier : List Record) → n ≡ line_number (After v earlier) → IsLegalBefore asked (After v earlier) → RefusesRecord f v bytes earlier c → Kinds f asked bytes n c
  ByEnd : (v : Version) (earlier : List Record) → n ≡ line_number (After v earlier) → IsLegalBefore asked (After v earlier) → RefusesEnd f asked v bytes earlier c → Kinds f asked bytes n c

kinds_by : (f : Format) (asked : Command) (bytes : List ℕ) (n : ℕ) (c : Cause) (place : Place) (before rest : List ℕ) → n ≡ line_number place → line_number place ≤ most_lines + 1 → AreBefore f place before → IsLegalBefore asked place → bytes ≡ before ++ rest
    → Illegal f asked place rest c → Kinds f asked bytes n c
kinds_by f asked bytes n c place before rest number few are legal begins (NoLine cause) =
    ByLine place number legal (record { before = before; rest = rest; are = are; few = few; begins = begins; cause = cause })
kinds_by f asked bytes n c place before rest number few are legal begins (OfRecord v earlier is h) =
    ByRecord v earlier (number ∙ ap line_number is) (subst (IsLegalBefore asked) is legal) (record {
      before = before;
      are = subst (λ p. AreBefore f p before) is are;
      few = h.few;
      read = h.read;
      l = h.l;
      short = h.short;
      spells = h.spells;
      rest = h.rest;
      begins = begins ∙ ap (λ b. before ++ b) h.begins;
      cause = h.cause;
    })
kinds_by f asked bytes n c place before rest number few are legal begins (OfEnd v earlier is h) =
    ByEnd v earlier (number ∙ ap line_number is) (subst (IsLegalBefore asked) is legal) (record {
      before = before;
      are = subst (λ p. AreBefore f p before) is are;
      few = h.few;
      l = h.l;
      short = h.short;
      end = h.end;
      rest = h.rest;
      begins = begins ∙ ap (λ b. before ++ b) h.begins;
      cause = h.cause;
    })

pub kinds : (f : Format) (asked : Command) (bytes : List ℕ) (n : ℕ) (c : Cause) → FirstIllegal f asked bytes n c → Kinds f asked bytes n c
kinds f asked bytes n c h = kinds_by f asked bytes n c h.place h.before h.rest h.number h.few h.are h.legal h.begins h.illegal
