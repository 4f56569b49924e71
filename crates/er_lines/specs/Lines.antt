-- A whole trace of a format, and the causes for which a line is no line of one. Records stand
-- oldest first.
use Rattle.std.specs.Prelude.{◌≡◌, ◌≢◌, ℕ, ◌+◌, ◌≤◌, Bool, true, false, ◌&&◌, nat_lt, List, [], ◌∷◌, ◌++◌, length, take, Option, Some, None}
use Rattle.er_text.specs.Bytes.{has_no_lf}
use Rattle.er_text.specs.declared.causes.Cause.{Cause}
use Rattle.er_text.specs.declared.causes.Cause.TheVariants as causes
use Rattle.er_trace.specs.declared.record.Record.{Record}
use Rattle.er_trace.specs.declared.version.Version.{Version}
use Rattle.er_trace.specs.Trace.{most_lines, line}
use Rattle.er_lines.specs.Format.{Format}

-- Where a line begins: at the start, behind a first line of that version and lines of these
-- records, or behind the last line.
pub data Place : Type 0 where
  Start : Place
  After : (version : Version) → (records : List Record) → Place
  Ended : (version : Version) → (records : List Record) → Place

-- the version that the first line gave
abbrev pub version_before : Place → Option Version
version_before Start = None
version_before (After v records) = Some v
version_before (Ended v records) = Some v

-- the records before it
abbrev pub records_before : Place → List Record
records_before Start = []
records_before (After v records) = records
records_before (Ended v records) = records

-- the number of the line
abbrev pub line_number : Place → ℕ
line_number Start = 1
line_number (After v records) = length records + 2
line_number (Ended v records) = length records + 3

-- the bytes are a line without its LF, or a front of one
pub record IsShort (most : ℕ) (bytes : List ℕ) : Type 0 where
  pub clear : has_no_lf bytes ≡ true
  pub few : length bytes ≤ most

-- the bytes are lines that spell the records in a trace of the version
abbrev pub AreLines : Format → Version → List ℕ → List Record → Type 0
AreLines f v bytes [] = bytes ≡ []
AreLines f v bytes (x ∷ records) = (l : List ℕ) × (later : List ℕ) × IsShort f.most l
    × f.Spells v l x × (bytes ≡ line l ++ later) × AreLines f v later records

-- the bytes are a first line of the version, and lines that spell the records
pub record AreBehind (f : Format) (v : Version) (bytes : List ℕ)
    (records : List Record) : Type 0 where
  pub first : List ℕ
  pub short : IsShort f.most first
  pub header : f.IsHeader v first
  pub later : List ℕ
  pub begins : bytes ≡ line first ++ later
  pub lines : AreLines f v later records

-- the bytes are a first line of the version, lines that spell the records, and a last line
pub record AreWhole (f : Format) (v : Version) (bytes : List ℕ)
    (records : List Record) : Type 0 where
  pub front : List ℕ
  pub behind : AreBehind f v front records
  pub last : List ℕ
  pub short : IsShort f.most last
  pub end : f.IsEnd last
  pub begins : bytes ≡ front ++ line last

-- the bytes are the lines before that place
abbrev pub AreBefore : Format → Place → List ℕ → Type 0
AreBefore f Start bytes = bytes ≡ []
AreBefore f (After v records) bytes = AreBehind f v bytes records
AreBefore f (Ended v records) bytes = AreWhole f v bytes records

-- too many bytes came without an LF
abbrev pub is_long : ℕ → List ℕ → Bool
is_long most bytes = nat_lt most (length bytes) && has_no_lf (take (most + 1) bytes)

-- there are bytes, and the number of the line is above the most
abbrev pub is_extra : Place → List ℕ → Bool
is_extra place rest = nat_lt most_lines (line_number place) && nat_lt 0 (length rest)

-- the line begins after the last line
abbrev pub is_past_end : Place → Bool
is_past_end (Ended v records) = true
is_past_end _ = false

-- it is the first line of no version
abbrev pub IsNoHeader : Format → List ℕ → Type 0
IsNoHeader f l = (v : Version) → ¬ f.IsHeader v l

-- no record is spelled so in a trace of the version
abbrev pub SpellsNone : Format → Version → List ℕ → Type 0
SpellsNone f v l = (x : Record) → f.Spells v l x → ⊥

-- Why the line that begins there, with these bytes from it on, is no line of a trace: the first of
-- these that applies.
-- AfterEnd: there are bytes after the last line
-- TooManyLines: there are bytes, and the number of the line is above the most
-- LongLine: more bytes than a line may have came without an LF
-- NoEnd: no LF comes, also where there are no bytes
-- BadHeader: the first line is the header of no version
-- BadRecord: a later line is neither a last one nor spells a record of the version
pub data LineCause (f : Format) (place : Place) (rest : List ℕ) (c : Cause) : Type 0 where
  AfterEnd : is_past_end place ≡ true → rest ≢ [] → c ≡ causes.AfterEnd → LineCause f place rest c
  TooManyLines : is_past_end place ≡ false → is_extra place rest ≡ true → c ≡ causes.TooManyLines
      → LineCause f place rest c
  LongLine : is_past_end place ≡ false → is_extra place rest ≡ false → is_long f.most rest ≡ true
      → c ≡ causes.LongLine → LineCause f place rest c
  NoEnd : is_past_end place ≡ false → is_extra place rest ≡ false → IsShort f.most rest
      → c ≡ causes.NoEnd → LineCause f place rest c
  BadHeader : (l later : List ℕ) → place ≡ Start → IsShort f.most l → rest ≡ line l ++ later
      → IsNoHeader f l → c ≡ causes.BadHeader → LineCause f place rest c
  BadRecord : (v : Version) (records : List Record) (l later : List ℕ) → place ≡ After v records
      → is_extra place rest ≡ false → IsShort f.most l → rest ≡ line l ++ later → ¬ f.IsEnd l
      → SpellsNone f v l → c ≡ causes.BadRecord → LineCause f place rest c

-- the bytes are a whole trace of that version with these records
pub record IsTrace (f : Format) (v : Version) (bytes : List ℕ)
    (records : List Record) : Type 0 where
  pub whole : AreWhole f v bytes records
  pub few : length records + 2 ≤ most_lines

-- they are one in some version
abbrev pub IsTraceOf : Format → List ℕ → List Record → Type 0
IsTraceOf f bytes records = (v : Version) × IsTrace f v bytes records

-- the first line gives that version
pub record BeginsWith (f : Format) (v : Version) (bytes : List ℕ) : Type 0 where
  pub first : List ℕ
  pub short : IsShort f.most first
  pub header : f.IsHeader v first
  pub rest : List ℕ
  pub begins : bytes ≡ line first ++ rest

-- The bytes begin with the lines before that place, and the line there has the cause.
pub record Refuses (f : Format) (bytes : List ℕ) (place : Place) (c : Cause) : Type 0 where
  pub before : List ℕ
  pub rest : List ℕ
  pub are : AreBefore f place before
  pub few : line_number place ≤ most_lines + 1
  pub begins : bytes ≡ before ++ rest
  pub cause : LineCause f place rest c

-- the line of that number has the cause, and these are the records before it
abbrev pub ReadsUntil : Format → List ℕ → ℕ → Cause → List Record → Type 0
ReadsUntil f bytes number c records = (place : Place) × Refuses f bytes place c
    × (number ≡ line_number place) × (records ≡ records_before place)

-- the bytes begin with some lines of a trace, and these are their records
abbrev pub ReadsPart : Format → List ℕ → List Record → Type 0
ReadsPart f bytes records = (place : Place) × (before rest : List ℕ) × AreBefore f place before
    × (line_number place ≤ most_lines + 1) × (bytes ≡ before ++ rest)
    × (records ≡ records_before place)

-- the first line, or the one behind some of the records
abbrev pub IsWithin : Version → List Record → Place → Type 0
IsWithin v records Start = Unit {0}
IsWithin v records (After w front) = (w ≡ v) × ((back : List Record) × (records ≡ front ++ back))
IsWithin v records (Ended w front) = ⊥

-- a trace of these records was cut: its bytes end within the first line, or within the one behind
-- some of the records
abbrev pub IsCutTrace : Format → Version → List Record → List ℕ → Type 0
IsCutTrace f v records bytes =
    (place : Place) × Refuses f bytes place causes.NoEnd × IsWithin v records place
