-- How a feed gets on, by one line or by a part of one.
use Rattle.std.specs.Prelude.{◌≡◌, ℕ, ◌+◌, ◌-◌, ◌<◌, ◌≤◌, true, List, [], ◌∷◌, ◌++◌, length, take, Option, None}
use Rattle.er_text.specs.Bytes.{line_end, has_no_lf}
use Rattle.er_text.specs.declared.causes.Cause.{Cause}
use Rattle.er_text.specs.declared.causes.Cause.TheVariants.{BadHeader, BadRecord}
use Rattle.er_trace.specs.declared.record.Record.{Record}
use Rattle.er_trace.specs.declared.version.Version.{Version}
use Rattle.er_trace.specs.declared.fault.FeedFault.{FeedFault}
use Rattle.er_lines.specs.declared.mark.Mark.{Mark}
use Rattle.er_lines.specs.declared.mark.Mark.TheVariants as marks
use Rattle.er_lines.specs.declared.cut.Next.{Next}
use Rattle.er_lines.specs.declared.cut.Next.TheVariants as nexts
use Rattle.er_lines.specs.declared.format.Later.{Later}
use Rattle.er_lines.specs.declared.format.Later.TheVariants as laters
use Rattle.er_lines.specs.Format.{Format}
use Rattle.er_lines.specs.Lines.{IsShort, IsNoHeader, SpellsNone, ReadsPart}
use Rattle.er_lines.specs.Marks.{IsOpen}
use Rattle.er_lines.specs.Feed.{Stands}

-- how a line goes on, of which so many bytes are kept
abbrev pub GoesOnAs : ℕ → ℕ → List ℕ → Next → Type 0
GoesOnAs most kept chunk (nexts.Ends front later) = (chunk ≡ front.now ++ line_end ∷ later.now)
    × (has_no_lf front.now ≡ true) × (kept + length front.now ≤ most)
GoesOnAs most kept chunk nexts.GoesOn = (has_no_lf chunk ≡ true) × (kept + length chunk ≤ most)
GoesOnAs most kept chunk nexts.TooLong =
    (has_no_lf (take (most + 1 - kept) chunk) ≡ true) × (most < kept + length chunk)

-- what a line behind the first is
abbrev pub IsLater : (List ℕ → Type 0) → (List ℕ → Record → Type 0) → List ℕ → Later → Type 0
IsLater IsEnd Spells l laters.End = IsEnd l
IsLater IsEnd Spells l (laters.One x) = Spells l x

-- the whole line at the mark leads to the next mark, and these are its records
abbrev pub IsLine : Format → Mark → List ℕ → Mark → List Record → Type 0
IsLine f marks.Start bytes (marks.After w m) came = f.IsHeader w bytes × (m ≡ 0) × (came ≡ [])
IsLine f (marks.After v n) bytes (marks.After w m) came =
    (x : Record) × f.Spells v bytes x × (marks.After w m ≡ marks.After v (n + 1)) × (came ≡ x ∷ [])
IsLine f (marks.After v n) bytes (marks.Ended w m) came =
    f.IsEnd bytes × (marks.Ended w m ≡ marks.Ended v n) × (came ≡ [])
IsLine f _ bytes _ came = ⊥

-- the whole line at the mark has that cause
abbrev pub IsBadLine : Format → Mark → List ℕ → Cause → Type 0
IsBadLine f marks.Start bytes c = IsNoHeader f bytes × (c ≡ BadHeader)
IsBadLine f (marks.After v n) bytes c = ¬ f.IsEnd bytes × SpellsNone f v bytes × (c ≡ BadRecord)
IsBadLine f (marks.Ended v n) bytes c = ⊥

-- the line of a record stands at the front, with what is left behind its LF
pub record IsFront (most : ℕ) (Spells : List ℕ → Record → Type 0) (chunk : List ℕ) (x : Record)
    (left : List ℕ) : Type 0 where
  pub l : List ℕ
  pub short : IsShort most l
  pub spells : Spells l x
  pub cut : chunk ≡ l ++ line_end ∷ left

-- the same in a trace of some version, where a line may stand and nothing of it came before
pub record IsFrontAt (f : Format) (mark : Mark) (kept chunk : List ℕ) (next : Mark) (x : Record)
    (left : List ℕ) : Type 0 where
  pub free : IsOpen mark
  pub none : kept ≡ []
  pub version : Version
  pub front : IsFront f.most (f.Spells version) chunk x left
  pub line : IsLine f mark front.l next (x ∷ [])

-- What is kept leads, with more bytes, to what is kept then, and more records came to the list.
pub record Leads (f : Format) (mark : Mark) (line : List ℕ) (bytes : List ℕ) (next : Mark)
    (later : List ℕ) (fault : Option FeedFault) (old new : List Record) : Type 0 where
  pub more : List Record
  pub grown : new ≡ old ++ more
  pub stands : (before : List ℕ) (earlier : List Record) → Stands f mark line None before earlier
      → Stands f next later fault (before ++ bytes) (earlier ++ more)

-- Memory ran out, and some more records came to the list.
pub record LeadsPart (f : Format) (mark : Mark) (line : List ℕ) (bytes : List ℕ)
    (old new : List Record) : Type 0 where
  pub more : List Record
  pub grown : new ≡ old ++ more
  pub part : (before : List ℕ) (earlier : List Record) → Stands f mark line None before earlier
      → ReadsPart f (before ++ bytes) (earlier ++ more)

-- a front of the chunk was taken, and these bytes are left
pub record Took (f : Format) (mark : Mark) (line : List ℕ) (chunk : List ℕ) (next : Mark)
    (later : List ℕ) (left : List ℕ) (old new : List Record) : Type 0 where
  pub front : List ℕ
  pub taken : chunk ≡ front ++ left
  pub leads : Leads f mark line front next later None old new
