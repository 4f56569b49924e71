-- Every byte string is read: it is a whole trace, or a line of it is none.
use Rattle.std.proofs.Common.{◌≡◌, ℕ, zero, suc, ◌+◌, ◌<◌, ◌≤◌, List, [], ◌∷◌, ◌++◌, length, Bool, true, false, ◌&&◌, Ok, Err, refl, ap, sym, ◌∙◌, subst, arith, append_assoc, append-nil, length-append}
use Rattle.std.specs.Prelude.{nat_lt}
use Rattle.std.proofs.lemmas.Bool.Decides.{nat_tests}
use Rattle.er_text.specs.declared.causes.Cause.{Cause}
use Rattle.er_text.specs.declared.causes.Cause.TheVariants.{BadHeader, BadRecord, TooManyLines, AfterEnd}
use Rattle.er_trace.specs.declared.record.Record.{Record}
use Rattle.er_trace.specs.declared.version.Version.{Version}
use Rattle.er_trace.specs.Trace.{most_lines, line}
use Rattle.er_lines.specs.Format.{Format}
use Rattle.er_lines.specs.Lines.{Start, After, Ended, IsShort, AreBehind, IsNoHeader, SpellsNone, IsTraceOf, ReadsUntil}
use Rattle.er_lines.specs.Lines as by_cause
use Rattle.er_lines.proofs.LineLaws.{whole_line, whole_line_parts}
use Rattle.er_lines.proofs.CauseLaws.{Line, StartBy, CauseBy, StartCause, RecordCause, line_cause, found_short}
use Rattle.er_lines.proofs.FeedLaws.{behind_more}

-- what comes of reading the bytes
pub data Reads (f : Format) (bytes : List ℕ) : Type 0 where
  Whole : (records : List Record) → IsTraceOf f bytes records → Reads f bytes
  Until : (number : ℕ) (c : Cause) (records : List Record) → ReadsUntil f bytes number c records → Reads f bytes

-- a reading, under a double negation
abbrev pub IsRead : Format → List ℕ → Type 0
IsRead f bytes = (Reads f bytes → ⊥) → ⊥

-- the line of that number is next, behind these records, and these bytes are left
record At (f : Format) (v : Version) (bytes : List ℕ) (records : List Record) (number : ℕ) (rest : List ℕ) : Type 0 where
  before : List ℕ
  are : AreBehind f v before records
  numbered : number ≡ length records + 2
  few : number ≤ most_lines + 1
  begins : bytes ≡ before ++ rest

-- the bytes behind a line
behind_line : (bytes before l rest later : List ℕ) → bytes ≡ before ++ rest → rest ≡ l ++ 10 ∷ later → bytes ≡ (before ++ line l) ++ later
behind_line bytes before l rest later begins is =
    (begins ∙ ap (λ r. before ++ r) (is ∙ sym (append_assoc l (10 ∷ []) later))) ∙ sym (append_assoc before (line l) later)

at_refusal : (f : Format) (v : Version) (bytes : List ℕ) (records : List Record) (number : ℕ) (rest : List ℕ) (c : Cause) → At f v bytes records number rest → RecordCause f v number rest c → Reads f bytes
at_refusal f v bytes records number rest c at cause =
    Until number c records (After v records, record { before = at.before; rest = rest; are = at.are; few = omega (arith, at.few, at.numbered); begins = at.begins; cause = line_cause f (After v records) rest c (subst (λ (n : ℕ). RecordCause f v n rest c) at.numbered cause) }, at.numbered, refl)

cause_by : (f : Format) (v : Version) (number : ℕ) (rest : List ℕ) (many : Bool) (whole : Line) (c : Cause) → many ≡ (nat_lt most_lines number && nat_lt 0 (length rest)) → whole ≡ whole_line f.most rest
    → CauseBy f v many whole c → RecordCause f v number rest c
cause_by f v number rest many whole c is_many is_whole h =
    let first : CauseBy f v (nat_lt most_lines number && nat_lt 0 (length rest)) whole c = subst (λ b. CauseBy f v b whole c) is_many h in
    subst (λ w. CauseBy f v (nat_lt most_lines number && nat_lt 0 (length rest)) w c) is_whole first

-- from the place that the reading is at
abbrev GoesOn : Format → Version → List ℕ → ℕ → Type 0
GoesOn f v bytes n = (records : List Record) (number : ℕ) (rest : List ℕ) → length rest < n → At f v bytes records number rest → ⊥

ends_by : (f : Format) (v : Version) (bytes : List ℕ) (records : List Record) (number : ℕ) (l rest later : List ℕ) → At f v bytes records number rest → number ≤ most_lines → IsShort f.most l → f.IsEnd l → rest ≡ l ++ 10 ∷ later → Reads f bytes
ends_by f v bytes records number l rest [] at few short end is =
    Whole records (
      v,
      record {
        whole = record { front = at.before; behind = at.are; last = l; short = short; end = end; begins = at.begins ∙ ap (λ r. at.before ++ r) is };
        few = omega (arith, at.numbered);
      },
    )
ends_by f v bytes records number l rest (b ∷ later) at few short end is =
    Until (number + 1) AfterEnd records (
      Ended v records,
      record {
        before = at.before ++ line l;
        rest = b ∷ later;
        are = record { front = at.before; behind = at.are; last = l; short = short; end = end; begins = refl };
        few = omega (arith, at.numbered);
        begins = behind_line bytes at.before l rest (b ∷ later) at.begins is;
        cause = by_cause.AfterEnd refl (λ e. cc) refl;
      },
      omega (arith, at.numbered),
      refl,
    )

at_more : (f : Format) (v : Version) (bytes : List ℕ) (records : List Record) (number : ℕ) (l rest later : List ℕ) (x : Record) → At f v bytes records number rest → number ≤ most_lines → IsShort f.most l → f.Spells v l x → rest ≡ l ++ 10 ∷ later → At f v bytes (records ++ x ∷ []) (number + 1) later
at_more f v bytes records number l rest later x at few short spells is = record {
  before = at.before ++ line l;
  are = behind_more f v at.before records l x at.are short spells;
  numbered = omega (arith, at.numbered, length-append records (x ∷ []));
  few = omega arith;
  begins = behind_line bytes at.before l rest later at.begins is;
}

number_within : (number : ℕ) (bytes : List ℕ) → 0 < length bytes → false ≡ (nat_lt most_lines number && nat_lt 0 (length bytes)) → number ≤ most_lines
number_within number bytes some few = grind (arith, nat_tests)

reads_line : (f : Format) (v : Version) (n : ℕ) (bytes : List ℕ) (records : List Record) (number : ℕ) (rest : List ℕ) (many : Bool) (whole : Line)
    → many ≡ (nat_lt most_lines number && nat_lt 0 (length rest)) → whole ≡ whole_line f.most rest → length rest < suc n → At f v bytes records number rest → GoesOn f v bytes n → (Reads f bytes → ⊥) → ⊥
reads_line f v n bytes records number rest true whole is_many is_whole below at again refute =
    refute (at_refusal f v bytes records number rest TooManyLines at (cause_by f v number rest true whole TooManyLines is_many is_whole refl))
reads_line f v n bytes records number rest false (Err why) is_many is_whole below at again refute =
    refute (at_refusal f v bytes records number rest why at (cause_by f v number rest false (Err why) why is_many is_whole refl))
reads_line f v n bytes records number rest false (Ok (l, later)) is_many is_whole below at again refute =
    let h : whole_line f.most rest ≡ Ok (l, later) = sym is_whole in
    let is : rest ≡ l ++ 10 ∷ later = whole_line_parts f.most rest l later h in
    let short : IsShort f.most l = found_short f.most rest l later h in
    let few : number ≤ most_lines = number_within number rest (omega (arith, ap length is, length-append l (10 ∷ later))) is_many in
    let not_end : ¬ f.IsEnd l = λ end. refute (ends_by f v bytes records number l rest later at few short end is) in
    let shorter : length later < n = omega (arith, ap length is, length-append l (10 ∷ later)) in
    let none : SpellsNone f v l = λ x spells. again (records ++ x ∷ []) (number + 1) later shorter (at_more f v bytes records number l rest later x at few short spells is) in
    refute (at_refusal f v bytes records number rest BadRecord at (cause_by f v number rest false (Ok (l, later)) BadRecord is_many is_whole (not_end, none, refl)))

reads_on : (f : Format) (v : Version) (n : ℕ) (bytes : List ℕ) → (Reads f bytes → ⊥) → GoesOn f v bytes n
reads_on f v zero bytes refute = λ records number rest below at. absurd (omega arith)
reads_on f v (suc n) bytes refute = λ records number rest below at.
    reads_line f v n bytes records number rest (nat_lt most_lines number && nat_lt 0 (length rest)) (whole_line f.most rest) refl refl below at (reads_on f v n bytes refute) refute

refused_at_start : (f : Format) (bytes : List ℕ) (c : Cause) → StartCause f bytes c → Reads f bytes
refused_at_start f bytes c cause = Until 1 c [] (Start, record { before = []; rest = bytes; are = refl; few = omega arith; begins = refl; cause = line_cause f Start bytes c cause }, refl, refl)

reads_first : (f : Format) (bytes : List ℕ) (whole : Line) → whole ≡ whole_line f.most bytes → IsRead f bytes
reads_first f bytes (Err why) is_whole = λ refute.
    let cause : StartCause f bytes why = subst (λ w. StartBy f w why) is_whole refl in
    refute (refused_at_start f bytes why cause)
reads_first f bytes (Ok (l, later)) is_whole = λ refute.
    let h : whole_line f.most bytes ≡ Ok (l, later) = sym is_whole in
    let is : bytes ≡ l ++ 10 ∷ later = whole_line_parts f.most bytes l later h in
    let start : (v : Version) → f.IsHeader v l → At f v bytes [] 2 later = λ v header. record {
      before = line l;
      are = record { first = l; short = found_short f.most bytes l later h; header = header; later = []; begins = sym (append-nil (line l)); lines = refl };
      numbered = refl;
      few = omega arith;
      begins = is ∙ sym (append_assoc l (10 ∷ []) later);
    } in
    let not_header : IsNoHeader f l = λ v header. reads_on f v (suc (length later)) bytes refute [] 2 later (omega arith) (start v header) in
    let cause : StartCause f bytes BadHeader = subst (λ w. StartBy f w BadHeader) is_whole (not_header, refl) in
    refute (refused_at_start f bytes BadHeader cause)

pub every_text : (f : Format) (bytes : List ℕ) → IsRead f bytes
every_text f bytes = reads_first f bytes (whole_line f.most bytes) refl
