-- The causes of a line, by its bytes.
use Rattle.std.proofs.Common.{◌≡◌, ℕ, ◌+◌, ◌-◌, ◌<◌, ◌≤◌, zero, suc, List, [], ◌∷◌, ◌++◌, length, take, Bool, true, false, ◌&&◌, Option, Some, None, Ok, Err, refl, ap, sym, ◌∙◌, subst, arith, append_assoc, length-append}
use Rattle.std.specs.Prelude.{◌≢◌, nat_lt, if◌then◌else◌, Result, MatchResult, MatchBool}
use Rattle.std.specs.Option.{ok_or}
use Rattle.std.proofs.lemmas.List.{take-append-le}
use Rattle.std.proofs.Math.Seq.{take-append-add}
use Rattle.std.proofs.lemmas.Bool.Decides.{nat_tests}
use Rattle.std.proofs.lemmas.Grind.{common_steps}
use Rattle.er_text.specs.Bytes.{has_no_lf}
use Rattle.er_text.specs.Lines.{first_line}
use Rattle.er_text.specs.declared.causes.Cause.{Cause}
use Rattle.er_text.specs.declared.causes.Cause.TheVariants.{BadHeader, LongLine, BadRecord, NoEnd, AfterEnd, TooManyLines}
use Rattle.er_text.proofs.ByteLaws.{lacks-append}
use Rattle.er_text.proofs.LineLaws.{first_line_none, first_line_some, first_line_parts}
use Rattle.er_trace.specs.declared.record.Record.{Record}
use Rattle.er_trace.specs.declared.version.Version.{Version}
use Rattle.er_trace.specs.Trace.{most_lines, line as with_end}
use Rattle.er_lines.specs.Format.{Format}
use Rattle.er_lines.specs.Lines.{Place, Start, After, Ended, line_number, IsShort, is_long, is_extra, is_past_end, IsNoHeader, SpellsNone, LineCause}
use Rattle.er_lines.specs.Lines as by_cause
use Rattle.er_lines.proofs.LineLaws.{whole_line, whole_line-with, whole_line_short, whole_line_parts}

abbrev pub Line : Type 0
Line = Result (List ℕ × List ℕ) Cause

few_not_long : (most : ℕ) (bytes : List ℕ) → length bytes ≤ most → is_long most bytes ≡ false
few_not_long most bytes few = grind (arith, nat_tests, common_steps)

whole_short : (most : ℕ) (bytes : List ℕ) → IsShort most bytes → whole_line most bytes ≡ Err NoEnd
whole_short most bytes h = whole_line_short most bytes (few_not_long most bytes h.few) ∙ ap (λ first. ok_or first NoEnd) (first_line_none bytes h.clear)

clear_take : (n : ℕ) (bytes : List ℕ) → has_no_lf bytes ≡ true → has_no_lf (take n bytes) ≡ true
clear_take zero bytes h = refl
clear_take (suc n) [] h = refl
clear_take (suc n) (b ∷ bytes) h = grind (arith, common_steps, clear_take n bytes)

few_by : (most : ℕ) (bytes : List ℕ) → is_long most bytes ≡ false → has_no_lf (take (most + 1) bytes) ≡ true → length bytes ≤ most
few_by most bytes is clear = grind (arith, nat_tests, common_steps)

short_by : (most : ℕ) (bytes : List ℕ) (long : Bool) (first : Option (List ℕ × List ℕ)) → is_long most bytes ≡ long → first_line bytes ≡ first → (if long then Err LongLine else ok_or first NoEnd) ≡ Err NoEnd → IsShort most bytes
short_by most bytes true first is there h = absurd (cc)
short_by most bytes false (Some l) is there h = absurd (cc)
short_by most bytes false None is there h =
    let clear : has_no_lf bytes ≡ true = first_line_some bytes there in
    record { clear = clear; few = few_by most bytes is (clear_take (most + 1) bytes clear) }

-- The causes of a line, by whether it is one too many, and by the whole line at the front of its
-- bytes.

abbrev pub StartBy : Format → Line → Cause → Type 0
StartBy f whole c = MatchResult whole (λ l. IsNoHeader f l.0 × (c ≡ BadHeader)) (λ why. c ≡ why)

abbrev pub CauseBy : Format → Version → Bool → Line → Cause → Type 0
CauseBy f v many whole c = MatchBool many (c ≡ TooManyLines) (MatchResult whole (λ l. ¬ f.IsEnd l.0 × SpellsNone f v l.0 × (c ≡ BadRecord)) (λ why. c ≡ why))

abbrev pub StartCause : Format → List ℕ → Cause → Type 0
StartCause f rest c = StartBy f (whole_line f.most rest) c

abbrev pub RecordCause : Format → Version → ℕ → List ℕ → Cause → Type 0
RecordCause f v number rest c = CauseBy f v (nat_lt most_lines number && nat_lt 0 (length rest)) (whole_line f.most rest) c

abbrev pub CauseAt : Format → Place → List ℕ → Cause → Type 0
CauseAt f Start rest c = StartCause f rest c
CauseAt f (After v records) rest c = RecordCause f v (length records + 2) rest c
CauseAt f (Ended v records) rest c = (rest ≢ []) × (c ≡ AfterEnd)

start_err : (f : Format) (whole : Line) (c : Cause) → whole ≡ Err c → StartBy f whole c
start_err f (Ok l) c h = absurd (cc)
start_err f (Err why) c h = cc

start_bad : (f : Format) (whole : Line) (l rest : List ℕ) (c : Cause) → whole ≡ Ok (l, rest) → IsNoHeader f l × (c ≡ BadHeader) → StartBy f whole c
start_bad f (Err why) l rest c h is = absurd (cc)
start_bad f (Ok found) l rest c h is = let same : l ≡ found.0 = cc in rw same at is

cause_many : (f : Format) (v : Version) (many : Bool) (whole : Line) (c : Cause) → many ≡ true → c ≡ TooManyLines → CauseBy f v many whole c
cause_many f v true whole c is e = e
cause_many f v false whole c is e = absurd (cc)

cause_err_by : (f : Format) (v : Version) (whole : Line) (c : Cause) → whole ≡ Err c → CauseBy f v false whole c
cause_err_by f v (Ok l) c h = absurd (cc)
cause_err_by f v (Err why) c h = cc

cause_err : (f : Format) (v : Version) (many : Bool) (whole : Line) (c : Cause) → many ≡ false → whole ≡ Err c → CauseBy f v many whole c
cause_err f v true whole c few h = absurd (cc)
cause_err f v false whole c few h = cause_err_by f v whole c h

cause_bad : (f : Format) (v : Version) (many : Bool) (whole : Line) (l rest : List ℕ) (c : Cause) → many ≡ false → whole ≡ Ok (l, rest) → ¬ f.IsEnd l × SpellsNone f v l × (c ≡ BadRecord) → CauseBy f v many whole c
cause_bad f v true whole l rest c few h is = absurd (cc)
cause_bad f v false (Err why) l rest c few h is = absurd (cc)
cause_bad f v false (Ok found) l rest c few h is = let same : l ≡ found.0 = cc in rw same at is

-- whether the line of a number is one too many

pub no_bytes_many : (number : ℕ) → (nat_lt most_lines number && nat_lt 0 0) ≡ false
no_bytes_many number = grind (arith, nat_tests)

pub few_many : (number : ℕ) (bytes : List ℕ) → number ≤ most_lines → (nat_lt most_lines number && nat_lt 0 (length bytes)) ≡ false
few_many number bytes few = grind (arith, nat_tests)

pub some_many : (number : ℕ) (bytes : List ℕ) → most_lines < number → 0 < length bytes → (nat_lt most_lines number && nat_lt 0 (length bytes)) ≡ true
some_many number bytes many some = grind (arith, nat_tests)

-- the line with its first bytes kept

clear_both : (a b : List ℕ) → has_no_lf a ≡ true → has_no_lf b ≡ true → has_no_lf (a ++ b) ≡ true
clear_both a b first second = grind (arith, common_steps, lacks-append 10 a b)

pub short_both : (most : ℕ) (a b : List ℕ) → IsShort most a → has_no_lf b ≡ true → length a + length b ≤ most → IsShort most (a ++ b)
short_both most a b h clear few = record { clear = clear_both a b h.clear clear; few = omega (arith, length-append a b) }

long_whole : (most : ℕ) (bytes : List ℕ) → is_long most bytes ≡ true → whole_line most bytes ≡ Err LongLine
long_whole most bytes h = rw h refl

is_long_by : (most : ℕ) (bytes front : List ℕ) → take (most + 1) bytes ≡ front → has_no_lf front ≡ true → most < length bytes → is_long most bytes ≡ true
is_long_by most bytes front e clear many = grind (arith, nat_tests, common_steps)

pub long_both : (most : ℕ) (kept chunk : List ℕ) → IsShort most kept → has_no_lf (take (most + 1 - length kept) chunk) ≡ true → most < length kept + length chunk → is_long most (kept ++ chunk) ≡ true
long_both most kept chunk h clear many =
    let n : length kept + (most + 1 - length kept) ≡ most + 1 = omega (arith, h.few) in
    let front : take (most + 1) (kept ++ chunk) ≡ kept ++ take (most + 1 - length kept) chunk = ap (λ k. take k (kept ++ chunk)) (sym n) ∙ take-append-add kept chunk (most + 1 - length kept) in
    is_long_by most (kept ++ chunk) (kept ++ take (most + 1 - length kept) chunk) front (clear_both kept (take (most + 1 - length kept) chunk) h.clear clear) (omega (arith, length-append kept chunk))

not_long_by : (most : ℕ) (bytes : List ℕ) (long : Bool) (first : Option (List ℕ × List ℕ)) (l : List ℕ × List ℕ) → is_long most bytes ≡ long → (if long then Err LongLine else ok_or first NoEnd) ≡ Ok l → is_long most bytes ≡ false
not_long_by most bytes true first l is h = absurd (cc)
not_long_by most bytes false first l is h = is

long_parts : (most : ℕ) (bytes : List ℕ) → is_long most bytes ≡ true → (has_no_lf (take (most + 1) bytes) ≡ true) × (most < length bytes)
long_parts most bytes is = grind (arith, nat_tests, common_steps)

some_by : (first : Option (List ℕ × List ℕ)) (l rest : List ℕ) → ok_or first NoEnd ≡ Ok (l, rest) → first ≡ Some (l, rest)
some_by None l rest h = absurd (cc)
some_by (Some p) l rest h = cc

found_clear_by : (bytes l rest : List ℕ) (long : Bool) → (if long then Err LongLine else ok_or (first_line bytes) NoEnd) ≡ Ok (l, rest) → has_no_lf l ≡ true
found_clear_by bytes l rest true h = absurd (cc)
found_clear_by bytes l rest false h = (first_line_parts bytes l rest (some_by (first_line bytes) l rest h)).0

found_clear : (most : ℕ) (bytes l rest : List ℕ) → whole_line most bytes ≡ Ok (l, rest) → has_no_lf l ≡ true
found_clear most bytes l rest h = found_clear_by bytes l rest (is_long most bytes) h

-- a line that is found is short
found_few_by : (most : ℕ) (bytes l rest : List ℕ) (more : Bool) → nat_lt most (length l) ≡ more → is_long most bytes ≡ false → has_no_lf l ≡ true → bytes ≡ l ++ 10 ∷ rest → length l ≤ most
found_few_by most bytes l rest false few is clear e = grind (arith, nat_tests)
found_few_by most bytes l rest true many is clear e =
    let long : most < length l = grind (arith, nat_tests) in
    let front : take (most + 1) bytes ≡ take (most + 1) l = ap (λ b. take (most + 1) b) e ∙ take-append-le (most + 1) l (10 ∷ rest) (omega arith) in
    let is_not : is_long most bytes ≡ true = is_long_by most bytes (take (most + 1) l) front (clear_take (most + 1) l clear) (omega (arith, ap length e, length-append l (10 ∷ rest))) in
    absurd (cc)

pub found_short : (most : ℕ) (bytes l rest : List ℕ) → whole_line most bytes ≡ Ok (l, rest) → IsShort most l
found_short most bytes l rest h =
    let e : bytes ≡ l ++ 10 ∷ rest = whole_line_parts most bytes l rest h in
    let is : is_long most bytes ≡ false = not_long_by most bytes (is_long most bytes) (first_line bytes) (l, rest) refl h in
    let clear : has_no_lf l ≡ true = found_clear most bytes l rest h in
    record { clear = clear; few = found_few_by most bytes l rest (nat_lt most (length l)) refl is clear e }

-- a line and its LF at the front of the bytes
front_found : (most : ℕ) (bytes l rest : List ℕ) → whole_line most bytes ≡ Ok (l, rest) → bytes ≡ with_end l ++ rest
front_found most bytes l rest h = whole_line_parts most bytes l rest h ∙ sym (append_assoc l (10 ∷ []) rest)

pub front_of : (most : ℕ) (bytes l rest : List ℕ) → IsShort most l → bytes ≡ with_end l ++ rest → whole_line most bytes ≡ Ok (l, rest)
front_of most bytes l rest short begins = ap (whole_line most) begins ∙ whole_line-with most l rest short

-- the definition says the same

pub cause_at : (f : Format) (place : Place) (rest : List ℕ) (c : Cause) → LineCause f place rest c → CauseAt f place rest c
cause_at f Start rest c (by_cause.AfterEnd past some is) = absurd (cc)
cause_at f Start rest c (by_cause.TooManyLines free extra is) = let few : is_extra Start rest ≡ false = few_many 1 rest (omega arith) in absurd (cc)
cause_at f Start rest c (by_cause.LongLine free few long is) = start_err f (whole_line f.most rest) c (long_whole f.most rest long ∙ ap Err (sym is))
cause_at f Start rest c (by_cause.NoEnd free few short is) = start_err f (whole_line f.most rest) c (whole_short f.most rest short ∙ ap Err (sym is))
cause_at f Start rest c (by_cause.BadHeader l later at short begins none is) = start_bad f (whole_line f.most rest) l later c (front_of f.most rest l later short begins) (none, is)
cause_at f Start rest c (by_cause.BadRecord w others l later at few short begins not_end none is) = absurd (cc)
cause_at f (After v records) rest c (by_cause.AfterEnd past some is) = absurd (cc)
cause_at f (After v records) rest c (by_cause.TooManyLines free extra is) = cause_many f v (is_extra (After v records) rest) (whole_line f.most rest) c extra is
cause_at f (After v records) rest c (by_cause.LongLine free few long is) = cause_err f v (is_extra (After v records) rest) (whole_line f.most rest) c few (long_whole f.most rest long ∙ ap Err (sym is))
cause_at f (After v records) rest c (by_cause.NoEnd free few short is) = cause_err f v (is_extra (After v records) rest) (whole_line f.most rest) c few (whole_short f.most rest short ∙ ap Err (sym is))
cause_at f (After v records) rest c (by_cause.BadHeader l later at short begins none is) = absurd (cc)
cause_at f (After v records) rest c (by_cause.BadRecord w others l later at few short begins not_end none is) =
    let same : w ≡ v = cc in
    cause_bad f v (is_extra (After v records) rest) (whole_line f.most rest) l later c few (front_of f.most rest l later short begins) (not_end, subst (λ (u : Version). SpellsNone f u l) same none, is)
cause_at f (Ended v records) rest c (by_cause.AfterEnd past some is) = (some, is)
cause_at f (Ended v records) rest c (by_cause.TooManyLines free extra is) = absurd (cc)
cause_at f (Ended v records) rest c (by_cause.LongLine free few long is) = absurd (cc)
cause_at f (Ended v records) rest c (by_cause.NoEnd free few short is) = absurd (cc)
cause_at f (Ended v records) rest c (by_cause.BadHeader l later at short begins none is) = absurd (cc)
cause_at f (Ended v records) rest c (by_cause.BadRecord w others l later at few short begins not_end none is) = absurd (cc)

-- no whole line is at the front of the bytes
without_line : (f : Format) (place : Place) (rest : List ℕ) (why c : Cause) (long : Bool) (first : Option (List ℕ × List ℕ)) → is_past_end place ≡ false → is_extra place rest ≡ false → is_long f.most rest ≡ long → first_line rest ≡ first
    → (if long then Err LongLine else ok_or first NoEnd) ≡ Err why → c ≡ why → LineCause f place rest c
without_line f place rest why c true first free few is there h same = by_cause.LongLine free few is (cc)
without_line f place rest why c false (Some l) free few is there h same = absurd (cc)
without_line f place rest why c false None free few is there h same = by_cause.NoEnd free few (short_by f.most rest false None is there refl) (cc)

at_start : (f : Format) (rest : List ℕ) (whole : Line) (c : Cause) → whole_line f.most rest ≡ whole → StartBy f whole c → LineCause f Start rest c
at_start f rest (Ok l) c is h = by_cause.BadHeader l.0 l.1 refl (found_short f.most rest l.0 l.1 is) (front_found f.most rest l.0 l.1 is) h.0 h.1
at_start f rest (Err why) c is h = without_line f Start rest why c (is_long f.most rest) (first_line rest) refl (few_many 1 rest (omega arith)) refl refl is h

at_record : (f : Format) (v : Version) (records : List Record) (rest : List ℕ) (many : Bool) (whole : Line) (c : Cause) → is_extra (After v records) rest ≡ many → whole_line f.most rest ≡ whole → CauseBy f v many whole c → LineCause f (After v records) rest c
at_record f v records rest true whole c extra is h = by_cause.TooManyLines refl extra h
at_record f v records rest false (Ok l) c few is h = by_cause.BadRecord v records l.0 l.1 refl few (found_short f.most rest l.0 l.1 is) (front_found f.most rest l.0 l.1 is) h.0 h.1 h.2
at_record f v records rest false (Err why) c few is h = without_line f (After v records) rest why c (is_long f.most rest) (first_line rest) refl few refl refl is h

pub line_cause : (f : Format) (place : Place) (rest : List ℕ) (c : Cause) → CauseAt f place rest c → LineCause f place rest c
line_cause f Start rest c h = at_start f rest (whole_line f.most rest) c refl h
line_cause f (After v records) rest c h = at_record f v records rest (is_extra (After v records) rest) (whole_line f.most rest) c refl refl h
line_cause f (Ended v records) rest c h = by_cause.AfterEnd refl h.0 h.1

-- only a short line has its end missing
pub no_end_short : (f : Format) (place : Place) (rest : List ℕ) → LineCause f place rest NoEnd → IsShort f.most rest
no_end_short f place rest (by_cause.AfterEnd past some is) = absurd (cc)
no_end_short f place rest (by_cause.TooManyLines free extra is) = absurd (cc)
no_end_short f place rest (by_cause.LongLine free few long is) = absurd (cc)
no_end_short f place rest (by_cause.NoEnd free few short is) = short
no_end_short f place rest (by_cause.BadHeader l later at short begins none is) = absurd (cc)
no_end_short f place rest (by_cause.BadRecord v records l later at few short begins not_end none is) = absurd (cc)

-- with more bytes

some_more : (a b : List ℕ) → a ≢ [] → a ++ b ≢ []
some_more [] b some e = some refl
some_more (x ∷ a) b some e = absurd (cc)

long_more : (most : ℕ) (bytes more : List ℕ) → is_long most bytes ≡ true → is_long most (bytes ++ more) ≡ true
long_more most bytes more is =
    let parts : (has_no_lf (take (most + 1) bytes) ≡ true) × (most < length bytes) = long_parts most bytes is in
    let front : take (most + 1) (bytes ++ more) ≡ take (most + 1) bytes = take-append-le (most + 1) bytes more (omega (arith, parts.1)) in
    is_long_by most (bytes ++ more) (take (most + 1) bytes) front parts.0 (omega (arith, parts.1, length-append bytes more))

same_many : (first : Bool) (k m : ℕ) → 0 < k → 0 < m → (first && nat_lt 0 k) ≡ (first && nat_lt 0 m)
same_many first k m some also = grind (arith, nat_tests)

extra_more : (place : Place) (rest more : List ℕ) (extra : Bool) → 0 < length rest → is_extra place rest ≡ extra → is_extra place (rest ++ more) ≡ extra
extra_more place rest more extra some is = sym (same_many (nat_lt most_lines (line_number place)) (length rest) (length (rest ++ more)) some (omega (arith, some, length-append rest more))) ∙ is

some_extra : (first : Bool) (k : ℕ) → (first && nat_lt 0 k) ≡ true → 0 < k
some_extra true k is = grind (arith, nat_tests)
some_extra false k is = absurd (cc)

some_begun : (rest l later : List ℕ) → rest ≡ with_end l ++ later → 0 < length rest
some_begun rest l later begins = omega (arith, ap length begins, length-append (with_end l) later, length-append l (10 ∷ []))

begins_more : (rest more l later : List ℕ) → rest ≡ with_end l ++ later → rest ++ more ≡ with_end l ++ (later ++ more)
begins_more rest more l later begins = ap (λ b. b ++ more) begins ∙ append_assoc (with_end l) later more

-- a refusal other than for a missing end stays, whatever comes after
pub line_cause_more : (f : Format) (place : Place) (rest more : List ℕ) (c : Cause) → LineCause f place rest c → c ≢ NoEnd → LineCause f place (rest ++ more) c
line_cause_more f place rest more c (by_cause.AfterEnd past some is) other = by_cause.AfterEnd past (some_more rest more some) is
line_cause_more f place rest more c (by_cause.TooManyLines free extra is) other = by_cause.TooManyLines free (extra_more place rest more true (some_extra (nat_lt most_lines (line_number place)) (length rest) extra) extra) is
line_cause_more f place rest more c (by_cause.LongLine free few long is) other = by_cause.LongLine free (extra_more place rest more false (omega (arith, (long_parts f.most rest long).1)) few) (long_more f.most rest more long) is
line_cause_more f place rest more c (by_cause.NoEnd free few short is) other = absurd (other is)
line_cause_more f place rest more c (by_cause.BadHeader l later at short begins none is) other = by_cause.BadHeader l (later ++ more) at short (begins_more rest more l later begins) none is
line_cause_more f place rest more c (by_cause.BadRecord v records l later at few short begins not_end none is) other =
    by_cause.BadRecord v records l (later ++ more) at (extra_more place rest more false (some_begun rest l later begins) few) short (begins_more rest more l later begins) not_end none is
