-- A text has one version and one list of records.
use Rattle.std.proofs.Common.{◌≡◌, ℕ, List, [], ◌∷◌, ◌++◌, true, Option, Some, None, get_or, refl, ap, sym, ◌∙◌, append_assoc, append-nil}
use Rattle.std.specs.Prelude.{◌==◌, if◌then◌else◌}
use Rattle.std.specs.List.{AllByRecursion}
use Rattle.er_text.specs.Bytes.{has_no_lf}
use Rattle.er_text.specs.Lines.{first_line}
use Rattle.er_text.proofs.LineLaws.{first_line-at}
use Rattle.er_trace.specs.declared.record.Record.{Record}
use Rattle.er_trace.specs.declared.version.Version.{Version}
use Rattle.er_trace.specs.declared.version.Version.TheVariants.{One, Two, Three}
use Rattle.er_trace.specs.Spelling.{spelling, IsRecord}
use Rattle.er_trace.specs.Trace.{header, end_word, line, lines, text}
use Rattle.er_syntax.proofs.RecordLaws.{spelling_has_no_lf, spelling_is_no_end}
use Rattle.er_syntax.proofs.OneRecord.{one_record}

-- the first line of some bytes, and the bytes behind it

abbrev Front : Type 0
Front = Option (List ℕ × List ℕ)

abbrev a_front : List ℕ → List ℕ → Front
a_front l rest = Some (l, rest)

abbrev line_of : Front → List ℕ
line_of None = []
line_of (Some l) = l.0

abbrev rest_of : Front → List ℕ
rest_of None = []
rest_of (Some l) = l.1

front_is : (l rest : List ℕ) → has_no_lf l ≡ true → first_line (line l ++ rest) ≡ a_front l rest
front_is l rest clear = ap first_line (append_assoc l (10 ∷ []) rest) ∙ first_line-at l rest clear

-- both begin with one line
one_front : (l m a b : List ℕ) → has_no_lf l ≡ true → has_no_lf m ≡ true → line l ++ a ≡ line m ++ b → (l ≡ m) × (a ≡ b)
one_front l m a b first second e =
    let same : a_front l a ≡ a_front m b = (sym (front_is l a first) ∙ ap first_line e) ∙ front_is m b second in
    (ap line_of same, ap rest_of same)

header_is_clear : (v : Version) → has_no_lf (header v) ≡ true
header_is_clear One = refl
header_is_clear Two = refl
header_is_clear Three = refl

-- the version, by the number in the header
abbrev version_in : List ℕ → Version
version_in bytes = if get_or bytes 9 0 == 49 then One else if get_or bytes 9 0 == 50 then Two else Three

version_back : (v : Version) → version_in (header v) ≡ v
version_back One = refl
version_back Two = refl
version_back Three = refl

-- one header has one version
pub same_header : (v w : Version) → header v ≡ header w → v ≡ w
same_header v w e = sym (version_back v) ∙ (ap version_in e ∙ version_back w)

-- no record is spelled as the last line
no_record_is_end : (x : Record) (later : List ℕ) → IsRecord x → line end_word ≡ line (spelling x) ++ later → ⊥
no_record_is_end x later is e = spelling_is_no_end x is (sym (one_front end_word (spelling x) [] later refl (spelling_has_no_lf x is) (append-nil (line end_word) ∙ e)).0)

-- so both lists end at once
one_lines : (a b : List Record) → AllByRecursion IsRecord a → AllByRecursion IsRecord b → lines a ++ line end_word ≡ lines b ++ line end_word → a ≡ b
one_lines [] [] first second e = refl
one_lines [] (y ∷ b) first second e =
    absurd (no_record_is_end y (lines b ++ line end_word) second.0 (e ∙ append_assoc (line (spelling y)) (lines b) (line end_word)))
one_lines (x ∷ a) [] first second e =
    absurd (no_record_is_end x (lines a ++ line end_word) first.0 (sym e ∙ append_assoc (line (spelling x)) (lines a) (line end_word)))
one_lines (x ∷ a) (y ∷ b) first second e =
    let apart : line (spelling x) ++ (lines a ++ line end_word) ≡ line (spelling y) ++ (lines b ++ line end_word) = (sym (append_assoc (line (spelling x)) (lines a) (line end_word)) ∙ e) ∙ append_assoc (line (spelling y)) (lines b) (line end_word) in
    let front = one_front (spelling x) (spelling y) (lines a ++ line end_word) (lines b ++ line end_word) (spelling_has_no_lf x first.0) (spelling_has_no_lf y second.0) apart in
    let same : x ≡ y = one_record x y first.0 second.0 front.0 in
    let later : a ≡ b = one_lines a b first.1 second.1 front.1 in
    cc

-- one text has one version and one list of records
pub one_text : (v w : Version) (a b : List Record) → AllByRecursion IsRecord a → AllByRecursion IsRecord b → text v a ≡ text w b → (v ≡ w) × (a ≡ b)
one_text v w a b first second e =
    let apart : line (header v) ++ (lines a ++ line end_word) ≡ line (header w) ++ (lines b ++ line end_word) =
    (sym (append_assoc (line (header v)) (lines a) (line end_word)) ∙ e) ∙ append_assoc (line (header w)) (lines b) (line end_word) in
    let front = one_front (header v) (header w) (lines a ++ line end_word) (lines b ++ line end_word) (header_is_clear v) (header_is_clear w) apart in
    (same_header v w front.0, one_lines a b first second front.1)
