-- The number of a line, by the LFs before it.
use Rattle.std.proofs.Common.{◌≡◌, ℕ, ◌+◌, List, [], ◌∷◌, ◌++◌, length, true, refl, ap, ◌∙◌, arith}
use Rattle.std.proofs.lemmas.Grind.{common_steps}
use Rattle.er_text.specs.Bytes.{count_of_lf, has_no_lf}
use Rattle.er_text.specs.declared.causes.Cause.TheVariants.{NoEnd}
use Rattle.er_trace.specs.declared.record.Record.{Record}
use Rattle.er_trace.specs.declared.version.Version.{Version}
use Rattle.er_trace.specs.Trace.{line}
use Rattle.er_lines.specs.Format.{Format}
use Rattle.er_lines.specs.Lines.{Place, Start, After, Ended, line_number, AreLines, AreBehind, AreBefore, Refuses}
use Rattle.er_lines.proofs.CauseLaws.{no_end_short}

count_of_both : (a b : List ℕ) → count_of_lf (a ++ b) ≡ count_of_lf a + count_of_lf b
count_of_both [] b = grind (arith, common_steps)
count_of_both (x ∷ a) b = grind (arith, common_steps, count_of_both a b)

count_of_none : (a : List ℕ) → has_no_lf a ≡ true → count_of_lf a ≡ 0
count_of_none [] clear = refl
count_of_none (x ∷ a) clear = grind (arith, common_steps, count_of_none a)

-- a line has one, at its end
count_of_line : (a : List ℕ) → has_no_lf a ≡ true → count_of_lf (line a) ≡ 1
count_of_line a clear =
    let e : count_of_lf (line a) ≡ count_of_lf a + 1 = count_of_both a (10 ∷ []) in
    let none : count_of_lf a ≡ 0 = count_of_none a clear in
    omega (arith, e, none)

count_of_lines : (f : Format) (v : Version) (bytes : List ℕ) (records : List Record) → AreLines f v bytes records → count_of_lf bytes ≡ length records
count_of_lines f v bytes [] are = ap count_of_lf are
count_of_lines f v bytes (x ∷ records) are =
    let e : count_of_lf bytes ≡ count_of_lf (line are.0) + count_of_lf are.1 = ap count_of_lf are.4 ∙ count_of_both (line are.0) are.1 in
    let one : count_of_lf (line are.0) ≡ 1 = count_of_line are.0 are.2.clear in
    let later : count_of_lf are.1 ≡ length records = count_of_lines f v are.1 records are.5 in
    omega (arith, e, one, later)

count_of_behind : (f : Format) (v : Version) (bytes : List ℕ) (records : List Record) → AreBehind f v bytes records → count_of_lf bytes ≡ length records + 1
count_of_behind f v bytes records are =
    let e : count_of_lf bytes ≡ count_of_lf (line are.first) + count_of_lf are.later = ap count_of_lf are.begins ∙ count_of_both (line are.first) are.later in
    let one : count_of_lf (line are.first) ≡ 1 = count_of_line are.first are.short.clear in
    let later : count_of_lf are.later ≡ length records = count_of_lines f v are.later records are.lines in
    omega (arith, e, one, later)

pub line_of_a_place : (f : Format) (p : Place) (bytes : List ℕ) → AreBefore f p bytes → line_number p ≡ count_of_lf bytes + 1
line_of_a_place f Start bytes are = let none : count_of_lf bytes ≡ 0 = ap count_of_lf are in omega (arith, none)
line_of_a_place f (After v records) bytes are =
    let e : count_of_lf bytes ≡ length records + 1 = count_of_behind f v bytes records are in
    omega (arith, e)
line_of_a_place f (Ended v records) bytes are =
    let e : count_of_lf bytes ≡ count_of_lf are.front + count_of_lf (line are.last) = ap count_of_lf are.begins ∙ count_of_both are.front (line are.last) in
    let before : count_of_lf are.front ≡ length records + 1 = count_of_behind f v are.front records are.behind in
    let one : count_of_lf (line are.last) ≡ 1 = count_of_line are.last are.short.clear in
    omega (arith, e, before, one)

pub line_of_no_end : (f : Format) (bytes : List ℕ) (place : Place) → Refuses f bytes place NoEnd → line_number place ≡ count_of_lf bytes + 1
line_of_no_end f bytes place h =
    let all : count_of_lf bytes ≡ count_of_lf h.before + count_of_lf h.rest = ap count_of_lf h.begins ∙ count_of_both h.before h.rest in
    let none : count_of_lf h.rest ≡ 0 = count_of_none h.rest (no_end_short f place h.rest h.cause).clear in
    omega (arith, all, none, line_of_a_place f place h.before h.are)
