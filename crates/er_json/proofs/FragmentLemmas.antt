-- A group, a race and a refusal, as the parts that are written. What stands in an array or a string
-- is flattened.
use Rattle.std.proofs.Common.{◌≡◌, ℕ, ◌+◌, List, [], ◌∷◌, ◌++◌, refl, sym, ap, ◌∙◌, append_assoc, codes, decimal}
use Rattle.std.specs.Prelude.{nat_lt}
use Rattle.json.specs.Print.{escape, escape_byte, quoted}
use Rattle.serde_json.specs.Written.{comma_if, compact_text}
use Rattle.er_text.specs.Cause.{cause_name}
use Rattle.er_text.specs.declared.causes.Cause.{Cause}
use Rattle.er_text.specs.declared.causes.Cause.TheVariants.{BadHeader, LongLine, BadRecord, NoEnd, AfterEnd, TooManyLines, Unknown, Again, NotScript, Misplaced, OutOfOrder, TooManyActions, TooDeep, TooManyAccesses, TooManyPairs, TooManyRaces, TooManyClasses, NoRace, NoAction}
use Rattle.er_trace.specs.Spelling.{mode_word, loc_spelling}
use Rattle.er_trace.specs.declared.record.Loc.{Loc}
use Rattle.er_trace.specs.declared.record.Mode.{Mode}
use Rattle.er_trace.specs.declared.record.Mode.TheVariants.{R, W}
use Rattle.er_access.specs.declared.access.Access.{Access}
use Rattle.er_report.specs.Fragments.{both_at}
use Rattle.er_json.specs.Json.{two, refusal}
use Rattle.er_json.specs.Parts.{location_letters}
use Rattle.er_json.specs.Fragments.{group_item, race_item}

pub group_parts : (k r n : ℕ) (comma : List ℕ) → comma ≡ comma_if (nat_lt 1 k)
    → group_item k (r, n) ≡ comma ++ (codes "{\"race\":" ++ (decimal (r + 1) ++ (codes ",\"size\":" ++ (decimal n ++ codes "}"))))
unfolding group_item escape_byte
group_parts k r n comma is = ap (λ l. l ++ (codes "{\"race\":" ++ (decimal (r + 1) ++ (codes ",\"size\":" ++ (decimal n ++ codes "}"))))) (sym is)

two_text : ℕ → ℕ → List ℕ
two_text m n = compact_text (two m n)

two_before : (m n : ℕ) (rest : List ℕ) → two_text m n ++ rest ≡ codes "[" ++ (decimal m ++ (codes "," ++ (decimal n ++ (codes "]" ++ rest))))
unfolding two_text
two_before m n rest = ap (λ l. 91 ∷ l) (append_assoc (decimal m) (44 ∷ (decimal n ++ 93 ∷ [])) rest ∙ ap (λ l. decimal m ++ 44 ∷ l) (append_assoc (decimal n) (93 ∷ []) rest))

string_text : List ℕ → List ℕ
string_text s = quoted s

string_before : (s text rest : List ℕ) → escape s ≡ text → string_text s ++ rest ≡ codes "\"" ++ (text ++ (codes "\"" ++ rest))
unfolding string_text
string_before s text rest same = ap (λ l. 34 ∷ l) (append_assoc (escape s) (34 ∷ []) rest ∙ ap (λ l. l ++ 34 ∷ rest) same)

modes_plain : (m n : Mode) → escape (mode_word m ++ mode_word n) ≡ mode_word m ++ mode_word n
unfolding escape_byte
modes_plain R R = refl
modes_plain R W = refl
modes_plain W R = refl
modes_plain W W = refl

race_as_value : (k g : ℕ) (x y : Access) (l : Loc) → race_item k (both_at x y l, g) ≡ comma_if (nat_lt 1 k)
    ++ (codes "{\"actions\":" ++ (two_text x.action y.action ++ (codes ",\"group\":" ++ (decimal (g + 1) ++ (codes ",\"lines\":" ++ (two_text x.line y.line
    ++ (codes ",\"location\":" ++ (string_text (loc_spelling l) ++ (codes ",\"modes\":" ++ (string_text (mode_word x.mode ++ mode_word y.mode) ++ codes "}"))))))))))
unfolding race_item two_text string_text escape_byte
race_as_value k g x y l = refl

pub race_parts : (k g : ℕ) (x y : Access) (l : Loc) (comma first second : List ℕ) → comma ≡ comma_if (nat_lt 1 k) → first ≡ mode_word x.mode → second ≡ mode_word y.mode → race_item k (both_at x y l, g) ≡ comma
    ++ (codes "{\"actions\":[" ++ (decimal x.action ++ (codes "," ++ (decimal y.action ++ (codes "],\"group\":" ++ (decimal (g + 1)
    ++ (codes ",\"lines\":[" ++ (decimal x.line ++ (codes "," ++ (decimal y.line ++ (codes "],\"location\":\"" ++ (location_letters l
    ++ (codes "\",\"modes\":\"" ++ (first ++ (second ++ codes "\"}")))))))))))))))
unfolding location_letters
race_parts k g x y l comma first second is one two =
    let modes = mode_word x.mode ++ mode_word y.mode in
    let last = string_before modes modes (codes "}") (modes_plain x.mode y.mode) ∙ ap (λ e. codes "\"" ++ e) (append_assoc (mode_word x.mode) (mode_word y.mode) (codes "\"}")) in
    let located = ap (λ e. string_text (loc_spelling l) ++ (codes ",\"modes\":" ++ e)) last ∙ string_before (loc_spelling l) (escape (loc_spelling l)) _ refl in
    let lines = ap (λ e. two_text x.line y.line ++ (codes ",\"location\":" ++ e)) located ∙ two_before x.line y.line _ in
    let actions = ap (λ e. two_text x.action y.action ++ (codes ",\"group\":" ++ (decimal (g + 1) ++ (codes ",\"lines\":" ++ e)))) lines ∙ two_before x.action y.action _ in
    rw (is, one, two) (race_as_value k g x y l ∙ ap (λ e. comma_if (nat_lt 1 k) ++ (codes "{\"actions\":" ++ e)) actions)

cause_plain : (c : Cause) → escape (cause_name c) ≡ cause_name c
unfolding escape_byte
cause_plain BadHeader = refl
cause_plain LongLine = refl
cause_plain BadRecord = refl
cause_plain NoEnd = refl
cause_plain AfterEnd = refl
cause_plain TooManyLines = refl
cause_plain Unknown = refl
cause_plain Again = refl
cause_plain NotScript = refl
cause_plain Misplaced = refl
cause_plain OutOfOrder = refl
cause_plain TooManyActions = refl
cause_plain TooDeep = refl
cause_plain TooManyAccesses = refl
cause_plain TooManyPairs = refl
cause_plain TooManyRaces = refl
cause_plain TooManyClasses = refl
cause_plain NoRace = refl
cause_plain NoAction = refl

refusal_as_value : (n : ℕ) (c : Cause) → refusal n c ≡ codes "{\"refused\":{\"cause\":" ++ (((string_text (cause_name c) ++ (codes ",\"line\":" ++ (decimal n ++ codes "}"))) ++ codes "}") ++ codes "\n")
unfolding refusal string_text escape_byte
refusal_as_value n c = refl

pub refusal_parts : (n : ℕ) (c : Cause) (name : List ℕ) → name ≡ cause_name c → refusal n c ≡ codes "{\"refused\":{\"cause\":\"" ++ (name ++ (codes "\",\"line\":" ++ (decimal n ++ codes "}}\n")))
refusal_parts n c name is =
    rw is (refusal_as_value n c ∙ ap (λ e. codes "{\"refused\":{\"cause\":" ++ e) (in_order (string_text (cause_name c)) (codes ",\"line\":") (decimal n) (codes "}") (codes "}") (codes "\n") ∙ string_before (cause_name c) (cause_name c) _ (cause_plain c)))
  where
    in_order : (a b c d e f : List ℕ) → ((a ++ (b ++ (c ++ d))) ++ e) ++ f ≡ a ++ (b ++ (c ++ (d ++ (e ++ f))))
    in_order a b c d e f = simp append_assoc
