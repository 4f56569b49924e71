-- Whole lines.
use Rattle.std.proofs.Common.{◌≡◌, ℕ, ◌+◌, ◌<◌, ◌≤◌, zero, suc, List, [], ◌∷◌, ◌++◌, length, take, drop, Bool, true, false, Option, Some, None, Ok, Err, refl, ap, sym, ◌∙◌, arith, append_assoc, length-append}
use Rattle.std.specs.Prelude.{if◌then◌else◌, Result}
use Rattle.std.specs.Option.{ok_or}
use Rattle.std.proofs.lemmas.List.{take-append-drop}
use Rattle.std.proofs.lemmas.Bool.Decides.{nat_tests}
use Rattle.std.proofs.lemmas.Grind.{common_steps}
use Rattle.er_text.specs.Bytes.{has_no_lf}
use Rattle.er_text.specs.Lines.{first_line}
use Rattle.er_text.specs.declared.causes.Cause.{Cause}
use Rattle.er_text.specs.declared.causes.Cause.TheVariants.{LongLine, NoEnd}
use Rattle.er_text.proofs.LineLaws.{first_line-at, first_line_parts}
use Rattle.er_trace.specs.Trace.{line}
use Rattle.er_lines.specs.Lines.{IsShort, is_long}

-- the whole line at the front of the bytes and the bytes after its LF, or why there is none
abbrev pub whole_line : ℕ → List ℕ → Result (List ℕ × List ℕ) Cause
whole_line most bytes = if is_long most bytes then Err LongLine else ok_or (first_line bytes) NoEnd

drop_line : (line rest : List ℕ) → drop (length line + 1) (line ++ 10 ∷ rest) ≡ rest
drop_line [] rest = refl
drop_line (b ∷ line) rest = grind (arith, common_steps, drop_line line rest)

-- a front of the bytes has the first line
front_parts : (n : ℕ) (bytes line rest : List ℕ) → first_line (take n bytes) ≡ Some (line, rest) → bytes ≡ line ++ 10 ∷ (rest ++ drop n bytes)
front_parts n bytes line rest h =
    let parts : take n bytes ≡ line ++ 10 ∷ rest = (first_line_parts (take n bytes) line rest h).1 in
    (sym (take-append-drop n bytes) ∙ ap (λ front. front ++ drop n bytes) parts) ∙ append_assoc line (10 ∷ rest) (drop n bytes)

pub front_within : (n : ℕ) (bytes line rest : List ℕ) → Some (line, rest) ≡ first_line (take n bytes) → length line + 1 ≤ length bytes
front_within n bytes line rest h =
    omega (arith, ap length (front_parts n bytes line rest (sym h)), length-append line (10 ∷ (rest ++ drop n bytes)))

pub front_line : (n : ℕ) (bytes line rest : List ℕ) → first_line (take n bytes) ≡ Some (line, rest) → first_line bytes ≡ Some (line, drop (length line + 1) bytes)
front_line n bytes line rest h =
    let parts : bytes ≡ line ++ 10 ∷ (rest ++ drop n bytes) = front_parts n bytes line rest h in
    let clear : has_no_lf line ≡ true = (first_line_parts (take n bytes) line rest h).0 in
    let there : drop (length line + 1) bytes ≡ rest ++ drop n bytes = ap (λ b. drop (length line + 1) b) parts ∙ drop_line line (rest ++ drop n bytes) in
    (ap first_line parts ∙ first_line-at line (rest ++ drop n bytes) clear) ∙ ap (λ r. Some (line, r)) (sym there)

-- a line end within the first n bytes
lf_within : (n : ℕ) (line rest : List ℕ) → length line < n → has_no_lf (take n (line ++ 10 ∷ rest)) ≡ false
lf_within zero line rest h = absurd (omega arith)
lf_within (suc n) [] rest h = refl
lf_within (suc n) (b ∷ line) rest h = grind (arith, common_steps, lf_within n line rest)

not_long : (most : ℕ) (bytes : List ℕ) → has_no_lf (take (most + 1) bytes) ≡ false → is_long most bytes ≡ false
not_long most bytes h = grind (arith, nat_tests, common_steps)

pub whole_line_short : (most : ℕ) (bytes : List ℕ) → is_long most bytes ≡ false → whole_line most bytes ≡ ok_or (first_line bytes) NoEnd
whole_line_short most bytes h = rw h refl

-- a line that is not long
pub whole_line-at : (most : ℕ) (l rest : List ℕ) → IsShort most l → whole_line most (l ++ 10 ∷ rest) ≡ Ok (l, rest)
whole_line-at most l rest short =
    whole_line_short most (l ++ 10 ∷ rest) (not_long most (l ++ 10 ∷ rest) (lf_within (most + 1) l rest (omega (arith, short.few))))
    ∙ ap (λ first. ok_or first NoEnd) (first_line-at l rest short.clear)

pub whole_line-with : (most : ℕ) (l rest : List ℕ) → IsShort most l → whole_line most (line l ++ rest) ≡ Ok (l, rest)
whole_line-with most l rest short = ap (whole_line most) (append_assoc l (10 ∷ []) rest) ∙ whole_line-at most l rest short

whole_line_parts_by : (l rest : List ℕ) (long : Bool) (first : Option (List ℕ × List ℕ))
    → (if long then Err LongLine else ok_or first NoEnd) ≡ Ok (l, rest) → first ≡ Some (l, rest)
whole_line_parts_by l rest true first h = absurd (cc)
whole_line_parts_by l rest false None h = absurd (cc)
whole_line_parts_by l rest false (Some (m, r)) h = cc

-- back from a whole line to the bytes
pub whole_line_parts : (most : ℕ) (bytes l rest : List ℕ) → whole_line most bytes ≡ Ok (l, rest) → bytes ≡ l ++ 10 ∷ rest
whole_line_parts most bytes l rest h =
    (first_line_parts bytes l rest (whole_line_parts_by l rest (is_long most bytes) (first_line bytes) h)).1
