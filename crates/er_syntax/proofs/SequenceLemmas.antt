-- Lines of a list, and texts, one behind the other.
use Rattle.std.proofs.Common.{◌≡◌, ℕ, zero, suc, ◌+◌, ◌≤◌, List, [], ◌∷◌, ◌++◌, length, take, drop, ap, append_assoc, arith, Option, Some}
use Rattle.std.specs.List.{slice_get}
use Rattle.std.proofs.lemmas.Grind.{common_steps}
use Rattle.std.proofs.lemmas.List.{take_all}
use Rattle.er_io.specs.Ends.{GetsPart}
use Rattle.er_io.proofs.Puts.{gets_part_first}
use Rattle.er_syntax.specs.Buffered.{HoldsRest}
use Rattle.er_syntax.specs.Lines.{lines_from}
use Rattle.er_syntax.proofs.BufferedLemmas.{holds_more, part_more}

-- the lines up to a place, and those from it on
pub lines_split : {A : Type 0} (f : ℕ → A → List ℕ) (k : ℕ) (xs : List A) (i : ℕ) → lines_from f k xs ≡ lines_from f k (take i xs) ++ lines_from f (k + i) (drop i xs)
lines_split f k [] i = grind (arith, common_steps)
lines_split f k (x ∷ xs) zero = grind (arith, common_steps)
lines_split f k (x ∷ xs) (suc i) = grind (arith, common_steps, lines_split f (k + 1) xs i)

-- one line more
pub lines_more : {A : Type 0} (f : ℕ → A → List ℕ) (k : ℕ) (xs : List A) (i : ℕ) (x : A) → slice_get xs i ≡ Some x → lines_from f k (take (i + 1) xs) ≡ lines_from f k (take i xs) ++ f (k + i) x
lines_more f k [] i x here = cc
lines_more f k (y ∷ xs) zero x here = grind (arith, common_steps)
lines_more f k (y ∷ xs) (suc i) x here = grind (arith, common_steps, lines_more f (k + 1) xs i x here)

-- the line of the member at a place came, or is held
pub line_held : {A : Type 0} (f : ℕ → A → List ℕ) (xs : List A) (i : ℕ) (x : A) (old mid new : Option (List ℕ)) (before held last : List ℕ) → slice_get xs i ≡ Some x
    → HoldsRest old (before ++ lines_from f 1 (take i xs)) mid held → HoldsRest mid (held ++ f (i + 1) x) new last → HoldsRest old (before ++ lines_from f 1 (take (i + 1) xs)) new last
line_held f xs i x old mid new before held last here so_far came =
    let n : i + 1 ≡ 1 + i = omega arith in
    rw (lines_more f 1 xs i x here) (holds_more old mid new before _ _ held last so_far (rw n at came))

-- a part of a front is a part of the whole
pub part_first : (old new : Option (List ℕ)) (before a b : List ℕ) → GetsPart old (before ++ a) new → GetsPart old (before ++ (a ++ b)) new
part_first old new before a b part =
    let all : GetsPart old ((before ++ a) ++ b) new = gets_part_first old new (before ++ a) b part in
    rw (append_assoc before a b) at all

-- a part of the line of the member at a place is a part of all lines
pub line_part : {A : Type 0} (f : ℕ → A → List ℕ) (xs : List A) (i : ℕ) (x : A) (old mid new : Option (List ℕ)) (before held : List ℕ) → slice_get xs i ≡ Some x
    → HoldsRest old (before ++ lines_from f 1 (take i xs)) mid held → GetsPart mid (held ++ f (i + 1) x) new → GetsPart old (before ++ lines_from f 1 xs) new
line_part f xs i x old mid new before held here so_far came =
    let n : i + 1 ≡ 1 + i = omega arith in
    let line : GetsPart old (before ++ lines_from f 1 (take (i + 1) xs)) new = rw (lines_more f 1 xs i x here) (part_more old mid new before _ _ held so_far (rw n at came)) in
    rw (lines_split f 1 xs (i + 1)) (part_first old new before (lines_from f 1 (take (i + 1) xs)) (lines_from f (1 + (i + 1)) (drop (i + 1) xs)) line)

-- the lines of all members
pub all_lines : {A : Type 0} (f : ℕ → A → List ℕ) (xs : List A) (i : ℕ) → length xs ≤ i → lines_from f 1 (take i xs) ≡ lines_from f 1 xs
all_lines f xs i past = ap (lines_from f 1) (take_all i xs past)

-- five texts one after another: all of them, or a part of one behind those before it
pub five_held : (s0 s1 s2 s3 s4 s5 : Option (List ℕ)) (before h1 h2 h3 h4 h5 a b c d e : List ℕ) → HoldsRest s0 (before ++ a) s1 h1 → HoldsRest s1 (h1 ++ b) s2 h2
    → HoldsRest s2 (h2 ++ c) s3 h3 → HoldsRest s3 (h3 ++ d) s4 h4 → HoldsRest s4 (h4 ++ e) s5 h5 → HoldsRest s0 (before ++ (a ++ b ++ c ++ d ++ e)) s5 h5
five_held s0 s1 s2 s3 s4 s5 before h1 h2 h3 h4 h5 a b c d e one two three four five =
    let first = holds_more s0 s1 s2 before a b h1 h2 one two in
    let second = holds_more s0 s2 s3 before (a ++ b) c h2 h3 first three in
    let third = holds_more s0 s3 s4 before (a ++ b ++ c) d h3 h4 second four in
    holds_more s0 s4 s5 before (a ++ b ++ c ++ d) e h4 h5 third five

pub second_part : (s0 s1 new : Option (List ℕ)) (before h1 a b c d e : List ℕ) → before ≡ [] → HoldsRest s0 (before ++ a) s1 h1 → GetsPart s1 (h1 ++ b) new → GetsPart s0 (a ++ b ++ c ++ d ++ e) new
second_part s0 s1 new before h1 a b c d e empty one part =
    let here = part_more s0 s1 new before a b h1 one part in
    let all = part_first s0 new before (a ++ b ++ c ++ d) e (part_first s0 new before (a ++ b ++ c) d (part_first s0 new before (a ++ b) c here)) in
    rw empty at all

pub third_part : (s0 s1 s2 new : Option (List ℕ)) (before h1 h2 a b c d e : List ℕ) → before ≡ [] → HoldsRest s0 (before ++ a) s1 h1 → HoldsRest s1 (h1 ++ b) s2 h2
    → GetsPart s2 (h2 ++ c) new → GetsPart s0 (a ++ b ++ c ++ d ++ e) new
third_part s0 s1 s2 new before h1 h2 a b c d e empty one two part =
    let first = holds_more s0 s1 s2 before a b h1 h2 one two in
    let here = part_more s0 s2 new before (a ++ b) c h2 first part in
    let all = part_first s0 new before (a ++ b ++ c ++ d) e (part_first s0 new before (a ++ b ++ c) d here) in
    rw empty at all

pub fourth_part : (s0 s1 s2 s3 new : Option (List ℕ)) (before h1 h2 h3 a b c d e : List ℕ) → before ≡ [] → HoldsRest s0 (before ++ a) s1 h1 → HoldsRest s1 (h1 ++ b) s2 h2
    → HoldsRest s2 (h2 ++ c) s3 h3 → GetsPart s3 (h3 ++ d) new → GetsPart s0 (a ++ b ++ c ++ d ++ e) new
fourth_part s0 s1 s2 s3 new before h1 h2 h3 a b c d e empty one two three part =
    let first = holds_more s0 s1 s2 before a b h1 h2 one two in
    let second = holds_more s0 s2 s3 before (a ++ b) c h2 h3 first three in
    let here = part_more s0 s3 new before (a ++ b ++ c) d h3 second part in
    let all = part_first s0 new before (a ++ b ++ c ++ d) e here in
    rw empty at all

pub fifth_part : (s0 s1 s2 s3 s4 new : Option (List ℕ)) (before h1 h2 h3 h4 a b c d e : List ℕ) → before ≡ [] → HoldsRest s0 (before ++ a) s1 h1 → HoldsRest s1 (h1 ++ b) s2 h2
    → HoldsRest s2 (h2 ++ c) s3 h3 → HoldsRest s3 (h3 ++ d) s4 h4 → GetsPart s4 (h4 ++ e) new → GetsPart s0 (a ++ b ++ c ++ d ++ e) new
fifth_part s0 s1 s2 s3 s4 new before h1 h2 h3 h4 a b c d e empty one two three four part =
    let first = holds_more s0 s1 s2 before a b h1 h2 one two in
    let second = holds_more s0 s2 s3 before (a ++ b) c h2 h3 first three in
    let third = holds_more s0 s3 s4 before (a ++ b ++ c) d h3 h4 second four in
    let all = part_more s0 s4 new before (a ++ b ++ c ++ d) e h4 third part in
    rw empty at all

-- three texts, likewise
pub three_held : (s0 s1 s2 s3 : Option (List ℕ)) (before h1 h2 h3 a b c : List ℕ) → HoldsRest s0 (before ++ a) s1 h1 → HoldsRest s1 (h1 ++ b) s2 h2 → HoldsRest s2 (h2 ++ c) s3 h3 → HoldsRest s0 (before ++ (a ++ b ++ c)) s3 h3
three_held s0 s1 s2 s3 before h1 h2 h3 a b c one two three =
    let first = holds_more s0 s1 s2 before a b h1 h2 one two in
    holds_more s0 s2 s3 before (a ++ b) c h2 h3 first three

pub second_of_three : (s0 s1 new : Option (List ℕ)) (before h1 a b c : List ℕ) → before ≡ [] → HoldsRest s0 (before ++ a) s1 h1 → GetsPart s1 (h1 ++ b) new → GetsPart s0 (a ++ b ++ c) new
second_of_three s0 s1 new before h1 a b c empty one part =
    let all = part_first s0 new before (a ++ b) c (part_more s0 s1 new before a b h1 one part) in
    rw empty at all

pub third_of_three : (s0 s1 s2 new : Option (List ℕ)) (before h1 h2 a b c : List ℕ) → before ≡ [] → HoldsRest s0 (before ++ a) s1 h1 → HoldsRest s1 (h1 ++ b) s2 h2 → GetsPart s2 (h2 ++ c) new → GetsPart s0 (a ++ b ++ c) new
third_of_three s0 s1 s2 new before h1 h2 a b c empty one two part =
    let first = holds_more s0 s1 s2 before a b h1 h2 one two in
    let all = part_more s0 s2 new before (a ++ b) c h2 first part in
    rw empty at all
