-- The fragments make the line of the report.
use Rattle.std.proofs.Common.{◌≡◌, ℕ, zero, suc, ◌+◌, ◌≤◌, true, List, [], ◌∷◌, ◌++◌, map, length, refl, sym, ap, ◌∙◌, arith, append_assoc, codes, decimal, Some}
use Rattle.std.specs.Prelude.{nat_lt}
use Rattle.std.specs.Fmt.{digits}
use Rattle.std.specs.List.{slice_get, zip}
use Rattle.std.proofs.lemmas.Grind.{common_steps}
use Rattle.std.proofs.lemmas.Bool.Decides.{nat_tests}
use Rattle.std.proofs.lemmas.Slice.Zip.{length-zip}
use Rattle.json.specs.Print.{escape_byte}
use Rattle.serde_json.specs.Data.{Data}
use Rattle.serde_json.specs.View.{items_of}
use Rattle.serde_json.specs.Written.{comma_if, compact_text, items_text}
use Rattle.er_paths.specs.Paths.{joins}
use Rattle.er_clocks.specs.Clock.{StandsFor}
use Rattle.er_access.specs.Kept.{Kept}
use Rattle.er_races.specs.Races.{races_by}
use Rattle.er_cover.specs.Groups.{Grouping, grouping_of}
use Rattle.er_syntax.specs.Lines.{lines_from}
use Rattle.er_report.specs.declared.counts.Counts.{Counts}
use Rattle.er_report.specs.Report.{counts}
use Rattle.er_report.proofs.CountLemmas.{paths_told}
use Rattle.er_json.specs.Json.{json_line, values_of, race_value, group_value, value_of, report_value, report}
use Rattle.er_json.specs.Fragments.{item_text, before_groups, group_item, group_items, before_races, race_item, race_items, after_races, fragments_of}

-- the members of an array from number k on, and the bracket behind them
items_from : {A : Type 0} (f : A → Data) (k : ℕ) (xs : List A) → 1 ≤ k → items_text (nat_lt 1 k) (items_of (map f xs)) ≡ lines_from (λ j x. item_text j (f x)) k xs ++ 93 ∷ []
items_from f k [] least = refl
items_from f k (x ∷ xs) least =
    let more : nat_lt 1 (k + 1) ≡ true = grind (arith, nat_tests) in
    let later = rw more at (items_from f (k + 1) xs (omega (arith, least))) in
    ap (λ l. comma_if (nat_lt 1 k) ++ (compact_text (f x) ++ l)) later ∙ simp append_assoc

-- an array inside the report
array_text : {A : Type 0} → (A → Data) → List A → List ℕ
array_text f xs = compact_text (values_of f xs)

array_parts : {A : Type 0} (f : A → Data) (xs : List A) → array_text f xs ≡ 91 ∷ (lines_from (λ k x. item_text k (f x)) 1 xs ++ 93 ∷ [])
unfolding array_text
array_parts f xs = ap (λ l. 91 ∷ l) (items_from f 1 xs (omega arith))

line_as_value : (races : List (Kept × Kept)) (groups : Grouping) (c : Counts) → json_line (value_of races groups c) ≡
    (codes "{\"accesses\":" ++ (decimal c.accesses ++ (codes ",\"actions\":" ++ (decimal c.actions ++ (codes ",\"chains\":" ++ (decimal c.chains
    ++ (codes ",\"groups\":" ++ (array_text group_value (zip groups.representatives groups.sizes) ++ (codes ",\"links\":" ++ (decimal c.links ++ (codes ",\"pairs\":" ++ (decimal c.pairs
    ++ (codes ",\"races\":" ++ (array_text race_value (zip races groups.names) ++ codes ",\"version\":1}")))))))))))))) ++ codes "\n"
unfolding array_text escape_byte digits
line_as_value races groups c = refl

-- the same, cut before and behind the two arrays
in_fragments : (p1 a p2 b p3 c p4 groups p5 d p6 e p7 races p8 end start stop : List ℕ)
    → (p1 ++ (a ++ (p2 ++ (b ++ (p3 ++ (c ++ (p4 ++ ((start ++ (groups ++ stop)) ++ (p5 ++ (d ++ (p6 ++ (e ++ (p7 ++ ((start ++ (races ++ stop)) ++ p8)))))))))))))) ++ end
    ≡ (p1 ++ (a ++ (p2 ++ (b ++ (p3 ++ (c ++ (p4 ++ start))))))) ++ groups ++ (stop ++ (p5 ++ (d ++ (p6 ++ (e ++ (p7 ++ start)))))) ++ races ++ (stop ++ (p8 ++ end))
in_fragments p1 a p2 b p3 c p4 groups p5 d p6 e p7 races p8 end start stop = simp append_assoc

report_fragments : (races : List (Kept × Kept)) (groups : Grouping) (c : Counts) → json_line (value_of races groups c) ≡ fragments_of races groups c
unfolding before_groups group_item before_races race_item after_races
report_fragments races groups c =
    rw (line_as_value races groups c, array_parts group_value (zip groups.representatives groups.sizes), array_parts race_value (zip races groups.names))
    (in_fragments (codes "{\"accesses\":") (decimal c.accesses) (codes ",\"actions\":") (decimal c.actions) (codes ",\"chains\":") (decimal c.chains) (codes ",\"groups\":") (group_items groups)
    (codes ",\"links\":") (decimal c.links) (codes ",\"pairs\":") (decimal c.pairs) (codes ",\"races\":") (race_items races groups) (codes ",\"version\":1}") (codes "\n") (codes "[") (codes "]"))

-- the value of what is told, whatever list the clocks stand for, and its line
value_told : (kept lists : List (List ℕ)) (accesses : List Kept) (groups : Grouping) (c : Counts) → StandsFor kept lists → groups ≡ grouping_of (joins kept) accesses → c ≡ counts lists accesses
    → value_of (races_by (joins kept) accesses) groups c ≡ report_value lists accesses
value_told kept lists accesses groups c stands is counted = rw (is, counted, paths_told kept lists stands) refl

pub line_told : (kept lists : List (List ℕ)) (accesses : List Kept) (groups : Grouping) (c : Counts) → StandsFor kept lists → groups ≡ grouping_of (joins kept) accesses → c ≡ counts lists accesses
    → fragments_of (races_by (joins kept) accesses) groups c ≡ report lists accesses
unfolding report
line_told kept lists accesses groups c stands is counted = sym (report_fragments (races_by (joins kept) accesses) groups c) ∙ ap json_line (value_told kept lists accesses groups c stands is counted)

-- the members of two lists at a place
pub zip_at : {A B : Type 0} (xs : List A) (ys : List B) (i : ℕ) (x : A) (y : B) → slice_get xs i ≡ Some x → slice_get ys i ≡ Some y → slice_get (zip xs ys) i ≡ Some (x, y)
zip_at [] ys i x y first second = cc
zip_at (a ∷ xs) [] i x y first second = cc
zip_at (a ∷ xs) (b ∷ ys) zero x y first second = grind (arith, common_steps)
zip_at (a ∷ xs) (b ∷ ys) (suc i) x y first second = grind (arith, common_steps, zip_at xs ys i x y first second)

pub no_longer : {A B : Type 0} (xs : List A) (ys : List B) → length (zip xs ys) ≤ length ys
no_longer xs ys = grind (arith, common_steps, length-zip)
