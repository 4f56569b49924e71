-- The text of items whose strings need no escape is read as the items.
use Rattle.std.proofs.Common.{◌≡◌, ℕ, ◌+◌, ◌<◌, ◌≤◌, ◌^◌, List, [], ◌∷◌, ◌++◌, length, map, Bool, true, false, not, ◌&&◌, Option, Some, inl, refl, sym, ap, ap₂, ◌∙◌, subst, arith, lit<, append_assoc, append-nil, length-append}
use Rattle.std.specs.Prelude.{decimal, codes, ◌==◌, IsAscii, option_map, option_and_then}
use Rattle.std.specs.List.{AllByRecursion, list_all}
use Rattle.std.proofs.lemmas.Bool.{and_parts, false≢true}
use Rattle.std.proofs.lemmas.Bool.Decides.{nat_tests}
use Rattle.std.proofs.lemmas.Fmt.{IsAscii-decimal, length-decimal-le}
use Rattle.std.proofs.lemmas.Str.{IsAscii-append, IsUtf8-from_ascii}
use Rattle.std.proofs.lemmas.Str.Ascii.{IsAscii-nil, IsAscii-cons}
use Rattle.json.specs.Ascii.{quote, comma, open_bracket, close_bracket}
use Rattle.json.specs.Token.{Token}
use Rattle.json.specs.Lex.{tokens}
use Rattle.json.specs.Print.{escape, escape_byte, quoted, ArePrintable}
use Rattle.json.specs.Json as json
use Rattle.json.specs.Tree as tree
use Rattle.json.specs.Spaced.{IsGap, AreGaps, print_spaced}
use Rattle.json.proofs.Printed.Strings.{escape_byte_plain}
use Rattle.json.proofs.Printed.Decimals.{IsNumber-decimal}
use Rattle.json.proofs.Printed.Tokens.{tokens-print_spaced}
use Rattle.json.proofs.Printed.Trees.{value-json_tokens, ArePrintable-json_tokens}
use Rattle.serde_json.specs.Data.{unsigned, Data, number, string, array, Items, item}
use Rattle.serde_json.specs.Read.{of_json, of_items, max_depth, read}
use Rattle.serde_json.specs.View.{items_of}
use Rattle.serde_json.specs.Written.{outline, items_outline}
use Rattle.serde_json.proofs.Numbers.{number_of-decimal}
use Rattle.er_text.specs.Bytes.{line_end, lacks}
use Rattle.er_text.proofs.ByteLaws.{lacks-append}
use Rattle.er_text.proofs.NumberLaws.{lacks-decimal}
use Rattle.er_trace.specs.declared.record.Record.TheVariants.{Access}
use Rattle.er_trace.specs.declared.record.Mode.{Mode}
use Rattle.er_trace.specs.declared.record.Mode.TheVariants as modes
use Rattle.er_trace.specs.declared.record.Loc.{Loc}
use Rattle.er_trace.specs.declared.record.Loc.TheVariants.{Var, Elem, Slot}
use Rattle.er_trace.specs.Items.{Item, Word, Number, Named, IsItem}
use Rattle.er_trace.specs.Spelling.{mode_word, loc_items, record_items}
use Rattle.er_lines.specs.Steps.{IsFront}
use Rattle.er_lines.specs.json_line.Members.{IsMember, AreMembers, SpellsItems, Spells}
use Rattle.er_lines.specs.json_line.Plain.{needs_no_escape, string_text, gap, item_text, later_text, plain_text, is_plain_item, ArePlain, most_plain_bytes}

-- bytes that need no escape

at_most : (b : ℕ) → needs_no_escape b ≡ true → b ≤ 126
at_most b h = grind (arith, nat_tests)

at_least : (b : ℕ) → needs_no_escape b ≡ true → 32 ≤ b
at_least b h = grind (arith, nat_tests)

no_quote : (b : ℕ) → needs_no_escape b ≡ true → b ≡ 34 → ⊥
no_quote b h e = false≢true (subst (λ (x : ℕ). needs_no_escape x ≡ true) e h)

no_backslash : (b : ℕ) → needs_no_escape b ≡ true → b ≡ 92 → ⊥
no_backslash b h e = false≢true (subst (λ (x : ℕ). needs_no_escape x ≡ true) e h)

no_line_end : (b : ℕ) → needs_no_escape b ≡ true → not (b == line_end) ≡ true
no_line_end b h = grind (arith, nat_tests)

escaped : (s : List ℕ) → list_all needs_no_escape s ≡ true → escape s ≡ s
escaped [] h = refl
escaped (b ∷ s) h =
    let p = and_parts (needs_no_escape b) (list_all needs_no_escape s) h in
    let one : escape_byte b ≡ b ∷ [] = escape_byte_plain b (no_quote b p.0) (no_backslash b p.0) (at_least b p.0) in
    ap₂ (λ (x y : List ℕ). x ++ y) one (escaped s p.1)

escaped_string : (s : List ℕ) → list_all needs_no_escape s ≡ true → quoted s ≡ string_text s
escaped_string s h = ap (λ (l : List ℕ). quote ∷ (l ++ quote ∷ [])) (escaped s h)

-- the items as a value of JSON

abbrev item_data : Item → Data
item_data (Word word) = string word
item_data (Number n) = number (unsigned n)
item_data (Named name) = string name

abbrev data_of : List Item → Data
data_of items = array (items_of (map item_data items))

abbrev json_of : List Item → json.Items
json_of items = items_outline (items_of (map item_data items))

-- the tokens of the text, each with the gap before it

abbrev item_token : Item → Token
item_token (Word word) = Token.string word
item_token (Number n) = Token.number (decimal n)
item_token (Named name) = Token.string name

abbrev later_chunks : Bool → List Item → List (List ℕ × Token)
later_chunks spaced [] = ([], Token.end_array) ∷ []
later_chunks spaced (i ∷ items) = (gap spaced, item_token i) ∷ later_chunks spaced items

abbrev chunks : Bool → List Item → List (List ℕ × Token)
chunks spaced [] = ([], Token.begin_array) ∷ ([], Token.end_array) ∷ []
chunks spaced (i ∷ items) = ([], Token.begin_array) ∷ ([], item_token i) ∷ later_chunks spaced items

later_printed : (spaced : Bool) (items : List Item) → list_all is_plain_item items ≡ true → print_spaced true (later_chunks spaced items) ≡ later_text spaced items
unfolding print_spaced
later_printed spaced [] h = refl
later_printed spaced (Word word ∷ items) h =
    let p = and_parts (list_all needs_no_escape word) (list_all is_plain_item items) h in
    ap₂ (λ (x y : List ℕ). comma ∷ (gap spaced ++ (x ++ y))) (escaped_string word p.0) (later_printed spaced items p.1)
later_printed spaced (Number n ∷ items) h = ap (λ (y : List ℕ). comma ∷ (gap spaced ++ (decimal n ++ y))) (later_printed spaced items h)
later_printed spaced (Named name ∷ items) h =
    let p = and_parts (list_all needs_no_escape name) (list_all is_plain_item items) h in
    ap₂ (λ (x y : List ℕ). comma ∷ (gap spaced ++ (x ++ y))) (escaped_string name p.0) (later_printed spaced items p.1)

printed : (spaced : Bool) (items : List Item) → list_all is_plain_item items ≡ true → print_spaced false (chunks spaced items) ≡ plain_text spaced items
unfolding print_spaced
printed spaced [] h = refl
printed spaced (Word word ∷ items) h =
    let p = and_parts (list_all needs_no_escape word) (list_all is_plain_item items) h in
    ap₂ (λ (x y : List ℕ). open_bracket ∷ (x ++ y)) (escaped_string word p.0) (later_printed spaced items p.1)
printed spaced (Number n ∷ items) h = ap (λ (y : List ℕ). open_bracket ∷ (decimal n ++ y)) (later_printed spaced items h)
printed spaced (Named name ∷ items) h =
    let p = and_parts (list_all needs_no_escape name) (list_all is_plain_item items) h in
    ap₂ (λ (x y : List ℕ). open_bracket ∷ (x ++ y)) (escaped_string name p.0) (later_printed spaced items p.1)

-- an item is one token
one_token : (i : Item) → tree.json_tokens (outline (item_data i)) ≡ item_token i ∷ []
one_token (Word word) = refl
one_token (Number n) = refl
one_token (Named name) = refl

later_tokens : (spaced : Bool) (items : List Item) → map (λ p. p.1) (later_chunks spaced items) ≡ tree.items_tokens (json_of items)
later_tokens spaced [] = refl
later_tokens spaced (i ∷ items) = ap₂ (λ (x y : List Token). x ++ y) (sym (one_token i)) (later_tokens spaced items)

all_tokens : (spaced : Bool) (items : List Item) → map (λ p. p.1) (chunks spaced items) ≡ tree.json_tokens (outline (data_of items))
all_tokens spaced [] = refl
all_tokens spaced (i ∷ items) = ap (λ (ts : List Token). Token.begin_array ∷ ts) (later_tokens spaced (i ∷ items))

is_gap : (spaced : Bool) → IsGap (gap spaced)
is_gap true = (inl refl, tt)
is_gap false = tt

later_gaps : (spaced : Bool) (items : List Item) → AreGaps (later_chunks spaced items)
later_gaps spaced [] = (tt, tt)
later_gaps spaced (i ∷ items) = (is_gap spaced, later_gaps spaced items)

all_gaps : (spaced : Bool) (items : List Item) → AreGaps (chunks spaced items)
all_gaps spaced [] = (tt, (tt, tt))
all_gaps spaced (i ∷ items) = (tt, (tt, later_gaps spaced items))

-- the tokens are read as the items

item_number : (i : Item) → IsItem i → tree.HasNumbers (outline (item_data i))
item_number (Word word) is = tt
item_number (Number n) is = IsNumber-decimal n (omega (arith, is))
item_number (Named name) is = tt

numbers : (items : List Item) → AllByRecursion IsItem items → tree.ItemsHaveNumbers (json_of items)
numbers [] each = tt
numbers (i ∷ items) each = (item_number i each.0, numbers items each.1)

flat_item : (i : Item) → tree.depth (outline (item_data i)) ≡ 0
flat_item (Word word) = refl
flat_item (Number n) = refl
flat_item (Named name) = refl

flat : (items : List Item) → tree.items_depth (json_of items) ≤ 0
flat [] = omega arith
flat (i ∷ items) = omega (arith, flat_item i, flat items)

item_back : (i : Item) → IsItem i → of_json (outline (item_data i)) ≡ Some (item_data i)
item_back (Word word) is = refl
item_back (Number n) is = ap (option_map number) (number_of-decimal n (omega (arith, is)))
item_back (Named name) is = refl

items_back : (items : List Item) → AllByRecursion IsItem items → of_items (json_of items) ≡ Some (items_of (map item_data items))
items_back [] each = refl
items_back (i ∷ items) each =
    ap₂ (λ (x : Option Data) (y : Option Items). option_and_then (λ d. option_map (item d) y) x) (item_back i each.0) (items_back items each.1)

read_back : (spaced : Bool) (items : List Item) → AllByRecursion IsItem items → list_all is_plain_item items ≡ true → read (plain_text spaced items) ≡ Some (data_of items)
read_back spaced items each plain =
    let j : json.Json = outline (data_of items) in
    let printable : ArePrintable (map (λ p. p.1) (chunks spaced items)) = subst ArePrintable (sym (all_tokens spaced items)) (ArePrintable-json_tokens j (numbers items each)) in
    let lexed : tokens (plain_text spaced items) ≡ tree.json_tokens j =
    ap tokens (sym (printed spaced items plain)) ∙ (tokens-print_spaced (chunks spaced items) (all_gaps spaced items) printable ∙ all_tokens spaced items) in
    let shallow : tree.depth j ≤ max_depth = omega (arith, flat items) in
    let valued : json.value max_depth (tree.json_tokens j) ≡ Some (j, []) =
    ap (json.value max_depth) (sym (append-nil (tree.json_tokens j))) ∙ value-json_tokens j max_depth [] shallow in
    ap (λ (ts : List Token). option_and_then of_json (option_and_then (λ p. json.if_last p.0 p.1) (json.value max_depth ts))) lexed
    ∙ (ap (λ (o : Option (json.Json × List Token)). option_and_then of_json (option_and_then (λ p. json.if_last p.0 p.1) o)) valued ∙ ap (option_map array) (items_back items each))

-- the text is ASCII

ascii : (s : List ℕ) → list_all needs_no_escape s ≡ true → IsAscii s
ascii [] h = IsAscii-nil
ascii (b ∷ s) h =
    let p = and_parts (needs_no_escape b) (list_all needs_no_escape s) h in
    IsAscii-cons b s (omega (arith, at_most b p.0)) (ascii s p.1)

string_ascii : (s : List ℕ) → list_all needs_no_escape s ≡ true → IsAscii (string_text s)
string_ascii s h = IsAscii-cons quote (s ++ quote ∷ []) (lit< tt) (IsAscii-append s (quote ∷ []) (ascii s h) (IsAscii-cons quote [] (lit< tt) IsAscii-nil))

item_ascii : (i : Item) → IsItem i → is_plain_item i ≡ true → IsAscii (item_text i)
item_ascii (Word word) is h = string_ascii word h
item_ascii (Number n) is h = IsAscii-decimal n (omega (arith, is))
item_ascii (Named name) is h = string_ascii name h

gap_ascii : (spaced : Bool) → IsAscii (gap spaced)
gap_ascii true = IsAscii-cons 32 [] (lit< tt) IsAscii-nil
gap_ascii false = IsAscii-nil

later_ascii : (spaced : Bool) (items : List Item) → AllByRecursion IsItem items → list_all is_plain_item items ≡ true → IsAscii (later_text spaced items)
later_ascii spaced [] each h = IsAscii-cons close_bracket [] (lit< tt) IsAscii-nil
later_ascii spaced (i ∷ items) each h =
    let p = and_parts (is_plain_item i) (list_all is_plain_item items) h in
    let more : IsAscii (item_text i ++ later_text spaced items) = IsAscii-append (item_text i) (later_text spaced items) (item_ascii i each.0 p.0) (later_ascii spaced items each.1 p.1) in
    IsAscii-cons comma (gap spaced ++ (item_text i ++ later_text spaced items)) (lit< tt) (IsAscii-append (gap spaced) (item_text i ++ later_text spaced items) (gap_ascii spaced) more)

text_ascii : (spaced : Bool) (items : List Item) → AllByRecursion IsItem items → list_all is_plain_item items ≡ true → IsAscii (plain_text spaced items)
text_ascii spaced [] each h = IsAscii-cons open_bracket (close_bracket ∷ []) (lit< tt) (IsAscii-cons close_bracket [] (lit< tt) IsAscii-nil)
text_ascii spaced (i ∷ items) each h =
    let p = and_parts (is_plain_item i) (list_all is_plain_item items) h in
    let more : IsAscii (item_text i ++ later_text spaced items) = IsAscii-append (item_text i) (later_text spaced items) (item_ascii i each.0 p.0) (later_ascii spaced items each.1 p.1) in
    IsAscii-cons open_bracket (item_text i ++ later_text spaced items) (lit< tt) more

-- the text spells the items

is_member : (i : Item) → is_plain_item i ≡ true → IsMember i (item_data i)
is_member (Word word) h = refl
is_member (Number n) h = refl
is_member (Named name) h = (IsUtf8-from_ascii name (ascii name h), refl)

are_members : (items : List Item) → list_all is_plain_item items ≡ true → AreMembers items (map item_data items)
are_members [] h = tt
are_members (i ∷ items) h =
    let p = and_parts (is_plain_item i) (list_all is_plain_item items) h in
    (is_member i p.0, are_members items p.1)

pub plain_spells : (spaced : Bool) (items : List Item) → ArePlain items → SpellsItems (plain_text spaced items) items
plain_spells spaced items plain = record {
  members = map item_data items;
  reads = (IsUtf8-from_ascii (plain_text spaced items) (text_ascii spaced items plain.0 plain.1), read_back spaced items plain.0 plain.1);
  are = are_members items plain.1;
}

-- the text has no LF

clear : (s : List ℕ) → list_all needs_no_escape s ≡ true → lacks line_end s ≡ true
clear [] h = refl
clear (b ∷ s) h =
    let p = and_parts (needs_no_escape b) (list_all needs_no_escape s) h in
    ap₂ (λ (x y : Bool). x && y) (no_line_end b p.0) (clear s p.1)

both_clear : (xs ys : List ℕ) → lacks line_end xs ≡ true → lacks line_end ys ≡ true → lacks line_end (xs ++ ys) ≡ true
both_clear xs ys a b = lacks-append line_end xs ys ∙ ap₂ (λ (x y : Bool). x && y) a b

item_clear : (i : Item) → IsItem i → is_plain_item i ≡ true → lacks line_end (item_text i) ≡ true
item_clear (Word word) is h = both_clear word (quote ∷ []) (clear word h) refl
item_clear (Number n) is h = lacks-decimal line_end n (lit< tt) (omega (arith, is))
item_clear (Named name) is h = both_clear name (quote ∷ []) (clear name h) refl

gap_clear : (spaced : Bool) → lacks line_end (gap spaced) ≡ true
gap_clear true = refl
gap_clear false = refl

later_clear : (spaced : Bool) (items : List Item) → AllByRecursion IsItem items → list_all is_plain_item items ≡ true → lacks line_end (later_text spaced items) ≡ true
later_clear spaced [] each h = refl
later_clear spaced (i ∷ items) each h =
    let p = and_parts (is_plain_item i) (list_all is_plain_item items) h in
    both_clear (gap spaced) (item_text i ++ later_text spaced items) (gap_clear spaced)
    (both_clear (item_text i) (later_text spaced items) (item_clear i each.0 p.0) (later_clear spaced items each.1 p.1))

text_clear : (spaced : Bool) (items : List Item) → AllByRecursion IsItem items → list_all is_plain_item items ≡ true → lacks line_end (plain_text spaced items) ≡ true
text_clear spaced [] each h = refl
text_clear spaced (i ∷ items) each h =
    let p = and_parts (is_plain_item i) (list_all is_plain_item items) h in
    both_clear (item_text i) (later_text spaced items) (item_clear i each.0 p.0) (later_clear spaced items each.1 p.1)

-- the text of an access is short

gap_few : (spaced : Bool) (l : List ℕ) → length (gap spaced ++ l) ≤ 1 + length l
gap_few true l = omega arith
gap_few false l = omega arith

last_few : (spaced : Bool) (word : List ℕ) (n : ℕ) (name : List ℕ) → length word ≤ 4 → n < 2 ^ 32 → length name ≤ 255 → length (later_text spaced (Word word ∷ Number n ∷ Named name ∷ [])) ≤ 280
last_few spaced word n name w small few =
    let end : List ℕ = string_text name ++ close_bracket ∷ [] in
    let middle : List ℕ = decimal n ++ comma ∷ (gap spaced ++ end) in
    let front : List ℕ = string_text word ++ comma ∷ (gap spaced ++ middle) in
    let digits : length (decimal n) ≤ 10 = length-decimal-le 10 n (omega arith) (omega (arith, small)) (omega (arith, small)) in
    let worded : length (string_text word) ≤ 6 = omega (arith, w, length-append word (quote ∷ [])) in
    let named : length (string_text name) ≤ 257 = omega (arith, few, length-append name (quote ∷ [])) in
    let ended : length end ≤ 258 = omega (arith, named, length-append (string_text name) (close_bracket ∷ [])) in
    let numbered : length middle ≤ 270 = omega (arith, digits, ended, gap_few spaced end, length-append (decimal n) (comma ∷ (gap spaced ++ end))) in
    let all : length front ≤ 278 = omega (arith, worded, numbered, gap_few spaced middle, length-append (string_text word) (comma ∷ (gap spaced ++ middle))) in
    omega (arith, all, gap_few spaced front)

access_few : (spaced : Bool) (m : Mode) (loc : Loc) → ArePlain (loc_items loc) → length (plain_text spaced (record_items (Access m loc))) ≤ most_plain_bytes
access_few spaced modes.R (Var o n) plain = omega (arith, last_few spaced (codes "var") o n (omega arith) plain.0.1.0 plain.0.1.1.0.few)
access_few spaced modes.R (Elem o n) plain = omega (arith, last_few spaced (codes "elem") o n (omega arith) plain.0.1.0 plain.0.1.1.0.few)
access_few spaced modes.R (Slot o n) plain = omega (arith, last_few spaced (codes "slot") o n (omega arith) plain.0.1.0 plain.0.1.1.0.few)
access_few spaced modes.W (Var o n) plain = omega (arith, last_few spaced (codes "var") o n (omega arith) plain.0.1.0 plain.0.1.1.0.few)
access_few spaced modes.W (Elem o n) plain = omega (arith, last_few spaced (codes "elem") o n (omega arith) plain.0.1.0 plain.0.1.1.0.few)
access_few spaced modes.W (Slot o n) plain = omega (arith, last_few spaced (codes "slot") o n (omega arith) plain.0.1.0 plain.0.1.1.0.few)

access_plain : (m : Mode) (loc : Loc) → ArePlain (loc_items loc) → ArePlain (record_items (Access m loc))
access_plain modes.R loc plain = ((tt, plain.0), plain.1)
access_plain modes.W loc plain = ((tt, plain.0), plain.1)

-- an access at the front, by its mode and by its location
pub access_at : (spaced : Bool) (m : Mode) (loc : Loc) (bytes later behind : List ℕ) → bytes ≡ open_bracket ∷ (item_text (Word (mode_word m)) ++ later)
    → ArePlain (loc_items loc) × (later ≡ later_text spaced (loc_items loc) ++ line_end ∷ behind) → IsFront most_plain_bytes Spells bytes (Access m loc) behind
access_at spaced m loc bytes later behind first last =
    let plain : ArePlain (record_items (Access m loc)) = access_plain m loc last.0 in
    let mode : List ℕ = item_text (Word (mode_word m)) in
    record {
      l = plain_text spaced (record_items (Access m loc));
      short = record { clear = text_clear spaced (record_items (Access m loc)) plain.0 plain.1; few = access_few spaced m loc last.0 };
      spells = ((plain.0, refl), plain_spells spaced (record_items (Access m loc)) plain);
      cut = first
          ∙ (ap (λ (l : List ℕ). open_bracket ∷ (mode ++ l)) last.1
          ∙ ap (λ (l : List ℕ). open_bracket ∷ l) (sym (append_assoc mode (later_text spaced (loc_items loc)) (line_end ∷ behind))));
    }
