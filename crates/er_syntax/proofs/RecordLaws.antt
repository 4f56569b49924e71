-- The words of a record's spelling.
use Rattle.std.proofs.Common.{◌≡◌, ℕ, ◌+◌, ◌*◌, ◌<◌, ◌≤◌, length, List, [], ◌∷◌, Bool, true, ◌&&◌, refl, ap, sym, ◌∙◌, arith, lit<, lit≤, length-append}
use Rattle.std.specs.Prelude.{map, nat_lt, nat_le, ◌≢◌}
use Rattle.std.specs.List.{AllByRecursion, list_all}
use Rattle.std.proofs.lemmas.Fmt.{length-decimal-le}
use Rattle.std.proofs.lemmas.List.{length-map}
use Rattle.std.proofs.lemmas.Bool.Decides.{nat_tests}
use Rattle.std.proofs.lemmas.Grind.{common_steps}
use Rattle.er_text.specs.Bytes.{has_no_space, has_no_lf}
use Rattle.er_text.specs.Words.{words, joined}
use Rattle.er_text.proofs.WordLaws.{words-joined, joined-words, lacks-joined}
use Rattle.er_text.proofs.NumberLaws.{lacks-decimal}
use Rattle.er_text.proofs.NameLaws.{lacks-name_spelling, length_of_spelling}
use Rattle.er_text.specs.Name.{most_name}
use Rattle.er_trace.specs.Trace.{most_line_bytes, end_word}
use Rattle.er_syntax.specs.declared.head.Head.{Head}
use Rattle.er_trace.specs.declared.record.Record.{Record}
use Rattle.er_trace.specs.declared.record.Record.TheVariants.{Parse, New, Access}
use Rattle.er_trace.specs.declared.record.Kind.TheVariants as kinds
use Rattle.er_trace.specs.declared.record.NewKind.TheVariants as new_kinds
use Rattle.er_trace.specs.declared.record.Mode.TheVariants as modes
use Rattle.er_trace.specs.declared.record.Loc.TheVariants.{Var, Elem, Slot}
use Rattle.er_trace.specs.Items.{Item, Word, Number, Named, IsItem, item_spelling}
use Rattle.er_trace.specs.Spelling.{record_items, spelling, IsRecord}
use Rattle.er_syntax.specs.Heads.{begins_task, head_word, record_head, later_words, GoesOn}
use Rattle.er_trace.specs.Versions.{is_of_task}

-- a fixed word has no space and no LF
abbrev pub is_clear : Item → Bool
is_clear (Word bytes) = has_no_space bytes && has_no_lf bytes
is_clear (Number n) = true
is_clear (Named name) = true

item_has_no_space : (i : Item) → IsItem i → is_clear i ≡ true → has_no_space (item_spelling i) ≡ true
item_has_no_space (Word bytes) is h = grind (arith, common_steps)
item_has_no_space (Number n) is h = lacks-decimal 32 n (lit< tt) (omega arith)
item_has_no_space (Named name) is h = lacks-name_spelling 32 name (lit≤ tt)

item_has_no_lf : (i : Item) → IsItem i → is_clear i ≡ true → has_no_lf (item_spelling i) ≡ true
item_has_no_lf (Word bytes) is h = grind (arith, common_steps)
item_has_no_lf (Number n) is h = lacks-decimal 10 n (lit< tt) (omega arith)
item_has_no_lf (Named name) is h = lacks-name_spelling 10 name (lit≤ tt)

items_have_no_space : (items : List Item) → AllByRecursion IsItem items → list_all is_clear items ≡ true → list_all has_no_space (map item_spelling items) ≡ true
items_have_no_space [] is h = refl
items_have_no_space (i ∷ items) is h = grind (arith, common_steps, item_has_no_space i is.0, items_have_no_space items is.1)

items_have_no_lf : (items : List Item) → AllByRecursion IsItem items → list_all is_clear items ≡ true → list_all has_no_lf (map item_spelling items) ≡ true
items_have_no_lf [] is h = refl
items_have_no_lf (i ∷ items) is h = grind (arith, common_steps, item_has_no_lf i is.0, items_have_no_lf items is.1)

-- the most bytes of an item
abbrev pub item_most : Item → ℕ
item_most (Word bytes) = length bytes
item_most (Number n) = 10
item_most (Named name) = 3 * most_name

-- the most bytes of items, each with a space
abbrev pub items_most : List Item → ℕ
items_most [] = 0
items_most (i ∷ items) = item_most i + 1 + items_most items

-- two items at least, none with a space or an LF, of no more bytes than a line may have
abbrev pub fits_a_line : List Item → Bool
fits_a_line items = list_all is_clear items && nat_lt 1 (length items) && nat_le (items_most items) most_line_bytes

record_fits : (x : Record) → fits_a_line (record_items x) ≡ true
record_fits (Parse d e kinds.Plain) = refl
record_fits (Parse d e kinds.Inline) = refl
record_fits (Parse d e kinds.Sync) = refl
record_fits (Parse d e kinds.Defer) = refl
record_fits (Parse d e kinds.Async) = refl
record_fits (Parse d e kinds.Image) = refl
record_fits (New d e new_kinds.Plain) = refl
record_fits (New d e new_kinds.Async) = refl
record_fits (New d e new_kinds.Image) = refl
record_fits (Access modes.R (Var o n)) = refl
record_fits (Access modes.R (Elem o n)) = refl
record_fits (Access modes.R (Slot o n)) = refl
record_fits (Access modes.W (Var o n)) = refl
record_fits (Access modes.W (Elem o n)) = refl
record_fits (Access modes.W (Slot o n)) = refl
record_fits _ = refl

record_is_clear : (x : Record) → list_all is_clear (record_items x) ≡ true
record_is_clear x = let h : fits_a_line (record_items x) ≡ true = record_fits x in grind (arith, common_steps)

record_has_two : (x : Record) → 1 < length (record_items x)
record_has_two x = let h : fits_a_line (record_items x) ≡ true = record_fits x in grind (arith, nat_tests, common_steps)

record_is_short : (x : Record) → items_most (record_items x) ≤ most_line_bytes
record_is_short x = let h : fits_a_line (record_items x) ≡ true = record_fits x in grind (arith, nat_tests, common_steps)

-- a record begins with its first word
pub record_begins : (x : Record) → map item_spelling (record_items x) ≡ head_word (record_head x) ∷ later_words x
record_begins (Access modes.R l) = refl
record_begins (Access modes.W l) = refl
record_begins _ = refl

-- the first word tells whether it is of a task
pub task_begins : (x : Record) → is_of_task x ≡ begins_task (record_head x)
task_begins (Access modes.R l) = refl
task_begins (Access modes.W l) = refl
task_begins _ = refl

pub words_of_spelling : (x : Record) → IsRecord x → words (spelling x) ≡ head_word (record_head x) ∷ later_words x
words_of_spelling x is =
    let clear : list_all has_no_space (head_word (record_head x) ∷ later_words x) ≡ true =
    ap (list_all has_no_space) (sym (record_begins x)) ∙ items_have_no_space (record_items x) is (record_is_clear x) in
    ap (λ parts. words (joined parts)) (record_begins x) ∙ words-joined (head_word (record_head x)) (later_words x) clear

-- from the words to the record
pub spelled_by_words : (line first : List ℕ) (later : List (List ℕ)) (head : Head) (x : Record) → words line ≡ first ∷ later → first ≡ head_word head → GoesOn head x later → line ≡ spelling x
spelled_by_words line first later head x all same goes =
    let begins : words line ≡ head_word (record_head x) ∷ later_words x = all ∙ (ap (λ w. w ∷ later) (same ∙ ap head_word (sym goes.headed)) ∙ ap (λ l. head_word (record_head x) ∷ l) goes.spelled) in
    (sym (joined-words line) ∙ ap joined begins) ∙ ap joined (sym (record_begins x))

-- the words of a record's spelling
pub record SpelledFrom (first : List ℕ) (later : List (List ℕ)) (x : Record) : Type 0 where
  pub first_word : first ≡ head_word (record_head x)
  pub goes_on : GoesOn (record_head x) x later

pub words_by_spelling : (line first : List ℕ) (later : List (List ℕ)) (x : Record) → words line ≡ first ∷ later → IsRecord x → line ≡ spelling x → SpelledFrom first later x
words_by_spelling line first later x all is e =
    let same : first ∷ later ≡ head_word (record_head x) ∷ later_words x = (sym all ∙ ap words e) ∙ words_of_spelling x is in
    record { first_word = cc; goes_on = record { headed = refl; is_record = is; spelled = cc } }

item_is_short : (i : Item) → IsItem i → length (item_spelling i) ≤ item_most i
item_is_short (Word bytes) is = omega arith
item_is_short (Number n) is = length-decimal-le 10 n (omega arith) (omega arith) (omega arith)
item_is_short (Named name) is = omega (arith, (length_of_spelling name).1, is.few)

items_are_short : (items : List Item) → AllByRecursion IsItem items → length (joined (map item_spelling items)) ≤ items_most items
items_are_short [] is = omega arith
items_are_short (i ∷ []) is = omega (arith, item_is_short i is.0)
items_are_short (i ∷ next ∷ items) is =
    omega (arith, item_is_short i is.0, items_are_short (next ∷ items) is.1, length-append (item_spelling i) (32 ∷ joined (map item_spelling (next ∷ items))))

pub spelling_is_short : (x : Record) → IsRecord x → length (spelling x) ≤ most_line_bytes
spelling_is_short x is = omega (arith, items_are_short (record_items x) is, record_is_short x)

pub spelling_has_no_lf : (x : Record) → IsRecord x → has_no_lf (spelling x) ≡ true
spelling_has_no_lf x is = lacks-joined 10 (map item_spelling (record_items x)) refl (items_have_no_lf (record_items x) is (record_is_clear x))

pub spelling_is_no_end : (x : Record) → IsRecord x → spelling x ≢ end_word
spelling_is_no_end x is e =
    let one : end_word ∷ [] ≡ head_word (record_head x) ∷ later_words x = ap words (sym e) ∙ words_of_spelling x is in
    omega (arith, ap length one, ap length (record_begins x), length-map (record_items x) item_spelling, record_has_two x)
