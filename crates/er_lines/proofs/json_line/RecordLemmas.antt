-- Members against a record.
use Rattle.std.proofs.Common.{◌≡◌, ℕ, List, [], ◌∷◌, length, map, Bool, true, false, not, Some, refl, ap, sym, ◌∙◌, subst, arith}
use Rattle.std.specs.Prelude.{◌||◌, nat_lt}
use Rattle.std.proofs.lemmas.Bool.Decides.{nat_tests}
use Rattle.serde_json.specs.Data.{Data, array}
use Rattle.serde_json.specs.View.{items_of}
use Rattle.er_text.specs.Words.{words, joined}
use Rattle.er_trace.specs.declared.record.Record.{Record}
use Rattle.er_trace.specs.declared.record.Record.TheVariants.{Parse, New, Access}
use Rattle.er_trace.specs.declared.record.Kind.TheVariants as kinds
use Rattle.er_trace.specs.declared.record.NewKind.TheVariants as new_kinds
use Rattle.er_trace.specs.declared.record.Mode.TheVariants as modes
use Rattle.er_trace.specs.declared.record.Loc.TheVariants.{Var, Elem, Slot}
use Rattle.er_syntax.specs.Heads.{head_word, record_head, later_words}
use Rattle.er_trace.specs.Items.{Item, item_spelling}
use Rattle.er_trace.specs.declared.version.Version.{Version}
use Rattle.er_trace.specs.declared.version.Version.TheVariants.{Two}
use Rattle.er_trace.specs.Spelling.{record_items, spelling, IsRecord}
use Rattle.er_trace.specs.Versions.{is_of_task, has_record}
use Rattle.er_syntax.proofs.RecordLaws.{record_begins, words_of_spelling}
use Rattle.er_syntax.proofs.OneRecord.{one_record}
use Rattle.er_lines.specs.json_line.Members.{AreMembers, ReadsAs, SpellsItems, Spells, IsEnd, end_items}
use Rattle.er_lines.specs.json_line.Texts.{member_word, text_of, HaveWords, AreTexts, is_count, is_number}
use Rattle.er_lines.proofs.json_line.ShapeLemmas.{are_plain, AreWritten, written, back, line_of, line_joined, words_of_line}

pub record_is_plain : (x : Record) → are_plain (record_items x) ≡ true
record_is_plain (Parse d e kinds.Plain) = refl
record_is_plain (Parse d e kinds.Inline) = refl
record_is_plain (Parse d e kinds.Sync) = refl
record_is_plain (Parse d e kinds.Defer) = refl
record_is_plain (Parse d e kinds.Async) = refl
record_is_plain (Parse d e kinds.Image) = refl
record_is_plain (New d e new_kinds.Plain) = refl
record_is_plain (New d e new_kinds.Async) = refl
record_is_plain (New d e new_kinds.Image) = refl
record_is_plain (Access modes.R (Var o n)) = refl
record_is_plain (Access modes.R (Elem o n)) = refl
record_is_plain (Access modes.R (Slot o n)) = refl
record_is_plain (Access modes.W (Var o n)) = refl
record_is_plain (Access modes.W (Elem o n)) = refl
record_is_plain (Access modes.W (Slot o n)) = refl
record_is_plain _ = refl

-- the words of a record's spelling are those of its items
spelled_words : (x : Record) → IsRecord x → words (spelling x) ≡ map item_spelling (record_items x)
spelled_words x is = words_of_spelling x is ∙ sym (record_begins x)

no_items_of : (x : Record) → map item_spelling (record_items x) ≡ [] → ⊥
no_items_of x none = let begins : map item_spelling (record_items x) ≡ head_word (record_head x) ∷ later_words x = record_begins x in absurd (cc)

-- what the members of a record are written as
pub record IsLineOf (x : Record) (ds : List Data) : Type 0 where
  pub have : HaveWords ds
  pub line : line_of ds ≡ spelling x
  pub kinds : map is_count ds ≡ map is_number (record_items x)
  pub some : text_of ds ≡ [] → ⊥

pub line_written : (x : Record) (ds : List Data) → IsRecord x → AreMembers (record_items x) ds → IsLineOf x ds
line_written x [] is are = absurd (no_items_of x (sym (written (record_items x) [] are is (record_is_plain x)).words))
line_written x (d ∷ ds) is are =
    let w : AreWritten (record_items x) (d ∷ ds) = written (record_items x) (d ∷ ds) are is (record_is_plain x) in
    record { have = w.have; line = line_joined d ds ∙ ap joined w.words; kinds = w.kinds; some = λ e. absurd (cc) }

pub members_back : (x : Record) (ds : List Data) → IsRecord x → (text_of ds ≡ [] → ⊥) → line_of ds ≡ spelling x → HaveWords ds → AreTexts ds → map is_count ds ≡ map is_number (record_items x) → AreMembers (record_items x) ds
members_back x [] is some line have texts kinds = absurd (some refl)
members_back x (d ∷ ds) is some line have texts kinds =
    let same : map member_word (d ∷ ds) ≡ map item_spelling (record_items x) = (sym (words_of_line d ds have) ∙ ap words line) ∙ spelled_words x is in
    back (record_items x) (d ∷ ds) same kinds have texts is (record_is_plain x)

-- a line is read as one list of members

items_once : (a b : List Data) → items_of a ≡ items_of b → a ≡ b
items_once [] [] e = refl
items_once [] (d ∷ b) e = absurd (cc)
items_once (d ∷ a) [] e = absurd (cc)
items_once (d ∷ a) (f ∷ b) e =
    let first : d ≡ f = cc in
    let later : items_of a ≡ items_of b = cc in
    let same : a ≡ b = items_once a b later in
    cc

pub read_once : (line : List ℕ) (a b : List Data) → ReadsAs line a → ReadsAs line b → a ≡ b
read_once line a b first second =
    let both : Some (array (items_of a)) ≡ Some (array (items_of b)) = sym first.1 ∙ second.1 in
    items_once a b (cc)

pub members_of : (line : List ℕ) (ds : List Data) (items : List Item) → ReadsAs line ds → SpellsItems line items → AreMembers items ds
members_of line ds items reads spells = subst (AreMembers items) (read_once line spells.members ds spells.reads reads) spells.are

-- a line spells at most one record
pub one_of_line : (line : List ℕ) (x y : Record) → Spells line x → Spells line y → x ≡ y
one_of_line line x y first second =
    let a : IsLineOf x first.1.members = line_written x first.1.members first.0.0 first.1.are in
    let b : IsLineOf y first.1.members = line_written y first.1.members second.0.0 (members_of line first.1.members (record_items y) first.1.reads second.1) in
    one_record x y first.0.0 second.0.0 (sym a.line ∙ b.line)

not_task : (task : Bool) → (not task || false) ≡ true → task ≡ false
not_task true h = absurd (cc)
not_task false h = refl

-- a record of versions 1 and 2 is one of each version
pub of_each : (v : Version) (x : Record) → has_record Two x ≡ true → has_record v x ≡ true
of_each v x h = let none : is_of_task x ≡ false = not_task (is_of_task x) h in rw none refl

-- the last line spells no record

as_many : (items : List Item) (ds : List Data) → AreMembers items ds → length items ≡ length ds
as_many [] [] are = refl
as_many [] (d ∷ ds) are = elim are [ ]
as_many (i ∷ items) [] are = elim are [ ]
as_many (i ∷ items) (d ∷ ds) are = let same : length items ≡ length ds = as_many items ds are.1 in omega (arith, same)

-- of a record's items there are two
has_two : (x : Record) → nat_lt 1 (length (record_items x)) ≡ true
has_two (Access m (Var o n)) = refl
has_two (Access m (Elem o n)) = refl
has_two (Access m (Slot o n)) = refl
has_two _ = refl

pub end_is_none : (line : List ℕ) (x : Record) → Spells line x → IsEnd line → ⊥
end_is_none line x spells end =
    let items : length (record_items x) ≡ length spells.1.members = as_many (record_items x) spells.1.members spells.1.are in
    let last : length end_items ≡ length end.members = as_many end_items end.members end.are in
    let same : spells.1.members ≡ end.members = read_once line spells.1.members end.members spells.1.reads end.reads in
    let two : nat_lt 1 (length (record_items x)) ≡ true = has_two x in
    let as_long : length spells.1.members ≡ length end.members = ap length same in
    absurd (grind (arith, nat_tests))
