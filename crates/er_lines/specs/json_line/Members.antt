-- How a line of JSON spells items, and how it spells a record.
use Rattle.std.specs.Prelude.{◌≡◌, ℕ, false, List, [], ◌∷◌, codes, Some, option_and_then, IsUtf8}
use Rattle.serde_json.specs.Data.{Data, array}
use Rattle.serde_json.specs.Read.{read}
use Rattle.serde_json.specs.Find.{as_str, as_number, as_u64}
use Rattle.serde_json.specs.View.{items_of}
use Rattle.er_trace.specs.Items.{Item, Word, Number, Named}
use Rattle.er_trace.specs.declared.record.Record.{Record}
use Rattle.er_trace.specs.declared.version.Version.{Version}
use Rattle.er_trace.specs.declared.version.Version.TheVariants.{One, Two, Three}
use Rattle.er_trace.specs.Spelling.{record_items}
use Rattle.er_trace.specs.Versions.{has_tasks, IsRecordOf}

-- The member is the item: a word is a string; of a number, `serde_json`'s accessor for unsigned
-- whole numbers answers it; a name is a string with these bytes.
abbrev pub IsMember : Item → Data → Type 0
IsMember (Word word) member = as_str member ≡ Some word
IsMember (Number n) member = option_and_then as_u64 (as_number member) ≡ Some n
IsMember (Named name) member = IsUtf8 name × (as_str member ≡ Some name)

-- the members are the items, in order
abbrev pub AreMembers : List Item → List Data → Type 0
AreMembers [] [] = Unit {0}
AreMembers (i ∷ items) (d ∷ members) = IsMember i d × AreMembers items members
AreMembers _ _ = ⊥

-- the line is a text that `serde_json` reads as an array of these members
abbrev pub ReadsAs : List ℕ → List Data → Type 0
ReadsAs line members = IsUtf8 line × (read line ≡ Some (array (items_of members)))

-- it reads the line as an array whose members are the items
pub record SpellsItems (line : List ℕ) (items : List Item) : Type 0 where
  pub members : List Data
  pub reads : ReadsAs line members
  pub are : AreMembers items members

-- the line spells the record, which is one of versions 1 and 2
abbrev pub Spells : List ℕ → Record → Type 0
Spells line x = IsRecordOf Two x × SpellsItems line (record_items x)

abbrev pub version_number : Version → ℕ
version_number One = 1
version_number Two = 2
version_number Three = 3

-- the items of the first line of a version
abbrev pub header_items : Version → List Item
header_items v = Word (codes "webtrace") ∷ Number (version_number v) ∷ []

-- the items of the last line
abbrev pub end_items : List Item
end_items = Word (codes "end") ∷ []

-- the first line of a version, which is 1 or 2
abbrev pub IsHeader : Version → List ℕ → Type 0
IsHeader v line = (has_tasks v ≡ false) × SpellsItems line (header_items v)

abbrev pub IsEnd : List ℕ → Type 0
IsEnd line = SpellsItems line end_items
