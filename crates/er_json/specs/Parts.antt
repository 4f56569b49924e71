-- The parts of a fragment as they are written, for private clauses.
use Rattle.std.specs.Prelude.{ℕ, List, [], ◌∷◌, ◌++◌, Bool, ◌||◌, ◌==◌, decimal}
use Rattle.json.specs.Print.{escape}
use Rattle.er_text.specs.Name.{name_spelling}
use Rattle.er_trace.specs.Spelling.{loc_spelling}
use Rattle.er_trace.specs.declared.record.Loc.{Loc}
use Rattle.er_json.specs.declared.parts.Part.{Part}
use Rattle.er_json.specs.declared.parts.Part.TheVariants.{Plain, Number, Location}

-- a byte of a name that a backslash stands before
abbrev pub is_escaped : ℕ → Bool
is_escaped b = (b == 34) || (b == 92)

-- some bytes of a name in a string of JSON
unfoldable pub name_letters : List ℕ → List ℕ
name_letters name = escape (name_spelling name)

-- a word, a number and a name
abbrev pub located : List ℕ → ℕ → List ℕ → List ℕ
located word n name = word ++ decimal n ++ 32 ∷ [] ++ name_letters name

-- a location in a string of JSON
unfoldable pub location_letters : Loc → List ℕ
location_letters l = escape (loc_spelling l)

abbrev pub part_text : Part → List ℕ
part_text (Plain text) = text.now
part_text (Number n) = decimal n
part_text (Location l) = location_letters l.now
