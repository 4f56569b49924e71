-- The items that a writer is handed.
use Rattle.std.specs.Prelude.{ℕ, List, [], ◌∷◌, map, codes}
use Rattle.er_syntax.specs.declared.print.Token.{Token}
use Rattle.er_syntax.specs.declared.print.Token.TheVariants as tokens
use Rattle.er_syntax.specs.declared.print.Line.{Line}
use Rattle.er_syntax.specs.declared.print.Line.TheVariants as lines
use Rattle.er_trace.specs.Spelling.{mode_word, loc_items}
use Rattle.er_trace.specs.Items.{Item, Word, Number, Named, items_spelling}

abbrev pub token_item : Token → Item
token_item (tokens.Text word) = Word word.now
token_item (tokens.Number n) = Number n
token_item (tokens.Named name) = Named name.now

-- the word, and those items
abbrev pub tokens_spelling : List ℕ → List Token → List ℕ
tokens_spelling word later = items_spelling (Word word ∷ map token_item later)

-- the items of a line
abbrev pub line_items : Line → List Item
line_items (lines.One word a) = Word word.now ∷ Number a ∷ []
line_items (lines.Two word a b) = Word word.now ∷ Number a ∷ Number b ∷ []
line_items (lines.Three word a b c) = Word word.now ∷ Number a ∷ Number b ∷ Number c ∷ []
line_items (lines.Named word a b name) = Word word.now ∷ Number a ∷ Number b ∷ Named name.now ∷ []
line_items (lines.Made word doc element kind) =
    Word word.now ∷ Number doc ∷ Number element ∷ Word kind.now ∷ []
line_items (lines.Framing word doc element inner) =
    Word word.now ∷ Number doc ∷ Number element ∷ Word (codes "frame") ∷ Number inner ∷ []
line_items (lines.Access mode loc) = Word (mode_word mode) ∷ loc_items loc.now
