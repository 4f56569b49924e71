-- The forms of locations.
use Rattle.std.specs.Prelude.{ℕ, List, codes}
use Rattle.er_trace.specs.declared.record.Loc.{Loc}
use Rattle.er_trace.specs.declared.record.Loc.TheVariants.{Var, Elem, Slot}
use Rattle.er_syntax.specs.declared.plain.Form.{Form}
use Rattle.er_syntax.specs.declared.plain.Form.TheVariants as forms

abbrev pub form_word : Form → List ℕ
form_word forms.Var = codes "var"
form_word forms.Elem = codes "elem"
form_word forms.Slot = codes "slot"

abbrev pub loc_of : Form → ℕ → List ℕ → Loc
loc_of forms.Var number name = Var number name
loc_of forms.Elem number name = Elem number name
loc_of forms.Slot number name = Slot number name
