-- How each record is spelled.
use Rattle.std.specs.Prelude.{ℕ, List, [], ◌∷◌, codes}
use Rattle.std.specs.List.{AllByRecursion}
use Rattle.er_trace.specs.Items.{Item, Word, Number, Named, IsItem, items_spelling}
use Rattle.er_trace.specs.declared.record.Record.{Record}
use Rattle.er_trace.specs.declared.record.Record.TheVariants.{Parse, ParseFrame, Exec, Timer, Tick, Dcl, Load, Eload, Fire, Wfire, Reply, Inline, Run, Close, Back, New, NewFrame, On, Set, Every, Send, Post, Ask, Queue, Message, Anim, Job, Access}
use Rattle.er_trace.specs.declared.record.Kind.{Kind}
use Rattle.er_trace.specs.declared.record.Kind.TheVariants as kinds
use Rattle.er_trace.specs.declared.record.NewKind.{NewKind}
use Rattle.er_trace.specs.declared.record.NewKind.TheVariants as new_kinds
use Rattle.er_trace.specs.declared.record.Mode.{Mode}
use Rattle.er_trace.specs.declared.record.Mode.TheVariants as modes
use Rattle.er_trace.specs.declared.record.Loc.{Loc}
use Rattle.er_trace.specs.declared.record.Loc.TheVariants.{Var, Elem, Slot}

abbrev pub kind_word : Kind → List ℕ
kind_word kinds.Plain = codes "plain"
kind_word kinds.Inline = codes "inline"
kind_word kinds.Sync = codes "sync"
kind_word kinds.Defer = codes "defer"
kind_word kinds.Async = codes "async"
kind_word kinds.Image = codes "image"

abbrev pub new_kind_word : NewKind → List ℕ
new_kind_word new_kinds.Plain = codes "plain"
new_kind_word new_kinds.Async = codes "async"
new_kind_word new_kinds.Image = codes "image"

abbrev pub mode_word : Mode → List ℕ
mode_word modes.R = codes "r"
mode_word modes.W = codes "w"

abbrev pub loc_items : Loc → List Item
loc_items (Var o n) = Word (codes "var") ∷ Number o ∷ Named n ∷ []
loc_items (Elem d n) = Word (codes "elem") ∷ Number d ∷ Named n ∷ []
loc_items (Slot e n) = Word (codes "slot") ∷ Number e ∷ Named n ∷ []

abbrev pub record_items : Record → List Item
record_items (Parse d e k) = Word (codes "parse") ∷ Number d ∷ Number e ∷ Word (kind_word k) ∷ []
record_items (ParseFrame d e f) =
    Word (codes "parse") ∷ Number d ∷ Number e ∷ Word (codes "frame") ∷ Number f ∷ []
record_items (Exec e) = Word (codes "exec") ∷ Number e ∷ []
record_items (Timer t) = Word (codes "timer") ∷ Number t ∷ []
record_items (Tick i) = Word (codes "tick") ∷ Number i ∷ []
record_items (Dcl p d) = Word (codes "dcl") ∷ Number p ∷ Number d ∷ []
record_items (Load p d) = Word (codes "load") ∷ Number p ∷ Number d ∷ []
record_items (Eload p e) = Word (codes "eload") ∷ Number p ∷ Number e ∷ []
record_items (Fire p e n) = Word (codes "fire") ∷ Number p ∷ Number e ∷ Named n ∷ []
record_items (Wfire p d n) = Word (codes "wfire") ∷ Number p ∷ Number d ∷ Named n ∷ []
record_items (Reply p r) = Word (codes "reply") ∷ Number p ∷ Number r ∷ []
record_items (Inline p e n) = Word (codes "inline") ∷ Number p ∷ Number e ∷ Named n ∷ []
record_items (Run p g h) = Word (codes "run") ∷ Number p ∷ Number g ∷ Number h ∷ []
record_items (Close p) = Word (codes "close") ∷ Number p ∷ []
record_items (Back p) = Word (codes "back") ∷ Number p ∷ []
record_items (New d e k) = Word (codes "new") ∷ Number d ∷ Number e ∷ Word (new_kind_word k) ∷ []
record_items (NewFrame d e f) =
    Word (codes "new") ∷ Number d ∷ Number e ∷ Word (codes "frame") ∷ Number f ∷ []
record_items (On h) = Word (codes "on") ∷ Number h ∷ []
record_items (Set t n) = Word (codes "set") ∷ Number t ∷ Number n ∷ []
record_items (Every i n) = Word (codes "every") ∷ Number i ∷ Number n ∷ []
record_items (Send r) = Word (codes "send") ∷ Number r ∷ []
record_items (Post n) = Word (codes "post") ∷ Number n ∷ []
record_items (Ask n) = Word (codes "ask") ∷ Number n ∷ []
record_items (Queue n) = Word (codes "queue") ∷ Number n ∷ []
record_items (Message n) = Word (codes "message") ∷ Number n ∷ []
record_items (Anim n) = Word (codes "anim") ∷ Number n ∷ []
record_items (Job n) = Word (codes "job") ∷ Number n ∷ []
record_items (Access m l) = Word (mode_word m) ∷ loc_items l

abbrev pub loc_spelling : Loc → List ℕ
loc_spelling l = items_spelling (loc_items l)

abbrev pub spelling : Record → List ℕ
spelling x = items_spelling (record_items x)

-- what has a spelling
abbrev pub IsLoc : Loc → Type 0
IsLoc l = AllByRecursion IsItem (loc_items l)

abbrev pub IsRecord : Record → Type 0
IsRecord x = AllByRecursion IsItem (record_items x)
