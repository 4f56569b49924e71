-- For a caller that goes through a generated trace: what came and what is left make the whole.
use Rattle.std.proofs.Common.{◌≡◌, List, [], ◌∷◌, drop, refl, ap, sym}
use Rattle.std.specs.Prelude.{slice_get, Option, Some, None}
use Rattle.std.specs.Option.{unwrap_or}
use Rattle.std.proofs.lemmas.Option.{none-some}
use Rattle.er_trace.specs.declared.record.Record.{Record}

-- a record was given
pub left_by_one : (left : List Record) (x : Record) → Some x ≡ slice_get left 0 → left ≡ x ∷ drop 1 left
left_by_one [] x e = absurd (none-some x (sym e))
left_by_one (y ∷ left) x e = ap (λ (z : Record). z ∷ left) (ap (λ (o : Option Record). unwrap_or o x) (sym e))

-- none was given
pub left_by_none : (left : List Record) → None ≡ slice_get left 0 → left ≡ []
left_by_none [] e = refl
left_by_none (x ∷ left) e = absurd (none-some x e)
