-- Kept accesses and candidate pairs. All lists stand oldest first.
use Rattle.std.specs.Prelude.{◌≡◌, ℕ, Bool, true, false, not, ◌==◌, ◌&&◌, ◌||◌, if◌then◌else◌, nat_eq, List, [], ◌∷◌, ◌++◌, map, filter, length}
use Rattle.std.specs.List.{list_any}
use Rattle.std.specs.Cmp.Lexicographic.{pointwise}
use Rattle.er_trace.specs.declared.record.Mode.{Mode}
use Rattle.er_trace.specs.declared.record.Mode.TheVariants.{R, W}
use Rattle.er_trace.specs.declared.record.Loc.{Loc}
use Rattle.er_trace.specs.declared.record.Loc.TheVariants.{Var, Elem, Slot}

-- an access, with its line, the action that runs there, and its location
pub record Kept : Type 0 where
  pub line : ℕ
  pub action : ℕ
  pub mode : Mode
  pub loc : Loc

abbrev pub access_of : ℕ → ℕ → Mode → Loc → Kept
access_of line action mode loc = record { line = line; action = action; mode = mode; loc = loc }

abbrev pub same_loc : Loc → Loc → Bool
same_loc (Var o n) (Var p m) = (o == p) && pointwise nat_eq n m
same_loc (Elem d n) (Elem c m) = (d == c) && pointwise nat_eq n m
same_loc (Slot e n) (Slot f m) = (e == f) && pointwise nat_eq n m
same_loc _ _ = false

abbrev pub is_write : Mode → Bool
is_write R = false
is_write W = true

abbrev pub same_mode : Mode → Mode → Bool
same_mode R m = not (is_write m)
same_mode W m = is_write m

-- the same location, mode and action
abbrev pub repeats : Kept → Kept → Bool
repeats x y = (same_loc x.loc y.loc && same_mode x.mode y.mode) && (y.action == x.action)

abbrev pub repeats_any : Kept → List Kept → Bool
repeats_any x accesses = list_any (repeats x) accesses

-- one more access, unless it repeats one
abbrev pub with_access : Kept → List Kept → List Kept
with_access x accesses = if repeats_any x accesses then accesses else accesses ++ x ∷ []

abbrev pub is_new : Kept → List Kept → Bool
is_new x accesses = not (repeats_any x accesses)

-- the most accesses that are kept
abbrev pub most_accesses : ℕ
most_accesses = 1048576

-- it repeats none, and no more are kept
abbrev pub IsFull : Kept → List Kept → Type 0
IsFull x accesses = (repeats_any x accesses ≡ false) × (length accesses ≡ most_accesses)

-- one location, different actions, at least one write
abbrev pub is_candidate : Kept → Kept → Bool
is_candidate a b =
    same_loc a.loc b.loc && (not (a.action == b.action) && (is_write a.mode || is_write b.mode))

-- the pairs of an earlier and a later member, in order
abbrev pub pairs_of : {A : Type 0} → List A → List (A × A)
pairs_of [] = []
pairs_of (a ∷ rest) = map (λ b. (a, b)) rest ++ pairs_of rest

abbrev pub candidates_of : List Kept → List (Kept × Kept)
candidates_of accesses = filter (λ p. is_candidate p.0 p.1) (pairs_of accesses)
