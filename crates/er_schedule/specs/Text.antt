-- The text of the two orders of a race. Lists of predecessors stand newest first, all
-- others oldest first.
use Rattle.std.specs.Prelude.{◌≡◌, ℕ, zero, suc, List, [], ◌++◌, length, codes, slice_get, Option, Some, None}
use Rattle.er_trace.specs.Trace.{line}
use Rattle.er_paths.specs.Paths.{joins}
use Rattle.er_access.specs.Kept.{Kept}
use Rattle.er_races.specs.declared.race.Race.{Race}
use Rattle.er_races.specs.Races.{races_by, races_of}
use Rattle.er_syntax.specs.Lines.{count_line, lines_from}
use Rattle.er_report.specs.Report.{race_line}
use Rattle.er_schedule.specs.Schedules.{Orders, orders_of}

-- `schedules 1`
abbrev pub opening_line : List ℕ
opening_line = count_line (codes "schedules") 1

-- `first N` or `second N`
abbrev pub order_line : List ℕ → ℕ → ℕ → List ℕ
order_line word k n = count_line word n

-- a line for each action of an order
abbrev pub order_lines : List ℕ → List ℕ → List ℕ
order_lines word order = lines_from (order_line word) 1 order

abbrev pub end_line : List ℕ
end_line = line (codes "end")

-- the text of a race with its number, and of two orders
abbrev pub schedules_of : ℕ → Kept × Kept → Orders → List ℕ
schedules_of k race orders = opening_line ++ race_line k race
    ++ order_lines (codes "first") orders.first ++ order_lines (codes "second") orders.second
    ++ end_line

abbrev pub text_of : List (List ℕ) → ℕ → Option (Kept × Kept) → List ℕ
text_of lists k None = []
text_of lists k (Some race) =
    schedules_of k race (orders_of (joins lists) (length lists) race.0.action race.1.action)

-- the race of this number, from 1: there is no race 0
abbrev pub race_number : List (Kept × Kept) → ℕ → Option (Kept × Kept)
race_number races zero = None
race_number races (suc k) = slice_get races k

-- the text of race number k of the kept accesses
abbrev pub schedule_text : List (List ℕ) → List Kept → ℕ → List ℕ
schedule_text lists accesses k =
    text_of lists k (race_number (races_by (joins lists) accesses) k)

-- By these lists, these are the races of the kept accesses, and the orders of race number k.
pub record AreOrders (lists : List (List ℕ)) (accesses : List Kept) (races : List Race) (k : ℕ)
    (orders : Orders) : Type 0 where
  pub races_are : races ≡ races_of (joins lists) accesses
  pub race : Kept × Kept
  pub found : race_number (races_by (joins lists) accesses) k ≡ Some race
  pub orders_are : orders ≡ orders_of (joins lists) (length lists) race.0.action race.1.action

-- the same by some lists
pub record AreSomeOrders (accesses : List Kept) (races : List Race) (k : ℕ)
    (orders : Orders) : Type 0 where
  pub lists : List (List ℕ)
  pub are : AreOrders lists accesses races k orders
