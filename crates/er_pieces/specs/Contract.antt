-- The words in which a crate of rules says what it hands: numbers of actions, put behind those that
-- stand already. Lists of records stand newest first.
--
-- A clause speaks of each list that a page stands for, so `stands` is that relation of the page:
-- `IsPage page.now`. The clauses of a crate that hands `handed` by the rules of `family` are then
-- OnOk result (HandsExactly stands handed x old new): the numbers have grown by exactly that list;
--   OnErr result (HandsFront stands handed x old new): memory ran out, and they have grown by a
--   proper front of it;
--   OnOk result (HandsEnough stands family x old new) and OnErr result (HandsSources
--   stands family x old new): it is enough, and all of it sources, for every table by
--   which the record comes next.
--   HandsFew stands most x old new: in any case there are at most so many more.
-- The others follow from the first two: proofs/ContractLemmas.
use Rattle.std.specs.Prelude.{◌≡◌, ℕ, ◌+◌, ◌<◌, ◌≤◌, false, List, [], ◌∷◌, ◌++◌, length, take, Option, Some, None}
use Rattle.er_trace.specs.declared.record.Record.{Record}
use Rattle.er_history.specs.History.{Action, History, told}
use Rattle.er_history.specs.Rules.{Rule}
use Rattle.er_history.specs.Edges.{path}
use Rattle.er_history.specs.Handed.{HasHanded, HasHandedSome}
use Rattle.er_history.specs.Latest.{latest_of_event}
use Rattle.er_history.specs.Naming.{naming}
use Rattle.er_history.specs.Sound.{IsSound, out_of_order}
use Rattle.er_pieces.specs.Enough.{HasSteady}

-- the table has the steady rules, the list is sound by it, and neither naming nor order has
-- anything against the record
pub record ComesNext (table : List (ℕ × Rule)) (h : List Record) (x : Record) : Type 0 where
  pub has : HasSteady table
  pub sound : IsSound table h
  pub named : naming h x ≡ None
  pub ordered : out_of_order table h x ≡ false

-- the numbers have grown by what is due
abbrev pub GrewBy : List ℕ → List ℕ → List ℕ → Type 0
GrewBy old due new = new ≡ old ++ due

-- they have grown by a proper front of it
unfoldable pub GrewInPart : List ℕ → List ℕ → List ℕ → Type 0
GrewInPart old due new = (n : ℕ) × (n < length due) × (new ≡ old ++ take n due)

-- for each list that stands: by what is due after it, or by a proper front of that

abbrev pub GrewForEach : (List Record → Type 0) → (List Record → List ℕ) → List ℕ → List ℕ → Type 0
GrewForEach stands due old new = (h : List Record) → stands h → GrewBy old (due h) new

abbrev pub GrewInPartForEach : (List Record → Type 0) → (List Record → List ℕ) → List ℕ → List ℕ
    → Type 0
GrewInPartForEach stands due old new = (h : List Record) → stands h → GrewInPart old (due h) new

-- what is handed for the record

abbrev pub HandsExactly : (List Record → Type 0) → (History → Record → List ℕ) → Record → List ℕ
    → List ℕ → Type 0
HandsExactly stands handed x old new = (h : List Record) → stands h
    → GrewBy old (handed (told h) x) new

abbrev pub HandsFront : (List Record → Type 0) → (History → Record → List ℕ) → Record → List ℕ
    → List ℕ → Type 0
HandsFront stands handed x old new = (h : List Record) → stands h
    → GrewInPart old (handed (told h) x) new

-- what it is, by the rules of the family

abbrev pub HandsEnough : (List Record → Type 0) → List (ℕ × Rule) → Record → List ℕ → List ℕ
    → Type 0
HandsEnough stands family x old new = (table : List (ℕ × Rule)) (h : List Record) → stands h
    → ComesNext table h x → HasHanded family (path table h) (told h) x old new

abbrev pub HandsSources : (List Record → Type 0) → List (ℕ × Rule) → Record → List ℕ → List ℕ
    → Type 0
HandsSources stands family x old new = (table : List (ℕ × Rule)) (h : List Record) → stands h
    → ComesNext table h x → HasHandedSome family (path table h) (told h) x old new

-- how many they are

abbrev pub HandsFew : (List Record → Type 0) → (List Record → Record → ℕ) → Record → List ℕ → List ℕ
    → Type 0
HandsFew stands most x old new = (h : List Record) → stands h → length new ≤ length old + most h x

-- the numbers of an option, and the latest pieces of these events

abbrev pub listed : Option ℕ → List ℕ
listed None = []
listed (Some k) = k ∷ []

abbrev pub latest_of_all : List ℕ → List Action → List ℕ
latest_of_all [] actions = []
latest_of_all (u ∷ us) actions = latest_of_event u actions ++ latest_of_all us actions
