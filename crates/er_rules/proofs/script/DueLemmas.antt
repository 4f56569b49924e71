-- The parts of what is handed before the run of a script.
use Rattle.std.proofs.Common.{◌≡◌, ℕ, Bool, true, false, List, [], ◌++◌, Option, Some, None, refl}
use Rattle.std.specs.Prelude.{if◌then◌else◌}
use Rattle.er_history.specs.History.{Element, History, element_maker, first_to, makes_element}
use Rattle.er_history.specs.Latest.{latest_of_event, latest_of}
use Rattle.er_history.specs.Rules.{is_deferred}
use Rattle.er_pieces.specs.HandedPieces.{dcl_handed, run_handed}
use Rattle.er_rules.specs.script.Scripts.{before_deferred}

pub run_parts : (t : History) (e : ℕ) → latest_of (element_maker t.entries e) t.actions ++ before_deferred t (first_to (makes_element e) t.entries) ≡ run_handed t (first_to (makes_element e) t.entries)
run_parts t e = of (first_to (makes_element e) t.entries)
  where
    maker_of : Option Element → Option ℕ
    maker_of None = None
    maker_of (Some x) = Some x.maker

    by : Option ℕ → List ℕ
    by None = []
    by (Some d) = dcl_handed t d

    deferred : (x : Element) (b : Bool) → latest_of_event x.maker t.actions ++ by (if b then Some x.doc else None) ≡ latest_of_event x.maker t.actions ++ (if b then dcl_handed t x.doc else [])
    deferred x true = refl
    deferred x false = refl

    of : (o : Option Element) → latest_of (maker_of o) t.actions ++ before_deferred t o ≡ run_handed t o
    of None = refl
    of (Some x) = deferred x (is_deferred x)
