-- From what was put to how the run ends.
use Rattle.std.proofs.Common.{◌≡◌, ◌≢◌, ℕ, ◌≤◌, ◌∙◌, List, [], ◌∷◌, Option, Result, Ok, Err, refl, sym, subst, length, inl, inr, arith}
use Rattle.std.specs.Prelude.{OnOk, OnErr}
use Rattle.er_io.specs.Ends.{Gets, GetsPart, Rose, one_more}
use Rattle.er_trace.specs.declared.record.Record.{Record}
use Rattle.er_trace.specs.declared.version.Version.{Version}
use Rattle.er_races.specs.declared.race.Race.{Race}
use Rattle.er_run.specs.declared.outcome.Outcome.{Outcome}
use Rattle.er_run.specs.declared.outcome.Outcome.TheVariants.{Clean, Races, WriteFault, NoMemory}
use Rattle.er_words.specs.declared.commands.Command.{Command}
use Rattle.er_run.specs.Answer.{outcome_for, outcome_of}
use Rattle.er_run.specs.Races.{races}
use Rattle.er_run.specs.Promise.{Counts}
use Rattle.er_run.specs.Accepted.{AreListed, EndsAs, ReportsOf}
use Rattle.er_run.proofs.AnswerLemmas.{ends_so}
use Rattle.er_run.proofs.JudgedLemmas.{as_many_found}

-- the outcome of a trace, by the races that were found

same_outcome : {X Y : Type 0} (xs : List X) (ys : List Y) → length xs ≡ length ys → outcome_of xs ≡ outcome_of ys
same_outcome [] [] e = refl
same_outcome (x ∷ xs) (y ∷ ys) e = refl
same_outcome [] (y ∷ ys) e = absurd (omega (arith, e))
same_outcome (x ∷ xs) [] e = absurd (omega (arith, e))

pub outcome_found : (v : Version) (h : List Record) (found : List Race) → AreListed v found h → outcome_of (races v h) ≡ outcome_of found
outcome_found v h found l = sym (same_outcome found (races v h) (as_many_found v found h l))

some_outcome : {X : Type 0} (xs : List X) → 1 ≤ length xs → outcome_of xs ≡ Races
some_outcome [] some = absurd (omega (arith, some))
some_outcome (x ∷ xs) some = refl

pub outcome_some : (v : Version) (h : List Record) (found : List Race) (k : ℕ) → AreListed v found h → 1 ≤ k → k ≤ length found → outcome_of (races v h) ≡ Races
outcome_some v h found k l least within = outcome_found v h found l ∙ some_outcome found (omega (arith, least, within))

-- what came of a text that was put
pub record Ends (old new : ℕ) (result : Outcome) : Type 0 where
  pub faults : Counts WriteFault result old new
  pub no_memory : result ≢ NoMemory

-- where the write failed
failed_write : (result : Outcome) (old new : ℕ) → result ≡ WriteFault → Rose old new → new ≡ one_more old → old ≤ new → Counts WriteFault result old new
failed_write result old new is cause raised count = record { rose = λ _. cause; once = λ _. raised; stands = λ other. absurd (other is); count = count }

-- and where none did
no_failed_write : (result : Outcome) (old new : ℕ) → result ≢ WriteFault → new ≡ old → old ≤ new → Counts WriteFault result old new
no_failed_write result old new other stands count = record { rose = λ is. absurd (other is); once = λ is. absurd (other is); stands = λ _. stands; count = count }

-- a report

pub ends_report : {E : Type 0} (asked : Command) (v : Version) (h : List Record) (due : Outcome) (old new : ℕ) (written : Result Unit E) (result : Outcome) → due ≡ outcome_for asked v h → EndsAs due written result
    → OnOk written (new ≡ old) → OnErr written (Rose old new) → OnErr written (new ≡ one_more old) → old ≤ new → Ends old new result
ends_report {E} asked v h due old new (Ok done) result is ends stands cause raised count = elim (ends_so asked v h) [
  | inl clean ↦ let e : result ≡ Clean = ends ∙ (is ∙ clean) in record { faults = no_failed_write result old new (λ w. cc) stands count; no_memory = λ w. cc }
  | inr some ↦ let e : result ≡ Races = ends ∙ (is ∙ some) in record { faults = no_failed_write result old new (λ w. cc) stands count; no_memory = λ w. cc }
]
ends_report {E} asked v h due old new (Err fault) result is ends stands cause raised count = record { faults = failed_write result old new ends cause raised count; no_memory = λ w. cc }

pub reports : {E : Type 0} (asked : Command) (v : Version) (h : List Record) (text : List ℕ) (due : Outcome) (written : Result Unit E) (result : Outcome) (old new : Option (List ℕ)) → outcome_for asked v h ≡ due → EndsAs due written result
    → OnOk written (Gets old text new) → OnErr written (GetsPart old text new) → ReportsOf asked v h text result old new
reports {E} asked v h text due (Ok done) result old new same ends whole part = elim (ends_so asked v h) [
  | inl clean ↦ subst (λ r. ReportsOf asked v h text r old new) (sym (ends ∙ (sym same ∙ clean))) (clean, whole)
  | inr some ↦ subst (λ r. ReportsOf asked v h text r old new) (sym (ends ∙ (sym same ∙ some))) (some, whole)
]
reports {E} asked v h text due (Err fault) result old new same ends whole part = subst (λ r. ReportsOf asked v h text r old new) (sym ends) part
