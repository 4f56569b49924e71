-- From what was written to the promise of an answer.
use Rattle.std.proofs.Common.{◌≡◌, ◌≢◌, ℕ, List, [], ◌∷◌, Option, refl, sym, ap, ◌∙◌, subst, inl, inr, ◌⊎◌, reverse, ◌+◌, ◌*◌, ◌≤◌}
use Rattle.er_io.specs.Ends.{GetsPart}
use Rattle.er_text.specs.declared.causes.Cause.{Cause}
use Rattle.er_trace.specs.declared.record.Record.{Record}
use Rattle.er_trace.specs.declared.version.Version.{Version}
use Rattle.er_trace.specs.declared.fault.FeedFault.{FeedFault}
use Rattle.er_trace.specs.declared.fault.FeedFault.TheVariants as faults
use Rattle.er_words.specs.declared.commands.Command.{Command}
use Rattle.er_words.specs.declared.commands.Command.TheVariants.{Check, Gen, Schedule, Explain}
use Rattle.er_run.specs.declared.outcome.Outcome.{Outcome}
use Rattle.er_run.specs.declared.outcome.Outcome.TheVariants.{Clean, Races, Usage, Refused, ReadFault, WriteFault, NoMemory}
use Rattle.er_run.specs.declared.findings.Judged.{Judged}
use Rattle.er_lines.specs.Format.{Format, IsFormat}
use Rattle.er_lines.proofs.OneReading.{one_trace}
use Rattle.er_run.specs.Races.{races}
use Rattle.er_run.specs.Report.{text_for, refusal_for}
use Rattle.er_run.specs.Answer.{IsLegalTrace, FirstIllegal, Answers, outcome_of, outcome_for}
use Rattle.er_run.specs.Promise.{IsAnswer, IsGiven, IsPartGiven, Compares, Tests, compared_for, tested_for}
use Rattle.er_run.specs.Accepted.{IsAccepted, IsComparedFor, IsTestedFor, IsRefusal, ReportsOf, FailedAs, RefusedAs}

of_list : {X : Type 0} (xs : List X) → (outcome_of xs ≡ Clean) ⊎ (outcome_of xs ≡ Races)
of_list {X} [] = inl refl
of_list {X} (x ∷ xs) = inr refl

-- a legal trace ends in one of two ways
pub ends_so : (asked : Command) (v : Version) (h : List Record) → (outcome_for asked v h ≡ Clean) ⊎ (outcome_for asked v h ≡ Races)
ends_so (Check json input) v h = of_list (races v h)
ends_so (Gen n) v h = of_list (races v h)
ends_so (Schedule k) v h = of_list (races v h)
ends_so (Explain i j) v h = inl refl

-- a legal trace answers its text, whichever outcome that is
pub legal_answer : (f : Format) (v : Version) (asked : Command) (bytes : List ℕ) (records : List Record) → IsLegalTrace f asked v bytes records → (outcome : Outcome) × Answers f asked bytes outcome (text_for v asked (reverse records))
legal_answer f v asked bytes records legal =
    elim (ends_so asked v (reverse records)) [ inl clean ↦ (Clean, (v, records, legal, clean, refl)) | inr some ↦ (Races, (v, records, legal, some, refl)) ]

pub cut_report : (f : Format) (v : Version) (asked : Command) (bytes : List ℕ) (records : List Record) (result : Outcome) (old new : Option (List ℕ)) → IsLegalTrace f asked v bytes records
    → ReportsOf asked v (reverse records) (text_for v asked (reverse records)) result old new → result ≡ WriteFault → IsPartGiven f asked bytes old new
cut_report f v asked bytes records result old new legal came is =
    let part : GetsPart old (text_for v asked (reverse records)) new = subst (λ r. ReportsOf asked v (reverse records) (text_for v asked (reverse records)) r old new) is came in
    let any = legal_answer f v asked bytes records legal in
    record { outcome = any.0; due = text_for v asked (reverse records); answers = any.1; gave = part }

cut_refusal : (f : Format) (asked : Command) (bytes : List ℕ) (n : ℕ) (c : Cause) (result : Outcome) (old new : Option (List ℕ)) → FirstIllegal f asked bytes n c → RefusedAs n c (refusal_for asked n c) result old new → result ≡ WriteFault
    → IsPartGiven f asked bytes old new
cut_refusal f asked bytes n c result old new refused came is =
    let part : GetsPart old (refusal_for asked n c) new = subst (λ r. RefusedAs n c (refusal_for asked n c) r old new) is came in
    record { outcome = Refused n c; due = refusal_for asked n c; answers = (refused, refl); gave = part }

given_refusal : (f : Format) (asked : Command) (bytes : List ℕ) (n : ℕ) (c : Cause) (result : Outcome) (old new : Option (List ℕ)) → FirstIllegal f asked bytes n c → RefusedAs n c (refusal_for asked n c) result old new → IsAnswer result
    → IsGiven f asked bytes result old new
given_refusal f asked bytes n c (Refused m d) old new refused came answer = record {
  due = refusal_for asked n c;
  answers = (subst (λ k. FirstIllegal f asked bytes k d) (sym came.0) (subst (λ why. FirstIllegal f asked bytes n why) (sym came.1) refused), ap (λ k. refusal_for asked k c) (sym came.0) ∙ ap (λ why. refusal_for asked m why) (sym came.1));
  gave = came.2;
}
given_refusal f asked bytes n c Clean old new refused came answer = absurd came
given_refusal f asked bytes n c Races old new refused came answer = absurd came
given_refusal f asked bytes n c WriteFault old new refused came answer = absurd answer
given_refusal f asked bytes n c Usage old new refused came answer = absurd answer
given_refusal f asked bytes n c ReadFault old new refused came answer = absurd answer
given_refusal f asked bytes n c NoMemory old new refused came answer = absurd answer

pub given_fault : (f : Format) (asked : Command) (bytes : List ℕ) (fault : FeedFault) (result : Outcome) (old new : Option (List ℕ)) → IsRefusal f asked bytes fault → FailedAs asked fault result old new → IsAnswer result → IsGiven f asked bytes result old new
given_fault f asked bytes (faults.Refused n c) result old new refused came answer = given_refusal f asked bytes n c result old new refused came answer
given_fault f asked bytes faults.NoMemory result old new refused came answer = absurd (subst IsAnswer came answer)

pub cut_fault : (f : Format) (asked : Command) (bytes : List ℕ) (fault : FeedFault) (result : Outcome) (old new : Option (List ℕ)) → IsRefusal f asked bytes fault → FailedAs asked fault result old new → result ≡ WriteFault → IsPartGiven f asked bytes old new
cut_fault f asked bytes (faults.Refused n c) result old new refused came is = cut_refusal f asked bytes n c result old new refused came is
cut_fault f asked bytes faults.NoMemory result old new refused came is = absurd (cc)

pub given_report : (f : Format) (v : Version) (asked : Command) (bytes : List ℕ) (records : List Record) (result : Outcome) (old new : Option (List ℕ)) → IsLegalTrace f asked v bytes records → ReportsOf asked v (reverse records) (text_for v asked (reverse records)) result old new
    → IsAnswer result → IsGiven f asked bytes result old new
given_report f v asked bytes records Clean old new legal came answer = record { due = text_for v asked (reverse records); answers = (v, records, legal, came.0, refl); gave = came.1 }
given_report f v asked bytes records Races old new legal came answer = record { due = text_for v asked (reverse records); answers = (v, records, legal, came.0, refl); gave = came.1 }
given_report f v asked bytes records (Refused n c) old new legal came answer = absurd came
given_report f v asked bytes records WriteFault old new legal came answer = absurd answer
given_report f v asked bytes records Usage old new legal came answer = absurd answer
given_report f v asked bytes records ReadFault old new legal came answer = absurd answer
given_report f v asked bytes records NoMemory old new legal came answer = absurd answer

-- the comparisons that were made

compares_by : (f : Format) (asked : Command) (bytes : List ℕ) (outcome : Outcome) (old new : ℕ) → ((v : Version) (records : List Record) → IsLegalTrace f asked v bytes records → new ≡ old + compared_for asked (reverse records)) → Compares f asked bytes outcome old new
compares_by f asked bytes Clean old new once = once
compares_by f asked bytes Races old new once = once
compares_by f asked bytes (Refused n c) old new once = tt
compares_by f asked bytes WriteFault old new once = tt
compares_by f asked bytes Usage old new once = tt
compares_by f asked bytes ReadFault old new once = tt
compares_by f asked bytes NoMemory old new once = tt

pub compares_report : (f : Format) → IsFormat f → (asked : Command) (bytes : List ℕ) (judged : Judged) (outcome : Outcome) (old new : ℕ) → IsAccepted f asked bytes judged → IsComparedFor asked judged.session old new → Compares f asked bytes outcome old new
compares_report f good asked bytes judged outcome old new accepted compared =
    compares_by f asked bytes outcome old new (λ v records legal.
    let both = one_trace f good bytes judged.session.graph.version v accepted.records records accepted.legal.is_trace legal.is_trace in
    let same : accepted.records ≡ records = both.1 in
    compared (reverse accepted.records) accepted.is_judged.stands ∙ ap (λ rs. old + compared_for asked (reverse rs)) same)

compares_refusal : (f : Format) (asked : Command) (bytes : List ℕ) (n : ℕ) (c : Cause) (due : List ℕ) (outcome : Outcome) (got_old got_new : Option (List ℕ)) (old new : ℕ) → RefusedAs n c due outcome got_old got_new → Compares f asked bytes outcome old new
compares_refusal f asked bytes n c due (Refused m d) got_old got_new old new came = tt
compares_refusal f asked bytes n c due WriteFault got_old got_new old new came = tt
compares_refusal f asked bytes n c due Clean got_old got_new old new came = absurd came
compares_refusal f asked bytes n c due Races got_old got_new old new came = absurd came
compares_refusal f asked bytes n c due Usage got_old got_new old new came = absurd came
compares_refusal f asked bytes n c due ReadFault got_old got_new old new came = absurd came
compares_refusal f asked bytes n c due NoMemory got_old got_new old new came = absurd came

pub compares_fault : (f : Format) (asked : Command) (bytes : List ℕ) (fault : FeedFault) (outcome : Outcome) (got_old got_new : Option (List ℕ)) (old new : ℕ) → FailedAs asked fault outcome got_old got_new → Compares f asked bytes outcome old new
compares_fault f asked bytes (faults.Refused n c) outcome got_old got_new old new came = compares_refusal f asked bytes n c (refusal_for asked n c) outcome got_old got_new old new came
compares_fault f asked bytes faults.NoMemory outcome got_old got_new old new came = subst (λ o. Compares f asked bytes o old new) (sym came) tt

-- the tests that were made

abbrev AreFew : Command → Version → List Record → ℕ → ℕ → Type 0
AreFew asked v records old new = (old ≤ new) × (new ≤ old + 4 * tested_for asked v (reverse records))

tests_by : (f : Format) (asked : Command) (bytes : List ℕ) (outcome : Outcome) (old new : ℕ) → ((v : Version) (records : List Record) → IsLegalTrace f asked v bytes records → AreFew asked v records old new) → Tests f asked bytes outcome old new
tests_by f asked bytes Clean old new few = few
tests_by f asked bytes Races old new few = few
tests_by f asked bytes (Refused n c) old new few = tt
tests_by f asked bytes WriteFault old new few = tt
tests_by f asked bytes Usage old new few = tt
tests_by f asked bytes ReadFault old new few = tt
tests_by f asked bytes NoMemory old new few = tt

pub tests_report : (f : Format) → IsFormat f → (asked : Command) (bytes : List ℕ) (judged : Judged) (outcome : Outcome) (old new : ℕ) → IsAccepted f asked bytes judged → IsTestedFor asked judged.session old new → Tests f asked bytes outcome old new
tests_report f good asked bytes judged outcome old new accepted tested =
    tests_by f asked bytes outcome old new (λ v records legal.
    let both = one_trace f good bytes judged.session.graph.version v accepted.records records accepted.legal.is_trace legal.is_trace in
    subst (λ u. AreFew asked u records old new) both.0 (subst (λ rs. AreFew asked judged.session.graph.version rs old new) both.1 (tested (reverse accepted.records) accepted.is_judged.stands)))

tests_refusal : (f : Format) (asked : Command) (bytes : List ℕ) (n : ℕ) (c : Cause) (due : List ℕ) (outcome : Outcome) (got_old got_new : Option (List ℕ)) (old new : ℕ) → RefusedAs n c due outcome got_old got_new → Tests f asked bytes outcome old new
tests_refusal f asked bytes n c due (Refused m d) got_old got_new old new came = tt
tests_refusal f asked bytes n c due WriteFault got_old got_new old new came = tt
tests_refusal f asked bytes n c due Clean got_old got_new old new came = absurd came
tests_refusal f asked bytes n c due Races got_old got_new old new came = absurd came
tests_refusal f asked bytes n c due Usage got_old got_new old new came = absurd came
tests_refusal f asked bytes n c due ReadFault got_old got_new old new came = absurd came
tests_refusal f asked bytes n c due NoMemory got_old got_new old new came = absurd came

pub tests_fault : (f : Format) (asked : Command) (bytes : List ℕ) (fault : FeedFault) (outcome : Outcome) (got_old got_new : Option (List ℕ)) (old new : ℕ) → FailedAs asked fault outcome got_old got_new → Tests f asked bytes outcome old new
tests_fault f asked bytes (faults.Refused n c) outcome got_old got_new old new came = tests_refusal f asked bytes n c (refusal_for asked n c) outcome got_old got_new old new came
tests_fault f asked bytes faults.NoMemory outcome got_old got_new old new came = subst (λ o. Tests f asked bytes o old new) (sym came) tt

-- a text comes neither of words nor of a failed read
pub reports_no_usage : (asked : Command) (v : Version) (h : List Record) (due : List ℕ) (result : Outcome) (old new : Option (List ℕ)) → ReportsOf asked v h due result old new → result ≢ Usage
reports_no_usage asked v h due result old new came is = subst (λ r. ReportsOf asked v h due r old new) is came

pub reports_no_read_fault : (asked : Command) (v : Version) (h : List Record) (due : List ℕ) (result : Outcome) (old new : Option (List ℕ)) → ReportsOf asked v h due result old new → result ≢ ReadFault
reports_no_read_fault asked v h due result old new came is = subst (λ r. ReportsOf asked v h due r old new) is came

refused_no_usage : (n : ℕ) (c : Cause) (due : List ℕ) (result : Outcome) (old new : Option (List ℕ)) → RefusedAs n c due result old new → result ≢ Usage
refused_no_usage n c due result old new came is = subst (λ r. RefusedAs n c due r old new) is came

refused_no_read_fault : (n : ℕ) (c : Cause) (due : List ℕ) (result : Outcome) (old new : Option (List ℕ)) → RefusedAs n c due result old new → result ≢ ReadFault
refused_no_read_fault n c due result old new came is = subst (λ r. RefusedAs n c due r old new) is came

pub failed_no_usage : (asked : Command) (fault : FeedFault) (result : Outcome) (old new : Option (List ℕ)) → FailedAs asked fault result old new → result ≢ Usage
failed_no_usage asked (faults.Refused n c) result old new came = refused_no_usage n c (refusal_for asked n c) result old new came
failed_no_usage asked faults.NoMemory result old new came = λ is. cc

pub failed_no_read_fault : (asked : Command) (fault : FeedFault) (result : Outcome) (old new : Option (List ℕ)) → FailedAs asked fault result old new → result ≢ ReadFault
failed_no_read_fault asked (faults.Refused n c) result old new came = refused_no_read_fault n c (refusal_for asked n c) result old new came
failed_no_read_fault asked faults.NoMemory result old new came = λ is. cc

-- if an allocation failed, this is the outcome
pub failed_no_memory : (asked : Command) (fault : FeedFault) (result : Outcome) (old new : Option (List ℕ)) → fault ≡ faults.NoMemory → FailedAs asked fault result old new → result ≡ NoMemory
failed_no_memory asked fault result old new is came = subst (λ (e : FeedFault). FailedAs asked e result old new) is came
