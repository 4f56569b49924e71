-- What was taken answers as all that the source held.
use Rattle.std.proofs.Common.{◌≡◌, ◌≢◌, ℕ, List, [], ◌++◌, Option, Some, None, refl, sym, ap, ◌∙◌, subst, inl, inr, ◌⊎◌, ⊎_elim, arith, append_assoc}
use Rattle.std.specs.Prelude.{option_map}
use Rattle.std.proofs.lemmas.Grind.{common_steps}
use Rattle.er_text.specs.declared.causes.Cause.{Cause}
use Rattle.er_text.specs.declared.causes.Cause.TheVariants.{NoEnd}
use Rattle.er_trace.specs.Trace.{line}
use Rattle.er_lines.specs.Format.{Format, IsFormat}
use Rattle.er_lines.proofs.StopLaws.{longer as longer_refusal}
use Rattle.er_words.specs.declared.commands.Command.{Command}
use Rattle.er_run.specs.declared.outcome.Outcome.{Outcome}
use Rattle.er_run.specs.declared.outcome.Outcome.TheVariants.{Clean, Races, Usage, Refused, ReadFault, WriteFault, NoMemory}
use Rattle.er_run.specs.Answer.{Answers, FirstIllegal}
use Rattle.er_run.proofs.IllegalLines.{of_line, of_record, of_end, Kinds, ByLine, ByRecord, ByEnd, kinds}
use Rattle.er_io.specs.Ends.{IsSpent}
use Rattle.er_run.specs.Report.{refusal_for}
use Rattle.er_run.specs.Promise.{IsAnswer, IsSilent, IsGiven, IsDecided}
use Rattle.er_run.proofs.OneAnswer.{answer_once}

begins_more : (bytes more before there rest : List ℕ) → bytes ≡ before ++ (there ++ rest) → bytes ++ more ≡ before ++ (there ++ (rest ++ more))
begins_more bytes more before there rest is = (ap (λ b. b ++ more) is ∙ append_assoc before (there ++ rest) more) ∙ ap (λ b. before ++ b) (append_assoc there rest more)

-- a refusal other than for a missing end is that of every longer input

longer_by : (f : Format) (asked : Command) (bytes more : List ℕ) (n : ℕ) (c : Cause) → Kinds f asked bytes n c → c ≢ NoEnd → FirstIllegal f asked (bytes ++ more) n c
longer_by f asked bytes more n c (ByLine place number legal h) other = of_line f asked (bytes ++ more) n c place number legal (longer_refusal f bytes more place c h other)
longer_by f asked bytes more n c (ByRecord v earlier number legal h) other = of_record f asked (bytes ++ more) n c v earlier number legal (record {
  before = h.before;
  are = h.are;
  few = h.few;
  read = h.read;
  l = h.l;
  short = h.short;
  spells = h.spells;
  rest = h.rest ++ more;
  begins = begins_more bytes more h.before (line h.l) h.rest h.begins;
  cause = h.cause;
})
longer_by f asked bytes more n c (ByEnd v earlier number legal h) other = of_end f asked (bytes ++ more) n c v earlier number legal (record {
  before = h.before;
  are = h.are;
  few = h.few;
  l = h.l;
  short = h.short;
  end = h.end;
  rest = h.rest ++ more;
  begins = begins_more bytes more h.before (line h.l) h.rest h.begins;
  cause = h.cause;
})

pub longer : (f : Format) (asked : Command) (bytes more : List ℕ) (n : ℕ) (c : Cause) → FirstIllegal f asked bytes n c → c ≢ NoEnd → FirstIllegal f asked (bytes ++ more) n c
longer f asked bytes more n c h other = longer_by f asked bytes more n c (kinds f asked bytes n c h) other

-- where nothing is left, each outcome is decided
pub spent_decided : (f : Format) (asked : Command) (taken : List ℕ) (left : Option (List ℕ)) (outcome : Outcome) → IsSpent left → IsDecided f asked taken left outcome
spent_decided f asked taken left Clean spent = spent
spent_decided f asked taken left Races spent = spent
spent_decided f asked taken left (Refused n c) spent = inl spent
spent_decided f asked taken left Usage spent = spent
spent_decided f asked taken left ReadFault spent = spent
spent_decided f asked taken left WriteFault spent = spent
spent_decided f asked taken left NoMemory spent = spent

-- bytes that are refused answer that refusal, which is decided
pub refused_decided : (f : Format) → IsFormat f → (asked : Command) (taken : List ℕ) (left : Option (List ℕ)) (n : ℕ) (c : Cause) (outcome : Outcome) (due : List ℕ) → IsDecided f asked taken left (Refused n c) → FirstIllegal f asked taken n c → Answers f asked taken outcome due → IsDecided f asked taken left outcome
refused_decided f good asked taken left n c outcome due decided refused a =
    let same : outcome ≡ Refused n c = (answer_once f good asked taken outcome (Refused n c) due (refusal_for asked n c) a (refused, refl)).0 in
    subst (IsDecided f asked taken left) (sym same) decided

-- so what was taken answers as all that was there

all_or_more : (f : Format) (asked : Command) (taken rest : List ℕ) (outcome : Outcome) (due : List ℕ) → IsDecided f asked taken (Some rest) outcome → Answers f asked taken outcome due → (rest ≡ []) ⊎ Answers f asked (taken ++ rest) outcome due
all_or_more f asked taken rest Clean due decided a = inl decided
all_or_more f asked taken rest Races due decided a = inl decided
all_or_more f asked taken rest (Refused n c) due decided a = ⊎_elim inl (λ just. inr (longer f asked taken rest n c a.0 just.other, a.1)) decided
all_or_more f asked taken rest Usage due decided a = inl decided
all_or_more f asked taken rest ReadFault due decided a = inl decided
all_or_more f asked taken rest WriteFault due decided a = inl decided
all_or_more f asked taken rest NoMemory due decided a = inl decided

answers_all : (f : Format) (asked : Command) (bytes taken : List ℕ) (left : Option (List ℕ)) (outcome : Outcome) (due : List ℕ) → Some bytes ≡ option_map (λ rest. taken ++ rest) left → IsDecided f asked taken left outcome → Answers f asked taken outcome due
    → Answers f asked bytes outcome due
answers_all f asked bytes taken None outcome due held decided a = absurd (cc)
answers_all f asked bytes taken (Some rest) outcome due held decided a =
    let same : bytes ≡ taken ++ rest = cc in
    let is_all : rest ≡ [] → bytes ≡ taken = λ none. grind (arith, common_steps) in
    ⊎_elim (λ none. subst (λ bs. Answers f asked bs outcome due) (sym (is_all none)) a) (λ more. subst (λ bs. Answers f asked bs outcome due) (sym same) more) (all_or_more f asked taken rest outcome due decided a)

-- an outcome that no fault explains is an answer, or out of memory
pub answered_or_none : (f : Format) (asked : Command) (bytes : List ℕ) (got_old got_new : Option (List ℕ)) (outcome : Outcome) → (IsAnswer outcome → IsGiven f asked bytes outcome got_old got_new) → (outcome ≡ WriteFault → ⊥) → outcome ≢ Usage
    → outcome ≢ ReadFault → (outcome ≡ NoMemory) ⊎ ((due : List ℕ) × Answers f asked bytes outcome due)
answered_or_none f asked bytes got_old got_new Clean given no_write no_usage no_read = let g = given tt in inr (g.due, g.answers)
answered_or_none f asked bytes got_old got_new Races given no_write no_usage no_read = let g = given tt in inr (g.due, g.answers)
answered_or_none f asked bytes got_old got_new (Refused n c) given no_write no_usage no_read = let g = given tt in inr (g.due, g.answers)
answered_or_none f asked bytes got_old got_new Usage given no_write no_usage no_read = absurd (no_usage refl)
answered_or_none f asked bytes got_old got_new ReadFault given no_write no_usage no_read = absurd (no_read refl)
answered_or_none f asked bytes got_old got_new WriteFault given no_write no_usage no_read = absurd (no_write refl)
answered_or_none f asked bytes got_old got_new NoMemory given no_write no_usage no_read = inl refl

-- and one that leaves the sink as it was is out of memory
pub only_memory : (outcome : Outcome) → IsSilent outcome → outcome ≢ Usage → outcome ≢ ReadFault → outcome ≡ NoMemory
only_memory Clean silent no_usage no_read = absurd silent
only_memory Races silent no_usage no_read = absurd silent
only_memory (Refused n c) silent no_usage no_read = absurd silent
only_memory Usage silent no_usage no_read = absurd (no_usage refl)
only_memory ReadFault silent no_usage no_read = absurd (no_read refl)
only_memory WriteFault silent no_usage no_read = absurd silent
only_memory NoMemory silent no_usage no_read = refl

-- and the answer is that of all bytes, where those that were taken are all, or too many
pub complete : (f : Format) (asked : Command) (bytes taken : List ℕ) (left got_old got_new : Option (List ℕ)) (outcome : Outcome) → Some bytes ≡ option_map (λ rest. taken ++ rest) left → ((due : List ℕ) → Answers f asked taken outcome due → IsDecided f asked taken left outcome)
    → (IsAnswer outcome → IsGiven f asked taken outcome got_old got_new) → (outcome ≡ WriteFault → ⊥) → outcome ≢ Usage → outcome ≢ ReadFault → (outcome ≡ NoMemory) ⊎ ((due : List ℕ) × Answers f asked bytes outcome due)
complete f asked bytes taken left got_old got_new outcome held decided given no_write no_usage no_read = elim (answered_or_none f asked taken got_old got_new outcome given no_write no_usage no_read) [
  | inl none ↦ inl none
  | inr answer ↦ inr (answer.0, answers_all f asked bytes taken left outcome answer.0 held (decided answer.0 answer.1) answer.1)
]
