-- Every byte string has an answer.
use Rattle.std.proofs.Common.{◌≡◌, ◌⊎◌, ℕ, ◌+◌, ◌<◌, ◌≤◌, List, [], ◌∷◌, ◌++◌, length, take, reverse, Bool, true, false, nat_lt, Option, None, Some, refl, ap, sym, ◌∙◌, subst, inl, inr, arith, slice_get, append_assoc}
use Rattle.std.proofs.lemmas.Grind.{common_steps}
use Rattle.std.proofs.lemmas.List.{reverse-append, length-reverse}
use Rattle.std.proofs.lemmas.Bool.Decides.{nat_tests}
use Rattle.er_text.specs.declared.causes.Cause.{Cause}
use Rattle.er_trace.specs.declared.record.Record.{Record}
use Rattle.er_trace.specs.declared.version.Version.{Version}
use Rattle.er_run.specs.Legal.{IsLegal, end_cause_for}
use Rattle.er_run.specs.Legal as legality
use Rattle.er_history.specs.Rules.{rules}
use Rattle.er_trace.specs.declared.fault.FeedFault.TheVariants as faults
use Rattle.er_run.specs.declared.input.LineRefusal.{LineRefusal}
use Rattle.er_run.specs.declared.outcome.Outcome.{Outcome}
use Rattle.er_run.specs.declared.outcome.Outcome.TheVariants.{Refused}
use Rattle.er_run.specs.Reading.{HasNoOtherVersion, IsReading}
use Rattle.er_trace.specs.declared.version.Version.TheVariants.{One}
use Rattle.er_lines.specs.Format.{Format, IsFormat}
use Rattle.er_lines.specs.Lines.{Place, Start, After, Ended, LineCause, BeginsWith, Refuses}
use Rattle.er_lines.proofs.LineLaws.{whole_line}
use Rattle.er_lines.proofs.CauseLaws.{cause_at, front_of}
use Rattle.er_lines.proofs.HeaderLaws.{header_of, header_of_whole}
use Rattle.er_lines.proofs.OneReading.{no_header_by, one_beginning}
use Rattle.er_run.specs.Answer.{FirstIllegal, Answers}
use Rattle.er_words.specs.declared.commands.Command.{Command}
use Rattle.er_run.specs.Report.{text_for, refusal_for}
use Rattle.er_run.specs.Session.{IsFaultOf}
use Rattle.er_run.proofs.AcceptLemmas.{IsRead, refused_judged, refused_line, refused_end}
use Rattle.er_run.proofs.AnswerLemmas.{legal_answer}
use Rattle.er_run.proofs.EveryText.{Reads, Whole, Until, every_text}

-- the first record of a list, newest first, that has a cause
record Faulty (v : Version) (h : List Record) : Type 0 where
  newer : List Record
  read : Record
  older : List Record
  cause : Cause
  is : h ≡ newer ++ read ∷ older
  legal : IsLegal (rules v) older
  why : legality.cause (rules v) older read ≡ Some cause

newest : (v : Version) (h : List Record) (x : Record) (o : Option Cause) → o ≡ legality.cause (rules v) h x → IsLegal (rules v) h → IsLegal (rules v) (x ∷ h) ⊎ Faulty v (x ∷ h)
newest v h x None is legal = inl (sym is, legal)
newest v h x (Some c) is legal = inr (record { newer = []; read = x; older = h; cause = c; is = refl; legal = legal; why = sym is })

legal_or_faulty : (v : Version) (h : List Record) → IsLegal (rules v) h ⊎ Faulty v h
legal_or_faulty v [] = inl tt
legal_or_faulty v (x ∷ h) = elim (legal_or_faulty v h) [
  | inl legal ↦ newest v h x (legality.cause (rules v) h x) refl legal
  | inr faulty ↦ inr (record { newer = x ∷ faulty.newer; read = faulty.read; older = faulty.older; cause = faulty.cause; is = ap (λ l. x ∷ l) faulty.is; legal = faulty.legal; why = faulty.why })
]

at_place : (front back : List Record) (x : Record) → slice_get (front ++ x ∷ back) (length front) ≡ Some x
at_place [] back x = refl
at_place (y ∷ front) back x = at_place front back x

front_taken : (front back : List Record) → take (length front) (front ++ back) ≡ front
front_taken [] back = grind (arith, common_steps)
front_taken (y ∷ front) back = ap (λ l. y ∷ l) (front_taken front back)

reverse_twice : (h : List Record) → reverse (reverse h) ≡ h
reverse_twice h = grind (arith, common_steps)

-- as a judgement of the records, oldest first
fault_of : (v : Version) (records : List Record) → (first : Faulty v (reverse records)) → IsFaultOf v records (faults.Refused (length first.older + 2) first.cause)
fault_of v records first =
    let back : records ≡ reverse first.older ++ first.read ∷ reverse first.newer =
    sym (reverse_twice records) ∙ (ap reverse first.is ∙ (reverse-append first.newer (first.read ∷ first.older) ∙ (ap (λ l. l ++ reverse first.newer) (reverse-append (first.read ∷ []) first.older) ∙ append_assoc (reverse first.older) (first.read ∷ []) (reverse first.newer)))) in
    let long : length (reverse first.older) ≡ length first.older = length-reverse first.older in
    let front : take (length first.older) records ≡ reverse first.older = ap (take (length first.older)) back ∙ (ap (λ n. take n (reverse first.older ++ first.read ∷ reverse first.newer)) (sym long) ∙ front_taken (reverse first.older) (first.read ∷ reverse first.newer)) in
    let older : first.older ≡ reverse (take (length first.older) records) = sym (ap reverse front ∙ reverse_twice first.older) in
    let there : slice_get records (length first.older) ≡ Some first.read = ap (λ l. slice_get l (length first.older)) back ∙ (ap (slice_get (reverse first.older ++ first.read ∷ reverse first.newer)) (sym long) ∙ at_place (reverse first.older) (reverse first.newer) first.read) in
    (length first.older, refl, subst (IsLegal (rules v)) older first.legal, (first.read, there, subst (λ l. legality.cause (rules v) l first.read ≡ Some first.cause) older first.why))

-- an answer, and the text that is due
abbrev HasAnswer : Format → Command → List ℕ → Type 0
HasAnswer f asked bytes = (o : Outcome) × (due : List ℕ) × Answers f asked bytes o due

refused : (f : Format) (asked : Command) (bytes : List ℕ) (n : ℕ) (c : Cause) → FirstIllegal f asked bytes n c → HasAnswer f asked bytes
refused f asked bytes n c is = (Refused n c, refusal_for asked n c, (is, refl))

-- behind legal records and no line that is refused the `end` line is refused, or it is
-- within the limits
by_end : (f : Format) (v : Version) (asked : Command) (bytes : List ℕ) (records : List Record) (line : Option LineRefusal) (o : Option Cause) → o ≡ end_cause_for asked v (reverse records) → IsReading f v bytes records line → IsRead records line → IsLegal (rules v) (reverse records)
    → (end_cause_for asked v (reverse records) ≡ None → HasAnswer f asked bytes) → HasAnswer f asked bytes
by_end f v asked bytes records line None is reading read legal answer = answer (sym is)
by_end f v asked bytes records line (Some c) is reading read legal answer = refused f asked bytes (length records + 2) c (refused_end f asked v bytes records line (length records + 2) c reading read legal refl (sym is))

by_line : (f : Format) (v : Version) (asked : Command) (bytes : List ℕ) (records : List Record) (line : LineRefusal) (behind : Bool) → behind ≡ nat_lt (length records + 2) line.line → IsReading f v bytes records (Some line) → IsLegal (rules v) (reverse records) → HasAnswer f asked bytes
by_line f v asked bytes records line false is reading legal =
    let up_to : line.line ≤ length records + 2 = grind (arith, nat_tests) in
    refused f asked bytes line.line line.cause (refused_line f asked v bytes records (Some line) line reading refl legal (λ behind. absurd (omega arith)))
by_line f v asked bytes records line true is reading legal =
    let past : length records + 2 < line.line = grind (arith, nat_tests) in
    by_end f v asked bytes records (Some line) (end_cause_for asked v (reverse records)) refl reading past legal
    (λ within. refused f asked bytes line.line line.cause (refused_line f asked v bytes records (Some line) line reading refl legal (λ behind. within)))

answered : (f : Format) (v : Version) (asked : Command) (bytes : List ℕ) (records : List Record) (line : Option LineRefusal) → IsReading f v bytes records line → IsLegal (rules v) (reverse records) → HasAnswer f asked bytes
answered f v asked bytes records None reading legal =
    by_end f v asked bytes records None (end_cause_for asked v (reverse records)) refl reading tt legal (λ within.
    let found = legal_answer f v asked bytes records (record { is_trace = reading; legal = legal; within = within }) in
    (found.0, text_for v asked (reverse records), found.1))
answered f v asked bytes records (Some line) reading legal = by_line f v asked bytes records line (nat_lt (length records + 2) line.line) refl reading legal

from_reading : (f : Format) (v : Version) (asked : Command) (bytes : List ℕ) (records : List Record) (line : Option LineRefusal) → IsReading f v bytes records line → HasAnswer f asked bytes
from_reading f v asked bytes records line reading = elim (legal_or_faulty v (reverse records)) [
  | inl legal ↦ answered f v asked bytes records line reading legal
  | inr first ↦ refused f asked bytes (length first.older + 2) first.cause (refused_judged f asked v bytes records line (length first.older + 2) first.cause reading (fault_of v records first))
]

-- the version of a place; that of the first line is as good as any
abbrev version_at : Place → Version
version_at Start = One
version_at (After v records) = v
version_at (Ended v records) = v

no_first_line : (f : Format) (bytes before rest : List ℕ) (c : Cause) (w : Version) → before ≡ [] → bytes ≡ before ++ rest → LineCause f Start rest c → BeginsWith f w bytes → ⊥
no_first_line f bytes before rest c w none is cause begins =
    let all : rest ≡ bytes = sym (is ∙ ap (λ b. b ++ rest) none) in
    no_header_by f (whole_line f.most rest) c w begins.first begins.rest (cause_at f Start rest c cause) (front_of f.most rest begins.first begins.rest begins.short (all ∙ begins.begins)) begins.header

by_place : (f : Format) → IsFormat f → (place : Place) (bytes : List ℕ) (c : Cause) → Refuses f bytes place c → HasNoOtherVersion f (version_at place) bytes
by_place f good Start bytes c h = λ w begins. absurd (no_first_line f bytes h.before h.rest c w h.are h.begins h.cause begins)
by_place f good (After v records) bytes c h = λ w begins. one_beginning f good bytes v w (header_of f v bytes h.before h.rest records h.begins h.are) begins
by_place f good (Ended v records) bytes c h = λ w begins. one_beginning f good bytes v w (header_of_whole f v bytes h.before h.rest records h.begins h.are) begins

from_text : (f : Format) → IsFormat f → (asked : Command) (bytes : List ℕ) → Reads f bytes → HasAnswer f asked bytes
from_text f good asked bytes (Whole records (v, trace)) = from_reading f v asked bytes records None trace
from_text f good asked bytes (Until number c records (place, refuses, numbered, same)) =
    let v = version_at place in
    from_reading f v asked bytes records (Some (record { line = number; cause = c })) (place, refuses, numbered, same, by_place f good place bytes c refuses)

pub every_answer : (f : Format) → IsFormat f → (asked : Command) (bytes : List ℕ) → (HasAnswer f asked bytes → ⊥) → ⊥
every_answer f good asked bytes = λ refute. every_text f bytes (λ read. refute (from_text f good asked bytes read))
