-- From what was read and judged to the answer of the bytes.
use Rattle.std.proofs.Common.{◌≡◌, ℕ, ◌+◌, ◌<◌, ◌≤◌, List, [], ◌∷◌, ◌++◌, length, take, refl, sym, ap, ◌∙◌, subst, arith, reverse, Option, Some, None, zero, suc, append_assoc, append-nil, slice_get}
use Rattle.std.proofs.lemmas.Option.{slice_get_within}
use Rattle.er_run.specs.declared.input.LineRefusal.{LineRefusal}
use Rattle.er_run.specs.Session.{IsFaultOf}
use Rattle.er_trace.specs.declared.fault.FeedFault.{FeedFault}
use Rattle.er_trace.specs.declared.fault.FeedFault.TheVariants as faults
use Rattle.std.proofs.lemmas.List.{length-reverse}
use Rattle.er_run.specs.Accepted.{IsRefusal, IsEndFault}
use Rattle.er_run.specs.Reading.{HasNoOtherVersion, IsReading}
use Rattle.er_text.specs.declared.causes.Cause.{Cause}
use Rattle.er_trace.specs.declared.record.Record.{Record}
use Rattle.er_trace.specs.declared.version.Version.{Version}
use Rattle.er_trace.specs.Trace.{line, most_lines}
use Rattle.er_lines.specs.Format.{Format}
use Rattle.er_lines.specs.Lines.{Place, Start, After, Ended, records_before, line_number, IsShort, AreLines, AreBehind, AreBefore, Refuses}
use Rattle.er_lines.proofs.HeaderLaws.{header_of, header_of_whole}
use Rattle.er_run.specs.Legal.{IsLegal, end_cause_for}
use Rattle.er_run.specs.Legal as legality
use Rattle.er_words.specs.declared.commands.Command.{Command}
use Rattle.er_history.specs.Rules.{rules}
use Rattle.er_run.specs.Answer.{IsLegalTrace, IsLegalBefore, FirstIllegal}
use Rattle.er_run.proofs.IllegalLines.{of_line, of_record, of_end}

-- a list around one of its members
pub record Around {X : Type 0} (xs : List X) (at : ℕ) (x : X) : Type 0 where
  pub earlier : List X
  pub later : List X
  pub is : xs ≡ earlier ++ x ∷ later
  pub taken : take at xs ≡ earlier
  pub count : length earlier ≡ at

pub around : {X : Type 0} (xs : List X) (at : ℕ) (x : X) → slice_get xs at ≡ Some x → Around xs at x
around {X} [] at x e = absurd (cc)
around {X} (y ∷ ys) zero x e = record { earlier = []; later = ys; is = let same : y ≡ x = cc in ap (λ z. z ∷ ys) same; taken = refl; count = refl }
around {X} (y ∷ ys) (suc k) x e =
    let r = around ys k x e in
    record { earlier = y ∷ r.earlier; later = r.later; is = ap (λ zs. y ∷ zs) r.is; taken = ap (λ zs. y ∷ zs) r.taken; count = ap suc r.count }

-- lines around one of them
pub record LinesAround (f : Format) (v : Version) (bytes : List ℕ) (earlier : List Record) (x : Record) (later : List Record) : Type 0 where
  pub before : List ℕ
  pub are : AreLines f v before earlier
  pub l : List ℕ
  pub short : IsShort f.most l
  pub spells : f.Spells v l x
  pub rest : List ℕ
  pub begins : bytes ≡ before ++ (line l ++ rest)

lines_around : (f : Format) (v : Version) (bytes : List ℕ) (earlier : List Record) (x : Record) (later : List Record) → AreLines f v bytes (earlier ++ x ∷ later) → LinesAround f v bytes earlier x later
lines_around f v bytes [] x later are = record { before = []; are = refl; l = are.0; short = are.2; spells = are.3; rest = are.1; begins = are.4 }
lines_around f v bytes (y ∷ earlier) x later are =
    let r : LinesAround f v are.1 earlier x later = lines_around f v are.1 earlier x later are.5 in
    record {
      before = line are.0 ++ r.before;
      are = (are.0, r.before, are.2, are.3, refl, r.are);
      l = r.l;
      short = r.short;
      spells = r.spells;
      rest = r.rest;
      begins = (are.4 ∙ ap (λ b. line are.0 ++ b) r.begins) ∙ sym (append_assoc (line are.0) r.before (line r.l ++ r.rest));
    }

-- the record at that place of those that were read is the first illegal one
pub illegal_record : (f : Format) (asked : Command) (v : Version) (bytes front more : List ℕ) (records : List Record) (at : ℕ) (x : Record) (c : Cause) → bytes ≡ front ++ more → AreBehind f v front records → length records + 1 ≤ most_lines
    → slice_get records at ≡ Some x → IsLegal (rules v) (reverse (take at records)) → legality.cause (rules v) (reverse (take at records)) x ≡ Some c → FirstIllegal f asked bytes (at + 2) c
illegal_record f asked v bytes front more records at x c spelled are few found legal cause =
    let r = around records at x found in
    let there : AreLines f v are.later (r.earlier ++ x ∷ r.later) = subst (AreLines f v are.later) r.is are.lines in
    let a : LinesAround f v are.later r.earlier x r.later = lines_around f v are.later r.earlier x r.later there in
    let within : length r.earlier + 2 ≤ most_lines = omega (arith, r.count, slice_get_within records at x found) in
    let front_is : front ≡ (line are.first ++ a.before) ++ (line a.l ++ a.rest) = (are.begins ∙ ap (λ b. line are.first ++ b) a.begins) ∙ sym (append_assoc (line are.first) a.before (line a.l ++ a.rest)) in
    of_record f asked bytes (at + 2) c v r.earlier (omega (arith, r.count)) (subst (λ h. IsLegal (rules v) (reverse h)) r.taken legal) (record {
      before = line are.first ++ a.before;
      are = record { first = are.first; short = are.short; header = are.header; later = a.before; begins = refl; lines = a.are };
      few = within;
      read = x;
      l = a.l;
      short = a.short;
      spells = a.spells;
      rest = a.rest ++ more;
      begins = ((spelled ∙ ap (λ b. b ++ more) front_is) ∙ append_assoc (line are.first ++ a.before) (line a.l ++ a.rest) more) ∙ ap (λ b. (line are.first ++ a.before) ++ b) (append_assoc (line a.l) a.rest more);
      cause = subst (λ h. legality.cause (rules v) (reverse h) x ≡ Some c) r.taken cause;
    })

-- the place is of no other version
abbrev pub IsOf : Version → Place → Type 0
IsOf v Start = Unit {0}
IsOf v (After w records) = v ≡ w
IsOf v (Ended w records) = v ≡ w

pub place_of : (f : Format) (v : Version) (bytes : List ℕ) (place : Place) (before rest : List ℕ) → AreBefore f place before → bytes ≡ before ++ rest → HasNoOtherVersion f v bytes → IsOf v place
place_of f v bytes Start before rest are begins by = tt
place_of f v bytes (After w records) before rest are begins by = by w (header_of f w bytes before rest records begins are)
place_of f v bytes (Ended w records) before rest are begins by = by w (header_of_whole f w bytes before rest records begins are)

-- that stand before a place
pub illegal_before : (f : Format) (asked : Command) (v : Version) (bytes : List ℕ) (place : Place) (before rest : List ℕ) (records : List Record) → IsOf v place → AreBefore f place before → line_number place ≤ most_lines + 1 → bytes ≡ before ++ rest → records ≡ records_before place
    → (at : ℕ) (x : Record) (c : Cause) → slice_get records at ≡ Some x → IsLegal (rules v) (reverse (take at records)) → legality.cause (rules v) (reverse (take at records)) x ≡ Some c → FirstIllegal f asked bytes (at + 2) c
illegal_before f asked v bytes Start before rest records of are few begins same at x c found legal cause = let none : slice_get {X = Record} [] at ≡ Some x = subst (λ rs. slice_get rs at ≡ Some x) same found in absurd (cc)
illegal_before f asked v bytes (After w earlier) before rest records of are few begins same at x c found legal cause =
    illegal_record f asked w bytes before rest records at x c begins (subst (AreBehind f w before) (sym same) are) (omega (arith, ap length same, few)) found
    (subst (λ u. IsLegal (rules u) (reverse (take at records))) of legal) (subst (λ u. legality.cause (rules u) (reverse (take at records)) x ≡ Some c) of cause)
illegal_before f asked v bytes (Ended w earlier) before rest records of are few begins same at x c found legal cause =
    illegal_record f asked w bytes are.front (line are.last ++ rest) records at x c ((begins ∙ ap (λ b. b ++ rest) are.begins) ∙ append_assoc are.front (line are.last) rest)
    (subst (AreBehind f w are.front) (sym same) are.behind) (omega (arith, ap length same, few)) found
    (subst (λ u. IsLegal (rules u) (reverse (take at records))) of legal) (subst (λ u. legality.cause (rules u) (reverse (take at records)) x ≡ Some c) of cause)

pub few_before : (place : Place) (records : List Record) → line_number place ≤ most_lines + 1 → records ≡ records_before place → length records ≤ most_lines
few_before Start records h same = omega (arith, ap length same)
few_before (After w earlier) records h same = omega (arith, ap length same, h)
few_before (Ended w earlier) records h same = omega (arith, ap length same, h)

-- each record that was read stands behind the header and those before it
pub illegal_read : (f : Format) (asked : Command) (v : Version) (bytes : List ℕ) (records : List Record) (refused : Option LineRefusal) (at : ℕ) (x : Record) (c : Cause) → IsReading f v bytes records refused
    → slice_get records at ≡ Some x → IsLegal (rules v) (reverse (take at records)) → legality.cause (rules v) (reverse (take at records)) x ≡ Some c → FirstIllegal f asked bytes (at + 2) c
illegal_read f asked v bytes records None at x c reading found legal cause = illegal_record f asked v bytes reading.whole.front (line reading.whole.last) records at x c reading.whole.begins reading.whole.behind (omega (arith, reading.few)) found legal cause
illegal_read f asked v bytes records (Some refused) at x c reading found legal cause = illegal_before f asked v bytes reading.0 reading.1.before reading.1.rest records (place_of f v bytes reading.0 reading.1.before reading.1.rest reading.1.are reading.1.begins reading.4)
    reading.1.are reading.1.few reading.1.begins reading.3 at x c found legal cause

pub few_read : (f : Format) (v : Version) (bytes : List ℕ) (records : List Record) (refused : Option LineRefusal) → IsReading f v bytes records refused → length records ≤ most_lines
few_read f v bytes records None reading = omega (arith, reading.few)
few_read f v bytes records (Some refused) reading = few_before reading.0 records reading.1.few reading.3

pub refused_judged : (f : Format) (asked : Command) (v : Version) (bytes : List ℕ) (records : List Record) (refused : Option LineRefusal) (line : ℕ) (c : Cause) → IsReading f v bytes records refused → IsFaultOf v records (faults.Refused line c) → FirstIllegal f asked bytes line c
refused_judged f asked v bytes records refused line c reading judged =
    let first : FirstIllegal f asked bytes (judged.0 + 2) c = illegal_read f asked v bytes records refused judged.0 judged.3.0 c reading judged.3.1 judged.2 judged.3.2 in
    (subst (λ n. FirstIllegal f asked bytes n c) (sym judged.1) first)

pub refusal_judged : (f : Format) (asked : Command) (v : Version) (bytes : List ℕ) (records : List Record) (refused : Option LineRefusal) (fault : FeedFault) → IsReading f v bytes records refused → IsFaultOf v records fault → IsRefusal f asked bytes fault
refusal_judged f asked v bytes records refused (faults.Refused line c) reading judged = refused_judged f asked v bytes records refused line c reading judged
refusal_judged f asked v bytes records refused faults.NoMemory reading judged = tt

-- the lines before a place are legal, where its records are, and they are within the limits if the
-- `end` line stands before it
legal_at : (asked : Command) (v : Version) (place : Place) (records : List Record) → IsOf v place → records ≡ records_before place → IsLegal (rules v) (reverse records) → (length records + 2 < line_number place → end_cause_for asked v (reverse records) ≡ None) → IsLegalBefore asked place
legal_at asked v Start records of same legal within = tt
legal_at asked v (After w earlier) records of same legal within = subst (λ u. IsLegal (rules u) (reverse earlier)) of (subst (λ rs. IsLegal (rules v) (reverse rs)) same legal)
legal_at asked v (Ended w earlier) records of same legal within =
    (subst (λ u. IsLegal (rules u) (reverse earlier)) of (subst (λ rs. IsLegal (rules v) (reverse rs)) same legal), ap (λ u. end_cause_for asked u (reverse earlier)) (sym of) ∙ (ap (λ rs. end_cause_for asked v (reverse rs)) (sym same) ∙ within (omega (arith, ap length same))))

-- the line behind the records is the first illegal one
pub refused_line : (f : Format) (asked : Command) (v : Version) (bytes : List ℕ) (records : List Record) (refused : Option LineRefusal) (line : LineRefusal) → IsReading f v bytes records refused → refused ≡ Some line → IsLegal (rules v) (reverse records)
    → (length records + 2 < line.line → end_cause_for asked v (reverse records) ≡ None) → FirstIllegal f asked bytes line.line line.cause
refused_line f asked v bytes records refused line reading is legal within =
    let read : IsReading f v bytes records (Some line) = subst (IsReading f v bytes records) is reading in
    (of_line f asked bytes line.line line.cause read.0 read.2 (legal_at asked v read.0 records (place_of f v bytes read.0 read.1.before read.1.rest read.1.are read.1.begins read.4) read.3 legal (λ behind. within (omega (arith, behind, read.2)))) read.1)

-- no line up to the one behind the records is refused
abbrev pub IsRead : List Record → Option LineRefusal → Type 0
IsRead records None = Unit {0}
IsRead records (Some refused) = length records + 2 < refused.line

ended_at : (f : Format) (asked : Command) (v : Version) (bytes : List ℕ) (place : Place) (records : List Record) (why c : Cause) → IsOf v place → Refuses f bytes place why → records ≡ records_before place → length records + 2 < line_number place
    → IsLegal (rules v) (reverse records) → end_cause_for asked v (reverse records) ≡ Some c → FirstIllegal f asked bytes (length records + 2) c
ended_at f asked v bytes Start records why c of h same behind legal cause = absurd (omega arith)
ended_at f asked v bytes (After w earlier) records why c of h same behind legal cause = absurd (omega (arith, ap length same))
ended_at f asked v bytes (Ended w earlier) records why c of h same behind legal cause =
    of_end f asked bytes (length records + 2) c w earlier (omega (arith, ap length same)) (subst (λ u. IsLegal (rules u) (reverse earlier)) of (subst (λ rs. IsLegal (rules v) (reverse rs)) same legal)) (record {
      before = h.are.front;
      are = h.are.behind;
      few = omega (arith, h.few);
      l = h.are.last;
      short = h.are.short;
      end = h.are.end;
      rest = h.rest;
      begins = (h.begins ∙ ap (λ b. b ++ h.rest) h.are.begins) ∙ append_assoc h.are.front (line h.are.last) h.rest;
      cause = ap (λ u. end_cause_for asked u (reverse earlier)) (sym of) ∙ (ap (λ rs. end_cause_for asked v (reverse rs)) (sym same) ∙ cause);
    })

ended : (f : Format) (asked : Command) (v : Version) (bytes : List ℕ) (records : List Record) (refused : Option LineRefusal) (c : Cause) → IsReading f v bytes records refused → IsRead records refused → IsLegal (rules v) (reverse records) → end_cause_for asked v (reverse records) ≡ Some c
    → FirstIllegal f asked bytes (length records + 2) c
ended f asked v bytes records None c reading read legal cause =
    of_end f asked bytes (length records + 2) c v records refl legal (record {
      before = reading.whole.front;
      are = reading.whole.behind;
      few = reading.few;
      l = reading.whole.last;
      short = reading.whole.short;
      end = reading.whole.end;
      rest = [];
      begins = reading.whole.begins ∙ ap (λ l. reading.whole.front ++ l) (sym (append-nil (line reading.whole.last)));
      cause = cause;
    })
ended f asked v bytes records (Some refused) c reading read legal cause = ended_at f asked v bytes reading.0 records refused.cause c (place_of f v bytes reading.0 reading.1.before reading.1.rest reading.1.are reading.1.begins reading.4) reading.1 reading.3 (omega (arith, read, reading.2)) legal cause

-- the `end` line behind the records is the first illegal one
pub refused_end : (f : Format) (asked : Command) (v : Version) (bytes : List ℕ) (records : List Record) (refused : Option LineRefusal) (n : ℕ) (c : Cause) → IsReading f v bytes records refused → IsRead records refused → IsLegal (rules v) (reverse records)
    → n ≡ length records + 2 → end_cause_for asked v (reverse records) ≡ Some c → FirstIllegal f asked bytes n c
refused_end f asked v bytes records refused n c reading read legal at cause =
    (subst (λ k. FirstIllegal f asked bytes k c) (sym at) (ended f asked v bytes records refused c reading read legal cause))

-- what is known where no line up to the end was refused

pub read_some : (records : List Record) (refused : Option LineRefusal) (line : LineRefusal) (n : ℕ) → refused ≡ Some line → n ≡ length (reverse records) → n + 2 < line.line → IsRead records refused
read_some records None line n is count past = absurd (cc)
read_some records (Some other) line n is count past = let same : other.line ≡ line.line = ap (λ (o : Option LineRefusal). line_of o) is in omega (arith, same, count, past, length-reverse records)
  where
    line_of : Option LineRefusal → ℕ
    line_of None = 0
    line_of (Some l) = l.line

pub read_none : (records : List Record) (refused : Option LineRefusal) → ((line : LineRefusal) → refused ≡ Some line → ⊥) → IsRead records refused
read_none records None none = tt
read_none records (Some line) none = absurd (none line refl)

pub legal_read : (f : Format) (asked : Command) (v : Version) (bytes : List ℕ) (records : List Record) (refused : Option LineRefusal) → refused ≡ None → IsReading f v bytes records refused → IsLegal (rules v) (reverse records) → end_cause_for asked v (reverse records) ≡ None → IsLegalTrace f asked v bytes records
legal_read f asked v bytes records None is reading legal within = record { is_trace = reading; legal = legal; within = within }
legal_read f asked v bytes records (Some line) is reading legal within = absurd (cc)

pub refused_fault : (f : Format) (asked : Command) (v : Version) (bytes : List ℕ) (records : List Record) (refused : Option LineRefusal) (fault : FeedFault) → IsReading f v bytes records refused → IsRead records refused → IsLegal (rules v) (reverse records)
    → IsEndFault (end_cause_for asked v (reverse records)) (reverse records) fault → IsRefusal f asked bytes fault
refused_fault f asked v bytes records refused (faults.Refused n c) reading read legal fault = refused_end f asked v bytes records refused n c reading read legal (omega (arith, fault.0, length-reverse records)) fault.1
refused_fault f asked v bytes records refused faults.NoMemory reading read legal fault = tt
