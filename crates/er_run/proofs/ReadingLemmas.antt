-- From what was fed and judged to the reading.
use Rattle.std.proofs.Common.{◌≡◌, ◌≢◌, inl, inr, ℕ, ◌+◌, ◌*◌, ◌<◌, ◌≤◌, ◌^◌, Bool, true, false, List, [], ◌∷◌, ◌++◌, length, take, reverse, zero, suc, Option, Some, None, Result, Ok, Err, refl, sym, ap, ◌∙◌, subst, arith, length-append, append-nil, append_assoc, nat_lt}
use Rattle.std.proofs.lemmas.Nat.{mul-le}
use Rattle.std.specs.Prelude.{MatchOption, IfOk, IfErr, if◌then◌else◌}
use Rattle.std.proofs.lemmas.List.{length-reverse, length-take-le}
use Rattle.std.proofs.lemmas.Bool.Decides.{nat_tests}
use Rattle.er_text.specs.declared.causes.Cause.{Cause}
use Rattle.er_text.specs.declared.causes.Cause.TheVariants.{NoEnd, AfterEnd, Unknown, Again, NotScript, Misplaced, OutOfOrder, TooManyActions, TooDeep, TooManyAccesses, TooManyPairs, TooManyRaces, TooManyClasses, NoRace, NoAction}
use Rattle.er_trace.specs.declared.record.Record.{Record}
use Rattle.er_trace.specs.declared.version.Version.{Version}
use Rattle.er_trace.specs.declared.version.Version.TheVariants.{One}
use Rattle.er_trace.specs.declared.fault.FeedFault.{FeedFault}
use Rattle.er_trace.specs.declared.fault.FeedFault.TheVariants as faults
use Rattle.er_trace.specs.Trace.{line, most_lines}
use Rattle.er_lines.specs.declared.mark.Mark.{Mark}
use Rattle.er_lines.specs.Format.{Format, IsFormat}
use Rattle.er_lines.specs.Lines.{Place, Start, After, Ended, line_number, records_before, AreLines, AreBehind, AreBefore, IsTrace, IsTraceOf, BeginsWith}
use Rattle.er_lines.specs.Lines as by_cause
use Rattle.er_lines.specs.Feed.{Stands, IsUnfinished, IsRefusedAt, IsFed}
use Rattle.er_lines.proofs.FeedLaws.{unfinished_short}
use Rattle.er_lines.proofs.HeaderLaws.{header_of, header_of_whole}
use Rattle.er_lines.proofs.OneReading.{one_beginning}
use Rattle.er_history.specs.History.{or_else}
use Rattle.er_history.specs.Naming.{first_cause, naming, room}
use Rattle.er_history.specs.Sound as sound
use Rattle.er_history.specs.Rules.{rules}
use Rattle.er_run.specs.declared.input.LineRefusal.{LineRefusal}
use Rattle.er_run.specs.declared.input.InputFault.{InputFault}
use Rattle.er_run.specs.declared.input.InputFault.TheVariants as input_faults
use Rattle.er_run.specs.declared.session.Session.{Session}
use Rattle.er_run.specs.Answer.{FirstIllegal, IsLegalTrace}
use Rattle.er_run.proofs.IllegalLines.{of_line}
use Rattle.er_run.proofs.OneAnswer.{refused_once, not_refused}
use Rattle.er_run.specs.Legal.{IsLegal, is_past_room, end_cause_for}
use Rattle.er_run.specs.Legal as legality
use Rattle.er_words.specs.declared.commands.Command.{Command}
use Rattle.er_words.specs.declared.commands.Command.TheVariants.{Check, Gen, Schedule, Explain}
use Rattle.er_run.specs.declared.findings.Judged.{Judged}
use Rattle.er_run.specs.Accepted.{IsAccepted, IsEndFault, IsJudged, IsReportable, IsVerdict}
use Rattle.er_run.specs.declared.outcome.Outcome.TheVariants as outcomes
use Rattle.er_run.specs.Promise.{chunk_bytes, IsFinal, IsJustRefused, IsDecided}
use Rattle.er_run.specs.Session.{IsSessionOf, HasTaken, MayTake, GoesOnIn, AreGiven, IsFaultOf, IsFaultIn, version_of, version_or_first}
use Rattle.er_io.specs.Ends.{Gives, IsSpent}
use Rattle.er_io.proofs.Puts.{gives_again, gives_nothing_back}
use Rattle.er_run.specs.Reading.{IsAt, IsGiven, HasNoOtherVersion, IsOpen, IsRead, IsReadTo, IsAcceptedInput, IsRefusedInput, IsReading, IsEnd, GoesOn, Ends, IsRefusedBehind, IsFinalFault, CountsReads, fault_of}
use Rattle.er_run.proofs.VersionLemmas.{came_of_version}
use Rattle.er_run.proofs.AcceptLemmas.{few_before, few_read, illegal_before, legal_read, refused_line, refused_end, refused_fault, IsOf, place_of}

-- a record is refused for no missing end

none_of_four : (a b c d : Bool) (why : Cause) → first_cause ((a, Unknown) ∷ (b, Again) ∷ (c, NotScript) ∷ (d, Misplaced) ∷ []) ≡ Some why → why ≢ NoEnd
none_of_four true b c d why is at = cc
none_of_four false true c d why is at = cc
none_of_four false false true d why is at = cc
none_of_four false false false true why is at = cc
none_of_four false false false false why is at = absurd (cc)

none_of_two : (a b : Bool) (why : Cause) → first_cause ((a, TooManyActions) ∷ (b, TooDeep) ∷ []) ≡ Some why → why ≢ NoEnd
none_of_two true b why is at = cc
none_of_two false true why is at = cc
none_of_two false false why is at = absurd (cc)

abbrev IsOther : Option Cause → Type 0
IsOther o = (why : Cause) → o ≡ Some why → why ≢ NoEnd

other_else : (o p : Option Cause) → IsOther o → IsOther p → IsOther (or_else o p)
other_else (Some c) p first second = first
other_else None p first second = second

other_if : (b : Bool) (o p : Option Cause) → IsOther o → IsOther p → IsOther (if b then o else p)
other_if true o p first second = first
other_if false o p first second = second

one : (c : Cause) → c ≢ NoEnd → IsOther (Some c)
one c other why is at = other cc

none_other : IsOther None
none_other why is at = absurd (cc)

-- by parts, so that no definition of naming is opened
other_by : (naming order room past : Option Cause) → IsOther naming → IsOther room → (out full : Bool) → IsOther (or_else (or_else naming (if out then Some OutOfOrder else room)) (if full then Some TooManyAccesses else None))
other_by named order inside past first last out full =
    other_else (or_else named (if out then Some OutOfOrder else inside)) (if full then Some TooManyAccesses else None)
    (other_else named (if out then Some OutOfOrder else inside) first (other_if out (Some OutOfOrder) inside (one OutOfOrder (λ e. cc)) last))
    (other_if full (Some TooManyAccesses) None (one TooManyAccesses (λ e. cc)) none_other)

pub record_cause : (v : Version) (h : List Record) (x : Record) → IsOther (legality.cause (rules v) h x)
record_cause v h x =
    other_by (naming h x) None (room h x) None (λ why. none_of_four _ _ _ _ why) (λ why. none_of_two _ _ why) (sound.out_of_order (rules v) h x) (is_past_room h x)

listing_other : (a b : Bool) (o : Option Cause) → IsOther o → IsOther (if a then Some TooManyPairs else if b then Some TooManyRaces else o)
listing_other true b o other = one TooManyPairs (λ e. cc)
listing_other false true o other = one TooManyRaces (λ e. cc)
listing_other false false o other = other

pub end_cause_other : (asked : Command) (v : Version) (h : List Record) → IsOther (end_cause_for asked v h)
end_cause_other (Check json input) v h = listing_other _ _ _ (other_if _ (Some TooManyClasses) None (one TooManyClasses (λ e. cc)) none_other)
end_cause_other (Gen n) v h = listing_other _ _ _ (other_if _ (Some TooManyClasses) None (one TooManyClasses (λ e. cc)) none_other)
end_cause_other (Schedule k) v h = listing_other _ _ _ (other_if _ (Some NoRace) None (one NoRace (λ e. cc)) none_other)
end_cause_other (Explain i j) v h = other_if _ (Some NoAction) None (one NoAction (λ e. cc)) none_other

-- what a feed stands for

pub few_fed : (f : Format) (mark : Mark) (kept : List ℕ) (fault : Option FeedFault) (bytes : List ℕ) (records : List Record) → Stands f mark kept fault bytes records → length records ≤ most_lines
few_fed f mark kept fault bytes records stands = few_before stands.place records stands.few stands.records_are

-- how many bytes so many lines have at most, each with its LF
abbrev pub most_bytes : Format → ℕ → ℕ
most_bytes f n = (f.most + 1) * n

-- each line has at most one byte more than the most with its LF
lines_short : (f : Format) (v : Version) (bytes : List ℕ) (records : List Record) → AreLines f v bytes records → length bytes ≤ most_bytes f (length records)
lines_short f v bytes [] are = omega (arith, ap length are)
lines_short f v bytes (x ∷ records) are =
    let rest : length are.1 ≤ most_bytes f (length records) = lines_short f v are.1 records are.5 in
    let up : (f.most + 1) * suc (length records) ≡ (f.most + 1) * length records + (f.most + 1) = grind arith in
    omega (arith, rest, up, are.2.few, ap length are.4, length-append (line are.0) are.1, length-append are.0 (10 ∷ []))

behind_short : (f : Format) (v : Version) (bytes : List ℕ) (records : List Record) → AreBehind f v bytes records → length bytes ≤ most_bytes f (length records + 1)
behind_short f v bytes records are =
    let rest : length are.later ≤ most_bytes f (length records) = lines_short f v are.later records are.lines in
    let up : (f.most + 1) * (length records + 1) ≡ (f.most + 1) * length records + (f.most + 1) = grind arith in
    omega (arith, rest, up, are.short.few, ap length are.begins, length-append (line are.first) are.later, length-append are.first (10 ∷ []))

before_short : (f : Format) (place : Place) (bytes : List ℕ) → AreBefore f place bytes → line_number place ≤ most_lines + 1 → length bytes ≤ most_bytes f (most_lines + 1)
before_short f Start bytes are few = let none : length bytes ≡ 0 = ap length are in omega (arith, none)
before_short f (After v records) bytes are few =
    let h : length bytes ≤ most_bytes f (length records + 1) = behind_short f v bytes records are in
    let up : (f.most + 1) * (length records + 1) ≤ (f.most + 1) * (most_lines + 1) = mul-le (f.most + 1) (length records + 1) (f.most + 1) (most_lines + 1) (omega arith) (omega (arith, few)) in
    omega (arith, h, up)
before_short f (Ended v records) bytes are few =
    let h : length are.front ≤ most_bytes f (length records + 1) = behind_short f v are.front records are.behind in
    let up : (f.most + 1) * (length records + 2) ≡ (f.most + 1) * (length records + 1) + (f.most + 1) = grind arith in
    let most : (f.most + 1) * (length records + 2) ≤ (f.most + 1) * (most_lines + 1) = mul-le (f.most + 1) (length records + 2) (f.most + 1) (most_lines + 1) (omega arith) (omega (arith, few)) in
    omega (arith, h, up, most, are.short.few, ap length are.begins, length-append are.front (line are.last), length-append are.last (10 ∷ []))

-- as long as no line is refused, not too many bytes came
stands_short : (f : Format) (place : Place) (bytes before rest : List ℕ) → f.most < 2 ^ 16 → AreBefore f place before → line_number place ≤ most_lines + 1 → bytes ≡ before ++ rest → IsUnfinished f place rest → length bytes < 2 ^ 40
stands_short f place bytes before rest small are few begins h =
    let short : length rest ≤ f.most = (unfinished_short f place rest h).few in
    let all : length before ≤ most_bytes f (most_lines + 1) = before_short f place before are few in
    let most : (f.most + 1) * (most_lines + 1) ≤ 65536 * 2097153 = mul-le (f.most + 1) (most_lines + 1) 65536 2097153 (omega (arith, small)) (omega arith) in
    omega (arith, short, all, most, ap length begins, length-append before rest)

kept_line : (f : Format) (fault : Option FeedFault) (place : Place) (rest kept : List ℕ) → fault ≡ None → MatchOption fault (IsUnfinished f place rest × (kept ≡ rest)) (IsRefusedAt f place rest) → IsUnfinished f place rest
kept_line f None place rest kept is h = h.0
kept_line f (Some fault) place rest kept is h = absurd (cc)

pub going_short : (f : Format) (mark : Mark) (kept : List ℕ) (fault : Option FeedFault) (bytes : List ℕ) (records : List Record) → f.most < 2 ^ 16 → fault ≡ None → Stands f mark kept fault bytes records → length bytes < 2 ^ 40
going_short f mark kept fault bytes records small going stands = stands_short f stands.place bytes stands.before stands.rest small stands.are stands.few stands.begins (kept_line f fault stands.place stands.rest kept going stands.kept)

-- a line was refused, and not for its missing end
refused_at : (f : Format) (fault : Option FeedFault) (place : Place) (rest kept : List ℕ) (n : ℕ) (c : Cause) → fault ≡ Some (faults.Refused n c) → MatchOption fault (IsUnfinished f place rest × (kept ≡ rest)) (IsRefusedAt f place rest) → IsRefusedAt f place rest (faults.Refused n c)
refused_at f None place rest kept n c is h = absurd (cc)
refused_at f (Some fault) place rest kept n c is h = let same : fault ≡ faults.Refused n c = cc in subst (IsRefusedAt f place rest) same h

pub refused_reading : (f : Format) (v : Version) (mark : Mark) (kept : List ℕ) (fault : Option FeedFault) (bytes : List ℕ) (records : List Record) (r : LineRefusal) → fault ≡ fault_of (Some r) → Stands f mark kept fault bytes records → HasNoOtherVersion f v bytes → IsReading f v bytes records (Some r) × (r.cause ≢ NoEnd)
refused_reading f v mark kept fault bytes records r is stands by =
    let at = refused_at f fault stands.place stands.rest kept r.line r.cause is stands.kept in
    ((stands.place, record { before = stands.before; rest = stands.rest; are = stands.are; few = stands.few; begins = stands.begins; cause = at.1 }, at.0, stands.records_are, by), at.2)

-- no byte came yet

no_line : {P : Type 0} (l rest : List ℕ) → [] ≡ line l ++ rest → P
no_line {P} l rest e = absurd (omega (arith, ap length e, length-append (line l) rest, length-append l (10 ∷ [])))

pub none_begins : (f : Format) (v : Version) → BeginsWith f v [] → ⊥
none_begins f v begins = no_line begins.first begins.rest begins.begins

pub none_open : (f : Format) (records : List Record) → IsOpen f [] records
none_open f records trace = none_begins f trace.0 (header_of_whole f trace.0 [] [] [] records refl trace.1.whole)

-- a whole trace is one of that version
pub whole_reading : (f : Format) (v : Version) (bytes : List ℕ) (records : List Record) → IsTraceOf f bytes records → HasNoOtherVersion f v bytes → IsReading f v bytes records None
whole_reading f v bytes records trace by =
    let same : v ≡ trace.0 = by trace.0 (header_of_whole f trace.0 bytes bytes [] records (sym (append-nil bytes)) trace.1.whole) in
    subst (λ u. IsTrace f u bytes records) (sym same) trace.1

-- one chunk

-- the version that the first line gives, once it was read

begins_more : (f : Format) (v : Version) (bytes chunk : List ℕ) → BeginsWith f v bytes → BeginsWith f v (bytes ++ chunk)
begins_more f v bytes chunk begins = record {
  first = begins.first;
  short = begins.short;
  header = begins.header;
  rest = begins.rest ++ chunk;
  begins = ap (λ bs. bs ++ chunk) begins.begins ∙ append_assoc (line begins.first) begins.rest chunk;
}

-- it gives no other version
no_other : (f : Format) → IsFormat f → (v : Version) (bytes : List ℕ) → BeginsWith f v bytes → HasNoOtherVersion f v bytes
no_other f good v bytes begins = λ w there. one_beginning f good bytes v w begins there

-- nor one than that of the session
pub by_session : (f : Format) → IsFormat f → (session : Option Session) (bytes : List ℕ) → IsGiven f (version_of session) bytes → HasNoOtherVersion f (version_or_first session) bytes
by_session f good None bytes is = λ w begins. absurd (is.1 refl w begins)
by_session f good (Some session) bytes is = no_other f good session.graph.version bytes (is.0 session.graph.version refl)

given_again : (f : Format) → IsFormat f → (v : Version) (given : Option Version) (bytes : List ℕ) → IsGiven f given bytes → BeginsWith f v bytes → given ≡ Some v
given_again f good v None bytes is begins = absurd (is.1 refl v begins)
given_again f good v (Some u) bytes is begins = ap Some (one_beginning f good bytes u v (is.0 u refl) begins)

-- the session goes on in the version that it has
pub goes_on : (f : Format) → IsFormat f → (mark : Mark) (kept : List ℕ) (fault : Option FeedFault) (session : Option Session) (given : Option Version) (bytes chunk : List ℕ) (records : List Record) → IsAt f mark kept fault session bytes records → IsGiven f given (bytes ++ chunk) → GoesOnIn session given
goes_on f good mark kept fault session given bytes chunk records at is = λ v made. given_again f good v given (bytes ++ chunk) is (begins_more f v bytes chunk (at.by.0 v made))

-- before the first line no record came

none_before : (f : Format) (place : Place) (bytes before rest : List ℕ) (records : List Record) → AreBefore f place before → bytes ≡ before ++ rest → records ≡ records_before place → ((v : Version) → BeginsWith f v bytes → ⊥) → records ≡ []
none_before f Start bytes before rest records are begins listed none = listed
none_before f (After w earlier) bytes before rest records are begins listed none = absurd (none w (header_of f w bytes before rest earlier begins are))
none_before f (Ended w earlier) bytes before rest records are begins listed none = absurd (none w (header_of_whole f w bytes before rest earlier begins are))

none_later : (earlier more : List Record) → earlier ++ more ≡ [] → more ≡ []
none_later [] more is = is
none_later (x ∷ earlier) more is = absurd (cc)

-- what came with a chunk is of the version that was given
pub came_given : (f : Format) → IsFormat f → (given : Option Version) (mark : Mark) (kept : List ℕ) (fault : Option FeedFault) (bytes : List ℕ) (earlier came : List Record) → IsFed f mark kept fault bytes earlier [] came → IsGiven f given bytes → AreGiven given came
came_given f good None mark kept fault bytes earlier came fed is =
    fed.2 ∙ none_later earlier fed.0 (none_before f fed.1.place bytes fed.1.before fed.1.rest (earlier ++ fed.0) fed.1.are fed.1.begins fed.1.records_are (is.1 refl))
came_given f good (Some v) mark kept fault bytes earlier came fed is = came_of_version f good v mark kept fault bytes earlier came fed (no_other f good v bytes (is.0 v refl))

pub on_by : (f : Format) (mark : Mark) (kept : List ℕ) (fault : Option FeedFault) (session : Option Session) (given : Option Version) (bytes : List ℕ) (records fresh : List Record) → IsFed f mark kept fault bytes records [] fresh → version_of session ≡ given → IsGiven f given bytes → HasTaken session (reverse (records ++ fresh)) → GoesOn f mark kept fault session bytes records
on_by f mark kept fault session given bytes records fresh fed is by taken =
    (fed.0, record { fed = fed.1; taken = subst (λ l. HasTaken session (reverse (records ++ l))) fed.2 taken; by = subst (λ u. IsGiven f u bytes) (sym is) by })

room_by : (f : Format) (mark : Mark) (kept : List ℕ) (fault : Option FeedFault) (bytes : List ℕ) (records fresh : List Record) → IsFed f mark kept fault bytes records [] fresh → length (reverse records) + length fresh ≤ most_lines
room_by f mark kept fault bytes records fresh fed =
    let few = few_fed f mark kept fault bytes (records ++ fed.0) fed.1 in
    omega (arith, few, ap length fed.2, length-append records fed.0, length-reverse records)

-- so the session may take it
pub may_take : (f : Format) → IsFormat f → (mark new_mark : Mark) (kept new_kept : List ℕ) (fault new_fault : Option FeedFault) (session : Option Session) (given : Option Version) (bytes chunk : List ℕ) (records fresh : List Record) → IsAt f mark kept fault session bytes records
    → IsFed f new_mark new_kept new_fault (bytes ++ chunk) records [] fresh → IsGiven f given (bytes ++ chunk) → MayTake session given fresh
may_take f good mark new_mark kept new_kept fault new_fault session given bytes chunk records fresh at fed is = record {
  list = reverse records;
  taken = at.taken;
  goes_on = goes_on f good mark kept fault session given bytes chunk records at is;
  few = room_by f new_mark new_kept new_fault (bytes ++ chunk) records fresh fed;
  of_version = came_given f good given new_mark new_kept new_fault (bytes ++ chunk) records fresh fed is;
}

final_record : (f : Format) (v : Version) (mark : Mark) (kept : List ℕ) (fault : Option FeedFault) (bytes : List ℕ) (records : List Record) (why : FeedFault) → HasNoOtherVersion f v bytes → Stands f mark kept fault bytes records → IsFaultOf v records why → IsFinalFault f bytes why
final_record f v mark kept fault bytes records (faults.Refused n c) by stands (at, is, legal, (x, there, why)) =
    (λ asked. subst (λ k. FirstIllegal f asked bytes k c) (sym is) (illegal_before f asked v bytes stands.place stands.before stands.rest records (place_of f v bytes stands.place stands.before stands.rest stands.are stands.begins by) stands.are stands.few stands.begins stands.records_are at x c there legal why), record_cause v (reverse (take at records)) x c why)
final_record f v mark kept fault bytes records faults.NoMemory by stands why = tt

pub final_by : (f : Format) → IsFormat f → (given : Option Version) (mark : Mark) (kept : List ℕ) (fault : Option FeedFault) (bytes : List ℕ) (records fresh : List Record) (why : FeedFault) → IsFed f mark kept fault bytes records [] fresh → IsGiven f given bytes → IsFaultIn given (records ++ fresh) why → IsFinalFault f bytes why
final_by f good None mark kept fault bytes records fresh why fed is refused = subst (IsFinalFault f bytes) (sym refused) tt
final_by f good (Some v) mark kept fault bytes records fresh why fed is refused =
    final_record f v mark kept fault bytes (records ++ fed.0) why (no_other f good v bytes (is.0 v refl)) fed.1 (subst (λ l. IsFaultOf v (records ++ l) why) fed.2 refused)

-- what came of a chunk

spent_end : (left : Option (List ℕ)) (refused : Option LineRefusal) → IsSpent left → IsEnd left refused
spent_end left None spent = tt
spent_end left (Some r) spent = inl spent

pub few_taken : (n : ℕ) (buffer : List ℕ) → n ≤ length buffer → length buffer ≤ chunk_bytes → length (take n buffer) ≤ chunk_bytes
few_taken n buffer within few = omega (arith, within, few, length-take-le n buffer within)

-- none came: the source is at its end
pub ends_spent : (f : Format) (left_old left_new : Option (List ℕ)) (mark : Mark) (kept : List ℕ) (fault : Option FeedFault) (session : Option Session) (bytes buffer : List ℕ) (n : ℕ) (records : List Record) (refused : Option LineRefusal) → Gives left_old (take n buffer) left_new → n ≡ 0 → IsSpent left_new
    → IsAt f mark kept fault session bytes records → IsReading f (version_or_first session) bytes records refused → Ends f left_old left_new session refused bytes
ends_spent f left_old left_new mark kept fault session bytes buffer zero records refused gave none spent at reading = record {
  chunk = [];
  records = records;
  gave = gave;
  few = omega arith;
  stands = at.taken;
  reading = subst (λ bs. IsReading f (version_or_first session) bs records refused) (sym (append-nil bytes)) reading;
  end = spent_end left_new refused spent;
}
ends_spent f left_old left_new mark kept fault session bytes buffer (suc n) records refused gave none spent at reading = absurd (cc)

-- a line of it is refused
pub ends_refused : (f : Format) → IsFormat f → (left_old left_new : Option (List ℕ)) (mark : Mark) (kept : List ℕ) (fault : Option FeedFault) (session : Option Session) (bytes chunk : List ℕ) (records : List Record) (r : LineRefusal) → Gives left_old chunk left_new → length chunk ≤ chunk_bytes
    → GoesOn f mark kept fault session (bytes ++ chunk) records → fault ≡ fault_of (Some r) → Ends f left_old left_new session (Some r) bytes
ends_refused f good left_old left_new mark kept fault session bytes chunk records r gave few on is =
    let reading = refused_reading f (version_or_first session) mark kept fault (bytes ++ chunk) (records ++ on.0) r is on.1.fed (by_session f good session (bytes ++ chunk) on.1.by) in
    record { chunk = chunk; records = records ++ on.0; gave = gave; few = few; stands = on.1.taken; reading = reading.0; end = inr reading.1 }

-- the `end` line is its last one
pub ends_whole : (f : Format) (left_old left_new : Option (List ℕ)) (mark : Mark) (kept : List ℕ) (fault : Option FeedFault) (session : Option Session) (bytes chunk : List ℕ) (records : List Record) → Gives left_old chunk left_new → length chunk ≤ chunk_bytes
    → (on : GoesOn f mark kept fault session (bytes ++ chunk) records) → IsReading f (version_or_first session) (bytes ++ chunk) (records ++ on.0) None → Ends f left_old left_new session None bytes
ends_whole f left_old left_new mark kept fault session bytes chunk records gave few on reading =
    record { chunk = chunk; records = records ++ on.0; gave = gave; few = few; stands = on.1.taken; reading = reading; end = tt }

-- and the session that was made of it is the one that is judged
pub ends_made : (f : Format) (left_old left_new : Option (List ℕ)) (session : Option Session) (made : Session) (refused : Option LineRefusal) (bytes : List ℕ) → ((h : List Record) → HasTaken session h → IsSessionOf made h) → made.graph.version ≡ version_or_first session
    → Ends f left_old left_new session refused bytes → Ends f left_old left_new (Some made) refused bytes
ends_made f left_old left_new session made refused bytes stands same ends = record {
  chunk = ends.chunk;
  records = ends.records;
  gave = ends.gave;
  few = ends.few;
  stands = stands (reverse ends.records) ends.stands;
  reading = subst (λ v. IsReading f v (bytes ++ ends.chunk) ends.records refused) (sym same) ends.reading;
  end = ends.end;
}

-- a record of it is refused
pub refused_by : (f : Format) (left_old left_new : Option (List ℕ)) (n : ℕ) (c : Cause) (bytes chunk : List ℕ) (fault : FeedFault) → fault ≡ faults.Refused n c → Gives left_old chunk left_new → length chunk ≤ chunk_bytes → IsFinalFault f (bytes ++ chunk) fault
    → IsRefusedBehind f left_old left_new n c bytes
refused_by f left_old left_new n c bytes chunk fault is gave few refused = record { chunk = chunk; gave = gave; few = few; refused = subst (IsFinalFault f (bytes ++ chunk)) is refused }

-- as long as no line is refused and the `end` line is to come, nothing is decided

undecided_at : (f : Format) → IsFormat f → (asked : Command) (v : Version) (place : Place) (bytes before rest : List ℕ) (records : List Record) → IsOf v place → AreBefore f place before → line_number place ≤ most_lines + 1 → bytes ≡ before ++ rest → records ≡ records_before place → IsUnfinished f place rest
    → IsLegal (rules v) (reverse records) → IsOpen f bytes records → IsFinal f asked bytes → ⊥
undecided_at f good asked v Start bytes before rest records of are few begins same h legal ahead final =
    final.3 (refused_once f good asked bytes final.0 1 final.1 NoEnd final.2 (of_line f asked bytes 1 NoEnd Start refl tt (record { before = before; rest = rest; are = are; few = few; begins = begins; cause = h }))).1
undecided_at f good asked v (After w earlier) bytes before rest records of are few begins same h legal ahead final =
    let legally : IsLegal (rules w) (reverse earlier) = subst (λ u. IsLegal (rules u) (reverse earlier)) of (subst (λ rs. IsLegal (rules v) (reverse rs)) same legal) in
    final.3 (refused_once f good asked bytes final.0 (length earlier + 2) final.1 NoEnd final.2 (of_line f asked bytes (length earlier + 2) NoEnd (After w earlier) refl legally (record { before = before; rest = rest; are = are; few = few; begins = begins; cause = h }))).1
undecided_at f good asked v (Ended w earlier) bytes before rest records of are few begins same h legal ahead final =
    let whole : before ≡ bytes = sym (begins ∙ (ap (λ r. before ++ r) h ∙ append-nil before)) in
    let trace : IsTrace f w before earlier = record { whole = are; few = omega (arith, few) } in
    ahead (subst (λ bs. IsTraceOf f bs records) whole (subst (λ rs. IsTraceOf f before rs) (sym same) (w, trace)))

legal_taken : (session : Option Session) (h : List Record) → HasTaken session h → IsLegal (rules (version_or_first session)) h
legal_taken None h taken = subst (IsLegal (rules One)) (sym taken) tt
legal_taken (Some session) h taken = taken.legal

pub undecided : (f : Format) → IsFormat f → (asked : Command) (mark : Mark) (kept : List ℕ) (fault : Option FeedFault) (session : Option Session) (bytes : List ℕ) (records : List Record) → IsAt f mark kept fault session bytes records → fault ≡ None → IsOpen f bytes records → IsFinal f asked bytes → ⊥
undecided f good asked mark kept fault session bytes records at going ahead final =
    let stands = at.fed in
    let v = version_or_first session in
    undecided_at f good asked v stands.place bytes stands.before stands.rest records (place_of f v bytes stands.place stands.before stands.rest stands.are stands.begins (by_session f good session bytes at.by)) stands.are stands.few stands.begins stands.records_are
    (kept_line f fault stands.place stands.rest kept going stands.kept) (legal_taken session (reverse records) at.taken) ahead final

-- where a line is refused, and not for its missing end, no further byte changes the answer

by_line : (f : Format) (asked : Command) (v : Version) (bytes : List ℕ) (records : List Record) (r : LineRefusal) (behind : Bool) (limit : Option Cause) → behind ≡ nat_lt (length records + 2) r.line → limit ≡ end_cause_for asked v (reverse records) → IsReading f v bytes records (Some r) → r.cause ≢ NoEnd
    → IsLegal (rules v) (reverse records) → IsFinal f asked bytes
by_line f asked v bytes records r false limit is at reading other legal =
    let up_to : r.line ≤ length records + 2 = grind (arith, nat_tests) in
    (r.line, r.cause, refused_line f asked v bytes records (Some r) r reading refl legal (λ behind. absurd (omega arith)), other)
by_line f asked v bytes records r true None is at reading other legal = (r.line, r.cause, refused_line f asked v bytes records (Some r) r reading refl legal (λ behind. sym at), other)
by_line f asked v bytes records r true (Some c) is at reading other legal =
    let past : length records + 2 < r.line = grind (arith, nat_tests) in
    (length records + 2, c, refused_end f asked v bytes records (Some r) (length records + 2) c reading past legal refl (sym at), end_cause_other asked v (reverse records) c (sym at))

pub final_reading : (f : Format) (asked : Command) (v : Version) (bytes : List ℕ) (records : List Record) (r : LineRefusal) → IsReading f v bytes records (Some r) → r.cause ≢ NoEnd → IsLegal (rules v) (reverse records) → IsFinal f asked bytes
final_reading f asked v bytes records r reading other legal = by_line f asked v bytes records r (nat_lt (length records + 2) r.line) (end_cause_for asked v (reverse records)) refl refl reading other legal

-- the session that is read stands for few enough records
pub reportable : (f : Format) (bytes : List ℕ) (records : List Record) (session : Session) (refused : Option LineRefusal) → IsSessionOf session (reverse records) → IsReading f session.graph.version bytes records refused → IsReportable session
reportable f bytes records session refused stands reading = record { list = reverse records; stands = stands; few = omega (arith, few_read f session.graph.version bytes records refused reading, length-reverse records) }

-- what was judged at the end of a reading is what the bytes come to

pub accepted_by : (f : Format) (asked : Command) (v : Version) (bytes : List ℕ) (records : List Record) (judged : Judged) → judged.session.graph.version ≡ v → IsReading f v bytes records None → IsJudged asked judged.session judged.found (reverse records) → IsAccepted f asked bytes judged
accepted_by f asked v bytes records judged same reading is =
    let there : IsReading f judged.session.graph.version bytes records None = subst (λ u. IsReading f u bytes records None) (sym same) reading in
    record { records = records; legal = legal_read f asked judged.session.graph.version bytes records None refl there is.stands.legal is.within; is_judged = is }

pub verdict_by : (f : Format) (asked : Command) (bytes : List ℕ) (records : List Record) (session : Session) (verdict : Result Judged FeedFault) → IsSessionOf session (reverse records) → IsReading f session.graph.version bytes records None
    → IfOk verdict (λ judged. judged.session.graph.version ≡ session.graph.version)
    → IfOk verdict (λ judged. (h : List Record) → IsSessionOf session h → IsJudged asked judged.session judged.found h)
    → IfErr verdict (λ fault. (h : List Record) → IsSessionOf session h → IsEndFault (end_cause_for asked session.graph.version h) h fault) → IsVerdict f asked bytes verdict
verdict_by f asked bytes records session (Ok judged) stands reading same accepted refusal = accepted_by f asked session.graph.version bytes records judged same reading (accepted (reverse records) stands)
verdict_by f asked bytes records session (Err fault) stands reading same accepted refusal = refused_fault f asked session.graph.version bytes records None fault reading tt stands.legal (refusal (reverse records) stands)

-- what was taken, and where it is decided

all_given : (f : Format) (first left : Option (List ℕ)) (session : Session) (refused : Option LineRefusal) → (r : IsRead f first left session refused) → Gives first (r.bytes ++ r.ends.chunk) left
all_given f first left session refused r = gives_again first r.left left r.bytes r.ends.chunk r.before.gave r.ends.gave

just : (f : Format) (asked : Command) (first left : Option (List ℕ)) (session : Session) (refused : Option LineRefusal) (n : ℕ) (c : Cause) → (r : IsRead f first left session refused) → FirstIllegal f asked (r.bytes ++ r.ends.chunk) n c → c ≢ NoEnd → IsJustRefused f asked (r.bytes ++ r.ends.chunk) n c
just f asked first left session refused n c r illegal other = record { before = r.bytes; last = r.ends.chunk; is = refl; few = r.ends.few; fresh = r.before.fresh asked; refused = illegal; other = other }

-- a refusal of bytes that are refused for another cause than a missing end is for another one
other_cause : (f : Format) → IsFormat f → (asked : Command) (bytes : List ℕ) (n : ℕ) (c : Cause) → FirstIllegal f asked bytes n c → IsFinal f asked bytes → c ≢ NoEnd
other_cause f good asked bytes n c refused final = λ is. final.3 (sym (refused_once f good asked bytes n final.0 c final.1 refused final.2).1 ∙ is)

decided_by : (f : Format) → IsFormat f → (asked : Command) (first left : Option (List ℕ)) (session : Session) (line : LineRefusal) (n : ℕ) (c : Cause) → (r : IsRead f first left session (Some line)) → FirstIllegal f asked (r.bytes ++ r.ends.chunk) n c
    → IsDecided f asked (r.bytes ++ r.ends.chunk) left (outcomes.Refused n c)
decided_by f good asked first left session line n c r refused = elim r.ends.end [
  | inl spent ↦ inl spent
  | inr other ↦ (
      let final : IsFinal f asked (r.bytes ++ r.ends.chunk) = final_reading f asked session.graph.version (r.bytes ++ r.ends.chunk) r.ends.records line r.ends.reading other r.ends.stands.legal in
      inr (just f asked first left session (Some line) n c r refused (other_cause f good asked (r.bytes ++ r.ends.chunk) n c refused final)))
]

pub refused_input : (f : Format) → IsFormat f → (asked : Command) (first left : Option (List ℕ)) (session : Session) (line : LineRefusal) (n : ℕ) (c : Cause) → (r : IsRead f first left session (Some line)) → FirstIllegal f asked (r.bytes ++ r.ends.chunk) n c → IsRefusedInput f asked first left n c
refused_input f good asked first left session line n c r refused =
    record { taken = r.bytes ++ r.ends.chunk; gave = all_given f first left session (Some line) r; decided = decided_by f good asked first left session line n c r refused; refused = refused }

pub refused_record : (f : Format) (asked : Command) (first left : Option (List ℕ)) (n : ℕ) (c : Cause) → IsReadTo f first left n c → IsRefusedInput f asked first left n c
refused_record f asked first left n c r = record {
  taken = r.bytes ++ r.refused.chunk;
  gave = gives_again first r.left left r.bytes r.refused.chunk r.before.gave r.refused.gave;
  decided = inr (record { before = r.bytes; last = r.refused.chunk; is = refl; few = r.refused.few; fresh = r.before.fresh asked; refused = r.refused.refused.0 asked; other = r.refused.refused.1 });
  refused = r.refused.refused.0 asked;
}

pub as_refused : (f : Format) (asked : Command) (bytes : List ℕ) (line : LineRefusal) (fault : FeedFault) (n : ℕ) (c : Cause) → fault ≡ faults.Refused line.line line.cause → fault ≡ faults.Refused n c → FirstIllegal f asked bytes line.line line.cause → FirstIllegal f asked bytes n c
as_refused f asked bytes line fault n c is other first =
    let at : line.line ≡ n = cc in
    let why : line.cause ≡ c = cc in
    subst (λ w. FirstIllegal f asked bytes n w) why (subst (λ k. FirstIllegal f asked bytes k line.cause) at first)

-- the `end` line is over a limit
pub refused_limit : (f : Format) (asked : Command) (first left : Option (List ℕ)) (session : Session) (n : ℕ) (c : Cause) → (r : IsRead f first left session None) → IsEndFault (end_cause_for asked session.graph.version (reverse r.ends.records)) (reverse r.ends.records) (faults.Refused n c) → IsRefusedInput f asked first left n c
refused_limit f asked first left session n c r fault =
    let bytes = r.bytes ++ r.ends.chunk in
    let refused : FirstIllegal f asked bytes n c = refused_end f asked session.graph.version bytes r.ends.records None n c r.ends.reading tt r.ends.stands.legal (omega (arith, fault.0, length-reverse r.ends.records)) fault.1 in
    record { taken = bytes; gave = all_given f first left session None r; decided = inr (just f asked first left session None n c r refused (end_cause_other asked session.graph.version (reverse r.ends.records) c fault.1)); refused = refused }

-- a call that does not fail leaves the count of faults as it was
pub reads_stand : {X : Type 0} (result : Result X InputFault) (old new : ℕ) → result ≢ Err input_faults.Failed → new ≡ old → CountsReads result old new
reads_stand {X} (Ok x) old new other same = record { rose = λ failed. absurd (cc); once = λ failed. absurd (cc); stands = λ _. same; count = omega (arith, same) }
reads_stand {X} (Err fault) old new other same = record {
  rose = λ failed. absurd (other (cc));
  once = λ failed. absurd (other (cc));
  stands = λ _. same;
  count = omega (arith, same);
}

none_given : (old new : Option (List ℕ)) (n : ℕ) (buffer : List ℕ) → Gives old (take n buffer) new → n ≡ 0 → Gives old [] new
none_given old new zero buffer gave none = gave
none_given old new (suc n) buffer gave none = absurd (cc)

pub some_taken : (n : ℕ) (buffer : List ℕ) → n ≤ length buffer → (n ≡ 0 → ⊥) → 0 < length (take n buffer)
some_taken zero buffer within some = absurd (some refl)
some_taken (suc n) buffer within some = omega (arith, within, length-take-le (suc n) buffer within)

some_bytes : (bytes : List ℕ) → 0 < length bytes → bytes ≢ []
some_bytes [] some = absurd (omega arith)
some_bytes (b ∷ bytes) some = λ e. cc

after_end : (f : Format) (asked : Command) (v : Version) (bytes more : List ℕ) (records : List Record) → IsLegalTrace f asked v bytes records → 0 < length more → FirstIllegal f asked (bytes ++ more) (length records + 3) AfterEnd
after_end f asked v bytes more records trace some = of_line f asked (bytes ++ more) (length records + 3) AfterEnd (Ended v records) refl (trace.legal, trace.within) (record {
  before = bytes;
  rest = more;
  are = trace.is_trace.whole;
  few = omega (arith, trace.is_trace.few);
  begins = refl;
  cause = by_cause.AfterEnd refl (some_bytes more some) refl;
})

-- a byte stands behind it
pub refused_more : (f : Format) → IsFormat f → (asked : Command) (first left_old left_new : Option (List ℕ)) (session : Session) (judged : Judged) (more : List ℕ) (n : ℕ) → judged.session.graph.version ≡ session.graph.version → (r : IsRead f first left_old session None) → IsJudged asked judged.session judged.found (reverse r.ends.records) → Gives left_old more left_new
    → 0 < length more → length more ≤ chunk_bytes → n ≡ length r.ends.records + 3 → IsRefusedInput f asked first left_new n AfterEnd
refused_more f good asked first left_old left_new session judged more n same r is gave some few at =
    let bytes = r.bytes ++ r.ends.chunk in
    let legal = legal_read f asked session.graph.version bytes r.ends.records None refl r.ends.reading (subst (λ u. IsLegal (rules u) (reverse r.ends.records)) same is.stands.legal) (ap (λ u. end_cause_for asked u (reverse r.ends.records)) (sym same) ∙ is.within) in
    let refused : FirstIllegal f asked (bytes ++ more) n AfterEnd = subst (λ k. FirstIllegal f asked (bytes ++ more) k AfterEnd) (sym at) (after_end f asked session.graph.version bytes more r.ends.records legal some) in
    record {
      taken = bytes ++ more;
      gave = gives_again first left_old left_new bytes more (all_given f first left_old session None r) gave;
      decided = inr (record { before = bytes; last = more; is = refl; few = few; fresh = λ final. not_refused f good asked session.graph.version bytes r.ends.records final.0 final.1 legal final.2; refused = refused; other = λ e. cc });
      refused = refused;
    }

-- nothing stands behind it
pub accepted_input : (f : Format) (asked : Command) (first left_old left_new : Option (List ℕ)) (session : Session) (judged : Judged) → judged.session.graph.version ≡ session.graph.version → (r : IsRead f first left_old session None) → IsJudged asked judged.session judged.found (reverse r.ends.records)
    → (n : ℕ) (buffer : List ℕ) → Gives left_old (take n buffer) left_new → n ≡ 0 → IsSpent left_new → IsAcceptedInput f asked first left_new judged
accepted_input f asked first left_old left_new session judged same r is n buffer gave none spent =
    let bytes = r.bytes ++ r.ends.chunk in
    record {
      taken = bytes;
      gave = subst (Gives first bytes) (sym (gives_nothing_back left_old left_new (none_given left_old left_new n buffer gave none))) (all_given f first left_old session None r);
      spent = spent;
      accepted = accepted_by f asked session.graph.version bytes r.ends.records judged same r.ends.reading is;
    }
