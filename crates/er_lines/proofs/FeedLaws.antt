-- What a feed keeps, from line to line.
use Rattle.std.proofs.Common.{◌≡◌, ℕ, ◌+◌, ◌<◌, ◌≤◌, List, [], ◌∷◌, ◌++◌, length, take, true, ◌-◌, Option, Some, None, refl, ap, sym, ◌∙◌, subst, arith, append_assoc, append-nil, length-append}
use Rattle.std.specs.Prelude.{◌≢◌}
use Rattle.er_text.specs.Bytes.{has_no_lf}
use Rattle.er_text.specs.declared.causes.Cause.{Cause}
use Rattle.er_text.specs.declared.causes.Cause.TheVariants.{LongLine, NoEnd}
use Rattle.er_trace.specs.declared.record.Record.{Record}
use Rattle.er_trace.specs.declared.fault.FeedFault.{FeedFault}
use Rattle.er_trace.specs.declared.fault.FeedFault.TheVariants.{Refused}
use Rattle.er_trace.specs.declared.version.Version.{Version}
use Rattle.er_trace.specs.Trace.{most_lines, line as with_end}
use Rattle.er_lines.specs.declared.mark.Mark.{Mark}
use Rattle.er_lines.specs.declared.mark.Mark.TheVariants as marks
use Rattle.er_lines.specs.Format.{Format}
use Rattle.er_lines.specs.Lines.{Place, Start, After, Ended, line_number, records_before, IsShort, AreLines, AreBehind, AreBefore, is_long, LineCause}
use Rattle.er_lines.specs.Lines as by_cause
use Rattle.er_lines.specs.Marks.{mark_of, number_at, IsOpen, IsClosed}
use Rattle.er_lines.specs.Feed.{IsUnfinished, Stands}
use Rattle.er_lines.specs.Steps.{IsLine, IsBadLine, IsFront, IsFrontAt, Leads, LeadsPart, Took}
use Rattle.er_lines.proofs.CauseLaws.{no_end_short, no_bytes_many, few_many, some_many, short_both, long_both}

-- a line that is not at its end yet is short
pub unfinished_short : (f : Format) (place : Place) (line : List ℕ) → IsUnfinished f place line → IsShort f.most line
unfinished_short f Start line h = no_end_short f Start line h
unfinished_short f (After v records) line h = no_end_short f (After v records) line h
unfinished_short f (Ended v records) line h = rw h record { clear = refl; few = omega arith }

-- where a line may stand, a short one is not at its end yet
pub short_unfinished : (f : Format) (place : Place) (line : List ℕ) → IsOpen (mark_of place) → IsShort f.most line → IsUnfinished f place line
short_unfinished f Start line free h = by_cause.NoEnd refl (few_many 1 line (omega arith)) h refl
short_unfinished f (After v records) line free h = by_cause.NoEnd refl (few_many (length records + 2) line free) h refl
short_unfinished f (Ended v records) line free h = elim free [ ]

none_short : (most : ℕ) → IsShort most []
none_short most = record { clear = refl; few = omega arith }

-- no byte of a line has come
pub none_unfinished : (f : Format) (place : Place) → IsUnfinished f place []
none_unfinished f Start = by_cause.NoEnd refl (no_bytes_many 1) (none_short f.most) refl
none_unfinished f (After v records) = by_cause.NoEnd refl (no_bytes_many (length records + 2)) (none_short f.most) refl
none_unfinished f (Ended v records) = refl

pub number_of_place : (place : Place) → number_at (mark_of place) ≡ line_number place
number_of_place Start = refl
number_of_place (After v records) = refl
number_of_place (Ended v records) = refl

-- the bytes with a whole line more
line_behind : (before kept front bytes l : List ℕ) → bytes ≡ before ++ kept → kept ++ front ≡ l → bytes ++ with_end front ≡ before ++ with_end l
line_behind before kept front bytes l begins is =
    (ap (λ b. b ++ with_end front) begins ∙ append_assoc before kept (with_end front))
    ∙ ap (λ b. before ++ b) (sym (append_assoc kept front (10 ∷ [])) ∙ ap with_end is)

-- lines with one more
pub lines_more : (f : Format) (v : Version) (bytes : List ℕ) (records : List Record) (l : List ℕ) (x : Record) → AreLines f v bytes records → IsShort f.most l → f.Spells v l x → AreLines f v (bytes ++ with_end l) (records ++ x ∷ [])
lines_more f v bytes [] l x are short spells = (l, [], short, spells, ap (λ b. b ++ with_end l) are ∙ sym (append-nil (with_end l)), refl)
lines_more f v bytes (y ∷ records) l x are short spells = (
  are.0,
  are.1 ++ with_end l,
  are.2,
  are.3,
  ap (λ b. b ++ with_end l) are.4 ∙ append_assoc (with_end are.0) are.1 (with_end l),
  lines_more f v are.1 records l x are.5 short spells,
)

pub behind_more : (f : Format) (v : Version) (bytes : List ℕ) (records : List Record) (l : List ℕ) (x : Record) → AreBehind f v bytes records → IsShort f.most l → f.Spells v l x
    → AreBehind f v (bytes ++ with_end l) (records ++ x ∷ [])
behind_more f v bytes records l x are short spells = record {
  first = are.first;
  short = are.short;
  header = are.header;
  later = are.later ++ with_end l;
  begins = ap (λ b. b ++ with_end l) are.begins ∙ append_assoc (with_end are.first) are.later (with_end l);
  lines = lines_more f v are.later records l x are.lines short spells;
}

pub stands_line : (f : Format) (place : Place) (next : Mark) (before kept front bytes : List ℕ) (came earlier : List Record) → AreBefore f place before → line_number place ≤ most_lines + 1 → IsOpen (mark_of place) → IsShort f.most (kept ++ front)
    → bytes ≡ before ++ kept → earlier ≡ records_before place → IsLine f (mark_of place) (kept ++ front) next came
    → Stands f next [] None (bytes ++ with_end front) (earlier ++ came)
stands_line f Start (marks.After w m) before kept front bytes came earlier are few free short begins listed leads = record {
  place = After w [];
  before = with_end (kept ++ front);
  rest = [];
  are = record { first = kept ++ front; short = short; header = leads.0; later = []; begins = sym (append-nil (with_end (kept ++ front))); lines = refl };
  few = omega arith;
  begins = (line_behind before kept front bytes (kept ++ front) begins refl ∙ ap (λ b. b ++ with_end (kept ++ front)) are) ∙ sym (append-nil (with_end (kept ++ front)));
  marked = ap (marks.After w) leads.1;
  records_are = cc;
  kept = (none_unfinished f (After w []), refl);
}
stands_line f Start marks.Start before kept front bytes came earlier are few free short begins listed leads = elim leads [ ]
stands_line f Start (marks.Ended w m) before kept front bytes came earlier are few free short begins listed leads = elim leads [ ]
stands_line f (After v records) marks.Start before kept front bytes came earlier are few free short begins listed leads = elim leads [ ]
stands_line f (Ended v records) next before kept front bytes came earlier are few free short begins listed leads = elim free [ ]
stands_line f (After v records) (marks.After w m) before kept front bytes came earlier are few free short begins listed leads = record {
  place = After v (records ++ leads.0 ∷ []);
  before = before ++ with_end (kept ++ front);
  rest = [];
  are = behind_more f v before records (kept ++ front) leads.0 are short leads.1;
  few = omega (arith, length-append records (leads.0 ∷ []));
  begins = line_behind before kept front bytes (kept ++ front) begins refl ∙ sym (append-nil (before ++ with_end (kept ++ front)));
  marked = leads.2 ∙ ap (marks.After v) (sym (length-append records (leads.0 ∷ [])));
  records_are = cc;
  kept = (none_unfinished f (After v (records ++ leads.0 ∷ [])), refl);
}
stands_line f (After v records) (marks.Ended w m) before kept front bytes came earlier are few free short begins listed leads = record {
  place = Ended v records;
  before = before ++ with_end (kept ++ front);
  rest = [];
  are = record { front = before; behind = are; last = kept ++ front; short = short; end = leads.0; begins = refl };
  few = omega arith;
  begins = line_behind before kept front bytes (kept ++ front) begins refl ∙ sym (append-nil (before ++ with_end (kept ++ front)));
  marked = leads.1;
  records_are = (ap (λ l. earlier ++ l) leads.2 ∙ append-nil earlier) ∙ listed;
  kept = (refl, refl);
}

-- a line came to its end
pub took_line : (f : Format) (mark next : Mark) (kept chunk front later : List ℕ) (came old new : List Record) → IsOpen mark → has_no_lf front ≡ true → length kept + length front ≤ f.most → IsLine f mark (kept ++ front) next came
    → chunk ≡ front ++ 10 ∷ later → new ≡ old ++ came → Took f mark kept chunk next [] later old new
took_line f mark next kept chunk front later came old new free clear few is e grown = record {
  front = with_end front;
  taken = e ∙ sym (append_assoc front (10 ∷ []) later);
  leads = record {
    more = came;
    grown = grown;
    stands = λ bytes earlier h.
        let short : IsShort f.most kept = subst (IsShort f.most) (sym h.kept.1) (unfinished_short f h.place h.rest h.kept.0) in
        stands_line f h.place next h.before kept front bytes came earlier h.are h.few
        (subst IsOpen h.marked free)
        (short_both f.most kept front short clear few)
        (h.begins ∙ ap (λ r. h.before ++ r) (sym h.kept.1))
        h.records_are
        (subst (λ (m : Mark). IsLine f m (kept ++ front) next came) h.marked is);
  };
}

more_behind : (before kept rest chunk bytes : List ℕ) → bytes ≡ before ++ rest → kept ≡ rest → bytes ++ chunk ≡ before ++ (kept ++ chunk)
more_behind before kept rest chunk bytes begins same = (ap (λ b. b ++ chunk) begins ∙ append_assoc before rest chunk) ∙ ap (λ r. before ++ (r ++ chunk)) (sym same)

-- the line of a record stands at the front
pub front_at : (f : Format) (mark : Mark) (kept chunk left : List ℕ) (x : Record) (v : Version) (n : ℕ) → mark ≡ marks.After v n → n + 2 ≤ most_lines → kept ≡ [] → IsFront f.most (f.Spells v) chunk x left
    → IsFrontAt f mark kept chunk (marks.After v (n + 1)) x left
front_at f mark kept chunk left x v n at few none front = record {
  free = subst IsOpen (sym at) few;
  none = none;
  version = v;
  front = front;
  line = subst (λ (m : Mark). IsLine f m front.l (marks.After v (n + 1)) (x ∷ [])) (sym at) (x, front.spells, refl, refl);
}

-- so it was taken, where nothing is kept
pub took_front : (f : Format) (mark next : Mark) (kept chunk left : List ℕ) (x : Record) (old new : List Record) → IsFrontAt f mark kept chunk next x left → new ≡ old ++ x ∷ []
    → Took f mark kept chunk next kept left old new
took_front f mark next kept chunk left x old new is grown =
    subst (λ (l : List ℕ). Took f mark l chunk next l left old new) (sym is.none)
    (took_line f mark next [] chunk is.front.l left (x ∷ []) old new is.free is.front.short.clear (omega (arith, is.front.short.few)) is.line is.front.cut grown)

-- all bytes are of the line
pub took_all : (f : Format) (mark : Mark) (kept chunk : List ℕ) (old : List Record) → IsOpen mark → has_no_lf chunk ≡ true → length kept + length chunk ≤ f.most → Took f mark kept chunk mark (kept ++ chunk) [] old old
took_all f mark kept chunk old free clear few = record {
  front = chunk;
  taken = sym (append-nil chunk);
  leads = record {
    more = [];
    grown = sym (append-nil old);
    stands = λ bytes earlier h.
        let short : IsShort f.most kept = subst (IsShort f.most) (sym h.kept.1) (unfinished_short f h.place h.rest h.kept.0) in
        record {
          place = h.place;
          before = h.before;
          rest = kept ++ chunk;
          are = h.are;
          few = h.few;
          begins = more_behind h.before kept h.rest chunk bytes h.begins h.kept.1;
          marked = h.marked;
          records_are = append-nil earlier ∙ h.records_are;
          kept = (short_unfinished f h.place (kept ++ chunk) (subst IsOpen h.marked free) (short_both f.most kept chunk short clear few), refl);
        };
  };
}

-- the line has the cause with the chunk behind what is kept
abbrev pub RefusesWith : Format → Mark → List ℕ → List ℕ → Cause → Type 0
RefusesWith f mark kept chunk c = (place : Place) → mark ≡ mark_of place → IsShort f.most kept → LineCause f place (kept ++ chunk) c

refused : (f : Format) (mark : Mark) (kept chunk later : List ℕ) (n : ℕ) (c : Cause) (old new : List Record) → RefusesWith f mark kept chunk c → c ≢ NoEnd → n ≡ number_at mark → new ≡ old → Leads f mark kept chunk mark later (Some (Refused n c)) old new
refused f mark kept chunk later n c old new why other numbered same = record {
  more = [];
  grown = same ∙ sym (append-nil old);
  stands = λ bytes earlier h.
      let short : IsShort f.most kept = subst (IsShort f.most) (sym h.kept.1) (unfinished_short f h.place h.rest h.kept.0) in
      record {
        place = h.place;
        before = h.before;
        rest = kept ++ chunk;
        are = h.are;
        few = h.few;
        begins = more_behind h.before kept h.rest chunk bytes h.begins h.kept.1;
        marked = h.marked;
        records_are = append-nil earlier ∙ h.records_are;
        kept = ((numbered ∙ ap number_at h.marked) ∙ number_of_place h.place, why h.place h.marked short, other);
      };
}

bad_cause : (f : Format) (place : Place) (l later bytes : List ℕ) (c : Cause) → IsOpen (mark_of place) → IsBadLine f (mark_of place) l c → IsShort f.most l → bytes ≡ with_end l ++ later → LineCause f place bytes c
bad_cause f Start l later bytes c free is short begins = by_cause.BadHeader l later refl short begins is.0 is.1
bad_cause f (After v records) l later bytes c free is short begins = by_cause.BadRecord v records l later refl (few_many (length records + 2) bytes free) short begins is.0 is.1 is.2
bad_cause f (Ended v records) l later bytes c free is short begins = elim free [ ]

bad_is_no_end : (f : Format) (mark : Mark) (l : List ℕ) (c : Cause) → IsBadLine f mark l c → c ≢ NoEnd
bad_is_no_end f marks.Start l c is e = let same = is.1 in absurd (cc)
bad_is_no_end f (marks.After v n) l c is e = let same = is.2 in absurd (cc)
bad_is_no_end f (marks.Ended v n) l c is e = elim is [ ]

line_with : (kept front later chunk : List ℕ) → chunk ≡ front ++ 10 ∷ later → kept ++ chunk ≡ with_end (kept ++ front) ++ later
line_with kept front later chunk e = (ap (λ p. kept ++ p) e ∙ sym (append_assoc kept front (10 ∷ later))) ∙ sym (append_assoc (kept ++ front) (10 ∷ []) later)

-- a whole line is refused
pub refused_line : (f : Format) (mark next : Mark) (kept chunk front later left : List ℕ) (n : ℕ) (c : Cause) (old new : List Record) → IsOpen mark → IsBadLine f mark (kept ++ front) c → chunk ≡ front ++ 10 ∷ later → has_no_lf front ≡ true → length kept + length front ≤ f.most
    → n ≡ number_at mark → next ≡ mark → new ≡ old → Leads f mark kept chunk next left (Some (Refused n c)) old new
refused_line f mark next kept chunk front later left n c old new free is e clear few numbered stays same =
    let why : RefusesWith f mark kept chunk c = λ place marked short.
    bad_cause f place (kept ++ front) later (kept ++ chunk) c (subst IsOpen marked free) (subst (λ (m : Mark). IsBadLine f m (kept ++ front) c) marked is)
    (short_both f.most kept front short clear few) (line_with kept front later chunk e) in
    subst (λ (m : Mark). Leads f mark kept chunk m left (Some (Refused n c)) old new) (sym stays)
    (refused f mark kept chunk left n c old new why (bad_is_no_end f mark (kept ++ front) c is) numbered same)

long_cause : (f : Format) (place : Place) (bytes : List ℕ) → IsOpen (mark_of place) → is_long f.most bytes ≡ true → LineCause f place bytes LongLine
long_cause f Start bytes free long = by_cause.LongLine refl (few_many 1 bytes (omega arith)) long refl
long_cause f (After v records) bytes free long = by_cause.LongLine refl (few_many (length records + 2) bytes free) long refl
long_cause f (Ended v records) bytes free long = elim free [ ]

-- a line is too long
pub refused_long : (f : Format) (mark : Mark) (kept chunk left : List ℕ) (n : ℕ) (c : Cause) (old : List Record) → IsOpen mark → has_no_lf (take (f.most + 1 - length kept) chunk) ≡ true → f.most < length kept + length chunk
    → n ≡ number_at mark → c ≡ LongLine → Leads f mark kept chunk mark left (Some (Refused n c)) old old
refused_long f mark kept chunk left n c old free clear many numbered is =
    let why : RefusesWith f mark kept chunk LongLine = λ place marked short. long_cause f place (kept ++ chunk) (subst IsOpen marked free) (long_both f.most kept chunk short clear many) in
    let why_c : RefusesWith f mark kept chunk c = subst (RefusesWith f mark kept chunk) (sym is) why in
    refused f mark kept chunk left n c old old why_c (λ e. absurd (cc)) numbered refl

closed_cause : (f : Format) (place : Place) (kept chunk : List ℕ) (c : Cause) → IsClosed (mark_of place) c → 0 < length chunk → LineCause f place (kept ++ chunk) c
closed_cause f (After v records) kept chunk c is some = by_cause.TooManyLines refl (some_many (length records + 2) (kept ++ chunk) is.0 (omega (arith, length-append kept chunk))) is.1
closed_cause f (Ended v records) kept chunk c is some = by_cause.AfterEnd refl (λ e. absurd (omega (arith, ap length e, length-append kept chunk))) is
closed_cause f Start kept chunk c is some = elim is [ ]

closed_is_no_end : (mark : Mark) (c : Cause) → IsClosed mark c → c ≢ NoEnd
closed_is_no_end (marks.After v n) c is e = let same = is.1 in absurd (cc)
closed_is_no_end (marks.Ended v n) c is e = absurd (cc)
closed_is_no_end marks.Start c is e = elim is [ ]

-- no byte may stand there
pub refused_closed : (f : Format) (mark : Mark) (kept chunk left : List ℕ) (n : ℕ) (c : Cause) (old : List Record) → IsClosed mark c → 0 < length chunk → n ≡ number_at mark → Leads f mark kept chunk mark left (Some (Refused n c)) old old
refused_closed f mark kept chunk left n c old is some numbered =
    let why : RefusesWith f mark kept chunk c = λ place marked short. closed_cause f place kept chunk c (subst (λ (m : Mark). IsClosed m c) marked is) some in
    refused f mark kept chunk left n c old old why (closed_is_no_end mark c is) numbered refl

-- from step to step

pub took_none : (f : Format) (mark : Mark) (kept chunk : List ℕ) (old : List Record) → Took f mark kept chunk mark kept chunk old old
took_none f mark kept chunk old = record {
  front = [];
  taken = refl;
  leads = record {
    more = [];
    grown = sym (append-nil old);
    stands = λ before earlier h. rw (append-nil before, append-nil earlier) h;
  };
}

pub leads_more : (f : Format) (mark next last : Mark) (kept chunk later left end : List ℕ) (fault : Option FeedFault) (old mid new : List Record) → Took f mark kept chunk next later left old mid → Leads f next later left last end fault mid new → Leads f mark kept chunk last end fault old new
leads_more f mark next last kept chunk later left end fault old mid new h then = record {
  more = h.leads.more ++ then.more;
  grown = (then.grown ∙ ap (λ l. l ++ then.more) h.leads.grown) ∙ append_assoc old h.leads.more then.more;
  stands = λ before earlier s.
      let t = then.stands (before ++ h.front) (earlier ++ h.leads.more) (h.leads.stands before earlier s) in
      let bytes : (before ++ h.front) ++ left ≡ before ++ chunk = append_assoc before h.front left ∙ ap (λ p. before ++ p) (sym h.taken) in
      subst (λ (r : List Record). Stands f last end fault (before ++ chunk) r) (append_assoc earlier h.leads.more then.more)
      (subst (λ (b : List ℕ). Stands f last end fault b ((earlier ++ h.leads.more) ++ then.more)) bytes t);
}

pub took_more : (f : Format) (mark next last : Mark) (kept chunk later left end rest : List ℕ) (old mid new : List Record) → Took f mark kept chunk next later left old mid → Took f next later left last end rest mid new → Took f mark kept chunk last end rest old new
took_more f mark next last kept chunk later left end rest old mid new h then = record {
  front = h.front ++ then.front;
  taken = (h.taken ∙ ap (λ l. h.front ++ l) then.taken) ∙ sym (append_assoc h.front then.front rest);
  leads = leads_more f mark next last kept (h.front ++ then.front) later then.front end None old mid new (record { front = h.front; taken = refl; leads = h.leads }) then.leads;
}

pub leads_all : (f : Format) (mark next : Mark) (kept chunk later left : List ℕ) (old new : List Record) → Took f mark kept chunk next later left old new → left ≡ [] → Leads f mark kept chunk next later None old new
leads_all f mark next kept chunk later left old new h none =
    let all : chunk ≡ h.front = (h.taken ∙ ap (λ l. h.front ++ l) none) ∙ append-nil h.front in
    let leads : Leads f mark kept h.front next later None old new = h.leads in
    subst (λ (p : List ℕ). Leads f mark kept p next later None old new) (sym all) leads

pub leads_part : (f : Format) (mark next : Mark) (kept chunk later left : List ℕ) (old mid new : List Record) → Took f mark kept chunk next later left old mid → new ≡ mid → LeadsPart f mark kept chunk old new
leads_part f mark next kept chunk later left old mid new h same = record {
  more = h.leads.more;
  grown = same ∙ h.leads.grown;
  part = λ before earlier s.
      let t = h.leads.stands before earlier s in
      let bytes : before ++ chunk ≡ (before ++ h.front) ++ left = ap (λ p. before ++ p) h.taken ∙ sym (append_assoc before h.front left) in (
        t.place,
        t.before,
        t.rest ++ left,
        t.are,
        t.few,
        (bytes ∙ ap (λ b. b ++ left) t.begins) ∙ append_assoc t.before t.rest left,
        t.records_are,
      );
}

pub ruleset takes = (took_none, took_more, leads_more, leads_all, leads_part)
