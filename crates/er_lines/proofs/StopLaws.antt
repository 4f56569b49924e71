-- Where the reading of some bytes stops, and that it stops at one place.
use Rattle.std.proofs.Common.{◌≡◌, ℕ, ◌+◌, ◌≤◌, List, [], ◌++◌, length, Option, Some, None, Ok, Err, refl, ap, sym, ◌∙◌, subst, arith, append_assoc, append-nil, inl, inr}
use Rattle.std.specs.Prelude.{◌≢◌, ◌⊎◌, Result, OnOk}
use Rattle.std.specs.Result.{result_err}
use Rattle.er_text.specs.declared.causes.Cause.{Cause}
use Rattle.er_text.specs.declared.causes.Cause.TheVariants.{NoEnd}
use Rattle.er_trace.specs.declared.record.Record.{Record}
use Rattle.er_trace.specs.declared.fault.FeedFault.{FeedFault}
use Rattle.er_trace.specs.declared.fault.FeedFault.TheVariants.{Refused, NoMemory}
use Rattle.er_trace.specs.declared.version.Version.{Version}
use Rattle.er_trace.specs.Trace.{most_lines}
use Rattle.er_lines.specs.declared.mark.Mark.{Mark}
use Rattle.er_lines.specs.declared.mark.Mark.TheVariants as marks
use Rattle.er_lines.specs.Format.{Format, IsFormat}
use Rattle.er_lines.specs.Lines.{Place, Start, After, Ended, line_number, records_before, AreBefore, IsTrace, IsTraceOf, Refuses, LineCause, ReadsUntil}
use Rattle.er_lines.specs.Marks.{mark_of, number_at}
use Rattle.er_lines.specs.Feed.{IsUnfinished, Stands, IsFed, IsFedUntil}
use Rattle.er_lines.specs.Steps.{Leads}
use Rattle.er_lines.proofs.OneReading.{one_refusal, one_trace, trace_not_refused, SameRefusal}
use Rattle.er_lines.proofs.CauseLaws.{line_cause_more}
use Rattle.er_lines.proofs.FeedLaws.{number_of_place}

-- no last line stands before the line
abbrev pub IsBeforeEnd : Mark → Type 0
IsBeforeEnd marks.Start = Unit {0}
IsBeforeEnd (marks.After v n) = Unit {0}
IsBeforeEnd (marks.Ended v n) = ⊥

-- what bytes come to for which no cause but `no-end` applies: a line is not at its end yet, or the
-- trace is whole
pub data Unfinished (f : Format) (mark : Mark) (line bytes : List ℕ) (records : List Record) : Type 0 where
  Waits : (place : Place) → (h : Refuses f bytes place NoEnd) → line ≡ h.rest → mark ≡ mark_of place → records ≡ records_before place → IsBeforeEnd mark → Unfinished f mark line bytes records
  Whole : (v : Version) → IsTrace f v bytes records → mark ≡ marks.Ended v (length records) → line ≡ [] → Unfinished f mark line bytes records

abbrev refusal_at : (f : Format) (place : Place) (before rest bytes : List ℕ) (c : Cause) → AreBefore f place before → line_number place ≤ most_lines + 1 → bytes ≡ before ++ rest → LineCause f place rest c → Refuses f bytes place c
refusal_at f place before rest bytes c are few begins cause = record { before = before; rest = rest; are = are; few = few; begins = begins; cause = cause }

unfinished_by : (f : Format) (place : Place) (mark : Mark) (line before rest bytes : List ℕ) (records : List Record) → AreBefore f place before → line_number place ≤ most_lines + 1 → bytes ≡ before ++ rest → mark ≡ mark_of place → records ≡ records_before place
    → IsUnfinished f place rest → line ≡ rest → Unfinished f mark line bytes records
unfinished_by f Start mark line before rest bytes records are few begins marked listed h same =
    Waits Start (refusal_at f Start before rest bytes NoEnd are few begins h) same marked listed (subst IsBeforeEnd (sym marked) tt)
unfinished_by f (After v list) mark line before rest bytes records are few begins marked listed h same =
    Waits (After v list) (refusal_at f (After v list) before rest bytes NoEnd are few begins h) same marked listed (subst IsBeforeEnd (sym marked) tt)
unfinished_by f (Ended v list) mark line before rest bytes records are few begins marked listed h same =
    let all : before ≡ bytes = sym ((begins ∙ ap (λ r. before ++ r) h) ∙ append-nil before) in
    Whole v (subst (λ (b : List ℕ). IsTrace f v b records) all (subst (λ (r : List Record). IsTrace f v before r) (sym listed) record { whole = are; few = omega (arith, few) }))
    (marked ∙ ap (λ (l : List Record). marks.Ended v (length l)) (sym listed))
    (same ∙ h)

pub unfinished : (f : Format) (mark : Mark) (line bytes : List ℕ) (records : List Record) → Stands f mark line None bytes records → Unfinished f mark line bytes records
unfinished f mark line bytes records h = unfinished_by f h.place mark line h.before h.rest bytes records h.are h.few h.begins h.marked h.records_are h.kept.0 h.kept.1

refusal_of : (f : Format) (mark : Mark) (line bytes : List ℕ) (records : List Record) (n : ℕ) (c : Cause) → (h : Stands f mark line (Some (Refused n c)) bytes records) → Refuses f bytes h.place c
refusal_of f mark line bytes records n c h = refusal_at f h.place h.before h.rest bytes c h.are h.few h.begins h.kept.1

-- what is refused answers the same for more bytes
pub stays_refused : (f : Format) (mark : Mark) (line : List ℕ) (fault : FeedFault) (bytes chunk : List ℕ) (records : List Record) → Stands f mark line (Some fault) bytes records → Stands f mark line (Some fault) (bytes ++ chunk) records
stays_refused f mark line (Refused n c) bytes chunk records h = record {
  place = h.place;
  before = h.before;
  rest = h.rest ++ chunk;
  are = h.are;
  few = h.few;
  begins = ap (λ b. b ++ chunk) h.begins ∙ append_assoc h.before h.rest chunk;
  marked = h.marked;
  records_are = h.records_are;
  kept = (h.kept.0, line_cause_more f h.place h.rest chunk c h.kept.1 h.kept.2, h.kept.2);
}
stays_refused f mark line NoMemory bytes chunk records h = elim h.kept [ ]

pub longer : (f : Format) (bytes more : List ℕ) (place : Place) (c : Cause) → Refuses f bytes place c → c ≢ NoEnd → Refuses f (bytes ++ more) place c
longer f bytes more place c h other = record {
  before = h.before;
  rest = h.rest ++ more;
  are = h.are;
  few = h.few;
  begins = ap (λ b. b ++ more) h.begins ∙ append_assoc h.before h.rest more;
  cause = line_cause_more f place h.rest more c h.cause other;
}

-- the line of the fault is refused, and these are the records before it
pub until : (f : Format) (mark : Mark) (line bytes : List ℕ) (records : List Record) (n : ℕ) (c : Cause) → Stands f mark line (Some (Refused n c)) bytes records → (c ≢ NoEnd) × ReadsUntil f bytes n c records
until f mark line bytes records n c h = (h.kept.2, (h.place, refusal_of f mark line bytes records n c h, h.kept.0, h.records_are))

not_unfinished : (f : Format) → IsFormat f → (mark : Mark) (line bytes : List ℕ) (records : List Record) (place : Place) (c : Cause) → Unfinished f mark line bytes records → Refuses f bytes place c → c ≢ NoEnd → ⊥
not_unfinished f good mark line bytes records place c (Waits at is same marked listed early) h other = other (sym (one_refusal f good bytes at place NoEnd c is h).cause)
not_unfinished f good mark line bytes records place c (Whole v is marked none) h other = trace_not_refused f good v bytes records place c is h

-- the fault is the refusal of the bytes
pub the_fault : (f : Format) → IsFormat f → (mark : Mark) (line bytes : List ℕ) (fault : Option FeedFault) (records : List Record) (place : Place) (c : Cause) → Stands f mark line fault bytes records → Refuses f bytes place c → c ≢ NoEnd → fault ≡ Some (Refused (line_number place) c)
the_fault f good mark line bytes None records place c h is other = absurd (not_unfinished f good mark line bytes records place c (unfinished f mark line bytes records h) is other)
the_fault f good mark line bytes (Some NoMemory) records place c h is other = elim h.kept [ ]
the_fault f good mark line bytes (Some (Refused n d)) records place c h is other =
    let r : Refuses f bytes h.place d = refusal_of f mark line bytes records n d h in
    let same : SameRefusal h.place place d c r.rest is.rest = one_refusal f good bytes h.place place d c r is in
    let number : n ≡ line_number h.place = h.kept.0 in
    let there : line_number h.place ≡ line_number place = ap line_number same.place in
    let cause : d ≡ c = same.cause in
    cc

abbrev Answer : Type 0
Answer = Result (Unit {0}) FeedFault

-- what a call of `feed` leads to, by its answer
pub leads_by : (f : Format) (r : Answer) (mark next : Mark) (line later chunk : List ℕ) (old new : List Record) → OnOk r (Leads f mark line chunk next later None old new)
    → ((n : ℕ) (c : Cause) → r ≡ Err (Refused n c) → Leads f mark line chunk next later (Some (Refused n c)) old new)
    → r ≢ Err NoMemory → Leads f mark line chunk next later (result_err r) old new
leads_by f (Ok u) mark next line later chunk old new read refused some = read
leads_by f (Err (Refused n c)) mark next line later chunk old new read refused some = refused n c refl
leads_by f (Err NoMemory) mark next line later chunk old new read refused some = absurd (some refl)

pub refuses_by : (f : Format) → IsFormat f → (r : Answer) (mark next : Mark) (line later chunk bytes : List ℕ) (old new earlier : List Record) (place : Place) (c : Cause) → (r ≢ Err NoMemory → Leads f mark line chunk next later (result_err r) old new)
    → Stands f mark line None bytes earlier → Refuses f (bytes ++ chunk) place c → c ≢ NoEnd → (r ≡ Err (Refused (line_number place) c)) ⊎ (r ≡ Err NoMemory)
refuses_by f good (Ok u) mark next line later chunk bytes old new earlier place c leads h is other =
    let l : Leads f mark line chunk next later None old new = leads (λ e. absurd (cc)) in
    let no : None ≡ Some (Refused (line_number place) c) = the_fault f good next later (bytes ++ chunk) None (earlier ++ l.more) place c (l.stands bytes earlier h) is other in
    absurd (cc)
refuses_by f good (Err (Refused n d)) mark next line later chunk bytes old new earlier place c leads h is other =
    let l : Leads f mark line chunk next later (Some (Refused n d)) old new = leads (λ e. absurd (cc)) in
    let same : Some (Refused n d) ≡ Some (Refused (line_number place) c) = the_fault f good next later (bytes ++ chunk) (Some (Refused n d)) (earlier ++ l.more) place c (l.stands bytes earlier h) is other in
    inl cc
refuses_by f good (Err NoMemory) mark next line later chunk bytes old new earlier place c leads h is other = inr refl

-- at the end of the input

no_fault : (f : Format) → IsFormat f → (mark : Mark) (line bytes : List ℕ) (records list : List Record) (v : Version) (fault : FeedFault) → IsTrace f v bytes list → Stands f mark line (Some fault) bytes records → ⊥
no_fault f good mark line bytes records list v (Refused n c) is h = trace_not_refused f good v bytes list h.place c is (refusal_of f mark line bytes records n c h)
no_fault f good mark line bytes records list v NoMemory is h = h.kept

no_wait : (f : Format) → IsFormat f → (mark : Mark) (line bytes : List ℕ) (records list : List Record) (v : Version) → IsTrace f v bytes list → Unfinished f mark line bytes records
    → (w : Version) × (mark ≡ marks.Ended w (length records))
no_wait f good mark line bytes records list v is (Waits at refused same marked listed early) = absurd (trace_not_refused f good v bytes list at NoEnd is refused)
no_wait f good mark line bytes records list v is (Whole w trace marked none) = (w, marked)

-- a whole trace was fed
pub accepted : (f : Format) → IsFormat f → (mark : Mark) (line bytes : List ℕ) (records list : List Record) (v : Version) (fault : Option FeedFault) → IsTrace f v bytes list → Stands f mark line fault bytes records
    → (fault ≡ None) × ((w : Version) × (mark ≡ marks.Ended w (length records)))
accepted f good mark line bytes records list v None is h = (refl, no_wait f good mark line bytes records list v is (unfinished f mark line bytes records h))
accepted f good mark line bytes records list v (Some fault) is h = absurd (no_fault f good mark line bytes records list v fault is h)

wait_refused : (f : Format) → IsFormat f → (mark : Mark) (line bytes : List ℕ) (records : List Record) (place : Place) (c : Cause) → Unfinished f mark line bytes records → Refuses f bytes place c → (number_at mark ≡ line_number place) × (c ≡ NoEnd) × IsBeforeEnd mark
wait_refused f good mark line bytes records place c (Waits at refused rest marked listed early) is =
    let same : SameRefusal at place NoEnd c refused.rest is.rest = one_refusal f good bytes at place NoEnd c refused is in
    ((ap number_at marked ∙ number_of_place at) ∙ ap line_number same.place, sym same.cause, early)
wait_refused f good mark line bytes records place c (Whole v trace marked none) is = absurd (trace_not_refused f good v bytes records place c trace is)

refused_by_fault : (f : Format) → IsFormat f → (mark : Mark) (line bytes : List ℕ) (records : List Record) (fault : FeedFault) (place : Place) (c : Cause) → Stands f mark line (Some fault) bytes records → Refuses f bytes place c → fault ≡ Refused (line_number place) c
refused_by_fault f good mark line bytes records NoMemory place c h is = elim h.kept [ ]
refused_by_fault f good mark line bytes records (Refused n d) place c h is =
    let r : Refuses f bytes h.place d = refusal_of f mark line bytes records n d h in
    let same : SameRefusal h.place place d c r.rest is.rest = one_refusal f good bytes h.place place d c r is in
    let number : n ≡ line_number h.place = h.kept.0 in
    let there : line_number h.place ≡ line_number place = ap line_number same.place in
    let cause : d ≡ c = same.cause in
    cc

-- what the end of the input answers
pub data AtEnd (mark : Mark) (fault : Option FeedFault) (place : Place) (c : Cause) : Type 0 where
  Kept : fault ≡ Some (Refused (line_number place) c) → AtEnd mark fault place c
  Missing : fault ≡ None → number_at mark ≡ line_number place → c ≡ NoEnd → IsBeforeEnd mark → AtEnd mark fault place c

pub refused_end : (f : Format) → IsFormat f → (mark : Mark) (line bytes : List ℕ) (records : List Record) (fault : Option FeedFault) (place : Place) (c : Cause) → Stands f mark line fault bytes records → Refuses f bytes place c → AtEnd mark fault place c
refused_end f good mark line bytes records None place c h is =
    let w : (number_at mark ≡ line_number place) × (c ≡ NoEnd) × IsBeforeEnd mark = wait_refused f good mark line bytes records place c (unfinished f mark line bytes records h) is in
    Missing refl w.0 w.1 w.2
refused_end f good mark line bytes records (Some fault) place c h is = Kept (ap Some (refused_by_fault f good mark line bytes records fault place c h is))

-- what was fed, and what came of it

pub fed : (f : Format) (mark next : Mark) (line later chunk bytes : List ℕ) (fault after : Option FeedFault) (old new earlier : List Record) → Leads f mark line chunk next later after old new → fault ≡ None → Stands f mark line fault bytes earlier
    → IsFed f next later after (bytes ++ chunk) earlier old new
fed f mark next line later chunk bytes fault after old new earlier leads none h =
    (leads.more, leads.stands bytes earlier (subst (λ (k : Option FeedFault). Stands f mark line k bytes earlier) none h), leads.grown)

pub fed_until : (f : Format) (mark next : Mark) (line later chunk bytes : List ℕ) (fault : Option FeedFault) (n : ℕ) (c : Cause) (old new earlier : List Record) → Leads f mark line chunk next later (Some (Refused n c)) old new → fault ≡ None → Stands f mark line fault bytes earlier
    → IsFedUntil f (bytes ++ chunk) n c earlier old new
fed_until f mark next line later chunk bytes fault n c old new earlier leads none h =
    let s : Stands f next later (Some (Refused n c)) (bytes ++ chunk) (earlier ++ leads.more) = leads.stands bytes earlier (subst (λ (k : Option FeedFault). Stands f mark line k bytes earlier) none h) in
    let u : (c ≢ NoEnd) × ReadsUntil f (bytes ++ chunk) n c (earlier ++ leads.more) = until f next later (bytes ++ chunk) (earlier ++ leads.more) n c s in
    (u.0, (leads.more, u.1, leads.grown))

-- a call after a fault
pub fed_again : (f : Format) (mark : Mark) (line chunk bytes : List ℕ) (fault : FeedFault) (kept : Option FeedFault) (out earlier : List Record) → kept ≡ Some fault → Stands f mark line kept bytes earlier
    → IsFed f mark line kept (bytes ++ chunk) earlier out out
fed_again f mark line chunk bytes fault kept out earlier is h =
    let s : Stands f mark line (Some fault) (bytes ++ chunk) earlier = stays_refused f mark line fault bytes chunk earlier (subst (λ (k : Option FeedFault). Stands f mark line k bytes earlier) is h) in
    let t : Stands f mark line kept (bytes ++ chunk) earlier = subst (λ (k : Option FeedFault). Stands f mark line k (bytes ++ chunk) earlier) (sym is) s in
    ([], subst (λ (r : List Record). Stands f mark line kept (bytes ++ chunk) r) (sym (append-nil earlier)) t, sym (append-nil out))

pub until_again : (f : Format) (mark : Mark) (line chunk bytes : List ℕ) (n : ℕ) (c : Cause) (kept : Option FeedFault) (out earlier : List Record) → kept ≡ Some (Refused n c) → Stands f mark line kept bytes earlier → IsFedUntil f (bytes ++ chunk) n c earlier out out
until_again f mark line chunk bytes n c kept out earlier is h =
    let s : Stands f mark line (Some (Refused n c)) (bytes ++ chunk) earlier = stays_refused f mark line (Refused n c) bytes chunk earlier (subst (λ (k : Option FeedFault). Stands f mark line k bytes earlier) is h) in
    let u : (c ≢ NoEnd) × ReadsUntil f (bytes ++ chunk) n c earlier = until f mark line (bytes ++ chunk) earlier n c s in
    (u.0, ([], subst (λ (r : List Record). ReadsUntil f (bytes ++ chunk) n c r) (sym (append-nil earlier)) u.1, sym (append-nil out)))

pub refuses_again : (f : Format) → IsFormat f → (mark : Mark) (line chunk bytes : List ℕ) (fault : FeedFault) (kept : Option FeedFault) (earlier : List Record) (place : Place) (c : Cause) → kept ≡ Some fault → Stands f mark line kept bytes earlier → Refuses f (bytes ++ chunk) place c
    → fault ≡ Refused (line_number place) c
refuses_again f good mark line chunk bytes fault kept earlier place c is h refused =
    refused_by_fault f good mark line (bytes ++ chunk) earlier fault place c
    (stays_refused f mark line fault bytes chunk earlier (subst (λ (k : Option FeedFault). Stands f mark line k bytes earlier) is h)) refused

-- two feeds that stand for the same bytes

-- they keep the same
pub record SameKept (here there : Mark) (l m : List ℕ) (first second : Option FeedFault) (a b : List Record) : Type 0 where
  pub records : a ≡ b
  pub mark : here ≡ there
  pub fault : first ≡ second
  pub line : first ≡ None → l ≡ m

same_unfinished : (f : Format) → IsFormat f → (mark also : Mark) (line more bytes : List ℕ) (a b : List Record) → Unfinished f mark line bytes a → Unfinished f also more bytes b → (a ≡ b) × (mark ≡ also) × (line ≡ more)
same_unfinished f good mark also line more bytes a b (Waits p is begins marked listed early) (Waits q too starts noted known soon) =
    let same : SameRefusal p q NoEnd NoEnd is.rest too.rest = one_refusal f good bytes p q NoEnd NoEnd is too in (
      (listed ∙ ap records_before same.place) ∙ sym known,
      (marked ∙ ap mark_of same.place) ∙ sym noted,
      (begins ∙ same.rest) ∙ sym starts,
    )
same_unfinished f good mark also line more bytes a b (Waits p is begins marked listed early) (Whole w trace noted none) = absurd (trace_not_refused f good w bytes b p NoEnd trace is)
same_unfinished f good mark also line more bytes a b (Whole v trace noted none) (Waits p is begins marked listed early) = absurd (trace_not_refused f good v bytes a p NoEnd trace is)
same_unfinished f good mark also line more bytes a b (Whole v trace marked none) (Whole w other noted empty) =
    let same : (v ≡ w) × (a ≡ b) = one_trace f good bytes v w a b trace other in
    (same.1, (marked ∙ (λ i. marks.Ended (same.0 i) (length (same.1 i)))) ∙ sym noted, none ∙ sym empty)

same_refused : (f : Format) → IsFormat f → (mark also : Mark) (line more bytes : List ℕ) (n m : ℕ) (c d : Cause) (a b : List Record) → Stands f mark line (Some (Refused n c)) bytes a → Stands f also more (Some (Refused m d)) bytes b → (a ≡ b) × (mark ≡ also) × (Refused n c ≡ Refused m d)
same_refused f good mark also line more bytes n m c d a b h k =
    let first : Refuses f bytes h.place c = refusal_of f mark line bytes a n c h in
    let second : Refuses f bytes k.place d = refusal_of f also more bytes b m d k in
    let same : SameRefusal h.place k.place c d first.rest second.rest = one_refusal f good bytes h.place k.place c d first second in
    let number : n ≡ m = (h.kept.0 ∙ ap line_number same.place) ∙ sym k.kept.0 in
    let cause : c ≡ d = same.cause in
    ((h.records_are ∙ ap records_before same.place) ∙ sym k.records_are, (h.marked ∙ ap mark_of same.place) ∙ sym k.marked, cc)

not_both : (f : Format) → IsFormat f → (mark also : Mark) (line more bytes : List ℕ) (fault : FeedFault) (a b : List Record) → Stands f mark line None bytes a → Stands f also more (Some fault) bytes b → ⊥
not_both f good mark also line more bytes NoMemory a b h k = k.kept
not_both f good mark also line more bytes (Refused n c) a b h k =
    not_unfinished f good mark line bytes a k.place c (unfinished f mark line bytes a h) (refusal_of f also more bytes b n c k) k.kept.2

pub one_feed : (f : Format) → IsFormat f → (mark also : Mark) (line more bytes : List ℕ) (fault other : Option FeedFault) (a b : List Record) → Stands f mark line fault bytes a → Stands f also more other bytes b
    → SameKept mark also line more fault other a b
one_feed f good mark also line more bytes None None a b h k =
    let same : (a ≡ b) × (mark ≡ also) × (line ≡ more) = same_unfinished f good mark also line more bytes a b (unfinished f mark line bytes a h) (unfinished f also more bytes b k) in
    record { records = same.0; mark = same.1; fault = refl; line = λ _. same.2 }
one_feed f good mark also line more bytes None (Some fault) a b h k = absurd (not_both f good mark also line more bytes fault a b h k)
one_feed f good mark also line more bytes (Some fault) None a b h k = absurd (not_both f good also mark more line bytes fault b a k h)
one_feed f good mark also line more bytes (Some (Refused n c)) (Some (Refused m d)) a b h k =
    let same : (a ≡ b) × (mark ≡ also) × (Refused n c ≡ Refused m d) = same_refused f good mark also line more bytes n m c d a b h k in
    record { records = same.0; mark = same.1; fault = ap Some same.2; line = λ e. absurd (cc) }
one_feed f good mark also line more bytes (Some NoMemory) (Some other) a b h k = elim h.kept [ ]
one_feed f good mark also line more bytes (Some (Refused n c)) (Some NoMemory) a b h k = elim k.kept [ ]

-- the end is missing

missing_by : (f : Format) (mark : Mark) (line bytes : List ℕ) (records : List Record) (n : ℕ) (c : Cause) → ((v : Version) (k : ℕ) → mark ≡ marks.Ended v k → ⊥) → Unfinished f mark line bytes records → n ≡ number_at mark → c ≡ NoEnd → ReadsUntil f bytes n c records
missing_by f mark line bytes records n c not_ended (Waits at is same marked listed early) numbered cause =
    (at, subst (Refuses f bytes at) (sym cause) is, (numbered ∙ ap number_at marked) ∙ number_of_place at, listed)
missing_by f mark line bytes records n c not_ended (Whole v trace marked none) numbered cause = absurd (not_ended v (length records) marked)

pub missing : (f : Format) (mark : Mark) (line bytes : List ℕ) (records : List Record) (fault : Option FeedFault) (n : ℕ) (c : Cause) → fault ≡ None → ((v : Version) (k : ℕ) → mark ≡ marks.Ended v k → ⊥) → Stands f mark line fault bytes records → n ≡ number_at mark → c ≡ NoEnd → ReadsUntil f bytes n c records
missing f mark line bytes records fault n c none not_ended h numbered cause =
    missing_by f mark line bytes records n c not_ended (unfinished f mark line bytes records (subst (λ (k : Option FeedFault). Stands f mark line k bytes records) none h)) numbered cause

-- the end was read, so nothing is refused
pub not_missing : (f : Format) → IsFormat f → (mark : Mark) (line bytes : List ℕ) (records : List Record) (fault : Option FeedFault) (place : Place) (c : Cause) (v : Version) (k : ℕ) → fault ≡ None → mark ≡ marks.Ended v k → Stands f mark line fault bytes records → Refuses f bytes place c → ⊥
not_missing f good mark line bytes records fault place c v k none ended h is = elim (refused_end f good mark line bytes records fault place c h is) [
  | Kept same ↦ absurd (cc)
  | Missing none_too numbered cause early ↦ subst IsBeforeEnd ended early
]

-- the last line was read, so the trace is whole
ended_by : (f : Format) (mark : Mark) (line bytes : List ℕ) (records : List Record) (v : Version) (k : ℕ) → mark ≡ marks.Ended v k → Unfinished f mark line bytes records → IsTraceOf f bytes records
ended_by f mark line bytes records v k ended (Waits at is same marked listed early) = elim (subst IsBeforeEnd ended early) [ ]
ended_by f mark line bytes records v k ended (Whole w trace marked none) = (w, trace)

pub ended : (f : Format) (mark : Mark) (line bytes : List ℕ) (records : List Record) (fault : Option FeedFault) (v : Version) (k : ℕ) → fault ≡ None → mark ≡ marks.Ended v k → Stands f mark line fault bytes records → IsTraceOf f bytes records
ended f mark line bytes records fault v k none is h =
    ended_by f mark line bytes records v k is (unfinished f mark line bytes records (subst (λ (o : Option FeedFault). Stands f mark line o bytes records) none h))
