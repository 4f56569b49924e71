-- A byte string has one answer.
use Rattle.std.proofs.Common.{◌≡◌, ℕ, ◌+◌, ◌≤◌, List, [], ◌∷◌, ◌++◌, length, reverse, Option, Some, None, refl, ap, sym, ◌∙◌, subst, arith, append_assoc, append-nil, length-append}
use Rattle.std.proofs.lemmas.List.{reverse-append}
use Rattle.er_text.specs.declared.causes.Cause.{Cause}
use Rattle.er_trace.specs.declared.record.Record.{Record}
use Rattle.er_trace.specs.declared.version.Version.{Version}
use Rattle.er_trace.specs.Trace.{most_lines, line}
use Rattle.er_lines.specs.Format.{Format, IsFormat}
use Rattle.er_lines.specs.Lines.{Place, Start, After, Ended, line_number, IsShort, AreLines, AreBehind, LineCause, Refuses}
use Rattle.er_lines.proofs.LineLaws.{whole_line}
use Rattle.er_lines.proofs.CauseLaws.{RecordCause, cause_at, front_of}
use Rattle.er_lines.proofs.OneReading.{SameFront, same_front, no_line, no_header_by, one_refusal, trace_not_refused, one_trace, SameRefusal}
use Rattle.er_history.specs.Rules.{Rule, rules}
use Rattle.er_run.specs.Legal.{IsLegal, end_cause_for}
use Rattle.er_run.specs.Legal as legality
use Rattle.er_run.specs.Report.{text_for, refusal_for}
use Rattle.er_words.specs.declared.commands.Command.{Command}
use Rattle.er_run.specs.declared.outcome.Outcome.{Outcome}
use Rattle.er_run.specs.declared.outcome.Outcome.TheVariants.{Clean, Races, Usage, Refused, ReadFault, WriteFault, NoMemory}
use Rattle.er_run.specs.Answer.{IsLegalTrace, IsLegalBefore, FirstIllegal, outcome_for, Answers}
use Rattle.er_run.proofs.IllegalLines.{RefusesRecord, RefusesEnd, Kinds, kinds}
use Rattle.er_run.proofs.IllegalLines as by_kind

-- Two readings of the same bytes by records: one list is a front of the other.
data Meets (f : Format) (v : Version) (a b : List Record) (r s : List ℕ) : Type 0 where
  Equal : a ≡ b → r ≡ s → Meets f v a b r s
  Shorter : (x : Record) (more : List Record) (l rest : List ℕ) → IsShort f.most l → f.Spells v l x → b ≡ a ++ x ∷ more → r ≡ line l ++ rest → Meets f v a b r s
  Longer : (x : Record) (more : List Record) (l rest : List ℕ) → IsShort f.most l → f.Spells v l x → a ≡ b ++ x ∷ more → s ≡ line l ++ rest → Meets f v a b r s

meets_more : (f : Format) (v : Version) (x y : Record) (a b : List Record) (r s : List ℕ) → x ≡ y → Meets f v a b r s → Meets f v (x ∷ a) (y ∷ b) r s
meets_more f v x y a b r s same (Equal e there) = Equal (cc) there
meets_more f v x y a b r s same (Shorter z more l rest short is e there) = Shorter z more l rest short is (cc) there
meets_more f v x y a b r s same (Longer z more l rest short is e there) = Longer z more l rest short is (cc) there

-- the first line of both spells one record
same_first : (f : Format) → IsFormat f → (v : Version) (bytes l m a b : List ℕ) (x y : Record) → IsShort f.most l → IsShort f.most m → f.Spells v l x → f.Spells v m y → bytes ≡ line l ++ a → bytes ≡ line m ++ b → x ≡ y
same_first f good v bytes l m a b x y short other first second e there =
    let same : l ≡ m = (same_front f.most bytes l m a b short other e there).line in
    good.one_record v l x y first (subst (λ (k : List ℕ). f.Spells v k y) (sym same) second)

meets_lines : (f : Format) → IsFormat f → (v : Version) (a b : List Record) (la lb r s : List ℕ) → AreLines f v la a → AreLines f v lb b → la ++ r ≡ lb ++ s → Meets f v a b r s
meets_lines f good v [] [] la lb r s first second e = Equal refl ((ap (λ l. l ++ r) (sym first) ∙ e) ∙ ap (λ l. l ++ s) second)
meets_lines f good v [] (y ∷ b) la lb r s first second e =
    Shorter y b second.0 (second.1 ++ s) second.2 second.3 refl (((ap (λ l. l ++ r) (sym first) ∙ e) ∙ ap (λ l. l ++ s) second.4) ∙ append_assoc (line second.0) second.1 s)
meets_lines f good v (x ∷ a) [] la lb r s first second e =
    Longer x a first.0 (first.1 ++ r) first.2 first.3 refl (((ap (λ l. l ++ s) (sym second) ∙ sym e) ∙ ap (λ l. l ++ r) first.4) ∙ append_assoc (line first.0) first.1 r)
meets_lines f good v (x ∷ a) (y ∷ b) la lb r s first second e =
    let here : la ++ r ≡ line first.0 ++ (first.1 ++ r) = ap (λ l. l ++ r) first.4 ∙ append_assoc (line first.0) first.1 r in
    let there : la ++ r ≡ line second.0 ++ (second.1 ++ s) = (e ∙ ap (λ l. l ++ s) second.4) ∙ append_assoc (line second.0) second.1 s in
    let front : SameFront first.0 second.0 (first.1 ++ r) (second.1 ++ s) = same_front f.most (la ++ r) first.0 second.0 (first.1 ++ r) (second.1 ++ s) first.2 second.2 here there in
    meets_more f v x y a b r s (same_first f good v (la ++ r) first.0 second.0 (first.1 ++ r) (second.1 ++ s) x y first.2 second.2 first.3 second.3 here there)
    (meets_lines f good v a b first.1 second.1 r s first.5 second.5 front.rest)

behind_line : (f : Format) (v : Version) (bytes front : List ℕ) (records : List Record) (rest : List ℕ) → (are : AreBehind f v front records) → bytes ≡ front ++ rest → bytes ≡ line are.first ++ (are.later ++ rest)
behind_line f v bytes front records rest are e = (e ∙ ap (λ l. l ++ rest) are.begins) ∙ append_assoc (line are.first) are.later rest

-- the same behind a first line, which gives one version
meets : (f : Format) → IsFormat f → (v w : Version) (bytes : List ℕ) (a b : List Record) (p q r s : List ℕ) → AreBehind f v p a → AreBehind f w q b → bytes ≡ p ++ r → bytes ≡ q ++ s → (v ≡ w) × Meets f w a b r s
meets f good v w bytes a b p q r s first second e there =
    let front : SameFront first.first second.first (first.later ++ r) (second.later ++ s) =
    same_front f.most bytes first.first second.first (first.later ++ r) (second.later ++ s) first.short second.short (behind_line f v bytes p a r first e) (behind_line f w bytes q b s second there) in
    let version : v ≡ w = good.one_version first.first v w first.header (subst (f.IsHeader w) (sym front.line) second.header) in
    (version, meets_lines f good w a b first.later second.later r s (subst (λ (u : Version). AreLines f u first.later a) version first.lines) second.lines front.rest)

-- a first line stands there
no_start : (f : Format) (v : Version) (bytes front : List ℕ) (records : List Record) (rest : List ℕ) (c : Cause) → LineCause f Start bytes c → AreBehind f v front records → bytes ≡ front ++ rest → ⊥
no_start f v bytes front records rest c h are e =
    no_header_by f (whole_line f.most bytes) c v are.first (are.later ++ rest) (cause_at f Start bytes c h) (front_of f.most bytes are.first (are.later ++ rest) are.short (behind_line f v bytes front records rest are e)) are.header

-- in a legal list no record has a cause
pub legal_older : (table : List (ℕ × Rule)) (newer older : List Record) → IsLegal table (newer ++ older) → IsLegal table older
legal_older table [] older h = h
legal_older table (x ∷ newer) older h = legal_older table newer older h.1

reverse_front : (earlier more : List Record) (x : Record) → reverse (earlier ++ x ∷ more) ≡ reverse more ++ x ∷ reverse earlier
reverse_front earlier more x =
    (reverse-append earlier (x ∷ more) ∙ ap (λ (l : List Record). l ++ reverse earlier) (reverse-append (x ∷ []) more))
    ∙ append_assoc (reverse more) (x ∷ []) (reverse earlier)

no_cause : (table : List (ℕ × Rule)) (list earlier more : List Record) (x : Record) (c : Cause) → IsLegal table (reverse list) → list ≡ earlier ++ x ∷ more → legality.cause table (reverse earlier) x ≡ Some c → ⊥
no_cause table list earlier more x c legal e cause =
    let back : reverse list ≡ reverse more ++ x ∷ reverse earlier = ap reverse e ∙ reverse_front earlier more x in
    let older : IsLegal table (x ∷ reverse earlier) = legal_older table (reverse more) (x ∷ reverse earlier) (subst (IsLegal table) back legal) in
    let none : legality.cause table (reverse earlier) x ≡ None = older.0 in
    let both : None ≡ Some c = sym none ∙ cause in
    absurd (cc)

-- behind a first line these records stand, and then a record that has a cause after them
record Faulty (f : Format) (v : Version) (bytes : List ℕ) (earlier : List Record) (x : Record) (c : Cause) : Type 0 where
  front : List ℕ
  are : AreBehind f v front earlier
  few : length earlier + 2 ≤ most_lines
  l : List ℕ
  short : IsShort f.most l
  spells : f.Spells v l x
  rest : List ℕ
  begins : bytes ≡ front ++ (line l ++ rest)
  cause : legality.cause (rules v) (reverse earlier) x ≡ Some c

-- behind a first line these legal records stand, and then these bytes
record Legally (f : Format) (v : Version) (bytes : List ℕ) (records : List Record) (rest : List ℕ) : Type 0 where
  front : List ℕ
  are : AreBehind f v front records
  begins : bytes ≡ front ++ rest
  legal : IsLegal (rules v) (reverse records)

faulty : (f : Format) (v : Version) (bytes : List ℕ) (earlier : List Record) (c : Cause) (h : RefusesRecord f v bytes earlier c) → Faulty f v bytes earlier h.read c
faulty f v bytes earlier c h = record { front = h.before; are = h.are; few = h.few; l = h.l; short = h.short; spells = h.spells; rest = h.rest; begins = h.begins; cause = h.cause }

-- no record stands at the front of the bytes
abbrev NoRecord : Format → Version → List ℕ → Type 0
NoRecord f v bytes = (x : Record) (l rest : List ℕ) → IsShort f.most l → f.Spells v l x → bytes ≡ line l ++ rest → ⊥

not_legally_by : (f : Format) → IsFormat f → (v : Version) (table : List (ℕ × Rule)) (earlier records : List Record) (x : Record) (c : Cause) (l r s : List ℕ) → Meets f v earlier records (line l ++ r) s → IsShort f.most l → f.Spells v l x → legality.cause table (reverse earlier) x ≡ Some c → IsLegal table (reverse records)
    → (length records ≤ length earlier → NoRecord f v s) → ⊥
not_legally_by f good v table earlier records x c l r s (Equal e there) short is cause legal stops = stops (omega (arith, ap length e)) x l r short is (sym there)
not_legally_by f good v table earlier records x c l r s (Shorter y more m rest short_y is_y e there) short is cause legal stops =
    let same : x ≡ y = same_first f good v (line l ++ r) l m r rest x y short short_y is is_y refl there in
    no_cause table records earlier more x c legal (e ∙ ap (λ z. earlier ++ z ∷ more) (sym same)) cause
not_legally_by f good v table earlier records x c l r s (Longer y more m rest short_y is_y e there) short is cause legal stops =
    stops (omega (arith, ap length e, length-append records (y ∷ more))) y m rest short_y is_y there

-- a record that has a cause stands before no place that legal records lead to, where no
-- record follows
not_legally : (f : Format) → IsFormat f → (v w : Version) (bytes : List ℕ) (earlier records : List Record) (x : Record) (c : Cause) (s : List ℕ) → Faulty f v bytes earlier x c → Legally f w bytes records s → (length records ≤ length earlier → NoRecord f w s) → ⊥
not_legally f good v w bytes earlier records x c s first second stops =
    let both : (v ≡ w) × Meets f w earlier records (line first.l ++ first.rest) s = meets f good v w bytes earlier records first.front second.front (line first.l ++ first.rest) s first.are second.are first.begins second.begins in
    let cause : legality.cause (rules w) (reverse earlier) x ≡ Some c = subst (λ u. legality.cause (rules u) (reverse earlier) x ≡ Some c) both.0 first.cause in
    not_legally_by f good w (rules w) earlier records x c first.l first.rest s both.1 first.short (subst (λ (u : Version). f.Spells u first.l x) both.0 first.spells) cause second.legal stops

no_record_at_end : (f : Format) → IsFormat f → (v : Version) (l later : List ℕ) → IsShort f.most l → f.IsEnd l → NoRecord f v (line l ++ later)
no_record_at_end f good v l later short end x m rest other is e =
    let same : l ≡ m = (same_front f.most (line l ++ later) l m later rest short other refl e).line in
    good.not_end v m x is (subst f.IsEnd same end)

no_record_at_cause : (f : Format) (v : Version) (number : ℕ) (bytes : List ℕ) (c : Cause) → RecordCause f v number bytes c → number ≤ most_lines → NoRecord f v bytes
no_record_at_cause f v number bytes c h few x l rest short is e = (no_line f v number bytes l rest c h few (front_of f.most bytes l rest short e)).1 x is

-- a record that has a cause, and a line that has one, where each stands behind legal records
record_not_line : (f : Format) → IsFormat f → (asked : Command) (v : Version) (bytes : List ℕ) (earlier : List Record) (x : Record) (c d : Cause) (place : Place) → Faulty f v bytes earlier x c → IsLegalBefore asked place → Refuses f bytes place d → ⊥
record_not_line f good asked v bytes earlier x c d Start first legal second =
    let same : bytes ≡ second.rest = second.begins ∙ ap (λ b. b ++ second.rest) second.are in
    no_start f v bytes first.front earlier (line first.l ++ first.rest) d (subst (λ (b : List ℕ). LineCause f Start b d) (sym same) second.cause) first.are first.begins
record_not_line f good asked v bytes earlier x c d (After w records) first legal second =
    let behind : Legally f w bytes records second.rest = record { front = second.before; are = second.are; begins = second.begins; legal = legal } in
    not_legally f good v w bytes earlier records x c second.rest first behind (λ (fits : length records ≤ length earlier). no_record_at_cause f w (length records + 2) second.rest d (cause_at f (After w records) second.rest d second.cause) (omega (arith, first.few)))
record_not_line f good asked v bytes earlier x c d (Ended w records) first legal second =
    let behind : Legally f w bytes records (line second.are.last ++ second.rest) = record {
      front = second.are.front;
      are = second.are.behind;
      begins = (second.begins ∙ ap (λ b. b ++ second.rest) second.are.begins) ∙ append_assoc second.are.front (line second.are.last) second.rest;
      legal = legal.0;
    } in
    not_legally f good v w bytes earlier records x c (line second.are.last ++ second.rest) first behind (λ (fits : length records ≤ length earlier). no_record_at_end f good w second.are.last second.rest second.are.short second.are.end)

-- the first records that have a cause are the same
same_record_by : (f : Format) → IsFormat f → (v : Version) (table : List (ℕ × Rule)) (a b : List Record) (x y : Record) (c d : Cause) (l m r s : List ℕ) → Meets f v a b (line l ++ r) (line m ++ s) → IsShort f.most l → IsShort f.most m → f.Spells v l x → f.Spells v m y
    → legality.cause table (reverse a) x ≡ Some c → legality.cause table (reverse b) y ≡ Some d → IsLegal table (reverse a) → IsLegal table (reverse b) → (a ≡ b) × (c ≡ d)
same_record_by f good v table a b x y c d l m r s (Equal e there) short_x short_y is_x is_y cause_x cause_y legal_a legal_b =
    let same : x ≡ y = same_first f good v (line l ++ r) l m r s x y short_x short_y is_x is_y refl there in
    let twice : legality.cause table (reverse a) x ≡ legality.cause table (reverse b) y = ap (λ l. legality.cause table (reverse l) x) e ∙ ap (legality.cause table (reverse b)) same in
    let causes : Some c ≡ Some d = (sym cause_x ∙ twice) ∙ cause_y in
    (e, cc)
same_record_by f good v table a b x y c d l m r s (Shorter z more k rest short_z is_z e there) short_x short_y is_x is_y cause_x cause_y legal_a legal_b =
    let same : x ≡ z = same_first f good v (line l ++ r) l k r rest x z short_x short_z is_x is_z refl there in
    absurd (no_cause table b a more x c legal_b (e ∙ ap (λ w. a ++ w ∷ more) (sym same)) cause_x)
same_record_by f good v table a b x y c d l m r s (Longer z more k rest short_z is_z e there) short_x short_y is_x is_y cause_x cause_y legal_a legal_b =
    let same : y ≡ z = same_first f good v (line m ++ s) m k s rest y z short_y short_z is_y is_z refl there in
    absurd (no_cause table a b more y d legal_a (e ∙ ap (λ w. b ++ w ∷ more) (sym same)) cause_y)

same_record : (f : Format) → IsFormat f → (v w : Version) (bytes : List ℕ) (a b : List Record) (x y : Record) (c d : Cause) → Faulty f v bytes a x c → Faulty f w bytes b y d → IsLegal (rules v) (reverse a) → IsLegal (rules w) (reverse b) → (a ≡ b) × (c ≡ d)
same_record f good v w bytes a b x y c d first second legal_a legal_b =
    let both : (v ≡ w) × Meets f w a b (line first.l ++ first.rest) (line second.l ++ second.rest) =
    meets f good v w bytes a b first.front second.front (line first.l ++ first.rest) (line second.l ++ second.rest) first.are second.are first.begins second.begins in
    let cause : legality.cause (rules w) (reverse a) x ≡ Some c = subst (λ u. legality.cause (rules u) (reverse a) x ≡ Some c) both.0 first.cause in
    let legal : IsLegal (rules w) (reverse a) = subst (λ u. IsLegal (rules u) (reverse a)) both.0 legal_a in
    same_record_by f good w (rules w) a b x y c d first.l second.l first.rest second.rest both.1 first.short second.short (subst (λ (u : Version). f.Spells u first.l x) both.0 first.spells) second.spells cause second.cause legal legal_b

-- behind a first line these legal records stand, and then a last line, and it has a cause or none
record Ending (f : Format) (asked : Command) (v : Version) (bytes : List ℕ) (records : List Record) (o : Option Cause) : Type 0 where
  l : List ℕ
  short : IsShort f.most l
  end : f.IsEnd l
  rest : List ℕ
  behind : Legally f v bytes records (line l ++ rest)
  cause : end_cause_for asked v (reverse records) ≡ o

ending : (f : Format) (asked : Command) (v : Version) (bytes : List ℕ) (earlier : List Record) (c : Cause) → IsLegal (rules v) (reverse earlier) → RefusesEnd f asked v bytes earlier c → Ending f asked v bytes earlier (Some c)
ending f asked v bytes earlier c legal h = record {
  l = h.l;
  short = h.short;
  end = h.end;
  rest = h.rest;
  behind = record { front = h.before; are = h.are; begins = h.begins; legal = legal };
  cause = h.cause;
}

ending_trace : (f : Format) (asked : Command) (v : Version) (bytes : List ℕ) (records : List Record) → IsLegalTrace f asked v bytes records → Ending f asked v bytes records None
ending_trace f asked v bytes records h = record {
  l = h.is_trace.whole.last;
  short = h.is_trace.whole.short;
  end = h.is_trace.whole.end;
  rest = [];
  behind = record {
    front = h.is_trace.whole.front;
    are = h.is_trace.whole.behind;
    begins = h.is_trace.whole.begins ∙ ap (λ l. h.is_trace.whole.front ++ l) (sym (append-nil (line h.is_trace.whole.last)));
    legal = h.legal;
  };
  cause = h.within;
}

ending_line : (f : Format) (asked : Command) (v : Version) (bytes : List ℕ) (records : List Record) (c : Cause) → IsLegalBefore asked (Ended v records) → Refuses f bytes (Ended v records) c → Ending f asked v bytes records None
ending_line f asked v bytes records c legal h = record {
  l = h.are.last;
  short = h.are.short;
  end = h.are.end;
  rest = h.rest;
  behind = record {
    front = h.are.front;
    are = h.are.behind;
    begins = (h.begins ∙ ap (λ b. b ++ h.rest) h.are.begins) ∙ append_assoc h.are.front (line h.are.last) h.rest;
    legal = legal.0;
  };
  cause = legal.1;
}

same_ends_by : (f : Format) → IsFormat f → (v : Version) (a b : List Record) (l m r s : List ℕ) → Meets f v a b (line l ++ r) (line m ++ s) → IsShort f.most l → IsShort f.most m → f.IsEnd l → f.IsEnd m → a ≡ b
same_ends_by f good v a b l m r s (Equal e there) short_l short_m end_l end_m = e
same_ends_by f good v a b l m r s (Shorter x more k rest short is e there) short_l short_m end_l end_m = absurd (no_record_at_end f good v l r short_l end_l x k rest short is there)
same_ends_by f good v a b l m r s (Longer x more k rest short is e there) short_l short_m end_l end_m = absurd (no_record_at_end f good v m s short_m end_m x k rest short is there)

-- the records before the last line are the same
same_ends : (f : Format) → IsFormat f → (asked : Command) (v w : Version) (bytes : List ℕ) (a b : List Record) (o p : Option Cause) → Ending f asked v bytes a o → Ending f asked w bytes b p → (a ≡ b) × (o ≡ p)
same_ends f good asked v w bytes a b o p first second =
    let both : (v ≡ w) × Meets f w a b (line first.l ++ first.rest) (line second.l ++ second.rest) =
    meets f good v w bytes a b first.behind.front second.behind.front (line first.l ++ first.rest) (line second.l ++ second.rest) first.behind.are second.behind.are first.behind.begins second.behind.begins in
    let same : a ≡ b = same_ends_by f good w a b first.l second.l first.rest second.rest both.1 first.short second.short first.end second.end in
    (same, (sym first.cause ∙ (ap (λ u. end_cause_for asked u (reverse a)) both.0 ∙ ap (λ l. end_cause_for asked w (reverse l)) same)) ∙ second.cause)

-- a last line has a cause or none
not_both : (f : Format) → IsFormat f → (asked : Command) (v w : Version) (bytes : List ℕ) (a b : List Record) (c : Cause) → Ending f asked v bytes a (Some c) → Ending f asked w bytes b None → ⊥
not_both f good asked v w bytes a b c first second = let same : Some c ≡ None = (same_ends f good asked v w bytes a b (Some c) None first second).1 in absurd (cc)

-- a record that has a cause stands before no last line
record_not_end : (f : Format) → IsFormat f → (asked : Command) (v w : Version) (bytes : List ℕ) (earlier records : List Record) (x : Record) (c : Cause) (o : Option Cause) → Faulty f v bytes earlier x c → Ending f asked w bytes records o → ⊥
record_not_end f good asked v w bytes earlier records x c o first second =
    not_legally f good v w bytes earlier records x c (line second.l ++ second.rest) first second.behind (λ (fits : length records ≤ length earlier). no_record_at_end f good w second.l second.rest second.short second.end)

-- a line that has a cause is no last line, and no record stands there
line_not_end_by : (f : Format) → IsFormat f → (v : Version) (records others : List Record) (d : Cause) (l r s : List ℕ) → Meets f v records others (line l ++ r) s → IsShort f.most l → f.IsEnd l → length records + 2 ≤ most_lines → RecordCause f v (length others + 2) s d → ⊥
line_not_end_by f good v records others d l r s (Equal e there) short end few h =
    (no_line f v (length others + 2) s l r d h (omega (arith, ap length e)) (front_of f.most s l r short (sym there))).0 end
line_not_end_by f good v records others d l r s (Shorter x more k rest short_x is e there) short end few h = no_record_at_end f good v l r short end x k rest short_x is there
line_not_end_by f good v records others d l r s (Longer x more k rest short_x is e there) short end few h = no_record_at_cause f v (length others + 2) s d h (omega (arith, ap length e, length-append others (x ∷ more))) x k rest short_x is there

-- a last line that has a cause, and another line that has one, where each stands behind legal lines
end_not_line : (f : Format) → IsFormat f → (asked : Command) (v : Version) (bytes : List ℕ) (records : List Record) (c d : Cause) (place : Place) → RefusesEnd f asked v bytes records c → Ending f asked v bytes records (Some c) → IsLegalBefore asked place → Refuses f bytes place d → ⊥
end_not_line f good asked v bytes records c d Start h first legal second =
    let same : bytes ≡ second.rest = second.begins ∙ ap (λ b. b ++ second.rest) second.are in
    no_start f v bytes h.before records (line h.l ++ h.rest) d (subst (λ (b : List ℕ). LineCause f Start b d) (sym same) second.cause) h.are h.begins
end_not_line f good asked v bytes records c d (After w others) h first legal second =
    let both : (v ≡ w) × Meets f w records others (line h.l ++ h.rest) second.rest = meets f good v w bytes records others h.before second.before (line h.l ++ h.rest) second.rest h.are second.are h.begins second.begins in
    line_not_end_by f good w records others d h.l h.rest second.rest both.1 h.short h.end h.few (cause_at f (After w others) second.rest d second.cause)
end_not_line f good asked v bytes records c d (Ended w others) h first legal second = not_both f good asked v w bytes records others c first (ending_line f asked w bytes others d legal second)

-- what refuses the bytes first: a line, a record, or the end
data Illegal (f : Format) (asked : Command) (bytes : List ℕ) (n : ℕ) (c : Cause) : Type 0 where
  ByLine : (place : Place) → n ≡ line_number place → IsLegalBefore asked place → Refuses f bytes place c → Illegal f asked bytes n c
  ByRecord : (v : Version) (earlier : List Record) (x : Record) → n ≡ length earlier + 2 → IsLegal (rules v) (reverse earlier) → Faulty f v bytes earlier x c → Illegal f asked bytes n c
  ByEnd : (v : Version) (records : List Record) → n ≡ length records + 2 → RefusesEnd f asked v bytes records c → Ending f asked v bytes records (Some c) → Illegal f asked bytes n c

illegal_by : (f : Format) (asked : Command) (bytes : List ℕ) (n : ℕ) (c : Cause) → Kinds f asked bytes n c → Illegal f asked bytes n c
illegal_by f asked bytes n c (by_kind.ByLine place number legal h) = ByLine place number legal h
illegal_by f asked bytes n c (by_kind.ByRecord v earlier number legal h) = ByRecord v earlier h.read number legal (faulty f v bytes earlier c h)
illegal_by f asked bytes n c (by_kind.ByEnd v earlier number legal h) = ByEnd v earlier number h (ending f asked v bytes earlier c legal h)

illegal : (f : Format) (asked : Command) (bytes : List ℕ) (n : ℕ) (c : Cause) → FirstIllegal f asked bytes n c → Illegal f asked bytes n c
illegal f asked bytes n c h = illegal_by f asked bytes n c (kinds f asked bytes n c h)

illegal_once : (f : Format) → IsFormat f → (asked : Command) (bytes : List ℕ) (n m : ℕ) (c d : Cause) → Illegal f asked bytes n c → Illegal f asked bytes m d → (n ≡ m) × (c ≡ d)
illegal_once f good asked bytes n m c d (ByLine p number_p legal_p first) (ByLine q number_q legal_q second) =
    let same : SameRefusal p q c d first.rest second.rest = one_refusal f good bytes p q c d first second in
    (number_p ∙ (ap line_number same.place ∙ sym number_q), same.cause)
illegal_once f good asked bytes n m c d (ByLine p number_p legal_p first) (ByRecord w b y number_b legal_b second) = absurd (record_not_line f good asked w bytes b y d c p second legal_p first)
illegal_once f good asked bytes n m c d (ByLine p number_p legal_p first) (ByEnd w b number_b h second) = absurd (end_not_line f good asked w bytes b d c p h second legal_p first)
illegal_once f good asked bytes n m c d (ByRecord v a x number_a legal_a first) (ByLine q number_q legal_q second) = absurd (record_not_line f good asked v bytes a x c d q first legal_q second)
illegal_once f good asked bytes n m c d (ByRecord v a x number_a legal_a first) (ByRecord w b y number_b legal_b second) =
    let same : (a ≡ b) × (c ≡ d) = same_record f good v w bytes a b x y c d first second legal_a legal_b in
    (number_a ∙ (ap (λ l. length l + 2) same.0 ∙ sym number_b), same.1)
illegal_once f good asked bytes n m c d (ByRecord v a x number_a legal_a first) (ByEnd w b number_b h second) = absurd (record_not_end f good asked v w bytes a b x c (Some d) first second)
illegal_once f good asked bytes n m c d (ByEnd v a number_a h first) (ByLine q number_q legal_q second) = absurd (end_not_line f good asked v bytes a c d q h first legal_q second)
illegal_once f good asked bytes n m c d (ByEnd v a number_a h first) (ByRecord w b y number_b legal_b second) = absurd (record_not_end f good asked w v bytes b a y d (Some c) second first)
illegal_once f good asked bytes n m c d (ByEnd v a number_a h first) (ByEnd w b number_b k second) =
    let same : (a ≡ b) × (Some c ≡ Some d) = same_ends f good asked v w bytes a b (Some c) (Some d) first second in
    let causes : Some c ≡ Some d = same.1 in
    (number_a ∙ (ap (λ l. length l + 2) same.0 ∙ sym number_b), cc)

not_illegal : (f : Format) → IsFormat f → (asked : Command) (v : Version) (bytes : List ℕ) (records : List Record) (n : ℕ) (c : Cause) → IsLegalTrace f asked v bytes records → Illegal f asked bytes n c → ⊥
not_illegal f good asked v bytes records n c trace (ByLine place number legal h) = trace_not_refused f good v bytes records place c trace.is_trace h
not_illegal f good asked v bytes records n c trace (ByRecord w earlier x number legal h) = record_not_end f good asked w v bytes earlier records x c None h (ending_trace f asked v bytes records trace)
not_illegal f good asked v bytes records n c trace (ByEnd w others number h first) = not_both f good asked w v bytes others records c first (ending_trace f asked v bytes records trace)

pub refused_once : (f : Format) → IsFormat f → (asked : Command) (bytes : List ℕ) (n m : ℕ) (c d : Cause) → FirstIllegal f asked bytes n c → FirstIllegal f asked bytes m d → (n ≡ m) × (c ≡ d)
refused_once f good asked bytes n m c d first second = illegal_once f good asked bytes n m c d (illegal f asked bytes n c first) (illegal f asked bytes m d second)

pub not_refused : (f : Format) → IsFormat f → (asked : Command) (v : Version) (bytes : List ℕ) (records : List Record) (n : ℕ) (c : Cause) → IsLegalTrace f asked v bytes records → FirstIllegal f asked bytes n c → ⊥
not_refused f good asked v bytes records n c trace h = not_illegal f good asked v bytes records n c trace (illegal f asked bytes n c h)

-- a legal trace, or a refusal
data Settled (f : Format) (asked : Command) (bytes : List ℕ) (o : Outcome) (due : List ℕ) : Type 0 where
  ByTrace : (v : Version) (records : List Record) → IsLegalTrace f asked v bytes records → outcome_for asked v (reverse records) ≡ o → due ≡ text_for v asked (reverse records) → Settled f asked bytes o due
  ByRefusal : (n : ℕ) (c : Cause) → FirstIllegal f asked bytes n c → o ≡ Refused n c → due ≡ refusal_for asked n c → Settled f asked bytes o due

settled : (f : Format) (asked : Command) (bytes : List ℕ) (o : Outcome) (due : List ℕ) → Answers f asked bytes o due → Settled f asked bytes o due
settled f asked bytes Clean due h = ByTrace h.0 h.1 h.2 h.3 h.4
settled f asked bytes Races due h = ByTrace h.0 h.1 h.2 h.3 h.4
settled f asked bytes (Refused n c) due h = ByRefusal n c h.0 refl h.1
settled f asked bytes Usage due h = absurd h
settled f asked bytes ReadFault due h = absurd h
settled f asked bytes WriteFault due h = absurd h
settled f asked bytes NoMemory due h = absurd h

settled_once : (f : Format) → IsFormat f → (asked : Command) (bytes : List ℕ) (o p : Outcome) (due other : List ℕ) → Settled f asked bytes o due → Settled f asked bytes p other → (o ≡ p) × (due ≡ other)
settled_once f good asked bytes o p due other (ByTrace v a first is_o due_a) (ByTrace w b second is_p due_b) =
    let both = one_trace f good bytes v w a b first.is_trace second.is_trace in
    let same : a ≡ b = both.1 in
    (sym is_o ∙ ((ap (λ u. outcome_for asked u (reverse a)) both.0 ∙ ap (λ l. outcome_for asked w (reverse l)) same) ∙ is_p), (due_a ∙ (ap (λ u. text_for u asked (reverse a)) both.0 ∙ ap (λ l. text_for w asked (reverse l)) same)) ∙ sym due_b)
settled_once f good asked bytes o p due other (ByTrace v a first other_o due_a) (ByRefusal m d second is_p due_b) = absurd (not_refused f good asked v bytes a m d first second)
settled_once f good asked bytes o p due other (ByRefusal n c first is_o due_a) (ByTrace w b second other_p due_b) = absurd (not_refused f good asked w bytes b n c second first)
settled_once f good asked bytes o p due other (ByRefusal n c first is_o due_a) (ByRefusal m d second is_p due_b) =
    let same : (n ≡ m) × (c ≡ d) = refused_once f good asked bytes n m c d first second in
    (is_o ∙ ((ap (λ k. Refused k c) same.0 ∙ ap (λ why. Refused m why) same.1) ∙ sym is_p), due_a ∙ ((ap (λ k. refusal_for asked k c) same.0 ∙ ap (λ why. refusal_for asked m why) same.1) ∙ sym due_b))

pub answer_once : (f : Format) → IsFormat f → (asked : Command) (bytes : List ℕ) (o p : Outcome) (due other : List ℕ) → Answers f asked bytes o due → Answers f asked bytes p other → (o ≡ p) × (due ≡ other)
answer_once f good asked bytes o p due other first second = settled_once f good asked bytes o p due other (settled f asked bytes o due first) (settled f asked bytes p other second)
