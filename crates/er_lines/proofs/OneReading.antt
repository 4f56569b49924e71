-- The bytes of a trace have one reading.
use Rattle.std.proofs.Common.{◌≡◌, ℕ, ◌+◌, ◌≤◌, suc, List, [], ◌∷◌, ◌++◌, length, Bool, true, false, ◌&&◌, Ok, Err, refl, ap, sym, ◌∙◌, subst, arith, append_assoc, append-nil}
use Rattle.std.specs.Prelude.{◌≢◌, nat_lt}
use Rattle.er_text.specs.declared.causes.Cause.{Cause}
use Rattle.er_text.specs.declared.causes.Cause.TheVariants.{AfterEnd}
use Rattle.er_trace.specs.declared.record.Record.{Record}
use Rattle.er_trace.specs.declared.version.Version.{Version}
use Rattle.er_trace.specs.Trace.{most_lines, line}
use Rattle.er_lines.specs.Format.{Format, IsFormat}
use Rattle.er_lines.specs.Lines.{Place, Start, After, Ended, IsShort, AreLines, AreBehind, SpellsNone, IsTrace, BeginsWith, Refuses}
use Rattle.er_lines.proofs.LineLaws.{whole_line}
use Rattle.er_lines.proofs.CauseLaws.{Line, StartBy, CauseBy, StartCause, RecordCause, CauseAt, cause_at, few_many, front_of}

-- what ends the records: a line with a cause, or a last line, and the bytes after it
pub data Stop : Type 0 where
  Faulty : (c : Cause) → Stop
  AtEnd : (later : List ℕ) → Stop

abbrev pub StopsAt : Format → Version → ℕ → List ℕ → Stop → Type 0
StopsAt f v number rest (Faulty c) = RecordCause f v number rest c
StopsAt f v number rest (AtEnd later) = (l : List ℕ) × (number ≤ most_lines) × IsShort f.most l × f.IsEnd l × (rest ≡ line l ++ later)

abbrev pub a_line : List ℕ → List ℕ → Line
a_line l rest = Ok (l, rest)

abbrev pub bytes_of : Line → List ℕ
bytes_of (Ok l) = l.0
bytes_of (Err why) = []

abbrev pub rest_of : Line → List ℕ
rest_of (Ok l) = l.1
rest_of (Err why) = []

cause_once_by : (f : Format) (v : Version) (many : Bool) (whole : Line) (c d : Cause) → CauseBy f v many whole c → CauseBy f v many whole d → c ≡ d
cause_once_by f v true whole c d first second = cc
cause_once_by f v false (Ok l) c d first second = first.2 ∙ sym second.2
cause_once_by f v false (Err why) c d first second = cc

cause_of_line : (f : Format) (v : Version) (many : Bool) (whole : Line) (c : Cause) (l rest : List ℕ) → CauseBy f v many whole c → many ≡ false → whole ≡ Ok (l, rest) → ¬ f.IsEnd l × SpellsNone f v l
cause_of_line f v true whole c l rest h few is = absurd (cc)
cause_of_line f v false (Ok found) c l rest h few is =
    let same : found.0 ≡ l = cc in
    let both : ¬ f.IsEnd found.0 × SpellsNone f v found.0 = (h.0, h.1) in
    subst (λ (m : List ℕ). ¬ f.IsEnd m × SpellsNone f v m) same both
cause_of_line f v false (Err why) c l rest h few is = absurd (cc)

-- a line with a cause is neither a record nor the end
pub no_line : (f : Format) (v : Version) (number : ℕ) (bytes l rest : List ℕ) (c : Cause) → RecordCause f v number bytes c → number ≤ most_lines → whole_line f.most bytes ≡ Ok (l, rest) → ¬ f.IsEnd l × SpellsNone f v l
no_line f v number bytes l rest c h few is = cause_of_line f v (nat_lt most_lines number && nat_lt 0 (length bytes)) (whole_line f.most bytes) c l rest h (few_many number bytes few) is

pub record SameFront (l m a b : List ℕ) : Type 0 where
  pub line : l ≡ m
  pub rest : a ≡ b

-- two lines at the front of the same bytes
pub same_front : (most : ℕ) (bytes l m a b : List ℕ) → IsShort most l → IsShort most m → bytes ≡ line l ++ a → bytes ≡ line m ++ b → SameFront l m a b
same_front most bytes l m a b first second e other =
    let same : a_line l a ≡ a_line m b = sym (front_of most bytes l a first e) ∙ front_of most bytes m b second other in
    record { line = ap bytes_of same; rest = ap rest_of same }

stop_once : (f : Format) (v : Version) (number : ℕ) (rest : List ℕ) (p q : Stop) → StopsAt f v number rest p → StopsAt f v number rest q → p ≡ q
stop_once f v number rest (Faulty c) (Faulty d) first second = ap Faulty (cause_once_by f v (nat_lt most_lines number && nat_lt 0 (length rest)) (whole_line f.most rest) c d first second)
stop_once f v number rest (Faulty c) (AtEnd later) first second = absurd ((no_line f v number rest second.0 later c first second.1 (front_of f.most rest second.0 later second.2 second.4)).0 second.3)
stop_once f v number rest (AtEnd later) (Faulty d) first second = absurd ((no_line f v number rest first.0 later d second first.1 (front_of f.most rest first.0 later first.2 first.4)).0 first.3)
stop_once f v number rest (AtEnd later) (AtEnd more) first second = ap AtEnd (same_front f.most rest first.0 second.0 later more first.2 second.2 first.4 second.4).rest

-- no record stands where the records stop
no_record_at : (f : Format) → IsFormat f → (v : Version) (number : ℕ) (rest : List ℕ) (p : Stop) (x : Record) (l later : List ℕ) → StopsAt f v number rest p → number ≤ most_lines → IsShort f.most l → f.Spells v l x → rest ≡ line l ++ later → ⊥
no_record_at f is v number rest (Faulty c) x l later stops few short spells e =
    (no_line f v number rest l later c stops few (front_of f.most rest l later short e)).1 x spells
no_record_at f is v number rest (AtEnd more) x l later stops few short spells e =
    let same : l ≡ stops.0 = (same_front f.most rest l stops.0 later more short stops.2 e stops.4).line in
    is.not_end v l x spells (subst f.IsEnd (sym same) stops.3)

-- one reading of lines
pub record SameLines (a b : List Record) (r s : List ℕ) (p q : Stop) : Type 0 where
  pub records : a ≡ b
  pub rest : r ≡ s
  pub stop : p ≡ q

pub lines_once : (f : Format) → IsFormat f → (v : Version) (a b : List Record) (la lb : List ℕ) (number : ℕ) (r s : List ℕ) (p q : Stop) → AreLines f v la a → AreLines f v lb b → la ++ r ≡ lb ++ s
    → number + length a ≤ most_lines + 1 → number + length b ≤ most_lines + 1 → StopsAt f v (number + length a) r p → StopsAt f v (number + length b) s q → SameLines a b r s p q
lines_once f is v [] [] la lb number r s p q first second e few_a few_b stops_a stops_b =
    let same : r ≡ s = (ap (λ l. l ++ r) (sym first) ∙ e) ∙ ap (λ l. l ++ s) second in
    record { records = refl; rest = same; stop = stop_once f v (number + 0) r p q stops_a (rw same stops_b) }
lines_once f is v [] (y ∷ b) la lb number r s p q first second e few_a few_b stops_a stops_b =
    let here : r ≡ line second.0 ++ (second.1 ++ s) = ((ap (λ l. l ++ r) (sym first) ∙ e) ∙ ap (λ l. l ++ s) second.4) ∙ append_assoc (line second.0) second.1 s in
    absurd (no_record_at f is v (number + 0) r p y second.0 (second.1 ++ s) stops_a (omega arith) second.2 second.3 here)
lines_once f is v (x ∷ a) [] la lb number r s p q first second e few_a few_b stops_a stops_b =
    let here : s ≡ line first.0 ++ (first.1 ++ r) = ((ap (λ l. l ++ s) (sym second) ∙ sym e) ∙ ap (λ l. l ++ r) first.4) ∙ append_assoc (line first.0) first.1 r in
    absurd (no_record_at f is v (number + 0) s q x first.0 (first.1 ++ r) stops_b (omega arith) first.2 first.3 here)
lines_once f is v (x ∷ a) (y ∷ b) la lb number r s p q first second e few_a few_b stops_a stops_b =
    let here : la ++ r ≡ line first.0 ++ (first.1 ++ r) = ap (λ l. l ++ r) first.4 ∙ append_assoc (line first.0) first.1 r in
    let there : la ++ r ≡ line second.0 ++ (second.1 ++ s) = (e ∙ ap (λ l. l ++ s) second.4) ∙ append_assoc (line second.0) second.1 s in
    let front : SameFront first.0 second.0 (first.1 ++ r) (second.1 ++ s) = same_front f.most (la ++ r) first.0 second.0 (first.1 ++ r) (second.1 ++ s) first.2 second.2 here there in
    let same : x ≡ y = is.one_record v first.0 x y first.3 (subst (λ (l : List ℕ). f.Spells v l y) (sym front.line) second.3) in
    let up_a : number + suc (length a) ≡ (number + 1) + length a = omega arith in
    let up_b : number + suc (length b) ≡ (number + 1) + length b = omega arith in
    let later : SameLines a b r s p q =
    lines_once f is v a b first.1 second.1 (number + 1) r s p q first.5 second.5 front.rest (omega arith) (omega arith)
    (subst (λ (n : ℕ). StopsAt f v n r p) up_a stops_a) (subst (λ (n : ℕ). StopsAt f v n s q) up_b stops_b) in
    let both : a ≡ b = later.records in
    record { records = cc; rest = later.rest; stop = later.stop }

-- behind a first line these records stand, and stop so
pub record Behind (f : Format) (v : Version) (bytes : List ℕ) (records : List Record) (rest : List ℕ) (stop : Stop) : Type 0 where
  pub front : List ℕ
  pub are : AreBehind f v front records
  pub few : 2 + length records ≤ most_lines + 1
  pub begins : bytes ≡ front ++ rest
  pub stops : StopsAt f v (2 + length records) rest stop

pub behind_first : (f : Format) (v : Version) (bytes : List ℕ) (records : List Record) (rest : List ℕ) (stop : Stop) → (h : Behind f v bytes records rest stop) → bytes ≡ line h.are.first ++ (h.are.later ++ rest)
behind_first f v bytes records rest stop h = (h.begins ∙ ap (λ l. l ++ rest) h.are.begins) ∙ append_assoc (line h.are.first) h.are.later rest

-- one version, and one reading of the lines behind the first
pub record SameBehind (v w : Version) (a b : List Record) (r s : List ℕ) (p q : Stop) : Type 0 where
  pub version : v ≡ w
  pub lines : SameLines a b r s p q

version_once : (f : Format) → IsFormat f → (bytes : List ℕ) (v w : Version) (a b : List Record) (r s : List ℕ) (p q : Stop) → Behind f v bytes a r p → Behind f w bytes b s q → v ≡ w
version_once f is bytes v w a b r s p q first second =
    let front : SameFront first.are.first second.are.first (first.are.later ++ r) (second.are.later ++ s) =
    same_front f.most bytes first.are.first second.are.first (first.are.later ++ r) (second.are.later ++ s) first.are.short second.are.short
    (behind_first f v bytes a r p first) (behind_first f w bytes b s q second) in
    is.one_version first.are.first v w first.are.header (subst (f.IsHeader w) (sym front.line) second.are.header)

behind_lines : (f : Format) → IsFormat f → (bytes : List ℕ) (v : Version) (a b : List Record) (r s : List ℕ) (p q : Stop) → Behind f v bytes a r p → Behind f v bytes b s q → SameLines a b r s p q
behind_lines f is bytes v a b r s p q first second =
    let front : SameFront first.are.first second.are.first (first.are.later ++ r) (second.are.later ++ s) =
    same_front f.most bytes first.are.first second.are.first (first.are.later ++ r) (second.are.later ++ s) first.are.short second.are.short
    (behind_first f v bytes a r p first) (behind_first f v bytes b s q second) in
    lines_once f is v a b first.are.later second.are.later 2 r s p q first.are.lines second.are.lines front.rest first.few second.few first.stops second.stops

behind_once : (f : Format) → IsFormat f → (bytes : List ℕ) (v w : Version) (a b : List Record) (r s : List ℕ) (p q : Stop) → Behind f v bytes a r p → Behind f w bytes b s q → SameBehind v w a b r s p q
behind_once f is bytes v w a b r s p q first second =
    let version : v ≡ w = version_once f is bytes v w a b r s p q first second in
    record { version = version; lines = behind_lines f is bytes v a b r s p q first (subst (λ (u : Version). Behind f u bytes b s q) (sym version) second) }

-- a refusal is at the first line, at a line behind it, or after the last one
pub data Refusal (f : Format) (bytes : List ℕ) (place : Place) (rest : List ℕ) (c : Cause) : Type 0 where
  AtHeader : StartCause f bytes c → place ≡ Start → bytes ≡ rest → Refusal f bytes place rest c
  AtLine : (v : Version) (records : List Record) → Behind f v bytes records rest (Faulty c) → place ≡ After v records → Refusal f bytes place rest c
  PastEnd : (v : Version) (records : List Record) (later : List ℕ) → rest ≢ [] → Behind f v bytes records later (AtEnd rest) → place ≡ Ended v records → c ≡ AfterEnd → Refusal f bytes place rest c

refusal : (f : Format) (bytes : List ℕ) (place : Place) (c : Cause) → (h : Refuses f bytes place c) → Refusal f bytes place h.rest c
refusal f bytes Start c h =
    let same : bytes ≡ h.rest = h.begins ∙ ap (λ b. b ++ h.rest) h.are in
    AtHeader (subst (λ (b : List ℕ). StartCause f b c) (sym same) (cause_at f Start h.rest c h.cause)) refl same
refusal f bytes (After v records) c h =
    let up : length records + 2 ≡ 2 + length records = omega arith in
    AtLine v records (record {
      front = h.before;
      are = h.are;
      few = omega (arith, h.few);
      begins = h.begins;
      stops = subst (λ (n : ℕ). RecordCause f v n h.rest c) up (cause_at f (After v records) h.rest c h.cause);
    }) refl
refusal f bytes (Ended v records) c h =
    let past : CauseAt f (Ended v records) h.rest c = cause_at f (Ended v records) h.rest c h.cause in
    PastEnd v records (line h.are.last ++ h.rest) past.0 (record {
      front = h.are.front;
      are = h.are.behind;
      few = omega (arith, h.few);
      begins = (h.begins ∙ ap (λ b. b ++ h.rest) h.are.begins) ∙ append_assoc h.are.front (line h.are.last) h.rest;
      stops = (h.are.last, omega (arith, h.few), h.are.short, h.are.end, refl);
    }) refl past.1

trace_behind : (f : Format) (v : Version) (bytes : List ℕ) (records : List Record) → (h : IsTrace f v bytes records) → Behind f v bytes records (line h.whole.last) (AtEnd [])
trace_behind f v bytes records h = record {
  front = h.whole.front;
  are = h.whole.behind;
  few = omega (arith, h.few);
  begins = h.whole.begins;
  stops = (h.whole.last, omega (arith, h.few), h.whole.short, h.whole.end, sym (append-nil (line h.whole.last)));
}

start_cause_by : (f : Format) (whole : Line) (c d : Cause) → StartBy f whole c → StartBy f whole d → c ≡ d
start_cause_by f (Ok l) c d first second = first.1 ∙ sym second.1
start_cause_by f (Err why) c d first second = cc

pub no_header_by : (f : Format) (whole : Line) (c : Cause) (v : Version) (l rest : List ℕ) → StartBy f whole c → whole ≡ Ok (l, rest) → f.IsHeader v l → ⊥
no_header_by f (Ok found) c v l rest h e is = let same : l ≡ found.0 = cc in h.0 v (subst (f.IsHeader v) same is)
no_header_by f (Err why) c v l rest h e is = let no : a_line l rest ≡ Err why = sym e in absurd (grind arith)

not_behind : (f : Format) (bytes : List ℕ) (c : Cause) (v : Version) (records : List Record) (rest : List ℕ) (stop : Stop) → StartCause f bytes c → Behind f v bytes records rest stop → ⊥
not_behind f bytes c v records rest stop h behind =
    no_header_by f (whole_line f.most bytes) c v behind.are.first (behind.are.later ++ rest) h
    (front_of f.most bytes behind.are.first (behind.are.later ++ rest) behind.are.short (behind_first f v bytes records rest stop behind)) behind.are.header

-- the same place, the same cause, the same bytes from there on
pub record SameRefusal (p q : Place) (c d : Cause) (r s : List ℕ) : Type 0 where
  pub place : p ≡ q
  pub cause : c ≡ d
  pub rest : r ≡ s

one_after : (v w : Version) (a b : List Record) → v ≡ w → a ≡ b → After v a ≡ After w b
one_after v w a b version records i = After (version i) (records i)

one_ended : (v w : Version) (a b : List Record) → v ≡ w → a ≡ b → Ended v a ≡ Ended w b
one_ended v w a b version records i = Ended (version i) (records i)

same_refusal : (f : Format) → IsFormat f → (bytes : List ℕ) (p q : Place) (r s : List ℕ) (c d : Cause) → Refusal f bytes p r c → Refusal f bytes q s d → SameRefusal p q c d r s
same_refusal f is bytes p q r s c d (AtHeader first at all) (AtHeader second there every) = record { place = at ∙ sym there; cause = start_cause_by f (whole_line f.most bytes) c d first second; rest = sym all ∙ every }
same_refusal f is bytes p q r s c d (AtHeader first at all) (AtLine w b behind there) = absurd (not_behind f bytes c w b s (Faulty d) first behind)
same_refusal f is bytes p q r s c d (AtHeader first at all) (PastEnd w b later some behind there too) = absurd (not_behind f bytes c w b later (AtEnd s) first behind)
same_refusal f is bytes p q r s c d (AtLine v a behind at) (AtHeader second there every) = absurd (not_behind f bytes d v a r (Faulty c) second behind)
same_refusal f is bytes p q r s c d (AtLine v a behind at) (AtLine w b other there) =
    let same : SameBehind v w a b r s (Faulty c) (Faulty d) = behind_once f is bytes v w a b r s (Faulty c) (Faulty d) behind other in
    let stop : Faulty c ≡ Faulty d = same.lines.stop in
    record { place = (at ∙ one_after v w a b same.version same.lines.records) ∙ sym there; cause = cc; rest = same.lines.rest }
same_refusal f is bytes p q r s c d (AtLine v a behind at) (PastEnd w b later some other there too) =
    let no : Faulty c ≡ AtEnd s = (behind_once f is bytes v w a b r later (Faulty c) (AtEnd s) behind other).lines.stop in absurd (grind arith)
same_refusal f is bytes p q r s c d (PastEnd v a later some behind at so) (AtHeader second there every) = absurd (not_behind f bytes d v a later (AtEnd r) second behind)
same_refusal f is bytes p q r s c d (PastEnd v a later some behind at so) (AtLine w b other there) =
    let no : AtEnd r ≡ Faulty d = (behind_once f is bytes v w a b later s (AtEnd r) (Faulty d) behind other).lines.stop in absurd (grind arith)
same_refusal f is bytes p q r s c d (PastEnd v a later some behind at so) (PastEnd w b more also other there too) =
    let same : SameBehind v w a b later more (AtEnd r) (AtEnd s) = behind_once f is bytes v w a b later more (AtEnd r) (AtEnd s) behind other in
    let stop : AtEnd r ≡ AtEnd s = same.lines.stop in
    record { place = (at ∙ one_ended v w a b same.version same.lines.records) ∙ sym there; cause = so ∙ sym too; rest = cc }

pub one_refusal : (f : Format) → IsFormat f → (bytes : List ℕ) (p q : Place) (c d : Cause) → (first : Refuses f bytes p c) (second : Refuses f bytes q d) → SameRefusal p q c d first.rest second.rest
one_refusal f is bytes p q c d first second = same_refusal f is bytes p q first.rest second.rest c d (refusal f bytes p c first) (refusal f bytes q d second)

not_refused_by : (f : Format) → IsFormat f → (v : Version) (bytes : List ℕ) (records : List Record) (last : List ℕ) (place : Place) (rest : List ℕ) (c : Cause) → Behind f v bytes records last (AtEnd []) → Refusal f bytes place rest c → ⊥
not_refused_by f is v bytes records last place rest c behind (AtHeader first at all) = not_behind f bytes c v records last (AtEnd []) first behind
not_refused_by f is v bytes records last place rest c behind (AtLine w b other at) =
    let no : AtEnd [] ≡ Faulty c = (behind_once f is bytes v w records b last rest (AtEnd []) (Faulty c) behind other).lines.stop in absurd (grind arith)
not_refused_by f is v bytes records last place rest c behind (PastEnd w b later some other at so) =
    let same : AtEnd [] ≡ AtEnd rest = (behind_once f is bytes v w records b last later (AtEnd []) (AtEnd rest) behind other).lines.stop in
    some cc

-- a whole trace is not refused
pub trace_not_refused : (f : Format) → IsFormat f → (v : Version) (bytes : List ℕ) (records : List Record) (place : Place) (c : Cause) → IsTrace f v bytes records → Refuses f bytes place c → ⊥
trace_not_refused f is v bytes records place c trace h =
    not_refused_by f is v bytes records (line trace.whole.last) place h.rest c (trace_behind f v bytes records trace) (refusal f bytes place c h)

-- the bytes of a trace have one version and one list of records
pub one_trace : (f : Format) → IsFormat f → (bytes : List ℕ) (v w : Version) (a b : List Record) → IsTrace f v bytes a → IsTrace f w bytes b → (v ≡ w) × (a ≡ b)
one_trace f is bytes v w a b first second =
    let same : SameBehind v w a b (line first.whole.last) (line second.whole.last) (AtEnd []) (AtEnd []) =
    behind_once f is bytes v w a b (line first.whole.last) (line second.whole.last) (AtEnd []) (AtEnd []) (trace_behind f v bytes a first) (trace_behind f w bytes b second) in
    (same.version, same.lines.records)

-- bytes begin with the first line of one version
pub one_beginning : (f : Format) → IsFormat f → (bytes : List ℕ) (v w : Version) → BeginsWith f v bytes → BeginsWith f w bytes → v ≡ w
one_beginning f is bytes v w first second =
    let front : SameFront first.first second.first first.rest second.rest = same_front f.most bytes first.first second.first first.rest second.rest first.short second.short first.begins second.begins in
    is.one_version first.first v w first.header (subst (f.IsHeader w) (sym front.line) second.header)
