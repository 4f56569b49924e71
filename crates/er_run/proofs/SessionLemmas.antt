-- How a session comes to stand for one record more.
use Rattle.std.proofs.Common.{◌≡◌, ℕ, ◌+◌, ◌<◌, ◌≤◌, Bool, true, false, All, List, [], ◌∷◌, ◌++◌, append-nil, reverse, length, Option, Some, None, is_some, refl, sym, ap, subst, ◌∙◌, arith}
use Rattle.std.specs.Prelude.{◌≢◌, nat_lt, if◌then◌else◌}
use Rattle.std.specs.List.{list_all}
use Rattle.std.proofs.lemmas.Bool.Decides.{nat_tests}
use Rattle.er_trace.specs.Versions.{has_record}
use Rattle.er_text.specs.declared.causes.Cause.{Cause}
use Rattle.er_text.specs.declared.causes.Cause.TheVariants.{TooManyAccesses}
use Rattle.er_trace.specs.declared.record.Record.{Record}
use Rattle.er_trace.specs.declared.version.Version.{Version}
use Rattle.er_trace.specs.declared.record.Record.TheVariants.{Access}
use Rattle.er_trace.specs.declared.record.Mode.{Mode}
use Rattle.er_trace.specs.declared.record.Loc.{Loc}
use Rattle.er_history.specs.History.{or_else}
use Rattle.er_history.specs.LookUps.{running_action}
use Rattle.er_history.specs.Rules.{Rule, rules}
use Rattle.er_history.specs.Sound as sound
use Rattle.er_page.specs.declared.page.Page.{Page}
use Rattle.er_page.specs.Page.{IsPage}
use Rattle.er_graph.specs.declared.graph.Graph.{Graph}
use Rattle.er_graph.specs.Accepted.{Accepted, records, cause_now}
use Rattle.er_graph.specs.Graph.{IsGraph, IsListed, IsAccessOf, IsFault}
use Rattle.er_trace.specs.declared.fault.FeedFault.{FeedFault}
use Rattle.er_trace.specs.declared.fault.FeedFault.TheVariants.{Refused, NoMemory}
use Rattle.er_access.specs.Kept.{Kept, access_of, with_access, most_accesses}
use Rattle.er_run.specs.declared.session.Session.{Session}
use Rattle.er_run.specs.Legal as legality
use Rattle.er_run.specs.Races.{kept}
use Rattle.er_run.specs.Session.{with_lines, IsSessionOf, HasTaken, AreGiven, version_of, IsFaultAfter, IsFaultOf, IsFaultIn, AreKept, IsFaultOfRoom, is_access}
use Rattle.er_run.proofs.AccessLemmas.{same_kept, kept_lines, kept_grow, up_to_running, with_running, one_came}

-- records keep what they are when they have their lines
pub records_with_lines : (h : List Record) → records (with_lines h) ≡ h
records_with_lines [] = refl
records_with_lines (x ∷ h) = ap (λ l. x ∷ l) (records_with_lines h)

pub page_of : (page : Page) (graph : Graph) (h : List Record) → ((accepted : List Accepted) → IsListed graph accepted → IsPage page (records accepted)) → IsGraph graph (with_lines h) → IsPage page h
page_of page graph h is stands = subst (IsPage page) (records_with_lines h) (is (with_lines h) stands.listed)

-- what a graph says that accepted a record
abbrev pub Accepts : Graph → Graph → ℕ → Record → Type 0
Accepts old new line x = (accepted : List Accepted) → IsGraph old accepted → (cause_now old.version accepted x ≡ None) × IsGraph new (record { line = line; read = x } ∷ accepted)

pub record IsAfter (v : Version) (graph : Graph) (h : List Record) (x : Record) : Type 0 where
  pub sound : sound.cause (rules v) h x ≡ None
  pub stands : IsGraph graph (with_lines (x ∷ h))

pub after : (old : Session) (graph : Graph) (h : List Record) (x : Record) (line : ℕ) → IsSessionOf old h → line ≡ old.records + 2 → Accepts old.graph graph line x → IsAfter old.graph.version graph h x
after old graph h x line stands e accepts =
    let p = accepts (with_lines h) stands.graph in
    let at : line ≡ length h + 2 = omega (arith, e, stands.count) in
    record {
      sound = ap (λ l. sound.cause (rules old.graph.version) l x) (sym (records_with_lines h)) ∙ p.0;
      stands = subst (λ n. IsGraph graph (record { line = n; read = x } ∷ with_lines h)) at p.1;
    }

-- the limit on accesses behind the other causes

by_room : (a : Option Cause) (b : Bool) → a ≡ None → b ≡ false → or_else a (if b then Some TooManyAccesses else None) ≡ None
by_room None false e f = refl
by_room None true e f = absurd (cc)
by_room (Some c) b e f = absurd (cc)

by_limit : (a : Option Cause) (b : Bool) → a ≡ None → b ≡ true → or_else a (if b then Some TooManyAccesses else None) ≡ Some TooManyAccesses
by_limit None true e f = refl
by_limit None false e f = absurd (cc)
by_limit (Some c) b e f = absurd (cc)

by_cause : (a b : Option Cause) (c : Cause) → a ≡ Some c → or_else a b ≡ Some c
by_cause (Some d) b c e = e
by_cause None b c e = absurd (cc)

-- no legal list keeps more accesses than may be

not_past : (a : Option Cause) (b : Bool) → or_else a (if b then Some TooManyAccesses else None) ≡ None → b ≡ false
not_past None false e = refl
not_past None true e = absurd (cc)
not_past (Some c) b e = absurd (cc)

up_to : (most n : ℕ) → nat_lt most n ≡ false → n ≤ most
up_to most n e = grind (arith, nat_tests)

kept_within : (table : List (ℕ × Rule)) (h : List Record) → legality.IsLegal table h → length (kept h) ≤ most_accesses
kept_within table [] legal = omega arith
kept_within table (x ∷ h) legal = up_to most_accesses (length (kept (x ∷ h))) (not_past (sound.cause table h x) (legality.is_past_room h x) legal.0)

room_left : (m n most : ℕ) → m ≤ most → n ≤ m + 1 → (m < n → m ≢ most) → nat_lt most n ≡ false
room_left m n most within grows room = by (nat_lt most n) refl
  where
    by : (past : Bool) → nat_lt most n ≡ past → nat_lt most n ≡ false
    by false e = e
    by true e =
        let over : most < n = grind (arith, nat_tests) in
        absurd (room (omega (arith, over, within)) (omega (arith, over, within, grows)))

no_room_left : (m n most : ℕ) → m < n → m ≡ most → nat_lt most n ≡ true
no_room_left m n most less is = grind (arith, nat_tests)

legal_next : (table : List (ℕ × Rule)) (h : List Record) (x : Record) → legality.IsLegal table h → sound.cause table h x ≡ None → (length (kept h) < length (kept (x ∷ h)) → length (kept h) ≢ most_accesses) → legality.cause table h x ≡ None
legal_next table h x legal none room = by_room (sound.cause table h x) (legality.is_past_room h x) none (room_left (length (kept h)) (length (kept (x ∷ h))) most_accesses (kept_within table h legal) (kept_grow h x) room)

full_next : (table : List (ℕ × Rule)) (h : List Record) (x : Record) → sound.cause table h x ≡ None → length (kept h) < length (kept (x ∷ h)) → length (kept h) ≡ most_accesses → legality.cause table h x ≡ Some TooManyAccesses
full_next table h x none more most = by_limit (sound.cause table h x) (legality.is_past_room h x) none (no_room_left (length (kept h)) (length (kept (x ∷ h))) most_accesses more most)

first_cause : (table : List (ℕ × Rule)) (h : List Record) (x : Record) (c : Cause) → sound.cause table h x ≡ Some c → legality.cause table h x ≡ Some c
first_cause table h x c e = by_cause (sound.cause table h x) (if legality.is_past_room h x then Some TooManyAccesses else None) c e

-- a record is refused with its line, for the first cause against it
pub fault_after : (old : Session) (new : Graph) (h : List Record) (x : Record) (line : ℕ) (fault : FeedFault) → IsSessionOf old h → line ≡ old.records + 2 → IsFault fault line x old.graph new → IsFaultAfter old.graph.version h x fault
fault_after old new h x line (Refused l c) stands e is =
    (omega (arith, is.0, e, stands.count), first_cause (rules old.graph.version) h x c (ap (λ k. sound.cause (rules old.graph.version) k x) (sym (records_with_lines h)) ∙ is.2 (with_lines h) stands.graph.listed))
fault_after old new h x line NoMemory stands e is = tt

-- in one version the same is legal
same_rules : (v w : Version) (h : List Record) → w ≡ v → legality.IsLegal (rules v) h → legality.IsLegal (rules w) h
same_rules v w h same legal = subst (λ u. legality.IsLegal (rules u) h) (sym same) legal

-- one is made before the first record
pub made_first : (session : Option Session) (made : Session) (h : List Record) → is_some session ≡ false → IsSessionOf made [] → HasTaken session h → IsSessionOf made h
made_first None made h none stands taken = subst (IsSessionOf made) (sym taken) stands
made_first (Some session) made h none stands taken = absurd (cc)

-- the one that was made, and the version that was given

made_in : (session : Option Session) (made : Session) (given : Option Version) → session ≡ Some made → version_of session ≡ given → given ≡ Some made.graph.version
made_in session made given is same = sym same ∙ ap version_of is

pub taken_by : (session : Option Session) (made : Session) (h : List Record) → session ≡ Some made → HasTaken session h → IsSessionOf made h
taken_by session made h is taken = subst (λ s. HasTaken s h) is taken

pub of_its_version : (session : Option Session) (made : Session) (given : Option Version) (records : List Record) → session ≡ Some made → version_of session ≡ given → AreGiven given records → list_all (has_record made.graph.version) records ≡ true
of_its_version session made given records is same are = subst (λ g. AreGiven g records) (made_in session made given is same) are

pub still_in : (session : Option Session) (made next : Session) (given : Option Version) → session ≡ Some made → version_of session ≡ given → next.graph.version ≡ made.graph.version → version_of (Some next) ≡ given
still_in session made next given is same kept = ap Some kept ∙ sym (made_in session made given is same)

pub refused_in : (session : Option Session) (made : Session) (given : Option Version) (records : List Record) (fault : FeedFault) → session ≡ Some made → version_of session ≡ given → IsFaultOf made.graph.version records fault → IsFaultIn given records fault
refused_in session made given records fault is same refused = subst (λ g. IsFaultIn g records fault) (sym (made_in session made given is same)) refused

pub no_memory_in : (given : Option Version) (records : List Record) → IsFaultIn given records NoMemory
no_memory_in None records = refl
no_memory_in (Some v) records = tt

-- without one there is no record to take
pub nothing_taken : (session : Option Session) (given : Option Version) (earlier records : List Record) → session ≡ None → version_of session ≡ given → AreGiven given records → HasTaken session (reverse earlier) → HasTaken session (reverse (earlier ++ records))
nothing_taken session given earlier records is same are taken =
    let none : given ≡ None = sym same ∙ ap version_of is in
    let empty : records ≡ [] = subst (λ g. AreGiven g records) none are in
    subst (λ rs. HasTaken session (reverse (earlier ++ rs))) (sym empty) (subst (λ l. HasTaken session (reverse l)) (sym (append-nil earlier)) taken)

-- one record more

pub noted : (old new : Session) (h : List Record) (x : Record) (line : ℕ) → IsSessionOf old h → line ≡ old.records + 2 → Accepts old.graph new.graph line x → is_access x ≡ false
    → new.graph.version ≡ old.graph.version → new.kept ≡ old.kept → new.records ≡ old.records + 1 → IsSessionOf new (x ∷ h)
noted old new h x line stands e accepts access version accesses count =
    let a = after old new.graph h x line stands e accepts in
    let same : kept (x ∷ h) ≡ kept h = same_kept h x access in
    record {
      graph = a.stands;
      accesses = accesses ∙ (stands.accesses ∙ sym same);
      count = omega (arith, count, stands.count);
      legal = same_rules old.graph.version new.graph.version (x ∷ h) version (legal_next (rules old.graph.version) h x stands.legal a.sound (λ more. absurd (omega (arith, more, ap length same))), stands.legal);
    }

-- what a graph says that accepted an access of this action
abbrev pub AcceptsAccess : Graph → ℕ → ℕ → Type 0
AcceptsAccess graph line action = (accepted : List Accepted) (m : Mode) (l : Loc) → IsGraph graph accepted → IsAccessOf graph accepted line action (Access m l)

accepts : (graph : Graph) (line action : ℕ) (m : Mode) (l : Loc) → AcceptsAccess graph line action → Accepts graph graph line (Access m l)
accepts graph line action m l of accepted stands = let a = of accepted m l stands in (a.legal, a.stands)

runs_after : (graph : Graph) (h : List Record) (line action : ℕ) (m : Mode) (l : Loc) → IsGraph graph (with_lines h) → AcceptsAccess graph line action → Some action ≡ running_action h
runs_after graph h line action m l stands of = sym (of (with_lines h) m l stands).running ∙ ap running_action (records_with_lines h)

-- the accesses before it are of earlier lines, and of actions up to this one

pub in_earlier_lines : (old : Session) (h : List Record) (line : ℕ) → IsSessionOf old h → line ≡ old.records + 2 → All (λ (x : Kept). x.line < line) old.kept
in_earlier_lines old h line stands e =
    let at : line ≡ length h + 2 = omega (arith, e, stands.count) in
    subst (λ (xs : List Kept). All (λ (x : Kept). x.line < line) xs) (sym stands.accesses) (subst (λ n. All (λ (x : Kept). x.line < n) (kept h)) (sym at) (kept_lines h))

pub of_earlier_actions : (old : Session) (h : List Record) (line action : ℕ) (m : Mode) (l : Loc) → IsSessionOf old h → AcceptsAccess old.graph line action → All (λ (x : Kept). x.action ≤ action) old.kept
of_earlier_actions old h line action m l stands of = subst (λ (xs : List Kept). All (λ (x : Kept). x.action ≤ action) xs) (sym stands.accesses) (up_to_running h action (runs_after old.graph h line action m l stands.graph of))

-- what the table has with an access is what the records keep
due_is : (old : Session) (h : List Record) (line action : ℕ) (m : Mode) (l : Loc) → IsSessionOf old h → line ≡ old.records + 2 → AcceptsAccess old.graph line action → with_access (access_of line action m l) old.kept ≡ kept (Access m l ∷ h)
due_is old h line action m l stands e of =
    ap (with_access (access_of line action m l)) stands.accesses ∙ sym (with_running h line action m l (runs_after old.graph h line action m l stands.graph of) (omega (arith, e, stands.count)))

pub accessed : (old new : Session) (h : List Record) (line action : ℕ) (m : Mode) (l : Loc) → IsSessionOf old h → line ≡ old.records + 2 → AcceptsAccess old.graph line action
    → new.graph ≡ old.graph → new.records ≡ old.records + 1 → AreKept old.kept (with_access (access_of line action m l) old.kept) new.kept → IsSessionOf new (Access m l ∷ h)
accessed old new h line action m l stands e of graph count keeps =
    let x : Record = Access m l in
    let a = after old old.graph h x line stands e (accepts old.graph line action m l of) in
    let due = due_is old h line action m l stands e of in
    let before = ap length stands.accesses in
    let now = ap length due in
    record {
      graph = subst (λ g. IsGraph g (with_lines (x ∷ h))) (sym graph) a.stands;
      accesses = keeps.same ∙ due;
      count = omega (arith, count, stands.count);
      legal = same_rules old.graph.version new.graph.version (x ∷ h) (ap (λ (g : Graph). g.version) graph) (legal_next (rules old.graph.version) h x stands.legal a.sound (λ more most. keeps.room (omega arith) (omega arith)), stands.legal);
    }

-- an access for which there is no room
pub refused_room : (old : Session) (h : List Record) (line action : ℕ) (m : Mode) (l : Loc) (fault : FeedFault) → IsSessionOf old h → line ≡ old.records + 2 → AcceptsAccess old.graph line action
    → IsFaultOfRoom fault (access_of line action m l) old.kept → IsFaultAfter old.graph.version h (Access m l) fault
refused_room old h line action m l (Refused n c) stands e of is =
    let x : Record = Access m l in
    let a = after old old.graph h x line stands e (accepts old.graph line action m l of) in
    let before = ap length stands.accesses in
    let now = ap length (due_is old h line action m l stands e of) in
    let more = one_came (access_of line action m l) old.kept is.2.0 in
    let most = is.2.1 in
    (omega (arith, is.0, e, stands.count), full_next (rules old.graph.version) h x a.sound (omega arith) (omega arith) ∙ ap Some (sym is.1))
refused_room old h line action m l NoMemory stands e of is = tt
