-- How a page comes to stand for one record more.
use Rattle.std.proofs.Common.{◌≡◌, ℕ, ◌≤◌, Bool, true, false, List, [], ◌∷◌, ◌++◌, length, map, reverse, Option, Some, None, refl, sym, ap, ◌∙◌, arith}
use Rattle.std.proofs.Math.Logic.{∥∥₁_elim, ∥∥₁_map}
use Rattle.std.proofs.Props.{props}
use Rattle.std.specs.Prelude.{◌==◌, if◌then◌else◌}
use Rattle.std.proofs.lemmas.List.{length-map}
use Rattle.er_numbers.specs.Numbers.{found}
use Rattle.er_trace.specs.declared.record.Record.{Record}
use Rattle.er_trace.specs.declared.record.Record.TheVariants.{Inline, New, NewFrame, On, Set, Every, Send, Access, Post, Ask, Queue}
use Rattle.er_trace.specs.declared.record.Loc.{Loc}
use Rattle.er_trace.specs.declared.record.Mode.{Mode}
use Rattle.er_history.specs.History.{told, begins, running, action_begun, actions_after, event_begun, Action}
use Rattle.er_history.specs.Laws.{IsNumbered}
use Rattle.er_history.specs.Naming.{naming, room}
use Rattle.er_paths.specs.Limits.{most_actions}
use Rattle.er_history.proofs.HistoryLemmas.{actions_are_numbered}
use Rattle.er_history.specs.declared.firsts.Now.{Now}
use Rattle.er_history.specs.Taken.{IsNow, StillStands}
use Rattle.er_claims.specs.declared.claimed.Claimed.{Claimed}
use Rattle.er_claims.specs.Claimed.{ClaimedAre}
use Rattle.er_claims.proofs.AccessLemmas.{claimed_same}
use Rattle.er_tasks.specs.declared.tasks.Tasks.{Tasks}
use Rattle.er_tasks.specs.Tasks.{TasksAre}
use Rattle.er_tasks.proofs.AccessLemmas.{tasks_same}
use Rattle.er_latest.specs.declared.latest.Latest.{Latest}
use Rattle.er_latest.specs.declared.role.Role.{Role}
use Rattle.er_latest.specs.Latest.{LatestAre, IsTold}
use Rattle.er_latest.specs.Roles.{said_by, role_of}
use Rattle.er_page.specs.declared.page.Page.{Page}
use Rattle.er_page.specs.declared.piece.Piece.{Piece}
use Rattle.er_page.specs.declared.piece.Pieces.{Pieces}
use Rattle.er_page.specs.declared.piece.Start.{Start}
use Rattle.er_page.specs.declared.stack.Stack.{Stack}
use Rattle.er_page.specs.declared.within.Within.{Within}
use Rattle.er_page.specs.Accepted.{IsAccepted}
use Rattle.er_page.specs.Page.{IsPage, IsNext, IsNextOf}
use Rattle.er_page.specs.Pieces.{PiecesAre, About, Seen, about, about_start, about_begun, kept, seen, now_of}
use Rattle.er_page.specs.Roles.{role_by, first_in, begin_in}
use Rattle.er_page.specs.Stack.{StackIs, HasDepth, levels_after, levels_of}
use Rattle.er_page.specs.Within.{WithinIs, job_dispatch, job_under, jobs_at}
use Rattle.er_page.proofs.AcceptedLemmas.{accepted_named, some_runs, actions_few}
use Rattle.er_page.proofs.LevelLemmas.{has_depth, stack_taken}
use Rattle.er_page.proofs.PiecesLemmas.{pieces_long, piece_taken, pieces_kept}
use Rattle.er_page.proofs.RoleLemmas.{role_is}
use Rattle.er_page.proofs.WithinLemmas.{within_taken, within_noted}

-- what a record begins

pub record Begun (h : List Record) (x : Record) (start : Start) : Type 0 where
  pub begin : begins x ≡ true
  pub same : about_start start ≡ about (event_begun (told h) x)
  pub actions : (told (x ∷ h)).actions ≡ action_begun (told h) x ∷ (told h).actions

begun_is : (h : List Record) (x : Record) (start : Start) → Some (about_start start) ≡ about_begun h x → Begun h x start
begun_is h x start is = by (begins x) refl is
  where
    by : (b : Bool) → begins x ≡ b → Some (about_start start) ≡ (if b then Some (about (event_begun (told h) x)) else None) → Begun h x start
    by true begin same = record { begin = begin; same = cc; actions = rw begin refl }
    by false begin same = absurd (cc)

note_is : (h : List Record) (x : Record) → None ≡ about_begun h x → begins x ≡ false
note_is h x is = by (begins x) is
  where
    by : (b : Bool) → None ≡ (if b then Some (about (event_begun (told h) x)) else None) → b ≡ false
    by true same = absurd (cc)
    by false same = refl

-- a page takes a record that begins a piece
pub page_begun : (new : Page) (stack : Stack) (pieces : Pieces) (latest : Latest) (within : Within) (dispatch : Option ℕ) (h : List Record) (x : Record) (start : Start) (action : ℕ) (role : Role)
    → StackIs stack h → PiecesAre pieces h → LatestAre latest (told h).actions → WithinIs within h → dispatch ≡ job_dispatch h x → IsAccepted h → IsNextOf h x → Some (about_start start) ≡ about_begun h x → action ≡ length pieces.list.items
    → (IsNow h x (record { action = action; event = start.event }) → ClaimedAre new.claimed (x ∷ h))
    → (IsNow h x (record { action = action; event = start.event }) → TasksAre new.tasks (x ∷ h))
    → reverse new.stack.levels.items ≡ levels_after (reverse stack.levels.items) action x
    → new.pieces.list.items ≡ pieces.list.items ++ record { begin = x; start = start } ∷ []
    → ((u : ℕ) → found new.pieces.latest u ≡ (if start.event == u then Some (length pieces.list.items) else found pieces.latest u))
    → said_by role ≡ role_by h (first_in pieces.list.items x start) (begin_in pieces.list.items start.serves)
    → ((actions : List Action) (a : Action) → LatestAre latest actions → IsTold role (record { action = action; event = start.event }) a → LatestAre new.latest (a ∷ actions))
    → ((p : ℕ) → jobs_at new.within p ≡ jobs_at within p ++ job_under p dispatch action)
    → IsPage new (x ∷ h)
page_begun new stack pieces latest within dispatch h x start action role is are came jobs under accepted next starts count claimed tasks levels items each plays more put =
    let begun = begun_is h x start starts in
    let long : action ≡ length (told h).actions = count ∙ pieces_long pieces.list.items (told h).actions are.all in
    let event : start.event ≡ (event_begun (told h) x).number = ap (λ (m : About). m.event) begun.same in
    let all : IsAccepted (x ∷ h) = (next.0, next.1, accepted) in
    let says : said_by role ≡ role_of (event_begun (told h) x).what = plays ∙ role_is pieces h x start are (accepted_named (x ∷ h) all) begun.begin begun.same in
    let one : LatestAre new.latest (action_begun (told h) x ∷ (told h).actions) = more (told h).actions (action_begun (told h) x) came (record { says = says; action = long; event = event }) in
    let now : IsNow h x (record { action = action; event = start.event }) = record { running_action = action_begun (told h) x; runs = rw begun.begin refl; action = long; event = event } in
    record {
      claimed = claimed now;
      tasks = tasks now;
      stack = stack_taken stack new.stack h x action is long levels;
      pieces = piece_taken pieces new.pieces h x start are starts items each;
      latest = rw begun.begin one;
      within = within_taken within new.within h x dispatch action jobs (accepted_named (x ∷ h) all) under long put;
      accepted = all;
    }

-- a page takes a note

pub now_is : (newest : List Piece) (actions : List Action) (a : Action) → map kept newest ≡ map seen actions → IsNumbered actions → running actions ≡ Some a
    → now_of newest ≡ Some (record { action = a.number; event = a.event.number })
now_is newest [] a e n r = cc
now_is [] (b ∷ older) a e n r = cc
now_is (p ∷ ps) (b ∷ older) a e n r =
    let head : kept p ≡ seen b = cc in
    let tail : map kept ps ≡ map seen older = cc in
    let event : p.start.event ≡ b.event.number = ap (λ (s : Seen). s.about.event) head in
    let same : b ≡ a = cc in
    let long : length ps ≡ b.number = omega (arith, n.0, length-map ps kept, length-map older seen, ap length tail) in
    (λ i. Some (record { action = long i; event = event i })) ∙ ap (λ (c : Action). Some (record { action = c.number; event = c.event.number })) same

-- the running action, where a note stands
pub note_runs : (pieces : Pieces) (h : List Record) (x : Record) → PiecesAre pieces h → naming h x ≡ None → begins x ≡ false
    → (a : Action) × (running (actions_after (told h) x) ≡ Some a) × (now_of (reverse pieces.list.items) ≡ Some (record { action = a.number; event = a.event.number }))
note_runs pieces h x are named note =
    let runs = some_runs h x named in
    let here : running (told h).actions ≡ Some runs.0 = rw note at runs.1 in
    (runs.0, runs.1, now_is (reverse pieces.list.items) (told h).actions runs.0 are.all (actions_are_numbered h) here)

note_stack : (x : Record) (h : List Record) → begins x ≡ false → (told (x ∷ h)).stack ≡ (told h).stack
note_stack (New d e k) h b = refl
note_stack (NewFrame d e f) h b = refl
note_stack (On y) h b = refl
note_stack (Set t n) h b = refl
note_stack (Every i n) h b = refl
note_stack (Send r) h b = refl
note_stack (Post m) h b = refl
note_stack (Ask a) h b = refl
note_stack (Queue j) h b = refl
note_stack (Access m l) h b = refl
note_stack _ h b = absurd (cc)

page_noted_with : (old new : Page) (h : List Record) (x : Record) → IsPage old h → IsNextOf h x → begins x ≡ false → ClaimedAre new.claimed (x ∷ h) → TasksAre new.tasks (x ∷ h) → new.stack ≡ old.stack → new.pieces ≡ old.pieces → new.latest ≡ old.latest → new.within ≡ old.within → IsPage new (x ∷ h)
page_noted_with old new h x is next note claimed tasks stack pieces latest within = record {
  claimed = claimed;
  tasks = tasks;
  stack = record { levels = ap (λ (s : Stack). reverse s.levels.items) stack ∙ (is.stack.levels ∙ ap levels_of (sym (note_stack x h note))) };
  pieces = pieces_kept old.pieces new.pieces h x is.pieces (rw note refl) (ap (λ (p : Pieces). p.list.items) pieces) (λ u. ap (λ (p : Pieces). found p.latest u) pieces);
  latest = rw (note, latest) is.latest;
  within = within_noted old.within new.within h x note within is.within;
  accepted = (next.0, next.1, is.accepted);
}

pub page_noted : (old new : Page) (h : List Record) (x : Record) (now : Now) → IsPage old h → IsNextOf h x → None ≡ about_begun h x → now_of (reverse old.pieces.list.items) ≡ Some now
    → (IsNow h x now → ClaimedAre new.claimed (x ∷ h)) → (IsNow h x now → TasksAre new.tasks (x ∷ h)) → new.stack ≡ old.stack → new.pieces ≡ old.pieces → new.latest ≡ old.latest → new.within ≡ old.within → IsPage new (x ∷ h)
page_noted old new h x now is next starts newest claimed tasks stack pieces latest within =
    let note = note_is h x starts in
    let runs = note_runs old.pieces h x is.pieces next.0 note in
    let same : now ≡ record { action = runs.0.number; event = runs.0.event.number } = cc in
    let is_now : IsNow h x now = record { running_action = runs.0; runs = runs.1; action = ap (λ (n : Now). n.action) same; event = ap (λ (n : Now). n.event) same } in
    page_noted_with old new h x is next note (claimed is_now) (tasks is_now) stack pieces latest within

-- some action runs
pub note_somewhere : (page : Page) (h : List Record) (x : Record) → IsPage page h → IsNextOf h x → None ≡ about_begun h x → now_of (reverse page.pieces.list.items) ≡ None → ⊥
note_somewhere page h x is next starts none =
    let runs = note_runs page.pieces h x is.pieces next.0 (note_is h x starts) in
    cc

pub accessed : (page : Page) (h : List Record) (x : Record) (m : Mode) (l : Loc) → x ≡ Access m l → IsPage page h → naming h x ≡ None → room h x ≡ None → IsPage page (x ∷ h)
accessed page h x m l e is named fits =
    let runs = some_runs h x named in
    let run = ap (λ y. running (actions_after (told h) y)) (sym e) ∙ runs.1 in
    let claimed : ClaimedAre page.claimed (x ∷ h) = rw e (claimed_same page.claimed h m l runs.0 run is.claimed) in
    let tasks : TasksAre page.tasks (x ∷ h) = rw e (tasks_same page.tasks h m l runs.0 run is.tasks) in
    page_noted_with page page h x is (named, fits) (ap begins e) claimed tasks refl refl refl refl

-- what a page keeps, where a record is next

pub long_page : (page : Page) (h : List Record) → IsPage page h → length page.pieces.list.items ≡ length (told h).actions
long_page page h is = pieces_long page.pieces.list.items (told h).actions is.pieces.all

pub pieces_few : (page : Page) (x : Record) → ∥ IsNext page x ∥₁ → length page.pieces.list.items ≤ most_actions
pieces_few page x some = ∥∥₁_elim some (hlevel props) (λ next. few_next next)
  where
    few_next : IsNext page x → length page.pieces.list.items ≤ most_actions
    few_next next = omega (arith, long_page page next.list next.stands, actions_few next.list next.stands.accepted)

pub depth_next : (page : Page) (x : Record) → ∥ IsNext page x ∥₁ → HasDepth (reverse page.stack.levels.items) x
depth_next page (Inline p e n) some = ∥∥₁_elim some (hlevel props) (λ next. deep next)
  where
    deep : IsNext page (Inline p e n) → HasDepth (reverse page.stack.levels.items) (Inline p e n)
    deep next = has_depth page.stack next.list (Inline p e n) next.stands.stack next.fits
depth_next page _ some = tt

-- where what is claimed and the tasks have room, the page stands for what it did
pub with_room : (page : Page) (claimed : Claimed) (tasks : Tasks) (h : List Record) → StillStands ClaimedAre page.claimed claimed → StillStands TasksAre page.tasks tasks → IsPage page h
    → IsPage (record { claimed = claimed; tasks = tasks; stack = page.stack; pieces = page.pieces; latest = page.latest; within = page.within }) h
with_room page claimed tasks h kept stays is = record { claimed = kept h is.claimed; tasks = stays h is.tasks; stack = is.stack; pieces = is.pieces; latest = is.latest; within = is.within; accepted = is.accepted }

pub next_kept : (old new : Page) (x : Record) → ((h : List Record) → IsPage old h → IsPage new h) → ∥ IsNext old x ∥₁ → ∥ IsNext new x ∥₁
next_kept old new x kept some = ∥∥₁_map some (λ next. record { list = next.list; stands = kept next.list next.stands; named = next.named; fits = next.fits })
