-- What runs where the close of an inline dispatch has begun, and what is suspended under one. Lists
-- of records stand newest first.
use Rattle.std.proofs.Common.{◌≡◌, ℕ, ◌+◌, ◌≤◌, Bool, true, false, List, [], ◌∷◌, length, Option, Some, None, refl, sym, ap, subst, ◌∙◌, arith, inl, inr}
use Rattle.std.specs.Prelude.{if◌then◌else◌}
use Rattle.std.specs.List.{list_any}
use Rattle.er_trace.specs.declared.record.Record.{Record}
use Rattle.er_trace.specs.declared.record.Record.TheVariants.{Dcl, Load, Eload, Fire, Wfire, Reply, Inline, Run, Close, Back, Job}
use Rattle.er_history.specs.History.{Dispatch, is_inline, What, CloseOf, Unnamed, Event, Action, Open, told, begins, dispatch_begun, event_begun, action_begun, actions_after, stack_after, running}
use Rattle.er_history.specs.Laws.{Among, IsNumbered}
use Rattle.er_history.specs.Naming.{IsNamed, misplaced, has_open}
use Rattle.er_history.proofs.HistoryLemmas.{actions_are_numbered, among_below, same_action}
use Rattle.er_history.proofs.NamedLemmas.{none_holds, begun_on_none}
use Rattle.er_history.proofs.DeclaredLemmas.{or_none}
use Rattle.er_history.proofs.UnfinishedLemmas.{StackBegun, stack_begun}
use Rattle.er_pieces.proofs.StackLemmas.{On, Top, top_is, stack_from, dispatch_at}
use Rattle.er_pieces.proofs.CallerLemmas.{among_cases, resumed}
use Rattle.er_pieces.proofs.ClearLemmas.{IsSorted, sorted, opens_below}

-- From the begin of an open dispatch on, each piece is of an event that has begun since.
pub within : (h : List Record) → IsNamed h → (o : Open) (a : Action) → On o (told h).stack → Among a (told h).actions → o.dispatch.begin ≤ a.number → o.dispatch.begin ≤ a.event.number
within [] named o a on among le = absurd on
within (x ∷ h) named o a on among le =
    let placed = (none_holds h x named.0).placed in
    elim (stack_from (told h).stack (dispatch_begun (told h).entries (length (told h).actions) x) x o on) [
      | inl from ↦ elim (among_cases h x a among) [
        | inl now ↦ subst (λ (c : Action). o.dispatch.begin ≤ c.event.number) (sym now.1) (newest x on placed from (within h named.1))
        | inr older ↦ subst (λ (d : Dispatch). d.begin ≤ a.event.number) from.2 (within h named.1 from.0 a from.1 older (subst (λ (d : Dispatch). d.begin ≤ a.number) (sym from.2) le))
      ]
      | inr begun ↦
          let at = dispatch_at (told h).entries (length (told h).actions) x o.dispatch begun in
          elim (among_cases h x a among) [
            | inl now ↦ subst (λ (c : Action). o.dispatch.begin ≤ c.event.number) (sym now.1) (first x placed begun at)
            | inr older ↦ absurd (omega (arith, at, le, among_below (told h).actions a (actions_are_numbered h) older))
          ]
    ]
  where
    From : Type 0
    From = (q : Open) × On q (told h).stack × (q.dispatch ≡ o.dispatch)

    Rest : Type 0
    Rest = (o : Open) (a : Action) → On o (told h).stack → Among a (told h).actions → o.dispatch.begin ≤ a.number → o.dispatch.begin ≤ a.event.number

    first : (x : Record) → misplaced (told h) x ≡ false → dispatch_begun (told h).entries (length (told h).actions) x ≡ Some o.dispatch → o.dispatch.begin ≡ length (told h).actions → o.dispatch.begin ≤ (event_begun (told h) x).number
    first (Back p) placed begun at = absurd (cc)
    first x placed begun at = omega (arith, at)

    newest : (x : Record) → On o (told (x ∷ h)).stack → misplaced (told h) x ≡ false → From → Rest → o.dispatch.begin ≤ (event_begun (told h) x).number
    newest (Back p) on placed from rest =
        let back = resumed h p named.1 placed in
        let under : On o back.on_top.below = of_left (told h).stack back.on_top.is on in
        let lt = (subst IsSorted back.on_top.is (sorted h)).0 o under in
        let whole : On o (told h).stack = subst (On o) (sym back.on_top.is) (inr under) in
        subst (λ (e : Event). o.dispatch.begin ≤ e.number) (sym back.event) (rest o back.caller.piece whole back.caller.among (omega (arith, lt, back.caller.before)))
      where
        of_left : {t : Open} {below : List Open} (s : List Open) → s ≡ t ∷ below → On o (stack_after s None (Back p)) → On o below
        of_left {below = below} s e on = subst (λ r. On o (stack_after r None (Back p))) e on
    newest x on placed from rest =
        let lt = opens_below h from.0 from.1 in
        let same = ap (λ (d : Dispatch). d.begin) from.2 in
        omega (arith, lt, same)

-- level by level down the stack: where a close has begun, what ran last above it is that close; a
-- dispatch that is not inline has none below

abbrev pub Level : List Action → What → List Open → Type 0
Level actions w [] = Unit {0}
Level actions w (o ∷ below) = (o.closing ≡ true → w ≡ CloseOf o.dispatch) × (is_inline o.dispatch ≡ false → below ≡ [])
    × ((c : Action) → Among c actions → c.number + 1 ≡ o.dispatch.begin → Level actions c.event.what below)

abbrev pub what_of : Option Action → What
what_of None = Unnamed
what_of (Some a) = a.event.what

-- an action more
level_more : (b : Action) (actions : List Action) (w : What) (stack : List Open) → b.number ≡ length actions → ((o : Open) → On o stack → o.dispatch.begin ≤ length actions) → Level actions w stack → Level (b ∷ actions) w stack
level_more b actions w [] number below level = tt
level_more b actions w (o ∷ rest) number below level = (level.0, level.1, λ c among before. step c (λ deeper. level_more b actions c.event.what rest number (λ q on. below q (inr on)) (level.2 c deeper before)) among before)
  where
    step : (c : Action) → (Among c actions → Level (b ∷ actions) c.event.what rest) → Among c (b ∷ actions) → c.number + 1 ≡ o.dispatch.begin → Level (b ∷ actions) c.event.what rest
    step c more (inl same) before = absurd (let le = below o (inl refl) in let at = ap (λ (d : Action). d.number) same in omega (arith, le, at, number, before))
    step c more (inr deeper) before = more deeper

no_open : (s : List Open) → has_open s ≡ false → s ≡ []
no_open [] e = refl
no_open (o ∷ below) e = absurd (cc)

-- what stands on an empty stack
level_alone : (actions : List Action) (w : What) (d : Dispatch) (s : List Open) → s ≡ [] → Level actions w (record { dispatch = d; closing = false } ∷ s)
level_alone actions w d s none = ((λ e. absurd (cc)), (λ e. none), λ c among before. subst (Level actions c.event.what) (sym none) tt)

abbrev pub Levels : List Record → Type 0
Levels h = Level (told h).actions (what_of (running (told h).actions)) (told h).stack

-- the piece just before the next action is the running one
just_before : (actions : List Action) (b c : Action) → IsNumbered actions → b.number ≡ length actions → Among c (b ∷ actions) → c.number + 1 ≡ length actions → what_of (running actions) ≡ c.event.what
just_before actions b c numbered number (inl same) before = absurd (let at = ap (λ (d : Action). d.number) same in omega (arith, at, number, before))
just_before [] b c numbered number (inr deeper) before = absurd deeper
just_before (a ∷ older) b c numbered number (inr deeper) before =
    ap (λ (d : Action). d.event.what) (same_action (a ∷ older) a c numbered (inl refl) deeper (omega (arith, before, numbered.0)))

level_emptied : (h : List Record) (x : Record) → has_open (told h).stack ≡ false → Level (action_begun (told h) x ∷ (told h).actions) (event_begun (told h) x).what (told h).stack
level_emptied h x none = subst (Level (action_begun (told h) x ∷ (told h).actions) (event_begun (told h) x).what) (sym (no_open (told h).stack none)) tt

-- a record that puts no dispatch on the stack: a note, or one for which none may be open
level_kept : (h : List Record) (x : Record) → (begins x ≡ true → has_open (told h).stack ≡ false) → Levels h
    → Level (actions_after (told h) x) (what_of (running (actions_after (told h) x))) (told h).stack
level_kept h x none level = by (begins x) none
  where
    by : (b : Bool) → (b ≡ true → has_open (told h).stack ≡ false)
        → Level (if b then action_begun (told h) x ∷ (told h).actions else (told h).actions) (what_of (running (if b then action_begun (told h) x ∷ (told h).actions else (told h).actions))) (told h).stack
    by true none = level_emptied h x (none refl)
    by false none = level

level_next : (h : List Record) (x : Record) → misplaced (told h) x ≡ false → IsNamed h → Levels h → Levels (x ∷ h)
level_next h (Job j) placed named level =
    on_stack (told h).stack refl (level_more b (told h).actions (what_of (running (told h).actions)) (told h).stack refl (λ o on. let lt = opens_below h o on in omega arith) level)
  where
    b : Action
    b = action_begun (told h) (Job j)

    -- the close of no dispatch on the stack has begun: none is inline
    on_stack : (s : List Open) → (told h).stack ≡ s → Level (b ∷ (told h).actions) (what_of (running (told h).actions)) s → Level (b ∷ (told h).actions) b.event.what s
    on_stack [] same level = tt
    on_stack (o ∷ rest) same level = ((λ closing. absurd (closed closing)), level.1, level.2)
      where
        closed : o.closing ≡ true → ⊥
        closed closing =
            let inline : is_inline o.dispatch ≡ true = (subst (StackBegun h) same (stack_begun h named)).0.closes closing in
            let none = (or_none (is_inline o.dispatch) _ (sym (ap (list_any (λ (q : Open). is_inline q.dispatch)) same) ∙ placed)).0 in
            cc
level_next h (Dcl p c) placed named level = level_alone (action_begun (told h) (Dcl p c) ∷ (told h).actions) (event_begun (told h) (Dcl p c)).what _ (told h).stack (no_open (told h).stack placed)
level_next h (Load p c) placed named level = level_alone (action_begun (told h) (Load p c) ∷ (told h).actions) (event_begun (told h) (Load p c)).what _ (told h).stack (no_open (told h).stack placed)
level_next h (Eload p y) placed named level = level_alone (action_begun (told h) (Eload p y) ∷ (told h).actions) (event_begun (told h) (Eload p y)).what _ (told h).stack (no_open (told h).stack placed)
level_next h (Fire p y n) placed named level = level_alone (action_begun (told h) (Fire p y n) ∷ (told h).actions) (event_begun (told h) (Fire p y n)).what _ (told h).stack (no_open (told h).stack placed)
level_next h (Wfire p c n) placed named level = level_alone (action_begun (told h) (Wfire p c n) ∷ (told h).actions) (event_begun (told h) (Wfire p c n)).what _ (told h).stack (no_open (told h).stack placed)
level_next h (Reply p r) placed named level = level_alone (action_begun (told h) (Reply p r) ∷ (told h).actions) (event_begun (told h) (Reply p r)).what _ (told h).stack (no_open (told h).stack placed)
level_next h (Inline p y n) placed named level = (
  (λ e. absurd (cc)),
  (λ e. absurd (cc)),
  λ c among before.
      let b : Action = action_begun (told h) (Inline p y n) in
      subst (λ w. Level (b ∷ (told h).actions) w (told h).stack) (just_before (told h).actions b c (actions_are_numbered h) refl among before)
      (level_more b (told h).actions (what_of (running (told h).actions)) (told h).stack refl (below h) level),
)
  where
    below : (h : List Record) (o : Open) → On o (told h).stack → o.dispatch.begin ≤ length (told h).actions
    below h o on = let lt = opens_below h o on in omega arith
level_next h (Run p g y) placed named level =
    let b : Action = action_begun (told h) (Run p g y) in
    let top = top_is false p (told h).stack placed in
    subst (Level (b ∷ (told h).actions) b.event.what) (sym top.is)
    (on_top b top.top top.below top.closes (subst (Level (b ∷ (told h).actions) (what_of (running (told h).actions))) top.is
    (level_more b (told h).actions (what_of (running (told h).actions)) (told h).stack refl (λ o on. let lt = opens_below h o on in omega arith) level)))
  where
    on_top : (b : Action) (o : Open) (rest : List Open) → o.closing ≡ false → Level (b ∷ (told h).actions) (what_of (running (told h).actions)) (o ∷ rest) → Level (b ∷ (told h).actions) b.event.what (o ∷ rest)
    on_top b o rest still level = ((λ e. absurd (cc)), level.1, level.2)
level_next h (Close p) placed named level =
    let b : Action = action_begun (told h) (Close p) in
    let top = top_is false p (told h).stack placed in
    let what : b.event.what ≡ CloseOf top.top.dispatch = rw top.found refl in
    subst (λ s. Level (b ∷ (told h).actions) b.event.what (stack_after s None (Close p))) (sym top.is)
    (closed b top.top top.below what (subst (Level (b ∷ (told h).actions) (what_of (running (told h).actions))) top.is
    (level_more b (told h).actions (what_of (running (told h).actions)) (told h).stack refl (λ o on. let lt = opens_below h o on in omega arith) level)))
  where
    closed : (b : Action) (o : Open) (rest : List Open) → b.event.what ≡ CloseOf o.dispatch → Level (b ∷ (told h).actions) (what_of (running (told h).actions)) (o ∷ rest)
        → Level (b ∷ (told h).actions) b.event.what (stack_after (o ∷ rest) None (Close p))
    closed b o rest what level = step (is_inline o.dispatch) refl
      where
        step : (c : Bool) → is_inline o.dispatch ≡ c → Level (b ∷ (told h).actions) b.event.what (if c then record { dispatch = o.dispatch; closing = true } ∷ rest else rest)
        step true inline = ((λ e. what), level.1, level.2)
        step false plain = subst (Level (b ∷ (told h).actions) b.event.what) (sym (level.1 plain)) tt
level_next h (Back p) placed named level =
    let b : Action = action_begun (told h) (Back p) in
    let back = resumed h p named placed in
    let grown = subst (Level (b ∷ (told h).actions) (what_of (running (told h).actions))) back.on_top.is
    (level_more b (told h).actions (what_of (running (told h).actions)) (told h).stack refl (λ o on. let lt = opens_below h o on in omega arith) level) in
    subst (λ s. Level (b ∷ (told h).actions) b.event.what (stack_after s None (Back p))) (sym back.on_top.is)
    (subst (λ (e : Event). Level (b ∷ (told h).actions) e.what back.on_top.below) (sym back.event) (grown.2 back.caller.piece (inr back.caller.among) back.caller.before))
level_next h x placed named level = level_kept h x (λ b. begun_on_none h x placed b refl) level

pub levels : (h : List Record) → IsNamed h → Levels h
levels [] named = tt
levels (x ∷ h) named = level_next h x (none_holds h x named.0).placed named.1 (levels h named.1)

-- where the close of the dispatch on top has begun, a piece of it runs
pub close_runs : (h : List Record) → IsNamed h → (p : ℕ) → (top : Top true p (told h).stack) → what_of (running (told h).actions) ≡ CloseOf top.top.dispatch
close_runs h named p top = (subst (Level (told h).actions (what_of (running (told h).actions))) top.is (levels h named)).0 top.closes
