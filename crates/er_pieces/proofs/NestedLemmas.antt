-- Proof of the two laws of nested pieces, from what each piece gathers. Lists of records stand
-- newest first.
use Rattle.std.proofs.Common.{◌≡◌, ℕ, ◌+◌, Bool, true, false, List, [], ◌∷◌, length, map, None, refl, sym, ap, subst, ◌∙◌, arith, inl, inr}
use Rattle.std.specs.Prelude.{◌==◌, if◌then◌else◌, nat_lt}
use Rattle.std.specs.List.{list_any}
use Rattle.std.proofs.lemmas.Bool.{eq-eqb}
use Rattle.er_trace.specs.declared.record.Record.{Record}
use Rattle.er_trace.specs.declared.record.Record.TheVariants.{Parse, ParseFrame, Exec, Timer, Tick, Dcl, Load, Eload, Fire, Wfire, Reply, Inline, Run, Close, Back, Message, Anim, Job}
use Rattle.er_paths.proofs.Paths.{or_left, or_right}
use Rattle.er_history.specs.History.{Dispatch, is_inline, What, BeginOf, HandlerOf, CloseOf, JobRun, Event, Action, Open, told, begins, event_begun, action_begun, stack_after, running, maker_by, declares_handler}
use Rattle.er_history.specs.Rules.{Rule}
use Rattle.er_history.specs.Edges.{path, around_inline, of_one_event, is_ruled}
use Rattle.er_history.specs.Laws.{Among}
use Rattle.er_history.specs.Naming.{misplaced, has_open}
use Rattle.er_pieces.specs.Enough.{IsSteady}
use Rattle.er_history.proofs.HistoryLemmas.{actions_are_numbered, among_below, told_before, event_before}
use Rattle.er_history.proofs.HandedLemmas.{action_stands}
use Rattle.er_pieces.proofs.StartsLemmas.{lt_or_le}
use Rattle.er_history.proofs.NamedLemmas.{none_holds}
use Rattle.er_pieces.proofs.StackLemmas.{On, Top, top_is, top_on}
use Rattle.er_pieces.proofs.CallerLemmas.{among_cases, Resumed, resumed}
use Rattle.er_pieces.proofs.ClearLemmas.{opens_below}
use Rattle.er_pieces.proofs.PathLemmas.{both, less_is, edge_path}
use Rattle.er_pieces.proofs.DispatchLemmas.{open_begun}
use Rattle.er_pieces.proofs.LevelLemmas.{Level, what_of, close_runs, levels}
use Rattle.er_pieces.proofs.EnoughPieces.{Runs, runs_some}
use Rattle.er_pieces.proofs.GatherLemmas.{since_of, since, Gathers, IsWithin, Held, Good, steady_before, still, older_one, number_cases, held_more, gathers_alone, held_begun, close_gathers, back_gathers}

-- an action more

gathers_more : (table : List (ℕ × Rule)) (h : List Record) (x : Record) (a : Action) → Among a (told h).actions → Gathers table h a → Gathers table (x ∷ h) a
gathers_more table h x a among gathers i from to = still table h x i a.number (among_below (told h).actions a (actions_are_numbered h) among) (gathers i from to)

longer : (h : List Record) (x : Record) → begins x ≡ true → length (told (x ∷ h)).actions ≡ length (told h).actions + 1
longer h x begin = step (begins x) begin
  where
    step : (b : Bool) → b ≡ true → length (if b then action_begun (told h) x ∷ (told h).actions else (told h).actions) ≡ length (told h).actions + 1
    step true e = omega arith
    step false e = absurd (cc)

next_good : (table : List (ℕ × Rule)) (h : List Record) (x : Record) → begins x ≡ true → Good table h → Gathers table (x ∷ h) (action_begun (told h) x) → Held table (x ∷ h) (action_begun (told h) x) (told (x ∷ h)).stack → Good table (x ∷ h)
next_good table h x begin good gathers held = record {
  gathers = λ a among. elim (among_cases h x a among) [
    | inl now ↦ subst (Gathers table (x ∷ h)) (sym now.1) gathers
    | inr older ↦ gathers_more table h x a older (good.gathers a older)
  ];
  held = λ a among last. elim (among_cases h x a among) [
    | inl now ↦ subst (λ (c : Action). Held table (x ∷ h) c (told (x ∷ h)).stack) (sym now.1) held
    | inr older ↦ absurd (let below = among_below (told h).actions a (actions_are_numbered h) older in let more = longer h x begin in omega (arith, below, last, more))
  ];
}

-- on an empty stack

no_open : (s : List Open) → has_open s ≡ false → s ≡ []
no_open [] e = refl
no_open (o ∷ below) e = absurd (cc)

held_on_none : (table : List (ℕ × Rule)) (h : List Record) (a : Action) (s : List Open) → s ≡ [] → Held table h a s
held_on_none table h a s none = subst (Held table h a) (sym none) tt

good_top : (table : List (ℕ × Rule)) (h : List Record) (x : Record) → begins x ≡ true → has_open (told h).stack ≡ false → (told (x ∷ h)).stack ≡ (told h).stack → Among (action_begun (told h) x) (told (x ∷ h)).actions
    → since (event_begun (told h) x) ≡ length (told h).actions → Good table h → Good table (x ∷ h)
good_top table h x begin none same among own good =
    next_good table h x begin good (gathers_alone table (x ∷ h) (action_begun (told h) x) among own)
    (held_on_none table (x ∷ h) (action_begun (told h) x) (told (x ∷ h)).stack (same ∙ no_open (told h).stack none))

good_begin : (table : List (ℕ × Rule)) (h : List Record) (x : Record) (d : Dispatch) → begins x ≡ true → has_open (told h).stack ≡ false → (told (x ∷ h)).stack ≡ record { dispatch = d; closing = false } ∷ (told h).stack
    → Among (action_begun (told h) x) (told (x ∷ h)).actions → (event_begun (told h) x).what ≡ BeginOf d → (event_begun (told h) x).number ≡ length (told h).actions → d.begin ≡ length (told h).actions → Good table h → Good table (x ∷ h)
good_begin table h x d begin none same among what number at good =
    let b : Action = action_begun (told h) x in
    next_good table h x begin good (gathers_alone table (x ∷ h) b among (ap (since_of b.event.number) what ∙ number))
    (subst (Held table (x ∷ h) b) (sym same)
    (held_begun table (x ∷ h) b (record { dispatch = d; closing = false }) (told h).stack among (subst (λ w. IsWithin w d) (sym what) refl) at
    (λ s other before. held_on_none table (x ∷ h) s (told h).stack (no_open (told h).stack none))))

-- the running piece

runs_now : (h : List Record) (o : Open) → On o (told h).stack → Runs (told h).actions
runs_now h o on = let begun = open_begun h o on in runs_some (told h).actions begun.begin (actions_are_numbered h) begun.among

-- an inline dispatch begins
good_inline : (table : List (ℕ × Rule)) (h : List Record) (p y : ℕ) (n : List ℕ) → Good table h → Good table (Inline p y n ∷ h)
good_inline table h p y n good =
    let x : Record = Inline p y n in
    let b : Action = action_begun (told h) x in
    next_good table h x refl good (gathers_alone table (x ∷ h) b (inl refl) refl)
    (held_begun table (x ∷ h) b _ (told h).stack (inl refl) refl refl (λ s among before.
    let older = older_one h x s (length (told h).actions) (omega arith) among before in
    held_more table h x s (told h).stack (opens_below h) (good.held s older before)))

-- a handler runs
good_run : (table : List (ℕ × Rule)) (h : List Record) (p g y : ℕ) → misplaced (told h) (Run p g y) ≡ false → Good table h → Good table (Run p g y ∷ h)
good_run table h p g y placed good =
    next_good table h (Run p g y) refl good (gathers_alone table (Run p g y ∷ h) b (inl refl) (ap (since_of (length (told h).actions)) what))
    (subst (Held table (Run p g y ∷ h) b) (sym top.is) (level (subst (Held table (Run p g y ∷ h) runs.piece) top.is (held_more table h (Run p g y) runs.piece (told h).stack (opens_below h) (good.held runs.piece runs.among runs.last)))))
  where
    b : Action
    b = action_begun (told h) (Run p g y)

    top : Top false p (told h).stack
    top = top_is false p (told h).stack placed

    what : (event_begun (told h) (Run p g y)).what ≡ HandlerOf top.top.dispatch g y (maker_by (declares_handler y) (told h).entries)
    what = rw top.found refl

    runs : Runs (told h).actions
    runs = runs_now h top.top (top_on top)

    level : Held table (Run p g y ∷ h) runs.piece (top.top ∷ top.below) → Held table (Run p g y ∷ h) b (top.top ∷ top.below)
    level held = (
      λ still_open. (
        subst (λ w. IsWithin w top.top.dispatch) (sym what) refl,
        λ i from to. elim (number_cases i b.number to) [
          | inl less ↦ (held.0 still_open).1 i from (let last = runs.last in omega (arith, less, last))
          | inr same ↦ (b, inl refl, subst (λ w. IsWithin w top.top.dispatch) (sym what) refl, subst (λ k. path table (Run p g y ∷ h) k b.number ≡ true) (sym same) (action_stands table (Run p g y ∷ h) b (inl refl)))
        ],
      ),
      held.1,
    )

-- a job runs, on whatever stack
good_job : (table : List (ℕ × Rule)) (h : List Record) (j : ℕ) → Good table h → Good table (Job j ∷ h)
good_job table h j good = next_good table h (Job j) refl good (gathers_alone table (Job j ∷ h) b (inl refl) refl) (held (told h).stack refl)
  where
    b : Action
    b = action_begun (told h) (Job j)

    held : (s : List Open) → (told h).stack ≡ s → Held table (Job j ∷ h) b s
    held [] same = tt
    held (o ∷ rest) same = (
      λ still_open. (
        within,
        λ i from to. elim (number_cases i b.number to) [
          | inl less ↦ (level.0 still_open).1 i from (let last = runs.last in omega (arith, less, last))
          | inr at ↦ (b, inl refl, within, subst (λ k. path table (Job j ∷ h) k b.number ≡ true) (sym at) (action_stands table (Job j ∷ h) b (inl refl)))
        ],
      ),
      level.1,
    )
      where
        runs : Runs (told h).actions
        runs = runs_now h o (subst (On o) (sym same) (inl refl))

        level : Held table (Job j ∷ h) runs.piece (o ∷ rest)
        level = subst (Held table (Job j ∷ h) runs.piece) same (held_more table h (Job j) runs.piece (told h).stack (opens_below h) (good.held runs.piece runs.among runs.last))

        within : list_any (λ q. q == o.dispatch.number) (map (λ (p : Open). p.dispatch.number) (told h).stack) ≡ true
        within = ap (λ s. list_any (λ q. q == o.dispatch.number) (map (λ (p : Open). p.dispatch.number) s)) same ∙ or_left (o.dispatch.number == o.dispatch.number) _ (eq-eqb o.dispatch.number o.dispatch.number refl)

-- a close begins
good_close : (table : List (ℕ × Rule)) (h : List Record) (p : ℕ) → IsSteady table (Close p ∷ h) → misplaced (told h) (Close p) ≡ false → Good table h → Good table (Close p ∷ h)
good_close table h p steady placed good =
    next_good table h (Close p) refl good (close_gathers table (Close p ∷ h) steady b top.top.dispatch (inl refl) what refl (sym (longer h (Close p) refl)) (λ i from less. (held.0 top.closes).1 i from (let last = runs.last in omega (arith, less, last))))
    (subst (λ s. Held table (Close p ∷ h) b (stack_after s None (Close p))) (sym top.is) (step (is_inline top.top.dispatch) refl))
  where
    b : Action
    b = action_begun (told h) (Close p)

    top : Top false p (told h).stack
    top = top_is false p (told h).stack placed

    what : (event_begun (told h) (Close p)).what ≡ CloseOf top.top.dispatch
    what = rw top.found refl

    runs : Runs (told h).actions
    runs = runs_now h top.top (top_on top)

    held : Held table (Close p ∷ h) runs.piece (top.top ∷ top.below)
    held = subst (Held table (Close p ∷ h) runs.piece) top.is (held_more table h (Close p) runs.piece (told h).stack (opens_below h) (good.held runs.piece runs.among runs.last))

    step : (c : Bool) → is_inline top.top.dispatch ≡ c → Held table (Close p ∷ h) b (if c then record { dispatch = top.top.dispatch; closing = true } ∷ top.below else top.below)
    step true inline = ((λ still_open. absurd (cc)), held.1)
    step false plain = held_on_none table (Close p ∷ h) b top.below ((subst (Level (told h).actions (what_of (running (told h).actions))) top.is (levels h steady.named.1)).1 plain)

-- a piece goes on
good_back : (table : List (ℕ × Rule)) (h : List Record) (p : ℕ) → IsSteady table (Back p ∷ h) → misplaced (told h) (Back p) ≡ false → Good table h → Good table (Back p ∷ h)
good_back table h p steady placed good =
    next_good table h (Back p) refl good gathers
    (subst (λ s. Held table (Back p ∷ h) b (stack_after s None (Back p))) (sym back.on_top.is) (moved back.on_top.below held))
  where
    b : Action
    b = action_begun (told h) (Back p)

    back : Resumed h p
    back = resumed h p steady.named.1 placed

    s : Action
    s = back.caller.piece

    d : Dispatch
    d = back.on_top.top.dispatch

    runs : Runs (told h).actions
    runs = runs_now h back.on_top.top (top_on back.on_top)

    closed : runs.piece.event.what ≡ CloseOf d
    closed = ap what_of (sym runs.is) ∙ close_runs h steady.named.1 p back.on_top

    around : around_inline runs.piece (record { number = b.number; begin = Back p; event = b.event }) ≡ true
    around = ap (λ w. around_inline (record { number = runs.piece.number; begin = runs.piece.begin; event = record { number = runs.piece.event.number; what = w } }) (record { number = b.number; begin = Back p; event = b.event })) closed
        ∙ both (is_inline d) _ back.inline (eq-eqb d.number p back.on_top.number)

    last : path table (Back p ∷ h) runs.piece.number b.number ≡ true
    last =
        let next = runs.last in
        edge_path table (Back p ∷ h) runs.piece b (inr runs.among) (inl refl) (both (nat_lt runs.piece.number b.number) _ (less_is runs.piece.number b.number (omega (arith, next)))
        (or_right (is_ruled table (path table (Back p ∷ h)) runs.piece b) _ (or_left (around_inline runs.piece b) (of_one_event runs.piece b) around)))

    gathers : Gathers table (Back p ∷ h) b
    gathers = back_gathers table (Back p ∷ h) b s runs.piece d (inl refl) (inr back.caller.among) (inr runs.among) back.event back.caller.before closed runs.last
        (let lt = opens_below h back.on_top.top (top_on back.on_top) in let next = runs.last in omega (arith, lt, next))
        (gathers_more table h (Back p) s back.caller.among (good.gathers s back.caller.among)) (gathers_more table h (Back p) runs.piece runs.among (good.gathers runs.piece runs.among)) last

    held : Held table (Back p ∷ h) s back.on_top.below
    held = (subst (Held table (Back p ∷ h) runs.piece) back.on_top.is (held_more table h (Back p) runs.piece (told h).stack (opens_below h) (good.held runs.piece runs.among runs.last))).1 s (inr back.caller.among) back.caller.before

    -- what is within a dispatch gathers from its event on
    own : (w : What) (e : Dispatch) (n : ℕ) → IsWithin w e → since_of n w ≡ n
    own (BeginOf q) e n within = refl
    own (HandlerOf q g x m) e n within = refl
    own (JobRun j made around) e n within = refl
    own _ e n within = absurd within

    moved : (rest : List Open) → Held table (Back p ∷ h) s rest → Held table (Back p ∷ h) b rest
    moved [] held = tt
    moved (o ∷ rest) held = (
      λ still_open.
          let level = held.0 still_open in
          let within : IsWithin b.event.what o.dispatch = subst (λ (e : Event). IsWithin e.what o.dispatch) (sym back.event) level.0 in (
            within,
            λ i from to. elim (lt_or_le s.number i) [
              | inr le ↦ level.1 i from le
              | inl lt ↦
                  let up = event_before (told h).actions s (told_before h) back.caller.among in
                  let at = ap (λ (e : Event). e.number) back.event in
                  let is = own b.event.what o.dispatch b.event.number within in
                  (b, inl refl, within, gathers i (omega (arith, lt, up.1, at, is)) to)
            ],
          ),
      held.1,
    )

pub good : (table : List (ℕ × Rule)) (h : List Record) → IsSteady table h → Good table h
good table [] steady = record { gathers = λ a among. absurd among; held = λ a among. absurd among }
good table (x ∷ h) steady = by x steady (none_holds h x steady.named.0).placed (good table h (steady_before table x h steady))
  where
    by : (x : Record) → IsSteady table (x ∷ h) → misplaced (told h) x ≡ false → Good table h → Good table (x ∷ h)
    by (Parse d y k) steady placed before = good_top table h (Parse d y k) refl placed refl (inl refl) refl before
    by (ParseFrame d y f) steady placed before = good_top table h (ParseFrame d y f) refl placed refl (inl refl) refl before
    by (Exec y) steady placed before = good_top table h (Exec y) refl placed refl (inl refl) refl before
    by (Timer t) steady placed before = good_top table h (Timer t) refl placed refl (inl refl) refl before
    by (Message m) steady placed before = good_top table h (Message m) refl placed refl (inl refl) refl before
    by (Anim a) steady placed before = good_top table h (Anim a) refl placed refl (inl refl) refl before
    by (Job j) steady placed before = good_job table h j before
    by (Tick i) steady placed before = good_top table h (Tick i) refl placed refl (inl refl) refl before
    by (Dcl p c) steady placed before = good_begin table h (Dcl p c) _ refl placed refl (inl refl) refl refl refl before
    by (Load p c) steady placed before = good_begin table h (Load p c) _ refl placed refl (inl refl) refl refl refl before
    by (Eload p y) steady placed before = good_begin table h (Eload p y) _ refl placed refl (inl refl) refl refl refl before
    by (Fire p y n) steady placed before = good_begin table h (Fire p y n) _ refl placed refl (inl refl) refl refl refl before
    by (Wfire p c n) steady placed before = good_begin table h (Wfire p c n) _ refl placed refl (inl refl) refl refl refl before
    by (Reply p r) steady placed before = good_begin table h (Reply p r) _ refl placed refl (inl refl) refl refl refl before
    by (Inline p y n) steady placed before = good_inline table h p y n before
    by (Run p g y) steady placed before = good_run table h p g y placed before
    by (Close p) steady placed before = good_close table h p steady placed before
    by (Back p) steady placed before = good_back table h p steady placed before
    by _ steady placed before = record { gathers = before.gathers; held = before.held }
