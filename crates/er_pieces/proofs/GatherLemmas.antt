-- From its event on, for a close from the begin of its dispatch on, every action joins a piece.
-- Lists of records stand newest first.
use Rattle.std.proofs.Common.{◌≡◌, ℕ, ◌+◌, ◌<◌, ◌≤◌, Bool, true, false, List, [], ◌∷◌, length, Option, refl, sym, ap, subst, ◌∙◌, arith, inl, inr, ◌⊎◌}
use Rattle.er_trace.specs.declared.record.Record.{Record}
use Rattle.er_paths.proofs.Paths.{or_left, or_right, place_cases}
use Rattle.std.specs.Prelude.{◌==◌}
use Rattle.std.specs.List.{list_any}
use Rattle.er_history.specs.History.{Task, Dispatch, What, BeginOf, HandlerOf, CloseOf, JobRun, Event, Action, Open, told}
use Rattle.er_history.specs.Rules.{Rule, any_holds, recorded, task_rules, post_before_message, messages_in_order, ask_before_anim, anims_in_order, queue_before_job, jobs_in_order, jobs_before_callbacks, jobs_before_close}
use Rattle.er_history.specs.Edges.{path}
use Rattle.er_history.specs.Laws.{Among}
use Rattle.er_pieces.specs.Enough.{IsSteady}
use Rattle.er_history.proofs.HistoryLemmas.{actions_are_numbered, among_below, same_action, paths_stay, told_before, event_before}
use Rattle.er_history.proofs.HandedLemmas.{action_stands}
use Rattle.er_pieces.proofs.StackLemmas.{On}
use Rattle.er_pieces.proofs.CallerLemmas.{among_more, among_cases}
use Rattle.er_pieces.proofs.PathLemmas.{both, less_is, path_on, piece_path, ruled_path}
use Rattle.er_pieces.proofs.ChainLemmas.{event_with, one_holds}
use Rattle.er_pieces.proofs.ServeLemmas.{begin_path, serves_close, handler_to_close}

abbrev pub since_of : ℕ → What → ℕ
since_of n (CloseOf d) = d.begin
since_of n _ = n

abbrev pub since : Event → ℕ
since e = since_of e.number e.what

-- every action since then joins the piece
abbrev pub Gathers : List (ℕ × Rule) → List Record → Action → Type 0
Gathers table h a = (i : ℕ) → since a.event ≤ i → i ≤ a.number → path table h i a.number ≡ true

-- the begin or a handler of the dispatch, or a job that began while it was on the stack
abbrev pub IsWithin : What → Dispatch → Type 0
IsWithin (BeginOf q) d = q ≡ d
IsWithin (HandlerOf q g x m) d = q ≡ d
IsWithin (JobRun j made within) d = list_any (λ q. q == d.number) within ≡ true
IsWithin _ d = ⊥

-- i joins one
abbrev pub Served : List (ℕ × Rule) → List Record → Dispatch → ℕ → Type 0
Served table h d i = (c : Action) × Among c (told h).actions × IsWithin c.event.what d × (path table h i c.number ≡ true)

-- level by level: before the close of a dispatch each action since its begin joins its begin, a
-- handler or a job within
abbrev pub Held : List (ℕ × Rule) → List Record → Action → List Open → Type 0
Held table h a [] = Unit {0}
Held table h a (o ∷ rest) = (o.closing ≡ false → IsWithin a.event.what o.dispatch × ((i : ℕ) → o.dispatch.begin ≤ i → i ≤ a.number → Served table h o.dispatch i))
    × ((s : Action) → Among s (told h).actions → s.number + 1 ≡ o.dispatch.begin → Held table h s rest)

pub record Good (table : List (ℕ × Rule)) (h : List Record) : Type 0 where
  pub gathers : (a : Action) → Among a (told h).actions → Gathers table h a
  pub held : (a : Action) → Among a (told h).actions → a.number + 1 ≡ length (told h).actions → Held table h a (told h).stack

-- a record more

pub steady_before : (table : List (ℕ × Rule)) (x : Record) (h : List Record) → IsSteady table (x ∷ h) → IsSteady table h
steady_before table x h is = record { has = is.has; named = is.named.1; ordered = is.ordered.1 }

pub still : (table : List (ℕ × Rule)) (h : List Record) (x : Record) (i j : ℕ) → j < length (told h).actions → path table h i j ≡ true → path table (x ∷ h) i j ≡ true
still table h x i j below e = paths_stay table (x ∷ []) h i j below ∙ e

pub served_more : (table : List (ℕ × Rule)) (h : List Record) (x : Record) (d : Dispatch) (i : ℕ) → Served table h d i → Served table (x ∷ h) d i
served_more table h x d i is = (is.0, among_more h x is.0 is.1, is.2, still table h x i is.0.number (among_below (told h).actions is.0 (actions_are_numbered h) is.1) is.3)

-- an action before the begin of an open dispatch is not the newest
pub older_one : (h : List Record) (x : Record) (s : Action) (b : ℕ) → b ≤ length (told h).actions → Among s (told (x ∷ h)).actions → s.number + 1 ≡ b → Among s (told h).actions
older_one h x s b le among before =
    elim (among_cases h x s among) [
      | inl now ↦ absurd (let at = ap (λ (c : Action). c.number) now.1 in omega (arith, at, le, before))
      | inr older ↦ older
    ]

pub held_more : (table : List (ℕ × Rule)) (h : List Record) (x : Record) (a : Action) (stack : List Open) → ((o : Open) → On o stack → o.dispatch.begin < length (told h).actions) → Held table h a stack → Held table (x ∷ h) a stack
held_more table h x a [] below held = tt
held_more table h x a (o ∷ rest) below held = (
  λ still_open. let level = held.0 still_open in (level.0, λ i from to. served_more table h x o.dispatch i (level.1 i from to)),
  λ s among before.
      let lt = below o (inl refl) in
      held_more table h x s rest (λ q on. below q (inr on)) (held.1 s (older_one h x s o.dispatch.begin (omega (arith, lt)) among before) before),
)

-- the piece with a number
just_one : (h : List Record) (a b : Action) → Among a (told h).actions → Among b (told h).actions → a.number ≡ b.number → a ≡ b
just_one h a b first second same = same_action (told h).actions a b (actions_are_numbered h) first second same

pub number_cases : (i n : ℕ) → i ≤ n → (i < n) ⊎ (i ≡ n)
number_cases i n le =
    elim (place_cases i n) [
      | inl lt ↦ inl lt
      | inr rest ↦ elim rest [
        | inl same ↦ inr same
        | inr more ↦ absurd (omega (arith, le, more))
      ]
    ]

-- a piece that begins its event, and no close, gathers
pub gathers_alone : (table : List (ℕ × Rule)) (h : List Record) (b : Action) → Among b (told h).actions → since b.event ≡ b.number → Gathers table h b
gathers_alone table h b among own i from to = let same : i ≡ b.number = omega (arith, from, to, own) in subst (λ n. path table h n b.number ≡ true) (sym same) (action_stands table h b among)

-- on a stack with one open dispatch that begins now
pub held_begun : (table : List (ℕ × Rule)) (h : List Record) (b : Action) (o : Open) (rest : List Open) → Among b (told h).actions → IsWithin b.event.what o.dispatch → o.dispatch.begin ≡ b.number
    → ((s : Action) → Among s (told h).actions → s.number + 1 ≡ o.dispatch.begin → Held table h s rest) → Held table h b (o ∷ rest)
held_begun table h b o rest among within at under = (
  λ open_now. (within, λ i from to. let same : i ≡ b.number = omega (arith, from, to, at) in (b, among, within, subst (λ n. path table h n b.number ≡ true) (sym same) (action_stands table h b among))),
  under,
)

-- the close

-- rule 31 is one of the group
job_leads : (joined : ℕ → ℕ → Bool) (u v : Event) (j : ℕ) (made : Option Task) (within : List ℕ) (d : Dispatch) → u.number < v.number → u.what ≡ JobRun j made within → v.what ≡ CloseOf d
    → list_any (λ q. q == d.number) within ≡ true → any_holds task_rules joined u v ≡ true
job_leads joined u v j made within d before is also on =
    one_holds task_rules joined u v (λ same. absurd (omega (arith, same, before)))
    (or_right (post_before_message joined u v) _ (or_right (messages_in_order joined u v) _ (or_right (ask_before_anim joined u v) _ (or_right (anims_in_order joined u v) _
    (or_right (queue_before_job joined u v) _ (or_right (jobs_in_order joined u v) _ (or_right (jobs_before_callbacks joined u v) _ (or_left (jobs_before_close joined u v) false
    (ap (λ w. jobs_before_close joined (event_with u.number w) v) is
    ∙ (ap (λ w. jobs_before_close joined (event_with u.number (JobRun j made within)) (event_with v.number w)) also
    ∙ both (recorded u v) _ (less_is u.number v.number before) on))))))))))

-- a job within a dispatch leads to the close, which begins now
job_to_close : (table : List (ℕ × Rule)) (h : List Record) → IsSteady table h → (c b : Action) (d : Dispatch) (j : ℕ) (made : Option Task) (within : List ℕ) → Among c (told h).actions → Among b (told h).actions
    → c.event.what ≡ JobRun j made within → b.event.what ≡ CloseOf d → list_any (λ q. q == d.number) within ≡ true → b.event.number ≡ b.number → b.number + 1 ≡ length (told h).actions → path table h c.number b.number ≡ true
job_to_close table h steady c b d j made within first last is also on own newest =
    elim (number_cases c.number b.number (let below = among_below (told h).actions c (actions_are_numbered h) first in omega (arith, below, newest))) [
      | inl less ↦
          let up = event_before (told h).actions c (told_before h) first in
          ruled_path table task_rules h c b steady.has.tasks first last less (λ joined. job_leads joined c.event b.event j made within d (omega (arith, less, up.1, own)) is also on)
      | inr same ↦
          let one = just_one h c b first last same in
          absurd (two (sym is ∙ (ap (λ (e : Action). e.event.what) one ∙ also)))
    ]
  where
    two : JobRun j made within ≡ CloseOf d → ⊥
    two f = cc

pub close_gathers : (table : List (ℕ × Rule)) (h : List Record) → IsSteady table h → (b : Action) (d : Dispatch) → Among b (told h).actions → b.event.what ≡ CloseOf d → b.event.number ≡ b.number → b.number + 1 ≡ length (told h).actions
    → ((i : ℕ) → d.begin ≤ i → i < b.number → Served table h d i) → Gathers table h b
close_gathers table h steady b d among is own newest served i from to =
    elim (number_cases i b.number to) [
      | inl less ↦
          let one = served i (subst (λ w. since_of b.event.number w ≤ i) is from) less in
          path_on table h i one.0.number b.number one.3 (by one.0.event.what refl one.0 one.1 one.2)
      | inr same ↦ subst (λ n. path table h n b.number ≡ true) (sym same) (action_stands table h b among)
    ]
  where
    by : (w : What) → (w ≡ w) → (c : Action) → Among c (told h).actions → IsWithin c.event.what d → path table h c.number b.number ≡ true
    by w e c other within = of c.event.what refl within
      where
        of : (z : What) → c.event.what ≡ z → IsWithin z d → path table h c.number b.number ≡ true
        of (BeginOf q) what same = begin_path table h steady c b q d other among what (serves_close _ d is) (ap (λ (p : Dispatch). p.number) same)
        of (HandlerOf q g x m) what same = handler_to_close table h steady c b q d g x m other among what is (ap (λ (p : Dispatch). p.number) same)
        of (JobRun j made within) what on = job_to_close table h steady c b d j made within other among what is on own newest
        of _ what same = absurd same

-- a piece that goes on, behind the close of the dispatch that it called
pub back_gathers : (table : List (ℕ × Rule)) (h : List Record) (b s r : Action) (d : Dispatch) → Among b (told h).actions → Among s (told h).actions → Among r (told h).actions
    → b.event ≡ s.event → s.number + 1 ≡ d.begin → r.event.what ≡ CloseOf d → r.number + 1 ≡ b.number → d.begin ≤ r.number → Gathers table h s → Gathers table h r → path table h r.number b.number ≡ true → Gathers table h b
back_gathers table h b s r d among called closed event before is next le first second last i from to =
    elim (number_cases i b.number to) [
      | inr same ↦ subst (λ n. path table h n b.number ≡ true) (sym same) (action_stands table h b among)
      | inl less ↦ elim (place_cases i d.begin) [
        | inl under ↦
            path_on table h i s.number b.number (first i (subst (λ (e : Event). since e ≤ i) event from) (omega (arith, under, before)))
            (piece_path table h s b called among (ap (λ (e : Event). e.number) (sym event)) (omega (arith, before, le, next)))
        | inr rest ↦
            let since_begin : d.begin ≤ i = elim rest [
              | inl same ↦ omega (arith, same)
              | inr more ↦ omega (arith, more)
            ] in
            path_on table h i r.number b.number (second i (subst (λ w. since_of r.event.number w ≤ i) (sym is) since_begin) (omega (arith, less, next))) last
      ]
    ]
