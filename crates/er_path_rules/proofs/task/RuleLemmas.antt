-- From which events the rules of tasks lead to the one that a record begins. Lists of records stand
-- newest first.
use Rattle.std.proofs.Common.{◌≡◌, ℕ, ◌<◌, Bool, true, false, List, length, map, Option, Some, None, option_map, refl, sym, ap, ◌∙◌, arith}
use Rattle.std.specs.Prelude.{◌==◌, ◌&&◌, ◌||◌, not, nat_lt}
use Rattle.std.specs.List.{list_any}
use Rattle.std.proofs.lemmas.Bool.{eqb-true, eq-eqb, ne_eqb}
use Rattle.er_trace.specs.declared.record.Record.{Record}
use Rattle.er_trace.specs.declared.record.Record.TheVariants.{Timer, Tick, Close, Back, Message, Anim, Job}
use Rattle.er_history.specs.History as history
use Rattle.er_history.specs.History.{Task, Timeout, Dispatch, Open, What, TimeoutRun, TickRun, CloseOf, MessageRun, AnimRun, JobRun, Unnamed, Event, Action, told, find_open, maker_by, declares_interval, event_begun, action_begun}
use Rattle.er_history.specs.Edges.{path, up_to, is_ruled}
use Rattle.er_history.specs.Kinds.{is_job_within}
use Rattle.er_history.specs.Laws.{Among}
use Rattle.er_history.specs.LookUps.{timeout_made, maker_of_interval}
use Rattle.er_history.specs.Naming.{naming}
use Rattle.er_history.specs.Rules.{Rule, any_holds, task_rules}
use Rattle.er_history.specs.Sound.{out_of_order}
use Rattle.er_history.specs.Tasks.{OfMessage, OfAnim, OfJob, declares_task, task_made}
use Rattle.er_history.proofs.HistoryLemmas.{told_before, event_below}
use Rattle.er_history.proofs.MakersLemmas.{task_below}
use Rattle.er_history.proofs.NamedLemmas.{none_holds}
use Rattle.er_pieces.specs.Enough.{IsSteady}
use Rattle.er_pieces.proofs.ChainLemmas.{event_with}
use Rattle.er_pieces.proofs.NestedLaws.{nested_facts}
use Rattle.er_pieces.proofs.PathLemmas.{less_is}
use Rattle.er_pieces.proofs.StackLemmas.{top_is}
use Rattle.er_pieces.proofs.TaskLemmas.{enough_task}
use Rattle.er_path_rules.specs.task.Counts.{in_order}
use Rattle.er_path_rules.specs.task.Due.{is_earlier, is_job_of, maker_of, comes_before, due}

-- From an event that has begun, to one that begins: the rules that ask which was begun first do so
-- for nothing.
eight : (apart before : Bool) (a b c d e f g k : Bool) → apart ≡ true → before ≡ true
    → (apart && (a || ((before && b) || (c || ((before && d) || (e || ((before && f) || ((before && g) || ((before && k) || false)))))))))
    ≡ (a || (b || (c || (d || (e || (f || (g || (k || false))))))))
eight true true a b c d e f g k p q = refl
eight true false a b c d e f g k p q = absurd (cc)
eight false before a b c d e f g k p q = absurd (cc)

known : (p j : Bool) → p ≡ true → (p && j) ≡ j
known true j e = refl
known false j e = absurd (cc)

or_none : (b : Bool) → (b || false) ≡ b
or_none true = refl
or_none false = refl

-- what an event needs that a rule may lead from it
pub record IsOlder (n : ℕ) (u : Event) : Type 0 where
  pub apart : not (u.number == n) ≡ true
  pub before : nat_lt u.number n ≡ true

pub older : (h : List Record) (a : Action) → Among a (told h).actions → IsOlder (length (told h).actions) a.event
older h a among =
    let below = event_below (told h).actions a (told_before h) among in
    record {
      apart = ap not (ne_eqb a.event.number (length (told h).actions) (λ same. omega (arith, same, below)));
      before = less_is a.event.number (length (told h).actions) below;
    }

-- what was declared was so in an earlier piece
abbrev pub IsKnown : ℕ → Option Task → Type 0
IsKnown n made = (y : Task) → made ≡ Some y → y.piece < n

piece_known : (n : ℕ) (y : Task) → IsKnown n (Some y) → nat_lt y.piece n ≡ true
piece_known n y is = less_is y.piece n (is y refl)

same_maker : (m n : ℕ) → (m == n) ≡ (n == m)
same_maker m n = step (m == n) (n == m) refl refl
  where
    step : (b c : Bool) → (m == n) ≡ b → (n == m) ≡ c → (m == n) ≡ (n == m)
    step true c e f = e ∙ sym (eq-eqb n m (sym (eqb-true m n e)))
    step false true e f = eq-eqb m n (sym (eqb-true n m f)) ∙ sym f
    step false false e f = e ∙ sym f

-- the event of a message

-- the jobs of the event that declared it
to_declared : (x y : Task) → (y.maker == x.maker) ≡ (x.maker == y.maker)
to_declared x y = same_maker y.maker x.maker

first_two : (a b : Bool) → (a || (b || false)) ≡ ((a || b) || false)
first_two true b = refl
first_two false b = refl

first_and_last : (a g : Bool) → (a || (g || false)) ≡ ((a || false) || g)
first_and_last true g = refl
first_and_last false g = or_none g

pub message_is : (joined : ℕ → ℕ → Bool) (u : Event) (n m : ℕ) (made : Option Task) → IsOlder n u → IsKnown n made
    → any_holds task_rules (up_to n joined) u (event_with n (MessageRun m made)) ≡ (comes_before joined OfMessage made u || is_job_of (maker_of made) u)
message_is joined u n m made is known_ = by u.what made known_
  where
    by : (w : What) (made : Option Task) → IsKnown n made
        → any_holds task_rules (up_to n joined) (event_with u.number w) (event_with n (MessageRun m made)) ≡ (comes_before joined OfMessage made (event_with u.number w) || is_job_of (maker_of made) (event_with u.number w))
    by (MessageRun k (Some x)) (Some y) here =
        eight (not (u.number == n)) (nat_lt u.number n) (y.maker == u.number) (nat_lt x.place y.place && (nat_lt y.piece n && joined x.piece y.piece)) false false false false false false is.apart is.before
        ∙ (ap (λ j. (y.maker == u.number) || ((nat_lt x.place y.place && j) || false)) (known (nat_lt y.piece n) (joined x.piece y.piece) (piece_known n y here))
        ∙ first_two (y.maker == u.number) (nat_lt x.place y.place && joined x.piece y.piece))
    by (MessageRun k None) (Some y) here = eight (not (u.number == n)) (nat_lt u.number n) (y.maker == u.number) false false false false false false false is.apart is.before ∙ first_two (y.maker == u.number) false
    by (MessageRun k (Some x)) None here = eight (not (u.number == n)) (nat_lt u.number n) false false false false false false false false is.apart is.before
    by (MessageRun k None) None here = eight (not (u.number == n)) (nat_lt u.number n) false false false false false false false false is.apart is.before
    by (JobRun k (Some x) within) (Some y) here =
        eight (not (u.number == n)) (nat_lt u.number n) (y.maker == u.number) false false false false false (y.maker == x.maker) false is.apart is.before
        ∙ (ap (λ g. (y.maker == u.number) || (g || false)) (to_declared x y) ∙ first_and_last (y.maker == u.number) (x.maker == y.maker))
    by (JobRun k None within) (Some y) here = eight (not (u.number == n)) (nat_lt u.number n) (y.maker == u.number) false false false false false false false is.apart is.before ∙ first_two (y.maker == u.number) false
    by (JobRun k (Some x) within) None here = eight (not (u.number == n)) (nat_lt u.number n) false false false false false false false false is.apart is.before
    by (JobRun k None within) None here = eight (not (u.number == n)) (nat_lt u.number n) false false false false false false false false is.apart is.before
    by _ (Some y) here = eight (not (u.number == n)) (nat_lt u.number n) (y.maker == u.number) false false false false false false false is.apart is.before ∙ first_two (y.maker == u.number) false
    by _ None here = eight (not (u.number == n)) (nat_lt u.number n) false false false false false false false false is.apart is.before

pub anim_is : (joined : ℕ → ℕ → Bool) (u : Event) (n a : ℕ) (made : Option Task) → IsOlder n u → IsKnown n made
    → any_holds task_rules (up_to n joined) u (event_with n (AnimRun a made)) ≡ (comes_before joined OfAnim made u || is_job_of (maker_of made) u)
anim_is joined u n a made is known_ = by u.what made known_
  where
    by : (w : What) (made : Option Task) → IsKnown n made
        → any_holds task_rules (up_to n joined) (event_with u.number w) (event_with n (AnimRun a made)) ≡ (comes_before joined OfAnim made (event_with u.number w) || is_job_of (maker_of made) (event_with u.number w))
    by (AnimRun k (Some x)) (Some y) here =
        eight (not (u.number == n)) (nat_lt u.number n) false false (y.maker == u.number) (nat_lt x.place y.place && (nat_lt y.piece n && joined x.piece y.piece)) false false false false is.apart is.before
        ∙ (ap (λ j. (y.maker == u.number) || ((nat_lt x.place y.place && j) || false)) (known (nat_lt y.piece n) (joined x.piece y.piece) (piece_known n y here))
        ∙ first_two (y.maker == u.number) (nat_lt x.place y.place && joined x.piece y.piece))
    by (AnimRun k None) (Some y) here = eight (not (u.number == n)) (nat_lt u.number n) false false (y.maker == u.number) false false false false false is.apart is.before ∙ first_two (y.maker == u.number) false
    by (AnimRun k (Some x)) None here = eight (not (u.number == n)) (nat_lt u.number n) false false false false false false false false is.apart is.before
    by (AnimRun k None) None here = eight (not (u.number == n)) (nat_lt u.number n) false false false false false false false false is.apart is.before
    by (JobRun k (Some x) within) (Some y) here =
        eight (not (u.number == n)) (nat_lt u.number n) false false (y.maker == u.number) false false false (y.maker == x.maker) false is.apart is.before
        ∙ (ap (λ g. (y.maker == u.number) || (g || false)) (to_declared x y) ∙ first_and_last (y.maker == u.number) (x.maker == y.maker))
    by (JobRun k None within) (Some y) here = eight (not (u.number == n)) (nat_lt u.number n) false false (y.maker == u.number) false false false false false is.apart is.before ∙ first_two (y.maker == u.number) false
    by (JobRun k (Some x) within) None here = eight (not (u.number == n)) (nat_lt u.number n) false false false false false false false false is.apart is.before
    by (JobRun k None within) None here = eight (not (u.number == n)) (nat_lt u.number n) false false false false false false false false is.apart is.before
    by _ (Some y) here = eight (not (u.number == n)) (nat_lt u.number n) false false (y.maker == u.number) false false false false false is.apart is.before ∙ first_two (y.maker == u.number) false
    by _ None here = eight (not (u.number == n)) (nat_lt u.number n) false false false false false false false false is.apart is.before

pub job_is : (joined : ℕ → ℕ → Bool) (u : Event) (n j : ℕ) (made : Option Task) (around : List ℕ) → IsOlder n u → IsKnown n made
    → any_holds task_rules (up_to n joined) u (event_with n (JobRun j made around)) ≡ comes_before joined OfJob made u
job_is joined u n j made around is known_ = by u.what made known_
  where
    by : (w : What) (made : Option Task) → IsKnown n made
        → any_holds task_rules (up_to n joined) (event_with u.number w) (event_with n (JobRun j made around)) ≡ comes_before joined OfJob made (event_with u.number w)
    by (JobRun k (Some x) within) (Some y) here =
        eight (not (u.number == n)) (nat_lt u.number n) false false false false (y.maker == u.number) (nat_lt x.place y.place && (nat_lt y.piece n && joined x.piece y.piece)) false false is.apart is.before
        ∙ (ap (λ j. (y.maker == u.number) || ((nat_lt x.place y.place && j) || false)) (known (nat_lt y.piece n) (joined x.piece y.piece) (piece_known n y here))
        ∙ ap (λ b. (y.maker == u.number) || b) (or_none (nat_lt x.place y.place && joined x.piece y.piece)))
    by (JobRun k None within) (Some y) here = eight (not (u.number == n)) (nat_lt u.number n) false false false false (y.maker == u.number) false false false is.apart is.before
    by (JobRun k (Some x) within) None here = eight (not (u.number == n)) (nat_lt u.number n) false false false false false false false false is.apart is.before
    by (JobRun k None within) None here = eight (not (u.number == n)) (nat_lt u.number n) false false false false false false false false is.apart is.before
    by _ (Some y) here = eight (not (u.number == n)) (nat_lt u.number n) false false false false (y.maker == u.number) false false false is.apart is.before
    by _ None here = eight (not (u.number == n)) (nat_lt u.number n) false false false false false false false false is.apart is.before

abbrev set_by : Option Timeout → Option ℕ
set_by made = option_map (λ (x : Timeout). x.maker) made

pub timer_is : (joined : ℕ → ℕ → Bool) (u : Event) (n t : ℕ) (made : Option Timeout) → IsOlder n u → any_holds task_rules (up_to n joined) u (event_with n (TimeoutRun t made)) ≡ is_job_of (set_by made) u
timer_is joined u n t made is = by u.what made
  where
    by : (w : What) (made : Option Timeout) → any_holds task_rules (up_to n joined) (event_with u.number w) (event_with n (TimeoutRun t made)) ≡ is_job_of (set_by made) (event_with u.number w)
    by (JobRun k (Some x) within) (Some y) = eight (not (u.number == n)) (nat_lt u.number n) false false false false false false (y.maker == x.maker) false is.apart is.before ∙ (or_none (y.maker == x.maker) ∙ same_maker y.maker x.maker)
    by (JobRun k None within) (Some y) = eight (not (u.number == n)) (nat_lt u.number n) false false false false false false false false is.apart is.before
    by (JobRun k (Some x) within) None = eight (not (u.number == n)) (nat_lt u.number n) false false false false false false false false is.apart is.before
    by (JobRun k None within) None = eight (not (u.number == n)) (nat_lt u.number n) false false false false false false false false is.apart is.before
    by _ (Some y) = eight (not (u.number == n)) (nat_lt u.number n) false false false false false false false false is.apart is.before
    by _ None = eight (not (u.number == n)) (nat_lt u.number n) false false false false false false false false is.apart is.before

pub tick_is : (joined : ℕ → ℕ → Bool) (u : Event) (n i : ℕ) (maker : Option ℕ) → IsOlder n u → any_holds task_rules (up_to n joined) u (event_with n (TickRun i maker)) ≡ is_job_of maker u
tick_is joined u n i maker is = by u.what maker
  where
    by : (w : What) (maker : Option ℕ) → any_holds task_rules (up_to n joined) (event_with u.number w) (event_with n (TickRun i maker)) ≡ is_job_of maker (event_with u.number w)
    by (JobRun k (Some x) within) (Some m) = eight (not (u.number == n)) (nat_lt u.number n) false false false false false false (m == x.maker) false is.apart is.before ∙ (or_none (m == x.maker) ∙ same_maker m x.maker)
    by (JobRun k None within) (Some m) = eight (not (u.number == n)) (nat_lt u.number n) false false false false false false false false is.apart is.before
    by (JobRun k (Some x) within) None = eight (not (u.number == n)) (nat_lt u.number n) false false false false false false false false is.apart is.before
    by (JobRun k None within) None = eight (not (u.number == n)) (nat_lt u.number n) false false false false false false false false is.apart is.before
    by _ (Some m) = eight (not (u.number == n)) (nat_lt u.number n) false false false false false false false false is.apart is.before
    by _ None = eight (not (u.number == n)) (nat_lt u.number n) false false false false false false false false is.apart is.before

pub close_is : (joined : ℕ → ℕ → Bool) (u : Event) (n : ℕ) (d : Dispatch) → IsOlder n u → any_holds task_rules (up_to n joined) u (event_with n (CloseOf d)) ≡ is_job_within d.number u
close_is joined u n d is = by u.what
  where
    by : (w : What) → any_holds task_rules (up_to n joined) (event_with u.number w) (event_with n (CloseOf d)) ≡ is_job_within d.number (event_with u.number w)
    by (JobRun k (Some x) within) = eight (not (u.number == n)) (nat_lt u.number n) false false false false false false false (list_any (λ q. q == d.number) within) is.apart is.before ∙ or_none (list_any (λ q. q == d.number) within)
    by (JobRun k None within) = eight (not (u.number == n)) (nat_lt u.number n) false false false false false false false (list_any (λ q. q == d.number) within) is.apart is.before ∙ or_none (list_any (λ q. q == d.number) within)
    by _ = eight (not (u.number == n)) (nat_lt u.number n) false false false false false false false false is.apart is.before

-- for each form of record

pub made_known : (h : List Record) (test : Record → Bool) → IsKnown (length (told h).actions) (history.first_to (history.makes_task test) (told h).entries)
made_known h test y e = (task_below h test y e).1

abbrev closed : Option Dispatch → What
closed None = Unnamed
closed (Some d) = CloseOf d

not_ruled : (b : Bool) → (b ≡ true → false ≡ true) → b ≡ false
not_ruled true f = sym (f refl)
not_ruled false f = refl

-- A rule leads from an event to that which the record begins exactly where it comes before it.
abbrev pub IsDue : List (ℕ × Rule) → List Record → Record → Type 0
IsDue table h (Back p) = Unit {0}
IsDue table h x = (a : Action) → Among a (told h).actions → is_ruled task_rules (path table h) a (action_begun (told h) x) ≡ due (path table h) h x a.event

pub due_is : (table : List (ℕ × Rule)) (h : List Record) (x : Record) → IsSteady table h → naming h x ≡ None → out_of_order table h x ≡ false → IsDue table h x
due_is table h (Message m) steady named ordered = λ a among. message_is (path table h) a.event (length (told h).actions) m (task_made OfMessage h m) (older h a among) (made_known h (declares_task OfMessage m))
due_is table h (Anim k) steady named ordered = λ a among. anim_is (path table h) a.event (length (told h).actions) k (task_made OfAnim h k) (older h a among) (made_known h (declares_task OfAnim k))
due_is table h (Job j) steady named ordered = λ a among.
    job_is (path table h) a.event (length (told h).actions) j (task_made OfJob h j) (map (λ (o : Open). o.dispatch.number) (told h).stack) (older h a among) (made_known h (declares_task OfJob j))
due_is table h (Timer t) steady named ordered = λ a among. timer_is (path table h) a.event (length (told h).actions) t (timeout_made h t) (older h a among)
due_is table h (Tick i) steady named ordered = λ a among. tick_is (path table h) a.event (length (told h).actions) i (maker_of_interval h i) (older h a among)
due_is table h (Close p) steady named ordered = λ a among. let top = top_is false p (told h).stack (none_holds h (Close p) named).placed in
    ap (λ o. any_holds task_rules (up_to (length (told h).actions) (path table h)) a.event (event_with (length (told h).actions) (closed o))) top.found
    ∙ (close_is (path table h) a.event (length (told h).actions) top.top.dispatch (older h a among) ∙ ap (λ q. is_job_within q a.event) top.number)
due_is table h (Back p) steady named ordered = tt
due_is table h x steady named ordered = λ a among. not_ruled (is_ruled task_rules (path table h) a (action_begun (told h) x)) (enough_task table (nested_facts table) h x steady named ordered a among)

-- the count by rules 25, 27 and 29

three : (before : Bool) (b d f : Bool) → before ≡ true → ((before && b) || ((before && d) || (before && f))) ≡ (b || (d || f))
three true b d f e = refl
three false b d f e = absurd (cc)

pub messages_counted : (joined : ℕ → ℕ → Bool) (u : Event) (n m : ℕ) (made : Option Task) → IsOlder n u → IsKnown n made → in_order (up_to n joined) u (event_with n (MessageRun m made)) ≡ is_earlier joined OfMessage made u
messages_counted joined u n m made is known_ = by u.what made known_
  where
    by : (w : What) (made : Option Task) → IsKnown n made → in_order (up_to n joined) (event_with u.number w) (event_with n (MessageRun m made)) ≡ is_earlier joined OfMessage made (event_with u.number w)
    by (MessageRun k (Some x)) (Some y) here =
        three (nat_lt u.number n) (nat_lt x.place y.place && (nat_lt y.piece n && joined x.piece y.piece)) false false is.before
        ∙ (or_none (nat_lt x.place y.place && (nat_lt y.piece n && joined x.piece y.piece)) ∙ ap (λ j. nat_lt x.place y.place && j) (known (nat_lt y.piece n) (joined x.piece y.piece) (piece_known n y here)))
    by (MessageRun k None) (Some y) here = three (nat_lt u.number n) false false false is.before
    by (MessageRun k (Some x)) None here = three (nat_lt u.number n) false false false is.before
    by (MessageRun k None) None here = three (nat_lt u.number n) false false false is.before
    by _ (Some y) here = three (nat_lt u.number n) false false false is.before
    by _ None here = three (nat_lt u.number n) false false false is.before

pub anims_counted : (joined : ℕ → ℕ → Bool) (u : Event) (n a : ℕ) (made : Option Task) → IsOlder n u → IsKnown n made → in_order (up_to n joined) u (event_with n (AnimRun a made)) ≡ is_earlier joined OfAnim made u
anims_counted joined u n a made is known_ = by u.what made known_
  where
    by : (w : What) (made : Option Task) → IsKnown n made → in_order (up_to n joined) (event_with u.number w) (event_with n (AnimRun a made)) ≡ is_earlier joined OfAnim made (event_with u.number w)
    by (AnimRun k (Some x)) (Some y) here =
        three (nat_lt u.number n) false (nat_lt x.place y.place && (nat_lt y.piece n && joined x.piece y.piece)) false is.before
        ∙ (or_none (nat_lt x.place y.place && (nat_lt y.piece n && joined x.piece y.piece)) ∙ ap (λ j. nat_lt x.place y.place && j) (known (nat_lt y.piece n) (joined x.piece y.piece) (piece_known n y here)))
    by (AnimRun k None) (Some y) here = three (nat_lt u.number n) false false false is.before
    by (AnimRun k (Some x)) None here = three (nat_lt u.number n) false false false is.before
    by (AnimRun k None) None here = three (nat_lt u.number n) false false false is.before
    by _ (Some y) here = three (nat_lt u.number n) false false false is.before
    by _ None here = three (nat_lt u.number n) false false false is.before

pub jobs_counted : (joined : ℕ → ℕ → Bool) (u : Event) (n j : ℕ) (made : Option Task) (around : List ℕ) → IsOlder n u → IsKnown n made → in_order (up_to n joined) u (event_with n (JobRun j made around)) ≡ is_earlier joined OfJob made u
jobs_counted joined u n j made around is known_ = by u.what made known_
  where
    by : (w : What) (made : Option Task) → IsKnown n made → in_order (up_to n joined) (event_with u.number w) (event_with n (JobRun j made around)) ≡ is_earlier joined OfJob made (event_with u.number w)
    by (JobRun k (Some x) within) (Some y) here =
        three (nat_lt u.number n) false false (nat_lt x.place y.place && (nat_lt y.piece n && joined x.piece y.piece)) is.before
        ∙ ap (λ j. nat_lt x.place y.place && j) (known (nat_lt y.piece n) (joined x.piece y.piece) (piece_known n y here))
    by (JobRun k None within) (Some y) here = three (nat_lt u.number n) false false false is.before
    by (JobRun k (Some x) within) None here = three (nat_lt u.number n) false false false is.before
    by (JobRun k None within) None here = three (nat_lt u.number n) false false false is.before
    by _ (Some y) here = three (nat_lt u.number n) false false false is.before
    by _ None here = three (nat_lt u.number n) false false false is.before
