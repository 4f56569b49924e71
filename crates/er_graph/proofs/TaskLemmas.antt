-- A version that has no records of tasks hands none by their rules. Lists of records
-- stand newest first.
use Rattle.std.proofs.Common.{◌≡◌, ℕ, Bool, true, false, List, [], ◌∷◌, ◌++◌, refl, sym, ap, ◌∙◌, inl, inr, append-nil}
use Rattle.std.specs.Prelude.{◌==◌, ◌||◌, not, if◌then◌else◌}
use Rattle.std.specs.List.{list_any}
use Rattle.er_trace.specs.declared.record.Record.{Record}
use Rattle.er_trace.specs.declared.record.Record.TheVariants.{Timer, Tick, Close, Message, Anim, Job}
use Rattle.er_trace.specs.declared.version.Version.{Version}
use Rattle.er_trace.specs.Versions.{is_of_task, has_tasks}
use Rattle.er_history.specs.History.{Event, Action, told, event_begun, action_begun}
use Rattle.er_history.specs.Edges.{path, up_to}
use Rattle.er_history.specs.Handed.{HasHanded}
use Rattle.er_history.specs.Latest.{latest_of_event, latest_among}
use Rattle.er_history.specs.Laws.{Among}
use Rattle.er_history.specs.Rules.{Rule, any_holds, task_rules}
use Rattle.er_history.proofs.OrderLemmas.{not_both}
use Rattle.er_history.proofs.TaskLemmas.{tasks_are_of_version_three}
use Rattle.er_pieces.specs.Contract.{ComesNext}
use Rattle.er_pieces.specs.HandedPieces.{task_handed, tasks_before}
use Rattle.er_pieces.proofs.ContractLemmas.{steady_by}
use Rattle.er_pieces.proofs.NestedLaws.{nested_facts}
use Rattle.er_pieces.proofs.TaskLemmas.{hands_task}
use Rattle.er_graph.specs.Accepted.{AreOf}

-- no record of a task

none_of : (b c : Bool) → c ≡ false → (not b || c) ≡ true → b ≡ false
none_of true c e f = absurd (cc)
none_of false c e f = refl

pub none_is_task : (v : Version) (h : List Record) → has_tasks v ≡ false → AreOf v h → list_any is_of_task h ≡ false
none_is_task v [] none are = refl
none_is_task v (x ∷ h) none are = (λ i. none_of (is_of_task x) (has_tasks v) none are.0 i || none_is_task v h none are.1 i)

-- so none is handed

none_latest : (test : Event → Bool) (all actions : List Action) → ((a : Action) → Among a actions → test a.event ≡ false) → latest_among test all actions ≡ []
none_latest test all [] none = refl
none_latest test all (a ∷ older) none =
    ap (λ b. if b then latest_of_event a.event.number all ++ latest_among test all older else latest_among test all older) (not_both (a.number == a.event.number) (test a.event) (none a (inl refl)))
    ∙ none_latest test all older (λ b among. none b (inr among))

none_before : (joined : ℕ → ℕ → Bool) (h : List Record) (x : Record) → Among (action_begun (told h) x) (told (x ∷ h)).actions → ((a : Action) → Among a (told h).actions → Among a (told (x ∷ h)).actions) → list_any is_of_task (x ∷ h) ≡ false
    → tasks_before joined (told h) (event_begun (told h) x) ≡ []
none_before joined h x new stay none =
    none_latest (λ (u : Event). any_holds task_rules (up_to (event_begun (told h) x).number joined) u (event_begun (told h) x)) (told h).actions (told h).actions
    (λ a among. tasks_are_of_version_three (x ∷ h) (up_to (event_begun (told h) x).number joined) a (action_begun (told h) x) none (stay a among) new)

pub none_handed : (joined : ℕ → ℕ → Bool) (h : List Record) (x : Record) → list_any is_of_task (x ∷ h) ≡ false → task_handed joined (told h) x ≡ []
none_handed joined h (Message m) none = none_before joined h (Message m) (inl refl) (λ a among. inr among) none
none_handed joined h (Anim a) none = none_before joined h (Anim a) (inl refl) (λ b among. inr among) none
none_handed joined h (Job j) none = none_before joined h (Job j) (inl refl) (λ a among. inr among) none
none_handed joined h (Timer t) none = none_before joined h (Timer t) (inl refl) (λ a among. inr among) none
none_handed joined h (Tick i) none = none_before joined h (Tick i) (inl refl) (λ a among. inr among) none
none_handed joined h (Close p) none = none_before joined h (Close p) (inl refl) (λ a among. inr among) none
none_handed joined h x none = refl

pub nothing_by_tasks : (v : Version) (table : List (ℕ × Rule)) (h : List Record) (x : Record) (old : List ℕ) → has_tasks v ≡ false → AreOf v (x ∷ h) → ComesNext table h x → HasHanded task_rules (path table h) (told h) x old old
nothing_by_tasks v table h x old none are next =
    let nothing = none_handed (path table h) h x (none_is_task v (x ∷ h) none are) in
    record {
      handed = task_handed (path table h) (told h) x;
      grown = sym (append-nil old) ∙ ap (λ l. old ++ l) (sym nothing);
      are_handed = hands_task table (nested_facts table) h x (steady_by table h x next) next.named next.ordered;
    }
