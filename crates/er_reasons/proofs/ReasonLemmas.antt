-- The rule between two actions, from what was read of both.
use Rattle.std.proofs.Common.{◌≡◌, ℕ, ◌<◌, ◌≤◌, Bool, true, false, List, [], ◌∷◌, ◌++◌, length, option_map, Option, Some, None, refl, sym, ap, ◌∙◌, arith, inl, inr}
use Rattle.std.specs.Prelude.{◌==◌, nat_lt}
use Rattle.std.proofs.lemmas.Bool.Decides.{nat_tests}
use Rattle.er_trace.specs.declared.record.Record.{Record}
use Rattle.er_trace.specs.declared.version.Version.{Version}
use Rattle.er_paths.proofs.links.Tests.{decide, never}
use Rattle.er_history.specs.History.{told, action_at, Action, Event}
use Rattle.er_history.specs.Rules.{Rule, rules, parse_rules, script_rules, load_rules, dispatch_rules, timer_rules, request_rules, task_rules}
use Rattle.er_history.specs.Edges.{path, up_to}
use Rattle.er_history.specs.Laws.{IsNumbered}
use Rattle.er_history.specs.LookUps.{begin_of}
use Rattle.er_history.proofs.HistoryLemmas.{actions_are_numbered, action_at_among}
use Rattle.er_page.specs.declared.page.Page.{Page}
use Rattle.er_page.specs.Page.{IsPage, HasBegun}
use Rattle.er_page.proofs.SeenLemmas.{action_there}
use Rattle.er_page.proofs.TakenLemmas.{long_page}
use Rattle.er_pieces.specs.steps.Steps.{lesser, least_rule, rule_of_events, rule_of_pieces, rule_between, rule_of, both_actions}
use Rattle.er_reasons.specs.Words.{piece}
use Rattle.er_reasons.proofs.NumberLemmas.{least_append}

-- an action that has begun is found by its number
found_at : (actions : List Action) (k : ℕ) → IsNumbered actions → k < length actions → (a : Action) × (action_at k actions ≡ Some a)
found_at [] k numbered below = absurd (omega arith)
found_at (a ∷ older) k numbered below = elim (decide (a.number == k)) [
  | inl e ↦ (a, rw e refl)
  | inr e ↦
      let less : k < length older = (let own : a.number ≡ length older = numbered.0 in grind (arith, nat_tests)) in
      let found = found_at older k numbered.1 less in
      (found.0, rw e found.1)
]

pub action_found : (page : Page) (h : List Record) (k : ℕ) → ∥ HasBegun page k ∥₁ → IsPage page h → (a : Action) × (action_at k (told h).actions ≡ Some a)
action_found page h k begun stands = found_at (told h).actions k (actions_are_numbered h) (omega (arith, action_there page k begun, long_page page h stands))

-- no rule leads back, nor from an action to itself
pub none_back : (table : List (ℕ × Rule)) (h : List Record) (i j : ℕ) → j ≤ i → None ≡ rule_of table h i j
none_back table h i j back = by (action_at i (told h).actions) (action_at j (told h).actions) refl refl
  where
    by : (o p : Option Action) → action_at i (told h).actions ≡ o → action_at j (told h).actions ≡ p → None ≡ both_actions o p (rule_between table (path table h))
    by None p first second = refl
    by (Some a) None first second = refl
    by (Some a) (Some b) first second =
        let x = (action_at_among i (told h).actions a first).1 in
        let y = (action_at_among j (told h).actions b second).1 in
        let no : nat_lt a.number b.number ≡ false = never (nat_lt a.number b.number) (λ t. let l : a.number < b.number = grind (arith, nat_tests) in absurd (omega arith)) in
        rw no refl

-- a rule leads forward, by the two events and the two pieces
pub rule_told : (version : Version) (h : List Record) (i j : ℕ) (a b : Action) (x : Record) (u v : Event) (events pieces : Option ℕ) → i < j → action_at i (told h).actions ≡ Some a → action_at j (told h).actions ≡ Some b
    → u ≡ a.event → v ≡ b.event → Some x ≡ begin_of h j
    → events ≡ rule_of_events (rules version) (up_to v.number (path (rules version) h)) u v → ((y : Record) → pieces ≡ rule_of_pieces (piece i y u) (piece j x v))
    → lesser events pieces ≡ rule_of (rules version) h i j
rule_told version h i j a b x u v events pieces forward first second is_u is_v begins by_events by_pieces =
    let number_a : a.number ≡ i = (action_at_among i (told h).actions a first).1 in
    let number_b : b.number ≡ j = (action_at_among j (told h).actions b second).1 in
    let begun : x ≡ b.begin = same_record (begins ∙ ap (option_map (λ (c : Action). c.begin)) second) in
    let lt : nat_lt a.number b.number ≡ true = grind (arith, nat_tests) in
    let joined = up_to b.event.number (path (rules version) h) in
    let e1 : events ≡ rule_of_events (rules version) joined a.event b.event = by_events ∙ ap (λ (w : Event). rule_of_events (rules version) (up_to v.number (path (rules version) h)) w v) is_u
    ∙ ap (λ (w : Event). rule_of_events (rules version) (up_to w.number (path (rules version) h)) a.event w) is_v in
    let e2 : pieces ≡ rule_of_pieces a b =
    by_pieces a.begin ∙ ap (λ (w : Event). rule_of_pieces (piece i a.begin w) (piece j x v)) is_u ∙ ap (λ (w : Event). rule_of_pieces (piece i a.begin a.event) (piece j x w)) is_v
    ∙ ap (λ (y : Record). rule_of_pieces (piece i a.begin a.event) (piece j y b.event)) begun
    ∙ ap (λ (k : ℕ). rule_of_pieces (piece k a.begin a.event) (piece j b.begin b.event)) (sym number_a)
    ∙ ap (λ (k : ℕ). rule_of_pieces a (piece k b.begin b.event)) (sym number_b) in
    let whole : rule_between (rules version) (path (rules version) h) a b ≡ lesser events pieces = rw (lt, e1, e2) refl in
    rw (first, second) (sym whole)
  where
    same_record : {y z : Record} → Some y ≡ Some z → y ≡ z
    same_record e = cc

-- the families of rules one after the other

abbrev first_six : Version → (ℕ → ℕ → Bool) → Event → Event → Option ℕ
first_six version joined u v =
    lesser (lesser (lesser (lesser (lesser (least_rule parse_rules joined u v) (least_rule script_rules joined u v)) (least_rule load_rules joined u v)) (least_rule dispatch_rules joined u v)) (least_rule (timer_rules version) joined u v)) (least_rule request_rules joined u v)

pub groups_told : (version : Version) (joined : ℕ → ℕ → Bool) (u v : Event) → least_rule (rules version) joined u v ≡ lesser (first_six version joined u v) (least_rule task_rules joined u v)
groups_told version joined u v =
    let p = parse_rules in
    least_append (p ++ script_rules ++ load_rules ++ dispatch_rules ++ timer_rules version ++ request_rules) task_rules joined u v
    ∙ ap (λ (o : Option ℕ). lesser o (least_rule task_rules joined u v)) (least_append (p ++ script_rules ++ load_rules ++ dispatch_rules ++ timer_rules version) request_rules joined u v
    ∙ ap (λ (o : Option ℕ). lesser o (least_rule request_rules joined u v)) (least_append (p ++ script_rules ++ load_rules ++ dispatch_rules) (timer_rules version) joined u v
    ∙ ap (λ (o : Option ℕ). lesser o (least_rule (timer_rules version) joined u v)) (least_append (p ++ script_rules ++ load_rules) dispatch_rules joined u v
    ∙ ap (λ (o : Option ℕ). lesser o (least_rule dispatch_rules joined u v)) (least_append (p ++ script_rules) load_rules joined u v
    ∙ ap (λ (o : Option ℕ). lesser o (least_rule load_rules joined u v)) (least_append p script_rules joined u v)))))

-- found family by family
pub groups_found : (version : Version) (joined : ℕ → ℕ → Bool) (u v : Event) (parse script load dispatch timer request task two three four five six all : Option ℕ)
    → parse ≡ least_rule parse_rules joined u v → script ≡ least_rule script_rules joined u v → load ≡ least_rule load_rules joined u v → dispatch ≡ least_rule dispatch_rules joined u v
    → timer ≡ least_rule (timer_rules version) joined u v → request ≡ least_rule request_rules joined u v → task ≡ least_rule task_rules joined u v
    → two ≡ lesser parse script → three ≡ lesser two load → four ≡ lesser three dispatch → five ≡ lesser four timer → six ≡ lesser five request → all ≡ lesser six task
    → all ≡ least_rule (rules version) joined u v
groups_found version joined u v parse script load dispatch timer request task two three four five six all e1 e2 e3 e4 e5 e6 e7 f2 f3 f4 f5 f6 f7 =
    let a : two ≡ lesser (least_rule parse_rules joined u v) (least_rule script_rules joined u v) = f2 ∙ (λ i. lesser (e1 i) (e2 i)) in
    let b = f3 ∙ (λ i. lesser (a i) (e3 i)) in
    let c = f4 ∙ (λ i. lesser (b i) (e4 i)) in
    let d = f5 ∙ (λ i. lesser (c i) (e5 i)) in
    let e : six ≡ first_six version joined u v = f6 ∙ (λ i. lesser (d i) (e6 i)) in
    f7 ∙ ((λ i. lesser (e i) (e7 i)) ∙ sym (groups_told version joined u v))

-- between different events
pub events_told : (table : List (ℕ × Rule)) (joined : ℕ → ℕ → Bool) (u v : Event) (found : Option ℕ) → (u.number == v.number) ≡ false → found ≡ least_rule table joined u v → found ≡ rule_of_events table joined u v
events_told table joined u v found other is = rw other is
