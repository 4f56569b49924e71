-- Proof that the rule between two actions is the least that makes an edge.
use Rattle.std.proofs.Common.{◌≡◌, ℕ, ◌<◌, ◌≤◌, Bool, true, false, cond, List, [], ◌∷◌, Option, Some, None, refl, sym, ap, subst, ◌∙◌, arith, inl, inr}
use Rattle.std.specs.Prelude.{◌==◌, ◌||◌, ◌&&◌, not, nat_lt, if◌then◌else◌}
use Rattle.std.specs.List.{list_any}
use Rattle.std.proofs.lemmas.Bool.{ltb-true}
use Rattle.std.proofs.lemmas.Bool.Decides.{nat_tests}
use Rattle.er_paths.proofs.Paths.{or_left, or_right, place_cases}
use Rattle.er_history.specs.History.{Action, Event, action_at, told}
use Rattle.er_history.specs.Rules.{Rule, any_holds}
use Rattle.er_history.specs.Edges.{up_to, is_ruled, around_inline, of_one_event, path}
use Rattle.er_history.proofs.OrderLemmas.{neither}
use Rattle.er_pieces.specs.steps.Steps.{lesser, given, least_rule, rule_of_events, rule_of_pieces, rule_between, both_actions}
use Rattle.er_laws.specs.LeastRule.{with_number, is_piece_rule, makes_edge, RulesAreLeast, NoRuleIsNamed, HaveLeastRule, StepsHaveLeastRules}

-- the least number that passes, or none where none does
abbrev IsLeast : (ℕ → Bool) → Option ℕ → Type 0
IsLeast passes None = (n : ℕ) → passes n ≡ false
IsLeast passes (Some n) = (passes n ≡ true) × ((m : ℕ) → m < n → passes m ≡ false)

least_same : (f g : ℕ → Bool) (o : Option ℕ) → ((n : ℕ) → f n ≡ g n) → IsLeast f o → IsLeast g o
least_same f g None same least = λ n. sym (same n) ∙ least n
least_same f g (Some n) same least = (sym (same n) ∙ least.0, λ m l. sym (same m) ∙ least.1 m l)

-- of two tests
least_lesser : (f g : ℕ → Bool) (o p : Option ℕ) → IsLeast f o → IsLeast g p → IsLeast (λ n. f n || g n) (lesser o p)
least_lesser f g None None a b = λ n. neither (f n) (g n) (a n) (b n)
least_lesser f g None (Some m) a b = (or_right (f m) (g m) b.0, λ k l. neither (f k) (g k) (a k) (b.1 k l))
least_lesser f g (Some n) None a b = (or_left (f n) (g n) a.0, λ k l. neither (f k) (g k) (a.1 k l) (b k))
least_lesser f g (Some n) (Some m) a b = by (nat_lt m n) refl
  where
    by : (t : Bool) → nat_lt m n ≡ t → IsLeast (λ n. f n || g n) (if t then Some m else Some n)
    by true is =
        let less : m < n = ltb-true m n is in
        (or_right (f m) (g m) b.0, λ k l. neither (f k) (g k) (a.1 k (omega (arith, l, less))) (b.1 k l))
    by false is =
        let most : n ≤ m = grind (arith, nat_tests) in
        (or_left (f n) (g n) a.0, λ k l. neither (f k) (g k) (a.1 k l) (b.1 k (omega (arith, l, most))))

-- of one number, where a test passes
least_given : (b : Bool) (k : ℕ) → IsLeast (λ n. (k == n) && b) (given b k)
least_given true k = (grind (arith, nat_tests), λ m l. grind (arith, nat_tests))
least_given false k = λ n. no (k == n)
  where
    no : (c : Bool) → (c && false) ≡ false
    no true = refl
    no false = refl

-- of a table
least_of_table : (table : List (ℕ × Rule)) (joined : ℕ → ℕ → Bool) (u v : Event) → IsLeast (λ n. list_any (λ (r : ℕ × Rule). r.1 joined u v) (with_number n table)) (least_rule table joined u v)
least_of_table [] joined u v = λ n. refl
least_of_table (r ∷ more) joined u v =
    let holds : ℕ × Rule → Bool = λ (s : ℕ × Rule). s.1 joined u v in
    least_same (λ n. ((r.0 == n) && holds r) || list_any holds (with_number n more)) (λ n. list_any holds (with_number n (r ∷ more))) (least_rule (r ∷ more) joined u v) (λ n. step (r.0 == n) n)
    (least_lesser (λ n. (r.0 == n) && holds r) (λ n. list_any holds (with_number n more)) (given (holds r) r.0) (least_rule more joined u v) (least_given (holds r) r.0) (least_of_table more joined u v))
  where
    step : (b : Bool) (n : ℕ) → ((b && r.1 joined u v) || list_any (λ (s : ℕ × Rule). s.1 joined u v) (with_number n more)) ≡ list_any (λ (s : ℕ × Rule). s.1 joined u v) (cond b (r ∷ with_number n more) (with_number n more))
    step true n = refl
    step false n = refl

-- between two events
least_of_events : (table : List (ℕ × Rule)) (joined : ℕ → ℕ → Bool) (u v : Event) → IsLeast (λ n. any_holds (with_number n table) joined u v) (rule_of_events table joined u v)
least_of_events table joined u v = by (u.number == v.number)
  where
    by : (b : Bool) → IsLeast (λ n. not b && list_any (λ (r : ℕ × Rule). r.1 joined u v) (with_number n table)) (if b then None else least_rule table joined u v)
    by true = λ n. refl
    by false = least_of_table table joined u v

-- between two pieces
least_of_pieces : (i j : Action) → IsLeast (λ n. is_piece_rule n i j) (rule_of_pieces i j)
least_of_pieces i j =
    least_same (λ n. ((22 == n) && around_inline i j) || ((23 == n) && of_one_event i j)) (λ n. is_piece_rule n i j) (rule_of_pieces i j)
    (λ n. λ k. (turned 22 n k && around_inline i j) || (turned 23 n k && of_one_event i j))
    (least_lesser (λ n. (22 == n) && around_inline i j) (λ n. (23 == n) && of_one_event i j) (given (around_inline i j) 22) (given (of_one_event i j) 23)
    (least_given (around_inline i j) 22) (least_given (of_one_event i j) 23))
  where
    turned : (m n : ℕ) → (m == n) ≡ (n == m)
    turned m n = grind (arith, nat_tests)

-- between two actions
least_between : (table : List (ℕ × Rule)) (joined : ℕ → ℕ → Bool) (i j : Action) → IsLeast (makes_edge table joined i j) (rule_between table joined i j)
least_between table joined i j = by (nat_lt i.number j.number)
  where
    told_of : ℕ → ℕ → Bool
    told_of = up_to j.event.number joined

    by : (b : Bool) → IsLeast (λ n. b && (is_ruled (with_number n table) joined i j || is_piece_rule n i j)) (if b then lesser (rule_of_events table told_of i.event j.event) (rule_of_pieces i j) else None)
    by true = least_lesser (λ n. is_ruled (with_number n table) joined i j) (λ n. is_piece_rule n i j) (rule_of_events table told_of i.event j.event) (rule_of_pieces i j)
        (least_of_events table told_of i.event j.event) (least_of_pieces i j)
    by false = λ n. refl

-- what is least is so once

not_none : {A : Type 0} {n : ℕ} → None ≡ Some n → A
not_none e = absurd (cc)

found : (passes : ℕ → Bool) (o : Option ℕ) (n : ℕ) → IsLeast passes o → passes n ≡ true → ((m : ℕ) → m < n → passes m ≡ false) → o ≡ Some n
found passes None n least holds below = absurd (cc (least n))
found passes (Some k) n least holds below = elim (place_cases k n) [
  | inl less ↦ absurd (cc (below k less, least.0))
  | inr rest ↦ elim rest [
    | inl same ↦ ap Some same
    | inr more ↦ absurd (cc (least.1 n more))
  ]
]

nowhere : (passes : ℕ → Bool) (o : Option ℕ) → IsLeast passes o → ((n : ℕ) → passes n ≡ false) → o ≡ None
nowhere passes None least none = refl
nowhere passes (Some n) least none = absurd (cc (none n, least.0))

pub rules_are_least : RulesAreLeast
rules_are_least table joined i j n = (
  λ e. let least : IsLeast (makes_edge table joined i j) (Some n) = subst (IsLeast (makes_edge table joined i j)) e (least_between table joined i j) in
      record { makes = least.0; least = least.1 },
  λ is. found (makes_edge table joined i j) (rule_between table joined i j) n (least_between table joined i j) is.makes is.least,
)

pub no_rule_without_edge : NoRuleIsNamed
no_rule_without_edge table joined i j = (
  λ e. subst (IsLeast (makes_edge table joined i j)) e (least_between table joined i j),
  λ none. nowhere (makes_edge table joined i j) (rule_between table joined i j) (least_between table joined i j) none,
)

pub steps_have_least_rules : StepsHaveLeastRules
steps_have_least_rules table h i j n e = by (action_at i (told h).actions) (action_at j (told h).actions) refl refl e
  where
    by : (o p : Option Action) → action_at i (told h).actions ≡ o → action_at j (told h).actions ≡ p → both_actions o p (rule_between table (path table h)) ≡ Some n → HaveLeastRule table h i j n
    by (Some a) (Some b) first second e = record { first = a; second = b; is_first = first; is_second = second; rule = (rules_are_least table (path table h) a b n).0 e }
    by None p first second e = absurd (cc)
    by (Some a) None first second e = absurd (cc)
