-- There is a rule exactly where there is an edge, and every link is an edge.
use Rattle.std.proofs.Common.{◌≡◌, ℕ, Bool, true, false, List, [], ◌∷◌, Option, Some, None, refl, sym, ap, ◌∙◌, arith, inl, inr}
use Rattle.std.specs.Prelude.{◌==◌, ◌||◌, nat_lt, is_some}
use Rattle.std.specs.List.{list_any}
use Rattle.std.proofs.lemmas.Bool.Decides.{nat_tests}
use Rattle.er_paths.specs.Paths.{is_among, list_of, Leads}
use Rattle.er_paths.specs.Laws.{GoForward}
use Rattle.er_paths.proofs.Paths.{paths_are_steps}
use Rattle.er_paths.specs.links.Links.{is_link}
use Rattle.er_paths.specs.links.Laws.{LeadsBy}
use Rattle.er_paths.proofs.links.Tests.{decide}
use Rattle.er_paths.proofs.links.Links.{links_are_least}
use Rattle.er_history.specs.History.{told, action_at, Action, Event}
use Rattle.er_history.specs.Rules.{Rule, any_holds}
use Rattle.er_history.specs.Edges.{edges, path, up_to, is_ruled, around_inline, of_one_event}
use Rattle.er_history.specs.Laws.{HasNumber}
use Rattle.er_history.proofs.HistoryLemmas.{edges_are_edges, edges_go_forward, edges_join_actions, action_at_among}
use Rattle.er_pieces.specs.steps.Steps.{lesser, given, least_rule, rule_of_events, rule_of_pieces, rule_between, rule_of, both_actions}
use Rattle.er_pieces.specs.steps.Laws.{RulesAreEdges, RulesAreListed, LinksAreEdges}

lesser_some : (o p : Option ℕ) → is_some (lesser o p) ≡ (is_some o || is_some p)
lesser_some None p = refl
lesser_some (Some n) None = refl
lesser_some (Some n) (Some m) = elim (decide (nat_lt m n)) [ inl e ↦ rw e refl | inr e ↦ rw e refl ]

given_some : (b : Bool) (n : ℕ) → is_some (given b n) ≡ b
given_some true n = refl
given_some false n = refl

least_some : (table : List (ℕ × Rule)) (joined : ℕ → ℕ → Bool) (u v : Event) → is_some (least_rule table joined u v) ≡ list_any (λ (r : ℕ × Rule). r.1 joined u v) table
least_some [] joined u v = refl
least_some (r ∷ more) joined u v =
    lesser_some (given (r.1 joined u v) r.0) (least_rule more joined u v)
    ∙ ap (λ (b : Bool). b || is_some (least_rule more joined u v)) (given_some (r.1 joined u v) r.0)
    ∙ ap (λ (b : Bool). r.1 joined u v || b) (least_some more joined u v)

events_some : (table : List (ℕ × Rule)) (joined : ℕ → ℕ → Bool) (u v : Event) → is_some (rule_of_events table joined u v) ≡ any_holds table joined u v
events_some table joined u v = elim (decide (u.number == v.number)) [
  | inl e ↦ rw e refl
  | inr e ↦ rw e (least_some table joined u v)
]

pieces_some : (i j : Action) → is_some (rule_of_pieces i j) ≡ (around_inline i j || of_one_event i j)
pieces_some i j =
    lesser_some (given (around_inline i j) 22) (given (of_one_event i j) 23)
    ∙ ap (λ (b : Bool). b || is_some (given (of_one_event i j) 23)) (given_some (around_inline i j) 22)
    ∙ ap (λ (b : Bool). around_inline i j || b) (given_some (of_one_event i j) 23)

pub rules_are_edges : RulesAreEdges
rules_are_edges table joined i j = elim (decide (nat_lt i.number j.number)) [
  | inr e ↦ rw e refl
  | inl e ↦
      let events = rule_of_events table (up_to j.event.number joined) i.event j.event in
      rw e (lesser_some events (rule_of_pieces i j)
      ∙ ap (λ (b : Bool). b || is_some (rule_of_pieces i j)) (events_some table (up_to j.event.number joined) i.event j.event)
      ∙ ap (λ (b : Bool). is_ruled table joined i j || b) (pieces_some i j))
]

-- numbers of no action are in no list
none_listed : (b : Bool) → (b ≡ true → ⊥) → false ≡ b
none_listed true f = absurd (f refl)
none_listed false f = refl

number_found : (actions : List Action) (k : ℕ) → HasNumber actions k → action_at k actions ≡ None → ⊥
number_found [] k has none = has.1
number_found (a ∷ older) k has none = elim (decide (a.number == k)) [
  | inl e ↦ absurd (let gone : Some a ≡ None = rw e at none in cc)
  | inr e ↦ elim has.1 [
    | inl same ↦ absurd (let is : a.number ≡ k = ap (λ (x : Action). x.number) (sym same) ∙ has.2 in let t : (a.number == k) ≡ true = grind (arith, nat_tests) in cc)
    | inr deeper ↦ number_found older k (has.0, deeper, has.2) (rw e at none)
  ]
]

pub rules_are_listed : RulesAreListed
rules_are_listed table h i j = by (action_at i (told h).actions) (action_at j (told h).actions) refl refl
  where
    by : (o p : Option Action) → action_at i (told h).actions ≡ o → action_at j (told h).actions ≡ p → is_some (both_actions o p (rule_between table (path table h))) ≡ is_among i (list_of (edges table (told h).actions) j)
    by (Some a) (Some b) first second =
        let x = action_at_among i (told h).actions a first in
        let y = action_at_among j (told h).actions b second in
        rules_are_edges table (path table h) a b ∙ sym (edges_are_edges table h a b x.0 y.0)
        ∙ ap (λ (n : ℕ). is_among n (list_of (edges table (told h).actions) b.number)) x.1 ∙ ap (λ (n : ℕ). is_among i (list_of (edges table (told h).actions) n)) y.1
    by None p first second = none_listed _ (λ e. number_found (told h).actions i (edges_join_actions table h i j e).0 first)
    by (Some a) None first second = none_listed _ (λ e. number_found (told h).actions j (edges_join_actions table h i j e).1 second)

-- links

some_of : (o : Option ℕ) → is_some o ≡ true → (n : ℕ) × (o ≡ Some n)
some_of None e = absurd (cc)
some_of (Some n) e = (n, refl)

-- steps by edges are steps by pairs
as_pairs : (lists : List (List ℕ)) (i : ℕ) (xs : List ℕ) (j : ℕ) → Leads lists i xs j → LeadsBy (λ i j. is_among i (list_of lists j)) i xs j
as_pairs lists i [] j w = w
as_pairs lists i (k ∷ xs) j w = (w.0, as_pairs lists k xs j w.1)

as_steps : (lists : List (List ℕ)) (i : ℕ) (xs : List ℕ) (j : ℕ) → LeadsBy (λ i j. is_among i (list_of lists j)) i xs j → Leads lists i xs j
as_steps lists i [] j w = w
as_steps lists i (k ∷ xs) j w = (w.0, as_steps lists k xs j w.1)

-- over every list that goes forward, every link is an edge
pub link_listed : (lists : List (List ℕ)) (i j : ℕ) → GoForward lists → is_link lists i j ≡ true → is_among i (list_of lists j) ≡ true
link_listed lists i j forward link = links_are_least lists (λ i j. is_among i (list_of lists j)) (λ i j e s. absurd (let l = forward i j e in omega arith))
    (λ i j below.
    let both = paths_are_steps lists i j forward below in
    (λ e. let w = both.0 e in (w.0, as_pairs lists i w.0 j w.1), λ w. both.1 (w.0, as_steps lists i w.0 j w.1)))
    i j link

pub links_are_edges : LinksAreEdges
links_are_edges table h i j link =
    let listed = link_listed (edges table (told h).actions) i j (edges_go_forward table h) link in
    (listed, some_of (rule_of table h i j) (rules_are_listed table h i j ∙ listed))
