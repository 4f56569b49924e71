-- What it says that a record runs a peer of the newest action's handler. Lists stand newest first.
use Rattle.std.proofs.Common.{◌≡◌, ℕ, ◌<◌, Bool, true, false, List, [], ◌∷◌, length, Option, Some, None, refl, sym, ap, ◌∙◌, arith}
use Rattle.std.specs.Prelude.{◌==◌, ◌&&◌, if◌then◌else◌, option_map}
use Rattle.std.proofs.lemmas.Bool.{eqb-true, eq-eqb}
use Rattle.er_trace.specs.declared.record.Record.{Record}
use Rattle.er_trace.specs.declared.record.Record.TheVariants.{Run}
use Rattle.er_history.specs.History.{Action, told, running, action_at}
use Rattle.er_history.specs.LookUps.{maker_of_handler, running_action, begin_of}
use Rattle.er_history.specs.Rules.{is_some_and}
use Rattle.er_history.specs.Laws.{IsNumbered}
use Rattle.er_history.proofs.HistoryLemmas.{and_left, actions_are_numbered}
use Rattle.er_pieces.proofs.PathLemmas.{never, and_right}
use Rattle.er_graph.specs.Again.{is_same_maker, are_peers, is_peer_of_newest}

-- the newest action and the record run handlers of one group, and these have one maker
pub record FollowsPeer (h : List Record) (x : Record) : Type 0 where
  pub newest : Action
  pub runs : running (told h).actions ≡ Some newest
  pub dispatch : ℕ
  pub group : ℕ
  pub handler : ℕ
  pub other : ℕ
  pub begun : newest.begin ≡ Run dispatch group other
  pub next : x ≡ Run dispatch group handler
  pub maker : maker_of_handler h handler ≡ maker_of_handler h other

same_maker : (m k : Option ℕ) → is_same_maker m k ≡ true → k ≡ m
same_maker (Some m) (Some k) e = ap (λ (n : ℕ). Some n) (sym (eqb-true m k e))
same_maker (Some m) None e = absurd (never e)
same_maker None k e = absurd (never e)

peers_run : (h : List Record) (x : Record) (a : Action) → running (told h).actions ≡ Some a → (y z : Record) → a.begin ≡ y → x ≡ z → are_peers h y z ≡ true → FollowsPeer h x
peers_run h x a runs (Run p g u) z begun next e = of z next e
  where
    of : (z : Record) → x ≡ z → are_peers h (Run p g u) z ≡ true → FollowsPeer h x
    of (Run q k w) next e =
        let at = and_left ((p == q) && (g == k)) _ e in
        let dispatch : p ≡ q = eqb-true p q (and_left (p == q) _ at) in
        let group : g ≡ k = eqb-true g k (and_right (p == q) _ at) in
        record {
          newest = a;
          runs = runs;
          dispatch = p;
          group = g;
          handler = w;
          other = u;
          begun = begun;
          next = next ∙ ap (λ (n : ℕ). Run n k w) (sym dispatch) ∙ ap (λ (n : ℕ). Run p n w) (sym group);
          maker = same_maker (maker_of_handler h u) (maker_of_handler h w) (and_right ((p == q) && (g == k)) _ e);
        }
    of _ next e = absurd (never e)
peers_run h x a runs _ z begun next e = absurd (never e)

pub peer_of_newest : (h : List Record) (x : Record) → is_peer_of_newest h x ≡ true → FollowsPeer h x
peer_of_newest h x e = step (told h).actions refl e
  where
    step : (actions : List Action) → (told h).actions ≡ actions → is_some_and (λ (a : Action). are_peers h a.begin x) (running actions) ≡ true → FollowsPeer h x
    step [] is e = absurd (never e)
    step (a ∷ older) is e = peers_run h x a (ap running is) a.begin x refl refl e

pub some_runs : (h : List Record) (x : Record) → FollowsPeer h x → 0 < length (told h).actions
some_runs h x is = step (told h).actions is.runs
  where
    step : (actions : List Action) → running actions ≡ Some is.newest → 0 < length actions
    step [] e = absurd (cc)
    step (a ∷ older) e = omega arith

-- as the code asks it

pub newest_begun : (h : List Record) (k : ℕ) → Some k ≡ running_action h → k < length (told h).actions
newest_begun h k e = step (told h).actions (actions_are_numbered h) e
  where
    step : (actions : List Action) → IsNumbered actions → Some k ≡ option_map (λ (a : Action). a.number) (running actions) → k < length actions
    step [] n e = absurd (cc)
    step (a ∷ older) n e = let same : k ≡ a.number = cc in omega (arith, same, n.0)

pub none_newest : (h : List Record) (x : Record) → None ≡ running_action h → false ≡ is_peer_of_newest h x
none_newest h x e = step (told h).actions e
  where
    step : (actions : List Action) → None ≡ option_map (λ (a : Action). a.number) (running actions) → false ≡ is_some_and (λ (a : Action). are_peers h a.begin x) (running actions)
    step [] e = refl
    step (a ∷ older) e = absurd (cc)

some_is : (y z : Record) → Some y ≡ Some z → y ≡ z
some_is y z e = cc

pub asked_of_newest : (h : List Record) (k : ℕ) (y x : Record) → Some k ≡ running_action h → Some y ≡ begin_of h k → are_peers h y x ≡ is_peer_of_newest h x
asked_of_newest h k y x e f = step (told h).actions e f
  where
    step : (actions : List Action) → Some k ≡ option_map (λ (a : Action). a.number) (running actions) → Some y ≡ option_map (λ (a : Action). a.begin) (action_at k actions)
        → are_peers h y x ≡ is_some_and (λ (a : Action). are_peers h a.begin x) (running actions)
    step [] e f = absurd (cc)
    step (a ∷ older) e f =
        let same : k ≡ a.number = cc in
        let found : action_at k (a ∷ older) ≡ Some a = ap (λ (b : Bool). if b then Some a else action_at k older) (eq-eqb a.number k (sym same)) in
        ap (λ (z : Record). are_peers h z x) (some_is y a.begin (f ∙ ap (option_map (λ (b : Action). b.begin)) found))
