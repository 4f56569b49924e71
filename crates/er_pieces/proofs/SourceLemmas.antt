-- From what holds of each piece of a kind to what holds of each handed number. Lists of records
-- stand newest first.
use Rattle.std.proofs.Common.{◌≡◌, ℕ, Bool, true, false, List, [], ◌∷◌, ◌++◌, Option, Some, None, refl, sym, ap, subst, ◌∙◌, arith, inl, inr}
use Rattle.std.specs.Prelude.{◌==◌, ◌&&◌, if◌then◌else◌}
use Rattle.std.proofs.lemmas.Bool.{eqb-true, eq-eqb}
use Rattle.er_trace.specs.declared.record.Record.{Record}
use Rattle.er_paths.specs.Paths.{is_among}
use Rattle.er_paths.proofs.Paths.{or_cases}
use Rattle.er_history.specs.History.{Event, Action, told, running, event_begun}
use Rattle.er_history.specs.Rules.{made_by}
use Rattle.er_history.specs.Laws.{Among}
use Rattle.er_history.specs.Latest.{newest_by, number_of, newest, latest_of_event, latest_of, latest_among, latest_of_each}
use Rattle.er_history.proofs.HistoryLemmas.{told_before, event_below, event_new, goes_on}
use Rattle.er_history.proofs.OrderLemmas.{any_append}
use Rattle.er_pieces.proofs.PathLemmas.{never, and_right}
use Rattle.er_pieces.proofs.RunLemmas.{same_event}

-- each of the numbers is of such an action
abbrev pub Each : (Action → Type 0) → List Action → List ℕ → Type 0
Each S actions ks = (k : ℕ) → is_among k ks ≡ true → (i : Action) × Among i actions × (i.number ≡ k) × S i

pub each_none : (S : Action → Type 0) (actions : List Action) → Each S actions []
each_none S actions = λ k e. absurd (never e)

pub each_both : (S : Action → Type 0) (actions : List Action) (ks ms : List ℕ) → Each S actions ks → Each S actions ms → Each S actions (ks ++ ms)
each_both S actions ks ms first second = λ k e.
    elim (or_cases (is_among k ks) (is_among k ms) (sym (any_append (λ m. m == k) ks ms) ∙ e)) [
      | inl here ↦ first k here
      | inr there ↦ second k there
    ]

-- the newest that passes

pub newest_passes : (test : Event → Bool) (actions : List Action) (a : Action) → newest_by test actions ≡ Some a → Among a actions × (test a.event ≡ true)
newest_passes test [] a e = absurd (cc)
newest_passes test (b ∷ older) a e = step (test b.event) refl (newest_passes test older a) e
  where
    some_same : {x y : Action} → Some x ≡ Some y → x ≡ y
    some_same e = cc

    step : (c : Bool) → test b.event ≡ c → (newest_by test older ≡ Some a → Among a older × (test a.event ≡ true)) → (if c then Some b else newest_by test older) ≡ Some a → Among a (b ∷ older) × (test a.event ≡ true)
    step true t rest e = let same = some_same e in (inl (sym same), ap (λ (c : Action). test c.event) (sym same) ∙ t)
    step false t rest e = let found = rest e in (inr found.0, found.1)

of_number : (S : Action → Type 0) (actions : List Action) (o : Option Action) → ((a : Action) → o ≡ Some a → Among a actions × S a) → Each S actions (number_of o)
of_number S actions None from = each_none S actions
of_number S actions (Some a) from = λ k e.
    elim (or_cases (a.number == k) false e) [
      | inl same ↦ let is = from a refl in (a, is.0, eqb-true a.number k same, is.1)
      | inr none ↦ absurd (never none)
    ]

pub each_newest : (S : Action → Type 0) (test : Event → Bool) (actions : List Action) → ((a : Action) → Among a actions → test a.event ≡ true → S a) → Each S actions (newest test actions)
each_newest S test actions from = of_number S actions (newest_by test actions) (λ a e. let is = newest_passes test actions a e in (is.0, from a is.0 is.1))

pub each_latest : (S : Action → Type 0) (u : ℕ) (actions : List Action) → ((a : Action) → Among a actions → a.event.number ≡ u → S a) → Each S actions (latest_of_event u actions)
each_latest S u actions from = each_newest S (λ (e : Event). e.number == u) actions (λ a among e. from a among (eqb-true a.event.number u e))

pub each_made : (S : Action → Type 0) (m : Option ℕ) (actions : List Action) → ((a : Action) → Among a actions → made_by m a.event ≡ true → S a) → Each S actions (latest_of m actions)
each_made S None actions from = each_none S actions
each_made S (Some u) actions from = each_latest S u actions (λ a among e. from a among (eq-eqb u a.event.number (sym e)))

-- the latest piece of each event that passes
pub each_event : (S : Action → Type 0) (test : Event → Bool) (h : List Record) → ((a : Action) → Among a (told h).actions → test a.event ≡ true → S a) → Each S (told h).actions (latest_of_each test (told h).actions)
each_event S test h from = go (told h).actions (λ a among. among)
  where
    all : List Action
    all = (told h).actions

    go : (actions : List Action) → ((a : Action) → Among a actions → Among a all) → Each S all (latest_among test all actions)
    go [] within = each_none S all
    go (a ∷ older) within = step ((a.number == a.event.number) && test a.event) refl (go older (λ b among. within b (inr among)))
      where
        step : (c : Bool) → ((a.number == a.event.number) && test a.event) ≡ c → Each S all (latest_among test all older)
            → Each S all (if c then latest_of_event a.event.number all ++ latest_among test all older else latest_among test all older)
        step true e rest = each_both S all (latest_of_event a.event.number all) (latest_among test all older)
            (each_latest S a.event.number all (λ b among same. from b among (ap test (same_event h b a among (within a (inl refl)) same) ∙ and_right (a.number == a.event.number) _ e))) rest
        step false e rest = rest

-- the running piece
pub each_running : (S : Action → Type 0) (actions : List Action) → ((a : Action) → running actions ≡ Some a → Among a actions → S a) → Each S actions (number_of (running actions))
each_running S [] from = each_none S []
each_running S (a ∷ older) from = of_number S (a ∷ older) (Some a) (λ b e. let same = some_same e in (inl (sym same), subst S same (from a refl (inl refl))))
  where
    some_same : {x y : Action} → Some x ≡ Some y → x ≡ y
    some_same e = cc

-- an event that begins with the record has another number
pub new_apart : (h : List Record) (x : Record) (i : Action) → Among i (told h).actions → goes_on x ≡ false → i.event.number ≡ (event_begun (told h) x).number → ⊥
new_apart h x i among new same =
    let below = event_below (told h).actions i (told_before h) among in
    let number = event_new (told h) x new in
    omega (arith, same, below, number)
