-- A walk over timeouts that have fired, from the last to the first. Lists of records
-- stand newest first.
use Rattle.std.specs.Prelude.{◌≡◌, ◌⊎◌, ℕ, ◌<◌, ◌≤◌, Bool, true, false, List, ◌++◌, length, map, reverse, drop, get_or, Option, Some, None, IfSome}
use Rattle.std.specs.List.{All, list_any}
use Rattle.er_trace.specs.declared.record.Record.{Record}
use Rattle.er_trace.specs.declared.version.Version.{Version}
use Rattle.er_paths.specs.Paths.{is_among}
use Rattle.er_history.specs.History.{told}
use Rattle.er_history.specs.Rules.{rules}
use Rattle.er_history.specs.Edges.{path}
use Rattle.er_history.specs.Latest.{latest_of}
use Rattle.er_history.specs.LookUps.{timer_event}
use Rattle.er_claims.specs.declared.claimed.FiredTimeout.{FiredTimeout}
use Rattle.er_claims.specs.declared.claimed.Claimed.{Claimed}
use Rattle.er_claims.specs.declared.claimed.SetTimeout.{SetTimeout}
use Rattle.er_claims.specs.Fired.{AreCounted, number_of, sets}
use Rattle.er_claims.specs.Claimed.{IsSet}
use Rattle.er_path_rules.specs.declared.timer.fired.Walk.{Walk}
use Rattle.er_path_rules.specs.timer.Fired.{goes_before, handed_for_each}
use Rattle.er_path_rules.specs.timer.Grown.{Suffice}

-- the first has a greater delay, or was set no earlier
abbrev pub Misses : SetTimeout → SetTimeout → Type 0
Misses x y = (y.delay < x.delay) ⊎ (y.rank ≤ x.rank)

-- the timeout goes before the other, if there is one
abbrev pub is_covered : Version → List Record → SetTimeout → Option SetTimeout → Bool
is_covered v h x None = false
is_covered v h x (Some y) = goes_before v h x.timeout y.timeout

-- the timeout stands at this place
abbrev pub StandsAt : List FiredTimeout → ℕ → FiredTimeout → Type 0
StandsAt xs i x = (i < length xs) × (get_or xs i x ≡ x)

-- they are as they were set, and count those before them
pub record AreFired (claimed : Claimed) (xs : List FiredTimeout) : Type 0 where
  pub set : All (IsSet claimed) (sets xs)
  pub counted : AreCounted xs

-- a path leads from each piece that is handed of the timeout to one of these
abbrev pub IsReached : Version → List Record → ℕ → List ℕ → Type 0
IsReached v h s handed = (k : ℕ) → is_among k (latest_of (timer_event h s) (told h).actions) ≡ true
    → list_any (λ m. path (rules v) h k m) handed ≡ true

-- of two of these of which the first goes before the other, a path leads so to what is
-- handed of the other
abbrev pub AreJoined : Version → List Record → List FiredTimeout → Type 0
AreJoined v h xs = (i j : ℕ) (x y : FiredTimeout) → i < j → StandsAt xs i x → StandsAt xs j y
    → goes_before v h x.set.timeout y.set.timeout ≡ true
    → IsReached v h x.set.timeout (latest_of (timer_event h y.set.timeout) (told h).actions)

-- what is due of the timeouts from this place on
abbrev pub due_from : Version → List Record → ℕ → List FiredTimeout → ℕ → List ℕ
due_from v h t xs left = handed_for_each v h t (reverse (map number_of (sets (drop left xs))))

-- it is one of these from this place on, and is reached so
pub record IsHanded (v : Version) (h : List Record) (xs : List FiredTimeout) (left : ℕ)
    (handed : List ℕ) (x : SetTimeout) : Type 0 where
  pub place : ℕ
  pub found : FiredTimeout
  pub behind : left ≤ place
  pub there : StandsAt xs place found
  pub is : found.set ≡ x
  pub reached : IsReached v h x.timeout handed

-- the walk has come so far
pub record IsWalk (v : Version) (h : List Record) (t : ℕ) (xs : List FiredTimeout) (walk : Walk)
    (old new : List ℕ) : Type 0 where
  pub handed : List ℕ
  pub grown : new ≡ old ++ handed
  pub suffice : Suffice (path (rules v) h) (due_from v h t xs walk.left) handed
  pub last : IfSome walk.handed (IsHanded v h xs walk.left handed)

-- from wherever it began, it goes on so
abbrev pub WalksOn : Version → List Record → ℕ → List FiredTimeout → Walk → Walk → List ℕ → List ℕ
    → Type 0
WalksOn v h t xs walk next old new = (start : List ℕ) → IsWalk v h t xs walk start old
    → IsWalk v h t xs next start new
