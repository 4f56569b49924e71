-- The ranks of timeouts keep the order of the places of their records.
use Rattle.std.proofs.Common.{◌≡◌, ℕ, ◌<◌, ◌≤◌, List, ◌∷◌, length, Option, Some, None, option_map, subst}
use Rattle.std.specs.Prelude.{IfSome}
use Rattle.er_trace.specs.declared.record.Record.{Record}
use Rattle.er_history.specs.History as history
use Rattle.er_history.specs.History.{told, or_else, makes_timeout, running, actions_after, Action}
use Rattle.er_history.specs.LookUps.{place_of}
use Rattle.er_history.specs.Noted.{noted_in}
use Rattle.er_history.specs.Found.{IsRanked}
use Rattle.er_history.proofs.RankLemmas.{more_ranked, place_more, longer_list}
use Rattle.er_claims.specs.declared.claimed.Timeout.{Timeout}
use Rattle.er_claims.specs.Claimed.{SettingGiven, HasRank, IsRankedByPlace, rank_of}

has_rank : (pair : Option (ℕ × Timeout)) (count : ℕ) → HasRank pair count → IfSome pair (λ p. p.1.rank ≡ count)
has_rank None count is = tt
has_rank (Some p) count is = is

pub ranked_more : (old new : ℕ → Option Timeout) (pair : Option (ℕ × Timeout)) (h : List Record) (x : Record) (a : Action) (count more : ℕ)
    → ((k : ℕ) → new k ≡ or_else (old k) (noted_in k pair)) → count ≤ more → IfSome pair (λ p. old p.0 ≡ None → count < more)
    → IsRankedByPlace old count h → SettingGiven pair x a → HasRank pair count → running (actions_after (told h) x) ≡ Some a → IsRankedByPlace new more (x ∷ h)
ranked_more old new pair h x a count more found longer counted stands given is runs =
    subst (IsRanked (λ k. option_map rank_of (new k)) (place_of (x ∷ h)) more) (longer_list h x)
    (more_ranked rank_of old new pair (place_of h) (place_of (x ∷ h)) count (length (told h).entries) more found
    (λ k. place_more (λ (t : history.Timeout). t.place) (makes_timeout k) h x a (noted_in k pair) runs (given.placed k (length (told h).entries)))
    longer counted (has_rank pair count is) stands)
