-- Proof that later records change no chain and no link of an earlier action. Lists of records stand
-- newest first.
use Rattle.std.proofs.Common.{ℕ, ◌<◌, List, length, ap, ◌∙◌, arith}
use Rattle.er_trace.specs.declared.record.Record.{Record}
use Rattle.er_history.specs.History.{told}
use Rattle.er_history.specs.Rules.{Rule}
use Rattle.er_history.proofs.HistoryLemmas.{edges_length, edges_stay}
use Rattle.er_paths.specs.links.Chains.{chain_of, place_of, entry}
use Rattle.er_paths.specs.links.Links.{links_of}
use Rattle.er_paths.proofs.links.Chains.{chains_stay}
use Rattle.er_paths.proofs.links.Links.{links_stay}
use Rattle.er_laws.specs.Kept.{edges_after, ChainsAreKept, LinksAreKept}

-- an action has its list of edges
has_list : (table : List (ℕ × Rule)) (h : List Record) (j : ℕ) → j < length (told h).actions → j < length (edges_after table h)
has_list table h j below = omega (arith, below, edges_length table (told h).actions)

pub chains_are_kept : ChainsAreKept
chains_are_kept table more h j c below =
    let stay = edges_stay table more h in
    let kept = chains_stay stay.0 (edges_after table h) j c (has_list table h j below) in (
      ap (λ (lists : List (List ℕ)). chain_of lists j) stay.1 ∙ kept.0,
      ap (λ (lists : List (List ℕ)). place_of lists j) stay.1 ∙ kept.1,
      ap (λ (lists : List (List ℕ)). entry lists j c) stay.1 ∙ kept.2,
    )

pub links_are_kept : LinksAreKept
links_are_kept table more h j below =
    let stay = edges_stay table more h in
    ap (λ (lists : List (List ℕ)). links_of lists j) stay.1 ∙ links_stay stay.0 (edges_after table h) j (has_list table h j below)
