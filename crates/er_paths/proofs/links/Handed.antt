-- Chains and links over handed lists that are enough.
use Rattle.er_paths.specs.links.Laws.{HandedChains, HandedLinks}
use Rattle.er_paths.proofs.Paths.{enough_long, handed_paths}
use Rattle.er_paths.proofs.links.Chains.{chains_of_paths}
use Rattle.er_paths.proofs.links.Links.{links_of_paths}

pub handed_chains : HandedChains
handed_chains handed lists enough = chains_of_paths handed lists (enough_long handed lists enough) (λ i j. handed_paths handed lists i j enough)

pub handed_links : HandedLinks
handed_links handed lists enough = links_of_paths handed lists (enough_long handed lists enough) (λ i j. handed_paths handed lists i j enough)
