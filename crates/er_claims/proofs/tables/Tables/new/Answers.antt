use Rattle.std.proofs.Common.{[], ap, is_some, option_map, refl}
use Rattle.er_history.specs.LookUps.{place_of}
use Rattle.er_claims.specs.Claimed.{rank_of, element_of, setting_of}
use Rattle.er_history.proofs.FirstLemmas.{none_made, none_given}
use Rattle.er_history.proofs.RankLemmas.{none_ranked}
use Rattle.er_claims.proofs.tables.Tables.new.Goals as goal

pub returns : goal.returns
returns c = record {
  elements = record { made = λ k. ap (option_map element_of) (c.new.ensures k); known = λ k. ap is_some (c.new.ensures k) };
  timeouts = record { made = λ k. ap (option_map setting_of) (c.new-2.ensures k); known = λ k. ap is_some (c.new-2.ensures k) };
  ranked = none_ranked rank_of _ (place_of []) _ _ c.new-2.ensures (λ k. refl);
  documents = none_made _ _ c.new-3.ensures;
  handlers = none_made _ _ c.new-4.ensures;
  intervals = none_made _ _ c.new-5.ensures;
  requests = none_made _ _ c.new-6.ensures;
  runs = none_made _ _ c.new-7.ensures;
  callbacks = none_made _ _ c.new-8.ensures;
  begins = none_made _ _ c.new-9.ensures;
  closes = none_made _ _ c.new-10.ensures;
  frames = none_given _ _ _ c.new-11.ensures;
  dcls = none_given _ _ _ c.new-12.ensures;
  loads = none_given _ _ _ c.new-13.ensures;
  eloads = none_given _ _ _ c.new-14.ensures;
}
