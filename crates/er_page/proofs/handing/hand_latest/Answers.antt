use Rattle.std.proofs.Common.{false, refl, ap, ◌∙◌}
use Rattle.std.specs.Prelude.{◌==◌}
use Rattle.std.proofs.lemmas.Bool.{eq-eqb}
use Rattle.er_paths.specs.Paths.{is_among}
use Rattle.er_paths.proofs.Paths.{or_left}
use Rattle.er_pieces.specs.Contract.{listed}
use Rattle.er_page.proofs.HandingLemmas.{one_event}
use Rattle.er_page.proofs.handing.hand_latest.Goals as goal

pub latest_piece-requires : goal.latest_piece-requires
latest_piece-requires c = record {
  is_event = one_event c.args.page.now (listed c.args.event) c.in-Some.event
      (ap (λ o. is_among c.in-Some.event (listed o)) c.in-Some.is ∙ or_left (c.in-Some.event == c.in-Some.event) false (eq-eqb c.in-Some.event c.in-Some.event refl)) c.requires.events;
}
