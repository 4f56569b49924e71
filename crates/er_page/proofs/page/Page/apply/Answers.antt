use Rattle.std.proofs.Common.{ap, sym, ◌∙◌}
use Rattle.std.specs.Prelude.{option_map}
use Rattle.std.proofs.lemmas.Result.{on_ok_weaker, on_err_weaker}
use Rattle.er_page.specs.Pieces.{about_start}
use Rattle.er_page.proofs.AcceptedLemmas.{accepted_named}
use Rattle.er_page.proofs.TakenLemmas.{next_kept}
use Rattle.er_page.proofs.page.Page.apply.Goals as goal

pub begin-requires : goal.begin-requires
begin-requires c = record {
  next = next_kept c.args.self.now c.make_room.new.self c.args.rec.now c.in_ok-make_room.ensures.kept c.requires.next;
  claimed = c.in_ok-make_room.ensures.claimed;
  tasks = c.in_ok-make_room.ensures.tasks;
}

pub returns-in-Some : goal.returns-in-Some
returns-in-Some c = record {
  taken = on_ok_weaker c.begin.result (λ taken h is named fits.
      let kept = c.in_ok-make_room.ensures.kept h is in
      taken h kept (named, fits) (ap (option_map about_start) (sym c.in-Some.is) ∙ c.start_of.ensures h kept.stack kept.pieces (named, accepted_named h is.accepted))) c.begin.ensures.taken;
  kept = on_err_weaker c.begin.result (λ kept h is. kept h (c.in_ok-make_room.ensures.kept h is)) c.begin.ensures.kept;
}

pub returns-in-None : goal.returns-in-None
returns-in-None c = record {
  taken = λ h is named fits.
      let kept = c.in_ok-make_room.ensures.kept h is in
      c.note.ensures h kept (named, fits) (ap (option_map about_start) (sym c.in-None.is) ∙ c.start_of.ensures h kept.stack kept.pieces (named, accepted_named h is.accepted));
  kept = tt;
}
