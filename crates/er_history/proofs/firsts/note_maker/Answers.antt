use Rattle.std.proofs.Common.{◌∙◌, ap, refl}
use Rattle.std.proofs.lemmas.Bool.{eq-eqb}
use Rattle.er_history.specs.Noted.{is_number}
use Rattle.er_history.proofs.firsts.note_maker.Goals as goal

pub note-requires : goal.note-requires
note-requires c = record {
  room = c.requires.room c.in-Some.number (ap (is_number c.in-Some.number) c.in-Some.is ∙ eq-eqb c.in-Some.number c.in-Some.number refl);
}
