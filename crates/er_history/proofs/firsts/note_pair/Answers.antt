use Rattle.std.proofs.Common.{◌∙◌, Some, None, ap, is_some, refl}
use Rattle.std.specs.Prelude.{if◌then◌else◌}
use Rattle.std.proofs.lemmas.Bool.{eq-eqb}
use Rattle.er_history.specs.Noted.{noted_in}
use Rattle.er_history.proofs.firsts.note_pair.Goals as goal

pub note-requires : goal.note-requires
note-requires g c = record {
  room = c.requires.room c.in-Some.number (ap (λ o. is_some (noted_in c.in-Some.number o)) c.in-Some.is ∙ ap (λ b. is_some (if b then Some c.in-Some.value else None)) (eq-eqb c.in-Some.number c.in-Some.number refl));
}
