use Rattle.std.proofs.Common.{refl, sym, ◌∙◌}
use Rattle.er_page.proofs.TakenLemmas.{page_noted, note_somewhere}
use Rattle.er_page.proofs.page.Page.note.Goals as goal

pub returns-in-Some : goal.returns-in-Some
returns-in-Some c = λ h is next starts. page_noted c.args.self.now _ h c.args.rec.now c.in-Some.now is next starts (sym c.now.ensures ∙ c.in-Some.is) (c.take.ensures h is.claimed) (c.take-in-Some.ensures h is.tasks) refl refl refl refl

pub returns-in_default : goal.returns-in_default
returns-in_default c = λ h is next starts. absurd (note_somewhere c.args.self.now h c.args.rec.now is next starts (sym c.now.ensures ∙ c.in_default.is))
