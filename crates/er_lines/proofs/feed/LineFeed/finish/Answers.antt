use Rattle.std.proofs.Common.{◌≡◌, ◌∙◌, length, subst, sym, Some, None}
use Rattle.std.specs.Prelude.{Option}
use Rattle.er_text.specs.declared.causes.Cause.TheVariants.{NoEnd}
use Rattle.er_trace.specs.declared.fault.FeedFault.{FeedFault}
use Rattle.er_trace.specs.declared.fault.FeedFault.TheVariants.{Refused}
use Rattle.er_lines.specs.Feed.{Stands}
use Rattle.er_lines.specs.Marks.{number_at}
use Rattle.er_lines.proofs.StopLaws.{until, accepted, refused_end, missing, not_missing, Kept, Missing}
use Rattle.er_lines.proofs.feed.LineFeed.finish.Goals as goal

pub returns-in-Some-clause-refused : goal.returns-in-Some-clause-refused
returns-in-Some-clause-refused g c = λ n cause e bytes records stands.
    let is : c.args.self.now.fault ≡ Some (Refused n cause) = cc in
    (until g.L.Lines.format c.args.self.now.mark c.args.self.now.line.items bytes records n cause (subst (λ (o : Option FeedFault). Stands g.L.Lines.format c.args.self.now.mark c.args.self.now.line.items o bytes records) is stands)).1

pub returns-in-Some-clause-accepts : goal.returns-in-Some-clause-accepts
returns-in-Some-clause-accepts g c = λ version bytes list records is stands.
    let at = accepted g.L.Lines.format g.met.L.Lines.is_format c.args.self.now.mark c.args.self.now.line.items bytes records list version c.args.self.now.fault is stands in
    let no : None ≡ Some c.in-Some.answered = sym at.0 ∙ c.in-Some.is in
    absurd (cc)

pub returns-in-Some-clause-refuses : goal.returns-in-Some-clause-refuses
returns-in-Some-clause-refuses g c = λ bytes records place cause stands is.
    elim (refused_end g.L.Lines.format g.met.L.Lines.is_format c.args.self.now.mark c.args.self.now.line.items bytes records c.args.self.now.fault place cause stands is) [
      | Kept same ↦ cc
      | Missing none numbered same early ↦ absurd (cc)
    ]

pub returns-in-Ended-clause-refuses : goal.returns-in-Ended-clause-refuses
returns-in-Ended-clause-refuses g c = λ bytes records place cause stands is.
    absurd (not_missing g.L.Lines.format g.met.L.Lines.is_format c.args.self.now.mark c.args.self.now.line.items bytes records c.args.self.now.fault place cause c.in-Ended.field-0 c.in-Ended.field-1 c.in_default.is c.in-Ended.is stands is)

pub returns-in_default-mark-clause-refused : goal.returns-in_default-mark-clause-refused
returns-in_default-mark-clause-refused g c = λ n cause e bytes records stands.
    let numbered : n ≡ number_at c.args.self.now.mark = cc in
    let same : cause ≡ NoEnd = cc in
    missing g.L.Lines.format c.args.self.now.mark c.args.self.now.line.items bytes records c.args.self.now.fault n cause c.in_default.is c.in_default-mark.not-Ended stands numbered same

pub returns-in_default-mark-clause-accepts : goal.returns-in_default-mark-clause-accepts
returns-in_default-mark-clause-accepts g c = λ version bytes list records is stands.
    let at = accepted g.L.Lines.format g.met.L.Lines.is_format c.args.self.now.mark c.args.self.now.line.items bytes records list version c.args.self.now.fault is stands in
    absurd (c.in_default-mark.not-Ended at.1.0 (length records) at.1.1)

pub returns-in_default-mark-clause-refuses : goal.returns-in_default-mark-clause-refuses
returns-in_default-mark-clause-refuses g c = λ bytes records place cause stands is.
    elim (refused_end g.L.Lines.format g.met.L.Lines.is_format c.args.self.now.mark c.args.self.now.line.items bytes records c.args.self.now.fault place cause stands is) [
      | Kept same ↦ absurd (cc)
      | Missing none numbered same early ↦ cc
    ]
