use Rattle.std.proofs.Common.{◌≡◌, ◌∷◌, None, refl, sym, subst}
use Rattle.er_trace.specs.declared.record.Record.{Record}
use Rattle.er_graph.specs.Accepted.{cause_now}
use Rattle.er_graph.specs.Graph.{IsGraph, IsFault}
use Rattle.er_graph.proofs.PartLemmas.{ok_none, err_some}
use Rattle.er_graph.proofs.GraphLemmas.{next_parts}
use Rattle.er_graph.proofs.graph.Graph.accept.Goals as goal

pub returns-in-Ok-clause-accepted : goal.returns-in-Ok-clause-accepted
returns-in-Ok-clause-accepted c = λ accepted graph.
    let took = c.in-Ok.ensures.accepted accepted c.in-Access.mode c.in-Access.loc graph in
    subst (λ (x : Record). (cause_now c.args.self.now.version accepted x ≡ None) × IsGraph c.args.self.now (record { line = c.args.line; read = x } ∷ accepted)) (sym c.in-Access.is) (took.legal, took.stands)

pub returns-in-Err-clause-refused : goal.returns-in-Err-clause-refused
returns-in-Err-clause-refused c = subst (λ (x : Record). IsFault c.in-Err.fault c.args.line x c.args.self.now c.args.self.now) (sym c.in-Access.is) (c.in-Err.ensures.refused c.in-Access.mode c.in-Access.loc)

pub returns-in-Err-check-clause-refused : goal.returns-in-Err-check-clause-refused
returns-in-Err-check-clause-refused c = (refl, refl, λ accepted listed. err_some (cause_now c.args.self.now.version accepted c.args.rec.now) c.in-Err-check.cause (c.in-Err-check.ensures accepted listed))

pub take-requires : goal.take-requires
take-requires c =
    let self = c.args.self.now in
    record { of_version = c.requires.of_version; next = next_parts self.version self.page self.clocks self.lines.items self.has_failed c.args.rec.now self.stands c.if-self.false (λ accepted listed. ok_none (cause_now c.args.self.now.version accepted c.args.rec.now) (c.in_default-check.ensures accepted listed)) }

pub returns-clause-accepted : goal.returns-clause-accepted
returns-clause-accepted c = λ accepted graph.
    let legal = ok_none (cause_now c.args.self.now.version accepted c.args.rec.now) (c.in_default-check.ensures accepted graph.listed) in
    (legal, c.in-Ok-take.ensures.taken accepted graph legal)
