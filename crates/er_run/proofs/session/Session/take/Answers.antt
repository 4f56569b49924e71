use Rattle.std.proofs.Common.{◌∷◌, List, refl, sym, subst}
use Rattle.std.specs.Prelude.{OnOk, IfErr}
use Rattle.er_trace.specs.declared.record.Record.{Record}
use Rattle.er_run.specs.Session.{IsSessionOf, IsFaultAfter}
use Rattle.er_run.proofs.AccessLemmas.{not_access}
use Rattle.er_run.proofs.SessionLemmas.{noted, fault_after}
use Rattle.er_run.proofs.session.Session.take.Goals as goal

pub returns-in-Access-clause-taken : goal.returns-in-Access-clause-taken
returns-in-Access-clause-taken c = subst (λ (x : Record). OnOk c.take_access.result ((h : List Record) → IsSessionOf c.args.self.now h → IsSessionOf c.take_access.new.self (x ∷ h))) (sym c.in-Access.is) c.take_access.ensures.taken

pub returns-in-Access-clause-refused : goal.returns-in-Access-clause-refused
returns-in-Access-clause-refused c = subst (λ (x : Record). IfErr c.take_access.result (λ fault. (h : List Record) → IsSessionOf c.args.self.now h → IsFaultAfter c.args.self.now.graph.version h x fault)) (sym c.in-Access.is) c.take_access.ensures.refused

pub returns-in-Err-clause-refused : goal.returns-in-Err-clause-refused
returns-in-Err-clause-refused c = λ h stands. fault_after c.args.self.now c.accept.new.self h c.args.rec.now c.next_line-line.result c.in-Err.fault stands c.next_line-line.ensures c.in-Err.ensures.refused

pub returns-clause-taken : goal.returns-clause-taken
returns-clause-taken c = λ h stands.
    noted c.args.self.now _ h c.args.rec.now c.next_line-line.result stands c.next_line-line.ensures c.in_default-accept.ensures.accepted (not_access c.args.rec.now c.in_default.not-Access) c.accept.ensures.version refl refl
