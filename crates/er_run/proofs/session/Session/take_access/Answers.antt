use Rattle.std.proofs.Common.{refl}
use Rattle.std.proofs.lemmas.Result.{on_ok_weaker, IfErr-weaker}
use Rattle.er_trace.specs.declared.record.Record.TheVariants.{Access}
use Rattle.er_run.proofs.SessionLemmas.{accessed, in_earlier_lines, of_earlier_actions, fault_after, refused_room}
use Rattle.er_run.proofs.session.Session.take_access.Goals as goal

pub keep_access-requires-clause-lines : goal.keep_access-requires-clause-lines
keep_access-requires-clause-lines c = in_earlier_lines c.args.self.now c.requires.some.list c.args.line c.requires.some.stands c.requires.line

pub keep_access-requires-clause-actions : goal.keep_access-requires-clause-actions
keep_access-requires-clause-actions c = of_earlier_actions c.args.self.now c.requires.some.list c.args.line c.in-Ok.action c.args.mode c.args.loc.now c.requires.some.stands c.in-Ok.ensures.accepted

pub returns-in-Ok-clause-taken : goal.returns-in-Ok-clause-taken
returns-in-Ok-clause-taken c = on_ok_weaker c.keep_access.result (λ keeps h stands. accessed c.args.self.now _ h c.args.line c.in-Ok.action c.args.mode c.args.loc.now stands c.requires.line c.in-Ok.ensures.accepted refl refl keeps) c.keep_access.ensures.kept

pub returns-in-Ok-clause-refused : goal.returns-in-Ok-clause-refused
returns-in-Ok-clause-refused c = IfErr-weaker c.keep_access.result _ _ (λ fault is h stands. refused_room c.args.self.now h c.args.line c.in-Ok.action c.args.mode c.args.loc.now fault stands c.requires.line c.in-Ok.ensures.accepted is) c.keep_access.ensures.refused

pub returns-in-Err-clause-refused : goal.returns-in-Err-clause-refused
returns-in-Err-clause-refused c = λ h stands. fault_after c.args.self.now c.args.self.now.graph h (Access c.args.mode c.args.loc.now) c.args.line c.in-Err.fault stands c.requires.line (c.in-Err.ensures.refused c.args.mode c.args.loc.now)
