use Rattle.std.proofs.Common.{refl}
use Rattle.er_access.specs.Kept.{access_of}
use Rattle.er_run.proofs.AccessLemmas.{added}
use Rattle.er_run.proofs.session.keep_access.Goals as goal

pub returns-in-Ok-clause-kept : goal.returns-in-Ok-clause-kept
returns-in-Ok-clause-kept c =
    added (access_of c.args.line c.args.action c.args.mode c.args.loc.now) c.args.kept.now _ c.in-Ok.ensures.accesses (λ full. let no = c.add.ensures.exact full in let is = c.in-Ok.is in cc)

pub returns-in-Err-Full-clause-refused : goal.returns-in-Err-Full-clause-refused
returns-in-Err-Full-clause-refused c = (refl, refl, c.add.ensures.full (rw c.in-Err-Full.field-0-is at c.in-Err-Full.is))

pub returns-in-Err-NoMemory-clause-refused : goal.returns-in-Err-NoMemory-clause-refused
returns-in-Err-NoMemory-clause-refused c = λ full. let no = c.add.ensures.exact full in let is = c.in-Err-NoMemory.is in let field = c.in-Err-NoMemory.field-0-is in cc
