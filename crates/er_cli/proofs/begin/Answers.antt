use Rattle.std.proofs.Common.{refl}
use Rattle.er_run.specs.declared.meters.Meters.{Meters}
use Rattle.er_run.specs.declared.outcome.Outcome.TheVariants.{NoMemory}
use Rattle.er_run.proofs.RunLemmas.{no_memory_run}
use Rattle.er_cli.proofs.begin.Goals as goal

-- memory ran out before anything was read or written
pub returns-in_default : goal.returns-in_default
returns-in_default g c =
    let none : Meters = record { compares = 0; tests = 0 } in
    record {
      outcome = NoMemory;
      from = none;
      to = none;
      from_zero = (refl, refl);
      status_is = c.finish.ensures.status;
      line_is = c.finish.ensures.line;
      ran = no_memory_run _ _ none;
      unread = λ e. refl;
      generated = λ asked n asks is. (refl, λ e. cc);
      unwritten = λ silent. refl;
    }
