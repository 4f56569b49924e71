use Rattle.std.proofs.Common.{◌≡◌, ◌∙◌, ap, refl, sym}
use Rattle.er_words.specs.declared.commands.Asked.{Asked}
use Rattle.er_words.specs.declared.commands.Command.TheVariants.{Gen}
use Rattle.er_run.specs.declared.outcome.Outcome.TheVariants.{ReadFault}
use Rattle.er_run.proofs.RunLemmas.{askable, asked_within, no_failure, no_faults, no_memory_run, no_usage, same_asked, same_command, split_within, usage_run}
use Rattle.er_run.proofs.run.Goals as goal

-- a trace that is read

pub serve_input-requires-clause-asked : goal.serve_input-requires-clause-asked
serve_input-requires-clause-asked g c κs within = rw c.in_shards-in_default.ensures (askable _ c.in-Ok.asked c.in-Ok.ensures.asked)

pub serve_input-requires-clause-reads : goal.serve_input-requires-clause-reads
serve_input-requires-clause-reads g c κs within = c.in_default.not-Gen

pub returns-in_default-clause-ran : goal.returns-in_default-clause-ran
returns-in_default-clause-ran g c = record {
  usage = λ is. absurd (c.serve_input.ensures.no_usage is);
  refused = λ none. absurd (none _ c.in-Ok.ensures.asked);
  served = λ asked asks.
      let same = same_asked _ c.in-Ok.asked asked c.in-Ok.is (c.read_words.ensures.exact asked asks) in
      rw same c.serve_input.ensures.served;
  reads = c.serve_input.ensures.reads;
  writes = c.serve_input.ensures.writes;
  no_fault = no_faults _ _ _ _ _ c.serve_input.ensures.reads c.serve_input.ensures.writes;
  rise = c.serve_input.ensures.rise;
}

pub returns-in_default-clause-generated : goal.returns-in_default-clause-generated
returns-in_default-clause-generated g c = λ asked n asks is.
    let same = same_asked _ c.in-Ok.asked asked c.in-Ok.is (c.read_words.ensures.exact asked asks) in
    absurd (c.in_default.not-Gen n (ap (λ (a : Asked). a.command) (sym same) ∙ is))

-- a generated trace

pub serve_generated-requires-clause-split : goal.serve_generated-requires-clause-split
serve_generated-requires-clause-split g c κs within = rw c.in_shards.ensures (split_within _ c.in-Ok.asked c.in-Ok.ensures.asked)

pub serve_generated-requires-clause-least : goal.serve_generated-requires-clause-least
serve_generated-requires-clause-least g c κs within = (asked_within _ _ c.in-Gen.number c.in-Gen.is c.in-Ok.ensures.asked).0

pub serve_generated-requires-clause-most : goal.serve_generated-requires-clause-most
serve_generated-requires-clause-most g c κs within = (asked_within _ _ c.in-Gen.number c.in-Gen.is c.in-Ok.ensures.asked).1

pub returns-in-Gen-clause-ran : goal.returns-in-Gen-clause-ran
returns-in-Gen-clause-ran g c =
    let left = g.S.Source.left c.args.source.now in
    let failed_reads = g.S.Source.faults c.args.source.now in
    let reads = no_failure ReadFault c.serve_generated.result failed_reads failed_reads c.serve_generated.ensures.no_read_fault refl in
    record {
      usage = λ is. absurd (c.serve_generated.ensures.no_usage is);
      refused = λ none. absurd (none _ c.in-Ok.ensures.asked);
      served = λ asked asks.
          let same : asked.command ≡ Gen c.in-Gen.number = same_command _ c.in-Ok.asked (Gen c.in-Gen.number) asked c.in-Ok.is c.in-Gen.is (c.read_words.ensures.exact asked asks) in
          rw same (c.serve_generated.ensures.served left failed_reads);
      reads = reads;
      writes = c.serve_generated.ensures.writes;
      no_fault = no_faults _ _ _ _ _ reads c.serve_generated.ensures.writes;
      rise = c.serve_generated.ensures.rise;
    }

-- words that ask for no command, and out of memory

pub returns-in-Err-Usage-clause-ran : goal.returns-in-Err-Usage-clause-ran
returns-in-Err-Usage-clause-ran g c = usage_run _ _ _ (λ asked asks.
    let none = no_usage _ _ asked c.in-Err-Usage.is (c.read_words.ensures.exact asked asks) in
    let usage = c.in-Err-Usage.field-0-is in
    absurd (cc))

pub returns-in-Err-Usage-clause-generated : goal.returns-in-Err-Usage-clause-generated
returns-in-Err-Usage-clause-generated g c = λ asked n asks is.
    let none = no_usage _ _ asked c.in-Err-Usage.is (c.read_words.ensures.exact asked asks) in
    let usage = c.in-Err-Usage.field-0-is in
    absurd (cc)

pub returns-in-Err-NoMemory-clause-ran : goal.returns-in-Err-NoMemory-clause-ran
returns-in-Err-NoMemory-clause-ran g c = no_memory_run _ _ _
