use Rattle.std.proofs.Common.{[], ◌++◌, refl, sym, ◌∙◌, arith, length-append}
use Rattle.er_io.proofs.Puts.{gives_again, gives_nothing}
use Rattle.er_run.proofs.ReadingLemmas.{none_begins, none_open, ends_made, going_short, reads_stand, undecided}
use Rattle.er_run.proofs.input.read.Goals as goal

pub loop-turn-init : goal.loop-turn-init
loop-turn-init g c = record {
  here = record { bytes = []; records = []; at = record { fed = c.new-feed.ensures.stands; taken = refl; by = (λ v e. absurd (cc), λ e v begins. none_begins g.L.Lines.format v begins) } };
  ahead = none_open g.L.Lines.format [];
  gave = gives_nothing (g.S.Source.left c.args.source.now);
  going = c.new-feed.ensures.going;
  long = omega arith;
  stands = refl;
}

pub loop-turn-preserved : goal.loop-turn-preserved
loop-turn-preserved g c =
    let h = c.loop-turn.invariant.here in
    let a = c.in-Ok-GoesOn.ensures.on (cc) h.bytes h.records h.at in
    let before = c.loop-turn.invariant.long in
    record {
      here = record { bytes = h.bytes ++ a.chunk; records = h.records ++ a.on.0; at = a.on.1 };
      ahead = c.in-Ok-GoesOn.ensures.ahead (cc) (h.bytes ++ a.chunk) (h.records ++ a.on.0) a.on.1;
      gave = gives_again _ _ _ h.bytes a.chunk c.loop-turn.invariant.gave a.gave;
      going = c.in-Ok-GoesOn.ensures.going (cc);
      long = omega (arith, before, a.some, length-append h.bytes a.chunk);
      stands = c.in-Ok-GoesOn.ensures.reads.stands (λ e. cc) ∙ c.loop-turn.invariant.stands;
    }

pub returns-in-Ok-Ended-clause-read : goal.returns-in-Ok-Ended-clause-read
returns-in-Ok-Ended-clause-read g c =
    let i = c.loop-turn.invariant in
    record {
      bytes = i.here.bytes;
      left = g.S.Source.left c.loop-turn.source;
      before = record { gave = i.gave; fresh = λ asked. undecided g.L.Lines.format g.met.L.Lines.is_format asked c.loop-turn.feed.mark c.loop-turn.feed.line.items c.loop-turn.feed.fault c.loop-turn.session i.here.bytes i.here.records i.here.at i.going i.ahead };
      ends = ends_made g.L.Lines.format (g.S.Source.left c.loop-turn.source) (g.S.Source.left c.read_chunk.new.source) c.read_chunk.new.session c.in-Ok.made c.in-Ok-Ended.refused i.here.bytes c.in-Ok.ensures.stands c.in-Ok.ensures.version (c.in-Ok-Ended.ensures.ended c.in-Ok-Ended.refused (cc) i.here.bytes i.here.records i.here.at);
    }

pub returns-in-Err-clause-refused : goal.returns-in-Err-clause-refused
returns-in-Err-clause-refused g c = λ n cause is.
    let i = c.loop-turn.invariant in
    record {
      bytes = i.here.bytes;
      left = g.S.Source.left c.loop-turn.source;
      before = record { gave = i.gave; fresh = λ asked. undecided g.L.Lines.format g.met.L.Lines.is_format asked c.loop-turn.feed.mark c.loop-turn.feed.line.items c.loop-turn.feed.fault c.loop-turn.session i.here.bytes i.here.records i.here.at i.going i.ahead };
      refused = c.in-Err.ensures.refused n cause (cc) i.here.bytes i.here.records i.here.at;
    }

pub returns-in-Ok-Ended-clause-reads : goal.returns-in-Ok-Ended-clause-reads
returns-in-Ok-Ended-clause-reads g c = reads_stand _ _ _ (λ e. cc) (c.in-Ok-Ended.ensures.reads.stands (λ e. cc) ∙ c.loop-turn.invariant.stands)

pub returns-in_default-clause-reads : goal.returns-in_default-clause-reads
returns-in_default-clause-reads g c = reads_stand _ _ _ (λ e. cc) (c.in-Ok-Ended.ensures.reads.stands (λ e. cc) ∙ c.loop-turn.invariant.stands)

pub returns-in-Err-clause-reads : goal.returns-in-Err-clause-reads
returns-in-Err-clause-reads g c =
    let before = c.loop-turn.invariant.stands in
    let reads = c.in-Err.ensures.reads in
    record {
      rose = λ is. rw before at (reads.rose (cc));
      once = λ is. rw before at (reads.once (cc));
      stands = λ other. reads.stands (λ e. other (cc)) ∙ before;
      count = omega (arith, reads.count, before);
    }

pub unreachable-requires : goal.unreachable-requires
unreachable-requires g c =
    let h = c.loop-turn.invariant.here in
    let short = going_short g.L.Lines.format c.loop-turn.feed.mark c.loop-turn.feed.line.items c.loop-turn.feed.fault h.bytes h.records (rw (sym g.met.L.Lines.most) g.met.L.Lines.small) c.loop-turn.invariant.going h.at.fed in
    let long = c.loop-turn.invariant.long in
    omega (arith, short, long, c.loop-turn-test.false)
