use Rattle.std.proofs.Common.{◌++◌}
use Rattle.er_run.specs.Reading.{IsGiven}
use Rattle.er_run.proofs.ReadingLemmas.{may_take, on_by, final_by}
use Rattle.er_run.proofs.input.feed_chunk.Goals as goal

pub take_records-requires : goal.take_records-requires
take_records-requires g c =
    let fed = rw c.clear.ensures.items at (c.feed.ensures.fed (λ e. cc) c.requires.bytes c.requires.records c.requires.at.fed) in
    let given : IsGiven g.L.Lines.format c.version.result (c.requires.bytes ++ c.args.chunk.now) = (λ v e. c.version.ensures.given v e (c.requires.bytes ++ c.args.chunk.now) (c.requires.records ++ fed.0) fed.1, λ e v. c.version.ensures.none e (c.requires.bytes ++ c.args.chunk.now) (c.requires.records ++ fed.0) fed.1 v) in
    rw c.as_slice.ensures.value (may_take g.L.Lines.format g.met.L.Lines.is_format c.args.feed.now.mark c.feed.new.self.mark c.args.feed.now.line.items c.feed.new.self.line.items c.args.feed.now.fault c.feed.new.self.fault c.args.session.now c.version.result c.requires.bytes c.args.chunk.now c.requires.records c.feed.new.out.items c.requires.at fed given)

pub returns-in_default-clause-on : goal.returns-in_default-clause-on
returns-in_default-clause-on g c = λ bytes records at.
    let fed = rw c.clear.ensures.items at (c.feed.ensures.fed (λ e. cc) bytes records at.fed) in
    let given : IsGiven g.L.Lines.format c.version.result (bytes ++ c.args.chunk.now) = (λ v e. c.version.ensures.given v e (bytes ++ c.args.chunk.now) (records ++ fed.0) fed.1, λ e v. c.version.ensures.none e (bytes ++ c.args.chunk.now) (records ++ fed.0) fed.1 v) in
    on_by g.L.Lines.format c.feed.new.self.mark c.feed.new.self.line.items c.feed.new.self.fault c.take_records.new.session c.version.result (bytes ++ c.args.chunk.now) records c.feed.new.out.items fed c.in_default.ensures.version given (rw c.as_slice.ensures.value at (c.in_default.ensures.taken records at.taken))

pub returns-in-Err-clause-refused : goal.returns-in-Err-clause-refused
returns-in-Err-clause-refused g c = λ bytes records at.
    let fed = rw c.clear.ensures.items at (c.feed.ensures.fed (λ e. cc) bytes records at.fed) in
    let given : IsGiven g.L.Lines.format c.version.result (bytes ++ c.args.chunk.now) = (λ v e. c.version.ensures.given v e (bytes ++ c.args.chunk.now) (records ++ fed.0) fed.1, λ e v. c.version.ensures.none e (bytes ++ c.args.chunk.now) (records ++ fed.0) fed.1 v) in
    final_by g.L.Lines.format g.met.L.Lines.is_format c.version.result c.feed.new.self.mark c.feed.new.self.line.items c.feed.new.self.fault (bytes ++ c.args.chunk.now) records c.feed.new.out.items c.in-Err.fault fed given (rw c.as_slice.ensures.value at (c.in-Err.ensures.refused records at.taken))

-- a line of the chunk is refused

pub take_records-requires-in-Err-Refused : goal.take_records-requires-in-Err-Refused
take_records-requires-in-Err-Refused g c =
    let fed = rw c.clear.ensures.items at (c.feed.ensures.fed (λ e. cc) c.requires.bytes c.requires.records c.requires.at.fed) in
    let given : IsGiven g.L.Lines.format c.version-in-Err-Refused.result (c.requires.bytes ++ c.args.chunk.now) = (λ v e. c.version-in-Err-Refused.ensures.given v e (c.requires.bytes ++ c.args.chunk.now) (c.requires.records ++ fed.0) fed.1, λ e v. c.version-in-Err-Refused.ensures.none e (c.requires.bytes ++ c.args.chunk.now) (c.requires.records ++ fed.0) fed.1 v) in
    rw c.as_slice-in-Err-Refused.ensures.value (may_take g.L.Lines.format g.met.L.Lines.is_format c.args.feed.now.mark c.feed.new.self.mark c.args.feed.now.line.items c.feed.new.self.line.items c.args.feed.now.fault c.feed.new.self.fault c.args.session.now c.version-in-Err-Refused.result c.requires.bytes c.args.chunk.now c.requires.records c.feed.new.out.items c.requires.at fed given)

pub returns-in_default-take_records-clause-on : goal.returns-in_default-take_records-clause-on
returns-in_default-take_records-clause-on g c = λ bytes records at.
    let fed = rw c.clear.ensures.items at (c.feed.ensures.fed (λ e. cc) bytes records at.fed) in
    let given : IsGiven g.L.Lines.format c.version-in-Err-Refused.result (bytes ++ c.args.chunk.now) = (λ v e. c.version-in-Err-Refused.ensures.given v e (bytes ++ c.args.chunk.now) (records ++ fed.0) fed.1, λ e v. c.version-in-Err-Refused.ensures.none e (bytes ++ c.args.chunk.now) (records ++ fed.0) fed.1 v) in
    on_by g.L.Lines.format c.feed.new.self.mark c.feed.new.self.line.items c.feed.new.self.fault c.take_records-in-Err-Refused.new.session c.version-in-Err-Refused.result (bytes ++ c.args.chunk.now) records c.feed.new.out.items fed c.in_default-take_records.ensures.version given (rw c.as_slice-in-Err-Refused.ensures.value at (c.in_default-take_records.ensures.taken records at.taken))

pub returns-in-Err-take_records-clause-refused : goal.returns-in-Err-take_records-clause-refused
returns-in-Err-take_records-clause-refused g c = λ bytes records at.
    let fed = rw c.clear.ensures.items at (c.feed.ensures.fed (λ e. cc) bytes records at.fed) in
    let given : IsGiven g.L.Lines.format c.version-in-Err-Refused.result (bytes ++ c.args.chunk.now) = (λ v e. c.version-in-Err-Refused.ensures.given v e (bytes ++ c.args.chunk.now) (records ++ fed.0) fed.1, λ e v. c.version-in-Err-Refused.ensures.none e (bytes ++ c.args.chunk.now) (records ++ fed.0) fed.1 v) in
    final_by g.L.Lines.format g.met.L.Lines.is_format c.version-in-Err-Refused.result c.feed.new.self.mark c.feed.new.self.line.items c.feed.new.self.fault (bytes ++ c.args.chunk.now) records c.feed.new.out.items c.in-Err-take_records.fault fed given (rw c.as_slice-in-Err-Refused.ensures.value at (c.in-Err-take_records.ensures.refused records at.taken))
