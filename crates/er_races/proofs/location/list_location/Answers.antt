use Rattle.std.proofs.Common.{◌≡◌, ◌+◌, ◌<◌, ◌++◌, ℕ, List, length, get_or, take, subst, ap, ◌∙◌, sym, arith}
use Rattle.std.specs.List.Sorted.{IsPermutation}
use Rattle.er_access.specs.Numbers.{accesses_of}
use Rattle.er_races.specs.declared.race.Race.{Race}
use Rattle.er_races.specs.Fronts.{AreColumns}
use Rattle.er_races.specs.Listing.{candidate, race}
use Rattle.er_races.proofs.FrontLemmas.{front_of}
use Rattle.er_races.proofs.ListLemmas.{candidate_narrow, race_narrow, rows_known, rows_rise}
use Rattle.er_races.proofs.SecondLemmas.{all_is, fits, listed_len, next_count, next_listed, take_next}
use Rattle.er_races.proofs.location.list_location.Goals as goal

pub list_second-requires-clause-second : goal.list_second-requires-clause-second
list_second-requires-clause-second g c = rows_known c.args.table.now c.args.k c.rows-rows.result.now c.rows-rows.ensures.rows c.loop-n.n 0 c.loop-n-test.true

pub list_second-requires-clause-earlier : goal.list_second-requires-clause-earlier
list_second-requires-clause-earlier g c = front_of (accesses_of c.args.table.now) c.args.k c.loop-n.n c.rows-rows.result.now c.rows-rows.ensures.ordered c.rows-rows.ensures.rows c.loop-n-test.true

pub list_second-requires-clause-room : goal.list_second-requires-clause-room
list_second-requires-clause-room g c =
    let accesses = accesses_of c.args.table.now in
    let rows = c.rows-rows.result.now in
    let narrow = candidate_narrow accesses in
    let next = next_count accesses (candidate accesses) narrow rows c.loop-n.n (rows_rise accesses c.args.k rows c.rows-rows.ensures.rows) c.loop-n-test.true in
    let fit = fits accesses (candidate accesses) narrow c.args.k (c.loop-n.n + 1) rows c.rows-rows.ensures.rows (omega (arith, c.loop-n-test.true)) in
    omega (arith, next, fit, c.loop-n.invariant.counted, c.requires.room)

pub returns-in-Err-clause-many : goal.returns-in-Err-clause-many
returns-in-Err-clause-many g c = λ e.
    let accesses = accesses_of c.args.table.now in
    let rows = c.rows-rows.result.now in
    let t = race (g.P.Paths.joins c.args.paths.now) accesses in
    let narrow = race_narrow (g.P.Paths.joins c.args.paths.now) accesses in
    let next = next_count accesses t narrow rows c.loop-n.n (rows_rise accesses c.args.k rows c.rows-rows.ensures.rows) c.loop-n-test.true in
    let fit = fits accesses t narrow c.args.k (c.loop-n.n + 1) rows c.rows-rows.ensures.rows (omega (arith, c.loop-n-test.true)) in
    let over = c.in-Err.ensures.many e in
    let found = listed_len t rows c.loop-n.n c.args.found.now.items c.loop-n.found.items c.loop-n.invariant.listed in
    omega (arith, next, fit, over, found)

pub returns-in-Err-clause-at_most : goal.returns-in-Err-clause-at_most
returns-in-Err-clause-at_most g c =
    let accesses = accesses_of c.args.table.now in
    let rows = c.rows-rows.result.now in
    let narrow = candidate_narrow accesses in
    let next = next_count accesses (candidate accesses) narrow rows c.loop-n.n (rows_rise accesses c.args.k rows c.rows-rows.ensures.rows) c.loop-n-test.true in
    let fit = fits accesses (candidate accesses) narrow c.args.k (c.loop-n.n + 1) rows c.rows-rows.ensures.rows (omega (arith, c.loop-n-test.true)) in
    let least = c.in-Err.ensures.at_most in
    omega (arith, next, fit, least, c.loop-n.invariant.counted)

pub note-requires : goal.note-requires
note-requires g c = rows_known c.args.table.now c.args.k c.rows-rows.result.now c.rows-rows.ensures.rows c.loop-n.n 0 c.loop-n-test.true

pub returns-in_err-note-clause-at_most : goal.returns-in_err-note-clause-at_most
returns-in_err-note-clause-at_most g c =
    let accesses = accesses_of c.args.table.now in
    let rows = c.rows-rows.result.now in
    let narrow = candidate_narrow accesses in
    let next = next_count accesses (candidate accesses) narrow rows c.loop-n.n (rows_rise accesses c.args.k rows c.rows-rows.ensures.rows) c.loop-n-test.true in
    let fit = fits accesses (candidate accesses) narrow c.args.k (c.loop-n.n + 1) rows c.rows-rows.ensures.rows (omega (arith, c.loop-n-test.true)) in
    let least = c.in_default.ensures.at_most in
    omega (arith, next, fit, least, c.loop-n.invariant.counted)

pub loop-n-preserved : goal.loop-n-preserved
loop-n-preserved g c =
    let accesses = accesses_of c.args.table.now in
    let rows = c.rows-rows.result.now in
    let t = race (g.P.Paths.joins c.args.paths.now) accesses in
    let up = rows_rise accesses c.args.k rows c.rows-rows.ensures.rows in
    let next = next_count accesses (candidate accesses) (candidate_narrow accesses) rows c.loop-n.n up c.loop-n-test.true in
    let once = c.in_default.ensures.once in
    record {
      columns = subst (λ (l : List ℕ). AreColumns accesses l c.note.new.self) (take_next rows c.loop-n.n c.loop-n-test.true) (c.in_ok-note.ensures (take c.loop-n.n rows) c.loop-n.invariant.columns);
      listed = next_listed accesses t (race_narrow (g.P.Paths.joins c.args.paths.now) accesses) rows c.loop-n.n c.args.found.now.items c.loop-n.found.items c.list_second.new.found.items up c.loop-n-test.true c.loop-n.invariant.listed c.in_default.ensures.found;
      counted = omega (arith, next, once, c.loop-n.invariant.counted);
      few = c.in_default.ensures.few;
    }

pub returns-clause-found : goal.returns-clause-found
returns-clause-found g c =
    let accesses = accesses_of c.args.table.now in
    let joined = g.P.Paths.joins c.args.paths.now in
    subst (λ (l : List Race). IsPermutation c.loop-n.found.items (c.args.found.now.items ++ l))
    (all_is accesses (race joined accesses) (race_narrow joined accesses) c.args.k c.loop-n.n c.rows-rows.result.now c.rows-rows.ensures.rows c.loop-n-test.false) c.loop-n.invariant.listed

pub returns-clause-once : goal.returns-clause-once
returns-clause-once g c =
    let accesses = accesses_of c.args.table.now in
    let all = ap length (all_is accesses (candidate accesses) (candidate_narrow accesses) c.args.k c.loop-n.n c.rows-rows.result.now c.rows-rows.ensures.rows c.loop-n-test.false) in
    omega (arith, all, c.loop-n.invariant.counted)

pub returns-clause-at_most : goal.returns-clause-at_most
returns-clause-at_most g c =
    let accesses = accesses_of c.args.table.now in
    let all = ap length (all_is accesses (candidate accesses) (candidate_narrow accesses) c.args.k c.loop-n.n c.rows-rows.result.now c.rows-rows.ensures.rows c.loop-n-test.false) in
    omega (arith, all, c.loop-n.invariant.counted)
