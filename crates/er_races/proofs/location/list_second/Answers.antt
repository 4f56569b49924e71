use Rattle.std.proofs.Common.{◌≡◌, ◌+◌, ◌<◌, ◌++◌, ℕ, List, length, subst, ap, ◌∙◌, sym, arith}
use Rattle.std.specs.Prelude.{OnOk, IfErr}
use Rattle.er_access.specs.Numbers.{accesses_of}
use Rattle.er_races.specs.declared.fault.ListFault.TheVariants.{TooManyRaces}
use Rattle.er_races.specs.Races.{most_races}
use Rattle.er_races.specs.Pairs.{with_second}
use Rattle.er_races.proofs.FrontLemmas.{asked_known, asked_len, asked_races, front_asked}
use Rattle.er_races.proofs.ListLemmas.{kept_count}
use Rattle.er_races.proofs.location.list_second.Goals as goal

pub list_front-requires-clause-known : goal.list_front-requires-clause-known
list_front-requires-clause-known g c =
    let accesses = accesses_of c.args.table.now in
    let asked = front_asked accesses c.args.earlier.now c.args.second c.args.columns.now c.access-access.result c.partners-column.result.numbers.now c.partners-column.result.actions.now c.front_len-count.result c.requires.earlier c.requires.columns c.access-access.ensures.access c.partners-column.ensures.numbers c.partners-column.ensures.actions c.front_len-count.ensures.len in
    asked_known (g.P.Paths.actions c.args.paths.now) accesses c.args.earlier.now c.args.second _ _ c.requires.known (let n = kept_count c.args.table.now in omega (arith, n, c.requires.second)) c.requires.earlier asked

pub list_front-requires-clause-room : goal.list_front-requires-clause-room
list_front-requires-clause-room g c =
    let accesses = accesses_of c.args.table.now in
    let asked = front_asked accesses c.args.earlier.now c.args.second c.args.columns.now c.access-access.result c.partners-column.result.numbers.now c.partners-column.result.actions.now c.front_len-count.result c.requires.earlier c.requires.columns c.access-access.ensures.access c.partners-column.ensures.numbers c.partners-column.ensures.actions c.front_len-count.ensures.len in
    let n = asked_len accesses c.args.earlier.now c.args.second _ _ asked in
    omega (arith, n, c.requires.room)

pub returns-clause-found : goal.returns-clause-found
returns-clause-found g c =
    let accesses = accesses_of c.args.table.now in
    let asked = front_asked accesses c.args.earlier.now c.args.second c.args.columns.now c.access-access.result c.partners-column.result.numbers.now c.partners-column.result.actions.now c.front_len-count.result c.requires.earlier c.requires.columns c.access-access.ensures.access c.partners-column.ensures.numbers c.partners-column.ensures.actions c.front_len-count.ensures.len in
    subst (λ (l : List ℕ). OnOk c.list_front.result (c.list_front.new.found.items ≡ c.args.found.now.items ++ with_second l c.args.second))
    (asked_races (g.P.Paths.joins c.args.paths.now) accesses c.args.earlier.now c.args.second c.access-access.result _ _ asked c.access-access.ensures.access) c.list_front.ensures.found

pub returns-clause-once : goal.returns-clause-once
returns-clause-once g c =
    let accesses = accesses_of c.args.table.now in
    let asked = front_asked accesses c.args.earlier.now c.args.second c.args.columns.now c.access-access.result c.partners-column.result.numbers.now c.partners-column.result.actions.now c.front_len-count.result c.requires.earlier c.requires.columns c.access-access.ensures.access c.partners-column.ensures.numbers c.partners-column.ensures.actions c.front_len-count.ensures.len in
    subst (λ (n : ℕ). OnOk c.list_front.result (c.list_front.new.meter ≡ c.args.meter.now + n)) (asked_len accesses c.args.earlier.now c.args.second _ _ asked) c.list_front.ensures.once

pub returns-clause-many : goal.returns-clause-many
returns-clause-many g c =
    let accesses = accesses_of c.args.table.now in
    let asked = front_asked accesses c.args.earlier.now c.args.second c.args.columns.now c.access-access.result c.partners-column.result.numbers.now c.partners-column.result.actions.now c.front_len-count.result c.requires.earlier c.requires.columns c.access-access.ensures.access c.partners-column.ensures.numbers c.partners-column.ensures.actions c.front_len-count.ensures.len in
    subst (λ (l : List ℕ). IfErr c.list_front.result (λ fault. fault ≡ TooManyRaces → most_races < length c.args.found.now.items + length l))
    (asked_races (g.P.Paths.joins c.args.paths.now) accesses c.args.earlier.now c.args.second c.access-access.result _ _ asked c.access-access.ensures.access) c.list_front.ensures.many

pub returns-clause-at_most : goal.returns-clause-at_most
returns-clause-at_most g c =
    let accesses = accesses_of c.args.table.now in
    let asked = front_asked accesses c.args.earlier.now c.args.second c.args.columns.now c.access-access.result c.partners-column.result.numbers.now c.partners-column.result.actions.now c.front_len-count.result c.requires.earlier c.requires.columns c.access-access.ensures.access c.partners-column.ensures.numbers c.partners-column.ensures.actions c.front_len-count.ensures.len in
    let n = asked_len accesses c.args.earlier.now c.args.second _ _ asked in
    omega (arith, n, c.list_front.ensures.at_most)
