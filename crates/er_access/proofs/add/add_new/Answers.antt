use Rattle.std.proofs.Common.{rules, ◌≡◌, ◌∙◌}
use Rattle.er_access.specs.Numbers.{with_location}
use Rattle.er_access.proofs.LocationLemmas.{is_new}
use Rattle.er_access.proofs.TableLemmas.{new_table}
use Rattle.er_access.proofs.add.add_new.Goals as goal

pub returns-clause-locations : goal.returns-clause-locations
returns-clause-locations c =
    let grown : c.insert.new.self.keys ≡ with_location c.args.loc.now c.args.keys.now.keys = search rules in
    grown ∙ is_new c.args.loc.now c.args.keys.now.keys c.requires.absent

pub returns-clause-table : goal.returns-clause-table
returns-clause-table c = λ pairs table.
    let grown : c.insert.new.self.keys ≡ with_location c.args.loc.now c.args.keys.now.keys = search rules in
    new_table c.args.keys.now.keys c.insert.new.self.keys c.args.places.now.items c.put.new.places.items c.args.accesses.now.items c.put.new.accesses.items pairs c.args.loc.now c.args.access table c.requires.absent c.requires.new
    c.in_ok-put.ensures.count (grown ∙ is_new c.args.loc.now c.args.keys.now.keys c.requires.absent) c.in_ok-put.ensures.accesses (c.in_ok-put.ensures.held pairs table.held)
