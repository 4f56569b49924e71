use Rattle.std.proofs.Common.{rules, ◌≡◌, ◌<◌, sym, ◌∙◌, Bool, true, false, not, length, subst}
use Rattle.std.specs.Prelude.{IfOk}
use Rattle.std.specs.List.{list_any}
use Rattle.std.proofs.lemmas.Result.{on_ok_weaker}
use Rattle.er_access.specs.Kept.{same_loc}
use Rattle.er_access.specs.Numbers.{number_of}
use Rattle.er_access.proofs.TableLemmas.{actions_seen, both, count_seen, known_repeat, known_seen, known_table, new_repeat, new_seen}
use Rattle.er_access.proofs.table.Table.add.Goals as goal

pub add_new-requires-clause-action : goal.add_new-requires-clause-action
add_new-requires-clause-action c = actions_seen c.self.inside.keys.keys c.self.inside.accesses.items c.args.self.now c.args.action c.self.view_is c.requires.action

pub add_known-requires-clause-action : goal.add_known-requires-clause-action
add_known-requires-clause-action c = actions_seen c.self.inside.keys.keys c.self.inside.accesses.items c.args.self.now c.args.action c.self.view_is c.requires.action

pub returns-in_default-clause-kept : goal.returns-in_default-clause-kept
returns-in_default-clause-kept c =
    let absent : list_any (same_loc c.args.loc.now) c.self.inside.keys.keys ≡ false = search rules in
    let P : Bool → Type 0 = λ b. IfOk c.add_new.result (λ kept. kept ≡ not b) in
    subst P (sym (new_repeat c.self.inside.keys.keys c.self.inside.places.items c.self.inside.accesses.items c.self.inside.pairs c.args.self.now c.args.line c.args.action c.args.mode c.args.loc.now c.self.view_is c.self.invariant absent)) c.add_new.ensures.kept

pub returns-in_default-clause-accesses : goal.returns-in_default-clause-accesses
returns-in_default-clause-accesses c =
    let absent : list_any (same_loc c.args.loc.now) c.self.inside.keys.keys ≡ false = search rules in
    let at : c.len-next.result ≡ length c.self.inside.places.items = search rules in
    both c.add_new.result
    (new_seen c.self.inside.keys.keys c.add_new.new.keys.keys c.self.inside.places.items c.self.inside.accesses.items c.add_new.new.accesses.items c.self.inside.pairs c.args.self.now c.args.line c.args.action c.args.mode c.args.loc.now _ c.self.view_is c.self.invariant absent at)
    c.add_new.ensures.locations c.add_new.ensures.accesses

pub returns-in_default-clause-full : goal.returns-in_default-clause-full
returns-in_default-clause-full c =
    let absent : list_any (same_loc c.args.loc.now) c.self.inside.keys.keys ≡ false = search rules in
    λ e. (
      (new_repeat c.self.inside.keys.keys c.self.inside.places.items c.self.inside.accesses.items c.self.inside.pairs c.args.self.now c.args.line c.args.action c.args.mode c.args.loc.now c.self.view_is c.self.invariant absent),
      count_seen c.self.inside.keys.keys c.self.inside.accesses.items c.args.self.now c.self.view_is ∙ c.add_new.ensures.full e,
    )

pub invariant_of-self-2 : goal.invariant_of-self-2
invariant_of-self-2 c =
    let within : c.in-Some.k < length c.self.inside.places.items = search rules in
    known_table c.self.inside.keys.keys c.self.inside.places.items c.add_known.new.places.items c.self.inside.accesses.items c.add_known.new.accesses.items c.self.inside.pairs c.add_known.new.pairs _ c.self.invariant within c.add_known.ensures.count c.add_known.ensures.either c.add_known.ensures.held

pub returns-clause-kept : goal.returns-clause-kept
returns-clause-kept c =
    let at : c.in-Some.k ≡ number_of c.args.loc.now c.self.inside.keys.keys = search rules in
    let P : Bool → Type 0 = λ b. IfOk c.add_known.result (λ kept. kept ≡ not b) in
    subst P (known_repeat c.self.inside.keys.keys c.self.inside.places.items c.self.inside.accesses.items c.self.inside.pairs c.args.self.now c.args.line c.args.action c.args.mode c.args.loc.now c.in-Some.k c.self.view_is c.self.invariant at) c.add_known.ensures.kept

pub returns-clause-accesses : goal.returns-clause-accesses
returns-clause-accesses c =
    let at : c.in-Some.k ≡ number_of c.args.loc.now c.self.inside.keys.keys = search rules in
    let is_in : list_any (same_loc c.args.loc.now) c.self.inside.keys.keys ≡ true = search rules in
    on_ok_weaker c.add_known.result
    (known_seen c.self.inside.keys.keys c.self.inside.places.items c.self.inside.accesses.items c.add_known.new.accesses.items c.self.inside.pairs c.args.self.now c.args.line c.args.action c.args.mode c.args.loc.now c.in-Some.k c.self.view_is c.self.invariant at is_in)
    c.add_known.ensures.accesses

pub returns-clause-full : goal.returns-clause-full
returns-clause-full c =
    let at : c.in-Some.k ≡ number_of c.args.loc.now c.self.inside.keys.keys = search rules in
    λ e. let full = c.add_known.ensures.full e in (
      sym (known_repeat c.self.inside.keys.keys c.self.inside.places.items c.self.inside.accesses.items c.self.inside.pairs c.args.self.now c.args.line c.args.action c.args.mode c.args.loc.now c.in-Some.k c.self.view_is c.self.invariant at) ∙ full.0,
      count_seen c.self.inside.keys.keys c.self.inside.accesses.items c.args.self.now c.self.view_is ∙ full.1,
    )

pub returns-clause-exact : goal.returns-clause-exact
returns-clause-exact c = λ full.
    let at : c.in-Some.k ≡ number_of c.args.loc.now c.self.inside.keys.keys = search rules in
    c.add_known.ensures.exact (
      known_repeat c.self.inside.keys.keys c.self.inside.places.items c.self.inside.accesses.items c.self.inside.pairs c.args.self.now c.args.line c.args.action c.args.mode c.args.loc.now c.in-Some.k c.self.view_is c.self.invariant at ∙ full.0,
      sym (count_seen c.self.inside.keys.keys c.self.inside.accesses.items c.args.self.now c.self.view_is) ∙ full.1,
    )
