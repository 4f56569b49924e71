use Rattle.std.proofs.Common.{◌∙◌, sym}
use Rattle.er_paths.specs.Paths.{joins}
use Rattle.er_cover.specs.Classes.{same}
use Rattle.er_cover.proofs.NumberLemmas.{among_turned, numbered, own_name}
use Rattle.er_cover.proofs.names.name_of.Goals as goal

pub returns-in-Some-clause-name : goal.returns-in-Some-clause-name
returns-in-Some-clause-name c =
    let number = numbered (λ y. same c.args.class.now y) c.args.groups.now.keys c.in-Some.g (sym c.in-Some.ensures.index) in
    number.1 ∙ sym (own_name (joins c.args.clocks.now) c.args.groups.now.keys c.args.class.now c.requires.maximal (sym (among_turned c.args.class.now c.args.groups.now.keys) ∙ number.0))
