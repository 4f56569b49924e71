use Rattle.std.proofs.Common.{◌≡◌, ◌++◌, ◌∷◌, ◌+◌, take, drop, subst, sym, ap, ◌∙◌}
use Rattle.std.proofs.lemmas.List.{take_rest}
use Rattle.er_text.specs.Bytes.{line_end}
use Rattle.er_text.specs.Name.{IsName, name_spelling}
use Rattle.er_syntax.proofs.plain.front_name.Goals as goal

pub returns : goal.returns
returns c =
    let bytes = c.args.bytes.now in
    let k = c.in_ok-end.end in
    let is : c.in_ok-name.name ≡ take k bytes = c.in_ok-name.ensures in (
      subst IsName (sym is) c.in_ok-end.ensures.name.0,
      c.in_ok-end.ensures.name.1
          ∙ (ap (λ name. name_spelling name ++ line_end ∷ drop (k + 1) bytes) (sym is)
          ∙ ap (λ later. name_spelling c.in_ok-name.name ++ line_end ∷ later) (sym (take_rest bytes (k + 1)))),
    )
