use Rattle.std.proofs.Common.{◌≡◌, ◌∙◌, ◌∷◌, ap, codes, map, string_bytes}
use Rattle.er_words.proofs.words.read_words.Goals as goal

pub returns-clause-exact : goal.returns-clause-exact
returns-clause-exact c =
    let line : map (λ w. w.now) c.as_slice.result.now ≡ codes "er_cli" ∷ map string_bytes c.args.words.now =
    ap (map (λ w. w.now)) c.as_slice.ensures.value ∙ c.in-Ok.ensures in
    rw line at c.read_line.ensures.exact
