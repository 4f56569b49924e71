use Rattle.std.proofs.Common.{◌≡◌, refl, sym, subst, length, vec_len}
use Rattle.std.specs.Vec.Iter.{into_iter_items, into_iter_steps}
use Rattle.std.proofs.lemmas.Result.{IfOk-weaker}
use Rattle.std.proofs.lemmas.Iterator.{YieldsList}
use Rattle.std.proofs.lemmas.Iterator.Adapters.{YieldsList-from_vec, YieldsList-from_skip, fact_from_collect}
use Rattle.er_cli.proofs.words_of.Goals as goal

pub returns : goal.returns
returns c =
    let all = into_iter_items c.args.args in
    let of_args = YieldsList-from_vec all refl c.args.args.rest.ok.0 in
    let of_skip = YieldsList-from_skip 1 (subst (λ s. YieldsList into_iter_steps (λ x. x) s all) (sym c.skip.ensures.source) of_args) c.skip.ensures.count in
    IfOk-weaker c.collect.result _ _ (λ v gave. gave.0)
    (fact_from_collect (λ xs v. (v.items ≡ xs) × (vec_len v ≡ length xs)) c.collect.result c.collect.ensures.ran of_skip)
