use Rattle.std.proofs.Common.{ℕ, ◌+◌, ◌<◌, ◌∙◌, ◌^◌, arith, length, get_or, sym, subst, length-set}
use Rattle.er_cover.proofs.NumberLemmas.{any_default, counts_step, count_small}
use Rattle.er_cover.proofs.names.sizes_of.Goals as goal

pub overflow_add-index_mut : goal.overflow_add-index_mut
overflow_add-index_mut c =
    let n : ℕ = get_or c.args.names.now c.loop-name.name-index 0 in
    let within : n < length c.loop-name.sizes.items = subst (λ m. n < m) (sym c.loop-name.invariant.len) (c.requires.known c.loop-name.name-index 0 c.loop-name-test.true) in
    let small : c.index_mut.result.now < 2 ^ 18 + 1 = count_small c.args.names.now c.loop-name.name-index n c.index_mut.result.now c.loop-name-test.true c.requires.few (any_default c.loop-name.sizes.items n c.index_mut.result.now within c.index_mut.ensures.value ∙ c.loop-name.invariant.each n (c.requires.known c.loop-name.name-index 0 c.loop-name-test.true)) in
    omega arith

pub loop-name-preserved : goal.loop-name-preserved
loop-name-preserved c =
    let n : ℕ = get_or c.args.names.now c.loop-name.name-index 0 in
    let within : n < length c.loop-name.sizes.items = subst (λ m. n < m) (sym c.loop-name.invariant.len) (c.requires.known c.loop-name.name-index 0 c.loop-name-test.true) in
    record {
      len = length-set c.loop-name.sizes.items n (c.index_mut.result.now + 1) ∙ c.loop-name.invariant.len;
      each = λ g k. counts_step c.args.names.now c.loop-name.sizes.items c.loop-name.name-index c.args.count c.index_mut.result.now c.loop-name-test.true c.loop-name.invariant.len (any_default c.loop-name.sizes.items n c.index_mut.result.now within c.index_mut.ensures.value) c.loop-name.invariant.each g k;
    }
