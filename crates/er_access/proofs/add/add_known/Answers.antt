use Rattle.std.proofs.Common.{◌≡◌, ◌++◌, ◌∷◌, [], arith, sym, ap, ◌∙◌, not, false, true, inr}
use Rattle.er_access.proofs.AddLemmas.{known_tells, with_repeat, with_more, counts_small, held_known, few_candidates, partners_small}
use Rattle.er_access.proofs.add.add_known.Goals as goal

pub returns-then-repeats-clause-kept : goal.returns-then-repeats-clause-kept
returns-then-repeats-clause-kept c = sym (ap not (known_tells c.args.places.now.items c.args.accesses.now.items c.args.pairs.now c.args.access c.index.result.now c.repeats.result c.requires.held c.requires.within c.requires.action c.index.ensures c.repeats.ensures ∙ c.if-repeats.true))

pub returns-then-repeats-clause-accesses : goal.returns-then-repeats-clause-accesses
returns-then-repeats-clause-accesses c = with_repeat c.args.access c.args.accesses.now.items (known_tells c.args.places.now.items c.args.accesses.now.items c.args.pairs.now c.args.access c.index.result.now c.repeats.result c.requires.held c.requires.within c.requires.action c.index.ensures c.repeats.ensures ∙ c.if-repeats.true)

pub returns-then-repeats-clause-exact : goal.returns-then-repeats-clause-exact
returns-then-repeats-clause-exact c = λ full.
    let repeated = known_tells c.args.places.now.items c.args.accesses.now.items c.args.pairs.now c.args.access c.index.result.now c.repeats.result c.requires.held c.requires.within c.requires.action c.index.ensures c.repeats.ensures ∙ c.if-repeats.true in
    let no : true ≡ false = sym repeated ∙ full.0 in
    cc

pub returns-then-len-eq-MOST_ACCESSES-clause-full : goal.returns-then-len-eq-MOST_ACCESSES-clause-full
returns-then-len-eq-MOST_ACCESSES-clause-full c = λ e. (
  known_tells c.args.places.now.items c.args.accesses.now.items c.args.pairs.now c.args.access c.index.result.now c.repeats.result c.requires.held c.requires.within c.requires.action c.index.ensures c.repeats.ensures ∙ c.if-repeats.false,
  (let n = c.args.accesses.now.ok.0 in omega (arith, n, c.if-len-eq-MOST_ACCESSES.true, c.len.ensures)),
)

pub partners-more-requires : goal.partners-more-requires
partners-more-requires c = omega (arith, counts_small c.args.places.now.items c.args.accesses.now.items c.args.pairs.now c.args.access.location c.index-2.result.now c.requires.held c.requires.within c.index-2.ensures)

pub note-requires : goal.note-requires
note-requires c = omega (arith, counts_small c.args.places.now.items c.args.accesses.now.items c.args.pairs.now c.args.access.location c.index_mut.result.now c.requires.held c.requires.within c.index_mut.ensures.value)

pub overflow_add-pairs : goal.overflow_add-pairs
overflow_add-pairs c =
    omega (
      arith,
      few_candidates c.args.places.now.items c.args.accesses.now.items c.args.pairs.now c.requires.held,
      counts_small c.args.places.now.items c.args.accesses.now.items c.args.pairs.now c.args.access.location c.index-2.result.now c.requires.held c.requires.within c.index-2.ensures,
      partners_small c.index-2.result.now c.args.access.action c.args.access.mode,
      c.partners-more.ensures,
    )

pub returns-clause-kept : goal.returns-clause-kept
returns-clause-kept c = sym (ap not (known_tells c.args.places.now.items c.args.accesses.now.items c.args.pairs.now c.args.access c.index.result.now c.repeats.result c.requires.held c.requires.within c.requires.action c.index.ensures c.repeats.ensures ∙ c.if-repeats.false))

pub returns-clause-accesses : goal.returns-clause-accesses
returns-clause-accesses c =
    with_more c.args.access c.args.accesses.now.items _ (known_tells c.args.places.now.items c.args.accesses.now.items c.args.pairs.now c.args.access c.index.result.now c.repeats.result c.requires.held c.requires.within c.requires.action c.index.ensures c.repeats.ensures ∙ c.if-repeats.false)
    (c.in-Ok.ensures.items ∙ ap (λ l. l ++ c.args.access ∷ []) c.reserve.ensures.items)

pub returns-clause-held : goal.returns-clause-held
returns-clause-held c =
    let n = c.args.accesses.now.ok.0 in
    held_known c.args.places.now.items c.args.accesses.now.items _ c.args.pairs.now c.len-n.result c.partners-more.result c.args.access c.index_mut.result.now c.index-2.result.now _ c.requires.held c.requires.within
    (λ e. c.if-len-eq-MOST_ACCESSES.false (omega (arith, n, c.len.ensures, e))) c.requires.action
    (known_tells c.args.places.now.items c.args.accesses.now.items c.args.pairs.now c.args.access c.index.result.now c.repeats.result c.requires.held c.requires.within c.requires.action c.index.ensures c.repeats.ensures ∙ c.if-repeats.false)
    c.index_mut.ensures.value c.index-2.ensures (omega (arith, n, c.len-n.ensures)) c.in_ok-note.ensures.noted c.partners-more.ensures (c.in-Ok.ensures.items ∙ ap (λ l. l ++ c.args.access ∷ []) c.reserve.ensures.items)

pub returns-clause-either : goal.returns-clause-either
returns-clause-either c = inr (
    with_more c.args.access c.args.accesses.now.items _ (known_tells c.args.places.now.items c.args.accesses.now.items c.args.pairs.now c.args.access c.index.result.now c.repeats.result c.requires.held c.requires.within c.requires.action c.index.ensures c.repeats.ensures ∙ c.if-repeats.false)
    (c.in-Ok.ensures.items ∙ ap (λ l. l ++ c.args.access ∷ []) c.reserve.ensures.items))
