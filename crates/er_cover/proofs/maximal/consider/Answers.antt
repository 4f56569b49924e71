use Rattle.std.proofs.Common.{◌≡◌, ◌++◌, ◌∷◌, [], ℕ, Bool, List, true, false, length, sym, ap, ◌∙◌, subst, arith}
use Rattle.std.specs.Prelude.{if◌then◌else◌}
use Rattle.std.specs.List.{list_any}
use Rattle.er_paths.specs.Paths.{joins}
use Rattle.er_cover.specs.declared.class.Class.{Class}
use Rattle.er_cover.specs.Groups.{covers}
use Rattle.er_cover.specs.Passes.{seconds_from}
use Rattle.er_cover.proofs.ClockLemmas.{selves}
use Rattle.er_cover.proofs.PassLemmas.{any_covers, one_some, seconds_few, seconds_known, seconds_more}
use Rattle.er_cover.proofs.maximal.consider.Goals as goal

pub any_joins-requires-clause-firsts : goal.any_joins-requires-clause-firsts
any_joins-requires-clause-firsts c =
    let led = c.as_slice-2.ensures.value ∙ c.in_ok-lead.ensures.seconds ∙ ap (seconds_from (joins c.args.clocks.now) c.args.class.now.first) c.as_slice.ensures.value in
    seconds_known (length c.args.clocks.now) (joins c.args.clocks.now) c.args.class.now.first c.args.found.now.items c.as_slice-2.result.now c.requires.known led

pub any_joins-requires-clause-room : goal.any_joins-requires-clause-room
any_joins-requires-clause-room c =
    let led = ap length (c.as_slice-2.ensures.value ∙ c.in_ok-lead.ensures.seconds ∙ ap (seconds_from (joins c.args.clocks.now) c.args.class.now.first) c.as_slice.ensures.value) in
    let few = seconds_few (joins c.args.clocks.now) c.args.class.now.first c.args.found.now.items in
    let all = ap length c.as_slice.ensures.value in
    omega (arith, led, few, all, c.lead.ensures.bound, c.requires.room)

pub returns-then-any_joins-clause-kept : goal.returns-then-any_joins-clause-kept
returns-then-any_joins-clause-kept c =
    let joined : ℕ → ℕ → Bool = joins c.args.clocks.now in
    let found : List Class = c.args.found.now.items in
    let x : Class = c.args.class.now in
    let led = c.as_slice-2.ensures.value ∙ c.in_ok-lead.ensures.seconds ∙ ap (seconds_from joined x.first) c.as_slice.ensures.value in
    let covered : list_any (λ g. covers joined g x) found ≡ true = sym (any_covers joined x found) ∙ ap (list_any (λ i. joined i x.second)) (sym led) ∙ sym c.any_joins.ensures.any ∙ c.if-any_joins.true in
    sym (ap (λ (b : Bool). if b then found else found ++ x ∷ []) covered)

pub returns-then-any_joins-clause-bound : goal.returns-then-any_joins-clause-bound
returns-then-any_joins-clause-bound c =
    let led = ap length (c.as_slice-2.ensures.value ∙ c.in_ok-lead.ensures.seconds ∙ ap (seconds_from (joins c.args.clocks.now) c.args.class.now.first) c.as_slice.ensures.value) in
    let few = seconds_few (joins c.args.clocks.now) c.args.class.now.first c.args.found.now.items in
    let all = ap length c.as_slice.ensures.value in
    omega (arith, led, few, all, c.lead.ensures.bound, c.any_joins.ensures.bound)

pub returns-in_err-add-clause-bound : goal.returns-in_err-add-clause-bound
returns-in_err-add-clause-bound c =
    let led = ap length (c.as_slice-2.ensures.value ∙ c.in_ok-lead.ensures.seconds ∙ ap (seconds_from (joins c.args.clocks.now) c.args.class.now.first) c.as_slice.ensures.value) in
    let few = seconds_few (joins c.args.clocks.now) c.args.class.now.first c.args.found.now.items in
    let all = ap length c.as_slice.ensures.value in
    omega (arith, led, few, all, c.lead.ensures.bound, c.any_joins.ensures.bound)

pub returns-in_default-clause-bound : goal.returns-in_default-clause-bound
returns-in_default-clause-bound c =
    let led = ap length (c.as_slice-2.ensures.value ∙ c.in_ok-lead.ensures.seconds ∙ ap (seconds_from (joins c.args.clocks.now) c.args.class.now.first) c.as_slice.ensures.value) in
    let few = seconds_few (joins c.args.clocks.now) c.args.class.now.first c.args.found.now.items in
    let all = ap length c.as_slice.ensures.value in
    omega (arith, led, few, all, c.lead.ensures.bound, c.any_joins.ensures.bound)

pub returns-in_default-push-clause-bound : goal.returns-in_default-push-clause-bound
returns-in_default-push-clause-bound c =
    let led = ap length (c.as_slice-2.ensures.value ∙ c.in_ok-lead.ensures.seconds ∙ ap (seconds_from (joins c.args.clocks.now) c.args.class.now.first) c.as_slice.ensures.value) in
    let few = seconds_few (joins c.args.clocks.now) c.args.class.now.first c.args.found.now.items in
    let all = ap length c.as_slice.ensures.value in
    omega (arith, led, few, all, c.lead.ensures.bound, c.any_joins.ensures.bound)

pub returns-clause-kept : goal.returns-clause-kept
returns-clause-kept c =
    let joined : ℕ → ℕ → Bool = joins c.args.clocks.now in
    let found : List Class = c.args.found.now.items in
    let x : Class = c.args.class.now in
    let led = c.as_slice-2.ensures.value ∙ c.in_ok-lead.ensures.seconds ∙ ap (seconds_from joined x.first) c.as_slice.ensures.value in
    let covered : list_any (λ g. covers joined g x) found ≡ false = sym (any_covers joined x found) ∙ ap (list_any (λ i. joined i x.second)) (sym led) ∙ sym c.any_joins.ensures.any ∙ c.if-any_joins.false in
    c.in-Ok.ensures.items ∙ sym (ap (λ (b : Bool). if b then found else found ++ x ∷ []) covered)

pub returns-clause-leading : goal.returns-clause-leading
returns-clause-leading c = λ first is.
    let joined : ℕ → ℕ → Bool = joins c.args.clocks.now in
    let found : List Class = c.args.found.now.items in
    let x : Class = c.args.class.now in
    let one : x.first ≡ first = one_some x.first first (sym c.in_ok-lead.ensures.first ∙ is) in
    subst (λ (n : ℕ). c.push-2.new.self.items ≡ seconds_from joined n c.push.new.self.items) one
    (c.in-Ok-push.ensures.items
    ∙ (ap (λ (l : List ℕ). l ++ x.second ∷ []) (c.in_ok-lead.ensures.seconds ∙ ap (seconds_from joined x.first) c.as_slice.ensures.value)
    ∙ (seconds_more joined x.first found x (selves c.args.clocks.now x.first c.requires.class.0) ∙ ap (seconds_from joined x.first) (sym c.in-Ok.ensures.items))))

pub returns-clause-bound : goal.returns-clause-bound
returns-clause-bound c =
    let led = ap length (c.as_slice-2.ensures.value ∙ c.in_ok-lead.ensures.seconds ∙ ap (seconds_from (joins c.args.clocks.now) c.args.class.now.first) c.as_slice.ensures.value) in
    let few = seconds_few (joins c.args.clocks.now) c.args.class.now.first c.args.found.now.items in
    let all = ap length c.as_slice.ensures.value in
    omega (arith, led, few, all, c.lead.ensures.bound, c.any_joins.ensures.bound)
