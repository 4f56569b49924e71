use Rattle.std.proofs.Common.{◌-◌, ◌∙◌, get_or, sym, subst, arith, Some}
use Rattle.er_history.specs.History.{told}
use Rattle.er_history.specs.Latest.{latest_of}
use Rattle.er_history.specs.Naming.{fires_timeout}
use Rattle.er_page.proofs.HandingLemmas.{made_events}
use Rattle.er_pieces.specs.Contract.{GrewBy}
use Rattle.er_path_rules.specs.timer.Walk.{IsWalk}
use Rattle.er_path_rules.proofs.timer.WalkLemmas.{no_fired, stands, set_at, counted_at, last_set, is_run, not_before, walk_covered, walk_missed, walk_handed, nothing_grew}
use Rattle.er_path_rules.proofs.timer.fired.walk_on.Goals as goal

pub returns-then-is_covered-clause-walked : goal.returns-then-is_covered-clause-walked
returns-then-is_covered-clause-walked c = λ h timed start is.
    let xs = c.args.fired.now in
    let p = c.args.walk.left - 1 in
    let x = get_or xs p no_fired in
    let there = stands xs p no_fired (omega (arith, c.requires.some, c.requires.within)) in
    let fired = c.requires.fired h timed.page in
    let claimed = c.args.page.now.claimed in
    let covered = c.is_covered.ensures c.args.page.now h timed (set_at claimed xs p x fired.set there) (last_set c.args.version claimed h xs c.args.walk.left is.handed c.args.walk.handed fired.set is.last) in
    subst (λ n. IsWalk c.args.version h c.args.next.timeout xs (record { left = n; handed = c.args.walk.handed }) start c.args.out.now.items) (sym c.saturating_sub.ensures)
    (walk_covered c.args.version h c.args.next.timeout xs c.args.walk start c.args.out.now.items p x there (omega (arith, c.requires.some)) (c.requires.joined h timed)
    (is_run c.args.version claimed h xs p x timed.page.claimed fired there) (sym covered ∙ c.if-is_covered.true) is)

pub returns-then-not-goes_before-clause-walked : goal.returns-then-not-goes_before-clause-walked
returns-then-not-goes_before-clause-walked c = λ h timed start is.
    let xs = c.args.fired.now in
    let p = c.args.walk.left - 1 in
    let x = get_or xs p no_fired in
    let there = stands xs p no_fired (omega (arith, c.requires.some, c.requires.within)) in
    let fired = c.requires.fired h timed.page in
    let claimed = c.args.page.now.claimed in
    let goes = c.goes_before.ensures c.args.page.now h timed (set_at claimed xs p x fired.set there) c.requires.next in
    subst (λ n. IsWalk c.args.version h c.args.next.timeout xs (record { left = n; handed = c.args.walk.handed }) start c.args.out.now.items) (sym c.saturating_sub-then-not-goes_before.ensures)
    (walk_missed c.args.version h c.args.next.timeout xs c.args.walk start c.args.out.now.items p c.missed.result there.0 (omega (arith, c.requires.some))
    (not_before c.args.version claimed h xs p x c.args.next c.missed.result timed.page.claimed fired there c.requires.next (c.missed.ensures xs p (counted_at xs p x fired.counted there)) (sym goes ∙ c.if-not-goes_before.true)) is)

pub hand_latest-requires : goal.hand_latest-requires
hand_latest-requires c = record { events = made_events c.args.page.now (fires_timeout (get_or c.args.fired.now (c.args.walk.left - 1) no_fired).set.timeout) c.timer_event.result c.requires.page c.timer_event.ensures }

pub returns-in_err-hand_latest-clause-same : goal.returns-in_err-hand_latest-clause-same
returns-in_err-hand_latest-clause-same c = nothing_grew c.from_residual.result c.args.page.now c.timer_event.result c.args.out.now.items c.hand_latest.new.out.items c.requires.page c.in_err-hand_latest.ensures.part

pub returns-clause-walked : goal.returns-clause-walked
returns-clause-walked c = λ h timed start is.
    let xs = c.args.fired.now in
    let p = c.args.walk.left - 1 in
    let x = get_or xs p no_fired in
    let there = stands xs p no_fired (omega (arith, c.requires.some, c.requires.within)) in
    let fired = c.requires.fired h timed.page in
    let claimed = c.args.page.now.claimed in
    let goes = c.goes_before.ensures c.args.page.now h timed (set_at claimed xs p x fired.set there) c.requires.next in
    let grew = subst (λ o. GrewBy c.args.out.now.items (latest_of o (told h).actions) c.hand_latest.new.out.items) (c.timer_event.ensures h timed.page) (c.in_ok-hand_latest.ensures.whole h timed.page) in
    subst (λ n. IsWalk c.args.version h c.args.next.timeout xs (record { left = n; handed = Some x.set }) start c.hand_latest.new.out.items) (sym c.saturating_sub-2.ensures)
    (walk_handed c.args.version h c.args.next.timeout xs c.args.walk start c.args.out.now.items c.hand_latest.new.out.items p x there (omega (arith, c.requires.some)) (c.requires.joined h timed)
    (is_run c.args.version claimed h xs p x timed.page.claimed fired there) (sym goes ∙ c.if-not-goes_before.false) grew is)
