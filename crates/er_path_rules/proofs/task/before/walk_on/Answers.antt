use Rattle.std.proofs.Common.{◌-◌, ◌∙◌, get_or, sym, arith}
use Rattle.std.specs.Prelude.{map}
use Rattle.er_trace.specs.declared.version.Version.TheVariants.{Three}
use Rattle.er_history.specs.History.{told}
use Rattle.er_history.specs.Rules.{rules}
use Rattle.er_history.specs.Edges.{edges, path}
use Rattle.er_page.proofs.HandingLemmas.{one_event}
use Rattle.er_path_rules.specs.task.Before.{event_in}
use Rattle.er_path_rules.proofs.task.WalkLemmas.{paths_go_on, walk_covered, walk_past, walk_handed, last_piece, last_left, no_begun, event_among, nothing_grew}
use Rattle.er_path_rules.proofs.task.before.walk_on.Goals as goal

pub returns-then-is_covered-clause-walked : goal.returns-then-is_covered-clause-walked
returns-then-is_covered-clause-walked c = λ h timed start is.
    let left = c.args.walk.left in
    walk_covered (path (rules Three) h) (told h).actions c.args.asked c.args.begun.now c.args.walk start c.args.out.now.items (left - 1) (get_or c.args.begun.now (left - 1) no_begun)
    (paths_go_on (rules Three) h) c.requires.runs (c.requires.joined h timed) (last_left c.args.begun.now left c.requires.some c.requires.within) (omega (arith, c.requires.some))
    (sym (c.is_covered.ensures (edges (rules Three) (told h).actions) timed.clocks) ∙ c.if-is_covered.true) is

pub returns-then-not-passes-clause-walked : goal.returns-then-not-passes-clause-walked
returns-then-not-passes-clause-walked c = λ h timed start is.
    let left = c.args.walk.left in
    walk_past (path (rules Three) h) (told h).actions c.args.asked c.args.begun.now c.args.walk start c.args.out.now.items (left - 1) (get_or c.args.begun.now (left - 1) no_begun)
    (last_left c.args.begun.now left c.requires.some c.requires.within) (omega (arith, c.requires.some))
    (sym (c.passes.ensures (edges (rules Three) (told h).actions) timed.clocks) ∙ c.if-not-passes.true) is

pub latest_piece-requires : goal.latest_piece-requires
latest_piece-requires c =
    let left = c.args.walk.left in
    let x = get_or c.args.begun.now (left - 1) no_begun in
    record { is_event = one_event c.args.page.now (map event_in c.args.begun.now) x.event (event_among c.args.begun.now (left - 1) x (last_left c.args.begun.now left c.requires.some c.requires.within)) c.requires.events }

pub returns-in_err-hand-clause-same : goal.returns-in_err-hand-clause-same
returns-in_err-hand-clause-same c = nothing_grew c.from_residual.result c.latest_piece.result c.args.out.now.items c.hand.new.out.items c.in_err-hand.ensures.part

pub returns-clause-walked : goal.returns-clause-walked
returns-clause-walked c = λ h timed start is.
    let left = c.args.walk.left in
    let x = get_or c.args.begun.now (left - 1) no_begun in
    walk_handed (path (rules Three) h) (told h).actions c.args.asked c.args.begun.now c.args.walk start c.args.out.now.items c.hand.new.out.items (left - 1) c.latest_piece.result x
    (paths_go_on (rules Three) h) c.requires.runs (c.requires.joined h timed) (last_left c.args.begun.now left c.requires.some c.requires.within) (omega (arith, c.requires.some))
    (sym (c.passes.ensures (edges (rules Three) (told h).actions) timed.clocks) ∙ c.if-not-passes.false)
    (last_piece (rules Three) h x.event c.latest_piece.result (c.latest_piece.ensures h timed.page)) c.in_ok-hand.ensures.whole is
