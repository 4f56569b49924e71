use Rattle.std.proofs.Common.{◌∙◌, sym}
use Rattle.er_history.specs.History.{told}
use Rattle.er_history.specs.Rules.{rules}
use Rattle.er_history.specs.Edges.{edges}
use Rattle.er_path_rules.proofs.timer.SetLemmas.{piece_told}
use Rattle.er_path_rules.proofs.timer.TimersLemmas.{before_not, before_one, before_joined, asked, not_asked}
use Rattle.er_path_rules.proofs.timer.fired.goes_before.Goals as goal

pub returns-then-not-goes_off_first : goal.returns-then-not-goes_off_first
returns-then-not-goes_off_first c = λ page h is one two.
    before_not c.args.version h c.args.earlier.timeout c.args.next.timeout c.goes_off_first.result (c.goes_off_first.ensures page h is.page one two) c.if-not-goes_off_first.true

pub returns-then-not-asks_for_path : goal.returns-then-not-asks_for_path
returns-then-not-asks_for_path c = λ page h is one two.
    before_one c.args.version h c.args.earlier.timeout c.args.next.timeout c.goes_off_first.result (not_asked c.args.version (sym c.asks_for_path.ensures ∙ c.if-not-asks_for_path.true)) (c.goes_off_first.ensures page h is.page one two) c.if-not-goes_off_first.false

pub returns : goal.returns
returns c = λ page h is one two.
    before_joined c.args.version h c.args.earlier.timeout c.args.next.timeout c.goes_off_first.result c.joined.result c.args.earlier.piece c.args.next.piece
    (asked c.args.version h c.args.earlier.timeout c.args.next.timeout (sym c.asks_for_path.ensures ∙ c.if-not-asks_for_path.false))
    (c.goes_off_first.ensures page h is.page one two) c.if-not-goes_off_first.false (piece_told page.claimed h c.args.earlier is.page.claimed one) (piece_told page.claimed h c.args.next is.page.claimed two)
    (c.joined.ensures (edges (rules c.args.version) (told h).actions) is.clocks)
