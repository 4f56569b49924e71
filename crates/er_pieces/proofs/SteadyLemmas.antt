-- Proof that the table of all rules has those that are the same in every version.
use Rattle.std.proofs.Common.{ℕ, List, [], ◌∷◌, ◌++◌, ◌∙◌}
use Rattle.er_paths.proofs.Paths.{or_left, or_right}
use Rattle.er_trace.specs.declared.version.Version.{Version}
use Rattle.er_history.specs.Rules.{Rule, any_holds, rules, parse_rules, script_rules, load_rules, dispatch_rules, timer_rules, request_rules, task_rules, set_before_timer, timers_in_order, ticks_in_order}
use Rattle.er_history.specs.Handed.{HasFamily}
use Rattle.er_pieces.specs.Enough.{HasSteady}
use Rattle.er_history.proofs.OrderLemmas.{holds_append}

-- a table made of two

pub has_first : (a b family : List (ℕ × Rule)) → HasFamily a family → HasFamily (a ++ b) family
has_first a b family has = λ joined u v e. holds_append a b joined u v ∙ or_left (any_holds a joined u v) _ (has joined u v e)

pub has_second : (a b family : List (ℕ × Rule)) → HasFamily b family → HasFamily (a ++ b) family
has_second a b family has = λ joined u v e. holds_append a b joined u v ∙ or_right (any_holds a joined u v) _ (has joined u v e)

pub has_itself : (family : List (ℕ × Rule)) → HasFamily family family
has_itself family = λ joined u v e. e

pub all_rules_are_steady : (v : Version) → HasSteady (rules v)
all_rules_are_steady v =
    let two : List (ℕ × Rule) = parse_rules ++ script_rules in
    let three : List (ℕ × Rule) = two ++ load_rules in
    let four : List (ℕ × Rule) = three ++ dispatch_rules in
    let five : List (ℕ × Rule) = four ++ timer_rules v in
    let six : List (ℕ × Rule) = five ++ request_rules in
    record {
      parse = has_first six task_rules parse_rules (has_first five request_rules parse_rules (has_first four (timer_rules v) parse_rules (has_first three dispatch_rules parse_rules (has_first two load_rules parse_rules (has_first parse_rules script_rules parse_rules (has_itself parse_rules))))));
      script = has_first six task_rules script_rules (has_first five request_rules script_rules (has_first four (timer_rules v) script_rules (has_first three dispatch_rules script_rules (has_first two load_rules script_rules (has_second parse_rules script_rules script_rules (has_itself script_rules))))));
      load = has_first six task_rules load_rules (has_first five request_rules load_rules (has_first four (timer_rules v) load_rules (has_first three dispatch_rules load_rules (has_second two load_rules load_rules (has_itself load_rules)))));
      dispatch = has_first six task_rules dispatch_rules (has_first five request_rules dispatch_rules (has_first four (timer_rules v) dispatch_rules (has_second three dispatch_rules dispatch_rules (has_itself dispatch_rules))));
      timeouts = has_first six task_rules timeouts (has_first five request_rules timeouts (has_second four (timer_rules v) timeouts (has_first timeouts rest timeouts (has_itself timeouts))));
      ticks = has_first six task_rules ticks (has_first five request_rules ticks (has_second four (timer_rules v) ticks (has_second ((18, set_before_timer) ∷ (19, timers_in_order v) ∷ []) ticks ticks (has_itself ticks))));
      requests = has_first six task_rules request_rules (has_second five request_rules request_rules (has_itself request_rules));
      tasks = has_second six task_rules task_rules (has_itself task_rules);
    }
  where
    timeouts : List (ℕ × Rule)
    timeouts = (18, set_before_timer) ∷ []

    ticks : List (ℕ × Rule)
    ticks = (20, ticks_in_order) ∷ []

    rest : List (ℕ × Rule)
    rest = (19, timers_in_order v) ∷ (20, ticks_in_order) ∷ []
