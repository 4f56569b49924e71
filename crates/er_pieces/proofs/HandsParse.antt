-- Proof of what the rules of parsing and of scripts hand. Lists of records stand newest first.
use Rattle.std.proofs.Common.{◌≡◌, ℕ, ◌<◌, Bool, true, false, List, [], length, Option, refl, arith}
use Rattle.std.specs.Prelude.{◌==◌}
use Rattle.er_trace.specs.declared.record.Record.{Record}
use Rattle.er_trace.specs.declared.record.Record.TheVariants.{Parse, ParseFrame}
use Rattle.er_paths.proofs.Paths.{or_left, or_right}
use Rattle.er_history.specs.History.{Event, What, ParseStep, Action, told, begins, action_begun, maker_by, declares_document}
use Rattle.er_history.specs.Rules.{any_holds, recorded, made_by, parse_rules, parse_steps_in_order, document_before_its_steps}
use Rattle.er_history.specs.Edges.{path, is_ruled, up_to}
use Rattle.er_history.specs.Handed.{AreSources}
use Rattle.er_history.specs.Latest.{newest, latest_of}
use Rattle.er_history.specs.Kinds.{is_step_of}
use Rattle.er_pieces.specs.HandedPieces.{step_handed, parse_handed}
use Rattle.er_pieces.specs.Hands.{HandsParse}
use Rattle.er_history.proofs.HistoryLemmas.{told_before, event_below}
use Rattle.er_pieces.proofs.PathLemmas.{both, less_is}
use Rattle.er_pieces.proofs.ChainLemmas.{event_with, one_holds}
use Rattle.er_pieces.proofs.EnoughParse.{enough_parse}
use Rattle.er_pieces.proofs.SourceLemmas.{Each, each_none, each_both, each_newest, each_made}

-- rules of parsing lead to a step from the steps before it and from the maker

step_source : (joined : ℕ → ℕ → Bool) (u : Event) (n d : ℕ) (m : Option ℕ) → u.number < n → is_step_of d u ≡ true → any_holds parse_rules joined u (event_with n (ParseStep d m)) ≡ true
step_source joined u n d m below e =
    let v : Event = event_with n (ParseStep d m) in
    one_holds parse_rules joined u v (λ same. absurd (omega (arith, same, below))) (or_left (parse_steps_in_order joined u v) _ (by u.what e))
  where
    by : (w : What) → is_step_of d (event_with u.number w) ≡ true → parse_steps_in_order joined (event_with u.number w) (event_with n (ParseStep d m)) ≡ true
    by (ParseStep c k) e = both (recorded u (event_with n (ParseStep d m))) (c == d) (less_is u.number n below) e
    by _ e = absurd (cc)

maker_source : (joined : ℕ → ℕ → Bool) (u : Event) (n d : ℕ) (m : Option ℕ) → u.number < n → made_by m u ≡ true → any_holds parse_rules joined u (event_with n (ParseStep d m)) ≡ true
maker_source joined u n d m below e =
    let v : Event = event_with n (ParseStep d m) in
    one_holds parse_rules joined u v (λ same. absurd (omega (arith, same, below))) (or_right (parse_steps_in_order joined u v) _ (or_left (document_before_its_steps joined u v) false e))

steps_are_sources : (h : List Record) (joined : ℕ → ℕ → Bool) (d : ℕ)
    → Each (λ i. any_holds parse_rules joined i.event (event_with (length (told h).actions) (ParseStep d (maker_by (declares_document d) (told h).entries))) ≡ true) (told h).actions (step_handed (told h) d)
steps_are_sources h joined d =
    let acts = (told h).actions in
    let m = maker_by (declares_document d) (told h).entries in
    let S : Action → Type 0 = λ i. any_holds parse_rules joined i.event (event_with (length acts) (ParseStep d m)) ≡ true in
    each_both S acts (newest (is_step_of d) acts) (latest_of m acts)
    (each_newest S (is_step_of d) acts (λ i among e. step_source joined i.event (length acts) d m (event_below acts i (told_before h) among) e))
    (each_made S m acts (λ i among e. maker_source joined i.event (length acts) d m (event_below acts i (told_before h) among) e))

parse_sources : (h : List Record) (x : Record) (joined : ℕ → ℕ → Bool) → AreSources parse_rules joined (told h) x (parse_handed (told h) x)
parse_sources h (Parse d e k) joined = steps_are_sources h (up_to (length (told h).actions) joined) d
parse_sources h (ParseFrame d e f) joined = steps_are_sources h (up_to (length (told h).actions) joined) d
parse_sources h x joined = each_none (λ i. is_ruled parse_rules joined i (action_begun (told h) x) ≡ true) (told h).actions

parse_none : (h : List Record) (x : Record) → begins x ≡ false → parse_handed (told h) x ≡ []
parse_none h (Parse d e k) b = absurd (cc)
parse_none h (ParseFrame d e f) b = absurd (cc)
parse_none h _ b = refl

pub hands_parse : HandsParse
hands_parse table facts h x steady named ordered = record {
  sources = parse_sources h x (path table h);
  enough = enough_parse table facts h x steady named ordered;
  none = parse_none h x;
}
