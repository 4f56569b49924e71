use Rattle.std.proofs.Common.{refl, inl, ◌≡◌, subst, sym, true, List, []}
use Rattle.std.proofs.lemmas.Result.{IfOk-weaker}
use Rattle.clap.specs.Words.{App, HasMatchesOf, Text, fault_of, found_of, is_simple_and_free, matches_of, rows_of}
use Rattle.clap.specs.declared.parser.matches.ArgMatches.{ArgMatches}
use Rattle.er_words.specs.Words.{syntax}
use Rattle.er_words.proofs.words.read_line.Goals as goal

-- what clap says of an app, said of the one that it is
no_fault : (a : App) (line : List Text) → a ≡ syntax → (is_simple_and_free a ≡ true → fault_of a line ≡ [])
    → fault_of syntax line ≡ []
no_fault a line same h =
    let P : App → Type 0 = λ b. (is_simple_and_free b ≡ true → fault_of b line ≡ []) → fault_of syntax line ≡ [] in
    subst P (sym same) (λ k. k refl) h

same_rows : (a : App) (line : List Text) (m : ArgMatches) → a ≡ syntax → HasMatchesOf a line m → rows_of (found_of m) ≡ matches_of syntax line
same_rows a line m same h =
    let P : App → Type 0 = λ b. HasMatchesOf b line m → rows_of (found_of m) ≡ matches_of syntax line in
    subst P (sym same) (λ k. (k refl).0) h

pub returns-in-Ok-try_get_matches_from-clause-asked :
    goal.returns-in-Ok-try_get_matches_from-clause-asked
returns-in-Ok-try_get_matches_from-clause-asked c =
    let parsed = c.in-Ok-try_get_matches_from.ensures in
    let rows = same_rows _ _ _ c.in-Ok.ensures parsed.matches in
    IfOk-weaker c.found.result _ _ (λ command h. (no_fault _ _ c.in-Ok.ensures parsed.kinds, rw (← rows) h)) c.found.ensures.asked

pub returns-in-Ok-try_get_matches_from-clause-exact :
    goal.returns-in-Ok-try_get_matches_from-clause-exact
returns-in-Ok-try_get_matches_from-clause-exact c = λ command asks.
    let parsed = c.in-Ok-try_get_matches_from.ensures in
    let rows = same_rows _ _ _ c.in-Ok.ensures parsed.matches in
    inl (c.found.ensures.exact command (rw rows asks.1))
