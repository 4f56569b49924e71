-- An access declares, starts and finishes nothing.
use Rattle.std.proofs.Common.{◌≡◌, ℕ, List, [], ◌∷◌, ◌++◌, length, Option, Some, None, refl, sym, ap, ◌∙◌, arith}
use Rattle.std.proofs.lemmas.List.{append-nil}
use Rattle.er_numbers.specs.Numbers.{found}
use Rattle.er_trace.specs.declared.record.Record.{Record}
use Rattle.er_trace.specs.declared.record.Record.TheVariants.{Access}
use Rattle.er_trace.specs.declared.record.Loc.{Loc}
use Rattle.er_trace.specs.declared.record.Mode.{Mode}
use Rattle.er_history.specs.History.{told, running, actions_after, Action}
use Rattle.er_history.specs.LookUps as says
use Rattle.er_history.proofs.FirstLemmas.{or_none, makers_same, firsts_same}
use Rattle.er_claims.specs.declared.claimed.Claimed.{Claimed}
use Rattle.er_claims.specs.declared.tables.Tables.{Tables}
use Rattle.er_claims.specs.Claimed.{TablesAre, ClaimedAre}
use Rattle.er_claims.proofs.ClaimedLemmas.{elements_more, timeouts_more}
use Rattle.er_claims.proofs.RankLemmas.{ranked_more}

tables_same : (tables : Tables) (h : List Record) (m : Mode) (l : Loc) (a : Action) → running (actions_after (told h) (Access m l)) ≡ Some a
    → TablesAre tables h → TablesAre tables (Access m l ∷ h)
tables_same tables h m l a runs stands = record {
  elements = elements_more _ _ None h (Access m l) a (λ k. sym (or_none (found tables.elements k))) stands.elements (record { made = λ k place. refl; known = λ k. refl }) runs;
  timeouts = timeouts_more _ _ None h (Access m l) a (λ k. sym (or_none (found tables.timeouts k))) stands.timeouts (record { placed = λ k place. refl; made = λ k place. refl; known = λ k. refl }) runs;
  ranked = ranked_more _ _ None h (Access m l) a _ _ (λ k. sym (or_none (found tables.timeouts k))) (omega arith) tt stands.ranked (record { placed = λ k place. refl; made = λ k place. refl; known = λ k. refl }) tt runs;
  documents = makers_same _ _ h (Access m l) (λ k. refl) stands.documents;
  handlers = makers_same _ _ h (Access m l) (λ k. refl) stands.handlers;
  intervals = makers_same _ _ h (Access m l) (λ k. refl) stands.intervals;
  requests = makers_same _ _ h (Access m l) (λ k. refl) stands.requests;
  runs = makers_same _ _ h (Access m l) (λ k. refl) stands.runs;
  callbacks = makers_same _ _ h (Access m l) (λ k. refl) stands.callbacks;
  begins = makers_same _ _ h (Access m l) (λ k. refl) stands.begins;
  closes = makers_same _ _ h (Access m l) (λ k. refl) stands.closes;
  frames = firsts_same _ _ _ h (Access m l) (λ k. refl) (λ k. refl) stands.frames;
  dcls = firsts_same _ _ _ h (Access m l) (λ k. refl) (λ k. refl) stands.dcls;
  loads = firsts_same _ _ _ h (Access m l) (λ k. refl) (λ k. refl) stands.loads;
  eloads = firsts_same _ _ _ h (Access m l) (λ k. refl) (λ k. refl) stands.eloads;
}

-- where an action runs, an access leaves what the tables stand for
pub claimed_same : (claimed : Claimed) (h : List Record) (m : Mode) (l : Loc) (a : Action) → running (actions_after (told h) (Access m l)) ≡ Some a
    → ClaimedAre claimed h → ClaimedAre claimed (Access m l ∷ h)
claimed_same claimed h m l a runs stands = record {
  tables = tables_same claimed.tables h m l a runs stands.tables;
  fired = record {
    all = stands.fired.all ∙ sym (append-nil (says.fired h));
    all_timeouts = stands.fired.all_timeouts ∙ sym (append-nil (says.fired h));
    each = λ u. stands.fired.each u ∙ sym (append-nil (says.fired_with h u));
    each_timeouts = λ u. stands.fired.each_timeouts u ∙ sym (append-nil (says.fired_with h u));
  };
  found = stands.found;
}
