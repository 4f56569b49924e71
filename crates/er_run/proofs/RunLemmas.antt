-- From the words to the command that they ask for.
use Rattle.std.proofs.Common.{◌≡◌, ◌≢◌, refl, sym, ◌⊎◌, inl, inr, ◌<◌, ◌≤◌, ℕ, List, Option, Some, None, Result, Ok, Err, subst, ap, ◌∙◌, arith}
use Rattle.er_gen.specs.Generated.{most_rounds}
use Rattle.er_words.specs.declared.commands.Asked.{Asked}
use Rattle.er_words.specs.declared.commands.Command.{Command}
use Rattle.er_words.specs.declared.commands.Command.TheVariants.{Check, Gen, Schedule, Explain}
use Rattle.er_words.specs.declared.commands.WordsFault.{WordsFault}
use Rattle.er_words.specs.declared.commands.WordsFault.TheVariants as words_faults
use Rattle.er_words.specs.Words.{Asks, Has, HasShards, IsNumberGiven, IsRaceGiven}
use Rattle.er_trace.specs.Limits.{most_shards}
use Rattle.er_lines.specs.Format.{Format, IsFormat}
use Rattle.er_io.specs.Ends.{Gives, Rose}
use Rattle.er_run.specs.Accepted.{IsAskable}
use Rattle.er_run.specs.declared.outcome.Outcome.{Outcome}
use Rattle.er_run.specs.declared.outcome.Outcome.TheVariants as outcomes
use Rattle.er_run.specs.declared.outcome.Outcome.TheVariants.{Clean, Races, Refused, Usage, ReadFault, WriteFault}
use Rattle.er_run.specs.declared.meters.Meters.{Meters}
use Rattle.er_trace.specs.declared.fault.FeedFault.{FeedFault}
use Rattle.er_trace.specs.declared.fault.FeedFault.TheVariants as faults
use Rattle.er_text.specs.declared.causes.Cause.{Cause}
use Rattle.er_run.specs.Accepted.{IsRefusal}
use Rattle.er_run.specs.Reading.{IsRefusedInput}
use Rattle.er_run.specs.Promise.{Compares, Counts, Streams, IsAnswer, IsGiven, IsInput, IsDecided, IsPartGiven, IsRun, Served, Holds, NoReadFailed, Tests}
use Rattle.er_run.proofs.CompleteLemmas.{complete, refused_decided}

-- the command that was read is the one that is asked
pub same_command : (read : Result Asked WordsFault) (found : Asked) (c : Command) (asked : Asked) → read ≡ Ok found → found.command ≡ c → (read ≡ Ok asked) ⊎ (read ≡ Err words_faults.NoMemory) → asked.command ≡ c
same_command read found c asked is at exact = elim exact [ inl same ↦ (let one : asked ≡ found = cc in ap (λ (a : Asked). a.command) one ∙ at) | inr none ↦ absurd (cc) ]

pub same_asked : (read : Result Asked WordsFault) (found asked : Asked) → read ≡ Ok found → (read ≡ Ok asked) ⊎ (read ≡ Err words_faults.NoMemory) → asked ≡ found
same_asked read found asked is exact = elim exact [ inl same ↦ cc | inr none ↦ absurd (cc) ]

-- where a command is asked, the words are no wrong usage
pub no_usage : (read : Result Asked WordsFault) (fault : WordsFault) (asked : Asked) → read ≡ Err fault → (read ≡ Ok asked) ⊎ (read ≡ Err words_faults.NoMemory) → fault ≡ words_faults.NoMemory
no_usage read fault asked is exact = elim exact [ inl same ↦ absurd (cc) | inr none ↦ cc ]

number_given : (number : Option (List ℕ)) (n : ℕ) → Has IsNumberGiven number n → (1 ≤ n) × (n ≤ most_rounds)
number_given None n has = elim has [ ]
number_given (Some word) n has = (has.1, has.2)

race_given : (race : Option (List ℕ)) (k : ℕ) → Has IsRaceGiven race k → 1 ≤ k
race_given None k has = elim has [ ]
race_given (Some word) k has = has.1

-- the number of a generated trace is in its range
pub asked_within : (words : List (List ℕ)) (found : Asked) (n : ℕ) → found.command ≡ Gen n → Asks words found → (1 ≤ n) × (n ≤ most_rounds)
asked_within words found n is asks =
    let with_command : Command → Asked = λ c. record { command = c; shards = found.shards } in
    let there : Asks words (with_command (Gen n)) = subst (λ c. Asks words (with_command c)) is asks in
    number_given _ n there.1.0.1.0

shards_given : (word : Option (List ℕ)) (n : ℕ) → HasShards word n → (1 ≤ n) × (n ≤ most_shards)
shards_given None n has = omega (arith, has)
shards_given (Some word) n has = (has.1, has.2)

-- the number of shards is in its range
pub split_within : (words : List (List ℕ)) (found : Asked) → Asks words found → (1 ≤ found.shards) × (found.shards ≤ most_shards)
split_within words found asks = shards_given _ found.shards asks.1.1

-- races are asked for from number 1
asked_race : (words : List (List ℕ)) (found : Asked) (k : ℕ) → found.command ≡ Schedule k → Asks words found → 1 ≤ k
asked_race words found k is asks =
    let with_command : Command → Asked = λ c. record { command = c; shards = found.shards } in
    let there : Asks words (with_command (Schedule k)) = subst (λ c. Asks words (with_command c)) is asks in
    race_given _ k there.1.0.1.0

pub askable : (words : List (List ℕ)) (found : Asked) → Asks words found → IsAskable found.shards found.command
askable words found asks =
    let split = split_within words found asks in
    record { least = split.0; most = split.1; race = λ k is. asked_race words found k is asks }

-- a command that reads judges what was taken

pub read_input : (f : Format) (asked : Command) (bytes : List ℕ) (left_old left_new : Option (List ℕ)) (outcome : Outcome) → ((n : ℕ) → asked ≡ Gen n → ⊥) → Gives left_old bytes left_new → IsDecided f asked bytes left_new outcome → IsInput f asked bytes left_old left_new outcome
read_input f (Check json input) bytes left_old left_new outcome reads gave decided = (gave, decided)
read_input f (Gen n) bytes left_old left_new outcome reads gave decided = absurd (reads n refl)
read_input f (Schedule k) bytes left_old left_new outcome reads gave decided = (gave, decided)
read_input f (Explain i j) bytes left_old left_new outcome reads gave decided = (gave, decided)

pub holds_all : (asked : Command) (left : Option (List ℕ)) (bytes : List ℕ) → ((n : ℕ) → asked ≡ Gen n → ⊥) → Holds asked left bytes → left ≡ Some bytes
holds_all (Check json input) left bytes reads held = held
holds_all (Gen n) left bytes reads held = absurd (reads n refl)
holds_all (Schedule k) left bytes reads held = held
holds_all (Explain i j) left bytes reads held = held

pub no_rise : (asked : Command) (old new : ℕ) → ((n : ℕ) → asked ≡ Gen n → ⊥) → NoReadFailed asked old new → Rose old new → ⊥
no_rise (Check json input) old new reads without = without
no_rise (Gen n) old new reads without = absurd (reads n refl)
no_rise (Schedule k) old new reads without = without
no_rise (Explain i j) old new reads without = without

-- the count of a stream of which no call failed
pub no_failure : (failure outcome : Outcome) (old new : ℕ) → outcome ≢ failure → new ≡ old → Counts failure outcome old new
no_failure failure outcome old new other same = record { rose = λ is. absurd (other is); once = λ is. absurd (other is); stands = λ _. same; count = omega (arith, same) }

-- with an answer neither count rose
pub no_faults : (outcome : Outcome) (reads_old reads_new writes_old writes_new : ℕ) → Counts ReadFault outcome reads_old reads_new → Counts WriteFault outcome writes_old writes_new → IsAnswer outcome
    → (reads_new ≡ reads_old) × (writes_new ≡ writes_old)
no_faults Clean reads_old reads_new writes_old writes_new reads writes answer = (reads.stands (λ e. cc), writes.stands (λ e. cc))
no_faults Races reads_old reads_new writes_old writes_new reads writes answer = (reads.stands (λ e. cc), writes.stands (λ e. cc))
no_faults (Refused n c) reads_old reads_new writes_old writes_new reads writes answer = (reads.stands (λ e. cc), writes.stands (λ e. cc))
no_faults Usage reads_old reads_new writes_old writes_new reads writes answer = absurd answer
no_faults ReadFault reads_old reads_new writes_old writes_new reads writes answer = absurd answer
no_faults WriteFault reads_old reads_new writes_old writes_new reads writes answer = absurd answer
no_faults outcomes.NoMemory reads_old reads_new writes_old writes_new reads writes answer = absurd answer

-- a command whose input has a refused line, or for which an allocation failed
pub served_fault : (f : Format) → IsFormat f → (asked : Command) (old new : Streams) (from to : Meters) (fault : FeedFault) (outcome : Outcome)
    → ((n : ℕ) → asked ≡ Gen n → ⊥)
    → ((n : ℕ) (c : Cause) → fault ≡ faults.Refused n c → IsRefusedInput f asked old.left new.left n c)
    → (fault ≡ faults.NoMemory → outcome ≡ outcomes.NoMemory)
    → ((bytes : List ℕ) → IsRefusal f asked bytes fault → IsAnswer outcome → IsGiven f asked bytes outcome old.got new.got)
    → ((bytes : List ℕ) → IsRefusal f asked bytes fault → Compares f asked bytes outcome from.compares to.compares × Tests f asked bytes outcome from.tests to.tests)
    → ((bytes : List ℕ) → IsRefusal f asked bytes fault → outcome ≡ WriteFault → IsPartGiven f asked bytes old.got new.got)
    → (outcome ≡ WriteFault → Rose old.failed_writes new.failed_writes) → outcome ≢ Usage → outcome ≢ ReadFault
    → Served f asked old new from to outcome
served_fault f good asked old new from to (faults.Refused n c) outcome reads refused none answered counted cut_short wrote no_usage no_read =
    let r = refused n c refl in
    record {
      answered = λ answer.
          let given = answered r.taken r.refused answer in
          record {
            input = r.taken;
            taken = read_input f asked _ _ _ _ reads r.gave (refused_decided f good asked r.taken _ _ _ outcome given.due r.decided r.refused given.answers);
            given = given;
            compared = (counted r.taken r.refused).0;
            tested = (counted r.taken r.refused).1;
          };
      cut_short = λ is.
          let given = cut_short r.taken r.refused is in
          record { input = r.taken; given = given; taken = read_input f asked _ _ _ _ reads r.gave (refused_decided f good asked r.taken _ _ _ given.outcome given.due r.decided r.refused given.answers) };
      complete = λ no_failed_read no_failed_write bytes held.
          complete f asked bytes r.taken _ _ _ outcome (sym (holds_all asked _ bytes reads held) ∙ r.gave)
          (λ due is. refused_decided f good asked r.taken _ _ _ outcome due r.decided r.refused is) (answered r.taken r.refused) (λ w. no_failed_write (wrote w)) no_usage no_read;
    }
served_fault f good asked old new from to faults.NoMemory outcome reads refused none answered counted cut_short wrote no_usage no_read =
    let is = none refl in
    record {
      answered = λ answer. absurd (subst IsAnswer is answer);
      cut_short = λ w. absurd (cc);
      complete = λ no_failed_read no_failed_write bytes held. inl is;
    }

-- a run that did nothing

pub usage_run : (words : List (List ℕ)) (old : Streams) (from : Meters) → ((asked : Asked) → Asks words asked → ⊥) → IsRun words old old from from Usage
usage_run words old from none = record {
  usage = λ _. none;
  refused = λ _. inl refl;
  served = λ asked asks. absurd (none asked asks);
  reads = no_failure ReadFault Usage old.failed_reads old.failed_reads (λ e. cc) refl;
  writes = no_failure WriteFault Usage old.failed_writes old.failed_writes (λ e. cc) refl;
  no_fault = λ answer. absurd answer;
  rise = (omega arith, omega arith);
}

pub no_memory_run : (words : List (List ℕ)) (old : Streams) (from : Meters) → IsRun words old old from from outcomes.NoMemory
no_memory_run words old from = record {
  usage = λ e. absurd (cc);
  refused = λ _. inr refl;
  served = λ asked asks. record { answered = λ answer. absurd answer; cut_short = λ e. absurd (cc); complete = λ no_read no_write bytes held. inl refl };
  reads = no_failure ReadFault outcomes.NoMemory old.failed_reads old.failed_reads (λ e. cc) refl;
  writes = no_failure WriteFault outcomes.NoMemory old.failed_writes old.failed_writes (λ e. cc) refl;
  no_fault = λ answer. absurd answer;
  rise = (omega arith, omega arith);
}

-- ends that never fail

pub never_rose : Rose 0 0 → ⊥
never_rose rose = elim rose [
  | inl more ↦ (let no : 0 < 0 = more in absurd (omega (arith, no)))
  | inr last ↦ (let no : 0 ≡ 18446744073709551615 = last in absurd (omega (arith, no)))
]

pub reads_surely : (asked : Command) → NoReadFailed asked 0 0
reads_surely (Check json input) = never_rose
reads_surely (Gen n) = tt
reads_surely (Schedule k) = never_rose
reads_surely (Explain i j) = never_rose
