-- What a list of words comes to.
use Rattle.std.specs.Prelude.{◌≡◌, ◌≤◌, ◌∷◌, ℕ, Bool, false, List, [], Option, Some, None, codes, option_map, unwrap_or}
use Rattle.std.specs.Borrow.{Bor}
use Rattle.std.specs.Option.{option_map_or}
use Rattle.std.specs.Str.{bytes_eq}
use Rattle.clap.specs.Words.{App, Row, Rule, Text, fault_of, first_of, matches_of, new_app, new_rule, one_of, with_rule}
use Rattle.clap.specs.declared.builder.action.ArgAction.TheVariants.{SetTrue}
use Rattle.er_text.specs.Number.{IsNumber}
use Rattle.er_gen.specs.Generated.{most_rounds}
use Rattle.er_words.specs.declared.commands.Asked.{Asked}
use Rattle.er_words.specs.declared.commands.Input.{Input}
use Rattle.er_words.specs.declared.commands.Input.TheVariants as inputs
use Rattle.er_words.specs.declared.commands.Command.{Command}
use Rattle.er_words.specs.declared.commands.Command.TheVariants.{Check, Gen, Schedule, Explain}
use Rattle.er_words.specs.declared.modes.Options.{Options}
use Rattle.er_trace.specs.Limits.{most_races, most_shards}

-- ---- the words, as clap reads them

-- an option with a value
abbrev pub value_option : Text → Rule
value_option name = record (new_rule name) { long = Some name }

abbrev pub json_flag : Rule
json_flag = record (new_rule (codes "json")) { long = Some (codes "json"); action = Some SetTrue }

abbrev pub with_mode : App
with_mode = with_rule (new_app (codes "er_cli")) (new_rule (codes "mode"))

abbrev pub with_counts : App
with_counts =
    with_rule (with_rule with_mode (value_option (codes "shards"))) (value_option (codes "number"))

abbrev pub with_places : App
with_places =
    with_rule (with_rule (with_rule with_counts
    (value_option (codes "race")))
    (value_option (codes "from")))
    (value_option (codes "to"))

-- one simple command: a word for the mode, the options of all modes with a value, and the
-- flag --json
abbrev pub syntax : App
syntax = with_rule with_places json_flag

-- the word for the mode; where there is none, check
abbrev pub mode_word : List Row → Text
mode_word rows = unwrap_or (first_of (codes "mode") rows) (codes "check")

-- the text of a flag says that it is given
abbrev pub is_set : Option Text → Bool
is_set text = option_map_or (bytes_eq (codes "true")) text false

-- whether --json is given
abbrev pub wants_json : List Row → Bool
wants_json rows = is_set (one_of (codes "json") rows)

-- what is given of the options: the value of each, and whether --json is
pub record Given : Type 0 where
  pub number : Option Text
  pub race : Option Text
  pub from : Option Text
  pub to : Option Text
  pub shards : Option Text
  pub json : Bool

abbrev pub given_in : List Row → Given
given_in rows = record {
  number = first_of (codes "number") rows;
  race = first_of (codes "race") rows;
  from = first_of (codes "from") rows;
  to = first_of (codes "to") rows;
  shards = first_of (codes "shards") rows;
  json = wants_json rows;
}

-- the text behind a reference, where there is one
abbrev pub text_of : Option (Bor Text) → Option Text
text_of = option_map (λ text. text.now)

-- the same of what was read
abbrev pub given_of : Options → Given
given_of o = record {
  number = text_of o.number;
  race = text_of o.race;
  from = text_of o.from;
  to = text_of o.to;
  shards = text_of o.shards;
  json = o.json;
}

-- ---- the table of modes

-- the word is a number of rounds, 1 to the most
abbrev pub IsNumberGiven : Text → ℕ → Type 0
IsNumberGiven word n = IsNumber word n × (1 ≤ n) × (n ≤ most_rounds)

-- the word is a number that a race can have
abbrev pub IsRaceGiven : Text → ℕ → Type 0
IsRaceGiven word n = IsNumber word n × (1 ≤ n) × (n ≤ most_races)

-- the word is a number of shards
abbrev pub IsShardsGiven : Text → ℕ → Type 0
IsShardsGiven word n = IsNumber word n × (1 ≤ n) × (n ≤ most_shards)

-- the option is given, with a value that is this number
abbrev pub Has : (Text → ℕ → Type 0) → Option Text → ℕ → Type 0
Has IsValue None n = ⊥
Has IsValue (Some word) n = IsValue word n

-- where --shards is not given, there is one shard
abbrev pub HasShards : Option Text → ℕ → Type 0
HasShards None n = n ≡ 1
HasShards (Some word) n = IsShardsGiven word n

-- the word for the mode that reads such lines
abbrev pub word_of : Input → Text
word_of inputs.Text = codes "check"
word_of inputs.Json = codes "jsonl"

-- the word for the mode of a command
abbrev pub mode_of : Command → Text
mode_of (Check json input) = word_of input
mode_of (Gen n) = codes "gen"
mode_of (Schedule k) = codes "schedule"
mode_of (Explain i j) = codes "explain"

-- the options that the mode requires are given, and those that do not belong to it are not
abbrev pub AreOptions : Given → Command → Type 0
AreOptions g (Check json input) = (g.json ≡ json)
    × (g.number ≡ None) × (g.race ≡ None) × (g.from ≡ None) × (g.to ≡ None)
AreOptions g (Gen n) = Has IsNumberGiven g.number n
    × (g.race ≡ None) × (g.from ≡ None) × (g.to ≡ None) × (g.json ≡ false)
AreOptions g (Schedule k) = Has IsRaceGiven g.race k
    × (g.number ≡ None) × (g.from ≡ None) × (g.to ≡ None) × (g.json ≡ false)
AreOptions g (Explain i j) = Has IsNumber g.from i × Has IsNumber g.to j
    × (g.number ≡ None) × (g.race ≡ None) × (g.shards ≡ None) × (g.json ≡ false)

abbrev pub IsCommand : Text → Given → Command → Type 0
IsCommand mode g c = (mode ≡ mode_of c) × AreOptions g c

-- ---- what the words come to

abbrev pub IsAsked : List Row → Asked → Type 0
IsAsked rows asked = IsCommand (mode_word rows) (given_in rows) asked.command
    × HasShards (given_in rows).shards asked.shards

-- clap finds no fault in the line, and its matches ask for the command, in so many shards
abbrev pub AsksBy : List Text → Asked → Type 0
AsksBy line asked = (fault_of syntax line ≡ []) × IsAsked (matches_of syntax line) asked

-- the words behind the program's name ask for the command; words that ask for none are refused
abbrev pub Asks : List Text → Asked → Type 0
Asks words = AsksBy (codes "er_cli" ∷ words)
