-- The table of modes has one command for what is given.
use Rattle.std.proofs.Common.{◌≡◌, ◌∙◌, ◌∷◌, arith, true≢false, refl, ap, sym, ℕ, List, Option, Some, None, codes}
use Rattle.std.proofs.lemmas.Fmt.{decimal_injective}
use Rattle.std.specs.Str.{bytes_eq}
use Rattle.er_text.specs.Number.{IsNumber}
use Rattle.clap.specs.Words.{Text, matches_of}
use Rattle.er_words.specs.Words.{Asks, AreOptions, Given, Has, HasShards, IsNumberGiven, IsRaceGiven, given_in, mode_of, syntax, word_of}
use Rattle.er_words.specs.declared.commands.Input.{Input}
use Rattle.er_words.specs.declared.commands.Input.TheVariants as inputs
use Rattle.er_words.specs.declared.commands.Asked.{Asked}
use Rattle.er_words.specs.declared.commands.Command.{Command}
use Rattle.er_words.specs.declared.commands.Command.TheVariants.{Check, Gen, Schedule, Explain}

-- a word is one number

one_value : (word : Text) (m n : ℕ) → IsNumber word m → IsNumber word n → m ≡ n
one_value word m n first second = decimal_injective m n (omega arith) (omega arith) (sym first.1 ∙ second.1)

one_number : (word : Option Text) (m n : ℕ) → Has IsNumberGiven word m → Has IsNumberGiven word n → m ≡ n
one_number None m n first second = elim first [ ]
one_number (Some word) m n first second = one_value word m n first.0 second.0

one_race : (word : Option Text) (m n : ℕ) → Has IsRaceGiven word m → Has IsRaceGiven word n → m ≡ n
one_race None m n first second = elim first [ ]
one_race (Some word) m n first second = one_value word m n first.0 second.0

one_action : (word : Option Text) (m n : ℕ) → Has IsNumber word m → Has IsNumber word n → m ≡ n
one_action None m n first second = elim first [ ]
one_action (Some word) m n first second = one_value word m n first second

one_split : (word : Option Text) (m n : ℕ) → HasShards word m → HasShards word n → m ≡ n
one_split None m n first second = first ∙ sym second
one_split (Some word) m n first second = one_value word m n first.0 second.0

-- a mode has one command

-- words of one length
two_words : codes "check" ≡ codes "jsonl" → ⊥
two_words e = true≢false (ap (bytes_eq (codes "check")) e)

one_input : (i j : Input) → word_of i ≡ word_of j → i ≡ j
one_input inputs.Text inputs.Text e = refl
one_input inputs.Text inputs.Json e = absurd (two_words e)
one_input inputs.Json inputs.Text e = absurd (two_words (sym e))
one_input inputs.Json inputs.Json e = refl

-- no other mode has the word of one that reads lines
no_gen : (i : Input) → word_of i ≡ codes "gen" → ⊥
no_gen inputs.Text e = cc
no_gen inputs.Json e = cc

no_schedule : (i : Input) → word_of i ≡ codes "schedule" → ⊥
no_schedule inputs.Text e = cc
no_schedule inputs.Json e = cc

no_explain : (i : Input) → word_of i ≡ codes "explain" → ⊥
no_explain inputs.Text e = cc
no_explain inputs.Json e = cc

one_row : (g : Given) (c d : Command) → mode_of c ≡ mode_of d → AreOptions g c → AreOptions g d → c ≡ d
one_row g (Check a i) (Check b j) mode first second = ap (λ json. Check json i) (sym first.0 ∙ second.0) ∙ ap (λ input. Check b input) (one_input i j mode)
one_row g (Check a i) (Gen n) mode first second = absurd (no_gen i mode)
one_row g (Check a i) (Schedule k) mode first second = absurd (no_schedule i mode)
one_row g (Check a i) (Explain m n) mode first second = absurd (no_explain i mode)
one_row g (Gen n) (Check a i) mode first second = absurd (no_gen i (sym mode))
one_row g (Schedule k) (Check a i) mode first second = absurd (no_schedule i (sym mode))
one_row g (Explain m n) (Check a i) mode first second = absurd (no_explain i (sym mode))
one_row g (Gen m) (Gen n) mode first second = ap (λ k. Gen k) (one_number g.number m n first.0 second.0)
one_row g (Schedule m) (Schedule n) mode first second = ap (λ k. Schedule k) (one_race g.race m n first.0 second.0)
one_row g (Explain i j) (Explain m n) mode first second =
    ap (λ k. Explain k j) (one_action g.from i m first.0 second.0) ∙ ap (λ k. Explain m k) (one_action g.to j n first.1 second.1)
one_row g c d mode first second = absurd (cc)

pub one_command : (words : List Text) (c d : Asked) → Asks words c → Asks words d → c ≡ d
one_command words c d first second =
    let rows = matches_of syntax (codes "er_cli" ∷ words) in
    let command = one_row (given_in rows) c.command d.command (sym first.1.0.0 ∙ second.1.0.0) first.1.0.1 second.1.0.1 in
    let shards = one_split (given_in rows).shards c.shards d.shards first.1.1 second.1.1 in
    let with_command : Command → Asked = λ k. record { command = k; shards = c.shards } in
    let with_shards : ℕ → Asked = λ n. record { command = d.command; shards = n } in
    ap with_command command ∙ ap with_shards shards
