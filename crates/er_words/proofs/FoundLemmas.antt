-- What the getters of the matches answer, as the rows say it.
use Rattle.std.proofs.Common.{◌≡◌, ◌∙◌, refl, sym, ap, Bool, true, false, Option, Some, None, codes, unwrap_or}
use Rattle.std.specs.Borrow.{Bor}
use Rattle.std.specs.Str.Parse.{ParsesBool}
use Rattle.std.proofs.lemmas.Slice.Eq.{bytes_eq-Decides}
use Rattle.clap.specs.Words.{ReadsOne, Text, first_of, first_value, one_text, rows_of}
use Rattle.clap.specs.declared.parser.matches.Found.{Found}
use Rattle.clap.proofs.WalkLemmas.{first_value-rows, one_text-rows}
use Rattle.er_words.specs.Words.{is_set, text_of, wants_json}

-- a flag's text, read as a Bool, and false where there is none
flag_read : (E : Type 0) (text : Option Text) (r : Option Bool) → (text ≡ None → r ≡ None)
    → ((t : Text) → text ≡ Some t → ReadsOne (ParsesBool {E = E}) t r)
    → unwrap_or r false ≡ is_set text
flag_read E None r none some = rw (none refl) refl
flag_read E (Some t) (Some true) none some = ap (λ (u : Text). is_set (Some u)) (sym (some t refl))
flag_read E (Some t) (Some false) none some = ap (λ (u : Text). is_set (Some u)) (sym (some t refl))
flag_read E (Some t) None none some = go (is_set (Some t)) refl
  where
    go : (b : Bool) → is_set (Some t) ≡ b → false ≡ is_set (Some t)
    go true same = absurd ((some t refl).1.0 (sym ((bytes_eq-Decides (codes "true") t).0 same)))
    go false same = sym same

-- what `get_one` reads of the flag
pub json_read : (E : Type 0) (f : Found) (r : Option Bool) → (one_text f (codes "json") ≡ None → r ≡ None)
    → ((t : Text) → one_text f (codes "json") ≡ Some t → ReadsOne (ParsesBool {E = E}) t r)
    → unwrap_or r false ≡ wants_json (rows_of f)
json_read E f r none some = flag_read E (one_text f (codes "json")) r none some ∙ ap is_set (one_text-rows f (codes "json"))

-- what `get_str` reads of an option
pub option_read : (f : Found) (id : Text) (text : Option (Bor Text)) → text_of text ≡ first_value f id → text_of text ≡ first_of id (rows_of f)
option_read f id text same = same ∙ first_value-rows f id

-- the same, or another text where there is none
pub word_read : (f : Found) (id : Text) (text : Option (Bor Text)) (other : Bor Text) → text_of text ≡ first_value f id
    → (unwrap_or text other).now ≡ unwrap_or (first_of id (rows_of f)) other.now
word_read f id None other same = ap (λ (w : Option Text). unwrap_or w other.now) (option_read f id None same)
word_read f id (Some text) other same = ap (λ (w : Option Text). unwrap_or w other.now) (option_read f id (Some text) same)
