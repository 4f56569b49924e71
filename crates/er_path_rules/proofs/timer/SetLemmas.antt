-- What stands beside a timeout that was set is what the look-ups say of it. Lists of records stand
-- newest first.
use Rattle.std.proofs.Common.{◌≡◌, ℕ, ◌<◌, ◌≤◌, Bool, true, false, List, [], ◌++◌, Option, Some, None, option_map, refl, sym, ap, subst, ◌∙◌, arith, inl, inr}
use Rattle.std.specs.Prelude.{◌&&◌, nat_lt, nat_le}
use Rattle.std.proofs.lemmas.Bool.Decides.{nat_tests}
use Rattle.er_numbers.specs.Numbers.{found}
use Rattle.er_trace.specs.declared.record.Record.{Record}
use Rattle.er_trace.specs.declared.version.Version.{Version}
use Rattle.er_trace.specs.declared.version.Version.TheVariants.{One, Two, Three}
use Rattle.er_history.specs.History as history
use Rattle.er_history.specs.History.{told}
use Rattle.er_history.specs.Latest.{latest_of_event}
use Rattle.er_history.specs.LookUps.{timeout_made, maker_of_timeout, setting_piece, delay_of, before}
use Rattle.er_history.specs.Rules.{rules}
use Rattle.er_history.specs.Edges.{path}
use Rattle.er_history.proofs.HandedLemmas.{action_stands}
use Rattle.er_history.proofs.HistoryLemmas.{actions_are_numbered, number_taken}
use Rattle.er_history.proofs.MakersLemmas.{timeout_below}
use Rattle.er_pieces.proofs.PathLemmas.{both, less_is}
use Rattle.er_claims.specs.declared.claimed.Claimed.{Claimed}
use Rattle.er_claims.specs.declared.claimed.SetTimeout.{SetTimeout}
use Rattle.er_claims.specs.declared.claimed.Timeout.{Timeout}
use Rattle.er_claims.specs.Fired.{GoesOn, IsFound, number_of, numbered}
use Rattle.er_claims.specs.Claimed.{Setting, setting_of, setting, TimeoutsAre, ClaimedAre, IsSet, IsRankedByPlace, rank_of, timeout_at}
use Rattle.er_path_rules.specs.timer.Fired.{is_no_longer, goes_off_first, is_joined, goes_before, fired_handed, set_by, callback_handed}
use Rattle.er_path_rules.specs.timer.Walk.{Misses}

-- under its number

number_found : (t : ℕ) (x : SetTimeout) (o : Option Timeout) → option_map (numbered t) o ≡ Some x → x.timeout ≡ t
number_found t x None e = absurd (cc)
number_found t x (Some y) e = let same : numbered t y ≡ x = cc in sym (ap number_of same)

pub set_number : (claimed : Claimed) (t : ℕ) (x : SetTimeout) → timeout_at claimed t ≡ Some x → x.timeout ≡ t
set_number claimed t x is = number_found t x _ is

pub is_set : (claimed : Claimed) (t : ℕ) (x : SetTimeout) → timeout_at claimed t ≡ Some x → IsSet claimed x
is_set claimed t x is = subst (λ k. timeout_at claimed k ≡ Some x) (sym (set_number claimed t x is)) is

-- its piece and its maker

abbrev pub set_fields : SetTimeout → Setting
set_fields x = record { delay = x.delay; maker = x.maker; piece = x.piece }

told_field : (f : Setting → ℕ) (found : ℕ → Option Timeout) (h : List Record) (x : SetTimeout) → TimeoutsAre found h → IsFound found x → option_map (λ m. f (setting m)) (timeout_made h x.timeout) ≡ Some (f (set_fields x))
told_field f found h x stands is = by (found x.timeout) (timeout_made h x.timeout) is (stands.made x.timeout)
  where
    by : (o : Option Timeout) (m : Option history.Timeout) → option_map (numbered x.timeout) o ≡ Some x → option_map setting_of o ≡ option_map setting m → option_map (λ m. f (setting m)) m ≡ Some (f (set_fields x))
    by None m e g = absurd (cc)
    by (Some y) None e g = absurd (cc)
    by (Some y) (Some m) e g = sym (ap (option_map f) g) ∙ ap (option_map (λ z. f (set_fields z))) e

pub piece_told : (claimed : Claimed) (h : List Record) (x : SetTimeout) → ClaimedAre claimed h → IsSet claimed x → setting_piece h x.timeout ≡ Some x.piece
piece_told claimed h x stands is = told_field (λ s. s.piece) _ h x stands.tables.timeouts is

pub maker_told : (claimed : Claimed) (h : List Record) (x : SetTimeout) → ClaimedAre claimed h → IsSet claimed x → maker_of_timeout h x.timeout ≡ Some x.maker
maker_told claimed h x stands is = told_field (λ s. s.maker) _ h x stands.tables.timeouts is

pub no_maker : (claimed : Claimed) (h : List Record) (t : ℕ) → ClaimedAre claimed h → timeout_at claimed t ≡ None → maker_of_timeout h t ≡ None
no_maker claimed h t stands none = by _ (timeout_made h t) none (stands.tables.timeouts.made t)
  where
    by : (o : Option Timeout) (m : Option history.Timeout) → option_map (numbered t) o ≡ None → option_map setting_of o ≡ option_map setting m → option_map (λ (x : history.Timeout). x.maker) m ≡ None
    by None None e g = refl
    by (Some y) None e g = refl
    by None (Some m) e g = absurd (cc)
    by (Some y) (Some m) e g = absurd (cc)

-- what is due by the timeout is due by its number

pub due_by : (claimed : Claimed) (v : Version) (h : List Record) (t : ℕ) (x : SetTimeout) → ClaimedAre claimed h → timeout_at claimed t ≡ Some x
    → latest_of_event x.maker (told h).actions ++ fired_handed v h x.timeout x.maker ≡ callback_handed v h t
due_by claimed v h t x stands is =
    let number = set_number claimed t x is in
    let maker : maker_of_timeout h t ≡ Some x.maker = subst (λ k. maker_of_timeout h k ≡ Some x.maker) number (maker_told claimed h x stands (is_set claimed t x is)) in
    ap (λ k. latest_of_event x.maker (told h).actions ++ fired_handed v h k x.maker) number ∙ ap (set_by v h t) (sym maker)

pub none_due : (claimed : Claimed) (v : Version) (h : List Record) (t : ℕ) → ClaimedAre claimed h → timeout_at claimed t ≡ None → [] ≡ callback_handed v h t
none_due claimed v h t stands none = ap (set_by v h t) (sym (no_maker claimed h t stands none))

-- none, where an index is past the end
abbrev pub no_timeout : SetTimeout
no_timeout = record { timeout = 0; delay = 0; maker = 0; piece = 0; rank = 0 }

-- which of two goes off first

delay_told : (claimed : Claimed) (h : List Record) (x : SetTimeout) → ClaimedAre claimed h → IsSet claimed x → delay_of h x.timeout ≡ Some x.delay
delay_told claimed h x stands is = told_field (λ s. s.delay) _ h x stands.tables.timeouts is

rank_told : (claimed : Claimed) (x : SetTimeout) → IsSet claimed x → option_map rank_of (found claimed.tables.timeouts x.timeout) ≡ Some x.rank
rank_told claimed x is = by (found claimed.tables.timeouts x.timeout) is
  where
    by : (o : Option Timeout) → option_map (numbered x.timeout) o ≡ Some x → option_map rank_of o ≡ Some x.rank
    by None e = absurd (cc)
    by (Some y) e = ap (option_map (λ (z : SetTimeout). z.rank)) e

pub off_is : (claimed : Claimed) (h : List Record) (x y : SetTimeout) → ClaimedAre claimed h → IsSet claimed x → IsSet claimed y → goes_off_first h x.timeout y.timeout ≡ (nat_lt x.rank y.rank && nat_le x.delay y.delay)
off_is claimed h x y stands one two =
    (λ i. before (ranked.places x.timeout i) (ranked.places y.timeout i) && is_no_longer (delay_told claimed h x stands one i) (delay_told claimed h y stands two i))
    ∙ ap (λ b. b && nat_le x.delay y.delay)
    (sym (ranked.order x.timeout y.timeout)
    ∙ ((λ i. before (sym (ranked.ranks x.timeout) i) (sym (ranked.ranks y.timeout) i))
    ∙ (λ i. before (rank_told claimed x one i) (rank_told claimed y two i))))
  where
    ranked : IsRankedByPlace (found claimed.tables.timeouts) claimed.tables.timeouts.count h
    ranked = stands.tables.ranked

-- in each version the one must go off first
before_needs : (v : Version) (h : List Record) (s t : ℕ) → goes_off_first h s t ≡ false → goes_before v h s t ≡ false
before_needs One h s t e = e
before_needs Two h s t e = ap (λ c. c && is_joined (path (rules Two) h) (setting_piece h s) (setting_piece h t)) e
before_needs Three h s t e = ap (λ c. c && is_joined (path (rules Three) h) (setting_piece h s) (setting_piece h t)) e

not_first : (x y : SetTimeout) → Misses x y → (nat_lt x.rank y.rank && nat_le x.delay y.delay) ≡ false
not_first x y (inl greater) = ap (λ b. nat_lt x.rank y.rank && b) (not_le greater) ∙ and_false (nat_lt x.rank y.rank)
  where
    not_le : y.delay < x.delay → nat_le x.delay y.delay ≡ false
    not_le lt = grind (arith, nat_tests)

    and_false : (b : Bool) → (b && false) ≡ false
    and_false true = refl
    and_false false = refl
not_first x y (inr later) = ap (λ b. b && nat_le x.delay y.delay) (not_lt later)
  where
    not_lt : y.rank ≤ x.rank → nat_lt x.rank y.rank ≡ false
    not_lt le = grind (arith, nat_tests)

pub misses_not_before : (v : Version) (claimed : Claimed) (h : List Record) (x y : SetTimeout) → ClaimedAre claimed h → IsSet claimed x → IsSet claimed y → Misses x y → goes_before v h x.timeout y.timeout ≡ false
misses_not_before v claimed h x y stands one two miss = before_needs v h x.timeout y.timeout (off_is claimed h x y stands one two ∙ not_first x y miss)

-- where both were set in one piece, the version asks no more
before_as : (v : Version) (h : List Record) (s t p : ℕ) → setting_piece h s ≡ Some p → setting_piece h t ≡ Some p → path (rules v) h p p ≡ true → goes_off_first h s t ≡ true → goes_before v h s t ≡ true
before_as One h s t p one two joined first = first
before_as Two h s t p one two joined first = both (goes_off_first h s t) _ first ((λ i. is_joined (path (rules Two) h) (one i) (two i)) ∙ joined)
before_as Three h s t p one two joined first = both (goes_off_first h s t) _ first ((λ i. is_joined (path (rules Three) h) (one i) (two i)) ∙ joined)

piece_stands : (v : Version) (claimed : Claimed) (h : List Record) (x : SetTimeout) → ClaimedAre claimed h → IsSet claimed x → path (rules v) h x.piece x.piece ≡ true
piece_stands v claimed h x stands is = by (timeout_made h x.timeout) refl (piece_told claimed h x stands is)
  where
    by : (o : Option history.Timeout) → timeout_made h x.timeout ≡ o → option_map (λ (m : history.Timeout). m.piece) o ≡ Some x.piece → path (rules v) h x.piece x.piece ≡ true
    by None e same = absurd (cc)
    by (Some m) e same =
        let piece : m.piece ≡ x.piece = cc in
        let below = (timeout_below h x.timeout m e).1 in
        let action = number_taken (told h).actions x.piece (actions_are_numbered h) (omega (arith, below, piece)) in
        subst (λ n. path (rules v) h n n ≡ true) action.2 (action_stands (rules v) h action.0 action.1)

pub goes_on_before : (v : Version) (claimed : Claimed) (h : List Record) (x y : SetTimeout) → ClaimedAre claimed h → IsSet claimed x → IsSet claimed y → GoesOn x y → goes_before v h x.timeout y.timeout ≡ true
goes_on_before v claimed h x y stands one two on =
    before_as v h x.timeout y.timeout x.piece (piece_told claimed h x stands one) (piece_told claimed h y stands two ∙ ap (λ n. Some n) (sym on.0)) (piece_stands v claimed h x stands one)
    (off_is claimed h x y stands one two ∙ both (nat_lt x.rank y.rank) (nat_le x.delay y.delay) (less_is x.rank y.rank on.2) (le_is on.1))
  where
    le_is : x.delay ≤ y.delay → nat_le x.delay y.delay ≡ true
    le_is le = grind (arith, nat_tests)
