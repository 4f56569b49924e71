-- One spelling has one record.
use Rattle.std.proofs.Common.{◌≡◌, ℕ, ◌<◌, ◌^◌, List, [], ◌∷◌, refl, ap, sym, ◌∙◌, arith}
use Rattle.std.specs.Prelude.{codes, decimal, if◌then◌else◌}
use Rattle.std.specs.Str.{bytes_eq}
use Rattle.std.specs.Str.Parse.{AllDigits, digits_value}
use Rattle.std.proofs.lemmas.Fmt.{digits_value-decimal}
use Rattle.std.proofs.lemmas.Str.Parse.{numerals_by_value, tells_digits}
use Rattle.er_text.specs.Name.{IsName, name_spelling, spelled}
use Rattle.er_text.specs.Words.{words}
use Rattle.er_text.proofs.NameLaws.{spelled-spelling}
use Rattle.er_syntax.specs.declared.head.Head.{Head}
use Rattle.er_syntax.specs.declared.head.Head.TheVariants as heads
use Rattle.er_trace.specs.declared.record.Record.{Record}
use Rattle.er_trace.specs.declared.record.Record.TheVariants.{Parse, ParseFrame, Exec, Timer, Tick, Dcl, Load, Eload, Fire, Wfire, Reply, Inline, Run, Close, Back, New, NewFrame, On, Set, Every, Send, Post, Ask, Queue, Message, Anim, Job, Access}
use Rattle.er_trace.specs.declared.record.Kind.{Kind}
use Rattle.er_trace.specs.declared.record.Kind.TheVariants as kinds
use Rattle.er_trace.specs.declared.record.NewKind.{NewKind}
use Rattle.er_trace.specs.declared.record.NewKind.TheVariants as new_kinds
use Rattle.er_trace.specs.declared.record.Mode.TheVariants as modes
use Rattle.er_trace.specs.declared.record.Loc.{Loc}
use Rattle.er_trace.specs.declared.record.Loc.TheVariants.{Var, Elem, Slot}
use Rattle.er_trace.specs.Spelling.{kind_word, new_kind_word, spelling, IsRecord}
use Rattle.er_syntax.specs.Heads.{head_word, record_head, later_words}
use Rattle.er_syntax.proofs.RecordLaws.{words_of_spelling}

-- back from a word to what it spells

number_of : List ℕ → ℕ
number_of word = digits_value 10 word

number_back : (n : ℕ) → n < 2 ^ 32 → number_of (decimal n) ≡ n
unfolding number_of
number_back n small = digits_value-decimal (numerals_by_value (AllDigits 10) tells_digits) n (omega arith)

name_of : List ℕ → List ℕ
name_of word = spelled word

name_back : (name : List ℕ) → IsName name → name_of (name_spelling name) ≡ name
unfolding name_of
name_back name is = spelled-spelling name is.bytes

head_of : List ℕ → Head
head_of word =
    if bytes_eq word (codes "exec") then heads.Exec else
    if bytes_eq word (codes "timer") then heads.Timer else
    if bytes_eq word (codes "tick") then heads.Tick else
    if bytes_eq word (codes "dcl") then heads.Dcl else
    if bytes_eq word (codes "load") then heads.Load else
    if bytes_eq word (codes "eload") then heads.Eload else
    if bytes_eq word (codes "fire") then heads.Fire else
    if bytes_eq word (codes "wfire") then heads.Wfire else
    if bytes_eq word (codes "reply") then heads.Reply else
    if bytes_eq word (codes "inline") then heads.Inline else
    if bytes_eq word (codes "run") then heads.Run else
    if bytes_eq word (codes "close") then heads.Close else
    if bytes_eq word (codes "back") then heads.Back else
    if bytes_eq word (codes "new") then heads.New else
    if bytes_eq word (codes "on") then heads.On else
    if bytes_eq word (codes "set") then heads.Set else
    if bytes_eq word (codes "every") then heads.Every else
    if bytes_eq word (codes "send") then heads.Send else
    if bytes_eq word (codes "post") then heads.Post else
    if bytes_eq word (codes "ask") then heads.Ask else
    if bytes_eq word (codes "queue") then heads.Queue else
    if bytes_eq word (codes "message") then heads.Message else
    if bytes_eq word (codes "anim") then heads.Anim else
    if bytes_eq word (codes "job") then heads.Job else
    if bytes_eq word (codes "r") then heads.R else
    if bytes_eq word (codes "w") then heads.W else
    heads.Parse

head_back : (head : Head) → head_of (head_word head) ≡ head
unfolding head_of
head_back heads.Parse = refl
head_back heads.Exec = refl
head_back heads.Timer = refl
head_back heads.Tick = refl
head_back heads.Dcl = refl
head_back heads.Load = refl
head_back heads.Eload = refl
head_back heads.Fire = refl
head_back heads.Wfire = refl
head_back heads.Reply = refl
head_back heads.Inline = refl
head_back heads.Run = refl
head_back heads.Close = refl
head_back heads.Back = refl
head_back heads.New = refl
head_back heads.On = refl
head_back heads.Set = refl
head_back heads.Every = refl
head_back heads.Send = refl
head_back heads.Post = refl
head_back heads.Ask = refl
head_back heads.Queue = refl
head_back heads.Message = refl
head_back heads.Anim = refl
head_back heads.Job = refl
head_back heads.R = refl
head_back heads.W = refl

kind_of : List ℕ → Kind
kind_of word =
    if bytes_eq word (codes "inline") then kinds.Inline else
    if bytes_eq word (codes "sync") then kinds.Sync else
    if bytes_eq word (codes "defer") then kinds.Defer else
    if bytes_eq word (codes "async") then kinds.Async else
    if bytes_eq word (codes "image") then kinds.Image else
    kinds.Plain

kind_back : (kind : Kind) → kind_of (kind_word kind) ≡ kind
unfolding kind_of
kind_back kinds.Plain = refl
kind_back kinds.Inline = refl
kind_back kinds.Sync = refl
kind_back kinds.Defer = refl
kind_back kinds.Async = refl
kind_back kinds.Image = refl

new_kind_of : List ℕ → NewKind
new_kind_of word =
    if bytes_eq word (codes "async") then new_kinds.Async else
    if bytes_eq word (codes "image") then new_kinds.Image else
    new_kinds.Plain

new_kind_back : (kind : NewKind) → new_kind_of (new_kind_word kind) ≡ kind
unfolding new_kind_of
new_kind_back new_kinds.Plain = refl
new_kind_back new_kinds.Async = refl
new_kind_back new_kinds.Image = refl

located : List ℕ → ℕ → List ℕ → Loc
located word n name = if bytes_eq word (codes "var") then Var n name else if bytes_eq word (codes "elem") then Elem n name else Slot n name

-- back from the words of a record to the record
abbrev record_of : Head → List (List ℕ) → Record
record_of heads.Parse (a ∷ b ∷ k ∷ []) = Parse (number_of a) (number_of b) (kind_of k)
record_of heads.Parse (a ∷ b ∷ k ∷ c ∷ []) = ParseFrame (number_of a) (number_of b) (number_of c)
record_of heads.New (a ∷ b ∷ k ∷ []) = New (number_of a) (number_of b) (new_kind_of k)
record_of heads.New (a ∷ b ∷ k ∷ c ∷ []) = NewFrame (number_of a) (number_of b) (number_of c)
record_of heads.Exec (a ∷ []) = Exec (number_of a)
record_of heads.Timer (a ∷ []) = Timer (number_of a)
record_of heads.Tick (a ∷ []) = Tick (number_of a)
record_of heads.Dcl (a ∷ b ∷ []) = Dcl (number_of a) (number_of b)
record_of heads.Load (a ∷ b ∷ []) = Load (number_of a) (number_of b)
record_of heads.Eload (a ∷ b ∷ []) = Eload (number_of a) (number_of b)
record_of heads.Fire (a ∷ b ∷ n ∷ []) = Fire (number_of a) (number_of b) (name_of n)
record_of heads.Wfire (a ∷ b ∷ n ∷ []) = Wfire (number_of a) (number_of b) (name_of n)
record_of heads.Reply (a ∷ b ∷ []) = Reply (number_of a) (number_of b)
record_of heads.Inline (a ∷ b ∷ n ∷ []) = Inline (number_of a) (number_of b) (name_of n)
record_of heads.Run (a ∷ b ∷ c ∷ []) = Run (number_of a) (number_of b) (number_of c)
record_of heads.Close (a ∷ []) = Close (number_of a)
record_of heads.Back (a ∷ []) = Back (number_of a)
record_of heads.On (a ∷ []) = On (number_of a)
record_of heads.Set (a ∷ b ∷ []) = Set (number_of a) (number_of b)
record_of heads.Every (a ∷ b ∷ []) = Every (number_of a) (number_of b)
record_of heads.Send (a ∷ []) = Send (number_of a)
record_of heads.Post (a ∷ []) = Post (number_of a)
record_of heads.Ask (a ∷ []) = Ask (number_of a)
record_of heads.Queue (a ∷ []) = Queue (number_of a)
record_of heads.Message (a ∷ []) = Message (number_of a)
record_of heads.Anim (a ∷ []) = Anim (number_of a)
record_of heads.Job (a ∷ []) = Job (number_of a)
record_of heads.R (w ∷ a ∷ n ∷ []) = Access modes.R (located w (number_of a) (name_of n))
record_of heads.W (w ∷ a ∷ n ∷ []) = Access modes.W (located w (number_of a) (name_of n))
record_of _ later = Exec 0

record_back : (x : Record) → IsRecord x → record_of (record_head x) (later_words x) ≡ x
unfolding located
record_back (Parse a b k) is =
    let ea : number_of (decimal a) ≡ a = number_back a is.1.0 in let eb : number_of (decimal b) ≡ b = number_back b is.1.1.0 in let ek : kind_of (kind_word k) ≡ k = kind_back k in cc
record_back (ParseFrame a b c) is =
    let ea : number_of (decimal a) ≡ a = number_back a is.1.0 in let eb : number_of (decimal b) ≡ b = number_back b is.1.1.0 in let ec : number_of (decimal c) ≡ c = number_back c is.1.1.1.1.0 in cc
record_back (New a b k) is =
    let ea : number_of (decimal a) ≡ a = number_back a is.1.0 in let eb : number_of (decimal b) ≡ b = number_back b is.1.1.0 in let ek : new_kind_of (new_kind_word k) ≡ k = new_kind_back k in cc
record_back (NewFrame a b c) is =
    let ea : number_of (decimal a) ≡ a = number_back a is.1.0 in let eb : number_of (decimal b) ≡ b = number_back b is.1.1.0 in let ec : number_of (decimal c) ≡ c = number_back c is.1.1.1.1.0 in cc
record_back (Exec a) is =
    let ea : number_of (decimal a) ≡ a = number_back a is.1.0 in cc
record_back (Timer a) is =
    let ea : number_of (decimal a) ≡ a = number_back a is.1.0 in cc
record_back (Tick a) is =
    let ea : number_of (decimal a) ≡ a = number_back a is.1.0 in cc
record_back (Dcl a b) is =
    let ea : number_of (decimal a) ≡ a = number_back a is.1.0 in let eb : number_of (decimal b) ≡ b = number_back b is.1.1.0 in cc
record_back (Load a b) is =
    let ea : number_of (decimal a) ≡ a = number_back a is.1.0 in let eb : number_of (decimal b) ≡ b = number_back b is.1.1.0 in cc
record_back (Eload a b) is =
    let ea : number_of (decimal a) ≡ a = number_back a is.1.0 in let eb : number_of (decimal b) ≡ b = number_back b is.1.1.0 in cc
record_back (Fire a b n) is =
    let ea : number_of (decimal a) ≡ a = number_back a is.1.0 in let eb : number_of (decimal b) ≡ b = number_back b is.1.1.0 in let en : name_of (name_spelling n) ≡ n = name_back n is.1.1.1.0 in cc
record_back (Wfire a b n) is =
    let ea : number_of (decimal a) ≡ a = number_back a is.1.0 in let eb : number_of (decimal b) ≡ b = number_back b is.1.1.0 in let en : name_of (name_spelling n) ≡ n = name_back n is.1.1.1.0 in cc
record_back (Reply a b) is =
    let ea : number_of (decimal a) ≡ a = number_back a is.1.0 in let eb : number_of (decimal b) ≡ b = number_back b is.1.1.0 in cc
record_back (Inline a b n) is =
    let ea : number_of (decimal a) ≡ a = number_back a is.1.0 in let eb : number_of (decimal b) ≡ b = number_back b is.1.1.0 in let en : name_of (name_spelling n) ≡ n = name_back n is.1.1.1.0 in cc
record_back (Run a b c) is =
    let ea : number_of (decimal a) ≡ a = number_back a is.1.0 in let eb : number_of (decimal b) ≡ b = number_back b is.1.1.0 in let ec : number_of (decimal c) ≡ c = number_back c is.1.1.1.0 in cc
record_back (Close a) is =
    let ea : number_of (decimal a) ≡ a = number_back a is.1.0 in cc
record_back (Back a) is =
    let ea : number_of (decimal a) ≡ a = number_back a is.1.0 in cc
record_back (On a) is =
    let ea : number_of (decimal a) ≡ a = number_back a is.1.0 in cc
record_back (Set a b) is =
    let ea : number_of (decimal a) ≡ a = number_back a is.1.0 in let eb : number_of (decimal b) ≡ b = number_back b is.1.1.0 in cc
record_back (Every a b) is =
    let ea : number_of (decimal a) ≡ a = number_back a is.1.0 in let eb : number_of (decimal b) ≡ b = number_back b is.1.1.0 in cc
record_back (Send a) is =
    let ea : number_of (decimal a) ≡ a = number_back a is.1.0 in cc
record_back (Post a) is =
    let ea : number_of (decimal a) ≡ a = number_back a is.1.0 in cc
record_back (Ask a) is =
    let ea : number_of (decimal a) ≡ a = number_back a is.1.0 in cc
record_back (Queue a) is =
    let ea : number_of (decimal a) ≡ a = number_back a is.1.0 in cc
record_back (Message a) is =
    let ea : number_of (decimal a) ≡ a = number_back a is.1.0 in cc
record_back (Anim a) is =
    let ea : number_of (decimal a) ≡ a = number_back a is.1.0 in cc
record_back (Job a) is =
    let ea : number_of (decimal a) ≡ a = number_back a is.1.0 in cc
record_back (Access modes.R (Var a n)) is =
    let ea : number_of (decimal a) ≡ a = number_back a is.1.1.0 in let en : name_of (name_spelling n) ≡ n = name_back n is.1.1.1.0 in cc
record_back (Access modes.R (Elem a n)) is =
    let ea : number_of (decimal a) ≡ a = number_back a is.1.1.0 in let en : name_of (name_spelling n) ≡ n = name_back n is.1.1.1.0 in cc
record_back (Access modes.R (Slot a n)) is =
    let ea : number_of (decimal a) ≡ a = number_back a is.1.1.0 in let en : name_of (name_spelling n) ≡ n = name_back n is.1.1.1.0 in cc
record_back (Access modes.W (Var a n)) is =
    let ea : number_of (decimal a) ≡ a = number_back a is.1.1.0 in let en : name_of (name_spelling n) ≡ n = name_back n is.1.1.1.0 in cc
record_back (Access modes.W (Elem a n)) is =
    let ea : number_of (decimal a) ≡ a = number_back a is.1.1.0 in let en : name_of (name_spelling n) ≡ n = name_back n is.1.1.1.0 in cc
record_back (Access modes.W (Slot a n)) is =
    let ea : number_of (decimal a) ≡ a = number_back a is.1.1.0 in let en : name_of (name_spelling n) ≡ n = name_back n is.1.1.1.0 in cc

pub one_record : (x y : Record) → IsRecord x → IsRecord y → spelling x ≡ spelling y → x ≡ y
one_record x y first second e =
    let same : head_word (record_head x) ∷ later_words x ≡ head_word (record_head y) ∷ later_words y = (sym (words_of_spelling x first) ∙ ap words e) ∙ words_of_spelling y second in
    let word : head_word (record_head x) ≡ head_word (record_head y) = cc in
    let later : later_words x ≡ later_words y = cc in
    let head : record_head x ≡ record_head y = (sym (head_back (record_head x)) ∙ ap head_of word) ∙ head_back (record_head y) in
    (sym (record_back x first) ∙ (ap (λ h. record_of h (later_words x)) head ∙ ap (record_of (record_head y)) later)) ∙ record_back y second
