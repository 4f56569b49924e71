use Rattle.std.proofs.Common.{◌≡◌, ◌∷◌, ◌∙◌, true, false, not, sym, ap, arith, subst}
use Rattle.std.specs.Prelude.{◌||◌}
use Rattle.std.proofs.lemmas.Grind.{common_steps}
use Rattle.std.proofs.lemmas.Result.{IfOk-weaker}
use Rattle.er_text.specs.Words.{words}
use Rattle.er_syntax.specs.declared.head.Head.{Head}
use Rattle.er_trace.specs.declared.record.Record.{Record}
use Rattle.er_trace.specs.declared.version.Version.{Version}
use Rattle.er_syntax.specs.Heads.{begins_task, record_head, GoesOn}
use Rattle.er_trace.specs.Spelling.{spelling}
use Rattle.er_trace.specs.Versions.{IsRecordOf, has_tasks, has_record}
use Rattle.er_syntax.proofs.RecordLaws.{spelled_by_words, words_by_spelling, task_begins, SpelledFrom}
use Rattle.er_syntax.proofs.parse.parse_record.Goals as goal

-- a version has a record where it has its first word
has_by : (x : Record) (version : Version) (head : Head) → record_head x ≡ head → has_record version x ≡ true → (not (begins_task head) || has_tasks version) ≡ true
has_by x version head same has = ap (λ b. not b || has_tasks version) (sym (task_begins x ∙ ap begins_task same)) ∙ has

record_by : (x : Record) (version : Version) (head : Head) → record_head x ≡ head → (not (begins_task head) || has_tasks version) ≡ true → has_record version x ≡ true
record_by x version head same has = ap (λ b. not b || has_tasks version) (task_begins x ∙ ap begins_task same) ∙ has

pub returns-in_default-head_of-clause-exact : goal.returns-in_default-head_of-clause-exact
returns-in_default-head_of-clause-exact c = λ x is e.
    let all : words c.args.line.now ≡ c.in-Some.first.now ∷ c.next.new.self = sym c.new-words.ensures ∙ c.in-Some.ensures in
    let from : SpelledFrom c.in-Some.first.now c.next.new.self x = words_by_spelling c.args.line.now c.in-Some.first.now c.next.new.self x all is.0 e in
    let found = c.head_of.ensures.exact (record_head x) from.first_word in
    absurd (grind (arith, common_steps))

pub returns-then-not-has_head-clause-exact : goal.returns-then-not-has_head-clause-exact
returns-then-not-has_head-clause-exact c = λ x is e.
    let all : words c.args.line.now ≡ c.in-Some.first.now ∷ c.next.new.self = sym c.new-words.ensures ∙ c.in-Some.ensures in
    let from : SpelledFrom c.in-Some.first.now c.next.new.self x = words_by_spelling c.args.line.now c.in-Some.first.now c.next.new.self x all is.0 e in
    let found = c.head_of.ensures.exact (record_head x) from.first_word in
    let same : record_head x ≡ c.in-Some-head_of.head = cc in
    let no : true ≡ false = sym (has_by x c.args.version c.in-Some-head_of.head same is.1) ∙ (sym c.has_head.ensures ∙ c.if-not-has_head.true) in
    absurd (cc)

pub returns-clause-read : goal.returns-clause-read
returns-clause-read c =
    let all : words c.args.line.now ≡ c.in-Some.first.now ∷ c.next.new.self = sym c.new-words.ensures ∙ c.in-Some.ensures in
    let has : (not (begins_task c.in-Some-head_of.head) || has_tasks c.args.version) ≡ true = cc in
    let goes : Record → Type 0 = λ x. GoesOn c.in-Some-head_of.head x c.next.new.self in
    let is : Record → Type 0 = λ x. IsRecordOf c.args.version x × (c.args.line.now ≡ spelling x) in
    IfOk-weaker c.read_form.result goes is
    (λ x h. ((h.is_record, record_by x c.args.version c.in-Some-head_of.head h.headed has), spelled_by_words c.args.line.now c.in-Some.first.now c.next.new.self c.in-Some-head_of.head x all c.in-Some-head_of.ensures.read h))
    c.read_form.ensures.read

pub returns-clause-exact : goal.returns-clause-exact
returns-clause-exact c = λ x is e.
    let all : words c.args.line.now ≡ c.in-Some.first.now ∷ c.next.new.self = sym c.new-words.ensures ∙ c.in-Some.ensures in
    let from : SpelledFrom c.in-Some.first.now c.next.new.self x = words_by_spelling c.args.line.now c.in-Some.first.now c.next.new.self x all is.0 e in
    let found = c.head_of.ensures.exact (record_head x) from.first_word in
    let same : record_head x ≡ c.in-Some-head_of.head = cc in
    c.read_form.ensures.exact x (subst (λ (head : Head). GoesOn head x c.next.new.self) same from.goes_on)
