-- What events keep, against what the whole list says. Lists stand newest first.
use Rattle.std.specs.Prelude.{◌≡◌, List, Option, Some}
use Rattle.er_trace.specs.declared.record.Record.{Record}
use Rattle.er_history.specs.History.{Action, Entry, Delivery, DclOf, LoadOf, EloadOf, FireAt, InlineAt, WindowFire, ReplyOf, What, ParseStep, ScriptRun, TimeoutRun, TickRun, BeginOf, HandlerOf, CloseOf, MessageRun, AnimRun, JobRun, Unnamed, Element, Timeout, Task, told, first_to, makes_task, posts_message, asks_for_anim, queues_job, makes_element, makes_timeout, maker_by, element_maker, declares_document, declares_handler, declares_interval, declares_request}
use Rattle.er_history.specs.Laws.{Among}
use Rattle.er_history.specs.Naming.{IsNamed}

-- What was known under a number is known under it later.
abbrev pub Stays : {A : Type 0} → Option A → Option A → Type 0
Stays {A} then_ now = (x : A) → then_ ≡ Some x → now ≡ Some x

abbrev pub DeliveryStays : List Entry → Delivery → Type 0
DeliveryStays entries (DclOf d m) = Stays m (maker_by (declares_document d) entries)
DeliveryStays entries (LoadOf d m) = Stays m (maker_by (declares_document d) entries)
DeliveryStays entries (EloadOf e made) = Stays made (first_to (makes_element e) entries)
DeliveryStays entries (FireAt e n m) = Stays m (element_maker entries e)
DeliveryStays entries (InlineAt e n m) = Stays m (element_maker entries e)
DeliveryStays entries (WindowFire d n m) = Stays m (maker_by (declares_document d) entries)
DeliveryStays entries (ReplyOf r m) = Stays m (maker_by (declares_request r) entries)

abbrev pub WhatStays : List Entry → What → Type 0
WhatStays entries (ParseStep d m) = Stays m (maker_by (declares_document d) entries)
WhatStays entries (ScriptRun e made) = Stays made (first_to (makes_element e) entries)
WhatStays entries (TimeoutRun t made) = Stays made (first_to (makes_timeout t) entries)
WhatStays entries (TickRun i m) = Stays m (maker_by (declares_interval i) entries)
WhatStays entries (BeginOf d) = DeliveryStays entries d.delivers
WhatStays entries (HandlerOf d g x m) =
    DeliveryStays entries d.delivers × Stays m (maker_by (declares_handler x) entries)
WhatStays entries (CloseOf d) = DeliveryStays entries d.delivers
WhatStays entries (MessageRun m made) = Stays made (first_to (makes_task (posts_message m)) entries)
WhatStays entries (AnimRun a made) = Stays made (first_to (makes_task (asks_for_anim a)) entries)
WhatStays entries (JobRun j made within) = Stays made (first_to (makes_task (queues_job j)) entries)
WhatStays entries Unnamed = Unit {0}

-- What a look-up found when an event began, it finds in the whole list too.
abbrev pub FactsStay : Type 0
FactsStay = (h : List Record) (a : Action) → Among a (told h).actions
    → WhatStays (told h).entries a.event.what

-- Each fact that is kept of a delivery is the one that a look-up in the list gives.
abbrev pub DeliveryIs : List Entry → Delivery → Type 0
DeliveryIs entries (DclOf d m) = m ≡ maker_by (declares_document d) entries
DeliveryIs entries (LoadOf d m) = m ≡ maker_by (declares_document d) entries
DeliveryIs entries (EloadOf e made) = made ≡ first_to (makes_element e) entries
DeliveryIs entries (FireAt e n m) = m ≡ element_maker entries e
DeliveryIs entries (InlineAt e n m) = m ≡ element_maker entries e
DeliveryIs entries (WindowFire d n m) = m ≡ maker_by (declares_document d) entries
DeliveryIs entries (ReplyOf r m) = m ≡ maker_by (declares_request r) entries

abbrev pub WhatIs : List Entry → What → Type 0
WhatIs entries (ParseStep d m) = m ≡ maker_by (declares_document d) entries
WhatIs entries (ScriptRun e made) =
    (made ≡ first_to (makes_element e) entries) × (x : Element) × (made ≡ Some x)
WhatIs entries (TimeoutRun t made) =
    (made ≡ first_to (makes_timeout t) entries) × (x : Timeout) × (made ≡ Some x)
WhatIs entries (TickRun i m) = m ≡ maker_by (declares_interval i) entries
WhatIs entries (BeginOf d) = DeliveryIs entries d.delivers
WhatIs entries (HandlerOf d g x m) =
    DeliveryIs entries d.delivers × (m ≡ maker_by (declares_handler x) entries)
WhatIs entries (CloseOf d) = DeliveryIs entries d.delivers
WhatIs entries (MessageRun m made) =
    (made ≡ first_to (makes_task (posts_message m)) entries) × (x : Task) × (made ≡ Some x)
WhatIs entries (AnimRun a made) =
    (made ≡ first_to (makes_task (asks_for_anim a)) entries) × (x : Task) × (made ≡ Some x)
WhatIs entries (JobRun j made within) =
    (made ≡ first_to (makes_task (queues_job j)) entries) × (x : Task) × (made ≡ Some x)
WhatIs entries Unnamed = ⊥

-- Where naming refuses no record, each maker, element and timeout that an event kept is what a
-- look-up in the whole list gives.
abbrev pub FactsAreExact : Type 0
FactsAreExact = (h : List Record) (a : Action) → IsNamed h → Among a (told h).actions
    → WhatIs (told h).entries a.event.what
