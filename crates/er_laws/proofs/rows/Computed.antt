-- The rows, by computing.
use Rattle.std.proofs.Common.{refl}
use Rattle.er_laws.specs.rows.Apart.{PlainElementNotForLoad, MadeElementNotForLoad, CloseForLoad, OtherDocumentNotForLoad, WindowsApart, ElementAndWindowApart, TypesApart, LongerDelaySetFirst, ShorterDelaySetLast, DeferredOfTwoDocuments}
use Rattle.er_laws.specs.rows.Full.{FullParse, FullScript, FullLoad, FullEload, LegalEload, FullTimer, FullTimerOfPieces, FullRequest, FullBegins, FullDispatch}
use Rattle.er_laws.specs.rows.Realistic.{RealisticPage}
use Rattle.er_laws.specs.rows.Nested.{SuspendedScript, CutShort, InAHandler, InAClose, InCallbacks}
use Rattle.er_laws.specs.rows.Late.{StepAfterDeferredScript, StepAfterDcl, StepAfterLoad, BlockingAfterStep, BlockingAfterDeferred, DeferredExchanged, ScriptAfterDcl, ScriptAfterLoad, ScriptAfterItsLoad, DclAfterLoad, HandlerAfterGreaterGroup}
use Rattle.er_laws.specs.rows.Timers.{FirstTimers, SecondTimers, ThirdTimers, FourthTimers}
use Rattle.er_laws.specs.rows.Tasks.{JobsOfTwoPieces, FirstTasks, SecondTasks, ThirdTasks}
use Rattle.er_laws.specs.rows.Random.{FirstPage, SecondPage, ThirdPage, FourthPage, FifthPage, SixthPage, SeventhPage, EighthPage, NinthPage, TenthPage, EleventhPage, TwelfthPage}

pub realistic_page : RealisticPage
realistic_page = record { edges = refl; legal = refl }

pub suspended_script : SuspendedScript
suspended_script = record { edges = refl; legal = refl }

pub cut_short : CutShort
cut_short = record { edges = refl; legal = refl }

pub in_a_handler : InAHandler
in_a_handler = record { edges = refl; legal = refl }

pub in_a_close : InAClose
in_a_close = record { edges = refl; legal = refl }

pub in_callbacks : InCallbacks
in_callbacks = record { edges = refl; legal = refl }

pub step_after_deferred_script : StepAfterDeferredScript
step_after_deferred_script = record { named = refl; late_ones = refl; in_order = refl }

pub step_after_dcl : StepAfterDcl
step_after_dcl = record { named = refl; late_ones = refl; in_order = refl }

pub step_after_load : StepAfterLoad
step_after_load = record { named = refl; late_ones = refl; in_order = refl }

pub blocking_after_step : BlockingAfterStep
blocking_after_step = record { named = refl; late_ones = refl; in_order = refl }

pub blocking_after_deferred : BlockingAfterDeferred
blocking_after_deferred = record { named = refl; late_ones = refl; in_order = refl }

pub deferred_exchanged : DeferredExchanged
deferred_exchanged = record { named = refl; late_ones = refl; in_order = refl }

pub script_after_dcl : ScriptAfterDcl
script_after_dcl = record { named = refl; late_ones = refl; in_order = refl }

pub script_after_load : ScriptAfterLoad
script_after_load = record { named = refl; late_ones = refl; in_order = refl }

pub script_after_its_load : ScriptAfterItsLoad
script_after_its_load = record { named = refl; late_ones = refl; in_order = refl }

pub dcl_after_load : DclAfterLoad
dcl_after_load = record { named = refl; late_ones = refl; in_order = refl }

pub handler_after_greater_group : HandlerAfterGreaterGroup
handler_after_greater_group = record { named = refl; late_ones = refl; in_order = refl }

pub first_page : FirstPage
first_page = record { row = record { edges = refl; legal = refl }; next = refl }

pub second_page : SecondPage
second_page = record { row = record { edges = refl; legal = refl }; next = refl }

pub third_page : ThirdPage
third_page = record { row = record { edges = refl; legal = refl }; next = refl }

pub fourth_page : FourthPage
fourth_page = record { row = record { edges = refl; legal = refl }; next = refl }

pub fifth_page : FifthPage
fifth_page = record { row = record { edges = refl; legal = refl }; next = refl }

pub sixth_page : SixthPage
sixth_page = record { row = record { edges = refl; legal = refl }; next = refl }

pub seventh_page : SeventhPage
seventh_page = record { row = record { edges = refl; legal = refl }; next = refl }

pub eighth_page : EighthPage
eighth_page = record { row = record { edges = refl; legal = refl }; next = refl }

pub ninth_page : NinthPage
ninth_page = record { row = record { edges = refl; legal = refl }; next = refl }

pub tenth_page : TenthPage
tenth_page = record { row = record { edges = refl; legal = refl }; next = refl }

pub eleventh_page : EleventhPage
eleventh_page = record { row = record { edges = refl; legal = refl }; next = refl }

pub twelfth_page : TwelfthPage
twelfth_page = record { row = record { edges = refl; legal = refl }; next = refl }

pub plain_element_not_for_load : PlainElementNotForLoad
plain_element_not_for_load = record { edges = refl; legal = refl }

pub made_element_not_for_load : MadeElementNotForLoad
made_element_not_for_load = record { edges = refl; legal = refl }

pub close_for_load : CloseForLoad
close_for_load = record { edges = refl; legal = refl }

pub other_document_not_for_load : OtherDocumentNotForLoad
other_document_not_for_load = record { edges = refl; legal = refl }

pub windows_apart : WindowsApart
windows_apart = record { edges = refl; legal = refl }

pub element_and_window_apart : ElementAndWindowApart
element_and_window_apart = record { edges = refl; legal = refl }

pub types_apart : TypesApart
types_apart = record { edges = refl; legal = refl }

pub longer_delay_set_first : LongerDelaySetFirst
longer_delay_set_first = record { edges = refl; legal = refl }

pub shorter_delay_set_last : ShorterDelaySetLast
shorter_delay_set_last = record { edges = refl; legal = refl }

pub deferred_of_two_documents : DeferredOfTwoDocuments
deferred_of_two_documents = record { edges = refl; legal = refl }

pub full_parse : FullParse
full_parse = record { given = refl; allowed = refl; legal = refl }

pub full_script : FullScript
full_script = record { given = refl; allowed = refl; legal = refl }

pub full_load : FullLoad
full_load = record { given = refl; allowed = refl; legal = refl }

pub full_eload : FullEload
full_eload = record { given = refl; allowed = refl }

pub legal_eload : LegalEload
legal_eload = (refl, refl)

pub full_timer : FullTimer
full_timer = record { given = refl; allowed = refl; legal = refl }

pub full_request : FullRequest
full_request = record { given = refl; allowed = refl; legal = refl }

pub full_begins : FullBegins
full_begins = record { given = refl; allowed = refl; legal = refl }

pub full_dispatch : FullDispatch
full_dispatch = record { given = refl; allowed = refl; legal = refl }

pub full_timer_of_pieces : FullTimerOfPieces
full_timer_of_pieces = record { given = refl; allowed = refl; legal = refl }

pub first_timers : FirstTimers
first_timers = record { edges = refl; legal = refl }

pub second_timers : SecondTimers
second_timers = record { edges = refl; legal = refl }

pub third_timers : ThirdTimers
third_timers = record { edges = refl; legal = refl }

pub fourth_timers : FourthTimers
fourth_timers = record { edges = refl; legal = refl }

pub jobs_of_two_pieces : JobsOfTwoPieces
jobs_of_two_pieces = record { edges = refl; legal = refl }

pub first_tasks : FirstTasks
first_tasks = record { edges = refl; legal = refl }

pub second_tasks : SecondTasks
second_tasks = record { edges = refl; legal = refl }

pub third_tasks : ThirdTasks
third_tasks = record { edges = refl; legal = refl }

pub ruleset inline_dispatches = (suspended_script, cut_short, in_a_handler, in_a_close, in_callbacks)

pub ruleset closes_for_load = (plain_element_not_for_load, made_element_not_for_load, close_for_load, other_document_not_for_load)

pub ruleset targets_apart = (windows_apart, element_and_window_apart, types_apart)

pub ruleset callbacks_apart = (longer_delay_set_first, shorter_delay_set_last, deferred_of_two_documents)

pub ruleset full_pages = (full_parse, full_script, full_load, full_eload, legal_eload)

pub ruleset full_callbacks = (full_timer, full_timer_of_pieces, full_request, full_begins, full_dispatch)

pub ruleset late_steps = (step_after_deferred_script, step_after_dcl, step_after_load)

pub ruleset late_scripts = (blocking_after_step, blocking_after_deferred, deferred_exchanged, script_after_dcl, script_after_load, script_after_its_load)

pub ruleset late_dispatches = (dcl_after_load, handler_after_greater_group)

pub ruleset random_pages = (first_page, second_page, third_page, fourth_page, fifth_page, sixth_page)

pub ruleset more_random_pages = (seventh_page, eighth_page, ninth_page, tenth_page, eleventh_page, twelfth_page)

pub ruleset random_timers = (first_timers, second_timers, third_timers, fourth_timers)

pub ruleset random_tasks = (first_tasks, second_tasks, third_tasks)
