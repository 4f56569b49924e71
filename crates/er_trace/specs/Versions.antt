-- Which records each version has.
use Rattle.std.specs.Prelude.{◌≡◌, Bool, true, false, ◌||◌, not}
use Rattle.er_trace.specs.declared.record.Record.{Record}
use Rattle.er_trace.specs.declared.record.Record.TheVariants.{Post, Ask, Queue, Message, Anim, Job}
use Rattle.er_trace.specs.declared.version.Version.{Version}
use Rattle.er_trace.specs.declared.version.Version.TheVariants.{One, Two, Three}
use Rattle.er_trace.specs.Spelling.{IsRecord}

-- it declares or begins a message, an animation callback or a job
abbrev pub is_of_task : Record → Bool
is_of_task (Post m) = true
is_of_task (Ask a) = true
is_of_task (Queue j) = true
is_of_task (Message m) = true
is_of_task (Anim a) = true
is_of_task (Job j) = true
is_of_task _ = false

-- the version has such records
abbrev pub has_tasks : Version → Bool
has_tasks One = false
has_tasks Two = false
has_tasks Three = true

-- the version has the record
abbrev pub has_record : Version → Record → Bool
has_record v x = not (is_of_task x) || has_tasks v

-- a record of the version, of which the numbers and names have a spelling
abbrev pub IsRecordOf : Version → Record → Type 0
IsRecordOf v x = IsRecord x × (has_record v x ≡ true)
