-- The kinds of tasks, as the definitions of a list of records name them.
use Rattle.er_history.specs.Tasks.{TaskKind, OfMessage, OfAnim, OfJob}
use Rattle.er_path_rules.specs.declared.task.kinds.Kind.{Kind}
use Rattle.er_path_rules.specs.declared.task.kinds.Kind.TheVariants.{Message, Anim, Job}

abbrev pub shown : Kind → TaskKind
shown Message = OfMessage
shown Anim = OfAnim
shown Job = OfJob
