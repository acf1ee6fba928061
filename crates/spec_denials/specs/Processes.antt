-- The acts for which a primitive of processes asks leave, and what came of it.
use Rattle.std.specs.Prelude.{◌≡◌, ℕ, List, [], ◌∷◌, take, Option, None}
use Rattle.std.specs.Option.{option_map_or}
use Rattle.spec_rights.specs.declared.act.Act.{Act}
use Rattle.spec_rights.specs.declared.act.Act.TheVariants.{EndProcess, Call as CallAct}
use Rattle.muf_model.specs.declared.prims.Primitive.{Primitive}
use Rattle.muf_model.specs.declared.prims.Primitive.TheVariants.{Kill, Call, Queue as QueuePrim}
use Rattle.muf_model.specs.Datum.{Datum, int, text, object}
use Rattle.muf_model.specs.Prims.{primitive_level}
use Rattle.muck_queue.specs.Queues.{Queue, process}
use Rattle.spec_prims.specs.Asking.{object_numbered}
use Rattle.spec_processes.specs.ProcessRows.{Effect, refuses, needs_at, taken_at}
use Rattle.spec_denials.specs.Acts.{acts_with}
use Rattle.spec_denials.specs.Asked.{FaultNames}

-- KILL: the process is one of that player and program
abbrev pub kill_acts : List Datum → Queue → List Act
kill_acts (int i ∷ []) q = option_map_or (λ o. EndProcess o.player o.program ∷ []) (process i q) []
kill_acts items q = []

-- CALL and QUEUE: the program is called, or started later
abbrev pub calls : List Datum → List Act
calls (text name ∷ object d ∷ []) = CallAct (object_numbered d) ∷ []
calls (object d ∷ []) = CallAct (object_numbered d) ∷ []
calls items = []

abbrev pub queues : List Datum → List Act
queues (text s ∷ object d ∷ int i ∷ []) = CallAct (object_numbered d) ∷ []
queues items = []

abbrev pub own_process_acts : Primitive → List Datum → Queue → List Act
own_process_acts Kill items q = kill_acts items q
own_process_acts Call items q = calls items
own_process_acts QueuePrim items q = queues items
own_process_acts p items q = []

-- what a primitive of processes asks for
abbrev pub process_acts : Primitive → List Datum → Queue → List Act
process_acts p stack q = acts_with (needs_at p stack) (primitive_level p) stack (own_process_acts p (take (taken_at p stack) stack) q)

-- where it is denied, it is so by this rule; and where it went on, no rule denied
abbrev pub EffectNames : Option ℕ → Effect → Type 0
EffectNames rule (refuses f) = FaultNames rule f
EffectNames rule effect = rule ≡ None
