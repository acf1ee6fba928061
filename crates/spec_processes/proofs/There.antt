-- What may be used of the primitives of processes has its row.
use Rattle.std.proofs.Common.{◌≡◌, refl}
use Rattle.std.specs.Prelude.{◌&&◌, is_some}
use Rattle.muf_model.specs.declared.prims.Primitive.{Primitive}
use Rattle.muf_model.specs.declared.prims.Primitive.TheVariants.{Call, Fork, Sleep, Read, Kill, Pid, IsPid, Queue, Mode, SetMode, Preempt, Foreground, Background, SysTime, Random, EventSend, EventWait, EventCount, Prog, Trig, Caller, Cmd}
use Rattle.muf_model.specs.Prims.{is_usable}
use Rattle.spec_processes.specs.ProcessRows.{process_row, is_process}

pub process_there : (p : Primitive) → is_some (process_row p) ≡ is_process p && is_usable p
process_there Call = refl
process_there Fork = refl
process_there Sleep = refl
process_there Read = refl
process_there Kill = refl
process_there Pid = refl
process_there IsPid = refl
process_there Queue = refl
process_there Mode = refl
process_there SetMode = refl
process_there Preempt = refl
process_there Foreground = refl
process_there Background = refl
process_there SysTime = refl
process_there Random = refl
process_there EventSend = refl
process_there EventWait = refl
process_there EventCount = refl
process_there Prog = refl
process_there Trig = refl
process_there Caller = refl
process_there Cmd = refl
process_there _ = refl
