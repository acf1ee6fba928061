use Rattle.std.specs.Prelude.{codes}
use Rattle.mpi.specs.declared.fault.MpiFault.TheVariants.{Unclosed, UnknownFunction, BadCount, BadValue, TooManyCommands, TooLong, Denied}
use Rattle.muck_mpi.proofs.Hearing.{shown_as, unclosed, unknown, bad_count, bad_value, too_many, too_long, denied}
use Rattle.muck_mpi.proofs.speaker.fault_line.Goals as goal

pub returns-in-Unclosed : goal.returns-in-Unclosed
returns-in-Unclosed c = rw c.in-Unclosed.is (shown_as Unclosed (codes "MPI error 60.") c.of_text.result unclosed c.of_text.ensures)

pub returns-in-UnknownFunction : goal.returns-in-UnknownFunction
returns-in-UnknownFunction c = rw c.in-UnknownFunction.is (shown_as UnknownFunction (codes "MPI error 61.") c.of_text-in-UnknownFunction.result unknown c.of_text-in-UnknownFunction.ensures)

pub returns-in-BadCount : goal.returns-in-BadCount
returns-in-BadCount c = rw c.in-BadCount.is (shown_as BadCount (codes "MPI error 62.") c.of_text-in-BadCount.result bad_count c.of_text-in-BadCount.ensures)

pub returns-in-BadValue : goal.returns-in-BadValue
returns-in-BadValue c = rw c.in-BadValue.is (shown_as BadValue (codes "MPI error 63.") c.of_text-in-BadValue.result bad_value c.of_text-in-BadValue.ensures)

pub returns-in-TooManyCommands : goal.returns-in-TooManyCommands
returns-in-TooManyCommands c = rw c.in-TooManyCommands.is (shown_as TooManyCommands (codes "MPI error 64.") c.of_text-in-TooManyCommands.result too_many c.of_text-in-TooManyCommands.ensures)

pub returns-in-TooLong : goal.returns-in-TooLong
returns-in-TooLong c = rw c.in-TooLong.is (shown_as TooLong (codes "MPI error 65.") c.of_text-in-TooLong.result too_long c.of_text-in-TooLong.ensures)

pub returns-in-Denied : goal.returns-in-Denied
returns-in-Denied c = rw c.in-Denied.is (shown_as (Denied c.in-Denied.field-0) (codes "MPI error 66.") c.of_text-in-Denied.result (denied c.in-Denied.field-0) c.of_text-in-Denied.ensures)
