-- Listing and ending processes.
use Rattle.std.specs.Prelude.{ℕ, pos, Bool, is_none, if◌then◌else◌, List, length, Option, Some, None}
use Rattle.std.specs.Option.{option_and_then}
use Rattle.std.specs.List.{filter}
use Rattle.muck_model.specs.Decimal.{decimal_of}
use Rattle.spec_live.specs.Lives.{Live, Change, ◌▸◌, reading, tell, name_at}
use Rattle.spec_rights.specs.declared.act.Actor.{Actor}
use Rattle.spec_rights.specs.declared.act.Act.{Act}
use Rattle.spec_rights.specs.declared.act.Act.TheVariants.{EndProcess}
use Rattle.spec_rights.specs.Asking.{asked, refused}
use Rattle.spec_rights.specs.Verdict.{verdict}
use Rattle.spec_commands.specs.Finding.{for_each}
use Rattle.muck_queue.specs.declared.process.Process.{Process}
use Rattle.muck_queue.specs.Queues.{Queue, process}
use Rattle.spec_admin.specs.Replies.{process_line, processes_count, killed_reply, no_process_reply}

-- to end it
abbrev pub ending_act : Process → Act
ending_act p = EndProcess p.player p.program

abbrev pub may_end : Actor → Live → Process → Bool
may_end a w p = is_none (verdict w.objects a (ending_act p))

unfoldable pub process_shown : ℕ → Process → Change
process_shown d p = reading (name_at p.player) (λ name. tell d (process_line p.number p.program.0 name))

-- `@ps`: the processes that the player may end, by number, and how many they are
unfoldable pub processes_shown : ℕ → Actor → Queue → Change
processes_shown d a q = reading (λ w. filter (may_end a w) q.processes) (λ ps. for_each (process_shown d) ps ▸ tell d (processes_count (length ps)))

-- the process whose number a text writes
abbrev pub process_meant : List ℕ → Queue → Option Process
process_meant text q = option_and_then (λ n. process (pos n) q) (decimal_of 2147483647 text)

abbrev pub end_told : ℕ → Actor → Option Process → Change
end_told d a None = tell d no_process_reply
end_told d a (Some p) = asked a (ending_act p) (refused d) (tell d killed_reply)

-- `@kill`: what is told
unfoldable pub kill_told : ℕ → Actor → Queue → List ℕ → Change
kill_told d a q text = end_told d a (process_meant text q)

-- and the process that ends: the one that is meant, where the player may end it
abbrev pub process_killed : Actor → Queue → List ℕ → Live → Option Process
process_killed a q text w = option_and_then (λ p. if may_end a w p then Some p else None) (process_meant text q)
