-- A world may go to another thread, and each of its parts: locks and the values of programs, which hold themselves, and what holds those.
use denote.RattleType.{RattleType}
use denote.Enum.Declared as enum
use denote.Hole.Fix.{holes}
use denote.Hole.FixSend.{Sends, Syncs, fix_send, fix_sync}
use denote.Model.Local.{Parts, rows}
use denote.Model.Marks as knotted
use mir.Syntax.{Lifetime}
use base.Fml.{Lft}
use denote.Ref.{MutRef, ShrRef}
use denote.Param.Send.{IsSend, IsSync, mut_send, sendable}
use Rattle.std.proofs.Crossing.{crosses, sync}
use Rattle.std.specs.contracts.alloc.Global as Heap
use Rattle.std.specs.contracts.option.Option.{the_row as OptionOf}
use Rattle.muck_model.specs.contracts.lock.Lock as Lock
use Rattle.muck_model.proofs.boxed.Boxed.TheSendSync as boxed
use Rattle.muck_model.proofs.line.Line.TheSendSync as line
use Rattle.muck_model.proofs.dbref.Dbref.TheSendSync as dbref
use Rattle.muf_model.specs.declared.value.ValueList.TheDeep.{the_members, member-ValueList, member-ValueMap}
use Rattle.muf_model.specs.contracts.value.ValueList.TheKnot as knot
use Rattle.muf_model.specs.contracts.value.ValueList as ValueList
use Rattle.muf_model.specs.contracts.value.ValueMap as ValueMap
use Rattle.muf_model.specs.contracts.value.Value as Value
use Rattle.muf_model.proofs.text.Text.TheSendSync as text
use Rattle.muf_model.proofs.shared.Shared.TheSendSync as shared
use Rattle.muf_model.proofs.code.VarId.TheSendSync as var_id
use Rattle.muf_model.proofs.value.MapKey.TheSendSync as map_key
use Rattle.muf_model.proofs.size.Size.TheSendSync as size
use Rattle.muf_frame.specs.contracts.frame.Owned as Owned
use Rattle.muf_frame.specs.contracts.frame.Frame as Frame
use Rattle.muf_frame.specs.contracts.mark.Turns as Turns
use Rattle.muf_frame.specs.contracts.mark.Mark as Mark
use Rattle.muf_running.specs.contracts.running.Running as Running
use Rattle.muf_running.proofs.entered.Entered.TheSendSync as entered
use Rattle.muck_queue.specs.contracts.events.ProcessEvent as ProcessEvent
use Rattle.muck_queue.specs.contracts.events.Events as Events
use Rattle.muck_queue.specs.contracts.process.Process as Process
use Rattle.muck_queue.specs.contracts.queue.Queue as Queue
use Rattle.muck_queue.proofs.claim.Claim.TheSendSync as claim
use Rattle.muck_db.proofs.db.Db.TheSendSync as db
use Rattle.muck_board.proofs.board.Board.TheSendSync as board
use Rattle.muck_library.proofs.library.Library.TheSendSync as library
use Rattle.muck_machine.proofs.Dumps.TheSendSync as dumps
use Rattle.muck_machine.specs.contracts.State as State
use Rattle.muck_machine.proofs.past.Past.TheSendSync as past
use Rattle.muck_machine.specs.contracts.world.World as World
use Rattle.muck_machine.specs.contracts.world.sharing.WorldStory.TheImpl as story
use Rattle.muck_machine.specs.contracts.beginning.Beginning as Beginning
use Rattle.spec_events.specs.contracts.logged.Logged as Logged
use Rattle.atomic_table.specs.contracts.shared.Seat as Seat
use Rattle.atomic_table.proofs.shared.Seat.TheSendSync as seat
use Rattle.turn_lock.specs.contracts.view.View as View
use Rattle.turn_lock.specs.contracts.turn.Turn as Turn
use Rattle.turn_lock.proofs.turn.Turn.TheSendSync as turn
use Rattle.muck_dumper.specs.contracts.Store as Store
use Rattle.muck_dumper.proofs.Store.TheSendSync as store

-- Locks.

ruleset plain = (sendable, crosses, boxed.the_send, boxed.the_sync, line.the_send, line.the_sync, dbref.the_send, dbref.the_sync)

layer_send : (h : _ → RattleType) → IsSend (h Lock.the_member) → IsSend (enum.row (Lock.the_layer h))
layer_send h m = search plain depth 20

layer_sync : (h : _ → RattleType) → IsSync (h Lock.the_member) → IsSync (enum.row (Lock.the_layer h))
layer_sync h m = search plain depth 20

locks_send : (i : _) → IsSend (holes Lock.the_ring i)
locks_send = fix_send Lock.the_ring (Lock.by_members (Sends Lock.the_ring) (record { send = λ h s. let r = layer_send h (s Lock.the_member) in record { owned = r.owned; leaving = r.leaving } }))

locks_sync : (i : _) → IsSync (holes Lock.the_ring i)
locks_sync = fix_sync Lock.the_ring (Lock.by_members (Syncs Lock.the_ring) (record { sync = λ h s. let r = layer_sync h (s Lock.the_member) in record { shared = r.shared } }))

lock_send : IsSend Lock.the_row
lock_send = let hole : IsSend Lock.the_hole = locks_send Lock.the_member in search plain depth 20

lock_sync : IsSync Lock.the_row
lock_sync = let hole : IsSync Lock.the_hole = locks_sync Lock.the_member in search plain depth 20

-- The values of programs.

ruleset of_values = (plain, lock_send, lock_sync, shared.the_send, shared.the_sync, text.the_send, text.the_sync, var_id.the_send, var_id.the_sync, map_key.the_send, map_key.the_sync, size.the_send, size.the_sync)

module _ (p : Parts knot.frame) (s : (j : the_members) → IsSend (rows knot.frame p j)) (y : (j : the_members) → IsSync (rows knot.frame p j)) where
  value_at_send : IsSend (knot.at-Value p)
  value_at_send = let a = s member-ValueList in let b = s member-ValueMap in let c = y member-ValueList in let d = y member-ValueMap in search of_values depth 20

  value_at_sync : IsSync (knot.at-Value p)
  value_at_sync = let a = s member-ValueList in let b = s member-ValueMap in let c = y member-ValueList in let d = y member-ValueMap in search of_values depth 20

  pair_at_send : IsSend (knot.at-Pair p)
  pair_at_send = let v = value_at_send in search of_values depth 20

  pair_at_sync : IsSync (knot.at-Pair p)
  pair_at_sync = let v = value_at_sync in search of_values depth 20

  list_at_send : IsSend (knot.view-ValueList p)
  list_at_send = let v = value_at_send in search of_values depth 20

  list_at_sync : IsSync (knot.view-ValueList p)
  list_at_sync = let v = value_at_sync in search of_values depth 20

  map_at_send : IsSend (knot.view-ValueMap p)
  map_at_send = let v = pair_at_send in search of_values depth 20

  map_at_sync : IsSync (knot.view-ValueMap p)
  map_at_sync = let v = pair_at_sync in search of_values depth 20

  step_send : (i : the_members) → IsSend (rows knot.frame (knot.step p) i)
  step_send member-ValueList = record { owned = list_at_send.owned; leaving = λ k d w. tt }
  step_send member-ValueMap = record { owned = map_at_send.owned; leaving = λ k d w. tt }

  step_sync : (i : the_members) → IsSync (rows knot.frame (knot.step p) i)
  step_sync member-ValueList = record { shared = list_at_sync.shared }
  step_sync member-ValueMap = record { shared = map_at_sync.shared }

knot_send : (i : the_members) → IsSend (rows knot.frame knot.tied i)
knot_send = knotted.both_send knot.frame knot.step knot.sizes step_send step_sync

knot_sync : (i : the_members) → IsSync (rows knot.frame knot.tied i)
knot_sync = knotted.both_sync knot.frame knot.step knot.sizes step_send step_sync

value_send : IsSend Value.the_row
value_send = let a : IsSend knot.hole-ValueList = knot_send member-ValueList in let b : IsSend knot.hole-ValueMap = knot_send member-ValueMap in
    let c : IsSync knot.hole-ValueList = knot_sync member-ValueList in let d : IsSync knot.hole-ValueMap = knot_sync member-ValueMap in search of_values depth 20

-- a value as a field has it
value_field_send : IsSend (Value.the_field).row
value_field_send = let a : IsSend knot.hole-ValueList = knot_send member-ValueList in let b : IsSend knot.hole-ValueMap = knot_send member-ValueMap in
    let c : IsSync knot.hole-ValueList = knot_sync member-ValueList in let d : IsSync knot.hole-ValueMap = knot_sync member-ValueMap in search of_values depth 20

list_send : IsSend ValueList.the_row
list_send = let a : IsSend knot.hole-ValueList = knot_send member-ValueList in let v = value_send in search of_values depth 20

list_sync : IsSync ValueList.the_row
list_sync = let a : IsSync knot.hole-ValueList = knot_sync member-ValueList in let v = value_at_sync knot.tied knot_send knot_sync in search of_values depth 20

map_send : IsSend ValueMap.the_row
map_send = let a : IsSend knot.hole-ValueMap = knot_send member-ValueMap in let v = pair_at_send knot.tied knot_send knot_sync in search of_values depth 20

map_sync : IsSync ValueMap.the_row
map_sync = let a : IsSync knot.hole-ValueMap = knot_sync member-ValueMap in let v = pair_at_sync knot.tied knot_send knot_sync in search of_values depth 20

-- What holds values.

ruleset of_frames = (sendable, crosses, line.the_send, dbref.the_send, text.the_send, value_send, list_send, list_sync, map_send, map_sync)

owned_send : IsSend Owned.the_row
owned_send = search of_frames depth 20

turns_send : IsSend Turns.the_row
turns_send = search of_frames depth 20

mark_send : IsSend Mark.the_row
mark_send = let t = turns_send in search of_frames depth 20

frame_send : IsSend Frame.the_row
frame_send = let o = owned_send in let m = mark_send in search of_frames depth 20

running_send : IsSend Running.the_row
running_send = let f = frame_send in search (of_frames, entered.the_send) depth 20

event_send : IsSend ProcessEvent.the_row
event_send = let v = value_field_send in search of_frames depth 20

events_send : IsSend Events.the_row
events_send = let e = event_send in search of_frames depth 20

process_send : IsSend Process.the_row
process_send = let r = running_send in let e = events_send in search of_frames depth 20

queue_send : IsSend Queue.the_row
queue_send = let p = process_send in search (of_frames, claim.the_send) depth 20

-- The world.

state_send : IsSend State.the_row
state_send = let q = queue_send in search (sendable, crosses, db.the_send, board.the_send, library.the_send, dumps.the_send) depth 20

world_send : IsSend World.the_row
world_send = let s = state_send in search (sendable, crosses, past.the_field_send) depth 20

-- What the parts of a server are lent: the lock, a seat of it each, the store of the dumps, and the allocator.

pub turn_sync : IsSync (Turn.the_row World.the_row Logged.the_row Beginning.the_row story.ghosts)
turn_sync = let w = world_send in search (sendable, turn.the_sync) depth 20

pub seat_send : IsSend (Seat.the_row (OptionOf World.the_row) (View.the_row Logged.the_row Beginning.the_row))
seat_send = let w = world_send in search (sendable, seat.the_send) depth 20

pub seat_lent : (ℓ : Lifetime) (κ : Lft) → IsSend (MutRef ℓ κ (Seat.the_row (OptionOf World.the_row) (View.the_row Logged.the_row Beginning.the_row)))
seat_lent ℓ κ = mut_send ℓ κ _ seat_send

pub store_lent : (ℓ : Lifetime) (κ : Lft) → IsSend (MutRef ℓ κ Store.the_row)
store_lent = search (sendable, store.the_send)

pub heap_lent : (ℓ : Lifetime) (κ : Lft) → IsSend (ShrRef ℓ κ Heap.the_row)
heap_lent = search (sendable, sync)

pub ruleset lent = (sendable, turn_sync, seat_lent, store_lent, heap_lent)
