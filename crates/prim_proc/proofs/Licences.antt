-- What a primitive of processes makes of the world and of the processes is open to who acts, whether it is used or refused.
use Rattle.std.proofs.Common.{◌≡◌, ℕ, ℤ, List, Option, Some, None, Result, Ok, Err, inl, inr, sym, subst}
use Rattle.spec_live.specs.Objects.{Entry}
use Rattle.spec_live.specs.Lives.{Live}
use Rattle.spec_rights.specs.declared.act.Actor.{Actor}
use Rattle.spec_rights.specs.Licence.{Licensed, nobody}
use Rattle.spec_prims.proofs.Opens.{same_open, shows_open}
use Rattle.muf_frame.specs.declared.fault.PrimFault.{PrimFault}
use Rattle.muf_frame.specs.declared.fault.PrimFault.TheVariants.{Fault, NoMemory}
use Rattle.muf_frame.specs.inner.Shown.{Shown, flat, locked_by}
use Rattle.muf_model.specs.declared.prims.Primitive.{Primitive}
use Rattle.muck_perm.specs.declared.guard.Guard.{Guard}
use Rattle.muck_perm.specs.inner.Guards.{objects_of, world_of}
use Rattle.prim_common.specs.inner.Applied.{OnAnswer}
use Rattle.muck_queue.specs.declared.process.Process.{Process}
use Rattle.muck_queue.specs.Queues.{Queue, process}
use Rattle.spec_processes.specs.declared.place.Place.{Place}
use Rattle.spec_processes.specs.ProcessRows.{Effect, gives, waits, forks, enters, starts, refuses}
use Rattle.spec_processes.proofs.Ends.{Stays}
use Rattle.spec_processes.proofs.Leaves.{EndedBy, Leaves, leaves}
use Rattle.prim_proc.specs.declared.after.After.{After}
use Rattle.prim_proc.specs.declared.after.After.TheVariants.{Go, Wait, Fork, Call, Queue as Start}
use Rattle.prim_proc.specs.inner.Applied.{Applied}
use Rattle.prim_proc.specs.inner.Ended.{Remains, ProcessesLicensed}
use Rattle.prim_proc.proofs.Begun.{whole}

remains_so : (a : Actor) (es : List Entry) (o r : Option Process) → Stays (EndedBy a es) o r → Remains a es o r
remains_so a es (Some p) (Some r) h = tt
remains_so a es (Some p) None h = h
remains_so a es None (Some r) h = h
remains_so a es None None h = tt

remain_so : (a : Actor) (es : List Entry) (was is : Queue) → ((pid : ℤ) → Stays (EndedBy a es) (process pid was) (process pid is)) → ProcessesLicensed a es was is
remain_so a es was is h pid = remains_so a es (process pid was) (process pid is) (h pid)

all_remain : (a : Actor) (es : List Entry) (was is : Queue) → is ≡ was → ProcessesLicensed a es was is
all_remain a es was is same = subst (ProcessesLicensed a es was) (sym same) (λ pid. stay (process pid was))
  where
    stay : (o : Option Process) → Remains a es o o
    stay (Some p) = tt
    stay None = tt

module _ (f g : Shown) (old new : Guard) (was is : Queue) where
  abbrev MayLive : Type 0
  MayLive = Licensed old.actor nobody (world_of old) (world_of new)

  untouched_open : world_of new ≡ world_of old → MayLive
  untouched_open same = subst (Licensed old.actor nobody (world_of old)) (sym same) (same_open old.actor (world_of old)).licensed

  effect_licensed : (effect : Effect) (r : Result After PrimFault) → Leaves old.actor (world_of old) was effect → Applied effect f g old new was is r → OnAnswer r MayLive
  effect_licensed effect (Err NoMemory) l h = tt
  effect_licensed (gives stack w q) (Ok Go) l h = subst (Licensed old.actor nobody (world_of old)) (sym h.1) (shows_open old.actor (world_of old) w l.shows).licensed
  effect_licensed (waits n stack q) (Ok Wait) l h = untouched_open h.1.0
  effect_licensed (forks stack) (Ok Fork) l h = untouched_open h.2.0
  effect_licensed (enters stack d name) (Ok (Call program word)) l h = untouched_open h.0.1.0
  effect_licensed (starts stack d seconds argument) (Ok (Start program delay text)) l h = untouched_open h.0.1.0
  effect_licensed (refuses e) (Err (Fault k)) l h = untouched_open h.1.1.0
  effect_licensed _ _ l h = absurd h

  effect_processes : (effect : Effect) (r : Result After PrimFault) → Leaves old.actor (world_of old) was effect → Applied effect f g old new was is r → OnAnswer r (ProcessesLicensed old.actor (objects_of old) was is)
  effect_processes effect (Err NoMemory) l h = tt
  effect_processes (gives stack w q) (Ok Go) l h = subst (ProcessesLicensed old.actor (objects_of old) was) (sym h.3) (remain_so old.actor (objects_of old) was q l.stays)
  effect_processes (waits n stack q) (Ok Wait) l h = subst (ProcessesLicensed old.actor (objects_of old) was) (sym h.2) (remain_so old.actor (objects_of old) was q l.stays)
  effect_processes (forks stack) (Ok Fork) l h = all_remain old.actor (objects_of old) was is h.3
  effect_processes (enters stack d name) (Ok (Call program word)) l h = all_remain old.actor (objects_of old) was is h.0.2
  effect_processes (starts stack d seconds argument) (Ok (Start program delay text)) l h = all_remain old.actor (objects_of old) was is h.0.2
  effect_processes (refuses e) (Err (Fault k)) l h = all_remain old.actor (objects_of old) was is h.1.2
  effect_processes _ _ l h = absurd h

  module _ (p : Primitive) (x : Place) (r : Result After PrimFault) (h : Applied (whole p x f old was) f g old new was is r) where
    left : Leaves old.actor (world_of old) was (whole p x f old was)
    left = leaves p x old.actor (locked_by (flat f).marks) (flat f).stack (world_of old) was

    pub used_licensed : OnAnswer r MayLive
    used_licensed = effect_licensed (whole p x f old was) r left h

    pub used_processes : OnAnswer r (ProcessesLicensed old.actor (objects_of old) was is)
    used_processes = effect_processes (whole p x f old was) r left h
