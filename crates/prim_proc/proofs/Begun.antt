-- How the tests of a primitive and what it is to do come together.
use Rattle.std.proofs.Common.{◌≡◌, ℕ, ◌<◌, ◌≤◌, ◌+◌, List, length, take, drop, true, Option, Some, None, Result, Ok, Err, refl, sym, ap, ◌∙◌, subst}
use Rattle.std.specs.Prelude.{◌&&◌, is_some}
use Rattle.spec_live.specs.Lives.{Live}
use Rattle.spec_rights.specs.declared.act.Actor.{Actor}
use Rattle.muf_model.specs.declared.fault.MufFault.{MufFault}
use Rattle.muf_model.specs.declared.fault.MufFault.TheVariants.{NotCompiled, StackFull}
use Rattle.muf_model.specs.declared.prims.Family.TheVariants as kind
use Rattle.muf_model.specs.declared.prims.Primitive.{Primitive}
use Rattle.muf_model.specs.declared.prims.Primitive.TheVariants.{Call, Fork, Sleep, Read, Kill, Pid, IsPid, Queue as QueuePrim, Mode, SetMode, Preempt, Foreground, Background, SysTime, Random, EventSend, EventWait, EventCount, Prog, Trig, Caller, Cmd}
use Rattle.muf_model.specs.Answer.{stack_most}
use Rattle.muf_model.specs.Datum.{Datum}
use Rattle.muf_model.specs.Prims.{family_of, is_usable, primitive_level}
use Rattle.muf_frame.specs.declared.fault.PrimFault.{PrimFault}
use Rattle.muf_frame.specs.declared.fault.PrimFault.TheVariants.{Fault, NoMemory}
use Rattle.muf_frame.specs.inner.Shown.{Shown, flat, locked_by}
use Rattle.muck_perm.specs.declared.guard.Guard.{Guard}
use Rattle.muck_perm.specs.inner.Guards.{Same, world_of}
use Rattle.muck_perm.proofs.Worlds.{kept_itself, same_as}
use Rattle.spec_prims.specs.Shared.{fault_by}
use Rattle.prim_common.specs.inner.Tests.{Passes}
use Rattle.muck_queue.specs.declared.process.Process.{Process}
use Rattle.muck_queue.specs.Queues.{Queue, process}
use Rattle.spec_processes.specs.declared.place.Place.{Place}
use Rattle.spec_processes.specs.ProcessRows.{Effect, gives, waits, forks, enters, starts, refuses, effect_unless, upon, ProcessDoing, process_row, needs_at, taken_at, is_process_family, done_in, processed}
use Rattle.spec_processes.proofs.There.{process_there}
use Rattle.prim_proc.specs.declared.after.After.{After}
use Rattle.prim_proc.specs.declared.plan.Plan.{Plan}
use Rattle.prim_proc.specs.inner.Applied.{Applied}
use Rattle.prim_proc.specs.inner.Plans.{Plans, TakesAll, effect_of, does_of, items_of, stacked}
use Rattle.prim_proc.proofs.Asked.{takes_all}
use Rattle.prim_proc.proofs.Roomed.{upon_roomed, upon_full}

-- each primitive of processes has a row
row_there : (p : Primitive) → family_of p ≡ kind.Process → is_some (process_row p) ≡ true
row_there Call e = refl
row_there Fork e = refl
row_there Sleep e = refl
row_there Read e = refl
row_there Kill e = refl
row_there Pid e = refl
row_there IsPid e = refl
row_there QueuePrim e = refl
row_there Mode e = refl
row_there SetMode e = refl
row_there Preempt e = refl
row_there Foreground e = refl
row_there Background e = refl
row_there SysTime e = refl
row_there Random e = refl
row_there EventSend e = refl
row_there EventWait e = refl
row_there EventCount e = refl
row_there Prog e = refl
row_there Trig e = refl
row_there Caller e = refl
row_there Cmd e = refl
row_there _ e = absurd cc

unless_fails : (o : Option MufFault) (effect : Effect) (f : MufFault) → Passes {X = ℕ} o (Err f) → effect_unless o effect ≡ refuses f
unless_fails None effect f h = absurd h
unless_fails (Some g) effect f h = ap refuses (sym h)

unless_passes : (o : Option MufFault) (effect : Effect) (n : ℕ) → Passes {X = ℕ} o (Ok n) → effect_unless o effect ≡ effect
unless_passes None effect n h = refl
unless_passes (Some g) effect n h = absurd h

module _ (p : Primitive) (x : Place) (a : Actor) (locked : ℕ) (stack : List Datum) (w : Live) (q : Queue) where
  pub alone : process x.pid q ≡ None → processed p x a locked stack w q ≡ refuses NotCompiled
  unfolding processed
  alone e = ap (λ o. done_in o (process_row p) p x a locked stack w q) e

  module _ (own : Process) (here : process x.pid q ≡ Some own) (of_family : family_of p ≡ kind.Process) where
    tested : (row : Option ProcessDoing) → is_some row ≡ true →
        done_in (Some own) row p x a locked stack w q ≡ effect_unless (fault_by (needs_at p stack) (primitive_level p) None a locked stack w) (upon (drop (taken_at p stack) stack) (does_of row x a own (take (taken_at p stack) stack) w q))
    tested None e = absurd cc
    tested (Some doing) e = refl

    begun : processed p x a locked stack w q ≡ effect_unless (fault_by (needs_at p stack) (primitive_level p) None a locked stack w) (upon (drop (taken_at p stack) stack) (does_of (process_row p) x a own (take (taken_at p stack) stack) w q))
    unfolding processed
    begun = ap (λ o. done_in o (process_row p) p x a locked stack w q) here ∙ tested (process_row p) (row_there p of_family)

    -- a test fails
    pub untested : (f : MufFault) (r : Result ℕ MufFault) → Passes (fault_by (needs_at p stack) (primitive_level p) None a locked stack w) r → r ≡ Err f → processed p x a locked stack w q ≡ refuses f
    untested f r pass is = begun ∙ unless_fails _ _ f (subst (Passes (fault_by (needs_at p stack) (primitive_level p) None a locked stack w)) is pass)

    -- all pass, and so many items are taken
    pub passed : (n : ℕ) (r : Result ℕ MufFault) → Passes (fault_by (needs_at p stack) (primitive_level p) None a locked stack w) r → r ≡ Ok n → n ≡ taken_at p stack →
        processed p x a locked stack w q ≡ upon (drop n stack) (does_of (process_row p) x a own (take (taken_at p stack) stack) w q)
    passed n r pass is count =
        begun
        ∙ unless_passes _ _ n (subst (Passes (fault_by (needs_at p stack) (primitive_level p) None a locked stack w)) is pass)
        ∙ ap (λ k. upon (drop k stack) (does_of (process_row p) x a own (take (taken_at p stack) stack) w q)) (sym count)

-- What is applied.

pub refused_so : (effect : Effect) (f : Shown) (g : Guard) (q : Queue) (h : MufFault) → effect ≡ refuses h → Applied effect f f g g q q (Err (Fault h))
refused_so effect f g q h e = subst (λ o. Applied o f f g g q q (Err (Fault h))) (sym e) (refl, (refl, (refl, kept_itself g), refl))

pub wanted_so : (effect : Effect) (f g : Shown) (old new : Guard) (was is : Queue) → Same old new → Applied effect f g old new was is (Err NoMemory)
wanted_so (gives stack w q) f g old new was is h = h
wanted_so (waits n stack q) f g old new was is h = h
wanted_so (forks stack) f g old new was is h = h
wanted_so (enters stack d name) f g old new was is h = h
wanted_so (starts stack d seconds argument) f g old new was is h = h
wanted_so (refuses e) f g old new was is h = h

-- there is no plan
pub unplanned : (all effect : Effect) (rest : List Datum) (x : Place) (w : Live) (f : Shown) (g : Guard) (q : Queue) (h : PrimFault) (r : Result Plan PrimFault) → all ≡ upon rest effect → Plans effect x w q r → r ≡ Err h → Applied all f f g g q q (Err h)
unplanned all effect rest x w f g q (Fault h) r e plans is = refused_so all f g q h (e ∙ ap (upon rest) (subst (Plans effect x w q) is plans))
unplanned all effect rest x w f g q NoMemory r e plans is = wanted_so all f f g g q q (same_as g g refl)

-- The whole of a primitive, by its tests, its plan and the room for what comes.

abbrev pub whole : Primitive → Place → Shown → Guard → Queue → Effect
whole p x f g q = processed p x g.actor (locked_by (flat f).marks) (flat f).stack (world_of g) q

-- the process is there, and the tests have answered
pub record Started (p : Primitive) (x : Place) (f : Shown) (g : Guard) (q : Queue) (own : Process) (r : Result ℕ MufFault) : Type 0 where
  pub here : process x.pid q ≡ Some own
  pub of_family : family_of p ≡ kind.Process
  pub pass : Passes (fault_by (needs_at p (flat f).stack) (primitive_level p) None g.actor (locked_by (flat f).marks) (flat f).stack (world_of g)) r

module _ {p : Primitive} {x : Place} {f : Shown} {g : Guard} {q : Queue} {own : Process} {r : Result ℕ MufFault} (b : Started p x f g q own r) where
  -- what it does with the items that it takes
  abbrev does : Effect
  does = does_of (process_row p) x g.actor own (take (taken_at p (flat f).stack) (flat f).stack) (world_of g) q

  pub untested_so : (h : MufFault) → r ≡ Err h → Applied (whole p x f g q) f f g g q q (Err (Fault h))
  untested_so h is = refused_so _ f g q h (untested p x g.actor (locked_by (flat f).marks) (flat f).stack (world_of g) q own b.here b.of_family h r b.pass is)

  module _ (n : ℕ) (is : r ≡ Ok n) (count : n ≡ taken_at p (flat f).stack) where
    taken_upon : whole p x f g q ≡ upon (drop n (flat f).stack) does
    taken_upon = passed p x g.actor (locked_by (flat f).marks) (flat f).stack (world_of g) q own b.here b.of_family n r b.pass is count

    pub unplanned_so : (h : PrimFault) (o : Result Plan PrimFault) → Plans does x (world_of g) q o → o ≡ Err h → Applied (whole p x f g q) f f g g q q (Err h)
    unplanned_so h o plans was = unplanned (whole p x f g q) does (drop n (flat f).stack) x (world_of g) f g q h o taken_upon plans was

    module _ (plan : Plan) (o : Result Plan PrimFault) (plans : Plans does x (world_of g) q o) (was : o ≡ Ok plan) where
      pub planned : effect_of plan x (world_of g) q ≡ does
      planned = subst (Plans does x (world_of g) q) was plans

      plan_upon : whole p x f g q ≡ upon (drop n (flat f).stack) (effect_of plan x (world_of g) q)
      plan_upon = taken_upon ∙ ap (upon (drop n (flat f).stack)) (sym planned)

      -- there is no room
      pub unroomed_so : length (drop n (flat f).stack) ≤ stack_most → stack_most < items_of plan + length (drop n (flat f).stack) → (h : MufFault) → h ≡ StackFull → Applied (whole p x f g q) f f g g q q (Err (Fault h))
      unroomed_so most less h e = refused_so _ f g q h (plan_upon ∙ upon_full (drop n (flat f).stack) x (world_of g) q plan most less ∙ ap refuses (sym e))

      -- it is carried out
      pub carried_so : items_of plan + length (drop n (flat f).stack) ≤ stack_most → (after : Shown) (new : Guard) (is : Queue) (end : Result After PrimFault) →
          Applied (stacked (drop n (flat f).stack) (effect_of plan x (world_of g) q)) f after g new q is end → Applied (whole p x f g q) f after g new q is end
      carried_so room after new is end h =
          subst (λ e. Applied e f after g new q is end) (sym (plan_upon ∙ upon_roomed (drop n (flat f).stack) x (world_of g) q plan room)) h

      pub all_taken : TakesAll plan n
      all_taken = subst (TakesAll plan) (sym count) (takes_all p x g.actor own (flat f).stack (world_of g) q plan planned)

-- those that may be used have a row
pub there_so : (p : Primitive) → family_of p ≡ kind.Process → is_usable p ≡ is_some (process_row p)
there_so p e = sym (process_there p ∙ ap (λ f. is_process_family f && is_usable p) e)
