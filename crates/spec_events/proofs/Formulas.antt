-- A unit that is a formula touches notes alone.
use Rattle.std.proofs.Common.{◌≡◌, ℕ, suc, ℤ, true, List, [], ◌∷◌, map, refl, sym, ap, ◌∙◌, subst, Option, Some, None}
use Rattle.std.specs.Option.{option_map_or}
use Rattle.muck_model.specs.declared.dbref.Dbref.{Dbref}
use Rattle.muck_model.specs.declared.tune.Tune.{Tune}
use Rattle.spec_live.specs.declared.mark.Mark.{Mark}
use Rattle.spec_live.specs.Objects.{Entry, dbref_of, mark_in}
use Rattle.spec_live.specs.Marks.{entry_unmarked}
use Rattle.spec_live.specs.Lives.{Live}
use Rattle.spec_rights.specs.declared.act.Actor.{Actor}
use Rattle.muf_model.specs.declared.fault.MufFault.{MufFault}
use Rattle.muf_model.specs.declared.prims.Primitive.{Primitive as Name}
use Rattle.muf_model.specs.declared.prims.Primitive.TheVariants.{ParseMpi}
use Rattle.muf_model.specs.Source.{Source, locked_of}
use Rattle.muf_model.specs.Unit.{Outcome, goes, faulted, asks, unit, fault_met}
use Rattle.spec_mpi.specs.Touching.{TouchesNotes}
use Rattle.spec_mpi.proofs.Deeds.{touching_order, touching_one}
use Rattle.spec_prims.specs.Row.{WorldAnswer, gives, refuses, breaks}
use Rattle.spec_prims.specs.Shared.{shared}
use Rattle.spec_prims.specs.Formulas.{is_formula}
use Rattle.spec_prims.proofs.Opens.{formula_is}
use Rattle.spec_prims.proofs.Touches.{RowTouches, formula_touches}
use Rattle.spec_events.specs.declared.starting.Agent.{Agent}
use Rattle.spec_events.specs.World.{World}
use Rattle.spec_events.specs.Following.{mark_followed, swept, settled}
use Rattle.spec_events.specs.Licences.{NotesAt}
use Rattle.spec_events.specs.Slices.{acting, SharedEffect, does, rests, fails, lifted, row_done, deed, process_stands_at, out, one_counted, broken, program_error, unit_went, after_deed, unit_done, limit_fault, within_limit, unit_taken, world_of}
use Rattle.spec_events.proofs.Endings.{IsTold}
use Rattle.spec_events.proofs.Taken.{told_touched}

-- Where nothing is to be told, nothing follows.

swept_none : (n : ℕ) (es : List Entry) (w : World) → ((k : ℕ) → mark_in es k ≡ None) → swept n es w ≡ w
unfolding swept mark_in
swept_none n [] w h = refl
swept_none n (e ∷ es) w h = ap (λ (o : Option Mark). swept (suc n) es (option_map_or (λ mark. mark_followed mark (dbref_of n) w) o w)) (h 0) ∙ swept_none (suc n) es w (λ k. h (suc k))

unmarked_none : (es : List Entry) → ((k : ℕ) → mark_in es k ≡ None) → map entry_unmarked es ≡ es
unfolding mark_in
unmarked_none [] h = refl
unmarked_none (e ∷ es) h = ap (λ (o : Option Mark). record e { mark = o } ∷ map entry_unmarked es) (sym (h 0)) ∙ ap (λ fs. e ∷ fs) (unmarked_none es (λ k. h (suc k)))

settled_told : (w : World) → IsTold w.live → (settled w).live ≡ w.live
unfolding settled
settled_told w h =
    ap (λ (v : World). record v.live { objects = map entry_unmarked v.live.objects }) (swept_none 0 w.live.objects w h)
    ∙ ap (λ es. record w.live { objects = es }) (unmarked_none w.live.objects h)

-- The unit of a process that begins in the world w.

module _ (w : Live) (told : IsTold w) where
  abbrev DeedNotes : SharedEffect World → Type 0
  DeedNotes (does t v) = TouchesNotes w v.live
  DeedNotes (rests t v) = TouchesNotes w v.live
  DeedNotes (fails f v) = TouchesNotes w v.live

  notes_settled : (pid : ℤ) (t : Source) (v : World) → TouchesNotes w v.live → TouchesNotes w (settled (process_stands_at pid t v)).live
  notes_settled pid t v h = subst (TouchesNotes w) (sym (settled_told (process_stands_at pid t v) (told_touched w v.live h told))) h

  notes_broken : (pid : ℤ) (player : Dbref) (program : ℤ) (f : MufFault) (v : World) → TouchesNotes w v.live → TouchesNotes w (broken pid player program f v).live
  notes_broken pid player program f v h = touching_order.both w v.live _ h (touching_one player (program_error program f) v.live)

  notes_went : (pid : ℤ) (player : Dbref) (program : ℤ) (o : Outcome) (v : World) → TouchesNotes w v.live → TouchesNotes w (world_of (unit_went pid player program o v)).live
  notes_went pid player program (goes k t) v h = h
  notes_went pid player program (faulted f) v h = notes_broken pid player program f v h
  notes_went pid player program _ v h = h

  notes_after : (pid : ℤ) (player : Dbref) (s : Source) (d : SharedEffect World) → DeedNotes d → TouchesNotes w (world_of (after_deed pid player s d)).live
  notes_after pid player s (does t v) h = notes_settled pid t v h
  notes_after pid player s (rests t v) h = notes_settled pid t v h
  notes_after pid player s (fails f v) h = notes_went pid player s.program.number (fault_met f s) v h

notes_row : (s : Source) (w : World) (row : WorldAnswer) → RowTouches w.live row → (told : IsTold w.live) → DeedNotes w.live told (lifted s w row)
notes_row s w (gives stack live) h told = h
notes_row s w (refuses f) h told = touching_order.itself w.live
notes_row s w (breaks f live) h told = h

notes_formula : (pid : ℤ) (x : Agent) (s : Source) (w : World) (told : IsTold w.live) → DeedNotes w.live told (deed pid x ParseMpi s w)
unfolding deed row_done
notes_formula pid x s w told =
    let a : Actor = acting x s w.live.objects in
    notes_row s w (shared ParseMpi a x.descr (locked_of s.marks) s.stack w.live) (formula_touches a x.descr (locked_of s.marks) s.stack w.live) told

notes_deed : (pid : ℤ) (x : Agent) (p : Name) (s : Source) (w : World) (told : IsTold w.live) → is_formula p ≡ true → DeedNotes w.live told (deed pid x p s w)
notes_deed pid x p s w told is = subst (λ (q : Name). DeedNotes w.live told (deed pid x q s w)) (sym (formula_is p is)) (notes_formula pid x s w told)

notes_unit : (pid : ℤ) (x : Agent) (program : ℤ) (o : Outcome) (w : World) → IsTold w.live → NotesAt o w.live (world_of (unit_done pid x program o w)).live
notes_unit pid x program (asks p t) w told = λ is. notes_after w.live told pid x.player t (deed pid x p t (out pid w)) (notes_deed pid x p t (out pid w) told is)
notes_unit pid x program _ w told = tt

-- where it would be one too many it isn't taken
notes_over : (pid : ℤ) (player : Dbref) (program : ℤ) (f : MufFault) (o : Outcome) (w : World) → IsTold w.live → NotesAt o w.live (broken pid player program f w).live
notes_over pid player program f (asks p t) w told = λ is. notes_broken w.live told pid player program f w (touching_order.itself w.live)
notes_over pid player program f _ w told = tt

notes_limited : (pid : ℤ) (x : Agent) (s : Source) (w : World) (o : Option MufFault) → IsTold w.live → NotesAt (unit s) w.live (world_of (within_limit o pid x s w)).live
notes_limited pid x s w (Some f) told = notes_over pid x.player s.program.number f (unit s) w told
notes_limited pid x s w None told = notes_unit pid x s.program.number (unit s) (one_counted pid w) told

pub notes_turn : (tune : Tune) (pid : ℤ) (x : Agent) (s : Source) (w : World) → IsTold w.live → NotesAt (unit s) w.live (world_of (unit_taken tune pid x s w)).live
unfolding unit_taken
notes_turn tune pid x s w told = notes_limited pid x s w (limit_fault tune (acting x s w.live.objects).level x) told
