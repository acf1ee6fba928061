-- What a move does that was allowed, and what showing keeps.
use Rattle.std.proofs.Common.{◌≡◌, ℕ, true, false, List, refl, sym, ap, ◌∙◌, Option, Some, None, Result, Ok, Err, OnOk, ◌&&◌, ◌||◌}
use Rattle.std.specs.Option.{option_map_or}
use Rattle.muck_laws.proofs.Truths.{hand_by}
use Rattle.muck_model.specs.declared.dbref.Dbref.{Dbref}
use Rattle.muck_model.specs.declared.memory.NoMemory.{NoMemory}
use Rattle.spec_live.specs.declared.fault.DbFault.{DbFault}
use Rattle.spec_live.specs.declared.object.Object.{Object}
use Rattle.spec_live.specs.Objects.{Entry, same, is_thing, is_program, object_at}
use Rattle.spec_live.specs.Lives.{Live, Change}
use Rattle.spec_rights.specs.declared.act.Actor.{Actor}
use Rattle.spec_rights.specs.declared.act.Act.{Act}
use Rattle.spec_rights.specs.Verdict.{place_or_nothing, verdict}
use Rattle.spec_rights.specs.Licence.{at_hand, at_hand_kind}
use Rattle.spec_rights.proofs.Licences.{Quiet}
use Rattle.spec_commands.specs.Finding.{is_object_so, shown_others}
use Rattle.spec_commands.specs.declared.typed.Typed.{Typed}
use Rattle.spec_live.specs.declared.message.Message.{Message}
use Rattle.spec_commands.specs.Going.{may_move, is_carried, both_shown}
use Rattle.spec_commands.proofs.Showing.{quiet_shown_others}
use Rattle.std.specs.Prelude.{map}
use Rattle.spec_rights.specs.declared.act.Act.TheVariants.{Take}
use Rattle.spec_rights.proofs.Allowed.{take_allowed}
use Rattle.spec_mpi.specs.Touching.{without_props}
use Rattle.spec_commands.proofs.Noted.{notes_both_shown, place_same}
use Rattle.spec_commands.proofs.Gone.{item_kind}
use Rattle.muck_perm.specs.declared.rules.Pass.{Pass}
use Rattle.muck_perm.specs.declared.guard.Guard.{Guard}
use Rattle.muck_perm.specs.inner.Verdicts.{IsVerdict}
use Rattle.muck_perm.specs.inner.Guards.{Makes, Done, Did, IsLeave, IsGiven, is_here, objects_of, world_of}

-- Moves.

pub made_moves : {X : Type 0} (f : Change) (r : Result X DbFault) (old new : Guard) (result : Result (Unit {0}) DbFault) → may_move r ≡ true → Makes f r old new result → (result ≡ Ok tt) × Done f old new
made_moves f (Ok x) old new result e m = m
made_moves f (Err fault) old new result e m = absurd (cc)

-- what was moved could be
pub was_moved : {X : Type 0} (f : Change) (r : Result X DbFault) (old new : Guard) (u : Unit {0}) → Makes f r old new (Ok u) → (may_move r ≡ true) × Done f old new
was_moved f (Ok x) old new u m = (refl, m.1)
was_moved f (Err fault) old new u m = absurd (cc)

pub was_refused : {X : Type 0} (f : Change) (r : Result X DbFault) (old new : Guard) (fault : DbFault) → Makes f r old new (Err fault) → (may_move r ≡ false) × (new ≡ old)
was_refused f (Ok x) old new fault m = absurd (cc)
was_refused f (Err found) old new fault m = (refl, m.1)

pub ruleset movings = (was_moved, was_refused)

-- What is shown changes no object.

quiet_kept : (f : Change) (old new : Guard) → Quiet f → Done f old new → objects_of new ≡ objects_of old
quiet_kept f old new q e = ap (λ (w : Live). w.objects) e.0 ∙ (q.law (world_of old)).objects

pub quietly_shown : (player : Dbref) (tail : List ℕ) (old new : Guard) (r : Result (Unit {0}) NoMemory) → Did (shown_others player tail) old new r → OnOk r (objects_of new ≡ objects_of old)
quietly_shown player tail old new (Ok u) e = quiet_kept _ old new (quiet_shown_others player tail) e
quietly_shown player tail old new (Err error) e = tt

-- leave that a verdict gave
pub leave_given : (es : List Entry) (a : Actor) (act : Act) (pass : Pass) (g : Guard) → es ≡ objects_of g → a ≡ g.actor → IsVerdict (verdict es a act) a act (Ok pass) → IsLeave pass act g
leave_given es a act pass g objects actor v = (v.1 ∙ actor, v.2, rw (sym objects, sym actor) v.0)

-- after messages a pass is for the same actor, and what is taken lies where the player is
pub pass_kept : (pass : Pass) (act : Act) (d : ℕ) (a : Actor) (typed : Typed) (mine theirs : Message) (x : Dbref) (old new : Guard) → IsLeave pass act old → Done (both_shown d a typed mine theirs x) old new → IsGiven pass act new
pass_kept pass act d a typed mine theirs x old new leave e = (leave.0 ∙ sym e.1.0, leave.1)

pub here_kept : (pass : Pass) (d : ℕ) (a : Actor) (typed : Typed) (mine theirs : Message) (x y : Dbref) (old new : Guard) → IsLeave pass (Take y) old → Done (both_shown d a typed mine theirs x) old new → is_here y new ≡ true
here_kept pass d a typed mine theirs x y old new leave e =
    let notes = (notes_both_shown d a typed mine theirs x).law (world_of old) in
    let objects : map without_props (objects_of new) ≡ map without_props (objects_of old) = ap (λ (w : Live). map without_props w.objects) e.0 ∙ notes.objects in
    let mine : place_or_nothing (objects_of new) y ≡ place_or_nothing (objects_of old) y = place_same (objects_of old) (objects_of new) objects y in
    let theirs : place_or_nothing (objects_of new) new.actor.player ≡ place_or_nothing (objects_of old) old.actor.player =
    place_same (objects_of old) (objects_of new) objects new.actor.player ∙ ap (λ (b : Actor). place_or_nothing (objects_of old) b.player) e.1.0 in
    ap (λ (p : Dbref). same p (place_or_nothing (objects_of new) new.actor.player)) mine ∙ ap (λ (p : Dbref). same (place_or_nothing (objects_of old) y) p) theirs ∙ take_allowed (objects_of old) old.actor y leave.2

-- What is carried is at hand.

carried_by : (es : List Entry) (a : Actor) (o : Option Object) → option_map_or (λ (k : Object). (is_thing k.kind || is_program k.kind) && same k.place a.player) o false ≡ true →
    option_map_or (λ (k : Object). at_hand_kind k.kind && (same k.place a.player || same k.place (place_or_nothing es a.player))) o false ≡ true
carried_by es a None e = cc
carried_by es a (Some o) e = hand_by (at_hand_kind o.kind) (is_thing o.kind || is_program o.kind) (same o.place a.player) (same o.place (place_or_nothing es a.player)) (item_kind o.kind) e

pub carried_at_hand : (w : Live) (a : Actor) (x : Dbref) → is_carried a.player x w ≡ true → at_hand w.objects a x ≡ true
unfolding is_object_so
carried_at_hand w a x e = carried_by w.objects a (object_at x w.objects) e
