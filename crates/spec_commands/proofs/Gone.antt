-- How players go, take, drop and recycle is open to them.
use Rattle.std.proofs.Common.{◌≡◌, ℕ, true, false, List, refl, sym, ◌∙◌, ap, Option, Some, None}
use Rattle.std.specs.Prelude.{Result, Ok, Err, ◌&&◌, ◌||◌}
use Rattle.spec_live.proofs.Keeping.{keeps_where, keeps_either}
use Rattle.std.proofs.lemmas.Bool.{and_from, and_parts, or_left, or_right}
use Rattle.std.specs.Option.{option_map_or}
use Rattle.muck_model.specs.declared.dbref.Dbref.{Dbref}
use Rattle.muck_model.specs.declared.dbref.Denial.{Denial}
use Rattle.muck_model.specs.declared.dbref.Kind.{Kind}
use Rattle.muck_model.specs.declared.dbref.Kind.TheVariants.{Room, Thing, Exit, Player, Program, Garbage}
use Rattle.muck_match.specs.declared.exits.ExitHit.{ExitHit}
use Rattle.spec_live.specs.declared.fault.DbFault.{DbFault}
use Rattle.spec_live.specs.declared.object.Object.{Object}
use Rattle.spec_live.specs.Objects.{Entry, nothing, same, is_thing, is_program, object_at}
use Rattle.spec_live.specs.Recycling.{recycle_check}
use Rattle.spec_live.specs.Lives.{Live, Change, ◌▸◌, reading, tell}
use Rattle.spec_rights.specs.declared.act.Actor.{Actor}
use Rattle.spec_rights.specs.declared.act.Act.{Act}
use Rattle.spec_rights.specs.declared.act.Act.TheVariants.{Take, Recycle}
use Rattle.spec_rights.specs.Verdict.{verdict, place_or_nothing}
use Rattle.spec_rights.specs.Changing.{recycled_now}
use Rattle.spec_rights.specs.Licence.{Freedom, at_hand, at_hand_kind}
use Rattle.spec_rights.proofs.Licences.{Quiet, Stays, Ends, Whole, Always, itself, whole_ends, whole_asked, whole_quiet, whole_quietly, whole_by, ends_by, ends_stays}
use Rattle.spec_rights.proofs.Recycled.{recycled_proper}
use Rattle.spec_rights.proofs.Allowed.{take_allowed}
use Rattle.spec_rights.proofs.Permitted.{staying, ending}
use Rattle.spec_rights.proofs.Shown.{shown}
use Rattle.spec_commands.specs.declared.outcome.Outcome.{Outcome}
use Rattle.spec_commands.specs.Replies.{taken_reply, recycled_reply, dropped_reply}
use Rattle.spec_commands.specs.declared.typed.Typed.{Typed}
use Rattle.spec_live.specs.declared.message.Message.{Message}
use Rattle.spec_commands.specs.Finding.{is_object_so}
use Rattle.spec_commands.specs.Going.{ended, thing_moving, player_gone, gone_home, both_shown, succeeded, failed, drop_shown, led, tried, exit_walked, walked_some, player_went, is_item, not_taken, thing_taken, is_carried, drop_place, dropped, inventory_shown}
use Rattle.spec_commands.specs.Building.{allowed, change_by_leave, done_where, recycled_by_command}
use Rattle.spec_commands.proofs.Showing.{seeing, hearing, whole_where}

-- The answer of a command is its world and its outcome.
abbrev pub world_of : Live × Outcome → Live
world_of p = p.0

pub ends_ended : (a : Actor) (free : Freedom) (given : Option Act) (outcome : Outcome) (f : Change) → Ends itself a free given f → Ends world_of a free given (ended outcome f)
unfolding ended
ends_ended a free given outcome f p = ends_by _ (λ start w. (p.law w).law start)

pub whole_ended : (a : Actor) (own : Option ℕ) (free : List Entry → Freedom) (given : Live → Type 0) (outcome : Outcome) (f : Change) → Whole itself a own free given f → Whole world_of a own free given (ended outcome f)
unfolding ended
whole_ended a own free given outcome f p = whole_by _ (λ w. (p.law w).law)

-- Going.

stays_moving : (a : Actor) (free : Freedom) (given : Option Act) (d : ℕ) (x to : Dbref) (go : Change) → free.moves x ≡ true → Stays a free None go → Stays a free given (thing_moving d x to go)
unfolding thing_moving
stays_moving a free given d x to go h q = search (staying, keeps_where)

stays_gone : (a : Actor) (free : Freedom) (given : Option Act) (d : ℕ) (typed : Typed) (to : Dbref) (seen : Change) → free.moves a.player ≡ true → Stays a free None seen → Stays a free given (player_gone d a typed to seen)
unfolding player_gone
stays_gone a free given d typed to seen h q = search hearing depth 8

pub stays_gone_home : (a : Actor) (free : Freedom) (given : Option Act) (d : ℕ) (typed : Typed) → free.moves a.player ≡ true → Stays a free given (gone_home d a typed)
unfolding gone_home
stays_gone_home a free given d typed h = search (staying, stays_gone)

pub stays_both_shown : (a : Actor) (free : Freedom) (given : Option Act) (d : ℕ) (typed : Typed) (mine theirs : Message) (x : Dbref) → Stays a free given (both_shown d a typed mine theirs x)
unfolding both_shown
stays_both_shown a free given d typed mine theirs x = search hearing

stays_failed : (a : Actor) (free : Freedom) (given : Option Act) (d : ℕ) (typed : Typed) (otherwise : List ℕ) (x : Dbref) → Stays a free given (failed d a typed otherwise x)
unfolding failed
stays_failed a free given d typed otherwise x = search hearing

ends_led : (a : Actor) (free : Freedom) (given : Option Act) (d : ℕ) (typed : Typed) (exit : Dbref) (line : List ℕ) (to : Dbref) → free.moves a.player ≡ true → Ends world_of a free given (led d a typed exit line to)
unfolding led
ends_led a free given d typed exit line to h = search (ending, seeing, stays_both_shown, ends_ended, stays_gone) depth 9

pub tried_open : (a : Actor) (free : Freedom) (d : ℕ) (typed : Typed) (exit : Dbref) (line : List ℕ) → free.moves a.player ≡ true → Ends world_of a free None (tried d a typed exit line)
unfolding tried
tried_open a free d typed exit line h = search (ending, ends_ended, stays_failed, stays_both_shown, ends_led)

pub walked_open : (a : Actor) (free : Freedom) (d : ℕ) (hit : ExitHit) (line : List ℕ) → free.moves a.player ≡ true → Ends world_of a free None (exit_walked d a hit line)
unfolding exit_walked
walked_open a free d hit line h = search (ending, tried_open)

walked_some_open : (a : Actor) (free : Freedom) (d : ℕ) (line : List ℕ) (hit : Option ExitHit) → free.moves a.player ≡ true → Ends world_of a free None (walked_some d a line hit)
walked_some_open a free d line None h = search (ending, ends_ended)
walked_some_open a free d line (Some hit) h = walked_open a free d hit line h

pub went_open : (a : Actor) (free : Freedom) (d : ℕ) (line : List ℕ) → free.moves a.player ≡ true → Ends world_of a free None (player_went d a line)
unfolding player_went
went_open a free d line h = search (ending, walked_some_open)

-- Taking and dropping what is at hand.

pub item_kind : (k : Kind) → (is_thing k || is_program k) ≡ true → at_hand_kind k ≡ true
item_kind Thing e = refl
item_kind Program e = refl
item_kind Room e = cc
item_kind Exit e = cc
item_kind Player e = cc
item_kind Garbage e = cc

here_at_hand : (es : List Entry) (a : Actor) (x : Dbref) (q : Option Object) → object_at x es ≡ q → option_map_or (λ (o : Object). is_thing o.kind || is_program o.kind) q false ≡ true → same (place_or_nothing es x) (place_or_nothing es a.player) ≡ true → at_hand es a x ≡ true
here_at_hand es a x None e t p = absurd (cc)
here_at_hand es a x (Some o) e t p =
    let here : Dbref = place_or_nothing es a.player in
    let place : same o.place here ≡ true = ap (λ (y : Dbref). same y here) (sym (ap (λ (q : Option Object). option_map_or (λ (k : Object). k.place) q nothing) e)) ∙ p in
    ap (λ (q : Option Object). option_map_or (λ (k : Object). at_hand_kind k.kind && (same k.place a.player || same k.place here)) q false) e
    ∙ and_from _ _ (item_kind o.kind t) (or_right (same o.place a.player) _ place)

carried_at_hand : (es : List Entry) (a : Actor) (x : Dbref) (q : Option Object) → object_at x es ≡ q → option_map_or (λ (o : Object). (is_thing o.kind || is_program o.kind) && same o.place a.player) q false ≡ true → at_hand es a x ≡ true
carried_at_hand es a x None e t = absurd (cc)
carried_at_hand es a x (Some o) e t =
    ap (λ (q : Option Object). option_map_or (λ (k : Object). at_hand_kind k.kind && (same k.place a.player || same k.place (place_or_nothing es a.player))) q false) e
    ∙ and_from _ _ (item_kind o.kind (and_parts (is_thing o.kind || is_program o.kind) (same o.place a.player) t).0) (or_left (same o.place a.player) (same o.place (place_or_nothing es a.player)) (and_parts (is_thing o.kind || is_program o.kind) (same o.place a.player) t).1)

item_at : (x : Dbref) (w : Live) → is_item x w ≡ true → option_map_or (λ (o : Object). is_thing o.kind || is_program o.kind) (object_at x w.objects) false ≡ true
unfolding is_object_so
item_at x w e = e

carried_at : (player x : Dbref) (w : Live) → is_carried player x w ≡ true → option_map_or (λ (o : Object). (is_thing o.kind || is_program o.kind) && same o.place player) (object_at x w.objects) false ≡ true
unfolding is_object_so
carried_at player x w e = e

taking : (a : Actor) (free : Freedom) (d : ℕ) (typed : Typed) (x : Dbref) → free.moves x ≡ true → Ends itself a free None (succeeded d a typed x ▸ thing_moving d x a.player (tell d taken_reply))
taking a free d typed x h = search (ending, seeing, stays_both_shown, stays_moving)

stays_not_taken : (a : Actor) (free : Freedom) (given : Option Act) (d : ℕ) (typed : Typed) (x : Dbref) (denial : Denial) → Stays a free given (not_taken d a typed x denial)
stays_not_taken a free given d typed x denial = search (staying, stays_failed, keeps_either)

-- what is at hand is free
abbrev pub HandFree : Actor → (List Entry → Freedom) → Type 0
HandFree a free = (es : List Entry) (x : Dbref) → at_hand es a x ≡ true → (free es).moves x ≡ true

pub taken_open : (a : Actor) (own : Option ℕ) (free : List Entry → Freedom) (d : ℕ) (typed : Typed) (x : Dbref) → HandFree a free → Whole itself a own free Always (thing_taken d a typed x)
unfolding thing_taken
taken_open a own free d typed x hands =
    whole_where itself a own free Always (is_item x) _ _ (whole_quiet a own free Always _ (search shown))
    (whole_asked itself a own free _ (Take x) _ _ (λ denial. whole_ends itself a own free Always _ (λ w h. ends_stays a (free w.objects) None _ (stays_not_taken a (free w.objects) None d typed x denial)))
    (whole_ends itself a own free _ _ (λ w h.
    taking a (free w.objects) d typed x (hands w.objects x (here_at_hand w.objects a x (object_at x w.objects) refl (item_at x w h.0.1) (take_allowed w.objects a x h.1))))))

dropping : (a : Actor) (free : Freedom) (d : ℕ) (typed : Typed) (x : Dbref) → free.moves x ≡ true →
    Ends itself a free None (reading (drop_place a.player) (λ to. thing_moving d x to (tell d dropped_reply ▸ drop_shown d a typed x)))
dropping a free d typed x h = search (ending, seeing, stays_both_shown, stays_moving) depth 7

pub dropped_open : (a : Actor) (own : Option ℕ) (free : List Entry → Freedom) (d : ℕ) (typed : Typed) (x : Dbref) → HandFree a free → Whole itself a own free Always (dropped d a typed x)
unfolding dropped
dropped_open a own free d typed x hands =
    whole_where itself a own free Always (is_carried a.player x) _ _ (whole_quiet a own free Always _ (search shown))
    (whole_ends itself a own free _ _ (λ w h.
    dropping a (free w.objects) d typed x (hands w.objects x (carried_at_hand w.objects a x (object_at x w.objects) refl (carried_at a.player x w h.1)))))

pub quiet_inventory_shown : (d : ℕ) (player : Dbref) → Quiet (inventory_shown d player)
unfolding inventory_shown
quiet_inventory_shown d player = search seeing

-- Recycling.

passed : (r : Result ℕ DbFault) → allowed r ≡ true → (n : ℕ) × (r ≡ Ok n)
passed (Ok n) e = (n, refl)
passed (Err fault) e = absurd (cc)

recycling : (a : Actor) (own : Option ℕ) (free : List Entry → Freedom) (x : Dbref) (given : Live → Type 0) → ((w : Live) → given w → (verdict w.objects a (Recycle x) ≡ None) × (allowed (recycle_check x w.objects) ≡ true)) → Whole itself a own free given (recycled_now x)
recycling a own free x given h = whole_by _ (λ w c g.
    let t = h w g in
    let p = passed (recycle_check x w.objects) t.1 in
    recycled_proper a (free w.objects) x w p.0 t.0 p.1)

pub recycled_open : (a : Actor) (own : Option ℕ) (free : List Entry → Freedom) (d : ℕ) (x : Dbref) → Whole itself a own free Always (recycled_by_command d a x)
unfolding recycled_by_command change_by_leave done_where
recycled_open a own free d x =
    whole_asked itself a own free Always (Recycle x) _ _ (λ denial. whole_quiet a own free Always _ (search shown))
    (whole_where itself a own free _ (λ w. allowed (recycle_check x w.objects)) _ _ (whole_quiet a own free _ _ (search shown))
    (whole_quietly a own free _ (recycled_now x) (tell d recycled_reply) (recycling a own free x _ (λ w h. (h.0.1, h.1))) (search shown)))
