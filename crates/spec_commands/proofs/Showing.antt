-- What players say, see and find changes nothing that is judged, and what messages change is open to who acts.
use Rattle.std.proofs.Common.{◌≡◌, ℕ, Bool, true, false, List, [], ◌∷◌, refl, Option, Some, None}
use Rattle.muck_model.specs.declared.dbref.Dbref.{Dbref}
use Rattle.muck_match.specs.declared.naming.Found.{Found}
use Rattle.muck_match.specs.declared.naming.Found.TheVariants.{One, None as Nobody, Many}
use Rattle.spec_live.specs.Objects.{Entry}
use Rattle.spec_live.specs.Lives.{Live, Change, either, tell}
use Rattle.spec_rights.specs.declared.act.Actor.{Actor}
use Rattle.spec_rights.specs.Licence.{Freedom}
use Rattle.spec_rights.proofs.Shown.{shown, loose_one}
use Rattle.spec_rights.specs.declared.act.Act.{Act}
use Rattle.spec_rights.proofs.Permitted.{staying}
use Rattle.spec_live.proofs.Lives.{Loose}
use Rattle.spec_rights.proofs.Licences.{Quiet, Stays, Whole, whole_told, quiet_unchanged, quiet_order, whole_by, stays_by, stays_quiet, stay_both, stay_rights}
use Rattle.spec_mpi.specs.Messages.{formula_heard, variables_of, answer_shown as shown_of, message_spoken as said_of}
use Rattle.spec_mpi.proofs.Leave.{stays_heard}
use Rattle.spec_commands.specs.declared.typed.Typed.{Typed}
use Rattle.spec_live.specs.declared.message.Message.{Message}
use Rattle.spec_commands.specs.Messages.{message_how, text_spoken, spoken_some, with_message}
use Rattle.spec_commands.specs.declared.presence.Presence.{Presence}
use Rattle.spec_commands.specs.Finding.{for_each, object_chosen, finding, named_player, finding_player, where_so, finding_object, shown_others, message_or, message_shown, message_to_others, names_listed, listed_under, room_shown, place_looked_at, owner_shown}
use Rattle.spec_commands.specs.Talking.{said_to, presence_shown, who_shown}
use Rattle.spec_live.proofs.Keeping.{Keeps, keeps_followed, keeps_reading, keeps_where}
use Rattle.spec_commands.specs.Talk.{waits}

-- Where the world is so: go with what the test says.

pub whole_where : {Y : Type 0} (out : Y → Live) (a : Actor) (own : Option ℕ) (free : List Entry → Freedom) (given : Live → Type 0) (test : Live → Bool) (otherwise go : Live → Y) →
    Whole out a own free given otherwise → Whole out a own free (λ w. given w × (test w ≡ true)) go → Whole out a own free given (where_so test otherwise go)
unfolding where_so either
whole_where out a own free given test otherwise go p q = whole_told out a own free given test (λ b. either b go otherwise) (λ b. at b)
  where
    at : (b : Bool) → Whole out a own free (λ w. given w × (test w ≡ b)) (either b go otherwise)
    at true = whole_by _ (λ w. (q.law w).law)
    at false = whole_by _ (λ w c h. (p.law w).law c h.0)

pub quiet_each : {X : Type 0} (go : X → Change) (xs : List X) → ((x : X) → Quiet (go x)) → Quiet (for_each go xs)
unfolding for_each
quiet_each go [] q = quiet_unchanged
quiet_each go (x ∷ xs) q = keeps_followed (go x) (for_each go xs) quiet_order (q x) (quiet_each go xs q)

-- Finding.

keeps_chosen : {W Y : Type 0} {R : W → Y → Type 0} (refuse : List ℕ → W → Y) (text : List ℕ) (go : Dbref → W → Y) (hit : Found) → ((t : List ℕ) → Keeps R (refuse t)) → ((x : Dbref) → Keeps R (go x)) → Keeps R (object_chosen refuse text go hit)
keeps_chosen refuse text go (One x) p q = q x
keeps_chosen refuse text go Nobody p q = p _
keeps_chosen refuse text go Many p q = p _

pub keeps_finding : {Y : Type 0} {R : Live → Y → Type 0} (refuse : List ℕ → Live → Y) (player : Dbref) (text : List ℕ) (go : Dbref → Live → Y) → ((t : List ℕ) → Keeps R (refuse t)) → ((x : Dbref) → Keeps R (go x)) → Keeps R (finding refuse player text go)
unfolding finding
keeps_finding refuse player text go p q = keeps_reading _ (object_chosen refuse text go) (λ hit. keeps_chosen refuse text go hit p q)

keeps_named : {W Y : Type 0} {R : W → Y → Type 0} (refuse : List ℕ → W → Y) (name : List ℕ) (go : Dbref → W → Y) (hit : Option Dbref) → ((t : List ℕ) → Keeps R (refuse t)) → ((x : Dbref) → Keeps R (go x)) → Keeps R (named_player refuse name go hit)
keeps_named refuse name go (Some x) p q = q x
keeps_named refuse name go None p q = p _

pub keeps_finding_player : {Y : Type 0} {R : Live → Y → Type 0} (refuse : List ℕ → Live → Y) (name : List ℕ) (go : Dbref → Live → Y) → ((t : List ℕ) → Keeps R (refuse t)) → ((x : Dbref) → Keeps R (go x)) → Keeps R (finding_player refuse name go)
unfolding finding_player
keeps_finding_player refuse name go p q = keeps_reading _ (named_player refuse name go) (λ hit. keeps_named refuse name go hit p q)

pub keeps_finding_object : {R : Live → Live → Type 0} (d : ℕ) (a : Actor) (name : List ℕ) (go : Dbref → Change) → ((t : List ℕ) → Keeps R (tell d t)) → ((x : Dbref) → Keeps R (go x)) → Keeps R (finding_object d a name go)
unfolding finding_object
keeps_finding_object d a name go p q = keeps_finding _ _ _ _ p (λ x. keeps_where _ _ _ (p _) (q x))

-- whatever is found
pub ruleset finds = (keeps_where, keeps_finding, keeps_finding_player, keeps_finding_object)

-- Messages.

-- what is spoken changes what its player may change by it, and then what is done with it
stays_spoken : (a : Actor) (free : Freedom) (given : Option Act) (x : Dbref) (how : List ℕ) (typed : Typed) (text : List ℕ) (go : List ℕ → Change) → ((t : List ℕ) → Stays a free None (go t)) → Stays a free given (text_spoken a x how typed text go)
unfolding text_spoken said_of
stays_spoken a free given x how typed text go q = stays_by _ (λ start w r h.
    let said = formula_heard a x text (variables_of how typed.word typed.rest) w in
    let first = ((stays_heard a free x text (variables_of how typed.word typed.rest)).law w).law start r tt in
    stay_both _ _ _ _ first (((q (shown_of said.0)).law said.1).law start (stay_rights _ start w said.1 r first) tt))

stays_spoken_some : (a : Actor) (free : Freedom) (given : Option Act) (typed : Typed) (m : Message) (x : Dbref) (otherwise : Change) (go : List ℕ → Change) (message : Option (List ℕ)) → Quiet otherwise → ((t : List ℕ) → Quiet (go t)) →
    Stays a free given (spoken_some a typed m x otherwise go message)
stays_spoken_some a free given typed m x otherwise go (Some text) p q = stays_spoken a free given x (message_how m) typed text go (λ t. stays_quiet a free None (go t) (q t))
stays_spoken_some a free given typed m x otherwise go None p q = stays_quiet a free given otherwise p

pub stays_with_message : (a : Actor) (free : Freedom) (given : Option Act) (typed : Typed) (m : Message) (x : Dbref) (otherwise : Change) (go : List ℕ → Change) → Quiet otherwise → ((t : List ℕ) → Quiet (go t)) → Stays a free given (with_message a typed m x otherwise go)
unfolding with_message
stays_with_message a free given typed m x otherwise go p q = keeps_reading _ (spoken_some a typed m x otherwise go) (λ message. stays_spoken_some a free given typed m x otherwise go message p q)

pub quiet_shown_others : (player : Dbref) (tail : List ℕ) → Quiet (shown_others player tail)
unfolding shown_others
quiet_shown_others player tail = search shown

pub stays_message_or : (a : Actor) (free : Freedom) (given : Option Act) (d : ℕ) (typed : Typed) (otherwise : List ℕ) (m : Message) (x : Dbref) → Stays a free given (message_or d a typed otherwise m x)
unfolding message_or
stays_message_or a free given d typed otherwise m x = search (shown, stays_with_message)

pub stays_message_shown : (a : Actor) (free : Freedom) (given : Option Act) (d : ℕ) (typed : Typed) (m : Message) (x : Dbref) → Stays a free given (message_shown d a typed m x)
unfolding message_shown
stays_message_shown a free given d typed m x = search (shown, stays_with_message)

pub stays_message_to_others : (a : Actor) (free : Freedom) (given : Option Act) (typed : Typed) (m : Message) (x : Dbref) → Stays a free given (message_to_others a typed m x)
unfolding message_to_others
stays_message_to_others a free given typed m x = search (shown, stays_with_message, quiet_shown_others)

-- Looking.

pub quiet_listed : (d : ℕ) (player : Dbref) (xs : List Dbref) → Quiet (names_listed d player xs)
unfolding names_listed
quiet_listed d player [] = search shown
quiet_listed d player (x ∷ xs) = keeps_followed _ _ quiet_order (search shown) (quiet_listed d player xs)

pub quiet_listed_under : (d : ℕ) (player : Dbref) (head : List ℕ) (otherwise : Change) (xs : List Dbref) → Quiet otherwise → Quiet (listed_under d player head otherwise xs)
unfolding listed_under
quiet_listed_under d player head otherwise [] p = p
quiet_listed_under d player head otherwise (x ∷ xs) p = keeps_followed _ _ quiet_order (search shown) (quiet_listed d player (x ∷ xs))

pub stays_room_shown : (a : Actor) (free : Freedom) (given : Option Act) (d : ℕ) (typed : Typed) (room : Dbref) → Stays a free given (room_shown d a typed room)
unfolding room_shown
stays_room_shown a free given d typed room = search (staying, stays_message_shown, quiet_listed_under) depth 9

pub stays_looked : (a : Actor) (free : Freedom) (given : Option Act) (d : ℕ) (typed : Typed) → Stays a free given (place_looked_at d a typed)
unfolding place_looked_at
stays_looked a free given d typed = search (staying, stays_room_shown)

pub quiet_owner_shown : (d : ℕ) (x : Dbref) → Quiet (owner_shown d x)
unfolding owner_shown
quiet_owner_shown d x = search shown

-- Talking.

pub quiet_said_to : (d : ℕ) (player to : Dbref) (verb text : List ℕ) → Quiet (said_to d player to verb text)
unfolding said_to
quiet_said_to d player to verb text = search shown

quiet_presence_shown : (d : ℕ) (p : Presence) → Quiet (presence_shown d p)
unfolding presence_shown
quiet_presence_shown d p = search shown

pub quiet_who_shown : (d : ℕ) → Quiet (who_shown d)
unfolding who_shown
quiet_who_shown d = search (shown, quiet_each, quiet_presence_shown)

-- the lines that wait
pub loose_waits : (d : ℕ) (lines : List (List ℕ)) → Loose (waits d lines)
unfolding waits
loose_waits d lines = loose_one d (λ c. record c { waiting = lines }) (λ c. refl)

-- whatever players see
pub ruleset seeing = (shown, finds, quiet_shown_others, quiet_listed, quiet_listed_under, quiet_owner_shown, quiet_said_to, quiet_who_shown)

-- and what they see by messages, which may change something
pub ruleset hearing = (seeing, staying, stays_message_or, stays_message_shown, stays_message_to_others, stays_room_shown, stays_looked)
