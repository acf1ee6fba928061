-- What players see by messages touches notes alone: properties, what waits to be sent and the state of the random numbers.
use Rattle.std.proofs.Common.{◌≡◌, ℕ, cond, List, [], ◌∷◌, refl, sym, ◌∙◌, ap, Option, Some, None}
use Rattle.std.specs.Prelude.{map, slice_get}
use Rattle.std.specs.Option.{option_map, option_map_or, option_and_then}
use Rattle.std.specs.FinMap as props
use Rattle.muck_laws.proofs.Places.{get_map}
use Rattle.muck_model.specs.declared.dbref.Kind.{Kind}
use Rattle.muck_model.specs.declared.dbref.Kind.TheVariants.{Garbage}
use Rattle.spec_live.specs.declared.object.Object.{Object}
use Rattle.spec_live.specs.Objects.{Entry, nothing, is_garbage, index_of, object_in, kind_in, number_in, object_at}
use Rattle.spec_rights.specs.Verdict.{place_or_nothing}
use Rattle.muck_model.specs.declared.dbref.Dbref.{Dbref}
use Rattle.spec_live.specs.Lives.{Change, unchanged, tell, tell_others}
use Rattle.spec_live.proofs.Keeping.{Keeps, keeping, keeps_followed, keeps_reading, keeps_unchanged}
use Rattle.spec_rights.specs.declared.act.Actor.{Actor}
use Rattle.spec_mpi.specs.Messages.{formula_heard, variables_of, answer_shown, message_spoken as said_of}
use Rattle.spec_mpi.specs.Touching.{without_props, TouchesNotes}
use Rattle.spec_mpi.proofs.Leave.{heard_touches}
use Rattle.spec_rights.proofs.Shown.{quiet_tell, quiet_tell_others}
use Rattle.spec_mpi.proofs.Deeds.{touching_order, notes_quiet}
use Rattle.spec_commands.specs.declared.typed.Typed.{Typed}
use Rattle.spec_live.specs.declared.message.Message.{Message}
use Rattle.spec_commands.proofs.Showing.{quiet_shown_others, quiet_listed}
use Rattle.spec_commands.specs.Messages.{message_how, text_spoken, spoken_some, with_message}
use Rattle.spec_commands.specs.Going.{both_shown}
use Rattle.spec_commands.specs.Finding.{shown_others, message_shown, message_to_others, names_listed, listed_under, room_shown, place_looked_at}

abbrev pub Notes : Change → Type 0
Notes f = Keeps TouchesNotes f

notes_unchanged : Notes unchanged
notes_unchanged = keeps_unchanged touching_order

notes_tell : (d : ℕ) (text : List ℕ) → Notes (tell d text)
notes_tell d text = notes_quiet _ (quiet_tell d text)

notes_tell_others : (room but : Dbref) (text : List ℕ) → Notes (tell_others room but text)
notes_tell_others room but text = notes_quiet _ (quiet_tell_others room but text)

ruleset noting = (keeping, touching_order, notes_unchanged, notes_tell, notes_tell_others)

notes_spoken : (a : Actor) (x : Dbref) (how : List ℕ) (typed : Typed) (text : List ℕ) (go : List ℕ → Change) → ((t : List ℕ) → Notes (go t)) → Notes (text_spoken a x how typed text go)
unfolding text_spoken said_of
notes_spoken a x how typed text go q = record {
  law = λ w.
      let said = formula_heard a x text (variables_of how typed.word typed.rest) w in
      touching_order.both w said.1 _ (heard_touches a x text (variables_of how typed.word typed.rest) w) ((q (answer_shown said.0)).law said.1);
}

notes_spoken_some : (a : Actor) (typed : Typed) (m : Message) (x : Dbref) (otherwise : Change) (go : List ℕ → Change) (message : Option (List ℕ)) → Notes otherwise → ((t : List ℕ) → Notes (go t)) → Notes (spoken_some a typed m x otherwise go message)
notes_spoken_some a typed m x otherwise go (Some text) p q = notes_spoken a x (message_how m) typed text go q
notes_spoken_some a typed m x otherwise go None p q = p

pub notes_with_message : (a : Actor) (typed : Typed) (m : Message) (x : Dbref) (otherwise : Change) (go : List ℕ → Change) → Notes otherwise → ((t : List ℕ) → Notes (go t)) → Notes (with_message a typed m x otherwise go)
unfolding with_message
notes_with_message a typed m x otherwise go p q = keeps_reading _ (spoken_some a typed m x otherwise go) (λ message. notes_spoken_some a typed m x otherwise go message p q)

pub notes_shown_others : (player : Dbref) (tail : List ℕ) → Notes (shown_others player tail)
notes_shown_others player tail = notes_quiet _ (quiet_shown_others player tail)

notes_message_shown : (d : ℕ) (a : Actor) (typed : Typed) (m : Message) (x : Dbref) → Notes (message_shown d a typed m x)
unfolding message_shown
notes_message_shown d a typed m x = search (noting, notes_with_message)

notes_listed : (d : ℕ) (player : Dbref) (xs : List Dbref) → Notes (names_listed d player xs)
notes_listed d player xs = notes_quiet _ (quiet_listed d player xs)

notes_listed_under : (d : ℕ) (player : Dbref) (head : List ℕ) (otherwise : Change) (xs : List Dbref) → Notes otherwise → Notes (listed_under d player head otherwise xs)
unfolding listed_under
notes_listed_under d player head otherwise [] p = p
notes_listed_under d player head otherwise (x ∷ xs) p = keeps_followed _ _ touching_order (search noting) (notes_listed d player (x ∷ xs))

notes_room_shown : (d : ℕ) (a : Actor) (typed : Typed) (room : Dbref) → Notes (room_shown d a typed room)
unfolding room_shown
notes_room_shown d a typed room = search (noting, notes_message_shown, notes_listed_under)

pub notes_looked : (d : ℕ) (a : Actor) (typed : Typed) → Notes (place_looked_at d a typed)
unfolding place_looked_at
notes_looked d a typed = search (noting, notes_room_shown)

notes_message_to_others : (a : Actor) (typed : Typed) (m : Message) (x : Dbref) → Notes (message_to_others a typed m x)
unfolding message_to_others
notes_message_to_others a typed m x = search (noting, notes_with_message, notes_shown_others)

pub notes_both_shown : (d : ℕ) (a : Actor) (typed : Typed) (mine theirs : Message) (x : Dbref) → Notes (both_shown d a typed mine theirs x)
unfolding both_shown
notes_both_shown d a typed mine theirs x = search (noting, notes_message_shown, notes_message_to_others)

-- Where notes alone differ, each object is where it was.

abbrev bare : Object → Object
bare o = record o { props = props.empty }

bare_seen : (q : Option Entry) → option_map bare (option_map (λ (e : Entry). e.object) q) ≡ option_map (λ (e : Entry). e.object) (option_map without_props q)
bare_seen None = refl
bare_seen (Some e) = refl

objects_same : (es fs : List Entry) → map without_props fs ≡ map without_props es → (k : ℕ) → option_map bare (object_in fs k) ≡ option_map bare (object_in es k)
unfolding object_in
objects_same es fs h k =
    bare_seen (slice_get fs k)
    ∙ ap (λ (q : Option Entry). option_map (λ (e : Entry). e.object) q) (sym (get_map without_props fs k) ∙ ap (λ (xs : List Entry). slice_get xs k) h ∙ get_map without_props es k)
    ∙ sym (bare_seen (slice_get es k))

kind_bare : (q : Option Object) → option_map_or (λ (o : Object). o.kind) (option_map bare q) Garbage ≡ option_map_or (λ (o : Object). o.kind) q Garbage
kind_bare None = refl
kind_bare (Some o) = refl

place_bare : (q : Option Object) → option_map_or (λ (o : Object). o.place) (option_map bare q) nothing ≡ option_map_or (λ (o : Object). o.place) q nothing
place_bare None = refl
place_bare (Some o) = refl

kinds_same : (es fs : List Entry) → map without_props fs ≡ map without_props es → (k : ℕ) → kind_in fs k ≡ kind_in es k
unfolding kind_in
kinds_same es fs h k =
    sym (kind_bare (object_in fs k)) ∙ ap (λ (q : Option Object). option_map_or (λ (o : Object). o.kind) q Garbage) (objects_same es fs h k) ∙ kind_bare (object_in es k)

numbers_same : (es fs : List Entry) → map without_props fs ≡ map without_props es → (d : Dbref) → number_in fs d ≡ number_in es d
unfolding number_in
numbers_same es fs h d = at (index_of d)
  where
    at : (q : Option ℕ) → option_and_then (λ n. cond (is_garbage (kind_in fs n)) None (Some n)) q ≡ option_and_then (λ n. cond (is_garbage (kind_in es n)) None (Some n)) q
    at None = refl
    at (Some n) = ap (λ (k : Kind). cond (is_garbage k) None (Some n)) (kinds_same es fs h n)

found_same : (es fs : List Entry) → map without_props fs ≡ map without_props es → (q : Option ℕ) → option_map bare (option_and_then (object_in fs) q) ≡ option_map bare (option_and_then (object_in es) q)
found_same es fs h None = refl
found_same es fs h (Some n) = objects_same es fs h n

pub place_same : (es fs : List Entry) → map without_props fs ≡ map without_props es → (d : Dbref) → place_or_nothing fs d ≡ place_or_nothing es d
unfolding object_at
place_same es fs h d =
    sym (place_bare (option_and_then (object_in fs) (number_in fs d)))
    ∙ ap (λ (q : Option Object). option_map_or (λ (o : Object). o.place) q nothing) (ap (λ (q : Option ℕ). option_map bare (option_and_then (object_in fs) q)) (numbers_same es fs h d) ∙ found_same es fs h (number_in es d))
    ∙ place_bare (option_and_then (object_in es) (number_in es d))
