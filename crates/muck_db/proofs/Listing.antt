-- The numbers of the players.
use Rattle.std.proofs.Common.{◌≡◌, ℕ, pos, ◌<◌, ◌++◌, Bool, cond, List, [], ◌∷◌, Option, Some, None, refl, sym, ap, subst, ◌∙◌, true, false, length}
use Rattle.std.proofs.lemmas.Bool.{false≢true}
use Rattle.std.proofs.lemmas.Option.{slice_get_within}
use Rattle.std.specs.Prelude.{slice_get}
use Rattle.std.specs.Option.{option_map, option_map_or, option_and_then}
use Rattle.muck_laws.proofs.Places.{get_still, got_last}
use Rattle.muck_model.specs.Numbers.{dbref_numbered}
use Rattle.muck_model.specs.declared.dbref.Kind.TheVariants.{Garbage}
use Rattle.spec_live.specs.declared.object.Object.{Object}
use Rattle.spec_live.specs.Objects.{Entry, is_player, is_garbage, kind_in, object_in, number_in, object_at as seen_at}
use Rattle.spec_live.specs.Seen.{sight_of, scenery_of}
use Rattle.muck_match.specs.Scenery.{Sight, sees}
use Rattle.muck_match.specs.inner.Listed.{IsAmong, AreListed}
use Rattle.muck_db.specs.declared.slot.Slot.{Slot}
use Rattle.muck_db.specs.inner.Slots.{shown, object_at, kind_at, entries_of, HasPlayers}
use Rattle.muck_db.proofs.Readers.{kind_in-entries_of}

pub among_more : (ns ms : List ℕ) (n k : ℕ) → ms ≡ ns ++ n ∷ [] → IsAmong ns k → IsAmong ms k
among_more ns ms n k is a = record { at = a.at; is = ap (λ (l : List ℕ). slice_get l a.at) is ∙ get_still ns n a.at k a.is }

pub among_last : (ns ms : List ℕ) (n : ℕ) → ms ≡ ns ++ n ∷ [] → IsAmong ms n
among_last ns ms n is = record { at = length ns; is = ap (λ (l : List ℕ). slice_get l (length ns)) is ∙ got_last ns n }

-- a player is one of the slots
pub player_known : (slots : List Slot) (k : ℕ) → is_player (kind_at slots k) ≡ true → k < length slots
unfolding kind_at object_at
player_known slots k h = at (slice_get slots k) refl h
  where
    at : (o : Option Slot) → slice_get slots k ≡ o → is_player (option_map_or (λ (x : Object). x.kind) (option_map shown o) Garbage) ≡ true → k < length slots
    at None e h = absurd (false≢true h)
    at (Some s) e h = slice_get_within slots k s e

-- who is seen as a player is one
player_seen : (es : List Entry) (n : ℕ) → sees (λ s. is_player s.kind) (scenery_of es) (dbref_numbered (pos n)) ≡ true → is_player (kind_in es n) ≡ true
unfolding scenery_of number_in kind_in seen_at
player_seen es n h = by_life (is_garbage (kind_in es n)) h
  where
    at : (o : Option Object) → option_map_or (λ (s : Sight). is_player s.kind) (option_map sight_of o) false ≡ true → is_player (option_map_or (λ (x : Object). x.kind) o Garbage) ≡ true
    at None h = absurd (false≢true h)
    at (Some o) h = h

    by_life : (b : Bool) → option_map_or (λ (s : Sight). is_player s.kind) (option_map sight_of (option_and_then (object_in es) (cond b None (Some n)))) false ≡ true → is_player (kind_in es n) ≡ true
    by_life true h = absurd (false≢true h)
    by_life false h = at (object_in es n) h

-- each player that matching sees stands in the list
pub listed_scenery : (slots : List Slot) (es : List Entry) (players numbers : List ℕ) → entries_of slots ≡ es → numbers ≡ players → HasPlayers slots players → AreListed (scenery_of es) numbers
listed_scenery slots es players numbers e same listed n h =
    subst (λ (l : List ℕ). IsAmong l n) (sym same) (listed n (ap (λ k. is_player k) (sym (kind_in-entries_of slots n) ∙ ap (λ (z : List Entry). kind_in z n) e) ∙ player_seen es n h))
