-- The starting world is sound.
use Rattle.std.proofs.Common.{◌≡◌, List, [], ◌∷◌, ◌++◌, sym, ap, subst, ◌∙◌}
use Rattle.muck_model.specs.declared.tune.Tune.{Tune}
use Rattle.muck_model.specs.Parameters.{first_tune}
use Rattle.muck_codec.specs.declared.stored.Stored.{Stored}
use Rattle.muck_log.specs.World.{StoredWorld, start, stored_room_zero, stored_player_one}
use Rattle.muck_log.proofs.Fine.{start_fine}
use Rattle.muck_log.proofs.Spellings.{start_stored}
use Rattle.muck_mirror.specs.Laying.{IsSound}

start_sound : IsSound start
start_sound = record { fine = start_fine; stored = start_stored }

abbrev held : List Stored → Tune → StoredWorld
held objects tune = record { objects = objects; tune = tune }

pub sound_of : (none one two : List Stored) (room player : Stored) (tune : Tune) → none ≡ [] → one ≡ none ++ room ∷ [] → two ≡ one ++ player ∷ [] → room ≡ stored_room_zero → player ≡ stored_player_one → tune ≡ first_tune → IsSound (held two tune)
unfolding start
sound_of none one two room player tune empty first second is_room is_player is_tune =
    let objects : two ≡ start.objects = second ∙ ap (λ l. l ++ player ∷ []) (first ∙ ap (λ l. l ++ room ∷ []) empty) ∙ ap (λ o. o ∷ player ∷ []) is_room ∙ ap (λ o. stored_room_zero ∷ o ∷ []) is_player in
    let whole : held two tune ≡ start = ap (λ l. held l tune) objects ∙ ap (held start.objects) is_tune in
    subst IsSound (sym whole) start_sound
