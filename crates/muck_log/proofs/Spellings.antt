-- The records of the starting world have spellings.
use Rattle.std.proofs.Common.{◌≡◌, List, [], ◌∷◌, ◌++◌, length, refl, sym, ap, subst, ◌∙◌, arith}
use Rattle.std.specs.Prelude.{All}
use Rattle.std.proofs.lemmas.List.Elements.{All-nil, All-cons}
use Rattle.muck_codec.specs.declared.stored.Stored.{Stored}
use Rattle.muck_codec.specs.inner.Stored.{IsStored}
use Rattle.muck_log.specs.World.{start, stored_room_zero, stored_player_one, first_digest}

room_stored : IsStored stored_room_zero
unfolding stored_room_zero
room_stored = record {
  dbref = omega arith;
  flags = omega arith;
  level = omega arith;
  ties = (omega arith, (omega arith, (omega arith, omega arith)));
  lists = (omega arith, (omega arith, omega arith));
  name = ((omega arith, omega arith), refl);
  props = (omega arith, tt);
  lines = ((omega arith, omega arith), tt);
  digest = ((omega arith, omega arith), refl);
}

player_stored : IsStored stored_player_one
unfolding stored_player_one first_digest
player_stored = record {
  dbref = omega arith;
  flags = omega arith;
  level = omega arith;
  ties = (omega arith, (omega arith, (omega arith, omega arith)));
  lists = (omega arith, (omega arith, omega arith));
  name = ((omega arith, omega arith), refl);
  props = (omega arith, tt);
  lines = ((omega arith, omega arith), tt);
  digest = ((omega arith, omega arith), refl);
}

pub start_two : length start.objects ≡ 2
unfolding start
start_two = refl

pub start_stored : All IsStored start.objects
unfolding start
start_stored = All-cons IsStored stored_room_zero (stored_player_one ∷ []) room_stored (All-cons IsStored stored_player_one [] player_stored (All-nil IsStored))

-- the two records, one behind the other
pub both_stored : (none one two : List Stored) (room player : Stored) → none ≡ [] → one ≡ none ++ room ∷ [] → two ≡ one ++ player ∷ [] → room ≡ stored_room_zero → player ≡ stored_player_one → All IsStored two
unfolding start
both_stored none one two room player empty first second is_room is_player =
    let whole : two ≡ start.objects = second ∙ ap (λ l. l ++ player ∷ []) (first ∙ ap (λ l. l ++ room ∷ []) empty) ∙ ap (λ o. o ∷ player ∷ []) is_room ∙ ap (λ o. stored_room_zero ∷ o ∷ []) is_player in
    subst (All IsStored) (sym whole) start_stored
