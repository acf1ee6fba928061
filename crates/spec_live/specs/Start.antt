-- The first objects.
use Rattle.std.specs.Prelude.{ℕ, List, [], ◌∷◌, codes, Some, None}
use Rattle.muck_model.specs.declared.dbref.Kind.TheVariants.{Room, Player}
use Rattle.spec_live.specs.declared.object.Object.{Object}
use Rattle.spec_live.specs.declared.saving.Saving.TheVariants.{Due}
use Rattle.spec_live.specs.Flags.{wizard}
use Rattle.spec_live.specs.Objects.{Entry, dbref_of, bare_object}
use Rattle.spec_live.specs.Password.{digest_of, first_salt, first_password}

unfoldable pub first_digest : List ℕ
first_digest = digest_of first_salt first_password

-- Room Zero, below which all rooms are, belongs to One
unfoldable pub room_zero : Object
room_zero = bare_object Room (codes "Room Zero") (dbref_of 1)

-- One, who is a wizard
unfoldable pub player_one : Object
player_one = record (bare_object Player (codes "One") (dbref_of 1)) {
  place = dbref_of 0;
  home = dbref_of 0;
  flags = record { 0 = wizard };
  digest = first_digest;
}

-- Room Zero, and One in it
unfoldable pub first_objects : List Entry
first_objects =
    record { object = room_zero; contents = 1 ∷ []; exits = []; mark = None; saving = Due; stood = None } ∷
    record { object = player_one; contents = []; exits = []; mark = None; saving = Due; stood = Some (dbref_of 0) } ∷ []
