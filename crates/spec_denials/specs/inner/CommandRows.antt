-- What players are shown of what isn't theirs, and who hears what a formula tells, by examples.
use Rattle.std.specs.Prelude.{◌≡◌, ℕ, List, [], ◌∷◌, codes, None, refl}
use Rattle.muck_lock.specs.Grammar.{part_of}
use Rattle.muck_model.specs.declared.dbref.Kind.TheVariants.{Thing}
use Rattle.spec_live.specs.declared.saving.Saving.TheVariants.{Done}
use Rattle.spec_live.specs.Boards.{early_board, told_one, told_player, told_others}
use Rattle.spec_live.specs.Flags.{dark}
use Rattle.spec_live.specs.Lives.{Live, Change, change_followed, reading, either, where_so, unchanged, tell, tell_player, tell_but, tell_others}
use Rattle.spec_live.specs.Objects.{dbref_of, object_at, number_in, kind_in, object_in, list_in}
use Rattle.spec_live.specs.Output.{sent_lines, queue_most, sent_lines_bytes, line_sent, lines_sent, text_sent}
use Rattle.spec_live.specs.Seen.{listed_in, flag_letters, long_form}
use Rattle.spec_live.specs.Chain.{walk, follower}
use Rattle.spec_live.specs.Start.{room_zero, player_one}
use Rattle.spec_live.specs.Setting.{checked}
use Rattle.spec_rights.specs.declared.act.Actor.{Actor}
use Rattle.spec_rights.specs.Asking.{asked, denied_text, refused}
use Rattle.spec_rights.specs.Changing.{property_stored}
use Rattle.spec_rights.specs.Levels.{level_at, owner_at, flag_at, is_player_at, owns, controls_as, command_level, name_shown}
use Rattle.spec_rights.specs.Verdict.{controls}
use Rattle.mpi.specs.declared.host.Deed.{Deed}
use Rattle.mpi.specs.declared.host.Deed.TheVariants.{Tell, Otell}
use Rattle.std.specs.Fmt.{digits}
use Rattle.spec_mpi.specs.Doing.{does_in}
use Rattle.spec_commands.specs.Finding.{is_object_so, names_listed, seen_in, owner_shown, thing_examined}
use Rattle.spec_commands.specs.Building.{holds_name, owned_named, find_shown, done_where, change_by_leave, text_kept, lock_set}
use Rattle.spec_commands.specs.Replies.{owner_line, found_count, set_reply, bad_key}
use Rattle.spec_commands.specs.inner.Company.{held, company, queues}

abbrev acting : ℕ → ℕ → Actor
acting level player = record { level = level; user = dbref_of player; player = dbref_of player }

-- One and Two, and a ball `#3` of One's that nobody else sees
abbrev dim : Live
dim = held (
    record { object = room_zero; contents = 3 ∷ 2 ∷ 1 ∷ []; exits = []; mark = None; saving = Done; stood = None } ∷
    record { object = player_one; contents = []; exits = []; mark = None; saving = Done; stood = None } ∷
    record { object = record player_one { name = codes "Two"; owner = dbref_of 2; flags = record { 0 = 0 } }; contents = []; exits = []; mark = None; saving = Done; stood = None } ∷
    record { object = record player_one { kind = Thing; name = codes "ball"; flags = record { 0 = dark } }; contents = []; exits = []; mark = None; saving = Done; stood = None } ∷ []) []

-- what is sent where a formula of Two's does this
abbrev heard_of : Deed → List (List (List ℕ))
heard_of deed = queues (does_in deed (record { actor = acting 1 2; live = company (1 ∷ 2 ∷ 1 ∷ []) })).1.live.board.connections

-- what Two is shown of this
abbrev shown_of : Change → List (List (List ℕ))
shown_of f = queues (f (company (2 ∷ []))).board.connections

unfoldable pub CommandRows : Type 0
CommandRows =
    -- of what isn't one's own the owner alone is shown, and no lock
    (queues (thing_examined 1 (acting 1 2) (dbref_of 0) (company (2 ∷ []))).board.connections ≡ (owner_line (codes "One") ∷ []) ∷ [])
    -- one finds one's own alone
    × (queues (find_shown 1 (acting 1 2) (codes "O") (company (2 ∷ []))).board.connections ≡ (codes "Two(#2P)" ∷ found_count 1 ∷ []) ∷ [])
    -- what has D is seen by its owner
    × (seen_in (dbref_of 2) (dbref_of 0) dim ≡ dbref_of 1 ∷ [])
    × (seen_in (dbref_of 1) (dbref_of 0) dim ≡ dbref_of 3 ∷ dbref_of 2 ∷ [])
    -- `{tell:}` reaches one player, on each connection, and `{otell:}` the others in the room
    × (heard_of (Tell (codes "hi") (dbref_of 1)) ≡ (codes "hi" ∷ []) ∷ [] ∷ (codes "hi" ∷ []) ∷ [])
    × (heard_of (Tell (codes "hi") (dbref_of 2)) ≡ [] ∷ (codes "hi" ∷ []) ∷ [] ∷ [])
    × (heard_of (Otell (codes "hi") (dbref_of 0)) ≡ (codes "hi" ∷ []) ∷ [] ∷ (codes "hi" ∷ []) ∷ [])
    × (heard_of (Otell (codes "hi") (dbref_of 2)) ≡ [] ∷ [] ∷ [] ∷ [])
    -- a player may give itself messages and a lock
    × (shown_of (text_kept 1 (acting 1 2) (dbref_of 2) (codes "de") (codes "tall") set_reply) ≡ (set_reply ∷ []) ∷ [])
    × (shown_of (lock_set 1 (acting 1 2) (dbref_of 2) (codes "&")) ≡ (bad_key ∷ []) ∷ [])

pub command_rows : CommandRows
unfolding CommandRows early_board told_one told_player told_others change_followed reading either where_so unchanged tell tell_player tell_but tell_others object_at number_in kind_in object_in list_in sent_lines queue_most sent_lines_bytes line_sent lines_sent text_sent listed_in walk follower room_zero player_one level_at owner_at flag_at owns controls_as command_level is_object_so names_listed seen_in owner_shown thing_examined owner_line is_player_at name_shown flag_letters long_form holds_name owned_named find_shown found_count digits controls asked denied_text refused property_stored checked text_kept lock_set change_by_leave done_where set_reply bad_key part_of
command_rows = (refl, refl, refl, refl, refl, refl, refl, refl, refl, refl)
