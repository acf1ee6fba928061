-- What is seen of an object by who only looks into a world, as a list of lines.
use Rattle.std.specs.Prelude.{ℕ, false, not, List, [], ◌∷◌, ◌++◌, map, take, Option, Some, None}
use Rattle.std.specs.Option.{option_map, option_map_or}
use Rattle.std.specs.List.{filter}
use Rattle.muck_model.specs.Bytes.{text_most}
use Rattle.muck_model.specs.declared.dbref.Dbref.{Dbref}
use Rattle.spec_live.specs.Flags.{dark}
use Rattle.spec_live.specs.Objects.{Entry, object_at}
use Rattle.spec_live.specs.Seen.{listed_in, long_form}
use Rattle.spec_live.specs.Worth.{message_at, lock_text}
use Rattle.spec_live.specs.Messages.{path_of}
use Rattle.spec_live.specs.declared.message.Message.TheVariants.{Describe}
use Rattle.spec_rights.specs.Levels.{dbref_number, owner_at, flag_at}
use Rattle.spec_commands.specs.Replies.{contents_head, owner_line, lock_line}

-- a line that is made has no more bytes than a text may have
abbrev pub line_shortened : List ℕ → List ℕ
line_shortened line = take text_most line

-- the long form of an object, and its name; what isn't there has none
abbrev pub long_form_at : List Entry → Dbref → List ℕ
long_form_at es d = option_map_or (long_form (dbref_number d)) (object_at d es) []

-- a line of it
abbrev pub form_line : List Entry → Dbref → List ℕ
form_line es d = line_shortened (long_form_at es d)

abbrev pub entry_name : List Entry → Dbref → List ℕ
entry_name es d = option_map_or (λ o. o.name) (object_at d es) []

abbrev pub description_path : List (List ℕ)
description_path = path_of Describe

abbrev pub if_any : Option (List ℕ) → List (List ℕ)
if_any None = []
if_any (Some text) = text ∷ []

-- what an object holds that isn't hidden
unfoldable pub open_in : List Entry → Dbref → List Dbref
open_in es d = filter (λ x. not (flag_at dark es x)) (listed_in false d es)

-- a head and these lines, where there are any
abbrev pub under_head : List (List ℕ) → List (List ℕ)
under_head [] = []
under_head (line ∷ lines) = contents_head ∷ line ∷ lines

-- the long form, the description as it is kept, and what is held that isn't hidden
abbrev pub look_lines : List Entry → Dbref → List (List ℕ)
look_lines es d = form_line es d ∷ (if_any (message_at description_path d es) ++ under_head (map (form_line es) (open_in es d)))

-- the long form, the owner and the lock, as a player sees them who controls the object
abbrev pub examine_lines : List Entry → Dbref → List (List ℕ)
examine_lines es d = form_line es d ∷ line_shortened (owner_line (entry_name es (owner_at es d))) ∷ line_shortened (lock_line (lock_text d es)) ∷ []

-- what is seen of an object that is there
unfoldable pub object_looked_at : Dbref → List Entry → Option (List (List ℕ))
object_looked_at d es = option_map (λ o. look_lines es d) (object_at d es)

unfoldable pub object_examined : Dbref → List Entry → Option (List (List ℕ))
object_examined d es = option_map (λ o. examine_lines es d) (object_at d es)
