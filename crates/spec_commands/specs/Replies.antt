-- What commands reply.
use Rattle.std.specs.Prelude.{ℕ, List, ◌++◌, codes, decimal}

unfoldable pub huh : List ℕ
huh = codes "Huh?  (Type \"help\" for help.)"

unfoldable pub goodbye : List ℕ
goodbye = codes "Come back later!"

unfoldable pub cant_be_done : List ℕ
cant_be_done = codes "That can't be done."

unfoldable pub cant_go : List ℕ
cant_go = codes "You can't go that way."

unfoldable pub cant_take : List ℕ
cant_take = codes "You can't pick that up."

unfoldable pub bad_name : List ℕ
bad_name = codes "That's not a reasonable name."

unfoldable pub nothing_special : List ℕ
nothing_special = codes "You see nothing special."

unfoldable pub bad_key : List ℕ
bad_key = codes "I don't understand that key."

-- a command of which a part is missing, by its word as it was typed, in lower case
unfoldable pub usage : List ℕ → List ℕ
usage word = codes "Usage: " ++ word

unfoldable pub not_understood : List ℕ → List ℕ
not_understood text = (codes "I don't understand '" ++ text) ++ codes "'."

unfoldable pub not_known : List ℕ → List ℕ
not_known text = (codes "I don't know which '" ++ text) ++ codes "' you mean!"

unfoldable pub you_say : List ℕ → List ℕ
you_say text = (codes "You say, \"" ++ text) ++ codes "\""

-- what others see of a player stands behind its name
unfoldable pub says : List ℕ → List ℕ
says text = (codes " says, \"" ++ text) ++ codes "\""

-- what a player sees of what it says to one alone, by a verb, and what that one sees behind the player's name
unfoldable pub you_say_to : List ℕ → List ℕ → List ℕ → List ℕ
you_say_to verb text name = (((codes "You " ++ verb) ++ codes ", \"") ++ text) ++ ((codes "\" to " ++ name) ++ codes ".")

unfoldable pub says_to : List ℕ → List ℕ → List ℕ
says_to verb text = (((codes " " ++ verb) ++ codes "s, \"") ++ text) ++ codes "\""

unfoldable pub not_connected : List ℕ
not_connected = codes " isn't connected."

unfoldable pub has_connected : List ℕ
has_connected = codes " has connected."

unfoldable pub has_disconnected : List ℕ
has_disconnected = codes " has disconnected."

unfoldable pub has_left : List ℕ
has_left = codes " has left."

unfoldable pub has_arrived : List ℕ
has_arrived = codes " has arrived."

unfoldable pub contents_head : List ℕ
contents_head = codes "Contents:"

unfoldable pub carrying_head : List ℕ
carrying_head = codes "You are carrying:"

unfoldable pub carrying_nothing : List ℕ
carrying_nothing = codes "You aren't carrying anything."

unfoldable pub taken_reply : List ℕ
taken_reply = codes "Taken."

unfoldable pub dropped_reply : List ℕ
dropped_reply = codes "Dropped."

unfoldable pub owner_line : List ℕ → List ℕ
owner_line name = codes "Owner: " ++ name

unfoldable pub lock_line : List ℕ → List ℕ
lock_line text = codes "Lock: " ++ text

unfoldable pub connected_line : List ℕ → ℕ → List ℕ
connected_line name number = (name ++ codes " (") ++ (decimal number ++ codes ")")

unfoldable pub connected_count : ℕ → List ℕ
connected_count count = decimal count ++ codes " connected."

unfoldable pub created_reply : List ℕ → List ℕ
created_reply name = (codes "Created " ++ name) ++ codes "."

unfoldable pub linked_reply : List ℕ
linked_reply = codes "Linked."

unfoldable pub unlinked_reply : List ℕ
unlinked_reply = codes "Unlinked."

unfoldable pub named_reply : List ℕ
named_reply = codes "Name set."

unfoldable pub set_reply : List ℕ
set_reply = codes "Set."

unfoldable pub locked_reply : List ℕ
locked_reply = codes "Locked."

unfoldable pub unlocked_reply : List ℕ
unlocked_reply = codes "Unlocked."

unfoldable pub teleported_reply : List ℕ
teleported_reply = codes "Teleported."

unfoldable pub recycled_reply : List ℕ
recycled_reply = codes "Recycled."

unfoldable pub chowned_reply : List ℕ
chowned_reply = codes "Owner changed."

unfoldable pub flag_reply : List ℕ
flag_reply = codes "Flag set."

unfoldable pub property_reply : List ℕ
property_reply = codes "Property set."

unfoldable pub entering_editor : List ℕ
entering_editor = codes "Entering editor."

unfoldable pub found_count : ℕ → List ℕ
found_count count = decimal count ++ codes " found."
