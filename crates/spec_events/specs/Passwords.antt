-- That a connection has its player by the player's password.
use Rattle.std.specs.Prelude.{◌≡◌, ◌⊎◌, ℕ, true, if◌then◌else◌, List, [], ◌∷◌, ◌++◌, length, codes, Option, Some, None}
use Rattle.std.specs.Option.{option_map}
use Rattle.std.specs.Str.{str_eq_ignore_ascii_case}
use Rattle.hex.specs.Hex.{encode_lower}
use Rattle.sha2.specs.Sha256.{sha256}
use Rattle.muck_model.specs.declared.dbref.Dbref.{Dbref}
use Rattle.muck_model.specs.declared.event.Entry.{Entry}
use Rattle.muck_model.specs.declared.event.Event.TheVariants.{Exec, Closed}
use Rattle.muck_match.specs.Naming.{player_named}
use Rattle.spec_live.specs.declared.object.Object.{Object}
use Rattle.spec_live.specs.Objects.{Entry as Kept, object_at}
use Rattle.spec_live.specs.Seen.{scenery_of}
use Rattle.spec_live.specs.Boards.{player_in}
use Rattle.spec_commands.specs.Texts.{first_word, other_words, trimmed, is_alike}
use Rattle.spec_events.specs.World.{World, connection}
use Rattle.spec_events.specs.Steps.{effect}
use Rattle.spec_events.specs.Histories.{after}

-- the name and the password that `connect NAME PASSWORD` gives
unfoldable pub credentials : List ℕ → Option (List ℕ × List ℕ)
credentials line =
    let rest = trimmed (other_words (trimmed line)) in
    if is_alike (first_word (trimmed line)) (codes "connect") then Some (first_word rest, trimmed (other_words rest)) else None

-- the name is this player's, and of the password it has the digest: eight bytes of salt, and the SHA-256 of the salt followed by the password, in hex digits
pub record HasPassword (name password : List ℕ) (player : Dbref) (objects : List Kept) : Type 0 where
  pub named : player_named (scenery_of objects) name ≡ Some player
  pub object : Object
  pub there : object_at player objects ≡ Some object
  pub called : str_eq_ignore_ascii_case name object.name ≡ true
  pub salt : List ℕ
  pub eight : length salt ≡ 8
  pub digest : object.digest ≡ encode_lower (salt ++ sha256 (salt ++ password))

-- the first line that waits on the connection d gives the name of the player and its password
pub record Proves (d : ℕ) (player : Dbref) (w : World) : Type 0 where
  pub line : List ℕ
  pub lines : List (List ℕ)
  pub waits : option_map (λ c. c.waiting) (connection d w) ≡ Some (line ∷ lines)
  pub name : List ℕ
  pub password : List ℕ
  pub gives : credentials line ≡ Some (name, password)
  pub proves : HasPassword name password player w.live.objects

-- d closes in none of these entries
abbrev pub StaysOpen : ℕ → List Entry → Type 0
StaysOpen d [] = Unit {0}
StaysOpen d (entry ∷ entries) = (entry.event ≡ Closed d → ⊥) × StaysOpen d entries

-- in one of these entries, the first of them in the world w, d does a line that proves it to be that player; and it hasn't closed since
abbrev pub IsKnown : World → List Entry → ℕ → Dbref → Type 0
IsKnown w [] d player = ⊥
IsKnown w (entry ∷ entries) d player = ((entry.event ≡ Exec d) × Proves d player w × StaysOpen d entries) ⊎ IsKnown (effect w entry) entries d player

-- each connection that has a player after these entries has proved to be that player
abbrev pub AllKnown : World → List Entry → Type 0
AllKnown w entries = (d : ℕ) (player : Dbref) → player_in d (after w entries).live.board ≡ Some player → IsKnown w entries d player
