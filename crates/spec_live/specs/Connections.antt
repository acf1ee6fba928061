-- The connections, by rising number.
use Rattle.std.specs.Prelude.{ℕ, Bool, true, false, not, ◌&&◌, ◌==◌, nat_lt, nat_le, if◌then◌else◌, List, [], ◌∷◌, ◌++◌, length, Option, Some, None}
use Rattle.std.specs.List.{list_any}
use Rattle.std.specs.Option.{option_map_or}
use Rattle.muck_model.specs.declared.dbref.Dbref.{Dbref}
use Rattle.muck_model.specs.declared.edit.EditState.{EditState}
use Rattle.spec_live.specs.Objects.{same}
use Rattle.spec_live.specs.Output.{Output, no_output, text_sent, bytes_of}

-- A connection: its player, once it has one; the lines that came and wait; the program that is edited on it; whether
-- it is leaving; and what waits to be sent to it.
pub record Connection : Type 0 where
  pub number : ℕ
  pub player : Option Dbref
  pub waiting : List (List ℕ)
  pub editor : Option EditState
  pub leaving : Bool
  pub output : Output

-- a new connection, which is greeted with this text
abbrev pub newcomer : ℕ → List ℕ → Connection
newcomer d greeting = record { number = d; player = None; waiting = []; editor = None; leaving = false; output = text_sent greeting no_output }

abbrev pub is_connection : ℕ → Connection → Bool
is_connection d c = c.number == d

-- a line waits that may be done
abbrev pub is_ready : Connection → Bool
is_ready c = not c.leaving && nat_lt 0 (length c.waiting)

-- the most connections, and the most lines that wait on one
abbrev pub connections_most : ℕ
connections_most = 256

abbrev pub waiting_most : ℕ
waiting_most = 64

-- another line may wait
abbrev pub takes_line : Connection → Bool
takes_line c = not c.leaving && nat_lt (length c.waiting) waiting_most

-- at least so many bytes wait to be sent
abbrev pub holds : ℕ → Connection → Bool
holds n c = nat_le n (length (bytes_of c.output))

-- with the connection d changed by f
abbrev pub changed_in : ℕ → (Connection → Connection) → List Connection → List Connection
changed_in d f [] = []
changed_in d f (c ∷ cs) = if is_connection d c then f c ∷ cs else c ∷ changed_in d f cs

-- with a connection more, before the first of a greater number
abbrev pub connection_placed : Connection → List Connection → List Connection
connection_placed new [] = new ∷ []
connection_placed new (c ∷ cs) = if nat_lt new.number c.number then new ∷ c ∷ cs else c ∷ connection_placed new cs

-- without the connection d
abbrev pub without_connection : ℕ → List Connection → List Connection
without_connection d [] = []
without_connection d (c ∷ cs) = if is_connection d c then cs else c ∷ without_connection d cs

-- Changes of a connection.

-- a text is sent to it
abbrev pub text_told : List ℕ → Connection → Connection
text_told text c = record c { output = text_sent text c.output }

abbrev pub left : Connection → Connection
left c = record c { leaving = true }

abbrev pub player_seated : Dbref → Connection → Connection
player_seated player c = record c { player = Some player }

abbrev pub editor_set : Option EditState → Connection → Connection
editor_set editor c = record c { editor = editor }

abbrev pub lined : List ℕ → Connection → Connection
lined line c = record c { waiting = c.waiting ++ line ∷ [] }

-- Who hears.

abbrev pub is_connection_of : Dbref → Connection → Bool
is_connection_of player c = option_map_or (same player) c.player false

-- the connection of a player in that room, but of none of these
abbrev pub hears : (Dbref → Option Dbref) → Dbref → List Dbref → Connection → Bool
hears places room but c = option_map_or (λ p. not (list_any (same p) but) && option_map_or (same room) (places p) false) c.player false

abbrev pub told_where : (Connection → Bool) → List ℕ → Connection → Connection
told_where test text c = if test c then text_told text c else c

abbrev pub left_where : (Connection → Bool) → Connection → Connection
left_where test c = if test c then left c else c

-- its editor is open on that program
abbrev pub edits : Dbref → Connection → Bool
edits program c = option_map_or (λ e. same program e.program) c.editor false

abbrev pub edited_where : (Connection → Bool) → Option EditState → Connection → Connection
edited_where test editor c = if test c then editor_set editor c else c

abbrev pub has_player : Connection → Bool
has_player c = option_map_or (λ p. true) c.player false
