-- The messages of objects, and the one way by which they reach anybody.
use Rattle.std.specs.Prelude.{ℕ, List, [], ◌∷◌, codes, Option, Some, None}
use Rattle.muck_model.specs.declared.dbref.Dbref.{Dbref}
use Rattle.spec_live.specs.Lives.{Change, reading}
use Rattle.spec_rights.specs.declared.act.Actor.{Actor}
use Rattle.spec_live.specs.Worth.{message_at}
use Rattle.spec_mpi.specs.Messages.{message_spoken as said_of}
use Rattle.spec_commands.specs.declared.typed.Typed.{Typed}
use Rattle.spec_live.specs.declared.message.Message.{Message}
use Rattle.spec_live.specs.Messages.{row_of}

-- The last part of the path of a message, and how it is called where it is spoken.

abbrev pub message_name : Message → List ℕ
message_name m = (row_of m).name

abbrev pub message_how : Message → List ℕ
message_how m = (row_of m).how

abbrev pub message_path : List ℕ → List (List ℕ)
message_path word = codes "_" ∷ word ∷ []

-- What was typed where a player looks when it has logged in.

abbrev pub look_typed : Typed
look_typed = record { word = codes "look"; rest = [] }

-- A text that x carries is spoken by the rights of the actor, with how it is called and what was typed as its variables, and this is done
-- with what is shown of it, in the world that it leaves. A fault is shown as `MPI error N.`
unfoldable pub text_spoken : Actor → Dbref → List ℕ → Typed → List ℕ → (List ℕ → Change) → Change
text_spoken a x how typed text go w = let said = said_of a x how typed.word typed.rest text w in go said.0 said.1

abbrev pub spoken_some : Actor → Typed → Message → Dbref → Change → (List ℕ → Change) → Option (List ℕ) → Change
spoken_some a typed m x otherwise go None = otherwise
spoken_some a typed m x otherwise go (Some text) = text_spoken a x (message_how m) typed text go

-- a message of x is spoken once, where x has it, and then this is done with what comes of it
unfoldable pub with_message : Actor → Typed → Message → Dbref → Change → (List ℕ → Change) → Change
with_message a typed m x otherwise go = reading (λ w. message_at (message_path (message_name m)) x w.objects) (spoken_some a typed m x otherwise go)
