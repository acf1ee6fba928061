-- What is written of a script by which a mirror follows a store.
use Rattle.std.specs.Prelude.{ℕ, false, List, [], ◌∷◌, ◌++◌, codes, decimal, Option, Some, None}
use Rattle.std.specs.List.{flat_map}
use Rattle.muck_log.specs.Store.{Chosen}
use Rattle.muck_mirror.specs.declared.mirror.Fed.{Fed}
use Rattle.muck_mirror.specs.declared.mirror.Fed.TheVariants.{Applied, Known, Early, Full, Strange}
use Rattle.muck_mirror.specs.Mirrors.{Mirror, mirror_made, fed}
use Rattle.muck_mirror.specs.Fronts.{Call}
use Rattle.muck_mirror.specs.Looks.{looked_at, examined_at}
use Rattle.muck_bodies.specs.Bodies.{bodies_of, body_numbered, first_number}
use Rattle.muck_follow.specs.declared.act.Act.{Act}
use Rattle.muck_follow.specs.declared.act.Act.TheVariants.{Nothing, Feed, Look, Examine}

abbrev pub line : List ℕ → List ℕ
line text = text ++ 10 ∷ []

-- the reply to a body that was fed
abbrev pub fed_text : Fed → List ℕ
fed_text (Applied upto) = line (codes "applied " ++ decimal upto)
fed_text Known = line (codes "known")
fed_text Early = line (codes "early")
fed_text Full = line (codes "full")
fed_text (Strange at) = line (codes "strange " ++ decimal at)

abbrev pub body_reply : Option (List ℕ) → Mirror → List ℕ
body_reply None m = line (codes "no batch")
body_reply (Some bytes) m = fed_text (fed m bytes).0

abbrev pub body_left : Option (List ℕ) → Mirror → Mirror
body_left None m = m
body_left (Some bytes) m = (fed m bytes).1

-- the lines that are seen of an object, or that it isn't there
abbrev pub lines_text : List (List ℕ) → List ℕ
lines_text lines = flat_map line lines

abbrev pub seen_text : Option (List (List ℕ)) → List ℕ
seen_text None = line (codes "no object")
seen_text (Some lines) = lines_text lines

-- the reply to a line of a script, by the bodies of the store and the mirror as it stands
abbrev pub reply_of : Act → List (List ℕ) → Mirror → List ℕ
reply_of Nothing bodies m = []
reply_of (Feed k) bodies m = body_reply (body_numbered k bodies) m
reply_of (Look d) bodies m = seen_text (looked_at m d)
reply_of (Examine d) bodies m = seen_text (examined_at m d)

-- the mirror behind that line, which looking leaves as it is
abbrev pub mirror_after_act : Act → List (List ℕ) → Mirror → Mirror
mirror_after_act Nothing bodies m = m
mirror_after_act (Feed k) bodies m = body_left (body_numbered k bodies) m
mirror_after_act (Look d) bodies m = m
mirror_after_act (Examine d) bodies m = m

-- the replies to all lines
unfoldable pub replies : List Act → List (List ℕ) → Mirror → List ℕ
replies [] bodies m = []
replies (act ∷ acts) bodies m = reply_of act bodies m ++ replies acts bodies (mirror_after_act act bodies m)

-- the mirror behind all of them
unfoldable pub left_after : List Act → List (List ℕ) → Mirror → Mirror
left_after [] bodies m = m
left_after (act ∷ acts) bodies m = left_after acts bodies (mirror_after_act act bodies m)

-- the mirror of a store, of which this file counts
abbrev pub store_mirror : Chosen → List ℕ → Mirror
store_mirror s file = mirror_made s.held.generation (first_number (bodies_of file))

-- what is written of a script by which it follows that store
abbrev pub script_replies : List Act → Chosen → List ℕ → List ℕ
script_replies acts s file = replies acts (bodies_of file) (store_mirror s file)

-- the calls of `feed` that a script makes
abbrev pub call_with : Option (List ℕ) → List Call
call_with None = []
call_with (Some bytes) = record { bytes = bytes; refused = false } ∷ []

abbrev pub calls_by : Act → List (List ℕ) → List Call
calls_by Nothing bodies = []
calls_by (Feed k) bodies = call_with (body_numbered k bodies)
calls_by (Look d) bodies = []
calls_by (Examine d) bodies = []

abbrev pub mirror_calls : List Act → List (List ℕ) → List Call
mirror_calls [] bodies = []
mirror_calls (act ∷ acts) bodies = calls_by act bodies ++ mirror_calls acts bodies
