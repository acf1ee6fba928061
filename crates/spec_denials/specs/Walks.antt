-- The locks on which lines hang: a line that walks through an exit, or takes something.
use Rattle.std.specs.Prelude.{◌≡◌, ℕ, if◌then◌else◌, List, map, option_map, Option, Some, None}
use Rattle.std.specs.Option.{option_or, option_and_then}
use Rattle.muck_model.specs.declared.dbref.Dbref.{Dbref}
use Rattle.muck_model.specs.declared.dbref.Denial.{Denial}
use Rattle.muck_match.specs.declared.naming.Found.{Found}
use Rattle.muck_match.specs.declared.naming.Found.TheVariants.{One}
use Rattle.muck_match.specs.Exits.{exit_for}
use Rattle.muck_match.specs.Naming.{thing_found}
use Rattle.spec_live.specs.Objects.{Entry}
use Rattle.spec_live.specs.Seen.{scenery_of}
use Rattle.spec_rights.specs.declared.act.Actor.{Actor}
use Rattle.spec_rights.specs.declared.act.Act.{Act}
use Rattle.spec_rights.specs.declared.act.Act.TheVariants.{Walk, Take}
use Rattle.spec_rights.specs.Verdict.{verdict}
use Rattle.spec_commands.specs.declared.word.PlayWord.{PlayWord}
use Rattle.spec_commands.specs.declared.word.PlayWord.TheVariants.{Go, Get}
use Rattle.spec_commands.specs.Commands.{play_words, begins_with_sign}
use Rattle.spec_commands.specs.Finding.{actor_of}
use Rattle.spec_commands.specs.Reading.{looked_up}
use Rattle.spec_commands.specs.Texts.{first_word, other_words, trimmed}
use Rattle.spec_events.specs.World.{World}
use Rattle.spec_denials.specs.Commands.{OfLine}

-- to walk through the exit that takes a text
abbrev pub walk_by : Actor → List ℕ → List Entry → Option Act
walk_by a text es = option_map (λ hit. Walk hit.exit) (exit_for (scenery_of es) a.player text)

abbrev pub take_of : Found → Option Act
take_of (One x) = Some (Take x)
take_of found = None

-- `go` walks, and `get` takes what the player means
abbrev pub word_act : Option PlayWord → Actor → List ℕ → List Entry → Option Act
word_act (Some Go) a text es = walk_by a text es
word_act (Some Get) a text es = take_of (thing_found (scenery_of es) a.player text)
word_act word a text es = None

-- A line walks where an exit takes it, or by its word. One that begins with a sign is spoken.
abbrev pub lock_act : Actor → List ℕ → List Entry → Option Act
lock_act a line es =
    if begins_with_sign line then None
    else option_or (walk_by a line es) (word_act (looked_up play_words (first_word (trimmed line))) a (trimmed (other_words (trimmed line))) es)

-- whether that is denied
abbrev pub lock_verdict : Actor → List ℕ → List Entry → Option Denial
lock_verdict a line es = option_and_then (verdict es a) (lock_act a line es)

-- where each object is
abbrev pub places : List Entry → List Dbref
places es = map (λ e. e.object.place) es

-- Where it is denied, each object stays where it is, and nothing is started.
abbrev pub StaysInPlace : Option Denial → World → World → Type 0
StaysInPlace (Some denial) w v = (places v.live.objects ≡ places w.live.objects) × (v.queue.last ≡ w.queue.last)
StaysInPlace None w v = Unit {0}

abbrev pub CommandStays : Dbref → List ℕ → World → World → Type 0
CommandStays player line w v = StaysInPlace (lock_verdict (actor_of w.live.objects player) line w.live.objects) w v

abbrev pub LineLocked : ℕ → World → World → Type 0
LineLocked d w v = OfLine CommandStays d w v
