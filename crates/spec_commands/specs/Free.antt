-- What a player is free to do by a line.
use Rattle.std.specs.Prelude.{ℕ, Bool, true, false, List, Option, Some, None}
use Rattle.muck_model.specs.declared.dbref.Dbref.{Dbref}
use Rattle.muck_match.specs.declared.exits.ExitHit.{ExitHit}
use Rattle.muck_match.specs.Exits.{exit_for}
use Rattle.spec_live.specs.Objects.{Entry, same}
use Rattle.spec_live.specs.Seen.{scenery_of}
use Rattle.spec_rights.specs.declared.act.Actor.{Actor}
use Rattle.spec_rights.specs.Licence.{Freedom, moving_freely, clearing, oneself, at_hand}
use Rattle.spec_commands.specs.declared.word.PlayWord.{PlayWord}
use Rattle.spec_commands.specs.declared.word.PlayWord.TheVariants.{Go, Get, Drop, Home}
use Rattle.spec_commands.specs.declared.word.BuildWord.{BuildWord}
use Rattle.spec_commands.specs.declared.word.BuildWord.TheVariants.{Unlink}
use Rattle.spec_commands.specs.Texts.{first_word, trimmed}
use Rattle.spec_commands.specs.Reading.{looked_up}
use Rattle.spec_commands.specs.Commands.{play_words, build_words, begins_with_sign}

-- who walks moves itself, and who takes or drops what is at hand
abbrev pub moves_word : Option PlayWord → Actor → List Entry → Dbref → Bool
moves_word (Some Go) a es = same a.player
moves_word (Some Home) a es = same a.player
moves_word (Some Get) a es = at_hand es a
moves_word (Some Drop) a es = at_hand es a
moves_word word a es = λ x. false

abbrev pub moves_by : Bool → Option PlayWord → Actor → List Entry → Dbref → Bool
moves_by true word a es = λ x. false
moves_by false word a es = moves_word word a es

-- by a line of players: by one that begins with a sign nothing, and else what its first word moves
unfoldable pub free_play : Actor → List ℕ → List Entry → Freedom
free_play a line es = moving_freely (moves_by (begins_with_sign line) (looked_up play_words (first_word (trimmed line))) a es)

abbrev pub clears_word : Option BuildWord → Bool
clears_word (Some Unlink) = true
clears_word word = false

-- a line whose word is `@unlink` makes `#0` a home
unfoldable pub clears : List ℕ → Bool
clears line = clears_word (looked_up build_words (first_word (trimmed line)))

-- by a line that no exit takes
abbrev pub free_command : Actor → List ℕ → List Entry → Freedom
free_command a line es = clearing (clears line) (free_play a line es)

abbrev pub free_through : Bool → Option ExitHit → Actor → List ℕ → List Entry → Freedom
free_through true hit a line es = free_command a line es
free_through false None a line es = free_command a line es
free_through false (Some hit) a line es = oneself a

-- by a line that an exit takes, which none does that begins with a sign, the player moves itself
unfoldable pub free_line : Actor → List ℕ → List Entry → Freedom
free_line a line es = free_through (begins_with_sign line) (exit_for (scenery_of es) a.player line) a line es
