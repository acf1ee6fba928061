-- What a line of a builder does is open to it.
use Rattle.std.proofs.Common.{ℕ, List, Option, Some, None, Result, Ok, Err, sym, subst}
use Rattle.std.specs.Prelude.{OnOk}
use Rattle.muck_model.specs.declared.memory.NoMemory.{NoMemory}
use Rattle.spec_live.specs.Lives.{Live, unchanged}
use Rattle.spec_rights.specs.declared.act.Actor.{Actor}
use Rattle.spec_rights.specs.Licence.{Licensed, clearing, nobody}
use Rattle.spec_rights.proofs.Licences.{Whole, Always, whole_quiet, quiet_unchanged}
use Rattle.spec_commands.specs.declared.outcome.Outcome.{Outcome}
use Rattle.spec_commands.specs.declared.outcome.Outcome.TheVariants.{NotMine}
use Rattle.spec_commands.specs.declared.word.BuildWord.{BuildWord}
use Rattle.spec_commands.specs.Texts.{first_word, trimmed}
use Rattle.spec_commands.specs.Free.{clears_word, clears}
use Rattle.spec_commands.specs.Reading.{looked_up, with_command_word, by_table}
use Rattle.spec_commands.specs.Commands.{build_words, build_shape, build_done, build_line}
use Rattle.spec_commands.proofs.Gone.{world_of as left, whole_ended}
use Rattle.spec_commands.proofs.Lawful.{lawful_with}
use Rattle.spec_commands.proofs.Permitted.{build_lawful}
use Rattle.muck_perm.specs.declared.guard.Guard.{Guard}
use Rattle.muck_perm.specs.inner.Guards.{world_of}
use Rattle.cmd_common.specs.inner.Plays.{Plays}

-- whatever the table has for its first word
word_open : (a : Actor) (d : ℕ) (line word text : List ℕ) (found : Option BuildWord) → Whole left a None (λ es. clearing (clears_word found) nobody) Always (with_command_word build_shape (build_done d a line) d a word text found)
word_open a d line word text None = whole_ended a None _ Always NotMine unchanged (whole_quiet a None _ Always unchanged quiet_unchanged)
word_open a d line word text (Some command) = (lawful_with a None (λ es. clearing (clears_word (Some command)) nobody) d word (build_shape command) text (build_done d a line command) (build_lawful a None (λ es. nobody) d line command)).licence

line_open : (a : Actor) (d : ℕ) (line : List ℕ) → Whole left a None (λ es. clearing (clears line) nobody) Always (build_line d a line)
unfolding build_line by_table clears
line_open a d line = word_open a d line _ _ (looked_up build_words (first_word (trimmed line)))

pub plays_open : (d : ℕ) (line : List ℕ) (old new : Guard) (result : Result Outcome NoMemory) → Plays (build_line d old.actor line) old new result →
    OnOk result (Licensed old.actor (clearing (clears line) nobody) (world_of old) (world_of new))
plays_open d line old new (Ok outcome) p =
    let P : Live → Type 0 = λ w. Licensed old.actor (clearing (clears line) nobody) (world_of old) w in
    subst P (sym p.0.0) (((line_open old.actor d line).law (world_of old)).law tt tt).licensed
plays_open d line old new (Err e) p = tt
