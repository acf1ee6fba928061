-- What is to follow a command: its line isn't left to another, and players and builders retune nothing.
use Rattle.std.proofs.Common.{ℕ, List, Option, Some, None, Result, Ok, Err}
use Rattle.muck_match.specs.declared.exits.ExitHit.{ExitHit}
use Rattle.spec_live.specs.declared.fault.DbFault.{DbFault}
use Rattle.spec_live.specs.Lives.{Live, Change, change_followed}
use Rattle.spec_live.proofs.Keeping.{Keeps, keeps_reading, keeps_either, keeps_where}
use Rattle.spec_rights.specs.declared.act.Actor.{Actor}
use Rattle.spec_rights.proofs.Licences.{keeps_asked}
use Rattle.spec_commands.specs.declared.outcome.Outcome.{Outcome}
use Rattle.spec_commands.specs.declared.outcome.Outcome.TheVariants.{Done, NotMine, Retune}
use Rattle.spec_commands.specs.declared.typed.Typed.{Typed}
use Rattle.spec_commands.specs.declared.word.PlayWord.{PlayWord}
use Rattle.spec_commands.specs.declared.word.PlayWord.TheVariants.{Go}
use Rattle.spec_commands.specs.declared.word.BuildWord.{BuildWord}
use Rattle.spec_commands.specs.declared.word.BuildWord.TheVariants.{Program}
use Rattle.spec_commands.specs.declared.shape.Arguments.{Arguments}
use Rattle.spec_commands.specs.Going.{Play, ended, led, tried, exit_walked, walked_some, player_went}
use Rattle.spec_commands.specs.Programming.{program_put, program_at, program_new, program_made, program_edited, program_listed, program_run}
use Rattle.spec_commands.specs.Commands.{play_done, build_done}

-- it is done, or something is to follow of which P is so
abbrev pub After : (Outcome → Type 0) → Outcome → Type 0
After P Done = Unit {0}
After P NotMine = ⊥
After P outcome = P outcome

abbrev pub Follows : (Live → Outcome → Type 0) → Play → Type 0
Follows P f = Keeps (λ (w : Live) (y : Live × Outcome). After (P w) y.1) f

-- whatever the world is
abbrev pub Untuned : Live → Outcome → Type 0
Untuned w (Retune tune) = ⊥
Untuned w outcome = Unit {0}

abbrev pub Plain : Play → Type 0
Plain f = Follows Untuned f

plain_ended : (outcome : Outcome) (f : Change) → ((w : Live) → After (Untuned w) outcome) → Plain (ended outcome f)
unfolding ended
plain_ended outcome f h = record { law = h }

plain_done : (f : Change) → Plain (ended Done f)
plain_done f = plain_ended Done f (λ w. tt)

plain_followed : (f : Change) (g : Play) → Plain g → Plain (change_followed f g)
unfolding change_followed
plain_followed f g p = record { law = λ w. p.law (f w) }

ruleset plain = (plain_done, plain_ended, plain_followed, keeps_asked, keeps_reading, keeps_either, keeps_where)

-- Going.

pub plain_walked : (d : ℕ) (a : Actor) (hit : ExitHit) (line : List ℕ) → Plain (exit_walked d a hit line)
unfolding exit_walked tried led
plain_walked d a hit line = search plain depth 9

plain_some : (d : ℕ) (a : Actor) (line : List ℕ) (hit : Option ExitHit) → Plain (walked_some d a line hit)
plain_some d a line None = plain_done _
plain_some d a line (Some hit) = plain_walked d a hit line

pub plain_play : (d : ℕ) (a : Actor) (typed : Typed) (command : PlayWord) (args : Arguments) → Plain (play_done d a typed command args)
unfolding play_done player_went
plain_play d a typed Go args = search (plain, plain_some)
plain_play d a typed command args = search plain

-- Building.

plain_at : (d : ℕ) (a : Actor) (name : List ℕ) (level : ℕ) (check : Result (ℕ × ℕ) DbFault) → Plain (program_at d a name level check)
unfolding program_put
plain_at d a name level (Ok p) = search plain
plain_at d a name level (Err fault) = search plain

pub plain_build : (d : ℕ) (a : Actor) (line : List ℕ) (command : BuildWord) (args : Arguments) → Plain (build_done d a line command args)
unfolding build_done program_made program_new program_edited program_listed program_run
plain_build d a line Program args = search (plain, plain_at)
plain_build d a line command args = search plain
