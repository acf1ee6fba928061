-- What a player does by a line, or by walking, is licensed.
use Rattle.std.proofs.Common.{ℕ, false, List, sym, subst, None, Result, Ok, Err, OnOk}
use Rattle.muck_model.specs.declared.memory.NoMemory.{NoMemory}
use Rattle.muck_match.specs.declared.exits.ExitHit.{ExitHit}
use Rattle.spec_live.specs.Objects.{Entry}
use Rattle.spec_live.specs.Lives.{Live}
use Rattle.spec_rights.specs.declared.act.Actor.{Actor}
use Rattle.spec_rights.specs.Licence.{Freedom, Licensed, oneself}
use Rattle.spec_rights.proofs.Licences.{Whole, Always, whole_ends, licensed}
use Rattle.spec_commands.specs.declared.outcome.Outcome.{Outcome}
use Rattle.spec_commands.specs.Going.{Play, exit_walked}
use Rattle.spec_commands.specs.Free.{free_play}
use Rattle.spec_commands.specs.Commands.{play_line}
use Rattle.spec_commands.proofs.Gone.{walked_open}
use Rattle.spec_commands.proofs.Gone as gone
use Rattle.spec_commands.proofs.Permitted.{self_free, play_leading}
use Rattle.muck_perm.specs.declared.guard.Guard.{Guard}
use Rattle.muck_perm.specs.inner.Guards.{objects_of, world_of}
use Rattle.cmd_common.specs.inner.Plays.{Plays}

-- what keeps to the licence is licensed where a guard plays it
plays_licensed : (p : Play) (a : Actor) (free : List Entry → Freedom) (old new : Guard) (r : Result Outcome NoMemory) →
    Whole gone.world_of a None free Always p → Plays p old new r → OnOk r (Licensed a (free (objects_of old)) (world_of old) (world_of new))
plays_licensed p a free old new (Ok outcome) e s =
    let P : Live → Type 0 = Licensed a (free (objects_of old)) (world_of old) in
    subst P (sym s.0.0) (licensed gone.world_of a None free p e (world_of old) tt)
plays_licensed p a free old new (Err error) e s = tt

pub walk_licensed : (d : ℕ) (hit : ExitHit) (line : List ℕ) (old new : Guard) (r : Result Outcome NoMemory) →
    Plays (exit_walked d old.actor hit line) old new r → OnOk r (Licensed old.actor (oneself old.actor) (world_of old) (world_of new))
walk_licensed d hit line old new r =
    plays_licensed (exit_walked d old.actor hit line) old.actor (λ es. oneself old.actor) old new r
    (whole_ends gone.world_of old.actor None (λ es. oneself old.actor) Always _ (λ w h. walked_open old.actor (oneself old.actor) d hit line (self_free old.actor)))

pub line_licensed : (d : ℕ) (line : List ℕ) (old new : Guard) (r : Result Outcome NoMemory) →
    Plays (play_line d old.actor line) old new r → OnOk r (Licensed old.actor (free_play old.actor line (objects_of old)) (world_of old) (world_of new))
unfolding free_play
line_licensed d line old new r = plays_licensed (play_line d old.actor line) old.actor (free_play old.actor line) old new r (play_leading old.actor None false d line).licence
