use Rattle.std.proofs.Common.{Ok, Err, subst}
use Rattle.muck_perm.specs.inner.Guards.{Founds}
use Rattle.cmd_admin.proofs.Made.{maker, player_check, made_ready, player_made, player_refused}
use Rattle.cmd_admin.proofs.players.put_player.Goals as goal

pub complete-requires-clause-player : goal.complete-requires-clause-player
complete-requires-clause-player c =
    let a = c.args.guard.now.actor in
    let founds : Founds (player_check a c.args.guard.now) (maker c.args.name a) c.args.guard.now c.create_player.new.self (Ok c.in-Ok.x) =
    subst (λ q. Founds (player_check a c.args.guard.now) (maker c.args.name a) c.args.guard.now c.create_player.new.self q) c.in-Ok.is c.create_player.ensures in
    made_ready c.args.name a c.args.guard.now c.create_player.new.self c.in-Ok.x founds

pub returns-in-Ok : goal.returns-in-Ok
returns-in-Ok c =
    let a = c.args.guard.now.actor in
    let founds : Founds (player_check a c.args.guard.now) (maker c.args.name a) c.args.guard.now c.create_player.new.self (Ok c.in-Ok.x) =
    subst (λ q. Founds (player_check a c.args.guard.now) (maker c.args.name a) c.args.guard.now c.create_player.new.self q) c.in-Ok.is c.create_player.ensures in
    player_made c.args.d a c.args.name c.args.word.now c.args.guard.now c.create_player.new.self c.complete.new.guard c.in-Ok.x c.complete.result founds c.complete.ensures

pub returns-in-Err : goal.returns-in-Err
returns-in-Err c =
    let a = c.args.guard.now.actor in
    let founds : Founds (player_check a c.args.guard.now) (maker c.args.name a) c.args.guard.now c.create_player.new.self (Err c.in-Err.fault) =
    subst (λ q. Founds (player_check a c.args.guard.now) (maker c.args.name a) c.args.guard.now c.create_player.new.self q) c.in-Err.is c.create_player.ensures in
    player_refused c.args.d a c.args.name c.args.word.now c.args.guard.now c.create_player.new.self c.tell_refused.new.guard c.in-Err.fault c.tell_refused.result founds c.tell_refused.ensures
