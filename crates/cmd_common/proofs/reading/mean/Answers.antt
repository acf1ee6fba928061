use Rattle.cmd_common.proofs.reading.mean.Goals as goal

pub returns-in-Player-clause-means : goal.returns-in-Player-clause-means
returns-in-Player-clause-means c = rw c.in-Player.is c.seek_player.ensures

pub returns-in-Found-clause-means : goal.returns-in-Found-clause-means
returns-in-Found-clause-means c = rw c.in-Found.is c.seek.ensures

pub returns-in-Object-clause-means : goal.returns-in-Object-clause-means
returns-in-Object-clause-means c = rw c.in-Object.is c.seek-in-Object.ensures

pub returns-in-Program-clause-means : goal.returns-in-Program-clause-means
returns-in-Program-clause-means c = rw c.in-Program.is c.seek-in-Program.ensures
