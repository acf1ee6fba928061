use Rattle.turn_lock.proofs.turn.Turn.split.Given as goal

abbrev pub ghosts-split_as : goal.ghosts-split_as
ghosts-split_as g a = record { party = a._party }
