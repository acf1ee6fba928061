-- When two hosts are one, whatever world they have.
use Rattle.std.specs.Prelude.{◌≡◌}
use Rattle.muck_perm.specs.inner.Guards.{Same}
use Rattle.muck_mpi.specs.declared.speaker.Speaker.{Speaker}

-- the same guard, which lends the same places
abbrev pub SameHost : Speaker → Speaker → Type 0
SameHost old new = (new.guard.ghost_name ≡ old.guard.ghost_name) × Same old.guard.now new.guard.now
