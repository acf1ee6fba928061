-- What a writer of the guard does.
use Rattle.std.proofs.Common.{◌≡◌, true, false, Result, Ok, Err, refl, sym, subst}
use Rattle.spec_live.specs.declared.fault.DbFault.{DbFault}
use Rattle.spec_live.specs.declared.fault.DbFault.TheVariants.{NoSuchObject, WouldLoop, WrongKind, WorldFull, NoMemory as WantsMemory}
use Rattle.spec_live.specs.Lives.{Change}
use Rattle.spec_commands.specs.Building.{allowed}
use Rattle.muck_perm.specs.declared.guard.Guard.{Guard}
use Rattle.muck_perm.specs.inner.Guards.{Makes, Tries}
use Rattle.cmd_common.specs.inner.Writes.{IsDone}

refused : (f : Change) (old new : Guard) (fault : DbFault) → new ≡ old → IsDone false f old new (Err fault)
refused f old new NoSuchObject e = (refl, e)
refused f old new WouldLoop e = (refl, e)
refused f old new WrongKind e = (refl, e)
refused f old new WorldFull e = (refl, e)
refused f old new WantsMemory e = e

pub makes_done : {X : Type 0} (f : Change) (check : Result X DbFault) (old new : Guard) (result : Result (Unit {0}) DbFault) → Makes f check old new result → IsDone (allowed check) f old new result
makes_done f (Ok x) old new result h = let P : Result (Unit {0}) DbFault → Type 0 = λ r. IsDone true f old new r in subst P (sym h.0) (refl, h.1)
makes_done f (Err fault) old new result h = let P : Result (Unit {0}) DbFault → Type 0 = λ r. IsDone false f old new r in subst P (sym h.0) (refused f old new fault h.1)

pub tries_done : {X : Type 0} (f : Change) (check : Result X DbFault) (old new : Guard) (result : Result (Unit {0}) DbFault) → Tries f check old new result → IsDone (allowed check) f old new result
tries_done f (Ok x) old new (Ok u) h = (refl, h)
tries_done f (Ok x) old new (Err fault) h = let P : DbFault → Type 0 = λ z. IsDone true f old new (Err z) in subst P (sym h.0) h.1
tries_done f (Err fault) old new (Ok u) h = absurd h
tries_done f (Err fault) old new (Err found) h = refused f old new found h.1
