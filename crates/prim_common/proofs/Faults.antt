-- The first fault of two tests.
use Rattle.std.proofs.Common.{◌≡◌, Option, Some, None, Ok, Err, refl}
use Rattle.std.specs.Option.{option_or}
use Rattle.muf_model.specs.declared.fault.MufFault.{MufFault}
use Rattle.prim_common.specs.inner.Tests.{Passes}

pub fails : (X Y : Type 0) (o r : Option MufFault) (e : MufFault) → Passes {X = X} o (Err e) → Passes {X = Y} (option_or o r) (Err e)
fails X Y None r e h = absurd h
fails X Y (Some f) r e h = h

pub passes : (o r : Option MufFault) → Passes {X = Unit {0}} o (Ok tt) → option_or o r ≡ r
passes None r h = refl
passes (Some f) r h = absurd h

pub or_assoc : (a b c : Option MufFault) → option_or a (option_or b c) ≡ option_or (option_or a b) c
or_assoc None b c = refl
or_assoc (Some f) b c = refl
