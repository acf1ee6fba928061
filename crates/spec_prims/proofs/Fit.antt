-- When there is room for what a row gives.
use Rattle.std.proofs.Common.{◌≡◌, ◌≤◌, ◌⊎◌, List, length, Option, Some, None}
use Rattle.spec_live.specs.Lives.{Live}
use Rattle.spec_rights.specs.declared.act.Actor.{Actor}
use Rattle.muf_model.specs.Datum.{Datum}
use Rattle.spec_prims.specs.Row.{WorldAnswer, gives, refuses, breaks, WorldDoing}

-- it gives at most as many, or changes nothing
abbrev pub Fits : List Datum → Live → WorldAnswer → Type 0
Fits taken w (gives items v) = (length items ≤ length taken) ⊎ (v ≡ w)
Fits taken w (refuses f) = Unit {0}
Fits taken w (breaks f v) = Unit {0}

abbrev pub IsFit : Option WorldDoing → Type 0
IsFit None = Unit {0}
IsFit (Some doing) = (a : Actor) (items : List Datum) (w : Live) → Fits items w (doing.does a items w)
