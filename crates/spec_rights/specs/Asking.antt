-- Asking for leave.
use Rattle.std.specs.Prelude.{ℕ, List, ◌++◌, codes, decimal, Option, Some, None}
use Rattle.muck_model.specs.declared.dbref.Denial.{Denial}
use Rattle.spec_live.specs.Lives.{Live, Change, tell}
use Rattle.spec_rights.specs.declared.act.Actor.{Actor}
use Rattle.spec_rights.specs.declared.act.Act.{Act}
use Rattle.spec_rights.specs.Verdict.{verdict}

abbrev pub denial_answered : {W Y : Type 0} → Option Denial → (Denial → W → Y) → (W → Y) → W → Y
denial_answered None refuse go = go
denial_answered (Some denial) refuse go = refuse denial

-- go, where the act is allowed; else refuse, by the denial
unfoldable pub asked : {Y : Type 0} → Actor → Act → (Denial → Live → Y) → (Live → Y) → Live → Y
asked a act refuse go w = denial_answered (verdict w.objects a act) refuse go w

-- a denial names its rule
unfoldable pub denied_text : Denial → List ℕ
denied_text denial = codes "Permission denied (P" ++ (decimal denial.rule ++ codes ").")

unfoldable pub refused : ℕ → Denial → Change
refused d denial = tell d (denied_text denial)
