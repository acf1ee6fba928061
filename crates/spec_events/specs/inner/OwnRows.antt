-- Worked own entries, which the checker computes.
use Rattle.std.specs.Prelude.{◌≡◌, true, false, pos, [], ◌∷◌, codes, refl, is_some}
use Rattle.muck_model.specs.declared.event.Event.TheVariants.{Opened, Input, Closed, Moment, Exec, Claim, Slice, Lost, Idle, Take, Cut, Stored, DumpFailed, Halt, StopSeen, Died}
use Rattle.spec_events.specs.World.{world_booted, starting_world}
use Rattle.spec_events.specs.Steps.{is_lawful, effect}
use Rattle.spec_events.specs.Histories.{by_porter}
use Rattle.spec_events.specs.Own.{stage_of, IsWellFormed, is_over, IsPartyOver}

unfoldable pub OwnRows : Type 0
OwnRows =
    -- the porter idles at once behind a moment, and makes the last dump behind the stop
    IsWellFormed 0 (Opened 1 ∷ Input 1 (codes "WHO") ∷ Moment 1 ∷ Exec 1 ∷ Take 1 5 ∷ Moment 1 ∷ Idle ∷ Closed 1 ∷ Halt ∷ StopSeen ∷ Cut 1 ∷ Stored 1 ∷ [])
    × IsWellFormed 0 (Claim (pos 1) ∷ Slice (pos 1) ∷ Claim (pos 2) ∷ Lost (pos 2) ∷ [])
    × (is_some (stage_of 0 (Moment 1 ∷ Exec 1 ∷ Idle ∷ [])) ≡ false)
    × (is_some (stage_of 0 (Cut 1 ∷ [])) ≡ false)
    × (is_some (stage_of 0 (StopSeen ∷ Opened 1 ∷ [])) ≡ false)
    × (is_some (stage_of 0 (StopSeen ∷ Cut 1 ∷ DumpFailed 1 ∷ Cut 2 ∷ [])) ≡ false)
    -- a worker does lines and slices what it claimed at once
    × IsWellFormed 3 (Exec 1 ∷ Claim (pos 1) ∷ Slice (pos 1) ∷ Idle ∷ Claim (pos 2) ∷ Lost (pos 2) ∷ StopSeen ∷ [])
    × (is_some (stage_of 3 (Claim (pos 1) ∷ Idle ∷ [])) ≡ false)
    × (is_some (stage_of 3 (Claim (pos 1) ∷ Slice (pos 2) ∷ [])) ≡ false)
    × (is_some (stage_of 3 (StopSeen ∷ Idle ∷ [])) ≡ false)
    × (is_some (stage_of 3 (Moment 1 ∷ [])) ≡ false)
    -- the dumper ends each dump at once
    × IsWellFormed 9 (Idle ∷ Cut 1 ∷ Stored 1 ∷ Cut 2 ∷ DumpFailed 2 ∷ Idle ∷ StopSeen ∷ [])
    × (is_some (stage_of 9 (Cut 1 ∷ Idle ∷ [])) ≡ false)
    × (is_some (stage_of 9 (Cut 1 ∷ Stored 2 ∷ [])) ≡ false)
    × (is_some (stage_of 9 (StopSeen ∷ Cut 1 ∷ [])) ≡ false)
    × (is_some (stage_of 9 (Exec 1 ∷ [])) ≡ false)
    -- memory may be wanted anywhere, and nothing follows; and nobody else does anything
    × IsWellFormed 3 (Claim (pos 1) ∷ Died ∷ [])
    × IsWellFormed 9 (Cut 1 ∷ Died ∷ [])
    × IsWellFormed 0 (StopSeen ∷ Died ∷ [])
    × (is_some (stage_of 3 (Died ∷ Died ∷ [])) ≡ false)
    × (is_some (stage_of 3 (Died ∷ Idle ∷ [])) ≡ false)
    × (is_some (stage_of 10 (Idle ∷ [])) ≡ false)
    -- over is what ends with the stop, with what became of the last dump, or with Died; and no open claim or dump is
    × IsPartyOver 0 (Halt ∷ StopSeen ∷ Cut 1 ∷ DumpFailed 1 ∷ [])
    × IsPartyOver 3 (Claim (pos 1) ∷ Died ∷ [])
    × IsPartyOver 9 (Idle ∷ StopSeen ∷ [])
    × (is_over 3 (Claim (pos 1) ∷ []) ≡ false)
    × (is_over 3 (Claim (pos 1) ∷ Slice (pos 1) ∷ []) ≡ false)
    × (is_over 9 (Cut 1 ∷ []) ≡ false)
    × (is_over 9 (Cut 1 ∷ Stored 1 ∷ []) ≡ false)
    × (is_over 0 (StopSeen ∷ Cut 1 ∷ []) ≡ false)
    × (is_over 0 (Moment 1 ∷ []) ≡ false)
    -- any party sees the stop once the world is stopping
    × (is_lawful starting_world (record { party = 3; event = StopSeen }) ≡ false)
    × (is_lawful (effect starting_world (by_porter Halt)) (record { party = 3; event = StopSeen }) ≡ true)
    × (is_lawful (effect (effect starting_world (by_porter Halt)) (by_porter Died)) (by_porter StopSeen) ≡ false)

pub own_rows : OwnRows
unfolding OwnRows stage_of world_booted starting_world is_lawful effect
own_rows = (refl, refl, refl, refl, refl, refl, refl, refl, refl, refl, refl, refl, refl, refl, refl, refl, refl, refl, refl, refl, refl, refl, refl, refl, refl, refl, refl, refl, refl, refl, refl, refl, refl, refl)
