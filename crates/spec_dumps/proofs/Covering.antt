-- A store keeps no more objects than the world has since, of which it is a front.
use Rattle.std.proofs.Common.{◌≡◌, ℕ, ◌≤◌, List, length, take, ap, ◌∙◌, arith}
use Rattle.muck_model.specs.declared.event.Entry.{Entry}
use Rattle.muck_model.specs.declared.note.Note.{Note}
use Rattle.muck_store.proofs.StoredForms.{length_persist}
use Rattle.muck_log.specs.Store.{Chosen}
use Rattle.muck_log.specs.World.{StoredWorld as Kept}
use Rattle.spec_events.specs.World.{World}
use Rattle.spec_events.specs.Histories.{after}
use Rattle.spec_events.proofs.Walked.{no_fewer_front}
use Rattle.spec_dumps.specs.Fronts.{last_cut, at_cut, IsFront}
use Rattle.spec_dumps.proofs.Fronts.{last_cut_front}

pub front_covered : (w : World) (mounted : ℕ) (h : List Entry) (notes : List Note) (n : ℕ) (s : Chosen) → IsFront w mounted h notes n s → length s.held.world.objects ≤ length (at_cut w h).live.objects
front_covered w mounted h notes n s f =
    let front : World = after w (take f.count h) in
    let kept : length s.held.world.objects ≡ length front.live.objects = ap (λ (k : Kept). length k.objects) f.world ∙ length_persist front.live.objects in
    let later : f.count ≤ last_cut h = omega (arith, f.cut, last_cut_front h f.count) in
    let grown : length front.live.objects ≤ length (at_cut w h).live.objects = no_fewer_front w h f.count (last_cut h) later in
    omega (arith, kept, grown)
