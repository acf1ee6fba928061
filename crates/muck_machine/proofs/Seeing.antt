-- What is seen of the slice of a world.
use Rattle.std.proofs.Common.{◌≡◌, false, List, Option, Some, None, map, refl, sym, ◌∙◌, ap, subst}
use Rattle.std.specs.Prelude.{ℤ, is_some}
use Rattle.std.specs.Option.{option_map, option_and_then}
use Rattle.muck_queue.specs.declared.process.Process.{Process}
use Rattle.muck_queue.specs.Queues.{process, woken}
use Rattle.muck_queue.proofs.Changed.{process_changed}
use Rattle.muck_queue.proofs.Woken.{woken_number}
use Rattle.muf_debug.specs.declared.view.View.{View}
use Rattle.muf_debug.specs.Watching.{SeesAll}
use Rattle.spec_events.specs.World.{World}
use Rattle.spec_events.specs.Histories.{History, now}
use Rattle.spec_events.specs.Slices.{Taken, seat, seat_of, slice_most, process_awake}
use Rattle.spec_events.specs.Steps.{is_process_there}
use Rattle.muck_turns.specs.Views.{view_of, views_of}
use Rattle.muck_turns.proofs.Seeing.{none_there}
use Rattle.muck_machine.specs.declared.past.Past.{Past}
use Rattle.muck_machine.specs.inner.Keeping.{history, Keeps}

-- a world that lives is the state that is kept
pub is_now : (p : Past) (state : World) (h : History) → Keeps p state → history p ≡ h → (now h).dead ≡ false → state ≡ now h
unfolding now
is_now p state h k is alive = k.lives (sym k.dies ∙ ap (λ (x : History). (now x).dead) is ∙ alive) ∙ ap now is

nobody : (o : Option Process) → is_some o ≡ false → o ≡ None
nobody None e = refl
nobody (Some p) e = absurd cc

-- of a process that isn't there nothing is seen
pub nothing_seen : {S : Type 0} (tells : S → View → S → Type 0) (pid : ℤ) (w : World) (a : S) → is_process_there pid w ≡ false → SeesAll tells (views_of pid w) a a
nothing_seen tells pid w a e =
    let empty : seat pid (process_awake pid w) ≡ None =
    ap (option_and_then seat_of) (process_changed pid (woken w.moment) (woken_number w.moment) w.queue ∙ ap (option_map (woken w.moment)) (nobody (process pid w.queue) e)) in
    subst (λ (ts : List Taken). SeesAll tells (map (view_of pid) ts) a a) (sym (none_there w.live.board.tune pid (slice_most w.live.board.tune) (process_awake pid w) empty)) refl

-- what the state's slice showed is what the world's shows
pub seen_now : {S : Type 0} (tells : S → View → S → Type 0) (pid number : ℤ) (p : Past) (state : World) (h : History) (a b : S) → Keeps p state → history p ≡ h → (now h).dead ≡ false → number ≡ pid → SeesAll tells (views_of number state) a b → SeesAll tells (views_of pid (now h)) a b
seen_now tells pid number p state h a b k is alive same all =
    subst (λ w. SeesAll tells (views_of pid w) a b) (is_now p state h k is alive) (subst (λ n. SeesAll tells (views_of n state) a b) same all)
