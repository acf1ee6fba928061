-- A party idles where there is nothing for it to do.
use Rattle.std.proofs.Common.{◌≡◌, ℕ, ◌<◌, true, false, not, ◌&&◌, ◌||◌, ◌==◌, cond, sym, ◌∙◌, ap, None}
use Rattle.std.specs.Prelude.{find}
use Rattle.std.specs.List.{list_any}
use Rattle.std.specs.Option.{option_map}
use Rattle.std.proofs.lemmas.Bool.{cond-false, lt-ltb}
use Rattle.muck_laws.proofs.Mapped.{reduced_none}
use Rattle.muck_laws.proofs.Options.{mapped_none}
use Rattle.muck_laws.proofs.Tests.{found_none, none_passes_idling}
use Rattle.muck_laws.proofs.Truths.{none_going}
use Rattle.muck_model.specs.declared.event.Event.TheVariants.{Idle}
use Rattle.spec_live.specs.Connections.{Connection}
use Rattle.muck_queue.specs.declared.process.Process.{Process}
use Rattle.muck_queue.specs.Queues.{is_process_due, earlier, earliest, next_due}
use Rattle.spec_events.specs.World.{World}
use Rattle.spec_events.specs.Steps.{has_line_to_do, has_line, has_due, is_dump_due, is_lawful, next_ready, next_process}
use Rattle.muck_work.specs.inner.Jobs.{by}

-- where no line is found that may be done
no_line : (w : World) → w.dead ≡ false → next_ready w ≡ None → has_line w ≡ false
unfolding next_ready
no_line w alive none =
    none_going (list_any (has_line_to_do w) w.live.board.connections) w.stopping
    (λ going. found_none (has_line_to_do w) w.live.board.connections (mapped_none (λ (c : Connection). c.number) _ (sym (ap (λ b. cond (b || w.stopping) None (option_map (λ (c : Connection). c.number) (find (has_line_to_do w) w.live.board.connections))) alive
    ∙ ap (λ b. cond b None (option_map (λ (c : Connection). c.number) (find (has_line_to_do w) w.live.board.connections))) going) ∙ none)))

no_due : (w : World) → w.dead ≡ false → next_process w ≡ None → has_due w ≡ false
unfolding next_process next_due
no_due w alive none =
    none_going (list_any (is_process_due w.moment w.queue.claims) w.queue.processes) w.stopping
    (λ going. none_passes_idling (is_process_due w.moment w.queue.claims) w.queue.processes (reduced_none earlier _ (mapped_none (λ (p : Process). p.number) _ (sym (ap (λ b. cond (b || w.stopping) None (option_map (λ (p : Process). p.number) (earliest (is_process_due w.moment w.queue.claims) w.queue.processes))) alive
    ∙ ap (λ b. cond b None (option_map (λ (p : Process). p.number) (earliest (is_process_due w.moment w.queue.claims) w.queue.processes))) going) ∙ none))))

-- the porter and the workers may idle
pub idle_lawful : (w : World) (party : ℕ) → party < 9 → w.dead ≡ false → next_ready w ≡ None → next_process w ≡ None → is_lawful w (by party Idle) ≡ true
unfolding is_lawful
idle_lawful w party few alive line due =
    cond-false _ _ _ alive
    ∙ ap (λ b. cond b (not (has_line w) && not (has_due w)) (party == 9 && not (is_dump_due w))) (lt-ltb party 9 few)
    ∙ ap (λ b. not b && not (has_due w)) (no_line w alive line)
    ∙ ap (λ b. not b) (no_due w alive due)
