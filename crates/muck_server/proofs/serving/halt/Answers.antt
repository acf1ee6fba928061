use Rattle.std.proofs.Common.{◌≡◌, ap, ◌∙◌}
use Rattle.std.specs.Prelude.{if◌then◌else◌}
use Rattle.muck_model.specs.declared.event.Event.TheVariants.{Halt, StopSeen}
use Rattle.spec_events.specs.Steps.{is_lawful}
use Rattle.spec_events.specs.Histories.{History, now, entered, links_noted, by_porter}
use Rattle.spec_talks.specs.Counts.{counts}
use Rattle.muck_server.proofs.Called.{halted_so}
use Rattle.muck_server.proofs.serving.halt.Goals as goal

pub returns : goal.returns
returns g c =
    let sees = c.stopped-sees.result in
    let seen = counts (g.L.Links.told c.args.links.now).sessions in
    let noted : c.note_links.new.self ≡ links_noted (entered c.args.world.now (by_porter Halt)) seen = c.note_links.ensures ∙ ap (λ (h : History). links_noted h seen) c.halt.ensures in
    halted_so seen c.args.world.now c.stopped-sees.new.self sees c.requires
    (c.stopped-sees.ensures.lawful ∙ ap (λ (h : History). is_lawful (now h) (by_porter StopSeen)) noted)
    (c.stopped-sees.ensures.step ∙ ap (λ (h : History). if sees then entered h (by_porter StopSeen) else h) noted)
