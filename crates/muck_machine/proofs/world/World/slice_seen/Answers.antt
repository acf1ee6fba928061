use Rattle.std.proofs.Common.{◌≡◌, refl, subst, sym, ◌∙◌, ap, true, false, OnOk, to_z, of_z, w32, rules}
use Rattle.std.proofs.lemmas.Bool.{cond-true}
use Rattle.muck_laws.proofs.Results.{whatever}
use Rattle.muck_model.specs.declared.event.Event.TheVariants.{Slice}
use Rattle.muf_debug.specs.Watching.{SeesAll}
use Rattle.spec_events.specs.Steps.{is_lawful, is_process_there}
use Rattle.spec_events.specs.Histories.{now, EntryLicensed}
use Rattle.spec_events.proofs.Claims.{slice_lawful}
use Rattle.muck_turns.specs.Views.{views_of}
use Rattle.muck_machine.specs.inner.Keeping.{history}
use Rattle.muck_machine.proofs.Keepings.{keeps_concluded, told_seen, still_seen}
use Rattle.muck_machine.proofs.Licences.{told_licensed}
use Rattle.muck_machine.proofs.Seeing.{nothing_seen, seen_now}
use Rattle.muck_machine.proofs.world.World.slice_seen.Goals as goal

pub slice_seen-done-requires-clause-still : goal.slice_seen-done-requires-clause-still
slice_seen-done-requires-clause-still g c = still_seen c.self.inside.past _ _ c.self.invariant c.self.view_is c.requires.alive

pub slice_seen-done-requires-clause-told : goal.slice_seen-done-requires-clause-told
slice_seen-done-requires-clause-told g c = told_seen c.self.inside.past _ _ c.self.invariant c.self.view_is c.requires.alive

pub invariant_of-self : goal.invariant_of-self
invariant_of-self g c =
    let back : to_z w32 (of_z w32 c.args.pid) ≡ c.args.pid = search rules in
    let there : is_process_there c.args.pid (now c.args.self.now) ≡ true = ap (λ n. is_process_there n (now c.args.self.now)) (sym back) ∙ sym (c.has_process.ensures c.requires.alive) ∙ c.if-not-has_process.false in
    let may = ap (λ pid. is_lawful (now c.args.self.now) (record { party = c.args.party; event = Slice pid })) back ∙ slice_lawful (now c.args.self.now) c.args.party c.args.pid c.requires.alive c.requires.claim there in
    keeps_concluded c.self.inside.past _ _ _ _ _ c.slice_seen-done.result c.conclude.result c.self.invariant c.self.view_is may refl c.slice_seen-done.ensures.same c.conclude.ensures.same c.conclude.ensures.past

pub invariant_of-self-2 : goal.invariant_of-self-2
invariant_of-self-2 g c =
    let back : to_z w32 (of_z w32 c.args.pid) ≡ c.args.pid = search rules in
    let there : is_process_there c.args.pid (now c.args.self.now) ≡ true = ap (λ n. is_process_there n (now c.args.self.now)) (sym back) ∙ sym (c.has_process.ensures c.requires.alive) ∙ c.if-not-has_process.false in
    let may = ap (λ pid. is_lawful (now c.args.self.now) (record { party = c.args.party; event = Slice pid })) back ∙ slice_lawful (now c.args.self.now) c.args.party c.args.pid c.requires.alive c.requires.claim there in
    keeps_concluded c.self.inside.past _ _ _ _ _ c.slice_seen-done.result c.conclude.result c.self.invariant c.self.view_is may refl c.slice_seen-done.ensures.same c.conclude.ensures.same c.conclude.ensures.past

pub returns-clause-ran : goal.returns-clause-ran
returns-clause-ran g c =
    let back : to_z w32 (of_z w32 c.args.pid) ≡ c.args.pid = search rules in
    let there : is_process_there c.args.pid (now c.args.self.now) ≡ true = ap (λ n. is_process_there n (now c.args.self.now)) (sym back) ∙ sym (c.has_process.ensures c.requires.alive) ∙ c.if-not-has_process.false in
    sym (cond-true _ _ _ there)

pub returns-clause-licensed : goal.returns-clause-licensed
returns-clause-licensed g c =
    let back : to_z w32 (of_z w32 c.args.pid) ≡ c.args.pid = search rules in
    subst (λ pid. EntryLicensed (record { party = c.args.party; event = Slice pid }) (now c.args.self.now) (now (history c.conclude.new.self))) back
    (told_licensed c.self.inside.past c.conclude.new.self _ _ _ c.self.invariant c.self.view_is c.in_ok-conclude.ensures.past)

pub returns-clause-whole : goal.returns-clause-whole
returns-clause-whole g c = λ ran. (returns-clause-licensed g c).0.whole

pub returns-then-not-has_process-clause-seen : goal.returns-then-not-has_process-clause-seen
returns-then-not-has_process-clause-seen g c =
    let back : to_z w32 (of_z w32 c.args.pid) ≡ c.args.pid = search rules in
    let there : is_process_there c.args.pid (now c.args.self.now) ≡ false = ap (λ n. is_process_there n (now c.args.self.now)) (sym back) ∙ sym (c.has_process.ensures c.requires.alive) ∙ c.if-not-has_process.true in
    whatever c.slice.result (nothing_seen g.W.Watch.tells c.args.pid (now c.args.self.now) c.args.watch.now there)

pub returns-clause-seen : goal.returns-clause-seen
returns-clause-seen g c =
    let back : to_z w32 (of_z w32 c.args.pid) ≡ c.args.pid = search rules in
    seen_now g.W.Watch.tells c.args.pid (to_z w32 (of_z w32 c.args.pid)) c.self.inside.past c.self.inside.state c.args.self.now c.args.watch.now c.slice_seen-done.new.watch c.self.invariant c.self.view_is c.requires.alive back
    (subst (λ r. OnOk r (SeesAll g.W.Watch.tells (views_of (to_z w32 (of_z w32 c.args.pid)) c.self.inside.state) c.args.watch.now c.slice_seen-done.new.watch)) (sym c.conclude.ensures.same ∙ c.in_ok-conclude.was) c.slice_seen-done.ensures.seen)
