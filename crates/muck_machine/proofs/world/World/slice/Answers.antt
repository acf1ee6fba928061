use Rattle.std.proofs.Common.{◌≡◌, refl, subst, sym, ◌∙◌, ap, true, false, to_z, of_z, w32, rules}
use Rattle.std.proofs.lemmas.Bool.{cond-true, cond-false}
use Rattle.muck_model.specs.declared.event.Event.TheVariants.{Slice, Lost}
use Rattle.spec_events.specs.Steps.{is_lawful, is_process_there}
use Rattle.spec_events.specs.Histories.{now, EntryLicensed}
use Rattle.spec_events.proofs.Claims.{slice_lawful, lost_lawful}
use Rattle.muck_turns.specs.contracts.state.State as state
use Rattle.muck_machine.specs.inner.Keeping.{history}
use Rattle.muck_machine.proofs.Keepings.{keeps_entered, keeps_concluded, told_seen, still_seen}
use Rattle.muck_machine.proofs.Taken.{lost_so}
use Rattle.muck_machine.proofs.Licences.{told_licensed}
use Rattle.muck_machine.proofs.world.World.slice.Goals as goal

pub invariant_of-self : goal.invariant_of-self
invariant_of-self c =
    let back : to_z w32 (of_z w32 c.args.pid) ≡ c.args.pid = search rules in
    let there : is_process_there c.args.pid (now c.args.self.now) ≡ false = ap (λ n. is_process_there n (now c.args.self.now)) (sym back) ∙ sym (c.has_process.ensures c.requires.alive) ∙ c.if-not-has_process.true in
    let may = ap (λ pid. is_lawful (now c.args.self.now) (record { party = c.args.party; event = Lost pid })) back ∙ lost_lawful (now c.args.self.now) c.args.party c.args.pid c.requires.alive c.requires.claim there in
    keeps_entered c.self.inside.past _ _ _ _ _ c.self.invariant c.self.view_is may refl c.enter.ensures
    (lost_so (to_z w32 (of_z w32 c.args.pid)) c.args.party (state.the_view c.state.inside) _ _ c.release.ensures c.state.view_is)

pub returns-then-not-has_process-clause-ran : goal.returns-then-not-has_process-clause-ran
returns-then-not-has_process-clause-ran c =
    let back : to_z w32 (of_z w32 c.args.pid) ≡ c.args.pid = search rules in
    let there : is_process_there c.args.pid (now c.args.self.now) ≡ false = ap (λ n. is_process_there n (now c.args.self.now)) (sym back) ∙ sym (c.has_process.ensures c.requires.alive) ∙ c.if-not-has_process.true in
    sym (cond-false _ _ _ there)

pub slice-done-requires-clause-still : goal.slice-done-requires-clause-still
slice-done-requires-clause-still c = still_seen c.self.inside.past _ _ c.self.invariant c.self.view_is c.requires.alive

pub slice-done-requires-clause-told : goal.slice-done-requires-clause-told
slice-done-requires-clause-told c = told_seen c.self.inside.past _ _ c.self.invariant c.self.view_is c.requires.alive

pub invariant_of-self-2 : goal.invariant_of-self-2
invariant_of-self-2 c =
    let back : to_z w32 (of_z w32 c.args.pid) ≡ c.args.pid = search rules in
    let there : is_process_there c.args.pid (now c.args.self.now) ≡ true = ap (λ n. is_process_there n (now c.args.self.now)) (sym back) ∙ sym (c.has_process.ensures c.requires.alive) ∙ c.if-not-has_process.false in
    let may = ap (λ pid. is_lawful (now c.args.self.now) (record { party = c.args.party; event = Slice pid })) back ∙ slice_lawful (now c.args.self.now) c.args.party c.args.pid c.requires.alive c.requires.claim there in
    keeps_concluded c.self.inside.past _ _ _ _ _ c.slice-done.result c.conclude.result c.self.invariant c.self.view_is may refl c.slice-done.ensures c.conclude.ensures.same c.conclude.ensures.past

pub invariant_of-self-in_err-conclude : goal.invariant_of-self-in_err-conclude
invariant_of-self-in_err-conclude c =
    let back : to_z w32 (of_z w32 c.args.pid) ≡ c.args.pid = search rules in
    let there : is_process_there c.args.pid (now c.args.self.now) ≡ true = ap (λ n. is_process_there n (now c.args.self.now)) (sym back) ∙ sym (c.has_process.ensures c.requires.alive) ∙ c.if-not-has_process.false in
    let may = ap (λ pid. is_lawful (now c.args.self.now) (record { party = c.args.party; event = Slice pid })) back ∙ slice_lawful (now c.args.self.now) c.args.party c.args.pid c.requires.alive c.requires.claim there in
    keeps_concluded c.self.inside.past _ _ _ _ _ c.slice-done.result c.conclude.result c.self.invariant c.self.view_is may refl c.slice-done.ensures c.conclude.ensures.same c.conclude.ensures.past

pub returns-clause-ran : goal.returns-clause-ran
returns-clause-ran c =
    let back : to_z w32 (of_z w32 c.args.pid) ≡ c.args.pid = search rules in
    let there : is_process_there c.args.pid (now c.args.self.now) ≡ true = ap (λ n. is_process_there n (now c.args.self.now)) (sym back) ∙ sym (c.has_process.ensures c.requires.alive) ∙ c.if-not-has_process.false in
    sym (cond-true _ _ _ there)

pub returns-then-not-has_process-clause-licensed : goal.returns-then-not-has_process-clause-licensed
returns-then-not-has_process-clause-licensed c =
    let back : to_z w32 (of_z w32 c.args.pid) ≡ c.args.pid = search rules in
    subst (λ pid. EntryLicensed (record { party = c.args.party; event = Lost pid }) (now c.args.self.now) (now (history c.enter.new.self))) back
    (told_licensed c.self.inside.past c.enter.new.self _ _ _ c.self.invariant c.self.view_is c.enter.ensures)

pub returns-clause-licensed : goal.returns-clause-licensed
returns-clause-licensed c =
    let back : to_z w32 (of_z w32 c.args.pid) ≡ c.args.pid = search rules in
    subst (λ pid. EntryLicensed (record { party = c.args.party; event = Slice pid }) (now c.args.self.now) (now (history c.conclude.new.self))) back
    (told_licensed c.self.inside.past c.conclude.new.self _ _ _ c.self.invariant c.self.view_is c.in_ok-conclude.ensures.past)

pub returns-clause-whole : goal.returns-clause-whole
returns-clause-whole c = λ ran. (returns-clause-licensed c).0.whole
