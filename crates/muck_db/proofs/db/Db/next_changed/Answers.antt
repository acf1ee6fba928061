use Rattle.std.proofs.Common.{sym, ◌∙◌, arith, ap, subst, List, Option, Some, None, ◌≡◌}
use Rattle.spec_live.specs.declared.mark.Changed.{Changed}
use Rattle.spec_live.specs.Objects.{Entry}
use Rattle.spec_live.specs.Marks.{next_change, change_told}
use Rattle.muck_db.specs.inner.Slots.{entries_of}
use Rattle.muck_db.proofs.Readers.{length-entries_of}
use Rattle.muck_db.proofs.Tellings.{next_none, next_some, told_none, entries_told, kept_told}
use Rattle.muck_db.proofs.Tying.{ties_told}
use Rattle.muck_db.proofs.db.Db.next_changed.Goals as goal

pub marked-requires-clause-few : goal.marked-requires-clause-few
marked-requires-clause-few c = omega (arith, length-entries_of c.self.inside.slots.items, c.self.invariant.kept.sound.world.ordered.few)

pub overflow_cast-self : goal.overflow_cast-self
overflow_cast-self c = omega (arith, c.len.ensures, length-entries_of c.self.inside.slots.items, c.self.invariant.kept.sound.world.ordered.few)

pub returns-in_default-clause-told : goal.returns-in_default-clause-told
returns-in_default-clause-told c =
    let P : List Entry → Type 0 = λ z. ◌≡◌ {A = Option Changed} None (next_change z) in
    subst P c.self.view_is (sym (next_none _ (sym c.marked.ensures.is ∙ c.in_default.is)))

pub returns-in_default-clause-left : goal.returns-in_default-clause-left
returns-in_default-clause-left c =
    let P : List Entry → Type 0 = λ z. entries_of c.self.inside.slots.items ≡ change_told z in
    subst P c.self.view_is (sym (told_none _ (sym c.marked.ensures.is ∙ c.in_default.is)))

pub overflow_add-self : goal.overflow_add-self
overflow_add-self c = omega (arith, c.in-Some.ensures.known, length-entries_of c.self.inside.slots.items, c.self.invariant.kept.sound.world.ordered.few)

pub told_of-requires : goal.told_of-requires
told_of-requires c = omega (arith, c.in-Some.ensures.known, length-entries_of c.self.inside.slots.items, c.self.invariant.kept.sound.world.ordered.few)

pub invariant_of-self-2 : goal.invariant_of-self-2
invariant_of-self-2 c = record {
  kept = kept_told _ _ c.in-Some.n _ _ _ c.in-Some.mark (sym c.marked.ensures.is ∙ c.in-Some.is) c.in-Some.ensures.below c.clear_mark.ensures c.self.invariant.kept;
  tied = ties_told c.in-Some.n None _ _ _ c.clear_mark.ensures c.self.invariant.tied;
}

pub returns-clause-told : goal.returns-clause-told
returns-clause-told c =
    let P : List Entry → Type 0 = λ z. ◌≡◌ {A = Option Changed} (Some c.told_of.result) (next_change z) in
    subst P c.self.view_is (ap (λ z. Some z) c.told_of.ensures ∙ sym (next_some _ c.in-Some.n c.in-Some.mark (sym c.marked.ensures.is ∙ c.in-Some.is)))

pub returns-clause-left : goal.returns-clause-left
returns-clause-left c =
    let P : List Entry → Type 0 = λ z. entries_of c.clear_mark.new.slots.items ≡ change_told z in
    subst P c.self.view_is (entries_told _ _ c.in-Some.n c.in-Some.mark (sym c.marked.ensures.is ∙ c.in-Some.is) c.clear_mark.ensures)
