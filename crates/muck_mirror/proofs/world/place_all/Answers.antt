use Rattle.std.proofs.Common.{◌∙◌, refl, arith}
use Rattle.std.proofs.lemmas.List.{nil_from_length}
use Rattle.muck_log.proofs.Placing.{next_placed, never_placed, all_are, was_put, not_put, next_stored}
use Rattle.muck_mirror.proofs.world.place_all.Goals as goal

pub loop-object-init : goal.loop-object-init
loop-object-init c = record { placed = refl; stored = λ left objects. (left, objects); back = λ count le. refl; longer = omega arith }

pub returns-then-not-branch-clause-placed : goal.returns-then-not-branch-clause-placed
returns-then-not-branch-clause-placed c =
    never_placed c.loop-object.left.items c.pop.new.self.items c.loop-object.objects.items c.in-Some.object _ c.in-Some.ensures.items
    (not_put c.in_ok-place.field-0 c.in-Some.object c.loop-object.objects.items c.place.new.objects.items c.if-not-branch.true c.in_ok-place.ensures.placed) c.loop-object.invariant.placed

pub loop-object-preserved : goal.loop-object-preserved
loop-object-preserved c = record {
  placed = next_placed c.loop-object.left.items c.pop.new.self.items c.loop-object.objects.items c.place.new.objects.items c.in-Some.object _ c.in-Some.ensures.items
      (was_put c.in_ok-place.field-0 c.in-Some.object c.loop-object.objects.items c.place.new.objects.items c.if-not-branch.false c.in_ok-place.ensures.placed) c.loop-object.invariant.placed;
  stored = λ left objects.
      let so = c.loop-object.invariant.stored left objects in
      let next = next_stored c.loop-object.left.items c.pop.new.self.items c.in-Some.object c.in-Some.ensures.items so.0 in
      (next.1, c.place.ensures.stored next.0 so.1);
  back = λ count le. c.place.ensures.back count (omega (arith, le, c.loop-object.invariant.longer)) ∙ c.loop-object.invariant.back count le;
  longer = omega (arith, c.loop-object.invariant.longer, c.place.ensures.longer);
}

pub returns-clause-placed : goal.returns-clause-placed
returns-clause-placed c = all_are c.loop-object.left.items c.loop-object.objects.items _ (nil_from_length c.loop-object.left.items (omega (arith, c.in_default.ensures.cases))) c.loop-object.invariant.placed

pub returns-then-not-branch-clause-stored : goal.returns-then-not-branch-clause-stored
returns-then-not-branch-clause-stored c = λ left objects.
    let so = c.loop-object.invariant.stored left objects in
    let next = next_stored c.loop-object.left.items c.pop.new.self.items c.in-Some.object c.in-Some.ensures.items so.0 in
    c.place.ensures.stored next.0 so.1

pub returns-in_err-place-clause-stored : goal.returns-in_err-place-clause-stored
returns-in_err-place-clause-stored c = λ left objects.
    let so = c.loop-object.invariant.stored left objects in
    let next = next_stored c.loop-object.left.items c.pop.new.self.items c.in-Some.object c.in-Some.ensures.items so.0 in
    c.place.ensures.stored next.0 so.1

pub returns-clause-stored : goal.returns-clause-stored
returns-clause-stored c = λ left objects. (c.loop-object.invariant.stored left objects).1

pub returns-then-not-branch-clause-back : goal.returns-then-not-branch-clause-back
returns-then-not-branch-clause-back c = λ count le. c.place.ensures.back count (omega (arith, le, c.loop-object.invariant.longer)) ∙ c.loop-object.invariant.back count le

pub returns-in_err-place-clause-back : goal.returns-in_err-place-clause-back
returns-in_err-place-clause-back c = λ count le. c.place.ensures.back count (omega (arith, le, c.loop-object.invariant.longer)) ∙ c.loop-object.invariant.back count le

pub returns-clause-back : goal.returns-clause-back
returns-clause-back c = λ count le. c.loop-object.invariant.back count le
