use Rattle.std.proofs.Common.{sym, ◌∙◌, refl}
use Rattle.muck_match.proofs.Order.{first_of_five}
use Rattle.muck_match.proofs.exits.first_hit.Goals as goal

pub returns-in-Some : goal.returns-in-Some
returns-in-Some g c = sym (first_of_five _ _ _ _ _ c.place_in-place.ensures ∙ rw (sym c.hit_on.ensures ∙ c.in-Some.is) refl)

pub returns-in-Some-hit_on_things : goal.returns-in-Some-hit_on_things
returns-in-Some-hit_on_things g c =
    sym (first_of_five _ _ _ _ _ c.place_in-place.ensures ∙ rw (sym c.hit_on.ensures ∙ c.in_default.is, sym c.hit_on_things.ensures ∙ c.in-Some-hit_on_things.is) refl)

pub returns-in-Some-hit_on_things-2 : goal.returns-in-Some-hit_on_things-2
returns-in-Some-hit_on_things-2 g c =
    sym (first_of_five _ _ _ _ _ c.place_in-place.ensures ∙ rw (sym c.hit_on.ensures ∙ c.in_default.is, sym c.hit_on_things.ensures ∙ c.in_default-hit_on_things.is, sym c.hit_on_things-2.ensures ∙ c.in-Some-hit_on_things-2.is) refl)

pub returns-in-Some-hit_on : goal.returns-in-Some-hit_on
returns-in-Some-hit_on g c =
    sym (first_of_five _ _ _ _ _ c.place_in-place.ensures ∙ rw (sym c.hit_on.ensures ∙ c.in_default.is, sym c.hit_on_things.ensures ∙ c.in_default-hit_on_things.is, sym c.hit_on_things-2.ensures ∙ c.in_default-hit_on_things-2.is, sym c.hit_on-2.ensures ∙ c.in-Some-hit_on.is) refl)

pub returns : goal.returns
returns g c =
    sym (first_of_five _ _ _ _ _ c.place_in-place.ensures ∙ rw (sym c.hit_on.ensures ∙ c.in_default.is, sym c.hit_on_things.ensures ∙ c.in_default-hit_on_things.is, sym c.hit_on_things-2.ensures ∙ c.in_default-hit_on_things-2.is, sym c.hit_on-2.ensures ∙ c.in_default-hit_on.is) (sym c.hit_above.ensures))
