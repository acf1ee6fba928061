-- What a walk over objects has seen of those whom a name means in part.
use Rattle.std.specs.Prelude.{◌≡◌, ℕ, false, List}
use Rattle.std.specs.List.{filter, flat_map}
use Rattle.std.specs.Option.{option_or}
use Rattle.muck_model.specs.declared.dbref.Dbref.{Dbref}
use Rattle.muck_match.specs.Scenery.{Scenery, sees, is_thing, things_in}
use Rattle.muck_match.specs.Exits.{first_item, hits_on}
use Rattle.muck_match.specs.Naming.{candidate_chosen, joined, answers_to}
use Rattle.muck_match.specs.declared.naming.Fit.TheVariants.{Part}
use Rattle.muck_match.specs.declared.glances.Glance.{Glance}

-- What was seen, with what those that are left show, is what the contents of an object show.
pub record Sees (w : Scenery) (text : List ℕ) (owner : Dbref) (seen : Glance) (left : List Dbref) : Type 0 where
  pub part : joined seen.part (candidate_chosen (filter (answers_to Part text w) left)) ≡ candidate_chosen (filter (answers_to Part text w) (w.contents owner))
  pub hit : option_or seen.hit (first_item (flat_map (hits_on w false text) (filter (sees (λ s. is_thing s.kind) w) left))) ≡ first_item (flat_map (hits_on w false text) (things_in w owner))
