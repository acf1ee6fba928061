-- The stored form of the objects of a world, and the objects that stored forms stand for.
use Rattle.std.specs.Prelude.{ℕ, suc, List, [], ◌∷◌, map, length, Option, None, slice_get}
use Rattle.std.specs.Option.{option_map_or, option_and_then}
use Rattle.std.specs.FinMap.{entries, from_entries}
use Rattle.muck_model.specs.declared.dbref.Dbref.{Dbref}
use Rattle.muck_model.specs.declared.tune.Tune.{Tune}
use Rattle.muck_prop.specs.Store.{PropMap}
use Rattle.muck_prop.specs.declared.value.PropValue.{PropValue}
use Rattle.spec_live.specs.declared.object.Object.{Object}
use Rattle.spec_live.specs.declared.saving.Saving.TheVariants.{Due}
use Rattle.spec_live.specs.Chain.{walk}
use Rattle.spec_live.specs.Objects.{Entry, dbref_of, index_of, nothing}
unfoldable pub use Rattle.spec_live.specs.Saving.{next_in}
use Rattle.spec_live.specs.Stood.{standing}
use Rattle.muck_codec.specs.declared.stored.Stored.{Stored}
use Rattle.muck_codec.specs.declared.stored.Property.{Property}
use Rattle.muck_codec.specs.declared.stored.Batch.{Batch}

-- From the world to what is stored of it.

abbrev pub property_of : List (List ℕ) × PropValue → Property
property_of e = record { path = e.0; value = e.1 }

-- the properties, by rising path
abbrev pub properties_of : PropMap → List Property
properties_of m = map property_of (entries m)

abbrev pub link_to_number : Option ℕ → Dbref
link_to_number at = option_map_or dbref_of at nothing

abbrev pub first_in_list : List ℕ → Dbref
first_in_list [] = nothing
first_in_list (x ∷ xs) = dbref_of x

-- the stored form of the object of number k: its fields, and where its lists begin and go on
unfoldable pub stored_of : List Entry → ℕ → Entry → Stored
stored_of es k e = record {
  dbref = dbref_of k;
  kind = e.object.kind;
  flags = e.object.flags;
  level = e.object.level;
  owner = e.object.owner;
  place = e.object.place;
  link = e.object.link;
  home = e.object.home;
  first_content = first_in_list e.contents;
  first_exit = first_in_list e.exits;
  next = link_to_number (next_in es k);
  name = e.object.name;
  props = properties_of e.object.props;
  lines = e.object.lines;
  digest = e.object.digest;
}

-- those of the objects from number k on
unfoldable pub stored_from : List Entry → ℕ → List Entry → List Stored
stored_from es k [] = []
stored_from es k (e ∷ rest) = stored_of es k e ∷ stored_from es (suc k) rest

-- the stored form of each object, by its number from 0 on
unfoldable pub persist : List Entry → List Stored
persist es = stored_from es 0 es

-- what a dump hands to the log: the stored form of each object, and what is tuned
abbrev pub world_batch : List Entry → Tune → Batch
world_batch es tune = record { records = persist es; tune = tune }

-- From what is stored to the world.

abbrev pub entry_at : Property → List (List ℕ) × PropValue
entry_at p = (p.path, p.value)

abbrev pub stored_object : Stored → Object
stored_object s = record {
  kind = s.kind;
  name = s.name;
  owner = s.owner;
  place = s.place;
  link = s.link;
  home = s.home;
  flags = s.flags;
  level = s.level;
  props = from_entries (map entry_at s.props);
  lines = s.lines;
  digest = s.digest;
}

-- what a record says to stand behind its object
unfoldable pub next_of_stored : List Stored → ℕ → Option ℕ
next_of_stored os k = option_and_then (λ s. index_of s.next) (slice_get os k)

-- an object with its lists, which are the chains that its record begins; it is due, until a dump was stored, and hasn't moved
unfoldable pub entry_of_stored : List Stored → Stored → Entry
entry_of_stored os s = record {
  object = stored_object s;
  contents = walk (length os) (next_of_stored os) (index_of s.first_content);
  exits = walk (length os) (next_of_stored os) (index_of s.first_exit);
  mark = None;
  saving = Due;
  stood = standing (stored_object s);
}

-- the objects that records stand for
unfoldable pub loaded : List Stored → List Entry
loaded os = map (entry_of_stored os) os
