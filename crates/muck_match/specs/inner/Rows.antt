-- What the definitions give at a small scene, row by row.
use Rattle.std.specs.Prelude.{◌≡◌, ℕ, pos, List, [], ◌∷◌, map, Option, Some, None, refl, codes}
use Rattle.muck_model.specs.declared.dbref.Dbref.{Dbref}
use Rattle.muck_model.specs.declared.dbref.Kind.TheVariants.{Room, Thing, Exit, Player, Program, Garbage}
use Rattle.muck_model.specs.Numbers.{dbref_numbered, dbref_written}
use Rattle.muck_model.specs.Decimal.{decimal_of}
use Rattle.muck_match.specs.Words.{is_same, begins_alike, has_word, texts_placed, aliases}
use Rattle.muck_match.specs.Scenery.{Scenery, nothing, home, chain, is_in_scenery, place_in_scenery, things_in, exit_order, numbers}
use Rattle.muck_match.specs.Exits.{alias_takes, rest_behind, hits_in, leads_to_program, hits_at, hits, exit_for}
use Rattle.muck_match.specs.Naming.{name_fits, answers_to, objects_near, near, name_matched, player_named, if_there, found_by_sign, thing_found}
use Rattle.muck_match.specs.inner.Memory.{lower, slot_at, object_at, next_at, above_at, walk, first_at, after_in, scenery_of}
use Rattle.muck_match.specs.declared.memory.MemObject.{MemObject}
use Rattle.muck_match.specs.declared.exits.ExitHit.{ExitHit}
use Rattle.muck_match.specs.declared.naming.Found.{Found}
use Rattle.muck_match.specs.declared.naming.Found.TheVariants.{One, None as Nobody, Many}

n : ℕ → Dbref
n k = dbref_numbered (pos k)

-- One (#2) stands in Den (#1), which lies in Room Zero (#0), and carries a ball and the program that `wave` runs
objects : List MemObject
objects =
    record { kind = Room; name = codes "Room Zero"; place = nothing; link = nothing; first_content = n 1; first_exit = n 8; next = nothing }
    ∷ record { kind = Room; name = codes "Den"; place = n 0; link = nothing; first_content = n 6; first_exit = n 7; next = nothing }
    ∷ record { kind = Player; name = codes "One"; place = n 1; link = nothing; first_content = n 4; first_exit = nothing; next = nothing }
    ∷ record { kind = Program; name = codes "hello"; place = n 2; link = nothing; first_content = nothing; first_exit = nothing; next = nothing }
    ∷ record { kind = Thing; name = codes "ball"; place = n 2; link = nothing; first_content = nothing; first_exit = nothing; next = n 3 }
    ∷ record { kind = Garbage; name = codes "<garbage>"; place = nothing; link = nothing; first_content = nothing; first_exit = nothing; next = nothing }
    ∷ record { kind = Thing; name = codes "Red Box"; place = n 1; link = nothing; first_content = nothing; first_exit = nothing; next = n 2 }
    ∷ record { kind = Exit; name = codes "wave;red"; place = n 1; link = n 3; first_content = nothing; first_exit = nothing; next = nothing }
    ∷ record { kind = Exit; name = codes "out;Ball;wave"; place = n 0; link = n 0; first_content = nothing; first_exit = nothing; next = nothing }
    ∷ []

scene : Scenery
scene = scenery_of objects

finds : List ℕ → Found
finds text = thing_found scene (n 2) text

candidates : objects_near scene (n 2) ≡ n 4 ∷ n 3 ∷ n 6 ∷ n 2 ∷ []
unfolding scene objects n scenery_of objects_near place_in_scenery chain after_in walk next_at lower object_at slot_at first_at
candidates = refl

order : exit_order scene (n 2) ≡ n 7 ∷ n 8 ∷ []
unfolding scene objects n scenery_of exit_order things_in place_in_scenery chain after_in walk next_at above_at lower object_at slot_at first_at
order = refl

words : map finds (codes "me" ∷ codes "HERE" ∷ codes "home" ∷ codes "#6" ∷ codes "#5" ∷ codes "#-1" ∷ codes "*one" ∷ codes "*ball" ∷ [])
    ≡ One (n 2) ∷ One (n 1) ∷ One home ∷ One (n 6) ∷ Nobody ∷ Nobody ∷ One (n 2) ∷ Nobody ∷ []
unfolding finds scene objects n scenery_of is_same begins_alike has_word texts_placed aliases chain is_in_scenery place_in_scenery things_in exit_order numbers alias_takes rest_behind hits_in leads_to_program hits_at hits name_fits answers_to objects_near near name_matched player_named if_there found_by_sign thing_found lower slot_at object_at next_at above_at walk first_at after_in dbref_written decimal_of exit_for
words = refl

-- an equal alias comes before a part of a name, and an object before an exit of the same name
names : map finds (codes "BALL" ∷ codes "red" ∷ codes "bo" ∷ codes "red box" ∷ codes "red b" ∷ codes "wave" ∷ codes "o" ∷ codes "" ∷ codes "hat" ∷ [])
    ≡ One (n 4) ∷ One (n 7) ∷ One (n 6) ∷ One (n 6) ∷ Nobody ∷ One (n 7) ∷ One (n 2) ∷ Many ∷ Nobody ∷ []
unfolding finds scene objects n scenery_of is_same begins_alike has_word texts_placed aliases chain is_in_scenery place_in_scenery things_in exit_order numbers alias_takes rest_behind hits_in leads_to_program hits_at hits name_fits answers_to objects_near near name_matched player_named if_there found_by_sign thing_found lower slot_at object_at next_at above_at walk first_at after_in dbref_written decimal_of exit_for
names = refl

takes_line : List ℕ → Option ExitHit
takes_line line = exit_for scene (n 2) line

hit : ℕ → ℕ → ℕ → ℕ → Option ExitHit
hit exit from to rest = Some (record { exit = n exit; alias = (from, to); rest = rest })

-- only an exit to a program takes a longer line
lines : map takes_line (codes "Wave" ∷ codes "wave at me" ∷ codes "wave " ∷ codes "out" ∷ codes "out " ∷ codes "ball" ∷ codes "waves" ∷ codes "" ∷ [])
    ≡ hit 7 0 4 4 ∷ hit 7 0 4 5 ∷ hit 7 0 4 5 ∷ hit 8 0 3 3 ∷ None ∷ hit 8 4 8 4 ∷ None ∷ None ∷ []
unfolding takes_line hit finds scene objects n scenery_of is_same begins_alike has_word texts_placed aliases chain is_in_scenery place_in_scenery things_in exit_order numbers alias_takes rest_behind hits_in leads_to_program hits_at hits name_fits answers_to objects_near near name_matched player_named if_there found_by_sign thing_found lower slot_at object_at next_at above_at walk first_at after_in dbref_written decimal_of exit_for
lines = refl
