-- What the mirror of a store holds behind a script.
use Rattle.std.specs.Prelude.{◌≡◌, ◌<◌, ◌≤◌, ◌^◌, ℕ, List, length, get_or, Ok}
use Rattle.muck_log.specs.World.{start}
use Rattle.muck_log.specs.Store.{Chosen, store_of, pick}
use Rattle.muck_mirror.specs.Fronts.{AreBatches, Holds, after_calls, front_world}
use Rattle.muck_bodies.specs.Bodies.{bodies_of, first_number}
use Rattle.muck_follow.specs.declared.act.Act.{Act}
use Rattle.muck_follow.specs.Following.{left_after, store_mirror, mirror_calls}

abbrev pub AreBytes : List ℕ → Type 0
AreBytes bytes = (i : ℕ) → get_or bytes i 0 < 256

-- The bodies of the file of a store that counts are batches of one generation, by rising numbers, each laid over the world of those before it; all of them make the world that the store
-- holds. Behind these lines the mirror is what the calls of `feed` leave that they make, and it holds the stored world of the first m batches, where m is the greatest number such
-- that each of these was fed.
pub record FollowsFront (acts : List Act) (s : Chosen) (file : List ℕ) : Type 0 where
  pub batches : AreBatches s.held.generation (first_number (bodies_of file)) start (bodies_of file)
  pub whole : front_world s.held.generation (length (bodies_of file)) (bodies_of file) start ≡ s.held.world
  pub left : left_after acts (bodies_of file) (store_mirror s file) ≡ after_calls (mirror_calls acts (bodies_of file)) (store_mirror s file)
  pub fed : ℕ
  pub holds : Holds s.held.generation (first_number (bodies_of file)) (bodies_of file) (mirror_calls acts (bodies_of file)) fed

-- of each store that loads, over every script
abbrev pub FollowsThere : Type 0
FollowsThere = (a b : List ℕ) (s : Chosen) (acts : List Act) → store_of a b ≡ Ok s → AreBytes (pick s.second a b) → length (pick s.second a b) ≤ 2 ^ 63 → FollowsFront acts s (pick s.second a b)
