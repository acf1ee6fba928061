-- For whom a lock opens.
use Rattle.std.specs.Prelude.{ℕ, Bool, true, false, not, ◌&&◌, ◌||◌, List, Option, Some, None}
use Rattle.std.specs.List.{list_any}
use Rattle.muck_model.specs.declared.dbref.Dbref.{Dbref}
use Rattle.muck_model.specs.declared.lock.Lock.{Lock, Lock-F, fold-Lock}
use Rattle.muck_lock.specs.inner.Chain.{same}

-- what keys are tried on: owners, places, contents, and which object has a property with a value
pub record Holdings : Type 0 where
  pub owner : Dbref → Option Dbref
  pub place : Dbref → Option Dbref
  pub contents : Dbref → List Dbref
  pub has : Dbref → List ℕ → List ℕ → Bool

abbrev pub holdings : (Dbref → Option Dbref) → (Dbref → Option Dbref) → (Dbref → List Dbref) → (Dbref → List ℕ → List ℕ → Bool) → Holdings
holdings owner place contents has = record { owner = owner; place = place; contents = contents; has = has }

abbrev pub stands_there : Dbref → Option Dbref → Bool
stands_there n None = false
stands_there n (Some d) = same d n

-- x is it, is owned by it, carries it or stands in it
abbrev pub object_opens : Holdings → Dbref → Dbref → Bool
object_opens w n x =
    same x n || stands_there n (w.owner x) || list_any (λ d. same d n) (w.contents x) || stands_there n (w.place x)

-- x or something that it carries has the property with that value
abbrev pub property_opens : Holdings → List ℕ → List ℕ → Dbref → Bool
property_opens w path value x = w.has x path value || list_any (λ d. w.has d path value) (w.contents x)

abbrev pub opens_step : Holdings → Lock-F (Dbref → Bool) → Dbref → Bool
opens_step w Lock-F.Free x = true
opens_step w (Lock-F.Object n) x = object_opens w n x
opens_step w (Lock-F.Prop path value) x = property_opens w path value x
opens_step w (Lock-F.Not a) x = not (a x)
opens_step w (Lock-F.Both a b) x = a x && b x
opens_step w (Lock-F.Either a b) x = a x || b x

abbrev pub opens_for : Holdings → Lock → Dbref → Bool
opens_for w = fold-Lock (Dbref → Bool) (opens_step w)
