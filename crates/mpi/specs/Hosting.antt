-- What a host is able to do, over what is seen of it; and how its calls answer.
use Rattle.std.specs.Prelude.{◌≡◌, ℕ, List, Option, Some, None, Result, Ok, Err}
use Rattle.muck_model.specs.declared.dbref.Dbref.{Dbref}
use Rattle.mpi.specs.declared.fault.MpiFault.{MpiFault}
use Rattle.mpi.specs.declared.fault.MpiFault.TheVariants.{NoMemory}
use Rattle.mpi.specs.declared.host.Ask.{Ask}
use Rattle.mpi.specs.declared.host.Deed.{Deed}

pub record Powers (S : Type 0) : Type 0 where
  -- the player, and the player's place
  pub player : S → Dbref
  pub place : S → Dbref
  -- the most commands that a text may have
  pub most : S → ℕ
  -- what a text names
  pub finds : List ℕ → S → Option Dbref
  -- the answer to a question, or its fault
  pub tells : Ask → S → Result (List ℕ) MpiFault
  -- the fault of a deed, if it has one, and the world after it
  pub does : Deed → S → Option MpiFault × S
  -- the next random word, and the world after it
  pub draws : S → ℕ × S

-- an answer, seen in another way
abbrev pub seen_as : {A B : Type 0} → (A → B) → Result A MpiFault → Result B MpiFault
seen_as f (Ok x) = Ok (f x)
seen_as f (Err fault) = Err fault

-- the answer is the one that is meant; want of memory alone is free
abbrev pub Means : {A : Type 0} → Result A MpiFault → Result A MpiFault → Type 0
Means meant (Ok x) = meant ≡ Ok x
Means meant (Err NoMemory) = Unit {0}
Means meant (Err fault) = meant ≡ Err fault

-- so are the fault of a deed and the world after it
abbrev pub Meant : {A S : Type 0} → Option MpiFault × S → S → Result A MpiFault → Type 0
Meant meant now (Ok x) = meant ≡ (None, now)
Meant meant now (Err NoMemory) = Unit {0}
Meant meant now (Err fault) = meant ≡ (Some fault, now)

-- what holds unless memory was wanted
abbrev pub IfMemory : {A : Type 0} → Result A MpiFault → Type 0 → Type 0
IfMemory (Ok x) Fact = Fact
IfMemory (Err NoMemory) Fact = Unit {0}
IfMemory (Err fault) Fact = Fact
