use Rattle.std.specs.Prelude.{◌≡◌, ℕ, Result, Ok, Err}
use Rattle.muck_mirror.specs.Bodies.{Head}
use Rattle.muck_mirror.specs.declared.body.Head.{Head as Found}

-- what a function returned, seen by view, is what reading gives
abbrev pub Gives : {X Y : Type 0} → (X → Y) → Result X ℕ → Result Y ℕ → Type 0
Gives view (Ok x) read = read ≡ Ok (view x)
Gives view (Err left) read = read ≡ Err left

abbrev pub seen : Found → Head
seen h = record { version = h.version; number = h.number }
