-- What a queue knows of its processes without a look at them.
use Rattle.std.specs.Prelude.{◌≡◌, ℕ, Bool, true, not, ◌&&◌, ◌||◌, nat_le, is_some, List}
use Rattle.std.specs.List.{list_all}
use Rattle.muck_queue.specs.declared.process.Process.{Process}
use Rattle.muck_queue.specs.Queues.{is_reading, is_awaiting}

-- it is tied to some connection
abbrev pub has_connection : Process → Bool
has_connection p = is_some p.descr

-- it waits for nothing but its second
abbrev pub is_timed : Process → Bool
is_timed p = not (is_reading p) && not (is_awaiting p)

-- it has no connection, where none may have one
abbrev pub fits_ties : Bool → Process → Bool
fits_ties tied p = tied || not (has_connection p)

-- it waits for a line or an event, or is due in this second or later
abbrev pub fits_second : ℕ → Process → Bool
fits_second soonest p = is_reading p || (is_awaiting p || nat_le soonest p.due)

-- None has a connection, unless it says so; and none that waits for nothing is due before this second.
pub record Knows (tied : Bool) (soonest : ℕ) (ps : List Process) : Type 0 where
  pub ties : list_all (fits_ties tied) ps ≡ true
  pub seconds : list_all (fits_second soonest) ps ≡ true
