-- Lines that wait to be sent, of which one may be taken in part.
use Rattle.std.specs.Prelude.{◌≡◌, ◌≤◌, ℕ, ◌+◌, ◌-◌, List, ◌∷◌, length, drop}
use Rattle.std.specs.List.{position_or_len}
use Rattle.spec_live.specs.Output.{is_return, sent_form}
use Rattle.muck_board.specs.inner.Sent.{sent_most}

-- what is left of the line that was begun, and whole lines behind it
pub record Waiting : Type 0 where
  pub begun : List ℕ
  pub lines : List (List ℕ)

-- the first line is begun, of which nothing was taken so far
pub record Begins (old new : Waiting) : Type 0 where
  pub line : List ℕ
  pub first : old.lines ≡ line ∷ new.lines
  pub begun : new.begun ≡ sent_form line
  pub short : length new.begun ≤ sent_most

-- where the first line ends that ends behind so many bytes, or with the last of them
abbrev pub end_behind : ℕ → List ℕ → ℕ
end_behind over bytes = (over - 2) + position_or_len is_return (drop (over - 2) bytes) + 2
