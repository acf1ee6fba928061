-- Values of arguments: those that stand in the formula, and those that are made.
use Rattle.std.specs.Prelude.{ℕ, Bool, not, ◌&&◌, ◌==◌, List}
use Rattle.std.specs.List.{list_all}
use Rattle.mpi.specs.declared.argument.Holder.{Holder}
use Rattle.mpi.specs.declared.argument.Holder.TheVariants.{Written, Made}

-- a byte that stands for itself: neither `{` nor `\`
abbrev pub is_plain_byte : ℕ → Bool
is_plain_byte b = not (b == 92) && not (b == 123)

-- a text that stands for itself
abbrev pub is_plain : List ℕ → Bool
is_plain text = list_all is_plain_byte text

abbrev pub bytes_held : Holder → List ℕ
bytes_held (Written text) = text.now
bytes_held (Made line) = line
