-- What the commands of keepers reply.
use Rattle.std.specs.Prelude.{ℕ, ℤ, List, ◌∷◌, ◌++◌, codes, decimal}
use Rattle.std.specs.Fmt.{signed_decimal}

-- a process by its number, the program with which it was started, and the name of its player
unfoldable pub process_line : ℤ → ℤ → List ℕ → List ℕ
process_line pid program name = signed_decimal pid ++ (codes " #" ++ (signed_decimal program ++ 32 ∷ name))

unfoldable pub processes_count : ℕ → List ℕ
processes_count count = decimal count ++ codes " processes."

unfoldable pub killed_reply : List ℕ
killed_reply = codes "Process killed."

unfoldable pub no_process_reply : List ℕ
no_process_reply = codes "No such process."

unfoldable pub parameter_line : List ℕ → ℕ → List ℕ
parameter_line name value = name ++ (codes " = " ++ decimal value)

unfoldable pub parameter_reply : List ℕ
parameter_reply = codes "Parameter set."

unfoldable pub bad_parameter : List ℕ
bad_parameter = codes "Bad parameter."

unfoldable pub booted_reply : List ℕ
booted_reply = codes "Booted."

-- what everybody sees stands behind the player's name
unfoldable pub shouts : List ℕ → List ℕ
shouts text = codes " shouts, \"" ++ (text ++ codes "\"")

unfoldable pub password_reply : List ℕ
password_reply = codes "Password changed."

unfoldable pub dumping_reply : List ℕ
dumping_reply = codes "Dumping."

unfoldable pub going_down : List ℕ
going_down = codes "Going down."
