-- Flags by the values of their bits.
use Rattle.std.specs.Prelude.{ℕ, ◌+◌, ◌-◌, Bool, ◌==◌, if◌then◌else◌, ◌/◌, ◌%◌}
use Rattle.muck_model.specs.declared.dbref.Flags.{Flags}

abbrev pub has_flag : ℕ → Flags → Bool
has_flag flag flags = flags.0 / flag % 2 == 1

abbrev pub no_flags : Flags
no_flags = record { 0 = 0 }

-- with this flag set, and with it cleared
abbrev pub with_flag : ℕ → Flags → Flags
with_flag flag flags = if has_flag flag flags then flags else record { 0 = flags.0 + flag }

abbrev pub without_flag : ℕ → Flags → Flags
without_flag flag flags = if has_flag flag flags then record { 0 = flags.0 - flag } else flags

-- the flags that rules speak of
abbrev pub builder : ℕ
builder = 2

abbrev pub chown : ℕ
chown = 4

abbrev pub dark : ℕ
dark = 8

abbrev pub haven : ℕ
haven = 16

abbrev pub jump : ℕ
jump = 32

abbrev pub link : ℕ
link = 128

abbrev pub quell : ℕ
quell = 256

abbrev pub setuid : ℕ
setuid = 512

abbrev pub vehicle : ℕ
vehicle = 1024

abbrev pub wizard : ℕ
wizard = 2048

-- the flag of a letter; there are fourteen
abbrev pub flag_of : ℕ → ℕ
flag_of letter =
    if letter == 65 then 1
    else if letter == 66 then 2
    else if letter == 67 then 4
    else if letter == 68 then 8
    else if letter == 72 then 16
    else if letter == 74 then 32
    else if letter == 75 then 64
    else if letter == 76 then 128
    else if letter == 81 then 256
    else if letter == 83 then 512
    else if letter == 86 then 1024
    else if letter == 87 then 2048
    else if letter == 88 then 4096
    else 8192
