-- The numbers and texts of faults.
use Rattle.muck_model.specs.Bytes.{text_fault}
use Rattle.std.specs.Prelude.{◌≡◌, None, ℕ, Bool, true, false, List, ◌++◌, codes, decimal}
use Rattle.muf_model.specs.declared.fault.MufFault.{MufFault}
use Rattle.muf_model.specs.declared.fault.MufFault.TheVariants.{StackEmpty, StackFull, StackLocked, CallsFull, BadType, BadArgument, NoSuchObject, Denied, TooManyUnits, PreemptTooLong, NotCompiled, NotPublic, BadAddress, BadSleep, CannotRead, ProcessLimit, TextTooLong, TooHeavy, Aborted, WorldFull}

abbrev pub number_of : MufFault → ℕ
number_of StackEmpty = 40
number_of StackFull = 41
number_of StackLocked = 42
number_of CallsFull = 43
number_of BadType = 44
number_of BadArgument = 45
number_of NoSuchObject = 46
number_of (Denied rule) = 47
number_of TooManyUnits = 48
number_of PreemptTooLong = 49
number_of NotCompiled = 50
number_of NotPublic = 51
number_of BadAddress = 52
number_of BadSleep = 53
number_of CannotRead = 54
number_of ProcessLimit = 55
number_of TextTooLong = 56
number_of TooHeavy = 57
number_of (Aborted text) = 58
number_of WorldFull = 59

-- the text that a TRY gets to see
abbrev pub fault_text : MufFault → List ℕ
fault_text StackEmpty = codes "Stack underflow."
fault_text StackFull = codes "Stack overflow."
fault_text StackLocked = codes "Stack protection fault."
fault_text CallsFull = codes "Call stack overflow."
fault_text BadType = codes "Wrong type of argument."
fault_text BadArgument = codes "Invalid argument."
fault_text NoSuchObject = codes "Invalid object."
fault_text (Denied rule) = codes "Permission denied (P" ++ (decimal rule ++ codes ").")
fault_text TooManyUnits = codes "Too many instructions."
fault_text PreemptTooLong = codes "Preempt section too long."
fault_text NotCompiled = codes "Program not compiled."
fault_text NotPublic = codes "Word not public."
fault_text BadAddress = codes "Invalid address."
fault_text BadSleep = codes "Sleep of negative time."
fault_text CannotRead = codes "Read in background."
fault_text ProcessLimit = codes "Too many processes."
fault_text TextTooLong = codes "Text too long."
fault_text TooHeavy = codes "Value too large."
fault_text (Aborted text) = text
fault_text WorldFull = codes "World full."

-- the faults that end a process even inside a TRY
abbrev pub is_final : MufFault → Bool
is_final TooManyUnits = true
is_final PreemptTooLong = true
is_final _ = false

-- a fault's text, and that it is a text, where neither a rule nor the program has a say in it
abbrev pub IsFixedText : MufFault → List ℕ → Type 0
IsFixedText (Denied rule) bytes = Unit {0}
IsFixedText (Aborted text) bytes = Unit {0}
IsFixedText f bytes = (bytes ≡ fault_text f) × (text_fault bytes ≡ None)
