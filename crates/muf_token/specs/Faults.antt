-- The numbers of faults.
use Rattle.std.specs.Prelude.{ℕ}
use Rattle.muf_token.specs.declared.fault.FaultKind.{FaultKind}
use Rattle.muf_token.specs.declared.fault.FaultKind.TheVariants.{OpenString, OpenComment, BadDirective, EndlessDefs, TooManyWords, BadNumber, UnknownInclude}

-- the number by which a user knows it
abbrev pub token_fault_number : FaultKind → ℕ
token_fault_number OpenString = 20
token_fault_number OpenComment = 21
token_fault_number BadDirective = 22
token_fault_number EndlessDefs = 23
token_fault_number TooManyWords = 24
token_fault_number BadNumber = 25
token_fault_number UnknownInclude = 26
