-- The words that come out of a source, one after the other, up to the first refusal.
use Rattle.std.specs.Prelude.{◌≡◌, ℕ, ◌+◌, nat_lt, if◌then◌else◌, [], ◌∷◌, ◌++◌, length, Option, Some, None, Result, Ok, Err}
use Rattle.muf_token.specs.declared.fault.FaultKind.{FaultKind}
use Rattle.muf_token.specs.declared.fault.FaultKind.TheVariants.{TooManyWords, BadNumber}
use Rattle.muf_token.specs.declared.fault.Refusal.{Refusal}
use Rattle.muf_token.specs.declared.fault.TokenFault.{TokenFault}
use Rattle.muf_token.specs.declared.fault.TokenFault.TheVariants.{Refused, NoMemory}
use Rattle.muf_token.specs.declared.token.TokenKind.{TokenKind}
use Rattle.muf_token.specs.declared.output.Output.{Output}

-- the most words that come out
unfoldable pub words_most : ℕ
words_most = 65536

-- the most uses of definitions that are replaced
unfoldable pub uses_most : ℕ
uses_most = 65536

-- refused for this, at this line
abbrev pub refuse : {A : Type 0} → ℕ → FaultKind → Result A Refusal
refuse line kind = Err (record { line = line; kind = kind })

-- one step, and then another, where the first isn't refused
abbrev pub and_then : {A B : Type 0} → Result A Refusal → (A → Result B Refusal) → Result B Refusal
and_then (Ok a) next = next a
and_then (Err refusal) next = Err refusal

abbrev pub put_kind : ℕ → Option TokenKind → Output → Result Output Refusal
put_kind line None out = refuse line BadNumber
put_kind line (Some kind) out = Ok (record out { words = out.words ++ record { line = line; kind = kind } ∷ [] })

-- one word more, where there is room; none stands for a number that 32 bits don't hold
abbrev pub word_put : ℕ → Option TokenKind → Output → Result Output Refusal
word_put line kind out = if nat_lt (length out.words) words_most then put_kind line kind out else refuse line TooManyWords

-- one use of a definition more
abbrev pub definition_used : ℕ → Output → Result Output Refusal
definition_used line out = if nat_lt out.uses uses_most then Ok (record out { uses = out.uses + 1 }) else refuse line TooManyWords

-- the answer of a call that changes something, and what it leaves; want of memory says nothing
abbrev pub Leads : {A B : Type 0} → Result A Refusal → Result B TokenFault → A → Type 0
Leads step (Ok done) now = step ≡ Ok now
Leads step (Err (Refused refusal)) now = step ≡ Err refusal
Leads step (Err NoMemory) now = Unit {0}
