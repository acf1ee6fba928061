-- Bytes as lines, from one buffer to the next.
use Rattle.std.specs.Prelude.{◌≡◌, ℕ, Bool, true, false, ◌&&◌, ◌==◌, ◌≤◌, if◌then◌else◌, nat_lt, List, [], ◌∷◌, ◌++◌, length}
use Rattle.muck_links.specs.Lines.{next_mode, is_shown_byte, line_most}
use Rattle.muck_links.specs.declared.cutter.Mode.{Mode}
use Rattle.muck_links.specs.declared.cutter.Mode.TheVariants.{Plain}

-- what a cutter keeps of bytes that end no line: where in a telnet command they stand, and the line so far
pub record Rest : Type 0 where
  pub mode : Mode
  pub line : List ℕ

-- before the first byte
abbrev pub fresh : Rest
fresh = record { mode = Plain; line = [] }

abbrev pub ends : Mode → ℕ → Bool
ends Plain b = b == 10
ends mode b = false

abbrev pub joins : Mode → ℕ → List ℕ → Bool
joins Plain b line = is_shown_byte b && nat_lt (length line) line_most
joins mode b line = false

abbrev pub lined : Mode → ℕ → List ℕ → List ℕ
lined mode b line = if ends mode b then [] else if joins mode b line then line ++ b ∷ [] else line

abbrev pub after_byte : Rest → ℕ → Rest
after_byte rest b = record { mode = next_mode rest.mode b; line = lined rest.mode b rest.line }

abbrev pub cut_rest : Rest → List ℕ → Rest
cut_rest rest [] = rest
cut_rest rest (b ∷ bs) = cut_rest (after_byte rest b) bs

abbrev pub cut_lines : Rest → List ℕ → List (List ℕ)
cut_lines rest [] = []
cut_lines rest (b ∷ bs) = if ends rest.mode b then rest.line ∷ cut_lines (after_byte rest b) bs else cut_lines (after_byte rest b) bs

-- what a cutter has: the whole lines that were not yet handed out, and the rest
pub record Cut : Type 0 where
  pub ready : List (List ℕ)
  pub rest : Rest

-- after these bytes more
abbrev pub fed : Cut → List ℕ → Cut
fed cut bytes = record { ready = cut.ready ++ cut_lines cut.rest bytes; rest = cut_rest cut.rest bytes }

-- a line so far: shown bytes, no more than a line has
abbrev pub AllShown : List ℕ → Type 0
AllShown [] = Unit {0}
AllShown (b ∷ bs) = (is_shown_byte b ≡ true) × AllShown bs

abbrev pub IsLineSoFar : List ℕ → Type 0
IsLineSoFar line = AllShown line × (length line ≤ line_most)
