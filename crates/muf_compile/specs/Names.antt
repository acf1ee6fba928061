-- The words that mean something in every program.
use Rattle.std.specs.Prelude.{ℕ, if◌then◌else◌, List, [], ◌∷◌, Option, Some, None, option_map, find, codes}
use Rattle.std.specs.Str.{bytes_eq}
use Rattle.std.specs.Borrow.{Bor}
use Rattle.muf_model.specs.declared.code.VarId.{VarId}
use Rattle.muf_compile.specs.declared.control.Control.{Control}
use Rattle.muf_compile.specs.declared.control.Control.TheVariants as control

-- a row of a table of words
abbrev pub word_row : Bor (List ℕ) × Control → List ℕ × Control
word_row r = (r.0.now, r.1)

-- the words of the structure
unfoldable pub control_words : List (List ℕ × Control)
control_words =
    (codes ":", control.Colon) ∷
    (codes ";", control.Semicolon) ∷
    (codes "var", control.Var) ∷
    (codes "var!", control.VarStore) ∷
    (codes "lvar", control.LVar) ∷
    (codes "public", control.Public) ∷
    (codes "wizcall", control.WizCall) ∷
    (codes "if", control.If) ∷
    (codes "else", control.Else) ∷
    (codes "then", control.Then) ∷
    (codes "try", control.Try) ∷
    (codes "catch", control.Catch) ∷
    (codes "endcatch", control.EndCatch) ∷
    (codes "exit", control.Exit) ∷
    (codes "begin", control.Begin) ∷
    (codes "for", control.For) ∷
    (codes "foreach", control.ForEach) ∷
    (codes "repeat", control.Repeat) ∷
    (codes "until", control.Until) ∷
    (codes "while", control.While) ∷
    (codes "break", control.Break) ∷
    (codes "continue", control.Continue) ∷
    []

-- the word of the structure that a word in lower case is
unfoldable pub control_of : List ℕ → Option Control
control_of word = option_map (λ r. r.1) (find (λ r. bytes_eq r.0 word) control_words)

-- the variable of the process that a word in lower case names
unfoldable pub standing_of : List ℕ → Option VarId
standing_of word =
    if bytes_eq word (codes "me") then Some (record { 0 = 0 })
    else if bytes_eq word (codes "loc") then Some (record { 0 = 1 })
    else if bytes_eq word (codes "trigger") then Some (record { 0 = 2 })
    else if bytes_eq word (codes "command") then Some (record { 0 = 3 })
    else None
