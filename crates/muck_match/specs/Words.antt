-- Names, the words and the aliases in them. Letters are compared without regard to case.
use Rattle.std.specs.Prelude.{ℕ, ◌+◌, ◌==◌, Bool, List, [], ◌∷◌, length, take}
use Rattle.std.specs.Str.{str_eq_ignore_ascii_case}
use Rattle.std.specs.List.{slice_split, list_any}

unfoldable pub is_same : List ℕ → List ℕ → Bool
is_same a b = str_eq_ignore_ascii_case a b

unfoldable pub begins_alike : List ℕ → List ℕ → Bool
begins_alike front text = is_same front (take (length front) text)

-- the parts of a text between bytes of this value
abbrev pub parts : ℕ → List ℕ → List (List ℕ)
parts c text = slice_split (λ b. b == c) text

-- some word of the name, between spaces, begins with the text
unfoldable pub has_word : List ℕ → List ℕ → Bool
has_word text name = list_any (begins_alike text) (parts 32 name)

-- an alias, and where it begins and ends in the name
pub record Alias : Type 0 where
  pub text : List ℕ
  pub from : ℕ
  pub to : ℕ

-- texts that stand behind each other from there on, with one byte between
unfoldable pub texts_placed : ℕ → List (List ℕ) → List Alias
texts_placed from [] = []
texts_placed from (text ∷ more) = record { text = text; from = from; to = from + length text } ∷ texts_placed (from + length text + 1) more

-- the aliases of an exit's name, which stand between semicolons
unfoldable pub aliases : List ℕ → List Alias
aliases name = texts_placed 0 (parts 59 name)
