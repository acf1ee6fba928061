-- The parts of a line.
use Rattle.std.specs.Prelude.{ℕ, Bool, ◌==◌, if◌then◌else◌, List, [], ◌∷◌, map}
use Rattle.std.specs.Char.{to_ascii_lowercase}
use Rattle.std.specs.Str.{bytes_eq}
use Rattle.std.specs.List.{before_first, after_first}

abbrev pub is_space : ℕ → Bool
is_space b = b == 32

-- what stands before the first space, and what stands after it
abbrev pub first_word : List ℕ → List ℕ
first_word line = before_first is_space line

abbrev pub other_words : List ℕ → List ℕ
other_words line = after_first is_space line

-- without the spaces at its start
abbrev pub start_trimmed : List ℕ → List ℕ
start_trimmed [] = []
start_trimmed (b ∷ text) = if is_space b then start_trimmed text else b ∷ text

-- a byte before a text that has no spaces at its end
abbrev pub before_trimmed : ℕ → List ℕ → List ℕ
before_trimmed b [] = if is_space b then [] else b ∷ []
before_trimmed b (c ∷ text) = b ∷ c ∷ text

-- without the spaces at its end
abbrev pub end_trimmed : List ℕ → List ℕ
end_trimmed [] = []
end_trimmed (b ∷ text) = before_trimmed b (end_trimmed text)

abbrev pub trimmed : List ℕ → List ℕ
trimmed text = end_trimmed (start_trimmed text)

-- the same but for the case of letters
abbrev pub is_alike : List ℕ → List ℕ → Bool
is_alike a b = bytes_eq (map to_ascii_lowercase a) (map to_ascii_lowercase b)
