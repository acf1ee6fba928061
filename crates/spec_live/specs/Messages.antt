-- The messages of objects: one table.
use Rattle.std.specs.Prelude.{ℕ, List, [], ◌∷◌, codes}
use Rattle.spec_live.specs.declared.message.Message.{Message}
use Rattle.spec_live.specs.declared.message.Message.TheVariants.{Describe, Success, OthersSuccess, Fail, OthersFail, Drop, OthersDrop}

-- What is so of a message: the word that sets it, the last part of the path at which it is kept, and how it is called where it is spoken.
pub record MessageRow : Type 0 where
  pub word : List ℕ
  pub name : List ℕ
  pub how : List ℕ

abbrev row : List ℕ → List ℕ → List ℕ → MessageRow
row word name how = record { word = word; name = name; how = how }

-- the table of all messages
abbrev pub row_of : Message → MessageRow
row_of Describe = row (codes "@describe") (codes "de") (codes "(@desc)")
row_of Success = row (codes "@success") (codes "sc") (codes "(@succ)")
row_of OthersSuccess = row (codes "@osuccess") (codes "osc") (codes "(@osucc)")
row_of Fail = row (codes "@fail") (codes "fl") (codes "(@fail)")
row_of OthersFail = row (codes "@ofail") (codes "ofl") (codes "(@ofail)")
row_of Drop = row (codes "@drop") (codes "dr") (codes "(@drop)")
row_of OthersDrop = row (codes "@odrop") (codes "odr") (codes "(@odrop)")

-- all messages
unfoldable pub messages : List Message
messages = Describe ∷ Success ∷ OthersSuccess ∷ Fail ∷ OthersFail ∷ Drop ∷ OthersDrop ∷ []

-- where an object keeps it
abbrev pub path_of : Message → List (List ℕ)
path_of m = codes "_" ∷ (row_of m).name ∷ []
