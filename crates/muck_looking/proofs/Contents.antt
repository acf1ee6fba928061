-- What is shown under the head of contents.
use Rattle.std.proofs.Common.{◌≡◌, ◌<◌, List, [], ◌∷◌, length, map, refl, arith}
use Rattle.muck_model.specs.declared.dbref.Dbref.{Dbref}
use Rattle.spec_live.specs.Objects.{Entry}
use Rattle.spec_commands.specs.Replies.{contents_head}
use Rattle.muck_looking.specs.Looks.{form_line, under_head}

pub nothing_under : (es : List Entry) (xs : List Dbref) → length xs ≡ 0 → under_head (map (form_line es) xs) ≡ []
nothing_under es [] none = refl
nothing_under es (x ∷ xs) none = absurd (omega (arith, none))

pub some_under : (es : List Entry) (xs : List Dbref) → 0 < length xs → under_head (map (form_line es) xs) ≡ contents_head ∷ map (form_line es) xs
some_under es [] some = absurd (omega (arith, some))
some_under es (x ∷ xs) some = refl
