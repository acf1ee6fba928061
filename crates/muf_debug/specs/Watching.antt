-- A watch that is told of views, one behind the other.
use Rattle.std.specs.Prelude.{◌≡◌, List, [], ◌∷◌}
use Rattle.muf_debug.specs.declared.view.View.{View}

abbrev pub SeesAll : {S : Type 0} → (S → View → S → Type 0) → List View → S → S → Type 0
SeesAll tells [] a b = b ≡ a
SeesAll {S = S} tells (v ∷ vs) a b = (m : S) × tells a v m × SeesAll tells vs m b
