-- What a dump changes: how objects stand to the dumps, and what is told to the connections that asked for it.
use Rattle.std.specs.Prelude.{ℕ, List, [], ◌∷◌, ◌++◌, codes}
use Rattle.std.specs.Fmt.{decimal}
use Rattle.spec_live.specs.declared.saving.Saving.{Saving}
use Rattle.spec_live.specs.Saving.{all_saving}
use Rattle.spec_live.specs.Lives.{Change, on_objects, tell}

-- each object stands to the dumps as f makes of how it stood
abbrev pub resaved : (Saving → Saving) → Change
resaved f = on_objects (all_saving f)

abbrev pub dump_stored : ℕ → List ℕ
dump_stored k = codes "Dump " ++ decimal k ++ codes " stored."

abbrev pub dump_failed : List ℕ
dump_failed = codes "Dump failed."

-- a text is sent to each of these connections, in their order
unfoldable pub told_each : List ℕ → List ℕ → Change
told_each [] text w = w
told_each (d ∷ ds) text w = told_each ds text (tell d text w)
