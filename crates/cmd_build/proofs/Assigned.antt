-- A text with a colon sets a property.
use Rattle.std.proofs.Common.{◌≡◌, ℕ, Bool, true, cond, List, Result, sym, subst}
use Rattle.muck_model.specs.declared.dbref.Dbref.{Dbref}
use Rattle.muck_model.specs.declared.memory.NoMemory.{NoMemory}
use Rattle.muck_prop.specs.Paths.{path_fault, segments_of}
use Rattle.spec_live.specs.Lives.{Change}
use Rattle.spec_rights.specs.declared.act.Actor.{Actor}
use Rattle.spec_commands.specs.Settings.{has_colon, path_part, value_part, setting_asked, word_set, property_set, assigned}
use Rattle.muck_perm.specs.declared.guard.Guard.{Guard}
use Rattle.muck_perm.specs.inner.Guards.{Did}

-- the property of these parts
abbrev parts_set : ℕ → Actor → Dbref → List ℕ → List ℕ → Change
parts_set d a x path value = property_set d a x (segments_of path) value (path_fault path)

pub property_assigned : (d : ℕ) (a : Actor) (x : Dbref) (text path value : List ℕ) (old new : Guard) (result : Result (Unit {0}) NoMemory) →
    has_colon text ≡ true → path ≡ path_part text → value ≡ value_part text →
    Did (property_set d a x (segments_of path) value (path_fault path)) old new result → Did (assigned d a x text) old new result
unfolding assigned
property_assigned d a x text path value old new result colon p v did =
    let P : List ℕ → Type 0 = λ part. Did (parts_set d a x part value) old new result in
    let V : List ℕ → Type 0 = λ part. Did (parts_set d a x (path_part text) part) old new result in
    let B : Bool → Type 0 = λ b. Did (cond b (parts_set d a x (path_part text) (value_part text)) (word_set d a x (setting_asked text))) old new result in
    subst B (sym colon) (subst V v (subst P p did))
