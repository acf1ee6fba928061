-- The rows of the family, by whether they find something or change objects.
use Rattle.std.proofs.Common.{◌≡◌, List, false, Option, Some, None, refl, ap}
use Rattle.std.specs.Prelude.{is_some, option_map}
use Rattle.std.specs.Option.{option_or}
use Rattle.spec_live.specs.Lives.{Live}
use Rattle.spec_rights.specs.declared.act.Actor.{Actor}
use Rattle.muf_model.specs.declared.prims.Primitive.{Primitive}
use Rattle.muf_model.specs.declared.prims.Primitive.TheVariants.{HasFlag, MoveTo, SetLink, SetOwn, Recycle, SetName, Set, SetLockStr, NewRoom, NewObject, NewExit}
use Rattle.muf_model.specs.Datum.{Datum}
use Rattle.spec_prims.specs.ObjectRows.{Finding, finding_of, finds, misasked, object_row}
use Rattle.spec_prims.specs.ObjectWrites.{writing_row}
use Rattle.prim_common.specs.inner.Applied.{argued_of}

-- MOVETO alone of those that change objects has a rule for its arguments, and FLAG? alone of the others
no_rule : (p : Primitive) (a : Actor) (items : List Datum) (w : Live) → (p ≡ MoveTo → ⊥) → is_some (finding_of p) ≡ false → misasked p items ≡ argued_of (writing_row p) a items w
no_rule MoveTo a items w h e = absurd (h refl)
no_rule HasFlag a items w h e = absurd cc
no_rule _ a items w h e = refl

rule_by : (p : Primitive) (o : Option Finding) (a : Actor) (items : List Datum) (w : Live) → (p ≡ MoveTo → ⊥) → finding_of p ≡ o → misasked p items ≡ argued_of (option_or (option_map (finds p) o) (writing_row p)) a items w
rule_by p None a items w h e = no_rule p a items w h (ap is_some e)
rule_by p (Some find) a items w h e = refl

pub found_rule : (p : Primitive) (a : Actor) (items : List Datum) (w : Live) → (p ≡ MoveTo → ⊥) → misasked p items ≡ argued_of (object_row p) a items w
found_rule p a items w h = rule_by p (finding_of p) a items w h refl

-- the others change nothing
pub no_writing : (p : Primitive) → (p ≡ MoveTo → ⊥) → (p ≡ SetLink → ⊥) → (p ≡ SetOwn → ⊥) → (p ≡ Recycle → ⊥) → (p ≡ SetName → ⊥) → (p ≡ NewRoom → ⊥) → (p ≡ NewObject → ⊥) → (p ≡ NewExit → ⊥) → (p ≡ Set → ⊥) → (p ≡ SetLockStr → ⊥) → writing_row p ≡ None
no_writing MoveTo a b c d e f g h i j = absurd (a refl)
no_writing SetLink a b c d e f g h i j = absurd (b refl)
no_writing SetOwn a b c d e f g h i j = absurd (c refl)
no_writing Recycle a b c d e f g h i j = absurd (d refl)
no_writing SetName a b c d e f g h i j = absurd (e refl)
no_writing NewRoom a b c d e f g h i j = absurd (f refl)
no_writing NewObject a b c d e f g h i j = absurd (g refl)
no_writing NewExit a b c d e f g h i j = absurd (h refl)
no_writing Set a b c d e f g h i j = absurd (i refl)
no_writing SetLockStr a b c d e f g h i j = absurd (j refl)
no_writing _ a b c d e f g h i j = refl
