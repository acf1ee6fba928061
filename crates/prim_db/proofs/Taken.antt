-- What is changed, by the items at the top.
use Rattle.std.proofs.Common.{◌≡◌, ℕ, ℤ, List, [], ◌∷◌, take, Option, Some, None, refl}
use Rattle.muck_model.specs.declared.dbref.Dbref.{Dbref}
use Rattle.spec_live.specs.Lives.{Live}
use Rattle.spec_rights.specs.declared.act.Actor.{Actor}
use Rattle.muf_model.specs.declared.fault.MufFault.{MufFault}
use Rattle.muf_model.specs.declared.fault.MufFault.TheVariants.{BadType}
use Rattle.muf_model.specs.Datum.{Datum, text, object}
use Rattle.muf_frame.specs.inner.Answers.{object_at, text_at}
use Rattle.spec_prims.specs.Asking.{object_numbered}
use Rattle.spec_prims.specs.Row.{WorldAnswer, refuses}
use Rattle.spec_prims.specs.ObjectWrites.{misplaced, one_done, place_missing, text_done, two_done}

abbrev one_taken : (Actor → Dbref → Live → WorldAnswer) → Actor → Live → Option ℤ → WorldAnswer
one_taken does a w (Some x) = does a (object_numbered x) w
one_taken does a w None = refuses BadType

pub one_takes : (does : Actor → Dbref → Live → WorldAnswer) (a : Actor) (stack : List Datum) (w : Live) → one_done does a (take 1 stack) w ≡ one_taken does a w (object_at 0 stack)
one_takes does a (object x ∷ rest) w = refl
one_takes does a _ w = refl

pub ruleset one_steps = (one_takes)

abbrev two_taken : (Actor → Dbref → Dbref → Live → WorldAnswer) → Actor → Live → Option ℤ → Option ℤ → WorldAnswer
two_taken does a w (Some to) (Some x) = does a (object_numbered x) (object_numbered to) w
two_taken does a w _ _ = refuses BadType

pub two_take : (does : Actor → Dbref → Dbref → Live → WorldAnswer) (a : Actor) (stack : List Datum) (w : Live) → two_done does a (take 2 stack) w ≡ two_taken does a w (object_at 0 stack) (object_at 1 stack)
two_take does a (object to ∷ object x ∷ rest) w = refl
two_take does a _ w = refl

pub ruleset two_steps = (two_take)

abbrev text_taken : (Actor → Dbref → List ℕ → Live → WorldAnswer) → Actor → Live → Option (List ℕ) → Option ℤ → WorldAnswer
text_taken does a w (Some t) (Some x) = does a (object_numbered x) t w
text_taken does a w _ _ = refuses BadType

pub text_takes : (does : Actor → Dbref → List ℕ → Live → WorldAnswer) (a : Actor) (stack : List Datum) (w : Live) → text_done does a (take 2 stack) w ≡ text_taken does a w (text_at 0 stack) (object_at 1 stack)
text_takes does a (text t ∷ object x ∷ rest) w = refl
text_takes does a _ w = refl

pub ruleset text_steps = (text_takes)

abbrev place_taken : Live → Option ℤ → Option MufFault
place_taken w (Some to) = misplaced (object_numbered to) w
place_taken w None = None

pub place_takes : (a : Actor) (stack : List Datum) (w : Live) → place_missing a (take 2 stack) w ≡ place_taken w (object_at 0 stack)
place_takes a (object to ∷ rest) w = refl
place_takes a _ w = refl

pub ruleset place_steps = (place_takes)
