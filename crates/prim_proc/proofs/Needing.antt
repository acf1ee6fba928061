-- What CALL needs, by what stands on the top.
use Rattle.std.proofs.Common.{◌≡◌, ℕ, List, [], ◌∷◌, Some, None, refl}
use Rattle.muf_model.specs.declared.prims.Primitive.{Primitive}
use Rattle.muf_model.specs.declared.prims.Primitive.TheVariants.{Call}
use Rattle.muf_model.specs.Datum.{Datum, text}
use Rattle.muf_model.specs.Needs.{takes_items, a_text, one_there}
use Rattle.muf_model.specs.Prims.{needs_of}
use Rattle.muf_frame.specs.inner.Answers.{text_at}
use Rattle.spec_processes.specs.ProcessRows.{needs_at}

pub named_needs : (stack : List Datum) (t : List ℕ) → text_at 0 stack ≡ Some t → needs_at Call stack ≡ takes_items (a_text ∷ one_there ∷ [])
named_needs [] t e = absurd cc
named_needs (text s ∷ rest) t e = refl
named_needs (_ ∷ rest) t e = absurd cc

pub bare_needs : (stack : List Datum) → text_at 0 stack ≡ None → needs_at Call stack ≡ needs_of Call
bare_needs [] e = refl
bare_needs (text s ∷ rest) e = absurd cc
bare_needs (_ ∷ rest) e = refl

pub other_needs : (p : Primitive) (stack : List Datum) → (p ≡ Call → ⊥) → needs_at p stack ≡ needs_of p
other_needs Call stack h = absurd (h refl)
other_needs _ stack h = refl

pub ruleset needing_steps = (named_needs, bare_needs, other_needs)
