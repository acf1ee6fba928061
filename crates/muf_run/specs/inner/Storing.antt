-- A list or dictionary that is changed and stored back into a variable.
use Rattle.std.specs.Prelude.{◌≡◌, ℕ, ◌+◌, drop, slice_get, Some}
use Rattle.muf_model.specs.declared.code.Code.{Code}
use Rattle.muf_model.specs.declared.code.VarId.{VarId}
use Rattle.muf_model.specs.declared.code.Placed.{Placed}
use Rattle.muf_model.specs.declared.code.Instr.TheVariants.{Plain}
use Rattle.muf_model.specs.declared.code.Word.{Word}
use Rattle.muf_model.specs.declared.code.Word.TheVariants.{Primitive, Variable}
use Rattle.muf_model.specs.declared.prims.Primitive.TheVariants.{Store}
use Rattle.muf_model.specs.inner.Flat.{Flat}
use Rattle.muf_frame.specs.inner.Moves.{with_variable}
use Rattle.muf_array.specs.declared.changers.Changer.{Changer}
use Rattle.muf_array.specs.inner.Open.{prim_of, taken_by, IsOpen}

-- a word stands at a place
abbrev pub HasWord : Code → ℕ → Word → Type 0
HasWord code place w = (q : Placed) × (slice_get code.placed place ≡ Some q) × (q.instr ≡ Plain w)

-- a changer stands at a place, and the two words behind it store to a variable
pub record Stores (code : Code) (place : ℕ) (c : Changer) (v : VarId) : Type 0 where
  pub changes : HasWord code place (Primitive (prim_of c))
  pub names : HasWord code (place + 1) (Variable v)
  pub stores : HasWord code (place + 2) (Primitive Store)

-- a variable holds what a changer makes of the items that it takes, and the program goes on at a place
abbrev pub Stored : Changer → ℕ → ℕ → Flat → Flat → Type 0
Stored c v next f g =
    (h : IsOpen c f) × (g ≡ with_variable v h.made (record f { stack = drop (taken_by c) f.stack; place = next }))
