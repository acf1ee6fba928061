-- Which codes fit a frame, and which source state it stands for with them.
use Rattle.std.specs.Prelude.{ℕ, List, [], ◌∷◌, ◌++◌, length}
use Rattle.muf_model.specs.declared.code.Closer.{Closer}
use Rattle.muf_model.specs.declared.code.Code.{Code}
use Rattle.muf_model.specs.Datum.{Datum}
use Rattle.muf_model.specs.Tree.{Block, BlockEnd, closes}
use Rattle.muf_model.specs.inner.Stands.{Remains, TreeStands}
use Rattle.muf_model.specs.Source.{Turns, Program, Mark, looping, trying, calling, entering, Owned, Source}
use Rattle.muf_model.specs.inner.Nested.{Nested}
use Rattle.muf_model.specs.inner.Flat.{FlatMark, loop, guard, back, leave, Flat, decode}

-- The marks of the source and of a frame, with one code for each program on the call stack, the running one first,
-- and the variables of the calls below the innermost one.
pub data MarksFit : List Code → List Mark → List FlatMark → List Datum → Type 0 where
  none : {code : Code} → MarksFit (code ∷ []) [] [] []
  loops : {code : Code} {codes : List Code} {t : Turns} {round next : Block} {c : Closer} {last : ℕ} {end : BlockEnd} {again after : ℕ} {ms : List Mark} {ns : List FlatMark} {below : List Datum} → Remains code.placed again round (closes c last) → Remains code.placed after next end → MarksFit (code ∷ codes) ms ns below → MarksFit (code ∷ codes) (looping t round c last next end ∷ ms) (loop t again after ∷ ns) below
  tries : {code : Code} {codes : List Code} {next : Block} {end : BlockEnd} {locked place : ℕ} {ms : List Mark} {ns : List FlatMark} {below : List Datum} → Remains code.placed place next end → MarksFit (code ∷ codes) ms ns below → MarksFit (code ∷ codes) (trying locked next end ∷ ms) (guard locked place ∷ ns) below
  calls : {code : Code} {codes : List Code} {next : Block} {end : BlockEnd} {place : ℕ} {saved : List Datum} {ms : List Mark} {ns : List FlatMark} {below : List Datum} → Remains code.placed place next end → MarksFit (code ∷ codes) ms ns below → MarksFit (code ∷ codes) (calling saved next end ∷ ms) (back (length below) place ∷ ns) (below ++ saved)
  enters : {code caller : Code} {codes : List Code} {program : Program} {next : Block} {end : BlockEnd} {place : ℕ} {saved : List Datum} {ms : List Mark} {ns : List FlatMark} {below : List Datum} → TreeStands caller program.tree → Remains caller.placed place next end → MarksFit (caller ∷ codes) ms ns below → MarksFit (code ∷ caller ∷ codes) (entering program saved next end ∷ ms) (leave program.number (length below) place ∷ ns) (below ++ saved)

-- with these codes the frame stands for this source state
pub data FitsState : List Code → Flat → Source → Type 0 where
  fit : {code : Code} {codes : List Code} {stack common vars below : List Datum} {owned : List Owned} {place : ℕ} {program : Program} {now : Block} {end : BlockEnd} {ms : List Mark} {ns : List FlatMark} → TreeStands code program.tree → Remains code.placed place now end → MarksFit (code ∷ codes) ms ns below → FitsState (code ∷ codes) (record { stack = stack; common = common; owned = owned; variables = below ++ vars; base = length below; program = program.number; place = place; marks = ns }) (record { stack = stack; common = common; owned = owned; variables = vars; program = program; now = now; end = end; marks = ms })

-- the codes fit the frame: it stands for what is read off it, with the marks that the nesting there asks for
pub record Fits (codes : List Code) (f : Flat) : Type 0 where
  pub state : FitsState codes f (decode codes f)
  pub nested : Nested (decode codes f)
