-- What each act adds to the instructions.
use Rattle.std.specs.Prelude.{ℕ, zero, suc, ◌+◌, Bool, true, false, if◌then◌else◌, List, [], ◌∷◌, ◌++◌, length, slice_set, Result, Ok}
use Rattle.muf_model.specs.declared.code.Offer.{Offer}
use Rattle.muf_model.specs.declared.code.Offer.TheVariants.{Nobody}
use Rattle.muf_model.specs.declared.code.Word.TheVariants.{NextIndex, NextPair}
use Rattle.muf_model.specs.declared.code.Closer.{Closer}
use Rattle.muf_model.specs.declared.code.Closer.TheVariants as closer
use Rattle.muf_model.specs.declared.code.Instr.{Instr}
use Rattle.muf_model.specs.declared.code.Instr.TheVariants as instr
use Rattle.muf_model.specs.declared.code.Placed.{Placed}
use Rattle.muf_model.specs.declared.code.CodeWord.{CodeWord}
use Rattle.muf_compile.specs.declared.act.Opening.{Opening}
use Rattle.muf_compile.specs.declared.act.Opening.TheVariants as opening
use Rattle.muf_compile.specs.declared.act.Act.{Act}
use Rattle.muf_compile.specs.declared.act.Act.TheVariants.{Wait, Title, Item, Jump, Open, Else, Then, Catch, EndCatch, Repeat, Until, End, Offer as offer_act}
use Rattle.muf_compile.specs.declared.hole.Hole.{Hole}
use Rattle.muf_compile.specs.declared.hole.Pending.{Pending}
use Rattle.muf_compile.specs.declared.hole.Pending.TheVariants as pending
use Rattle.muf_compile.specs.declared.fault.CompileKind.{CompileKind}
use Rattle.muf_compile.specs.declared.fault.CompileKind.TheVariants.{UnclosedIf, StrayElse, UnclosedLoop, StrayBreak, UnclosedTry}
use Rattle.muf_compile.specs.declared.fault.Refusal.{Refusal}
use Rattle.muf_compile.specs.Faults.{refuse}
use Rattle.muf_compile.specs.inner.Built.{Built}
use Rattle.muf_compile.specs.Growth.{widened}

-- the code after an act, or why it is refused
abbrev pub Made : Type 0
Made = Result Built Refusal

-- one instruction more
abbrev pub emitted : List Placed → ℕ → Instr → List Placed
emitted code line i = code ++ record { line = line; instr = i } ∷ []

-- the instruction of a hole is written
abbrev pub patched : List Placed → Hole → Instr → List Placed
patched code hole i = slice_set code hole.at (record { line = hole.line; instr = i })

-- this code, with this open
abbrev pub with_code : Built → List Placed → List Pending → Built
with_code b code os = record b { code = code; pending = os }

-- whether this is a loop, or is open in one
abbrev pub is_looping : Pending → Bool
is_looping (pending.If hole) = hole.looping
is_looping (pending.Else hole) = hole.looping
is_looping (pending.Try hole) = hole.looping
is_looping (pending.Catch hole) = hole.looping
is_looping _ = true

abbrev pub in_loop : List Pending → Bool
in_loop [] = false
in_loop (o ∷ os) = is_looping o

-- why what is open can't stay so
abbrev pub unclosed : Pending → CompileKind
unclosed (pending.If hole) = UnclosedIf
unclosed (pending.Else hole) = UnclosedIf
unclosed (pending.Try hole) = UnclosedTry
unclosed (pending.Catch hole) = UnclosedTry
unclosed (pending.Begin hole) = UnclosedLoop
unclosed (pending.For hole) = UnclosedLoop
unclosed (pending.Each hole) = UnclosedLoop

abbrev pub misfit : CompileKind → List Pending → CompileKind
misfit stray [] = stray
misfit stray (o ∷ os) = unclosed o

-- what a word opens with its instruction at a hole
abbrev pub opened : Opening → Hole → Pending
opened opening.If = pending.If
opened opening.Try = pending.Try
opened opening.Begin = pending.Begin
opened opening.For = pending.For
opened opening.Each = pending.Each

-- the instruction that a loop begins with
abbrev pub beginning : Opening → List Placed → ℕ → List Placed
beginning opening.For code line = emitted code line (instr.Plain NextIndex)
beginning opening.Each code line = emitted code line (instr.Plain NextPair)
beginning _ code line = code

-- a hole at the end of the code
abbrev pub hole_at : List Placed → ℕ → Bool → Hole
hole_at code line looping = record { at = length code; line = line; looping = looping }

abbrev pub open_code : ℕ → Opening → Built → Built
open_code line o b =
    with_code b (beginning o (emitted b.code line instr.Unset) line) (opened o (hole_at b.code line (in_loop b.pending)) ∷ b.pending)

abbrev pub else_code : ℕ → Built → List Pending → Made
else_code line b (pending.If hole ∷ os) =
    Ok (with_code b (patched (emitted b.code line instr.Unset) hole (instr.IfElse (length b.code + 1))) (pending.Else (hole_at b.code line hole.looping) ∷ os))
else_code line b (pending.Else hole ∷ os) = refuse line StrayElse
else_code line b os = refuse line (misfit StrayElse os)

abbrev pub catch_code : ℕ → Built → List Pending → Made
catch_code line b (pending.Try hole ∷ os) =
    Ok (with_code b (patched (emitted b.code line instr.Unset) hole (instr.Try (length b.code + 1))) (pending.Catch (hole_at b.code line hole.looping) ∷ os))
catch_code line b os = refuse line (misfit UnclosedTry os)

abbrev pub then_code : ℕ → Built → List Pending → Made
then_code line b (pending.If hole ∷ os) = Ok (with_code b (patched b.code hole (instr.When (length b.code))) os)
then_code line b (pending.Else hole ∷ os) = Ok (with_code b (patched b.code hole (instr.Else (length b.code))) os)
then_code line b os = refuse line (misfit StrayElse os)

abbrev pub end_catch_code : ℕ → Built → List Pending → Made
end_catch_code line b (pending.Catch hole ∷ os) = Ok (with_code b (patched b.code hole (instr.Catch (length b.code))) os)
end_catch_code line b os = refuse line (misfit UnclosedTry os)

-- the code with a closer at its end, and the instruction of the loop that it closes
abbrev pub closed : ℕ → Closer → Built → Hole → (ℕ → Instr) → List Pending → Built
closed line c b hole i os = with_code b (patched (emitted b.code line (instr.Close c)) hole (i (length b.code + 1))) os

abbrev pub repeat_code : ℕ → Built → List Pending → Made
repeat_code line b (pending.Begin hole ∷ os) = Ok (closed line closer.Repeat b hole instr.Begin os)
repeat_code line b (pending.For hole ∷ os) = Ok (closed line closer.Repeat b hole instr.For os)
repeat_code line b (pending.Each hole ∷ os) = Ok (closed line closer.Repeat b hole instr.Each os)
repeat_code line b os = refuse line (misfit StrayBreak os)

abbrev pub until_code : ℕ → Built → List Pending → Made
until_code line b (pending.Begin hole ∷ os) = Ok (closed line closer.Until b hole instr.Begin os)
until_code line b os = refuse line (misfit StrayBreak os)

abbrev pub end_code : ℕ → ℕ → Built → List Pending → Made
end_code line n b [] =
    Ok (record {
      code = emitted b.code line (instr.Close closer.Semicolon);
      words = b.words ++ record { name = b.title; offer = Nobody; variables = n; start = b.start } ∷ [];
      title = b.title;
      start = length b.code + 1;
      pending = [];
    })
end_code line n b (o ∷ os) = refuse line (unclosed o)

-- the word of this number is offered
abbrev pub offered_in : ℕ → Offer → List CodeWord → List CodeWord
offered_in n o [] = []
offered_in zero o (w ∷ ws) = record w { offer = widened w.offer o } ∷ ws
offered_in (suc n) o (w ∷ ws) = w ∷ offered_in n o ws

abbrev pub build : ℕ → Act → Built → Made
build line Wait b = Ok b
build line (Title name) b = Ok (record b { title = name })
build line (Item w) b = Ok (with_code b (emitted b.code line (instr.Plain w)) b.pending)
build line (Jump w) b = if in_loop b.pending then Ok (with_code b (emitted b.code line (instr.Plain w)) b.pending) else refuse line StrayBreak
build line (Open o) b = Ok (open_code line o b)
build line Else b = else_code line b b.pending
build line Then b = then_code line b b.pending
build line Catch b = catch_code line b b.pending
build line EndCatch b = end_catch_code line b b.pending
build line Repeat b = repeat_code line b b.pending
build line Until b = until_code line b b.pending
build line (End n) b = end_code line n b b.pending
build line (offer_act n o) b = Ok (record b { words = offered_in n o b.words })
