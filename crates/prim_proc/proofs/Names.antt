-- The name of an event is a text, where it isn't too long.
use Rattle.std.proofs.Common.{◌≡◌, ℕ, ◌≤◌, List, length, None, refl}
use Rattle.std.specs.Prelude.{codes}
use Rattle.muck_model.specs.Bytes.{text_fault, text_most}
use Rattle.muf_model.proofs.FaultTexts.{inside-append, from_inside}
use Rattle.spec_processes.specs.ProcessRows.{event_name}
use Rattle.prim_common.proofs.Inside.{to_inside}

pub name_is_text : (xs : List ℕ) → text_fault xs ≡ None → length (event_name xs) ≤ text_most → text_fault (event_name xs) ≡ None
name_is_text xs h le = from_inside (event_name xs) (inside-append (codes "USER.") xs refl (to_inside xs h)) le
