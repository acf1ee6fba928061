-- What is read of the source decides what its script is.
use Rattle.std.proofs.Common.{◌≡◌, ℕ, ◌+◌, ◌<◌, ◌≤◌, Bool, true, false, List, length, take, refl, sym, ◌∙◌, ap, subst, arith, Option, Some, None, Result, Ok, Err}
use Rattle.std.proofs.lemmas.Bool.{ltb-true, ltb-false}
use Rattle.std.proofs.lemmas.List.{take_all, drop_all, length-take}
use Rattle.std.specs.Prelude.{nat_lt}
use Rattle.muck_io.specs.Source.{HasReadAll}
use Rattle.muck_follow.proofs.Cuts.{script_long}
use Rattle.muck_follow.specs.declared.act.Act.{Act}
use Rattle.muck_follow.specs.declared.script.ScriptFault.{ScriptFault}
use Rattle.muck_follow.specs.declared.script.ScriptFault.TheVariants.{BadScript as BadLine}
use Rattle.muck_follow.specs.inner.Reading.{IsReading}
use Rattle.muck_follow.specs.Lines.{lines_of}
use Rattle.muck_follow.specs.Script.{mirror_script_of, script_most, read_part, mirror_refused_at, mirror_acts_of}
use Rattle.muck_run.specs.Outcome.{IsReadOut}
use Rattle.muck_mirroring.specs.Mirroring.{IsMirrorScriptIn, IsFirstOutsideMirror}

short : (left : List ℕ) → length left ≤ script_most → mirror_script_of (read_part left) ≡ mirror_script_of left
short left h = let all : length left ≤ script_most + 1 = omega (arith, h) in ap mirror_script_of (take_all (script_most + 1) left all)

read_twice : (left : List ℕ) → script_most < length left → read_part (read_part left) ≡ read_part left
read_twice left h =
    let n : length (read_part left) ≤ script_most + 1 = omega (arith, length-take (script_most + 1) left) in
    take_all (script_most + 1) (read_part left) n

long : (left : List ℕ) → script_most < length left → mirror_script_of (read_part left) ≡ mirror_script_of left
long left h =
    let some : script_most < length (read_part left) = omega (arith, length-take (script_most + 1) left, h) in
    script_long (read_part left) some ∙ ap (λ bytes. mirror_refused_at (length (lines_of bytes)) (mirror_acts_of bytes)) (read_twice left h) ∙ sym (script_long left h)

same_script : (left : List ℕ) → mirror_script_of (read_part left) ≡ mirror_script_of left
same_script left = decide (nat_lt script_most (length left)) refl where
  decide : (b : Bool) → nat_lt script_most (length left) ≡ b → mirror_script_of (read_part left) ≡ mirror_script_of left
  decide true e = long left (ltb-true _ _ e)
  decide false e = short left (ltb-false _ _ e)

not_ok : (n : ℕ) (r : Result (List Act) ℕ) (acts : List Act) → mirror_refused_at n r ≡ Ok acts → ⊥
not_ok n (Ok x) acts e = cc
not_ok n (Err m) acts e = cc

-- a script isn't too long
within : (bytes : List ℕ) (acts : List Act) → mirror_script_of bytes ≡ Ok acts → length bytes ≤ script_most
within bytes acts e = decide (nat_lt script_most (length bytes)) refl where
  decide : (b : Bool) → nat_lt script_most (length bytes) ≡ b → length bytes ≤ script_most
  decide true h = absurd (not_ok (length (lines_of (read_part bytes))) (mirror_acts_of (read_part bytes)) acts (sym (script_long bytes (ltb-true _ _ h)) ∙ e))
  decide false h = ltb-false _ _ h

pub script_in : (left now : Option (List ℕ)) (most : ℕ) (bytes : List ℕ) (acts : List Act) → most ≡ script_most + 1 → HasReadAll left now most bytes → mirror_script_of bytes ≡ Ok acts → IsMirrorScriptIn left acts
script_in None now most bytes acts m h e = tt
script_in (Some left) now most bytes acts m h e = sym (same_script left) ∙ ap (λ n. mirror_script_of (take n left)) (sym m) ∙ ap mirror_script_of (sym h.0) ∙ e

pub first_outside : (left now : Option (List ℕ)) (most : ℕ) (bytes : List ℕ) (line : ℕ) → most ≡ script_most + 1 → HasReadAll left now most bytes → mirror_script_of bytes ≡ Err line → IsFirstOutsideMirror left line
first_outside None now most bytes line m h e = tt
first_outside (Some left) now most bytes line m h e = sym (same_script left) ∙ ap (λ n. mirror_script_of (take n left)) (sym m) ∙ ap mirror_script_of (sym h.0) ∙ e

pub read_out : (left now : Option (List ℕ)) (most : ℕ) (bytes : List ℕ) (acts : List Act) → most ≡ script_most + 1 → HasReadAll left now most bytes → mirror_script_of bytes ≡ Ok acts → IsReadOut left now
read_out None now most bytes acts m h e = tt
read_out (Some left) now most bytes acts m h e =
    let few : length left ≤ most = omega (arith, m, within left acts (script_in (Some left) now most bytes acts m h e)) in
    h.1 ∙ ap Some (drop_all most left few)

-- what the code reads at the most
pub read_part_most : 16777217 ≡ script_most + 1
unfolding script_most
read_part_most = refl

-- the line that was refused
pub bad_line : (r : Result (List Act) ℕ) (fault : ScriptFault) (line : ℕ) → fault ≡ BadLine line → IsReading r (Err fault) → r ≡ Err line
bad_line r fault line e p = let P : ScriptFault → Type 0 = λ x. IsReading r (Err x) in subst P e p
